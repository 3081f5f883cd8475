use Rattle.std.proofs.Common.{ap, sym, ◌∙◌, Some, option_map}
use Rattle.std.specs.Prelude.{None, if◌then◌else◌}
use Rattle.std.proofs.lemmas.Bool.{both_ways}
use Rattle.rule_values.specs.Rank.{rank_view}
use Rattle.authority_table.proofs.Ranked.{before_true, before_false}
use Rattle.authority_table.proofs.FirstRanks.{joined_is}
use Rattle.authority_table.proofs.touched.sooner.Goals as goal

pub returns-in-None : goal.returns-in-None
returns-in-None c = λ test rows row passes rank h.
    joined_is test rows row (rank_view c.args.rank.now) None passes rank (ap (option_map rank_view) (sym c.in-None.is) ∙ h)

pub returns-then-before : goal.returns-then-before
returns-then-before c = λ test rows row passes rank h.
    ap (λ b. Some (if b then rank_view c.args.rank.now else rank_view c.in-Some.best)) (sym (before_true (rank_view c.args.rank.now) (rank_view c.in-Some.best) (c.before-in-Some.ensures.0 c.if-before.true)))
    ∙ joined_is test rows row (rank_view c.args.rank.now) (Some (rank_view c.in-Some.best)) passes rank (ap (option_map rank_view) (sym c.in-Some.is) ∙ h)

pub returns-else-before : goal.returns-else-before
returns-else-before c = λ test rows row passes rank h.
    ap (λ b. Some (if b then rank_view c.args.rank.now else rank_view c.in-Some.best))
    (sym (before_false (rank_view c.args.rank.now) (rank_view c.in-Some.best) (λ before. both_ways c.before-in-Some.result c.if-before.false (c.before-in-Some.ensures.1 before))))
    ∙ joined_is test rows row (rank_view c.args.rank.now) (Some (rank_view c.in-Some.best)) passes rank (ap (option_map rank_view) (sym c.in-Some.is) ∙ h)
