use Rattle.std.proofs.Common.{ap, sym, ◌∙◌, drop, List, ℕ}
use Rattle.std.specs.Prelude.{nat_eq}
use Rattle.std.specs.List.{starts_with}
use Rattle.req_tree.specs.Meaning.{has_part}
use Rattle.req_eval.proofs.Listed.{part_here, part_further}
use Rattle.req_eval.proofs.matching.has_part.Goals as goal

pub returns-then-starts_with : goal.returns-then-starts_with
returns-then-starts_with c =
    sym (part_here (drop c.loop-at.at c.args.text.now) c.args.part.now
    (ap (λ (l : List ℕ). starts_with nat_eq l c.args.part.now) (sym c.split_at.ensures.back) ∙ sym c.starts_with.ensures.value ∙ c.if-starts_with.true)) ∙ c.loop-at.invariant

pub loop-at-preserved : goal.loop-at-preserved
loop-at-preserved c =
    part_further c.args.text.now c.args.part.now c.loop-at.at (has_part c.args.text.now c.args.part.now) c.loop-at-test.true
    (ap (λ (l : List ℕ). starts_with nat_eq l c.args.part.now) (sym c.split_at.ensures.back) ∙ sym c.starts_with.ensures.value ∙ c.if-starts_with.false) c.loop-at.invariant
