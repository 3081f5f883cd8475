use Rattle.std.proofs.Common.{ap, sym, ◌∙◌, option_map}
use Rattle.policy_model.specs.Rules.{rank_of}
use Rattle.authority_table.proofs.FirstRanks.{first_passed}
use Rattle.authority_table.proofs.touched.first_of.Goals as goal

pub returns-else-counts : goal.returns-else-counts
returns-else-counts c = λ test rows row counts rank h. h ∙ ap (option_map rank_of) (sym (first_passed test rows row (counts ∙ c.if-counts.false)))
