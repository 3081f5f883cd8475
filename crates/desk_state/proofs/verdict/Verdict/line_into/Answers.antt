use Rattle.std.proofs.Common.{sym}
use Rattle.std.specs.Prelude.{option_map}
use Rattle.object_model.specs.Origins.{fate_of}
use Rattle.object_cache.specs.Offered.{offered_of}
use Rattle.desk_state.proofs.verdict.Verdict.line_into.Goals as goal

pub returns-clause-text : goal.returns-clause-text
returns-clause-text c = c.line_with.ensures.text (fate_of (option_map offered_of c.args.offered)) (sym c.fate_word.ensures.word)
