use Rattle.std.proofs.Common.{rules}
use Rattle.rule_edits.specs.Edit.{content_of}
use Rattle.rule_edits.proofs.Fronts.{two_parts}
use Rattle.rule_edits.proofs.text.content_text.Goals as goal

pub returns : goal.returns
returns c = let parts = two_parts (content_of c.args.content.now) in search (rules, parts)
