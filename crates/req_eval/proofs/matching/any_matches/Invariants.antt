use Rattle.std.proofs.Common.{◌≡◌, drop}
use Rattle.std.specs.List.{list_any}
use Rattle.req_tree.specs.Meaning.{text_match}
use Rattle.req_eval.proofs.matching.any_matches.Given as goal

abbrev pub invariant-loop-text : goal.invariant-loop-text
invariant-loop-text l = list_any (λ bytes. text_match bytes l.test) (drop l.text-index l.texts) ≡ list_any (λ bytes. text_match bytes l.test) l.texts
