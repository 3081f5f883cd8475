use Rattle.std.proofs.Common.{◌≡◌, drop}
use Rattle.std.specs.List.{list_any}
use Rattle.std.specs.Str.{bytes_eq}
use Rattle.req_eval.proofs.matching.is_member.Given as goal

abbrev pub invariant-loop-text : goal.invariant-loop-text
invariant-loop-text l = list_any (λ bytes. bytes_eq bytes l.datum) (drop l.text-index l.texts) ≡ list_any (λ bytes. bytes_eq bytes l.datum) l.texts
