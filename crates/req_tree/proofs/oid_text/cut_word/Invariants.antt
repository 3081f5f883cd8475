use Rattle.std.proofs.Common.{◌≡◌, ◌==◌, false, All, take}
use Rattle.req_tree.proofs.oid_text.cut_word.Given as goal

abbrev pub invariant-loop-at : goal.invariant-loop-at
invariant-loop-at l = All (λ b. (b == 46) ≡ false) (take l.at l.text)
