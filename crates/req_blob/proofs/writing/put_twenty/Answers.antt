use Rattle.std.proofs.Common.{◌≡◌, ℕ, List, ◌++◌, length, sym, ap, ◌∙◌}
use Rattle.std.proofs.lemmas.List.{append_assoc}
use Rattle.cs_blob.specs.Numbers.{word}
use Rattle.req_blob.specs.Words.{datum}
use Rattle.req_blob.proofs.Lengths.{datum_of_20}
use Rattle.req_blob.proofs.writing.put_twenty.Goals as goal

pushed : (old half new bytes : List ℕ) → new ≡ half ++ bytes → half ≡ old ++ word 20 → length bytes ≡ 20 → new ≡ old ++ datum bytes
pushed old half new bytes p q is = p ∙ ap (λ (t : List ℕ). t ++ bytes) q ∙ append_assoc old (word 20) bytes ∙ ap (λ (t : List ℕ). old ++ t) (sym (datum_of_20 bytes is))

pub returns : goal.returns
returns c = pushed _ _ _ _ c.in_ok-extend_from_slice.ensures.items c.in_ok-put_word.ensures c.requires
