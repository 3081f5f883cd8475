-- How long the parts of an expression are.
use Rattle.std.proofs.Common.{◌≡◌, ℕ, ◌+◌, ◌%◌, ◌^◌, ◌<◌, ◌≤◌, List, [], ◌∷◌, ◌++◌, length, take, refl, sym, ap, ◌∙◌, arith, length-append}
use Rattle.std.proofs.lemmas.List.{length-replicate, append-nil}
use Rattle.cs_blob.specs.Numbers.{word}
use Rattle.req_blob.specs.Words.{datum, unpadded, padding, zeros}
use Rattle.req_blob.proofs.Fields.{length-word}

pub length-datum : (bytes : List ℕ) → length (datum bytes) ≡ 4 + (length bytes + padding (length bytes))
unfolding datum
length-datum bytes =
    omega (arith, length-append (word (length bytes)) (bytes ++ zeros (padding (length bytes))), length-append bytes (zeros (padding (length bytes))), length-word (length bytes), length-replicate {A = ℕ} (padding (length bytes)) 0)

pub length-unpadded : (bytes : List ℕ) → length (unpadded bytes) ≡ 4 + length bytes
unfolding unpadded
length-unpadded bytes = omega (arith, length-append (word (length bytes)) bytes, length-word (length bytes))

pub ruleset lengths = (arith, length-append, length-word, length-datum, length-unpadded)

-- a word has the low 32 bits of a number
pub word-low : (n : ℕ) → word (n % 2 ^ 32) ≡ word n
unfolding word
word-low n = byte_by_byte _ _ _ _ _ _ _ _ (omega arith) (omega arith) (omega arith) (omega arith)
  where
    byte_by_byte : (a b c d e f g h : ℕ) → a ≡ e → b ≡ f → c ≡ g → d ≡ h → (a ∷ b ∷ c ∷ d ∷ []) ≡ (e ∷ f ∷ g ∷ h ∷ [])
    byte_by_byte a b c d e f g h p q r s = cc

-- 20 bytes are whole words
pub datum_of_20 : (bytes : List ℕ) → length bytes ≡ 20 → datum bytes ≡ word 20 ++ bytes
unfolding datum
datum_of_20 bytes is = ap (λ (n : ℕ). word n ++ (bytes ++ zeros (padding n))) is ∙ ap (λ (t : List ℕ). word 20 ++ t) (append-nil bytes)
