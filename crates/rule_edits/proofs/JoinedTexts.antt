-- A text that is two texts, one behind the other.
use Rattle.std.proofs.Common.{◌≡◌, ℕ, List, ◌++◌, length, take, drop, sym, ap, ◌∙◌}
use Rattle.std.proofs.lemmas.List.{take-append-drop}
use Rattle.std.proofs.Math.Seq.{take-append_seam, drop-append_seam}

pub joined_when : (front rest first second text : List ℕ) → first ≡ take (length front) text → second ≡ drop (length front) text → first ≡ front → second ≡ rest → front ++ rest ≡ text
joined_when front rest first second text a b e d = ap (λ x. x ++ rest) (sym e) ∙ ap (λ x. first ++ x) (sym d) ∙ ap (λ x. x ++ second) a ∙ ap (λ x. take (length front) text ++ x) b ∙ take-append-drop (length front) text

pub joined_front : (front rest first second text : List ℕ) → first ≡ take (length front) text → front ++ rest ≡ text → first ≡ front
joined_front front rest first second text a e = a ∙ ap (take (length front)) (sym e) ∙ take-append_seam front rest

pub joined_rest : (front rest first second text : List ℕ) → second ≡ drop (length front) text → front ++ rest ≡ text → second ≡ rest
joined_rest front rest first second text b e = b ∙ ap (drop (length front)) (sym e) ∙ drop-append_seam front rest
