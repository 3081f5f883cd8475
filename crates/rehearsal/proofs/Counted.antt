-- The pieces between LFs and the lines of a text are counted alike, where the empty line counts for nothing.
use Rattle.std.proofs.Common.{◌≡◌, ◌⊎◌, inl, inr, ℕ, ◌+◌, Bool, true, false, ◌==◌, List, [], ◌∷◌, ◌++◌, arith, refl, ◌∙◌, ap, count_by, if◌then◌else◌, Option, None, subst}
use Rattle.std.specs.List.{onto_first}
use Rattle.std.proofs.lemmas.List.Sums.{sum_by-append}
use Rattle.line_reader.specs.Lines as lines
use Rattle.line_reader.specs.Lines.{lines_of}
use Rattle.rehearsal.specs.Pieces.{pieces, pieces_left}
use Rattle.std.specs.Option.{option_copied}
use denote.Bor.{Bor}

-- the pieces are the lines, or these and an empty one
abbrev SameLines : List (List ℕ) → List (List ℕ) → Type 0
SameLines cut whole = (cut ≡ whole) ⊎ (cut ≡ whole ++ [] ∷ [])

same_onto : (byte : ℕ) (cut whole : List (List ℕ)) → SameLines cut whole → SameLines (onto_first byte cut) (lines.onto_first byte whole)
same_onto byte cut [] same = elim same [ inl h ↦ inl (ap (onto_first byte) h) | inr h ↦ inl (ap (onto_first byte) h) ]
same_onto byte cut (line ∷ more) same = elim same [ inl h ↦ inl (ap (onto_first byte) h) | inr h ↦ inr (ap (onto_first byte) h) ]

same_by : (byte : ℕ) (cut whole : List (List ℕ)) (ended : Bool) → SameLines cut whole
    → SameLines (if ended then [] ∷ cut else onto_first byte cut) (if ended then [] ∷ whole else lines.onto_first byte whole)
same_by byte cut whole true same = elim same [ inl h ↦ inl (ap (λ (l : List (List ℕ)). [] ∷ l) h) | inr h ↦ inr (ap (λ (l : List (List ℕ)). [] ∷ l) h) ]
same_by byte cut whole false same = same_onto byte cut whole same

pieces_are_lines : (bytes : List ℕ) → SameLines (pieces 10 bytes) (lines_of bytes)
pieces_are_lines [] = inr refl
pieces_are_lines (byte ∷ bytes) = same_by byte (pieces 10 bytes) (lines_of bytes) (byte == 10) (pieces_are_lines bytes)

-- one more line that doesn't count
count_onto : (p : List ℕ → Bool) (line : List ℕ) (more : List (List ℕ)) → p line ≡ false → count_by p (more ++ line ∷ []) ≡ count_by p more
count_onto p line more fails =
    let one : count_by p (line ∷ []) ≡ 0 = ap (λ (b : Bool). 0 + (if b then 1 else 0)) fails in
    let parts : count_by p (more ++ line ∷ []) ≡ count_by p more + count_by p (line ∷ []) = sum_by-append (λ x. if p x then 1 else 0) more (line ∷ []) in
    omega (arith, one, parts)

pub count_lines : (p : List ℕ → Bool) (bytes : List ℕ) → p [] ≡ false → count_by p (pieces 10 bytes) ≡ count_by p (lines_of bytes)
count_lines p bytes fails = elim (pieces_are_lines bytes) [
  | inl h ↦ ap (count_by p) h
  | inr h ↦ ap (count_by p) h ∙ count_onto p [] (lines_of bytes) fails
]

-- where no piece is left, the count is that of the lines
pub counted_all : (p : List ℕ → Bool) (left : Option (Bor (List ℕ))) (count : ℕ) (bytes : List ℕ) → left ≡ None → count + count_by p (pieces_left 10 (option_copied left)) ≡ count_by p (pieces 10 bytes) → p [] ≡ false
    → count ≡ count_by p (lines_of bytes)
counted_all p left count bytes none counted fails =
    let now : count + 0 ≡ count_by p (pieces 10 bytes) = subst (λ (l : Option (Bor (List ℕ))). count + count_by p (pieces_left 10 (option_copied l)) ≡ count_by p (pieces 10 bytes)) none counted in
    let lines_are : count_by p (pieces 10 bytes) ≡ count_by p (lines_of bytes) = count_lines p bytes fails in
    omega (arith, now, lines_are)
