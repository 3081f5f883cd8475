-- Reserved words by their length.
use Rattle.std.proofs.Common.{◌≡◌, ℕ, ◌≤◌, Bool, true, false, not, ◌&&◌, ◌||◌, ◌==◌, nat_le, if◌then◌else◌, List, [], ◌∷◌, length, Some, is_some, refl, sym, ap, subst, ◌∙◌, true≢false, arith}
use Rattle.std.proofs.lemmas.Bool.{leb-true}
use Rattle.std.proofs.lemmas.Bool.Decides.{nat_tests}
use Rattle.std.proofs.lemmas.Slice.Eq.{bytes_eq-Decides}
use Rattle.std.specs.Str.{bytes_eq}
use Rattle.req_grammar.specs.Words.{Word, reserved, under}
use Rattle.dumped_text.specs.Dumped.{is_free}
use Rattle.req_dumper.specs.ReservedWords.{is_one_of}

-- the words of a length
abbrev pub of_length : ℕ → List (List ℕ × Word) → List (List ℕ)
of_length n [] = []
of_length n (entry ∷ rest) = if length entry.0 == n then entry.0 ∷ of_length n rest else of_length n rest

one_of : (bytes word : List ℕ) (words : List (List ℕ)) → is_one_of bytes (word ∷ words) ≡ (bytes_eq word bytes || is_one_of bytes words)
one_of bytes word [] = by (bytes_eq word bytes)
  where
    by : (b : Bool) → b ≡ (b || false)
    by true = refl
    by false = refl
one_of bytes word (other ∷ words) = refl

-- what stands under bytes stands under a word of their length
under_of_length : (bytes : List ℕ) (table : List (List ℕ × Word)) → is_some (under bytes table) ≡ is_one_of bytes (of_length (length bytes) table)
under_of_length bytes [] = refl
under_of_length bytes (entry ∷ rest) = by (length entry.0 == length bytes) refl (bytes_eq entry.0 bytes) refl (under_of_length bytes rest)
  where
    by : (q : Bool) → (length entry.0 == length bytes) ≡ q → (b : Bool) → bytes_eq entry.0 bytes ≡ b
        → is_some (under bytes rest) ≡ is_one_of bytes (of_length (length bytes) rest)
        → is_some (if b then Some entry.1 else under bytes rest) ≡ is_one_of bytes (if q then entry.0 ∷ of_length (length bytes) rest else of_length (length bytes) rest)
    by true e true same later = sym (one_of bytes entry.0 _ ∙ ap (λ (x : Bool). x || is_one_of bytes (of_length (length bytes) rest)) same)
    by true e false same later = later ∙ sym (one_of bytes entry.0 _ ∙ ap (λ (x : Bool). x || is_one_of bytes (of_length (length bytes) rest)) same)
    by false e true same later =
        let equal : entry.0 ≡ bytes = (bytes_eq-Decides entry.0 bytes).0 same in
        let long : length entry.0 ≡ length bytes = ap length equal in
        let is : (length entry.0 == length bytes) ≡ true = grind (arith, nat_tests, long) in
        absurd (true≢false (sym is ∙ e))
    by false e false same later = later

pub free_of_length : (bytes : List ℕ) (n : ℕ) → length bytes ≡ n → is_free bytes ≡ not (is_one_of bytes (of_length n reserved))
unfolding is_free
free_of_length bytes n e = ap not (under_of_length bytes reserved ∙ ap (λ (m : ℕ). is_one_of bytes (of_length m reserved)) e)

abbrev Each : (List ℕ → Type 0) → List (List ℕ × Word) → Type 0
Each P [] = Unit {0}
Each P (entry ∷ rest) = P entry.0 × Each P rest

under_each : (P : List ℕ → Type 0) (table : List (List ℕ × Word)) (bytes : List ℕ) → Each P table → is_some (under bytes table) ≡ true → P bytes
under_each P [] bytes all e = absurd (true≢false (sym e))
under_each P (entry ∷ rest) bytes all e = by (under_each P rest bytes all.1) (bytes_eq entry.0 bytes) refl e
  where
    by : (is_some (under bytes rest) ≡ true → P bytes) → (b : Bool) → bytes_eq entry.0 bytes ≡ b → is_some (if b then Some entry.1 else under bytes rest) ≡ true → P bytes
    by later true found h = subst P ((bytes_eq-Decides entry.0 bytes).0 found) all.0
    by later false found h = later h

abbrev has_length : List ℕ → Bool
has_length word = nat_le 2 (length word) && nat_le (length word) 11

both_hold : (a b : Bool) → (a && b) ≡ true → (a ≡ true) × (b ≡ true)
both_hold true b e = (refl, e)
both_hold false b e = absurd (true≢false (sym e))

-- each reserved word has 2 to 11 bytes
lengths : (bytes : List ℕ) → is_some (under bytes reserved) ≡ true → (2 ≤ length bytes) × (length bytes ≤ 11)
lengths bytes e =
    let parts = both_hold _ _ (under_each (λ (word : List ℕ). has_length word ≡ true) reserved bytes (refl, (refl, (refl, (refl, (refl, (refl, (refl, (refl, (refl, (refl, (refl, (refl, (refl, (refl, (refl, (refl, (refl, (refl, (refl, (refl, (refl, (refl, (refl, (refl, (refl, (refl, (refl, (refl, tt)))))))))))))))))))))))))))) e) in
    (leb-true _ _ parts.0, leb-true _ _ parts.1)

not_so : (b : Bool) → (b ≡ true → ⊥) → b ≡ false
not_so true h = absurd (h refl)
not_so false h = refl

-- bytes of any other length are none
pub free_by_length : (bytes : List ℕ) → ((2 ≤ length bytes) × (length bytes ≤ 11) → ⊥) → is_free bytes ≡ true
unfolding is_free
free_by_length bytes h = ap not (not_so (is_some (under bytes reserved)) (λ e. h (lengths bytes e)))
