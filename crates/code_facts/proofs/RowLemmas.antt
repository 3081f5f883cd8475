-- A record of six fields, field by field.
use Rattle.std.proofs.Common.{◌≡◌, ℕ, List, [], ◌∷◌, length, Option, None, Bool, true, false, ◌&&◌, codes, bytes_eq, refl, arith}
use Rattle.csv.specs.Records.{field_at}
use Rattle.req_tree.specs.HashWord.{hash_word}
use Rattle.code_facts.specs.Rows.{Row, row_of, row_words, scope_word}
use Rattle.code_facts.specs.FactsFile.{same_fields, header}
use Rattle.code_facts.proofs.Bits.{and_right}
use Rattle.code_facts.specs.RowCode.{field_or_none}

pub six_fields : (fs : List (List ℕ)) → length fs ≡ 6
    → row_words (hash_word (field_or_none (field_at fs 0))) (scope_word (field_or_none (field_at fs 1))) (field_or_none (field_at fs 2)) (field_or_none (field_at fs 3)) (field_or_none (field_at fs 4)) (field_or_none (field_at fs 5)) ≡ row_of fs
unfolding field_at
six_fields [] h = absurd (omega arith)
six_fields (a ∷ []) h = absurd (omega arith)
six_fields (a ∷ b ∷ []) h = absurd (omega arith)
six_fields (a ∷ b ∷ c ∷ []) h = absurd (omega arith)
six_fields (a ∷ b ∷ c ∷ d ∷ []) h = absurd (omega arith)
six_fields (a ∷ b ∷ c ∷ d ∷ e ∷ []) h = absurd (omega arith)
six_fields (a ∷ b ∷ c ∷ d ∷ e ∷ f ∷ []) h = refl
six_fields (a ∷ b ∷ c ∷ d ∷ e ∷ f ∷ g ∷ rest) h = absurd (omega arith)

-- the same of six texts that are those fields
pub six_read : (fs : List (List ℕ)) (h s l k d v : List ℕ) → length fs ≡ 6
    → h ≡ field_or_none (field_at fs 0) → s ≡ field_or_none (field_at fs 1) → l ≡ field_or_none (field_at fs 2) → k ≡ field_or_none (field_at fs 3)
    → d ≡ field_or_none (field_at fs 4) → v ≡ field_or_none (field_at fs 5) → row_words (hash_word h) (scope_word s) l k d v ≡ row_of fs
six_read fs h s l k d v n e0 e1 e2 e3 e4 e5 =
    let all : row_words (hash_word (field_or_none (field_at fs 0))) (scope_word (field_or_none (field_at fs 1))) (field_or_none (field_at fs 2)) (field_or_none (field_at fs 3)) (field_or_none (field_at fs 4)) (field_or_none (field_at fs 5)) ≡ row_of fs = six_fields fs n in
    rw (e0, e1, e2, e3, e4, e5) all

-- a record of another number of fields is no row
pub no_row : (fs : List (List ℕ)) → (length fs ≡ 6 → ⊥) → ◌≡◌ {A = Option Row} None (row_of fs)
no_row [] h = refl
no_row (a ∷ []) h = refl
no_row (a ∷ b ∷ []) h = refl
no_row (a ∷ b ∷ c ∷ []) h = refl
no_row (a ∷ b ∷ c ∷ d ∷ []) h = refl
no_row (a ∷ b ∷ c ∷ d ∷ e ∷ []) h = refl
no_row (a ∷ b ∷ c ∷ d ∷ e ∷ f ∷ []) h = absurd (h (omega arith))
no_row (a ∷ b ∷ c ∷ d ∷ e ∷ f ∷ g ∷ rest) h = refl

two_tests : (e f : Bool) → (e && f) ≡ (e && (f && true))
two_tests true true = refl
two_tests true false = refl
two_tests false f = refl

three_tests : (d e f : Bool) → ((d && e) && f) ≡ (d && (e && (f && true)))
three_tests true e f = two_tests e f
three_tests false e f = refl

four_tests : (c d e f : Bool) → (((c && d) && e) && f) ≡ (c && (d && (e && (f && true))))
four_tests true d e f = three_tests d e f
four_tests false d e f = refl

five_tests : (b c d e f : Bool) → ((((b && c) && d) && e) && f) ≡ (b && (c && (d && (e && (f && true)))))
five_tests true c d e f = four_tests c d e f
five_tests false c d e f = refl

six_tests : (a b c d e f : Bool) → (((((a && b) && c) && d) && e) && f) ≡ (a && (b && (c && (d && (e && (f && true))))))
six_tests true b c d e f = five_tests b c d e f
six_tests false b c d e f = refl

-- the header row, field by field
pub header_fields : (fs : List (List ℕ)) → length fs ≡ 6
    → ((((((bytes_eq (field_or_none (field_at fs 0)) (codes "cdhash") && bytes_eq (field_or_none (field_at fs 1)) (codes "scope")) && bytes_eq (field_or_none (field_at fs 2)) (codes "slot")) && bytes_eq (field_or_none (field_at fs 3)) (codes "key")) && bytes_eq (field_or_none (field_at fs 4)) (codes "kind")) && bytes_eq (field_or_none (field_at fs 5)) (codes "value"))) ≡ same_fields fs header
unfolding field_at
header_fields [] h = absurd (omega arith)
header_fields (a ∷ []) h = absurd (omega arith)
header_fields (a ∷ b ∷ []) h = absurd (omega arith)
header_fields (a ∷ b ∷ c ∷ []) h = absurd (omega arith)
header_fields (a ∷ b ∷ c ∷ d ∷ []) h = absurd (omega arith)
header_fields (a ∷ b ∷ c ∷ d ∷ e ∷ []) h = absurd (omega arith)
header_fields (a ∷ b ∷ c ∷ d ∷ e ∷ f ∷ []) h = six_tests (bytes_eq a (codes "cdhash")) (bytes_eq b (codes "scope")) (bytes_eq c (codes "slot")) (bytes_eq d (codes "key")) (bytes_eq e (codes "kind")) (bytes_eq f (codes "value"))
header_fields (a ∷ b ∷ c ∷ d ∷ e ∷ f ∷ g ∷ rest) h = absurd (omega arith)

lengths : (fs gs : List (List ℕ)) → same_fields fs gs ≡ true → length fs ≡ length gs
lengths [] [] h = refl
lengths [] (g ∷ gs) h = cc
lengths (f ∷ fs) [] h = cc
lengths (f ∷ fs) (g ∷ gs) h =
    let rest : length fs ≡ length gs = lengths fs gs (and_right (bytes_eq f g) (same_fields fs gs) h) in
    omega arith

no_test : (t : Bool) → (t ≡ true → ⊥) → false ≡ t
no_test true h = absurd (h refl)
no_test false h = refl

-- a record of another number of fields is no header
pub other_header : (fs : List (List ℕ)) → (length fs ≡ 6 → ⊥) → false ≡ same_fields fs header
other_header fs h = no_test (same_fields fs header) (λ same. h (lengths fs header same))
