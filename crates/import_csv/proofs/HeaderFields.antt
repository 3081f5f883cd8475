-- The header of an import file, field by field.
use Rattle.std.proofs.Common.{◌≡◌, ℕ, List, [], ◌∷◌, length, Bool, true, false, ◌&&◌, codes, bytes_eq, refl, sym, subst, arith}
use Rattle.csv.specs.Records.{field_at}
use Rattle.std.proofs.lemmas.Slice.Eq.{bytes_eq-Decides}
use Rattle.import_csv.specs.ImportRows.{field_or_none}
use Rattle.import_csv.specs.ImportFile.{header}

-- the eight tests
abbrev pub is_named : List (List ℕ) → Bool
is_named fs =
    ((((((bytes_eq (field_or_none (field_at fs 0)) (codes "key") && bytes_eq (field_or_none (field_at fs 1)) (codes "type"))
    && bytes_eq (field_or_none (field_at fs 2)) (codes "verdict")) && bytes_eq (field_or_none (field_at fs 3)) (codes "priority"))
    && bytes_eq (field_or_none (field_at fs 4)) (codes "expires")) && bytes_eq (field_or_none (field_at fs 5)) (codes "label"))
    && bytes_eq (field_or_none (field_at fs 6)) (codes "flags")) && bytes_eq (field_or_none (field_at fs 7)) (codes "requirement")

all_of : (a b c d e f g h : Bool) → (((((((a && b) && c) && d) && e) && f) && g) && h) ≡ true
    → (a ≡ true) × (b ≡ true) × (c ≡ true) × (d ≡ true) × (e ≡ true) × (f ≡ true) × (g ≡ true) × (h ≡ true)
all_of true true true true true true true true t = (refl, refl, refl, refl, refl, refl, refl, refl)
all_of true true true true true true true false t = absurd (cc)
all_of true true true true true true false h t = absurd (cc)
all_of true true true true true false g h t = absurd (cc)
all_of true true true true false f g h t = absurd (cc)
all_of true true true false e f g h t = absurd (cc)
all_of true true false d e f g h t = absurd (cc)
all_of true false c d e f g h t = absurd (cc)
all_of false b c d e f g h t = absurd (cc)

-- eight fields of these names are the header
pub header_by : (fs : List (List ℕ)) → length fs ≡ 8 → is_named fs ≡ true → fs ≡ header
unfolding field_at
header_by [] n t = absurd (omega arith)
header_by (a ∷ []) n t = absurd (omega arith)
header_by (a ∷ b ∷ []) n t = absurd (omega arith)
header_by (a ∷ b ∷ c ∷ []) n t = absurd (omega arith)
header_by (a ∷ b ∷ c ∷ d ∷ []) n t = absurd (omega arith)
header_by (a ∷ b ∷ c ∷ d ∷ e ∷ []) n t = absurd (omega arith)
header_by (a ∷ b ∷ c ∷ d ∷ e ∷ f ∷ []) n t = absurd (omega arith)
header_by (a ∷ b ∷ c ∷ d ∷ e ∷ f ∷ g ∷ []) n t = absurd (omega arith)
header_by (a ∷ b ∷ c ∷ d ∷ e ∷ f ∷ g ∷ h ∷ []) n t =
    let all = all_of (bytes_eq a (codes "key")) (bytes_eq b (codes "type")) (bytes_eq c (codes "verdict")) (bytes_eq d (codes "priority"))
    (bytes_eq e (codes "expires")) (bytes_eq f (codes "label")) (bytes_eq g (codes "flags")) (bytes_eq h (codes "requirement")) t in
    rw (
      (bytes_eq-Decides a (codes "key")).0 all.0,
      (bytes_eq-Decides b (codes "type")).0 all.1,
      (bytes_eq-Decides c (codes "verdict")).0 all.2,
      (bytes_eq-Decides d (codes "priority")).0 all.3,
      (bytes_eq-Decides e (codes "expires")).0 all.4,
      (bytes_eq-Decides f (codes "label")).0 all.5,
      (bytes_eq-Decides g (codes "flags")).0 all.6,
      (bytes_eq-Decides h (codes "requirement")).0 all.7,
    ) refl
header_by (a ∷ b ∷ c ∷ d ∷ e ∷ f ∷ g ∷ h ∷ i ∷ rest) n t = absurd (omega arith)

-- the header has these names
pub header_named : (fs : List (List ℕ)) → fs ≡ header → is_named fs ≡ true
unfolding field_at
header_named fs e = subst (λ (gs : List (List ℕ)). is_named gs ≡ true) (sym e) refl

-- and as many fields
pub header_counted : (fs : List (List ℕ)) → fs ≡ header → length fs ≡ 8
header_counted fs e = subst (λ (gs : List (List ℕ)). length gs ≡ 8) (sym e) refl
