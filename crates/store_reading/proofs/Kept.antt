-- No receipt is kept for a key where each has another.
use Rattle.std.proofs.Common.{◌≡◌, ℕ, List, [], ◌∷◌, refl, sym, ap, ◌∙◌, Option, Some, None}
use Rattle.std.specs.Prelude.{All, Bool, true, false, cond, map, bytes_eq, ◌≢◌}
use Rattle.std.proofs.lemmas.Bool.{both_ways}
use Rattle.std.proofs.lemmas.Slice.Eq.{bytes_eq-Decides}
use Rattle.std.proofs.lemmas.List.Elements.{All-nil, All-cons, All-head, All-tail}
use Rattle.policy_model.specs.Tables.{Receipt}
use Rattle.policy_model.specs.Edits.{kept}
use Rattle.store_model.specs.Raw.{RawReceipt}
use Rattle.store_model.specs.Stored.{raw_receipt}

none_here : (b : Bool) (r : Receipt) (o : Option Receipt) → cond b (Some r) o ≡ None → (b ≡ false) × (o ≡ None)
none_here true r o h = cc
none_here false r o h = (refl, h)

other_bytes : (a b : List ℕ) → bytes_eq a b ≡ false → a ≢ b
other_bytes a b h e = both_ways (bytes_eq a b) h ((bytes_eq-Decides a b).1 e)

other_false : (a b : List ℕ) → a ≢ b → bytes_eq a b ≡ false
other_false a b h = by (bytes_eq a b) refl
  where
    by : (t : Bool) → bytes_eq a b ≡ t → bytes_eq a b ≡ false
    by true e = absurd (h ((bytes_eq-Decides a b).0 e))
    by false e = e

-- the stored row has another key
abbrev pub IsOther : List ℕ → RawReceipt → Type 0
IsOther key s = s.key ≢ key

-- where nothing is kept for a key, each stored row has another
pub all_others : (key : List ℕ) (rs : List Receipt) → kept rs key ≡ None → All (IsOther key) (map raw_receipt rs)
all_others key [] h = All-nil (IsOther key)
all_others key (r ∷ rs) h =
    let both = none_here (bytes_eq r.key key) r (kept rs key) h in
    All-cons (IsOther key) (raw_receipt r) (map raw_receipt rs) (other_bytes r.key key both.0) (all_others key rs both.1)

-- and the other way round
pub none_kept : (key : List ℕ) (rs : List Receipt) → All (IsOther key) (map raw_receipt rs) → kept rs key ≡ None
none_kept key [] h = refl
none_kept key (r ∷ rs) h =
    ap (λ b. cond b (Some r) (kept rs key)) (other_false r.key key (All-head (IsOther key) (raw_receipt r) (map raw_receipt rs) h))
    ∙ none_kept key rs (All-tail (IsOther key) (raw_receipt r) (map raw_receipt rs) h)
