-- Receipts are found by the places of their keys.
use Rattle.std.proofs.Common.{◌≡◌, ℕ, suc, List, [], ◌∷◌, ◌++◌, length, refl, sym, ap, ◌∙◌, Option, Some, None}
use Rattle.std.specs.Prelude.{Bool, true, false, cond, option_map, bytes_eq}
use Rattle.std.specs.List.{slice_get}
use Rattle.std.specs.Option.{unwrap_or, option_copied}
use Rattle.std.specs.Borrow.{Bor}
use Rattle.std.specs.Slice.{IsItemAt}
use Rattle.std.specs.Map.{lookup}
use Rattle.std.specs.BTreeMap.{BTreeMap}
use Rattle.std.specs.Ordering.{is_eq, nat_cmp}
use Rattle.std.specs.Cmp.Lexicographic.{slice_cmp}
use Rattle.std.proofs.lemmas.List.{map-append, length-map}
use Rattle.std.proofs.lemmas.Option.{slice_get_past, slice_get_read}
use Rattle.std.proofs.lemmas.Map.Text.{is_eq-slice_cmp}
use Rattle.std.proofs.lemmas.Slice.Eq.{bytes_eq-Decides}
use Rattle.policy_model.specs.Tables.{Receipt}
use Rattle.policy_model.specs.Edits.{kept}
use Rattle.rule_edits.specs.declared.edit_key.EditKey.{EditKey}
use Rattle.rule_edits.specs.EditKey.{key_bytes}
use Rattle.edit_receipts.specs.declared.receipts.Receipt as code
use Rattle.edit_receipts.specs.Receipts.{receipt_of, receipts_of, place_of, HasPlaces}

-- a key without a place has no receipt, and the other way round

module _ {A : Type 0} where
  none_step : (b : Bool) (o : Option ℕ) (k : Option A) (r : A) → cond b (Some 0) (option_map suc o) ≡ None → (o ≡ None → k ≡ None) → cond b (Some r) k ≡ None
  none_step true o k r h ih = cc
  none_step false None k r h ih = ih refl
  none_step false (Some n) k r h ih = cc

  back_step : (b : Bool) (o : Option ℕ) (k : Option A) (r : A) → cond b (Some r) k ≡ None → (k ≡ None → o ≡ None) → cond b (Some 0) (option_map suc o) ≡ None
  back_step true o k r h ih = cc
  back_step false o k r h ih = ap (option_map suc) (ih h)

pub not_kept : (rs : List Receipt) (q : List ℕ) → place_of rs q ≡ None → kept rs q ≡ None
not_kept [] q h = refl
not_kept (r ∷ rs) q h = none_step (bytes_eq r.key q) (place_of rs q) (kept rs q) r h (not_kept rs q)

pub no_place : (rs : List Receipt) (q : List ℕ) → kept rs q ≡ None → place_of rs q ≡ None
no_place [] q h = refl
no_place (r ∷ rs) q h = back_step (bytes_eq r.key q) (place_of rs q) (kept rs q) r h (no_place rs q)

-- at the place of a key stands the receipt that is kept for it

at_step : (b : Bool) (o : Option ℕ) (p : ℕ) (r : Receipt) (rs : List Receipt) (k : Option Receipt) → cond b (Some 0) (option_map suc o) ≡ Some p → ((n : ℕ) → o ≡ Some n → slice_get rs n ≡ k) → slice_get (r ∷ rs) p ≡ cond b (Some r) k
at_step true o p r rs k h ih = ap (slice_get (r ∷ rs)) (sym (ap (λ x. unwrap_or x 0) h))
at_step false None p r rs k h ih = cc
at_step false (Some n) p r rs k h ih = ap (slice_get (r ∷ rs)) (sym (ap (λ x. unwrap_or x 0) h)) ∙ ih n refl

pub kept_there : (rs : List Receipt) (q : List ℕ) (p : ℕ) → place_of rs q ≡ Some p → slice_get rs p ≡ kept rs q
kept_there [] q p h = cc
kept_there (r ∷ rs) q p h = at_step (bytes_eq r.key q) (place_of rs q) p r rs (kept rs q) h (kept_there rs q)

-- one receipt more

last_step : (b : Bool) (o p : Option ℕ) (n : ℕ) → cond b (Some 0) (option_map suc o) ≡ None → (o ≡ None → p ≡ Some n) → cond b (Some 0) (option_map suc p) ≡ Some (suc n)
last_step true o p n h ih = cc
last_step false None p n h ih = ap (option_map suc) (ih refl)
last_step false (Some m) p n h ih = cc

place_last : (rs : List Receipt) (r : Receipt) (q : List ℕ) → bytes_eq r.key q ≡ true → place_of rs q ≡ None → place_of (rs ++ r ∷ []) q ≡ Some (length rs)
place_last [] r q e h = ap (λ b. cond b (Some 0) None) e
place_last (x ∷ rs) r q e h = last_step (bytes_eq x.key q) (place_of rs q) (place_of (rs ++ r ∷ []) q) (length rs) h (place_last rs r q e)

place_stays : (rs : List Receipt) (r : Receipt) (q : List ℕ) → bytes_eq r.key q ≡ false → place_of (rs ++ r ∷ []) q ≡ place_of rs q
place_stays [] r q e = ap (λ b. cond b (Some 0) None) e
place_stays (x ∷ rs) r q e = ap (λ p. cond (bytes_eq x.key q) (Some 0) (option_map suc p)) (place_stays rs r q e)

more_by : (b : Bool) (rs : List Receipt) (r : Receipt) (q : List ℕ) → bytes_eq r.key q ≡ b → place_of rs r.key ≡ None → place_of (rs ++ r ∷ []) q ≡ cond b (Some (length rs)) (place_of rs q)
more_by true rs r q e h = place_last rs r q e (ap (place_of rs) (sym ((bytes_eq-Decides r.key q).0 e)) ∙ h)
more_by false rs r q e h = place_stays rs r q e

pub place_more : (rs : List Receipt) (r : Receipt) (q : List ℕ) → kept rs r.key ≡ None → place_of (rs ++ r ∷ []) q ≡ cond (bytes_eq r.key q) (Some (length rs)) (place_of rs q)
place_more rs r q h = more_by (bytes_eq r.key q) rs r q refl (no_place rs r.key h)

-- the element at a place that was looked up
pub item_at : {X : Type 0} (xs : List X) (p : ℕ) (r : Option (Bor X)) → IsItemAt xs p r → option_copied r ≡ slice_get xs p
item_at xs p None h = sym (slice_get_past xs p h.3)
item_at xs p (Some x) h = sym (slice_get_read xs (length xs) p x.now refl h.3.0 h.1)

-- a look-up by the order of keys is one by their bytes
pub found_in : (key : List ℕ) (es : List (EditKey × ℕ)) → lookup (λ k. is_eq (slice_cmp nat_cmp key (key_bytes k))) es ≡ lookup (λ k. bytes_eq key (key_bytes k)) es
found_in key es = λ i. lookup (λ k. is_eq-slice_cmp key (key_bytes k) i) es

-- a map that has the places takes one more
pub has_more : (places new : BTreeMap EditKey ℕ) (rs : List code.Receipt) (r : code.Receipt) (k : EditKey) (n : ℕ) → HasPlaces places rs → kept (receipts_of rs) (key_bytes r.key) ≡ None → n ≡ length rs → key_bytes k ≡ key_bytes r.key →
    ((q : EditKey) → lookup (λ x. is_eq (slice_cmp nat_cmp (key_bytes q) (key_bytes x))) new.entries ≡ cond (is_eq (slice_cmp nat_cmp (key_bytes k) (key_bytes q))) (Some n) (lookup (λ x. is_eq (slice_cmp nat_cmp (key_bytes q) (key_bytes x))) places.entries)) →
    HasPlaces new (rs ++ r ∷ [])
has_more places new rs r k n has none place same h q =
    let b = key_bytes q in
    sym (found_in b new.entries)
    ∙ h q
    ∙ ap (λ t. cond t (Some n) (lookup (λ x. is_eq (slice_cmp nat_cmp b (key_bytes x))) places.entries)) (is_eq-slice_cmp (key_bytes k) b ∙ ap (λ x. bytes_eq x b) same)
    ∙ ap (cond (bytes_eq (key_bytes r.key) b) (Some n)) (found_in b places.entries ∙ has q)
    ∙ ap (λ m. cond (bytes_eq (key_bytes r.key) b) (Some m) (place_of (receipts_of rs) b)) (place ∙ sym (length-map rs receipt_of))
    ∙ sym (place_more (receipts_of rs) (receipt_of r) b none)
    ∙ ap (λ x. place_of x b) (sym (map-append receipt_of rs (r ∷ [])))

-- one receipt less

back_by : (t : Bool) (rs : List Receipt) (k b : List ℕ) (n : ℕ) → bytes_eq k b ≡ t → place_of rs k ≡ None → cond t None (cond t (Some n) (place_of rs b)) ≡ place_of rs b
back_by true rs k b n e h = sym (ap (place_of rs) (sym ((bytes_eq-Decides k b).0 e)) ∙ h)
back_by false rs k b n e h = refl

-- a map that has the places gives that of the last receipt back
pub has_less : (places new : BTreeMap EditKey ℕ) (rs : List code.Receipt) (r : code.Receipt) → HasPlaces places (rs ++ r ∷ []) → kept (receipts_of rs) (key_bytes r.key) ≡ None →
    ((q : EditKey) → lookup (λ x. is_eq (slice_cmp nat_cmp (key_bytes q) (key_bytes x))) new.entries ≡ cond (is_eq (slice_cmp nat_cmp (key_bytes r.key) (key_bytes q))) None (lookup (λ x. is_eq (slice_cmp nat_cmp (key_bytes q) (key_bytes x))) places.entries)) →
    HasPlaces new rs
has_less places new rs r has none h q =
    let b = key_bytes q in
    sym (found_in b new.entries)
    ∙ h q
    ∙ ap (λ t. cond t None (lookup (λ x. is_eq (slice_cmp nat_cmp b (key_bytes x))) places.entries)) (is_eq-slice_cmp (key_bytes r.key) b)
    ∙ ap (cond (bytes_eq (key_bytes r.key) b) None) (found_in b places.entries ∙ has q ∙ ap (λ x. place_of x b) (map-append receipt_of rs (r ∷ [])) ∙ place_more (receipts_of rs) (receipt_of r) b none)
    ∙ back_by (bytes_eq (key_bytes r.key) b) (receipts_of rs) (key_bytes r.key) b (length (receipts_of rs)) refl (no_place (receipts_of rs) (key_bytes r.key) none)
