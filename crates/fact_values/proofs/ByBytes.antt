-- Look-ups by bytes in lists that are kept in the order of their keys' bytes.
use Rattle.std.proofs.Common.{◌≡◌, ℕ, List, [], ◌∷◌, refl, sym, ap, ◌∙◌, Option, Some}
use Rattle.std.specs.Prelude.{Bool, true, false, cond, ◌||◌, option_map}
use Rattle.std.specs.declared.cmp.Ordering.{Ordering}
use Rattle.std.specs.declared.cmp.Ordering.TheVariants.{Less, Equal, Greater}
use Rattle.std.specs.Ordering.{is_eq, nat_cmp, match_ordering}
use Rattle.std.specs.Cmp.Lexicographic.{slice_cmp, nat_list_eq_equiv}
use Rattle.std.specs.List.{list_any}
use Rattle.std.specs.Map.{lookup, set_value}
use Rattle.std.specs.BTreeMap.{insert_entry}
use Rattle.std.specs.BTreeSet.{insert_key}
use Rattle.std.specs.Str.{bytes_eq}
use Rattle.std.proofs.lemmas.Map.Text.{is_eq-slice_cmp}

-- bytes that are the same as others are the same as just what those are
alike : (a b q : List ℕ) → bytes_eq a b ≡ true → bytes_eq q b ≡ bytes_eq q a
alike a b q h = nat_list_eq_equiv.symm q b ∙ sym (nat_list_eq_equiv.congr a b q h) ∙ nat_list_eq_equiv.symm a q

apart : (a b q : List ℕ) → bytes_eq a b ≡ false → bytes_eq q a ≡ true → bytes_eq q b ≡ false
apart a b q h e = nat_list_eq_equiv.congr q a b e ∙ h

module _ {A : Type 0} where
  in_place : (a b : Bool) (x y l : A) → a ≡ b → cond a x l ≡ cond b x (cond a y l)
  in_place true true x y l h = refl
  in_place true false x y l h = cc
  in_place false true x y l h = cc
  in_place false false x y l h = refl

  further : (a b : Bool) (x y l m : A) → (b ≡ true → a ≡ false) → m ≡ cond b x l → cond a y m ≡ cond b x (cond a y l)
  further true true x y l m differ h = let k : true ≡ false = differ refl in cc
  further true false x y l m differ h = refl
  further false true x y l m differ h = h
  further false false x y l m differ h = h

first_name : (a b : Bool) → (a || b) ≡ cond a true b
first_name true b = refl
first_name false b = refl

same_name : (a b l : Bool) → a ≡ b → (a || l) ≡ cond b true (a || l)
same_name true true l h = refl
same_name true false l h = refl
same_name false true l h = cc
same_name false false l h = refl

further_name : (a b l m : Bool) → m ≡ cond b true l → (a || m) ≡ cond b true (a || l)
further_name true true l m h = refl
further_name true false l m h = refl
further_name false true l m h = h
further_name false false l m h = h

-- keys that are read by their bytes
module _ {K : Type 0} (bytes : K → List ℕ) where
  abbrev pub order : K → K → Ordering
  order a b = slice_cmp nat_cmp (bytes a) (bytes b)

  -- the key has these bytes
  abbrev pub has : List ℕ → K → Bool
  has key k = bytes_eq key (bytes k)

  -- the same by the order
  abbrev pub ties : List ℕ → K → Bool
  ties key k = is_eq (slice_cmp nat_cmp key (bytes k))

  -- names

  pub is_by_bytes : (key : List ℕ) (ks : List K) → list_any (ties key) ks ≡ list_any (has key) ks
  is_by_bytes key ks = λ i. list_any (λ k. is_eq-slice_cmp key (bytes k) i) ks

  name_step : (q : List ℕ) (k x : K) (xs : List K) (o : Ordering) → is_eq o ≡ bytes_eq (bytes k) (bytes x) →
      list_any (has q) (insert_key order xs k) ≡ cond (has q k) true (list_any (has q) xs) →
      list_any (has q) (match_ordering o (k ∷ x ∷ xs) (x ∷ xs) (x ∷ insert_key order xs k)) ≡ cond (has q k) true (list_any (has q) (x ∷ xs))
  name_step q k x xs Less h ih = first_name (has q k) (list_any (has q) (x ∷ xs))
  name_step q k x xs Equal h ih = same_name (has q x) (has q k) (list_any (has q) xs) (alike (bytes k) (bytes x) q (sym h))
  name_step q k x xs Greater h ih = further_name (has q x) (has q k) (list_any (has q) xs) (list_any (has q) (insert_key order xs k)) ih

  -- one name more
  pub name_added : (q : List ℕ) (k : K) (xs : List K) → list_any (has q) (insert_key order xs k) ≡ cond (has q k) true (list_any (has q) xs)
  name_added q k [] = first_name (has q k) false
  name_added q k (x ∷ xs) = name_step q k x xs (order k x) (is_eq-slice_cmp (bytes k) (bytes x)) (name_added q k xs)

  -- values

  module _ {X : Type 0} where
    pub found_by_bytes : (key : List ℕ) (es : List (K × X)) → lookup (ties key) es ≡ lookup (has key) es
    found_by_bytes key es = λ i. lookup (λ k. is_eq-slice_cmp key (bytes k) i) es

    value_step : (q : List ℕ) (k : K) (v : X) (e : K × X) (es : List (K × X)) (o : Ordering) → is_eq o ≡ bytes_eq (bytes k) (bytes e.0) →
        lookup (has q) (insert_entry order es k v) ≡ cond (has q k) (Some v) (lookup (has q) es) →
        lookup (has q) (match_ordering o ((k, v) ∷ e ∷ es) ((e.0, v) ∷ es) (e ∷ insert_entry order es k v)) ≡ cond (has q k) (Some v) (lookup (has q) (e ∷ es))
    value_step q k v e es Less h ih = refl
    value_step q k v e es Equal h ih = in_place (has q e.0) (has q k) (Some v) (Some e.1) (lookup (has q) es) (alike (bytes k) (bytes e.0) q (sym h))
    value_step q k v e es Greater h ih = further (has q e.0) (has q k) (Some v) (Some e.1) (lookup (has q) es) (lookup (has q) (insert_entry order es k v)) (apart (bytes k) (bytes e.0) q (sym h)) ih

    -- one value set
    pub value_added : (q : List ℕ) (k : K) (v : X) (es : List (K × X)) → lookup (has q) (insert_entry order es k v) ≡ cond (has q k) (Some v) (lookup (has q) es)
    value_added q k v [] = refl
    value_added q k v (e ∷ es) = value_step q k v e es (order k e.0) (is_eq-slice_cmp (bytes k) (bytes e.0)) (value_added q k v es)

    change_step : (q key : List ℕ) (w old : X) (e : K × X) (es : List (K × X)) (b : Bool) → bytes_eq key (bytes e.0) ≡ b →
        (lookup (has key) es ≡ Some old → lookup (has q) (set_value (has key) es w) ≡ cond (bytes_eq q key) (Some w) (lookup (has q) es)) →
        cond b (Some e.1) (lookup (has key) es) ≡ Some old →
        lookup (has q) (cond b ((e.0, w) ∷ es) (e ∷ set_value (has key) es w)) ≡ cond (bytes_eq q key) (Some w) (lookup (has q) (e ∷ es))
    change_step q key w old e es true h ih was = in_place (has q e.0) (bytes_eq q key) (Some w) (Some e.1) (lookup (has q) es) (alike key (bytes e.0) q h)
    change_step q key w old e es false h ih was = further (has q e.0) (bytes_eq q key) (Some w) (Some e.1) (lookup (has q) es) (lookup (has q) (set_value (has key) es w)) (apart key (bytes e.0) q h) (ih was)

    changed : (q key : List ℕ) (w old : X) (es : List (K × X)) → lookup (has key) es ≡ Some old →
        lookup (has q) (set_value (has key) es w) ≡ cond (bytes_eq q key) (Some w) (lookup (has q) es)
    changed q key w old [] was = cc
    changed q key w old (e ∷ es) was = change_step q key w old e es (bytes_eq key (bytes e.0)) refl (changed q key w old es) was

    -- a value that is there is changed
    pub value_changed : (q key : List ℕ) (w old : X) (es : List (K × X)) → lookup (ties key) es ≡ Some old →
        lookup (has q) (set_value (ties key) es w) ≡ cond (bytes_eq q key) (Some w) (lookup (has q) es)
    value_changed q key w old es was =
        ap (λ (t : K → Bool). lookup (has q) (set_value t es w)) (λ i k. is_eq-slice_cmp key (bytes k) i)
        ∙ changed q key w old es (sym (found_by_bytes key es) ∙ was)

-- what is chosen, seen otherwise
pub map_chosen : {A B : Type 0} (f : A → B) (b : Bool) (x : A) (l : Option A) → option_map f (cond b (Some x) l) ≡ cond b (Some (f x)) (option_map f l)
map_chosen f true x l = refl
map_chosen f false x l = refl
