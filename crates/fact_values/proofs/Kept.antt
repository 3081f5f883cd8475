-- Names and values, as functions of their bytes, after one more was put in.
use Rattle.std.proofs.Common.{◌≡◌, ℕ, List, [], refl, sym, ap, ◌∙◌, Option, Some, None}
use Rattle.std.specs.Prelude.{Bool, true, false, cond, option_map}
use Rattle.std.specs.List.{list_any}
use Rattle.std.specs.Map.{lookup, set_value}
use Rattle.std.specs.BTreeMap.{insert_entry}
use Rattle.std.specs.BTreeSet.{insert_key}
use Rattle.std.specs.Str.{bytes_eq}
use Rattle.std.proofs.lemmas.Slice.Eq.{bytes_eq-Decides}
use Rattle.req_tree.specs.Facts as f
use Rattle.fact_values.specs.Keyed.{value_of, with_name, with_value, with_item, more_of, member_added}
use Rattle.fact_values.specs.declared.value.Value.{Value}
use Rattle.fact_values.proofs.ByBytes.{order, has, ties, name_added, value_added, value_changed, found_by_bytes, map_chosen}

module _ {K : Type 0} (bytes : K → List ℕ) where
  abbrev pub names : List K → List ℕ → Bool
  names ks q = list_any (has bytes q) ks

  abbrev pub values : List (K × Value) → List ℕ → Option f.Value
  values es q = option_map value_of (lookup (has bytes q) es)

  pub name_put : (ks new : List K) (k : K) (name : List ℕ) → new ≡ insert_key (order bytes) ks k → bytes k ≡ name → names new ≡ with_name name (names ks)
  name_put ks new k name h e = λ i q.
      (ap (λ (l : List K). list_any (has bytes q) l) h ∙ name_added bytes q k ks ∙ ap (λ n. cond (bytes_eq q n) true (names ks q)) e) i

  pub value_put : (es new : List (K × Value)) (k : K) (v : Value) (key : List ℕ) → new ≡ insert_entry (order bytes) es k v → bytes k ≡ key → values new ≡ with_value key (value_of v) (values es)
  value_put es new k v key h e = λ i q.
      (ap (λ (l : List (K × Value)). option_map value_of (lookup (has bytes q) l)) h
      ∙ ap (option_map value_of) (value_added bytes q k v es)
      ∙ map_chosen value_of (has bytes q k) v (lookup (has bytes q) es)
      ∙ ap (λ n. cond (bytes_eq q n) (Some (value_of v)) (values es q)) e) i

  -- where the key has a value
  item_there : (es : List (K × Value)) (key member : List ℕ) (w old : Value) (q : List ℕ) (b : Bool) → bytes_eq q key ≡ b → lookup (has bytes key) es ≡ Some old → value_of w ≡ more_of member (value_of old) → (bytes_eq q key ≡ true → q ≡ key) →
      cond b (Some (value_of w)) (values es q) ≡ cond b (member_added member (values es q)) (values es q)
  item_there es key member w old q true t was e same =
      let at : values es q ≡ Some (value_of old) = ap (values es) (same t) ∙ ap (option_map value_of) was in
      ap Some e ∙ ap (member_added member) (sym at)
  item_there es key member w old q false t was e same = refl

  pub item_put : (es new : List (K × Value)) (key member : List ℕ) (w old : Value) → new ≡ set_value (ties bytes key) es w → lookup (ties bytes key) es ≡ Some old → value_of w ≡ more_of member (value_of old) →
      values new ≡ with_item key member (values es)
  item_put es new key member w old h was e = λ i q.
      (ap (λ (l : List (K × Value)). option_map value_of (lookup (has bytes q) l)) h
      ∙ ap (option_map value_of) (value_changed bytes q key w old es was)
      ∙ map_chosen value_of (bytes_eq q key) w (lookup (has bytes q) es)
      ∙ item_there es key member w old q (bytes_eq q key) refl (sym (found_by_bytes bytes key es) ∙ was) e (bytes_eq-Decides q key).0) i

  -- where it has none, a list begins
  item_new : (es : List (K × Value)) (key member : List ℕ) (q : List ℕ) (b : Bool) → bytes_eq q key ≡ b → values es key ≡ None → (bytes_eq q key ≡ true → q ≡ key) →
      cond b (Some (f.texts member [])) (values es q) ≡ cond b (member_added member (values es q)) (values es q)
  item_new es key member q true t none same = ap (member_added member) (sym (ap (values es) (same t) ∙ none))
  item_new es key member q false t none same = refl

  pub item_begun : (es : List (K × Value)) (new : List ℕ → Option f.Value) (key member : List ℕ) → new ≡ with_value key (f.texts member []) (values es) → lookup (ties bytes key) es ≡ None →
      new ≡ with_item key member (values es)
  item_begun es new key member h none = h ∙ (λ i q. item_new es key member q (bytes_eq q key) refl (ap (option_map value_of) (sym (found_by_bytes bytes key es) ∙ none)) (bytes_eq-Decides q key).0 i)
