-- The first bad row of a list, at its place.
use Rattle.std.proofs.Common.{◌≡◌, ℕ, ◌+◌, ◌<◌, List, [], ◌∷◌, ◌++◌, length, get_or, take, drop, sym, ap, ◌∙◌, append_assoc}
use Rattle.std.specs.Prelude.{map}
use Rattle.std.proofs.lemmas.List.{map-append, take_more, take-append-drop}
use Rattle.store_model.specs.Refused.{IsFirstBad}

module _ {X Y : Type 0} (f : X → Y) (rows : List X) (at : ℕ) (row : X) (lt : at < length rows) (is : get_or rows at row ≡ row) where
  -- the front with one more
  pub front_more : map f (take (at + 1) rows) ≡ map f (take at rows) ++ f row ∷ []
  front_more = ap (map f) (take_more rows at row lt ∙ ap (λ r. take at rows ++ r ∷ []) is) ∙ map-append f (take at rows) (row ∷ [])

  -- with the row at this place the front is good no more
  pub first_bad : (Good : List Y → Type 0) → Good (map f (take at rows)) → (Good (map f (take at rows) ++ f row ∷ []) → ⊥) → IsFirstBad Good (map f rows) (f row)
  first_bad Good good bad = record {
    before = map f (take at rows);
    behind = map f (drop (at + 1) rows);
    split =
        ap (map f) (sym (take-append-drop (at + 1) rows))
        ∙ map-append f (take (at + 1) rows) (drop (at + 1) rows)
        ∙ ap (λ l. l ++ map f (drop (at + 1) rows)) front_more
        ∙ append_assoc (map f (take at rows)) (f row ∷ []) (map f (drop (at + 1) rows));
    good = good;
    bad = bad;
  }
