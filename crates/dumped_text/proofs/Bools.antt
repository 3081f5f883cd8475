-- What tests that are joined say.
use Rattle.std.proofs.Common.{◌≡◌, ℕ, Bool, true, false, ◌&&◌, ◌||◌, nat_eq, List, [], ◌∷◌, ◌++◌, refl, sym, ◌∙◌, true≢false}
use Rattle.std.proofs.lemmas.Bool.Decides.{Decides-eqb}
use Rattle.std.specs.List.{list_all}
use Rattle.std.proofs.lemmas.List.Folds.{list_all-append}

pub both_hold : (a b : Bool) → (a && b) ≡ true → (a ≡ true) × (b ≡ true)
both_hold true b e = (refl, e)
both_hold false b e = absurd (true≢false (sym e))

pub and_is : (a b : Bool) → a ≡ true → b ≡ true → (a && b) ≡ true
and_is true b h k = k
and_is false b h k = h

pub or_is_false : (a b : Bool) → a ≡ false → b ≡ false → (a || b) ≡ false
or_is_false false b h k = k
or_is_false true b h k = h

pub or_left : (a b : Bool) → a ≡ true → (a || b) ≡ true
or_left true b h = refl
or_left false b h = absurd (true≢false (sym h))

pub was_false : (a b : Bool) → (a || b) ≡ false → (a ≡ false) × (b ≡ false)
was_false true b e = absurd (true≢false e)
was_false false b e = (refl, e)

pub not_so : (b : Bool) → (b ≡ true → ⊥) → b ≡ false
not_so true h = absurd (h refl)
not_so false h = refl

pub differ : (b : Bool) → b ≡ true → b ≡ false → ⊥
differ b h k = true≢false (sym h ∙ k)

pub same : (a b : ℕ) → nat_eq a b ≡ true → a ≡ b
same a b e = (Decides-eqb a b).0 e

-- each byte is of a wider sort
pub all_wider : (p q : ℕ → Bool) → ((b : ℕ) → p b ≡ true → q b ≡ true) → (s : List ℕ) → list_all p s ≡ true → list_all q s ≡ true
all_wider p q h [] e = refl
all_wider p q h (b ∷ rest) e = let parts = both_hold (p b) (list_all p rest) e in and_is _ _ (h b parts.0) (all_wider p q h rest parts.1)

pub all_append : (p : ℕ → Bool) (a b : List ℕ) → list_all p a ≡ true → list_all p b ≡ true → list_all p (a ++ b) ≡ true
all_append p a b h k = list_all-append p a b ∙ and_is _ _ h k

-- what holds of all holds of one behind others
pub all_at : (p : ℕ → Bool) (a : List ℕ) (b : ℕ) (rest : List ℕ) → list_all p (a ++ b ∷ rest) ≡ true → p b ≡ true
all_at p [] b rest e = (both_hold (p b) _ e).0
all_at p (x ∷ a) b rest e = all_at p a b rest (both_hold (p x) _ e).1
