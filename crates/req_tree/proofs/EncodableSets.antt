-- A set can be written where each of its six first parts can.
use Rattle.std.proofs.Common.{◌≡◌, ℕ, ◌+◌, ◌<◌, ◌≤◌, Bool, true, false, IsTrue, ◌==◌, Option, Some, None, refl, sym, subst, arith, inl, inr}
use Rattle.std.specs.Prelude.{IfSome}
use Rattle.std.proofs.lemmas.Bool.{cases_lt}
use Rattle.std.proofs.lemmas.Bool.Decides.{nat_tests}
use Rattle.req_tree.specs.Tree.{Tree}
use Rattle.req_tree.specs.TreeSet.{TreeSet, part_of, IsEncodableSet}
use Rattle.req_tree.specs.Spellable.{IsEncodable}

-- both ways
abbrev pub Tests : Bool → Type 0 → Type 0
Tests b P = (IsTrue b → P) × (P → IsTrue b)

pub some_when : (o : Option Tree) (tree : Tree) (b : Bool) → Some tree ≡ o → Tests b (IsEncodable tree) → Tests b (IfSome o IsEncodable)
some_when o tree b is test = subst (λ (p : Option Tree). Tests b (IfSome p IsEncodable)) is test

pub none_when : (o : Option Tree) → None ≡ o → Tests true (IfSome o IsEncodable)
none_when o is = subst (λ (p : Option Tree). Tests true (IfSome p IsEncodable)) is (λ _. tt, λ _. refl)

not_at : (k i : ℕ) → 6 ≤ k → i < 6 → (k == i) ≡ false
not_at k i h low = grind (arith, nat_tests)

none_above : (k : ℕ) (s : TreeSet) → 6 ≤ k → part_of k s ≡ None
none_above k s h = rw (not_at k 1 h (omega arith), not_at k 2 h (omega arith), not_at k 3 h (omega arith), not_at k 4 h (omega arith), not_at k 5 h (omega arith)) refl

pub below_more : (s : TreeSet) (i : ℕ) → ((k : ℕ) → k < i → IfSome (part_of k s) IsEncodable) → IfSome (part_of i s) IsEncodable → (k : ℕ) → k < i + 1 → IfSome (part_of k s) IsEncodable
below_more s i below here k lt =
    elim (cases_lt k i) [
      | inl less ↦ below k less
      | inr le ↦ let same : i ≡ k = omega (arith, lt, le) in subst (λ (j : ℕ). IfSome (part_of j s) IsEncodable) same here
    ]

pub all_parts : (s : TreeSet) (n : ℕ) → 6 ≤ n → ((k : ℕ) → k < n → IfSome (part_of k s) IsEncodable) → IsEncodableSet s
all_parts s n six below = record {
  parts = λ k. elim (cases_lt k 6) [
    | inl less ↦ below k (omega (arith, less, six))
    | inr le ↦ subst (λ (o : Option Tree). IfSome o IsEncodable) (sym (none_above k s le)) tt
  ];
}
