-- A set that grows part by part.
use Rattle.std.proofs.Common.{◌≡◌, ◌≢◌, ℕ, zero, suc, ◌+◌, ◌<◌, ◌≤◌, Bool, true, false, ◌==◌, Option, Some, None, Ok, List, refl, sym, ap, subst, ◌∙◌, arith, inl, inr}
use Rattle.std.specs.Option.{MatchOption}
use Rattle.std.proofs.lemmas.Bool.{cases_lt}
use Rattle.std.proofs.lemmas.Bool.Decides.{nat_tests}
use Rattle.req_tree.specs.Tree.{Tree}
use Rattle.req_tree.specs.TreeSet.{TreeSet, IsSetKind, no_parts, part_of, with_part}
use Rattle.cs_blob.specs.SuperBlobs.{IsSuperBlob, IsPartOf, count_of, kind_at, part_at}
use Rattle.req_blob.specs.Decoding.{decoded}
use Rattle.req_ops.specs.Steps.{HasRead}

none_at : (kind : ℕ) → IsSetKind kind → part_of kind no_parts ≡ None
none_at zero is = absurd (omega (arith, is.0))
none_at (suc zero) is = refl
none_at (suc (suc zero)) is = refl
none_at (suc (suc (suc zero))) is = refl
none_at (suc (suc (suc (suc zero)))) is = refl
none_at (suc (suc (suc (suc (suc zero))))) is = refl
none_at (suc (suc (suc (suc (suc (suc k)))))) is = absurd (omega (arith, is.1))

put_same : (kind : ℕ) (tree : Tree) (s : TreeSet) → IsSetKind kind → part_of kind (with_part kind tree s) ≡ Some tree
put_same zero tree s is = absurd (omega (arith, is.0))
put_same (suc zero) tree s is = refl
put_same (suc (suc zero)) tree s is = refl
put_same (suc (suc (suc zero))) tree s is = refl
put_same (suc (suc (suc (suc zero)))) tree s is = refl
put_same (suc (suc (suc (suc (suc zero))))) tree s is = refl
put_same (suc (suc (suc (suc (suc (suc k)))))) tree s is = absurd (omega (arith, is.1))

put_other : (kind other : ℕ) (tree : Tree) (s : TreeSet) → IsSetKind kind → IsSetKind other → other ≢ kind → part_of other (with_part kind tree s) ≡ part_of other s
put_other zero other tree s is be apart = absurd (omega (arith, is.0))
put_other (suc zero) zero tree s is be apart = absurd (omega (arith, be.0))
put_other (suc zero) (suc zero) tree s is be apart = absurd (apart refl)
put_other (suc zero) (suc (suc zero)) tree s is be apart = refl
put_other (suc zero) (suc (suc (suc zero))) tree s is be apart = refl
put_other (suc zero) (suc (suc (suc (suc zero)))) tree s is be apart = refl
put_other (suc zero) (suc (suc (suc (suc (suc zero))))) tree s is be apart = refl
put_other (suc zero) (suc (suc (suc (suc (suc (suc k)))))) tree s is be apart = absurd (omega (arith, be.1))
put_other (suc (suc zero)) zero tree s is be apart = absurd (omega (arith, be.0))
put_other (suc (suc zero)) (suc zero) tree s is be apart = refl
put_other (suc (suc zero)) (suc (suc zero)) tree s is be apart = absurd (apart refl)
put_other (suc (suc zero)) (suc (suc (suc zero))) tree s is be apart = refl
put_other (suc (suc zero)) (suc (suc (suc (suc zero)))) tree s is be apart = refl
put_other (suc (suc zero)) (suc (suc (suc (suc (suc zero))))) tree s is be apart = refl
put_other (suc (suc zero)) (suc (suc (suc (suc (suc (suc k)))))) tree s is be apart = absurd (omega (arith, be.1))
put_other (suc (suc (suc zero))) zero tree s is be apart = absurd (omega (arith, be.0))
put_other (suc (suc (suc zero))) (suc zero) tree s is be apart = refl
put_other (suc (suc (suc zero))) (suc (suc zero)) tree s is be apart = refl
put_other (suc (suc (suc zero))) (suc (suc (suc zero))) tree s is be apart = absurd (apart refl)
put_other (suc (suc (suc zero))) (suc (suc (suc (suc zero)))) tree s is be apart = refl
put_other (suc (suc (suc zero))) (suc (suc (suc (suc (suc zero))))) tree s is be apart = refl
put_other (suc (suc (suc zero))) (suc (suc (suc (suc (suc (suc k)))))) tree s is be apart = absurd (omega (arith, be.1))
put_other (suc (suc (suc (suc zero)))) zero tree s is be apart = absurd (omega (arith, be.0))
put_other (suc (suc (suc (suc zero)))) (suc zero) tree s is be apart = refl
put_other (suc (suc (suc (suc zero)))) (suc (suc zero)) tree s is be apart = refl
put_other (suc (suc (suc (suc zero)))) (suc (suc (suc zero))) tree s is be apart = refl
put_other (suc (suc (suc (suc zero)))) (suc (suc (suc (suc zero)))) tree s is be apart = absurd (apart refl)
put_other (suc (suc (suc (suc zero)))) (suc (suc (suc (suc (suc zero))))) tree s is be apart = refl
put_other (suc (suc (suc (suc zero)))) (suc (suc (suc (suc (suc (suc k)))))) tree s is be apart = absurd (omega (arith, be.1))
put_other (suc (suc (suc (suc (suc zero))))) zero tree s is be apart = absurd (omega (arith, be.0))
put_other (suc (suc (suc (suc (suc zero))))) (suc zero) tree s is be apart = refl
put_other (suc (suc (suc (suc (suc zero))))) (suc (suc zero)) tree s is be apart = refl
put_other (suc (suc (suc (suc (suc zero))))) (suc (suc (suc zero))) tree s is be apart = refl
put_other (suc (suc (suc (suc (suc zero))))) (suc (suc (suc (suc zero)))) tree s is be apart = refl
put_other (suc (suc (suc (suc (suc zero))))) (suc (suc (suc (suc (suc zero))))) tree s is be apart = absurd (apart refl)
put_other (suc (suc (suc (suc (suc zero))))) (suc (suc (suc (suc (suc (suc k)))))) tree s is be apart = absurd (omega (arith, be.1))
put_other (suc (suc (suc (suc (suc (suc k)))))) other tree s is be apart = absurd (omega (arith, is.1))

-- what a part of the set says of the entries before one
abbrev pub Tells : List ℕ → ℕ → ℕ → Option Tree → Type 0
Tells whole index kind o = MatchOption o ((k : ℕ) → k < index → kind_at whole k ≢ kind) (λ tree. (k : ℕ) × (k < index) × (kind_at whole k ≡ kind) × (decoded (part_at whole k) ≡ Ok tree))

pub has_none : (whole : List ℕ) (set : TreeSet) → set ≡ no_parts → HasRead whole 0 set
has_none whole set empty = record {
  before = λ k lt. absurd (omega (arith, lt));
  parts = λ kind is. subst (Tells whole 0 kind) (sym (ap (part_of kind) empty ∙ none_at kind is)) (λ (k : ℕ) (lt : k < 0). absurd (omega (arith, lt)));
}

is_last : (k n : ℕ) → k < n + 1 → n ≤ k → n ≡ k
is_last k n lt le = omega (arith, lt, le)

tells_more : (whole : List ℕ) (n kind : ℕ) (o : Option Tree) → kind ≢ kind_at whole n → Tells whole n kind o → Tells whole (n + 1) kind o
tells_more whole n kind None apart h = λ k lt e.
    elim (cases_lt k n) [
      | inl less ↦ h k less e
      | inr le ↦ apart (sym e ∙ ap (kind_at whole) (sym (is_last k n lt le)))
    ]
tells_more whole n kind (Some tree) apart h = let less : h.0 < n = h.1 in (h.0, omega (arith, less), h.2, h.3)

pub has_more : (whole : List ℕ) (n kind : ℕ) (old new : TreeSet) (tree : Tree) → HasRead whole n old → kind ≡ kind_at whole n → IsSetKind kind → decoded (part_at whole n) ≡ Ok tree
    → new ≡ with_part kind tree old → HasRead whole (n + 1) new
has_more whole n kind old new tree has at is read put = record {
  before = λ k lt.
      elim (cases_lt k n) [
        | inl less ↦ has.before k less
        | inr le ↦ subst (λ (i : ℕ). IsSetKind (kind_at whole i) × ((t : Tree) × (decoded (part_at whole i) ≡ Ok t))) (is_last k n lt le) (subst IsSetKind at is, (tree, read))
      ];
  parts = λ other be. subst (λ (s : TreeSet). Tells whole (n + 1) other (part_of other s)) (sym put) (by_test other be (other == kind) refl);
}
  where
    by_test : (other : ℕ) → IsSetKind other → (b : Bool) → (other == kind) ≡ b → Tells whole (n + 1) other (part_of other (with_part kind tree old))
    by_test other be true e =
        let same : other ≡ kind = grind (arith, nat_tests, e) in
        subst (λ (k : ℕ). Tells whole (n + 1) k (part_of k (with_part kind tree old))) (sym same)
        (subst (Tells whole (n + 1) kind) (sym (put_same kind tree old is)) (n, omega arith, sym at, read))
    by_test other be false e =
        let apart : other ≢ kind = λ (s : other ≡ kind). absurd (grind (arith, nat_tests, e, s)) in
        subst (Tells whole (n + 1) other) (sym (put_other kind other tree old is be apart)) (tells_more whole n other (part_of other old) (λ (s : other ≡ kind_at whole n). apart (s ∙ sym at)) (has.parts other be))

pub is_free : (magic : ℕ) (whole : List ℕ) (n kind : ℕ) (set : TreeSet) → IsSuperBlob magic whole → n < count_of whole → HasRead whole n set → kind ≡ kind_at whole n → IsSetKind kind → part_of kind set ≡ None
is_free magic whole n kind set blob among has at is = by_part (part_of kind set) (has.parts kind is)
  where
    by_part : (o : Option Tree) → Tells whole n kind o → o ≡ None
    by_part None h = refl
    by_part (Some tree) h = absurd ((blob.fine n among).own_kind h.0 h.1 (h.2 ∙ at))

-- a type stands at one entry
pub same_entry : (magic : ℕ) (whole : List ℕ) (i j : ℕ) → IsSuperBlob magic whole → i < count_of whole → j < count_of whole → kind_at whole i ≡ kind_at whole j → i ≡ j
same_entry magic whole i j blob ai aj e =
    elim (cases_lt i j) [
      | inl less ↦ absurd ((blob.fine j aj).own_kind i less e)
      | inr le ↦ elim (cases_lt j i) [
        | inl less ↦ absurd ((blob.fine i ai).own_kind j less (sym e))
        | inr ge ↦ omega (arith, le, ge)
      ]
    ]

pub the_part : (magic : ℕ) (whole : List ℕ) (index kind : ℕ) (part : List ℕ) → IsSuperBlob magic whole → index < count_of whole → kind ≡ kind_at whole index → IsPartOf whole kind part → part_at whole index ≡ part
the_part magic whole index kind part blob among at is = ap (part_at whole) (same_entry magic whole index is.0 blob among is.1 (sym at ∙ sym is.2)) ∙ sym is.3
