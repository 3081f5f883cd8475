-- The first row of a list that has a property: the tests find it.
use Rattle.std.proofs.Common.{◌≡◌, ℕ, zero, suc, ◌<◌, List, [], ◌∷◌, get_or, refl, sym, ap, ◌∙◌, arith, Option, Some, None, ◌++◌}
use Rattle.std.specs.Prelude.{Bool, true, false, not, ◌&&◌, IfSome, nat_lt, if◌then◌else◌, All, Contains}
use Rattle.std.proofs.lemmas.Int.{ints}
use Rattle.std.proofs.lemmas.Bool.{ltb-true, lt-ltb, and_parts, and_from, both_ways}
use Rattle.std.proofs.lemmas.Bool.Decides.{nat_tests}
use Rattle.std.proofs.lemmas.List.Elements.{All-cons, All-nil, All-append, Contains-append_left, Contains-append_right}
use Rattle.req_tree.specs.Subject.{Subject}
use Rattle.req_tree.specs.Facts.{Facts}
use Rattle.req_tree.specs.Meaning.{mean}
use Rattle.policy_model.specs.Rules.{Kind, execute, install, document, same_kind, Row, Rank, rank_of, Before, is_before, is_below, is_counted, Meets, meets, IsFirst, HasNone, IsFirstOf, first, sooner}

pub same_kind-true : (a b : Kind) → same_kind a b ≡ true → a ≡ b
same_kind-true execute execute h = refl
same_kind-true install install h = refl
same_kind-true document document h = refl
same_kind-true execute install h = cc
same_kind-true execute document h = cc
same_kind-true install execute h = cc
same_kind-true install document h = cc
same_kind-true document execute h = cc
same_kind-true document install h = cc

pub same_kind-refl : (a : Kind) → same_kind a a ≡ true
same_kind-refl execute = refl
same_kind-refl install = refl
same_kind-refl document = refl

pub same_kind-from : (a b : Kind) → a ≡ b → same_kind a b ≡ true
same_kind-from a b e = ap (same_kind a) (sym e) ∙ same_kind-refl a

pub before_irrefl : (x : Rank) → Before x x → ⊥
before_irrefl x h = grind (arith, ints, h)

pub before_asym : (x y : Rank) → Before x y → Before y x → ⊥
before_asym x y h k = grind (arith, ints, h, k)

pub test_before : (a b : Rank) → is_before a b ≡ true → Before a b
test_before a b h = grind (arith, ints, nat_tests, h)

-- a row before r is before whatever isn't before r
before_on : (x r s : Rank) → is_before s r ≡ false → Before x r → Before x s
before_on x r s h b = grind (arith, ints, nat_tests, h, b)

pub later_one : {X : Type 0} (y : X) (xs : List X) (x : X) → Contains xs x → Contains (y ∷ xs) x
later_one y xs x c = (suc c.0, omega (arith, c.1), c.2)

pub first_one : {X : Type 0} (x : X) (xs : List X) → Contains (x ∷ xs) x
first_one x xs = (zero, omega arith, refl)

only_first : (P : Row → Type 0) (r : Row) (rows : List Row) → P r → HasNone P rows → IsFirst P (r ∷ rows) r
only_first P r rows p none = record {
  among = first_one r rows;
  itself = p;
  first = All-cons (λ s. P s → Before (rank_of s) (rank_of r) → ⊥) r rows (λ q b. before_irrefl (rank_of r) b) (λ k d h q b. none k d h q);
}

other_first : (P : Row → Type 0) (r : Row) (rows : List Row) (s : Row) → (P r → Before (rank_of r) (rank_of s) → ⊥) → IsFirst P rows s → IsFirst P (r ∷ rows) s
other_first P r rows s not' f = record {
  among = later_one r rows s f.among;
  itself = f.itself;
  first = All-cons (λ x. P x → Before (rank_of x) (rank_of s) → ⊥) r rows not' f.first;
}

new_first : (P : Row → Type 0) (r : Row) (rows : List Row) (s : Row) → P r → is_before (rank_of s) (rank_of r) ≡ false → IsFirst P rows s → IsFirst P (r ∷ rows) r
new_first P r rows s p after f = record {
  among = first_one r rows;
  itself = p;
  first = All-cons (λ x. P x → Before (rank_of x) (rank_of r) → ⊥) r rows (λ q b. before_irrefl (rank_of r) b) (λ k d h q b. f.first k d h q (before_on (rank_of (get_or rows k d)) (rank_of r) (rank_of s) after b));
}

sooner_first : (P : Row → Type 0) (r : Row) (rows : List Row) (s : Row) (c : Bool) → is_before (rank_of s) (rank_of r) ≡ c → P r → IsFirst P rows s → IsFirst P (r ∷ rows) (if c then s else r)
sooner_first P r rows s true e p f = other_first P r rows s (λ q b. before_asym (rank_of r) (rank_of s) b (test_before (rank_of s) (rank_of r) e)) f
sooner_first P r rows s false e p f = new_first P r rows s p e f

passing : (P : Row → Type 0) (r : Row) (rows : List Row) (o : Option Row) → P r → IsFirstOf P rows o → IsFirst P (r ∷ rows) (sooner r o)
passing P r rows None p f = only_first P r rows p f
passing P r rows (Some s) p f = sooner_first P r rows s (is_before (rank_of s) (rank_of r)) refl p f

failing : (P : Row → Type 0) (r : Row) (rows : List Row) (o : Option Row) → (P r → ⊥) → IsFirstOf P rows o → IsFirstOf P (r ∷ rows) o
failing P r rows None not' f = All-cons (λ s. P s → ⊥) r rows not' f
failing P r rows (Some s) not' f = other_first P r rows s (λ q b. not' q) f

either_first : (P : Row → Type 0) (r : Row) (rows : List Row) (o : Option Row) (c : Bool) → (c ≡ true → P r) → (P r → c ≡ true) → IsFirstOf P rows o → IsFirstOf P (r ∷ rows) (if c then Some (sooner r o) else o)
either_first P r rows o true to from f = passing P r rows o (to refl) f
either_first P r rows o false to from f = failing P r rows o (λ p. both_ways false refl (from p)) f

-- a test finds the first row that has the property for which it tests
pub first_is : (test : Row → Bool) (P : Row → Type 0) → ((r : Row) → test r ≡ true → P r) → ((r : Row) → P r → test r ≡ true) → (rows : List Row) → IsFirstOf P rows (first test rows)
first_is test P to from [] = All-nil (λ s. P s → ⊥)
first_is test P to from (r ∷ rows) = either_first P r rows (first test rows) (test r) (to r) (from r) (first_is test P to from rows)

below_from : (o : Option ℕ) (m : ℕ) → IfSome o (λ e. m < e) → is_below m o ≡ true
below_from None m h = refl
below_from (Some e) m h = lt-ltb m e h

below_to : (o : Option ℕ) (m : ℕ) → is_below m o ≡ true → IfSome o (λ e. m < e)
below_to None m h = tt
below_to (Some e) m h = ltb-true m e h

counted_to : (d : Bool) (n : ℕ) (c : Bool) → nat_lt 0 n ≡ c → (if d then c else not c) ≡ true → nat_lt 0 n ≡ d
counted_to true n true e h = e
counted_to true n false e h = absurd (both_ways false refl h)
counted_to false n true e h = absurd (both_ways false refl h)
counted_to false n false e h = e

counted_from : (d c : Bool) → c ≡ d → (if d then c else not c) ≡ true
counted_from true c h = h
counted_from false true h = sym h
counted_from false false h = refl

-- the test is the property
pub meets_to : (d : Bool) (kind : Kind) (subject : Subject) (facts : Facts) (m : ℕ) (r : Row) → meets d kind subject facts m r ≡ true → Meets d kind subject facts m r
meets_to d kind subject facts m r h =
    let c = and_parts (same_kind r.kind kind && is_below m r.expires && is_counted d r.disabled) (mean r.tree subject facts) h in
    let b = and_parts (same_kind r.kind kind && is_below m r.expires) (is_counted d r.disabled) c.0 in
    let a = and_parts (same_kind r.kind kind) (is_below m r.expires) b.0 in
    record {
      applies = record { of_kind = same_kind-true r.kind kind a.0; live = record { unexpired = below_to r.expires m a.1 }; means_true = c.1 };
      counted = counted_to d r.disabled (nat_lt 0 r.disabled) refl b.1;
    }

pub meets_from : (d : Bool) (kind : Kind) (subject : Subject) (facts : Facts) (m : ℕ) (r : Row) → Meets d kind subject facts m r → meets d kind subject facts m r ≡ true
meets_from d kind subject facts m r h =
    and_from _ _ (and_from _ _ (and_from _ _ (same_kind-from r.kind kind h.applies.of_kind) (below_from r.expires m h.applies.live.unexpired)) (counted_from d (nat_lt 0 r.disabled) h.counted)) h.applies.means_true

pub first_meets : (d : Bool) (kind : Kind) (subject : Subject) (facts : Facts) (m : ℕ) (rows : List Row) → IsFirstOf (Meets d kind subject facts m) rows (first (meets d kind subject facts m) rows)
first_meets d kind subject facts m rows = first_is (meets d kind subject facts m) (Meets d kind subject facts m) (meets_to d kind subject facts m) (meets_from d kind subject facts m) rows

-- a search that goes on by one more row at the end

one_of : (P : Row → Type 0) (x : Row) → P x → All P (x ∷ [])
one_of P x p = All-cons P x [] p (All-nil P)

all_more : (P : Row → Type 0) (rs : List Row) (x : Row) → All P rs → P x → All P (rs ++ x ∷ [])
all_more P rs x all p = All-append P rs (x ∷ []) all (one_of P x p)

contains_last : (rs : List Row) (x : Row) → Contains (rs ++ x ∷ []) x
contains_last rs x = Contains-append_right rs (x ∷ []) x (first_one x [])

last_first : (P : Row → Type 0) (rs : List Row) (x : Row) → HasNone P rs → P x → IsFirst P (rs ++ x ∷ []) x
last_first P rs x none p = record {
  among = contains_last rs x;
  itself = p;
  first = all_more (λ s. P s → Before (rank_of s) (rank_of x) → ⊥) rs x (λ k d h q b. none k d h q) (λ q b. before_irrefl (rank_of x) b);
}

last_sooner : (P : Row → Type 0) (rs : List Row) (x s : Row) → is_before (rank_of s) (rank_of x) ≡ false → IsFirst P rs s → P x → IsFirst P (rs ++ x ∷ []) x
last_sooner P rs x s after f p = record {
  among = contains_last rs x;
  itself = p;
  first = all_more (λ r. P r → Before (rank_of r) (rank_of x) → ⊥) rs x (λ k d h q b. f.first k d h q (before_on (rank_of (get_or rs k d)) (rank_of x) (rank_of s) after b)) (λ q b. before_irrefl (rank_of x) b);
}

last_later : (P : Row → Type 0) (rs : List Row) (x s : Row) → (P x → Before (rank_of x) (rank_of s) → ⊥) → IsFirst P rs s → IsFirst P (rs ++ x ∷ []) s
last_later P rs x s not' f = record {
  among = Contains-append_left rs (x ∷ []) s f.among;
  itself = f.itself;
  first = all_more (λ r. P r → Before (rank_of r) (rank_of s) → ⊥) rs x f.first not';
}

last_ahead : (P : Row → Type 0) (rs : List Row) (x s : Row) (c : Bool) → is_before (rank_of s) (rank_of x) ≡ c → IsFirst P rs s → P x → Before (rank_of x) (rank_of s) → IsFirst P (rs ++ x ∷ []) x
last_ahead P rs x s true e f p ahead = absurd (before_asym (rank_of x) (rank_of s) ahead (test_before (rank_of s) (rank_of x) e))
last_ahead P rs x s false e f p ahead = last_sooner P rs x s e f p

-- one that has the property, and is before the row that was found
pub finds_last : (P : Row → Type 0) (rs : List Row) (x : Row) (o : Option Row) → IsFirstOf P rs o → P x → IfSome o (λ s. Before (rank_of x) (rank_of s)) → IsFirstOf P (rs ++ x ∷ []) (Some x)
finds_last P rs x None none p ahead = last_first P rs x none p
finds_last P rs x (Some s) f p ahead = last_ahead P rs x s (is_before (rank_of s) (rank_of x)) refl f p ahead

-- one that hasn't
pub fails_last : (P : Row → Type 0) (rs : List Row) (x : Row) (o : Option Row) → IsFirstOf P rs o → (P x → ⊥) → IsFirstOf P (rs ++ x ∷ []) o
fails_last P rs x None none not' = all_more (λ s. P s → ⊥) rs x none not'
fails_last P rs x (Some s) f not' = last_later P rs x s (λ p b. not' p) f

-- one that isn't before the row that was found
pub later_last : (P : Row → Type 0) (rs : List Row) (x s : Row) → IsFirstOf P rs (Some s) → (Before (rank_of x) (rank_of s) → ⊥) → IsFirstOf P (rs ++ x ∷ []) (Some s)
later_last P rs x s f not' = last_later P rs x s (λ p b. not' b) f
