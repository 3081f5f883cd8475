-- Rules that were sorted by rank stand in the order in which they are tried.
use Rattle.std.proofs.Common.{◌≡◌, ℕ, zero, suc, ◌<◌, ◌≤◌, length, get_or, List, [], ◌∷◌, refl, ap, ◌∙◌, arith}
use Rattle.std.specs.Prelude.{Bool, true, false, cond, ◌&&◌, ◌||◌, nat_lt, int_lt, ◌==◌}
use Rattle.std.specs.Borrow.{Bor}
use Rattle.std.specs.Cmp.{IsStrictWeakOrder}
use Rattle.std.specs.Fn.{Called, ComparesAs}
use Rattle.std.specs.List.{AllByRecursion}
use Rattle.std.specs.List.Sorted.{IsSortedBy}
use Rattle.std.specs.declared.cmp.Ordering.{Ordering}
use Rattle.std.specs.declared.cmp.Ordering.TheVariants.{Less, Equal, Greater}
use Rattle.std.specs.Ordering.{is_lt, is_eq, ordering_then, nat_cmp}
use Rattle.std.proofs.lemmas.Int.{ints}
use Rattle.std.proofs.lemmas.Bool.Decides.{nat_tests}
use Rattle.std.proofs.lemmas.Fn.{always_returns_same}
use Rattle.std.proofs.lemmas.List.Sorted.{sorted_far}
use denote.Param.Members.{Mut}
use Rattle.policy_model.specs.Rules.{Rank, rank_of, Before, is_before}
use Rattle.rule_values.specs.declared.rule.Rule.{Rule}
use Rattle.rule_values.specs.Rank.{rank_cmp}
use Rattle.rule_values.specs.Rule.{row_of, rows_of}
use Rattle.authority_table.specs.Snapshot.{IsByRank}

less_of : (t e : Bool) → is_lt (cond t Less (cond e Equal Greater)) ≡ t
less_of true e = refl
less_of false true = refl
less_of false false = refl

then_of : (p q : Bool) (o : Ordering) → is_lt (ordering_then (cond p Less (cond q Greater Equal)) o) ≡ (p || (is_eq (cond q Less (cond p Greater Equal)) && is_lt o))
then_of true q o = refl
then_of false true o = refl
then_of false false o = refl

-- the order of ranks is that in which rules are tried
pub less_is_before : (a b : Rank) → is_lt (rank_cmp a b) ≡ is_before a b
less_is_before a b =
    then_of (int_lt b.priority a.priority) (int_lt a.priority b.priority) (nat_cmp a.id b.id)
    ∙ ap (λ t. int_lt b.priority a.priority || (is_eq (cond (int_lt a.priority b.priority) Less (cond (int_lt b.priority a.priority) Greater Equal)) && t)) (less_of (nat_lt a.id b.id) (a.id == b.id))

pub not_tried_before : (a b : Rank) → is_before a b ≡ false → Before a b → ⊥
not_tried_before a b h k = grind (arith, ints, nat_tests, h, k)

test_false : (a b : Rank) (t : Bool) → is_before a b ≡ t → (is_before a b ≡ true → ⊥) → t ≡ false
test_false a b true e h = absurd (h e)
test_false a b false e h = refl

ahead_one_way : (a b : Rank) → is_before a b ≡ true → is_before b a ≡ false
ahead_one_way a b h = test_false b a (is_before b a) refl (λ e. grind (arith, ints, nat_tests, h, e))

pub ahead_through : (a b c : Rank) → is_before a b ≡ false → is_before b c ≡ false → is_before a c ≡ false
ahead_through a b c h k = test_false a c (is_before a c) refl (λ e. grind (arith, ints, nat_tests, h, k, e))

test_true : (a b : Rank) (t : Bool) → is_before a b ≡ t → (is_before a b ≡ false → ⊥) → t ≡ true
test_true a b true e h = refl
test_true a b false e h = absurd (h e)

-- the test is Before
pub before_true : (a b : Rank) → Before a b → is_before a b ≡ true
before_true a b k = test_true a b (is_before a b) refl (λ e. not_tried_before a b e k)

before_from : (a b : Rank) → is_before a b ≡ true → Before a b
before_from a b e = grind (arith, ints, nat_tests, e)

pub before_false : (a b : Rank) → (Before a b → ⊥) → is_before a b ≡ false
before_false a b k = test_false a b (is_before a b) refl (λ e. k (before_from a b e))

abbrev ahead : Rule → Rule → Bool
ahead one other = is_before (rank_of (row_of one)) (rank_of (row_of other))

ahead_orders : IsStrictWeakOrder ahead
ahead_orders = record {
  one_way = λ x y h. ahead_one_way (rank_of (row_of x)) (rank_of (row_of y)) h;
  chain = λ x y z h k. ahead_through (rank_of (row_of x)) (rank_of (row_of y)) (rank_of (row_of z)) h k;
}

none_ahead : (r : Rule) (rules : List Rule) → ((k : ℕ) (d : Rule) → k < length rules → ahead (get_or rules k d) r ≡ false) →
    AllByRecursion (λ s. Before (rank_of s) (rank_of (row_of r)) → ⊥) (rows_of rules)
none_ahead r [] h = tt
none_ahead r (x ∷ rules) h = (λ b. not_tried_before (rank_of (row_of x)) (rank_of (row_of r)) (h zero x (omega arith)) b, none_ahead r rules (λ k d l. h (suc k) d (omega (arith, l))))

by_rank : (rules : List Rule) → ((i j : ℕ) (d : Rule) → i ≤ j → j < length rules → ahead (get_or rules j d) (get_or rules i d) ≡ false) → IsByRank (rows_of rules)
by_rank [] h = tt
by_rank (r ∷ rules) h = (none_ahead r rules (λ k d l. h zero (suc k) d (omega arith) (omega (arith, l))), by_rank rules (λ i j d le l. h (suc i) (suc j) d (omega (arith, le)) (omega (arith, l))))

-- what a sort by ranks leaves
pub ranked_from_sort : {F : Type 0} {g : Mut F (Bor Rule × (Bor Rule × Unit {0})) Ordering} {f : F} (rules : List Rule) →
    ((lt : Rule → Rule → Bool) → IsStrictWeakOrder lt → ComparesAs g lt f → IsSortedBy lt rules) →
    ((a : Bor Rule × (Bor Rule × Unit {0})) (r : Ordering) (f' : F) → Called g f a r f' → (r ≡ rank_cmp (rank_of (row_of a.0.now)) (rank_of (row_of a.1.0.now))) × (f' ≡ f)) → IsByRank (rows_of rules)
ranked_from_sort {g = g} {f = f} rules up h =
    by_rank rules (sorted_far ahead ahead_orders rules (up ahead ahead_orders
    (always_returns_same g (λ a r. is_lt r ≡ ahead a.0.now a.1.0.now) f (λ a r f' k. (ap is_lt (h a r f' k).0 ∙ less_is_before (rank_of (row_of a.0.now)) (rank_of (row_of a.1.0.now)), (h a r f' k).1)))))
