-- What an edit drops, said by the rules that are before others.
use Rattle.std.proofs.Common.{◌≡◌, List, [], ◌∷◌, refl, arith, inl, inr}
use Rattle.std.specs.Prelude.{All, Bool, true, false, not, ◌&&◌}
use Rattle.std.specs.List.{list_any}
use Rattle.std.proofs.lemmas.Int.{ints}
use Rattle.std.proofs.lemmas.Bool.{or_parts, or_from, cases_Bool, both_ways, not-true}
use Rattle.std.proofs.lemmas.Bool.Decides.{nat_tests}
use Rattle.std.proofs.lemmas.List.Elements.{All-head, All-tail, All-cons, All-nil}
use Rattle.policy_model.specs.Rules.{Row, Rank, Kind, same_kind, rank_of, Before, is_before}
use Rattle.policy_model.proofs.FirstRows.{same_kind-true, same_kind-from, test_before}
use Rattle.object_model.specs.DropLaws.{GovernedOutlasts, DefaultOutlasts}

before_test : (a b : Rank) → Before a b → is_before a b ≡ true
before_test a b h = grind (arith, ints, nat_tests, h)

apart_one : (kind : Kind) (rank : Rank) (r : Row) (c : Bool) → same_kind r.kind kind ≡ c → (same_kind r.kind kind && not (is_before rank (rank_of r))) ≡ false → r.kind ≡ kind → Before rank (rank_of r)
apart_one kind rank r true e h k = elim (cases_Bool (is_before rank (rank_of r))) as (λ _. Before rank (rank_of r)) [ inl t ↦ test_before rank (rank_of r) t | inr f ↦ absurd (both_ways (same_kind r.kind kind && not (is_before rank (rank_of r))) h (grind (arith, e, f))) ]
apart_one kind rank r false e h k = absurd (both_ways (same_kind r.kind kind) e (same_kind-from r.kind kind k))

apart_to : (kind : Kind) (rank : Rank) (touched : List Row) → list_any (λ r. same_kind r.kind kind && not (is_before rank (rank_of r))) touched ≡ false → All (λ r. r.kind ≡ kind → Before rank (rank_of r)) touched
apart_to kind rank [] h = All-nil (λ (r : Row). r.kind ≡ kind → Before rank (rank_of r))
apart_to kind rank (r ∷ rs) h = let p = or_parts (same_kind r.kind kind && not (is_before rank (rank_of r))) (list_any (λ r. same_kind r.kind kind && not (is_before rank (rank_of r))) rs) h in
    All-cons (λ (x : Row). x.kind ≡ kind → Before rank (rank_of x)) r rs (apart_one kind rank r (same_kind r.kind kind) refl p.0) (apart_to kind rank rs p.1)

apart_back : (kind : Kind) (rank : Rank) (r : Row) (c : Bool) → same_kind r.kind kind ≡ c → (r.kind ≡ kind → Before rank (rank_of r)) → (same_kind r.kind kind && not (is_before rank (rank_of r))) ≡ false
apart_back kind rank r true e h = let t : is_before rank (rank_of r) ≡ true = before_test rank (rank_of r) (h (same_kind-true r.kind kind e)) in grind (arith, e, t)
apart_back kind rank r false e h = grind (arith, e)

apart_from : (kind : Kind) (rank : Rank) (touched : List Row) → All (λ r. r.kind ≡ kind → Before rank (rank_of r)) touched → list_any (λ r. same_kind r.kind kind && not (is_before rank (rank_of r))) touched ≡ false
apart_from kind rank [] h = refl
apart_from kind rank (r ∷ rs) h = or_from (same_kind r.kind kind && not (is_before rank (rank_of r))) (list_any (λ r. same_kind r.kind kind && not (is_before rank (rank_of r))) rs)
    (apart_back kind rank r (same_kind r.kind kind) refl (All-head (λ (x : Row). x.kind ≡ kind → Before rank (rank_of x)) r rs h))
    (apart_from kind rank rs (All-tail (λ (x : Row). x.kind ≡ kind → Before rank (rank_of x)) r rs h))

not_from : (b : Bool) → b ≡ false → not b ≡ true
not_from true h = absurd (both_ways true h refl)
not_from false h = refl

pub governed_outlasts : GovernedOutlasts
governed_outlasts touched kind subject rank allow label inhibit until = (λ h. apart_to kind rank touched (not-true _ h), λ h. not_from _ (apart_from kind rank touched h))

pub default_outlasts : DefaultOutlasts
default_outlasts touched kind subject latent label until = (λ h. not-true _ h, λ h. not_from _ h)
