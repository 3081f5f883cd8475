-- Edits that failed, counted through a history.
use Rattle.std.proofs.Common.{◌≡◌, ◌≤◌, arith, ℕ, ◌+◌, List, [], ◌∷◌, ◌++◌, length, Bool, false, Option, Some, None, refl, ◌∙◌, ap, length-append}
use Rattle.std.specs.List.{filter}
use Rattle.std.proofs.lemmas.List.Elements.{filter-append}
use Rattle.gk_io.specs.Faults.{CanRise, Rose}
use Rattle.policy_model.specs.Contents.{Edit}
use Rattle.policy_model.specs.History.{Event, offer, ask, edit_failed}
use Rattle.policy_model.specs.Outcomes.{Ask}
use Rattle.object_model.specs.Objects.{Offered}
use Rattle.session_model.specs.Finishing.{with_offer}
use Rattle.policy_keeper.specs.Told.{Told}
use Rattle.desk_state.specs.Failures.{is_failed, failures, Shows, Keeps}

-- one event more
count_more : (h : List Event) (e : Event) → failures (h ++ e ∷ []) ≡ failures h + length (filter is_failed (e ∷ []))
count_more h e = ap length (filter-append is_failed h (e ∷ [])) ∙ length-append (filter is_failed h) (filter is_failed (e ∷ []))

none_of : {X : Type 0} (test : X → Bool) (x : X) → test x ≡ false → length (filter test (x ∷ [])) ≡ 0
none_of test x quiet = rw quiet refl

same_count : (h : List Event) (e : Event) → is_failed e ≡ false → failures (h ++ e ∷ []) ≡ failures h
same_count h e quiet =
    let more = count_more h e in
    let none = none_of is_failed e quiet in
    grind (arith, more, none)

-- where none of them failed
pub shows_same : (old new : List Event) (n : ℕ) → failures new ≡ failures old → Shows old new n n
shows_same old new n same = λ can. grind (arith, same)

pub shows_none : (h : List Event) (n : ℕ) → Shows h h n n
shows_none h n = shows_same h h n refl

pub shows_more : (h : List Event) (e : Event) (n : ℕ) → is_failed e ≡ false → Shows h (h ++ e ∷ []) n n
shows_more h e n quiet = shows_same h (h ++ e ∷ []) n (same_count h e quiet)

-- the same where the count is as it was
pub shows_steady : (h : List Event) (e : Event) (n m : ℕ) → is_failed e ≡ false → m ≡ n → Shows h (h ++ e ∷ []) n m
shows_steady h e n m quiet same = λ can. let none = same_count h e quiet in grind (arith, none, same)

offer_same : (f : Option Offered) (k : ℕ) (h : List Event) → failures (with_offer f k h) ≡ failures h
offer_same None k h = refl
offer_same (Some f) k h = same_count h (offer k) refl

-- an assessment that is finished
pub shows_offer : (f : Option Offered) (k : ℕ) (h : List Event) (n : ℕ) → Shows h (with_offer f k h) n n
shows_offer f k h n = shows_same h (with_offer f k h) n (offer_same f k h)

-- and one that begins and is finished
pub shows_both : (f : Option Offered) (k : ℕ) (h : List Event) (a : Ask) (n : ℕ) → Shows h (with_offer f k (h ++ ask a ∷ [])) n n
shows_both f k h a n = shows_same h (with_offer f k (h ++ ask a ∷ [])) n (offer_same f k (h ++ ask a ∷ []) ∙ same_count h (ask a) refl)

-- an edit that failed, where the count rose
pub shows_failed : (h : List Event) (e : Edit) (before now : ℕ) → Rose before now → Shows h (h ++ edit_failed e ∷ []) before now
shows_failed h e before now rose = λ can.
    let more : failures (h ++ edit_failed e ∷ []) ≡ failures h + 1 = count_more h (edit_failed e) in
    grind (arith, more, rose, can)

-- one line after the other
pub shows_on : (a b c : List Event) (n m k : ℕ) → m ≤ k → Shows a b n m → Shows b c m k → Shows a c n k
shows_on a b c n m k later first second = λ can.
    let low : CanRise m = omega (arith, later, can) in
    let one = first low in
    let two = second can in
    omega (arith, one, two)

-- and so it is with what a keeper tells
pub keeps_on : (a b c : Told) (n m k : ℕ) → Keeps a b n m → Keeps b c m k → Keeps a c n k
keeps_on a b c n m k first second = (λ some. first.0 (second.0 some), omega (arith, first.1, second.1))
