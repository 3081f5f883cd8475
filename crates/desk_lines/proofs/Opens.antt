-- What is open stays so while other things happen, and one can be added at the end or taken out.
use Rattle.std.proofs.Common.{◌≡◌, ◌≢◌, ℕ, suc, ◌≤◌, ◌<◌, List, [], ◌∷◌, ◌++◌, length, take, slice_get, Bool, true, false, cond, ◌==◌, Option, Some, None, refl, sym, ◌∙◌, ap, subst, arith}
use Rattle.std.specs.List.{find, list_any}
use Rattle.policy_model.specs.Outcomes.{Ask}
use Rattle.policy_model.specs.History.{Event, ask, offer, Opening}
use Rattle.object_model.specs.Laws.{TicketStays}
use Rattle.session_model.specs.Slots.{Slot, has_number, but_first}
use Rattle.desk_state.specs.declared.judged.Looked.{Looked}
use Rattle.desk_state.specs.declared.judged.Looked.TheVariants.{Known, Open}
use Rattle.desk_lines.specs.declared.slots.OpenSlot.{OpenSlot}
use Rattle.desk_lines.specs.Slots.{IsHeld, IsOpenAt, AreOpen}
use Rattle.desk_lines.proofs.Places.{get_more, take_more, below}

held_more : TicketStays → (o : Opening) (h : List Event) (k : ℕ) (a : Ask) (e : Event) (b : Looked) → slice_get h k ≡ Some (ask a) → e ≢ offer k → IsHeld o h k a b → IsHeld o (h ++ e ∷ []) k a b
held_more stay o h k a e (Known v) at other held =
    let same : take k (h ++ e ∷ []) ≡ take k h = take_more h k (ask a) e at in
    rw same held
held_more stay o h k a e (Open j) at other held = (held.0, held.1, stay held.0 o h k e other held.2)

pub open_more : TicketStays → (o : Opening) (h : List Event) (e : Event) (c : OpenSlot) (s : Slot) → e ≢ offer s.place → IsOpenAt o h c s → IsOpenAt o (h ++ e ∷ []) c s
open_more stay o h e c s other is = record {
  number_is = is.number_is;
  asked = is.asked;
  stands = get_more h s.place (ask is.asked) e is.stands;
  held = held_more stay o h s.place is.asked e c.looked is.stands other is.held;
}

-- an event that is no offer of what is open
pub opens_stay : TicketStays → (o : Opening) (h : List Event) (e : Event) (m : ℕ) (cs : List OpenSlot) (ss : List Slot) → ((k : ℕ) → k < length h → e ≢ offer k) → AreOpen o h m cs ss → AreOpen o (h ++ e ∷ []) m cs ss
opens_stay stay o h e m [] [] other stand = tt
opens_stay stay o h e m (c ∷ cs) (s ∷ ss) other stand =
    (stand.0, open_more stay o h e c s (other s.place (below h s.place (ask stand.1.asked) stand.1.stands)) stand.1, opens_stay stay o h e (suc s.place) cs ss other stand.2)
opens_stay stay o h e m [] (s ∷ ss) other stand = absurd stand
opens_stay stay o h e m (c ∷ cs) [] other stand = absurd stand

-- an offer of a place that comes before them all
opens_above : TicketStays → (o : Opening) (h : List Event) (k m : ℕ) (cs : List OpenSlot) (ss : List Slot) → ((j : ℕ) → j ≢ k → offer k ≢ offer j) → k < m → AreOpen o h m cs ss → AreOpen o (h ++ offer k ∷ []) m cs ss
opens_above stay o h k m [] [] other less stand = tt
opens_above stay o h k m (c ∷ cs) (s ∷ ss) other less stand =
    (stand.0, open_more stay o h (offer k) c s (other s.place (λ is. omega (arith, less, stand.0, is))) stand.1, opens_above stay o h k (suc s.place) cs ss other (omega (arith, less, stand.0)) stand.2)
opens_above stay o h k m [] (s ∷ ss) other less stand = absurd stand
opens_above stay o h k m (c ∷ cs) [] other less stand = absurd stand

-- a later bound is an earlier one
lower : (o : Opening) (h : List Event) (m n : ℕ) (cs : List OpenSlot) (ss : List Slot) → m ≤ n → AreOpen o h n cs ss → AreOpen o h m cs ss
lower o h m n [] [] le stand = tt
lower o h m n (c ∷ cs) (s ∷ ss) le stand = (omega (arith, le, stand.0), stand.1, stand.2)
lower o h m n [] (s ∷ ss) le stand = absurd stand
lower o h m n (c ∷ cs) [] le stand = absurd stand

-- one more at the end, at the last place
pub opens_push : TicketStays → (o : Opening) (h : List Event) (e : Event) (m : ℕ) (c : OpenSlot) (s : Slot) (cs : List OpenSlot) (ss : List Slot) → s.place ≡ length h → m ≤ length h → ((k : ℕ) → k < length h → e ≢ offer k)
    → AreOpen o h m cs ss → IsOpenAt o (h ++ e ∷ []) c s → AreOpen o (h ++ e ∷ []) m (cs ++ c ∷ []) (ss ++ s ∷ [])
opens_push stay o h e m c s [] [] last le other stand is = (omega (arith, last, le), is, tt)
opens_push stay o h e m c s (d ∷ cs) (t ∷ ss) last le other stand is =
    let less : t.place < length h = below h t.place (ask stand.1.asked) stand.1.stands in
    (stand.0, open_more stay o h e d t (other t.place less) stand.1, opens_push stay o h e (suc t.place) c s cs ss last (omega (arith, less)) other stand.2 is)
opens_push stay o h e m c s [] (t ∷ ss) last le other stand is = absurd stand
opens_push stay o h e m c s (d ∷ cs) [] last le other stand is = absurd stand

-- the open one that is taken out, and what is left open
pub record Taken (o : Opening) (h : List Event) (m n : ℕ) (c : OpenSlot) (cs : List OpenSlot) (ss : List Slot) : Type 0 where
  pub slot : Slot
  pub least : m ≤ slot.place
  pub found : find (has_number n) ss ≡ Some slot
  pub is : IsOpenAt o h c slot
  pub rest : AreOpen o h m (but_first (λ d. d.number == n) cs) (but_first (has_number n) ss)
  pub after : AreOpen o (h ++ offer slot.place ∷ []) m (but_first (λ d. d.number == n) cs) (but_first (has_number n) ss)

other_place : (j k : ℕ) → j ≢ k → offer k ≢ offer j
other_place j k apart is = let same : j ≡ k = cc in apart same

got : {A : Type 0} (x c : A) (rest : Option A) (b : Bool) → b ≡ true → cond b (Some x) rest ≡ Some c → x ≡ c
got x c rest true is found = cc
got x c rest false is found = cc

passed : {A : Type 0} (x : A) (rest y : Option A) (b : Bool) → b ≡ false → cond b (Some x) rest ≡ y → rest ≡ y
passed x rest y true is found = cc
passed x rest y false is found = found

kept_first : {A : Type 0} (test : A → Bool) (x : A) (xs : List A) → test x ≡ false → but_first test (x ∷ xs) ≡ x ∷ but_first test xs
kept_first test x xs is = ap (λ b. cond b xs (x ∷ but_first test xs)) is

dropped_first : {A : Type 0} (test : A → Bool) (x : A) (xs : List A) → test x ≡ true → but_first test (x ∷ xs) ≡ xs
dropped_first test x xs is = ap (λ b. cond b xs (x ∷ but_first test xs)) is

-- what is open by equal lists
same_open : (o : Opening) (h : List Event) (m : ℕ) (cs ds : List OpenSlot) (ss ts : List Slot) → ds ≡ cs → ts ≡ ss → AreOpen o h m cs ss → AreOpen o h m ds ts
same_open o h m cs ds ss ts one other stand = subst (λ (x : List OpenSlot). AreOpen o h m x ts) (sym one) (subst (λ (x : List Slot). AreOpen o h m cs x) (sym other) stand)

taken_by : TicketStays → (o : Opening) (h : List Event) (m n : ℕ) (c d : OpenSlot) (s : Slot) (cs : List OpenSlot) (ss : List Slot) (b : Bool) → (d.number == n) ≡ b
    → find (λ x. x.number == n) (d ∷ cs) ≡ Some c → (m ≤ s.place) → IsOpenAt o h d s → AreOpen o h (suc s.place) cs ss → (find (λ x. x.number == n) cs ≡ Some c → Taken o h (suc s.place) n c cs ss)
    → Taken o h m n c (d ∷ cs) (s ∷ ss)
taken_by stay o h m n c d s cs ss true here found le is stand rest =
    let there : (s.number == n) ≡ true = ap (λ x. x == n) (sym is.number_is) ∙ here in
    let same : d ≡ c = got d c (find (λ x. x.number == n) cs) (d.number == n) here found in
    record {
      slot = s;
      least = le;
      found = rw there refl;
      is = subst (λ x. IsOpenAt o h x s) same is;
      rest = same_open o h m cs _ ss _ (dropped_first (λ (x : OpenSlot). x.number == n) d cs here) (dropped_first (has_number n) s ss there) (lower o h m (suc s.place) cs ss (omega (arith, le)) stand);
      after = same_open o (h ++ offer s.place ∷ []) m cs _ ss _ (dropped_first (λ (x : OpenSlot). x.number == n) d cs here) (dropped_first (has_number n) s ss there) (lower o (h ++ offer s.place ∷ []) m (suc s.place) cs ss (omega (arith, le)) (opens_above stay o h s.place (suc s.place) cs ss (λ j apart. other_place j s.place apart) (omega arith) stand));
    }
taken_by stay o h m n c d s cs ss false here found le is stand rest =
    let there : (s.number == n) ≡ false = ap (λ x. x == n) (sym is.number_is) ∙ here in
    let later : Taken o h (suc s.place) n c cs ss = rest (passed d (find (λ x. x.number == n) cs) (Some c) (d.number == n) here found) in
    let least : suc s.place ≤ later.slot.place = later.least in
    record {
      slot = later.slot;
      least = omega (arith, le, least);
      found = rw there later.found;
      is = later.is;
      rest = same_open o h m (d ∷ but_first (λ (x : OpenSlot). x.number == n) cs) _ (s ∷ but_first (has_number n) ss) _ (kept_first (λ (x : OpenSlot). x.number == n) d cs here) (kept_first (has_number n) s ss there) (le, is, later.rest);
      after = same_open o (h ++ offer later.slot.place ∷ []) m (d ∷ but_first (λ (x : OpenSlot). x.number == n) cs) _ (s ∷ but_first (has_number n) ss) _ (kept_first (λ (x : OpenSlot). x.number == n) d cs here) (kept_first (has_number n) s ss there) (le, open_more stay o h (offer later.slot.place) d s (other_place s.place later.slot.place (λ eq. omega (arith, eq, least))) is, later.after);
    }

pub taken : TicketStays → (o : Opening) (h : List Event) (m n : ℕ) (c : OpenSlot) (cs : List OpenSlot) (ss : List Slot) → find (λ x. x.number == n) cs ≡ Some c → AreOpen o h m cs ss → Taken o h m n c cs ss
taken stay o h m n c [] [] found stand = cc
taken stay o h m n c (d ∷ cs) (s ∷ ss) found stand =
    taken_by stay o h m n c d s cs ss (d.number == n) refl found stand.0 stand.1 stand.2 (λ more. taken stay o h (suc s.place) n c cs ss more stand.2)
taken stay o h m n c [] (s ∷ ss) found stand = absurd stand
taken stay o h m n c (d ∷ cs) [] found stand = absurd stand

-- numbers are open on both sides or on none
pub same_numbers : (o : Opening) (h : List Event) (m n : ℕ) (cs : List OpenSlot) (ss : List Slot) → AreOpen o h m cs ss → list_any (λ c. c.number == n) cs ≡ list_any (has_number n) ss
same_numbers o h m n [] [] stand = refl
same_numbers o h m n (c ∷ cs) (s ∷ ss) stand = rw (stand.1.number_is, same_numbers o h (suc s.place) n cs ss stand.2) refl
same_numbers o h m n [] (s ∷ ss) stand = absurd stand
same_numbers o h m n (c ∷ cs) [] stand = absurd stand

none_one : {A : Type 0} (x : A) (rest : Option A) (b : Bool) → cond b (Some x) rest ≡ None → b ≡ false
none_one x rest true none = cc
none_one x rest false none = refl

pub none_found : (o : Opening) (h : List Event) (m n : ℕ) (cs : List OpenSlot) (ss : List Slot) → AreOpen o h m cs ss → find (λ c. c.number == n) cs ≡ None → find (has_number n) ss ≡ None
none_found o h m n [] [] stand none = refl
none_found o h m n (c ∷ cs) (s ∷ ss) stand none =
    let here : (c.number == n) ≡ false = none_one c (find (λ x. x.number == n) cs) (c.number == n) none in
    let there : (s.number == n) ≡ false = ap (λ x. x == n) (sym stand.1.number_is) ∙ here in
    rw there (none_found o h (suc s.place) n cs ss stand.2 (passed c (find (λ x. x.number == n) cs) None (c.number == n) here none))
none_found o h m n [] (s ∷ ss) stand none = absurd stand
none_found o h m n (c ∷ cs) [] stand none = absurd stand

pub same_count : (o : Opening) (h : List Event) (m : ℕ) (cs : List OpenSlot) (ss : List Slot) → AreOpen o h m cs ss → length cs ≡ length ss
same_count o h m [] [] stand = refl
same_count o h m (c ∷ cs) (s ∷ ss) stand = ap suc (same_count o h (suc s.place) cs ss stand.2)
same_count o h m [] (s ∷ ss) stand = absurd stand
same_count o h m (c ∷ cs) [] stand = absurd stand
