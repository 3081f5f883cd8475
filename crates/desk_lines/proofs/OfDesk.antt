-- What is open stays of its desk.
use Rattle.std.proofs.Common.{◌≡◌, List, [], ◌∷◌, ◌++◌, Bool, true, false, cond, Some, sym, subst}
use Rattle.std.specs.List.{find}
use Rattle.std.proofs.lemmas.List.Elements.{All-nil, All-weaker, All-head, All-tail, All-cons, All-push}
use Rattle.object_model.specs.OfDesk.{KeepsOf}
use Rattle.object_model.specs.Plain.{Plain}
use Rattle.session_model.specs.Slots.{but_first}
use Rattle.desk_state.specs.Judged.{IsLookedOfDesk}
use Rattle.desk_state.specs.declared.judged.Looked.{Looked}
use Rattle.desk_state.specs.declared.judged.Looked.TheVariants.{Known, Open}
use Rattle.desk_lines.specs.declared.slots.OpenSlot.{OpenSlot}
use Rattle.desk_lines.specs.Slots.{AreOfDesk}

-- one that is open is of a desk that holds this
abbrev IsOpenOf : Plain → OpenSlot → Type 0
IsOpenOf d c = IsLookedOfDesk d c.looked

looked_stays : (d e : Plain) (l : Looked) → KeepsOf d e → IsLookedOfDesk d l → IsLookedOfDesk e l
looked_stays d e (Known v) keep of = tt
looked_stays d e (Open j) keep of = keep _ _ _ _ _ of

-- a call that keeps what is of the desk keeps what is open
pub stay_of_desk : (d e : Plain) (cs : List OpenSlot) → KeepsOf d e → AreOfDesk d cs → AreOfDesk e cs
stay_of_desk d e cs keep all = All-weaker (IsOpenOf d) (IsOpenOf e) (λ c of. looked_stays d e c.looked keep of) cs all

-- one more that is of the desk
pub push_of_desk : (d : Plain) (cs : List OpenSlot) (c : OpenSlot) → AreOfDesk d cs → IsLookedOfDesk d c.looked → AreOfDesk d (cs ++ c ∷ [])
push_of_desk d cs c all of = All-push (IsOpenOf d) cs c all of

found_one : (d : Plain) (test : OpenSlot → Bool) (x c : OpenSlot) (xs : List OpenSlot) (b : Bool) → Some c ≡ cond b (Some x) (find test xs) → AreOfDesk d (x ∷ xs)
    → (Some c ≡ find test xs → AreOfDesk d xs → IsLookedOfDesk d c.looked) → IsLookedOfDesk d c.looked
found_one d test x c xs true is all rest = let same : c ≡ x = cc in subst (IsOpenOf d) (sym same) (All-head (IsOpenOf d) x xs all)
found_one d test x c xs false is all rest = rest is (All-tail (IsOpenOf d) x xs all)

-- what is found among them is of the desk
pub found_of_desk : (d : Plain) (test : OpenSlot → Bool) (c : OpenSlot) (cs : List OpenSlot) → Some c ≡ find test cs → AreOfDesk d cs → IsLookedOfDesk d c.looked
found_of_desk d test c [] is all = cc
found_of_desk d test c (x ∷ xs) is all = found_one d test x c xs (test x) is all (found_of_desk d test c xs)

left_one : (d : Plain) (x : OpenSlot) (xs rest : List OpenSlot) (b : Bool) → AreOfDesk d (x ∷ xs) → AreOfDesk d rest → AreOfDesk d (cond b xs (x ∷ rest))
left_one d x xs rest true all left = All-tail (IsOpenOf d) x xs all
left_one d x xs rest false all left = All-cons (IsOpenOf d) x rest (All-head (IsOpenOf d) x xs all) left

-- and so is what is left
pub left_of_desk : (d : Plain) (test : OpenSlot → Bool) (cs : List OpenSlot) → AreOfDesk d cs → AreOfDesk d (but_first test cs)
left_of_desk d test [] all = all
left_of_desk d test (x ∷ xs) all = left_one d x xs (but_first test xs) (test x) all (left_of_desk d test xs (All-tail (IsOpenOf d) x xs all))

-- where nothing is open there is nothing to be
pub none_of_desk : (d : Plain) (cs : List OpenSlot) → cs ≡ [] → AreOfDesk d cs
none_of_desk d cs is = subst (AreOfDesk d) (sym is) (All-nil (IsOpenOf d))
