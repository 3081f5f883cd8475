-- A desk's session goes on line by line.
use Rattle.std.proofs.Common.{◌≡◌, ◌≤◌, ℕ, List, [], ◌∷◌, ◌++◌, take, Result, refl, ◌∙◌, ap, subst}
use Rattle.line_text.specs.declared.limits.TheConstants.{LINE_HELD}
use Rattle.policy_model.specs.History.{Opening}
use Rattle.desk_state.specs.declared.desk.Desk.{Desk}
use Rattle.session_model.specs.Laws.{FrontAsksTheSame}
use Rattle.line_model.specs.LineFaults.{LineFault}
use Rattle.session_model.specs.Lines.{Request, Lined, lined, Asks, IsAsked}
use Rattle.session_model.specs.Slots.{State}
use Rattle.session_model.specs.Session.{Session, Replies}
use Rattle.desk_lines.specs.declared.slots.OpenSlot.{OpenSlot}
use Rattle.desk_lines.proofs.Failed.{shows_on}
use Rattle.desk_lines.specs.Answered.{HasAnswered, HasAnsweredSo, IsAt, HasReplied}

session_more : (o : Opening) (s : State) (lines replies : List (List ℕ)) (mid after : State) (line reply : List ℕ)
    → (asked : Result Request LineFault) → Session o s lines replies mid → IsAsked line asked → Replies o mid asked reply after
    → Session o s (lines ++ line ∷ []) (replies ++ reply ∷ []) after
session_more o s [] [] mid after line reply asked before is r = (asked, after, is, subst (λ (x : State). Replies o x asked reply after) before r, refl)
session_more o s (l ∷ lines) (a ∷ replies) mid after line reply asked before is r =
    (before.0, before.1, before.2, before.3, session_more o before.1 lines replies mid after line reply asked before.4 is r)
session_more o s [] (a ∷ replies) mid after line reply asked before is r = absurd before
session_more o s (l ∷ lines) [] mid after line reply asked before is r = absurd before

-- a desk that replied to what a line's front asks for answered one line more
pub answered_more : (start old new : Desk) (held opened : List OpenSlot) (before mid counted : ℕ) (asked : Result Request LineFault) (reply line whole : List ℕ) (lines replies : List (List ℕ))
    → mid ≤ counted → FrontAsksTheSame → IsAsked line asked → line ≡ take LINE_HELD whole → HasReplied old held new opened mid counted asked reply → HasAnsweredSo start old held before mid lines replies
    → HasAnsweredSo start new opened before counted (lines ++ whole ∷ []) (replies ++ reply ∷ [])
answered_more start old new held opened before mid counted asked reply line whole lines replies later same asks front replied answered = λ o s stands.
    let first = answered o s stands in
    let step = replied o first.0 first.2.0 first.2.1 in
    let asks_whole : IsAsked whole asked = subst (λ (read : Result Lined LineFault). Asks read asked) (ap lined front ∙ same whole) asks in (
      step.0,
      session_more o s lines replies first.0 step.0 whole reply asked first.1 asks_whole step.1,
      (step.2, step.3),
      shows_on s.history first.0.history step.0.history before mid counted later first.3 step.4,
    )

-- a desk that still stands where it stood answered the same lines
pub answered_still : (start old new : Desk) (held opened : List OpenSlot) (before mid counted : ℕ) (lines replies : List (List ℕ))
    → counted ≡ mid → ((o : Opening) (s : State) → IsAt old held o s → IsAt new opened o s)
    → HasAnsweredSo start old held before mid lines replies → HasAnsweredSo start new opened before counted lines replies
answered_still start old new held opened before mid counted lines replies same still answered = λ o s stands.
    let first = answered o s stands in (first.0, first.1, still o first.0 first.2, rw same first.3)

-- what a desk and its open assessments answered, the desk answered
pub answered_alone : (start now : Desk) (slots : List OpenSlot) (before counted : ℕ) (lines replies : List (List ℕ)) → HasAnsweredSo start now slots before counted lines replies → HasAnswered start now before counted lines replies
answered_alone start now slots before counted lines replies answered = λ o s stands. let first = answered o s stands in (first.0, first.1, first.2.0, first.3)
