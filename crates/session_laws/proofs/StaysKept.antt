-- The edits of a session were asked for by its lines, so what it leaves is read again.
use Rattle.std.proofs.Common.{ℕ, List, sym, subst, Ok}
use Rattle.std.specs.Prelude.{All}
use Rattle.std.proofs.lemmas.List.Elements.{All-nil, All-append}
use Rattle.line_model.specs.Edits.{IsEditLine}
use Rattle.line_laws.specs.Limits.{AreBytes}
use Rattle.store_model.specs.Laws.{AcceptedRowsMeanKept}
use Rattle.store_model.specs.Again.{KeptIsReadAgain}
use Rattle.asked_edits.specs.Laws.{WasAsked, AskedHistoriesStayKept}
use Rattle.session_model.specs.Lines.{Request, tick, assess, begin, finish, status, edit, IsAsked}
use Rattle.session_laws.specs.Laws.{AsksByItsLine, SessionGoesOn, SessionWasAsked, SessionStaysKept, SessionIsReadAgain}
use Rattle.session_laws.proofs.GoesOn.{HoldsBeside, OnEdit, session_goes_on}

any_beside : HoldsBeside (λ event. Unit {0})
any_beside = record { tick = λ m. tt; ask = λ a. tt; offer = λ k. tt; look = tt }

any_edit : (line : List ℕ) (request : Request) → Unit {0} → IsAsked line (Ok request) → OnEdit (λ e. Unit {0}) request
any_edit line (tick m) any asked = tt
any_edit line (assess a) any asked = tt
any_edit line (begin n a) any asked = tt
any_edit line (finish n) any asked = tt
any_edit line status any asked = tt
any_edit line (edit e) any asked = tt

pub goes_on : SessionGoesOn
goes_on o s lines replies after session =
    let goes = session_goes_on (λ event. Unit {0}) any_beside (λ e. tt) (λ line. Unit {0}) any_edit o s lines replies after session (λ k d lt. tt) in
    (goes.more, goes.is)

asked_beside : HoldsBeside WasAsked
asked_beside = record { tick = λ m. tt; ask = λ a. tt; offer = λ k. tt; look = tt }

asked_edit : AsksByItsLine → (line : List ℕ) (request : Request) → AreBytes line → IsAsked line (Ok request) → OnEdit (λ e. (l : List ℕ) × AreBytes l × IsEditLine l (Ok e)) request
asked_edit its line (tick m) bytes asked = tt
asked_edit its line (assess a) bytes asked = tt
asked_edit its line (begin n a) bytes asked = tt
asked_edit its line (finish n) bytes asked = tt
asked_edit its line status bytes asked = tt
asked_edit its line (edit e) bytes asked = (line, bytes, its line e asked)

pub was_asked : AsksByItsLine → SessionWasAsked
was_asked its o s lines replies after session bytes before =
    let goes = session_goes_on WasAsked asked_beside (λ e. tt) AreBytes (asked_edit its) o s lines replies after session bytes in
    subst (All WasAsked) (sym goes.is) (All-append WasAsked s.history goes.more before goes.each)

pub stays_kept : SessionWasAsked → AskedHistoriesStayKept → SessionStaysKept
stays_kept asked stay o lines replies after session bytes kept =
    stay o.tables after.history kept (asked o _ lines replies after session bytes (All-nil WasAsked))

pub is_read_again : SessionStaysKept → AcceptedRowsMeanKept → KeptIsReadAgain → SessionIsReadAgain
is_read_again stay meant again o lines replies after raw left session bytes accepted holds means =
    again left _ (stay o lines replies after session bytes (meant raw o.tables accepted holds)) means
