-- From how the session of a desk ends to how a run ends.
use Rattle.std.proofs.Common.{◌≡◌, ◌≢◌, ◌⊎◌, ℕ, List, Option, inl, inr, refl, sym, ◌∙◌, subst}
use Rattle.gk_io.specs.Told.{AppendsFront}
use Rattle.std.specs.Io.KnownBytes.{Appends}
use Rattle.line_reader.specs.Lines.{with_lf}
use Rattle.line_session.specs.declared.ended.Ended.{Ended}
use Rattle.line_session.specs.declared.ended.Ended.TheVariants as ended
use Rattle.line_session.specs.Ends.{EndsFine, StopsBefore, BreaksOff, AtReadFault, AtLimit, AtWant, IsEnd}
use Rattle.gk_io.specs.Devices.{PassesSource, PassesSink}
use Rattle.desk_lines.specs.Memory.{TakesMemory}
use Rattle.policy_model.specs.History.{Opening}
use Rattle.policy_keeper.specs.Mirror.{Mirrors}
use Rattle.session_model.specs.Slots.{State}
use Rattle.desk_state.specs.Stands.{tables}
use Rattle.desk_state.specs.declared.desk.Desk.{Desk}
use Rattle.desk_lines.specs.Answered.{BeginsAt, HasAnswered}
use Rattle.run_status.specs.declared.status.Status.{Status}
use Rattle.run_status.specs.declared.status.Status.TheVariants.{Fine, ReadFault, WriteFault, ShelfFault, KeeperFault, SessionTooLong, OutOfMemory}
use Rattle.desk_state.specs.Failures.{Kept}
use Rattle.spctl_cli.specs.Headline.{IsSession}
use Rattle.spctl_cli.specs.LastLines.{read_fault_text, too_long_text, IsEndedBy}
use Rattle.spctl_cli.specs.Ends.{AnswersKept, TellsFault, BreaksAtFault, SessionEnds}
use Rattle.spctl_cli.specs.Statuses.{MayHide, IsOfSession}
use Rattle.spctl_cli.proofs.Devices.{source_for, sink_for, sink_then}

-- of a desk that stood for the state s, and whose tables the keeper has at the end
module _ (kept : Kept) (o : Opening) (s : State) (start desk : Desk) (begins : BeginsAt start o s) (mirrors : Mirrors kept.told (tables desk)) where
  -- the replies are those of a session
  answers : (lines replies : List (List ℕ)) → HasAnswered start desk kept.before kept.counted lines replies → AnswersKept kept o s lines replies
  answers lines replies answered =
      let it = answered o s begins in
      (it.0, it.1, subst (Mirrors kept.told) it.2.tables_are mirrors, it.3)

  -- a session that is read to its end
  pub session_fine : (left now written sent : Option (List ℕ)) → EndsFine (HasAnswered start desk kept.before kept.counted) left now written sent → (after : State) × IsSession kept o s after left now written sent
  session_fine left now written sent e =
      let it = answers _ e.replies e.answered in (
        it.0,
        record {
          bytes = e.bytes;
          replies = e.replies;
          taken = e.taken;
          at_end = e.at_end;
          within = e.within;
          put = e.put;
          session = it.1;
          mirrors = it.2;
          shows = it.3;
        },
      )

  -- a session that stops before its end
  pub session_stops : (Why : List (List ℕ) → List ℕ → Type 0) (left now written sent : Option (List ℕ)) → StopsBefore Why (HasAnswered start desk kept.before kept.counted) left now written sent → StopsBefore Why (AnswersKept kept o s) left now written sent
  session_stops Why left now written sent e = record {
    lines = e.lines;
    rest = e.rest;
    replies = e.replies;
    taken = e.taken;
    whole = e.whole;
    within = e.within;
    why = e.why;
    put = e.put;
    answered = answers e.lines e.replies e.answered;
  }

  -- a session whose sink fails at a reply
  pub session_breaks : (left now written sent : Option (List ℕ)) → BreaksOff (HasAnswered start desk kept.before kept.counted) left now written sent → BreaksOff (AnswersKept kept o s) left now written sent
  session_breaks left now written sent e = record {
    lines = e.lines;
    line = e.line;
    rest = e.rest;
    replies = e.replies;
    reply = e.reply;
    count = e.count;
    taken = e.taken;
    whole = e.whole;
    within = e.within;
    ended = e.ended;
    put = e.put;
    answered = answers _ _ e.answered;
  }

  -- and then the line of a fault
  session_tells : (Why : List (List ℕ) → List ℕ → Type 0) (text : List ℕ) (left now written mid sent : Option (List ℕ)) → StopsBefore Why (HasAnswered start desk kept.before kept.counted) left now written mid → Appends mid sent (with_lf text) → TellsFault Why text kept o s left now written sent
  session_tells Why text left now written mid sent e put = record { replied = mid; stops = session_stops Why left now written mid e; told = put }

  -- and then a front of the line of a fault
  session_cut : (Why : List (List ℕ) → List ℕ → Type 0) (text : List ℕ) (left now written mid sent : Option (List ℕ)) → StopsBefore Why (HasAnswered start desk kept.before kept.counted) left now written mid → AppendsFront mid sent (with_lf text) → BreaksAtFault Why text kept o s left now written sent
  session_cut Why text left now written mid sent e put = record { replied = mid; stops = session_stops Why left now written mid e; told = put }

  -- a session whose source failed, and the line that tells of it
  pub read_fault_ends : (left now written mid sent : Option (List ℕ)) (ended : Status) → StopsBefore AtReadFault (HasAnswered start desk kept.before kept.counted) left now written mid → IsEndedBy ReadFault (with_lf read_fault_text) mid sent ended → SessionEnds kept o s left now written sent ended
  read_fault_ends left now written mid sent ended e (inl whole) =
      subst (SessionEnds kept o s left now written sent) (sym whole.0) (session_tells AtReadFault read_fault_text left now written mid sent e whole.1)
  read_fault_ends left now written mid sent ended e (inr front) =
      subst (SessionEnds kept o s left now written sent) (sym front.0) (inr (inl (session_cut AtReadFault read_fault_text left now written mid sent e front.1)))

  -- a session that ran past its limits, and the line that tells of it
  pub too_long_ends : (left now written mid sent : Option (List ℕ)) (ended : Status) → StopsBefore AtLimit (HasAnswered start desk kept.before kept.counted) left now written mid → IsEndedBy SessionTooLong (with_lf too_long_text) mid sent ended → SessionEnds kept o s left now written sent ended
  too_long_ends left now written mid sent ended e (inl whole) =
      subst (SessionEnds kept o s left now written sent) (sym whole.0) (session_tells AtLimit too_long_text left now written mid sent e whole.1)
  too_long_ends left now written mid sent ended e (inr front) =
      subst (SessionEnds kept o s left now written sent) (sym front.0) (inr (inr (session_cut AtLimit too_long_text left now written mid sent e front.1)))

-- what the session did, by its end
module _ (Answered : List (List ℕ) → List (List ℕ) → Type 0) (left now written sent : Option (List ℕ)) (end : Ended) (e : IsEnd TakesMemory Answered left now written sent end) where
  pub at_fine : end ≡ ended.Fine → EndsFine Answered left now written sent
  at_fine is = subst (IsEnd TakesMemory Answered left now written sent) is e

  pub at_write_fault : end ≡ ended.WriteFault → BreaksOff Answered left now written sent
  at_write_fault is = subst (IsEnd TakesMemory Answered left now written sent) is e

  pub at_want : end ≡ ended.OutOfMemory → StopsBefore (AtWant TakesMemory) Answered left now written sent
  at_want is = subst (IsEnd TakesMemory Answered left now written sent) is e

  pub at_read_fault : end ≡ ended.ReadFault → StopsBefore AtReadFault Answered left now written sent
  at_read_fault is = subst (IsEnd TakesMemory Answered left now written sent) is e

  pub at_limit : end ≡ ended.TooLong → StopsBefore AtLimit Answered left now written sent
  at_limit is = subst (IsEnd TakesMemory Answered left now written sent) is e

-- a session has one end
pub one_end : (end first second : Ended) → end ≡ first → end ≡ second → first ≡ second
one_end end first second a b = sym a ∙ b

-- the statuses with which a fault's line ends a run
pub fault_or_write : (fault : Status) (text : List ℕ) (written sent : Option (List ℕ)) (status : Status) → IsEndedBy fault text written sent status → (status ≡ fault) ⊎ (status ≡ WriteFault)
fault_or_write fault text written sent status (inl whole) = inl whole.0
fault_or_write fault text written sent status (inr front) = inr front.0

pub neither_is : (fault other status : Status) → fault ≢ other → WriteFault ≢ other → (status ≡ fault) ⊎ (status ≡ WriteFault) → status ≡ other → ⊥
neither_is fault other status a b (inl is) so = a (sym is ∙ so)
neither_is fault other status a b (inr is) so = b (sym is ∙ so)

pub session_own : (kept : Kept) (o : Opening) (s : State) (left now written sent : Option (List ℕ)) (status : Status) → SessionEnds kept o s left now written sent status → IsOfSession status
session_own kept o s left now written sent Fine e = tt
session_own kept o s left now written sent ReadFault e = tt
session_own kept o s left now written sent WriteFault e = tt
session_own kept o s left now written sent SessionTooLong e = tt
session_own kept o s left now written sent OutOfMemory e = tt
session_own kept o s left now written sent other e = absurd e

-- a session over a desk isn't told that the shelf or the keeper failed
pub opened_not_shelf : (kept : Kept) (o : Opening) (s : State) (left now written sent : Option (List ℕ)) (status : Status) → SessionEnds kept o s left now written sent status → status ≡ ShelfFault → ⊥
opened_not_shelf kept o s left now written sent status e is = subst (SessionEnds kept o s left now written sent) is e

pub opened_not_keeper : (kept : Kept) (o : Opening) (s : State) (left now written sent : Option (List ℕ)) (status : Status) → SessionEnds kept o s left now written sent status → status ≡ KeeperFault → ⊥
opened_not_keeper kept o s left now written sent status e is = subst (SessionEnds kept o s left now written sent) is e
