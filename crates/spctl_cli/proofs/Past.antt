-- Where a session is too long: exactly where a byte past its limits was given.
use Rattle.std.proofs.Common.{◌≡◌, ◌≢◌, ◌↔◌, ℕ, List, [], ◌++◌, Option, Some, None, IsSome, inl, inr, arith, refl, sym, ◌∙◌, subst}
use Rattle.std.specs.Io.KnownBytes.{Consumes}
use Rattle.std.proofs.lemmas.List.{append_cancel_right}
use Rattle.line_reader.specs.Lines.{text_of}
use Rattle.line_reader.specs.Limits.{IsWithin, RunsPast}
use Rattle.policy_model.specs.History.{Opening}
use Rattle.desk_state.specs.Failures.{Kept}
use Rattle.session_model.specs.Slots.{State}
use Rattle.run_status.specs.declared.status.Status.{Status}
use Rattle.run_status.specs.declared.status.Status.TheVariants.{Fine, Denied, Usage, ReadFault, WriteFault, ShelfFault, ClockFault, KeeperFault, FileMissing, FileTooLong, BadFacts, BadStore, Refused, SessionTooLong, OutOfMemory}
use Rattle.spctl_cli.specs.Ends.{SessionEnds, UsageEnds, GavePast}

-- bytes that are within the limits don't run past them
within_or_past : (bytes : List ℕ) → IsWithin bytes → RunsPast bytes → ⊥
within_or_past bytes within (inl more) = omega (arith, within.lines)
within_or_past bytes within (inr more) = omega (arith, within.size)

-- where the bytes that were taken are within the limits, no byte past them was given
none_past : (left now : Option (List ℕ)) (bytes : List ℕ) → Consumes left now bytes → IsWithin bytes → GavePast left now → ⊥
none_past None now bytes taken within past = past
none_past (Some xs) None bytes taken within past = past
none_past (Some xs) (Some ys) bytes taken within past =
    within_or_past bytes within (subst RunsPast (append_cancel_right past.0 bytes ys (sym past.1 ∙ taken)) past.2)

some_past : (left now : Option (List ℕ)) (bytes : List ℕ) → IsSome left → Consumes left now bytes → RunsPast bytes → GavePast left now
some_past None now bytes told taken past = (cc)
some_past (Some xs) None bytes told taken past = taken
some_past (Some xs) (Some ys) bytes told taken past = (bytes, taken, past)

-- a session that isn't cut short is too long exactly where a byte past the limits was given
pub session_past : (kept : Kept) (o : Opening) (s : State) (left now written sent : Option (List ℕ)) (status : Status) → SessionEnds kept o s left now written sent status
    → IsSome left → status ≢ WriteFault → status ≢ OutOfMemory → ((status ≡ SessionTooLong) ↔ GavePast left now)
session_past kept o s left now written sent Fine e told a b = (λ is. (cc), λ past. absurd (none_past left now e.1.bytes e.1.taken e.1.within past))
session_past kept o s left now written sent Denied e told a b = absurd e
session_past kept o s left now written sent Usage e told a b = absurd e
session_past kept o s left now written sent ReadFault e told a b = (λ is. (cc), λ past. absurd (none_past left now (text_of e.stops.lines ++ e.stops.rest) e.stops.taken e.stops.why.1 past))
session_past kept o s left now written sent WriteFault e told a b = absurd (a refl)
session_past kept o s left now written sent ShelfFault e told a b = absurd e
session_past kept o s left now written sent ClockFault e told a b = absurd e
session_past kept o s left now written sent KeeperFault e told a b = absurd e
session_past kept o s left now written sent FileMissing e told a b = absurd e
session_past kept o s left now written sent FileTooLong e told a b = absurd e
session_past kept o s left now written sent BadFacts e told a b = absurd e
session_past kept o s left now written sent BadStore e told a b = absurd e
session_past kept o s left now written sent Refused e told a b = absurd e
session_past kept o s left now written sent SessionTooLong e told a b = (λ is. some_past left now (text_of e.stops.lines ++ e.stops.rest) told e.stops.taken e.stops.why.0, λ past. refl)
session_past kept o s left now written sent OutOfMemory e told a b = absurd (b refl)

-- what isn't read runs past no limit
pub nothing_past : (left : Option (List ℕ)) → GavePast left left → ⊥
nothing_past None past = past
nothing_past (Some xs) past = none_past (Some xs) (Some xs) [] refl (record { lines = omega arith; size = omega arith }) past

-- a run whose words are no command reads nothing
pub usage_past : (left now written sent : Option (List ℕ)) (status : Status) → UsageEnds left now written sent status
    → status ≢ WriteFault → status ≢ OutOfMemory → ((status ≡ SessionTooLong) ↔ GavePast left now)
usage_past left now written sent Fine e a b = absurd e
usage_past left now written sent Denied e a b = absurd e
usage_past left now written sent Usage e a b = (λ is. (cc), λ past. absurd (nothing_past left (subst (GavePast left) e.unread past)))
usage_past left now written sent ReadFault e a b = absurd e
usage_past left now written sent WriteFault e a b = absurd (a refl)
usage_past left now written sent ShelfFault e a b = absurd e
usage_past left now written sent ClockFault e a b = absurd e
usage_past left now written sent KeeperFault e a b = absurd e
usage_past left now written sent FileMissing e a b = absurd e
usage_past left now written sent FileTooLong e a b = absurd e
usage_past left now written sent BadFacts e a b = absurd e
usage_past left now written sent BadStore e a b = absurd e
usage_past left now written sent Refused e a b = absurd e
usage_past left now written sent SessionTooLong e a b = absurd e
usage_past left now written sent OutOfMemory e a b = absurd (b refl)

-- and so does one that reads nothing and isn't told so
pub spoken_past : (left now : Option (List ℕ)) (status : Status) → now ≡ left → status ≢ SessionTooLong → ((status ≡ SessionTooLong) ↔ GavePast left now)
spoken_past left now status unread apart = (λ is. absurd (apart is), λ past. absurd (nothing_past left (subst (GavePast left) unread past)))
