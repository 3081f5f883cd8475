-- How a run ends whose words are no command.
use Rattle.std.proofs.Common.{◌≡◌, ◌≢◌, ℕ, List, Option, refl, subst}
use Rattle.run_status.specs.declared.status.Status.{Status}
use Rattle.run_status.specs.declared.status.Status.TheVariants.{Fine, Denied, Usage, ReadFault, WriteFault, ShelfFault, ClockFault, KeeperFault, FileMissing, FileTooLong, BadFacts, BadStore, Refused, SessionTooLong, OutOfMemory}
use Rattle.spctl_cli.specs.Ends.{UsageEnds}

-- it is usage unless the sink fails or memory runs out
pub usage_alone : (left now written sent : Option (List ℕ)) (status : Status) → UsageEnds left now written sent status → status ≢ WriteFault → status ≢ OutOfMemory → status ≡ Usage
usage_alone left now written sent Fine e a b = absurd e
usage_alone left now written sent Denied e a b = absurd e
usage_alone left now written sent Usage e a b = refl
usage_alone left now written sent ReadFault e a b = absurd e
usage_alone left now written sent WriteFault e a b = absurd (a refl)
usage_alone left now written sent ShelfFault e a b = absurd e
usage_alone left now written sent ClockFault e a b = absurd e
usage_alone left now written sent KeeperFault e a b = absurd e
usage_alone left now written sent FileMissing e a b = absurd e
usage_alone left now written sent FileTooLong e a b = absurd e
usage_alone left now written sent BadFacts e a b = absurd e
usage_alone left now written sent BadStore e a b = absurd e
usage_alone left now written sent Refused e a b = absurd e
usage_alone left now written sent SessionTooLong e a b = absurd e
usage_alone left now written sent OutOfMemory e a b = absurd (b refl)
