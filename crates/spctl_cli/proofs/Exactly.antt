-- A device's fault is the end exactly where its count rose, where only its failure moves that, and the sink's may hide it.
use Rattle.std.proofs.Common.{◌≡◌, ◌≢◌, ◌↔◌, ◌⊎◌, ℕ, ◌+◌, ◌<◌, ◌≤◌, inl, inr, arith, refl, sym, ◌∙◌}
use Rattle.std.specs.Prelude.{min, ◌-◌, ◌^◌}
use Rattle.gk_io.specs.Faults.{CanRise, Rose}
use Rattle.gk_io.specs.Devices.{Counts}
use Rattle.run_status.specs.declared.status.Status.{Status}
use Rattle.run_status.specs.declared.status.Status.TheVariants.{Fine, Denied, Usage, ReadFault, WriteFault, ShelfFault, ClockFault, KeeperFault, FileMissing, FileTooLong, BadFacts, BadStore, Refused, SessionTooLong, OutOfMemory}
use Rattle.spctl_cli.specs.Statuses.{MayHide}
use Rattle.spctl_cli.specs.Ran.{IsExactly}

still_or_rose : (before now : ℕ) → CanRise before → Rose before now → now ≡ before → ⊥
still_or_rose before now can rose still = omega (arith, can, rose, still)

neither : {A B : Type 0} → (A → ⊥) → (B → ⊥) → A ⊎ B → ⊥
neither a b (inl x) = a x
neither a b (inr y) = b y

-- another end than the fault, which nothing hides
other_end : (fault ended : Status) (Asks : Type 0) (before now : ℕ) → ended ≢ fault → Counts (ended ≡ fault) (Asks × MayHide fault ended) before now → IsExactly fault ended before now
other_end fault ended Asks before now apart counts can seen =
    (λ is. absurd (apart is), λ rose. absurd (still_or_rose before now can rose (counts.steady (λ may. neither apart seen may.1))))

own_end : (fault : Status) (May : Type 0) (before now : ℕ) → Counts (fault ≡ fault) May before now → IsExactly fault fault before now
own_end fault May before now counts can seen = (λ is. counts.cause is, λ rose. refl)

pub read_exactly : (ended : Status) (Asks : Type 0) (before now : ℕ) → Counts (ended ≡ ReadFault) (Asks × MayHide ReadFault ended) before now → IsExactly ReadFault ended before now
read_exactly ReadFault Asks before now counts = own_end ReadFault _ before now counts
read_exactly Fine Asks before now counts = other_end ReadFault Fine Asks before now (λ e. (cc)) counts
read_exactly Denied Asks before now counts = other_end ReadFault Denied Asks before now (λ e. (cc)) counts
read_exactly Usage Asks before now counts = other_end ReadFault Usage Asks before now (λ e. (cc)) counts
read_exactly WriteFault Asks before now counts = other_end ReadFault WriteFault Asks before now (λ e. (cc)) counts
read_exactly ShelfFault Asks before now counts = other_end ReadFault ShelfFault Asks before now (λ e. (cc)) counts
read_exactly ClockFault Asks before now counts = other_end ReadFault ClockFault Asks before now (λ e. (cc)) counts
read_exactly KeeperFault Asks before now counts = other_end ReadFault KeeperFault Asks before now (λ e. (cc)) counts
read_exactly FileMissing Asks before now counts = other_end ReadFault FileMissing Asks before now (λ e. (cc)) counts
read_exactly FileTooLong Asks before now counts = other_end ReadFault FileTooLong Asks before now (λ e. (cc)) counts
read_exactly BadFacts Asks before now counts = other_end ReadFault BadFacts Asks before now (λ e. (cc)) counts
read_exactly BadStore Asks before now counts = other_end ReadFault BadStore Asks before now (λ e. (cc)) counts
read_exactly Refused Asks before now counts = other_end ReadFault Refused Asks before now (λ e. (cc)) counts
read_exactly SessionTooLong Asks before now counts = other_end ReadFault SessionTooLong Asks before now (λ e. (cc)) counts
read_exactly OutOfMemory Asks before now counts = other_end ReadFault OutOfMemory Asks before now (λ e. (cc)) counts

pub shelf_exactly : (ended : Status) (Asks : Type 0) (before now : ℕ) → Counts (ended ≡ ShelfFault) (Asks × MayHide ShelfFault ended) before now → IsExactly ShelfFault ended before now
shelf_exactly ShelfFault Asks before now counts = own_end ShelfFault _ before now counts
shelf_exactly Fine Asks before now counts = other_end ShelfFault Fine Asks before now (λ e. (cc)) counts
shelf_exactly Denied Asks before now counts = other_end ShelfFault Denied Asks before now (λ e. (cc)) counts
shelf_exactly Usage Asks before now counts = other_end ShelfFault Usage Asks before now (λ e. (cc)) counts
shelf_exactly ReadFault Asks before now counts = other_end ShelfFault ReadFault Asks before now (λ e. (cc)) counts
shelf_exactly WriteFault Asks before now counts = other_end ShelfFault WriteFault Asks before now (λ e. (cc)) counts
shelf_exactly ClockFault Asks before now counts = other_end ShelfFault ClockFault Asks before now (λ e. (cc)) counts
shelf_exactly KeeperFault Asks before now counts = other_end ShelfFault KeeperFault Asks before now (λ e. (cc)) counts
shelf_exactly FileMissing Asks before now counts = other_end ShelfFault FileMissing Asks before now (λ e. (cc)) counts
shelf_exactly FileTooLong Asks before now counts = other_end ShelfFault FileTooLong Asks before now (λ e. (cc)) counts
shelf_exactly BadFacts Asks before now counts = other_end ShelfFault BadFacts Asks before now (λ e. (cc)) counts
shelf_exactly BadStore Asks before now counts = other_end ShelfFault BadStore Asks before now (λ e. (cc)) counts
shelf_exactly Refused Asks before now counts = other_end ShelfFault Refused Asks before now (λ e. (cc)) counts
shelf_exactly SessionTooLong Asks before now counts = other_end ShelfFault SessionTooLong Asks before now (λ e. (cc)) counts
shelf_exactly OutOfMemory Asks before now counts = other_end ShelfFault OutOfMemory Asks before now (λ e. (cc)) counts

pub clock_exactly : (ended : Status) (Asks : Type 0) (before now : ℕ) → Counts (ended ≡ ClockFault) (Asks × MayHide ClockFault ended) before now → IsExactly ClockFault ended before now
clock_exactly ClockFault Asks before now counts = own_end ClockFault _ before now counts
clock_exactly Fine Asks before now counts = other_end ClockFault Fine Asks before now (λ e. (cc)) counts
clock_exactly Denied Asks before now counts = other_end ClockFault Denied Asks before now (λ e. (cc)) counts
clock_exactly Usage Asks before now counts = other_end ClockFault Usage Asks before now (λ e. (cc)) counts
clock_exactly ReadFault Asks before now counts = other_end ClockFault ReadFault Asks before now (λ e. (cc)) counts
clock_exactly WriteFault Asks before now counts = other_end ClockFault WriteFault Asks before now (λ e. (cc)) counts
clock_exactly ShelfFault Asks before now counts = other_end ClockFault ShelfFault Asks before now (λ e. (cc)) counts
clock_exactly KeeperFault Asks before now counts = other_end ClockFault KeeperFault Asks before now (λ e. (cc)) counts
clock_exactly FileMissing Asks before now counts = other_end ClockFault FileMissing Asks before now (λ e. (cc)) counts
clock_exactly FileTooLong Asks before now counts = other_end ClockFault FileTooLong Asks before now (λ e. (cc)) counts
clock_exactly BadFacts Asks before now counts = other_end ClockFault BadFacts Asks before now (λ e. (cc)) counts
clock_exactly BadStore Asks before now counts = other_end ClockFault BadStore Asks before now (λ e. (cc)) counts
clock_exactly Refused Asks before now counts = other_end ClockFault Refused Asks before now (λ e. (cc)) counts
clock_exactly SessionTooLong Asks before now counts = other_end ClockFault SessionTooLong Asks before now (λ e. (cc)) counts
clock_exactly OutOfMemory Asks before now counts = other_end ClockFault OutOfMemory Asks before now (λ e. (cc)) counts

write_other : (ended : Status) (before now : ℕ) → ended ≢ WriteFault → Counts (ended ≡ WriteFault) (ended ≡ WriteFault) before now → CanRise before → ((ended ≡ WriteFault) ↔ Rose before now)
write_other ended before now apart counts can = (λ is. absurd (apart is), λ rose. absurd (still_or_rose before now can rose (counts.steady apart)))

pub write_exactly : (ended : Status) (before now : ℕ) → Counts (ended ≡ WriteFault) (ended ≡ WriteFault) before now → CanRise before → ((ended ≡ WriteFault) ↔ Rose before now)
write_exactly WriteFault before now counts can = (λ is. counts.cause is, λ rose. refl)
write_exactly Fine before now counts can = write_other Fine before now (λ e. (cc)) counts can
write_exactly Denied before now counts can = write_other Denied before now (λ e. (cc)) counts can
write_exactly Usage before now counts can = write_other Usage before now (λ e. (cc)) counts can
write_exactly ReadFault before now counts can = write_other ReadFault before now (λ e. (cc)) counts can
write_exactly ShelfFault before now counts can = write_other ShelfFault before now (λ e. (cc)) counts can
write_exactly ClockFault before now counts can = write_other ClockFault before now (λ e. (cc)) counts can
write_exactly KeeperFault before now counts can = write_other KeeperFault before now (λ e. (cc)) counts can
write_exactly FileMissing before now counts can = write_other FileMissing before now (λ e. (cc)) counts can
write_exactly FileTooLong before now counts can = write_other FileTooLong before now (λ e. (cc)) counts can
write_exactly BadFacts before now counts can = write_other BadFacts before now (λ e. (cc)) counts can
write_exactly BadStore before now counts can = write_other BadStore before now (λ e. (cc)) counts can
write_exactly Refused before now counts can = write_other Refused before now (λ e. (cc)) counts can
write_exactly SessionTooLong before now counts can = write_other SessionTooLong before now (λ e. (cc)) counts can
write_exactly OutOfMemory before now counts can = write_other OutOfMemory before now (λ e. (cc)) counts can
