use Rattle.std.proofs.Common.{⊎_elim, inl, inr}
use Rattle.turn_lock.specs.Views.{Has}
use Rattle.turn_lock.specs.Seats.{known}
use Rattle.turn_count.proofs.SameSeats.{same_has}
use Rattle.turn_count.proofs.counting.+in_generations.Goals as goal

pub returns-clause-numbers : goal.returns-clause-numbers
returns-clause-numbers g t c n h = c.join.ensures.numbers n (⊎_elim
    (λ (one : Has (known c.split-other.new.seat) n). inl (same_has (known c.split-other.new.seat) (known c.counts_one-ours.new.seat) c.counts_one-ours.ensures.seat n one))
    (λ (two : Has (known c.split-other.result) n). inr (c.in_generations-theirs.ensures.numbers n two))
    (c.split-other.ensures.numbers n h))
