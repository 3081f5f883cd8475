-- How a device's failures are counted. This project's own.
use Rattle.std.specs.Prelude.{ℕ, ◌+◌, ◌-◌, ◌^◌, ◌<◌, ◌≤◌, min}

-- one more, in a u64 that stands still at its last value
abbrev pub counted : ℕ → ℕ
counted n = min (n + 1) (2 ^ 64 - 1)

-- the count went up between before and now, or stands at its last value
abbrev pub Rose : ℕ → ℕ → Type 0
Rose before now = counted before ≤ now

-- the count doesn't stand at its last value yet, so that a failure can be seen in it
abbrev pub CanRise : ℕ → Type 0
CanRise n = n < 2 ^ 64 - 1
