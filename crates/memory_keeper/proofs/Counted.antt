-- Rules that are accepted are within their bounds, and their numbers rise.
use Rattle.std.specs.Prelude.{All}
use Rattle.store_model.specs.Raw.{RawTables}
use Rattle.store_model.specs.Accepted.{Accepts}
use Rattle.memory_keeper.specs.Changes.{CanBeDisabled}
use Rattle.memory_keeper.specs.Spans.{AreRising}

pub counted : (raw : RawTables) → Accepts raw → All CanBeDisabled raw.rules
counted raw accepted = λ k d lt. (accepted.rules.each k d lt).disabled.1

pub rising : (raw : RawTables) → Accepts raw → AreRising raw.rules
rising raw accepted = accepted.rules.rising
