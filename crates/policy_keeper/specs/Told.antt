-- What a keeper tells of its rows before and after a call. This project's own.
use Rattle.std.specs.Prelude.{◌≡◌, Option, Some, IfSome, Result, MatchResult}
use Rattle.policy_model.specs.Tables.{Tables}
use Rattle.store_model.specs.Raw.{RawTables}
use Rattle.store_model.specs.Upgraded.{upgraded}
use Rattle.store_model.specs.Stored.{Holds}
use Rattle.store_model.specs.Accepted.{Accepts}
use Rattle.store_model.specs.Change.{Change, Takes, raw_after}
use Rattle.raw_tables.specs.Raw.{plain_tables}
use Rattle.raw_tables.specs.declared.tables.RawTables as code
use Rattle.policy_keeper.specs.declared.fault.KeepFault.{KeepFault}

-- the stored rows, where the keeper tells them
abbrev pub Told : Type 0
Told = Option RawTables

-- rows that are told afterwards were told before, and are the same
abbrev pub Stays : Told → Told → Type 0
Stays old new = IfSome new (λ after. old ≡ Some after)

-- rows that are told after a load are those that it gave; if rows were told before, they are those, upgraded
abbrev pub Gives : Told → Told → RawTables → Type 0
Gives old new given = IfSome new (λ after. (given ≡ after) × IfSome old (λ before. upgraded before ≡ after))

-- rows that are told after a change are those that were told before it, upgraded, with the change made
abbrev pub Makes : Told → Told → Change → Type 0
Makes old new change = IfSome new (λ after. (before : RawTables) × (old ≡ Some before) × (after ≡ raw_after change (upgraded before)))

-- a load gives the rows, or changes nothing
abbrev pub Loads : Told → Told → Result code.RawTables KeepFault → Type 0
Loads old new result = MatchResult result (λ given. Gives old new (plain_tables given)) (λ fault. Stays old new)

-- a change is made, or changes nothing
abbrev pub Applies : {T E : Type 0} → Told → Told → Change → Result T E → Type 0
Applies old new change result = MatchResult result (λ done. Makes old new change) (λ fault. Stays old new)

-- where the rows are told they are accepted, and the tables that they mean accept the edit with this number and count
abbrev pub CanApply : Told → Change → Type 0
CanApply told change = IfSome told (λ raw. ∥ Accepts raw ∥₁ × ((t : Tables) → Holds raw t → Takes t change))
