-- A keeper beside a desk: it tells the rows of the desk's tables. This project's own.
use Rattle.std.specs.Prelude.{IfSome, Result, MatchResult}
use Rattle.policy_model.specs.Tables.{Tables}
use Rattle.policy_model.specs.Edits.{does}
use Rattle.store_model.specs.Raw.{RawTables}
use Rattle.store_model.specs.Stored.{raw_of_tables, Holds}
use Rattle.store_model.specs.Accepted.{Accepts}
use Rattle.store_model.specs.Change.{Change, Takes}
use Rattle.policy_keeper.specs.Told.{Told, Gives, CanApply}

-- the rows that the keeper tells mean these tables
abbrev pub Mirrors : Told → Tables → Type 0
Mirrors told t = IfSome told (λ raw. Holds raw t)

-- and after a change: the tables with its edit made, or the tables as they were
abbrev pub Follows : {T E : Type 0} → Told → Tables → Change → Result T E → Type 0
Follows told t c result = MatchResult result (λ done. Mirrors told (does t c.edit).tables) (λ fault. Mirrors told t)

-- a change that the tables take may be given to a keeper that tells their rows, where these are accepted
abbrev pub MirrorsCanChange : Type 0
MirrorsCanChange = (told : Told) (t : Tables) (c : Change) → Mirrors told t → ∥ Accepts (raw_of_tables t) ∥₁ → Takes t c → CanApply told c

-- rows that a load gave, and that mean these tables, are those that the keeper then tells
abbrev pub LoadMirrors : Type 0
LoadMirrors = (old new : Told) (given : RawTables) (t : Tables) → Gives old new given → Holds given t → Mirrors new t
