-- A desk that was loaded is mirrored.
use Rattle.std.proofs.Common.{Some, None, Ok}
use Rattle.std.specs.Prelude.{IfSome}
use Rattle.policy_keeper.specs.Told.{Told}
use Rattle.policy_keeper.specs.Mirror.{Mirrors}
use Rattle.desk_state.specs.declared.desk.Desk.{Desk}
use Rattle.desk_state.specs.Loaded.{IsLoaded}
use Rattle.desk_state.specs.Stands.{tables}

pub mirrored : (told : Told) (desk : Desk) → IfSome told (λ raw. IsLoaded raw (Ok desk)) → Mirrors told (tables desk)
mirrored None desk h = tt
mirrored (Some raw) desk h = h.1
