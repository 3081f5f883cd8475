-- A desk that is loaded from a keeper without rows is a new one.
use Rattle.std.proofs.Common.{◌≡◌, [], subst}
use Rattle.req_tree.specs.Facts.{Facts}
use Rattle.policy_model.specs.Tables.{Tables}
use Rattle.policy_model.specs.History.{empty_tables, fresh}
use Rattle.store_model.specs.Raw.{RawTables}
use Rattle.store_model.specs.Stored.{Holds}
use Rattle.store_model.specs.Kept.{IsKept}
use Rattle.store_model.specs.Laws.{RowsMeanOne}
use Rattle.memory_keeper.specs.Memory.{no_rows}
use Rattle.desk_state.specs.Stands.{Stands, tables}
use Rattle.desk_state.specs.Loaded.{loaded}
use Rattle.desk_state.specs.declared.desk.Desk.{Desk}

pub new_desk : RowsMeanOne → IsKept empty_tables → (raw : RawTables) (desk : Desk) (facts : Facts) → raw ≡ no_rows → Holds raw (tables desk) → Stands desk (loaded (tables desk) facts) [] → Stands desk (fresh facts) []
new_desk once kept raw desk facts none holds stands =
    let empty : Holds raw empty_tables = record { stored = none; trees = kept.trees } in
    subst (λ (t : Tables). Stands desk (loaded t facts) []) (once raw (tables desk) empty_tables holds empty) stands
