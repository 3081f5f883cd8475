-- What a desk says of itself.
use Rattle.std.specs.Prelude.{◌≡◌, length}
use Rattle.desk_state.specs.declared.desk.Desk.{Desk}
use Rattle.desk_state.specs.declared.status.DeskStatus.{DeskStatus}
use Rattle.desk_state.specs.Stands.{tables, moment_of, plain}

-- the switch, how many rules and receipts there are, how many entries that haven't ended, and the moment
pub record IsStatus (d : Desk) (s : DeskStatus) : Type 0 where
  pub enabled_is : s.enabled ≡ (tables d).enabled
  pub rules_are : s.rules ≡ length (tables d).rows
  pub receipts_are : s.receipts ≡ length (tables d).receipts
  pub objects_are : s.objects ≡ length (plain d).entries
  pub now_is : s.now ≡ moment_of d
