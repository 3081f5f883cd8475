-- What a change does to a stored rule that is selected.
use Rattle.std.specs.Prelude.{pos, ◌+ℤ◌, ◌≤ℤ◌, option_map}
use Rattle.policy_model.specs.declared.limits.TheConstants.{MOST_DISABLES}
use Rattle.store_model.specs.Raw.{RawRule}
use Rattle.rule_values.specs.declared.row_change.RowChange.{RowChange}
use Rattle.rule_values.specs.declared.row_change.RowChange.TheVariants.{Remove, Enable, Disable, Expire}

-- the rule after the change; one that is to be removed stays as it is
abbrev pub raw_changed_by : RowChange → RawRule → RawRule
raw_changed_by Remove r = r
raw_changed_by Enable r = record r { disabled = pos 0 }
raw_changed_by Disable r = record r { disabled = r.disabled +ℤ pos 1 }
raw_changed_by (Expire end) r = record r { expires = option_map pos end }

-- its count is within bounds, so that one more is a number
abbrev pub CanBeDisabled : RawRule → Type 0
CanBeDisabled r = r.disabled ≤ℤ pos MOST_DISABLES
