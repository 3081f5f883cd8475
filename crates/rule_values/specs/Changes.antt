-- What a change does to a selected row.
use Rattle.std.specs.Prelude.{ℕ, ◌+◌, ◌<◌}
use Rattle.policy_model.specs.declared.limits.TheConstants.{MOST_DISABLES}
use Rattle.policy_model.specs.Rules.{Row}
use Rattle.policy_model.specs.Changes.{with_count, with_expiry}
use Rattle.rule_values.specs.declared.row_change.RowChange.{RowChange}
use Rattle.rule_values.specs.declared.row_change.RowChange.TheVariants.{Remove, Enable, Disable, Expire}

-- the row after the change; one that is to be removed stays as it is
abbrev pub changed_by : RowChange → Row → Row
changed_by Remove r = r
changed_by Enable r = with_count 0 r
changed_by Disable r = with_count (r.disabled + 1) r
changed_by (Expire end) r = with_expiry end r

-- a rule with so many disablings can take the change
abbrev pub CanChange : RowChange → ℕ → Type 0
CanChange Remove count = Unit {0}
CanChange Enable count = Unit {0}
CanChange Disable count = count < MOST_DISABLES
CanChange (Expire end) count = Unit {0}
