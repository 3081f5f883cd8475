-- For how many rules a table has memory.
use Rattle.std.specs.Prelude.{ℕ, nat_le, if◌then◌else◌}
use Rattle.policy_model.specs.declared.limits.TheConstants.{MOST_RULES}
use Rattle.held_rules.specs.declared.rooms.TheConstants.{FEW_RULES, MANY_RULES}

-- a table of so many rules has memory for at least so many: none, few, many, or all that it may hold
abbrev pub room_for : ℕ → ℕ
room_for count =
    if nat_le count 0 then 0 else if nat_le count FEW_RULES then FEW_RULES else if nat_le count MANY_RULES then MANY_RULES else MOST_RULES
