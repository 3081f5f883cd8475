-- Memory for one rule more.
use Rattle.std.specs.Prelude.{◌≡◌, ℕ, ◌+◌, ◌<◌, ◌≤◌, max, [], vec_capacity}
use Rattle.std.specs.declared.vec.Vec.{Vec}
use Rattle.std.specs.declared.alloc.Global.{Global}
use Rattle.policy_model.specs.declared.limits.TheConstants.{MOST_RULES}
use Rattle.held_rules.specs.declared.rooms.Room.{Room}
use Rattle.held_rules.specs.Rooms.{room_for}

-- a list of so many has memory for one more: its own, or that of this empty one
pub record IsSpare {X : Type 0} (count : ℕ) (room : Vec X Global) : Type 0 where
  pub empty : room.items ≡ []
  pub enough : room_for (count + 1) ≤ max (room_for count) (vec_capacity room)

-- a table of so many rules takes one more, and there is memory for it: the table's own, or this room
pub record HasRoom (count : ℕ) (room : Room) : Type 0 where
  pub few : count < MOST_RULES
  pub rules : IsSpare count room.rules
  pub marks : IsSpare count room.marks
