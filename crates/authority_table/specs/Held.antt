-- What always holds of the list of all rules.
use Rattle.std.specs.Prelude.{◌≡◌, ◌≤◌, ℕ, length, Bool, true, vec_capacity}
use Rattle.std.specs.declared.vec.Vec.{Vec}
use Rattle.std.specs.declared.alloc.Global.{Global}
use Rattle.policy_model.specs.declared.limits.TheConstants.{MOST_RULES}
use Rattle.rule_values.specs.declared.rule.Rule.{Rule}
use Rattle.rule_values.specs.Rule.{rows_of}
use Rattle.held_rules.specs.Rooms.{room_for}
use Rattle.held_rules.specs.Spans.{AreRising}
use Rattle.held_rules.specs.Marks.{AreMarks}

-- there aren't too many, both lists have the memory that so many rules have at least, the marks are the rules', and the numbers of the rules rise where it is said so
pub record IsHeld (rules : Vec Rule Global) (marks : Vec ℕ Global) (rising : Bool) : Type 0 where
  pub few : length rules.items ≤ MOST_RULES
  pub held : room_for (length rules.items) ≤ vec_capacity rules
  pub marks_held : room_for (length rules.items) ≤ vec_capacity marks
  pub marked : AreMarks (rows_of rules.items) marks.items
  pub rise : rising ≡ true → AreRising rules.items
