-- What a change of the selected rows would touch.
use Rattle.std.specs.Prelude.{◌≡◌, List, length}
use Rattle.std.specs.List.{filter}
use Rattle.policy_model.specs.Rules.{Row}
use Rattle.policy_model.specs.Contents.{Selector, disable}
use Rattle.policy_model.specs.Changes.{selects}
use Rattle.policy_model.specs.Refusals.{full_rows, least_id}
use Rattle.authority_table.specs.declared.tally.Tally.{Tally}
use Rattle.authority_table.specs.Touched.{IsTouched}

-- how many rows are selected, the first of them in each kind, and the least id of those that can't be disabled once more
pub record IsTally (selector : Selector) (rows : List Row) (t : Tally) : Type 0 where
  pub count : t.count ≡ length (filter (selects selector) rows)
  pub touched : IsTouched (filter (selects selector) rows) t.touched
  pub full : t.full ≡ least_id (full_rows (disable selector) rows)
