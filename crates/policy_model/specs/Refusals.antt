-- Why an edit under a new key is refused. This project's own.
use Rattle.std.specs.Prelude.{ℕ, List, [], ◌∷◌, ◌&&◌, length, Option, Some, None, if◌then◌else◌, nat_lt, nat_le}
use Rattle.std.specs.List.{filter, list_any}
use Rattle.std.specs.Option.{option_or, option_map}
use Rattle.policy_model.specs.declared.limits.TheConstants.{MOST_RULES, MOST_RECEIPTS, MOST_DISABLES}
use Rattle.policy_model.specs.Rules.{Row}
use Rattle.policy_model.specs.Outcomes.{at_most}
use Rattle.policy_model.specs.Contents.{Selector, Content, add, remove, enable, disable, expire, switch}
use Rattle.policy_model.specs.Tables.{Receipt, Tables, Answer, no_rule, table_full, receipts_full, disable_full}
use Rattle.policy_model.specs.Changes.{selects}

-- refused where no row is selected
abbrev pub none_selected : Selector → List Row → Option Answer
none_selected s rows = if list_any (selects s) rows then None else Some no_rule

-- a table has room for so many rules; the other edits need a rule that they select
abbrev pub refused_by_rows : Content → List Row → Option Answer
refused_by_rows (add r) rows = if nat_lt (length rows) MOST_RULES then None else Some table_full
refused_by_rows (remove s) rows = none_selected s rows
refused_by_rows (enable s) rows = none_selected s rows
refused_by_rows (disable s) rows = none_selected s rows
refused_by_rows (expire s m) rows = none_selected s rows
refused_by_rows (switch on) rows = None

-- at most so many edits are ever accepted
abbrev pub refused_by_receipts : List Receipt → Option Answer
refused_by_receipts receipts = if nat_lt (length receipts) MOST_RECEIPTS then None else Some receipts_full

-- of the rows that an edit would disable once more, those whose count is full
abbrev pub full_rows : Content → List Row → List Row
full_rows (add r) rows = []
full_rows (remove s) rows = []
full_rows (enable s) rows = []
full_rows (disable s) rows = filter (λ r. selects s r && nat_le MOST_DISABLES r.disabled) rows
full_rows (expire s m) rows = []
full_rows (switch on) rows = []

-- the least id of some rows
abbrev pub least_id : List Row → Option ℕ
least_id [] = None
least_id (r ∷ rows) = Some (at_most r.id (least_id rows))

-- refused where the count of a selected row is full, with the least id of such
abbrev pub refused_by_count : Content → List Row → Option Answer
refused_by_count c rows = option_map disable_full (least_id (full_rows c rows))

-- why an edit under a new key is refused: the first of these that holds
abbrev pub refusal : Content → Tables → Option Answer
refusal c t = option_or (refused_by_rows c t.rows) (option_or (refused_by_receipts t.receipts) (refused_by_count c t.rows))
