-- What follows from the definitions alone; each is proved on a function of src/laws.rt.
use Rattle.std.specs.Prelude.{◌≡◌, ℕ, List}
use Rattle.policy_model.specs.Rules.{Row, Kind}
use Rattle.policy_model.specs.Tables.{Tables}
use Rattle.policy_model.specs.History.{HasOwnIds}
use Rattle.authority_table.specs.Snapshot.{IsSnapshot}
use Rattle.rule_list.specs.ListText.{IsListText}

-- where rules have ids of their own, those of a kind stand by rank in one order
abbrev pub OrderIsOne : Type 0
OrderIsOne = (t : Tables) (kind : Kind) (a b : List Row) → HasOwnIds t → IsSnapshot t.rows kind a → IsSnapshot t.rows kind b → a ≡ b

-- so there is one text of all rules
abbrev pub ListTextIsOne : Type 0
ListTextIsOne = (t : Tables) (a b : List ℕ) → HasOwnIds t → IsListText t.rows a → IsListText t.rows b → a ≡ b
