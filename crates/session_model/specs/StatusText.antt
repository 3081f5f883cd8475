-- The text of the reply to `status`. This project's own, after spctl(8), --status.
use Rattle.std.specs.Prelude.{ℕ, List, ◌++◌, length, Bool, if◌then◌else◌, codes, decimal}
use Rattle.policy_model.specs.Tables.{Tables}

-- whether assessments are switched on
abbrev pub switch_text : Bool → List ℕ
switch_text enabled = if enabled then codes "enabled" else codes "disabled"

-- the switch, how many rules, accepted edits and kept outcomes there are, and the moment
unfoldable pub status_line : Bool → ℕ → ℕ → ℕ → ℕ → List ℕ
status_line enabled rules receipts objects now =
    codes "status assessments=" ++ switch_text enabled ++ codes " rules=" ++ decimal rules ++ codes " receipts=" ++ decimal receipts
    ++ codes " objects=" ++ decimal objects ++ codes " now=" ++ decimal now

-- the status of these tables, with so many outcomes kept, at this moment
abbrev pub status_text : Tables → ℕ → ℕ → List ℕ
status_text t objects now = status_line t.enabled (length t.rows) (length t.receipts) objects now
