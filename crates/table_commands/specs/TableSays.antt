-- What the commands `status` and `list` say. This project's own, after spctl(8), --status and --list.
use Rattle.std.specs.Prelude.{◌≡◌, ℕ, List, Bool, if◌then◌else◌, codes}
use Rattle.line_reader.specs.Lines.{with_lf}
use Rattle.policy_model.specs.History.{Event, Opening, tables_of}
use Rattle.rule_list.specs.ListText.{IsListText}
use Rattle.run_status.specs.declared.status.Status.{Status}
use Rattle.run_status.specs.declared.status.Status.TheVariants.{Fine}

-- whether assessments are switched on
abbrev pub switch_line : Bool → List ℕ
switch_line enabled = if enabled then codes "assessments enabled" else codes "assessments disabled"

-- what `status` says of a desk from the opening o and the history h on
pub record SaysStatus (o : Opening) (h : List Event) (status : Status) (text : List ℕ) : Type 0 where
  pub status_is : status ≡ Fine
  pub text_is : text ≡ with_lf (switch_line (tables_of o h).enabled)

-- what `list` says of a desk from the opening o and the history h on
pub record SaysList (o : Opening) (h : List Event) (status : Status) (text : List ℕ) : Type 0 where
  pub status_is : status ≡ Fine
  pub text_is : IsListText (tables_of o h).rows text
