-- Where in a list of rules the selected ones stand.
use Rattle.std.specs.Prelude.{◌≡◌, ◌<◌, ◌≤◌, List, [], length, take, drop}
use Rattle.std.specs.List.{AllPairs, filter}
use Rattle.policy_model.specs.Rules.{Row}
use Rattle.policy_model.specs.Contents.{Selector}
use Rattle.policy_model.specs.Changes.{selects}
use Rattle.rule_values.specs.declared.rule.Rule.{Rule}
use Rattle.list_marks.specs.declared.span.Span.{Span}

-- the numbers of the rules rise
abbrev pub AreRising : List Rule → Type 0
AreRising rules = AllPairs (λ (a b : Rule). a.id < b.id) rules

-- no row is selected that stands before the span or behind it
pub record IsSpan (s : Selector) (rows : List Row) (span : Span) : Type 0 where
  pub ordered : span.from ≤ span.to
  pub within : span.to ≤ length rows
  pub front : filter (selects s) (take span.from rows) ≡ []
  pub rear : filter (selects s) (drop span.to rows) ≡ []
