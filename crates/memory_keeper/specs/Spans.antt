-- Where in a list of stored rules the selected ones stand.
use Rattle.std.specs.Prelude.{◌≡◌, ◌≤◌, ◌<ℤ◌, List, [], length, take, drop, AllPairs}
use Rattle.std.specs.List.{filter}
use Rattle.policy_model.specs.Contents.{Selector}
use Rattle.store_model.specs.Raw.{RawRule}
use Rattle.store_model.specs.Change.{raw_selects}
use Rattle.list_marks.specs.declared.span.Span.{Span}

-- the numbers of the rules rise
abbrev pub AreRising : List RawRule → Type 0
AreRising rules = AllPairs (λ (a b : RawRule). a.id <ℤ b.id) rules

-- no rule is selected that stands before the span or behind it
pub record IsSpan (s : Selector) (rules : List RawRule) (span : Span) : Type 0 where
  pub ordered : span.from ≤ span.to
  pub within : span.to ≤ length rules
  pub front : filter (raw_selects s) (take span.from rules) ≡ []
  pub rear : filter (raw_selects s) (drop span.to rules) ≡ []
