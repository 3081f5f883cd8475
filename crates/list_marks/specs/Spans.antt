-- Where in a list of marks a mark can stand.
use Rattle.std.specs.Prelude.{◌≢◌, ◌<◌, ◌≤◌, ℕ, List, length, get_or}
use Rattle.list_marks.specs.declared.span.Span.{Span}

-- the mark stands at no place before the span or behind it
pub record IsMarkSpan (marks : List ℕ) (mark : ℕ) (span : Span) : Type 0 where
  pub ordered : span.from ≤ span.to
  pub within : span.to ≤ length marks
  pub front : (k d : ℕ) → k < span.from → get_or marks k d ≢ mark
  pub rear : (k d : ℕ) → span.to ≤ k → k < length marks → get_or marks k d ≢ mark
