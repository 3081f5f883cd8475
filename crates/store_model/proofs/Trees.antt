-- The rules' trees stay those of their texts.
use Rattle.std.proofs.Common.{ℕ, ◌+◌, List, length, Option, Some, None}
use Rattle.std.specs.Prelude.{All, not, ⊤}
use Rattle.std.proofs.Math.Logic.{∥∥₁_map}
use Rattle.std.proofs.lemmas.List.Elements.{All-filter, All-push}
use Rattle.req_grammar.specs.Readings.{IsRequirementText}
use Rattle.policy_model.specs.Rules.{Row}
use Rattle.policy_model.specs.Contents.{Content, add, remove, enable, disable, expire, switch, Edit}
use Rattle.policy_model.specs.Tables.{Tables, Receipt, Answer}
use Rattle.policy_model.specs.Changes.{selects, with_count, with_expiry, added_row, rows_after}
use Rattle.policy_model.specs.Refusals.{refusal}
use Rattle.policy_model.specs.Edits.{does, does_at, at_new, kept}
use Rattle.line_laws.specs.Limits.{IsRule, FitsLine}
use Rattle.store_model.specs.Stored.{HaveTrees}
use Rattle.store_model.proofs.RowLists.{all_change}

-- a row's tree is that of its text
abbrev pub HasTree : Row → Type 0
HasTree r = ∥ IsRequirementText r.text r.tree ∥₁

-- the tree of an added rule is that of its text
abbrev pub AddsTree : Content → Type 0
AddsTree (add n) = ∥ IsRequirementText n.text n.tree ∥₁
AddsTree other = ⊤

pub fitting_content : (c : Content) → ∥ FitsLine c ∥₁ → AddsTree c
fitting_content (add n) h = ∥∥₁_map h (λ (rule : IsRule n). rule.reads)
fitting_content (remove s) h = tt
fitting_content (enable s) h = tt
fitting_content (disable s) h = tt
fitting_content (expire s m) h = tt
fitting_content (switch on) h = tt

pub any_row : (rows : List Row) → All (λ (r : Row). ⊤) rows
any_row rows k d lt = tt

pub trees_after : (n : ℕ) (c : Content) (rows : List Row) → All HasTree rows → AddsTree c → All HasTree (rows_after n c rows)
trees_after n (add w) rows h is = All-push HasTree rows (added_row n w) h is
trees_after n (remove s) rows h is = All-filter (λ r. not (selects s r)) HasTree rows h
trees_after n (enable s) rows h is = all_change HasTree (λ r. ⊤) (selects s) (with_count 0) rows h (any_row rows) (λ r t a p. p)
trees_after n (disable s) rows h is = all_change HasTree (λ r. ⊤) (selects s) (λ r. with_count (r.disabled + 1) r) rows h (any_row rows) (λ r t a p. p)
trees_after n (expire s m) rows h is = all_change HasTree (λ r. ⊤) (selects s) (with_expiry m) rows h (any_row rows) (λ r t a p. p)
trees_after n (switch on) rows h is = h

new_trees : (t : Tables) (e : Edit) (a : Option Answer) → HaveTrees t → AddsTree e.content → HaveTrees (at_new a e t).tables
new_trees t e (Some x) h is = h
new_trees t e None h is = trees_after (length t.receipts + 1) e.content t.rows h is

any_trees : (t : Tables) (e : Edit) (k : Option Receipt) → HaveTrees t → AddsTree e.content → HaveTrees (does_at k e t).tables
any_trees t e (Some r) h is = h
any_trees t e None h is = new_trees t e (refusal e.content t) h is

-- an edit keeps each rule's tree that of its text
pub edit_trees : (t : Tables) (e : Edit) → HaveTrees t → AddsTree e.content → HaveTrees (does t e).tables
edit_trees t e h is = any_trees t e (kept t.receipts e.key) h is
