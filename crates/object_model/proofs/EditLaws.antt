-- An edit leaves the rows of each test that no touched row passes.
use Rattle.std.proofs.Common.{◌≡◌, ℕ, ◌+◌, List, length, refl}
use Rattle.std.specs.Prelude.{Bool, false, Option, Some, None}
use Rattle.std.specs.List.{filter, list_any}
use Rattle.policy_model.specs.Rules.{Row}
use Rattle.policy_model.specs.Contents.{Content, add, remove, enable, disable, expire, switch, Edit}
use Rattle.policy_model.specs.Tables.{Tables, Receipt, Answer}
use Rattle.policy_model.specs.Changes.{selects, with_count, with_expiry, added_row, rows_after, touched_by}
use Rattle.policy_model.specs.Refusals.{refusal}
use Rattle.policy_model.specs.Edits.{does, does_at, at_new, kept}
use Rattle.object_model.proofs.Filters.{filter_removed, filter_appended, filter_changed}

pub record IsSteady (p : Row → Bool) : Type 0 where
  pub counts : (n : ℕ) (r : Row) → p (with_count n r) ≡ p r
  pub expiries : (m : Option ℕ) (r : Row) → p (with_expiry m r) ≡ p r

pub rows_keep : (p : Row → Bool) → IsSteady p → (n : ℕ) (c : Content) (rows : List Row) → list_any p (touched_by n c rows) ≡ false → filter p (rows_after n c rows) ≡ filter p rows
rows_keep p steady n (add r) rows none = filter_appended p rows (added_row n r) none
rows_keep p steady n (remove s) rows none = filter_removed p (selects s) rows none
rows_keep p steady n (enable s) rows none = filter_changed p (selects s) (with_count 0) (λ r. steady.counts 0 r) rows none
rows_keep p steady n (disable s) rows none = filter_changed p (selects s) (λ r. with_count (r.disabled + 1) r) (λ r. steady.counts (r.disabled + 1) r) rows none
rows_keep p steady n (expire s m) rows none = filter_changed p (selects s) (with_expiry m) (λ r. steady.expiries m r) rows none
rows_keep p steady n (switch b) rows none = refl

new_keeps : (p : Row → Bool) → IsSteady p → (a : Option Answer) (e : Edit) (t : Tables) → list_any p (at_new a e t).touched ≡ false → filter p (at_new a e t).tables.rows ≡ filter p t.rows
new_keeps p steady (Some a) e t none = refl
new_keeps p steady None e t none = rows_keep p steady (length t.receipts + 1) e.content t.rows none

at_keeps : (p : Row → Bool) → IsSteady p → (k : Option Receipt) (e : Edit) (t : Tables) → list_any p (does_at k e t).touched ≡ false → filter p (does_at k e t).tables.rows ≡ filter p t.rows
at_keeps p steady (Some r) e t none = refl
at_keeps p steady None e t none = new_keeps p steady (refusal e.content t) e t none

-- whatever the answer is
pub edit_keeps : (p : Row → Bool) → IsSteady p → (t : Tables) (e : Edit) → list_any p (does t e).touched ≡ false → filter p (does t e).tables.rows ≡ filter p t.rows
edit_keeps p steady t e none = at_keeps p steady (kept t.receipts e.key) e t none
