-- What an accepted edit changes: the rows that its selector names. This project's own, after --add, --remove, --enable, --disable of spctl(8).
use Rattle.std.specs.Prelude.{ℕ, ◌+◌, List, [], ◌∷◌, ◌++◌, map, Bool, true, not, ◌&&◌, ◌==◌, Option, Some, None, if◌then◌else◌, bytes_eq}
use Rattle.std.specs.List.{filter}
use Rattle.policy_model.specs.Rules.{Row, Kind, same_kind}
use Rattle.policy_model.specs.Contents.{NewRow, Which, by_id, by_label, Selector, Content, add, remove, enable, disable, expire, switch}

-- the row has the id or the label
abbrev pub named_by : Which → Row → Bool
named_by (by_id n) r = r.id == n
named_by (by_label l) r = bytes_eq r.label l

-- the row is of the kind, or any kind will do
abbrev pub in_kind : Option Kind → Row → Bool
in_kind None r = true
in_kind (Some k) r = same_kind r.kind k

-- the row is one of those that a selector names
abbrev pub selects : Selector → Row → Bool
selects s r = named_by s.which r && in_kind s.kind r

-- the added rule has the edit's number as its id, and is enabled
abbrev pub added_row : ℕ → NewRow → Row
added_row id n = record {
  id = id;
  kind = n.kind;
  allow = n.allow;
  disabled = 0;
  expires = n.expires;
  priority = n.priority;
  is_default = n.is_default;
  inhibit = n.inhibit;
  label = n.label;
  text = n.text;
  tree = n.tree;
}

-- the row, disabled so many times
abbrev pub with_count : ℕ → Row → Row
with_count n r = record r { disabled = n }

-- the row with another end, or with none
abbrev pub with_expiry : Option ℕ → Row → Row
with_expiry m r = record r { expires = m }

-- the rows, the selected ones changed
abbrev pub change : (Row → Bool) → (Row → Row) → List Row → List Row
change test f rows = map (λ r. if test r then f r else r) rows

-- the rows after the edit of number n
abbrev pub rows_after : ℕ → Content → List Row → List Row
rows_after n (add r) rows = rows ++ added_row n r ∷ []
rows_after n (remove s) rows = filter (λ r. not (selects s r)) rows
rows_after n (enable s) rows = change (selects s) (with_count 0) rows
rows_after n (disable s) rows = change (selects s) (λ r. with_count (r.disabled + 1) r) rows
rows_after n (expire s m) rows = change (selects s) (with_expiry m) rows
rows_after n (switch on) rows = rows

-- the rows that it touches
abbrev pub touched_by : ℕ → Content → List Row → List Row
touched_by n (add r) rows = added_row n r ∷ []
touched_by n (remove s) rows = filter (selects s) rows
touched_by n (enable s) rows = filter (selects s) rows
touched_by n (disable s) rows = filter (selects s) rows
touched_by n (expire s m) rows = filter (selects s) rows
touched_by n (switch on) rows = []

-- whether assessments are switched on after the edit
abbrev pub switch_after : Content → Bool → Bool
switch_after (add r) enabled = enabled
switch_after (remove s) enabled = enabled
switch_after (enable s) enabled = enabled
switch_after (disable s) enabled = enabled
switch_after (expire s m) enabled = enabled
switch_after (switch on) enabled = on
