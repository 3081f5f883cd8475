-- A change of stored rows is the edit of the tables that they mean.
use Rattle.std.proofs.Common.{◌≡◌, ℕ, ◌+◌, List, [], ◌∷◌, ◌++◌, length, refl, sym, ap, ◌∙◌, subst, Option, Some, None}
use Rattle.std.specs.Prelude.{Bool, true, false, not, ◌&&◌, ◌==◌, map, pos, ◌+ℤ◌, option_map, bytes_eq, if◌then◌else◌}
use Rattle.std.specs.Ordering.{int_eq}
use Rattle.std.specs.List.{filter}
use Rattle.std.proofs.lemmas.Bool.Decides.{same_from_decides, Decides-like, Decides-int_eq, Decides-eqb}
use Rattle.std.proofs.lemmas.List.{map-append}
use Rattle.std.specs.Prelude.{unsigned_abs, ⊤, nat_lt}
use Rattle.std.specs.List.{list_any}
use Rattle.std.specs.Option.{option_or}
use Rattle.policy_model.specs.declared.limits.TheConstants.{MOST_RULES, MOST_RECEIPTS}
use Rattle.store_model.specs.declared.limits.TheConstants.{STORE_FORMAT}
use Rattle.policy_model.specs.Rules.{Row, Kind, execute, install, document, same_kind}
use Rattle.policy_model.specs.Contents.{Which, by_id, by_label, Selector, Content, add, remove, enable, disable, expire, switch}
use Rattle.policy_model.specs.Texts.{content_text}
use Rattle.policy_model.specs.Tables.{Tables, Receipt, Answer, done, repeated, key_reused, no_rule, table_full, receipts_full, disable_full}
use Rattle.policy_model.specs.Changes.{named_by, in_kind, selects, change, with_count, with_expiry, added_row, rows_after, touched_by, switch_after}
use Rattle.policy_model.specs.Refusals.{refusal, refused_by_rows, refused_by_receipts, refused_by_count, full_rows, least_id}
use Rattle.policy_model.specs.Edits.{does_at, at_new, kept, accepted}
use Rattle.store_model.specs.Raw.{RawRule}
use Rattle.store_model.specs.Stored.{kind_number, bool_number, raw_receipt, raw_rule, raw_of_tables}
use Rattle.store_model.proofs.Trees.{fitting_content, edit_trees}
use Rattle.store_model.specs.Change.{Change, raw_named_by, raw_in_kind, raw_selects, raw_change, raw_rules_after, raw_switch_after, raw_receipt_of, raw_after}
use Rattle.store_model.specs.Laws.{ChangeIsEdit, ChangeMeansEdit}

same_number : (m n : ℕ) → int_eq (pos m) (pos n) ≡ (m == n)
same_number m n =
    same_from_decides (int_eq (pos m) (pos n)) (m == n)
    (Decides-like (int_eq (pos m) (pos n)) (λ (e : pos m ≡ pos n). ap unsigned_abs e) (λ (e : m ≡ n). ap pos e) (Decides-int_eq (pos m) (pos n)))
    (Decides-eqb m n)

same_kind_number : (a b : Kind) → int_eq (kind_number a) (kind_number b) ≡ same_kind a b
same_kind_number execute execute = refl
same_kind_number execute install = refl
same_kind_number execute document = refl
same_kind_number install execute = refl
same_kind_number install install = refl
same_kind_number install document = refl
same_kind_number document execute = refl
same_kind_number document install = refl
same_kind_number document document = refl

named_raw : (w : Which) (r : Row) → raw_named_by w (raw_rule r) ≡ named_by w r
named_raw (by_id n) r = same_number r.id n
named_raw (by_label l) r = refl

in_kind_raw : (k : Option Kind) (r : Row) → raw_in_kind k (raw_rule r) ≡ in_kind k r
in_kind_raw None r = refl
in_kind_raw (Some k) r = same_kind_number r.kind k

selects_raw : (s : Selector) (r : Row) → raw_selects s (raw_rule r) ≡ selects s r
selects_raw s r = ap (λ b. b && raw_in_kind s.kind (raw_rule r)) (named_raw s.which r) ∙ ap (λ b. named_by s.which r && b) (in_kind_raw s.kind r)

filter_one : (b c : Bool) (r : Row) (rows : List Row) (raws : List RawRule) → c ≡ b → raws ≡ map raw_rule rows → (if c then raw_rule r ∷ raws else raws) ≡ map raw_rule (if b then r ∷ rows else rows)
filter_one true c r rows raws e h = ap (λ x. if x then raw_rule r ∷ raws else raws) e ∙ ap (λ l. raw_rule r ∷ l) h
filter_one false c r rows raws e h = ap (λ x. if x then raw_rule r ∷ raws else raws) e ∙ h

filter_raw : (s : Selector) (rows : List Row) → filter (λ r. not (raw_selects s r)) (map raw_rule rows) ≡ map raw_rule (filter (λ r. not (selects s r)) rows)
filter_raw s [] = refl
filter_raw s (r ∷ rows) = filter_one (not (selects s r)) (not (raw_selects s (raw_rule r))) r (filter (λ x. not (selects s x)) rows) (filter (λ x. not (raw_selects s x)) (map raw_rule rows)) (ap not (selects_raw s r)) (filter_raw s rows)

change_one : (b c : Bool) (f : Row → Row) (g : RawRule → RawRule) (r : Row) → c ≡ b → g (raw_rule r) ≡ raw_rule (f r) → (if c then g (raw_rule r) else raw_rule r) ≡ raw_rule (if b then f r else r)
change_one true c f g r e h = ap (λ x. if x then g (raw_rule r) else raw_rule r) e ∙ h
change_one false c f g r e h = ap (λ x. if x then g (raw_rule r) else raw_rule r) e

change_raw : (s : Selector) (f : Row → Row) (g : RawRule → RawRule) → ((r : Row) → g (raw_rule r) ≡ raw_rule (f r)) → (rows : List Row) → raw_change s g (map raw_rule rows) ≡ map raw_rule (change (selects s) f rows)
change_raw s f g h [] = refl
change_raw s f g h (r ∷ rows) =
    ap (λ x. x ∷ raw_change s g (map raw_rule rows)) (change_one (selects s r) (raw_selects s (raw_rule r)) f g r (selects_raw s r) (h r))
    ∙ ap (λ l. raw_rule (if selects s r then f r else r) ∷ l) (change_raw s f g h rows)

rules_raw : (n : ℕ) (c : Content) (rows : List Row) → raw_rules_after n c (map raw_rule rows) ≡ map raw_rule (rows_after n c rows)
rules_raw n (add w) rows = sym (map-append raw_rule rows (added_row n w ∷ []))
rules_raw n (remove s) rows = filter_raw s rows
rules_raw n (enable s) rows = change_raw s (with_count 0) (λ r. record r { disabled = pos 0 }) (λ r. refl) rows
rules_raw n (disable s) rows = change_raw s (λ r. with_count (r.disabled + 1) r) (λ r. record r { disabled = r.disabled +ℤ pos 1 }) (λ r. refl) rows
rules_raw n (expire s m) rows = change_raw s (with_expiry m) (λ r. record r { expires = option_map pos m }) (λ r. refl) rows
rules_raw n (switch on) rows = refl

switch_raw : (c : Content) (b : Bool) → raw_switch_after c (bool_number b) ≡ bool_number (switch_after c b)
switch_raw (add w) b = refl
switch_raw (remove s) b = refl
switch_raw (enable s) b = refl
switch_raw (disable s) b = refl
switch_raw (expire s m) b = refl
switch_raw (switch on) b = refl

-- the tables of an edit of this number
abbrev made : Change → Tables → Tables
made c t = record {
  rows = rows_after c.number c.edit.content t.rows;
  receipts = t.receipts ++ record { number = c.number; key = c.edit.key; content = content_text c.edit.content; rules = c.touched } ∷ [];
  enabled = switch_after c.edit.content t.enabled;
}

made_raw : (c : Change) (t : Tables) → raw_after c (raw_of_tables t) ≡ raw_of_tables (made c t)
made_raw c t =
    ap (λ l. record { format = STORE_FORMAT; switch = raw_switch_after c.edit.content (bool_number t.enabled); receipts = map raw_receipt t.receipts ++ raw_receipt_of c ∷ []; rules = l }) (rules_raw c.number c.edit.content t.rows)
    ∙ ap (λ l. record { format = STORE_FORMAT; switch = raw_switch_after c.edit.content (bool_number t.enabled); receipts = l; rules = map raw_rule (rows_after c.number c.edit.content t.rows) }) (sym (map-append raw_receipt t.receipts (record { number = c.number; key = c.edit.key; content = content_text c.edit.content; rules = c.touched } ∷ [])))
    ∙ ap (λ z. record { format = STORE_FORMAT; switch = z; receipts = map raw_receipt (made c t).receipts; rules = map raw_rule (rows_after c.number c.edit.content t.rows) }) (switch_raw c.edit.content t.enabled)

abbrev NotDone : Option Answer → ℕ → ℕ → Type 0
NotDone None n k = ⊤
NotDone (Some a) n k = a ≡ done n k → ⊥

either_or : (x y : Option Answer) (n k : ℕ) → NotDone x n k → NotDone y n k → NotDone (option_or x y) n k
either_or None y n k h g = g
either_or (Some a) y n k h g = h

if_none : (b : Bool) (a : Answer) (n k : ℕ) → (a ≡ done n k → ⊥) → NotDone (if b then None else Some a) n k
if_none true a n k h = tt
if_none false a n k h = h

by_rows : (c : Content) (rows : List Row) (n k : ℕ) → NotDone (refused_by_rows c rows) n k
by_rows (add w) rows n k = if_none (nat_lt (length rows) MOST_RULES) table_full n k (λ e. cc)
by_rows (remove s) rows n k = if_none (list_any (selects s) rows) no_rule n k (λ e. cc)
by_rows (enable s) rows n k = if_none (list_any (selects s) rows) no_rule n k (λ e. cc)
by_rows (disable s) rows n k = if_none (list_any (selects s) rows) no_rule n k (λ e. cc)
by_rows (expire s m) rows n k = if_none (list_any (selects s) rows) no_rule n k (λ e. cc)
by_rows (switch on) rows n k = tt

by_count : (o : Option ℕ) (n k : ℕ) → NotDone (option_map disable_full o) n k
by_count None n k = tt
by_count (Some id) n k = λ e. cc

not_done : (c : Content) (t : Tables) (n k : ℕ) → NotDone (refusal c t) n k
not_done c t n k =
    either_or (refused_by_rows c t.rows) (option_or (refused_by_receipts t.receipts) (refused_by_count c t.rows)) n k (by_rows c t.rows n k)
    (either_or (refused_by_receipts t.receipts) (refused_by_count c t.rows) n k (if_none (nat_lt (length t.receipts) MOST_RECEIPTS) receipts_full n k (λ e. cc)) (by_count (least_id (full_rows c t.rows)) n k))

refusal_not_done : (a : Answer) (c : Content) (t : Tables) (n k : ℕ) → refusal c t ≡ Some a → a ≡ done n k → ⊥
refusal_not_done a c t n k h e = subst (λ o. NotDone o n k) h (not_done c t n k) e

accepted_is : (c : Change) (t : Tables) → (accepted (length t.receipts + 1) (touched_by (length t.receipts + 1) c.edit.content t.rows) c.edit t).answer ≡ done c.number c.touched → made c t ≡ (accepted (length t.receipts + 1) (touched_by (length t.receipts + 1) c.edit.content t.rows) c.edit t).tables
accepted_is c t h =
    let n : c.number ≡ length t.receipts + 1 = cc in
    let k : c.touched ≡ length (touched_by (length t.receipts + 1) c.edit.content t.rows) = cc in
    ap (λ x. made (record { number = x; edit = c.edit; touched = c.touched }) t) n
    ∙ ap (λ x. made (record { number = length t.receipts + 1; edit = c.edit; touched = x }) t) k

new_is : (c : Change) (t : Tables) (a : Option Answer) → refusal c.edit.content t ≡ a → (at_new a c.edit t).answer ≡ done c.number c.touched → made c t ≡ (at_new a c.edit t).tables
new_is c t (Some a) why h = absurd (refusal_not_done a c.edit.content t c.number c.touched why h)
new_is c t None why h = accepted_is c t h

kept_not_done : (b : Bool) (r : Receipt) (n k : ℕ) → (if b then repeated r.number r.rules else key_reused r.number r.rules) ≡ done n k → ⊥
kept_not_done true r n k h = cc
kept_not_done false r n k h = cc

does_is : (c : Change) (t : Tables) (k : Option Receipt) → (does_at k c.edit t).answer ≡ done c.number c.touched → made c t ≡ (does_at k c.edit t).tables
does_is c t (Some r) h = absurd (kept_not_done (bytes_eq r.content (content_text c.edit.content)) r c.number c.touched h)
does_is c t None h = new_is c t (refusal c.edit.content t) refl h

pub change_is_edit : ChangeIsEdit
change_is_edit t c h = made_raw c t ∙ ap raw_of_tables (does_is c t (kept t.receipts c.edit.key) h)

pub change_means_edit : ChangeMeansEdit
change_means_edit raw t c h takes fits = record {
  stored = ap (raw_after c) h.stored ∙ change_is_edit t c takes;
  trees = edit_trees t c.edit h.trees (fitting_content c.edit.content fits);
}
