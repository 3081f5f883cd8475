-- Rules that are changed in place, one after the other.
use Rattle.std.proofs.Common.{◌≡◌, ◌≢◌, ◌-◌, ℕ, zero, suc, ◌+◌, ◌<◌, length, take, drop, get_or, set, List, [], ◌∷◌, ◌++◌, refl, sym, ap, ◌∙◌, subst, arith}
use Rattle.std.specs.Prelude.{Bool, true, false, cond, map, nat_le, ◌&&◌, None, if◌then◌else◌}
use Rattle.std.specs.List.{filter}
use Rattle.std.proofs.lemmas.List.{map-set, length-map, length-take-le, get_or-map, get_or-drop, get_or-append_right}
use Rattle.std.proofs.lemmas.List.Edits.{map_over_more}
use Rattle.policy_model.specs.declared.limits.TheConstants.{MOST_DISABLES}
use Rattle.policy_model.specs.Rules.{Row}
use Rattle.policy_model.specs.Contents.{Content, add, remove, enable, disable, expire, switch}
use Rattle.policy_model.specs.Changes.{selects, change, rows_after}
use Rattle.policy_model.specs.Refusals.{full_rows, least_id}
use Rattle.rule_values.specs.declared.rule.Rule.{Rule}
use Rattle.rule_values.specs.declared.selector.Selector as code
use Rattle.rule_values.specs.declared.row_change.RowChange.{RowChange}
use Rattle.rule_values.specs.declared.row_change.RowChange.TheVariants.{Remove, Enable, Disable, Expire}
use Rattle.rule_values.specs.Rule.{row_of, rows_of}
use Rattle.rule_values.specs.Selector.{selector_of, content_by}
use Rattle.rule_values.specs.Changes.{changed_by}

kept_cons : (b : Bool) (x : Rule) (xs : List Rule) (rows : List Row) → rows_of xs ≡ rows → rows_of (cond b (x ∷ xs) xs) ≡ cond b (row_of x ∷ rows) rows
kept_cons true x xs rows e = ap (λ l. row_of x ∷ l) e
kept_cons false x xs rows e = e

-- one more row is changed
pub change_more : (g : Row → Row) (old : List Row) (ys : List Rule) (i : ℕ) (d x : Rule) → i < length ys → i < length old → rows_of ys ≡ map g (take i old) ++ drop i old →
    row_of x ≡ g (row_of (get_or ys i d)) → rows_of (set ys i x) ≡ map g (take (i + 1) old) ++ drop (i + 1) old
change_more g old ys i d x lt lt' h e =
    map-set row_of ys i x
    ∙ (ap (set (rows_of ys) i) e
    ∙ map_over_more g old (rows_of ys) i (row_of (get_or ys i d)) lt' h (sym (get_or-map row_of ys i d (row_of (get_or ys i d)) lt)))

-- the next row is as it was
pub unchanged_at : (g : Row → Row) (old rows : List Row) (i : ℕ) (d : Row) → i < length old → rows ≡ map g (take i old) ++ drop i old → get_or rows i d ≡ get_or old i d
unchanged_at g old rows i d lt h =
    let front : length (map g (take i old)) ≡ i = length-map (take i old) g ∙ length-take-le i old (omega (arith, lt)) in
    let here : i + (i - i) ≡ i = omega arith in
    ap (λ l. get_or l i d) h
    ∙ (get_or-append_right (map g (take i old)) (drop i old) i i d front (omega arith)
    ∙ (get_or-drop i old (i - i) d ∙ ap (λ k. get_or old k d) here))

-- rows that are kept, as the rules that are
pub kept_rows : (test : Row → Bool) (rules : List Rule) → rows_of (filter (λ r. test (row_of r)) rules) ≡ filter test (rows_of rules)
kept_rows test [] = refl
kept_rows test (x ∷ rules) = kept_cons (test (row_of x)) x (filter (λ r. test (row_of r)) rules) (filter test (rows_of rules)) (kept_rows test rules)

-- as many rows as before
pub change_length : (test : Row → Bool) (g : Row → Row) (old new : List Rule) → rows_of new ≡ change test g (rows_of old) → length new ≡ length old
change_length test g old new e =
    sym (length-map new row_of) ∙ (ap length e ∙ (length-map (rows_of old) (λ r. if test r then g r else r) ∙ length-map old row_of))

-- a change other than a removal, row by row
pub rows_changed : (s : code.Selector) (c : RowChange) (rows : List Row) → c ≢ Remove → change (selects (selector_of s)) (changed_by c) rows ≡ rows_after 0 (content_by s c) rows
rows_changed s Remove rows h = absurd (h refl)
rows_changed s Enable rows h = refl
rows_changed s Disable rows h = refl
rows_changed s (Expire end) rows h = refl

least_none : (rows : List Row) → least_id rows ≡ None → rows ≡ []
least_none [] e = refl
least_none (r ∷ rows) e = cc

filter_none : (b : Bool) (x : Row) (xs : List Row) → cond b (x ∷ xs) xs ≡ [] → (cond b (x ∷ []) [] ≡ []) × (xs ≡ [])
filter_none true x xs e = cc
filter_none false x xs e = (refl, e)

none_at : (test : Row → Bool) (rows : List Row) (i : ℕ) (d : Row) → i < length rows → filter test rows ≡ [] → filter test (get_or rows i d ∷ []) ≡ []
none_at test [] i d lt e = absurd (omega (arith, lt))
none_at test (x ∷ rows) zero d lt e = (filter_none (test x) x (filter test rows) e).0
none_at test (x ∷ rows) (suc i) d lt e = none_at test rows i d (omega (arith, lt)) (filter_none (test x) x (filter test rows) e).1

-- where no count is full, that of one row isn't
pub none_full_at : (c : Content) (rows : List Row) (i : ℕ) (d : Row) → i < length rows → least_id (full_rows c rows) ≡ None → least_id (full_rows c (get_or rows i d ∷ [])) ≡ None
none_full_at (add r) rows i d lt e = refl
none_full_at (remove s) rows i d lt e = refl
none_full_at (enable s) rows i d lt e = refl
none_full_at (disable s) rows i d lt e = ap least_id (none_at (λ r. selects s r && nat_le MOST_DISABLES r.disabled) rows i d lt (least_none (full_rows (disable s) rows) e))
none_full_at (expire s m) rows i d lt e = refl
none_full_at (switch on) rows i d lt e = refl

-- nor is that of a row that is still as it was
pub still_none_full : (c : Content) (g : Row → Row) (old : List Row) (rules : List Rule) (i : ℕ) (d : Rule) → i < length old → i < length rules →
    rows_of rules ≡ map g (take i old) ++ drop i old → least_id (full_rows c old) ≡ None → least_id (full_rows c (row_of (get_or rules i d) ∷ [])) ≡ None
still_none_full c g old rules i d lt lt' h e =
    let same : get_or old i (row_of d) ≡ row_of (get_or rules i d) =
    sym (unchanged_at g old (rows_of rules) i (row_of d) lt h) ∙ get_or-map row_of rules i d (row_of d) lt' in
    subst (λ r. least_id (full_rows c (r ∷ [])) ≡ None) same (none_full_at c old i (row_of d) lt e)
