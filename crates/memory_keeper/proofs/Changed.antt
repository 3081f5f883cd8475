-- Stored rules that are changed in place, one after the other.
use Rattle.std.proofs.Common.{◌≡◌, ◌≢◌, ◌-◌, ℕ, ◌+◌, ◌<◌, length, take, drop, get_or, set, List, [], ◌∷◌, ◌++◌, refl, sym, ap, ◌∙◌, subst, arith}
use Rattle.std.specs.Prelude.{Bool, true, false, cond, map, All}
use Rattle.std.specs.List.{filter}
use Rattle.std.proofs.Props.{props}
use Rattle.std.proofs.Math.Logic.{∥∥₁_elim}
use Rattle.std.proofs.lemmas.List.{map-set, length-map, length-take-le, get_or-map, get_or-drop, get_or-append_right}
use Rattle.std.proofs.lemmas.List.Edits.{map_over_more}
use Rattle.std.proofs.lemmas.List.Elements.{All-get_or}
use Rattle.store_model.specs.Raw.{RawRule}
use Rattle.store_model.specs.Change.{raw_change, raw_rules_after}
use Rattle.rule_values.specs.declared.selector.Selector as selector
use Rattle.rule_values.specs.declared.row_change.RowChange.{RowChange}
use Rattle.rule_values.specs.declared.row_change.RowChange.TheVariants.{Remove, Enable, Disable, Expire}
use Rattle.rule_values.specs.Selector.{selector_of, content_by}
use Rattle.raw_tables.specs.declared.rule.RawRule as code
use Rattle.raw_tables.specs.Raw.{plain_rule, plain_rules}
use Rattle.memory_keeper.specs.Changes.{raw_changed_by, CanBeDisabled}

-- one more rule is changed
pub change_more : (g : RawRule → RawRule) (old : List RawRule) (ys : List code.RawRule) (i : ℕ) (d x : code.RawRule) → i < length ys → i < length old → plain_rules ys ≡ map g (take i old) ++ drop i old →
    plain_rule x ≡ g (plain_rule (get_or ys i d)) → plain_rules (set ys i x) ≡ map g (take (i + 1) old) ++ drop (i + 1) old
change_more g old ys i d x lt lt' h e =
    map-set plain_rule ys i x
    ∙ (ap (set (plain_rules ys) i) e
    ∙ map_over_more g old (plain_rules ys) i (plain_rule (get_or ys i d)) lt' h (sym (get_or-map plain_rule ys i d (plain_rule (get_or ys i d)) lt)))

-- the next rule is as it was
unchanged_at : (g : RawRule → RawRule) (old rows : List RawRule) (i : ℕ) (d : RawRule) → i < length old → rows ≡ map g (take i old) ++ drop i old → get_or rows i d ≡ get_or old i d
unchanged_at g old rows i d lt h =
    let front : length (map g (take i old)) ≡ i = length-map (take i old) g ∙ length-take-le i old (omega (arith, lt)) in
    let here : i + (i - i) ≡ i = omega arith in
    ap (λ l. get_or l i d) h
    ∙ (get_or-append_right (map g (take i old)) (drop i old) i i d front (omega arith)
    ∙ (get_or-drop i old (i - i) d ∙ ap (λ k. get_or old k d) here))

-- so its count is within bounds still
pub still_counted : (g : RawRule → RawRule) (old : List RawRule) (rules : List code.RawRule) (i : ℕ) (d : code.RawRule) → i < length old → i < length rules →
    plain_rules rules ≡ map g (take i old) ++ drop i old → ∥ All CanBeDisabled old ∥₁ → CanBeDisabled (plain_rule (get_or rules i d))
still_counted g old rules i d lt lt' h counted =
    let same : get_or old i (plain_rule d) ≡ plain_rule (get_or rules i d) =
    sym (unchanged_at g old (plain_rules rules) i (plain_rule d) lt h) ∙ get_or-map plain_rule rules i d (plain_rule d) lt' in
    subst CanBeDisabled same (∥∥₁_elim counted (hlevel props) (λ all. All-get_or CanBeDisabled old i (plain_rule d) lt all))

kept_cons : (b : Bool) (x : code.RawRule) (xs : List code.RawRule) (rows : List RawRule) → plain_rules xs ≡ rows → plain_rules (cond b (x ∷ xs) xs) ≡ cond b (plain_rule x ∷ rows) rows
kept_cons true x xs rows e = ap (λ l. plain_rule x ∷ l) e
kept_cons false x xs rows e = e

-- rules that are kept, as the stored ones that are
pub kept_rules : (test : RawRule → Bool) (rules : List code.RawRule) → plain_rules (filter (λ r. test (plain_rule r)) rules) ≡ filter test (plain_rules rules)
kept_rules test [] = refl
kept_rules test (x ∷ rules) = kept_cons (test (plain_rule x)) x (filter (λ r. test (plain_rule r)) rules) (filter test (plain_rules rules)) (kept_rules test rules)

-- a change other than a removal, rule by rule
pub rules_changed : (n : ℕ) (s : selector.Selector) (c : RowChange) (rows : List RawRule) → c ≢ Remove → raw_change (selector_of s) (raw_changed_by c) rows ≡ raw_rules_after n (content_by s c) rows
rules_changed n s Remove rows h = absurd (h refl)
rules_changed n s Enable rows h = refl
rules_changed n s Disable rows h = refl
rules_changed n s (Expire end) rows h = refl
