-- What rows say of a kind rests on the rows of that kind alone.
use Rattle.std.proofs.Common.{◌≡◌, ℕ, List, [], ◌∷◌, refl, sym, ap, ◌∙◌, arith, Option, Some, None}
use Rattle.std.specs.Prelude.{Bool, true, false, ◌&&◌}
use Rattle.std.specs.List.{filter}
use Rattle.std.proofs.lemmas.Bool.{and_parts}
use Rattle.req_tree.specs.Subject.{Subject}
use Rattle.req_tree.specs.Facts.{Facts}
use Rattle.req_tree.specs.Meaning.{mean}
use Rattle.policy_model.specs.Rules.{Row, Kind, same_kind, is_below, is_counted, meets, first}
use Rattle.policy_model.specs.Outcomes.{outcome, outcome_by}

first_one : (test p : Row → Bool) (r : Row) (rows : List Row) (b c : Bool) → test r ≡ b → p r ≡ c → (b ≡ true → c ≡ true) → first test rows ≡ first test (filter p rows) → first test (r ∷ rows) ≡ first test (filter p (r ∷ rows))
first_one test p r rows true true e f w ih = grind (arith, e, f, ih)
first_one test p r rows true false e f w ih = cc (w refl)
first_one test p r rows false true e f w ih = grind (arith, e, f, ih)
first_one test p r rows false false e f w ih = grind (arith, e, f, ih)

-- the first row that passes is among those that pass a weaker test
first_among : (test p : Row → Bool) → ((r : Row) → test r ≡ true → p r ≡ true) → (rows : List Row) → first test rows ≡ first test (filter p rows)
first_among test p weaker [] = refl
first_among test p weaker (r ∷ rows) = first_one test p r rows (test r) (p r) refl refl (weaker r) (first_among test p weaker rows)

of_kind : (disabled : Bool) (kind : Kind) (subject : Subject) (facts : Facts) (m : ℕ) (r : Row) → meets disabled kind subject facts m r ≡ true → same_kind r.kind kind ≡ true
of_kind disabled kind subject facts m r h =
    let c = and_parts (same_kind r.kind kind && is_below m r.expires && is_counted disabled r.disabled) (mean r.tree subject facts) h in
    let b = and_parts (same_kind r.kind kind && is_below m r.expires) (is_counted disabled r.disabled) c.0 in
    (and_parts (same_kind r.kind kind) (is_below m r.expires) b.0).0

first_same : (disabled : Bool) (kind : Kind) (subject : Subject) (facts : Facts) (m : ℕ) (rows later : List Row) → filter (λ r. same_kind r.kind kind) rows ≡ filter (λ r. same_kind r.kind kind) later →
    first (meets disabled kind subject facts m) rows ≡ first (meets disabled kind subject facts m) later
first_same disabled kind subject facts m rows later same =
    first_among (meets disabled kind subject facts m) (λ r. same_kind r.kind kind) (of_kind disabled kind subject facts m) rows
    ∙ ap (first (meets disabled kind subject facts m)) same
    ∙ sym (first_among (meets disabled kind subject facts m) (λ r. same_kind r.kind kind) (of_kind disabled kind subject facts m) later)

-- what decides is enough to know, whatever the rows are
over : (rows later : List Row) (kind : Kind) (m : ℕ) (g l : Option Row) → outcome_by rows kind m g l ≡ outcome_by later kind m g l
over rows later kind m (Some r) l = refl
over rows later kind m None l = refl

by_both : (rows later : List Row) (kind : Kind) (m : ℕ) (g l a b : Option Row) → g ≡ a → l ≡ b → outcome_by rows kind m g l ≡ outcome_by later kind m a b
by_both rows later kind m g l a b e f = ap (λ x. outcome_by rows kind m x l) e ∙ ap (λ y. outcome_by rows kind m a y) f ∙ over rows later kind m a b

pub outcome_same : (rows later : List Row) (kind : Kind) (subject : Subject) (facts : Facts) (m : ℕ) → filter (λ r. same_kind r.kind kind) rows ≡ filter (λ r. same_kind r.kind kind) later → outcome rows kind subject facts m ≡ outcome later kind subject facts m
outcome_same rows later kind subject facts m same = by_both rows later kind m _ _ _ _ (first_same false kind subject facts m rows later same) (first_same true kind subject facts m rows later same)
