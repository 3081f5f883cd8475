-- Ids differ, through any edit, so there is one first row.
use Rattle.std.proofs.Common.{◌≡◌, ℕ, ◌+◌, ◌<◌, ◌≤◌, List, [], ◌∷◌, length, get_or, refl, sym, ap, ◌∙◌, subst, arith, inl, inr, Option, Some, None}
use Rattle.std.specs.Prelude.{All, AllPairs, Bool, true, false, not, map, if◌then◌else◌}
use Rattle.std.proofs.lemmas.Int.{ints}
use Rattle.std.proofs.lemmas.Bool.{cases_order}
use Rattle.std.proofs.lemmas.List.{length-append, length-map, get_or-map, get_or_default}
use Rattle.std.proofs.lemmas.List.Quantifiers.{all_pairs_push}
use Rattle.std.proofs.lemmas.List.Kept.{AllPairs-filter}
use Rattle.std.proofs.lemmas.List.Elements.{All-filter, All-push, All-map, All-contains}
use Rattle.policy_model.specs.Rules.{Row, Rank, rank_of, Before, IsFirst, HasNone, IsFirstOf}
use Rattle.policy_model.specs.Contents.{Content, add, remove, enable, disable, expire, switch, Edit}
use Rattle.policy_model.specs.Tables.{Tables, Receipt, Answer}
use Rattle.policy_model.specs.Changes.{selects, change, with_count, with_expiry, added_row, rows_after}
use Rattle.policy_model.specs.Refusals.{refusal}
use Rattle.policy_model.specs.Edits.{does, does_at, at_new, kept}
use Rattle.policy_model.specs.History.{Event, tick, ask, offer, edit, edit_failed, edit_starved, look, tables_step, tables_after, HasOwnIds}

abbrev Rising : List Row → Type 0
Rising rows = AllPairs (λ (a b : Row). a.id < b.id) rows

same_ids : (f : Row → Row) → ((r : Row) → (f r).id ≡ r.id) → (r : Row) (b : Bool) → (if b then f r else r).id ≡ r.id
same_ids f same r true = same r
same_ids f same r false = refl

rising_map : (f : Row → Row) → ((r : Row) → (f r).id ≡ r.id) → (xs : List Row) → Rising xs → Rising (map f xs)
rising_map f same xs h i j d lt in' =
    let jl : j < length xs = subst (λ n. j < n) (length-map xs f) in' in
    let a : (get_or (map f xs) i d).id ≡ (get_or xs i d).id = ap (λ (r : Row). r.id) (get_or-map f xs i d d (omega (arith, lt, jl))) ∙ same (get_or xs i d) in
    let b : (get_or (map f xs) j d).id ≡ (get_or xs j d).id = ap (λ (r : Row). r.id) (get_or-map f xs j d d jl) ∙ same (get_or xs j d) in
    omega (arith, a, b, h i j d lt jl)

numbered_map : (f : Row → Row) → ((r : Row) → (f r).id ≡ r.id) → (n : ℕ) (xs : List Row) → All (λ (r : Row). r.id ≤ n) xs → All (λ (r : Row). r.id ≤ n) (map f xs)
numbered_map f same n xs h = All-map (λ (r : Row). r.id ≤ n) f xs (λ k d l. subst (λ x. x ≤ n) (sym (same (get_or xs k d))) (h k d l))

rising_change : (sel : Row → Bool) (f : Row → Row) → ((r : Row) → (f r).id ≡ r.id) → (xs : List Row) → Rising xs → Rising (change sel f xs)
rising_change sel f same xs h = rising_map (λ r. if sel r then f r else r) (λ r. same_ids f same r (sel r)) xs h

numbered_change : (sel : Row → Bool) (f : Row → Row) → ((r : Row) → (f r).id ≡ r.id) → (n : ℕ) (xs : List Row) → All (λ (r : Row). r.id ≤ n) xs → All (λ (r : Row). r.id ≤ n) (change sel f xs)
numbered_change sel f same n xs h = numbered_map (λ r. if sel r then f r else r) (λ r. same_ids f same r (sel r)) n xs h

rising_after : (n : ℕ) (c : Content) (rows : List Row) → Rising rows → All (λ (r : Row). r.id ≤ n) rows → Rising (rows_after (n + 1) c rows)
rising_after n (add r) rows h below = all_pairs_push (λ (a b : Row). a.id < b.id) rows (added_row (n + 1) r) h (λ k d l. omega (arith, below k d l))
rising_after n (remove s) rows h below = AllPairs-filter (λ (a b : Row). a.id < b.id) (λ r. not (selects s r)) rows h
rising_after n (enable s) rows h below = rising_change (selects s) (with_count 0) (λ r. refl) rows h
rising_after n (disable s) rows h below = rising_change (selects s) (λ r. with_count (r.disabled + 1) r) (λ r. refl) rows h
rising_after n (expire s m) rows h below = rising_change (selects s) (with_expiry m) (λ r. refl) rows h
rising_after n (switch on) rows h below = h

more_below : (n : ℕ) (rows : List Row) → All (λ (r : Row). r.id ≤ n) rows → All (λ (r : Row). r.id ≤ n + 1) rows
more_below n rows h k d l = omega (arith, h k d l)

below_after : (n : ℕ) (c : Content) (rows : List Row) → All (λ (r : Row). r.id ≤ n) rows → All (λ (r : Row). r.id ≤ n + 1) (rows_after (n + 1) c rows)
below_after n (add r) rows below = All-push (λ (x : Row). x.id ≤ n + 1) rows (added_row (n + 1) r) (more_below n rows below) (omega arith)
below_after n (remove s) rows below = All-filter (λ r. not (selects s r)) (λ (x : Row). x.id ≤ n + 1) rows (more_below n rows below)
below_after n (enable s) rows below = numbered_change (selects s) (with_count 0) (λ r. refl) (n + 1) rows (more_below n rows below)
below_after n (disable s) rows below = numbered_change (selects s) (λ r. with_count (r.disabled + 1) r) (λ r. refl) (n + 1) rows (more_below n rows below)
below_after n (expire s m) rows below = numbered_change (selects s) (with_expiry m) (λ r. refl) (n + 1) rows (more_below n rows below)
below_after n (switch on) rows below = more_below n rows below

new_ids : (a : Option Answer) (e : Edit) (t : Tables) → HasOwnIds t → HasOwnIds (at_new a e t).tables
new_ids (Some a) e t h = h
new_ids None e t h = record {
  apart = rising_after (length t.receipts) e.content t.rows h.apart h.numbered;
  numbered = subst (λ n. All (λ (r : Row). r.id ≤ n) (rows_after (length t.receipts + 1) e.content t.rows)) (sym (length-append t.receipts _)) (below_after (length t.receipts) e.content t.rows h.numbered);
}

at_ids : (k : Option Receipt) (e : Edit) (t : Tables) → HasOwnIds t → HasOwnIds (does_at k e t).tables
at_ids (Some r) e t h = h
at_ids None e t h = new_ids (refusal e.content t) e t h

-- an edit keeps ids apart
pub edit_ids : (e : Edit) (t : Tables) → HasOwnIds t → HasOwnIds (does t e).tables
edit_ids e t h = at_ids (kept t.receipts e.key) e t h

pub step_ids : (e : Event) (t : Tables) → HasOwnIds t → HasOwnIds (tables_step e t)
step_ids (edit e) t h = edit_ids e t h
step_ids (tick m) t h = h
step_ids (ask a) t h = h
step_ids (offer k) t h = h
step_ids (edit_failed e) t h = h
step_ids (edit_starved e) t h = h
step_ids look t h = h

pub ids_after : (es : List Event) (t : Tables) → HasOwnIds t → HasOwnIds (tables_after es t)
ids_after [] t h = h
ids_after (e ∷ es) t h = ids_after es (tables_step e t) (step_ids e t h)

-- of two rows with different ids one is before the other
one_ahead : (a b : Rank) → a.id < b.id → (Before a b → ⊥) → (Before b a → ⊥) → ⊥
one_ahead a b lt h k = grind (arith, ints, lt, h, k)

id_at : (rows : List Row) (g : Row) (k : ℕ) (d : Row) → k < length rows → get_or rows k g ≡ g → get_or rows k d ≡ g
id_at rows g k d l e = get_or_default rows k d g l ∙ e

one_first : (P : Row → Type 0) (rows : List Row) (g f : Row) → Rising rows → IsFirst P rows g → IsFirst P rows f → g ≡ f
one_first P rows g f apart a b =
    let i = a.among.0 in let j = b.among.0 in
    let not_fg : Before (rank_of f) (rank_of g) → ⊥ = λ x. All-contains (λ s. P s → Before (rank_of s) (rank_of g) → ⊥) rows f a.first b.among b.itself x in
    let not_gf : Before (rank_of g) (rank_of f) → ⊥ = λ x. All-contains (λ s. P s → Before (rank_of s) (rank_of f) → ⊥) rows g b.first a.among a.itself x in
    elim (cases_order i j) as (λ _. g ≡ f) [
      | inl same ↦ sym a.among.2 ∙ ap (λ k. get_or rows k g) same ∙ id_at rows f j g b.among.1 b.among.2
      | inr other ↦ elim other as (λ _. g ≡ f) [
        | inl lt ↦ absurd (one_ahead (rank_of g) (rank_of f) (subst (λ (x : Row). x.id < f.id) (id_at rows g i f a.among.1 a.among.2) (subst (λ (y : Row). (get_or rows i f).id < y.id) (id_at rows f j f b.among.1 b.among.2) (apart i j f lt b.among.1))) not_gf not_fg)
        | inr gt ↦ absurd (one_ahead (rank_of f) (rank_of g) (subst (λ (x : Row). x.id < g.id) (id_at rows f j g b.among.1 b.among.2) (subst (λ (y : Row). (get_or rows j g).id < y.id) (id_at rows g i g a.among.1 a.among.2) (apart j i g gt a.among.1))) not_fg not_gf)
      ]
    ]

none_and_one : (P : Row → Type 0) (rows : List Row) (g : Row) → HasNone P rows → IsFirst P rows g → ⊥
none_and_one P rows g none a = All-contains (λ s. P s → ⊥) rows g none a.among a.itself

-- at most one row is the first by a property
pub one_answer : (P : Row → Type 0) (rows : List Row) (a b : Option Row) → Rising rows → IsFirstOf P rows a → IsFirstOf P rows b → a ≡ b
one_answer P rows None None apart h k = refl
one_answer P rows None (Some f) apart h k = absurd (none_and_one P rows f h k)
one_answer P rows (Some g) None apart h k = absurd (none_and_one P rows g k h)
one_answer P rows (Some g) (Some f) apart h k = ap Some (one_first P rows g f apart h k)
