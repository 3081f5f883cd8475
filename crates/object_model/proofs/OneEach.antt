-- At most one entry for each kind and subject, and no more than there is room for.
use Rattle.std.proofs.Common.{◌≡◌, ℕ, zero, suc, ◌<◌, ◌≤◌, List, [], ◌∷◌, ◌++◌, length, take, get_or, refl, sym, subst, arith, Option, Some, None}
use Rattle.std.specs.Prelude.{Bool, true, false, not, cond, ◌||◌, max, nat_le, slice_get}
use Rattle.std.specs.List.{filter, list_any}
use Rattle.std.proofs.lemmas.Bool.{or_parts, leb-false}
use Rattle.std.proofs.lemmas.List.{length-append}
use Rattle.std.proofs.lemmas.List.Kept.{AllPairs-filter}
use Rattle.std.proofs.lemmas.List.Quantifiers.{all_pairs_push}
use Rattle.req_tree.specs.Subject.{Subject}
use Rattle.policy_model.specs.Edits.{does}
use Rattle.policy_model.specs.Outcomes.{Ask}
use Rattle.policy_model.specs.History.{Event, tick, ask, offer, edit, edit_failed, edit_starved, look, Entry, Opening, tables_of, now_of}
use Rattle.object_model.specs.Objects.{inhibits, by_rules, is_unexpired, outlasts, is_for, is_moved, with_offer}
use Rattle.object_model.specs.Past.{touched_since}
use Rattle.object_model.specs.Kept.{entry_of, offer_of, offer_at, objects_step, objects_after, objects_of}
use Rattle.object_model.specs.declared.limits.TheConstants.{LATE_EDITS, MOST_ENTRIES}
use Rattle.object_model.specs.Fresh.{AreApart}

when_offered : (Q : List Entry → Type 0) (e : Entry) (objects : List Entry) (a b c d f : Bool) → (d ≡ false → f ≡ false → Q (objects ++ e ∷ [])) → Q objects → Q (with_offer (by_rules a b c d f) e objects)
when_offered Q e objects true b c d f new old = old
when_offered Q e objects false true c d f new old = old
when_offered Q e objects false false true d f new old = old
when_offered Q e objects false false false true f new old = old
when_offered Q e objects false false false false false new old = new refl refl
when_offered Q e objects false false false false true new old = old

-- what filters keep, and what an entry keeps that is the only one for its key and finds room
pub record IsKeptUp (Q : List Entry → Type 0) : Type 0 where
  pub filters : (test : Entry → Bool) (xs : List Entry) → Q xs → Q (filter test xs)
  pub pushes : (e : Entry) (xs : List Entry) → list_any (is_for e.kind e.subject) xs ≡ false → nat_le MOST_ENTRIES (length xs) ≡ false → Q xs → Q (xs ++ e ∷ [])

offer_keeps : (Q : List Entry → Type 0) → IsKeptUp Q → (o : Opening) (h : List Event) (objects : List Entry) (k : ℕ) (a : Ask) (s : Option Subject) → Q objects → Q (offer_of o h objects k a s)
offer_keeps Q up o h objects k a None q = q
offer_keeps Q up o h objects k a (Some s) q =
    let x : Entry = entry_of o (take k h) a s in
    when_offered Q x objects (not a.keep || inhibits x.outcome) (is_moved LATE_EDITS (touched_since o h k) x) (not (is_unexpired (now_of o h) x)) (list_any (is_for x.kind x.subject) objects) (nat_le MOST_ENTRIES (length objects)) (λ one fits. up.pushes x objects one fits q) q

place_keeps : (Q : List Entry → Type 0) → IsKeptUp Q → (o : Opening) (h : List Event) (objects : List Entry) (k : ℕ) (e : Option Event) → Q objects → Q (offer_at o h objects k e)
place_keeps Q up o h objects k (Some (ask a)) q = offer_keeps Q up o h objects k a a.subject q
place_keeps Q up o h objects k None q = q
place_keeps Q up o h objects k (Some (tick m)) q = q
place_keeps Q up o h objects k (Some (offer j)) q = q
place_keeps Q up o h objects k (Some (edit e)) q = q
place_keeps Q up o h objects k (Some (edit_failed e)) q = q
place_keeps Q up o h objects k (Some (edit_starved e)) q = q
place_keeps Q up o h objects k (Some look) q = q

step_keeps : (Q : List Entry → Type 0) → IsKeptUp Q → (o : Opening) (h : List Event) (e : Event) (objects : List Entry) → Q objects → Q (objects_step o h e objects)
step_keeps Q up o h (tick m) objects q = up.filters (is_unexpired (max (now_of o h) m)) objects q
step_keeps Q up o h (edit e) objects q = up.filters (outlasts (does (tables_of o h) e).touched) objects q
step_keeps Q up o h (offer k) objects q = place_keeps Q up o h objects k (slice_get h k) q
step_keeps Q up o h (ask a) objects q = q
step_keeps Q up o h (edit_failed e) objects q = q
step_keeps Q up o h (edit_starved e) objects q = q
step_keeps Q up o h look objects q = q

pub events_keep_up : (Q : List Entry → Type 0) → IsKeptUp Q → (o : Opening) (h es : List Event) (objects : List Entry) → Q objects → Q (objects_after o h es objects)
events_keep_up Q up o h [] objects q = q
events_keep_up Q up o h (e ∷ es) objects q = events_keep_up Q up o (h ++ e ∷ []) es (objects_step o h e objects) (step_keeps Q up o h e objects q)

any_false : (test : Entry → Bool) (xs : List Entry) → list_any test xs ≡ false → (k : ℕ) (d : Entry) → k < length xs → test (get_or xs k d) ≡ false
any_false test [] none k d l = absurd (omega (arith, l))
any_false test (x ∷ xs) none zero d l = (or_parts (test x) (list_any test xs) none).0
any_false test (x ∷ xs) none (suc k) d l = any_false test xs (or_parts (test x) (list_any test xs) none).1 k d (omega (arith, l))

apart_up : IsKeptUp AreApart
apart_up = record {
  filters = λ test xs q. AllPairs-filter (λ (a b : Entry). is_for b.kind b.subject a ≡ false) test xs q;
  pushes = λ e xs one fits q. all_pairs_push (λ (a b : Entry). is_for b.kind b.subject a ≡ false) xs e q (any_false (is_for e.kind e.subject) xs one);
}

pub one_each : (o : Opening) (h : List Event) → AreApart o.entries → AreApart (objects_of o h)
one_each o h q = events_keep_up AreApart apart_up o [] h o.entries q

shorter_one : (c : Bool) (x : Entry) (ys xs : List Entry) → length ys ≤ length xs → length (cond c (x ∷ ys) ys) ≤ length (x ∷ xs)
shorter_one true x ys xs h = omega (arith, h)
shorter_one false x ys xs h = omega (arith, h)

shorter : (test : Entry → Bool) (xs : List Entry) → length (filter test xs) ≤ length xs
shorter test [] = omega arith
shorter test (x ∷ xs) = shorter_one (test x) x (filter test xs) xs (shorter test xs)

one_more : (n : ℕ) (e : Entry) (xs : List Entry) → nat_le n (length xs) ≡ false → length (xs ++ e ∷ []) ≤ n
one_more n e xs h = omega (arith, length-append xs (e ∷ []), leb-false n (length xs) h)

fits_up : (n : ℕ) → n ≡ MOST_ENTRIES → IsKeptUp (λ xs. length xs ≤ n)
fits_up n same = record {
  filters = λ test xs q. omega (arith, q, shorter test xs);
  pushes = λ e xs one fits q. one_more n e xs (subst (λ m. nat_le m (length xs) ≡ false) (sym same) fits);
}

pub within_room : (o : Opening) (h : List Event) (n : ℕ) → n ≡ MOST_ENTRIES → length o.entries ≤ n → length (objects_of o h) ≤ n
within_room o h n same q = events_keep_up (λ xs. length xs ≤ n) (fits_up n same) o [] h o.entries q
