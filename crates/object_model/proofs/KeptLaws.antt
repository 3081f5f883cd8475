-- Each event keeps every kept entry right.
use Rattle.std.proofs.Common.{◌≡◌, ℕ, ◌≤◌, List, [], ◌∷◌, ◌++◌, length, take, drop, get_or, refl, sym, ap, ◌∙◌, subst, arith, append_assoc, Option, Some, None}
use Rattle.std.specs.Prelude.{All, Bool, true, false, not, ◌||◌, ◌&&◌, max, nat_lt, nat_le, slice_get}
use Rattle.std.specs.List.{filter, list_any}
use Rattle.std.proofs.lemmas.List.{append-nil}
use Rattle.std.proofs.lemmas.Bool.{or_parts, not-true, not-false}
use Rattle.std.proofs.lemmas.List.Elements.{All-filter, filter_passes, All-push}
use Rattle.req_tree.specs.Subject.{Subject}
use Rattle.req_tree.specs.Facts.{Facts}
use Rattle.policy_model.specs.Rules.{Row, Kind}
use Rattle.policy_model.specs.Tables.{Tables}
use Rattle.policy_model.specs.Contents.{Edit}
use Rattle.policy_model.specs.Edits.{does}
use Rattle.policy_model.specs.Outcomes.{Ask, Outcome, governed, default}
use Rattle.policy_model.specs.History.{Event, tick, ask, offer, edit, edit_failed, edit_starved, look, Entry, Opening, tables_step, now_step, tables_of, now_of}
use Rattle.object_model.specs.Objects.{rests_on, inhibits, is_governed, by_rules, is_unexpired, outlasts, is_for, is_moved, touches, with_offer}
use Rattle.object_model.specs.Past.{touched_since}
use Rattle.object_model.specs.Kept.{entry_of, offer_of, offer_at, objects_step, objects_after}
use Rattle.object_model.specs.declared.limits.TheConstants.{LATE_EDITS, MOST_ENTRIES}
use Rattle.object_model.proofs.Says.{Lasts, AllLast, AllLastAt}
use Rattle.object_model.proofs.EditLaws.{IsSteady, edit_keeps}
use Rattle.object_model.proofs.Right.{right_through}
use Rattle.object_model.proofs.OutcomeSays.{outcome_says}
use Rattle.object_model.proofs.PastLaws.{tables_joined, now_joined, tables_cut, now_cut, events_keep}

pub rests_steadily : (kind : Kind) (o : Outcome) → IsSteady (rests_on kind o)
rests_steadily kind (governed rank allow label inhibit until) = record { counts = λ n r. refl; expiries = λ m r. refl }
rests_steadily kind (default latent label until) = record { counts = λ n r. refl; expiries = λ m r. refl }

-- what is kept by a filter has both the old property and the test
kept_with : (P Q : Entry → Type 0) (test : Entry → Bool) (es : List Entry) → ((e : Entry) → test e ≡ true → P e → Q e) → All P es → All Q (filter test es)
kept_with P Q test es step all k d h = step (get_or (filter test es) k d) (filter_passes test es k d h) (All-filter test P es all k d h)

pub tick_lasts : (rows : List Row) (facts : Facts) (now later : ℕ) (objects : List Entry) → now ≤ later → AllLast rows facts now objects → AllLast rows facts later (filter (is_unexpired later) objects)
tick_lasts rows facts now later objects le fresh = kept_with (Lasts rows facts now) (Lasts rows facts later) (is_unexpired later) objects (λ e lasts old. record { lasts = lasts; right = right_through rows rows facts now later e refl le lasts old.right }) fresh

pub edit_lasts : (t : Tables) (facts : Facts) (e : Edit) (now : ℕ) (objects : List Entry) → AllLast t.rows facts now objects → AllLast (does t e).tables.rows facts now (filter (outlasts (does t e).touched) objects)
edit_lasts t facts e now objects fresh = kept_with (Lasts t.rows facts now) (Lasts (does t e).tables.rows facts now) (outlasts (does t e).touched) objects
    (λ x apart old. record { lasts = old.lasts; right = right_through t.rows (does t e).tables.rows facts now now x (sym (edit_keeps (rests_on x.kind x.outcome) (rests_steadily x.kind x.outcome) t e (not-true _ apart))) (omega arith) old.lasts old.right })
    fresh

-- what was judged at place k and isn't moved is right now
pub offer_lasts : (o : Opening) (h : List Event) (k : ℕ) (a : Ask) (s : Subject) (most : ℕ) → is_moved most (touched_since o h k) (entry_of o (take k h) a s) ≡ false → is_unexpired (now_of o h) (entry_of o (take k h) a s) ≡ true → Lasts (tables_of o h).rows o.facts (now_of o h) (entry_of o (take k h) a s)
offer_lasts o h k a s most still lasts =
    let x : Entry = entry_of o (take k h) a s in
    let p : Row → Bool = rests_on x.kind x.outcome in
    let apart = or_parts (list_any (list_any p) (touched_since o h k)) (is_governed x.outcome && nat_lt most (length (filter (touches x.kind) (touched_since o h k)))) still in
    let same : filter p (tables_of o h).rows ≡ filter p (tables_of o (take k h)).rows =
    ap (λ (t : Tables). filter p t.rows) (sym (tables_cut o k h)) ∙ events_keep p (rests_steadily x.kind x.outcome) (drop k h) (tables_of o (take k h)) apart.0 in
    record { lasts = lasts; right = right_through (tables_of o (take k h)).rows (tables_of o h).rows o.facts (now_of o (take k h)) (now_of o h) x (sym same) (now_cut o k h) lasts (outcome_says (tables_of o (take k h)).rows a.kind s o.facts (now_of o (take k h))) }

-- an offer keeps every entry right, if what is kept of it is
pub when_offered : (rows : List Row) (facts : Facts) (now : ℕ) (e : Entry) (objects : List Entry) (a b c d f : Bool) → (b ≡ false → c ≡ false → Lasts rows facts now e) → AllLast rows facts now objects → AllLast rows facts now (with_offer (by_rules a b c d f) e objects)
when_offered rows facts now e objects true b c d f new old = old
when_offered rows facts now e objects false true c d f new old = old
when_offered rows facts now e objects false false true d f new old = old
when_offered rows facts now e objects false false false true f new old = old
when_offered rows facts now e objects false false false false false new old = All-push (Lasts rows facts now) objects e old (new refl refl)
when_offered rows facts now e objects false false false false true new old = old

with_subject : (o : Opening) (h : List Event) (k : ℕ) (a : Ask) (s : Option Subject) (objects : List Entry) → AllLastAt o h objects → AllLastAt o h (offer_of o h objects k a s)
with_subject o h k a None objects fresh = fresh
with_subject o h k a (Some s) objects fresh =
    let x : Entry = entry_of o (take k h) a s in
    when_offered (tables_of o h).rows o.facts (now_of o h) x objects (not a.keep || inhibits x.outcome) (is_moved LATE_EDITS (touched_since o h k) x) (not (is_unexpired (now_of o h) x)) (list_any (is_for x.kind x.subject) objects) (nat_le MOST_ENTRIES (length objects))
    (λ still lasts. offer_lasts o h k a s LATE_EDITS still (not-false _ lasts)) fresh

at_place : (o : Opening) (h : List Event) (k : ℕ) (e : Option Event) (objects : List Entry) → AllLastAt o h objects → AllLastAt o h (offer_at o h objects k e)
at_place o h k None objects fresh = fresh
at_place o h k (Some (ask a)) objects fresh = with_subject o h k a a.subject objects fresh
at_place o h k (Some (tick m)) objects fresh = fresh
at_place o h k (Some (offer j)) objects fresh = fresh
at_place o h k (Some (edit e)) objects fresh = fresh
at_place o h k (Some (edit_failed e)) objects fresh = fresh
at_place o h k (Some (edit_starved e)) objects fresh = fresh
at_place o h k (Some look) objects fresh = fresh

pub step_lasts : (o : Opening) (h : List Event) (e : Event) (objects : List Entry) → AllLastAt o h objects → AllLast (tables_step e (tables_of o h)).rows o.facts (now_step e (now_of o h)) (objects_step o h e objects)
step_lasts o h (tick m) objects fresh = tick_lasts (tables_of o h).rows o.facts (now_of o h) (max (now_of o h) m) objects (omega arith) fresh
step_lasts o h (ask a) objects fresh = fresh
step_lasts o h (offer k) objects fresh = at_place o h k (slice_get h k) objects fresh
step_lasts o h (edit e) objects fresh = edit_lasts (tables_of o h) o.facts e (now_of o h) objects fresh
step_lasts o h (edit_failed e) objects fresh = fresh
step_lasts o h (edit_starved e) objects fresh = fresh
step_lasts o h look objects fresh = fresh

pub event_lasts : (o : Opening) (h : List Event) (e : Event) (objects : List Entry) → AllLastAt o h objects → AllLastAt o (h ++ e ∷ []) (objects_step o h e objects)
event_lasts o h e objects fresh =
    subst (λ (t : Tables). AllLast t.rows o.facts (now_of o (h ++ e ∷ [])) (objects_step o h e objects)) (sym (tables_joined h (e ∷ []) o.tables))
    (subst (λ n. AllLast (tables_step e (tables_of o h)).rows o.facts n (objects_step o h e objects)) (sym (now_joined h (e ∷ []) o.now)) (step_lasts o h e objects fresh))

pub events_last : (o : Opening) (h es : List Event) (objects : List Entry) → AllLastAt o h objects → AllLastAt o (h ++ es) (objects_after o h es objects)
events_last o h [] objects fresh = subst (λ x. AllLastAt o x objects) (sym (append-nil h)) fresh
events_last o h (e ∷ es) objects fresh = subst (λ x. AllLastAt o x (objects_after o (h ++ e ∷ []) es (objects_step o h e objects))) (append_assoc h (e ∷ []) es) (events_last o (h ++ e ∷ []) es (objects_step o h e objects) (event_lasts o h e objects fresh))
