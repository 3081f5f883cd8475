-- A desk that begins soundly stays sound, and its entries answer as the rules do.
use Rattle.std.proofs.Common.{◌≡◌, ℕ, ◌≤◌, List, [], refl, ap, ◌∙◌, None, arith}
use Rattle.std.specs.Prelude.{Bool, true, false, not, ◌&&◌, ◌||◌, take, length, nat_le, ◌==◌, bytes_eq}
use Rattle.std.proofs.lemmas.List.Elements.{All-weaker, All-contains, All-nil}
use Rattle.req_tree.specs.Facts.{Facts}
use Rattle.policy_model.specs.Rules.{Row, same_kind}
use Rattle.policy_model.specs.Tables.{Tables}
use Rattle.policy_model.specs.Outcomes.{Outcome, governed, default, outcome, verdict_by, decided}
use Rattle.policy_model.specs.History.{Event, Entry, Opening, tables_of, now_of, HasOwnIds, empty_tables}
use Rattle.policy_model.proofs.OwnIds.{ids_after, edit_ids}
use Rattle.policy_model.proofs.OwnKeys.{keys_after, empty_keys}
use Rattle.std.specs.List.{filter, list_any}
use Rattle.std.proofs.lemmas.Bool.{not-false, and_parts, eqb-true}
use Rattle.std.proofs.lemmas.Slice.Eq.{bytes_eq-Decides}
use Rattle.req_tree.specs.Subject.{Subject}
use Rattle.policy_model.proofs.FirstRows.{same_kind-true}
use Rattle.object_model.proofs.Firsts.{found}
use Rattle.object_model.specs.Objects.{same_subject, kept, by_rules, inhibits, is_moved, is_for, is_unexpired, outlasts}
use Rattle.policy_model.specs.Edits.{does}
use Rattle.object_model.specs.Past.{touched_since}
use Rattle.object_model.specs.Kept.{objects_of, entry_of}
use Rattle.object_model.specs.declared.limits.TheConstants.{LATE_EDITS, MOST_ENTRIES}
use Rattle.object_model.specs.Fresh.{StillSays, IsFresh, AreFresh, IsSound}
use Rattle.object_model.specs.Laws.{StaysSound, FreshIsSound, HoldsUntil, FoundAnswers, TickKeeps, EditKeeps, OfferKeeps}
use Rattle.object_model.proofs.Says.{Lasts, AllLast}
use Rattle.object_model.proofs.OutcomeSays.{still_says, says_still}
use Rattle.object_model.proofs.Right.{right_through}
use Rattle.object_model.proofs.KeptLaws.{events_last, tick_lasts, edit_lasts, offer_lasts}
use Rattle.object_model.proofs.OneEach.{one_each, within_room}

pub fresh_from : (t : Tables) (facts : Facts) (m : ℕ) (objects : List Entry) → HasOwnIds t → AllLast t.rows facts m objects → AreFresh t.rows facts m objects
fresh_from t facts m objects ids last = All-weaker (Lasts t.rows facts m) (IsFresh t.rows facts m)
    (λ e f. record { lasts = f.lasts; says = still_says t.rows e.kind e.subject facts m e.outcome ids.apart f.right }) objects last

pub fresh_to : (rows : List Row) (facts : Facts) (m : ℕ) (objects : List Entry) → AreFresh rows facts m objects → AllLast rows facts m objects
fresh_to rows facts m objects fresh = All-weaker (IsFresh rows facts m) (Lasts rows facts m)
    (λ e f. record { lasts = f.lasts; right = says_still rows e.kind e.subject facts m e.outcome f.says }) objects fresh

pub last_after : (o : Opening) (h : List Event) → IsSound o → AllLast (tables_of o h).rows o.facts (now_of o h) (objects_of o h)
last_after o h sound = events_last o [] h o.entries (fresh_to o.tables.rows o.facts o.now o.entries sound.fresh)

pub stays_sound : StaysSound
stays_sound o h sound = record {
  ids = ids_after h o.tables sound.ids;
  keys = keys_after h o.tables sound.keys;
  fresh = fresh_from (tables_of o h) o.facts (now_of o h) (objects_of o h) (ids_after h o.tables sound.ids) (last_after o h sound);
  apart = one_each o h sound.apart;
  fits = within_room o h MOST_ENTRIES refl sound.fits;
}

empty_ids : HasOwnIds empty_tables
empty_ids = record { apart = λ i j d lt in'. absurd (omega (arith, in')); numbered = All-nil (λ (r : Row). r.id ≤ 0) }

pub fresh_is_sound : FreshIsSound
fresh_is_sound facts = record {
  ids = empty_ids;
  keys = empty_keys;
  fresh = All-nil (IsFresh [] facts 0);
  apart = λ i j d lt in'. absurd (omega (arith, in'));
  fits = omega arith;
}

pub holds_until : HoldsUntil
holds_until o h e m sound among le lasts =
    let old : Lasts (tables_of o h).rows o.facts (now_of o h) e = All-contains (Lasts (tables_of o h).rows o.facts (now_of o h)) (objects_of o h) e (last_after o h sound) among in
    still_says (tables_of o h).rows e.kind e.subject o.facts m e.outcome (ids_after h o.tables sound.ids).apart
    (right_through (tables_of o h).rows (tables_of o h).rows o.facts (now_of o h) m e refl le lasts old.right)

same_verdict : (enabled : Bool) (m : ℕ) (a b : Outcome) → StillSays a b → verdict_by enabled m a ≡ verdict_by enabled m b
same_verdict enabled m (governed rank allow label inhibit until) b s = ap (verdict_by enabled m) s
same_verdict enabled m (default latent label until) (default other text end) s = ap (λ x. decided enabled m false None x label) s.0 ∙ ap (λ y. decided enabled m false None other y) s.1
same_verdict enabled m (default latent label until) (governed rank allow text inhibit end) s = absurd s

-- what is for a kind and a subject has them

abbrev made : List ℕ → List ℕ → ℕ → Subject
made cdhash identifier platform = record { cdhash = cdhash; identifier = identifier; platform = platform }

same_parts : (a b : Subject) → a.cdhash ≡ b.cdhash → a.identifier ≡ b.identifier → a.platform ≡ b.platform → a ≡ b
same_parts a b e f g = ap (λ c. made c a.identifier a.platform) e ∙ ap (λ i. made b.cdhash i a.platform) f ∙ ap (λ p. made b.cdhash b.identifier p) g

one_subject : (a b : Subject) → same_subject a b ≡ true → a ≡ b
one_subject a b h =
    let p = and_parts (bytes_eq a.cdhash b.cdhash && bytes_eq a.identifier b.identifier) (a.platform == b.platform) h in
    let q = and_parts (bytes_eq a.cdhash b.cdhash) (bytes_eq a.identifier b.identifier) p.0 in
    same_parts a b ((bytes_eq-Decides a.cdhash b.cdhash).0 q.0) ((bytes_eq-Decides a.identifier b.identifier).0 q.1) (eqb-true a.platform b.platform p.1)

pub found_answers : FoundAnswers
found_answers o h kind subject keep e sound is =
    let f = found (is_for kind subject) (objects_of o h) e is in
    let k = and_parts (same_kind e.kind kind) (same_subject e.subject subject) f.1 in
    let now : IsFresh (tables_of o h).rows o.facts (now_of o h) e = All-contains (IsFresh (tables_of o h).rows o.facts (now_of o h)) (objects_of o h) e (stays_sound o h sound).fresh f.0 in
    same_verdict (tables_of o h).enabled (now_of o h) e.outcome (outcome (tables_of o h).rows e.kind e.subject o.facts (now_of o h)) now.says
    ∙ ap (λ x. verdict_by (tables_of o h).enabled (now_of o h) (outcome (tables_of o h).rows x e.subject o.facts (now_of o h))) (same_kind-true e.kind kind k.0)
    ∙ ap (λ x. verdict_by (tables_of o h).enabled (now_of o h) (outcome (tables_of o h).rows kind x o.facts (now_of o h))) (one_subject e.subject subject k.1)

pub tick_keeps : TickKeeps
tick_keeps t facts now later objects ids le fresh = fresh_from t facts later (filter (is_unexpired later) objects) ids (tick_lasts t.rows facts now later objects le (fresh_to t.rows facts now objects fresh))

pub edit_keeps_fresh : EditKeeps
edit_keeps_fresh t facts now objects e ids fresh =
    fresh_from (does t e).tables facts now (filter (outlasts (does t e).touched) objects) (edit_ids e t ids) (edit_lasts t facts e now objects (fresh_to t.rows facts now objects fresh))

-- of the rules that refuse, the second and the third don't hold of an outcome that is kept
by_kept : (a b c d f : Bool) → (by_rules a b c d f) ≡ kept → (b ≡ false) × (c ≡ false)
by_kept true b c d f h = cc
by_kept false true c d f h = cc
by_kept false false true d f h = cc
by_kept false false false d f h = (refl, refl)

pub offer_keeps : OfferKeeps
offer_keeps o h objects k a s ids is =
    let x : Entry = entry_of o (take k h) a s in
    let no = by_kept (not a.keep || inhibits x.outcome) (is_moved LATE_EDITS (touched_since o h k) x) (not (is_unexpired (now_of o h) x)) (list_any (is_for x.kind x.subject) objects) (nat_le MOST_ENTRIES (length objects)) is in
    let last : Lasts (tables_of o h).rows o.facts (now_of o h) x = offer_lasts o h k a s LATE_EDITS no.0 (not-false _ no.1) in
    record { lasts = last.lasts; says = still_says (tables_of o h).rows a.kind s o.facts (now_of o h) x.outcome (ids_after h o.tables ids).apart last.right }
