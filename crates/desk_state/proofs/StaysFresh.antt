-- A desk stays fresh, call by call.
use Rattle.std.proofs.Common.{◌≡◌, ℕ, ◌+◌, ◌-◌, List, [], length, refl, sym, ap, ◌∙◌, subst, arith, None}
use Rattle.std.specs.Prelude.{Bool, not, ◌||◌, max, nat_le}
use Rattle.std.specs.List.{filter, list_any}
use Rattle.std.proofs.lemmas.List.Elements.{All-nil}
use Rattle.req_tree.specs.Subject.{Subject}
use Rattle.req_tree.specs.Facts.{Facts}
use Rattle.policy_model.specs.Rules.{Row, Kind, is_below}
use Rattle.policy_model.specs.Outcomes.{Outcome}
use Rattle.policy_model.specs.Contents.{Edit}
use Rattle.policy_model.specs.Tables.{Tables, Effect}
use Rattle.policy_model.specs.Changes.{rows_after, touched_by}
use Rattle.policy_model.specs.Edits.{does, does_at, at_new, kept}
use Rattle.policy_model.specs.History.{Entry, HasOwnIds}
use Rattle.object_model.specs.declared.limits.TheConstants.{MOST_ENTRIES, LATE_EDITS}
use Rattle.object_model.specs.Objects.{Offered, is_unexpired, is_for, ends, inhibits, by_rules, with_offer}
use Rattle.object_model.specs.Past.{count_of}
use Rattle.object_model.specs.Fresh.{IsFresh, AreFresh}
use Rattle.object_model.specs.DropLaws.{MarksPurge, RingsPurge, TickPassesOver}
use Rattle.object_model.specs.Rings.{moved_by}
use Rattle.object_model.specs.Plain.{Plain, ring_in}
use Rattle.object_model.specs.Stands.{ticked, edited, IsFreshDesk}
use Rattle.object_model.specs.StandsLaws.{EditKeepsFresh}
use Rattle.object_model.specs.OfDesk.{IsOfDesk, offered_by, settled_by}
use Rattle.object_model.specs.OfDeskLaws.{OfferKeepsFresh}
use Rattle.object_cache.specs.declared.objects.Objects.{Objects}
use Rattle.object_cache.specs.Objects.{held, counts, rings, room_of, live_at, decision_on}
use Rattle.edit_receipts.specs.declared.receipts.Receipt as code
use Rattle.desk_state.specs.declared.plan.Plan.{Plan}
use Rattle.desk_state.specs.declared.ready.Ready.{Ready}
use Rattle.desk_state.specs.Cache.{Cache, cache_at, purged_as, edited_cache}
use Rattle.desk_state.specs.Plan.{rows_by, with_plan}
use Rattle.desk_state.specs.Ready.{IsReadyFor}
use Rattle.desk_state.specs.Holds.{plain_of}
use Rattle.desk_state.specs.Keeping.{desk_with_plan}
use Rattle.desk_state.proofs.Purged.{parts, parts_are, plan_purges}
use Rattle.desk_state.proofs.Edited.{planned_does}

-- a desk that keeps nothing is fresh
pub none_fresh : (rows : List Row) (facts : Facts) (m : ℕ) (entries : List Entry) → entries ≡ [] → AreFresh rows facts m (filter (is_unexpired m) entries)
none_fresh rows facts m entries is = subst (λ xs. AreFresh rows facts m (filter (is_unexpired m) xs)) (sym is) (All-nil (IsFresh rows facts m))

-- with the plan of an edit and its receipt a desk is the edited one
planned_edited : MarksPurge → RingsPurge → (d : Plain) (e : Edit) (ready : Ready) → kept d.tables.receipts e.key ≡ None → IsReadyFor ready e d.tables → desk_with_plan ready.plan ready.receipt d ≡ edited e d
planned_edited marks rings d e ready unkept is =
    let t = d.tables in
    let n = length t.receipts + 1 in
    let effect : at_new None e t ≡ does t e = sym (ap (λ k. does_at k e t) unkept ∙ ap (λ r. at_new r e t) is.accepted) in
    parts_are (with_plan ready.plan ready.receipt t) (does t e).tables d.facts d.facts d.now d.now (purged_as ready.plan.rows (cache_at d)) (edited_cache (does t e).touched (cache_at d))
    (planned_does t e ready unkept is) refl refl
    (plan_purges marks rings ready.plan.rows t.rows (rows_after n e.content t.rows) (touched_by n e.content t.rows) (cache_at d) is.planned.rows_are
    ∙ ap (λ (x : Effect). edited_cache x.touched (cache_at d)) effect)

pub planned_fresh : EditKeepsFresh → MarksPurge → RingsPurge → (d : Plain) (e : Edit) (ready : Ready) → HasOwnIds d.tables → kept d.tables.receipts e.key ≡ None → IsReadyFor ready e d.tables → IsFreshDesk d → IsFreshDesk (desk_with_plan ready.plan ready.receipt d)
planned_fresh keep marks rings d e ready ids unkept is fresh = subst IsFreshDesk (sym (planned_edited marks rings d e ready unkept is)) (keep d e ids fresh)

-- a desk whose plan was carried out is fresh where it was to be
pub carried_fresh : (plan : Plan) (receipt : code.Receipt) (d : Plain) (rows : List Row) (x : Cache) → rows ≡ rows_by plan.rows d.tables.rows → x ≡ purged_as plan.rows (cache_at d) →
    IsFreshDesk (desk_with_plan plan receipt d) → AreFresh rows d.facts d.now x.entries
carried_fresh plan receipt d rows x p q fresh =
    subst (λ r. AreFresh r d.facts d.now x.entries) (sym p) (subst (λ (y : Cache). AreFresh (rows_by plan.rows d.tables.rows) d.facts d.now y.entries) (sym q) fresh)

-- a moment that is handed in
pub ticks : TickPassesOver → (t : Tables) (f : Facts) (now : ℕ) (objects : Objects) (at later : ℕ) → later ≡ max now at → plain_of t f later objects ≡ ticked at (plain_of t f now objects)
ticks over t f now objects at later is =
    ap (λ n. plain_of t f n objects) is ∙ ap (λ xs. parts t f (max now at) (record { entries = xs; counts = counts objects; rings = rings objects })) (sym (over now (max now at) (held objects) (omega arith)))

-- what the cache decides on is what the definition does
decision_same : (kind : Kind) (subject : Subject) (keep : Bool) (mark now : ℕ) (said : Outcome) (t : Tables) (f : Facts) (old : Objects) → room_of old ≡ MOST_ENTRIES →
    decision_on old (record { kind = kind; subject = subject; outcome = said }) mark now (not keep) ≡ offered_by kind subject keep mark said (plain_of t f now old)
decision_same kind subject keep mark now said t f old room =
    ap (λ n. by_rules (not keep || inhibits said) (moved_by LATE_EDITS said (count_of kind (counts old) - mark) (ring_in kind (rings old))) (not (is_below now (ends said))) (list_any (is_for kind subject) (live_at now old)) (nat_le n (length (live_at now old)))) room

-- an offer to the cache, and what it leaves, which is what an offer of this outcome leaves of the list
pub record IsOffered (kind : Kind) (subject : Subject) (keep : Bool) (mark now : ℕ) (said : Outcome) (old new : Objects) (fate : Offered) : Type 0 where
  pub entry : Entry
  pub since : ℕ
  pub inhibit : Bool
  pub entry_is : entry ≡ record { kind = kind; subject = subject; outcome = said }
  pub since_is : since ≡ mark
  pub inhibit_is : inhibit ≡ not keep
  pub gives : fate ≡ decision_on old entry since now inhibit
  pub entries : live_at now new ≡ with_offer fate entry (live_at now old)
  pub counts_are : counts new ≡ counts old
  pub rings_are : rings new ≡ rings old

-- what becomes of it is what the definition says
pub offered_same : (kind : Kind) (subject : Subject) (keep : Bool) (mark now : ℕ) (said : Outcome) (t : Tables) (f : Facts) (old new : Objects) (fate : Offered) → room_of old ≡ MOST_ENTRIES →
    IsOffered kind subject keep mark now said old new fate → fate ≡ offered_by kind subject keep mark said (plain_of t f now old)
offered_same kind subject keep mark now said t f old new fate room is =
    let x : Entry = record { kind = kind; subject = subject; outcome = said } in
    is.gives
    ∙ ap (λ y. decision_on old y is.since now is.inhibit) is.entry_is
    ∙ ap (λ n. decision_on old x n now is.inhibit) is.since_is
    ∙ ap (λ b. decision_on old x mark now b) is.inhibit_is
    ∙ decision_same kind subject keep mark now said t f old room

-- the entries afterwards are those of the definition
entries_same : (kind : Kind) (subject : Subject) (keep : Bool) (mark now : ℕ) (said : Outcome) (t : Tables) (f : Facts) (old new : Objects) (fate : Offered) → room_of old ≡ MOST_ENTRIES →
    IsOffered kind subject keep mark now said old new fate → live_at now new ≡ (settled_by kind subject keep mark said (plain_of t f now old)).entries
entries_same kind subject keep mark now said t f old new fate room is =
    is.entries
    ∙ ap (λ o. with_offer o is.entry (live_at now old)) (offered_same kind subject keep mark now said t f old new fate room is)
    ∙ ap (λ y. with_offer (offered_by kind subject keep mark said (plain_of t f now old)) y (live_at now old)) is.entry_is

-- and so is the desk
pub settled_same : (kind : Kind) (subject : Subject) (keep : Bool) (mark now : ℕ) (said : Outcome) (t : Tables) (f : Facts) (old new : Objects) (fate : Offered) → room_of old ≡ MOST_ENTRIES →
    IsOffered kind subject keep mark now said old new fate → plain_of t f now new ≡ settled_by kind subject keep mark said (plain_of t f now old)
settled_same kind subject keep mark now said t f old new fate room is =
    let kept : List Entry = (settled_by kind subject keep mark said (plain_of t f now old)).entries in
    ap (λ xs. parts t f now (record { entries = xs; counts = counts new; rings = rings new })) (entries_same kind subject keep mark now said t f old new fate room is)
    ∙ ap (λ c. parts t f now (record { entries = kept; counts = c; rings = rings new })) is.counts_are
    ∙ ap (λ r. parts t f now (record { entries = kept; counts = counts old; rings = r })) is.rings_are

-- so an offer of what is of the desk leaves it fresh
pub offer_fresh : OfferKeepsFresh → (t : Tables) (f : Facts) (now : ℕ) (old new : Objects) (kind : Kind) (subject : Subject) (keep : Bool) (at mark : ℕ) (said : Outcome) (fate : Offered) → room_of old ≡ MOST_ENTRIES → HasOwnIds t →
    IsOfDesk (plain_of t f now old) kind subject at mark said → IsFreshDesk (plain_of t f now old) → IsOffered kind subject keep mark now said old new fate → IsFreshDesk (plain_of t f now new)
offer_fresh keeps t f now old new kind subject keep at mark said fate room ids of fresh is =
    subst IsFreshDesk (sym (settled_same kind subject keep mark now said t f old new fate room is)) (keeps (plain_of t f now old) kind subject keep at mark said ids of fresh)
