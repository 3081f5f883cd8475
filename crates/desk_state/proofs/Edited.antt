-- What an edit makes of a desk whose tables a keeper keeps.
use Rattle.std.proofs.Common.{◌≡◌, ◌+◌, List, [], ◌∷◌, ◌++◌, length, refl, sym, ap, ◌∙◌, subst, Option, Some, None, Result, Ok, Err}
use Rattle.std.specs.Prelude.{IfSome, IsSome, IsNone, IfOk, OnErr, Bool, true, false}
use Rattle.std.proofs.lemmas.Bool.{both_ways}
use Rattle.std.proofs.Math.Logic.{∥∥₁_map₂}
use Rattle.policy_model.specs.Rules.{Row}
use Rattle.policy_model.specs.Contents.{Edit}
use Rattle.policy_model.specs.Tables.{Tables, Receipt, Answer, done, Effect, IsAccepted}
use Rattle.policy_model.specs.Changes.{rows_after, touched_by}
use Rattle.policy_model.specs.Refusals.{refusal}
use Rattle.policy_model.specs.Edits.{does, does_at, at_new, at_kept, kept}
use Rattle.policy_model.specs.History.{Event, edit, Opening, edit_answer}
use Rattle.object_model.specs.DropLaws.{MarksPurge, RingsPurge}
use Rattle.object_model.specs.Plain.{Plain}
use Rattle.object_model.specs.Stands as model
use Rattle.object_model.specs.StandsLaws.{EditStands}
use Rattle.store_model.specs.Change.{Change, Takes}
use Rattle.store_model.specs.Kept.{IsEdit, IsKept}
use Rattle.store_model.specs.Laws.{EditsStayKept}
use Rattle.authority_table.specs.declared.prepared.Prepared.{Prepared}
use Rattle.policy_keeper.specs.Change.{change_of}
use Rattle.policy_keeper.specs.Told.{Told}
use Rattle.policy_keeper.specs.Mirror.{Mirrors, Follows}
use Rattle.desk_state.specs.declared.answer.Answer as code
use Rattle.desk_state.specs.declared.fault.EditFault.{EditFault}
use Rattle.desk_state.specs.declared.ready.Ready.{Ready}
use Rattle.desk_state.specs.Answer.{answer_of, given, IsDone}
use Rattle.desk_state.specs.Cache.{Cache, cache_at, IsPurged, edited_cache, purged_so}
use Rattle.desk_state.specs.Plan.{Leaves, count_in, rows_by, with_plan, carried_out}
use Rattle.desk_state.specs.declared.plan.Plan.{Plan}
use Rattle.edit_receipts.specs.declared.receipts.Receipt as code_receipt
use Rattle.edit_receipts.specs.Receipts.{receipt_of, receipts_of}
use Rattle.std.proofs.lemmas.List.{map-append}
use Rattle.desk_state.specs.Ready.{IsReadyFor}
use Rattle.desk_state.specs.Keeping.{IsEdited}
use Rattle.desk_state.proofs.GoesOn.{new_does, kept_same}
use Rattle.desk_state.proofs.Made.{leaves_count, plan_makes}
use Rattle.desk_state.proofs.Purged.{parts_are, whole_edited, kept_so, new_so, refused_purges, plan_purges}

-- the tables stay stored in accepted rows

pub stays_kept : EditsStayKept → (t new : Tables) (e : Edit) → ∥ IsKept t ∥₁ → ∥ IsEdit e ∥₁ → kept t.receipts e.key ≡ None → refusal e.content t ≡ None → new ≡ (at_new None e t).tables → ∥ IsKept new ∥₁
stays_kept stay t new e k is unkept accepted made =
    let after : (does t e).tables ≡ (at_new None e t).tables = ap (λ k. (does_at k e t).tables) unkept ∙ ap (λ r. (at_new r e t).tables) accepted in
    ∥∥₁_map₂ k is (λ a b. subst IsKept (after ∙ sym made) (stay t e a b))

abbrev tables_with : List Row → List Receipt → Bool → Tables
tables_with rows receipts enabled = record { rows = rows; receipts = receipts; enabled = enabled }

-- also after a plan was carried out
pub kept_with : (plan : Plan) (receipt : code_receipt.Receipt) (t : Tables) (old new : List code_receipt.Receipt) (rows : List Row) → t.receipts ≡ receipts_of old → rows ≡ rows_by plan.rows t.rows → new ≡ old ++ receipt ∷ [] →
    ∥ IsKept (with_plan plan receipt t) ∥₁ → ∥ IsKept (record { rows = rows; receipts = receipts_of new; enabled = plan.enabled }) ∥₁
kept_with plan receipt t old new rows is rows_are items k =
    let receipts_are : receipts_of new ≡ t.receipts ++ receipt_of receipt ∷ [] = ap receipts_of items ∙ map-append receipt_of old (receipt ∷ []) ∙ ap (λ l. l ++ receipt_of receipt ∷ []) (sym is) in
    subst (λ x. ∥ IsKept x ∥₁) (sym (ap (λ r. tables_with r (receipts_of new) plan.enabled) rows_are ∙ ap (λ l. tables_with (rows_by plan.rows t.rows) l plan.enabled) receipts_are)) k

-- what is accepted under a new key

accepted_does : (t : Tables) (e : Edit) → kept t.receipts e.key ≡ None → refusal e.content t ≡ None → does t e ≡ at_new None e t
accepted_does t e unkept accepted = ap (λ k. does_at k e t) unkept ∙ ap (λ r. at_new r e t) accepted

-- the tables take its change
pub takes_change : (t : Tables) (e : Edit) (p : Option Prepared) (c : Change) → kept t.receipts e.key ≡ None → refusal e.content t ≡ None →
    Leaves p t.rows (rows_after (length t.receipts + 1) e.content t.rows) (touched_by (length t.receipts + 1) e.content t.rows) →
    c ≡ record { number = length t.receipts + 1; edit = e; touched = count_in p } → Takes t c
takes_change t e p c unkept accepted leaves is =
    subst (Takes t) (sym is) (ap (λ x. x.answer) (accepted_does t e unkept accepted) ∙ ap (done (length t.receipts + 1)) (sym (leaves_count p t.rows _ _ leaves)))

-- a refusal, or none for memory, before anything was changed
refused_done : (r : Option Answer) (e : Edit) (t : Tables) → IsDone (at_new r e t) t t r
refused_done None e t = refl
refused_done (Some a) e t = (refl, refl)

refused_wanting : (r : Option Answer) (e : Edit) (t : Tables) → IsNone r → IsAccepted (at_new r e t).answer
refused_wanting None e t none = tt
refused_wanting (Some a) e t none = absurd (both_ways true none refl)

pub refused_edited : MarksPurge → RingsPurge → (d : Plain) (e : Edit) (r : Option Answer) → kept d.tables.receipts e.key ≡ None → r ≡ refusal e.content d.tables → IsEdited e d d r
refused_edited marks rings d e r unkept is =
    let t = d.tables in
    let effect : at_new r e t ≡ does t e = ap (λ x. at_new x e t) is ∙ new_does t e (sym unkept) in
    record {
      done = subst (λ x. IsDone x t t r) effect (refused_done r e t);
      cache = new_so t e (cache_at d) (cache_at d) r (sym unkept) (refused_purges marks rings r e t (cache_at d) is);
      moment = refl;
      facts = refl;
      wanting = λ none. subst (λ (x : Effect). IsAccepted x.answer) effect (refused_wanting r e t none);
    }

-- an edit that was made
pub made_edited : (old new : Plain) (e : Edit) (a : Answer) → kept old.tables.receipts e.key ≡ None → refusal e.content old.tables ≡ None →
    a ≡ (does old.tables e).answer → new.tables ≡ (at_new None e old.tables).tables → cache_at new ≡ edited_cache (at_new None e old.tables).touched (cache_at old) →
    new.now ≡ old.now → new.facts ≡ old.facts → IsEdited e old new (Some a)
made_edited old new e a unkept accepted answered tables cache now facts =
    let t = old.tables in
    let effect = accepted_does t e unkept accepted in
    record {
      done = (answered, tables ∙ ap (λ x. x.tables) (sym effect));
      cache = cache ∙ ap (λ x. edited_cache x.touched (cache_at old)) (sym effect);
      moment = now;
      facts = facts;
      wanting = λ none. absurd (both_ways true none refl);
    }

-- an edit that would have been accepted, and wasn't made
pub starved_edited : (old new : Plain) (e : Edit) → kept old.tables.receipts e.key ≡ None → refusal e.content old.tables ≡ None →
    new.tables ≡ old.tables → cache_at new ≡ cache_at old → new.now ≡ old.now → new.facts ≡ old.facts → IsEdited e old new None
starved_edited old new e unkept accepted tables cache now facts = record {
  done = tables;
  cache = cache;
  moment = now;
  facts = facts;
  wanting = λ none. subst (λ (x : Effect). IsAccepted x.answer) (sym (accepted_does old.tables e unkept accepted)) tt;
}

-- an edit under a key that is kept
pub kept_edited : MarksPurge → RingsPurge → (d : Plain) (e : Edit) (r : Receipt) (g : Option Answer) → Some r ≡ kept d.tables.receipts e.key → g ≡ Some (at_kept r e) → IsEdited e d d g
kept_edited marks rings d e r g is answered =
    let t = d.tables in
    subst (IsEdited e d d) (sym answered) (record {
      done = (ap (λ k. (does_at k e t).answer) is, kept_same t e r is);
      cache = kept_so marks rings t e r (cache_at d) (Some (at_kept r e)) is;
      moment = refl;
      facts = refl;
      wanting = λ none. absurd (both_ways true none refl);
    })

-- over histories

given_answer : (effect : Effect) (old new : Tables) (g : Option Answer) → IsDone effect old new g → IfSome g (λ a. a ≡ effect.answer)
given_answer effect old new None is = tt
given_answer effect old new (Some a) is = is.0

pub legal_edited : (d new : Plain) (o : Opening) (h : List Event) (e : Edit) (g : Option Answer) → IsEdited e d new g → model.Stands d o h → IfSome g (λ a. a ≡ edit_answer o h e)
legal_edited d new o h e g is s =
    subst (λ t. IfSome g (λ a. a ≡ (does t e).answer)) s.tables_are (given_answer (does d.tables e) d.tables new.tables g is.done)

given_tables : (effect : Effect) (old new : Tables) (g : Option Answer) → IsSome g → IsDone effect old new g → new ≡ effect.tables
given_tables effect old new None some is = absurd (both_ways false refl some)
given_tables effect old new (Some a) some is = is.1

pub stands_edited : EditStands → (d new : Plain) (o : Opening) (h : List Event) (e : Edit) (g : Option Answer) → IsEdited e d new g → IsSome g → model.Stands d o h → model.Stands new o (h ++ edit e ∷ [])
stands_edited stands d new o h e g is some s =
    subst (λ x. model.Stands x o (h ++ edit e ∷ [])) (sym (whole_edited d new e g some (given_tables (does d.tables e) d.tables new.tables g some is.done) is.facts is.moment is.cache)) (stands d o h e s)

not_given_tables : (effect : Effect) (old new : Tables) (g : Option Answer) → IsNone g → IsDone effect old new g → new ≡ old
not_given_tables effect old new None none is = is
not_given_tables effect old new (Some a) none is = absurd (both_ways true none refl)

not_given_cache : (effect : Effect) (old new : Cache) (g : Option Answer) → IsNone g → IsPurged effect old new g → new ≡ old
not_given_cache effect old new None none is = is
not_given_cache effect old new (Some a) none is = absurd (both_ways true none refl)

-- where nothing was answered the desk is as before
pub same_unedited : (d new : Plain) (e : Edit) (g : Option Answer) → IsEdited e d new g → IsNone g → new ≡ d
same_unedited d new e g is none =
    parts_are new.tables d.tables new.facts d.facts new.now d.now (cache_at new) (cache_at d)
    (not_given_tables (does d.tables e) d.tables new.tables g none is.done) is.facts is.moment
    (not_given_cache (does d.tables e) (cache_at d) (cache_at new) g none is.cache)

-- an edit that is ready

-- with its plan the tables are those of the edit
pub planned_tables : (t : Tables) (e : Edit) (ready : Ready) → IsReadyFor ready e t → with_plan ready.plan ready.receipt t ≡ (at_new None e t).tables
planned_tables t e ready is = plan_makes ready.plan ready.receipt e t is.planned is.receipt_is

pub planned_does : (t : Tables) (e : Edit) (ready : Ready) → kept t.receipts e.key ≡ None → IsReadyFor ready e t → with_plan ready.plan ready.receipt t ≡ (does t e).tables
planned_does t e ready unkept is = planned_tables t e ready is ∙ ap (λ x. x.tables) (sym (accepted_does t e unkept is.accepted))

its_edit : (t : Tables) (e : Edit) (ready : Ready) → IsReadyFor ready e t → (change_of ready.change).edit ≡ e
its_edit t e ready is = ap (λ (c : Change). c.edit) is.change_is

-- the tables take its change
pub ready_takes : (t : Tables) (e : Edit) (ready : Ready) → kept t.receipts e.key ≡ None → IsReadyFor ready e t → Takes t (change_of ready.change)
ready_takes t e ready unkept is = takes_change t e ready.plan.rows (change_of ready.change) unkept is.accepted is.planned.rows_are is.change_is

-- after it was to be carried out
pub carried_edited : MarksPurge → RingsPurge → (old new : Plain) (e : Edit) (ready : Ready) → kept old.tables.receipts e.key ≡ None → IsReadyFor ready e old.tables → (r : Result code.Answer EditFault) →
    IfOk r (λ a. answer_of a ≡ done (change_of ready.change).number (change_of ready.change).touched) → OnErr r (given r ≡ None) →
    new.tables ≡ carried_out r ready.plan ready.receipt old.tables → cache_at new ≡ purged_so r ready.plan.rows (cache_at old) → new.now ≡ old.now → new.facts ≡ old.facts → IsEdited e old new (given r)
carried_edited marks rings old new e ready unkept is (Ok a) answers starved tables cache now facts =
    let t = old.tables in
    let n = length t.receipts + 1 in
    made_edited old new e (answer_of a) unkept is.accepted
    (answers ∙ sym (ready_takes t e ready unkept is) ∙ ap (λ x. (does t x).answer) (its_edit t e ready is))
    (tables ∙ planned_tables t e ready is)
    (cache ∙ plan_purges marks rings ready.plan.rows t.rows (rows_after n e.content t.rows) (touched_by n e.content t.rows) (cache_at old) is.planned.rows_are)
    now facts
carried_edited marks rings old new e ready unkept is (Err f) answers starved tables cache now facts =
    subst (IsEdited e old new) (sym starved) (starved_edited old new e unkept is.accepted tables cache now facts)

-- the keeper tells the tables of the desk
pub carried_mirrors : {A E : Type 0} → (told : Told) (t new : Tables) (e : Edit) (ready : Ready) → kept t.receipts e.key ≡ None → IsReadyFor ready e t → (r : Result A E) →
    new ≡ carried_out r ready.plan ready.receipt t → Follows told t (change_of ready.change) r → Mirrors told new
carried_mirrors told t new e ready unkept is (Ok a) tables follows =
    subst (Mirrors told) (ap (λ x. (does t x).tables) (its_edit t e ready is) ∙ sym (planned_does t e ready unkept is) ∙ sym tables) follows
carried_mirrors told t new e ready unkept is (Err f) tables follows = subst (Mirrors told) (sym tables) follows
