-- What the commands say, put together of what their parts came to.
use Rattle.std.proofs.Common.{◌≡◌, ℕ, ◌<◌, ◌≤◌, Bool, true, false, List, [], length, take, drop, inl, inr, Result, Ok, Err, IfOk, OnErr, refl, sym, ap, subst, ◌∙◌, arith}
use Rattle.std.proofs.lemmas.List.{map-append, take-append-drop, length-map, length-drop}
use Rattle.line_model.specs.LineFaults.{LineFault, line_fault_text}
use Rattle.line_model.specs.Edits.{IsEditLine}
use Rattle.policy_model.specs.Contents.{Edit}
use Rattle.policy_model.specs.History.{Event, Opening}
use Rattle.rule_edits.specs.declared.edit.Edit as code
use Rattle.rule_edits.specs.Edit.{edit_of}
use Rattle.import_csv.specs.RowCode.{edits_of}
use Rattle.run_status.specs.declared.said.Said.{Said}
use Rattle.run_status.specs.declared.status.Status.{Status}
use Rattle.run_status.specs.declared.status.Status.TheVariants.{OutOfMemory}
use Rattle.desk_state.specs.declared.desk.Desk.{Desk}
use Rattle.desk_state.specs.Stands.{Stands}
use Rattle.desk_state.specs.Failures.{Shows}
use Rattle.std.specs.List.{list_any}
use Rattle.line_reader.specs.Lines.{text_of}
use Rattle.import_csv.specs.ImportFile.{IsImport}
use Rattle.table_commands.specs.Replies.{EditsReply, is_refusal, refused_when}
use Rattle.table_commands.specs.ImportSays.{Imports, IsStarved}
use Rattle.table_commands.specs.Steps.{AllReply, FrontReplies, Comes}
use Rattle.table_commands.specs.EditSays.{SaysReply, SaysEdit}
use Rattle.table_commands.proofs.Failed.{shows_none, shows_later}

-- what holds of a value holds of it in other words
pub if_ok : {T E : Type 0} (P Q : T → Type 0) (r : Result T E) → ((t : T) → P t → Q t) → IfOk r P → IfOk r Q
if_ok P Q (Ok t) f h = f t h
if_ok P Q (Err e) f h = h

-- what holds anyway holds on a refusal
pub on_err : {T E P : Type 0} (r : Result T E) → P → OnErr r P
on_err (Ok t) p = tt
on_err (Err e) p = p

-- the line of an edit

pub line_refused : {E : Type 0} (o : Opening) (h : List Event) (line : List ℕ) (fault : LineFault) (desk : Desk) (counted : ℕ) (r : Result Said E) → IsEditLine line (Err fault) → Stands desk o h
    → IfOk r (λ said. SaysReply (λ (reply : List ℕ). reply ≡ line_fault_text fault) said.status said.text)
    → IfOk r (λ said. (after : List Event) × SaysEdit o h line said.status said.text after × Stands desk o after × Shows h after counted counted)
line_refused o h line fault desk counted r asks stands says =
    if_ok (λ said. SaysReply (λ (reply : List ℕ). reply ≡ line_fault_text fault) said.status said.text)
    (λ said. (after : List Event) × SaysEdit o h line said.status said.text after × Stands desk o after × Shows h after counted counted) r
    (λ said x. (h, record { asked = Err fault; asks = asks; says = record { reply = x.reply; replies = (x.replies, refl); status_is = x.status_is; text_is = x.text_is } }, stands, shows_none h counted)) says

-- the rows of an import

pub none_done : (o : Opening) (h : List Event) (desk : Desk) (counted : ℕ) (text : List ℕ) → Stands desk o h → text ≡ [] → AllReply o h [] desk counted counted text false
none_done o h desk counted text stands empty = record { replies = []; after = h; answers = refl; stands = stands; shows = shows_none h counted; text_is = empty; refused_is = refl }

pub all_done : (o : Opening) (h : List Event) (edits : List Edit) (desk : Desk) (before counted : ℕ) (status : Status) (text : List ℕ) (any : Bool) → AllReply o h edits desk before counted text any
    → status ≡ refused_when any → Comes o h edits desk before counted status text
all_done o h edits desk before counted status text any all is = inl (record { any = any; all = all; status_is = is })

first_done_of : (o : Opening) (h : List Event) (edits : List code.Edit) (i : ℕ) (old desk : Desk) (before counted now : ℕ) (text : List ℕ) (any : Bool) → i < length edits → counted ≤ now
    → AllReply o h (edits_of (take i edits)) old before counted text any → ((mid : List Event) → Stands old o mid → Stands desk o mid) → FrontReplies o h (edits_of edits) desk before now text
first_done_of o h edits i old desk before counted now text any inside later all unchanged = record {
  front = edits_of (take i edits);
  rear = edits_of (drop i edits);
  parts = ap edits_of (sym (take-append-drop i edits)) ∙ map-append edit_of (take i edits) (drop i edits);
  left = λ none. let size : length (edits_of (drop i edits)) ≡ 0 = ap length none in omega (arith, inside, size, length-map (drop i edits) edit_of, length-drop i edits);
  replies = all.replies;
  after = all.after;
  answers = all.answers;
  stands = unchanged all.after all.stands;
  shows = shows_later h all.after before counted now later all.shows;
  text_is = all.text_is;
}

pub first_done : (o : Opening) (h : List Event) (edits : List code.Edit) (i : ℕ) (old desk : Desk) (before counted now : ℕ) (text : List ℕ) (any : Bool) → i < length edits → counted ≤ now
    → AllReply o h (edits_of (take i edits)) old before counted text any → ((mid : List Event) → Stands old o mid → Stands desk o mid) → Comes o h (edits_of edits) desk before now OutOfMemory text
first_done o h edits i old desk before counted now text any inside later all unchanged =
    inr (record { some = first_done_of o h edits i old desk before counted now text any inside later all unchanged; status_is = refl })

-- what is said of all rows, by whether one is a refusal
done_by : (o : Opening) (h : List Event) (bytes : List ℕ) (edits : List Edit) (replies : List (List ℕ)) (after : List Event) (text : List ℕ) (any : Bool) → IsImport bytes edits → EditsReply o h edits replies after
    → text ≡ text_of replies → any ≡ list_any is_refusal replies → Imports o h after bytes (refused_when any) text
done_by o h bytes edits replies after text true file answers text_is is = inr (record { edits = edits; replies = replies; file = file; answers = answers; status_is = ap refused_when is; text_is = text_is })
done_by o h bytes edits replies after text false file answers text_is is = inr (record { edits = edits; replies = replies; file = file; answers = answers; status_is = ap refused_when is; text_is = text_is })

-- what is said of the rows is what the import says
pub import_done : (o : Opening) (h : List Event) (bytes : List ℕ) (edits : List Edit) (desk : Desk) (before counted : ℕ) (status : Status) (text : List ℕ) → IsImport bytes edits → Comes o h edits desk before counted status text
    → (after : List Event) × Imports o h after bytes status text × Stands desk o after × Shows h after before counted
import_done o h bytes edits desk before counted status text file (inl all) =
    let said = done_by o h bytes edits all.all.replies all.all.after text all.any file all.all.answers all.all.text_is all.all.refused_is in
    (all.all.after, subst (λ (s : Status). Imports o h all.all.after bytes s text) (sym all.status_is) said, all.all.stands, all.all.shows)
import_done o h bytes edits desk before counted status text file (inr some) =
    let starved : IsStarved o h bytes text some.some.after = record {
      front = some.some.front;
      rear = some.some.rear;
      replies = some.some.replies;
      file = subst (λ (es : List Edit). IsImport bytes es) some.some.parts file;
      left = some.some.left;
      answers = some.some.answers;
      text_is = some.some.text_is;
    } in
    (some.some.after, subst (λ (s : Status). Imports o h some.some.after bytes s text) (sym some.status_is) starved, some.some.stands, some.some.shows)
