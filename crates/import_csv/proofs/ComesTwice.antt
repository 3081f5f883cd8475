-- An import that comes twice acts as once: a row whose key is kept or that is refused stays so through the others.
use Rattle.std.proofs.Common.{◌≡◌, ◌⊎◌, inl, inr, ℕ, ◌+◌, length, Bool, true, false, if◌then◌else◌, cond, List, [], ◌∷◌, ◌++◌, Option, Some, None, Result, Ok, Err, bytes_eq, refl, sym, ap, subst, ◌∙◌}
use Rattle.std.specs.Prelude.{⊤}
use Rattle.std.specs.Option.{option_or, option_map}
use Rattle.std.proofs.lemmas.List.Folds.{find-append}
use Rattle.std.proofs.lemmas.Slice.Eq.{bytes_eq-Decides}
use Rattle.policy_model.specs.Rules.{Row}
use Rattle.policy_model.specs.Contents.{Content, add, remove, enable, disable, expire, switch, Edit}
use Rattle.policy_model.specs.Texts.{content_text}
use Rattle.policy_model.specs.Tables.{Receipt, Tables, Answer, repeated, key_reused, no_rule, table_full, receipts_full, disable_full, IsAccepted}
use Rattle.policy_model.specs.Changes.{touched_by}
use Rattle.policy_model.specs.Refusals.{refusal, refused_by_rows, refused_by_receipts, refused_by_count, full_rows, least_id}
use Rattle.policy_model.specs.Edits.{kept, at_kept, at_new, does_at, does}
use Rattle.policy_model.specs.History.{Event, tick, ask, offer, edit, edit_failed, edit_starved, look, tables_step, tables_after, tables_of}
use Rattle.import_csv.specs.ImportRows.{Asked, asked_in, Makes}
use Rattle.import_csv.specs.ImportFile.{AskFor}
use Rattle.import_csv.specs.Twice.{answered, ImportTwice, KeyActsOnce}

-- rows ask for rules to be added

abbrev IsAdd : Content → Type 0
IsAdd (add n) = ⊤
IsAdd other = ⊥

abbrev AreAdds : List Edit → Type 0
AreAdds [] = ⊤
AreAdds (e ∷ es) = IsAdd e.content × AreAdds es

edit_is : (a b : Edit) → ◌≡◌ {A = Result Edit ℕ} (Ok a) (Ok b) → a ≡ b
edit_is a b e = cc

makes_add : (asked : Result Asked ℕ) (e : Edit) → Makes asked (Ok e) → IsAdd e.content
makes_add (Err column) e h = absurd (cc)
makes_add (Ok asked) e (Ok tree, reads, is) = subst (λ (x : Edit). IsAdd x.content) (sym (edit_is e _ is)) tt
makes_add (Ok asked) e (Err fault, reads, is) = absurd (cc)

are_adds : (rows : List (List (List ℕ))) (edits : List Edit) → AskFor rows edits → AreAdds edits
are_adds [] [] h = tt
are_adds [] (e ∷ es) h = absurd h
are_adds (f ∷ fs) [] h = absurd h
are_adds (f ∷ fs) (e ∷ es) h = (makes_add (asked_in f) e h.0, are_adds fs es h.1)

-- keys that are kept stay kept

-- the receipt that an accepted edit leaves
abbrev receipt_of : Edit → Tables → Receipt
receipt_of e t = record {
  number = length t.receipts + 1;
  key = e.key;
  content = content_text e.content;
  rules = length (touched_by (length t.receipts + 1) e.content t.rows);
}

abbrev HasKey : Tables → List ℕ → Type 0
HasKey t key = (r : Receipt) × (kept t.receipts key ≡ Some r)

has_behind : (t : Tables) (key : List ℕ) (new : Receipt) → HasKey t key → (r : Receipt) × (kept (t.receipts ++ new ∷ []) key ≡ Some r)
has_behind t key new (r, k) =
    (r, find-append (λ (r : Receipt). bytes_eq r.key key) t.receipts (new ∷ []) ∙ ap (λ (o : Option Receipt). option_or o (kept (new ∷ []) key)) k)

key_stays : (e : Edit) (t : Tables) (key : List ℕ) → HasKey t key → HasKey (does t e).tables key
key_stays e t key h = by_key (kept t.receipts e.key)
  where
    by_refusal : (a : Option Answer) → HasKey (at_new a e t).tables key
    by_refusal (Some a) = h
    by_refusal None = has_behind t key (receipt_of e t) h

    by_key : (k : Option Receipt) → HasKey (does_at k e t).tables key
    by_key (Some r) = h
    by_key None = by_refusal (refusal e.content t)

last_kept : (receipts : List Receipt) (new : Receipt) → kept receipts new.key ≡ None → kept (receipts ++ new ∷ []) new.key ≡ Some new
last_kept receipts new none =
    find-append (λ (r : Receipt). bytes_eq r.key new.key) receipts (new ∷ []) ∙ ap (λ (o : Option Receipt). option_or o (kept (new ∷ []) new.key)) none
    ∙ itself (bytes_eq new.key new.key) ((bytes_eq-Decides new.key new.key).1 refl)
  where
    itself : (b : Bool) → b ≡ true → cond b (Some new) None ≡ Some new
    itself true e = refl
    itself false e = cc

-- an edit that changes nothing: its key is kept, or it is refused

abbrev IsSpent : Tables → Edit → Type 0
IsSpent t e = HasKey t e.key ⊎ ((a : Answer) × (refusal e.content t ≡ Some a))

spent_stays : (t : Tables) (e : Edit) → IsSpent t e → (does t e).tables ≡ t
spent_stays t e (inl h) = ap (λ (k : Option Receipt). (does_at k e t).tables) h.1
spent_stays t e (inr h) = by_key (kept t.receipts e.key)
  where
    by_key : (k : Option Receipt) → (does_at k e t).tables ≡ t
    by_key (Some r) = refl
    by_key None = ap (λ (a : Option Answer). (at_new a e t).tables) h.1

spent_after : (t : Tables) (e : Edit) → IsSpent (does t e).tables e
spent_after t e = by_key (kept t.receipts e.key) refl
  where
    by_refusal : (a : Option Answer) → refusal e.content t ≡ a → kept t.receipts e.key ≡ None → IsSpent (at_new a e t).tables e
    by_refusal (Some a) n k = inr (a, n)
    by_refusal None n k = inl (receipt_of e t, last_kept t.receipts (receipt_of e t) k)

    by_key : (k : Option Receipt) → kept t.receipts e.key ≡ k → IsSpent (does_at k e t).tables e
    by_key (Some r) k = inl (r, k)
    by_key None k = by_refusal (refusal e.content t) refl k

-- rules that are added are refused alike
refused_alike : (t : Tables) (c d : Content) → IsAdd c → IsAdd d → refusal c t ≡ refusal d t
refused_alike t (add n) (add m) h k = refl
refused_alike t (add n) (remove s) h k = absurd k
refused_alike t (add n) (enable s) h k = absurd k
refused_alike t (add n) (disable s) h k = absurd k
refused_alike t (add n) (expire s m) h k = absurd k
refused_alike t (add n) (switch on) h k = absurd k
refused_alike t (remove s) d h k = absurd h
refused_alike t (enable s) d h k = absurd h
refused_alike t (disable s) d h k = absurd h
refused_alike t (expire s m) d h k = absurd h
refused_alike t (switch on) d h k = absurd h

spent_on : (t : Tables) (e f : Edit) → IsAdd e.content → IsAdd f.content → IsSpent t e → IsSpent (does t f).tables e
spent_on t e f adds also (inl h) = inl (key_stays f t e.key h)
spent_on t e f adds also (inr h) =
    let refused : refusal f.content t ≡ Some h.0 = refused_alike t f.content e.content also adds ∙ h.1 in
    subst (λ (x : Tables). IsSpent x e) (sym (spent_stays t f (inr (h.0, refused)))) (inr h)

spent_through : (es : List Edit) (t : Tables) (e : Edit) → AreAdds es → IsAdd e.content → IsSpent t e → IsSpent (answered es t) e
spent_through [] t e also adds h = h
spent_through (f ∷ fs) t e also adds h = spent_through fs (does t f).tables e also.1 adds (spent_on t e f adds also.0 h)

abbrev AreSpent : Tables → List Edit → Type 0
AreSpent t [] = ⊤
AreSpent t (e ∷ es) = IsSpent t e × AreSpent t es

all_spent : (es : List Edit) (t : Tables) → AreAdds es → AreSpent (answered es t) es
all_spent [] t adds = tt
all_spent (e ∷ es) t adds = (spent_through es (does t e).tables e adds.1 adds.0 (spent_after t e), all_spent es (does t e).tables adds.1)

front_spent : (t : Tables) (front rear : List Edit) → AreSpent t (front ++ rear) → AreSpent t front
front_spent t [] rear h = tt
front_spent t (e ∷ es) rear h = (h.0, front_spent t es rear h.1)

nothing_done : (t : Tables) (es : List Edit) → AreSpent t es → answered es t ≡ t
nothing_done t [] h = refl
nothing_done t (e ∷ es) h = ap (answered es) (spent_stays t e h.0) ∙ nothing_done t es h.1

pub import_twice : ImportTwice
import_twice bytes edits front rear t is parts =
    let spent : AreSpent (answered edits t) edits = all_spent edits t (are_adds is.rows edits is.asked) in
    nothing_done (answered edits t) front (front_spent (answered edits t) front rear (subst (AreSpent (answered edits t)) parts spent))

-- no key is accepted twice

abbrev IsNoAnswer : Option Answer → Type 0
IsNoAnswer None = ⊤
IsNoAnswer (Some a) = IsAccepted a → ⊥

either_none : (x y : Option Answer) → IsNoAnswer x → IsNoAnswer y → IsNoAnswer (option_or x y)
either_none None y h k = k
either_none (Some a) y h k = h

when_none : (b : Bool) (a : Answer) → (IsAccepted a → ⊥) → IsNoAnswer (if b then None else Some a)
when_none true a h = tt
when_none false a h = h

by_rows : (c : Content) (rows : List Row) → IsNoAnswer (refused_by_rows c rows)
by_rows (add n) rows = when_none _ table_full (λ h. h)
by_rows (remove s) rows = when_none _ no_rule (λ h. h)
by_rows (enable s) rows = when_none _ no_rule (λ h. h)
by_rows (disable s) rows = when_none _ no_rule (λ h. h)
by_rows (expire s m) rows = when_none _ no_rule (λ h. h)
by_rows (switch on) rows = tt

by_count : (id : Option ℕ) → IsNoAnswer (option_map disable_full id)
by_count None = tt
by_count (Some id) = λ h. h

no_answer : (c : Content) (t : Tables) → IsNoAnswer (refusal c t)
no_answer c t =
    either_none (refused_by_rows c t.rows) _ (by_rows c t.rows)
    (either_none (refused_by_receipts t.receipts) (refused_by_count c t.rows) (when_none _ receipts_full (λ h. h)) (by_count (least_id (full_rows c t.rows))))

kept_again : (r : Receipt) (e : Edit) → IsAccepted (at_kept r e) → ⊥
kept_again r e h = again (bytes_eq r.content (content_text e.content)) h
  where
    again : (b : Bool) → IsAccepted (if b then repeated r.number r.rules else key_reused r.number r.rules) → ⊥
    again true k = k
    again false k = k

accepted_kept : (t : Tables) (e : Edit) → IsAccepted (does t e).answer → HasKey (does t e).tables e.key
accepted_kept t e h = by_key (kept t.receipts e.key) refl h
  where
    by_refusal : (a : Option Answer) → IsNoAnswer a → kept t.receipts e.key ≡ None → IsAccepted (at_new a e t).answer → HasKey (at_new a e t).tables e.key
    by_refusal (Some a) none k h = absurd (none h)
    by_refusal None none k h = (receipt_of e t, last_kept t.receipts (receipt_of e t) k)

    by_key : (k : Option Receipt) → kept t.receipts e.key ≡ k → IsAccepted (does_at k e t).answer → HasKey (does_at k e t).tables e.key
    by_key (Some r) k h = absurd (kept_again r e h)
    by_key None k h = by_refusal (refusal e.content t) (no_answer e.content t) k h

step_keeps : (x : Event) (t : Tables) (key : List ℕ) → HasKey t key → HasKey (tables_step x t) key
step_keeps (edit e) t key h = key_stays e t key h
step_keeps (tick m) t key h = h
step_keeps (ask a) t key h = h
step_keeps (offer k) t key h = h
step_keeps (edit_failed e) t key h = h
step_keeps (edit_starved e) t key h = h
step_keeps look t key h = h

history_keeps : (more : List Event) (t : Tables) (key : List ℕ) → HasKey t key → HasKey (tables_after more t) key
history_keeps [] t key h = h
history_keeps (x ∷ xs) t key h = history_keeps xs (tables_step x t) key (step_keeps x t key h)

after_both : (h more : List Event) (t : Tables) → tables_after (h ++ more) t ≡ tables_after more (tables_after h t)
after_both [] more t = refl
after_both (x ∷ xs) more t = after_both xs more (tables_step x t)

not_again : (t : Tables) (e : Edit) → HasKey t e.key → IsAccepted (does t e).answer → ⊥
not_again t e h k = kept_again h.0 e (subst (λ (o : Option Receipt). IsAccepted (does_at o e t).answer) h.1 k)

pub key_acts_once : KeyActsOnce
key_acts_once o h more a b same first second =
    let t : Tables = tables_of o h in
    let has : HasKey (does t a).tables b.key = subst (HasKey (does t a).tables) same (accepted_kept t a first) in
    let then_has : HasKey (tables_after more (does t a).tables) b.key = history_keeps more (does t a).tables b.key has in
    not_again (tables_of o (h ++ edit a ∷ more)) b (subst (λ (x : Tables). HasKey x b.key) (sym (after_both h (edit a ∷ more) o.tables)) then_has) second
