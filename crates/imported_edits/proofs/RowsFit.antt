-- The edits of an import are such as a line can ask for.
use Rattle.std.proofs.Common.{◌≡◌, ◌≢◌, ℕ, ◌≤◌, ◌==◌, List, [], ◌∷◌, length, get_or, refl, sym, ap, subst, arith, Option, Some, None, Result, Ok, Err}
use Rattle.std.specs.Prelude.{All, Bool, true, false, not, ◌&&◌, nat_le, if◌then◌else◌}
use Rattle.std.specs.List.{list_all}
use Rattle.std.specs.Option.{ok_or}
use Rattle.std.proofs.lemmas.Bool.Decides.{nat_tests}
use Rattle.std.proofs.lemmas.List.Elements.{All-nil, All-cons, All-head, All-tail, All-contains}
use Rattle.policy_model.specs.declared.limits.TheConstants.{MOST_LABEL_BYTES, MOST_TEXT_BYTES}
use Rattle.policy_model.specs.Keys.{is_key}
use Rattle.policy_model.specs.Contents.{Edit, IsRuleText}
use Rattle.policy_model.specs.History.{Event, tick, ask, offer, edit, edit_failed, edit_starved, look}
use Rattle.line_model.specs.Words.{kind_word, allow_word, priority_word, expiry_word, flags_word, key_word}
use Rattle.line_model.specs.Fronts.{Terms, Front}
use Rattle.line_laws.specs.Limits.{AreBytes, IsPriority, IsExpiry, IsLabel}
use Rattle.store_model.specs.Kept.{IsEdit, HasEdits}
use Rattle.store_model.specs.Again.{HistoriesAreReadAgain}
use Rattle.asked_edits.specs.Laws.{PriorityWordFits, ExpiryWordFits}
use Rattle.csv.specs.Records.{field_at}
use Rattle.import_csv.specs.declared.limits.TheConstants.{COLUMNS}
use Rattle.import_csv.specs.ImportRows.{label_field, text_field, ◌>>=◌, field_or_none, value_in, terms_in, front_in, Asked, eight_fields, asked_in, Makes, IsRow}
use Rattle.import_csv.specs.ImportFile.{header, AskFor}
use Rattle.imported_edits.specs.Laws.{ImportedEditsFit, AnswersOneOf, ImportIsReadAgain}
use Rattle.imported_edits.proofs.FieldBytes.{records_bytes, field_bytes}

ok_is : {A : Type 0} (a b : A) → ◌≡◌ {A = Result A ℕ} (Ok a) (Ok b) → a ≡ b
ok_is a b e = cc

not_ok : {A : Type 0} (a : A) (column : ℕ) → ◌≡◌ {A = Result A ℕ} (Err column) (Ok a) → ⊥
not_ok a column e = cc

some_is : {A : Type 0} (a b : A) → ◌≡◌ {A = Option A} (Some a) (Some b) → a ≡ b
some_is a b e = cc

not_some : {A : Type 0} (a : A) → ◌≡◌ {A = Option A} None (Some a) → ⊥
not_some a e = cc

steps : {A B : Type 0} (r : Result A ℕ) (next : A → Result B ℕ) (b : B) → (r >>= next) ≡ Ok b → (a : A) × (r ≡ Ok a) × (next a ≡ Ok b)
steps (Ok a) next b e = (a, refl, e)
steps (Err column) next b e = absurd (not_ok b column e)

given : {A : Type 0} (o : Option A) (column : ℕ) (a : A) → ok_or o column ≡ Ok a → o ≡ Some a
given None column a e = absurd (not_ok a column e)
given (Some b) column a e = ap Some (ok_is b a e)

tested : {A : Type 0} (test : Bool) (a b : A) → (if test then Some a else None) ≡ Some b → (test ≡ true) × (a ≡ b)
tested true a b e = (refl, some_is a b e)
tested false a b e = absurd (not_some b e)

passed : {A : Type 0} (test : Bool) (r : Result A ℕ) (column : ℕ) (a : A) → (if test then r else Err column) ≡ Ok a → (test ≡ true) × (r ≡ Ok a)
passed true r column a e = (refl, e)
passed false r column a e = absurd (not_ok a column e)

-- what the field at a place reads as
value_read : {A : Type 0} (read : List ℕ → Option A) (place : ℕ) (fields : List (List ℕ)) (a : A) → value_in read place fields ≡ Ok a → read (field_or_none (field_at fields place)) ≡ Some a
value_read read place fields a e = given (read (field_or_none (field_at fields place))) _ a e

both_true : (a b : Bool) → (a && b) ≡ true → (a ≡ true) × (b ≡ true)
both_true true b e = (refl, e)
both_true false b e = cc

other_byte : (b : ℕ) → not (b == 10) ≡ true → b ≢ 10
other_byte b e = grind (arith, nat_tests, e)

no_lf : (text : List ℕ) → list_all (λ b. not (b == 10)) text ≡ true → All (λ b. b ≢ 10) text
no_lf [] e = All-nil (λ b. b ≢ 10)
no_lf (b ∷ text) e =
    let is = both_true (not (b == 10)) (list_all (λ x. not (x == 10)) text) e in
    All-cons (λ x. x ≢ 10) b text (other_byte b is.0) (no_lf text is.1)

at_most_from : (a b : ℕ) → nat_le a b ≡ true → a ≤ b
at_most_from a b h = grind (arith, nat_tests, h)

text_fits : (field text : List ℕ) → text_field field ≡ Some text → IsRuleText text
text_fits field text e =
    let is = tested (nat_le (length field) MOST_TEXT_BYTES && list_all (λ b. not (b == 10)) field) field text e in
    let tests = both_true (nat_le (length field) MOST_TEXT_BYTES) (list_all (λ b. not (b == 10)) field) is.0 in
    subst IsRuleText is.1 (record { short = at_most_from (length field) MOST_TEXT_BYTES tests.0; one_line = no_lf field tests.1 })

label_fits : (field label : List ℕ) → AreBytes field → label_field field ≡ Some label → IsLabel label
label_fits field label bytes e =
    let is = tested (nat_le (length field) MOST_LABEL_BYTES) field label e in
    subst IsLabel is.1 (record { bytes = bytes; few = at_most_from (length field) MOST_LABEL_BYTES is.0 })

key_fits : (field key : List ℕ) → key_word field ≡ Some key → is_key key ≡ true
key_fits field key e = let is = tested (is_key field) field key e in subst (λ w. is_key w ≡ true) is.1 is.0

-- the terms of a row fit a line
record FitsTerms (t : Terms) : Type 0 where
  priority : IsPriority t.priority
  expires : IsExpiry t.expires
  label : IsLabel t.label

-- so does all that a row asks for, but for its requirement's reading
record FitsAsked (a : Asked) : Type 0 where
  key : is_key a.key ≡ true
  terms : FitsTerms a.front.terms
  text : IsRuleText a.text

module _ (priority_fits : PriorityWordFits) (expiry_fits : ExpiryWordFits) where
  terms_fit : (fields : List (List ℕ)) (t : Terms) → All AreBytes fields → terms_in fields ≡ Ok t → FitsTerms t
  terms_fit fields t bytes e =
      let priority = steps (value_in priority_word 3 fields) _ t e in
      let expires = steps (value_in expiry_word 4 fields) _ t priority.2 in
      let label = steps (value_in label_field 5 fields) _ t expires.2 in
      let flags = steps (value_in flags_word 6 fields) _ t label.2 in
      subst FitsTerms (ok_is _ t flags.2)
      (record {
        priority = priority_fits (field_or_none (field_at fields 3)) priority.0 (value_read priority_word 3 fields priority.0 priority.1);
        expires = expiry_fits (field_or_none (field_at fields 4)) expires.0 (value_read expiry_word 4 fields expires.0 expires.1);
        label = label_fits (field_or_none (field_at fields 5)) label.0 (field_bytes fields 5 bytes) (value_read label_field 5 fields label.0 label.1);
      })

  front_fits : (fields : List (List ℕ)) (f : Front) → All AreBytes fields → front_in fields ≡ Ok f → FitsTerms f.terms
  front_fits fields f bytes e =
      let kind = steps (value_in kind_word 1 fields) _ f e in
      let allow = steps (value_in allow_word 2 fields) _ f kind.2 in
      let terms = steps (terms_in fields) _ f allow.2 in
      subst (λ (x : Front). FitsTerms x.terms) (ok_is _ f terms.2) (terms_fit fields terms.0 bytes terms.1)

  asked_fits : (fields : List (List ℕ)) (a : Asked) → All AreBytes fields → asked_in fields ≡ Ok a → FitsAsked a
  asked_fits fields a bytes e =
      let eight = passed (length fields == COLUMNS) (eight_fields fields) _ a e in
      let key = steps (value_in key_word 0 fields) _ a eight.1 in
      let front = steps (front_in fields) _ a key.2 in
      let text = steps (value_in text_field 7 fields) _ a front.2 in
      subst FitsAsked (ok_is _ a text.2)
      (record {
        key = key_fits (field_or_none (field_at fields 0)) key.0 (value_read key_word 0 fields key.0 key.1);
        terms = front_fits fields front.0 bytes front.1;
        text = text_fits (field_or_none (field_at fields 7)) text.0 (value_read text_field 7 fields text.0 text.1);
      })

  makes_fit : (r : Result Asked ℕ) (e : Edit) → Makes r (Ok e) → ((a : Asked) → r ≡ Ok a → FitsAsked a) → IsEdit e
  makes_fit (Err column) e is fits = absurd (not_ok e column (sym is))
  makes_fit (Ok asked) e (Ok tree, reads, is) fits =
      let f = fits asked refl in
      subst IsEdit (ok_is _ e (sym is))
      (record { key = f.key; content = record { priority = f.terms.priority; expires = f.terms.expires; label = f.terms.label; text = f.text; reads = reads } })
  makes_fit (Ok asked) e (Err fault, reads, is) fits = absurd (not_ok e COLUMNS (sym is))

  row_fits : (fields : List (List ℕ)) (e : Edit) → All AreBytes fields → IsRow fields (Ok e) → IsEdit e
  row_fits fields e bytes is = makes_fit (asked_in fields) e is (λ a same. asked_fits fields a bytes same)

  rows_fit : (rows : List (List (List ℕ))) (edits : List Edit) → All (All AreBytes) rows → AskFor rows edits → All IsEdit edits
  rows_fit [] [] bytes asked = All-nil IsEdit
  rows_fit [] (e ∷ edits) bytes asked = absurd asked
  rows_fit (fields ∷ rows) [] bytes asked = absurd asked
  rows_fit (fields ∷ rows) (e ∷ edits) bytes asked =
      All-cons IsEdit e edits (row_fits fields e (All-head (All AreBytes) fields rows bytes) asked.0) (rows_fit rows edits (All-tail (All AreBytes) fields rows bytes) asked.1)

  pub imported_edits_fit : ImportedEditsFit
  imported_edits_fit bytes edits are is =
      rows_fit is.rows edits (All-tail (All AreBytes) header is.rows (records_bytes bytes (header ∷ is.rows) are is.read)) is.asked

has_edits : (edits : List Edit) → All IsEdit edits → (e : Event) → AnswersOneOf edits e → HasEdits e
has_edits edits fit (tick m) h = tt
has_edits edits fit (ask a) h = tt
has_edits edits fit (offer k) h = tt
has_edits edits fit (edit e) h = All-contains IsEdit edits e fit h
has_edits edits fit (edit_failed e) h = tt
has_edits edits fit (edit_starved e) h = tt
has_edits edits fit look h = tt

pub import_is_read_again : ImportedEditsFit → HistoriesAreReadAgain → ImportIsReadAgain
import_is_read_again fit again bytes edits raw left t h are is answers accepted holds means =
    again raw left t h accepted holds (λ k d lt. has_edits edits (fit bytes edits are is) (get_or h k d) (answers k d lt)) means
