-- What the words of a line ask for fits a line.
use Rattle.std.proofs.Common.{◌≡◌, ◌≢◌, ℕ, ◌≤◌, ◌==◌, List, length, get_or, Bool, true, false, nat_le, nat_lt, Option, Some, None, Result, Ok, Err, All, if◌then◌else◌, codes, refl, sym, subst, arith}
use Rattle.std.specs.Str.{bytes_eq}
use Rattle.std.specs.Option.{ok_or}
use Rattle.std.specs.List.{position, position_or_len}
use Rattle.std.proofs.lemmas.Bool.Decides.{nat_tests}
use Rattle.std.proofs.lemmas.List.Sums.{fails_before_first}
use Rattle.policy_model.specs.declared.limits.TheConstants.{MOST_TEXT_BYTES}
use Rattle.policy_model.specs.Keys.{is_key}
use Rattle.policy_model.specs.Contents.{Content, Which, by_id, by_label, Selector, add, remove, enable, disable, expire, switch, Edit, IsRuleText}
use Rattle.line_text.specs.declared.limits.TheConstants.{LINE_LIMIT, LINE_HELD}
use Rattle.line_model.specs.LineFaults.{LineFault, bad_line, bad_priority, bad_moment, bad_label, bad_key, requirement_too_long}
use Rattle.line_model.specs.Left.{Left, all_of, ◌>>=◌, word_at, end_at, misfit}
use Rattle.line_model.specs.Words.{expiry_word, priority_word, label_word, name_word, rule_word, key_word, kind_word, allow_word}
use Rattle.line_model.specs.Forms.{expiry_at, kind_at, any_kind_at, allow_at, priority_at, label_at, name_at, rule_at, flags_at, key_at}
use Rattle.line_model.specs.Selectors.{as_which, which_at, selector_at}
use Rattle.line_model.specs.Fronts.{Terms, terms_at, Front, front_at, new_row}
use Rattle.line_model.specs.Requirements.{rest_at, of_one_line, text_at}
use Rattle.line_model.specs.Contents.{Verb, add_verb, remove_verb, enable_verb, disable_verb, expire_verb, switch_verb, verb_word, Worded, whole, adds, add_at, selected_at, expiring_at, turned_at, as_whole, operands_at, content_at}
use Rattle.line_model.specs.Edits.{Edited, edit_at, Makes, IsContent, keyed, IsEdit, by_words, IsContentLine, IsEditLine}
use Rattle.line_laws.specs.Limits.{AreBytes, IsLabel, IsExpiry, IsPriority, IsName, FitsLine}
use Rattle.store_model.specs.Kept as store
use Rattle.asked_edits.proofs.Readings.{ok_is, not_ok, steps, given, tested, passed, BytesLeft, line_bytes, next_word, value_read}
use Rattle.asked_edits.proofs.Labels.{label_fits, name_fits}
use Rattle.asked_edits.proofs.Numbers.{expiry_fits, priority_fits, rule_fits}

-- the terms of an added rule fit a line
record FitsTerms (t : Terms) : Type 0 where
  priority : IsPriority t.priority
  expires : IsExpiry t.expires
  label : IsLabel t.label

terms_fit : (left : Left) (x : Terms × Left) → terms_at left ≡ Ok x → BytesLeft left → FitsTerms x.0
terms_fit left x e h =
    let priority = steps (priority_at left) _ x e in
    let p = value_read priority_word bad_priority left priority.0 priority.1 h in
    let expires = steps (expiry_at priority.0.1) _ x priority.2 in
    let m = value_read expiry_word bad_moment priority.0.1 expires.0 expires.1 p.left in
    let label = steps (label_at expires.0.1) _ x expires.2 in
    let l = value_read label_word bad_label expires.0.1 label.0 label.1 m.left in
    let flags = steps (flags_at label.0.1) _ x label.2 in
    subst (λ (y : Terms × Left). FitsTerms y.0) (ok_is _ x flags.2)
    (record {
      priority = priority_fits p.word priority.0.0 p.says;
      expires = expiry_fits m.word expires.0.0 m.says;
      label = label_fits l.word label.0.0 l.bytes l.says;
    })

front_fits : (left : Left) (x : Front × Left) → front_at left ≡ Ok x → BytesLeft left → FitsTerms x.0.terms
front_fits left x e h =
    let kind = steps (kind_at left) _ x e in
    let k = value_read kind_word (misfit left) left kind.0 kind.1 h in
    let allow = steps (allow_at kind.0.1) _ x kind.2 in
    let a = value_read allow_word (misfit kind.0.1) kind.0.1 allow.0 allow.1 k.left in
    let terms = steps (terms_at allow.0.1) _ x allow.2 in
    subst (λ (y : Front × Left). FitsTerms y.0.terms) (ok_is _ x terms.2) (terms_fit allow.0.1 terms.0 terms.1 a.left)

-- where no LF is found there is none
past_end : (place size : ℕ) (b : Bool) → nat_lt place size ≡ b → (if b then Some place else None) ≡ None → size ≤ place
past_end place size true lt found = cc
past_end place size false lt found = grind (arith, nat_tests, lt)

other : (byte : ℕ) → (byte == 10) ≡ false → byte ≢ 10
other byte fails is = let no : true ≡ false = subst (λ (b : ℕ). (b == 10) ≡ false) is fails in cc

no_lf : (text : List ℕ) → position (λ b. b == 10) text ≡ None → All (λ byte. byte ≢ 10) text
no_lf text none =
    let far : length text ≤ position_or_len (λ b. b == 10) text = past_end (position_or_len (λ b. b == 10) text) (length text) _ refl none in
    λ k d inside. other (get_or text k d) (fails_before_first (λ b. b == 10) text k d (omega (arith, inside, far)))

one_line_read : (column : ℕ) (text read : List ℕ) (place : Option ℕ) → of_one_line column text place ≡ Ok read → (place ≡ None) × (text ≡ read)
one_line_read column text read None e = (refl, ok_is text read e)
one_line_read column text read (Some place) e = absurd (not_ok read _ e)

short_text : (text : List ℕ) → nat_le (length text) MOST_TEXT_BYTES ≡ true → length text ≤ MOST_TEXT_BYTES
short_text text h = grind (arith, nat_tests, h)

rule_text : (text : List ℕ) → nat_le (length text) MOST_TEXT_BYTES ≡ true → position (λ b. b == 10) text ≡ None → IsRuleText text
rule_text text few none = record { short = short_text text few; one_line = no_lf text none }

text_fits : (left : Left) (text : List ℕ) → text_at left ≡ Ok text → IsRuleText text
text_fits left text e =
    let rest = steps (rest_at left) _ text e in
    let few = passed (nat_le (length rest.0) MOST_TEXT_BYTES) (of_one_line left.column rest.0 (position (λ byte. byte == 10) rest.0)) requirement_too_long text rest.2 in
    let line = one_line_read left.column rest.0 text (position (λ byte. byte == 10) rest.0) few.1 in
    subst IsRuleText line.1 (rule_text rest.0 few.0 line.0)

-- a name that was read is one
named : {A : Type 0} (which : A → Which) (read : Result (A × Left) LineFault) (x : Which × Left) → as_which which read ≡ Ok x → ((y : A × Left) → read ≡ Ok y → IsName (which y.0)) → IsName x.0
named which read x e h =
    let value = steps read _ x e in
    subst (λ (y : Which × Left). IsName y.0) (ok_is _ x value.2) (h value.0 value.1)

one_or_other : (a b : Bool) (r s : Result (Which × Left) LineFault) (fault : LineFault) (x : Which × Left) → (if a then r else if b then s else Err fault) ≡ Ok x
    → (r ≡ Ok x → IsName x.0) → (s ≡ Ok x → IsName x.0) → IsName x.0
one_or_other true b r s fault x e h k = h e
one_or_other false true r s fault x e h k = k e
one_or_other false false r s fault x e h k = absurd (not_ok x fault e)

which_fits : (left : Left) (x : Which × Left) → which_at left ≡ Ok x → BytesLeft left → IsName x.0
which_fits left x e h =
    let word = steps (word_at left) _ x e in
    let bytes = next_word left word.0 word.1 h in
    one_or_other (bytes_eq word.0.0 (codes "id")) (bytes_eq word.0.0 (codes "label")) (as_which by_id (rule_at word.0.1)) (as_which by_label (name_at word.0.1)) (misfit left) x word.2
    (λ id. named by_id (rule_at word.0.1) x id (λ y is. let r = value_read rule_word (misfit word.0.1) word.0.1 y is bytes.1 in rule_fits r.word y.0 r.says))
    (λ label. named by_label (name_at word.0.1) x label (λ y is. let l = value_read name_word bad_label word.0.1 y is bytes.1 in name_fits l.word y.0 l.bytes l.says))

selector_fits : (left : Left) (x : Selector × Left) → selector_at left ≡ Ok x → BytesLeft left → IsName x.0.which
selector_fits left x e h =
    let which = steps (which_at left) _ x e in
    let kind = steps (any_kind_at which.0.1) _ x which.2 in
    subst (λ (y : Selector × Left). IsName y.0.which) (ok_is _ x kind.2) (which_fits left which.0 which.1 h)

selected_fits : (left : Left) (s : Selector) → selected_at left ≡ Ok s → BytesLeft left → IsName s.which
selected_fits left s e h =
    let selector = steps (selector_at left) _ s e in
    let end = steps (end_at selector.0.1) _ s selector.2 in
    subst (λ (t : Selector). IsName t.which) (ok_is _ s end.2) (selector_fits left selector.0 selector.1 h)

-- an expiry behind any words
end_fits : (left : Left) (x : Option ℕ × Left) → expiry_at left ≡ Ok x → IsExpiry x.0
end_fits left x e =
    let word = steps (word_at left) _ x e in
    let says = steps (ok_or (expiry_word word.0.0) bad_moment) _ x word.2 in
    let same = ok_is _ x says.2 in
    subst (λ (y : Option ℕ × Left). IsExpiry y.0) same (expiry_fits word.0.0 says.0 (given (expiry_word word.0.0) bad_moment says.0 says.1))

expiring_fits : (left : Left) (x : Selector × Option ℕ) → expiring_at left ≡ Ok x → BytesLeft left → IsName x.0.which × IsExpiry x.1
expiring_fits left x e h =
    let selector = steps (selector_at left) _ x e in
    let expires = steps (expiry_at selector.0.1) _ x selector.2 in
    let end = steps (end_at expires.0.1) _ x expires.2 in
    subst (λ (y : Selector × Option ℕ). IsName y.0.which × IsExpiry y.1) (ok_is _ x end.2) (selector_fits left selector.0 selector.1 h, end_fits selector.0.1 expires.0 expires.1)

-- what words ask for fits a line, but for a requirement's reading
abbrev FitsWords : Worded → Type 0
FitsWords (whole content) = FitsLine content
FitsWords (adds front text) = FitsTerms front.terms × IsRuleText text

add_fits : (left : Left) (worded : Worded) → add_at left ≡ Ok worded → BytesLeft left → FitsWords worded
add_fits left worded e h =
    let front = steps (front_at left) _ worded e in
    let text = steps (text_at front.0.1) _ worded front.2 in
    subst FitsWords (ok_is _ worded text.2) (front_fits left front.0 front.1 h, text_fits front.0.1 text.0 text.1)

whole_fits : {A : Type 0} (content : A → Content) (read : Result A LineFault) (worded : Worded) → as_whole content read ≡ Ok worded → ((a : A) → read ≡ Ok a → FitsLine (content a)) → FitsWords worded
whole_fits content read worded e h =
    let value = steps read _ worded e in
    subst FitsWords (ok_is _ worded value.2) (h value.0 value.1)

operands_fit : (verb : Verb) (left : Left) (worded : Worded) → operands_at verb left ≡ Ok worded → BytesLeft left → FitsWords worded
operands_fit add_verb left worded e h = add_fits left worded e h
operands_fit remove_verb left worded e h = whole_fits remove (selected_at left) worded e (λ s is. selected_fits left s is h)
operands_fit enable_verb left worded e h = whole_fits enable (selected_at left) worded e (λ s is. selected_fits left s is h)
operands_fit disable_verb left worded e h = whole_fits disable (selected_at left) worded e (λ s is. selected_fits left s is h)
operands_fit expire_verb left worded e h = whole_fits (λ asked. expire asked.0 asked.1) (expiring_at left) worded e (λ x is. expiring_fits left x is h)
operands_fit switch_verb left worded e h = whole_fits switch (turned_at left) worded e (λ on is. tt)

content_fits : (word : List ℕ) (left : Left) (worded : Worded) → content_at word left ≡ Ok worded → BytesLeft left → FitsWords worded
content_fits word left worded e h =
    let verb = steps (ok_or (verb_word word) (bad_line 1)) _ worded e in
    operands_fit verb.0 left worded verb.2 h

-- the key of an edit, and what its words ask for
record FitsEdited (e : Edited) : Type 0 where
  key : is_key e.key ≡ true
  worded : FitsWords e.worded

key_is : (word key : List ℕ) → key_word word ≡ Some key → is_key key ≡ true
key_is word key e =
    let is = tested (is_key word) word key e in
    subst (λ w. is_key w ≡ true) is.1 is.0

edited_fits : (word : List ℕ) (left : Left) (x : Edited) → edit_at word left ≡ Ok x → BytesLeft left → FitsEdited x
edited_fits word left x e h =
    let verb = steps (ok_or (verb_word word) (bad_line 1)) _ x e in
    let key = steps (key_at left) _ x verb.2 in
    let k = value_read key_word bad_key left key.0 key.1 h in
    let worded = steps (operands_at verb.0 key.0.1) _ x key.2 in
    subst FitsEdited (ok_is _ x worded.2) (record { key = key_is k.word key.0.0 k.says; worded = operands_fit verb.0 key.0.1 worded.0 worded.1 k.left })

-- a line that is read by its words
by_words_fit : {A : Type 0} (P : A → Type 0) (form : List ℕ → Left → Result A LineFault) (line : List ℕ) (a : A) → by_words form line ≡ Ok a → AreBytes line
    → ((word : List ℕ) (left : Left) → form word left ≡ Ok a → BytesLeft left → P a) → P a
by_words_fit P form line a e bytes h =
    let few = passed (nat_le (length line) LINE_LIMIT) (word_at (all_of line) >>= (λ word. form word.0 word.1)) (bad_line LINE_HELD) a e in
    let word = steps (word_at (all_of line)) (λ word. form word.0 word.1) a few.1 in
    h word.0.0 word.0.1 word.2 (next_word (all_of line) word.0 word.1 (line_bytes line bytes)).1

-- what words make of a content fits, where the words do
made_fits : {A : Type 0} (make : Content → A) (P : A → Type 0) (worded : Worded) (a : A) → Makes make worded (Ok a) → FitsWords worded → ((c : Content) → FitsLine c → P (make c)) → P a
made_fits make P (whole content) a e fits h = subst P (sym (ok_is a (make content) e)) (h content fits)
made_fits make P (adds front text) a (Ok tree, reads, e) fits h =
    subst P (sym (ok_is a (make (add (new_row front text tree))) e))
    (h (add (new_row front text tree)) (record { priority = fits.0.priority; expires = fits.0.expires; label = fits.0.label; text = fits.1; reads = reads }))
made_fits make P (adds front text) a (Err fault, reads, e) fits h = absurd (not_ok a _ (sym e))

asked_content : (r : Result Worded LineFault) (c : Content) → IsContent r (Ok c) → ((worded : Worded) → r ≡ Ok worded → FitsWords worded) → FitsLine c
asked_content (Err fault) c e h = absurd (not_ok c fault (sym e))
asked_content (Ok worded) c e h = made_fits (λ content. content) FitsLine worded c e (h worded refl) (λ content fits. fits)

pub asked_content_fits : (text : List ℕ) (c : Content) → AreBytes text → IsContentLine text (Ok c) → FitsLine c
asked_content_fits text c bytes e =
    asked_content (by_words content_at text) c e (λ worded is. by_words_fit FitsWords content_at text worded is bytes (λ word left read h. content_fits word left worded read h))

asked_edit : (r : Result Edited LineFault) (e : Edit) → IsEdit r (Ok e) → ((x : Edited) → r ≡ Ok x → FitsEdited x) → store.IsEdit e
asked_edit (Err fault) e is h = absurd (not_ok e fault (sym is))
asked_edit (Ok x) e is h =
    let fits = h x refl in
    made_fits (keyed x.key) store.IsEdit x.worded e is fits.worded (λ content f. record { key = fits.key; content = f })

pub asked_edit_fits : (line : List ℕ) (e : Edit) → AreBytes line → IsEditLine line (Ok e) → store.IsEdit e
asked_edit_fits line e bytes is =
    asked_edit (by_words edit_at line) e is (λ x read. by_words_fit FitsEdited edit_at line x read bytes (λ word left r h. edited_fits word left x r h))
