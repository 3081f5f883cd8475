-- A line that asks for an edit is the line of that edit.
use Rattle.std.proofs.Common.{◌≡◌, ℕ, List, refl, sym, ap, ◌∙◌, subst, Result, Ok, Err}
use Rattle.std.specs.Prelude.{Bool, true, false, length, nat_le, if◌then◌else◌, codes, bytes_eq}
use Rattle.policy_model.specs.Contents.{Edit}
use Rattle.line_text.specs.declared.limits.TheConstants.{LINE_LIMIT, LINE_HELD}
use Rattle.line_model.specs.LineFaults.{LineFault, bad_line}
use Rattle.line_model.specs.Left.{Left, all_of, ◌>>=◌, word_at, end_at}
use Rattle.line_model.specs.Edits.{Edited, edit_at, IsEdit, by_words, IsEditLine}
use Rattle.policy_model.specs.Outcomes.{Ask}
use Rattle.session_model.specs.Lines.{Request, tick, assess, begin, finish, status, edit, Lined, asks, edits, as_lined, form_at, lined, edited, Asks, tick_at, ask_at, begin_at, finish_at}
use Rattle.session_laws.specs.Laws.{AsksByItsLine}

not_ok : {A : Type 0} (a : A) (fault : LineFault) → ◌≡◌ {A = Result A LineFault} (Err fault) (Ok a) → ⊥
not_ok a fault e = cc

-- what the first words say is read by another form too
by_words_as : {A B : Type 0} (f : List ℕ → Left → Result A LineFault) (g : List ℕ → Left → Result B LineFault) (line : List ℕ) (a : A) (b : B) → by_words f line ≡ Ok a
    → ((word : List ℕ) (left : Left) → f word left ≡ Ok a → g word left ≡ Ok b) → by_words g line ≡ Ok b
by_words_as {A} {B} f g line a b e h = at (nat_le (length line) LINE_LIMIT) (word_at (all_of line)) e
  where
    at : (few : Bool) (r : Result (List ℕ × Left) LineFault) → (if few then (r >>= λ word. f word.0 word.1) else Err (bad_line LINE_HELD)) ≡ Ok a
        → (if few then (r >>= λ word. g word.0 word.1) else Err (bad_line LINE_HELD)) ≡ Ok b
    at true (Ok word) e = h word.0 word.1 e
    at true (Err fault) e = absurd (not_ok a fault e)
    at false r e = absurd (not_ok a (bad_line LINE_HELD) e)

either_way : {P : Type 0} (b : Bool) (r s : Result Lined LineFault) (x : Lined) → (if b then r else s) ≡ Ok x → (r ≡ Ok x → P) → (s ≡ Ok x → P) → P
either_way true r s x e first second = first e
either_way false r s x e first second = second e

-- what is read of a word that begins no edit
abbrev IsNoEdit : Request → Type 0
IsNoEdit (tick m) = Unit {0}
IsNoEdit (assess a) = Unit {0}
IsNoEdit (begin n a) = Unit {0}
IsNoEdit (finish n) = Unit {0}
IsNoEdit status = Unit {0}
IsNoEdit (edit e) = ⊥

-- what is read is a request that is no edit, or an edit's words
abbrev IsRead : List ℕ → Left → Lined → Type 0
IsRead word left (asks request) = IsNoEdit request
IsRead word left (edits e) = edit_at word left ≡ Ok e

asks_read : {A : Type 0} (word : List ℕ) (left : Left) (f : A → Request) → ((a : A) → IsNoEdit (f a)) → (r : Result A LineFault) (x : Lined) → as_lined (λ a. asks (f a)) r ≡ Ok x → IsRead word left x
asks_read word left f none (Ok a) x e = let same : asks (f a) ≡ x = cc in subst (IsRead word left) same (none a)
asks_read word left f none (Err fault) x e = absurd (not_ok x fault e)

edits_read : (word : List ℕ) (left : Left) (r : Result Edited LineFault) (x : Lined) → edit_at word left ≡ r → as_lined edits r ≡ Ok x → IsRead word left x
edits_read word left (Ok edited) x is e = let same : edits edited ≡ x = cc in subst (IsRead word left) same is
edits_read word left (Err fault) x is e = absurd (not_ok x fault e)

form_read : (word : List ℕ) (left : Left) (x : Lined) → form_at word left ≡ Ok x → IsRead word left x
form_read word left x e =
    either_way (bytes_eq word (codes "tick")) _ _ x e (asks_read word left tick (λ m. tt) (tick_at left) x) (λ not_tick.
    either_way (bytes_eq word (codes "assess")) _ _ x not_tick (asks_read word left assess (λ a. tt) (ask_at left) x) (λ not_assess.
    either_way (bytes_eq word (codes "begin")) _ _ x not_assess (asks_read word left (λ (slot : ℕ × Ask). begin slot.0 slot.1) (λ slot. tt) (begin_at left) x) (λ not_begin.
    either_way (bytes_eq word (codes "finish")) _ _ x not_begin (asks_read word left finish (λ n. tt) (finish_at left) x) (λ not_finish.
    either_way (bytes_eq word (codes "status")) _ _ x not_finish (asks_read word left (λ (end : Left). status) (λ end. tt) (end_at left) x) (λ not_status.
    edits_read word left (edit_at word left) x refl not_status)))))

-- a line of this reading
line_edits : (line : List ℕ) (e : Edited) → lined line ≡ Ok (edits e) → by_words edit_at line ≡ Ok e
line_edits line e is = by_words_as form_at edit_at line (edits e) e is (λ word left read. form_read word left (edits e) read)

-- the words of a line that is read
by_words_read : {A : Type 0} (f : List ℕ → Left → Result A LineFault) (line : List ℕ) (a : A) → by_words f line ≡ Ok a → (word : List ℕ) × (left : Left) × (f word left ≡ Ok a)
by_words_read {A} f line a e = at (nat_le (length line) LINE_LIMIT) (word_at (all_of line)) e
  where
    at : (few : Bool) (r : Result (List ℕ × Left) LineFault) → (if few then (r >>= λ word. f word.0 word.1) else Err (bad_line LINE_HELD)) ≡ Ok a
        → (word : List ℕ) × (left : Left) × (f word left ≡ Ok a)
    at true (Ok word) e = (word.0, word.1, e)
    at true (Err fault) e = absurd (not_ok a fault e)
    at false r e = absurd (not_ok a (bad_line LINE_HELD) e)

-- an edit is never asked for before its words are read
no_edit_asked : (line : List ℕ) (e : Edit) → lined line ≡ Ok (asks (edit e)) → ⊥
no_edit_asked line e is = let read = by_words_read form_at line (asks (edit e)) is in form_read read.0 read.1 (asks (edit e)) read.2

edit_is : (e : Edit) (read : Result Edit LineFault) → ◌≡◌ {A = Result Request LineFault} (Ok (edit e)) (edited read) → read ≡ Ok e
edit_is e (Ok x) same = let is : e ≡ x = cc in ap Ok (sym is)
edit_is e (Err fault) same = absurd (not_ok (edit e) fault (sym same))

asks_an_edit : (line : List ℕ) (e : Edit) (r : Result Lined LineFault) → lined line ≡ r → Asks r (Ok (edit e)) → IsEditLine line (Ok e)
asks_an_edit line e (Err fault) is asked = absurd (not_ok (edit e) fault (sym asked))
asks_an_edit line e (Ok (asks request)) is asked = let same : request ≡ edit e = cc in absurd (no_edit_asked line e (is ∙ ap (λ x. Ok (asks x)) same))
asks_an_edit line e (Ok (edits words)) is asked =
    subst (λ r. IsEdit r (Ok e)) (sym (line_edits line words is))
    (subst (λ read. IsEdit (Ok words) read) (edit_is e asked.0 asked.2) asked.1)

pub asks_by_its_line : AsksByItsLine
asks_by_its_line line e asked = asks_an_edit line e (lined line) refl asked
