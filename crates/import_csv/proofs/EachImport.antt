-- No bytes are neither an import nor at fault: their rows are gone through up to the first that is refused.
use Rattle.std.proofs.Common.{◌≡◌, ℕ, zero, suc, ◌+◌, ◌<◌, ◌≤◌, ◌==◌, ◌&&◌, nat_le, nat_lt, Bool, true, false, List, [], ◌∷◌, ◌++◌, length, Result, Ok, Err, refl, sym, ap, subst, ◌∙◌, arith, append-nil, length-append, true≢false}
use Rattle.std.proofs.lemmas.Bool.{and_parts, and_from, eqb-true, eq-eqb, leb-true, leb-false, ltb-true, ltb-false}
use Rattle.csv_records.specs.Reading.{HasRecords}
use Rattle.csv_records.specs.Laws.{TextsHaveRecords}
use Rattle.req_parser.specs.Laws.{NoTextIsNeither}
use Rattle.policy_model.specs.Contents.{Edit}
use Rattle.import_csv.specs.declared.fault.ImportFault.{ImportFault}
use Rattle.import_csv.specs.declared.fault.ImportFault.TheVariants.{BadHeader, BadRow, TooMany}
use Rattle.import_csv.specs.ImportRows.{Asked, asked_in, edit_by, Makes, IsRow}
use Rattle.import_csv.specs.ImportFile.{header, AskFor, IsImport, IsFirstFault}
use Rattle.import_csv.specs.Laws.{NoBytesAreNeither}
use Rattle.import_csv.proofs.HeaderFields.{is_named, header_by, header_named, header_counted}

abbrev Fields : Type 0
Fields = List (List ℕ)

-- ---- rows

makes_some : NoTextIsNeither → (asked : Result Asked ℕ) → ((row : Result Edit ℕ) → Makes asked row → ⊥) → ⊥
makes_some law (Err column) none = none (Err column) refl
makes_some law (Ok asked) none =
    law asked.text (λ tree is. none (edit_by asked (Ok tree)) (Ok tree, is, refl))
    (λ fault some fails. none (edit_by asked (Err fault)) (Err fault, (fails, some), refl))

-- rows ask for edits, or one is the first that is refused
data Rows (rows : List Fields) : Type 0 where
  right : (edits : List Edit) → AskFor rows edits → Rows rows
  refused : (front : List Fields) (next : Fields) (more : List Fields) (edits : List Edit) (column : ℕ) → rows ≡ front ++ next ∷ more → AskFor front edits → IsRow next (Err column) → Rows rows

behind : (f : Fields) (fs : List Fields) (e : Edit) → IsRow f (Ok e) → Rows fs → Rows (f ∷ fs)
behind f fs e is (right edits asked) = right (e ∷ edits) (is, asked)
behind f fs e is (refused front next more edits column parts asked bad) =
    refused (f ∷ front) next more (e ∷ edits) column (ap (λ (l : List Fields). f ∷ l) parts) (is, asked) bad

first : (f : Fields) (fs : List Fields) → ((Rows fs → ⊥) → ⊥) → (Rows (f ∷ fs) → ⊥) → (row : Result Edit ℕ) → IsRow f row → ⊥
first f fs later none (Err column) is = none (refused [] f fs [] column refl tt is)
first f fs later none (Ok e) is = later (λ rest. none (behind f fs e is rest))

rows_are : NoTextIsNeither → (rows : List Fields) → (Rows rows → ⊥) → ⊥
rows_are law [] none = none (right [] tt)
rows_are law (f ∷ fs) none = makes_some law (asked_in f) (first f fs (rows_are law fs) none)

-- ---- too many rows

-- so many rows ask for edits, and one more stands behind them
record Many (n : ℕ) (rows : List Fields) : Type 0 where
  front : List Fields
  next : Fields
  more : List Fields
  edits : List Edit
  parts : rows ≡ front ++ next ∷ more
  counted : n ≡ length front
  asked : AskFor front edits

many_in : (n : ℕ) (front tail : List Fields) (edits : List Edit) → AskFor front edits → n < length (front ++ tail) → n ≤ length front → Many n (front ++ tail)
many_in zero [] [] edits asked some most = absurd (omega (arith, some))
many_in zero [] (t ∷ tail) edits asked some most = record { front = []; next = t; more = tail; edits = []; parts = refl; counted = refl; asked = tt }
many_in zero (f ∷ fs) tail edits asked some most = record { front = []; next = f; more = fs ++ tail; edits = []; parts = refl; counted = refl; asked = tt }
many_in (suc n) [] tail edits asked some most = absurd (omega (arith, most))
many_in (suc n) (f ∷ fs) tail [] asked some most = absurd asked
many_in (suc n) (f ∷ fs) tail (e ∷ es) asked some most =
    let m = many_in n fs tail es asked.1 (omega (arith, some)) (omega (arith, most)) in
    record {
      front = f ∷ m.front;
      next = m.next;
      more = m.more;
      edits = e ∷ m.edits;
      parts = ap (λ (l : List Fields). f ∷ l) m.parts;
      counted = omega (arith, m.counted);
      asked = (asked.0, m.asked);
    }

too_many : (bytes : List ℕ) (rows : List Fields) → HasRecords bytes (header ∷ rows) → Many 10000 rows → IsFirstFault bytes TooMany
too_many bytes rows read m = (
  m.next,
  record {
    front = m.front;
    more = m.more;
    edits = m.edits;
    read = subst (λ (l : List Fields). HasRecords bytes (header ∷ l)) m.parts read;
    counted = m.counted;
    asked = m.asked;
  },
)

-- ---- a whole file

right_rows : (bytes : List ℕ) (rows : List Fields) (edits : List Edit) (few : Bool) → nat_le (length rows) 10000 ≡ few → HasRecords bytes (header ∷ rows) → AskFor rows edits
    → ((es : List Edit) → IsImport bytes es → ⊥) → ((fault : ImportFault) → IsFirstFault bytes fault → ⊥) → ⊥
right_rows bytes rows edits true e read asked no_import no_fault = no_import edits (record { rows = rows; read = read; few = leb-true (length rows) 10000 e; asked = asked })
right_rows bytes rows edits false e read asked no_import no_fault =
    let over : 10000 < length rows = leb-false (length rows) 10000 e in
    let m : Many 10000 (rows ++ []) = many_in 10000 rows [] edits asked (omega (arith, over, length-append rows [])) (omega (arith, over)) in
    no_fault TooMany (too_many bytes rows read (subst (Many 10000) (append-nil rows) m))

refused_row : (bytes : List ℕ) (front : List Fields) (next : Fields) (more : List Fields) (edits : List Edit) (column : ℕ) (few : Bool) → nat_lt (length front) 10000 ≡ few
    → HasRecords bytes (header ∷ (front ++ next ∷ more)) → AskFor front edits → IsRow next (Err column) → ((fault : ImportFault) → IsFirstFault bytes fault → ⊥) → ⊥
refused_row bytes front next more edits column true e read asked bad no_fault =
    no_fault (BadRow (length front + 2) column)
    (length front, next, record { front = front; more = more; edits = edits; read = read; counted = refl; asked = asked }, refl, ltb-true (length front) 10000 e, bad)
refused_row bytes front next more edits column false e read asked bad no_fault =
    let over : 10000 ≤ length front = ltb-false (length front) 10000 e in
    no_fault TooMany (too_many bytes (front ++ next ∷ more) read (many_in 10000 front (next ∷ more) edits asked (omega (arith, over, length-append front (next ∷ more))) over))

by_rows : (bytes : List ℕ) (rows : List Fields) → HasRecords bytes (header ∷ rows) → Rows rows → ((es : List Edit) → IsImport bytes es → ⊥) → ((fault : ImportFault) → IsFirstFault bytes fault → ⊥) → ⊥
by_rows bytes rows read (right edits asked) no_import no_fault = right_rows bytes rows edits (nat_le (length rows) 10000) refl read asked no_import no_fault
by_rows bytes rows read (refused front next more edits column parts asked bad) no_import no_fault =
    refused_row bytes front next more edits column (nat_lt (length front) 10000) refl (subst (λ (l : List Fields). HasRecords bytes (header ∷ l)) parts read) asked bad no_fault

by_header : NoTextIsNeither → (bytes : List ℕ) (head : Fields) (rows : List Fields) (named : Bool) → (length head == 8 && is_named head) ≡ named → HasRecords bytes (head ∷ rows)
    → ((es : List Edit) → IsImport bytes es → ⊥) → ((fault : ImportFault) → IsFirstFault bytes fault → ⊥) → ⊥
by_header law bytes head rows true e read no_import no_fault =
    let parts = and_parts (length head == 8) (is_named head) e in
    let is : head ≡ header = header_by head (eqb-true (length head) 8 parts.0) parts.1 in
    rows_are law rows (λ r. by_rows bytes rows (subst (λ (f : Fields). HasRecords bytes (f ∷ rows)) is read) r no_import no_fault)
by_header law bytes head rows false e read no_import no_fault =
    no_fault BadHeader
    (head ∷ rows, read, λ is. true≢false (sym (and_from (length head == 8) (is_named head) (eq-eqb (length head) 8 (header_counted head is)) (header_named head is)) ∙ e))

by_records : NoTextIsNeither → (bytes : List ℕ) (all : List Fields) → HasRecords bytes all → ((es : List Edit) → IsImport bytes es → ⊥) → ((fault : ImportFault) → IsFirstFault bytes fault → ⊥) → ⊥
by_records law bytes [] read no_import no_fault = no_fault BadHeader ([], read, tt)
by_records law bytes (head ∷ rows) read no_import no_fault = by_header law bytes head rows (length head == 8 && is_named head) refl read no_import no_fault

pub none_is_neither : TextsHaveRecords → NoTextIsNeither → NoBytesAreNeither
none_is_neither some law bytes no_import no_fault = by_records law bytes (some bytes).0 (some bytes).1 no_import no_fault
