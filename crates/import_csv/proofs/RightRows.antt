-- Rows of a file read one after another: what was read is the front of all, and the first fault is that of all.
use Rattle.std.proofs.Common.{◌≡◌, ℕ, ◌+◌, ◌<◌, List, [], ◌∷◌, ◌++◌, length, Ok, Err, Bor, refl, ap, subst, ◌∙◌, arith, append_assoc}
use Rattle.std.proofs.lemmas.List.{length-append}
use Rattle.csv.specs.declared.reader.Reader.{Reader}
use Rattle.csv_records.specs.Reading.{HasTaken, HasRecords}
use Rattle.csv_records.specs.Laws.{TextsHaveRecords, TakenAreFirst}
use Rattle.policy_model.specs.Contents.{Edit}
use Rattle.import_csv.specs.declared.fault.ImportFault.TheVariants.{BadHeader, BadRow, TooMany}
use Rattle.import_csv.specs.ImportRows.{IsRow}
use Rattle.import_csv.specs.ImportFile.{header, AskFor, IsRightUpTo, IsFirstFault}

-- one more row that asks for one more edit
pub asked_more : (front : List (List (List ℕ))) (edits : List Edit) (next : List (List ℕ)) (e : Edit) → AskFor front edits → IsRow next (Ok e)
    → AskFor (front ++ next ∷ []) (edits ++ e ∷ [])
asked_more [] [] next e h r = (r, tt)
asked_more [] (x ∷ xs) next e h r = absurd h
asked_more (f ∷ fs) [] next e h r = absurd h
asked_more (f ∷ fs) (x ∷ xs) next e h r = (h.0, asked_more fs xs next e h.1 r)

-- a text without records
pub no_records : (text : List ℕ) → HasRecords text [] → IsFirstFault text BadHeader
no_records text none = ([], none, tt)

-- a text whose first record is another than the header
pub other_header : TextsHaveRecords → TakenAreFirst → (reader : Reader (Bor (List ℕ))) (text : List ℕ) (head : List (List ℕ)) → HasTaken reader text (head ∷ []) → (head ≡ header → ⊥)
    → IsFirstFault text BadHeader
other_header some first reader text head h other =
    let all = some text in
    let more = first reader text (head ∷ []) all.0 h all.1 in
    (head ∷ more.0, subst (HasRecords text) more.1 all.1, other)

-- a text whose rows in front of this one are right
pub right_up_to : TextsHaveRecords → TakenAreFirst → (reader : Reader (Bor (List ℕ))) (text : List ℕ) (front : List (List (List ℕ))) (edits : List Edit) (next : List (List ℕ)) (count : ℕ)
    → HasTaken reader text (header ∷ (front ++ next ∷ [])) → AskFor front edits → count ≡ length front → IsRightUpTo text count next
right_up_to some first reader text front edits next count h asked counted =
    let all = some text in
    let more = first reader text (header ∷ (front ++ next ∷ [])) all.0 h all.1 in
    let parts : all.0 ≡ header ∷ (front ++ next ∷ more.0) = more.1 ∙ ap (λ (rows : List (List (List ℕ))). header ∷ rows) (append_assoc front (next ∷ []) more.0) in
    record { front = front; more = more.0; edits = edits; read = subst (HasRecords text) parts all.1; counted = counted; asked = asked }

-- a row that is refused
pub bad_row : TextsHaveRecords → TakenAreFirst → (reader : Reader (Bor (List ℕ))) (text : List ℕ) (front : List (List (List ℕ))) (edits : List Edit) (next : List (List ℕ)) (row column : ℕ)
    → HasTaken reader text (header ∷ (front ++ next ∷ [])) → AskFor front edits → row ≡ 2 + length front → row < 10002 → IsRow next (Err column)
    → IsFirstFault text (BadRow row column)
bad_row some first reader text front edits next row column h asked counted few bad =
    (length front, next, right_up_to some first reader text front edits next (length front) h asked refl, omega arith, omega arith, bad)

-- one row too many
pub too_many : TextsHaveRecords → TakenAreFirst → (reader : Reader (Bor (List ℕ))) (text : List ℕ) (front : List (List (List ℕ))) (edits : List Edit) (next : List (List ℕ))
    → HasTaken reader text (header ∷ (front ++ next ∷ [])) → AskFor front edits → 10000 ≡ length front → IsFirstFault text TooMany
too_many some first reader text front edits next h asked counted = (next, right_up_to some first reader text front edits next 10000 h asked counted)

-- the number of the row behind one more
pub count_more : (row : ℕ) (front : List (List (List ℕ))) (next : List (List ℕ)) → row ≡ 2 + length front → row + 1 ≡ 2 + length (front ++ next ∷ [])
count_more row front next h = omega (arith, length-append front (next ∷ []))
