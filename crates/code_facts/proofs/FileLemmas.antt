-- Rows of a file read one after another: what was read is the front of all, and the first fault is that of all.
use Rattle.std.proofs.Common.{◌≡◌, ℕ, ◌+◌, ◌≤◌, Bool, true, false, nat_lt, if◌then◌else◌, List, [], ◌∷◌, ◌++◌, length, Option, None, Some, Result, Ok, Err, Bor, refl, sym, ap, subst, ◌∙◌, arith, append_assoc}
use Rattle.std.proofs.lemmas.List.{length-append}
use Rattle.std.proofs.lemmas.Bool.Decides.{nat_tests}
use Rattle.csv.specs.declared.reader.Reader.{Reader}
use Rattle.csv_records.specs.Reading.{HasTaken, HasRecords}
use Rattle.csv_records.specs.Laws.{OneListOfRecords, TakenAreFirst}
use Rattle.code_facts.specs.declared.fault.FactFault.{FactFault}
use Rattle.code_facts.specs.declared.fault.FactFault.TheVariants.{BadRow, TooMany}
use Rattle.code_facts.specs.Rows.{Row, row_of}
use Rattle.code_facts.specs.FactsFile.{taken, row_behind, then_rows, rows_behind, same_fields, header, rows_of_records}

then_same : (K L : Row → Result (List Row) FactFault) (t : Result Row FactFault) (rows : List Row) (R : Result (List Row) FactFault)
    → ((row : Row) → K row ≡ Ok rows → L row ≡ R) → then_rows K t ≡ Ok rows → then_rows L t ≡ R
then_same K L (Ok row) rows R g h = g row h
then_same K L (Err fault) rows R g h = cc

-- rows behind those that were read
pub rows_behind-append : (n : ℕ) (earlier rows : List Row) (xs ys : List (List (List ℕ))) → rows_behind n earlier xs ≡ Ok rows
    → rows_behind n earlier (xs ++ ys) ≡ rows_behind (n + length xs) rows ys
rows_behind-append n earlier rows [] ys h =
    let same : earlier ≡ rows = cc in
    let number : n ≡ n + 0 = omega arith in
    ap (λ (e : List Row). rows_behind n e ys) same ∙ ap (λ (k : ℕ). rows_behind k rows ys) number
rows_behind-append n earlier rows (f ∷ xs) ys h =
    let number : n + 1 + length xs ≡ n + length (f ∷ xs) = omega arith in
    then_same (λ row. rows_behind (n + 1) (earlier ++ row ∷ []) xs) (λ row. rows_behind (n + 1) (earlier ++ row ∷ []) (xs ++ ys)) (taken n earlier f) rows (rows_behind (n + length (f ∷ xs)) rows ys)
    (λ row k. rows_behind-append (n + 1) (earlier ++ row ∷ []) rows xs ys k ∙ ap (λ (m : ℕ). rows_behind m rows ys) number) h

-- one more row
pub row_more : (number : ℕ) (rows : List Row) (row : Row) (front : List (List (List ℕ))) (f : List (List ℕ)) → rows_behind 2 [] front ≡ Ok rows → number ≡ 2 + length front
    → taken number rows f ≡ Ok row → rows_behind 2 [] (front ++ f ∷ []) ≡ Ok (rows ++ row ∷ [])
row_more number rows row front f h n t =
    rows_behind-append 2 [] rows front (f ∷ []) h ∙ ap (λ (k : ℕ). rows_behind k rows (f ∷ [])) (sym n)
    ∙ ap (λ r. then_rows (λ row. rows_behind (number + 1) (rows ++ row ∷ []) []) r) t

when_header : (t : Bool) (x y : Result (List Row) FactFault) → t ≡ true → (if t then x else y) ≡ x
when_header true x y h = refl
when_header false x y h = cc

unless_header : (t : Bool) (x y : Result (List Row) FactFault) → t ≡ false → (if t then x else y) ≡ y
unless_header true x y h = cc
unless_header false x y h = refl

-- a row that is refused is the first fault of all
pub row_fault : TakenAreFirst → (reader : Reader (Bor (List ℕ))) (text : List ℕ) (head : List (List ℕ)) (front : List (List (List ℕ))) (f : List (List ℕ)) (fault : FactFault) (rows : List Row) (number : ℕ)
    → HasTaken reader text (head ∷ (front ++ f ∷ [])) → same_fields head header ≡ true → rows_behind 2 [] front ≡ Ok rows → number ≡ 2 + length front → taken number rows f ≡ Err fault
    → (all : List (List (List ℕ))) → HasRecords text all → rows_of_records all ≡ Err fault
row_fault first reader text head front f fault rows number h named ok n bad all a =
    let more = first reader text (head ∷ (front ++ f ∷ [])) all h a in
    let parts : all ≡ head ∷ ((front ++ f ∷ []) ++ more.0) = more.1 in
    let nest : (front ++ f ∷ []) ++ more.0 ≡ front ++ (f ∷ more.0) = append_assoc front (f ∷ []) more.0 in
    ap rows_of_records parts ∙ when_header (same_fields head header) _ _ named ∙ ap (λ (t : List (List (List ℕ))). rows_behind 2 [] t) nest
    ∙ rows_behind-append 2 [] rows front (f ∷ more.0) ok ∙ ap (λ (k : ℕ). rows_behind k rows (f ∷ more.0)) (sym n)
    ∙ ap (λ r. then_rows (λ row. rows_behind (number + 1) (rows ++ row ∷ []) more.0) r) bad

-- a file that begins with no header
pub header_fault : TakenAreFirst → (reader : Reader (Bor (List ℕ))) (text : List ℕ) (head : List (List ℕ)) → HasTaken reader text (head ∷ []) → same_fields head header ≡ false
    → (all : List (List (List ℕ))) → HasRecords text all → rows_of_records all ≡ Err (BadRow 1)
header_fault first reader text head h other all a =
    let more = first reader text (head ∷ []) all h a in
    let parts : all ≡ head ∷ more.0 = more.1 in
    ap rows_of_records parts ∙ unless_header (same_fields head header) _ _ other

pub no_header : OneListOfRecords → (text : List ℕ) → HasRecords text [] → (all : List (List (List ℕ))) → HasRecords text all → rows_of_records all ≡ Err (BadRow 1)
no_header one text none all a = ap rows_of_records (one text [] all none a)

pub all_read : (text : List ℕ) (head : List (List ℕ)) (front : List (List (List ℕ))) (rows : List Row) → same_fields head header ≡ true → rows_behind 2 [] front ≡ Ok rows
    → rows_of_records (head ∷ front) ≡ Ok rows
all_read text head front rows named ok = when_header (same_fields head header) _ _ named ∙ ok

few_when : (t : Bool) (n : ℕ) (x : Result Row FactFault) (row : Row) → nat_lt 100001 n ≡ t → (if t then Err TooMany else x) ≡ Ok row → n ≤ 100001
few_when true n x row e h = cc
few_when false n x row e h = grind (arith, nat_tests)

pub taken_few : (n : ℕ) (earlier : List Row) (f : List (List ℕ)) (row : Row) → taken n earlier f ≡ Ok row → n ≤ 100001
taken_few n earlier f row h = few_when (nat_lt 100001 n) n (row_behind n earlier (row_of f)) row refl h

abbrev pub ok_rows : List Row → Result (List Row) FactFault
ok_rows rows = Ok rows

pub count_more : (number : ℕ) (front : List (List (List ℕ))) (f : List (List ℕ)) → number ≡ 2 + length front → number + 1 ≡ 2 + length (front ++ f ∷ [])
count_more number front f h = omega (arith, length-append front (f ∷ []))

pub few_more : (number : ℕ) → number ≤ 100001 → number + 1 ≤ 100002
few_more number h = omega arith

not_many : (t : Bool) (n : ℕ) (x : Result Row FactFault) → nat_lt 100001 n ≡ t → n ≤ 100001 → (if t then Err TooMany else x) ≡ x
not_many true n x e h = absurd (grind (arith, nat_tests))
not_many false n x e h = refl

-- a record is taken as its row is
pub taken_row : (n : ℕ) (earlier : List Row) (f : List (List ℕ)) (row : Row) → n ≤ 100001 → Some row ≡ row_of f → taken n earlier f ≡ row_behind n earlier (Some row)
taken_row n earlier f row h e = not_many (nat_lt 100001 n) n (row_behind n earlier (row_of f)) refl h ∙ ap (row_behind n earlier) (sym e)

pub taken_none : (n : ℕ) (earlier : List Row) (f : List (List ℕ)) → n ≤ 100001 → ◌≡◌ {A = Option Row} None (row_of f) → taken n earlier f ≡ Err (BadRow n)
taken_none n earlier f h e = not_many (nat_lt 100001 n) n (row_behind n earlier (row_of f)) refl h ∙ ap (row_behind n earlier) (sym e)
