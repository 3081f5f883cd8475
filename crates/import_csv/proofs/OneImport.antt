-- Bytes ask for one list of edits, or have one first fault.
use Rattle.std.proofs.Common.{◌≡◌, ℕ, ◌<◌, ◌≤◌, List, [], ◌∷◌, ◌++◌, length, Result, Ok, Err, refl, sym, ap, subst, arith}
use Rattle.std.proofs.lemmas.List.{length-append}
use Rattle.csv_records.specs.Reading.{HasRecords}
use Rattle.csv_records.specs.Laws.{OneListOfRecords}
use Rattle.req_grammar.specs.Laws.{OneTree}
use Rattle.policy_model.specs.Contents.{Edit}
use Rattle.import_csv.specs.declared.fault.ImportFault.TheVariants.{BadHeader, BadRow, TooMany, OutOfMemory}
use Rattle.import_csv.specs.ImportRows.{IsRow}
use Rattle.import_csv.specs.ImportFile.{header, AskFor, LacksHeader, IsFirstFault}
use Rattle.import_csv.specs.Laws.{ImportIsOne, ImportHasNoFault, FirstFaultIsOne}
use Rattle.import_csv.proofs.OneRow.{FailsAlone, row_is_one, row_has_no_fault}

abbrev Fields : Type 0
Fields = List (List ℕ)

head_same : (x y : Fields) (xs ys : List Fields) → x ∷ xs ≡ y ∷ ys → x ≡ y
head_same x y xs ys e = cc

tail_same : (x y : Fields) (xs ys : List Fields) → x ∷ xs ≡ y ∷ ys → xs ≡ ys
tail_same x y xs ys e = cc

-- a row among rows that ask for edits asks for one
asks_inside : (front : List Fields) (next : Fields) (more : List Fields) (edits : List Edit) → AskFor (front ++ next ∷ more) edits → (e : Edit) × IsRow next (Ok e)
asks_inside [] next more [] h = absurd h
asks_inside [] next more (e ∷ es) h = (e, h.0)
asks_inside (f ∷ fs) next more [] h = absurd h
asks_inside (f ∷ fs) next more (e ∷ es) h = asks_inside fs next more es h.1

ok_is : (a b : Edit) → ◌≡◌ {A = Result Edit ℕ} (Ok a) (Ok b) → a ≡ b
ok_is a b e = cc

err_is : (c d : ℕ) → ◌≡◌ {A = Result Edit ℕ} (Err c) (Err d) → c ≡ d
err_is c d e = cc

module _ (lists : OneListOfRecords) (one : OneTree) (alone : FailsAlone) where
  rows_same : (bytes : List ℕ) (xs ys : List Fields) → HasRecords bytes (header ∷ xs) → HasRecords bytes (header ∷ ys) → xs ≡ ys
  rows_same bytes xs ys a b = sym (tail_same header header ys xs (lists bytes (header ∷ xs) (header ∷ ys) a b))

  has_header : (bytes : List ℕ) (rows records : List Fields) → HasRecords bytes (header ∷ rows) → HasRecords bytes records → LacksHeader records → ⊥
  has_header bytes rows records a b lacks =
      let no : header ≡ header → ⊥ = subst LacksHeader (lists bytes (header ∷ rows) records a b) lacks in
      no refl

  edits_same : (rows : List Fields) (a b : List Edit) → AskFor rows a → AskFor rows b → a ≡ b
  edits_same [] [] [] h k = refl
  edits_same [] [] (y ∷ ys) h k = absurd k
  edits_same [] (x ∷ xs) b h k = absurd h
  edits_same (f ∷ fs) [] b h k = absurd h
  edits_same (f ∷ fs) (x ∷ xs) [] h k = absurd k
  edits_same (f ∷ fs) (x ∷ xs) (y ∷ ys) h k =
      let first : x ≡ y = ok_is x y (row_is_one one alone f (Ok x) (Ok y) h.0 k.0) in
      let rest : xs ≡ ys = edits_same fs xs ys h.1 k.1 in
      cc

  pub import_is_one : ImportIsOne
  import_is_one bytes a b h k =
      let rows : h.rows ≡ k.rows = rows_same bytes h.rows k.rows h.read k.read in
      edits_same k.rows a b (subst (λ (rows : List Fields). AskFor rows a) rows h.asked) k.asked

  pub import_has_no_fault : ImportHasNoFault
  import_has_no_fault bytes edits BadHeader h f = has_header bytes h.rows f.0 h.read f.1 f.2
  import_has_no_fault bytes edits (BadRow row column) h f =
      let right = f.2 in
      let rows : h.rows ≡ right.front ++ f.1 ∷ right.more = rows_same bytes h.rows (right.front ++ f.1 ∷ right.more) h.read right.read in
      let here = asks_inside right.front f.1 right.more edits (subst (λ (rows : List Fields). AskFor rows edits) rows h.asked) in
      row_has_no_fault one alone f.1 here.0 column here.1 f.5
  import_has_no_fault bytes edits TooMany h f =
      let right = f.1 in
      let rows : h.rows ≡ right.front ++ f.0 ∷ right.more = rows_same bytes h.rows (right.front ++ f.0 ∷ right.more) h.read right.read in
      let counts : length h.rows ≡ length (right.front ++ f.0 ∷ right.more) = ap length rows in
      let few : length h.rows ≤ 10000 = h.few in
      let full : 10000 ≡ length right.front = right.counted in
      absurd (omega (arith, counts, few, full, length-append right.front (f.0 ∷ right.more)))
  import_has_no_fault bytes edits OutOfMemory h f = absurd f

  -- two rows that are refused behind rows that are right are one
  same_place : (front front' : List Fields) (next next' : Fields) (more more' : List Fields) (es es' : List Edit) (c c' : ℕ) → front ++ next ∷ more ≡ front' ++ next' ∷ more'
      → AskFor front es → AskFor front' es' → IsRow next (Err c) → IsRow next' (Err c') → (length front ≡ length front') × (c ≡ c')
  same_place [] [] next next' more more' es es' c c' e h h' r r' =
      let r'' : IsRow next (Err c') = subst (λ (f : Fields). IsRow f (Err c')) (sym (head_same next next' more more' e)) r' in
      (refl, err_is c c' (row_is_one one alone next (Err c) (Err c') r r''))
  same_place [] (g ∷ gs) next next' more more' es [] c c' e h h' r r' = absurd h'
  same_place [] (g ∷ gs) next next' more more' es (y ∷ ys) c c' e h h' r r' =
      absurd (row_has_no_fault one alone g y c h'.0 (subst (λ (f : Fields). IsRow f (Err c)) (head_same next g more (gs ++ next' ∷ more') e) r))
  same_place (f ∷ fs) front' next next' more more' [] es' c c' e h h' r r' = absurd h
  same_place (f ∷ fs) [] next next' more more' (x ∷ xs) es' c c' e h h' r r' =
      absurd (row_has_no_fault one alone f x c' h.0 (subst (λ (f : Fields). IsRow f (Err c')) (sym (head_same f next' (fs ++ next ∷ more) more' e)) r'))
  same_place (f ∷ fs) (g ∷ gs) next next' more more' (x ∷ xs) [] c c' e h h' r r' = absurd h'
  same_place (f ∷ fs) (g ∷ gs) next next' more more' (x ∷ xs) (y ∷ ys) c c' e h h' r r' =
      let rest = same_place fs gs next next' more more' xs ys c c' (tail_same f g (fs ++ next ∷ more) (gs ++ next' ∷ more') e) h.1 h'.1 r r' in
      (omega (arith, rest.0), rest.1)

  -- no row that is refused stands among rows that are right
  not_among : (front front' : List Fields) (next next' : Fields) (more more' : List Fields) (es' : List Edit) (c : ℕ) → front ++ next ∷ more ≡ front' ++ next' ∷ more'
      → AskFor front' es' → IsRow next (Err c) → length front < length front' → ⊥
  not_among front [] next next' more more' es' c e h r lt = absurd (omega (arith, lt))
  not_among front (g ∷ gs) next next' more more' [] c e h r lt = absurd h
  not_among [] (g ∷ gs) next next' more more' (y ∷ ys) c e h r lt =
      row_has_no_fault one alone g y c h.0 (subst (λ (f : Fields). IsRow f (Err c)) (head_same next g more (gs ++ next' ∷ more') e) r)
  not_among (f ∷ fs) (g ∷ gs) next next' more more' (y ∷ ys) c e h r lt =
      not_among fs gs next next' more more' ys c (tail_same f g (fs ++ next ∷ more) (gs ++ next' ∷ more') e) h.1 r (omega (arith, lt))

  bad_or_many : (bytes : List ℕ) (row column : ℕ) → IsFirstFault bytes (BadRow row column) → IsFirstFault bytes TooMany → ⊥
  bad_or_many bytes row column f g =
      let bad = f.2 in
      let many = g.1 in
      let rows : bad.front ++ f.1 ∷ bad.more ≡ many.front ++ g.0 ∷ many.more = rows_same bytes (bad.front ++ f.1 ∷ bad.more) (many.front ++ g.0 ∷ many.more) bad.read many.read in
      let here : f.0 ≡ length bad.front = bad.counted in
      let few : f.0 < 10000 = f.4 in
      let full : 10000 ≡ length many.front = many.counted in
      not_among bad.front many.front f.1 g.0 bad.more many.more many.edits column rows many.asked f.5 (omega (arith, here, few, full))

  two_bad : (bytes : List ℕ) (row column row' column' : ℕ) → IsFirstFault bytes (BadRow row column) → IsFirstFault bytes (BadRow row' column') → (row ≡ row') × (column ≡ column')
  two_bad bytes row column row' column' f g =
      let a = f.2 in
      let b = g.2 in
      let rows : a.front ++ f.1 ∷ a.more ≡ b.front ++ g.1 ∷ b.more = rows_same bytes (a.front ++ f.1 ∷ a.more) (b.front ++ g.1 ∷ b.more) a.read b.read in
      let same = same_place a.front b.front f.1 g.1 a.more b.more a.edits b.edits column column' rows a.asked b.asked f.5 g.5 in
      let here : f.0 ≡ length a.front = a.counted in
      let there : g.0 ≡ length b.front = b.counted in
      (omega (arith, same.0, here, there, f.3, g.3), same.1)

  pub first_fault_is_one : FirstFaultIsOne
  first_fault_is_one bytes BadHeader BadHeader f g = refl
  first_fault_is_one bytes BadHeader (BadRow row column) f g = absurd (has_header bytes (g.2.front ++ g.1 ∷ g.2.more) f.0 g.2.read f.1 f.2)
  first_fault_is_one bytes BadHeader TooMany f g = absurd (has_header bytes (g.1.front ++ g.0 ∷ g.1.more) f.0 g.1.read f.1 f.2)
  first_fault_is_one bytes BadHeader OutOfMemory f g = absurd g
  first_fault_is_one bytes (BadRow row column) BadHeader f g = absurd (has_header bytes (f.2.front ++ f.1 ∷ f.2.more) g.0 f.2.read g.1 g.2)
  first_fault_is_one bytes (BadRow row column) (BadRow row' column') f g =
      let same = two_bad bytes row column row' column' f g in
      rw (same.0, same.1) refl
  first_fault_is_one bytes (BadRow row column) TooMany f g = absurd (bad_or_many bytes row column f g)
  first_fault_is_one bytes (BadRow row column) OutOfMemory f g = absurd g
  first_fault_is_one bytes TooMany BadHeader f g = absurd (has_header bytes (f.1.front ++ f.0 ∷ f.1.more) g.0 f.1.read g.1 g.2)
  first_fault_is_one bytes TooMany (BadRow row column) f g = absurd (bad_or_many bytes row column g f)
  first_fault_is_one bytes TooMany TooMany f g = refl
  first_fault_is_one bytes TooMany OutOfMemory f g = absurd g
  first_fault_is_one bytes OutOfMemory b f g = absurd f
