-- Each text has a list of records.
use Rattle.std.proofs.Common.{◌≡◌, ℕ, zero, suc, ◌+◌, ◌<◌, ◌≤◌, Bool, true, false, if◌then◌else◌, List, [], ◌∷◌, ◌++◌, length, Option, None, Some, refl, subst, arith}
use Rattle.csv.specs.Machine.{Read, next_record, step, is_end, ends_at_end, fields_after, field_after}
use Rattle.csv.specs.Reading.{Reached, AreRecords, default_config, strip_bom}
use Rattle.csv.specs.declared.parser.Config.{Config}
use Rattle.csv.specs.declared.parser.State.{State}
use Rattle.csv.specs.declared.parser.State.TheVariants as st
use Rattle.csv_records.specs.Reading.{HasRecords}

-- the text behind a record
behind : Option Read → List ℕ → List ℕ
behind None xs = xs
behind (Some p) xs = p.2

behind-short : (cfg : Config) (s : State) (fields : List (List ℕ)) (field : List ℕ) (xs : List ℕ) → length (behind (next_record cfg s fields field xs) []) ≤ length xs
unfolding next_record behind
behind-short cfg s fields field [] = by (ends_at_end s)
  where
    by : (t : Bool) → length (behind (if t then Some (fields ++ (field ∷ []), st.StartRecord, []) else None) []) ≤ 0
    by true = omega arith
    by false = omega arith
behind-short cfg s fields field (c ∷ rest) =
    by (is_end (step cfg s c).1) (behind-short cfg (step cfg s c).0 (fields_after (step cfg s c).1 fields field) (field_after (step cfg s c).1 c field) rest)
  where
    by : (t : Bool) → length (behind (next_record cfg (step cfg s c).0 (fields_after (step cfg s c).1 fields field) (field_after (step cfg s c).1 c field) rest) []) ≤ length rest → length (behind (if t then Some (fields_after (step cfg s c).1 fields field, (step cfg s c).0, rest) else next_record cfg (step cfg s c).0 (fields_after (step cfg s c).1 fields field) (field_after (step cfg s c).1 c field) rest) []) ≤ length (c ∷ rest)
    by true more = omega arith
    by false more = omega arith

behind-less : (cfg : Config) (s : State) (c : ℕ) (rest : List ℕ) → length (behind (next_record cfg s [] [] (c ∷ rest)) []) ≤ length rest
unfolding next_record behind
behind-less cfg s c rest = by (is_end (step cfg s c).1)
  where
    by : (t : Bool) → length (behind (if t then Some (fields_after (step cfg s c).1 [] [], (step cfg s c).0, rest) else next_record cfg (step cfg s c).0 (fields_after (step cfg s c).1 [] []) (field_after (step cfg s c).1 c []) rest) []) ≤ length rest
    by true = omega arith
    by false = behind-short cfg (step cfg s c).0 (fields_after (step cfg s c).1 [] []) (field_after (step cfg s c).1 c []) rest

less_behind : (cfg : Config) (s : State) (c : ℕ) (rest : List ℕ) (p : Read) → next_record cfg s [] [] (c ∷ rest) ≡ Some p → length p.2 ≤ length rest
unfolding behind
less_behind cfg s c rest p h = subst (λ (o : Option Read). length (behind o []) ≤ length rest) h (behind-less cfg s c rest)

none_here : (cfg : Config) (s : State) (xs : List ℕ) → next_record cfg s [] [] xs ≡ None → (rows : List (List (List ℕ))) × AreRecords cfg s xs rows
unfolding Reached
none_here cfg s xs h = ([], (s, xs, (refl, refl), h))

one_more : (cfg : Config) (s : State) (xs : List ℕ) (p : Read) → next_record cfg s [] [] xs ≡ Some p → ((rows : List (List (List ℕ))) × AreRecords cfg p.1 p.2 rows) → (rows : List (List (List ℕ))) × AreRecords cfg s xs rows
unfolding Reached
one_more cfg s xs p h more = (p.0 ∷ more.0, (more.1.0, more.1.1, (p, h, refl, more.1.2), more.1.3))

at_start : (cfg : Config) → next_record cfg st.StartRecord [] [] [] ≡ None
unfolding next_record
at_start cfg = refl

at_end : (cfg : Config) (s : State) → (rows : List (List (List ℕ))) × AreRecords cfg s [] rows
unfolding next_record
at_end cfg s = by (ends_at_end s) refl
  where
    by : (t : Bool) → ends_at_end s ≡ t → (rows : List (List (List ℕ))) × AreRecords cfg s [] rows
    by true e =
        let p : Read = ([] ∷ [], st.StartRecord, []) in
        let h : next_record cfg s [] [] [] ≡ Some p = rw e refl in
        one_more cfg s [] p h (none_here cfg st.StartRecord [] (at_start cfg))
    by false e =
        let h : next_record cfg s [] [] [] ≡ None = rw e refl in
        none_here cfg s [] h

have_records : (count : ℕ) (cfg : Config) (s : State) (xs : List ℕ) → length xs < count → (rows : List (List (List ℕ))) × AreRecords cfg s xs rows
have_records zero cfg s xs h = absurd (omega arith)
have_records (suc count) cfg s [] h = at_end cfg s
have_records (suc count) cfg s (c ∷ rest) h = by (next_record cfg s [] [] (c ∷ rest)) refl (λ s2 ys k. have_records count cfg s2 ys k)
  where
    by : (o : Option Read) → next_record cfg s [] [] (c ∷ rest) ≡ o → ((s2 : State) (ys : List ℕ) → length ys < count → (rows : List (List (List ℕ))) × AreRecords cfg s2 ys rows) → (rows : List (List (List ℕ))) × AreRecords cfg s (c ∷ rest) rows
    by None e more = none_here cfg s (c ∷ rest) e
    by (Some p) e more =
        let short : length p.2 ≤ length rest = less_behind cfg s c rest p e in
        one_more cfg s (c ∷ rest) p e (more p.1 p.2 (omega arith))

-- a text has records
pub text_records : (text : List ℕ) → (all : List (List (List ℕ))) × HasRecords text all
text_records text = have_records (length (strip_bom text) + 1) default_config st.StartRecord (strip_bom text) (omega arith)
