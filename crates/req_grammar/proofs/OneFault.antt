-- A text has one first fault at most, and a text that has one has no tokens.
use Rattle.std.proofs.Common.{◌≡◌, ◌≢◌, ℕ, suc, ◌+◌, ◌-◌, ◌<◌, ◌≤◌, ◌^◌, Bool, true, false, not, ◌&&◌, ◌||◌, ◌==◌, nat_eq, nat_le, if◌then◌else◌, List, [], ◌∷◌, ◌++◌, length, take, drop, get_or, filter, flat_map, codes, refl, sym, ap, subst, ◌∙◌, inl, inr, true≢false, append_assoc, arith}
use Rattle.std.specs.List.{list_all, starts_with}
use Rattle.std.proofs.lemmas.Bool.{leb-true}
use Rattle.std.proofs.lemmas.List.{take-append-drop}
use Rattle.std.proofs.lemmas.Slice.Eq.{bytes_eq-Decides}
use Rattle.req_tree.specs.NumericOrder.{is_digit, number_of}
use Rattle.req_tree.specs.Meaning.{has_part}
use Rattle.req_grammar.specs.Tokens as k
use Rattle.req_grammar.specs.Tokens.{Token, Tokens, IsToken, IsBlock, IsGap, escaped, goes_on, hash_mark, hex_mark, is_hash, is_hex, is_hex_digit, is_integer, is_letter, is_letter_or_digit, is_quoted, is_run, is_symbol, quoted_text, quoted_value}
use Rattle.req_grammar.specs.Words.{signs}
use Rattle.req_grammar.specs.Sorts.{Sort, hash, hex, integer, word, quoted, symbol, blank, block, line, IsCut, is_blank, pick, sort_of}
use Rattle.req_grammar.specs.TokenFaults as t
use Rattle.req_grammar.specs.TokenFaults.{TokenFault, Stops, FirstFault, begins, has_end, is_quote}
use Rattle.req_grammar.proofs.Cuts.{Step, ends, cuts, step_of, cut_one, no_front, sort_is, all_behind, apart, both_false, both_true, hash_end, hex_is_letter_or_digit, not_false, and_both, or_left, or_right, pick_integer, same, starts, under_each}

-- ---- tests

none_true : (a b : Bool) → a ≡ false → b ≡ false → (a || b) ≡ false
none_true false b x y = y
none_true true b x y = absurd (true≢false x)

was_true : (b : Bool) → not b ≡ false → b ≡ true
was_true true e = refl
was_true false e = absurd (true≢false e)

-- ---- the sort of a text that stops

pick_symbol : (a b c d e f g h : Bool) → a ≡ false → b ≡ false → c ≡ false → d ≡ false → e ≡ false → f ≡ false → g ≡ false → h ≡ false → pick a b c d e f g h ≡ symbol
pick_symbol true b c d e f g h p q r s u v w x = absurd (true≢false p)
pick_symbol false true c d e f g h p q r s u v w x = absurd (true≢false q)
pick_symbol false false true d e f g h p q r s u v w x = absurd (true≢false r)
pick_symbol false false false true e f g h p q r s u v w x = absurd (true≢false s)
pick_symbol false false false false true f g h p q r s u v w x = absurd (true≢false u)
pick_symbol false false false false false true g h p q r s u v w x = absurd (true≢false v)
pick_symbol false false false false false false true h p q r s u v w x = absurd (true≢false w)
pick_symbol false false false false false false false true p q r s u v w x = absurd (true≢false x)
pick_symbol false false false false false false false false p q r s u v w x = refl

flipped : (b : ℕ) → is_quote b ≡ false → nat_eq 34 b ≡ false
flipped b e = by (nat_eq 34 b) refl
  where
    by : (c : Bool) → nat_eq 34 b ≡ c → c ≡ false
    by false h = refl
    by true h = absurd (true≢false (subst (λ (n : ℕ). is_quote n ≡ false) (sym (same 34 b h)) e))

-- what isn't true of the first bytes of a text that begins nothing
record BeginsNothing (b : ℕ) (rest : List ℕ) : Type 0 where
  letter : is_letter b ≡ false
  digit : is_digit b ≡ false
  quote : is_quote b ≡ false
  sign : is_symbol (b ∷ []) ≡ false
  white : is_blank b ≡ false
  comment : starts_with nat_eq (b ∷ rest) (codes "/*") ≡ false
  to_end : (starts_with nat_eq (b ∷ rest) (codes "//") || starts_with nat_eq (b ∷ rest) (codes "#")) ≡ false

begins_nothing : (b : ℕ) (rest : List ℕ) → begins (b ∷ rest) ≡ false → BeginsNothing b rest
begins_nothing b rest e =
    let seven = both_false (is_letter_or_digit b || is_quote b || is_symbol (b ∷ []) || is_blank b || starts_with nat_eq (b ∷ rest) (codes "/*") || starts_with nat_eq (b ∷ rest) (codes "//")) (starts_with nat_eq (b ∷ rest) (codes "#")) e in
    let six = both_false (is_letter_or_digit b || is_quote b || is_symbol (b ∷ []) || is_blank b || starts_with nat_eq (b ∷ rest) (codes "/*")) (starts_with nat_eq (b ∷ rest) (codes "//")) seven.0 in
    let five = both_false (is_letter_or_digit b || is_quote b || is_symbol (b ∷ []) || is_blank b) (starts_with nat_eq (b ∷ rest) (codes "/*")) six.0 in
    let four = both_false (is_letter_or_digit b || is_quote b || is_symbol (b ∷ [])) (is_blank b) five.0 in
    let three = both_false (is_letter_or_digit b || is_quote b) (is_symbol (b ∷ [])) four.0 in
    let two = both_false (is_letter_or_digit b) (is_quote b) three.0 in
    let one = both_false (is_letter b) (is_digit b) two.0 in
    record {
      letter = one.0;
      digit = one.1;
      quote = two.1;
      sign = three.1;
      white = four.1;
      comment = five.1;
      to_end = none_true _ _ six.1 seven.1;
    }

other_sort : (text : List ℕ) → text ≢ [] → begins text ≡ false → sort_of text ≡ symbol
unfolding sort_of
other_sort [] some none = absurd (some refl)
other_sort (b ∷ rest) some none =
    let n = begins_nothing b rest none in
    pick_symbol _ _ _ _ _ _ _ _ (apart 72 b (34 ∷ []) rest (λ c. not (is_letter c)) (ap not n.letter) refl)
    (apart 48 b (120 ∷ []) rest (λ c. not (is_digit c)) (ap not n.digit) refl) n.digit n.letter (flipped b n.quote) n.white n.comment n.to_end

block_sort : (inside : List ℕ) → sort_of (codes "/*" ++ inside) ≡ block
unfolding sort_of
block_sort inside = refl

hash_sort : (inside : List ℕ) → sort_of (hash_mark ++ inside) ≡ hash
unfolding sort_of
hash_sort inside = refl

hex_sort : (inside : List ℕ) → sort_of (hex_mark ++ inside) ≡ hex
unfolding sort_of
hex_sort inside = refl

quoted_sort : (inside : List ℕ) → sort_of (34 ∷ inside) ≡ quoted
unfolding sort_of
quoted_sort inside = refl

integer_sort : (run rest : List ℕ) → is_run is_digit run ≡ true → starts_with nat_eq (run ++ rest) hex_mark ≡ false → sort_of (run ++ rest) ≡ integer
unfolding sort_of
integer_sort [] rest digits free = absurd (true≢false (sym digits))
integer_sort (b ∷ run) rest digits free =
    let digit : is_digit b ≡ true = (both_true (is_digit b) (list_all is_digit (b ∷ run)) digits).0 in
    pick_integer _ _ _ _ _ _ _ _ (apart 72 b (34 ∷ []) (run ++ rest) is_digit digit refl) free digit

-- ---- lists in which something stands first

-- the bytes before the first that isn't of a sort are told by the list
run_one : (sort : ℕ → Bool) (a b r s : List ℕ) → list_all sort a ≡ true → list_all sort b ≡ true → goes_on sort r ≡ false → goes_on sort s ≡ false → a ++ r ≡ b ++ s → a ≡ b
run_one sort [] [] r s all these here there e = refl
run_one sort [] (c ∷ b) r s all these here there e =
    absurd (true≢false (sym (both_true _ _ these).0 ∙ sym (ap (goes_on sort) e) ∙ here))
run_one sort (c ∷ a) [] r s all these here there e =
    absurd (true≢false (sym (both_true _ _ all).0 ∙ ap (goes_on sort) e ∙ there))
run_one sort (c ∷ a) (d ∷ b) r s all these here there e =
    let first : c ≡ d = ap (λ (bytes : List ℕ). get_or bytes 0 0) e in
    ap (λ (n : ℕ). n ∷ a) first ∙ ap (λ (l : List ℕ). d ∷ l) (run_one sort a b r s (both_true _ _ all).1 (both_true _ _ these).1 here there (ap (drop 1) e))

part_in : (i rest : List ℕ) → has_part (i ++ codes "*/" ++ rest) (codes "*/") ≡ true
part_in [] rest = refl
part_in (b ∷ i) rest = or_right (starts_with nat_eq (b ∷ (i ++ codes "*/" ++ rest)) (codes "*/")) _ (part_in i rest)

all_of : (p q : ℕ → Bool) → ((b : ℕ) → p b ≡ true → q b ≡ true) → (bytes : List ℕ) → list_all p bytes ≡ true → list_all q bytes ≡ true
all_of p q each [] all = refl
all_of p q each (b ∷ bytes) all =
    let parts = both_true (p b) (list_all p bytes) all in
    and_both (q b) (list_all q bytes) (each b parts.0) (all_of p q each bytes parts.1)

kept : (p : ℕ → Bool) (bytes : List ℕ) → list_all p (filter p bytes) ≡ true
kept p [] = refl
kept p (b ∷ bytes) = by (kept p bytes) (p b) refl
  where
    by : list_all p (filter p bytes) ≡ true → (c : Bool) → p b ≡ c → list_all p (if c then b ∷ filter p bytes else filter p bytes) ≡ true
    by later true e = and_both (p b) (list_all p (filter p bytes)) e later
    by later false e = later

-- ---- strings

abbrev no_quote : ℕ → Bool
no_quote b = not (is_quote b)

abbrev no_backslash : ℕ → Bool
no_backslash b = not (b == 92)

-- quotes and all, an end follows what is written between quotes
end_in : (before : ℕ) (value rest : List ℕ) → (before == 92) ≡ false → list_all no_backslash value ≡ true → has_end before (flat_map escaped value ++ 34 ∷ rest) ≡ true
end_in before [] rest other all = or_left (not (before == 92)) (has_end 34 rest) (ap not other)
end_in before (b ∷ value) rest other all =
    let parts = both_true (no_backslash b) (list_all no_backslash value) all in
    by (end_in 34 value rest refl parts.1) (end_in b value rest (not_false (b == 92) parts.0) parts.1) (b == 34) refl
  where
    by : has_end 34 (flat_map escaped value ++ 34 ∷ rest) ≡ true → has_end b (flat_map escaped value ++ 34 ∷ rest) ≡ true → (c : Bool) → (b == 34) ≡ c
        → has_end before (((if c then 92 ∷ 34 ∷ [] else b ∷ []) ++ flat_map escaped value) ++ 34 ∷ rest) ≡ true
    by quote plain true e = quote
    by quote plain false e = or_right (is_quote b && not (before == 92)) _ plain

-- an end behind a backslash is an end behind what stands before it
end_behind : (before : ℕ) (value rest : List ℕ) → has_end 92 rest ≡ true → has_end before (flat_map escaped value ++ 92 ∷ rest) ≡ true
end_behind before [] rest end = end
end_behind before (b ∷ value) rest end = by (end_behind 34 value rest end) (end_behind b value rest end) (b == 34) refl
  where
    by : has_end 34 (flat_map escaped value ++ 92 ∷ rest) ≡ true → has_end b (flat_map escaped value ++ 92 ∷ rest) ≡ true → (c : Bool) → (b == 34) ≡ c
        → has_end before (((if c then 92 ∷ 34 ∷ [] else b ∷ []) ++ flat_map escaped value) ++ 92 ∷ rest) ≡ true
    by quote plain true e = quote
    by quote plain false e = or_right (is_quote b && not (before == 92)) _ plain

-- the place of the first backslash with no quote behind it
abbrev lone : List ℕ → ℕ
lone [] = 0
lone (b ∷ rest) = if b == 92 && not (goes_on is_quote rest) then 0 else suc (lone rest)

lone_at : (value rest : List ℕ) → list_all no_backslash value ≡ true → goes_on is_quote rest ≡ false → lone (flat_map escaped value ++ 92 ∷ rest) ≡ length (flat_map escaped value)
lone_at [] rest all free = ap (λ (c : Bool). if not c then 0 else suc (lone rest)) free
lone_at (b ∷ value) rest all free =
    let parts = both_true (no_backslash b) (list_all no_backslash value) all in
    by (lone_at value rest parts.1 free) (not_false (b == 92) parts.0) (b == 34) refl
  where
    by : lone (flat_map escaped value ++ 92 ∷ rest) ≡ length (flat_map escaped value) → (b == 92) ≡ false → (c : Bool) → (b == 34) ≡ c
        → lone (((if c then 92 ∷ 34 ∷ [] else b ∷ []) ++ flat_map escaped value) ++ 92 ∷ rest) ≡ length ((if c then 92 ∷ 34 ∷ [] else b ∷ []) ++ flat_map escaped value)
    by later other true e = ap (λ (m : ℕ). suc (suc m)) later
    by later other false e =
        ap (λ (c : Bool). if c && not (goes_on is_quote (flat_map escaped value ++ 92 ∷ rest)) then 0 else suc (lone (flat_map escaped value ++ 92 ∷ rest))) other ∙ ap suc later

-- where a backslash stands alone, no string ends
no_string : (value other rest left : List ℕ) → list_all no_backslash value ≡ true → list_all no_backslash other ≡ true → goes_on is_quote rest ≡ false
    → flat_map escaped value ++ 92 ∷ rest ≡ flat_map escaped other ++ 34 ∷ left → ⊥
no_string [] [] rest left all these free e = let wrong : 92 ≡ 34 = ap (λ (bytes : List ℕ). get_or bytes 0 0) e in absurd (omega (arith, wrong))
no_string [] (c ∷ other) rest left all these free e = by (c == 34) refl e
  where
    by : (q : Bool) → (c == 34) ≡ q → 92 ∷ rest ≡ ((if q then 92 ∷ 34 ∷ [] else c ∷ []) ++ flat_map escaped other) ++ 34 ∷ left → ⊥
    by true h i = true≢false (sym (ap (λ (bytes : List ℕ). goes_on is_quote (drop 1 bytes)) i) ∙ free)
    by false h i =
        let is : 92 ≡ c = ap (λ (bytes : List ℕ). get_or bytes 0 0) i in
        true≢false (ap (λ (n : ℕ). n == 92) is ∙ not_false (c == 92) (both_true (no_backslash c) (list_all no_backslash other) these).0)
no_string (b ∷ value) [] rest left all these free e = by (b == 34) refl e
  where
    by : (q : Bool) → (b == 34) ≡ q → ((if q then 92 ∷ 34 ∷ [] else b ∷ []) ++ flat_map escaped value) ++ 92 ∷ rest ≡ 34 ∷ left → ⊥
    by true h i = let wrong : 92 ≡ 34 = ap (λ (bytes : List ℕ). get_or bytes 0 0) i in absurd (omega (arith, wrong))
    by false h i =
        let is : b ≡ 34 = ap (λ (bytes : List ℕ). get_or bytes 0 0) i in
        true≢false (sym (ap (λ (n : ℕ). n == 34) is) ∙ h)
no_string (b ∷ value) (c ∷ other) rest left all these free e =
    let mine = both_true (no_backslash b) (list_all no_backslash value) all in
    let theirs = both_true (no_backslash c) (list_all no_backslash other) these in
    by (no_string value other rest left mine.1 theirs.1 free) (not_false (b == 92) mine.0) (not_false (c == 92) theirs.0) (b == 34) (c == 34) e
  where
    by : (flat_map escaped value ++ 92 ∷ rest ≡ flat_map escaped other ++ 34 ∷ left → ⊥) → (b == 92) ≡ false → (c == 92) ≡ false → (p q : Bool)
        → ((if p then 92 ∷ 34 ∷ [] else b ∷ []) ++ flat_map escaped value) ++ 92 ∷ rest ≡ ((if q then 92 ∷ 34 ∷ [] else c ∷ []) ++ flat_map escaped other) ++ 34 ∷ left → ⊥
    by later x y true true i = later (ap (drop 2) i)
    by later x y false false i = later (ap (drop 1) i)
    by later x y true false i =
        let is : 92 ≡ c = ap (λ (bytes : List ℕ). get_or bytes 0 0) i in true≢false (ap (λ (n : ℕ). n == 92) is ∙ y)
    by later x y false true i =
        let is : b ≡ 92 = ap (λ (bytes : List ℕ). get_or bytes 0 0) i in true≢false (sym (ap (λ (n : ℕ). n == 92) is) ∙ x)

-- a string by its value, which has no backslash
record IsString (front : List ℕ) : Type 0 where
  value : List ℕ
  parts : front ≡ 34 ∷ flat_map escaped value ++ 34 ∷ []
  plain : list_all no_backslash value ≡ true

string_is : (front : List ℕ) → is_quoted front ≡ true → IsString front
string_is front e = record {
  value = quoted_value front;
  parts = sym ((bytes_eq-Decides (quoted_text (quoted_value front)) front).0 e);
  plain = kept no_backslash (take (length front - 2) (drop 1 front));
}

-- ---- hashes

drop_more : (front : List ℕ) → drop 40 (drop 2 front) ≡ drop 42 front
drop_more [] = refl
drop_more (a ∷ []) = refl
drop_more (a ∷ b ∷ front) = refl

hash_parts : (front : List ℕ) → is_hash front ≡ true → front ≡ hash_mark ++ take 40 (drop 2 front) ++ 34 ∷ []
hash_parts front e =
    let mark : front ≡ hash_mark ++ drop 2 front = starts hash_mark front (both_true _ _ (both_true _ _ e).0).0 in
    let end : drop 40 (drop 2 front) ≡ 34 ∷ [] = drop_more front ∙ hash_end front e in
    mark ∙ ap (λ (l : List ℕ). hash_mark ++ l) (sym (take-append-drop 40 (drop 2 front)) ∙ ap (λ (l : List ℕ). take 40 (drop 2 front) ++ l) end)

hex_no_quote : (b : ℕ) → is_hex_digit b ≡ true → no_quote b ≡ true
hex_no_quote b e = by (is_quote b) refl
  where
    by : (c : Bool) → is_quote b ≡ c → not c ≡ true
    by false h = refl
    by true h = absurd (true≢false (sym e ∙ ap is_hex_digit (same b 34 h)))

hash_digits : (front : List ℕ) → is_hash front ≡ true → list_all no_quote (take 40 (drop 2 front)) ≡ true
hash_digits front e =
    let digits : list_all is_hex_digit (take 40 (drop 2 front)) ≡ true = (both_true _ _ (both_true _ _ e).0).1 in
    all_of is_hex_digit no_quote hex_no_quote (take 40 (drop 2 front)) digits

-- ---- a text that stops has no front that is cut off

as_sort : (u s : Sort) (text front rest : List ℕ) → sort_of text ≡ u → text ≡ front ++ rest → IsCut s front rest → IsCut u front rest
as_sort u s text front rest is e h = subst (λ (z : Sort). IsCut z front rest) (sym (sort_is s front rest h) ∙ ap sort_of (sym e) ∙ is) h

sign_first : (front rest : List ℕ) → is_symbol front ≡ true → is_symbol (take 1 (front ++ rest)) ≡ true
sign_first front rest e =
    under_each (λ bytes. (r : List ℕ) → is_symbol (take 1 (bytes ++ r)) ≡ true) signs front
    ((λ r. refl), ((λ r. refl), ((λ r. refl), ((λ r. refl), ((λ r. refl), ((λ r. refl), ((λ r. refl), ((λ r. refl), ((λ r. refl), ((λ r. refl), ((λ r. refl), ((λ r. refl), ((λ r. refl), ((λ r. refl), tt)))))))))))))) e rest

no_sign : (text : List ℕ) → text ≢ [] → begins text ≡ false → is_symbol (take 1 text) ≡ false
no_sign [] some none = absurd (some refl)
no_sign (b ∷ rest) some none = (begins_nothing b rest none).sign

no_cut_other : (text front rest : List ℕ) → text ≢ [] → begins text ≡ false → text ≡ front ++ rest → IsCut symbol front rest → ⊥
no_cut_other text front rest some none e h =
    true≢false (sym (sign_first front rest h.1.0) ∙ sym (ap (λ (l : List ℕ). is_symbol (take 1 l)) e) ∙ no_sign text some none)

no_cut_comment : (inside text front rest : List ℕ) → text ≡ codes "/*" ++ inside → has_part inside (codes "*/") ≡ false → text ≡ front ++ rest → IsCut block front rest → ⊥
no_cut_comment inside text front rest is open_ e (i, parts, others) =
    let same_bytes : inside ≡ i ++ codes "*/" ++ rest = ap (drop 2) (sym is ∙ e ∙ ap (λ (l : List ℕ). l ++ rest) parts) in
    true≢false (sym (part_in i rest) ∙ sym (ap (λ (l : List ℕ). has_part l (codes "*/")) same_bytes) ∙ open_)

-- what stands behind H" where a hash does
behind_mark : (inside text front rest : List ℕ) → text ≡ hash_mark ++ inside → text ≡ front ++ rest → is_hash front ≡ true → inside ≡ take 40 (drop 2 front) ++ 34 ∷ rest
behind_mark inside text front rest is e h =
    ap (drop 2) (sym is ∙ e ∙ ap (λ (l : List ℕ). l ++ rest) (hash_parts front h)) ∙ append_assoc (take 40 (drop 2 front)) (34 ∷ []) rest

no_cut_hash_open : (inside text front rest : List ℕ) → text ≡ hash_mark ++ inside → list_all no_quote inside ≡ true → text ≡ front ++ rest → IsCut hash front rest → ⊥
no_cut_hash_open inside text front rest is none e h =
    let all : list_all no_quote (take 40 (drop 2 front) ++ 34 ∷ rest) ≡ true = sym (ap (list_all no_quote) (behind_mark inside text front rest is e h)) ∙ none in
    true≢false (sym (all_behind no_quote (take 40 (drop 2 front)) 34 rest all))

no_cut_hash_digits : (inside left text front rest : List ℕ) → text ≡ hash_mark ++ inside ++ 34 ∷ left → list_all no_quote inside ≡ true
    → is_hash (hash_mark ++ inside ++ 34 ∷ []) ≡ false → text ≡ front ++ rest → IsCut hash front rest → ⊥
no_cut_hash_digits inside left text front rest is none bad e h =
    let one : inside ≡ take 40 (drop 2 front) =
    run_one no_quote inside (take 40 (drop 2 front)) (34 ∷ left) (34 ∷ rest) none (hash_digits front h) refl refl (behind_mark (inside ++ 34 ∷ left) text front rest is e h) in
    true≢false (sym h ∙ ap is_hash (hash_parts front h ∙ sym (ap (λ (l : List ℕ). hash_mark ++ l ++ 34 ∷ []) one)) ∙ bad)

no_cut_hex : (run left text front rest : List ℕ) → text ≡ hex_mark ++ run ++ left → list_all is_letter_or_digit run ≡ true → goes_on is_letter_or_digit left ≡ false
    → is_hex (hex_mark ++ run) ≡ false → text ≡ front ++ rest → IsCut hex front rest → ⊥
no_cut_hex run left text front rest is all stops bad e h =
    let mark : front ≡ hex_mark ++ drop 2 front = starts hex_mark front (both_true _ _ (both_true _ _ h.0).0).0 in
    let digits : list_all is_hex_digit (drop 2 front) ≡ true = (both_true _ _ (both_true _ _ (both_true _ _ h.0).0).1).1 in
    let one : run ≡ drop 2 front =
    run_one is_letter_or_digit run (drop 2 front) left rest all (all_of is_hex_digit is_letter_or_digit hex_is_letter_or_digit (drop 2 front) digits) stops h.1
    (ap (drop 2) (sym is ∙ e ∙ ap (λ (l : List ℕ). l ++ rest) mark)) in
    true≢false (sym h.0 ∙ ap is_hex (mark ∙ sym (ap (λ (l : List ℕ). hex_mark ++ l) one)) ∙ bad)

no_cut_large : (run left text front rest : List ℕ) → text ≡ run ++ left → is_run is_digit run ≡ true → goes_on is_digit left ≡ false
    → 2 ^ 31 < number_of run → text ≡ front ++ rest → IsCut integer front rest → ⊥
no_cut_large run left text front rest is digits stops large e h =
    let mine = both_true (goes_on is_digit run) (list_all is_digit run) digits in
    let both = both_true (is_run is_digit front) (nat_le (number_of front) 2147483648) h.0 in
    let theirs = both_true (goes_on is_digit front) (list_all is_digit front) both.0 in
    let one : run ≡ front = run_one is_digit run front left rest mine.1 theirs.1 stops h.1 (sym is ∙ e) in
    let most : number_of front ≤ 2147483648 = leb-true (number_of front) 2147483648 both.1 in
    let equal : number_of run ≡ number_of front = ap number_of one in
    absurd (omega (arith, most, large, equal))

-- what stands behind a quote where a string does
behind_quote : (inside text front rest : List ℕ) → text ≡ 34 ∷ inside → text ≡ front ++ rest → (s : IsString front) → inside ≡ flat_map escaped s.value ++ 34 ∷ rest
behind_quote inside text front rest is e s =
    ap (drop 1) (sym is ∙ e ∙ ap (λ (l : List ℕ). l ++ rest) s.parts) ∙ append_assoc (flat_map escaped s.value) (34 ∷ []) rest

no_cut_open : (inside text front rest : List ℕ) → text ≡ 34 ∷ inside → has_end 34 inside ≡ false → text ≡ front ++ rest → IsCut quoted front rest → ⊥
no_cut_open inside text front rest is none e h =
    let s = string_is front h.1.0 in
    true≢false (sym (end_in 34 s.value rest refl s.plain) ∙ sym (ap (has_end 34) (behind_quote inside text front rest is e s)) ∙ none)

no_cut_backslash : (value left text front rest : List ℕ) → text ≡ 34 ∷ flat_map escaped value ++ 92 ∷ left → list_all no_backslash value ≡ true
    → goes_on is_quote left ≡ false → text ≡ front ++ rest → IsCut quoted front rest → ⊥
no_cut_backslash value left text front rest is all free e h =
    let s = string_is front h.1.0 in
    no_string value s.value left rest all s.plain free (behind_quote (flat_map escaped value ++ 92 ∷ left) text front rest is e s)

no_cut_stopped : (text : List ℕ) (fault : TokenFault) (n : ℕ) → Stops text fault n → (s : Sort) (front rest : List ℕ) → text ≡ front ++ rest → IsCut s front rest → ⊥
no_cut_stopped text fault n (t.other some none) s front rest e h =
    no_cut_other text front rest some none e (as_sort symbol s text front rest (other_sort text some none) e h)
no_cut_stopped text fault n (t.comment inside is open_) s front rest e h =
    no_cut_comment inside text front rest is open_ e (as_sort block s text front rest (ap sort_of is ∙ block_sort inside) e h)
no_cut_stopped text fault n (t.hash_open inside is none) s front rest e h =
    no_cut_hash_open inside text front rest is none e (as_sort hash s text front rest (ap sort_of is ∙ hash_sort inside) e h)
no_cut_stopped text fault n (t.hash_digits inside left is none bad) s front rest e h =
    no_cut_hash_digits inside left text front rest is none bad e (as_sort hash s text front rest (ap sort_of is ∙ hash_sort (inside ++ 34 ∷ left)) e h)
no_cut_stopped text fault n (t.hex_digits run left is all stops bad) s front rest e h =
    no_cut_hex run left text front rest is all stops bad e (as_sort hex s text front rest (ap sort_of is ∙ hex_sort (run ++ left)) e h)
no_cut_stopped text fault n (t.large run left is free digits stops large) s front rest e h =
    let no_mark : starts_with nat_eq (run ++ left) hex_mark ≡ false = sym (ap (λ (l : List ℕ). starts_with nat_eq l hex_mark) is) ∙ free in
    no_cut_large run left text front rest is digits stops large e (as_sort integer s text front rest (ap sort_of is ∙ integer_sort run left digits no_mark) e h)
no_cut_stopped text fault n (t.quoted_open inside is none) s front rest e h =
    no_cut_open inside text front rest is none e (as_sort quoted s text front rest (ap sort_of is ∙ quoted_sort inside) e h)
no_cut_stopped text fault n (t.backslash value left is all free end) s front rest e h =
    no_cut_backslash value left text front rest is all free e (as_sort quoted s text front rest (ap sort_of is ∙ quoted_sort (flat_map escaped value ++ 92 ∷ left)) e h)

-- ---- what is wrong at a front is told by the text

abbrev fault_by : Sort → List ℕ → TokenFault × ℕ
fault_by block text = (t.open_comment, 0)
fault_by hash text = if list_all no_quote (drop 2 text) then (t.open_string, 0) else (t.bad_hex, 0)
fault_by hex text = (t.bad_hex, 0)
fault_by integer text = (t.int_too_large, 0)
fault_by quoted text = if has_end 34 (drop 1 text) then (t.bad_byte, 1 + lone (drop 1 text)) else (t.open_string, 0)
fault_by other text = (t.bad_byte, 0)

quote_in : (inside rest : List ℕ) → list_all no_quote (inside ++ 34 ∷ rest) ≡ false
quote_in [] rest = refl
quote_in (b ∷ inside) rest = by (no_quote b) (quote_in inside rest)
  where
    by : (c : Bool) → list_all no_quote (inside ++ 34 ∷ rest) ≡ false → (c && list_all no_quote (inside ++ 34 ∷ rest)) ≡ false
    by true e = e
    by false e = refl

stop_is : (text : List ℕ) (fault : TokenFault) (n : ℕ) → Stops text fault n → fault_by (sort_of text) text ≡ (fault, n)
stop_is text fault n (t.other some none) = ap (λ (s : Sort). fault_by s text) (other_sort text some none)
stop_is text fault n (t.comment inside is open_) = ap (λ (s : Sort). fault_by s text) (ap sort_of is ∙ block_sort inside)
stop_is text fault n (t.hash_open inside is none) =
    ap (λ (s : Sort). fault_by s text) (ap sort_of is ∙ hash_sort inside) ∙ ap (fault_by hash) is
    ∙ ap (λ (c : Bool). if c then (t.open_string, 0) else (t.bad_hex, 0)) none
stop_is text fault n (t.hash_digits inside left is none bad) =
    ap (λ (s : Sort). fault_by s text) (ap sort_of is ∙ hash_sort (inside ++ 34 ∷ left)) ∙ ap (fault_by hash) is
    ∙ ap (λ (c : Bool). if c then (t.open_string, 0) else (t.bad_hex, 0)) (quote_in inside left)
stop_is text fault n (t.hex_digits run left is all stops bad) = ap (λ (s : Sort). fault_by s text) (ap sort_of is ∙ hex_sort (run ++ left))
stop_is text fault n (t.large run left is free digits stops large) =
    let no_mark : starts_with nat_eq (run ++ left) hex_mark ≡ false = sym (ap (λ (l : List ℕ). starts_with nat_eq l hex_mark) is) ∙ free in
    ap (λ (s : Sort). fault_by s text) (ap sort_of is ∙ integer_sort run left digits no_mark)
stop_is text fault n (t.quoted_open inside is none) =
    ap (λ (s : Sort). fault_by s text) (ap sort_of is ∙ quoted_sort inside) ∙ ap (fault_by quoted) is
    ∙ ap (λ (c : Bool). if c then (t.bad_byte, 1 + lone inside) else (t.open_string, 0)) none
stop_is text fault n (t.backslash value left is all free end) =
    ap (λ (s : Sort). fault_by s text) (ap sort_of is ∙ quoted_sort (flat_map escaped value ++ 92 ∷ left)) ∙ ap (fault_by quoted) is
    ∙ ap (λ (c : Bool). if c then (t.bad_byte, 1 + lone (flat_map escaped value ++ 92 ∷ left)) else (t.open_string, 0)) (end_behind 34 value left end)
    ∙ ap (λ (m : ℕ). (t.bad_byte, 1 + m)) (lone_at value left all free)

-- ---- the whole text

-- a text goes on behind a front that is cut off, or stops
data FaultStep (at : ℕ) (text : List ℕ) (fault : TokenFault) (place : ℕ) : Type 0 where
  stops : (n : ℕ) → Stops text fault n → place ≡ at + n → FaultStep at text fault place
  goes : (s : Sort) (front rest : List ℕ) → text ≡ front ++ rest → IsCut s front rest → FirstFault (at + length front) rest fault place → FaultStep at text fault place

-- a front that is cut off, by its sort
record Cut (front rest : List ℕ) : Type 0 where
  sort : Sort
  is : IsCut sort front rest

gap_cut : (front rest : List ℕ) → IsGap front rest → Cut front rest
gap_cut front rest (inl h) = record { sort = blank; is = h }
gap_cut front rest (inr (inl h)) = record { sort = block; is = h }
gap_cut front rest (inr (inr h)) = record { sort = line; is = h }

token_cut : (kind : k.Kind) (front rest : List ℕ) → IsToken kind front rest → Cut front rest
token_cut k.symbol front rest h = record { sort = symbol; is = h }
token_cut k.hash front rest h = record { sort = hash; is = h }
token_cut k.hex front rest h = record { sort = hex; is = h }
token_cut k.integer front rest h = record { sort = integer; is = h }
token_cut k.quoted front rest h = record { sort = quoted; is = h }
token_cut k.word front rest h = record { sort = word; is = h }

fault_step : (at place : ℕ) (text : List ℕ) (fault : TokenFault) → FirstFault at text fault place → FaultStep at text fault place
fault_step at place text fault (t.here n m x f s) = stops m s refl
fault_step at place text fault (t.behind_gap n p x front rest f e h later) = let c = gap_cut front rest h in goes c.sort front rest e c.is later
fault_step at place text fault (t.behind_token n p x front rest f kind e h later) = let c = token_cut kind front rest h in goes c.sort front rest e c.is later

abbrev Same : TokenFault → TokenFault → ℕ → ℕ → Type 0
Same f g p q = (f ≡ g) × (p ≡ q)

stops_one : (at n p q : ℕ) (text : List ℕ) (f g : TokenFault) → Stops text f n → p ≡ at + n → FaultStep at text g q → Same f g p q
stops_one at n p q text f g s e (stops m r d) =
    let one : (f, n) ≡ (g, m) = sym (stop_is text f n s) ∙ stop_is text g m r in
    (ap (λ (x : TokenFault × ℕ). x.0) one, e ∙ ap (λ (x : TokenFault × ℕ). at + x.1) one ∙ sym d)
stops_one at n p q text f g s e (goes u front rest d h later) = absurd (no_cut_stopped text f n s u front rest d h)

goes_one : (at p q : ℕ) (text front rest : List ℕ) (f g : TokenFault) → text ≡ front ++ rest → (c : Cut front rest)
    → ((h : TokenFault) (r : ℕ) → FirstFault (at + length front) rest h r → Same f h p r) → FaultStep at text g q → Same f g p q
goes_one at p q text front rest f g e c later (stops m r d) = absurd (no_cut_stopped text g m r c.sort front rest e c.is)
goes_one at p q text front rest f g e c later (goes u other left d h others) =
    let one = cut_one c.sort u front other rest left (sym e ∙ d) c.is h in
    later g q (subst (λ (l : List ℕ). FirstFault (at + length l) rest g q) (sym one.fronts) (subst (λ (r : List ℕ). FirstFault (at + length other) r g q) (sym one.rests) others))

pub fault_one : (at p q : ℕ) (text : List ℕ) (f g : TokenFault) → FirstFault at text f p → FirstFault at text g q → Same f g p q
fault_one at p q text f g (t.here a n x y s) u = stops_one a n _ q x y g s refl (fault_step a q x g u)
fault_one at p q text f g (t.behind_gap a b x front rest y e h later) u =
    goes_one a b q x front rest y g e (gap_cut front rest h) (λ z r v. fault_one (a + length front) b r rest y z later v) (fault_step a q x g u)
fault_one at p q text f g (t.behind_token a b x front rest y kind e h later) u =
    goes_one a b q x front rest y g e (token_cut kind front rest h) (λ z r v. fault_one (a + length front) b r rest y z later v) (fault_step a q x g u)

no_bytes : (b : ℕ) (rest : List ℕ) → b ∷ rest ≡ [] → ⊥
no_bytes b rest e = absurd cc

-- nothing is wrong with a text of no bytes
stops_some : (text : List ℕ) (fault : TokenFault) (n : ℕ) → Stops text fault n → text ≡ [] → ⊥
stops_some text fault n (t.other some none) e = some e
stops_some text fault n (t.comment inside is open_) e = no_bytes 47 _ (sym is ∙ e)
stops_some text fault n (t.hash_open inside is none) e = no_bytes 72 _ (sym is ∙ e)
stops_some text fault n (t.hash_digits inside left is none bad) e = no_bytes 72 _ (sym is ∙ e)
stops_some text fault n (t.hex_digits run left is all stops_ bad) e = no_bytes 48 _ (sym is ∙ e)
stops_some text fault n (t.large [] left is free digits stops_ large) e = true≢false (sym digits)
stops_some text fault n (t.large (b ∷ run) left is free digits stops_ large) e = no_bytes b _ (sym is ∙ e)
stops_some text fault n (t.quoted_open inside is none) e = no_bytes 34 _ (sym is ∙ e)
stops_some text fault n (t.backslash value left is all free end) e = no_bytes 34 _ (sym is ∙ e)

stopped_none : (at n : ℕ) (text : List ℕ) (fault : TokenFault) (list : List Token) → Stops text fault n → Step at text list → ⊥
stopped_none at n text fault list s (ends none is) = stops_some text fault n s none
stopped_none at n text fault list s (cuts u front rest tokens e h later is) = no_cut_stopped text fault n s u front rest e h

gone_none : (at : ℕ) (text front rest : List ℕ) (list : List Token) → text ≡ front ++ rest → (c : Cut front rest)
    → ((tokens : List Token) → Tokens (at + length front) rest tokens → ⊥) → Step at text list → ⊥
gone_none at text front rest list e c later (ends none is) = no_front c.sort front rest c.is (sym none ∙ e)
gone_none at text front rest list e c later (cuts u other left tokens d h others is) =
    let one = cut_one c.sort u front other rest left (sym e ∙ d) c.is h in
    later tokens (subst (λ (l : List ℕ). Tokens (at + length l) rest tokens) (sym one.fronts) (subst (λ (r : List ℕ). Tokens (at + length other) r tokens) (sym one.rests) others))

pub fault_none : (at p : ℕ) (text : List ℕ) (f : TokenFault) (list : List Token) → FirstFault at text f p → Tokens at text list → ⊥
fault_none at p text f list (t.here a n x y s) u = stopped_none a n x y list s (step_of a x list u)
fault_none at p text f list (t.behind_gap a b x front rest y e h later) u =
    gone_none a x front rest list e (gap_cut front rest h) (λ tokens v. fault_none (a + length front) b rest y tokens later v) (step_of a x list u)
fault_none at p text f list (t.behind_token a b x front rest y kind e h later) u =
    gone_none a x front rest list e (token_cut kind front rest h) (λ tokens v. fault_none (a + length front) b rest y tokens later v) (step_of a x list u)
