-- The texts of strings and keys are cut into those strings.
use Rattle.std.proofs.Common.{◌≡◌, ◌≢◌, ℕ, ◌+◌, ◌-◌, Bool, true, false, not, ◌&&◌, ◌||◌, ◌==◌, nat_le, if◌then◌else◌, List, [], ◌∷◌, ◌++◌, length, take, drop, filter, map, Option, None, Some, is_some, All, codes, decimal, refl, sym, ap, subst, ◌∙◌, append_assoc, true≢false, arith}
use Rattle.std.specs.List.{list_all, flat_map, slice_split}
use Rattle.std.proofs.lemmas.Bool.Decides.{nat_tests}
use Rattle.std.proofs.lemmas.List.Elements.{All-nil, All-cons}
use Rattle.std.proofs.lemmas.List.Splits.{slice_split_none, slice_split_at}
use Rattle.std.proofs.lemmas.Slice.Eq.{bytes_eq-Decides}
use Rattle.hex.specs.Hex.{encode_lower}
use Rattle.req_tree.specs.Oid.{IsBytes, IsOid, IsOidBytes, dotted}
use Rattle.req_tree.specs.NumericOrder.{is_digit}
use Rattle.req_grammar.specs.Words.{reserved, under}
use Rattle.req_grammar.specs.Tokens as k
use Rattle.req_grammar.specs.Tokens.{escaped, quoted_text, quoted_value, hex_mark, is_word, is_quoted, is_letter, is_letter_or_digit, is_run, is_plain, goes_on}
use Rattle.req_grammar.specs.Terminals.{Terminal, str, terminal_of, word_or}
use Rattle.dumped_text.specs.Dumped.{is_free, is_bare, is_printed, marked_text, string_text, key_text, oid_text}
use Rattle.dumped_text.proofs.Bools.{both_hold, and_is, or_is_false, not_so, differ, all_wider}
use Rattle.dumped_text.proofs.Cutting.{Cut, token, take_front}
use Rattle.dumped_text.proofs.Pieces.{Loose, Piece, as_piece, under_each, symbol_no_quote, word_piece}
use Rattle.dumped_text.proofs.HexTexts.{hex_piece}
use Rattle.dumped_text.proofs.NumberTexts.{decimal_run}
use Rattle.dumped_text.proofs.OidText.{oid_text-is}

-- what stands between quotes is read back

kept : (b : ℕ) (rest : List ℕ) → not (b == 92) ≡ true → filter (λ c. not (c == 92)) (escaped b ++ rest) ≡ b ∷ filter (λ c. not (c == 92)) rest
kept b rest h = by_quote (b == 34) refl
  where
    by_quote : (q : Bool) → (b == 34) ≡ q → filter (λ c. not (c == 92)) (escaped b ++ rest) ≡ b ∷ filter (λ c. not (c == 92)) rest
    by_quote true e =
        let is : b ≡ 34 = grind (arith, nat_tests, e) in
        rw is refl
    by_quote false e = rw e (rw h refl)

unescaped : (s : List ℕ) → list_all is_printed s ≡ true → filter (λ c. not (c == 92)) (flat_map escaped s) ≡ s
unescaped [] h = refl
unescaped (b ∷ rest) h =
    let parts = both_hold (is_printed b) (list_all is_printed rest) h in
    let no_backslash = (both_hold (nat_le 0x20 b && nat_le b 0x7e) (not (b == 92)) parts.0).1 in
    kept b (flat_map escaped rest) no_backslash ∙ ap (λ l. b ∷ l) (unescaped rest parts.1)

length_of : (xs : List ℕ) (b : ℕ) → length (xs ++ b ∷ []) ≡ length xs + 1
length_of [] b = refl
length_of (x ∷ xs) b = omega (arith, length_of xs b)

between : (xs : List ℕ) → take (length (34 ∷ xs ++ 34 ∷ []) - 2) (xs ++ 34 ∷ []) ≡ xs
between xs =
    let size : length (34 ∷ xs ++ 34 ∷ []) - 2 ≡ length xs = omega (arith, length_of xs 34) in
    ap (λ n. take n (xs ++ 34 ∷ [])) size ∙ take_front xs (34 ∷ [])

quoted_back : (s : List ℕ) → list_all is_printed s ≡ true → quoted_value (quoted_text s) ≡ s
quoted_back s h = ap (filter (λ c. not (c == 92))) (between (flat_map escaped s)) ∙ unescaped s h

pub quoted_is_quoted : (s : List ℕ) → list_all is_printed s ≡ true → is_quoted (quoted_text s) ≡ true
quoted_is_quoted s h = (bytes_eq-Decides (quoted_text (quoted_value (quoted_text s))) (quoted_text s)).1 (ap quoted_text (quoted_back s h))

-- ---- a quoted string is a token, whatever follows

abbrev no_backslash : ℕ → Bool
no_backslash b = not (b == 92)

-- what stands behind the closing quote; the mark says that the byte before was a backslash
behind : Bool → List ℕ → List ℕ
behind marked [] = []
behind true (b ∷ rest) = behind false rest
behind false (b ∷ rest) = if b == 34 then rest else behind (b == 92) rest

behind_quoted : (s more : List ℕ) → list_all no_backslash s ≡ true → behind false (flat_map escaped s ++ 34 ∷ more) ≡ more
unfolding behind
behind_quoted [] more h = refl
behind_quoted (b ∷ s) more h =
    let parts = both_hold (no_backslash b) (list_all no_backslash s) h in
    by (b == 34) refl parts.0 (behind_quoted s more parts.1)
  where
    by : (q : Bool) → (b == 34) ≡ q → no_backslash b ≡ true → behind false (flat_map escaped s ++ 34 ∷ more) ≡ more → behind false ((if q then 92 ∷ 34 ∷ [] else b ∷ []) ++ flat_map escaped s ++ 34 ∷ more) ≡ more
    by true e k later = later
    by false e k later = rw e (rw (not_so (b == 92) (λ x. true≢false (sym (subst (λ (y : Bool). not y ≡ true) x k)))) later)

kept_pass : (p : ℕ → Bool) (s : List ℕ) → list_all p (filter p s) ≡ true
kept_pass p [] = refl
kept_pass p (b ∷ s) = by (p b) refl (kept_pass p s)
  where
    by : (q : Bool) → p b ≡ q → list_all p (filter p s) ≡ true → list_all p (if q then b ∷ filter p s else filter p s) ≡ true
    by true e later = and_is _ _ e later
    by false e later = later

-- no text goes on behind the closing quote and is quoted whole
quoted_ends : (s : List ℕ) (c : ℕ) (more : List ℕ) → list_all no_backslash s ≡ true → is_quoted (quoted_text s ++ c ∷ more) ≡ false
quoted_ends s c more h = not_so _ (λ e. absurd (at ((bytes_eq-Decides (quoted_text (quoted_value (quoted_text s ++ c ∷ more))) (quoted_text s ++ c ∷ more)).0 e)))
  where
    at : quoted_text (quoted_value (quoted_text s ++ c ∷ more)) ≡ quoted_text s ++ c ∷ more → ⊥
    at e =
        let value = quoted_value (quoted_text s ++ c ∷ more) in
        let short : behind false (drop 1 (quoted_text value)) ≡ [] = behind_quoted value [] (kept_pass no_backslash (take (length (quoted_text s ++ c ∷ more) - 2) (drop 1 (quoted_text s ++ c ∷ more)))) in
        let long : behind false (drop 1 (quoted_text s ++ c ∷ more)) ≡ c ∷ more =
        ap (behind false) (append_assoc (flat_map escaped s) (34 ∷ []) (c ∷ more)) ∙ behind_quoted s (c ∷ more) h in
        let none : [] ≡ c ∷ more = sym short ∙ ap (λ (l : List ℕ). behind false (drop 1 l)) e ∙ long in
        cc

printed_no_backslash : (s : List ℕ) → list_all is_printed s ≡ true → list_all no_backslash s ≡ true
printed_no_backslash s h = all_wider is_printed no_backslash (λ b e. (both_hold (nat_le 0x20 b && nat_le b 0x7e) (no_backslash b) e).1) s h

quoted_longest : (s : List ℕ) (c : ℕ) (more : List ℕ) → list_all is_printed s ≡ true → is_plain (quoted_text s ++ c ∷ more) ≡ false
quoted_longest s c more h =
    or_is_false _ _
    (or_is_false _ _
    (not_so _ (λ e. true≢false (symbol_no_quote (quoted_text s ++ c ∷ more) e)))
    (quoted_ends s c more (printed_no_backslash s h)))
    refl

pub quoted_loose : (s : List ℕ) → list_all is_printed s ≡ true → Loose (quoted_text s) (str s ∷ [])
quoted_loose s h rest ts cut =
    subst (λ (t : Terminal). Cut (quoted_text s ++ rest) (t ∷ ts)) (ap str (quoted_back s h))
    (token k.quoted (quoted_text s) rest ts (refl, (quoted_is_quoted s h, longest)) cut)
  where
    longest : (more others : List ℕ) → rest ≡ more ++ others → more ≢ [] → is_plain (quoted_text s ++ more) ≡ false
    longest [] others e some = absurd (some refl)
    longest (c ∷ more) others e some = quoted_longest s c more h

-- ---- words that aren't reserved

none_there : {A : Type 0} (o : Option A) → not (is_some o) ≡ true → o ≡ None
none_there None h = refl
none_there (Some x) h = cc

free_word : (s : List ℕ) → is_free s ≡ true → terminal_of k.word s ≡ str s
unfolding is_free
free_word s h = ap (word_or s) (none_there (under s reserved) h)

free_piece : (s : List ℕ) → is_word s ≡ true → is_free s ≡ true → Piece s (str s ∷ [])
free_piece s h k rest ts stop cut =
    subst (λ (t : Terminal). Cut (s ++ rest) (t ∷ ts)) (free_word s k) (word_piece s h rest ts stop cut)

no_dot : (b : ℕ) → is_letter_or_digit b ≡ true → (b == 46) ≡ false
no_dot b h = grind (arith, nat_tests, h)

no_dots : (s : List ℕ) → list_all is_letter_or_digit s ≡ true → All (λ b. (b == 46) ≡ false) s
no_dots [] h = All-nil (λ b. (b == 46) ≡ false)
no_dots (b ∷ rest) h =
    let parts = both_hold (is_letter_or_digit b) _ h in
    All-cons (λ b. (b == 46) ≡ false) b rest (no_dot b parts.0) (no_dots rest parts.1)

run_of : (s : List ℕ) → goes_on is_letter s ≡ true → list_all is_letter_or_digit s ≡ true → is_run is_letter_or_digit s ≡ true
run_of [] h k = cc
run_of (b ∷ rest) h k = and_is _ _ (both_hold (is_letter_or_digit b) _ k).0 k

pub bare_is_word : (s : List ℕ) → is_bare s ≡ true → is_word s ≡ true
bare_is_word s h =
    let front = (both_hold (goes_on is_letter s && list_all is_letter_or_digit s) (is_free s) h).0 in
    let parts = both_hold (goes_on is_letter s) (list_all is_letter_or_digit s) front in
    let split : slice_split (λ b. b == 46) s ≡ s ∷ [] = slice_split_none (λ b. b == 46) s (no_dots s parts.1) in
    and_is _ _ parts.0 (ap (list_all (is_run is_letter_or_digit)) split ∙ and_is _ true (run_of s parts.0 parts.1) refl)

-- ---- strings and keys

marked_piece : (s : List ℕ) → IsBytes s → Piece (marked_text s) (str s ∷ [])
marked_piece s h = by (list_all is_printed s) refl
  where
    by : (q : Bool) → list_all is_printed s ≡ q → Piece (if q then quoted_text s else hex_mark ++ encode_lower s) (str s ∷ [])
    by true e = as_piece (quoted_text s) (str s ∷ []) (quoted_loose s e)
    by false e = hex_piece s h e

pub string_piece : (s : List ℕ) → IsBytes s → Piece (string_text s) (str s ∷ [])
unfolding string_text
string_piece s h = by (is_bare s) refl
  where
    by : (q : Bool) → is_bare s ≡ q → Piece (if q then s else marked_text s) (str s ∷ [])
    by true e = free_piece s (bare_is_word s e) (both_hold _ (is_free s) e).1
    by false e = marked_piece s h

pub key_piece : (key : List ℕ) → IsBytes key → Piece (key_text key) (str key ∷ [])
unfolding key_text
key_piece key h = by (is_word key && is_free key) refl
  where
    by : (q : Bool) → (is_word key && is_free key) ≡ q → Piece (if q then key else string_text key) (str key ∷ [])
    by true e = let parts = both_hold (is_word key) (is_free key) e in free_piece key parts.0 parts.1
    by false e = string_piece key h

-- ---- object identifiers

digit_is_word : (b : ℕ) → is_digit b ≡ true → is_letter_or_digit b ≡ true
digit_is_word b h = by (is_letter b) h
  where
    by : (x : Bool) → is_digit b ≡ true → (x || is_digit b) ≡ true
    by true h = refl
    by false h = h

arc_run : (n : ℕ) → is_run is_letter_or_digit (decimal n) ≡ true
arc_run n = wider (decimal n) (decimal_run n)
  where
    wider : (s : List ℕ) → is_run is_digit s ≡ true → is_run is_letter_or_digit s ≡ true
    wider [] h = absurd (true≢false (sym h))
    wider (b ∷ s) h =
        let parts = both_hold (is_digit b) (list_all is_digit (b ∷ s)) h in
        and_is _ _ (digit_is_word b parts.0) (all_wider is_digit is_letter_or_digit digit_is_word (b ∷ s) parts.1)

arc_no_dots : (n : ℕ) → All (λ b. (b == 46) ≡ false) (decimal n)
arc_no_dots n = no_dots (decimal n) (both_hold (goes_on is_letter_or_digit (decimal n)) _ (arc_run n)).1

arcs_split : (a : ℕ) (rest : List ℕ) → slice_split (λ b. b == 46) (dotted (a ∷ rest)) ≡ map decimal (a ∷ rest)
arcs_split a [] = slice_split_none (λ b. b == 46) (decimal a) (arc_no_dots a)
arcs_split a (b ∷ rest) =
    slice_split_at (λ c. c == 46) (decimal a) 46 (dotted (b ∷ rest)) (arc_no_dots a) refl
    ∙ ap (λ r. decimal a ∷ r) (arcs_split b rest)

arcs_run : (arcs : List ℕ) → list_all (is_run is_letter_or_digit) (map decimal arcs) ≡ true
arcs_run [] = refl
arcs_run (a ∷ arcs) = and_is _ _ (arc_run a) (arcs_run arcs)

dotted_run : (a : ℕ) (rest : List ℕ) → list_all (is_run is_letter_or_digit) (slice_split (λ b. b == 46) (dotted (a ∷ rest))) ≡ true
dotted_run a rest = ap (list_all (is_run is_letter_or_digit)) (arcs_split a rest) ∙ arcs_run (a ∷ rest)

-- each part of an object identifier's text is a run of letters and digits
oid_run : (oid : List ℕ) → IsOidBytes oid → list_all (is_run is_letter_or_digit) (slice_split (λ b. b == 46) (oid_text oid)) ≡ true
oid_run oid h =
    let text = oid_text-is oid h in
    let is : IsOid text.0 oid = text.1 in
    ap (λ (l : List ℕ). list_all (is_run is_letter_or_digit) (slice_split (λ b. b == 46) l)) (text.2 ∙ ap dotted is.arcs_are)
    ∙ dotted_run is.a (is.b ∷ is.rest)

-- no reserved word has a dot in it
reserved_no_dot : (s : List ℕ) → is_some (under s reserved) ≡ true → list_all (λ b. not (b == 46)) s ≡ true
reserved_no_dot s e =
    under_each (λ (bytes : List ℕ). list_all (λ b. not (b == 46)) bytes ≡ true) reserved s
    (refl, (refl, (refl, (refl, (refl, (refl, (refl, (refl, (refl, (refl, (refl, (refl, (refl, (refl, (refl, (refl, (refl, (refl, (refl, (refl, (refl, (refl, (refl, (refl, (refl, (refl, (refl, (refl, tt)))))))))))))))))))))))))))) e

with_dot_free : (s : List ℕ) → list_all (λ b. not (b == 46)) s ≡ false → is_free s ≡ true
unfolding is_free
with_dot_free s h = ap not (not_so (is_some (under s reserved)) (λ e. differ _ (reserved_no_dot s e) h))

pub field_piece : (oid : List ℕ) → IsOidBytes oid → Piece (codes "field." ++ oid_text oid) (str (codes "field." ++ oid_text oid) ∷ [])
field_piece oid h = free_piece (codes "field." ++ oid_text oid) (oid_run oid h) (with_dot_free (codes "field." ++ oid_text oid) refl)

pub policy_piece : (oid : List ℕ) → IsOidBytes oid → Piece (codes "policy." ++ oid_text oid) (str (codes "policy." ++ oid_text oid) ∷ [])
policy_piece oid h = free_piece (codes "policy." ++ oid_text oid) (oid_run oid h) (with_dot_free (codes "policy." ++ oid_text oid) refl)
