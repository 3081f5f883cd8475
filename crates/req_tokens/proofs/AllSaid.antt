-- What is said of a text's front, whatever its sort.
use Rattle.std.proofs.Common.{◌≡◌, ◌≢◌, ℕ, suc, ◌+◌, ◌<◌, ◌≤◌, Bool, true, false, not, ◌&&◌, ◌||◌, ◌==◌, nat_eq, nat_lt, nat_le, List, [], ◌∷◌, ◌++◌, length, take, drop, filter, cond, codes, Ok, Err, inl, inr, refl, sym, ap, subst, ◌∙◌, arith, append_assoc, length-append}
use Rattle.std.specs.List.{list_all, starts_with, flat_map}
use Rattle.std.proofs.lemmas.Bool.{and_parts, and_from, or_cases, or_from, or_parts, eqb-true, eqb-false, ne_eqb, ltb-true, ltb-false, le-leb, not-true, not-false, not_from_true, not_from_false, true≢false}
use Rattle.std.proofs.lemmas.List.{append-nil, take-append-drop, length-take, length-take-le, length-drop, take_at}
use Rattle.req_tree.specs.NumericOrder.{is_digit, number_of}
use Rattle.req_grammar.specs.Sorts as s
use Rattle.req_grammar.specs.Sorts.{Sort, sort_of, is_blank}
use Rattle.req_grammar.specs.Tokens.{escaped, goes_on, hash_mark, hex_mark, is_letter, is_letter_or_digit, is_marked, is_quoted, is_run, is_symbol}
use Rattle.req_grammar.specs.TokenFaults as t
use Rattle.req_grammar.specs.TokenFaults.{begins, is_quote, here}
use Rattle.req_tokens.specs.declared.fault.TextFault.{TextFault}
use Rattle.req_tokens.specs.declared.fault.TextFault.TheVariants as fault
use Rattle.req_tokens.specs.Cuts.{Cuts}
use Rattle.req_tokens.specs.Failures.{FailsAt}
use Rattle.req_tokens.specs.declared.reach.End.TheVariants.{Digits, Word, Quoted, Escapes, Line}
use Rattle.req_tokens.specs.Reach.{reach, before, after, is_dot_in_word}
use Rattle.req_tokens.specs.Cutting.{length_of, integer_length, quoted_length, escaped_length, symbol_length}
use Rattle.req_tokens.proofs.Fronts.{stop, some_before, all_before, none_after, before-after, length-before, reach-le-length, is_empty, has_first}
use Rattle.req_tokens.proofs.FirstBytes.{IsKnown, known, starts}
use Rattle.req_tokens.proofs.Said.{Said, cuts, first_here}
use Rattle.req_tokens.proofs.HexTexts.{hash_said, hex_said}
use Rattle.req_tokens.proofs.Comments.{block_said}
use Rattle.req_tokens.proofs.DottedWords.{before_inside, inside_word}
use Rattle.req_tokens.proofs.EscapedTexts.{Closed, Stray, is_other, closed, stray, spelt, all_filter, has_end-open, is_quoted-closed}
use Rattle.req_tokens.proofs.PlainFronts.{symbol_short, word_longest, quoted_longest, symbol_longest}

-- ---- integers

digits_run : (text : List ℕ) → goes_on is_digit text ≡ true → is_run is_digit (before Digits text) ≡ true
digits_run [] is = absurd (true≢false (sym is))
digits_run (b ∷ rest) is =
    and_from (goes_on is_digit (before Digits (b ∷ rest))) (list_all is_digit (before Digits (b ∷ rest))) (some_before Digits b rest (not_from_true (is_digit b) is) is_digit is)
    (all_before is_digit Digits (λ c more e. not-false (is_digit c) e) (b ∷ rest))

run_size : (p : ℕ → Bool) (text : List ℕ) → is_run p text ≡ true → 0 < length text
run_size p [] is = absurd (true≢false (sym is))
run_size p (b ∷ text) is = omega arith

no_digit_after : (text : List ℕ) → goes_on is_digit (after Digits text) ≡ false
no_digit_after text = none_after is_digit Digits (λ c more e. not-true (is_digit c) e) text

integer_by : (at : ℕ) (text : List ℕ) (w : Bool) → starts_with nat_eq text hex_mark ≡ false → goes_on is_digit text ≡ true → nat_lt (number_of (before Digits text)) 2147483649 ≡ w
    → Said s.integer at text (cond w (Ok (length (before Digits text))) (Err (fault.IntTooLarge at)))
integer_by at text true unmarked digit small =
    let run : is_run is_digit (before Digits text) ≡ true = digits_run text digit in
    let less : number_of (before Digits text) < 2147483649 = ltb-true (number_of (before Digits text)) 2147483649 small in
    cuts s.integer text (before Digits text) (after Digits text) (length (before Digits text)) (sym (before-after Digits text)) refl (run_size is_digit (before Digits text) run) (
      and_from (is_run is_digit (before Digits text)) (nat_le (number_of (before Digits text)) 2147483648) run (le-leb (number_of (before Digits text)) 2147483648 (omega (arith, less))),
      no_digit_after text,
      ap (λ (l : List ℕ). starts_with nat_eq l hex_mark) (before-after Digits text) ∙ unmarked,
    )
integer_by at text false unmarked digit large =
    let more : 2147483649 ≤ number_of (before Digits text) = ltb-false (number_of (before Digits text)) 2147483649 large in
    first_here at text t.int_too_large (t.large (before Digits text) (after Digits text) (sym (before-after Digits text)) unmarked (digits_run text digit) (no_digit_after text) (omega (arith, more)))

integer_said : (at : ℕ) (text : List ℕ) → starts_with nat_eq text hex_mark ≡ false → goes_on is_digit text ≡ true → Said s.integer at text (integer_length at text)
unfolding integer_length
integer_said at text unmarked digit = integer_by at text (nat_lt (number_of (before Digits text)) 2147483649) unmarked digit refl

-- ---- words

not_marked : (text front rest : List ℕ) → text ≡ front ++ rest → starts_with nat_eq text hash_mark ≡ false → goes_on is_digit text ≡ false → is_marked (front ++ rest) ≡ false
not_marked text front rest parts unmarked digit =
    subst (λ (l : List ℕ). is_marked l ≡ false) parts (or_from (starts_with nat_eq text hash_mark) (goes_on is_digit text) unmarked digit)

letter_before : (text : List ℕ) → goes_on is_letter text ≡ true → goes_on is_letter (before Word text) ≡ true
letter_before [] is = absurd (true≢false (sym is))
letter_before (b ∷ rest) is = some_before Word b rest (ap (λ (l : Bool). not (l || is_digit b) && not (is_dot_in_word b rest)) is) is_letter is

on_size : (p : ℕ → Bool) (text : List ℕ) → goes_on p text ≡ true → 0 < length text
on_size p [] is = absurd (true≢false (sym is))
on_size p (b ∷ text) is = omega arith

word_said : (at : ℕ) (text : List ℕ) → starts_with nat_eq text hash_mark ≡ false → goes_on is_digit text ≡ false → goes_on is_letter text ≡ true → Said s.word at text (Ok (reach Word text))
word_said at text unmarked digit letter =
    let size : length (before Word text) ≡ reach Word text = length-before Word text in
    let some : 0 < length (before Word text) = on_size is_letter (before Word text) (letter_before text letter) in
    cuts s.word text (before Word text) (after Word text) (reach Word text) (sym (before-after Word text)) size (omega (arith, size, some)) (
      not_marked text (before Word text) (after Word text) (sym (before-after Word text)) unmarked digit,
      (
        inside_word (before Word text) (letter_before text letter) (before_inside text),
        λ more others split some_more. word_longest text (before Word text) (after Word text) more others (sym (before-after Word text)) size (letter_before text letter) split some_more,
      ),
    )

-- ---- quoted strings

quote_first : (text : List ℕ) → goes_on (λ b. nat_eq 34 b) text ≡ true → text ≡ 34 ∷ drop 1 text
quote_first [] is = absurd (true≢false (sym is))
quote_first (b ∷ rest) is = ap (λ (c : ℕ). c ∷ rest) (sym (eqb-true 34 b is))

quoted_open : (at : ℕ) (inside : List ℕ) → after Quoted (34 ∷ inside) ≡ [] → Said s.quoted at (34 ∷ inside) (Err (fault.OpenString at))
quoted_open at inside none =
    let all : before Quoted (34 ∷ inside) ≡ 34 ∷ inside =
    sym (append-nil (before Quoted (34 ∷ inside))) ∙ ap (λ (l : List ℕ). before Quoted (34 ∷ inside) ++ l) (sym none) ∙ before-after Quoted (34 ∷ inside) in
    let size : reach Quoted (34 ∷ inside) ≡ suc (length inside) = sym (length-before Quoted (34 ∷ inside)) ∙ ap length all in
    first_here at (34 ∷ inside) t.open_string (t.quoted_open inside refl (has_end-open 34 inside size))

goes_first : (p : ℕ → Bool) (xs : List ℕ) → goes_on p xs ≡ true → 0 < length xs
goes_first p [] is = absurd (true≢false (sym is))
goes_first p (b ∷ xs) is = omega arith

-- two bytes more than go up to the closing quote
room_for_end : (inside : List ℕ) → after Quoted (34 ∷ inside) ≢ [] → reach Quoted (34 ∷ inside) + 2 ≤ suc (length inside)
room_for_end inside some =
    let k = stop Quoted (34 ∷ inside) some in
    let quote = and_parts (goes_on is_quote k.more) (not (k.first == 92)) k.last in
    let left : 0 < length k.more = goes_first is_quote k.more quote.0 in
    let rest : length (after Quoted (34 ∷ inside)) ≡ suc (length k.more) = ap length k.is in
    let whole : length (before Quoted (34 ∷ inside) ++ after Quoted (34 ∷ inside)) ≡ suc (length inside) = ap length (before-after Quoted (34 ∷ inside)) in
    omega (arith, left, rest, whole, length-append (before Quoted (34 ∷ inside)) (after Quoted (34 ∷ inside)), length-before Quoted (34 ∷ inside))

-- what is cut off, and the quote before it
front_is : (inside : List ℕ) → take (length (before Quoted (34 ∷ inside)) + 2) (34 ∷ inside) ≡ 34 ∷ take (reach Quoted (34 ∷ inside) + 1) inside
front_is inside =
    let size : length (before Quoted (34 ∷ inside)) ≡ reach Quoted (34 ∷ inside) = length-before Quoted (34 ∷ inside) in
    let one : length (before Quoted (34 ∷ inside)) + 2 ≡ suc (reach Quoted (34 ∷ inside) + 1) = omega (arith, size) in
    ap (λ (m : ℕ). take m (34 ∷ inside)) one

quoted_found : (at : ℕ) (inside front : List ℕ) → after Quoted (34 ∷ inside) ≢ [] → front ≡ take (reach Quoted (34 ∷ inside) + 1) inside → starts_with nat_eq (34 ∷ inside) hash_mark ≡ false → reach Escapes (34 ∷ front) ≡ suc (length front)
    → Said s.quoted at (34 ∷ inside) (Ok (suc (length front)))
quoted_found at inside front some is unmarked whole =
    let room : reach Quoted (34 ∷ inside) + 2 ≤ suc (length inside) = room_for_end inside some in
    let k : Closed 34 (reach Quoted (34 ∷ inside)) inside = closed 34 inside front (reach Quoted (34 ∷ inside)) refl room is whole in
    let size : length front ≡ reach Quoted (34 ∷ inside) + 1 = ap length is ∙ length-take-le (reach Quoted (34 ∷ inside) + 1) inside (omega (arith, room)) in
    let parts : 34 ∷ inside ≡ (34 ∷ (k.inside ++ 34 ∷ [])) ++ k.rest = ap (λ (l : List ℕ). 34 ∷ l) (k.parts ∙ sym (append_assoc k.inside (34 ∷ []) k.rest)) in
    let quoted : is_quoted (34 ∷ (k.inside ++ 34 ∷ [])) ≡ true = is_quoted-closed k.inside k.sound in
    cuts s.quoted (34 ∷ inside) (34 ∷ (k.inside ++ 34 ∷ [])) k.rest (suc (length front)) parts (omega (arith, size, k.size, length-append k.inside (34 ∷ []))) (omega arith) (
      not_marked (34 ∷ inside) (34 ∷ (k.inside ++ 34 ∷ [])) k.rest parts unmarked refl,
      (quoted, λ more others split some_more. quoted_longest (34 ∷ inside) (34 ∷ (k.inside ++ 34 ∷ [])) k.rest more others parts quoted split some_more),
    )

quoted_stray : (at : ℕ) (inside front : List ℕ) (m : ℕ) → after Quoted (34 ∷ inside) ≢ [] → front ≡ take (reach Quoted (34 ∷ inside) + 1) inside → reach Escapes (34 ∷ front) ≡ suc m → m < length front
    → Said s.quoted at (34 ∷ inside) (Err (fault.BadByte (at + suc m)))
quoted_stray at inside front m some is whole few =
    let k : Stray 34 m inside = stray 34 inside front (reach Quoted (34 ∷ inside)) m refl (room_for_end inside some) is whole few in
    let same : k.inside ≡ flat_map escaped (filter is_other k.inside) = spelt false k.inside k.sound in
    let place : 1 + length (flat_map escaped (filter is_other k.inside)) ≡ suc m = ap (λ (l : List ℕ). 1 + length l) (sym same) ∙ (omega (arith, k.size)) in
    subst (λ (n : ℕ). t.FirstFault at (34 ∷ inside) t.bad_byte (at + n)) place
    (here at (1 + length (flat_map escaped (filter is_other k.inside))) (34 ∷ inside) t.bad_byte
    (t.backslash (filter is_other k.inside) k.rest (ap (λ (l : List ℕ). 34 ∷ l) (k.parts ∙ ap (λ (l : List ℕ). l ++ 92 ∷ k.rest) same)) (all_filter k.inside) k.alone k.closes))

escaped_by : (at : ℕ) (inside front : List ℕ) (u : Bool) → after Quoted (34 ∷ inside) ≢ [] → front ≡ take (reach Quoted (34 ∷ inside) + 1) inside → starts_with nat_eq (34 ∷ inside) hash_mark ≡ false
    → (suc (reach Escapes front) == suc (length front)) ≡ u → Said s.quoted at (34 ∷ inside) (cond u (Ok (suc (length front))) (Err (fault.BadByte (at + suc (reach Escapes front)))))
escaped_by at inside front true some is unmarked e = quoted_found at inside front some is unmarked (eqb-true (suc (reach Escapes front)) (suc (length front)) e)
escaped_by at inside front false some is unmarked e =
    let most : reach Escapes front ≤ length front = reach-le-length Escapes front in
    let other : suc (reach Escapes front) ≢ suc (length front) = eqb-false (suc (reach Escapes front)) (suc (length front)) e in
    quoted_stray at inside front (reach Escapes front) some is refl (omega (arith, most, other))

escaped_said : (at : ℕ) (inside front : List ℕ) → after Quoted (34 ∷ inside) ≢ [] → front ≡ take (reach Quoted (34 ∷ inside) + 1) inside → starts_with nat_eq (34 ∷ inside) hash_mark ≡ false
    → Said s.quoted at (34 ∷ inside) (escaped_length at (34 ∷ front))
unfolding escaped_length
escaped_said at inside front some is unmarked = escaped_by at inside front (suc (reach Escapes front) == suc (length front)) some is unmarked refl

quoted_by : (at : ℕ) (inside : List ℕ) (e : Bool) → starts_with nat_eq (34 ∷ inside) hash_mark ≡ false → (length (after Quoted (34 ∷ inside)) == 0) ≡ e
    → Said s.quoted at (34 ∷ inside) (cond e (Err (fault.OpenString at)) (escaped_length at (take (length (before Quoted (34 ∷ inside)) + 2) (34 ∷ inside))))
quoted_by at inside true unmarked empty = quoted_open at inside (is_empty (after Quoted (34 ∷ inside)) (eqb-true (length (after Quoted (34 ∷ inside))) 0 empty))
quoted_by at inside false unmarked empty =
    let some : after Quoted (34 ∷ inside) ≢ [] = λ none. eqb-false (length (after Quoted (34 ∷ inside))) 0 empty (ap length none) in
    subst (λ (l : List ℕ). Said s.quoted at (34 ∷ inside) (escaped_length at l)) (sym (front_is inside))
    (escaped_said at inside (take (reach Quoted (34 ∷ inside) + 1) inside) some refl unmarked)

quoted_whole : (at : ℕ) (inside : List ℕ) → starts_with nat_eq (34 ∷ inside) hash_mark ≡ false → Said s.quoted at (34 ∷ inside) (quoted_length at (34 ∷ inside))
unfolding quoted_length
quoted_whole at inside unmarked = quoted_by at inside (length (after Quoted (34 ∷ inside)) == 0) unmarked refl

quoted_said : (at : ℕ) (text : List ℕ) → starts_with nat_eq text hash_mark ≡ false → goes_on (λ b. nat_eq 34 b) text ≡ true → Said s.quoted at text (quoted_length at text)
quoted_said at text unmarked quote =
    let is : text ≡ 34 ∷ drop 1 text = quote_first text quote in
    subst (λ (l : List ℕ). Said s.quoted at l (quoted_length at l)) (sym is)
    (quoted_whole at (drop 1 text) (subst (λ (l : List ℕ). starts_with nat_eq l hash_mark ≡ false) is unmarked))

-- ---- symbols

symbol_at : (text : List ℕ) (n : ℕ) → is_symbol (take n text) ≡ true → IsKnown s.symbol text → ((more others : List ℕ) → drop n text ≡ more ++ others → more ≢ [] → is_symbol (take n text ++ more) ≡ true → ⊥)
    → s.IsCut s.symbol (take n text) (drop n text)
symbol_at text n is facts longer = (
  not_marked text (take n text) (drop n text) (sym (take-append-drop n text)) facts.0 facts.1,
  (is, λ more others split some. symbol_longest text (take n text) (drop n text) more others is (longer more others split some)),
)

no_third : (text more others : List ℕ) → drop 2 text ≡ more ++ others → more ≢ [] → is_symbol (take 2 text ++ more) ≡ true → ⊥
no_third text more others split some is =
    let short : length (take 2 text ++ more) ≤ 2 = (symbol_short (take 2 text ++ more) is).2 in
    let left : length (drop 2 text) ≡ length (more ++ others) = ap length split in
    let one : 0 < length more = has_first more some in
    absurd (omega (arith, short, left, one, length-append (take 2 text) more, length-append more others, length-take 2 text, length-drop 2 text))

no_second : (text more others : List ℕ) → is_symbol (take 2 text) ≡ false → length (take 1 text) ≡ 1 → drop 1 text ≡ more ++ others → more ≢ [] → is_symbol (take 1 text ++ more) ≡ true → ⊥
no_second text more others two size split some is =
    let short : length (take 1 text ++ more) ≤ 2 = (symbol_short (take 1 text ++ more) is).2 in
    let one : 0 < length more = has_first more some in
    let both : length (take 1 text ++ more) ≡ 2 = omega (arith, short, one, size, length-append (take 1 text) more) in
    let whole : text ≡ (take 1 text ++ more) ++ others = sym (take-append-drop 1 text) ∙ ap (λ (l : List ℕ). take 1 text ++ l) split ∙ sym (append_assoc (take 1 text) more others) in
    let front : take 2 text ≡ take 1 text ++ more = ap (take 2) whole ∙ take_at (take 1 text ++ more) others 2 both in
    true≢false (sym is ∙ ap is_symbol (sym front) ∙ two)

first_size : (text : List ℕ) → text ≢ [] → length (take 1 text) ≡ 1
first_size [] some = absurd (some refl)
first_size (b ∷ text) some = refl

no_letter_or_digit : (text : List ℕ) → goes_on is_letter text ≡ false → goes_on is_digit text ≡ false → goes_on is_letter_or_digit text ≡ false
no_letter_or_digit [] letter digit = refl
no_letter_or_digit (b ∷ text) letter digit = or_from (is_letter b) (is_digit b) letter digit

no_quote : (text : List ℕ) → goes_on (λ b. nat_eq 34 b) text ≡ false → goes_on is_quote text ≡ false
no_quote [] quote = refl
no_quote (b ∷ text) quote = ne_eqb b 34 (λ e. eqb-false 34 b quote (sym e))

begins_nothing : (text : List ℕ) → IsKnown s.symbol text → is_symbol (take 1 text) ≡ false → begins text ≡ false
begins_nothing text facts one =
    let lines = or_parts (starts_with nat_eq text (codes "//")) (starts_with nat_eq text (codes "#")) facts.6 in
    or_from _ _ (or_from _ _ (or_from _ _ (or_from _ _ (or_from _ _ (or_from (goes_on is_letter_or_digit text) (goes_on is_quote text) (no_letter_or_digit text facts.2 facts.1) (no_quote text facts.3)) one) facts.4) facts.5) lines.0) lines.1

symbol_by : (at : ℕ) (text : List ℕ) (two one : Bool) → text ≢ [] → IsKnown s.symbol text → is_symbol (take 2 text) ≡ two → is_symbol (take 1 text) ≡ one
    → Said s.symbol at text (cond two (Ok (length (take 2 text))) (cond one (Ok 1) (Err (fault.BadByte at))))
symbol_by at text true one some facts e f =
    cuts s.symbol text (take 2 text) (drop 2 text) (length (take 2 text)) (sym (take-append-drop 2 text)) refl (symbol_short (take 2 text) e).3 (symbol_at text 2 e facts (no_third text))
symbol_by at text false true some facts e f =
    let size : length (take 1 text) ≡ 1 = first_size text some in
    cuts s.symbol text (take 1 text) (drop 1 text) 1 (sym (take-append-drop 1 text)) size (omega arith) (symbol_at text 1 f facts (λ more others split any is. no_second text more others e size split any is))
symbol_by at text false false some facts e f = first_here at text t.bad_byte (t.other some (begins_nothing text facts f))

symbol_said : (at : ℕ) (text : List ℕ) → text ≢ [] → IsKnown s.symbol text → Said s.symbol at text (symbol_length at text)
unfolding symbol_length
symbol_said at text some facts = symbol_by at text (is_symbol (take 2 text)) (is_symbol (take 1 text)) some facts refl refl

-- ---- what is dropped

blank_said : (at : ℕ) (text : List ℕ) → goes_on is_blank text ≡ true → Said s.blank at text (Ok 1)
blank_said at [] is = absurd (true≢false (sym is))
blank_said at (b ∷ rest) is = cuts s.blank (b ∷ rest) (b ∷ []) rest 1 refl refl (omega arith) (b, refl, is)

abbrev is_in_line : ℕ → Bool
is_in_line b = not (b == 10)

line_cut : (at : ℕ) (text : List ℕ) → 0 < reach Line text → (starts_with nat_eq (before Line text) (codes "//") || starts_with nat_eq (before Line text) (codes "#")) ≡ true → Said s.line at text (Ok (reach Line text))
line_cut at text some marked =
    cuts s.line text (before Line text) (after Line text) (reach Line text) (sym (before-after Line text)) (length-before Line text) some
    (marked, all_before is_in_line Line (λ b rest e. not_from_false (b == 10) e) text, none_after is_in_line Line (λ b rest e. not_from_true (b == 10) e) text)

line_slashes : (at : ℕ) (rest : List ℕ) → Said s.line at (47 ∷ 47 ∷ rest) (Ok (reach Line (47 ∷ 47 ∷ rest)))
line_slashes at rest = line_cut at (47 ∷ 47 ∷ rest) (omega arith) refl

line_hash : (at : ℕ) (rest : List ℕ) → Said s.line at (35 ∷ rest) (Ok (reach Line (35 ∷ rest)))
line_hash at rest = line_cut at (35 ∷ rest) (omega arith) refl

line_said : (at : ℕ) (text : List ℕ) → (starts_with nat_eq text (codes "//") || starts_with nat_eq text (codes "#")) ≡ true → Said s.line at text (Ok (reach Line text))
line_said at text is =
    elim (or_cases (starts_with nat_eq text (codes "//")) (starts_with nat_eq text (codes "#")) is) [
      | inl slashes ↦ subst (λ (l : List ℕ). Said s.line at l (Ok (reach Line l))) (sym (starts (codes "//") text slashes)) (line_slashes at (drop 2 text))
      | inr mark ↦ subst (λ (l : List ℕ). Said s.line at l (Ok (reach Line l))) (sym (starts (codes "#") text mark)) (line_hash at (drop 1 text))
    ]

-- ---- all sorts

by_sort : (sort : Sort) (at : ℕ) (text : List ℕ) → text ≢ [] → IsKnown sort text → Said sort at text (length_of sort at text)
by_sort s.hash at text some facts = hash_said at text (starts hash_mark text facts)
by_sort s.hex at text some facts = hex_said at text (starts hex_mark text facts)
by_sort s.integer at text some facts = integer_said at text facts.1 facts.2
by_sort s.word at text some facts = word_said at text facts.0 facts.1 facts.2
by_sort s.quoted at text some facts = quoted_said at text facts.0 facts.2
by_sort s.symbol at text some facts = symbol_said at text some facts
by_sort s.blank at text some facts = blank_said at text facts
by_sort s.block at text some facts = block_said at text (starts (codes "/*") text facts)
by_sort s.line at text some facts = line_said at text facts

pub said : (sort : Sort) (at : ℕ) (text : List ℕ) → sort_of text ≡ sort → text ≢ [] → Said sort at text (length_of sort at text)
said sort at text is some = by_sort sort at text some (known sort text is)

filled : (text : List ℕ) → 0 < length text → text ≢ []
filled text some none = let zero_is : length text ≡ 0 = ap length none in absurd (omega (arith, some, zero_is))

-- by the calls of the code
pub cut_said : (sort : Sort) (at : ℕ) (text : List ℕ) (n : ℕ) (front rest : List ℕ) → sort ≡ sort_of text → 0 < length text → Ok n ≡ length_of sort at text → front ≡ take n text → rest ≡ drop n text
    → Cuts sort text front rest
cut_said sort at text n front rest sorted some is front_is rest_is =
    let told : Said sort at text (Ok n) = subst (Said sort at text) (sym is) (said sort at text (sym sorted) (filled text some)) in
    subst (λ (f : List ℕ). Cuts sort text f rest) (sym front_is) (subst (λ (r : List ℕ). Cuts sort text (take n text) r) (sym rest_is) told)

pub fault_said : (sort : Sort) (at : ℕ) (text : List ℕ) (why : TextFault) → sort ≡ sort_of text → 0 < length text → Err why ≡ length_of sort at text → FailsAt at text why
fault_said sort at text why sorted some is = subst (Said sort at text) (sym is) (said sort at text (sym sorted) (filled text some))
