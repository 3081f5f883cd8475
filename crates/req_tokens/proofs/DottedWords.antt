-- Words: their bytes, and where one ends.
use Rattle.std.proofs.Common.{◌≡◌, ℕ, suc, ◌≤◌, Bool, true, false, not, ◌&&◌, ◌==◌, List, [], ◌∷◌, ◌++◌, length, take, cond, refl, sym, ap, subst, ◌∙◌, arith}
use Rattle.std.specs.List.{list_all, slice_split, onto_first}
use Rattle.std.proofs.lemmas.Bool.{and_parts, or_left, and_from, eqb-true, not-true, not_from_false, true≢false}
use Rattle.req_tree.specs.NumericOrder.{is_digit}
use Rattle.req_grammar.specs.Tokens.{goes_on, is_letter, is_letter_or_digit, is_run, is_word}
use Rattle.req_tokens.specs.declared.reach.End.TheVariants.{Word}
use Rattle.req_tokens.specs.Reach.{ends, reach, before, is_dot_in_word}
use Rattle.req_tokens.proofs.Fronts.{some_before}

abbrev is_dot : ℕ → Bool
is_dot b = b == 46

-- no byte ends a word
abbrev pub is_inside : List ℕ → Bool
is_inside [] = true
is_inside (b ∷ rest) = not (ends Word b rest) && is_inside rest

-- what stands between the dots
record Pieces (text : List ℕ) : Type 0 where
  first : List ℕ
  others : List (List ℕ)
  are : slice_split is_dot text ≡ first ∷ others
  begins : goes_on is_letter_or_digit first ≡ goes_on is_letter_or_digit text
  inside : (list_all is_letter_or_digit first && list_all (is_run is_letter_or_digit) others) ≡ is_inside text

at_dot : (g a o : Bool) → ((g && a) && o) ≡ (not (not g) && (a && o))
at_dot true a o = refl
at_dot false a o = refl

at_byte : (l g a o : Bool) → ((l && a) && o) ≡ (not (not l && not (false && g)) && (a && o))
at_byte true g a o = refl
at_byte false g a o = refl

pieces_step : (b : ℕ) (text : List ℕ) (t : Bool) → is_dot b ≡ t → Pieces text → Pieces (b ∷ text)
pieces_step b text true e p =
    let dot : b ≡ 46 = eqb-true b 46 e in
    let bare : Pieces (46 ∷ text) = record {
      first = [];
      others = p.first ∷ p.others;
      are = ap (λ (l : List (List ℕ)). [] ∷ l) p.are;
      begins = refl;
      inside =
          ap (λ (g : Bool). (g && list_all is_letter_or_digit p.first) && list_all (is_run is_letter_or_digit) p.others) p.begins
          ∙ at_dot (goes_on is_letter_or_digit text) (list_all is_letter_or_digit p.first) (list_all (is_run is_letter_or_digit) p.others)
          ∙ ap (λ (i : Bool). not (not (goes_on is_letter_or_digit text)) && i) p.inside;
    } in
    subst Pieces (ap (λ (c : ℕ). c ∷ text) (sym dot)) bare
pieces_step b text false e p =
    record {
      first = b ∷ p.first;
      others = p.others;
      are = ap (λ (t : Bool). cond t ([] ∷ slice_split is_dot text) (onto_first b (slice_split is_dot text))) e ∙ ap (onto_first b) p.are;
      begins = refl;
      inside =
          at_byte (is_letter_or_digit b) (goes_on is_letter_or_digit text) (list_all is_letter_or_digit p.first) (list_all (is_run is_letter_or_digit) p.others)
          ∙ ap (λ (i : Bool). not (not (is_letter_or_digit b) && not (false && goes_on is_letter_or_digit text)) && i) p.inside
          ∙ ap (λ (d : Bool). not (not (is_letter_or_digit b) && not (d && goes_on is_letter_or_digit text)) && is_inside text) (sym e);
    }

pieces : (text : List ℕ) → Pieces text
pieces [] = record { first = []; others = []; are = refl; begins = refl; inside = refl }
pieces (b ∷ text) = pieces_step b text (is_dot b) refl (pieces text)

regroup : (g a o : Bool) → ((g && a) && o) ≡ (g && (a && o))
regroup true a o = refl
regroup false a o = refl

-- the pieces of a text are runs where it goes on with a letter or a digit and no byte ends a word
all_runs : (text : List ℕ) → list_all (is_run is_letter_or_digit) (slice_split is_dot text) ≡ (goes_on is_letter_or_digit text && is_inside text)
all_runs text =
    let p = pieces text in
    ap (list_all (is_run is_letter_or_digit)) p.are
    ∙ regroup (goes_on is_letter_or_digit p.first) (list_all is_letter_or_digit p.first) (list_all (is_run is_letter_or_digit) p.others)
    ∙ ap (λ (g : Bool). g && (list_all is_letter_or_digit p.first && list_all (is_run is_letter_or_digit) p.others)) p.begins
    ∙ ap (λ (i : Bool). goes_on is_letter_or_digit text && i) p.inside

pub word_inside : (text : List ℕ) → is_word text ≡ true → is_inside text ≡ true
word_inside text is =
    let parts = and_parts (goes_on is_letter text) (list_all (is_run is_letter_or_digit) (slice_split is_dot text)) is in
    (and_parts (goes_on is_letter_or_digit text) (is_inside text) (sym (all_runs text) ∙ parts.1)).1

letter_goes_on : (text : List ℕ) → goes_on is_letter text ≡ true → goes_on is_letter_or_digit text ≡ true
letter_goes_on [] is = is
letter_goes_on (b ∷ text) is = or_left (is_letter b) (is_digit b) is

pub inside_word : (text : List ℕ) → goes_on is_letter text ≡ true → is_inside text ≡ true → is_word text ≡ true
inside_word text letter inside =
    and_from (goes_on is_letter text) (list_all (is_run is_letter_or_digit) (slice_split is_dot text)) letter
    (all_runs text ∙ and_from (goes_on is_letter_or_digit text) (is_inside text) (letter_goes_on text letter) inside)

-- ---- where a word ends

goes_on-append : (p : ℕ → Bool) (text rest : List ℕ) → goes_on p text ≡ true → goes_on p (text ++ rest) ≡ true
goes_on-append p [] rest is = absurd (true≢false (sym is))
goes_on-append p (b ∷ text) rest is = is

still : (l d g h : Bool) → (g ≡ true → h ≡ true) → (not l && not (d && g)) ≡ false → (not l && not (d && h)) ≡ false
still true d g h more is = refl
still false false g h more is = is
still false true true h more is = ap not (more refl)
still false true false h more is = absurd (true≢false is)

-- the bytes that no byte ends are in the front
pub inside_reach : (text rest : List ℕ) → is_inside text ≡ true → length text ≤ reach Word (text ++ rest)
inside_reach [] rest is = omega arith
inside_reach (b ∷ text) rest is =
    let parts = and_parts (not (ends Word b text)) (is_inside text) is in
    let on : ends Word b (text ++ rest) ≡ false =
    still (is_letter_or_digit b) (b == 46) (goes_on is_letter_or_digit text) (goes_on is_letter_or_digit (text ++ rest)) (goes_on-append is_letter_or_digit text rest) (not-true (ends Word b text) parts.0) in
    let later : length text ≤ reach Word (text ++ rest) = inside_reach text rest parts.1 in
    subst (λ (t : Bool). suc (length text) ≤ cond t 0 (suc (reach Word (text ++ rest)))) (sym on) (omega (arith, later))

goes_on-before : (text : List ℕ) → goes_on is_letter_or_digit text ≡ true → goes_on is_letter_or_digit (before Word text) ≡ true
goes_on-before [] is = is
goes_on-before (b ∷ text) is =
    let on : ends Word b text ≡ false = ap (λ (l : Bool). not l && not (is_dot_in_word b text)) is in
    some_before Word b text on is_letter_or_digit is

before_step : (b : ℕ) (text : List ℕ) (t : Bool) → ends Word b text ≡ t → is_inside (before Word text) ≡ true → is_inside (take (cond t 0 (suc (reach Word text))) (b ∷ text)) ≡ true
before_step b text true e later = refl
before_step b text false e later =
    and_from (not (ends Word b (before Word text))) (is_inside (before Word text))
    (not_from_false (ends Word b (before Word text))
    (still (is_letter_or_digit b) (b == 46) (goes_on is_letter_or_digit text) (goes_on is_letter_or_digit (before Word text)) (goes_on-before text) e))
    later

-- no byte of the front ends a word
pub before_inside : (text : List ℕ) → is_inside (before Word text) ≡ true
before_inside [] = refl
before_inside (b ∷ text) = before_step b text (ends Word b text) refl (before_inside text)
