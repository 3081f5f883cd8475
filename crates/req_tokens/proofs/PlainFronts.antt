-- Symbols, quoted strings and words differ in their first byte, and a longest one is none of the others.
use Rattle.std.proofs.Common.{◌≡◌, ◌≢◌, ℕ, ◌+◌, ◌<◌, ◌≤◌, Bool, true, false, ◌||◌, nat_eq, List, [], ◌∷◌, ◌++◌, length, if◌then◌else◌, Some, is_some, refl, sym, ap, subst, ◌∙◌, arith, append_assoc, length-append}
use Rattle.std.specs.Str.{bytes_eq}
use Rattle.std.proofs.lemmas.Bool.{and_parts, eqb-true, or_from, false_from_ne_true, true≢false}
use Rattle.std.proofs.lemmas.Slice.Eq.{bytes_eq-Decides}
use Rattle.req_grammar.specs.Words.{Sign, signs, under}
use Rattle.req_grammar.specs.Tokens.{goes_on, is_letter, is_plain, is_quoted, is_symbol, is_word, quoted_text, quoted_value}
use Rattle.req_tokens.specs.declared.reach.End.TheVariants.{Word, Quoted}
use Rattle.req_tokens.specs.Reach.{reach}
use Rattle.req_tokens.proofs.DottedWords.{word_inside, inside_reach}
use Rattle.req_tokens.proofs.EscapedTexts.{quoted_reach}

-- what holds of the bytes of each entry holds of bytes under which an entry stands
abbrev Each : (List ℕ → Type 0) → List (List ℕ × Sign) → Type 0
Each P [] = Unit {0}
Each P (entry ∷ rest) = P entry.0 × Each P rest

under_each : (P : List ℕ → Type 0) (table : List (List ℕ × Sign)) (bytes : List ℕ) → Each P table → is_some (under bytes table) ≡ true → P bytes
under_each P [] bytes all e = absurd (true≢false (sym e))
under_each P (entry ∷ rest) bytes all e = by (under_each P rest bytes all.1) (bytes_eq entry.0 bytes) refl e
  where
    by : (is_some (under bytes rest) ≡ true → P bytes) → (b : Bool) → bytes_eq entry.0 bytes ≡ b → is_some (if b then Some entry.1 else under bytes rest) ≡ true → P bytes
    by later true found h = subst P ((bytes_eq-Decides entry.0 bytes).0 found) all.0
    by later false found h = later h

abbrev begins_quoted : List ℕ → Bool
begins_quoted text = goes_on (λ b. nat_eq 34 b) text

-- a symbol's first byte is no letter and no quote, and it has two bytes at most
abbrev IsShort : List ℕ → Type 0
IsShort text = (goes_on is_letter text ≡ false) × (begins_quoted text ≡ false) × (length text ≤ 2) × (0 < length text)

short_one : (b : ℕ) → is_letter b ≡ false → nat_eq 34 b ≡ false → IsShort (b ∷ [])
short_one b letter quote = (letter, quote, omega arith, omega arith)

short_two : (b c : ℕ) → is_letter b ≡ false → nat_eq 34 b ≡ false → IsShort (b ∷ c ∷ [])
short_two b c letter quote = (letter, quote, omega arith, omega arith)

pub symbol_short : (text : List ℕ) → is_symbol text ≡ true → IsShort text
symbol_short text is =
    under_each IsShort signs text (
      short_one 40 refl refl,
      (
        short_one 41 refl refl,
        (
          short_one 91 refl refl,
          (
            short_one 93 refl refl,
            (
              short_one 33 refl refl,
              (
                short_one 61 refl refl,
                (
                  short_two 61 62 refl refl,
                  (short_one 60 refl refl, (short_two 60 61 refl refl, (short_one 62 refl refl, (short_two 62 61 refl refl, (short_one 126 refl refl, (short_one 42 refl refl, (short_one 45 refl refl, tt))))))),
                ),
              ),
            ),
          ),
        ),
      ),
    ) is

quoted_begins : (text : List ℕ) → is_quoted text ≡ true → begins_quoted text ≡ true
quoted_begins text is = subst (λ (l : List ℕ). begins_quoted l ≡ true) ((bytes_eq-Decides (quoted_text (quoted_value text)) text).0 is) refl

word_begins : (text : List ℕ) → is_word text ≡ true → goes_on is_letter text ≡ true
word_begins text is = (and_parts (goes_on is_letter text) _ is).0

-- a quote is no letter
letter_or_quote : (text : List ℕ) → begins_quoted text ≡ true → goes_on is_letter text ≡ false
letter_or_quote [] is = absurd (true≢false (sym is))
letter_or_quote (b ∷ text) is = subst (λ (c : ℕ). is_letter c ≡ false) (quote_is b is) refl
  where
    quote_is : (c : ℕ) → nat_eq 34 c ≡ true → 34 ≡ c
    quote_is c e = eqb-true 34 c e

first_of : (p : ℕ → Bool) (front more : List ℕ) → 0 < length front → goes_on p (front ++ more) ≡ goes_on p front
first_of p [] more some = absurd (omega (arith, some))
first_of p (b ∷ front) more some = refl

-- of a text that is none of the three, by each
none_plain : (text : List ℕ) → (is_symbol text ≡ true → ⊥) → (is_quoted text ≡ true → ⊥) → (is_word text ≡ true → ⊥) → is_plain text ≡ false
none_plain text s q w =
    or_from (is_symbol text || is_quoted text) (is_word text) (or_from (is_symbol text) (is_quoted text) (false_from_ne_true (is_symbol text) s) (false_from_ne_true (is_quoted text) q))
    (false_from_ne_true (is_word text) w)

clash : (b : Bool) → b ≡ false → b ≡ true → ⊥
clash b fails passes = true≢false (sym passes ∙ fails)

grows : (more : List ℕ) → more ≢ [] → 0 < length more
grows [] some = absurd (some refl)
grows (b ∷ more) some = omega arith

-- a word is no symbol and no quoted string, and no longer front is a word
pub word_longest : (text front rest more others : List ℕ) → text ≡ front ++ rest → length front ≡ reach Word text → goes_on is_letter front ≡ true → rest ≡ more ++ others → more ≢ []
    → is_plain (front ++ more) ≡ false
word_longest text front rest more others parts size letter split some =
    none_plain (front ++ more)
    (λ s. clash _ (symbol_short (front ++ more) s).0 begins)
    (λ q. clash _ (letter_or_quote (front ++ more) (quoted_begins (front ++ more) q)) begins)
    (λ w.
    let far : length (front ++ more) ≤ reach Word ((front ++ more) ++ others) = inside_reach (front ++ more) others (word_inside (front ++ more) w) in
    let near : reach Word ((front ++ more) ++ others) ≡ length front =
    ap (reach Word) (append_assoc front more others ∙ ap (λ (l : List ℕ). front ++ l) (sym split) ∙ sym parts) ∙ sym size in
    let longer : 0 < length more = grows more some in
    absurd (omega (arith, far, near, longer, length-append front more)))
  where
    filled : (l : List ℕ) → goes_on is_letter l ≡ true → 0 < length l
    filled [] is = absurd (true≢false (sym is))
    filled (b ∷ l) is = omega arith

    begins : goes_on is_letter (front ++ more) ≡ true
    begins = first_of is_letter front more (filled front letter) ∙ letter

-- a quoted string is no symbol and no word, and no longer front is a quoted string
pub quoted_longest : (text front rest more others : List ℕ) → text ≡ front ++ rest → is_quoted front ≡ true → rest ≡ more ++ others → more ≢ [] → is_plain (front ++ more) ≡ false
quoted_longest text front rest more others parts is split some =
    none_plain (front ++ more)
    (λ s. clash _ (symbol_short (front ++ more) s).1 begins)
    (λ q.
    let near : reach Quoted (front ++ (more ++ others)) + 2 ≡ length front = quoted_reach front (more ++ others) is in
    let far : reach Quoted ((front ++ more) ++ others) + 2 ≡ length (front ++ more) = quoted_reach (front ++ more) others q in
    let same : reach Quoted ((front ++ more) ++ others) ≡ reach Quoted (front ++ (more ++ others)) = ap (reach Quoted) (append_assoc front more others) in
    let longer : 0 < length more = grows more some in
    absurd (omega (arith, near, far, same, longer, length-append front more)))
    (λ w. clash _ (letter_or_quote (front ++ more) begins) (word_begins (front ++ more) w))
  where
    filled : (l : List ℕ) → begins_quoted l ≡ true → 0 < length l
    filled [] is = absurd (true≢false (sym is))
    filled (b ∷ l) is = omega arith

    quote : begins_quoted front ≡ true
    quote = quoted_begins front is

    begins : begins_quoted (front ++ more) ≡ true
    begins = first_of (λ b. nat_eq 34 b) front more (filled front quote) ∙ quote

-- a symbol is no quoted string and no word, and no longer front is a symbol
pub symbol_longest : (text front rest more others : List ℕ) → is_symbol front ≡ true → (is_symbol (front ++ more) ≡ true → ⊥) → is_plain (front ++ more) ≡ false
symbol_longest text front rest more others is longer =
    let short = symbol_short front is in
    none_plain (front ++ more) longer
    (λ q. clash _ (first_of (λ b. nat_eq 34 b) front more short.3 ∙ short.1) (quoted_begins (front ++ more) q))
    (λ w. clash _ (first_of is_letter front more short.3 ∙ short.0) (word_begins (front ++ more) w))
