-- What is known of a text by what was cut off it so far.
use Rattle.std.proofs.Common.{◌≡◌, ℕ, ◌+◌, ◌-◌, ◌<◌, ◌≤◌, List, [], ◌∷◌, ◌++◌, length, take, drop, inl, inr, true, ◌==◌, refl, sym, ap, subst, ◌∙◌, arith, append_assoc, append-nil, length-append}
use Rattle.std.proofs.lemmas.List.{take_at, drop_at, drop-drop, map-append, length-map}
use Rattle.std.proofs.lemmas.Bool.{eqb-true}
use Rattle.req_grammar.specs.Sorts as s
use Rattle.req_grammar.specs.Sorts.{Sort, IsCut}
use Rattle.req_grammar.specs.Tokens as k
use Rattle.req_grammar.specs.Tokens.{Token, Tokens}
use Rattle.req_grammar.specs.Terminals.{Terminal, bytes_of, terminal_of, terminals}
use Rattle.req_grammar.specs.TokenFaults.{TokenFault, FirstFault, behind_gap, behind_token}
use Rattle.req_tokens.specs.Cuts.{Cuts}
use Rattle.req_tokens.proofs.Fronts.{is_empty}
use Rattle.req_grammar.specs.declared.limits.TheConstants.{MOST_TEXT_BYTES}
use Rattle.req_tokens.specs.Sorts.{kind_in, added, added_terminal}
use Rattle.req_tokens.specs.Terminals.{AreTerminals, is_kind_in}

-- the tokens of what is left, which begins at a place, complete those so far; and its first fault is the text's
pub record Led (text rest : List ℕ) (at : ℕ) (so_far : List Token) : Type 0 where
  pub tokens : (more : List Token) → Tokens at rest more → Tokens 0 text (so_far ++ more)
  pub faults : (fault : TokenFault) (place : ℕ) → FirstFault at rest fault place → FirstFault 0 text fault place

pub led_first : (text : List ℕ) → Led text text 0 []
led_first text = record { tokens = λ more is. is; faults = λ fault place is. is }

-- the tokens with what is cut off
pub cut_tokens : (sort : Sort) (at : ℕ) (text front rest : List ℕ) (more : List Token) → text ≡ front ++ rest → IsCut sort front rest → Tokens (at + length front) rest more → Tokens at text (added (kind_in sort) at (length front) ++ more)
cut_tokens s.hash at text front rest more parts is later = k.one at text front rest more k.hash parts is later
cut_tokens s.hex at text front rest more parts is later = k.one at text front rest more k.hex parts is later
cut_tokens s.integer at text front rest more parts is later = k.one at text front rest more k.integer parts is later
cut_tokens s.word at text front rest more parts is later = k.one at text front rest more k.word parts is later
cut_tokens s.quoted at text front rest more parts is later = k.one at text front rest more k.quoted parts is later
cut_tokens s.symbol at text front rest more parts is later = k.one at text front rest more k.symbol parts is later
cut_tokens s.blank at text front rest more parts is later = k.dropped at text front rest more parts (inl is) later
cut_tokens s.block at text front rest more parts is later = k.dropped at text front rest more parts (inr (inl is)) later
cut_tokens s.line at text front rest more parts is later = k.dropped at text front rest more parts (inr (inr is)) later

pub cut_fault : (sort : Sort) (at place : ℕ) (text front rest : List ℕ) (fault : TokenFault) → text ≡ front ++ rest → IsCut sort front rest → FirstFault (at + length front) rest fault place → FirstFault at text fault place
cut_fault s.hash at place text front rest fault parts is later = behind_token at place text front rest fault k.hash parts is later
cut_fault s.hex at place text front rest fault parts is later = behind_token at place text front rest fault k.hex parts is later
cut_fault s.integer at place text front rest fault parts is later = behind_token at place text front rest fault k.integer parts is later
cut_fault s.word at place text front rest fault parts is later = behind_token at place text front rest fault k.word parts is later
cut_fault s.quoted at place text front rest fault parts is later = behind_token at place text front rest fault k.quoted parts is later
cut_fault s.symbol at place text front rest fault parts is later = behind_token at place text front rest fault k.symbol parts is later
cut_fault s.blank at place text front rest fault parts is later = behind_gap at place text front rest fault parts (inl is) later
cut_fault s.block at place text front rest fault parts is later = behind_gap at place text front rest fault parts (inr (inl is)) later
cut_fault s.line at place text front rest fault parts is later = behind_gap at place text front rest fault parts (inr (inr is)) later

-- one cut more
pub led_on : (text now front rest : List ℕ) (at next : ℕ) (so_far : List Token) (sort : Sort) → Led text now at so_far → Cuts sort now front rest → next ≡ at + length front
    → Led text rest next (so_far ++ added (kind_in sort) at (length front))
led_on text now front rest at next so_far sort led cut is =
    record {
      tokens = λ more later.
          subst (λ (l : List Token). Tokens 0 text l) (sym (append_assoc so_far (added (kind_in sort) at (length front)) more))
          (led.tokens (added (kind_in sort) at (length front) ++ more) (cut_tokens sort at now front rest more cut.parts cut.is (subst (λ (n : ℕ). Tokens n rest more) is later)));
      faults = λ fault place later.
          led.faults fault place (cut_fault sort at place now front rest fault cut.parts cut.is (subst (λ (n : ℕ). FirstFault n rest fault place) is later));
    }

-- nothing is left
pub led_last : (text rest : List ℕ) (at : ℕ) (so_far : List Token) → Led text rest at so_far → rest ≡ [] → Tokens 0 text so_far
led_last text rest at so_far led none =
    subst (λ (l : List Token). Tokens 0 text l) (append-nil so_far) (led.tokens [] (subst (λ (l : List ℕ). Tokens at l []) (sym none) (k.none at)))

-- ---- terminals

-- the same, with the terminals so far
pub record LedTerminals (text rest : List ℕ) (at : ℕ) (list : List Terminal) : Type 0 where
  pub so_far : List Token
  pub led : Led text rest at so_far
  pub are : list ≡ terminals text so_far
  pub place : rest ≡ drop at text
  pub few : length so_far + length rest ≤ length text

pub terminals_first : (text : List ℕ) → LedTerminals text text 0 []
terminals_first text = record { so_far = []; led = led_first text; are = refl; place = refl; few = omega arith }

added_length : (sort : Sort) (at n : ℕ) → length (added (kind_in sort) at n) ≤ 1
added_length s.hash at n = omega arith
added_length s.hex at n = omega arith
added_length s.integer at n = omega arith
added_length s.word at n = omega arith
added_length s.quoted at n = omega arith
added_length s.symbol at n = omega arith
added_length s.blank at n = omega arith
added_length s.block at n = omega arith
added_length s.line at n = omega arith

added_are : (sort : Sort) (text front rest : List ℕ) (at : ℕ) → drop at text ≡ front ++ rest → added_terminal (kind_in sort) front ≡ terminals text (added (kind_in sort) at (length front))
added_are sort text front rest at parts = by sort
  where
    bytes : front ≡ take (length front) (drop at text)
    bytes = sym (ap (take (length front)) parts ∙ take_at front rest (length front) refl)

    by : (u : Sort) → added_terminal (kind_in u) front ≡ terminals text (added (kind_in u) at (length front))
    by s.hash = ap (λ (l : List ℕ). terminal_of k.hash l ∷ []) bytes
    by s.hex = ap (λ (l : List ℕ). terminal_of k.hex l ∷ []) bytes
    by s.integer = ap (λ (l : List ℕ). terminal_of k.integer l ∷ []) bytes
    by s.word = ap (λ (l : List ℕ). terminal_of k.word l ∷ []) bytes
    by s.quoted = ap (λ (l : List ℕ). terminal_of k.quoted l ∷ []) bytes
    by s.symbol = ap (λ (l : List ℕ). terminal_of k.symbol l ∷ []) bytes
    by s.blank = refl
    by s.block = refl
    by s.line = refl

pub terminals_on : (text now front rest : List ℕ) (at next : ℕ) (list longer : List Terminal) (sort : Sort) → LedTerminals text now at list → Cuts sort now front rest → next ≡ at + length front
    → longer ≡ list ++ added_terminal (kind_in sort) front → LedTerminals text rest next longer
terminals_on text now front rest at next list longer sort led cut is more =
    let parts : drop at text ≡ front ++ rest = sym led.place ∙ cut.parts in
    let size : length now ≡ length (front ++ rest) = ap length cut.parts in
    let some : 0 < length front = cut.some in
    let one : length (added (kind_in sort) at (length front)) ≤ 1 = added_length sort at (length front) in
    let few : length led.so_far + length now ≤ length text = led.few in
    record {
      so_far = led.so_far ++ added (kind_in sort) at (length front);
      led = led_on text now front rest at next led.so_far sort led.led cut is;
      are =
          more ∙ ap (λ (l : List Terminal). l ++ added_terminal (kind_in sort) front) led.are ∙ ap (λ (l : List Terminal). terminals text led.so_far ++ l) (added_are sort text front rest at parts)
          ∙ sym (map-append (λ (token : Token). terminal_of token.kind (bytes_of text token)) led.so_far (added (kind_in sort) at (length front)));
      place = sym (ap (λ (n : ℕ). drop n text) is ∙ sym (drop-drop (length front) at text) ∙ ap (drop (length front)) parts ∙ drop_at front rest (length front) refl);
      few = omega (arith, few, size, some, one, length-append front rest, length-append led.so_far (added (kind_in sort) at (length front)));
    }

-- what is cut off as a token has the form that its terminal needs
pub cut_kind : (sort : Sort) (front rest : List ℕ) → IsCut sort front rest → is_kind_in (kind_in sort) front ≡ true
cut_kind s.hash front rest is = is
cut_kind s.hex front rest is = is.0
cut_kind s.integer front rest is = is.0
cut_kind s.word front rest is = refl
cut_kind s.quoted front rest is = refl
cut_kind s.symbol front rest is = refl
cut_kind s.blank front rest is = refl
cut_kind s.block front rest is = refl
cut_kind s.line front rest is = refl

pub terminals_last : (text rest : List ℕ) (at : ℕ) (list : List Terminal) → length text ≤ MOST_TEXT_BYTES → LedTerminals text rest at list → rest ≡ [] → AreTerminals text list × (length list ≤ length text)
terminals_last text rest at list short led none =
    let few : length led.so_far + length rest ≤ length text = led.few in
    let size : length list ≡ length led.so_far = ap length led.are ∙ length-map led.so_far (λ (token : Token). terminal_of token.kind (bytes_of text token)) in (
      record {
        tokens = led.so_far;
        cut = record { short = short; tokens_are = led_last text rest at led.so_far led.led none };
        are = led.are;
      },
      omega (arith, few, size),
    )

-- ---- in steps of the code

pub step_tokens : (text now front rest : List ℕ) (so_far longer : List Token) (sort : Sort) → Led text now (length text - length now) so_far → Cuts sort now front rest → length now ≤ length text
    → longer ≡ so_far ++ added (kind_in sort) (length text - length now) (length front) → Led text rest (length text - length rest) longer
step_tokens text now front rest so_far longer sort led cut within more =
    let size : length now ≡ length (front ++ rest) = ap length cut.parts in
    let next : length text - length rest ≡ (length text - length now) + length front = omega (arith, size, within, length-append front rest) in
    subst (λ (l : List Token). Led text rest (length text - length rest) l) (sym more) (led_on text now front rest (length text - length now) (length text - length rest) so_far sort led cut next)

pub step_terminals : (text now front rest : List ℕ) (so_far longer : List Terminal) (sort : Sort) → LedTerminals text now (length text - length now) so_far → Cuts sort now front rest → length now ≤ length text
    → longer ≡ so_far ++ added_terminal (kind_in sort) front → LedTerminals text rest (length text - length rest) longer
step_terminals text now front rest so_far longer sort led cut within more =
    let size : length now ≡ length (front ++ rest) = ap length cut.parts in
    let next : length text - length rest ≡ (length text - length now) + length front = omega (arith, size, within, length-append front rest) in
    terminals_on text now front rest (length text - length now) (length text - length rest) so_far longer sort led cut next more

pub step_within : (n : ℕ) (now front rest : List ℕ) (sort : Sort) → Cuts sort now front rest → length now ≤ n → length rest ≤ n
step_within n now front rest sort cut within =
    let size : length now ≡ length (front ++ rest) = ap length cut.parts in
    omega (arith, size, within, length-append front rest)

pub step_shorter : (now front rest : List ℕ) (sort : Sort) → Cuts sort now front rest → length rest < length now
step_shorter now front rest sort cut =
    let size : length now ≡ length (front ++ rest) = ap length cut.parts in
    let some : 0 < length front = cut.some in
    omega (arith, size, some, length-append front rest)

pub none_left : (xs : List ℕ) → true ≡ (length xs == 0) → xs ≡ []
none_left xs e = is_empty xs (eqb-true (length xs) 0 (sym e))
