-- The terminals of a text weigh at most twelve for each of its bytes.
use Rattle.std.proofs.Common.{◌≡◌, ℕ, suc, ◌+◌, ◌*◌, ◌-◌, ◌≤◌, Bool, true, false, not, ◌&&◌, ◌==◌, if◌then◌else◌, append_assoc, List, [], ◌∷◌, ◌++◌, length, take, drop, filter, Option, Some, None, sym, ap, ◌∙◌, arith, length-append, length-drop}
use Rattle.std.specs.Prelude.{nat_eq}
use Rattle.std.specs.List.{list_all, starts_with}
use Rattle.std.proofs.Math.Seq.{take-append_seam, drop-append_seam}
use Rattle.std.proofs.lemmas.List.{length-take}
use Rattle.req_grammar.specs.Words.{Word, reserved, under}
use Rattle.req_grammar.specs.Tokens as k
use Rattle.req_grammar.specs.Tokens.{Kind, Token, Tokens, IsToken, is_hash, is_hex_digit, hash_mark, quoted_value}
use Rattle.req_grammar.specs.Terminals as t
use Rattle.req_grammar.specs.Terminals.{Terminal, hex_bytes, word_or, terminal_of, terminals}
use Rattle.req_grammar.specs.Places as p
use Rattle.req_grammar.specs.Places.{FitsKind}
use Rattle.req_language.proofs.Weights.{weight, weigh}

true_false : true ≡ false → ⊥
true_false e = cc

second_true : (a b : Bool) → (a && b) ≡ true → b ≡ true
second_true true b h = h
second_true false b h = cc

one_most : (b : Bool) (x : ℕ) (xs : List ℕ) (size : ℕ) → length xs ≤ size → length (if b then x ∷ xs else xs) ≤ suc size
one_most true x xs size h = omega (arith, h)
one_most false x xs size h = omega (arith, h)

filter_most : (keeps : ℕ → Bool) (xs : List ℕ) → length (filter keeps xs) ≤ length xs
filter_most keeps [] = omega arith
filter_most keeps (x ∷ xs) = one_most (keeps x) x (filter keeps xs) (length xs) (filter_most keeps xs)

hex_most : (digits : List ℕ) → length (hex_bytes digits) ≤ length digits
hex_most [] = omega arith
hex_most (a ∷ []) = omega arith
hex_most (a ∷ b ∷ digits) = omega (arith, hex_most digits)

quoted_most : (front : List ℕ) → length (quoted_value front) ≤ length front
quoted_most front =
    omega (arith, filter_most (λ b. not (b == 92)) (take (length front - 2) (drop 1 front)), length-take (length front - 2) (drop 1 front), length-drop 1 front)

-- a token has a byte
not_empty : (kind : Kind) (rest : List ℕ) → IsToken kind [] rest → ⊥
not_empty k.symbol rest h = absurd (true_false (sym h.1.0))
not_empty k.hash rest h = absurd (true_false (sym h))
not_empty k.hex rest h = absurd (true_false (sym h.0))
not_empty k.integer rest h = absurd (true_false (sym h.0))
not_empty k.quoted rest h = absurd (true_false (sym h.1.0))
not_empty k.word rest h = absurd (true_false (sym h.1.0))

some_byte : (kind : Kind) (front rest : List ℕ) → IsToken kind front rest → 1 ≤ length front
some_byte kind [] rest h = absurd (not_empty kind rest h)
some_byte kind (b ∷ front) rest h = omega arith

abbrev begins : List ℕ → Bool
begins front = starts_with nat_eq front hash_mark && list_all is_hex_digit (take 40 (drop 2 front))

-- a hash has three bytes at least
hash_least : (front : List ℕ) → is_hash front ≡ true → 3 ≤ length front
hash_least [] h = absurd (true_false (sym (second_true (begins []) false h)))
hash_least (a ∷ []) h = absurd (true_false (sym (second_true (begins (a ∷ [])) false h)))
hash_least (a ∷ b ∷ []) h = absurd (true_false (sym (second_true (begins (a ∷ b ∷ [])) false h)))
hash_least (a ∷ b ∷ c ∷ front) h = omega arith

symbol_most : (terminal : Terminal) (front : List ℕ) → FitsKind front k.symbol terminal → 1 ≤ length front → weight terminal ≤ 12 * length front
symbol_most terminal front (p.symbol s found) some = omega (arith, some)

hash_size : (front h : List ℕ) → FitsKind front k.hash (t.hash h) → length h ≡ 20
hash_size front h (p.hash _ size) = size

hash_most : (front : List ℕ) → FitsKind front k.hash (terminal_of k.hash front) → 3 ≤ length front → weight (terminal_of k.hash front) ≤ 12 * length front
hash_most front fits some = omega (arith, hash_size front _ fits, some)

word_most : (found : Option Word) (front : List ℕ) → 1 ≤ length front → weight (word_or front found) ≤ 12 * length front
word_most (Some w) front some = omega (arith, some)
word_most None front some = omega (arith, some)

-- what a token's terminal weighs
token_most : (kind : Kind) (front rest : List ℕ) → ((front rest : List ℕ) (kind : Kind) → IsToken kind front rest → FitsKind front kind (terminal_of kind front)) → IsToken kind front rest
    → weight (terminal_of kind front) ≤ 12 * length front
token_most k.symbol front rest fits is = symbol_most (terminal_of k.symbol front) front (fits front rest k.symbol is) (some_byte k.symbol front rest is)
token_most k.hash front rest fits is = hash_most front (fits front rest k.hash is) (hash_least front is)
token_most k.hex front rest fits is = omega (arith, hex_most (drop 2 front), length-drop 2 front, some_byte k.hex front rest is)
token_most k.integer front rest fits is = omega (arith, some_byte k.integer front rest is)
token_most k.quoted front rest fits is = omega (arith, quoted_most front, some_byte k.quoted front rest is)
token_most k.word front rest fits is = word_most (under front reserved) front (some_byte k.word front rest is)

behind : (whole front text : List ℕ) (at : ℕ) → whole ≡ front ++ text → at ≡ length front → drop at whole ≡ text
behind whole front text at e place = ap (λ (n : ℕ). drop n whole) place ∙ ap (drop (length front)) e ∙ drop-append_seam front text

onward : (whole front text bytes rest : List ℕ) → whole ≡ front ++ text → text ≡ bytes ++ rest → whole ≡ (front ++ bytes) ++ rest
onward whole front text bytes rest e parts = e ∙ ap (λ (l : List ℕ). front ++ l) parts ∙ sym (append_assoc front bytes rest)

farther : (front bytes : List ℕ) (at : ℕ) → at ≡ length front → at + length bytes ≡ length (front ++ bytes)
farther front bytes at place = omega (arith, place, length-append front bytes)

-- a token of its front, and what follows
one_more : (whole text bytes rest : List ℕ) (at : ℕ) (kind : Kind) (tokens : List Token) → drop at whole ≡ text → text ≡ bytes ++ rest → weight (terminal_of kind bytes) ≤ 12 * length bytes
    → weigh (terminals whole tokens) ≤ 12 * length rest → weigh (terminals whole (record { kind = kind; at = at; length = length bytes } ∷ tokens)) ≤ 12 * length text
one_more whole text bytes rest at kind tokens here parts one more =
    let mine : take (length bytes) (drop at whole) ≡ bytes = ap (take (length bytes)) (here ∙ parts) ∙ take-append_seam bytes rest in
    let same : weight (terminal_of kind (take (length bytes) (drop at whole))) ≡ weight (terminal_of kind bytes) = ap (λ (b : List ℕ). weight (terminal_of kind b)) mine in
    omega (arith, same, one, more, ap length parts, length-append bytes rest)

module _ (fits : (front rest : List ℕ) (kind : Kind) → IsToken kind front rest → FitsKind front kind (terminal_of kind front)) where
  pub tokens_most : (whole front text : List ℕ) (at : ℕ) (list : List Token) → whole ≡ front ++ text → at ≡ length front → Tokens at text list → weigh (terminals whole list) ≤ 12 * length text
  tokens_most whole front text at list e place (k.none n) = omega arith
  tokens_most whole front text at list e place (k.dropped n t bytes rest tokens parts h later) =
      omega (arith, ap length parts, length-append bytes rest, tokens_most whole (front ++ bytes) rest _ tokens (onward whole front _ bytes rest e parts) (farther front bytes _ place) later)
  tokens_most whole front text at list e place (k.one n t bytes rest tokens kind parts h later) =
      one_more whole _ bytes rest _ kind tokens (behind whole front _ _ e place) parts (token_most kind bytes rest fits h)
      (tokens_most whole (front ++ bytes) rest _ tokens (onward whole front _ bytes rest e parts) (farther front bytes _ place) later)
