-- Each token of a text stands at its place, and its terminal is one of its kind.
use Rattle.std.proofs.Common.{◌≡◌, ℕ, zero, suc, ◌+◌, ◌-◌, ◌*◌, true, List, [], ◌∷◌, ◌++◌, length, take, drop, Option, Some, None, is_some, refl, sym, ap, subst, ◌∙◌, true≢false, append_assoc, arith, length-append}
use Rattle.std.specs.List.{AllByRecursion}
use Rattle.std.proofs.Math.Seq.{take-append_seam, drop-append_seam}
use Rattle.std.proofs.lemmas.Bool.{leb-true}
use Rattle.std.proofs.lemmas.List.{length-drop, length-take-le}
use Rattle.req_tree.specs.NumericOrder.{number_of}
use Rattle.req_grammar.specs.Words.{Sign, Word, signs, reserved, under}
use Rattle.req_grammar.specs.Tokens as k
use Rattle.req_grammar.specs.Tokens.{Kind, Token, Tokens, IsToken, is_hash, is_symbol, quoted_value}
use Rattle.req_grammar.specs.Terminals.{hex_bytes, sign_or, word_or, terminal_of}
use Rattle.req_grammar.specs.Places as p
use Rattle.req_grammar.specs.Places.{FitsKind, IsPlaced}
use Rattle.req_grammar.proofs.Cuts.{both_true, hash_length}

-- two digits a byte
hex_size : (n : ℕ) (digits : List ℕ) → length digits ≡ 2 * n → length (hex_bytes digits) ≡ n
hex_size zero [] e = refl
hex_size zero (a ∷ digits) e = absurd (omega (arith, e))
hex_size (suc n) [] e = absurd (omega (arith, e))
hex_size (suc n) (a ∷ []) e = absurd (omega (arith, e))
hex_size (suc n) (a ∷ b ∷ digits) e = ap suc (hex_size n digits (omega (arith, e)))

hash_size : (front : List ℕ) → is_hash front ≡ true → length (hex_bytes (take 40 (drop 2 front))) ≡ 20
hash_size front e =
    let all : length front ≡ 43 = hash_length front e in
    let behind : length (drop 2 front) ≡ length front - 2 = length-drop 2 front in
    let digits : length (take 40 (drop 2 front)) ≡ 40 = length-take-le 40 (drop 2 front) (omega (arith, all, behind)) in
    hex_size 20 (take 40 (drop 2 front)) digits

symbol_fits : (front : List ℕ) → is_symbol front ≡ true → FitsKind front k.symbol (terminal_of k.symbol front)
symbol_fits front e = by (under front signs) refl e
  where
    by : (found : Option Sign) → under front signs ≡ found → is_some found ≡ true → FitsKind front k.symbol (sign_or front found)
    by (Some s) h some = p.symbol s h
    by None h some = absurd (true≢false (sym some))

word_fits : (front : List ℕ) → FitsKind front k.word (terminal_of k.word front)
word_fits front = by (under front reserved) refl
  where
    by : (found : Option Word) → under front reserved ≡ found → FitsKind front k.word (word_or front found)
    by (Some w) h = p.reserved_word w h
    by None h = p.free_word h

pub kind_fits : (kind : Kind) (front rest : List ℕ) → IsToken kind front rest → FitsKind front kind (terminal_of kind front)
kind_fits k.symbol front rest h = symbol_fits front h.1.0
kind_fits k.hash front rest h = p.hash (hex_bytes (take 40 (drop 2 front))) (hash_size front h)
kind_fits k.hex front rest h = p.hex (hex_bytes (drop 2 front))
kind_fits k.integer front rest h = p.integer (number_of front) (leb-true (number_of front) 2147483648 (both_true _ _ h.0).1)
kind_fits k.quoted front rest h = p.quoted (quoted_value front)
kind_fits k.word front rest h = word_fits front

-- what stands behind a front, where the front has the length of a place
behind : (whole front text : List ℕ) (at : ℕ) → whole ≡ front ++ text → at ≡ length front → drop at whole ≡ text
behind whole front text at e place = ap (λ (n : ℕ). drop n whole) place ∙ ap (drop (length front)) e ∙ drop-append_seam front text

placed : (whole front text bytes rest : List ℕ) (at : ℕ) (kind : Kind) → whole ≡ front ++ text → at ≡ length front → text ≡ bytes ++ rest → IsToken kind bytes rest
    → IsPlaced whole (record { kind = kind; at = at; length = length bytes })
placed whole front text bytes rest at kind e place parts is =
    let here : drop at whole ≡ bytes ++ rest = behind whole front text at e place ∙ parts in
    let mine : take (length bytes) (drop at whole) ≡ bytes = ap (take (length bytes)) here ∙ take-append_seam bytes rest in
    record {
      rest = rest;
      stands = here ∙ ap (λ (b : List ℕ). b ++ rest) (sym mine);
      is = subst (λ (b : List ℕ). IsToken kind b rest) (sym mine) is;
      fits = kind_fits kind (take (length bytes) (drop at whole)) rest (subst (λ (b : List ℕ). IsToken kind b rest) (sym mine) is);
    }

onward : (whole front text bytes rest : List ℕ) → whole ≡ front ++ text → text ≡ bytes ++ rest → whole ≡ (front ++ bytes) ++ rest
onward whole front text bytes rest e parts = e ∙ ap (λ (l : List ℕ). front ++ l) parts ∙ sym (append_assoc front bytes rest)

farther : (front bytes : List ℕ) (at : ℕ) → at ≡ length front → at + length bytes ≡ length (front ++ bytes)
farther front bytes at place = omega (arith, place, length-append front bytes)

pub all_placed : (whole front text : List ℕ) (at : ℕ) (list : List Token) → whole ≡ front ++ text → at ≡ length front → Tokens at text list → AllByRecursion (IsPlaced whole) list
all_placed whole front text at list e place (k.none n) = tt
all_placed whole front text at list e place (k.dropped n t bytes rest tokens parts h later) =
    all_placed whole (front ++ bytes) rest _ tokens (onward whole front _ bytes rest e parts) (farther front bytes _ place) later
all_placed whole front text at list e place (k.one n t bytes rest tokens kind parts h later) = (
  placed whole front _ bytes rest _ kind e place parts h,
  all_placed whole (front ++ bytes) rest _ tokens (onward whole front _ bytes rest e parts) (farther front bytes _ place) later,
)
