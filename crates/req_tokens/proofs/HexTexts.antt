-- Hashes and bytes in hexadecimal.
use Rattle.std.proofs.Common.{◌≡◌, ◌≢◌, ℕ, suc, ◌+◌, ◌%◌, Bool, true, false, not, ◌&&◌, ◌==◌, List, [], ◌∷◌, ◌++◌, length, take, drop, cond, Ok, Err, refl, sym, ap, subst, ◌∙◌, arith, append_assoc, length-append, length-drop}
use Rattle.std.specs.List.{list_all}
use Rattle.std.specs.Str.{bytes_eq}
use Rattle.std.proofs.lemmas.Bool.{and_parts, and_from, eqb-true, eqb-false, eq-eqb, false_from_ne_true, true≢false, not_from_false, not-true, not-false}
use Rattle.std.proofs.lemmas.List.{append-nil, take_at, drop_at}
use Rattle.std.proofs.lemmas.Slice.Eq.{bytes_eq-Decides}
use Rattle.req_grammar.specs.Sorts as s
use Rattle.req_grammar.specs.Tokens.{hash_mark, hex_mark, is_hash, is_hex, is_hex_digit, is_letter_or_digit}
use Rattle.req_grammar.specs.TokenFaults as t
use Rattle.req_grammar.specs.TokenFaults.{is_quote}
use Rattle.req_tokens.specs.declared.fault.TextFault.TheVariants as fault
use Rattle.req_tokens.specs.declared.reach.End.TheVariants.{Hash, Run}
use Rattle.req_tokens.specs.Reach.{before, after}
use Rattle.req_tokens.specs.Cutting.{is_hash_text, is_bytes_text, hash_length, hex_length}
use Rattle.req_tokens.proofs.Fronts.{stop, all_before, none_after, before-after, is_empty}
use Rattle.req_tokens.proofs.Said.{Said, cuts, first_here}

-- ---- hashes

hash_from_text : (digits : List ℕ) → is_hash_text digits ≡ true → is_hash (72 ∷ 34 ∷ (digits ++ 34 ∷ [])) ≡ true
hash_from_text digits is =
    let parts = and_parts (length digits == 40) (list_all is_hex_digit digits) is in
    let size : length digits ≡ 40 = eqb-true (length digits) 40 parts.0 in
    and_from (list_all is_hex_digit (take 40 (digits ++ 34 ∷ []))) (bytes_eq (drop 40 (digits ++ 34 ∷ [])) (34 ∷ []))
    (ap (list_all is_hex_digit) (take_at digits (34 ∷ []) 40 size) ∙ parts.1)
    (ap (λ (l : List ℕ). bytes_eq l (34 ∷ [])) (drop_at digits (34 ∷ []) 40 size))

text_from_hash : (digits : List ℕ) → is_hash (72 ∷ 34 ∷ (digits ++ 34 ∷ [])) ≡ true → is_hash_text digits ≡ true
text_from_hash digits is =
    let parts = and_parts (list_all is_hex_digit (take 40 (digits ++ 34 ∷ []))) (bytes_eq (drop 40 (digits ++ 34 ∷ [])) (34 ∷ [])) is in
    let end : drop 40 (digits ++ 34 ∷ []) ≡ 34 ∷ [] = (bytes_eq-Decides (drop 40 (digits ++ 34 ∷ [])) (34 ∷ [])).0 parts.1 in
    let one : length (drop 40 (digits ++ 34 ∷ [])) ≡ 1 = ap length end in
    let size : length digits ≡ 40 = omega (arith, one, length-drop 40 (digits ++ 34 ∷ []), length-append digits (34 ∷ [])) in
    and_from (length digits == 40) (list_all is_hex_digit digits) (eq-eqb (length digits) 40 size) (ap (list_all is_hex_digit) (sym (take_at digits (34 ∷ []) 40 size)) ∙ parts.0)

no_quotes : (inside : List ℕ) → list_all (λ b. not (is_quote b)) (before Hash inside) ≡ true
no_quotes inside = all_before (λ b. not (is_quote b)) Hash (λ b rest e. not_from_false (is_quote b) e) inside

-- up to the next quote
closed_at : (inside : List ℕ) → after Hash inside ≢ [] → inside ≡ before Hash inside ++ 34 ∷ drop 1 (after Hash inside)
closed_at inside some =
    let k = stop Hash inside some in
    sym (before-after Hash inside) ∙ ap (λ (l : List ℕ). before Hash inside ++ l) (k.is ∙ ap (λ (b : ℕ). b ∷ k.more) (eqb-true k.first 34 k.last) ∙ ap (λ (l : List ℕ). 34 ∷ drop 1 l) (sym k.is))

hash_by : (at : ℕ) (text inside : List ℕ) (e w : Bool) → text ≡ 72 ∷ 34 ∷ inside → (length (after Hash inside) == 0) ≡ e → is_hash_text (before Hash inside) ≡ w
    → Said s.hash at text (cond e (Err (fault.OpenString at)) (cond w (Ok 43) (Err (fault.BadHex at))))
hash_by at text inside true w is empty whole =
    let none : after Hash inside ≡ [] = is_empty (after Hash inside) (eqb-true (length (after Hash inside)) 0 empty) in
    let all : before Hash inside ≡ inside = sym (append-nil (before Hash inside)) ∙ ap (λ (l : List ℕ). before Hash inside ++ l) (sym none) ∙ before-after Hash inside in
    first_here at text t.open_string (t.hash_open inside is (subst (λ (l : List ℕ). list_all (λ b. not (is_quote b)) l ≡ true) all (no_quotes inside)))
hash_by at text inside false w is empty whole = hash_closed w whole
  where
    some : after Hash inside ≢ []
    some none = eqb-false (length (after Hash inside)) 0 empty (ap length none)

    parts : text ≡ (72 ∷ 34 ∷ (before Hash inside ++ 34 ∷ [])) ++ drop 1 (after Hash inside)
    parts = is ∙ ap (λ (l : List ℕ). 72 ∷ 34 ∷ l) (closed_at inside some ∙ sym (append_assoc (before Hash inside) (34 ∷ []) (drop 1 (after Hash inside))))

    hash_closed : (v : Bool) → is_hash_text (before Hash inside) ≡ v → Said s.hash at text (cond v (Ok 43) (Err (fault.BadHex at)))
    hash_closed true h =
        let size : length (before Hash inside) ≡ 40 = eqb-true (length (before Hash inside)) 40 (and_parts (length (before Hash inside) == 40) (list_all is_hex_digit (before Hash inside)) h).0 in
        cuts s.hash text (72 ∷ 34 ∷ (before Hash inside ++ 34 ∷ [])) (drop 1 (after Hash inside)) 43 parts (omega (arith, size, length-append (before Hash inside) (34 ∷ []))) (omega arith) (hash_from_text (before Hash inside) h)
    hash_closed false h =
        first_here at text t.bad_hex
        (t.hash_digits (before Hash inside) (drop 1 (after Hash inside)) (is ∙ ap (λ (l : List ℕ). 72 ∷ 34 ∷ l) (closed_at inside some)) (no_quotes inside)
        (false_from_ne_true (is_hash (72 ∷ 34 ∷ (before Hash inside ++ 34 ∷ []))) (λ whole_text. true≢false (sym (text_from_hash (before Hash inside) whole_text) ∙ h))))

pub hash_said : (at : ℕ) (text : List ℕ) → text ≡ hash_mark ++ drop 2 text → Said s.hash at text (hash_length at text)
unfolding hash_length
hash_said at text is = hash_by at text (drop 2 text) (length (after Hash (drop 2 text)) == 0) (is_hash_text (before Hash (drop 2 text))) is refl refl

-- ---- bytes

even : (n : ℕ) → (suc (suc n) % 2 == 0) ≡ (n % 2 == 0)
even n = let same : suc (suc n) % 2 ≡ n % 2 = omega arith in ap (λ (m : ℕ). m == 0) same

once : (d a e : Bool) → ((d && (d && a)) && e) ≡ ((d && a) && e)
once true a e = refl
once false a e = refl

hex_is_bytes : (digits : List ℕ) → is_hex (48 ∷ 120 ∷ digits) ≡ is_bytes_text digits
hex_is_bytes [] = refl
hex_is_bytes (b ∷ rest) =
    ap (λ (e : Bool). (is_hex_digit b && (is_hex_digit b && list_all is_hex_digit rest)) && e) (even (suc (length rest)))
    ∙ once (is_hex_digit b) (list_all is_hex_digit rest) (suc (length rest) % 2 == 0)

hex_by : (at : ℕ) (text inside : List ℕ) (w : Bool) → text ≡ 48 ∷ 120 ∷ inside → is_bytes_text (before Run inside) ≡ w
    → Said s.hex at text (cond w (Ok (length (before Run inside) + 2)) (Err (fault.BadHex at)))
hex_by at text inside true is whole =
    cuts s.hex text (48 ∷ 120 ∷ before Run inside) (after Run inside) (length (before Run inside) + 2) (is ∙ ap (λ (l : List ℕ). 48 ∷ 120 ∷ l) (sym (before-after Run inside))) (omega arith) (omega arith)
    (hex_is_bytes (before Run inside) ∙ whole, none_after is_letter_or_digit Run (λ b rest e. not-true (is_letter_or_digit b) e) inside)
hex_by at text inside false is whole =
    first_here at text t.bad_hex
    (t.hex_digits (before Run inside) (after Run inside) (is ∙ ap (λ (l : List ℕ). 48 ∷ 120 ∷ l) (sym (before-after Run inside)))
    (all_before is_letter_or_digit Run (λ b rest e. not-false (is_letter_or_digit b) e) inside)
    (none_after is_letter_or_digit Run (λ b rest e. not-true (is_letter_or_digit b) e) inside)
    (hex_is_bytes (before Run inside) ∙ whole))

pub hex_said : (at : ℕ) (text : List ℕ) → text ≡ hex_mark ++ drop 2 text → Said s.hex at text (hex_length at text)
unfolding hex_length
hex_said at text is = hex_by at text (drop 2 text) (is_bytes_text (before Run (drop 2 text))) is refl
