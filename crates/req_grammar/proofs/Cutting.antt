-- Rows on texts: a text is cut as a list of sorts and lengths says, where each front that it names is tested.
use Rattle.std.proofs.Common.{◌≡◌, ◌≢◌, ℕ, ◌+◌, ◌-◌, Bool, true, false, not, ◌&&◌, ◌||◌, ◌==◌, nat_eq, List, [], ◌∷◌, ◌++◌, length, take, drop, codes, refl, sym, inl, inr, subst, true≢false}
use Rattle.std.specs.List.{list_all, starts_with}
use Rattle.std.specs.Str.{bytes_eq}
use Rattle.std.proofs.lemmas.List.{take-append-drop}
use Rattle.std.proofs.lemmas.Slice.Eq.{bytes_eq-Decides}
use Rattle.req_tree.specs.Meaning.{has_part}
use Rattle.req_tree.specs.NumericOrder.{is_digit}
use Rattle.req_grammar.specs.Tokens as k
use Rattle.req_grammar.specs.Tokens.{Token, Tokens, goes_on, hex_mark, is_hash, is_hex, is_integer, is_letter_or_digit, is_marked, is_quoted, is_symbol, is_word}
use Rattle.req_grammar.specs.Sorts.{Sort, hash, hex, integer, word, quoted, symbol, blank, block, line, IsCut, is_blank}
use Rattle.req_grammar.specs.TokenFaults.{FirstFault, Stops, TokenFault, behind_gap, behind_token, here}
use Rattle.req_grammar.proofs.Cuts.{add, both_true, not_false}
use Rattle.req_grammar.proofs.Longest.{longest, no_longer}

-- what a block comment has between its ends
abbrev inside : List ℕ → List ℕ
inside front = take (length front - 4) (drop 2 front)

-- the front may be cut off as one of this sort
abbrev fits : Sort → List ℕ → List ℕ → Bool
fits hash f l = is_hash f
fits hex f l = is_hex f && not (goes_on is_letter_or_digit l)
fits integer f l = is_integer f && not (goes_on is_digit l) && not (starts_with nat_eq (f ++ l) hex_mark)
fits word f l = not (is_marked (f ++ l)) && is_word f && no_longer f l
fits quoted f l = not (is_marked (f ++ l)) && is_quoted f && no_longer f l
fits symbol f l = not (is_marked (f ++ l)) && is_symbol f && no_longer f l
fits blank [] l = false
fits blank (b ∷ []) l = is_blank b
fits blank (b ∷ c ∷ f) l = false
fits block f l = bytes_eq f (codes "/*" ++ inside f ++ codes "*/") && not (has_part (inside f ++ codes "*") (codes "*/"))
fits line f l =
    (starts_with nat_eq f (codes "//") || starts_with nat_eq f (codes "#")) && list_all (λ b. not (b == 10)) f && not (goes_on (λ b. not (b == 10)) l)

plain_fits : (form : List ℕ → Bool) (f l : List ℕ) → (not (is_marked (f ++ l)) && form f && no_longer f l) ≡ true → (is_marked (f ++ l) ≡ false) × k.IsLongest form f l
plain_fits form f l e =
    let last = both_true (not (is_marked (f ++ l)) && form f) (no_longer f l) e in
    let first = both_true (not (is_marked (f ++ l))) (form f) last.0 in
    (not_false (is_marked (f ++ l)) first.0, (first.1, longest f l last.1))

pub fits_is : (s : Sort) (f l : List ℕ) → fits s f l ≡ true → IsCut s f l
fits_is hash f l e = e
fits_is hex f l e = let p = both_true (is_hex f) (not (goes_on is_letter_or_digit l)) e in (p.0, not_false _ p.1)
fits_is integer f l e =
    let p = both_true (is_integer f && not (goes_on is_digit l)) (not (starts_with nat_eq (f ++ l) hex_mark)) e in
    let q = both_true (is_integer f) (not (goes_on is_digit l)) p.0 in
    (q.0, not_false _ q.1, not_false _ p.1)
fits_is word f l e = plain_fits is_word f l e
fits_is quoted f l e = plain_fits is_quoted f l e
fits_is symbol f l e = plain_fits is_symbol f l e
fits_is blank [] l e = absurd (true≢false (sym e))
fits_is blank (b ∷ []) l e = (b, refl, e)
fits_is blank (b ∷ c ∷ f) l e = absurd (true≢false (sym e))
fits_is block f l e =
    let p = both_true (bytes_eq f (codes "/*" ++ inside f ++ codes "*/")) (not (has_part (inside f ++ codes "*") (codes "*/"))) e in
    (inside f, (bytes_eq-Decides f (codes "/*" ++ inside f ++ codes "*/")).0 p.0, not_false _ p.1)
fits_is line f l e =
    let p = both_true ((starts_with nat_eq f (codes "//") || starts_with nat_eq f (codes "#")) && list_all (λ b. not (b == 10)) f) (not (goes_on (λ b. not (b == 10)) l)) e in
    let q = both_true (starts_with nat_eq f (codes "//") || starts_with nat_eq f (codes "#")) (list_all (λ b. not (b == 10)) f) p.0 in
    (q.0, q.1, not_false _ p.1)

-- fronts one after another, each by its sort and length
abbrev pub Cuts : Type 0
Cuts = List (Sort × ℕ)

abbrev pub all_fit : List ℕ → Cuts → Bool
all_fit text [] = true
all_fit text (c ∷ cuts) = fits c.0 (take c.1 text) (drop c.1 text) && all_fit (drop c.1 text) cuts

-- what follows them, where that begins, and their tokens
abbrev pub left_of : List ℕ → Cuts → List ℕ
left_of text [] = text
left_of text (c ∷ cuts) = left_of (drop c.1 text) cuts

abbrev pub place_of : ℕ → List ℕ → Cuts → ℕ
place_of at text [] = at
place_of at text (c ∷ cuts) = place_of (at + length (take c.1 text)) (drop c.1 text) cuts

abbrev pub tokens_of : ℕ → List ℕ → Cuts → List Token
tokens_of at text [] = []
tokens_of at text (c ∷ cuts) = add c.0 at (length (take c.1 text)) (tokens_of (at + length (take c.1 text)) (drop c.1 text) cuts)

-- a front that is cut off, before the tokens of what follows it
with_front : (s : Sort) (at : ℕ) (text f l : List ℕ) (list : List Token) → text ≡ f ++ l → IsCut s f l → Tokens (at + length f) l list → Tokens at text (add s at (length f) list)
with_front hash at text f l list e h later = k.one at text f l list k.hash e h later
with_front hex at text f l list e h later = k.one at text f l list k.hex e h later
with_front integer at text f l list e h later = k.one at text f l list k.integer e h later
with_front word at text f l list e h later = k.one at text f l list k.word e h later
with_front quoted at text f l list e h later = k.one at text f l list k.quoted e h later
with_front symbol at text f l list e h later = k.one at text f l list k.symbol e h later
with_front blank at text f l list e h later = k.dropped at text f l list e (inl h) later
with_front block at text f l list e h later = k.dropped at text f l list e (inr (inl h)) later
with_front line at text f l list e h later = k.dropped at text f l list e (inr (inr h)) later

fault_behind : (s : Sort) (at place : ℕ) (text f l : List ℕ) (fault : TokenFault) → text ≡ f ++ l → IsCut s f l → FirstFault (at + length f) l fault place → FirstFault at text fault place
fault_behind hash at place text f l fault e h later = behind_token at place text f l fault k.hash e h later
fault_behind hex at place text f l fault e h later = behind_token at place text f l fault k.hex e h later
fault_behind integer at place text f l fault e h later = behind_token at place text f l fault k.integer e h later
fault_behind word at place text f l fault e h later = behind_token at place text f l fault k.word e h later
fault_behind quoted at place text f l fault e h later = behind_token at place text f l fault k.quoted e h later
fault_behind symbol at place text f l fault e h later = behind_token at place text f l fault k.symbol e h later
fault_behind blank at place text f l fault e h later = behind_gap at place text f l fault e (inl h) later
fault_behind block at place text f l fault e h later = behind_gap at place text f l fault e (inr (inl h)) later
fault_behind line at place text f l fault e h later = behind_gap at place text f l fault e (inr (inr h)) later

cut_at : (at : ℕ) (text : List ℕ) (cuts : Cuts) → all_fit text cuts ≡ true → left_of text cuts ≡ [] → Tokens at text (tokens_of at text cuts)
cut_at at text [] fit e = subst (λ (l : List ℕ). Tokens at l []) (sym e) (k.none at)
cut_at at text (c ∷ cuts) fit e =
    let p = both_true (fits c.0 (take c.1 text) (drop c.1 text)) (all_fit (drop c.1 text) cuts) fit in
    with_front c.0 at text (take c.1 text) (drop c.1 text) _ (sym (take-append-drop c.1 text)) (fits_is c.0 (take c.1 text) (drop c.1 text) p.0)
    (cut_at (at + length (take c.1 text)) (drop c.1 text) cuts p.1 e)

fault_at : (at n : ℕ) (text : List ℕ) (cuts : Cuts) (fault : TokenFault) → all_fit text cuts ≡ true → Stops (left_of text cuts) fault n → FirstFault at text fault (place_of at text cuts + n)
fault_at at n text [] fault fit s = here at n text fault s
fault_at at n text (c ∷ cuts) fault fit s =
    let p = both_true (fits c.0 (take c.1 text) (drop c.1 text)) (all_fit (drop c.1 text) cuts) fit in
    fault_behind c.0 at _ text (take c.1 text) (drop c.1 text) fault (sym (take-append-drop c.1 text)) (fits_is c.0 (take c.1 text) (drop c.1 text) p.0)
    (fault_at (at + length (take c.1 text)) n (drop c.1 text) cuts fault p.1 s)

-- a text with a first byte
pub some_bytes : (b : ℕ) (rest : List ℕ) → b ∷ rest ≢ []
some_bytes b rest e = absurd cc

-- the tokens of a text that is cut off whole
pub cut : (text : List ℕ) (cuts : Cuts) → all_fit text cuts ≡ true → left_of text cuts ≡ [] → Tokens 0 text (tokens_of 0 text cuts)
cut text cuts fit e = cut_at 0 text cuts fit e

-- the first fault of a text that stops behind these fronts
pub stop : (text : List ℕ) (cuts : Cuts) (fault : TokenFault) (n : ℕ) → all_fit text cuts ≡ true → Stops (left_of text cuts) fault n → FirstFault 0 text fault (place_of 0 text cuts + n)
stop text cuts fault n fit s = fault_at 0 n text cuts fault fit s
