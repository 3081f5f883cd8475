-- Pieces of text that are cut into the same terminals whatever follows them, or whatever follows that can't
-- go on with them.
use Rattle.std.proofs.Common.{◌≡◌, ◌≢◌, ℕ, Bool, true, false, not, ◌&&◌, ◌||◌, ◌==◌, inl, inr, nat_eq, List, [], ◌∷◌, ◌++◌, codes, Some, is_some, if◌then◌else◌, refl, sym, ap, subst, append_assoc, true≢false, arith}
use Rattle.std.proofs.lemmas.Bool.Decides.{nat_tests}
use Rattle.std.proofs.lemmas.Slice.Eq.{starts_is, bytes_eq-Decides}
use Rattle.std.proofs.lemmas.Bool.Decides.{Decides-eqb}
use Rattle.std.proofs.lemmas.List.Splits.{join_with_byte-slice_split}
use Rattle.std.specs.List.{list_all, starts_with, slice_split, join_with_byte}
use Rattle.std.specs.Prelude.{drop, length}
use Rattle.std.specs.Str.{bytes_eq}
use Rattle.req_tree.specs.NumericOrder.{is_digit}
use Rattle.req_tree.specs.Meaning.{has_part}
use Rattle.req_grammar.specs.Words.{signs, under}
use Rattle.req_grammar.specs.Tokens as k
use Rattle.req_grammar.specs.Tokens.{Kind, IsToken, IsLongest, goes_on, is_run, is_letter, is_letter_or_digit, hash_mark, is_symbol, is_word, is_quoted, quoted_text, quoted_value, is_plain, is_marked}
use Rattle.req_grammar.specs.Terminals.{Terminal, terminal_of}
use Rattle.dumped_text.proofs.Bools.{both_hold, or_is_false, or_left, was_false, not_so, differ, same, all_wider, all_append, all_at}
use Rattle.dumped_text.proofs.Cutting.{Cut, gap, token}

-- a byte that may go on with a word, a number or a hash before it
abbrev pub sticks : ℕ → Bool
sticks b = is_letter_or_digit b || b == 46 || b == 34

-- what follows can't go on with what stands before it
abbrev pub Stops : List ℕ → Type 0
Stops rest = goes_on sticks rest ≡ false

-- cut into these terminals, whatever follows
abbrev pub Loose : List ℕ → List Terminal → Type 0
Loose text said = (rest : List ℕ) (ts : List Terminal) → Cut rest ts → Cut (text ++ rest) (said ++ ts)

-- cut into these terminals where what follows stops
abbrev pub Piece : List ℕ → List Terminal → Type 0
Piece text said = (rest : List ℕ) (ts : List Terminal) → Stops rest → Cut rest ts → Cut (text ++ rest) (said ++ ts)

-- the text itself stops, if what follows it does
abbrev pub StopsAt : List ℕ → Type 0
StopsAt text = (rest : List ℕ) → Stops rest → Stops (text ++ rest)

-- ---- pieces behind pieces

regrouped : (a b rest : List ℕ) (x y ts : List Terminal) → Cut (a ++ (b ++ rest)) (x ++ (y ++ ts)) → Cut (a ++ b ++ rest) (x ++ y ++ ts)
regrouped a b rest x y ts cut =
    subst (λ l. Cut l (x ++ y ++ ts)) (sym (append_assoc a b rest)) (subst (Cut (a ++ (b ++ rest))) (sym (append_assoc x y ts)) cut)

pub piece_piece : (a b : List ℕ) (x y : List Terminal) → Piece a x → StopsAt b → Piece b y → Piece (a ++ b) (x ++ y)
piece_piece a b x y p s q rest ts stop cut = regrouped a b rest x y ts (p (b ++ rest) (y ++ ts) (s rest stop) (q rest ts stop cut))

pub loose_piece : (a b : List ℕ) (x y : List Terminal) → Loose a x → Piece b y → Piece (a ++ b) (x ++ y)
loose_piece a b x y p q rest ts stop cut = regrouped a b rest x y ts (p (b ++ rest) (y ++ ts) (q rest ts stop cut))

pub loose_loose : (a b : List ℕ) (x y : List Terminal) → Loose a x → Loose b y → Loose (a ++ b) (x ++ y)
loose_loose a b x y p q rest ts cut = regrouped a b rest x y ts (p (b ++ rest) (y ++ ts) (q rest ts cut))

pub piece_loose : (a b : List ℕ) (x y : List Terminal) → Piece a x → ((rest : List ℕ) → Stops (b ++ rest)) → Loose b y → Loose (a ++ b) (x ++ y)
piece_loose a b x y p s q rest ts cut = regrouped a b rest x y ts (p (b ++ rest) (y ++ ts) (s rest) (q rest ts cut))

pub as_piece : (a : List ℕ) (x : List Terminal) → Loose a x → Piece a x
as_piece a x p rest ts stop cut = p rest ts cut

-- ---- what is dropped

pub space : Loose (32 ∷ []) []
space rest ts cut = gap (32 ∷ []) rest ts (inl (32, refl, refl)) cut

pub line_end : Loose (10 ∷ []) []
line_end rest ts cut = gap (10 ∷ []) rest ts (inl (10, refl, refl)) cut

abbrev no_slash : ℕ → Bool
no_slash b = not (b == 47)

and_false : (a : Bool) → (a && false) ≡ false
and_false true = refl
and_false false = refl

no_mark : (b : ℕ) (rest : List ℕ) → list_all no_slash rest ≡ true → starts_with nat_eq (b ∷ (rest ++ codes "*")) (codes "*/") ≡ false
no_mark b [] h = and_false (nat_eq 42 b)
no_mark b (c ∷ rest) h = not_so _ (λ e. slash (both_hold (nat_eq 47 c) _ (both_hold (nat_eq 42 b) _ e).1).0)
  where
    slash : nat_eq 47 c ≡ true → ⊥
    slash e = true≢false (sym (subst (λ (n : ℕ). no_slash n ≡ true) (sym (same 47 c e)) (both_hold (no_slash c) _ h).0))

no_end : (inside : List ℕ) → list_all no_slash inside ≡ true → has_part (inside ++ codes "*") (codes "*/") ≡ false
no_end [] h = refl
no_end (b ∷ rest) h =
    let parts = both_hold (no_slash b) (list_all no_slash rest) h in
    or_is_false _ _ (no_mark b rest parts.1) (no_end rest parts.1)

pub comment : (inside : List ℕ) → list_all no_slash inside ≡ true → Loose (codes "/*" ++ inside ++ codes "*/") []
comment inside h rest ts cut = gap (codes "/*" ++ inside ++ codes "*/") rest ts (inr (inl (inside, refl, no_end inside h))) cut

-- ---- symbols

-- what holds of the bytes of each symbol holds of bytes under which a symbol stands
abbrev pub Each : {A : Type 0} → (List ℕ → Type 0) → List (List ℕ × A) → Type 0
Each P [] = Unit {0}
Each P (entry ∷ rest) = P entry.0 × Each P rest

pub under_each : {A : Type 0} (P : List ℕ → Type 0) (table : List (List ℕ × A)) (bytes : List ℕ) → Each P table → is_some (under bytes table) ≡ true → P bytes
under_each P [] bytes all e = absurd (true≢false (sym e))
under_each P (entry ∷ rest) bytes all e = by (under_each P rest bytes all.1) (bytes_eq entry.0 bytes) refl e
  where
    by : (is_some (under bytes rest) ≡ true → P bytes) → (b : Bool) → bytes_eq entry.0 bytes ≡ b → is_some (if b then Some entry.1 else under bytes rest) ≡ true → P bytes
    by later true found h = subst P ((bytes_eq-Decides entry.0 bytes).0 found) all.0
    by later false found h = later h

-- a symbol begins with no letter and no quote
symbol_no_letter : (s : List ℕ) → is_symbol s ≡ true → goes_on is_letter s ≡ false
symbol_no_letter s e =
    under_each (λ (bytes : List ℕ). goes_on is_letter bytes ≡ false) signs s
    (refl, (refl, (refl, (refl, (refl, (refl, (refl, (refl, (refl, (refl, (refl, (refl, (refl, (refl, tt)))))))))))))) e

pub symbol_no_quote : (s : List ℕ) → is_symbol s ≡ true → goes_on (nat_eq 34) s ≡ false
symbol_no_quote s e =
    under_each (λ (bytes : List ℕ). goes_on (nat_eq 34) bytes ≡ false) signs s
    (refl, (refl, (refl, (refl, (refl, (refl, (refl, (refl, (refl, (refl, (refl, (refl, (refl, (refl, tt)))))))))))))) e

-- of the symbols only = < and > begin another
abbrev may_go_on : ℕ → Bool
may_go_on b = nat_eq 60 b || nat_eq 61 b || nat_eq 62 b

abbrev goes_on_fitly : List ℕ → Bool
goes_on_fitly [] = true
goes_on_fitly (b ∷ []) = true
goes_on_fitly (b ∷ c ∷ rest) = may_go_on b

symbol_goes_on : (s : List ℕ) → is_symbol s ≡ true → goes_on_fitly s ≡ true
symbol_goes_on s e =
    under_each (λ (bytes : List ℕ). goes_on_fitly bytes ≡ true) signs s
    (refl, (refl, (refl, (refl, (refl, (refl, (refl, (refl, (refl, (refl, (refl, (refl, (refl, (refl, tt)))))))))))))) e

-- a quoted text begins with a quote
quoted_begins : (s : List ℕ) → is_quoted s ≡ true → goes_on (nat_eq 34) s ≡ true
quoted_begins s e = subst (λ (l : List ℕ). goes_on (nat_eq 34) l ≡ true) ((bytes_eq-Decides (quoted_text (quoted_value s)) s).0 e) refl

-- of the bytes a symbol that no other begins with
pub record IsLone (c : ℕ) : Type 0 where
  pub symbol : is_symbol (c ∷ []) ≡ true
  pub digit : is_digit c ≡ false
  pub letter : is_letter c ≡ false
  pub quote : nat_eq 34 c ≡ false
  pub hash : nat_eq 72 c ≡ false
  pub more : may_go_on c ≡ false

lone_plain : (c d : ℕ) (more : List ℕ) → IsLone c → is_plain (c ∷ d ∷ more) ≡ false
lone_plain c d more h =
    or_is_false _ _
    (or_is_false _ _
    (not_so _ (λ e. differ (may_go_on c) (symbol_goes_on (c ∷ d ∷ more) e) h.more))
    (not_so _ (λ e. differ (nat_eq 34 c) (quoted_begins (c ∷ d ∷ more) e) h.quote)))
    (ap (λ b. b && list_all (is_run is_letter_or_digit) (slice_split (λ b. b == 46) (c ∷ d ∷ more))) h.letter)

pub lone : (c : ℕ) → IsLone c → Loose (c ∷ []) (terminal_of k.symbol (c ∷ []) ∷ [])
lone c h rest ts cut = token k.symbol (c ∷ []) rest ts (unmarked, (h.symbol, longest)) cut
  where
    unmarked : is_marked (c ∷ rest) ≡ false
    unmarked = or_is_false _ _ (not_so _ (λ e. differ (nat_eq 72 c) (both_hold (nat_eq 72 c) _ e).0 h.hash)) h.digit

    longest : (more others : List ℕ) → rest ≡ more ++ others → more ≢ [] → is_plain (c ∷ more) ≡ false
    longest [] others e some = absurd (some refl)
    longest (d ∷ more) others e some = lone_plain c d more h

pub is_lone : (c : ℕ) → is_symbol (c ∷ []) ≡ true → is_digit c ≡ false → is_letter c ≡ false → nat_eq 34 c ≡ false → nat_eq 72 c ≡ false → may_go_on c ≡ false → IsLone c
is_lone c a b d e f g = record { symbol = a; digit = b; letter = d; quote = e; hash = f; more = g }

-- a symbol with a space behind it
pub spaced : (front : List ℕ) → is_symbol front ≡ true → ((rest : List ℕ) → is_marked (front ++ rest) ≡ false) → ((more : List ℕ) → is_plain (front ++ 32 ∷ more) ≡ false)
    → Loose (front ++ 32 ∷ []) (terminal_of k.symbol front ∷ [])
spaced front is unmarked longest rest ts cut =
    subst (λ l. Cut l (terminal_of k.symbol front ∷ ts)) (sym (append_assoc front (32 ∷ []) rest))
    (token k.symbol front (32 ∷ rest) ts (unmarked (32 ∷ rest), (is, all)) (space rest ts cut))
  where
    all : (more others : List ℕ) → 32 ∷ rest ≡ more ++ others → more ≢ [] → is_plain (front ++ more) ≡ false
    all [] others e some = absurd (some refl)
    all (d ∷ more) others e some =
        let head : 32 ≡ d = ap first e in
        subst (λ (n : ℕ). is_plain (front ++ n ∷ more) ≡ false) head (longest more)
      where
        first : List ℕ → ℕ
        first [] = 0
        first (b ∷ l) = b

-- ---- words

abbrev pub wordy : ℕ → Bool
wordy b = is_letter_or_digit b || b == 46

run_wordy : (s : List ℕ) → is_run is_letter_or_digit s ≡ true → list_all wordy s ≡ true
run_wordy s h = all_wider is_letter_or_digit wordy (λ b e. or_left _ _ e) s (both_hold (goes_on is_letter_or_digit s) _ h).1

joined_wordy : (parts : List (List ℕ)) → list_all (is_run is_letter_or_digit) parts ≡ true → list_all wordy (join_with_byte 46 parts) ≡ true
joined_wordy [] h = refl
joined_wordy (x ∷ []) h = run_wordy x (both_hold (is_run is_letter_or_digit x) _ h).0
joined_wordy (x ∷ y ∷ parts) h =
    let both = both_hold (is_run is_letter_or_digit x) (list_all (is_run is_letter_or_digit) (y ∷ parts)) h in
    all_append wordy x (46 ∷ join_with_byte 46 (y ∷ parts)) (run_wordy x both.0) (joined_wordy (y ∷ parts) both.1)

word_wordy : (s : List ℕ) → is_word s ≡ true → list_all wordy s ≡ true
word_wordy s h =
    subst (λ (l : List ℕ). list_all wordy l ≡ true) (join_with_byte-slice_split 46 s)
    (joined_wordy (slice_split (λ b. b == 46) s) (both_hold (goes_on is_letter s) _ h).1)

goes_on-append : (sort : ℕ → Bool) (a b : List ℕ) → goes_on sort a ≡ true → goes_on sort (a ++ b) ≡ true
goes_on-append sort [] b h = absurd (true≢false (sym h))
goes_on-append sort (x ∷ a) b h = h

word_begins : (s rest : List ℕ) → is_word s ≡ true → goes_on is_letter (s ++ rest) ≡ true
word_begins s rest h = goes_on-append is_letter s rest (both_hold (goes_on is_letter s) _ h).0

no_letter_quote : (s : List ℕ) → goes_on (nat_eq 34) s ≡ true → goes_on is_letter s ≡ false
no_letter_quote [] h = refl
no_letter_quote (b ∷ rest) h = subst (λ (n : ℕ). is_letter n ≡ false) (same 34 b h) refl

-- no longer front is a token
word_longest : (front : List ℕ) (c : ℕ) (more : List ℕ) → is_word front ≡ true → sticks c ≡ false → is_plain (front ++ c ∷ more) ≡ false
word_longest front c more h s =
    let letter = word_begins front (c ∷ more) h in
    or_is_false _ _
    (or_is_false _ _
    (not_so _ (λ e. differ _ letter (symbol_no_letter (front ++ c ∷ more) e)))
    (not_so _ (λ e. differ _ letter (no_letter_quote (front ++ c ∷ more) (quoted_begins (front ++ c ∷ more) e)))))
    (not_so _ (λ e. differ (wordy c) (all_at wordy front c more (word_wordy (front ++ c ∷ more) e)) (was_false (wordy c) (c == 34) s).0))

letter_no_digit : (b : ℕ) → is_letter b ≡ true → is_digit b ≡ false
letter_no_digit b h = grind (arith, nat_tests, h)

goes_on_letter_no_digit : (s : List ℕ) → goes_on is_letter s ≡ true → goes_on is_digit s ≡ false
goes_on_letter_no_digit [] h = refl
goes_on_letter_no_digit (b ∷ rest) h = letter_no_digit b h

abbrev pub second : List ℕ → ℕ
second [] = 0
second (a ∷ []) = 0
second (a ∷ b ∷ rest) = b

pub starts : (mark text : List ℕ) → starts_with nat_eq text mark ≡ true → text ≡ mark ++ drop (length mark) text
starts mark text e = (starts_is Decides-eqb text mark (starts_with nat_eq text mark) refl).0 e

-- a word and what stops behind it don't begin with H"
no_hash : (front rest : List ℕ) → is_word front ≡ true → Stops rest → starts_with nat_eq (front ++ rest) hash_mark ≡ false
no_hash front rest h s = not_so _ (λ e. at front rest (word_wordy front h) s (both_hold (goes_on is_letter front) _ h).0 (ap second (starts hash_mark (front ++ rest) e)))
  where
    at : (front rest : List ℕ) → list_all wordy front ≡ true → Stops rest → goes_on is_letter front ≡ true → second (front ++ rest) ≡ 34 → ⊥
    at [] rest h s l e = true≢false (sym l)
    at (b ∷ []) [] h s l e = omega (arith, e)
    at (b ∷ []) (c ∷ rest) h s l e = true≢false (subst (λ (n : ℕ). sticks n ≡ false) e s)
    at (b ∷ c ∷ front) rest h s l e = true≢false (sym (subst (λ (n : ℕ). wordy n ≡ true) e (both_hold (wordy c) _ (both_hold (wordy b) _ h).1).0))

pub word_piece : (front : List ℕ) → is_word front ≡ true → Piece front (terminal_of k.word front ∷ [])
word_piece front h rest ts stop cut = token k.word front rest ts (unmarked, (h, longest)) cut
  where
    unmarked : is_marked (front ++ rest) ≡ false
    unmarked = or_is_false _ _ (no_hash front rest h stop) (goes_on_letter_no_digit (front ++ rest) (word_begins front rest h))

    longest : (more others : List ℕ) → rest ≡ more ++ others → more ≢ [] → is_plain (front ++ more) ≡ false
    longest [] others e some = absurd (some refl)
    longest (c ∷ more) others e some = word_longest front c more h (subst (λ (l : List ℕ). goes_on sticks l ≡ false) e stop)

-- a word with a space behind it
pub word_space : (front : List ℕ) → is_word front ≡ true → Loose (front ++ 32 ∷ []) (terminal_of k.word front ∷ [])
word_space front h = piece_loose front (32 ∷ []) (terminal_of k.word front ∷ []) [] (word_piece front h) (λ rest. refl) space
