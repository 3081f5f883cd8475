-- A line read word by word: what each step reads and leaves.
use Rattle.std.proofs.Common.{◌≡◌, ◌≢◌, ℕ, ◌+◌, ◌==◌, Bool, true, false, not, nat_le, nat_lt, List, [], ◌∷◌, ◌++◌, length, All, Option, Some, None, Result, Ok, Err, if◌then◌else◌, refl, sym, ap, ◌∙◌, arith}
use Rattle.std.specs.Option.{ok_or}
use Rattle.std.specs.List.{onto_first, position, position_or_len}
use Rattle.std.proofs.lemmas.Bool.Decides.{nat_tests}
use Rattle.std.proofs.lemmas.List.Elements.{All-head, All-tail}
use Rattle.std.proofs.lemmas.List.Splits.{slice_split_at, slice_split_none, join_with_byte-slice_split}
use Rattle.policy_model.specs.Contents.{IsRuleText}
use Rattle.line_model.specs.Words.{words, spaced}
use Rattle.line_model.specs.LineFaults.{LineFault, requirement_too_long}
use Rattle.line_model.specs.Left.{Left, ◌>>=◌, word_of, word_at, value_at}
use Rattle.line_model.specs.Requirements.{rest_of, rest_at, of_one_line, text_within, text_at}
use Rattle.line_laws.proofs.NoSpaces.{HasNoSpace, is_space}

-- what is left of a line behind so many columns
abbrev pub from : ℕ → List ℕ → Left
from column text = record { column = column; words = words text }

-- nothing is left
abbrev pub done_at : ℕ → Left
done_at column = record { column = column; words = [] }

-- the next step, where this one read something
pub goes_on : {A B : Type 0} (read : Result A LineFault) (x : A) (next : A → Result B LineFault) → read ≡ Ok x → (read >>= next) ≡ next x
goes_on read x next is = ap (λ r. r >>= next) is

pub words_on : (word rest : List ℕ) → HasNoSpace word → words (word ++ 32 ∷ rest) ≡ word ∷ words rest
words_on word rest h = slice_split_at is_space word 32 rest h refl

-- the column behind a word and its space
abbrev pub past : ℕ → List ℕ → ℕ
past column word = column + length word + 1

pub words_last : (word : List ℕ) → HasNoSpace word → words word ≡ word ∷ []
words_last word h = slice_split_none is_space word h

-- a word, and the words behind it
pub word_on : (column : ℕ) (word rest : List ℕ) → HasNoSpace word → word_at (from column (word ++ 32 ∷ rest)) ≡ Ok (word, from (past column word) rest)
word_on column word rest h = ap (word_of column) (words_on word rest h)

-- a step that reads the next word, and the step behind it
pub word_step : {B : Type 0} (column : ℕ) (word rest : List ℕ) (next : List ℕ × Left → Result B LineFault) → HasNoSpace word
    → (word_at (from column (word ++ 32 ∷ rest)) >>= next) ≡ next (word, from (past column word) rest)
word_step column word rest next h = ap (λ (r : Result (List ℕ × Left) LineFault). r >>= next) (word_on column word rest h)

-- what a word's reading gives
abbrev given : {A : Type 0} → (List ℕ → Option A) → LineFault → List ℕ × Left → Result (A × Left) LineFault
given read fault word = do
  value ← ok_or (read word.0) fault
  Ok (value, word.1)

pub value_on : {A : Type 0} (read : List ℕ → Option A) (fault : LineFault) (column : ℕ) (word rest : List ℕ) (value : A) → HasNoSpace word → read word ≡ Some value
    → value_at read fault (from column (word ++ 32 ∷ rest)) ≡ Ok (value, from (past column word) rest)
value_on {A} read fault column word rest value h is =
    word_step column word rest (given read fault) h
    ∙ ap (λ (o : Option A). ok_or o fault >>= (λ value. Ok (value, from (past column word) rest))) is

-- a step that reads a value, and the step behind it
pub value_step : {A B : Type 0} (read : List ℕ → Option A) (fault : LineFault) (column : ℕ) (word rest : List ℕ) (value : A) (next : A × Left → Result B LineFault)
    → HasNoSpace word → read word ≡ Some value
    → (value_at read fault (from column (word ++ 32 ∷ rest)) >>= next) ≡ next (value, from (past column word) rest)
value_step {A} read fault column word rest value next h is = ap (λ (r : Result (A × Left) LineFault). r >>= next) (value_on read fault column word rest value h is)

-- the last word
pub value_last : {A : Type 0} (read : List ℕ → Option A) (fault : LineFault) (column : ℕ) (word : List ℕ) (value : A) → HasNoSpace word → read word ≡ Some value
    → value_at read fault (from column word) ≡ Ok (value, done_at (past column word))
value_last {A} read fault column word value h is =
    ap (λ (ws : List (List ℕ)). word_of column ws >>= given read fault) (words_last word h)
    ∙ ap (λ (o : Option A). ok_or o fault >>= (λ value. Ok (value, done_at (past column word)))) is

-- the rest of a line is all that is left

abbrev HasFirst : List (List ℕ) → Type 0
HasFirst ws = (first : List ℕ) × (rest : List (List ℕ)) × (ws ≡ first ∷ rest)

onto_has_first : (b : ℕ) (ws : List (List ℕ)) → HasFirst (onto_first b ws)
onto_has_first b [] = (b ∷ [], [], refl)
onto_has_first b (w ∷ ws) = (b ∷ w, ws, refl)

one_has_first : (space : Bool) (b : ℕ) (ws : List (List ℕ)) → HasFirst (if space then [] ∷ ws else onto_first b ws)
one_has_first true b ws = ([], ws, refl)
one_has_first false b ws = onto_has_first b ws

words_have_first : (text : List ℕ) → HasFirst (words text)
words_have_first [] = ([], [], refl)
words_have_first (b ∷ text) = one_has_first (b == 32) b (words text)

rest_first : (column : ℕ) (ws : List (List ℕ)) → HasFirst ws → rest_of column ws ≡ Ok (spaced ws)
rest_first column ws (first, rest, is) = ap (rest_of column) is ∙ ap (λ l. Ok (spaced l)) (sym is)

pub rest_on : (column : ℕ) (text : List ℕ) → rest_at (from column text) ≡ Ok text
rest_on column text = rest_first column (words text) (words_have_first text) ∙ ap Ok (join_with_byte-slice_split 32 text)

abbrev is_line_feed : ℕ → Bool
is_line_feed b = b == 10

none_before : (text : List ℕ) → All (λ b. b ≢ 10) text → position_or_len is_line_feed text ≡ length text
none_before [] h = refl
none_before (b ∷ text) h =
    let rest = none_before text (All-tail (λ b. b ≢ 10) b text h) in
    let other : is_line_feed b ≡ false = different b (All-head (λ b. b ≢ 10) b text h) in
    ap (λ (c : Bool). if not c then 1 + position_or_len is_line_feed text else 0) other ∙ omega (arith, rest)
  where
    different : (b : ℕ) → b ≢ 10 → (b == 10) ≡ false
    different b h = grind (arith, nat_tests, h)

no_line_feed : (text : List ℕ) → All (λ b. b ≢ 10) text → position is_line_feed text ≡ None
no_line_feed text h =
    let past : nat_lt (length text) (length text) ≡ false = grind (arith, nat_tests) in
    ap (λ k. if nat_lt k (length text) then Some k else None) (none_before text h)
    ∙ ap (λ (c : Bool). if c then Some (length text) else None) past

pub text_on : (column : ℕ) (text : List ℕ) → IsRuleText text → text_at (from column text) ≡ Ok text
text_on column text h =
    let short : nat_le (length text) 4096 ≡ true = grind (arith, nat_tests, h.short) in
    goes_on (rest_at (from column text)) text (text_within column) (rest_on column text)
    ∙ ap (λ (c : Bool). if c then of_one_line column text (position is_line_feed text) else Err requirement_too_long) short
    ∙ ap (of_one_line column text) (no_line_feed text h.one_line)
