-- Numbers, slots and tests of values, read from the front of a list of terminals.
use Rattle.std.specs.Prelude.{ℕ, ℤ, pos, negsuc, neg_ℤ, ◌^◌, nat_lt, nat_le, if◌then◌else◌, List, Option, Some, None, Ok}
use Rattle.req_tree.specs.declared.matching.Match.{Match}
use Rattle.req_tree.specs.declared.matching.Match.TheVariants.{Exists, Absent, Equal, Contains, Begins, Ends, Less, Greater, LessEqual, GreaterEqual}
use Rattle.req_grammar.specs.Words as w
use Rattle.req_grammar.specs.Words.{Sign, Word}
use Rattle.req_grammar.specs.Terminals.{Terminal, sign, word, int}
use Rattle.req_primary.specs.Steps.{Reading, Reader, ◌>>=◌, refused, cut, first_at, text_at, star_at}

-- a number without a sign, refused from 2^31 on
abbrev pub positive_of : ℕ → List Terminal → ℕ → List Terminal → Reading ℤ
positive_of size here n rest = if nat_lt n (2 ^ 31) then Ok (pos n, rest) else refused size here

-- a number behind a dash, refused above 2^31
abbrev pub below_zero : ℕ → List Terminal → ℕ → List Terminal → Reading ℤ
below_zero size here n rest = if nat_le n (2 ^ 31) then Ok (neg_ℤ (pos n), rest) else refused size here

-- the same, from the terminal behind the dash; what is no number is refused
abbrev pub negative_of : ℕ → List Terminal → Terminal → List Terminal → Reading ℤ
negative_of size here (int n) rest = below_zero size here n rest
negative_of size here other rest = refused size here

-- a number of at most 2^31, which stands behind a dash
unfoldable pub negative_at : ℕ → Reader ℤ
negative_at size here = first_at size here >>= λ x. negative_of size here x.0 x.1

-- a number behind a symbol, which has to be a dash
abbrev pub signed_of : ℕ → List Terminal → Sign → List Terminal → Reading ℤ
signed_of size here w.dash rest = negative_at size rest
signed_of size here other rest = refused size here

-- a number with its sign, from the first terminal
abbrev pub number_of : ℕ → List Terminal → Terminal → List Terminal → Reading ℤ
number_of size here (int n) rest = positive_of size here n rest
number_of size here (sign s) rest = signed_of size here s rest
number_of size here other rest = refused size here

-- a number of 32 bits with its sign
unfoldable pub number_at : ℕ → Reader ℤ
number_at size here = first_at size here >>= λ x. number_of size here x.0 x.1

-- the slot that a word names: the leaf's or the root's
abbrev pub slot_of_word : ℕ → List Terminal → Word → List Terminal → Reading ℤ
slot_of_word size here w.leaf rest = Ok (pos 0, rest)
slot_of_word size here w.root rest = Ok (negsuc 0, rest)
slot_of_word size here other rest = refused size here

-- a slot by its word or by its number, from the first terminal
abbrev pub slot_of : ℕ → List Terminal → Terminal → List Terminal → Reading ℤ
slot_of size here (word c) rest = slot_of_word size here c rest
slot_of size here other rest = number_at size here

-- a place in the chain of certificates
unfoldable pub slot_at : ℕ → Reader ℤ
slot_at size here = first_at size here >>= λ x. slot_of size here x.0 x.1

-- the first where a star stands, else the second
abbrev pub starred : Match → Match → List Terminal → Option (List Terminal) → Match × List Terminal
starred with without here None = (without, here)
starred with without here (Some rest) = (with, rest)

-- a string, with a star behind it or none
unfoldable pub begins_at : ℕ → Reader Match
begins_at size here = text_at size here >>= λ x. Ok (starred (Begins x.0) (Equal x.0) x.1 (star_at x.1))

-- the same behind a star
unfoldable pub ends_at : ℕ → Reader Match
ends_at size here = text_at size here >>= λ x. Ok (starred (Contains x.0) (Ends x.0) x.1 (star_at x.1))

-- a string behind a star, where one was there, or one without
abbrev pub value_by : ℕ → List Terminal → Option (List Terminal) → Reading Match
value_by size here None = begins_at size here
value_by size here (Some rest) = ends_at size rest

-- what stands behind an equals sign
unfoldable pub value_at : ℕ → Reader Match
value_at size here = value_by size here (star_at here)

-- which comparison a symbol is
abbrev pub compared : Sign → List ℕ → Match
compared w.tilde s = Contains s
compared w.less s = Less s
compared w.greater s = Greater s
compared w.less_equal s = LessEqual s
compared other s = GreaterEqual s

-- the string behind a symbol that compares
unfoldable pub compared_at : ℕ → Sign → Reader Match
compared_at size s here = text_at size here >>= λ x. Ok (compared s x.0, x.1)

-- the test that a symbol begins; where it begins none, that the value is there
abbrev pub test_of_sign : ℕ → List Terminal → Sign → List Terminal → Reading Match
test_of_sign size here w.equal rest = value_at size rest
test_of_sign size here w.tilde rest = compared_at size w.tilde rest
test_of_sign size here w.less rest = compared_at size w.less rest
test_of_sign size here w.greater rest = compared_at size w.greater rest
test_of_sign size here w.less_equal rest = compared_at size w.less_equal rest
test_of_sign size here w.greater_equal rest = compared_at size w.greater_equal rest
test_of_sign size here other rest = Ok (Exists, here)

-- the test that a word is; where it is none, that the value is there
abbrev pub test_of_word : List Terminal → Word → List Terminal → Match × List Terminal
test_of_word here w.exists rest = (Exists, rest)
test_of_word here w.absent rest = (Absent, rest)
test_of_word here other rest = (Exists, here)

-- the test that begins with a terminal; where none does, that the value is there
abbrev pub test_of : ℕ → List Terminal → Terminal → List Terminal → Reading Match
test_of size here (word c) rest = Ok (test_of_word here c rest)
test_of size here (sign s) rest = test_of_sign size here s rest
test_of size here other rest = Ok (Exists, here)

-- the same, where there may be no terminal
abbrev pub test_by : ℕ → List Terminal → Option (Terminal × List Terminal) → Reading Match
test_by size here None = Ok (Exists, here)
test_by size here (Some x) = test_of size here x.0 x.1

-- what is asked of a value; where nothing is, that it is there
unfoldable pub test_at : ℕ → Reader Match
test_at size here = test_by size here (cut here)
