-- Terminals read from the front: a value and the terminals behind it, or the place of the first that may not stand there.
use Rattle.std.specs.Prelude.{ℕ, ◌≡◌, ◌≢◌, ◌-◌, List, [], ◌∷◌, length, Option, Some, None, Result, Ok, Err}
use Rattle.req_grammar.specs.Words as w
use Rattle.req_grammar.specs.Words.{Sign, Word}
use Rattle.req_grammar.specs.Terminals.{Terminal, sign, str, hash}
use Rattle.req_primary.specs.declared.fault.ReadingFault.{ReadingFault}
use Rattle.req_primary.specs.declared.fault.ReadingFault.TheVariants.{Syntax, OutOfMemory}

-- what a reading comes to: a value and what follows it, or the first fault
abbrev pub Reading : Type 0 → Type 0
Reading A = Result (A × List Terminal) ReadingFault

-- a reading from the front of a list
abbrev pub Reader : Type 0 → Type 0
Reader A = List Terminal → Reading A

-- one step after another, up to the first fault
infixl 10 ◌>>=◌
abbrev pub ◌>>=◌ : {A B : Type 0} → Result A ReadingFault → (A → Result B ReadingFault) → Result B ReadingFault
(Ok x) >>= f = f x
(Err e) >>= f = Err e

-- what a call returned, seen by view, is what the reading says, unless there was no memory
abbrev pub Gives : {X Y : Type 0} → (X → Y) → Result X ReadingFault → Result Y ReadingFault → Type 0
Gives view (Ok x) read = read ≡ Ok (view x)
Gives view (Err e) read = e ≢ OutOfMemory → read ≡ Err e

-- the place of the first terminal of the rest, of so many terminals in all
abbrev pub place : ℕ → List Terminal → ℕ
place size rest = size - length rest

-- the first terminal of the rest, or the end, may not stand there
abbrev pub refused : {A : Type 0} → ℕ → List Terminal → Result A ReadingFault
refused size here = Err (Syntax (place size here))

-- the first terminal, and those behind it
abbrev pub cut : List Terminal → Option (Terminal × List Terminal)
cut [] = None
cut (first ∷ rest) = Some (first, rest)

-- the same where there has to be one
unfoldable pub first_at : ℕ → Reader Terminal
first_at size [] = refused size []
first_at size (first ∷ rest) = Ok (first, rest)

-- the symbol that a terminal is, and what follows it; any other terminal is refused
abbrev pub sign_of : ℕ → List Terminal → Terminal → List Terminal → Reading Sign
sign_of size here (sign s) rest = Ok (s, rest)
sign_of size here other rest = refused size here

-- any symbol
unfoldable pub sign_at : ℕ → Reader Sign
sign_at size here = first_at size here >>= λ x. sign_of size here x.0 x.1

-- what follows the symbol where it is a right parenthesis; any other is refused
abbrev pub close_of : ℕ → List Terminal → Sign → List Terminal → Result (List Terminal) ReadingFault
close_of size here w.right_paren rest = Ok rest
close_of size here other rest = refused size here

-- what follows a right parenthesis
unfoldable pub close_at : ℕ → List Terminal → Result (List Terminal) ReadingFault
close_at size here = sign_at size here >>= λ x. close_of size here x.0 x.1

-- what follows the symbol where it is a left bracket; any other is refused
abbrev pub left_bracket_of : ℕ → List Terminal → Sign → List Terminal → Result (List Terminal) ReadingFault
left_bracket_of size here w.left_bracket rest = Ok rest
left_bracket_of size here other rest = refused size here

-- what follows a left bracket
unfoldable pub left_bracket_at : ℕ → List Terminal → Result (List Terminal) ReadingFault
left_bracket_at size here = sign_at size here >>= λ x. left_bracket_of size here x.0 x.1

-- what follows the symbol where it is a right bracket; any other is refused
abbrev pub right_bracket_of : ℕ → List Terminal → Sign → List Terminal → Result (List Terminal) ReadingFault
right_bracket_of size here w.right_bracket rest = Ok rest
right_bracket_of size here other rest = refused size here

-- what follows a right bracket
unfoldable pub right_bracket_at : ℕ → List Terminal → Result (List Terminal) ReadingFault
right_bracket_at size here = sign_at size here >>= λ x. right_bracket_of size here x.0 x.1

-- what follows the symbol where it is an equals sign; any other is refused
abbrev pub equal_of : ℕ → List Terminal → Sign → List Terminal → Result (List Terminal) ReadingFault
equal_of size here w.equal rest = Ok rest
equal_of size here other rest = refused size here

-- what follows an equals sign
unfoldable pub equal_at : ℕ → List Terminal → Result (List Terminal) ReadingFault
equal_at size here = sign_at size here >>= λ x. equal_of size here x.0 x.1

-- the bytes of the string that a terminal is, and what follows it; any other terminal is refused
abbrev pub text_of : ℕ → List Terminal → Terminal → List Terminal → Reading (List ℕ)
text_of size here (str s) rest = Ok (s, rest)
text_of size here other rest = refused size here

-- the bytes of a string
unfoldable pub text_at : ℕ → Reader (List ℕ)
text_at size here = first_at size here >>= λ x. text_of size here x.0 x.1

-- the bytes of the hash that a terminal is, and what follows it; any other terminal is refused
abbrev pub hash_of : ℕ → List Terminal → Terminal → List Terminal → Reading (List ℕ)
hash_of size here (hash h) rest = Ok (h, rest)
hash_of size here other rest = refused size here

-- the bytes of a hash
unfoldable pub hash_at : ℕ → Reader (List ℕ)
hash_at size here = first_at size here >>= λ x. hash_of size here x.0 x.1

-- the symbol at the front and what follows it, where one stands there
abbrev pub sign_first : List Terminal → Option (Sign × List Terminal)
sign_first (sign s ∷ rest) = Some (s, rest)
sign_first here = None

-- what follows the symbol where it is a star, else nothing
abbrev pub star_sign : Sign → List Terminal → Option (List Terminal)
star_sign w.star rest = Some rest
star_sign other rest = None

-- the same, where there may be no symbol
abbrev pub star_of : Option (Sign × List Terminal) → Option (List Terminal)
star_of None = None
star_of (Some x) = star_sign x.0 x.1

-- what follows a star, where one stands there
unfoldable pub star_at : List Terminal → Option (List Terminal)
star_at here = star_of (sign_first here)
