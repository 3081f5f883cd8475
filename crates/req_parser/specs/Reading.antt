-- Expressions read from the front of a list of terminals: a tree with plain keys and what follows it, or the place of the
-- first terminal that may not stand there. Chains and negations are loops; only parentheses nest.
use Rattle.std.specs.Prelude.{ℕ, zero, suc, ◌+◌, Bool, true, false, if◌then◌else◌, List, [], ◌∷◌, length, Option, Some, None, Result, Ok}
use Rattle.req_tree.specs.Tree as t
use Rattle.req_tree.specs.Tree.{Tree}
use Rattle.req_grammar.specs.Words as w
use Rattle.req_grammar.specs.Words.{Sign, Word}
use Rattle.req_grammar.specs.Terminals.{Terminal, sign, word, str}
use Rattle.req_grammar.specs.declared.limits.TheConstants.{MOST_OPEN_PARENTHESES}
use Rattle.req_primary.specs.declared.fault.ReadingFault.{ReadingFault}
use Rattle.req_primary.specs.Steps.{Reading, Reader, ◌>>=◌, refused, first_at, close_at}
use Rattle.req_primary.specs.Primaries.{primary_at}

-- the word at the front and what follows it, where one stands there
abbrev pub word_first : List Terminal → Option (Word × List Terminal)
word_first (word c ∷ rest) = Some (c, rest)
word_first here = None

-- what follows a word, where the word is `and`
abbrev pub and_word : Word → List Terminal → Option (List Terminal)
and_word w.and rest = Some rest
and_word other rest = None

-- what follows the word that was found, where one was and it is `and`
abbrev pub and_of : Option (Word × List Terminal) → Option (List Terminal)
and_of None = None
and_of (Some x) = and_word x.0 x.1

-- what follows an `and`, where one stands there
unfoldable pub and_at : List Terminal → Option (List Terminal)
and_at here = and_of (word_first here)

-- what follows a word, where the word is `or`
abbrev pub or_word : Word → List Terminal → Option (List Terminal)
or_word w.or rest = Some rest
or_word other rest = None

-- what follows the word that was found, where one was and it is `or`
abbrev pub or_of : Option (Word × List Terminal) → Option (List Terminal)
or_of None = None
or_of (Some x) = or_word x.0 x.1

-- what follows an `or`, where one stands there
unfoldable pub or_at : List Terminal → Option (List Terminal)
or_at here = or_of (word_first here)

-- a further operand
abbrev pub joined_at : (Tree → Tree → Tree) → Reader Tree → Tree → Reader Tree
joined_at join item x here = item here >>= λ y. Ok (join x y.0, y.1)

-- the value so far where no operator stands, or what goes on behind one
abbrev pub behind : Tree → List Terminal → Reader Tree → Option (List Terminal) → Reading Tree
behind x here go None = Ok (x, here)
behind x here go (Some rest) = go rest

-- further operands, at most so many
unfoldable pub chain_from : ℕ → (List Terminal → Option (List Terminal)) → (Tree → Tree → Tree) → Reader Tree → Tree → Reader Tree
chain_from zero op join item x here = Ok (x, here)
chain_from (suc n) op join item x here = behind x here (λ rest. joined_at join item x rest >>= λ y. chain_from n op join item y.0 y.1) (op here)

-- an operand and further ones behind operators, folded from the left
abbrev pub chain : ℕ → (List Terminal → Option (List Terminal)) → (Tree → Tree → Tree) → Reader Tree → Reader Tree
chain n op join item here = item here >>= λ x. chain_from n op join item x.0 x.1

-- the sign is `!`
abbrev pub is_bang_sign : Sign → Bool
is_bang_sign w.bang = true
is_bang_sign other = false

-- the terminal is the sign `!`
abbrev pub is_bang : Terminal → Bool
is_bang (sign s) = is_bang_sign s
is_bang other = false

-- after so many `!`: how many stand at the front in all, and what follows them
abbrev pub bangs_from : ℕ → List Terminal → ℕ × List Terminal
bangs_from count [] = (count, [])
bangs_from count (first ∷ rest) = if is_bang first then bangs_from (count + 1) rest else (count, first ∷ rest)

-- how many `!` stand at the front, and what follows them
abbrev pub bangs : List Terminal → ℕ × List Terminal
bangs here = bangs_from 0 here

-- a tree, so often negated
abbrev pub negations : ℕ → Tree → Tree
negations zero x = x
negations (suc n) x = negations n (t.negate x)

-- code by its name, behind the name
unfoldable pub named_at : ℕ → List ℕ → Reader Tree
named_at size name here = close_at size here >>= λ rest. Ok (t.named_code name, rest)

-- the tree that was read, and what follows the right parenthesis behind it
abbrev pub closed : ℕ → Tree × List Terminal → Reading Tree
closed size x = close_at size x.1 >>= λ rest. Ok (x.0, rest)

-- what the reader inside reads, with a right parenthesis behind it
abbrev pub closed_at : ℕ → Reader Tree → Reader Tree
closed_at size inside here = inside here >>= closed size

-- behind a left parenthesis, by the terminal there: code by its name, or an expression and its end
abbrev pub paren_of : ℕ → Reader Tree → List Terminal → Terminal → List Terminal → Reading Tree
paren_of size inside here (str name) rest = named_at size name rest
paren_of size inside here other rest = closed_at size inside here

-- what stands behind a left parenthesis
unfoldable pub paren_at : ℕ → Reader Tree → Reader Tree
paren_at size inside here = first_at size here >>= λ x. paren_of size inside here x.0 x.1

-- an operand that begins with a sign: only a left parenthesis may stand there
abbrev pub operand_of_sign : ℕ → Reader Tree → List Terminal → Sign → List Terminal → Reading Tree
operand_of_sign size inside here w.left_paren rest = paren_at size inside rest
operand_of_sign size inside here other rest = refused size here

-- an operand by its first terminal: a primary at a word, parentheses at a sign, else refused
abbrev pub operand_of : ℕ → Reader Tree → List Terminal → Terminal → List Terminal → Reading Tree
operand_of size inside here (word c) rest = primary_at size c here rest
operand_of size inside here (sign s) rest = operand_of_sign size inside here s rest
operand_of size inside here other rest = refused size here

-- an operand that isn't negated; the reader inside reads what stands in parentheses
unfoldable pub operand_at : ℕ → Reader Tree → Reader Tree
operand_at size inside here = first_at size here >>= λ x. operand_of size inside here x.0 x.1

-- an operand, so often negated
unfoldable pub factor_at : ℕ → Reader Tree → Reader Tree
factor_at size inside here = operand_at size inside (bangs here).1 >>= λ x. Ok (negations (bangs here).0 x.0, x.1)

-- operands with `and` between them
unfoldable pub term_at : ℕ → Reader Tree → Reader Tree
term_at size inside here = chain (length here) and_at t.both (factor_at size inside) here

-- terms with `or` between them
unfoldable pub expr_at : ℕ → Reader Tree → Reader Tree
expr_at size inside here = chain (length here) or_at t.either (term_at size inside) here

-- an expression in parentheses, of which so many more may be open
unfoldable pub inside_at : ℕ → ℕ → Reader Tree
inside_at size zero here = refused size here
inside_at size (suc depth) here = expr_at size (inside_at size depth) here

-- nothing is left
abbrev pub ended : ℕ → Tree × List Terminal → Result Tree ReadingFault
ended size (x, []) = Ok x
ended size (x, first ∷ rest) = refused size (first ∷ rest)

-- all terminals as one expression
unfoldable pub whole_at : List Terminal → Result Tree ReadingFault
whole_at list = expr_at (length list) (inside_at (length list) MOST_OPEN_PARENTHESES) list >>= ended (length list)
