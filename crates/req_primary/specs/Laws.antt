-- How operands of the grammar are read, and that what is read is an operand.
use Rattle.std.specs.Prelude.{ℕ, ◌≡◌, List, [], ◌∷◌, ◌++◌, Ok}
use Rattle.req_tree.specs.Tree as t
use Rattle.req_tree.specs.Tree.{Tree}
use Rattle.req_tree.specs.Depth.{depth_of}
use Rattle.req_grammar.specs.Words as w
use Rattle.req_grammar.specs.Words.{Word}
use Rattle.req_grammar.specs.Terminals.{Terminal, sign, word, str}
use Rattle.req_grammar.specs.Grammar.{Primary, Expr, KindWord}
use Rattle.req_grammar.specs.Readings.{AnyKey, Reads}
use Rattle.req_primary.specs.Primaries.{primary_at}
use Rattle.req_primary.specs.Keys.{StandsFor}

-- what may stand behind an operand: the end, a right parenthesis, an operator, or a word for a kind
pub data Stops : List Terminal → Type 0 where
  end : Stops []
  close : (rest : List Terminal) → Stops (sign w.right_paren ∷ rest)
  and : (rest : List Terminal) → Stops (word w.and ∷ rest)
  or : (rest : List Terminal) → Stops (word w.or ∷ rest)
  kind : (k : Word) (n : ℕ) (rest : List Terminal) → KindWord k n → Stops (word k ∷ rest)

-- an operand is code by its name, or begins with a word and is read as its tree, whatever it stands in
pub data IsReadSo : List Terminal → Tree → Type 0 where
  named : (s : List ℕ) → IsReadSo (sign w.left_paren ∷ str s ∷ sign w.right_paren ∷ []) (t.named_code s)
  worded : (c : Word) (a : List Terminal) (x : Tree)
      → ((size : ℕ) (here rest : List Terminal) → Stops rest → primary_at size c here (a ++ rest) ≡ Ok (x, rest)) → IsReadSo (word c ∷ a) x

-- the operands of the grammar are read
abbrev pub OperandsAreRead : Type 0
OperandsAreRead = (a : List Terminal) (x : Tree) → Primary AnyKey a x → IsReadSo a x

-- a word and a front of what follows it are an operand
pub record IsOperand (c : Word) (rest left : List Terminal) (x : Tree) : Type 0 where
  pub front : List Terminal
  pub parts : rest ≡ front ++ left
  pub is : Primary AnyKey (word c ∷ front) x
  pub plain : depth_of x ≡ 1

-- what is read is an operand
abbrev pub WhatIsReadIsAnOperand : Type 0
WhatIsReadIsAnOperand =
    (size : ℕ) (c : Word) (here rest left : List Terminal) (x : Tree) → primary_at size c here rest ≡ Ok (x, left) → IsOperand c rest left x

-- a reading of a list with plain keys, and what it stands for
pub record IsPlainReading (list : List Terminal) (x : Tree) : Type 0 where
  pub plain : Tree
  pub reads : Expr AnyKey list plain
  pub stands : StandsFor plain x

-- a reading is one with plain keys that stands for its tree, and the other way round
abbrev pub ReadingsHavePlainOnes : Type 0
ReadingsHavePlainOnes = (list : List Terminal) (x : Tree) → Reads list x → IsPlainReading list x

-- what a reading with plain keys stands for is a reading of the same list
abbrev pub PlainReadingsStand : Type 0
PlainReadingsStand = (list : List Terminal) (plain x : Tree) → Expr AnyKey list plain → StandsFor plain x → Reads list x
