-- What the grammar has as parts with plain keys is read, where its parentheses nest no deeper than may be.
use Rattle.std.proofs.Common.{◌≡◌, ℕ, zero, suc, ◌≤◌, List, [], ◌∷◌, ◌++◌, length, None, Result, Ok, refl, sym, ap, ◌∙◌, append_assoc, append-nil, arith, length-append}
use Rattle.req_tree.specs.Tree.{Tree}
use Rattle.req_grammar.specs.declared.limits.TheConstants.{MOST_OPEN_PARENTHESES}
use Rattle.req_grammar.specs.Words as w
use Rattle.req_grammar.specs.Words.{Word}
use Rattle.req_grammar.specs.Terminals.{Terminal, sign, word}
use Rattle.req_grammar.specs.Grammar as g
use Rattle.req_grammar.specs.Grammar.{Expr, KindWord, Parts}
use Rattle.req_grammar.specs.Readings.{AnyKey, HasFewOpen}
use Rattle.req_grammar.specs.Laws.{ParenthesesBalance}
use Rattle.req_primary.specs.declared.fault.ReadingFault.{ReadingFault}
use Rattle.req_primary.specs.Steps.{Reading, ◌>>=◌, first_at, sign_at}
use Rattle.req_primary.specs.Laws.{Stops, end, kind, OperandsAreRead}
use Rattle.req_parser.specs.Reading.{and_at, or_at}
use Rattle.req_parser.specs.SetReading.{kind_at, arrow_at, tree_at, part_at, parts_from, parts_at}
use Rattle.req_parser.proofs.Counts.{NestsWithin, nests_front, nests_behind}
use Rattle.req_parser.proofs.Read.{IsExprRead, expr_balanced, expr_done, expr_read, end_no_and, end_no_or}

abbrev part_read : ℕ → Tree → List Terminal → Reading (ℕ × Tree)
part_read n x rest = Ok ((n, x), rest)

-- the kind and the arrow are read, and leave the expression
to_tree : (size : ℕ) (k : Word) (n : ℕ) (here : List Terminal) → KindWord k n → part_at size (word k ∷ sign w.arrow ∷ here) ≡ tree_at size n here
unfolding part_at kind_at arrow_at sign_at first_at
to_tree size k n here g.host = refl
to_tree size k n here g.guest = refl
to_tree size k n here g.designated = refl
to_tree size k n here g.library = refl
to_tree size k n here g.plugin = refl

-- what stands behind an expression of a set
record Ends (rest : List Terminal) : Type 0 where
  stops : Stops rest
  no_and : and_at rest ≡ None
  no_or : or_at rest ≡ None

kind_no_and : (k : Word) (n : ℕ) (rest : List Terminal) → KindWord k n → and_at (word k ∷ rest) ≡ None
unfolding and_at
kind_no_and k n rest g.host = refl
kind_no_and k n rest g.guest = refl
kind_no_and k n rest g.designated = refl
kind_no_and k n rest g.library = refl
kind_no_and k n rest g.plugin = refl

kind_no_or : (k : Word) (n : ℕ) (rest : List Terminal) → KindWord k n → or_at (word k ∷ rest) ≡ None
unfolding or_at
kind_no_or k n rest g.host = refl
kind_no_or k n rest g.guest = refl
kind_no_or k n rest g.designated = refl
kind_no_or k n rest g.library = refl
kind_no_or k n rest g.plugin = refl

parts_end : (list : List Terminal) (parts : List (ℕ × Tree)) → Parts AnyKey list parts → Ends list
parts_end list parts g.none = record { stops = end; no_and = end_no_and; no_or = end_no_or }
parts_end list parts (g.part k n a b x others names h i) =
    record { stops = kind k n (sign w.arrow ∷ (a ++ b)) names; no_and = kind_no_and k n _ names; no_or = kind_no_or k n _ names }

part_done : (size : ℕ) (k : Word) (n : ℕ) (a rest : List Terminal) (x : Tree) → KindWord k n → IsExprRead a x → NestsWithin MOST_OPEN_PARENTHESES a → Ends rest
    → part_at size (word k ∷ sign w.arrow ∷ (a ++ rest)) ≡ part_read n x rest
part_done size k n a rest x names f nests ends =
    to_tree size k n (a ++ rest) names
    ∙ ap (λ (r : Reading Tree). r >>= λ (y : Tree × List Terminal). part_read n y.0 y.1) (expr_done a x f size MOST_OPEN_PARENTHESES rest nests ends.stops ends.no_and ends.no_or)

none_left : (size n : ℕ) (some : List (ℕ × Tree)) → parts_from size n some [] ≡ Ok (some ++ [])
unfolding parts_from
none_left size zero some = ap (λ (l : List (ℕ × Tree)). let o : Result (List (ℕ × Tree)) ReadingFault = Ok l in o) (sym (append-nil some))
none_left size (suc n) some = ap (λ (l : List (ℕ × Tree)). let o : Result (List (ℕ × Tree)) ReadingFault = Ok l in o) (sym (append-nil some))

next_part : (size n : ℕ) (some : List (ℕ × Tree)) (first : Terminal) (here rest : List Terminal) (k : ℕ) (x : Tree) → part_at size (first ∷ here) ≡ part_read k x rest
    → parts_from size (suc n) some (first ∷ here) ≡ parts_from size n (some ++ (k, x) ∷ []) rest
unfolding parts_from
next_part size n some first here rest k x e =
    ap (λ (r : Reading (ℕ × Tree)). r >>= λ (y : (ℕ × Tree) × List Terminal). parts_from size n (some ++ y.0 ∷ []) y.1) e

module _ (operands : OperandsAreRead) (balance : ParenthesesBalance) where
  parts_read : (size n : ℕ) (some more : List (ℕ × Tree)) (here : List Terminal) → Parts AnyKey here more → NestsWithin MOST_OPEN_PARENTHESES here → length here ≤ n
      → parts_from size n some here ≡ Ok (some ++ more)
  parts_read size n some more here g.none nests long = none_left size n some
  parts_read size zero some more here (g.part k m a b x others names h i) nests long = absurd (omega (arith, long))
  parts_read size (suc n) some more here (g.part k m a b x others names h i) nests long =
      let inside : NestsWithin MOST_OPEN_PARENTHESES (a ++ b) = nests_behind MOST_OPEN_PARENTHESES (word k ∷ sign w.arrow ∷ []) (a ++ b) refl nests in
      let later : NestsWithin MOST_OPEN_PARENTHESES b = nests_behind MOST_OPEN_PARENTHESES a b (expr_balanced operands balance a x h) inside in
      let fits : length b ≤ n = omega (arith, long, length-append a b) in
      next_part size n some (word k) (sign w.arrow ∷ (a ++ b)) b m x
      (part_done size k m a b x names (expr_read operands balance a x h) (nests_front MOST_OPEN_PARENTHESES a b inside) (parts_end b others i))
      ∙ parts_read size n (some ++ (m, x) ∷ []) others b i later fits
      ∙ ap (λ (l : List (ℕ × Tree)). let o : Result (List (ℕ × Tree)) ReadingFault = Ok l in o) (append_assoc some ((m, x) ∷ []) others)

  -- a whole list
  pub list_read : (list : List Terminal) (all : List (ℕ × Tree)) → HasFewOpen list → Parts AnyKey list all → parts_at list ≡ Ok all
  unfolding parts_at
  list_read list all few h = parts_read (length list) (length list) [] all list h few (omega arith)
