-- What the grammar has with plain keys is read, where its parentheses nest no deeper than may be.
use Rattle.std.proofs.Common.{◌≡◌, ℕ, zero, suc, ◌+◌, ◌-◌, ◌≤◌, List, [], ◌∷◌, ◌++◌, length, Option, Some, None, Ok, refl, sym, ap, ◌∙◌, append_assoc, append-nil, arith, length-append}
use Rattle.req_tree.specs.Tree as t
use Rattle.req_tree.specs.Tree.{Tree}
use Rattle.req_grammar.specs.declared.limits.TheConstants.{MOST_OPEN_PARENTHESES}
use Rattle.req_grammar.specs.Words as w
use Rattle.req_grammar.specs.Words.{Word, Sign}
use Rattle.req_grammar.specs.Terminals.{Terminal, sign, word, str}
use Rattle.req_grammar.specs.Grammar as g
use Rattle.req_grammar.specs.Grammar.{Primary, Expr, Term, Factor, IsCert}
use Rattle.req_grammar.specs.Readings.{AnyKey, HasFewOpen}
use Rattle.req_grammar.specs.Laws.{ParenthesesBalance}
use Rattle.req_primary.specs.Steps.{Reading, Reader, ◌>>=◌, first_at, sign_at, close_at}
use Rattle.req_primary.specs.Primaries.{primary_at}
use Rattle.req_primary.specs.Laws.{Stops, end, close, and, or, IsReadSo, named, worded, OperandsAreRead}
use Rattle.req_parser.specs.Reading.{and_at, or_at, joined_at, behind, chain_from, chain, negations, named_at, closed, paren_at, operand_at, factor_at, term_at, expr_at, inside_at, ended, whole_at}
use Rattle.req_parser.proofs.Counts.{NestsWithin, IsBalanced, nests_front, nests_behind, nests_inside, nests_some}
use Rattle.req_parser.proofs.Bangs.{factor_bang}

abbrev pub read : Tree → List Terminal → Reading Tree
read x rest = Ok (x, rest)

-- a factor is read whole, where something stands behind it that stops
pub record IsRead (a : List Terminal) (x : Tree) : Type 0 where
  pub reads : (size d : ℕ) (rest : List Terminal) → NestsWithin d a → Stops rest → factor_at size (inside_at size d) (a ++ rest) ≡ read x rest

-- a term's reading comes to where its tree is made, with so many operands fewer to go
pub record IsTermRead (a : List Terminal) (x : Tree) : Type 0 where
  pub count : ℕ
  pub few : count ≤ length a
  pub reads : (size d k : ℕ) (rest : List Terminal) → NestsWithin d a → Stops rest
      → chain (k + count) and_at t.both (factor_at size (inside_at size d)) (a ++ rest) ≡ chain_from k and_at t.both (factor_at size (inside_at size d)) x rest

pub record IsExprRead (a : List Terminal) (x : Tree) : Type 0 where
  pub count : ℕ
  pub few : count ≤ length a
  pub reads : (size d k : ℕ) (rest : List Terminal) → NestsWithin d a → Stops rest → and_at rest ≡ None
      → chain (k + count) or_at t.either (term_at size (inside_at size d)) (a ++ rest) ≡ chain_from k or_at t.either (term_at size (inside_at size d)) x rest

-- ---- chains

-- one operand more
step : (op : List Terminal → Option (List Terminal)) (join : Tree → Tree → Tree) (item : Reader Tree) (k : ℕ) (x y : Tree) (here middle rest : List Terminal)
    → op here ≡ Some middle → item middle ≡ read y rest → chain_from (suc k) op join item x here ≡ chain_from k op join item (join x y) rest
unfolding chain_from
step op join item k x y here middle rest stands is =
    ap (behind x here (λ more. joined_at join item x more >>= λ (z : Tree × List Terminal). chain_from k op join item z.0 z.1)) stands
    ∙ ap (λ (o : Reading Tree). (o >>= λ (y : Tree × List Terminal). Ok (join x y.0, y.1)) >>= λ (z : Tree × List Terminal). chain_from k op join item z.0 z.1) is

-- no operator stands there
done : (op : List Terminal → Option (List Terminal)) (join : Tree → Tree → Tree) (item : Reader Tree) (k : ℕ) (x : Tree) (rest : List Terminal)
    → op rest ≡ None → chain_from k op join item x rest ≡ read x rest
unfolding chain_from
done op join item zero x rest ends = refl
done op join item (suc k) x rest ends =
    ap (behind x rest (λ more. joined_at join item x more >>= λ (z : Tree × List Terminal). chain_from k op join item z.0 z.1)) ends

one_factor : (a : List Terminal) (x : Tree) → IsRead a x → IsTermRead a x
one_factor a x f = record {
  count = 0;
  few = omega arith;
  reads = λ size d k rest nests stops.
      let none : k + 0 ≡ k = omega arith in
      ap (λ (n : ℕ). chain n and_at t.both (factor_at size (inside_at size d)) (a ++ rest)) none
      ∙ ap (λ (o : Reading Tree). o >>= λ (z : Tree × List Terminal). chain_from k and_at t.both (factor_at size (inside_at size d)) z.0 z.1) (f.reads size d rest nests stops);
}

and_next : (rest : List Terminal) → and_at (word w.and ∷ rest) ≡ Some rest
unfolding and_at
and_next rest = refl

or_next : (rest : List Terminal) → or_at (word w.or ∷ rest) ≡ Some rest
unfolding or_at
or_next rest = refl

or_no_and : (rest : List Terminal) → and_at (word w.or ∷ rest) ≡ None
unfolding and_at
or_no_and rest = refl

close_no_and : (rest : List Terminal) → and_at (sign w.right_paren ∷ rest) ≡ None
unfolding and_at
close_no_and rest = refl

close_no_or : (rest : List Terminal) → or_at (sign w.right_paren ∷ rest) ≡ None
unfolding or_at
close_no_or rest = refl

pub end_no_and : and_at [] ≡ None
unfolding and_at
end_no_and = refl

pub end_no_or : or_at [] ≡ None
unfolding or_at
end_no_or = refl

word_balanced : (c : Word) → IsBalanced (word c ∷ [])
word_balanced c = refl

-- behind balanced terminals and a word
behind_word : (d : ℕ) (c : Word) (a b : List Terminal) → IsBalanced a → NestsWithin d (a ++ word c ∷ b) → NestsWithin d b
behind_word d c a b balanced h = nests_behind d (word c ∷ []) b (word_balanced c) (nests_behind d a (word c ∷ b) balanced h)

and_factor : (a b : List Terminal) (x y : Tree) → IsBalanced a → IsTermRead a x → IsRead b y → IsTermRead (a ++ word w.and ∷ b) (t.both x y)
and_factor a b x y balanced f h = record {
  count = suc f.count;
  few = omega (arith, f.few, length-append a (word w.and ∷ b));
  reads = λ size d k rest nests stops.
      let item : Reader Tree = factor_at size (inside_at size d) in
      let more : k + suc f.count ≡ suc k + f.count = omega arith in
      ap (λ (n : ℕ). chain n and_at t.both item ((a ++ word w.and ∷ b) ++ rest)) more
      ∙ ap (λ (here : List Terminal). chain (suc k + f.count) and_at t.both item here) (append_assoc a (word w.and ∷ b) rest)
      ∙ f.reads size d (suc k) (word w.and ∷ (b ++ rest)) (nests_front d a (word w.and ∷ b) nests) (and (b ++ rest))
      ∙ step and_at t.both item k x y (word w.and ∷ (b ++ rest)) (b ++ rest) rest (and_next (b ++ rest)) (h.reads size d rest (behind_word d w.and a b balanced nests) stops);
}

enough : (a rest : List Terminal) (count : ℕ) → count ≤ length a → length (a ++ rest) ≡ (length (a ++ rest) - count) + count
enough a rest count few = omega (arith, few, length-append a rest)

term_done : (a : List Terminal) (x : Tree) (f : IsTermRead a x) (size d : ℕ) (rest : List Terminal) → NestsWithin d a → Stops rest → and_at rest ≡ None
    → term_at size (inside_at size d) (a ++ rest) ≡ read x rest
unfolding term_at
term_done a x f size d rest nests stops ends =
    ap (λ (n : ℕ). chain n and_at t.both (factor_at size (inside_at size d)) (a ++ rest)) (enough a rest f.count f.few)
    ∙ f.reads size d (length (a ++ rest) - f.count) rest nests stops
    ∙ done and_at t.both (factor_at size (inside_at size d)) (length (a ++ rest) - f.count) x rest ends

one_term : (a : List Terminal) (x : Tree) → IsTermRead a x → IsExprRead a x
one_term a x f = record {
  count = 0;
  few = omega arith;
  reads = λ size d k rest nests stops ends.
      let none : k + 0 ≡ k = omega arith in
      ap (λ (n : ℕ). chain n or_at t.either (term_at size (inside_at size d)) (a ++ rest)) none
      ∙ ap (λ (o : Reading Tree). o >>= λ (z : Tree × List Terminal). chain_from k or_at t.either (term_at size (inside_at size d)) z.0 z.1) (term_done a x f size d rest nests stops ends);
}

or_term : (a b : List Terminal) (x y : Tree) → IsBalanced a → IsExprRead a x → IsTermRead b y → IsExprRead (a ++ word w.or ∷ b) (t.either x y)
or_term a b x y balanced f h = record {
  count = suc f.count;
  few = omega (arith, f.few, length-append a (word w.or ∷ b));
  reads = λ size d k rest nests stops ends.
      let item : Reader Tree = term_at size (inside_at size d) in
      let more : k + suc f.count ≡ suc k + f.count = omega arith in
      ap (λ (n : ℕ). chain n or_at t.either item ((a ++ word w.or ∷ b) ++ rest)) more
      ∙ ap (λ (here : List Terminal). chain (suc k + f.count) or_at t.either item here) (append_assoc a (word w.or ∷ b) rest)
      ∙ f.reads size d (suc k) (word w.or ∷ (b ++ rest)) (nests_front d a (word w.or ∷ b) nests) (or (b ++ rest)) (or_no_and (b ++ rest))
      ∙ step or_at t.either item k x y (word w.or ∷ (b ++ rest)) (b ++ rest) rest (or_next (b ++ rest)) (term_done b y h size d rest (behind_word d w.or a b balanced nests) stops ends);
}

pub expr_done : (a : List Terminal) (x : Tree) (f : IsExprRead a x) (size d : ℕ) (rest : List Terminal) → NestsWithin d a → Stops rest → and_at rest ≡ None → or_at rest ≡ None
    → expr_at size (inside_at size d) (a ++ rest) ≡ read x rest
unfolding expr_at
expr_done a x f size d rest nests stops no_and no_or =
    ap (λ (n : ℕ). chain n or_at t.either (term_at size (inside_at size d)) (a ++ rest)) (enough a rest f.count f.few)
    ∙ f.reads size d (length (a ++ rest) - f.count) rest nests stops no_and
    ∙ done or_at t.either (term_at size (inside_at size d)) (length (a ++ rest) - f.count) x rest no_or

-- ---- factors

bang_factor : (a : List Terminal) (x : Tree) → IsRead a x → IsRead (sign w.bang ∷ a) (t.negate x)
bang_factor a x f = record {
  reads = λ size d rest nests stops.
      factor_bang size (inside_at size d) (a ++ rest)
      ∙ ap (λ (o : Reading Tree). o >>= λ (z : Tree × List Terminal). Ok (t.negate z.0, z.1)) (f.reads size d rest (nests_behind d (sign w.bang ∷ []) a refl nests) stops);
}

named_reads : (size : ℕ) (inside : Reader Tree) (s : List ℕ) (rest : List Terminal)
    → factor_at size inside (sign w.left_paren ∷ str s ∷ sign w.right_paren ∷ rest) ≡ read (t.named_code s) rest
unfolding factor_at operand_at paren_at named_at close_at sign_at first_at
named_reads size inside s rest = refl

word_reads : (size : ℕ) (inside : Reader Tree) (c : Word) (more rest : List Terminal) (x : Tree) → primary_at size c (word c ∷ more) more ≡ read x rest
    → factor_at size inside (word c ∷ more) ≡ read x rest
unfolding factor_at operand_at first_at
word_reads size inside c more rest x e = ap (λ (o : Reading Tree). o >>= λ (z : Tree × List Terminal). Ok (negations 0 z.0, z.1)) e

primary_factor : (a : List Terminal) (x : Tree) → IsReadSo a x → IsRead a x
primary_factor a x (named s) = record { reads = λ size d rest nests stops. named_reads size (inside_at size d) s rest }
primary_factor a x (worded c b y reads) = record {
  reads = λ size d rest nests stops. word_reads size (inside_at size d) c (b ++ rest) rest y (reads size (word c ∷ (b ++ rest)) rest stops);
}

-- what an expression begins with is no string
data Begins : List Terminal → Type 0 where
  with_sign : (s : Sign) (more : List Terminal) → Begins (sign s ∷ more)
  with_word : (c : Word) (more : List Terminal) → Begins (word c ∷ more)

begins_joined : (a b : List Terminal) → Begins a → Begins (a ++ b)
begins_joined a b (with_sign s more) = with_sign s (more ++ b)
begins_joined a b (with_word c more) = with_word c (more ++ b)

primary_begins : (a : List Terminal) (x : Tree) → IsReadSo a x → Begins a
primary_begins a x (named s) = with_sign w.left_paren _
primary_begins a x (worded c b y reads) = with_word c b

inside_reads : (size d : ℕ) (here rest : List Terminal) (x : Tree) → Begins here → expr_at size (inside_at size d) here ≡ read x (sign w.right_paren ∷ rest)
    → factor_at size (inside_at size (suc d)) (sign w.left_paren ∷ here) ≡ read x rest
unfolding factor_at operand_at paren_at inside_at close_at sign_at first_at
inside_reads size d here rest x (with_sign s more) e =
    ap (λ (o : Reading Tree). (o >>= closed size) >>= λ (z : Tree × List Terminal). Ok (negations 0 z.0, z.1)) e
inside_reads size d here rest x (with_word c more) e =
    ap (λ (o : Reading Tree). (o >>= closed size) >>= λ (z : Tree × List Terminal). Ok (negations 0 z.0, z.1)) e

paren_reads : (a : List Terminal) (x : Tree) (f : IsExprRead a x) → Begins a → (size d : ℕ) (rest : List Terminal) → NestsWithin d (sign w.left_paren ∷ (a ++ sign w.right_paren ∷ []))
    → factor_at size (inside_at size d) (sign w.left_paren ∷ ((a ++ sign w.right_paren ∷ []) ++ rest)) ≡ read x rest
paren_reads a x f begins size zero rest nests = absurd (nests_some (a ++ sign w.right_paren ∷ []) nests)
paren_reads a x f begins size (suc d) rest nests =
    inside_reads size d ((a ++ sign w.right_paren ∷ []) ++ rest) rest x (begins_joined (a ++ sign w.right_paren ∷ []) rest (begins_joined a (sign w.right_paren ∷ []) begins))
    (ap (λ (here : List Terminal). expr_at size (inside_at size d) here) (append_assoc a (sign w.right_paren ∷ []) rest)
    ∙ expr_done a x f size d (sign w.right_paren ∷ rest) (nests_front d a (sign w.right_paren ∷ []) (nests_inside d (a ++ sign w.right_paren ∷ []) nests)) (close rest) (close_no_and rest) (close_no_or rest))

paren_factor : (a : List Terminal) (x : Tree) → IsExprRead a x → Begins a → IsRead (sign w.left_paren ∷ (a ++ sign w.right_paren ∷ [])) x
paren_factor a x f begins = record { reads = λ size d rest nests stops. paren_reads a x f begins size d rest nests }

-- ---- derivations

module _ (operands : OperandsAreRead) (balance : ParenthesesBalance) where
  mutual
    expr_begins : (a : List Terminal) (x : Tree) → Expr AnyKey a x → Begins a
    expr_begins a x (g.term b y h) = term_begins b y h
    expr_begins a x (g.or b c y z h i) = begins_joined b _ (expr_begins b y h)

    term_begins : (a : List Terminal) (x : Tree) → Term AnyKey a x → Begins a
    term_begins a x (g.factor b y h) = factor_begins b y h
    term_begins a x (g.and b c y z h i) = begins_joined b _ (term_begins b y h)

    factor_begins : (a : List Terminal) (x : Tree) → Factor AnyKey a x → Begins a
    factor_begins a x (g.bang b y h) = with_sign w.bang b
    factor_begins a x (g.paren b y h) = with_sign w.left_paren _
    factor_begins a x (g.primary b y h) = primary_begins b y (operands b y h)

  pub expr_balanced : (a : List Terminal) (x : Tree) → Expr AnyKey a x → IsBalanced a
  expr_balanced a x h = balance a (x, h)

  mutual
    pub expr_read : (a : List Terminal) (x : Tree) → Expr AnyKey a x → IsExprRead a x
    expr_read a x (g.term b y h) = one_term b y (term_read b y h)
    expr_read a x (g.or b c y z h i) = or_term b c y z (expr_balanced b y h) (expr_read b y h) (term_read c z i)

    pub term_read : (a : List Terminal) (x : Tree) → Term AnyKey a x → IsTermRead a x
    term_read a x (g.factor b y h) = one_factor b y (factor_read b y h)
    term_read a x (g.and b c y z h i) = and_factor b c y z (expr_balanced b y (g.term b y h)) (term_read b y h) (factor_read c z i)

    pub factor_read : (a : List Terminal) (x : Tree) → Factor AnyKey a x → IsRead a x
    factor_read a x (g.bang b y h) = bang_factor b y (factor_read b y h)
    factor_read a x (g.paren b y h) = paren_factor b y (expr_read b y h) (expr_begins b y h)
    factor_read a x (g.primary b y h) = primary_factor b y (operands b y h)

  -- a whole list
  pub whole_read : (a : List Terminal) (x : Tree) → HasFewOpen a → Expr AnyKey a x → whole_at a ≡ Ok x
  unfolding whole_at
  whole_read a x few h =
      ap (λ (o : Reading Tree). o >>= ended (length a))
      (ap (λ (here : List Terminal). expr_at (length a) (inside_at (length a) MOST_OPEN_PARENTHESES) here) (sym (append-nil a))
      ∙ expr_done a x (expr_read a x h) (length a) MOST_OPEN_PARENTHESES [] few end end_no_and end_no_or)
