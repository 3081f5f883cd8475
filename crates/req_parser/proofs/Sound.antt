-- What is read stands in the grammar, with plain keys.
use Rattle.std.proofs.Common.{◌≡◌, ℕ, zero, suc, Bool, true, false, List, [], ◌∷◌, ◌++◌, length, Option, Some, None, is_some, Result, Ok, Err, refl, sym, ap, subst, ◌∙◌, append_assoc, append-nil, true≢false}
use Rattle.req_tree.specs.Tree as t
use Rattle.req_tree.specs.Tree.{Tree}
use Rattle.req_grammar.specs.declared.limits.TheConstants.{MOST_OPEN_PARENTHESES}
use Rattle.req_grammar.specs.Words as w
use Rattle.req_grammar.specs.Words.{Word, Sign}
use Rattle.req_grammar.specs.Terminals.{Terminal, sign, word, str}
use Rattle.req_grammar.specs.Grammar as g
use Rattle.req_grammar.specs.Grammar.{Expr, Term, Factor}
use Rattle.req_grammar.specs.Readings.{AnyKey}
use Rattle.req_primary.specs.declared.fault.ReadingFault.{ReadingFault}
use Rattle.req_primary.specs.Steps.{Reading, Reader, ◌>>=◌, first_at, sign_at, close_at}
use Rattle.req_primary.specs.Laws.{IsOperand, WhatIsReadIsAnOperand}
use Rattle.req_parser.specs.Reading.{and_at, or_at, joined_at, behind, chain_from, negations, named_at, closed, closed_at, paren_at, operand_at, factor_at, term_at, expr_at, inside_at, ended, whole_at}
use Rattle.req_parser.proofs.Bangs.{factor_bang}

-- what was read is a front of the list, and the rest is left
pub record Front (R : List Terminal → Tree → Type 0) (here : List Terminal) (p : Tree × List Terminal) : Type 0 where
  pub front : List Terminal
  pub parts : here ≡ front ++ p.1
  pub is : R front p.0

abbrev is_fine : {A : Type 0} → Result A ReadingFault → Bool
is_fine (Ok x) = true
is_fine (Err fault) = false

pub err_ok : {A : Type 0} (fault : ReadingFault) (p : A) → ◌≡◌ {A = Result A ReadingFault} (Err fault) (Ok p) → ⊥
err_ok fault p e = true≢false (sym (ap is_fine e))

abbrev from : {A : Type 0} → A → Result A ReadingFault → A
from x (Ok y) = y
from x (Err fault) = x

pub ok_is : {A : Type 0} (x y : A) → ◌≡◌ {A = Result A ReadingFault} (Ok x) (Ok y) → x ≡ y
ok_is x y e = ap (from x) e

found : (R : List Terminal → Tree → Type 0) (here front : List Terminal) (v : Tree) (rest : List Terminal) (p : Tree × List Terminal)
    → here ≡ front ++ rest → R front v → ◌≡◌ {A = Reading Tree} (Ok (v, rest)) (Ok p) → Front R here p
found R here front v rest p parts is e = subst (λ q. Front R here q) (ok_is (v, rest) p e) (record { front = front; parts = parts; is = is })

pub bind_ok : {A B : Type 0} (o : Result A ReadingFault) (f : A → Result B ReadingFault) (p : B) → (o >>= f) ≡ Ok p → (q : A) × (o ≡ Ok q) × (f q ≡ Ok p)
bind_ok (Ok q) f p e = (q, refl, e)
bind_ok (Err fault) f p e = absurd (err_ok fault p e)

none_some : (p : List Terminal) → ◌≡◌ {A = Option (List Terminal)} None (Some p) → ⊥
none_some p e = true≢false (sym (ap is_some e))

abbrev some_or : List Terminal → Option (List Terminal) → List Terminal
some_or x None = x
some_or x (Some y) = y

some_is : (x y : List Terminal) → ◌≡◌ {A = Option (List Terminal)} (Some x) (Some y) → x ≡ y
some_is x y e = ap (some_or x) e

and_is : (here rest : List Terminal) → and_at here ≡ Some rest → here ≡ word w.and ∷ rest
unfolding and_at
and_is (word w.and ∷ more) rest e = ap (λ (l : List Terminal). word w.and ∷ l) (some_is more rest e)
and_is here rest e = absurd (none_some rest e)

or_is : (here rest : List Terminal) → or_at here ≡ Some rest → here ≡ word w.or ∷ rest
unfolding or_at
or_is (word w.or ∷ more) rest e = ap (λ (l : List Terminal). word w.or ∷ l) (some_is more rest e)
or_is here rest e = absurd (none_some rest e)

-- a chain, whose front so far is read
chain_sound : (op : List Terminal → Option (List Terminal)) (first : Terminal) → ((here rest : List Terminal) → op here ≡ Some rest → here ≡ first ∷ rest)
    → (join : Tree → Tree → Tree) (item : Reader Tree) (R S : List Terminal → Tree → Type 0) → ((a b : List Terminal) (x y : Tree) → R a x → S b y → R (a ++ first ∷ b) (join x y))
    → ((here : List Terminal) (p : Tree × List Terminal) → item here ≡ Ok p → Front S here p)
    → (n : ℕ) (whole a here : List Terminal) (x : Tree) (p : Tree × List Terminal) → whole ≡ a ++ here → R a x → chain_from n op join item x here ≡ Ok p → Front R whole p
unfolding chain_from
chain_sound op first op_is join item R S grow item_is zero whole a here x p parts is e = found R whole a x here p parts is e
chain_sound op first op_is join item R S grow item_is (suc n) whole a here x p parts is e =
    by (λ b y more wh re. chain_sound op first op_is join item R S grow item_is n whole b more y p wh re) (op here) refl e
  where
    by : ((b : List Terminal) (y : Tree) (more : List Terminal) → whole ≡ b ++ more → R b y → chain_from n op join item y more ≡ Ok p → Front R whole p)
        → (o : Option (List Terminal)) → op here ≡ o
        → behind x here (λ rest. joined_at join item x rest >>= λ (y : Tree × List Terminal). chain_from n op join item y.0 y.1) o ≡ Ok p → Front R whole p
    by later None ends h = found R whole a x here p parts is h
    by later (Some rest) stands h =
        let q = bind_ok (joined_at join item x rest) (λ (y : Tree × List Terminal). chain_from n op join item y.0 y.1) p h in
        let r = bind_ok (item rest) (λ (y : Tree × List Terminal). let o : Reading Tree = Ok (join x y.0, y.1) in o) q.0 q.1 in
        let f : Front S rest r.0 = item_is rest r.0 r.1 in
        let same : (join x r.0.0, r.0.1) ≡ q.0 = ok_is (join x r.0.0, r.0.1) q.0 r.2 in
        later (a ++ first ∷ f.front) (join x r.0.0) r.0.1
        (parts ∙ ap (λ (l : List Terminal). a ++ l) (op_is here rest stands) ∙ ap (λ (l : List Terminal). a ++ first ∷ l) f.parts ∙ sym (append_assoc a (first ∷ f.front) r.0.1))
        (grow a f.front x r.0.0 is f.is)
        (ap (λ (y : Tree × List Terminal). chain_from n op join item y.0 y.1) same ∙ q.2)

abbrev AnyTerm : List Terminal → Tree → Type 0
AnyTerm a x = Term AnyKey a x

abbrev pub AnyExpr : List Terminal → Tree → Type 0
AnyExpr a x = Expr AnyKey a x

abbrev AnyFactor : List Terminal → Tree → Type 0
AnyFactor a x = Factor AnyKey a x

-- readings that are sound
abbrev SoundExpr : Reader Tree → Type 0
SoundExpr reader = (here : List Terminal) (p : Tree × List Terminal) → reader here ≡ Ok p → Front AnyExpr here p

abbrev SoundFactor : Reader Tree → Type 0
SoundFactor reader = (here : List Terminal) (p : Tree × List Terminal) → reader here ≡ Ok p → Front AnyFactor here p

term_sound : (size : ℕ) (inside : Reader Tree) → SoundFactor (factor_at size inside) → (here : List Terminal) (p : Tree × List Terminal) → term_at size inside here ≡ Ok p → Front AnyTerm here p
unfolding term_at
term_sound size inside item_is here p e =
    let q = bind_ok (factor_at size inside here) (λ (x : Tree × List Terminal). chain_from (length here) and_at t.both (factor_at size inside) x.0 x.1) p e in
    let f : Front AnyFactor here q.0 = item_is here q.0 q.1 in
    chain_sound and_at (word w.and) and_is t.both (factor_at size inside) AnyTerm AnyFactor (λ a b x y i j. g.and a b x y i j) item_is (length here) here f.front q.0.1 q.0.0 p f.parts
    (g.factor f.front q.0.0 f.is) q.2

expr_sound : (size : ℕ) (inside : Reader Tree) → SoundFactor (factor_at size inside) → (here : List Terminal) (p : Tree × List Terminal) → expr_at size inside here ≡ Ok p → Front AnyExpr here p
unfolding expr_at
expr_sound size inside item_is here p e =
    let q = bind_ok (term_at size inside here) (λ (x : Tree × List Terminal). chain_from (length here) or_at t.either (term_at size inside) x.0 x.1) p e in
    let f : Front AnyTerm here q.0 = term_sound size inside item_is here q.0 q.1 in
    chain_sound or_at (word w.or) or_is t.either (term_at size inside) AnyExpr AnyTerm (λ a b x y i j. g.or a b x y i j) (λ l r h. term_sound size inside item_is l r h) (length here) here
    f.front q.0.1 q.0.0 p f.parts (g.term f.front q.0.0 f.is) q.2

close_is : (size : ℕ) (here rest : List Terminal) → close_at size here ≡ Ok rest → here ≡ sign w.right_paren ∷ rest
unfolding close_at sign_at first_at
close_is size (sign w.right_paren ∷ more) rest e = ap (λ (l : List Terminal). sign w.right_paren ∷ l) (ok_is more rest e)
close_is size here rest e = absurd (err_ok _ rest e)

named_sound : (size : ℕ) (s : List ℕ) (here : List Terminal) (p : Tree × List Terminal) → named_at size s here ≡ Ok p → Front AnyFactor (sign w.left_paren ∷ str s ∷ here) p
unfolding named_at
named_sound size s here p e =
    let q = bind_ok (close_at size here) (λ (rest : List Terminal). let o : Reading Tree = Ok (t.named_code s, rest) in o) p e in
    found AnyFactor _ (sign w.left_paren ∷ str s ∷ sign w.right_paren ∷ []) (t.named_code s) q.0 p
    (ap (λ (l : List Terminal). sign w.left_paren ∷ str s ∷ l) (close_is size here q.0 q.1)) (g.primary _ _ (g.named_code s)) q.2

closed_sound : (size : ℕ) (inside : Reader Tree) → SoundExpr inside → (here : List Terminal) (p : Tree × List Terminal) → closed_at size inside here ≡ Ok p
    → Front AnyFactor (sign w.left_paren ∷ here) p
closed_sound size inside inside_is here p e =
    let q = bind_ok (inside here) (closed size) p e in
    let f : Front AnyExpr here q.0 = inside_is here q.0 q.1 in
    let r = bind_ok (close_at size q.0.1) (λ (rest : List Terminal). let o : Reading Tree = Ok (q.0.0, rest) in o) p q.2 in
    found AnyFactor _ (sign w.left_paren ∷ f.front ++ sign w.right_paren ∷ []) q.0.0 r.0 p
    (ap (λ (l : List Terminal). sign w.left_paren ∷ l)
    (f.parts ∙ ap (λ (l : List Terminal). f.front ++ l) (close_is size q.0.1 r.0 r.1) ∙ sym (append_assoc f.front (sign w.right_paren ∷ []) r.0)))
    (g.paren f.front q.0.0 f.is) r.2

paren_sound : (size : ℕ) (inside : Reader Tree) → SoundExpr inside → (here : List Terminal) (p : Tree × List Terminal) → paren_at size inside here ≡ Ok p
    → Front AnyFactor (sign w.left_paren ∷ here) p
unfolding paren_at first_at
paren_sound size inside inside_is [] p e = absurd (err_ok _ p e)
paren_sound size inside inside_is (str s ∷ rest) p e = named_sound size s rest p e
paren_sound size inside inside_is (first ∷ rest) p e = closed_sound size inside inside_is (first ∷ rest) p e

module _ (operands : WhatIsReadIsAnOperand) where
  operand_sound : (size : ℕ) (inside : Reader Tree) → SoundExpr inside → (here : List Terminal) (p : Tree × List Terminal) → operand_at size inside here ≡ Ok p → Front AnyFactor here p
  unfolding operand_at first_at
  operand_sound size inside inside_is (word c ∷ rest) p e =
      let o : IsOperand c rest p.1 p.0 = operands size c (word c ∷ rest) rest p.1 p.0 e in
      record { front = word c ∷ o.front; parts = ap (λ (l : List Terminal). word c ∷ l) o.parts; is = g.primary _ _ o.is }
  operand_sound size inside inside_is (sign w.left_paren ∷ rest) p e = paren_sound size inside inside_is rest p e
  operand_sound size inside inside_is here p e = absurd (err_ok _ p e)

  negate_sound : (rest : List Terminal) (p q : Tree × List Terminal) → Front AnyFactor rest q → ◌≡◌ {A = Reading Tree} (Ok (t.negate q.0, q.1)) (Ok p) → Front AnyFactor (sign w.bang ∷ rest) p
  negate_sound rest p q f e =
      found AnyFactor _ (sign w.bang ∷ f.front) (t.negate q.0) q.1 p (ap (λ (l : List Terminal). sign w.bang ∷ l) f.parts) (g.bang f.front q.0 f.is) e

  plain_sound : (size : ℕ) (inside : Reader Tree) → SoundExpr inside → (here : List Terminal) (p : Tree × List Terminal)
      → (operand_at size inside here >>= λ (x : Tree × List Terminal). Ok (negations 0 x.0, x.1)) ≡ Ok p → Front AnyFactor here p
  plain_sound size inside inside_is here p e =
      let q = bind_ok (operand_at size inside here) (λ (x : Tree × List Terminal). let o : Reading Tree = Ok (negations 0 x.0, x.1) in o) p e in
      subst (λ (r : Tree × List Terminal). Front AnyFactor here r) (ok_is (q.0.0, q.0.1) p q.2) (operand_sound size inside inside_is here q.0 q.1)

  factor_sound : (size : ℕ) (inside : Reader Tree) → SoundExpr inside → (here : List Terminal) (p : Tree × List Terminal) → factor_at size inside here ≡ Ok p → Front AnyFactor here p
  unfolding factor_at
  factor_sound size inside inside_is (sign w.bang ∷ rest) p e =
      let q = bind_ok (factor_at size inside rest) (λ (x : Tree × List Terminal). let o : Reading Tree = Ok (t.negate x.0, x.1) in o) p (sym (factor_bang size inside rest) ∙ e) in
      negate_sound rest p q.0 (factor_sound size inside inside_is rest q.0 q.1) q.2
  factor_sound size inside inside_is here p e = plain_sound size inside inside_is here p e

  inside_sound : (size d : ℕ) (here : List Terminal) (p : Tree × List Terminal) → inside_at size d here ≡ Ok p → Front AnyExpr here p
  unfolding inside_at
  inside_sound size zero here p e = absurd (err_ok _ p e)
  inside_sound size (suc d) here p e =
      let inside_is = inside_sound size d in
      expr_sound size (inside_at size d) (λ l q h. factor_sound size (inside_at size d) inside_is l q h) here p e

  -- an expression is read from the front
  pub expr_front : (size d : ℕ) (here : List Terminal) (p : Tree × List Terminal) → expr_at size (inside_at size d) here ≡ Ok p → Front AnyExpr here p
  expr_front size d here p e = expr_sound size (inside_at size d) (λ l r h. factor_sound size (inside_at size d) (inside_sound size d) l r h) here p e

  ended_is : (size : ℕ) (p : Tree × List Terminal) (x : Tree) → ended size p ≡ Ok x → p ≡ (x, [])
  ended_is size (y, []) x e = ap (λ (z : Tree). let q : Tree × List Terminal = (z, []) in q) (ok_is y x e)
  ended_is size (y, first ∷ rest) x e = absurd (err_ok _ x e)

  -- a list that is read whole
  pub whole_sound : (a : List Terminal) (x : Tree) → whole_at a ≡ Ok x → Expr AnyKey a x
  unfolding whole_at
  whole_sound a x e =
      let q = bind_ok (expr_at (length a) (inside_at (length a) MOST_OPEN_PARENTHESES) a) (ended (length a)) x e in
      let same : q.0 ≡ (x, []) = ended_is (length a) q.0 x q.2 in
      let f : Front AnyExpr a (x, []) =
      subst (λ (r : Tree × List Terminal). Front AnyExpr a r) same
      (expr_front (length a) MOST_OPEN_PARENTHESES a q.0 q.1) in
      subst (λ (l : List Terminal). Expr AnyKey l x) (sym (append-nil f.front) ∙ sym f.parts) f.is
