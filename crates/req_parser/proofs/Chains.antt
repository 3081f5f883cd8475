-- A chain read by a loop: what is built so far is the outcome of a tree from which the rest of the chain goes on.
use Rattle.std.proofs.Common.{◌≡◌, ℕ, zero, suc, List, length, Option, Some, None, Ok, refl, sym, ap, ◌∙◌}
use Rattle.req_tree.specs.Tree as t
use Rattle.req_tree.specs.Tree.{Tree}
use Rattle.req_grammar.specs.Terminals.{Terminal}
use Rattle.req_primary.specs.declared.fault.ReadingFault.{ReadingFault}
use Rattle.req_primary.specs.Steps.{Reading, Reader, ◌>>=◌}
use Rattle.req_primary.specs.Keys.{Outcome, Tells}
use Rattle.req_parser.specs.Reading.{joined_at, behind, chain_from, chain, and_at, or_at, factor_at, term_at, expr_at}
use Rattle.req_parser.specs.Given.{IsOutcome, IsFault}

-- with so many operators to go, the rest of the chain gives what the whole gives
pub record IsOnTheWay (n : ℕ) (op : List Terminal → Option (List Terminal)) (join : Tree → Tree → Tree) (item : Reader Tree) (whole : Reading Tree) (outcome : Outcome) (rest : List Terminal) : Type 0 where
  pub tree : Tree
  pub tells : Tells tree outcome
  pub goes_on : chain_from n op join item tree rest ≡ whole

pub begun : (n m : ℕ) (op : List Terminal → Option (List Terminal)) (join : Tree → Tree → Tree) (item : Reader Tree) (here rest : List Terminal) (outcome : Outcome)
    → n ≡ m → IsOutcome (item here) outcome rest → IsOnTheWay n op join item (chain m op join item here) outcome rest
begun n m op join item here rest outcome same o = record {
  tree = o.tree;
  tells = o.tells;
  goes_on = ap (λ (k : ℕ). chain_from k op join item o.tree rest) same ∙ sym (ap (λ (r : Reading Tree). r >>= λ (x : Tree × List Terminal). chain_from m op join item x.0 x.1) o.reads);
}

-- another operand
one_more : (n m : ℕ) (op : List Terminal → Option (List Terminal)) (join : Tree → Tree → Tree) (item : Reader Tree) (x : Tree) (here after : List Terminal)
    → n ≡ suc m → op here ≡ Some after → chain_from n op join item x here ≡ (joined_at join item x after >>= λ (y : Tree × List Terminal). chain_from m op join item y.0 y.1)
unfolding chain_from
one_more n m op join item x here after same stands =
    ap (λ (k : ℕ). chain_from k op join item x here) same
    ∙ ap (behind x here (λ more. joined_at join item x more >>= λ (y : Tree × List Terminal). chain_from m op join item y.0 y.1)) stands

pub went_on : (n m : ℕ) (op : List Terminal → Option (List Terminal)) (join : Tree → Tree → Tree) (item : Reader Tree) (whole : Reading Tree) (outcome next : Outcome) (here after rest : List Terminal)
    (f : IsOnTheWay n op join item whole outcome here) → n ≡ suc m → op here ≡ Some after → IsOutcome (joined_at join item f.tree after) next rest
    → IsOnTheWay m op join item whole next rest
went_on n m op join item whole outcome next here after rest f same stands o = record {
  tree = o.tree;
  tells = o.tells;
  goes_on =
      sym (one_more n m op join item f.tree here after same stands ∙ ap (λ (r : Reading Tree). r >>= λ (y : Tree × List Terminal). chain_from m op join item y.0 y.1) o.reads)
      ∙ f.goes_on;
}

pub chain_fault : (n m : ℕ) (op : List Terminal → Option (List Terminal)) (join : Tree → Tree → Tree) (item : Reader Tree) (whole : Reading Tree) (outcome : Outcome) (here after : List Terminal) (fault : ReadingFault)
    (f : IsOnTheWay n op join item whole outcome here) → n ≡ suc m → op here ≡ Some after → IsFault (joined_at join item f.tree after) fault → IsFault whole fault
chain_fault n m op join item whole outcome here after fault f same stands is not_memory =
    sym f.goes_on ∙ one_more n m op join item f.tree here after same stands
    ∙ ap (λ (r : Reading Tree). r >>= λ (y : Tree × List Terminal). chain_from m op join item y.0 y.1) (is not_memory)

no_more : (n : ℕ) (op : List Terminal → Option (List Terminal)) (join : Tree → Tree → Tree) (item : Reader Tree) (x : Tree) (rest : List Terminal)
    → op rest ≡ None → chain_from n op join item x rest ≡ Ok (x, rest)
unfolding chain_from
no_more zero op join item x rest ends = refl
no_more (suc k) op join item x rest ends =
    ap (behind x rest (λ more. joined_at join item x more >>= λ (z : Tree × List Terminal). chain_from k op join item z.0 z.1)) ends

pub chain_ended : (n : ℕ) (op : List Terminal → Option (List Terminal)) (join : Tree → Tree → Tree) (item : Reader Tree) (whole : Reading Tree) (outcome : Outcome) (rest : List Terminal)
    → IsOnTheWay n op join item whole outcome rest → op rest ≡ None → IsOutcome whole outcome rest
chain_ended n op join item whole outcome rest f ends = record {
  tree = f.tree;
  reads = sym f.goes_on ∙ no_more n op join item f.tree rest ends;
  tells = f.tells;
}

all_read : (n : ℕ) (op : List Terminal → Option (List Terminal)) (join : Tree → Tree → Tree) (item : Reader Tree) (x : Tree) (rest : List Terminal)
    → n ≡ 0 → chain_from n op join item x rest ≡ Ok (x, rest)
unfolding chain_from
all_read n op join item x rest same = ap (λ (k : ℕ). chain_from k op join item x rest) same

pub chain_full : (n : ℕ) (op : List Terminal → Option (List Terminal)) (join : Tree → Tree → Tree) (item : Reader Tree) (whole : Reading Tree) (outcome : Outcome) (rest : List Terminal)
    → IsOnTheWay n op join item whole outcome rest → n ≡ 0 → IsOutcome whole outcome rest
chain_full n op join item whole outcome rest f same = record {
  tree = f.tree;
  reads = sym f.goes_on ∙ all_read n op join item f.tree rest same;
  tells = f.tells;
}

pub term_begun : (size n : ℕ) (inside : Reader Tree) (here rest : List Terminal) (outcome : Outcome) → n ≡ length here → IsOutcome (factor_at size inside here) outcome rest
    → IsOnTheWay n and_at t.both (factor_at size inside) (term_at size inside here) outcome rest
unfolding term_at
term_begun size n inside here rest outcome same o = begun n (length here) and_at t.both (factor_at size inside) here rest outcome same o

pub expr_begun : (size n : ℕ) (inside : Reader Tree) (here rest : List Terminal) (outcome : Outcome) → n ≡ length here → IsOutcome (term_at size inside here) outcome rest
    → IsOnTheWay n or_at t.either (term_at size inside) (expr_at size inside here) outcome rest
unfolding expr_at
expr_begun size n inside here rest outcome same o = begun n (length here) or_at t.either (term_at size inside) here rest outcome same o
