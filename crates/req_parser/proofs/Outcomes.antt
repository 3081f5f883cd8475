-- What is built of two trees, or of a negated one, is the outcome of the tree that they make.
use Rattle.std.proofs.Common.{◌≡◌, ℕ, zero, suc, ◌+◌, ◌≤◌, ◌<◌, max, nat_lt, Bool, true, false, cond, List, Ok, refl, sym, ap, subst, ◌∙◌, arith}
use Rattle.std.proofs.lemmas.Bool.{ltb-true, ltb-false}
use Rattle.req_tree.specs.declared.limits.TheConstants.{MOST_DEPTH}
use Rattle.req_tree.specs.Tree as t
use Rattle.req_tree.specs.Tree.{Tree}
use Rattle.req_tree.specs.Depth.{depth_of}
use Rattle.req_grammar.specs.Terminals.{Terminal}
use Rattle.req_primary.specs.declared.fault.ReadingFault.{ReadingFault}
use Rattle.req_primary.specs.Steps.{Reading, Reader, ◌>>=◌}
use Rattle.req_primary.specs.Keys.{StandsFor, Outcome, fine, deep, bad_key, Tells, limited, joined, negated, negated_times}
use Rattle.req_parser.specs.Reading.{joined_at, bangs, negations, operand_at, factor_at}
use Rattle.req_parser.specs.Given.{IsOutcome, IsFault}

-- a tree within the depth, or too deep
limited_tells : (plain x : Tree) (n : ℕ) → StandsFor plain x → n ≡ depth_of x → Tells plain (limited x n)
limited_tells plain x n stands is = by (nat_lt MOST_DEPTH n) refl
  where
    by : (b : Bool) → nat_lt MOST_DEPTH n ≡ b → Tells plain (cond b deep (fine x n))
    by true more = let large : MOST_DEPTH < n = ltb-true MOST_DEPTH n more in (x, stands, omega (arith, large, is))
    by false less = let small : n ≤ MOST_DEPTH = ltb-false MOST_DEPTH n less in (stands, is, small)

-- how two trees are made one
pub data Joins : (Tree → Tree → Tree) → Type 0 where
  by_both : Joins t.both
  by_either : Joins t.either

both_tells : (p q : Tree) (o r : Outcome) → Tells p o → Tells q r → Tells (t.both p q) (joined t.both o r)
both_tells p q bad_key r h i = λ x s. h s.0 s.2
both_tells p q deep bad_key h i = λ x s. i s.1 s.3
both_tells p q deep deep h i = let d : MOST_DEPTH < depth_of h.0 = h.2 in (t.both h.0 i.0, (h.0, i.0, h.1, i.1, refl), omega (arith, d))
both_tells p q deep (fine y m) h i = let d : MOST_DEPTH < depth_of h.0 = h.2 in (t.both h.0 y, (h.0, y, h.1, i.0, refl), omega (arith, d))
both_tells p q (fine x n) bad_key h i = λ z s. i s.1 s.3
both_tells p q (fine x n) deep h i = let d : MOST_DEPTH < depth_of i.0 = i.2 in (t.both x i.0, (x, i.0, h.0, i.1, refl), omega (arith, d))
both_tells p q (fine x n) (fine y m) h i =
    let left : n ≡ depth_of x = h.1 in
    let right : m ≡ depth_of y = i.1 in
    limited_tells (t.both p q) (t.both x y) (max n m + 1) (x, y, h.0, i.0, refl) (omega (arith, left, right))

either_tells : (p q : Tree) (o r : Outcome) → Tells p o → Tells q r → Tells (t.either p q) (joined t.either o r)
either_tells p q bad_key r h i = λ x s. h s.0 s.2
either_tells p q deep bad_key h i = λ x s. i s.1 s.3
either_tells p q deep deep h i = let d : MOST_DEPTH < depth_of h.0 = h.2 in (t.either h.0 i.0, (h.0, i.0, h.1, i.1, refl), omega (arith, d))
either_tells p q deep (fine y m) h i = let d : MOST_DEPTH < depth_of h.0 = h.2 in (t.either h.0 y, (h.0, y, h.1, i.0, refl), omega (arith, d))
either_tells p q (fine x n) bad_key h i = λ z s. i s.1 s.3
either_tells p q (fine x n) deep h i = let d : MOST_DEPTH < depth_of i.0 = i.2 in (t.either x i.0, (x, i.0, h.0, i.1, refl), omega (arith, d))
either_tells p q (fine x n) (fine y m) h i =
    let left : n ≡ depth_of x = h.1 in
    let right : m ≡ depth_of y = i.1 in
    limited_tells (t.either p q) (t.either x y) (max n m + 1) (x, y, h.0, i.0, refl) (omega (arith, left, right))

negated_tells : (p : Tree) (o : Outcome) → Tells p o → Tells (t.negate p) (negated o)
negated_tells p bad_key h = λ x s. h s.0 s.1
negated_tells p deep h = let d : MOST_DEPTH < depth_of h.0 = h.2 in (t.negate h.0, (h.0, h.1, refl), omega (arith, d))
negated_tells p (fine x n) h = let is : n ≡ depth_of x = h.1 in limited_tells (t.negate p) (t.negate x) (n + 1) (x, h.0, refl) (omega (arith, is))

times_tells : (n : ℕ) (p : Tree) (o : Outcome) → Tells p o → Tells (negations n p) (negated_times n o)
times_tells zero p o h = h
times_tells (suc n) p o h = times_tells n (t.negate p) (negated o) (negated_tells p o h)

-- a further operand, built onto what was built
pub both_outcome : (x : Tree) (left right next : Outcome) (item : Reader Tree) (here rest : List Terminal) → Tells x left → IsOutcome (item here) right rest
    → next ≡ joined t.both left right → IsOutcome (joined_at t.both item x here) next rest
both_outcome x left right next item here rest tells o is = record {
  tree = t.both x o.tree;
  reads = ap (λ (r : Reading Tree). r >>= λ (y : Tree × List Terminal). Ok (t.both x y.0, y.1)) o.reads;
  tells = subst (Tells (t.both x o.tree)) (sym is) (both_tells x o.tree left right tells o.tells);
}

pub either_outcome : (x : Tree) (left right next : Outcome) (item : Reader Tree) (here rest : List Terminal) → Tells x left → IsOutcome (item here) right rest
    → next ≡ joined t.either left right → IsOutcome (joined_at t.either item x here) next rest
either_outcome x left right next item here rest tells o is = record {
  tree = t.either x o.tree;
  reads = ap (λ (r : Reading Tree). r >>= λ (y : Tree × List Terminal). Ok (t.either x y.0, y.1)) o.reads;
  tells = subst (Tells (t.either x o.tree)) (sym is) (either_tells x o.tree left right tells o.tells);
}

pub joined_fault : (join : Tree → Tree → Tree) (x : Tree) (item : Reader Tree) (here : List Terminal) (fault : ReadingFault) → IsFault (item here) fault → IsFault (joined_at join item x here) fault
joined_fault join x item here fault is not_memory = ap (λ (r : Reading Tree). r >>= λ (y : Tree × List Terminal). Ok (join x y.0, y.1)) (is not_memory)

-- an operand with the `!` before it
pub factor_outcome : (size : ℕ) (inside : Reader Tree) (here after rest : List Terminal) (count : ℕ) (o next : Outcome) → count ≡ (bangs here).0 → after ≡ (bangs here).1
    → IsOutcome (operand_at size inside after) o rest → next ≡ negated_times count o → IsOutcome (factor_at size inside here) next rest
unfolding factor_at
factor_outcome size inside here after rest count o next counted behind f is = record {
  tree = negations count f.tree;
  reads =
      ap (λ (n : ℕ). operand_at size inside (bangs here).1 >>= λ (x : Tree × List Terminal). Ok (negations n x.0, x.1)) (sym counted)
      ∙ ap (λ (r : Reading Tree). r >>= λ (x : Tree × List Terminal). Ok (negations count x.0, x.1)) (ap (operand_at size inside) (sym behind) ∙ f.reads);
  tells = subst (Tells (negations count f.tree)) (sym is) (times_tells count f.tree o f.tells);
}

pub factor_fault : (size : ℕ) (inside : Reader Tree) (here after : List Terminal) (fault : ReadingFault) → after ≡ (bangs here).1
    → IsFault (operand_at size inside after) fault → IsFault (factor_at size inside here) fault
unfolding factor_at
factor_fault size inside here after fault behind is not_memory =
    ap (λ (r : Reading Tree). r >>= λ (x : Tree × List Terminal). Ok (negations (bangs here).0 x.0, x.1)) (ap (operand_at size inside) (sym behind) ∙ is not_memory)
