-- What stands behind a `!` is read as without it, and negated.
use Rattle.std.proofs.Common.{◌≡◌, ◌<◌, ◌≤◌, length, drop, get_or, ℕ, zero, suc, ◌+◌, Bool, true, false, if◌then◌else◌, List, [], ◌∷◌, Ok, Err, refl, sym, ap, ◌∙◌, arith}
use Rattle.std.proofs.Math.Seq.{drop-cons}
use Rattle.req_tree.specs.Tree as t
use Rattle.req_tree.specs.Tree.{Tree}
use Rattle.req_grammar.specs.Words as w
use Rattle.req_grammar.specs.Terminals.{Terminal, sign}
use Rattle.req_tokens.specs.declared.terminal.Terminal as code
use Rattle.req_tokens.specs.Terminals.{plain, plains}
use Rattle.req_primary.specs.Steps.{Reading, Reader, ◌>>=◌}
use Rattle.req_parser.specs.Reading.{is_bang, bangs_from, bangs, negations, operand_at, factor_at}

pub bangs_more : (n : ℕ) (l : List Terminal) → bangs_from (n + 1) l ≡ ((bangs_from n l).0 + 1, (bangs_from n l).1)
bangs_more n [] = refl
bangs_more n (first ∷ rest) = by (λ k. bangs_more k rest) (is_bang first)
  where
    by : ((k : ℕ) → bangs_from (k + 1) rest ≡ ((bangs_from k rest).0 + 1, (bangs_from k rest).1)) → (b : Bool)
        → (if b then bangs_from (n + 1 + 1) rest else (n + 1, first ∷ rest))
        ≡ ((if b then bangs_from (n + 1) rest else (n, first ∷ rest)).0 + 1, (if b then bangs_from (n + 1) rest else (n, first ∷ rest)).1)
    by more true = more (n + 1)
    by more false = refl

negations_turned : (k : ℕ) (x : Tree) → negations k (t.negate x) ≡ t.negate (negations k x)
negations_turned zero x = refl
negations_turned (suc k) x = negations_turned k (t.negate x)

pub negations_more : (k : ℕ) (x : Tree) → negations (k + 1) x ≡ t.negate (negations k x)
negations_more k x = let same : k + 1 ≡ suc k = omega arith in ap (λ (n : ℕ). negations n x) same ∙ negations_turned k x

abbrev negate_read : Reading Tree → Reading Tree
negate_read read = read >>= λ (x : Tree × List Terminal). Ok (t.negate x.0, x.1)

abbrev negated_by : ℕ → Reading Tree → Reading Tree
negated_by k read = read >>= λ (x : Tree × List Terminal). Ok (negations k x.0, x.1)

negated_more : (k : ℕ) (read : Reading Tree) → negated_by (k + 1) read ≡ negate_read (negated_by k read)
negated_more k (Ok x) = ap (λ (y : Tree). let o : Reading Tree = Ok (y, x.1) in o) (negations_more k x.0)
negated_more k (Err e) = refl

pub factor_bang : (size : ℕ) (inside : Reader Tree) (l : List Terminal) → factor_at size inside (sign w.bang ∷ l) ≡ negate_read (factor_at size inside l)
unfolding factor_at
factor_bang size inside l =
    ap (λ (p : ℕ × List Terminal). negated_by p.0 (operand_at size inside p.1)) (bangs_more 0 l)
    ∙ negated_more (bangs l).0 (operand_at size inside (bangs l).1)

-- ---- the loop over `!`

-- the first terminal is none
pub bangs_stop : (count : ℕ) (first : Terminal) (rest : List Terminal) → is_bang first ≡ false → bangs_from count (first ∷ rest) ≡ (count, first ∷ rest)
bangs_stop count first rest e = ap (λ (b : Bool). if b then bangs_from (count + 1) rest else (count, first ∷ rest)) e

-- the first terminal is one
pub bangs_on : (count : ℕ) (first : Terminal) (rest : List Terminal) → is_bang first ≡ true → bangs_from count (first ∷ rest) ≡ bangs_from (count + 1) rest
bangs_on count first rest e = ap (λ (b : Bool). if b then bangs_from (count + 1) rest else (count, first ∷ rest)) e

-- ---- the same over the program's terminals

drop_at : {X : Type 0} (here : List X) (i : ℕ) (x : X) → i < length here → x ≡ get_or here i x → drop i here ≡ x ∷ drop (i + 1) here
drop_at here i x within is =
    let next : suc i ≡ i + 1 = omega arith in
    drop-cons here i x within ∙ ap (λ y. y ∷ drop (suc i) here) (sym is) ∙ ap (λ (n : ℕ). x ∷ drop n here) next

drop_end : {X : Type 0} (here : List X) (i : ℕ) → length here ≤ i → drop i here ≡ []
drop_end [] zero h = refl
drop_end [] (suc i) h = refl
drop_end (x ∷ here) zero h = absurd (omega (arith, h))
drop_end (x ∷ here) (suc i) h = let less : length here ≤ i = omega (arith, h) in drop_end here i less

pub loop_on : (here : List code.Terminal) (i : ℕ) (x : code.Terminal) (whole : ℕ × List Terminal) → i < length here → x ≡ get_or here i x → is_bang (plain x) ≡ true
    → bangs_from i (plains (drop i here)) ≡ whole → bangs_from (i + 1) (plains (drop (i + 1) here)) ≡ whole
loop_on here i x whole within is one before =
    sym (ap (λ (l : List code.Terminal). bangs_from i (plains l)) (drop_at here i x within is) ∙ bangs_on i (plain x) (plains (drop (i + 1) here)) one) ∙ before

pub loop_stops : (here : List code.Terminal) (i : ℕ) (x : code.Terminal) (whole : ℕ × List Terminal) → i < length here → x ≡ get_or here i x → is_bang (plain x) ≡ false
    → bangs_from i (plains (drop i here)) ≡ whole → (i, plains (drop i here)) ≡ whole
loop_stops here i x whole within is none before =
    let parts : plains (drop i here) ≡ plain x ∷ plains (drop (i + 1) here) = ap plains (drop_at here i x within is) in
    ap (λ (l : List Terminal). let p : ℕ × List Terminal = (i, l) in p) parts ∙ sym (ap (bangs_from i) parts ∙ bangs_stop i (plain x) (plains (drop (i + 1) here)) none) ∙ before

pub loop_ends : (here : List code.Terminal) (i : ℕ) (whole : ℕ × List Terminal) → length here ≤ i → bangs_from i (plains (drop i here)) ≡ whole → (i, []) ≡ whole
loop_ends here i whole end before = sym (ap (λ (l : List code.Terminal). bangs_from i (plains l)) (drop_end here i end)) ∙ before
