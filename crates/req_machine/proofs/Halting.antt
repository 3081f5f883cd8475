-- The machine stops: each step makes the state lighter.
use Rattle.std.proofs.Common.{◌≡◌, ℕ, zero, suc, ◌+◌, ◌-◌, ◌*◌, ◌^◌, ◌≤◌, ◌<◌, nat_lt, nat_le, Bool, true, false, cond, List, [], ◌∷◌, ◌++◌, length, Option, Some, None, refl, subst, arith}
use Rattle.req_grammar.specs.Words as w
use Rattle.req_grammar.specs.Terminals as t
use Rattle.req_grammar.specs.Terminals.{Terminal, sign, word}
use Rattle.req_machine.specs.Machine.{Symbol, set, expr, tail, factor, paren, equals, number, slot, anchor, apple, test, match, value, star, right_paren, left_bracket, right_bracket, equal, arrow, str, hash, integer, Row, takes, becomes, refuses, row, State, first_of, step, Goes, stay, on, IsTaken}
use Rattle.req_machine.proofs.Moves.{Step, taking, becoming, is_step}

abbrev weight : Symbol → ℕ
weight expr = 3
weight paren = 5
weight slot = 2
weight anchor = 2
weight other = 1

abbrev weights : List Symbol → ℕ
weights [] = 0
weights (s ∷ others) = weight s + weights others

weights_append : (a b : List Symbol) → weights (a ++ b) ≡ weights a + weights b
weights_append [] b = omega arith
weights_append (s ∷ a) b = omega (arith, weights_append a b)

abbrev Lighter : Symbol → Row → Type 0
Lighter s (takes symbols) = weights symbols < weight s + 5
Lighter s (becomes symbols) = weights symbols < weight s
Lighter s refuses = Unit {0}

number_lighter : (b : Bool) → Lighter number (cond b (takes []) refuses)
number_lighter true = omega arith
number_lighter false = tt

integer_lighter : (b : Bool) → Lighter integer (cond b (takes []) refuses)
integer_lighter true = omega arith
integer_lighter false = tt

lighter : (s : Symbol) (next : Option Terminal) → Lighter s (row s next)
lighter set (Some (word w.host)) = omega arith
lighter set (Some (word w.guest)) = omega arith
lighter set (Some (word w.designated)) = omega arith
lighter set (Some (word w.library)) = omega arith
lighter set (Some (word w.plugin)) = omega arith
lighter set other = omega arith
lighter expr any = omega arith
lighter tail (Some (word w.and)) = omega arith
lighter tail (Some (word w.or)) = omega arith
lighter tail other = omega arith
lighter factor (Some (sign w.bang)) = omega arith
lighter factor (Some (sign w.left_paren)) = omega arith
lighter factor (Some (word w.always)) = omega arith
lighter factor (Some (word w.true)) = omega arith
lighter factor (Some (word w.never)) = omega arith
lighter factor (Some (word w.false)) = omega arith
lighter factor (Some (word w.notarized)) = omega arith
lighter factor (Some (word w.legacy)) = omega arith
lighter factor (Some (word w.identifier)) = omega arith
lighter factor (Some (word w.cdhash)) = omega arith
lighter factor (Some (word w.platform)) = omega arith
lighter factor (Some (word w.anchor)) = omega arith
lighter factor (Some (word w.cert)) = omega arith
lighter factor (Some (word w.certificate)) = omega arith
lighter factor (Some (word w.info)) = omega arith
lighter factor (Some (word w.entitlement)) = omega arith
lighter factor other = tt
lighter paren (Some (t.str s)) = omega arith
lighter paren other = omega arith
lighter equals (Some (sign w.equal)) = omega arith
lighter equals other = omega arith
lighter number (Some (t.int n)) = number_lighter (nat_lt n (2 ^ 31))
lighter number (Some (sign w.dash)) = omega arith
lighter number other = tt
lighter slot (Some (word w.leaf)) = omega arith
lighter slot (Some (word w.root)) = omega arith
lighter slot other = omega arith
lighter anchor (Some (word w.apple)) = omega arith
lighter anchor other = omega arith
lighter apple (Some (word w.generic)) = omega arith
lighter apple (Some (t.str s)) = omega arith
lighter apple other = omega arith
lighter test (Some (word w.trusted)) = omega arith
lighter test (Some (sign w.equal)) = omega arith
lighter test (Some (sign w.left_bracket)) = omega arith
lighter test other = tt
lighter match (Some (word w.exists)) = omega arith
lighter match (Some (word w.absent)) = omega arith
lighter match (Some (sign w.equal)) = omega arith
lighter match (Some (sign w.tilde)) = omega arith
lighter match (Some (sign w.less)) = omega arith
lighter match (Some (sign w.greater)) = omega arith
lighter match (Some (sign w.less_equal)) = omega arith
lighter match (Some (sign w.greater_equal)) = omega arith
lighter match other = omega arith
lighter value (Some (sign w.star)) = omega arith
lighter value (Some (t.str s)) = omega arith
lighter value other = tt
lighter star (Some (sign w.star)) = omega arith
lighter star other = omega arith
lighter right_paren (Some (sign w.right_paren)) = omega arith
lighter right_paren other = tt
lighter left_bracket (Some (sign w.left_bracket)) = omega arith
lighter left_bracket other = tt
lighter right_bracket (Some (sign w.right_bracket)) = omega arith
lighter right_bracket other = tt
lighter equal (Some (sign w.equal)) = omega arith
lighter equal other = tt
lighter arrow (Some (sign w.arrow)) = omega arith
lighter arrow other = tt
lighter str (Some (t.str s)) = omega arith
lighter str other = tt
lighter hash (Some (t.hash h)) = omega arith
lighter hash other = tt
lighter integer (Some (t.int n)) = integer_lighter (nat_le n (2 ^ 31))
lighter integer other = tt

abbrev load : State → ℕ
load s = weights s.0 + 5 * length s.1

step_lighter : (s r : State) → Step s r → load r < load s
step_lighter s r (taking p symbols others x rest h) =
    let less : weights symbols < weight p + 5 = subst (Lighter p) h (lighter p (Some x)) in
    omega (arith, less, weights_append symbols others)
step_lighter s r (becoming p symbols others left h) =
    let less : weights symbols < weight p = subst (Lighter p) h (lighter p (first_of left)) in
    omega (arith, less, weights_append symbols others)

step_shorter : (s r : State) → Step s r → length r.1 ≤ length s.1
step_shorter s r (taking p symbols others x rest h) = omega arith
step_shorter s r (becoming p symbols others left h) = omega arith

-- a stop, and what is left there
record Halts (s : State) : Type 0 where
  end : State
  goes : Goes s end
  stopped : step end ≡ None
  shorter : length end.1 ≤ length s.1

halts : (n : ℕ) (s : State) → load s < n → Halts s
halts zero s light = absurd (omega (arith, light))
halts (suc n) s light = by (λ r less. halts n r less) (step s) refl
  where
    by : ((r : State) → load r < n → Halts r) → (o : Option State) → step s ≡ o → Halts s
    by again None e = record { end = s; goes = stay s; stopped = e; shorter = omega arith }
    by again (Some r) e =
        let less : load r < load s = step_lighter s r (is_step s r e) in
        let f : Halts r = again r (omega (arith, less, light)) in
        record { end = f.end; goes = on s r f.end e f.goes; stopped = f.stopped; shorter = omega (arith, f.shorter, step_shorter s r (is_step s r e)) }

pub some_number : (symbol : Symbol) (list : List Terminal) → (n : ℕ) × IsTaken symbol list n
some_number symbol list =
    let f : Halts (symbol ∷ [], list) = halts (suc (load (symbol ∷ [], list))) (symbol ∷ [], list) (omega arith) in
    (length list - length f.end.1, record { end = f.end; goes = f.goes; stopped = f.stopped; count = omega (arith, f.shorter) })
