-- On the machine's way the parentheses that were taken off are those that are still to be closed.
use Rattle.std.proofs.Common.{◌≡◌, ℕ, ◌+◌, ◌^◌, nat_lt, nat_le, Bool, true, false, cond, List, [], ◌∷◌, ◌++◌, count_by, Option, Some, None, refl, ap, subst, arith}
use Rattle.std.proofs.lemmas.List.Sums.{sum_by-append}
use Rattle.req_grammar.specs.Words as w
use Rattle.req_grammar.specs.Terminals as t
use Rattle.req_grammar.specs.Terminals.{Terminal, sign, word}
use Rattle.req_grammar.specs.Readings.{is_left, is_right}
use Rattle.req_machine.specs.Machine.{Symbol, set, expr, tail, factor, paren, equals, number, slot, anchor, apple, test, match, value, star, right_paren, left_bracket, right_bracket, equal, arrow, str, hash, integer, Row, takes, becomes, refuses, row, State, first_of, Goes, stay, on}
use Rattle.req_machine.proofs.Moves.{Step, taking, becoming, is_step}
use Rattle.req_machine.specs.Parentheses.{closes, to_close, IsBalanced}

abbrev lefts : Terminal → ℕ
lefts x = cond (is_left x) 1 0

abbrev rights : Terminal → ℕ
rights x = cond (is_right x) 1 0

abbrev Fair : Symbol → Option Terminal → Row → Type 0
Fair s (Some x) (takes symbols) = lefts x + closes s ≡ rights x + to_close symbols
Fair s None (takes symbols) = ⊥
Fair s next (becomes symbols) = closes s ≡ to_close symbols
Fair s next refuses = Unit {0}

number_fair : (n : ℕ) (b : Bool) → Fair number (Some (t.int n)) (cond b (takes []) refuses)
number_fair n true = refl
number_fair n false = tt

integer_fair : (n : ℕ) (b : Bool) → Fair integer (Some (t.int n)) (cond b (takes []) refuses)
integer_fair n true = refl
integer_fair n false = tt

fair : (s : Symbol) (next : Option Terminal) → Fair s next (row s next)
fair set (Some (word w.host)) = refl
fair set (Some (word w.guest)) = refl
fair set (Some (word w.designated)) = refl
fair set (Some (word w.library)) = refl
fair set (Some (word w.plugin)) = refl
fair set other = refl
fair expr any = refl
fair tail (Some (word w.and)) = refl
fair tail (Some (word w.or)) = refl
fair tail other = refl
fair factor (Some (sign w.bang)) = refl
fair factor (Some (sign w.left_paren)) = refl
fair factor (Some (word w.always)) = refl
fair factor (Some (word w.true)) = refl
fair factor (Some (word w.never)) = refl
fair factor (Some (word w.false)) = refl
fair factor (Some (word w.notarized)) = refl
fair factor (Some (word w.legacy)) = refl
fair factor (Some (word w.identifier)) = refl
fair factor (Some (word w.cdhash)) = refl
fair factor (Some (word w.platform)) = refl
fair factor (Some (word w.anchor)) = refl
fair factor (Some (word w.cert)) = refl
fair factor (Some (word w.certificate)) = refl
fair factor (Some (word w.info)) = refl
fair factor (Some (word w.entitlement)) = refl
fair factor other = tt
fair paren (Some (t.str s)) = refl
fair paren other = refl
fair equals (Some (sign w.equal)) = refl
fair equals other = refl
fair number (Some (t.int n)) = number_fair n (nat_lt n (2 ^ 31))
fair number (Some (sign w.dash)) = refl
fair number other = tt
fair slot (Some (word w.leaf)) = refl
fair slot (Some (word w.root)) = refl
fair slot other = refl
fair anchor (Some (word w.apple)) = refl
fair anchor other = refl
fair apple (Some (word w.generic)) = refl
fair apple (Some (t.str s)) = refl
fair apple other = refl
fair test (Some (word w.trusted)) = refl
fair test (Some (sign w.equal)) = refl
fair test (Some (sign w.left_bracket)) = refl
fair test other = tt
fair match (Some (word w.exists)) = refl
fair match (Some (word w.absent)) = refl
fair match (Some (sign w.equal)) = refl
fair match (Some (sign w.tilde)) = refl
fair match (Some (sign w.less)) = refl
fair match (Some (sign w.greater)) = refl
fair match (Some (sign w.less_equal)) = refl
fair match (Some (sign w.greater_equal)) = refl
fair match other = refl
fair value (Some (sign w.star)) = refl
fair value (Some (t.str s)) = refl
fair value other = tt
fair star (Some (sign w.star)) = refl
fair star other = refl
fair right_paren (Some (sign w.right_paren)) = refl
fair right_paren other = tt
fair left_bracket (Some (sign w.left_bracket)) = refl
fair left_bracket other = tt
fair right_bracket (Some (sign w.right_bracket)) = refl
fair right_bracket other = tt
fair equal (Some (sign w.equal)) = refl
fair equal other = tt
fair arrow (Some (sign w.arrow)) = refl
fair arrow other = tt
fair str (Some (t.str s)) = refl
fair str other = tt
fair hash (Some (t.hash h)) = refl
fair hash other = tt
fair integer (Some (t.int n)) = integer_fair n (nat_le n (2 ^ 31))
fair integer other = tt

to_close_joined : (a b : List Symbol) → to_close (a ++ b) ≡ to_close a + to_close b
to_close_joined [] b = omega arith
to_close_joined (s ∷ a) b = omega (arith, to_close_joined a b)

lefts_more : (x : Terminal) (a : List Terminal) → count_by is_left (x ∷ a) ≡ (0 + lefts x) + count_by is_left a
lefts_more x a = sum_by-append (λ y. cond (is_left y) 1 0) (x ∷ []) a

rights_more : (x : Terminal) (a : List Terminal) → count_by is_right (x ∷ a) ≡ (0 + rights x) + count_by is_right a
rights_more x a = sum_by-append (λ y. cond (is_right y) 1 0) (x ∷ []) a

became_fair : (s : Symbol) (next : Option Terminal) (symbols : List Symbol) → row s next ≡ becomes symbols → closes s ≡ to_close symbols
became_fair s None symbols h = subst (Fair s None) h (fair s None)
became_fair s (Some x) symbols h = subst (Fair s (Some x)) h (fair s (Some x))

balanced_step : (s r e : State) → Step s r → IsBalanced r e → IsBalanced s e
balanced_step s r e (taking p symbols others x rest h) f =
    let same : lefts x + closes p ≡ rights x + to_close symbols = subst (Fair p (Some x)) h (fair p (Some x)) in
    record {
      front = x ∷ f.front;
      parts = ap (λ (l : List Terminal). x ∷ l) f.parts;
      even = omega (arith, same, f.even, to_close_joined symbols others, lefts_more x f.front, rights_more x f.front);
    }
balanced_step s r e (becoming p symbols others left h) f =
    let same : closes p ≡ to_close symbols = became_fair p (first_of left) symbols h in
    record { front = f.front; parts = f.parts; even = omega (arith, same, f.even, to_close_joined symbols others) }

pub balanced_way : (s e : State) → Goes s e → IsBalanced s e
balanced_way s e (stay p) = record { front = []; parts = refl; even = refl }
balanced_way s e (on p r u h g) = balanced_step s r e (is_step s r h) (balanced_way r e g)
