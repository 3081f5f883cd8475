-- How the machine moves: its ends are one, and what stands behind the next terminal doesn't matter.
use Rattle.std.proofs.Common.{◌≡◌, List, [], ◌∷◌, ◌++◌, Option, Some, None, is_some, refl, sym, ap, subst, ◌∙◌, true≢false}
use Rattle.req_grammar.specs.Terminals.{Terminal}
use Rattle.req_machine.specs.Machine.{Symbol, Row, takes, becomes, refuses, row, State, first_of, moved, step, Goes, stay, on}

pub none_some : {A : Type 0} (p : A) → ◌≡◌ {A = Option A} None (Some p) → ⊥
none_some p e = true≢false (sym (ap is_some e))

abbrev from : {A : Type 0} → A → Option A → A
from x None = x
from x (Some y) = y

pub some_is : {A : Type 0} (x y : A) → Some x ≡ Some y → x ≡ y
some_is x y e = ap (from x) e

-- one way after another
pub then : (s r e : State) → Goes s r → Goes r e → Goes s e
then s r e (stay p) b = b
then s r e (on p q u h g) b = on s q e h (then q r e g b)

-- two ways to a stop come to the same
pub one_end : (s a b : State) → Goes s a → step a ≡ None → Goes s b → step b ≡ None → a ≡ b
one_end s a b (stay p) i (stay q) j = refl
one_end s a b (stay p) i (on q r e h g) j = absurd (none_some r (sym i ∙ h))
one_end s a b (on q r e h g) i (stay p) j = absurd (none_some r (sym j ∙ h))
one_end s a b (on p r e h g) i (on q u v k l) j =
    one_end r a b g i (subst (λ (z : State). Goes z b) (some_is u r (sym k ∙ h)) l) j

-- a step, by its row
pub data Step : State → State → Type 0 where
  taking : (s : Symbol) (symbols others : List Symbol) (t : Terminal) (rest : List Terminal) → row s (Some t) ≡ takes symbols
      → Step (s ∷ others, t ∷ rest) (symbols ++ others, rest)
  becoming : (s : Symbol) (symbols others : List Symbol) (left : List Terminal) → row s (first_of left) ≡ becomes symbols
      → Step (s ∷ others, left) (symbols ++ others, left)

pub is_step : (s r : State) → step s ≡ Some r → Step s r
is_step ([], left) r e = absurd (none_some r e)
is_step (symbol ∷ others, left) r e = by (row symbol (first_of left)) left refl e
  where
    by : (o : Row) (left : List Terminal) → row symbol (first_of left) ≡ o → moved o others left ≡ Some r → Step (symbol ∷ others, left) r
    by (takes symbols) [] h i = absurd (none_some r i)
    by (takes symbols) (t ∷ rest) h i =
        subst (λ (z : State). Step (symbol ∷ others, t ∷ rest) z) (some_is (symbols ++ others, rest) r i) (taking symbol symbols others t rest h)
    by (becomes symbols) left h i =
        subst (λ (z : State). Step (symbol ∷ others, left) z) (some_is (symbols ++ others, left) r i) (becoming symbol symbols others left h)
    by refuses left h i = absurd (none_some r i)

pub take_step : (s : Symbol) (symbols others : List Symbol) (t : Terminal) (rest : List Terminal) → row s (Some t) ≡ takes symbols
    → step (s ∷ others, t ∷ rest) ≡ Some (symbols ++ others, rest)
take_step s symbols others t rest h = ap (λ (o : Row). moved o others (t ∷ rest)) h

pub become_step : (s : Symbol) (symbols others : List Symbol) (left : List Terminal) → row s (first_of left) ≡ becomes symbols
    → step (s ∷ others, left) ≡ Some (symbols ++ others, left)
become_step s symbols others left h = ap (λ (o : Row). moved o others left) h

-- what stands behind the next terminal doesn't matter
pub record IsSwapped (s : State) (symbols : List Symbol) (t : Terminal) (x y : List Terminal) : Type 0 where
  pub front : List Terminal
  pub parts : s.1 ≡ front ++ t ∷ x
  pub goes : Goes (s.0, front ++ t ∷ y) (symbols, t ∷ y)

first_same : (front : List Terminal) (t : Terminal) (x y : List Terminal) → first_of (front ++ t ∷ x) ≡ first_of (front ++ t ∷ y)
first_same [] t x y = refl
first_same (u ∷ front) t x y = refl

swap_step : (s r : State) (symbols : List Symbol) (t : Terminal) (x y : List Terminal) → Step s r → IsSwapped r symbols t x y → IsSwapped s symbols t x y
swap_step s r symbols t x y (taking p ss others u rest h) f = record {
  front = u ∷ f.front;
  parts = ap (λ (l : List Terminal). u ∷ l) f.parts;
  goes = on _ _ _ (take_step p ss others u (f.front ++ t ∷ y) h) f.goes;
}
swap_step s r symbols t x y (becoming p ss others left h) f = record {
  front = f.front;
  parts = f.parts;
  goes = on _ _ _
      (become_step p ss others (f.front ++ t ∷ y) (ap (row p) (sym (first_same f.front t x y)) ∙ ap (λ (l : List Terminal). row p (first_of l)) (sym f.parts) ∙ h)) f.goes;
}

pub swapped : (s e : State) (symbols : List Symbol) (t : Terminal) (x y : List Terminal) → Goes s e → e ≡ (symbols, t ∷ x) → IsSwapped s symbols t x y
swapped s e symbols t x y (stay p) i = record {
  front = [];
  parts = ap (λ (z : State). z.1) i;
  goes = subst (λ (ss : List Symbol). Goes (ss, t ∷ y) (symbols, t ∷ y)) (sym (ap (λ (z : State). z.0) i)) (stay _);
}
swapped s e symbols t x y (on p r u h g) i = swap_step s r symbols t x y (is_step s r h) (swapped r e symbols t x y g i)

-- a stop stays one, whatever stands behind the next terminal
pub stop_same : (symbols : List Symbol) (t : Terminal) (x y : List Terminal) → step (symbols, t ∷ x) ≡ None → step (symbols, t ∷ y) ≡ None
stop_same [] t x y e = refl
stop_same (s ∷ others) t x y e = by (row s (Some t)) e
  where
    by : (o : Row) → moved o others (t ∷ x) ≡ None → moved o others (t ∷ y) ≡ None
    by (takes symbols) h = absurd (none_some (symbols ++ others, x) (sym h))
    by (becomes symbols) h = absurd (none_some (symbols ++ others, t ∷ x) (sym h))
    by refuses h = refl
