-- Chains and parentheses go the machine's way.
use Rattle.std.proofs.Common.{◌≡◌, ℕ, zero, suc, ◌+◌, ◌≤◌, ◌<◌, Bool, false, List, [], ◌∷◌, length, length-append, Option, Some, None, is_some, true≢false, Result, Ok, Err, refl, sym, ap, subst, arith}
use Rattle.req_tree.specs.Tree as tree
use Rattle.req_tree.specs.Tree.{Tree}
use Rattle.req_grammar.specs.declared.limits.TheConstants.{MOST_OPEN_PARENTHESES}
use Rattle.req_grammar.specs.Words as w
use Rattle.req_grammar.specs.Words.{Word}
use Rattle.req_grammar.specs.Terminals as t
use Rattle.req_grammar.specs.Terminals.{Terminal, sign, word}
use Rattle.req_machine.specs.Machine.{Symbol, expr, tail, factor, paren, right_paren, State, step, Goes, stay, on}
use Rattle.req_machine.specs.Parentheses.{to_close, IsBalanced}
use Rattle.req_machine.specs.Laws.{WaysAreBalanced}
use Rattle.req_primary.specs.declared.fault.ReadingFault.{ReadingFault}
use Rattle.req_primary.specs.declared.fault.ReadingFault.TheVariants.{Syntax, OutOfMemory}
use Rattle.req_primary.specs.Steps.{Reading, Reader, ◌>>=◌, place, first_at, close_at}
use Rattle.req_primary.specs.Leads.{Ends, halted, crowded, Leads, behind, alone, OperandsLead, RightParenthesesLead}
use Rattle.req_parser.specs.Reading as reading
use Rattle.req_parser.specs.Reading.{and_at, or_at, joined_at, chain_from, chain, is_bang, bangs_from, bangs, negations, named_at, closed, closed_at, paren_at, operand_at, factor_at, term_at, expr_at, inside_at}

-- what leads is known of operands, and of each way that its parentheses are even
pub record LeadingLaws : Type 0 where
  pub operand : OperandsLead
  pub close : RightParenthesesLead
  pub even : WaysAreBalanced

none_some : {A : Type 0} (p : A) → ◌≡◌ {A = Option A} None (Some p) → ⊥
none_some p e = true≢false (sym (ap is_some e))

abbrev from : {A : Type 0} → A → Option A → A
from x None = x
from x (Some y) = y

some_is : {A : Type 0} (x y : A) → Some x ≡ Some y → x ≡ y
some_is x y e = ap (from x) e

-- one way after another
pub then : (s r e : State) → Goes s r → Goes r e → Goes s e
then s r e (stay p) b = b
then s r e (on p q u h g) b = on s q e h (then q r e g b)

-- what is left grows no longer
pub shorter : LeadingLaws → (s e : State) → Goes s e → length e.1 ≤ length s.1
shorter laws s e goes = let f : IsBalanced s e = laws.even s e goes in omega (arith, ap length f.parts, length-append f.front e.1)

-- the machine stops here
pub stop : (size : ℕ) (s : State) → step s ≡ None → Ends size s (place size s.1)
stop size s e = halted s (stay s) e refl

-- a way before the end
pub ends_later : (size : ℕ) (s r : State) (n : ℕ) → Goes s r → Ends size r n → Ends size s n
ends_later size s r n goes (halted e g stopped is) = halted e (then s r e goes g) stopped is
ends_later size s r n goes (crowded e g many) = crowded e (then s r e goes g) many

-- a way before a reading
pub later : {A : Type 0} (left : A → List Terminal) (size : ℕ) (from to between : List Symbol) (here there : List Terminal) (r : Result A ReadingFault)
    → Goes (from, here) (between, there) → Leads left size between to there r → Leads left size from to here r
later left size from to between here there (Ok x) goes h = then _ _ _ goes h
later left size from to between here there (Err (Syntax n)) goes h = ends_later size _ _ n goes h
later left size from to between here there (Err OutOfMemory) goes h = tt

-- one reading after another
pub both : {A B : Type 0} (left : A → List Terminal) (after : B → List Terminal) (size : ℕ) (from between to : List Symbol) (here : List Terminal)
    (r : Result A ReadingFault) (f : A → Result B ReadingFault) → Leads left size from between here r → ((x : A) → Leads after size between to (left x) (f x))
    → Leads after size from to here (r >>= f)
both left after size from between to here (Ok x) f h k = later after size from to between here (left x) (f x) h (k x)
both left after size from between to here (Err (Syntax n)) f h k = h
both left after size from between to here (Err OutOfMemory) f h k = tt

-- the same, and what is left is so
abbrev pub LeadsTo : {A : Type 0} → (List Terminal → Type 0) → ℕ → List Symbol → List Symbol → List Terminal → Reading A → Type 0
LeadsTo P size from to here (Ok x) = Goes (from, here) (to, x.1) × P x.1
LeadsTo P size from to here (Err (Syntax n)) = Ends size (from, here) n
LeadsTo P size from to here (Err OutOfMemory) = Unit {0}

later_to : {A : Type 0} (P : List Terminal → Type 0) (size : ℕ) (from to between : List Symbol) (here there : List Terminal) (r : Reading A)
    → Goes (from, here) (between, there) → LeadsTo P size between to there r → LeadsTo P size from to here r
later_to P size from to between here there (Ok x) goes h = (then _ _ _ goes h.0, h.1)
later_to P size from to between here there (Err (Syntax n)) goes h = ends_later size _ _ n goes h
later_to P size from to between here there (Err OutOfMemory) goes h = tt

-- operators
record IsOperator (op : List Terminal → Option (List Terminal)) : Type 0 where
  at_end : op [] ≡ None
  goes : (others : List Symbol) (here rest : List Terminal) → op here ≡ Some rest → Goes (tail ∷ others, here) (factor ∷ tail ∷ others, rest)
  shrinks : (here rest : List Terminal) → op here ≡ Some rest → length here ≡ suc (length rest)

and_is : (here rest : List Terminal) → and_at here ≡ Some rest → here ≡ word w.and ∷ rest
unfolding and_at
and_is (word w.and ∷ more) rest e = ap (λ (l : List Terminal). word w.and ∷ l) (some_is more rest e)
and_is here rest e = absurd (none_some rest e)

or_is : (here rest : List Terminal) → or_at here ≡ Some rest → here ≡ word w.or ∷ rest
unfolding or_at
or_is (word w.or ∷ more) rest e = ap (λ (l : List Terminal). word w.or ∷ l) (some_is more rest e)
or_is here rest e = absurd (none_some rest e)

and_operates : IsOperator and_at
unfolding and_at
and_operates = record {
  at_end = refl;
  goes = λ others here rest e. subst (λ (l : List Terminal). Goes (tail ∷ others, l) (factor ∷ tail ∷ others, rest)) (sym (and_is here rest e)) (on _ _ _ refl (stay _));
  shrinks = λ here rest e. ap length (and_is here rest e);
}

or_operates : IsOperator or_at
unfolding or_at
or_operates = record {
  at_end = refl;
  goes = λ others here rest e. subst (λ (l : List Terminal). Goes (tail ∷ others, l) (factor ∷ tail ∷ others, rest)) (sym (or_is here rest e)) (on _ _ _ refl (stay _));
  shrinks = λ here rest e. ap length (or_is here rest e);
}

-- what is left behind a chain
abbrev Behind : (List Terminal → Type 0) → (List Terminal → Option (List Terminal)) → List Terminal → Type 0
Behind P op left = P left × (op left ≡ None)

abbrev Operand : (List Terminal → Type 0) → ℕ → List Symbol → Reader Tree → Type 0
Operand P size others item = (here : List Terminal) → LeadsTo P size (factor ∷ tail ∷ others) (tail ∷ others) here (item here)

chain_goes : LeadingLaws → (P : List Terminal → Type 0) (op : List Terminal → Option (List Terminal)) → IsOperator op → (join : Tree → Tree → Tree) (item : Reader Tree) (size : ℕ) (others : List Symbol) → Operand P size others item
    → (n : ℕ) (x : Tree) (here : List Terminal) → length here ≤ n → P here → LeadsTo (Behind P op) size (tail ∷ others) (tail ∷ others) here (chain_from n op join item x here)
unfolding chain_from
chain_goes laws P op is join item size others leads zero x [] short p = (stay _, (p, is.at_end))
chain_goes laws P op is join item size others leads zero x (first ∷ rest) short p = absurd (omega (arith, short))
chain_goes laws P op is join item size others leads (suc n) x here short p = by (λ y l s q. chain_goes laws P op is join item size others leads n y l s q) (op here) refl
  where
    one : ((y : Tree) (l : List Terminal) → length l ≤ n → P l → LeadsTo (Behind P op) size (tail ∷ others) (tail ∷ others) l (chain_from n op join item y l))
        → (rest : List Terminal) → length here ≡ suc (length rest) → Goes (tail ∷ others, here) (factor ∷ tail ∷ others, rest)
        → (r : Reading Tree) → LeadsTo P size (factor ∷ tail ∷ others) (tail ∷ others) rest r
        → LeadsTo (Behind P op) size (tail ∷ others) (tail ∷ others) here ((r >>= λ (y : Tree × List Terminal). Ok (join x y.0, y.1)) >>= λ (y : Tree × List Terminal). chain_from n op join item y.0 y.1)
    one again rest less goes (Ok y) h =
        let fewer : length y.1 ≤ length rest = shorter laws _ _ h.0 in
        later_to (Behind P op) size _ _ (tail ∷ others) here y.1 _ (then _ _ _ goes h.0) (again (join x y.0) y.1 (omega (arith, fewer, less, short)) h.1)
    one again rest less goes (Err (Syntax m)) h = ends_later size _ _ m goes h
    one again rest less goes (Err OutOfMemory) h = tt

    by : ((y : Tree) (l : List Terminal) → length l ≤ n → P l → LeadsTo (Behind P op) size (tail ∷ others) (tail ∷ others) l (chain_from n op join item y l))
        → (o : Option (List Terminal)) → op here ≡ o
        → LeadsTo (Behind P op) size (tail ∷ others) (tail ∷ others) here (reading.behind x here (λ rest. joined_at join item x rest >>= λ (y : Tree × List Terminal). chain_from n op join item y.0 y.1) o)
    by again None e = (stay _, (p, e))
    by again (Some rest) e = one again rest (is.shrinks here rest e) (is.goes others here rest e) (item rest) (leads rest)

whole_chain : LeadingLaws → (P : List Terminal → Type 0) (op : List Terminal → Option (List Terminal)) → IsOperator op → (join : Tree → Tree → Tree) (item : Reader Tree) (size : ℕ) (others : List Symbol) → Operand P size others item
    → Operand (Behind P op) size others (λ here. chain (length here) op join item here)
whole_chain laws P op is join item size others leads here = by (item here) (leads here)
  where
    by : (r : Reading Tree) → LeadsTo P size (factor ∷ tail ∷ others) (tail ∷ others) here r
        → LeadsTo (Behind P op) size (factor ∷ tail ∷ others) (tail ∷ others) here (r >>= λ (x : Tree × List Terminal). chain_from (length here) op join item x.0 x.1)
    by (Ok x) h = later_to (Behind P op) size _ _ (tail ∷ others) here x.1 _ h.0 (chain_goes laws P op is join item size others leads (length here) x.0 x.1 (shorter laws _ _ h.0) h.1)
    by (Err (Syntax m)) h = h
    by (Err OutOfMemory) h = tt

abbrev Nothing : List Terminal → Type 0
Nothing left = Unit {0}

as_to : (size : ℕ) (from to : List Symbol) (here : List Terminal) (r : Reading Tree) → Leads behind size from to here r → LeadsTo Nothing size from to here r
as_to size from to here (Ok x) h = (h, tt)
as_to size from to here (Err (Syntax n)) h = h
as_to size from to here (Err OutOfMemory) h = tt

-- what is read in parentheses, where so many are to be closed
abbrev pub Inside : ℕ → ℕ → Reader Tree → Type 0
Inside size b inside = (others : List Symbol) (here : List Terminal) → b ≤ to_close others → Leads behind size (expr ∷ others) others here (inside here)

closed_leads : LeadingLaws → (size : ℕ) (others : List Symbol) (x : Tree × List Terminal) → Leads behind size (right_paren ∷ others) others x.1 (closed size x)
closed_leads laws size others x = both alone behind size _ others others x.1 (close_at size x.1) _ (laws.close size others x.1) (λ rest. stay _)

named_leads : LeadingLaws → (size : ℕ) (name : List ℕ) (others : List Symbol) (here : List Terminal) → Leads behind size (right_paren ∷ others) others here (named_at size name here)
unfolding named_at
named_leads laws size name others here = both alone behind size _ others others here (close_at size here) _ (laws.close size others here) (λ rest. stay _)

inner_leads : LeadingLaws → (size b : ℕ) (inside : Reader Tree) → Inside size b inside → (others : List Symbol) (here : List Terminal) → b ≤ suc (to_close others)
    → Goes (paren ∷ others, here) (expr ∷ right_paren ∷ others, here) → Leads behind size (paren ∷ others) others here (closed_at size inside here)
inner_leads laws size b inside is others here fits goes =
    both behind behind size _ (right_paren ∷ others) others here (inside here) _
    (later behind size (paren ∷ others) (right_paren ∷ others) (expr ∷ right_paren ∷ others) here here (inside here) goes (is (right_paren ∷ others) here (omega (arith, fits)))) (closed_leads laws size others)

paren_leads : LeadingLaws → (size b : ℕ) (inside : Reader Tree) → Inside size b inside → (others : List Symbol) (here : List Terminal) → b ≤ suc (to_close others)
    → Leads behind size (paren ∷ others) others here (paren_at size inside here)
unfolding paren_at first_at
paren_leads laws size b inside is others [] fits = halted _ (on _ _ _ refl (on _ _ _ refl (stay _))) refl refl
paren_leads laws size b inside is others (t.str name ∷ rest) fits = later behind size _ _ _ _ _ (named_at size name rest) (on _ _ _ refl (stay _)) (named_leads laws size name others rest)
paren_leads laws size b inside is others (other ∷ rest) fits = inner_leads laws size b inside is others (other ∷ rest) fits (on _ _ _ refl (stay _))

abbrev begins_bang : List Terminal → Bool
begins_bang [] = false
begins_bang (first ∷ rest) = is_bang first

operand_leads : LeadingLaws → (size b : ℕ) (inside : Reader Tree) → Inside size b inside → (others : List Symbol) (here : List Terminal) → b ≤ suc (to_close others)
    → begins_bang here ≡ false → Leads behind size (factor ∷ others) others here (operand_at size inside here)
unfolding operand_at first_at
operand_leads laws size b inside is others [] fits plain = stop size _ refl
operand_leads laws size b inside is others (word c ∷ rest) fits plain = laws.operand size c others rest
operand_leads laws size b inside is others (sign w.left_paren ∷ rest) fits plain = later behind size _ _ _ _ _ (paren_at size inside rest) (on _ _ _ refl (stay _)) (paren_leads laws size b inside is others rest fits)
operand_leads laws size b inside is others (sign w.bang ∷ rest) fits plain = absurd (true≢false plain)
operand_leads laws size b inside is others (other ∷ rest) fits plain = stop size _ refl

bangs_go : (others : List Symbol) (count : ℕ) (here : List Terminal) → Goes (factor ∷ others, here) (factor ∷ others, (bangs_from count here).1)
bangs_go others count [] = stay _
bangs_go others count (sign w.bang ∷ rest) = on _ _ _ refl (bangs_go others (count + 1) rest)
bangs_go others count (other ∷ rest) = stay _

bangs_end : (count : ℕ) (here : List Terminal) → begins_bang (bangs_from count here).1 ≡ false
bangs_end count [] = refl
bangs_end count (sign w.bang ∷ rest) = bangs_end (count + 1) rest
bangs_end count (other ∷ rest) = refl

factor_leads : LeadingLaws → (size b : ℕ) (inside : Reader Tree) → Inside size b inside → (others : List Symbol) (here : List Terminal) → b ≤ suc (to_close others)
    → Leads behind size (factor ∷ others) others here (factor_at size inside here)
unfolding factor_at
factor_leads laws size b inside is others here fits =
    both behind behind size _ others others here (operand_at size inside (bangs here).1) _
    (later behind size (factor ∷ others) others (factor ∷ others) here (bangs here).1 (operand_at size inside (bangs here).1) (bangs_go others 0 here)
    (operand_leads laws size b inside is others (bangs here).1 fits (bangs_end 0 here))) (λ x. stay _)

term_leads : LeadingLaws → (size b : ℕ) (inside : Reader Tree) → Inside size b inside → (others : List Symbol) → b ≤ suc (to_close others) → Operand (Behind Nothing and_at) size others (term_at size inside)
unfolding term_at
term_leads laws size b inside is others fits here =
    whole_chain laws Nothing and_at and_operates tree.both (factor_at size inside) size others (λ l. as_to size _ _ l (factor_at size inside l) (factor_leads laws size b inside is (tail ∷ others) l (omega (arith, fits)))) here

tail_goes : (others : List Symbol) (left : List Terminal) → and_at left ≡ None → or_at left ≡ None → Goes (tail ∷ others, left) (others, left)
unfolding and_at or_at
tail_goes others [] a o = on _ _ _ refl (stay _)
tail_goes others (word w.and ∷ rest) a o = absurd (none_some rest (sym a))
tail_goes others (word w.or ∷ rest) a o = absurd (none_some rest (sym o))
tail_goes others (other ∷ rest) a o = on _ _ _ refl (stay _)

ended_tail : (size : ℕ) (others : List Symbol) (here : List Terminal) (r : Reading Tree)
    → LeadsTo (Behind (Behind Nothing and_at) or_at) size (factor ∷ tail ∷ others) (tail ∷ others) here r → Leads behind size (expr ∷ others) others here r
ended_tail size others here (Ok x) h = on _ _ _ refl (then _ _ _ h.0 (tail_goes others x.1 h.1.0.1 h.1.1))
ended_tail size others here (Err (Syntax n)) h = ends_later size _ _ n (on _ _ _ refl (stay _)) h
ended_tail size others here (Err OutOfMemory) h = tt

pub expr_leads : LeadingLaws → (size b : ℕ) (inside : Reader Tree) → Inside size b inside → (others : List Symbol) (here : List Terminal) → b ≤ suc (to_close others)
    → Leads behind size (expr ∷ others) others here (expr_at size inside here)
unfolding expr_at
expr_leads laws size b inside is others here fits =
    ended_tail size others here (expr_at size inside here)
    (whole_chain laws (Behind Nothing and_at) or_at or_operates tree.either (term_at size inside) size others (term_leads laws size b inside is others fits) here)

pub inside_leads : LeadingLaws → (size d b : ℕ) → MOST_OPEN_PARENTHESES < b + d → Inside size b (inside_at size d)
unfolding inside_at
inside_leads laws size zero b many others here fits = crowded (expr ∷ others, here) (stay _) (omega (arith, many, fits))
inside_leads laws size (suc d) b many others here fits =
    expr_leads laws size (suc b) (inside_at size d) (inside_leads laws size d (suc b) (omega (arith, many))) others here (omega (arith, fits))
