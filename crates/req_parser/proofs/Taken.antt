-- Where a list that is to be an expression or a set is refused, the machine stops.
use Rattle.std.proofs.Common.{◌≡◌, ℕ, zero, suc, ◌+◌, ◌≤◌, ◌<◌, List, [], ◌∷◌, ◌++◌, count_by, length, Some, Result, Ok, Err, refl, subst, arith}
use Rattle.req_tree.specs.Tree.{Tree}
use Rattle.req_grammar.specs.declared.limits.TheConstants.{MOST_OPEN_PARENTHESES}
use Rattle.req_grammar.specs.Words as w
use Rattle.req_grammar.specs.Terminals.{Terminal, sign, word}
use Rattle.req_grammar.specs.Readings.{HasFewOpen, is_left, is_right}
use Rattle.req_machine.specs.Machine.{Symbol, set, expr, arrow, State, step, Goes, stay, on, IsTaken}
use Rattle.req_machine.specs.Parentheses.{to_close, IsBalanced}
use Rattle.req_primary.specs.declared.fault.ReadingFault.{ReadingFault}
use Rattle.req_primary.specs.declared.fault.ReadingFault.TheVariants.{Syntax, OutOfMemory}
use Rattle.req_primary.specs.Steps.{Reading, ◌>>=◌, first_at, sign_at}
use Rattle.req_primary.specs.Leads.{Ends, halted, crowded, Leads, behind, alone}
use Rattle.req_parser.specs.Reading.{expr_at, inside_at, ended, whole_at}
use Rattle.req_parser.specs.SetReading.{kind_at, arrow_at, tree_at, told_at, part_at, parts_from, parts_at}
use Rattle.req_parser.proofs.Leads.{LeadingLaws, shorter, stop, ends_later, LeadsTo, both, Inside, expr_leads, inside_leads}

-- where few are open, the machine stops
pub taken_where : LeadingLaws → (symbol : Symbol) → to_close (symbol ∷ []) ≡ 0 → (list : List Terminal) (n : ℕ) → HasFewOpen list → Ends (length list) (symbol ∷ [], list) n → IsTaken symbol list n
taken_where laws symbol none list n few (halted e goes stopped is) =
    record { end = e; goes = goes; stopped = stopped; count = omega (arith, is, shorter laws _ _ goes) }
taken_where laws symbol none list n few (crowded e goes many) =
    let f : IsBalanced (symbol ∷ [], list) e = laws.even _ _ goes in
    let open_few : count_by is_left f.front ≤ MOST_OPEN_PARENTHESES + count_by is_right f.front = few f.front e.1 f.parts in
    absurd (omega (arith, none, many, f.even, open_few))

-- where a list is refused, the machine ends there
abbrev Refuses : {A : Type 0} → ℕ → State → Result A ReadingFault → Type 0
Refuses size s (Ok x) = Unit {0}
Refuses size s (Err (Syntax n)) = Ends size s n
Refuses size s (Err OutOfMemory) = Unit {0}

whole_refuses : (size : ℕ) (list : List Terminal) (r : Reading Tree) → Leads behind size (expr ∷ []) [] list r → Refuses size (expr ∷ [], list) (r >>= ended size)
whole_refuses size list (Ok (x, [])) h = tt
whole_refuses size list (Ok (x, first ∷ rest)) h = halted ([], first ∷ rest) h refl refl
whole_refuses size list (Err (Syntax m)) h = h
whole_refuses size list (Err OutOfMemory) h = tt

pub whole_taken : LeadingLaws → (list : List Terminal) (n : ℕ) → HasFewOpen list → whole_at list ≡ Err (Syntax n) → IsTaken expr list n
unfolding whole_at
whole_taken laws list n few e =
    let inside : Inside (length list) 1 (inside_at (length list) MOST_OPEN_PARENTHESES) = inside_leads laws (length list) MOST_OPEN_PARENTHESES 1 (omega arith) in
    taken_where laws expr refl list n few (subst (Refuses (length list) (expr ∷ [], list)) e
    (whole_refuses (length list) list (expr_at (length list) (inside_at (length list) MOST_OPEN_PARENTHESES) list) (expr_leads laws (length list) 1 (inside_at (length list) MOST_OPEN_PARENTHESES) inside [] list (omega arith))))

-- ---- sets

arrow_leads : (size : ℕ) (others : List Symbol) (here : List Terminal) → Leads alone size (arrow ∷ others) others here (arrow_at size here)
unfolding arrow_at sign_at first_at
arrow_leads size others [] = stop size _ refl
arrow_leads size others (sign w.arrow ∷ rest) = on _ _ _ refl (stay _)
arrow_leads size others (other ∷ rest) = stop size _ refl

tree_leads : LeadingLaws → (size kind : ℕ) (others : List Symbol) (here : List Terminal) → Leads behind size (expr ∷ others) others here (tree_at size kind here)
tree_leads laws size kind others here =
    let inside : Inside size 1 (inside_at size MOST_OPEN_PARENTHESES) = inside_leads laws size MOST_OPEN_PARENTHESES 1 (omega arith) in
    both behind behind size _ others others here (expr_at size (inside_at size MOST_OPEN_PARENTHESES) here) _
    (expr_leads laws size 1 (inside_at size MOST_OPEN_PARENTHESES) inside others here (omega arith)) (λ x. stay _)

told_leads : LeadingLaws → (size kind : ℕ) (others : List Symbol) (here : List Terminal) → Leads behind size (arrow ∷ expr ∷ others) others here (told_at size kind here)
told_leads laws size kind others here = both alone behind size _ (expr ∷ others) others here (arrow_at size here) _ (arrow_leads size _ here) (λ rest. tree_leads laws size kind others rest)

-- the way of a part, which takes off a terminal at least
abbrev PartLeads : ℕ → List Terminal → Reading (ℕ × Tree) → Type 0
PartLeads size here r = LeadsTo (λ l. length l < length here) size (set ∷ []) (set ∷ []) here r

told_part : LeadingLaws → (size : ℕ) (first : Terminal) (rest : List Terminal) → step (set ∷ [], first ∷ rest) ≡ Some (arrow ∷ expr ∷ set ∷ [], rest)
    → (r : Reading (ℕ × Tree)) → Leads behind size (arrow ∷ expr ∷ set ∷ []) (set ∷ []) rest r → PartLeads size (first ∷ rest) r
told_part laws size first rest e (Ok x) h = (on _ _ _ e h, (let fewer : length x.1 ≤ length rest = shorter laws _ _ h in omega (arith, fewer)))
told_part laws size first rest e (Err (Syntax n)) h = ends_later size _ _ n (on _ _ _ e (stay _)) h
told_part laws size first rest e (Err OutOfMemory) h = tt

part_leads : LeadingLaws → (size : ℕ) (first : Terminal) (rest : List Terminal) → PartLeads size (first ∷ rest) (part_at size (first ∷ rest))
unfolding part_at kind_at first_at
part_leads laws size (word w.host) rest = told_part laws size _ rest refl (told_at size 1 rest) (told_leads laws size 1 (set ∷ []) rest)
part_leads laws size (word w.guest) rest = told_part laws size _ rest refl (told_at size 2 rest) (told_leads laws size 2 (set ∷ []) rest)
part_leads laws size (word w.designated) rest = told_part laws size _ rest refl (told_at size 3 rest) (told_leads laws size 3 (set ∷ []) rest)
part_leads laws size (word w.library) rest = told_part laws size _ rest refl (told_at size 4 rest) (told_leads laws size 4 (set ∷ []) rest)
part_leads laws size (word w.plugin) rest = told_part laws size _ rest refl (told_at size 5 rest) (told_leads laws size 5 (set ∷ []) rest)
part_leads laws size other rest = halted _ (on _ _ _ refl (stay _)) refl refl

parts_refuse : LeadingLaws → (size n : ℕ) (parts : List (ℕ × Tree)) (here : List Terminal) → length here ≤ n → Refuses size (set ∷ [], here) (parts_from size n parts here)
unfolding parts_from
parts_refuse laws size zero parts [] short = tt
parts_refuse laws size zero parts (first ∷ rest) short = absurd (omega (arith, short))
parts_refuse laws size (suc n) parts [] short = tt
parts_refuse laws size (suc n) parts (first ∷ rest) short = by (λ more l s. parts_refuse laws size n more l s) (part_at size (first ∷ rest)) (part_leads laws size first rest)
  where
    refused_later : (s r : State) (o : Result (List (ℕ × Tree)) ReadingFault) → Goes s r → Refuses size r o → Refuses size s o
    refused_later s r (Ok x) goes h = tt
    refused_later s r (Err (Syntax m)) goes h = ends_later size s r m goes h
    refused_later s r (Err OutOfMemory) goes h = tt

    by : ((more : List (ℕ × Tree)) (l : List Terminal) → length l ≤ n → Refuses size (set ∷ [], l) (parts_from size n more l))
        → (r : Reading (ℕ × Tree)) → PartLeads size (first ∷ rest) r → Refuses size (set ∷ [], first ∷ rest) (r >>= λ (x : (ℕ × Tree) × List Terminal). parts_from size n (parts ++ x.0 ∷ []) x.1)
    by again (Ok x) h = refused_later _ _ (parts_from size n (parts ++ x.0 ∷ []) x.1) h.0 (again (parts ++ x.0 ∷ []) x.1 (omega (arith, h.1, short)))
    by again (Err (Syntax m)) h = h
    by again (Err OutOfMemory) h = tt

pub parts_taken : LeadingLaws → (list : List Terminal) (n : ℕ) → HasFewOpen list → parts_at list ≡ Err (Syntax n) → IsTaken set list n
unfolding parts_at
parts_taken laws list n few e =
    taken_where laws set refl list n few (subst (Refuses (length list) (set ∷ [], list)) e (parts_refuse laws (length list) (length list) [] list (omega arith)))
