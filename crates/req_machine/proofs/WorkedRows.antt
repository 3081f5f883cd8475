-- Worked rows: the table of texts in words, then lists of terminals with what an outside recogniser of the grammar
-- found to be their longest front that goes on.
use Rattle.std.proofs.Common.{◌≡◌, ℕ, zero, suc, ◌+◌, nat_eq, Bool, true, false, if◌then◌else◌, List, [], ◌∷◌, length, Option, Some, None, refl}
use Rattle.req_grammar.specs.Words as w
use Rattle.req_grammar.specs.Terminals as t
use Rattle.req_grammar.specs.Terminals.{Terminal, sign, word}
use Rattle.req_machine.specs.Machine.{Symbol, expr, set, State, step, Goes, stay, on, IsTaken}

abbrev onward : State → (State → State) → Option State → State
onward s go None = s
onward s go (Some r) = go r

-- at most so many steps
unfoldable run : ℕ → State → State
run zero s = s
run (suc n) s = onward s (run n) (step s)

run_goes : (n : ℕ) (s : State) → Goes s (run n s)
unfolding run
run_goes zero s = stay s
run_goes (suc n) s = by (λ r. run_goes n r) (step s) refl
  where
    by : ((r : State) → Goes r (run n r)) → (o : Option State) → step s ≡ o → Goes s (onward s (run n) o)
    by later None e = stay s
    by later (Some r) e = on s r _ e (later r)

-- more steps than any row takes
abbrev STEPS : ℕ
STEPS = 400

abbrev end_of : Symbol → List Terminal → State
end_of symbol list = run STEPS (symbol ∷ [], list)

worked : (symbol : Symbol) (list : List Terminal) (n : ℕ) → step (end_of symbol list) ≡ None → length list ≡ n + length (end_of symbol list).1 → IsTaken symbol list n
worked symbol list n stopped count = record { end = end_of symbol list; goes = run_goes STEPS (symbol ∷ [], list); stopped = stopped; count = count }

-- ---- texts, and the token at which each stops being one

-- anchor apple trusted: token 2
apple_is_no_test : IsTaken expr (word w.anchor ∷ word w.apple ∷ word w.trusted ∷ []) 2
unfolding run
apple_is_no_test = worked _ _ _ refl refl

-- certificate leaf: token 2
a_certificate_wants_a_test : IsTaken expr (word w.certificate ∷ word w.leaf ∷ []) 2
unfolding run
a_certificate_wants_a_test = worked _ _ _ refl refl

-- ! ( always: token 3
a_parenthesis_stays_open : IsTaken expr (sign w.bang ∷ sign w.left_paren ∷ word w.always ∷ []) 3
unfolding run
a_parenthesis_stays_open = worked _ _ _ refl refl

-- info[Version] <: token 5
an_order_wants_a_value : IsTaken expr (word w.info ∷ sign w.left_bracket ∷ t.str [] ∷ sign w.right_bracket ∷ sign w.less ∷ []) 5
unfolding run
an_order_wants_a_value = worked _ _ _ refl refl

-- always ): token 1
a_parenthesis_was_never_open : IsTaken expr (word w.always ∷ sign w.right_paren ∷ []) 1
unfolding run
a_parenthesis_was_never_open = worked _ _ _ refl refl

-- (a and b): token 2
a_name_stands_alone_in_parentheses : IsTaken expr (sign w.left_paren ∷ t.str [] ∷ word w.and ∷ t.str [] ∷ sign w.right_paren ∷ []) 2
unfolding run
a_name_stands_alone_in_parentheses = worked _ _ _ refl refl

-- platform = 2147483648: token 2
a_number_is_too_large : IsTaken expr (word w.platform ∷ sign w.equal ∷ t.int 2147483648 ∷ []) 2
unfolding run
a_number_is_too_large = worked _ _ _ refl refl

-- com.example: token 0
a_name_begins_nothing : IsTaken expr (t.str [] ∷ []) 0
unfolding run
a_name_begins_nothing = worked _ _ _ refl refl

-- identifier and: token 1
a_reserved_word_is_no_name : IsTaken expr (word w.identifier ∷ word w.and ∷ []) 1
unfolding run
a_reserved_word_is_no_name = worked _ _ _ refl refl

-- ---- lists, each with the number of terminals that are taken off, and whether it is one whole

abbrev is_stopped : Option State → Bool
is_stopped None = true
is_stopped (Some s) = false

abbrev is_whole : State → Bool
is_whole ([], []) = true
is_whole other = false

abbrev same : Bool → Bool → Bool
same true b = b
same false true = false
same false false = true

abbrev Row : Type 0
Row = List Terminal × ℕ × Bool

abbrev is_right : State → Row → Bool
is_right end r =
    if is_stopped (step end) then (if nat_eq (length r.0) (r.1 + length end.1) then same (is_whole end) r.2 else false) else false

abbrev are_right : Symbol → List Row → Bool
are_right symbol [] = true
are_right symbol (r ∷ rows) = if is_right (end_of symbol r.0) r then are_right symbol rows else false

abbrev expressions : List Row
expressions =
    (word w.certificate ∷ t.int 2147483647 ∷ sign w.left_bracket ∷ t.int 1 ∷ sign w.star ∷ t.int 2147483647 ∷ t.str [] ∷ t.int 0 ∷ word w.absent ∷ [], 3, false)
    ∷ (word w.anchor ∷ word w.apple ∷ t.str [] ∷ word w.and ∷ word w.notarized ∷ word w.or ∷ word w.cert ∷ word w.leaf ∷ word w.trusted ∷ sign w.less_equal ∷ sign w.bang ∷ word w.notarized ∷ [], 9, false)
    ∷ (word w.certificate ∷ sign w.dash ∷ t.int 7 ∷ word w.false ∷ [], 3, false)
    ∷ (word w.platform ∷ [], 1, false)
    ∷ (word w.root ∷ word w.identifier ∷ t.str [] ∷ word w.or ∷ word w.info ∷ sign w.left_bracket ∷ t.str [] ∷ sign w.right_bracket ∷ [], 0, false)
    ∷ (sign w.left_paren ∷ t.str [] ∷ sign w.right_paren ∷ t.str [] ∷ word w.false ∷ word w.or ∷ sign w.left_paren ∷ word w.cert ∷ word w.root ∷ sign w.left_bracket ∷ t.str [] ∷ sign w.right_bracket ∷ sign w.less_equal ∷ t.str [] ∷ sign w.right_paren ∷ word w.or ∷ t.str [] ∷ t.str [] ∷ [], 3, false)
    ∷ (word w.never ∷ word w.and ∷ sign w.left_paren ∷ t.str [] ∷ sign w.right_paren ∷ [], 5, true)
    ∷ (word w.anchor ∷ sign w.left_bracket ∷ t.str [] ∷ word w.identifier ∷ word w.exists ∷ word w.or ∷ word w.entitlement ∷ sign w.left_bracket ∷ word w.root ∷ [], 3, false)
    ∷ (word w.true ∷ word w.and ∷ word w.false ∷ word w.and ∷ word w.always ∷ [], 5, true)
    ∷ (word w.entitlement ∷ sign w.left_bracket ∷ t.str [] ∷ sign w.right_bracket ∷ sign w.equal ∷ sign w.star ∷ t.str [] ∷ word w.or ∷ [], 8, false)
    ∷ (word w.info ∷ sign w.left_bracket ∷ t.str [] ∷ sign w.right_bracket ∷ sign w.less_equal ∷ t.str [] ∷ word w.or ∷ t.str [] ∷ [], 7, false)
    ∷ (word w.always ∷ word w.and ∷ sign w.left_paren ∷ word w.platform ∷ sign w.equal ∷ t.int 2147483647 ∷ sign w.right_paren ∷ word w.or ∷ word w.notarized ∷ word w.or ∷ word w.identifier ∷ t.str [] ∷ word w.or ∷ word w.cdhash ∷ t.hash [] ∷ word w.or ∷ word w.identifier ∷ t.str [] ∷ word w.and ∷ word w.true ∷ [], 20, true)
    ∷ (word w.cert ∷ sign w.dash ∷ t.int 2147483647 ∷ sign w.equal ∷ t.hash [] ∷ word w.and ∷ word w.certificate ∷ sign w.dash ∷ t.int 7 ∷ sign w.equal ∷ t.hash [] ∷ [], 11, true)
    ∷ (word w.always ∷ word w.or ∷ word w.notarized ∷ word w.or ∷ word w.cert ∷ t.int 1 ∷ word w.trusted ∷ word w.and ∷ word w.and ∷ [], 8, false)
    ∷ (word w.platform ∷ sign w.equal ∷ [], 2, false)
    ∷ (word w.legacy ∷ word w.or ∷ word w.info ∷ [], 3, false)
    ∷ (sign w.bang ∷ sign w.bang ∷ sign w.left_paren ∷ sign w.bang ∷ sign w.left_paren ∷ word w.anchor ∷ t.str [] ∷ word w.apple ∷ t.str [] ∷ word w.and ∷ t.str [] ∷ word w.apple ∷ word w.generic ∷ sign w.right_paren ∷ sign w.right_paren ∷ [], 6, false)
    ∷ (word w.always ∷ word w.and ∷ word w.cert ∷ word w.root ∷ sign w.left_bracket ∷ t.str [] ∷ sign w.right_bracket ∷ word w.exists ∷ word w.and ∷ [], 9, false)
    ∷ (word w.notarized ∷ [], 1, true)
    ∷ (word w.identifier ∷ word w.never ∷ [], 1, false)
    ∷ (sign w.left_paren ∷ t.str [] ∷ sign w.right_paren ∷ word w.or ∷ word w.certificate ∷ sign w.equal ∷ t.int 2147483647 ∷ word w.or ∷ word w.always ∷ word w.or ∷ word w.cert ∷ t.int 2147483647 ∷ [], 5, false)
    ∷ (sign w.bang ∷ word w.identifier ∷ t.str [] ∷ word w.or ∷ word w.anchor ∷ sign w.equal ∷ t.hash [] ∷ word w.and ∷ word w.notarized ∷ word w.or ∷ sign w.bang ∷ word w.info ∷ sign w.left_bracket ∷ t.str [] ∷ sign w.right_bracket ∷ word w.absent ∷ word w.and ∷ sign w.bang ∷ word w.legacy ∷ word w.and ∷ word w.anchor ∷ [], 21, false)
    ∷ (word w.info ∷ sign w.left_bracket ∷ t.str [] ∷ sign w.right_bracket ∷ sign w.less_equal ∷ t.str [] ∷ word w.and ∷ word w.always ∷ word w.or ∷ word w.always ∷ word w.and ∷ [], 11, false) ∷ []

expressions_are_right : are_right expr expressions ≡ true
unfolding run
expressions_are_right = refl

abbrev sets : List Row
sets =
    (word w.plugin ∷ sign w.arrow ∷ word w.info ∷ sign w.left_bracket ∷ [], 4, false)
    ∷ (sign w.less ∷ sign w.arrow ∷ word w.false ∷ word w.and ∷ [], 0, false)
    ∷ (word w.guest ∷ sign w.arrow ∷ word w.false ∷ word w.true ∷ sign w.arrow ∷ [], 3, false)
    ∷ (word w.plugin ∷ sign w.arrow ∷ word w.always ∷ word w.host ∷ sign w.arrow ∷ word w.entitlement ∷ word w.host ∷ t.str [] ∷ sign w.right_bracket ∷ word w.designated ∷ sign w.arrow ∷ word w.false ∷ word w.host ∷ sign w.arrow ∷ sign w.left_paren ∷ word w.info ∷ sign w.left_bracket ∷ [], 6, false)
    ∷ (word w.guest ∷ sign w.arrow ∷ word w.always ∷ word w.host ∷ sign w.arrow ∷ sign w.left_paren ∷ t.str [] ∷ sign w.right_paren ∷ word w.plugin ∷ sign w.arrow ∷ word w.platform ∷ [], 11, false)
    ∷ (word w.guest ∷ word w.cdhash ∷ word w.always ∷ word w.host ∷ sign w.arrow ∷ word w.certificate ∷ t.int 7 ∷ sign w.left_bracket ∷ t.str [] ∷ sign w.right_bracket ∷ word w.absent ∷ word w.and ∷ sign w.bang ∷ word w.never ∷ word w.library ∷ sign w.arrow ∷ word w.anchor ∷ word w.apple ∷ word w.generic ∷ word w.or ∷ word w.anchor ∷ word w.trusted ∷ [], 1, false)
    ∷ (word w.plugin ∷ sign w.arrow ∷ word w.true ∷ word w.plugin ∷ [], 4, false)
    ∷ (word w.designated ∷ sign w.arrow ∷ word w.anchor ∷ word w.apple ∷ word w.generic ∷ word w.guest ∷ sign w.arrow ∷ word w.notarized ∷ [], 8, true)
    ∷ (word w.guest ∷ sign w.arrow ∷ word w.platform ∷ sign w.equal ∷ t.int 2147483647 ∷ word w.designated ∷ sign w.arrow ∷ word w.false ∷ word w.host ∷ sign w.arrow ∷ sign w.bang ∷ sign w.left_paren ∷ word w.certificate ∷ t.int 0 ∷ word w.true ∷ t.str [] ∷ sign w.right_bracket ∷ word w.exists ∷ word w.and ∷ sign w.left_paren ∷ t.str [] ∷ sign w.right_paren ∷ sign w.right_paren ∷ [], 14, false)
    ∷ (word w.host ∷ sign w.arrow ∷ word w.info ∷ sign w.left_bracket ∷ t.str [] ∷ sign w.right_bracket ∷ [], 6, true)
    ∷ ([], 0, true)
    ∷ (word w.designated ∷ t.hash [] ∷ [], 1, false)
    ∷ (word w.host ∷ [], 1, false)
    ∷ (sign w.left_paren ∷ t.str [] ∷ [], 0, false)
    ∷ (word w.guest ∷ sign w.arrow ∷ word w.always ∷ word w.guest ∷ sign w.arrow ∷ word w.cert ∷ t.int 2147483647 ∷ sign w.left_bracket ∷ t.str [] ∷ sign w.right_bracket ∷ sign w.less ∷ t.str [] ∷ word w.guest ∷ sign w.arrow ∷ sign w.right_bracket ∷ word w.or ∷ word w.never ∷ word w.or ∷ word w.false ∷ word w.guest ∷ sign w.arrow ∷ word w.anchor ∷ word w.trusted ∷ [], 14, false)
    ∷ (word w.certificate ∷ sign w.left_paren ∷ t.str [] ∷ t.str [] ∷ sign w.right_paren ∷ sign w.right_paren ∷ [], 0, false)
    ∷ (word w.guest ∷ sign w.arrow ∷ word w.always ∷ [], 3, true)
    ∷ (word w.host ∷ sign w.arrow ∷ word w.anchor ∷ t.int 2147483648 ∷ [], 3, false)
    ∷ (word w.library ∷ sign w.arrow ∷ word w.never ∷ sign w.star ∷ [], 3, false)
    ∷ (word w.entitlement ∷ sign w.left_bracket ∷ t.str [] ∷ sign w.right_bracket ∷ sign w.equal ∷ word w.anchor ∷ t.str [] ∷ sign w.star ∷ [], 0, false)
    ∷ (word w.designated ∷ sign w.arrow ∷ word w.false ∷ word w.and ∷ word w.notarized ∷ word w.plugin ∷ sign w.arrow ∷ word w.cert ∷ sign w.dash ∷ t.int 2147483648 ∷ sign w.left_bracket ∷ t.str [] ∷ sign w.right_bracket ∷ word w.true ∷ sign w.arrow ∷ word w.certificate ∷ t.int 2147483647 ∷ sign w.left_bracket ∷ t.str [] ∷ sign w.right_bracket ∷ word w.exists ∷ word w.guest ∷ [], 13, false)
    ∷ (word w.guest ∷ sign w.arrow ∷ word w.legacy ∷ word w.plugin ∷ sign w.arrow ∷ word w.cert ∷ t.int 2147483647 ∷ sign w.left_bracket ∷ t.str [] ∷ sign w.right_bracket ∷ word w.plugin ∷ sign w.arrow ∷ word w.platform ∷ sign w.equal ∷ t.int 1 ∷ word w.plugin ∷ sign w.arrow ∷ word w.notarized ∷ [], 18, true)
    ∷ (word w.library ∷ sign w.arrow ∷ sign w.bang ∷ word w.entitlement ∷ sign w.left_bracket ∷ t.str [] ∷ sign w.right_bracket ∷ sign w.equal ∷ sign w.star ∷ t.str [] ∷ word w.designated ∷ sign w.arrow ∷ word w.cert ∷ word w.root ∷ word w.trusted ∷ word w.and ∷ word w.cert ∷ t.int 1 ∷ sign w.left_bracket ∷ t.str [] ∷ sign w.right_bracket ∷ sign w.equal ∷ t.str [] ∷ sign w.star ∷ [], 24, true)
    ∷ (word w.designated ∷ sign w.arrow ∷ word w.entitlement ∷ sign w.left_bracket ∷ t.str [] ∷ sign w.right_bracket ∷ word w.absent ∷ [], 7, true)
    ∷ (word w.entitlement ∷ sign w.arrow ∷ sign w.bang ∷ word w.certificate ∷ t.int 0 ∷ word w.trusted ∷ word w.designated ∷ sign w.arrow ∷ word w.anchor ∷ word w.apple ∷ word w.host ∷ sign w.arrow ∷ word w.info ∷ sign w.left_bracket ∷ t.str [] ∷ sign w.right_bracket ∷ sign w.less ∷ t.str [] ∷ [], 0, false)
    ∷ (word w.designated ∷ sign w.arrow ∷ word w.platform ∷ sign w.equal ∷ t.int 2147483647 ∷ word w.plugin ∷ sign w.arrow ∷ word w.legacy ∷ word w.or ∷ sign w.bang ∷ word w.cert ∷ word w.leaf ∷ sign w.equal ∷ t.hash [] ∷ word w.designated ∷ sign w.arrow ∷ word w.anchor ∷ [], 17, false)
    ∷ (word w.library ∷ sign w.arrow ∷ word w.true ∷ word w.guest ∷ sign w.arrow ∷ word w.never ∷ word w.designated ∷ sign w.arrow ∷ word w.anchor ∷ word w.trusted ∷ word w.host ∷ sign w.arrow ∷ word w.legacy ∷ word w.plugin ∷ sign w.arrow ∷ word w.never ∷ word w.host ∷ sign w.arrow ∷ word w.info ∷ sign w.left_bracket ∷ t.str [] ∷ sign w.right_bracket ∷ word w.and ∷ [], 23, false) ∷ []

sets_are_right : are_right set sets ≡ true
unfolding run
sets_are_right = refl
