-- The readers of operands go the machine's way: a lemma for each, and one for a step after another.
use Rattle.std.proofs.Common.{◌≡◌, ℕ, ℤ, pos, negsuc, neg_ℤ, ◌^◌, nat_lt, nat_le, Bool, true, false, cond, List, [], ◌∷◌, ◌++◌, Some, None, Result, Ok, Err, refl, ap}
use Rattle.req_tree.specs.declared.matching.Match.{Match}
use Rattle.req_tree.specs.declared.matching.Match.TheVariants as m
use Rattle.req_tree.specs.Tree as tree
use Rattle.req_tree.specs.Tree.{Tree}
use Rattle.req_grammar.specs.Words as w
use Rattle.req_grammar.specs.Words.{Sign, Word}
use Rattle.req_grammar.specs.Terminals as t
use Rattle.req_grammar.specs.Terminals.{Terminal, sign, word}
use Rattle.req_primary.specs.declared.fault.ReadingFault.{ReadingFault}
use Rattle.req_primary.specs.declared.fault.ReadingFault.TheVariants.{Syntax, OutOfMemory}
use Rattle.req_primary.specs.Steps.{◌>>=◌, place, refused, first_at, sign_at, close_at, left_bracket_at, right_bracket_at, equal_at, text_at, hash_at, star_at}
use Rattle.req_primary.specs.Tests.{negative_at, number_at, slot_at, starred, begins_at, ends_at, value_at, compared_at, test_at}
use Rattle.req_primary.specs.Primaries.{key_at, info_at, entitlement_at, cert_key_at, behind_equal, ident_at, cd_hash_at, platform_at, anchor_hash_at, slotted_at, cert_at, apple_at, anchor_at, primary_at}
use Rattle.req_machine.specs.Machine.{Symbol, factor, equals, number, slot, anchor, apple, test, match, value, star, right_paren, left_bracket, right_bracket, equal, str, hash, integer, Row, takes, refuses, row, State, moved, step, Goes, stay, on}
use Rattle.req_primary.specs.Leads.{Ends, halted, crowded, Leads, behind, alone}

-- one way after another
then : (s r e : State) → Goes s r → Goes r e → Goes s e
then s r e (stay p) b = b
then s r e (on p q u h g) b = on s q e h (then q r e g b)

-- a way before the end
ends_later : (size : ℕ) (s r : State) (n : ℕ) → Goes s r → Ends size r n → Ends size s n
ends_later size s r n goes (halted e g stopped is) = halted e (then s r e goes g) stopped is
ends_later size s r n goes (crowded e g many) = crowded e (then s r e goes g) many

-- a way before a reading
later : {A : Type 0} (left : A → List Terminal) (size : ℕ) (from to between : List Symbol) (here there : List Terminal) (r : Result A ReadingFault)
    → Goes (from, here) (between, there) → Leads left size between to there r → Leads left size from to here r
later left size from to between here there (Ok x) goes h = then _ _ _ goes h
later left size from to between here there (Err (Syntax n)) goes h = ends_later size _ _ n goes h
later left size from to between here there (Err OutOfMemory) goes h = tt

-- one reading after another
both : {A B : Type 0} (left : A → List Terminal) (after : B → List Terminal) (size : ℕ) (from between to : List Symbol) (here : List Terminal)
    (r : Result A ReadingFault) (f : A → Result B ReadingFault) → Leads left size from between here r → ((x : A) → Leads after size between to (left x) (f x))
    → Leads after size from to here (r >>= f)
both left after size from between to here (Ok x) f h k = later after size from to between here (left x) (f x) h (k x)
both left after size from between to here (Err (Syntax n)) f h k = h
both left after size from between to here (Err OutOfMemory) f h k = tt

take_step : (s : Symbol) (symbols others : List Symbol) (x : Terminal) (rest : List Terminal) → row s (Some x) ≡ takes symbols
    → step (s ∷ others, x ∷ rest) ≡ Some (symbols ++ others, rest)
take_step s symbols others x rest h = ap (λ (r : Row). moved r others (x ∷ rest)) h

-- the machine stops here
stop : (size : ℕ) (s : State) → step s ≡ None → Ends size s (place size s.1)
stop size s e = halted s (stay s) e refl

pub close_leads : (size : ℕ) (others : List Symbol) (here : List Terminal) → Leads alone size (right_paren ∷ others) others here (close_at size here)
unfolding close_at sign_at first_at
close_leads size others [] = stop size _ refl
close_leads size others (sign w.right_paren ∷ rest) = on _ _ _ refl (stay _)
close_leads size others (other ∷ rest) = stop size _ refl

left_leads : (size : ℕ) (others : List Symbol) (here : List Terminal) → Leads alone size (left_bracket ∷ others) others here (left_bracket_at size here)
unfolding left_bracket_at sign_at first_at
left_leads size others [] = stop size _ refl
left_leads size others (sign w.left_bracket ∷ rest) = on _ _ _ refl (stay _)
left_leads size others (other ∷ rest) = stop size _ refl

right_leads : (size : ℕ) (others : List Symbol) (here : List Terminal) → Leads alone size (right_bracket ∷ others) others here (right_bracket_at size here)
unfolding right_bracket_at sign_at first_at
right_leads size others [] = stop size _ refl
right_leads size others (sign w.right_bracket ∷ rest) = on _ _ _ refl (stay _)
right_leads size others (other ∷ rest) = stop size _ refl

equal_leads : (size : ℕ) (others : List Symbol) (here : List Terminal) → Leads alone size (equal ∷ others) others here (equal_at size here)
unfolding equal_at sign_at first_at
equal_leads size others [] = stop size _ refl
equal_leads size others (sign w.equal ∷ rest) = on _ _ _ refl (stay _)
equal_leads size others (other ∷ rest) = stop size _ refl

text_leads : (size : ℕ) (others : List Symbol) (here : List Terminal) → Leads behind size (str ∷ others) others here (text_at size here)
unfolding text_at first_at
text_leads size others [] = stop size _ refl
text_leads size others (t.str s ∷ rest) = on _ _ _ refl (stay _)
text_leads size others (other ∷ rest) = stop size _ refl

hash_leads : (size : ℕ) (others : List Symbol) (here : List Terminal) → Leads behind size (hash ∷ others) others here (hash_at size here)
unfolding hash_at first_at
hash_leads size others [] = stop size _ refl
hash_leads size others (t.hash h ∷ rest) = on _ _ _ refl (stay _)
hash_leads size others (other ∷ rest) = stop size _ refl

star_leads : (with without : Match) (others : List Symbol) (here : List Terminal) → Goes (star ∷ others, here) (others, (starred with without here (star_at here)).1)
unfolding star_at
star_leads with without others [] = on _ _ _ refl (stay _)
star_leads with without others (sign w.star ∷ rest) = on _ _ _ refl (stay _)
star_leads with without others (other ∷ rest) = on _ _ _ refl (stay _)

positive_leads : (size n : ℕ) (others : List Symbol) (rest : List Terminal) (b : Bool) → nat_lt n (2 ^ 31) ≡ b
    → Leads behind size (number ∷ others) others (t.int n ∷ rest) (cond b (Ok (pos n, rest)) (refused size (t.int n ∷ rest)))
positive_leads size n others rest true e = on _ _ _ (take_step number [] others (t.int n) rest (ap (λ (b : Bool). cond b (takes []) refuses) e)) (stay _)
positive_leads size n others rest false e = stop size _ (ap (λ (b : Bool). moved (cond b (takes []) refuses) others (t.int n ∷ rest)) e)

below_leads : (size n : ℕ) (others : List Symbol) (rest : List Terminal) (b : Bool) → nat_le n (2 ^ 31) ≡ b
    → Leads behind size (integer ∷ others) others (t.int n ∷ rest) (cond b (Ok (neg_ℤ (pos n), rest)) (refused size (t.int n ∷ rest)))
below_leads size n others rest true e = on _ _ _ (take_step integer [] others (t.int n) rest (ap (λ (b : Bool). cond b (takes []) refuses) e)) (stay _)
below_leads size n others rest false e = stop size _ (ap (λ (b : Bool). moved (cond b (takes []) refuses) others (t.int n ∷ rest)) e)

negative_leads : (size : ℕ) (others : List Symbol) (here : List Terminal) → Leads behind size (integer ∷ others) others here (negative_at size here)
unfolding negative_at first_at
negative_leads size others [] = stop size _ refl
negative_leads size others (t.int n ∷ rest) = below_leads size n others rest (nat_le n (2 ^ 31)) refl
negative_leads size others (other ∷ rest) = stop size _ refl

number_leads : (size : ℕ) (others : List Symbol) (here : List Terminal) → Leads behind size (number ∷ others) others here (number_at size here)
unfolding number_at first_at
number_leads size others [] = stop size _ refl
number_leads size others (t.int n ∷ rest) = positive_leads size n others rest (nat_lt n (2 ^ 31)) refl
number_leads size others (sign w.dash ∷ rest) = later behind size _ _ _ _ _ (negative_at size rest) (on _ _ _ refl (stay _)) (negative_leads size others rest)
number_leads size others (other ∷ rest) = stop size _ refl

slot_leads : (size : ℕ) (others : List Symbol) (here : List Terminal) → Leads behind size (slot ∷ others) others here (slot_at size here)
unfolding slot_at number_at first_at
slot_leads size others [] = halted _ (on _ _ _ refl (stay _)) refl refl
slot_leads size others (word w.leaf ∷ rest) = on _ _ _ refl (stay _)
slot_leads size others (word w.root ∷ rest) = on _ _ _ refl (stay _)
slot_leads size others (word c ∷ rest) = halted _ (on _ _ _ refl (stay _)) refl refl
slot_leads size others (other ∷ rest) = later behind size (slot ∷ others) others (number ∷ others) (other ∷ rest) (other ∷ rest) (number_at size (other ∷ rest)) (on _ _ _ refl (stay _)) (number_leads size others (other ∷ rest))

begins_leads : (size : ℕ) (others : List Symbol) (here : List Terminal) → Leads behind size (str ∷ star ∷ others) others here (begins_at size here)
unfolding begins_at
begins_leads size others here =
    both behind behind size _ (star ∷ others) others here (text_at size here) _ (text_leads size (star ∷ others) here) (λ x. star_leads (m.Begins x.0) (m.Equal x.0) others x.1)

ends_leads : (size : ℕ) (others : List Symbol) (here : List Terminal) → Leads behind size (str ∷ star ∷ others) others here (ends_at size here)
unfolding ends_at
ends_leads size others here =
    both behind behind size _ (star ∷ others) others here (text_at size here) _ (text_leads size (star ∷ others) here) (λ x. star_leads (m.Contains x.0) (m.Ends x.0) others x.1)

value_leads : (size : ℕ) (others : List Symbol) (here : List Terminal) → Leads behind size (value ∷ others) others here (value_at size here)
unfolding value_at star_at begins_at text_at first_at
value_leads size others [] = stop size _ refl
value_leads size others (sign w.star ∷ rest) = later behind size _ _ _ _ _ (ends_at size rest) (on _ _ _ refl (stay _)) (ends_leads size others rest)
value_leads size others (t.str s ∷ rest) = on _ _ _ refl (star_leads (m.Begins s) (m.Equal s) others rest)
value_leads size others (other ∷ rest) = stop size _ refl

compared_leads : (size : ℕ) (s : Sign) (others : List Symbol) (here : List Terminal) → Leads behind size (str ∷ others) others here (compared_at size s here)
unfolding compared_at
compared_leads size s others here = both behind behind size _ others others here (text_at size here) _ (text_leads size others here) (λ x. stay _)

compare : (size : ℕ) (s : Sign) (others : List Symbol) (rest : List Terminal) → step (match ∷ others, sign s ∷ rest) ≡ Some (str ∷ others, rest)
    → Leads behind size (match ∷ others) others (sign s ∷ rest) (compared_at size s rest)
compare size s others rest e = later behind size _ _ _ _ _ (compared_at size s rest) (on _ _ _ e (stay _)) (compared_leads size s others rest)

pub test_leads : (size : ℕ) (others : List Symbol) (here : List Terminal) → Leads behind size (match ∷ others) others here (test_at size here)
unfolding test_at
test_leads size others [] = on _ _ _ refl (stay _)
test_leads size others (word w.exists ∷ rest) = on _ _ _ refl (stay _)
test_leads size others (word w.absent ∷ rest) = on _ _ _ refl (stay _)
test_leads size others (sign w.equal ∷ rest) = later behind size _ _ _ _ _ (value_at size rest) (on _ _ _ refl (stay _)) (value_leads size others rest)
test_leads size others (sign w.tilde ∷ rest) = compare size w.tilde others rest refl
test_leads size others (sign w.less ∷ rest) = compare size w.less others rest refl
test_leads size others (sign w.greater ∷ rest) = compare size w.greater others rest refl
test_leads size others (sign w.less_equal ∷ rest) = compare size w.less_equal others rest refl
test_leads size others (sign w.greater_equal ∷ rest) = compare size w.greater_equal others rest refl
test_leads size others (other ∷ rest) = on _ _ _ refl (stay _)

key_leads : (size : ℕ) (others : List Symbol) (here : List Terminal) → Leads behind size (left_bracket ∷ str ∷ right_bracket ∷ others) others here (key_at size here)
unfolding key_at
key_leads size others here =
    both alone behind size _ (str ∷ right_bracket ∷ others) others here (left_bracket_at size here) _ (left_leads size _ here) (λ a.
    both behind behind size _ (right_bracket ∷ others) others a (text_at size a) _ (text_leads size _ a) (λ k.
    both alone behind size _ others others k.1 (right_bracket_at size k.1) _ (right_leads size others k.1) (λ b. stay _)))

keyed_leads : (size : ℕ) (make : List ℕ → Match → Tree) (others : List Symbol) (here : List Terminal)
    → Leads behind size (left_bracket ∷ str ∷ right_bracket ∷ match ∷ others) others here
    (key_at size here >>= λ (key : List ℕ × List Terminal). test_at size key.1 >>= λ (asked : Match × List Terminal). Ok (make key.0 asked.0, asked.1))
keyed_leads size make others here =
    both behind behind size _ (match ∷ others) others here (key_at size here) _ (key_leads size (match ∷ others) here) (λ k.
    both behind behind size _ others others k.1 (test_at size k.1) _ (test_leads size others k.1) (λ a. stay _))

info_leads : (size : ℕ) (others : List Symbol) (here : List Terminal) → Leads behind size (left_bracket ∷ str ∷ right_bracket ∷ match ∷ others) others here (info_at size here)
unfolding info_at
info_leads size others here = keyed_leads size tree.info_field others here

entitlement_leads : (size : ℕ) (others : List Symbol) (here : List Terminal) → Leads behind size (left_bracket ∷ str ∷ right_bracket ∷ match ∷ others) others here (entitlement_at size here)
unfolding entitlement_at
entitlement_leads size others here = keyed_leads size tree.entitlement_field others here

cert_key_leads : (size : ℕ) (n : ℤ) (others : List Symbol) (here : List Terminal) → Leads behind size (left_bracket ∷ str ∷ right_bracket ∷ match ∷ others) others here (cert_key_at size n here)
unfolding cert_key_at
cert_key_leads size n others here = keyed_leads size (tree.cert_field n) others here

ident_passes : (others : List Symbol) (l : List Terminal) → Goes (equals ∷ str ∷ others, l) (str ∷ others, behind_equal l)
unfolding behind_equal
ident_passes others [] = on _ _ _ refl (stay _)
ident_passes others (sign w.equal ∷ rest) = on _ _ _ refl (stay _)
ident_passes others (other ∷ rest) = on _ _ _ refl (stay _)

ident_leads : (size : ℕ) (others : List Symbol) (here : List Terminal) → Leads behind size (equals ∷ str ∷ others) others here (ident_at size here)
unfolding ident_at
ident_leads size others here =
    both behind behind size _ others others here (text_at size (behind_equal here)) _
    (later behind size _ _ _ _ _ (text_at size (behind_equal here)) (ident_passes others here) (text_leads size others (behind_equal here))) (λ x. stay _)

cd_hash_leads : (size : ℕ) (others : List Symbol) (here : List Terminal) → Leads behind size (hash ∷ others) others here (cd_hash_at size here)
unfolding cd_hash_at
cd_hash_leads size others here = both behind behind size _ others others here (hash_at size here) _ (hash_leads size others here) (λ x. stay _)

platform_leads : (size : ℕ) (others : List Symbol) (here : List Terminal) → Leads behind size (equal ∷ number ∷ others) others here (platform_at size here)
unfolding platform_at
platform_leads size others here =
    both alone behind size _ (number ∷ others) others here (equal_at size here) _ (equal_leads size _ here) (λ a.
    both behind behind size _ others others a (number_at size a) _ (number_leads size others a) (λ x. stay _))

anchor_hash_leads : (size : ℕ) (n : ℤ) (others : List Symbol) (here : List Terminal) → Leads behind size (hash ∷ others) others here (anchor_hash_at size n here)
unfolding anchor_hash_at
anchor_hash_leads size n others here = both behind behind size _ others others here (hash_at size here) _ (hash_leads size others here) (λ x. stay _)

hash_of_slot : (size : ℕ) (n : ℤ) (others : List Symbol) (rest : List Terminal) → Leads behind size (test ∷ others) others (sign w.equal ∷ rest) (anchor_hash_at size n rest)
hash_of_slot size n others rest = later behind size _ _ _ _ _ (anchor_hash_at size n rest) (on _ _ _ refl (stay _)) (anchor_hash_leads size n others rest)

key_of_slot : (size : ℕ) (n : ℤ) (others : List Symbol) (rest : List Terminal) → Leads behind size (test ∷ others) others (sign w.left_bracket ∷ rest) (cert_key_at size n (sign w.left_bracket ∷ rest))
unfolding cert_key_at key_at left_bracket_at sign_at first_at
key_of_slot size n others rest =
    both behind behind size _ (match ∷ others) others (sign w.left_bracket ∷ rest) _ _
    (later behind size _ _ (str ∷ right_bracket ∷ match ∷ others) (sign w.left_bracket ∷ rest) rest _ (on _ _ _ refl (stay _))
    (both behind behind size _ (right_bracket ∷ match ∷ others) (match ∷ others) rest (text_at size rest) _ (text_leads size _ rest) (λ k.
    both alone behind size _ (match ∷ others) (match ∷ others) k.1 (right_bracket_at size k.1) _ (right_leads size _ k.1) (λ b. stay _))))
    (λ k. both behind behind size _ others others k.1 (test_at size k.1) _ (test_leads size others k.1) (λ a. stay _))

slotted_leads : (size : ℕ) (n : ℤ) (others : List Symbol) (here : List Terminal) → Leads behind size (test ∷ others) others here (slotted_at size n here)
unfolding slotted_at cert_key_at key_at left_bracket_at sign_at first_at
slotted_leads size n others [] = stop size _ refl
slotted_leads size n others (word w.trusted ∷ rest) = on _ _ _ refl (stay _)
slotted_leads size n others (word other ∷ rest) = stop size _ refl
slotted_leads size n others (sign w.equal ∷ rest) = hash_of_slot size n others rest
slotted_leads size n others (sign w.left_bracket ∷ rest) = key_of_slot size n others rest
slotted_leads size n others (sign other ∷ rest) = stop size _ refl
slotted_leads size n others (other ∷ rest) = stop size _ refl

cert_leads : (size : ℕ) (others : List Symbol) (here : List Terminal) → Leads behind size (slot ∷ test ∷ others) others here (cert_at size here)
unfolding cert_at
cert_leads size others here = both behind behind size _ (test ∷ others) others here (slot_at size here) _ (slot_leads size _ here) (λ x. slotted_leads size x.0 others x.1)

apple_leads : (size : ℕ) (others : List Symbol) (here : List Terminal) → Leads behind size (apple ∷ others) others here (apple_at here)
unfolding apple_at
apple_leads size others [] = on _ _ _ refl (stay _)
apple_leads size others (word w.generic ∷ rest) = on _ _ _ refl (stay _)
apple_leads size others (t.str s ∷ rest) = on _ _ _ refl (stay _)
apple_leads size others (other ∷ rest) = on _ _ _ refl (stay _)

anchor_leads : (size : ℕ) (others : List Symbol) (here : List Terminal) → Leads behind size (anchor ∷ others) others here (anchor_at size here)
unfolding anchor_at cert_key_at key_at left_bracket_at sign_at first_at
anchor_leads size others [] = halted _ (on _ _ _ refl (stay _)) refl refl
anchor_leads size others (word w.apple ∷ rest) = later behind size _ _ _ _ _ (apple_at rest) (on _ _ _ refl (stay _)) (apple_leads size others rest)
anchor_leads size others (word w.trusted ∷ rest) = on _ _ _ refl (on _ _ _ refl (stay _))
anchor_leads size others (word other ∷ rest) = halted _ (on _ _ _ refl (stay _)) refl refl
anchor_leads size others (sign w.equal ∷ rest) = later behind size _ _ _ _ _ (anchor_hash_at size (negsuc 0) rest) (on _ _ _ refl (stay _)) (hash_of_slot size (negsuc 0) others rest)
anchor_leads size others (sign w.left_bracket ∷ rest) = later behind size _ _ _ _ _ _ (on _ _ _ refl (stay _)) (key_of_slot size (negsuc 0) others rest)
anchor_leads size others (sign other ∷ rest) = halted _ (on _ _ _ refl (stay _)) refl refl
anchor_leads size others (other ∷ rest) = halted _ (on _ _ _ refl (stay _)) refl refl

pub primary_leads : (size : ℕ) (c : Word) (others : List Symbol) (rest : List Terminal) → Leads behind size (factor ∷ others) others (word c ∷ rest) (primary_at size c (word c ∷ rest) rest)
unfolding primary_at
primary_leads size w.always others rest = on _ _ _ refl (stay _)
primary_leads size w.true others rest = on _ _ _ refl (stay _)
primary_leads size w.never others rest = on _ _ _ refl (stay _)
primary_leads size w.false others rest = on _ _ _ refl (stay _)
primary_leads size w.identifier others rest = later behind size _ _ _ _ _ (ident_at size rest) (on _ _ _ refl (stay _)) (ident_leads size others rest)
primary_leads size w.cdhash others rest = later behind size _ _ _ _ _ (cd_hash_at size rest) (on _ _ _ refl (stay _)) (cd_hash_leads size others rest)
primary_leads size w.platform others rest = later behind size _ _ _ _ _ (platform_at size rest) (on _ _ _ refl (stay _)) (platform_leads size others rest)
primary_leads size w.notarized others rest = on _ _ _ refl (stay _)
primary_leads size w.legacy others rest = on _ _ _ refl (stay _)
primary_leads size w.anchor others rest = later behind size _ _ _ _ _ (anchor_at size rest) (on _ _ _ refl (stay _)) (anchor_leads size others rest)
primary_leads size w.certificate others rest = later behind size _ _ _ _ _ (cert_at size rest) (on _ _ _ refl (stay _)) (cert_leads size others rest)
primary_leads size w.cert others rest = later behind size _ _ _ _ _ (cert_at size rest) (on _ _ _ refl (stay _)) (cert_leads size others rest)
primary_leads size w.info others rest = later behind size _ _ _ _ _ (info_at size rest) (on _ _ _ refl (stay _)) (info_leads size others rest)
primary_leads size w.entitlement others rest = later behind size _ _ _ _ _ (entitlement_at size rest) (on _ _ _ refl (stay _)) (entitlement_leads size others rest)
primary_leads size other others rest = stop size _ refl
