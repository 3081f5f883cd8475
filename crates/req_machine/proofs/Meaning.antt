-- What an open symbol stands for by the grammar, and that each row of the table keeps to it.
use Rattle.std.proofs.Common.{◌≡◌, ℕ, ℤ, ◌≤◌, ◌^◌, nat_lt, nat_le, Bool, true, false, cond, List, [], ◌∷◌, ◌++◌, Option, Some, None, refl, sym, ap, subst, ◌∙◌, append_assoc, append-nil, arith}
use Rattle.std.proofs.lemmas.Bool.{ltb-true, leb-true}
use Rattle.req_tree.specs.declared.matching.Match.{Match}
use Rattle.req_tree.specs.declared.matching.Match.TheVariants as m
use Rattle.req_tree.specs.Tree as tree
use Rattle.req_tree.specs.Tree.{Tree}
use Rattle.req_grammar.specs.Words as w
use Rattle.req_grammar.specs.Words.{Word}
use Rattle.req_grammar.specs.Terminals as t
use Rattle.req_grammar.specs.Terminals.{Terminal, sign, word}
use Rattle.req_grammar.specs.Grammar as g
use Rattle.req_grammar.specs.Grammar.{Number, Slot, Test, Keyed, IsCert, Primary, Expr, Term, Factor, KindWord, Parts}
use Rattle.req_grammar.specs.Readings.{AnyKey, Shape, ShapeSet}
use Rattle.req_machine.specs.Machine.{Symbol, set, expr, tail, factor, paren, equals, number, slot, anchor, apple, test, match, value, star, right_paren, left_bracket, right_bracket, equal, arrow, str, hash, integer, Row, takes, becomes, refuses, row, State, first_of, Goes, stay, on}
use Rattle.req_machine.proofs.Moves.{Step, taking, becoming, is_step}

pub data IsOne (x : Terminal) : List Terminal → Type 0 where
  one : IsOne x (x ∷ [])

pub data IsMaybe (x : Terminal) : List Terminal → Type 0 where
  absent : IsMaybe x []
  present : IsMaybe x (x ∷ [])

pub data IsStr : List Terminal → Type 0 where
  is_str : (s : List ℕ) → IsStr (t.str s ∷ [])

pub data IsHash : List Terminal → Type 0 where
  is_hash : (h : List ℕ) → IsHash (t.hash h ∷ [])

pub data IsInteger : List Terminal → Type 0 where
  is_integer : (n : ℕ) → n ≤ 2 ^ 31 → IsInteger (t.int n ∷ [])

abbrev pub Any : List Terminal → Type 0
Any a = (x : Tree) × Primary AnyKey a x

-- the lists that finish an open symbol
abbrev pub Means : Symbol → List Terminal → Type 0
Means set a = ShapeSet a
Means expr a = Shape a
Means tail a = (b : List Terminal) → Shape b → Shape (b ++ a)
Means factor a = (x : Tree) × Factor AnyKey a x
Means paren a = (x : Tree) × Factor AnyKey (sign w.left_paren ∷ a) x
Means equals a = IsMaybe (sign w.equal) a
Means number a = (n : ℤ) × Number a n
Means slot a = (n : ℤ) × Slot a n
Means anchor a = Any (word w.anchor ∷ a)
Means apple a = Any (word w.anchor ∷ word w.apple ∷ a)
Means test a = Any (word w.anchor ∷ a) × ((c : Word) (b : List Terminal) (n : ℤ) → IsCert c → Slot b n → Any (word c ∷ b ++ a))
Means match a = (asked : Match) × Test a asked
Means value a = (asked : Match) × Test (sign w.equal ∷ a) asked
Means star a = IsMaybe (sign w.star) a
Means right_paren a = IsOne (sign w.right_paren) a
Means left_bracket a = IsOne (sign w.left_bracket) a
Means right_bracket a = IsOne (sign w.right_bracket) a
Means equal a = IsOne (sign w.equal) a
Means arrow a = IsOne (sign w.arrow) a
Means str a = IsStr a
Means hash a = IsHash a
Means integer a = IsInteger a

-- the lists that finish all open symbols
pub data All : List Symbol → List Terminal → Type 0 where
  none : All [] []
  more : (s : Symbol) (others : List Symbol) (a b : List Terminal) → Means s a → All others b → All (s ∷ others) (a ++ b)

all_none : (P : List Terminal → Type 0) → P [] → (a : List Terminal) → All [] a → P a
all_none P p a none = p

pub all_one : (s : Symbol) (P : List Terminal → Type 0) → ((a : List Terminal) → Means s a → P a) → (a : List Terminal) → All (s ∷ []) a → P a
all_one s P f a (more r others b c i none) = subst P (sym (append-nil b)) (f b i)

all_two : (s r : Symbol) (P : List Terminal → Type 0) → ((a b : List Terminal) → Means s a → Means r b → P (a ++ b)) → (a : List Terminal) → All (s ∷ r ∷ []) a → P a
all_two s r P f a (more p others b c i rest) = all_one r (λ (l : List Terminal). P (b ++ l)) (λ d j. f b d i j) c rest

all_three : (s r q : Symbol) (P : List Terminal → Type 0) → ((a b c : List Terminal) → Means s a → Means r b → Means q c → P (a ++ (b ++ c)))
    → (a : List Terminal) → All (s ∷ r ∷ q ∷ []) a → P a
all_three s r q P f a (more p others b c i rest) = all_two r q (λ (l : List Terminal). P (b ++ l)) (λ d e j k. f b d e i j k) c rest

all_four : (s r q v : Symbol) (P : List Terminal → Type 0)
    → ((a b c d : List Terminal) → Means s a → Means r b → Means q c → Means v d → P (a ++ (b ++ (c ++ d))))
    → (a : List Terminal) → All (s ∷ r ∷ q ∷ v ∷ []) a → P a
all_four s r q v P f a (more p others b c i rest) = all_three r q v (λ (l : List Terminal). P (b ++ l)) (λ d e h j k n. f b d e h i j k n) c rest

-- a row keeps to what the symbol stands for
abbrev Sound : Symbol → Option Terminal → Row → Type 0
Sound s (Some x) (takes symbols) = (a : List Terminal) → All symbols a → Means s (x ∷ a)
Sound s None (takes symbols) = ⊥
Sound s next (becomes symbols) = (a : List Terminal) → All symbols a → Means s a
Sound s next refuses = Unit {0}

part_is : (k : Word) (n : ℕ) → KindWord k n → (a b c : List Terminal) → IsOne (sign w.arrow) a → Shape b → ShapeSet c → ShapeSet (word k ∷ (a ++ (b ++ c)))
part_is k n is a b c one (x, i) (parts, j) = ((n, x) ∷ parts, g.part k n b c x parts is i j)

set_row : (k : Word) (n : ℕ) → KindWord k n → (a : List Terminal) → All (arrow ∷ expr ∷ set ∷ []) a → ShapeSet (word k ∷ a)
set_row k n is = all_three arrow expr set (λ a. ShapeSet (word k ∷ a)) (part_is k n is)

and_shape : (c a : List Terminal) → Shape c → (x : Tree) × Factor AnyKey a x → Shape (c ++ word w.and ∷ a)
and_shape c a (x, g.term d y i) (z, f) = (_, g.term _ _ (g.and c a y z i f))
and_shape c a (x, g.or d e u v i j) (z, f) =
    subst Shape (sym (append_assoc d (word w.or ∷ e) (word w.and ∷ a))) (_, g.or d (e ++ word w.and ∷ a) u (tree.both v z) i (g.and e a v z j f))

or_shape : (c a : List Terminal) → Shape c → (x : Tree) × Factor AnyKey a x → Shape (c ++ word w.or ∷ a)
or_shape c a (x, i) (z, f) = (_, g.or c a x z i (g.factor a z f))

tail_row : (o : Word) → ((c a : List Terminal) → Shape c → (x : Tree) × Factor AnyKey a x → Shape (c ++ word o ∷ a)) → (a : List Terminal) → All (factor ∷ tail ∷ []) a
    → (c : List Terminal) → Shape c → Shape (c ++ word o ∷ a)
tail_row o grow = all_two factor tail (λ a. (c : List Terminal) → Shape c → Shape (c ++ word o ∷ a))
    (λ a b f i c s. subst Shape (append_assoc c (word o ∷ a) b) (i (c ++ word o ∷ a) (grow c a s f)))

as_factor : (a : List Terminal) → Any a → (x : Tree) × Factor AnyKey a x
as_factor a (x, i) = (x, g.primary a x i)

plain_row : (c : Word) (x : Tree) → Primary AnyKey (word c ∷ []) x → (a : List Terminal) → All [] a → (y : Tree) × Factor AnyKey (word c ∷ a) y
plain_row c x i = all_none (λ a. (y : Tree) × Factor AnyKey (word c ∷ a) y) (x, g.primary _ _ i)

ident_is : (a b : List Terminal) → IsMaybe (sign w.equal) a → IsStr b → (y : Tree) × Factor AnyKey (word w.identifier ∷ (a ++ b)) y
ident_is a b absent (is_str s) = (_, g.primary _ _ (g.ident s))
ident_is a b present (is_str s) = (_, g.primary _ _ (g.ident_equal s))

hash_is : (a : List Terminal) → IsHash a → (y : Tree) × Factor AnyKey (word w.cdhash ∷ a) y
hash_is a (is_hash h) = (_, g.primary _ _ (g.cd_hash h))

platform_is : (a b : List Terminal) → IsOne (sign w.equal) a → (n : ℤ) × Number b n → (y : Tree) × Factor AnyKey (word w.platform ∷ (a ++ b)) y
platform_is a b one (n, i) = (_, g.primary _ _ (g.platform b n i))

cert_row : (c : Word) → IsCert c → (a : List Terminal) → All (slot ∷ test ∷ []) a → (y : Tree) × Factor AnyKey (word c ∷ a) y
cert_row c is = all_two slot test (λ a. (y : Tree) × Factor AnyKey (word c ∷ a) y) (λ a b i j. as_factor _ (j.1 c a i.0 is i.1))

abbrev KeyedBy : List Terminal → Type 0
KeyedBy a = (key : List ℕ) × (asked : Match) × Keyed a key asked

keyed_is : (a b c d : List Terminal) → IsOne (sign w.left_bracket) a → IsStr b → IsOne (sign w.right_bracket) c → (asked : Match) × Test d asked → KeyedBy (a ++ (b ++ (c ++ d)))
keyed_is a b c d one (is_str s) one (asked, i) = (s, asked, g.keyed s d asked i)

keyed_row : (a : List Terminal) → All (left_bracket ∷ str ∷ right_bracket ∷ match ∷ []) a → KeyedBy a
keyed_row = all_four left_bracket str right_bracket match KeyedBy keyed_is

keyed_rest : (a : List Terminal) → All (str ∷ right_bracket ∷ match ∷ []) a → KeyedBy (sign w.left_bracket ∷ a)
keyed_rest = all_three str right_bracket match (λ a. KeyedBy (sign w.left_bracket ∷ a)) (λ a b c i j k. keyed_is (sign w.left_bracket ∷ []) a b c one i j k)

info_is : (a : List Terminal) → KeyedBy a → (y : Tree) × Factor AnyKey (word w.info ∷ a) y
info_is a (key, asked, i) = (_, g.primary _ _ (g.info a key asked i))

entitlement_is : (a : List Terminal) → KeyedBy a → (y : Tree) × Factor AnyKey (word w.entitlement ∷ a) y
entitlement_is a (key, asked, i) = (_, g.primary _ _ (g.entitlement a key asked i))

named_is : (s : List ℕ) (a : List Terminal) → IsOne (sign w.right_paren) a → (y : Tree) × Factor AnyKey (sign w.left_paren ∷ t.str s ∷ a) y
named_is s a one = (_, g.primary _ _ (g.named_code s))

paren_is : (a b : List Terminal) → Shape a → IsOne (sign w.right_paren) b → (y : Tree) × Factor AnyKey (sign w.left_paren ∷ (a ++ b)) y
paren_is a b (x, i) one = (_, g.paren a x i)

test_hash : (a : List Terminal) → IsHash a → Means test (sign w.equal ∷ a)
test_hash a (is_hash h) = ((_, g.anchor_hash h), λ c b n is i. (_, g.cert_hash c b n h is i))

test_keyed : (a : List Terminal) → KeyedBy a → Means test a
test_keyed a (key, asked, i) = ((_, g.anchor_test a key asked _ i refl), λ c b n is j. (_, g.cert_test c b a n key asked _ is j i refl))

string_is : (first : Terminal) (make : List ℕ → Match) → ((s : List ℕ) → Test (first ∷ t.str s ∷ []) (make s)) → (a : List Terminal) → IsStr a → Means match (first ∷ a)
string_is first make is a (is_str s) = (make s, is s)

starred_is : (a b : List Terminal) → IsStr a → IsMaybe (sign w.star) b → Means value (sign w.star ∷ (a ++ b))
starred_is a b (is_str s) absent = (_, g.ends s)
starred_is a b (is_str s) present = (_, g.contains s)

begun_is : (s : List ℕ) (a : List Terminal) → IsMaybe (sign w.star) a → Means value (t.str s ∷ a)
begun_is s a absent = (_, g.equal s)
begun_is s a present = (_, g.begins s)

integer_is : (a : List Terminal) → IsInteger a → Means number (sign w.dash ∷ a)
integer_is a (is_integer n small) = (_, g.negative n small)

number_row : (n : ℕ) (b : Bool) → nat_lt n (2 ^ 31) ≡ b → Sound number (Some (t.int n)) (cond b (takes []) refuses)
number_row n true small = all_none (λ a. Means number (t.int n ∷ a)) (_, g.positive n (ltb-true n (2 ^ 31) small))
number_row n false large = tt

integer_row : (n : ℕ) (b : Bool) → nat_le n (2 ^ 31) ≡ b → Sound integer (Some (t.int n)) (cond b (takes []) refuses)
integer_row n true small = all_none (λ a. Means integer (t.int n ∷ a)) (is_integer n (leb-true n (2 ^ 31) small))
integer_row n false large = tt

sound : (s : Symbol) (next : Option Terminal) → Sound s next (row s next)
sound set (Some (word w.host)) = set_row w.host 1 g.host
sound set (Some (word w.guest)) = set_row w.guest 2 g.guest
sound set (Some (word w.designated)) = set_row w.designated 3 g.designated
sound set (Some (word w.library)) = set_row w.library 4 g.library
sound set (Some (word w.plugin)) = set_row w.plugin 5 g.plugin
sound set other = all_none (Means set) ([], g.none)
sound expr any = all_two factor tail (Means expr) (λ a b f i. i a (f.0, g.term a f.0 (g.factor a f.0 f.1)))
sound tail (Some (word w.and)) = tail_row w.and and_shape
sound tail (Some (word w.or)) = tail_row w.or or_shape
sound tail other = all_none (Means tail) (λ b s. subst Shape (sym (append-nil b)) s)
sound factor (Some (sign w.bang)) = all_one factor (λ a. Means factor (sign w.bang ∷ a)) (λ a f. (_, g.bang a f.0 f.1))
sound factor (Some (sign w.left_paren)) = all_one paren (λ a. Means factor (sign w.left_paren ∷ a)) (λ a f. f)
sound factor (Some (word w.always)) = plain_row w.always _ g.always
sound factor (Some (word w.true)) = plain_row w.true _ g.true
sound factor (Some (word w.never)) = plain_row w.never _ g.never
sound factor (Some (word w.false)) = plain_row w.false _ g.false
sound factor (Some (word w.notarized)) = plain_row w.notarized _ g.notarized
sound factor (Some (word w.legacy)) = plain_row w.legacy _ g.legacy
sound factor (Some (word w.identifier)) = all_two equals str (λ a. Means factor (word w.identifier ∷ a)) ident_is
sound factor (Some (word w.cdhash)) = all_one hash (λ a. Means factor (word w.cdhash ∷ a)) hash_is
sound factor (Some (word w.platform)) = all_two equal number (λ a. Means factor (word w.platform ∷ a)) platform_is
sound factor (Some (word w.anchor)) = all_one anchor (λ a. Means factor (word w.anchor ∷ a)) (λ a f. as_factor _ f)
sound factor (Some (word w.cert)) = cert_row w.cert g.short
sound factor (Some (word w.certificate)) = cert_row w.certificate g.long
sound factor (Some (word w.info)) = λ a all. info_is a (keyed_row a all)
sound factor (Some (word w.entitlement)) = λ a all. entitlement_is a (keyed_row a all)
sound factor other = tt
sound paren (Some (t.str s)) = all_one right_paren (λ a. Means paren (t.str s ∷ a)) (named_is s)
sound paren other = all_two expr right_paren (Means paren) paren_is
sound equals (Some (sign w.equal)) = all_none (λ a. Means equals (sign w.equal ∷ a)) present
sound equals other = all_none (Means equals) absent
sound number (Some (t.int n)) = number_row n (nat_lt n (2 ^ 31)) refl
sound number (Some (sign w.dash)) = all_one integer (λ a. Means number (sign w.dash ∷ a)) integer_is
sound number other = tt
sound slot (Some (word w.leaf)) = all_none (λ a. Means slot (word w.leaf ∷ a)) (_, g.leaf)
sound slot (Some (word w.root)) = all_none (λ a. Means slot (word w.root ∷ a)) (_, g.root)
sound slot other = all_one number (Means slot) (λ a f. (f.0, g.number a f.0 f.1))
sound anchor (Some (word w.apple)) = all_one apple (λ a. Means anchor (word w.apple ∷ a)) (λ a f. f)
sound anchor other = all_one test (Means anchor) (λ a f. f.0)
sound apple (Some (word w.generic)) = all_none (λ a. Means apple (word w.generic ∷ a)) (_, g.apple_generic)
sound apple (Some (t.str s)) = all_none (λ a. Means apple (t.str s ∷ a)) (_, g.named_anchor s)
sound apple other = all_none (Means apple) (_, g.apple_anchor)
sound test (Some (word w.trusted)) = all_none (λ a. Means test (word w.trusted ∷ a)) ((_, g.trusted_any), λ c b n is i. (_, g.trusted_cert c b n is i))
sound test (Some (sign w.equal)) = all_one hash (λ a. Means test (sign w.equal ∷ a)) test_hash
sound test (Some (sign w.left_bracket)) = λ a all. test_keyed _ (keyed_rest a all)
sound test other = tt
sound match (Some (word w.exists)) = all_none (λ a. Means match (word w.exists ∷ a)) (_, g.exists)
sound match (Some (word w.absent)) = all_none (λ a. Means match (word w.absent ∷ a)) (_, g.absent)
sound match (Some (sign w.equal)) = all_one value (λ a. Means match (sign w.equal ∷ a)) (λ a f. f)
sound match (Some (sign w.tilde)) = all_one str (λ a. Means match (sign w.tilde ∷ a)) (string_is (sign w.tilde) m.Contains g.like)
sound match (Some (sign w.less)) = all_one str (λ a. Means match (sign w.less ∷ a)) (string_is (sign w.less) m.Less g.less)
sound match (Some (sign w.greater)) = all_one str (λ a. Means match (sign w.greater ∷ a)) (string_is (sign w.greater) m.Greater g.greater)
sound match (Some (sign w.less_equal)) = all_one str (λ a. Means match (sign w.less_equal ∷ a)) (string_is (sign w.less_equal) m.LessEqual g.less_equal)
sound match (Some (sign w.greater_equal)) = all_one str (λ a. Means match (sign w.greater_equal ∷ a)) (string_is (sign w.greater_equal) m.GreaterEqual g.greater_equal)
sound match other = all_none (Means match) (_, g.nothing)
sound value (Some (sign w.star)) = all_two str star (λ a. Means value (sign w.star ∷ a)) starred_is
sound value (Some (t.str s)) = all_one star (λ a. Means value (t.str s ∷ a)) (begun_is s)
sound value other = tt
sound star (Some (sign w.star)) = all_none (λ a. Means star (sign w.star ∷ a)) present
sound star other = all_none (Means star) absent
sound right_paren (Some (sign w.right_paren)) = all_none (λ a. Means right_paren (sign w.right_paren ∷ a)) one
sound right_paren other = tt
sound left_bracket (Some (sign w.left_bracket)) = all_none (λ a. Means left_bracket (sign w.left_bracket ∷ a)) one
sound left_bracket other = tt
sound right_bracket (Some (sign w.right_bracket)) = all_none (λ a. Means right_bracket (sign w.right_bracket ∷ a)) one
sound right_bracket other = tt
sound equal (Some (sign w.equal)) = all_none (λ a. Means equal (sign w.equal ∷ a)) one
sound equal other = tt
sound arrow (Some (sign w.arrow)) = all_none (λ a. Means arrow (sign w.arrow ∷ a)) one
sound arrow other = tt
sound str (Some (t.str s)) = all_none (λ a. Means str (t.str s ∷ a)) (is_str s)
sound str other = tt
sound hash (Some (t.hash h)) = all_none (λ a. Means hash (t.hash h ∷ a)) (is_hash h)
sound hash other = tt
sound integer (Some (t.int n)) = integer_row n (nat_le n (2 ^ 31)) refl
sound integer other = tt

-- a list that finishes symbols, cut where the first of them are finished
record Cut (symbols others : List Symbol) (list : List Terminal) : Type 0 where
  a : List Terminal
  b : List Terminal
  first : All symbols a
  second : All others b
  parts : list ≡ a ++ b

cut : (symbols others : List Symbol) (list : List Terminal) → All (symbols ++ others) list → Cut symbols others list
cut [] others list all = record { a = []; b = list; first = none; second = all; parts = refl }
cut (s ∷ symbols) others list (more r rest a b i all) =
    let f : Cut symbols others b = cut symbols others b all in
    record {
      a = a ++ f.a;
      b = f.b;
      first = more s symbols a f.a i f.first;
      second = f.second;
      parts = ap (λ (l : List Terminal). a ++ l) f.parts ∙ sym (append_assoc a f.a f.b);
    }

-- from a state to a state a front is taken off, and what finishes the second finishes the first behind it
pub record IsFinished (s e : State) (b : List Terminal) : Type 0 where
  pub front : List Terminal
  pub parts : s.1 ≡ front ++ e.1
  pub all : All s.0 (front ++ b)

took : (s : Symbol) (x : Terminal) (symbols : List Symbol) → row s (Some x) ≡ takes symbols → (a : List Terminal) → All symbols a → Means s (x ∷ a)
took s x symbols h a all = subst (Sound s (Some x)) h (sound s (Some x)) a all

became : (s : Symbol) (next : Option Terminal) (symbols : List Symbol) → row s next ≡ becomes symbols → (a : List Terminal) → All symbols a → Means s a
became s None symbols h a all = subst (Sound s None) h (sound s None) a all
became s (Some x) symbols h a all = subst (Sound s (Some x)) h (sound s (Some x)) a all

before : (s r e : State) (b : List Terminal) → Step s r → IsFinished r e b → IsFinished s e b
before s r e b (taking p symbols others x rest h) f =
    let c : Cut symbols others (f.front ++ b) = cut symbols others (f.front ++ b) f.all in
    record {
      front = x ∷ f.front;
      parts = ap (λ (l : List Terminal). x ∷ l) f.parts;
      all = subst (All (p ∷ others)) (sym (ap (λ (l : List Terminal). x ∷ l) c.parts)) (more p others (x ∷ c.a) c.b (took p x symbols h c.a c.first) c.second);
    }
before s r e b (becoming p symbols others left h) f =
    let c : Cut symbols others (f.front ++ b) = cut symbols others (f.front ++ b) f.all in
    record {
      front = f.front;
      parts = f.parts;
      all = subst (All (p ∷ others)) (sym c.parts) (more p others c.a c.b (became p (first_of left) symbols h c.a c.first) c.second);
    }

pub finished : (s e : State) (b : List Terminal) → Goes s e → All e.0 b → IsFinished s e b
finished s e b (stay p) all = record { front = []; parts = refl; all = all }
finished s e b (on p r u h g) all = before s r e b (is_step s r h) (finished r e b g all)

-- each symbol has a list that finishes it
end_of : (s : Symbol) → (a : List Terminal) × Means s a
end_of set = ([], ([], g.none))
end_of expr = (word w.always ∷ [], (_, g.term _ _ (g.factor _ _ (g.primary _ _ g.always))))
end_of tail = ([], λ b s. subst Shape (sym (append-nil b)) s)
end_of factor = (word w.always ∷ [], (_, g.primary _ _ g.always))
end_of paren = (t.str [] ∷ sign w.right_paren ∷ [], (_, g.primary _ _ (g.named_code [])))
end_of equals = ([], absent)
end_of number = (t.int 0 ∷ [], (_, g.positive 0 (omega arith)))
end_of slot = (word w.leaf ∷ [], (_, g.leaf))
end_of anchor = (word w.trusted ∷ [], (_, g.trusted_any))
end_of apple = ([], (_, g.apple_anchor))
end_of test = (word w.trusted ∷ [], ((_, g.trusted_any), λ c b n is i. (_, g.trusted_cert c b n is i)))
end_of match = ([], (_, g.nothing))
end_of value = (t.str [] ∷ [], (_, g.equal []))
end_of star = ([], absent)
end_of right_paren = (_, one)
end_of left_bracket = (_, one)
end_of right_bracket = (_, one)
end_of equal = (_, one)
end_of arrow = (_, one)
end_of str = (_, is_str [])
end_of hash = (_, is_hash [])
end_of integer = (_, is_integer 0 (omega arith))

pub ends_of : (symbols : List Symbol) → (a : List Terminal) × All symbols a
ends_of [] = ([], none)
ends_of (s ∷ symbols) = let f = end_of s in let g = ends_of symbols in (f.0 ++ g.0, more s symbols f.0 g.0 f.1 g.1)
