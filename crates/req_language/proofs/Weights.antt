-- How many bytes a tree's plain expression has at most, by the terminals that it was read from.
use Rattle.std.proofs.Common.{◌≡◌, ℕ, ℤ, negsuc, ◌+◌, ◌*◌, ◌≤◌, List, [], ◌∷◌, ◌++◌, length, refl, arith, length-append}
use Rattle.std.specs.Int.{w32, cast_unsigned}
use Rattle.std.specs.Prelude.{codes}
use Rattle.std.proofs.lemmas.List.{length-replicate}
use Rattle.req_tree.specs.declared.matching.Match.{Match}
use Rattle.req_tree.specs.Tree.{Tree}
use Rattle.cs_blob.specs.Numbers.{word}
use Rattle.req_blob.specs.Words.{signed_word, datum, padding, zeros, match_text}
use Rattle.req_blob.specs.Spelling.{plain}
use Rattle.req_grammar.specs.Words as w
use Rattle.req_grammar.specs.Words.{Word}
use Rattle.req_grammar.specs.Terminals as s
use Rattle.req_grammar.specs.Terminals.{Terminal}
use Rattle.req_grammar.specs.Grammar as g
use Rattle.req_grammar.specs.Grammar.{Number, Slot, Test, Keyed, Primary, Expr, Term, Factor}
use Rattle.req_grammar.specs.Readings.{CertTest, extension, policy, field}
use Rattle.req_language.proofs.OidLengths.{key_of_oid}

-- how many bytes a terminal makes at most, of a blob or of the index of a set
abbrev pub weight : Terminal → ℕ
weight (s.sign c) = 12
weight (s.word c) = 12
weight (s.str bytes) = 7 + 5 * length bytes
weight (s.hash bytes) = 7 + length bytes
weight (s.int n) = 12

-- the same of a list
abbrev pub weigh : List Terminal → ℕ
weigh [] = 0
weigh (first ∷ rest) = weight first + weigh rest

pub weigh-append : (a b : List Terminal) → weigh (a ++ b) ≡ weigh a + weigh b
weigh-append [] b = omega arith
weigh-append (x ∷ a) b = omega (arith, weigh-append a b)

length-word : (n : ℕ) → length (word n) ≡ 4
unfolding word
length-word n = refl

datum_most : (bytes : List ℕ) → length (datum bytes) ≤ 7 + length bytes
unfolding datum
datum_most bytes =
    omega (arith, length-append (word (length bytes)) (bytes ++ zeros (padding (length bytes))), length-append bytes (zeros (padding (length bytes))), length-word (length bytes), length-replicate {A = ℕ} (padding (length bytes)) 0)

signed_length : (slot : ℤ) → length (signed_word slot) ≡ 4
signed_length slot = length-word (cast_unsigned w32 slot)

-- a word and what follows it
behind_word : (n : ℕ) (bytes : List ℕ) → length (word n ++ bytes) ≡ 4 + length bytes
behind_word n bytes = omega (arith, length-append (word n) bytes, length-word n)

word_datum : (n : ℕ) (bytes : List ℕ) → length (word n ++ datum bytes) ≤ 11 + length bytes
word_datum n bytes = omega (arith, behind_word n (datum bytes), datum_most bytes)

test_most : (a : List Terminal) (test : Match) → Test a test → length (match_text test) ≤ 4 + weigh a
test_most a test g.nothing = omega (arith, length-word 0)
test_most a test g.exists = omega (arith, length-word 0)
test_most a test g.absent = omega (arith, length-word 14)
test_most a test (g.equal v) = omega (arith, word_datum 1 v)
test_most a test (g.begins v) = omega (arith, word_datum 3 v)
test_most a test (g.ends v) = omega (arith, word_datum 4 v)
test_most a test (g.contains v) = omega (arith, word_datum 2 v)
test_most a test (g.like v) = omega (arith, word_datum 2 v)
test_most a test (g.less v) = omega (arith, word_datum 5 v)
test_most a test (g.greater v) = omega (arith, word_datum 6 v)
test_most a test (g.less_equal v) = omega (arith, word_datum 7 v)
test_most a test (g.greater_equal v) = omega (arith, word_datum 8 v)

number_least : (a : List Terminal) (n : ℤ) → Number a n → 12 ≤ weigh a
number_least a n (g.positive m h) = omega arith
number_least a n (g.negative m h) = omega arith

slot_least : (a : List Terminal) (n : ℤ) → Slot a n → 12 ≤ weigh a
slot_least a n g.leaf = omega arith
slot_least a n g.root = omega arith
slot_least a n (g.number b m h) = number_least a n h

-- bytes that are no longer than five times a key, and a test
field_most : (n : ℕ) (key bytes : List ℕ) (a : List Terminal) (test : Match) → length bytes ≤ 5 * length key → Keyed a key test
    → length (word n ++ (datum bytes ++ match_text test)) + 8 ≤ weigh a
field_most n key bytes a test short (g.keyed k b m is) =
    omega (arith, behind_word n (datum bytes ++ match_text test), length-append (datum bytes) (match_text test), datum_most bytes, test_most b test is, short)

slotted_most : (n : ℕ) (slot : ℤ) (key bytes : List ℕ) (a : List Terminal) (test : Match) → length bytes ≤ 5 * length key → Keyed a key test
    → length (word n ++ (signed_word slot ++ (datum bytes ++ match_text test))) + 4 ≤ weigh a
slotted_most n slot key bytes a test short is =
    omega (arith, behind_word n (signed_word slot ++ (datum bytes ++ match_text test)), length-append (signed_word slot) (datum bytes ++ match_text test), field_most n key bytes a test short is, behind_word n (datum bytes ++ match_text test), signed_length slot)

cert_most : (slot : ℤ) (key : List ℕ) (test : Match) (x : Tree) (a : List Terminal) → CertTest slot key test x → Keyed a key test → length (plain x) + 4 ≤ weigh a
cert_most slot key test x a (extension oid text e is) asked = slotted_most 14 slot key oid a test (key_of_oid key (codes "field.") oid text e is) asked
cert_most slot key test x a (policy oid text e is) asked = slotted_most 17 slot key oid a test (key_of_oid key (codes "policy.") oid text e is) asked
cert_most slot key test x a (field free) asked = slotted_most 11 slot key key a test (omega arith) asked

hash_most : (slot : ℤ) (h : List ℕ) → length (word 4 ++ (signed_word slot ++ datum h)) ≤ 15 + length h
hash_most slot h = omega (arith, behind_word 4 (signed_word slot ++ datum h), length-append (signed_word slot) (datum h), signed_length slot, datum_most h)

two_most : (n : ℕ) (a b : List Terminal) (x y : Tree) (c : Word) → length (plain x) ≤ weigh a → length (plain y) ≤ weigh b
    → length (word n ++ (plain x ++ plain y)) ≤ weigh (a ++ s.word c ∷ b)
two_most n a b x y c h i = omega (arith, behind_word n (plain x ++ plain y), length-append (plain x) (plain y), weigh-append a (s.word c ∷ b), h, i)

primary_most : (a : List Terminal) (x : Tree) → Primary CertTest a x → length (plain x) ≤ weigh a
primary_most a x g.always = omega (arith, length-word 1)
primary_most a x g.true = omega (arith, length-word 1)
primary_most a x g.never = omega (arith, length-word 0)
primary_most a x g.false = omega (arith, length-word 0)
primary_most a x (g.ident v) = omega (arith, word_datum 2 v)
primary_most a x (g.ident_equal v) = omega (arith, word_datum 2 v)
primary_most a x (g.cd_hash h) = omega (arith, word_datum 8 h)
primary_most a x (g.platform b n is) = omega (arith, behind_word 20 (signed_word n), signed_length n, number_least b n is)
primary_most a x g.notarized = omega (arith, length-word 21)
primary_most a x g.legacy = omega (arith, length-word 23)
primary_most a x (g.named_code v) = omega (arith, word_datum 19 v)
primary_most a x g.apple_anchor = omega (arith, length-word 3)
primary_most a x g.apple_generic = omega (arith, length-word 15)
primary_most a x (g.named_anchor v) = omega (arith, word_datum 18 v)
primary_most a x g.trusted_any = omega (arith, length-word 13)
primary_most a x (g.anchor_hash h) = omega (arith, hash_most (negsuc 0) h)
primary_most a x (g.anchor_test b key test y is so) = omega (arith, cert_most _ key test y b so is)
primary_most a x (g.cert_hash c b slot h word_is is) = omega (arith, hash_most slot h, weigh-append b (s.sign w.equal ∷ s.hash h ∷ []), slot_least b slot is)
primary_most a x (g.trusted_cert c b slot word_is is) = omega (arith, behind_word 12 (signed_word slot), signed_length slot, weigh-append b (s.word w.trusted ∷ []), slot_least b slot is)
primary_most a x (g.cert_test c b e slot key test y word_is is asked so) = omega (arith, cert_most slot key test y e so asked, weigh-append b e)
primary_most a x (g.info b key test is) = omega (arith, field_most 10 key key b test (omega arith) is)
primary_most a x (g.entitlement b key test is) = omega (arith, field_most 16 key key b test (omega arith) is)

mutual
  pub expr_most : (a : List Terminal) (x : Tree) → Expr CertTest a x → length (plain x) ≤ weigh a
  expr_most a x (g.term b y h) = term_most _ _ h
  expr_most a x (g.or b c y z h i) = two_most 7 b c y z w.or (expr_most b y h) (term_most c z i)

  term_most : (a : List Terminal) (x : Tree) → Term CertTest a x → length (plain x) ≤ weigh a
  term_most a x (g.factor b y h) = factor_most _ _ h
  term_most a x (g.and b c y z h i) = two_most 6 b c y z w.and (term_most b y h) (factor_most c z i)

  factor_most : (a : List Terminal) (x : Tree) → Factor CertTest a x → length (plain x) ≤ weigh a
  factor_most a x (g.bang b y h) = omega (arith, behind_word 9 (plain y), factor_most b y h)
  factor_most a x (g.paren b y h) = omega (arith, expr_most b y h, weigh-append b (s.sign w.right_paren ∷ []))
  factor_most a x (g.primary b y h) = primary_most _ _ h
