-- In what the grammar has, left and right parentheses are as many.
use Rattle.std.proofs.Common.{◌≡◌, ℕ, ℤ, ◌+◌, Bool, true, false, cond, List, [], ◌∷◌, ◌++◌, count_by, refl, ap, ◌∙◌, arith}
use Rattle.std.proofs.lemmas.List.Sums.{sum_by-append}
use Rattle.req_tree.specs.declared.matching.Match.{Match}
use Rattle.req_tree.specs.Tree.{Tree}
use Rattle.req_grammar.specs.Words as w
use Rattle.req_grammar.specs.Terminals.{Terminal, sign, word, str, hash}
use Rattle.req_grammar.specs.Grammar as g
use Rattle.req_grammar.specs.Grammar.{KeyRule, Number, Slot, Test, Keyed, Primary, Expr, Term, Factor, KindWord, Parts}
use Rattle.req_grammar.specs.Readings.{is_left, is_right}

abbrev pub IsBalanced : List Terminal → Type 0
IsBalanced list = count_by is_left list ≡ count_by is_right list

pub count_joined : {X : Type 0} (test : X → Bool) (a b : List X) → count_by test (a ++ b) ≡ count_by test a + count_by test b
count_joined test a b = sum_by-append (λ x. cond (test x) 1 0) a b

pub count_first : {X : Type 0} (test : X → Bool) (x : X) (a : List X) (b : Bool) → test x ≡ b → count_by test (x ∷ a) ≡ (0 + cond b 1 0) + count_by test a
count_first test x a b e = count_joined test (x ∷ []) a ∙ ap (λ (c : Bool). (0 + cond c 1 0) + count_by test a) e

joined : (a b : List Terminal) → IsBalanced a → IsBalanced b → IsBalanced (a ++ b)
joined a b h i = omega (arith, h, i, count_joined is_left a b, count_joined is_right a b)

-- a terminal that is no parenthesis
other : (x : Terminal) (a : List Terminal) → is_left x ≡ false → is_right x ≡ false → IsBalanced a → IsBalanced (x ∷ a)
other x a left right h =
    let l : count_by is_left (x ∷ a) ≡ 0 + count_by is_left a = count_first is_left x a false left in
    let r : count_by is_right (x ∷ a) ≡ 0 + count_by is_right a = count_first is_right x a false right in
    omega (arith, h, l, r)

number_balanced : (a : List Terminal) (n : ℤ) → Number a n → IsBalanced a
number_balanced a n (g.positive k small) = refl
number_balanced a n (g.negative k small) = refl

slot_balanced : (a : List Terminal) (n : ℤ) → Slot a n → IsBalanced a
slot_balanced a n g.leaf = refl
slot_balanced a n g.root = refl
slot_balanced a n (g.number b k h) = number_balanced _ _ h

test_balanced : (a : List Terminal) (test : Match) → Test a test → IsBalanced a
test_balanced a test g.nothing = refl
test_balanced a test g.exists = refl
test_balanced a test g.absent = refl
test_balanced a test (g.equal s) = refl
test_balanced a test (g.begins s) = refl
test_balanced a test (g.ends s) = refl
test_balanced a test (g.contains s) = refl
test_balanced a test (g.like s) = refl
test_balanced a test (g.less s) = refl
test_balanced a test (g.greater s) = refl
test_balanced a test (g.less_equal s) = refl
test_balanced a test (g.greater_equal s) = refl

keyed_balanced : (a : List Terminal) (key : List ℕ) (test : Match) → Keyed a key test → IsBalanced a
keyed_balanced a key test (g.keyed k b asked h) =
    other (sign w.left_bracket) (str k ∷ sign w.right_bracket ∷ b) refl refl
    (other (str k) (sign w.right_bracket ∷ b) refl refl (other (sign w.right_bracket) b refl refl (test_balanced b asked h)))

primary_balanced : (rule : KeyRule) (a : List Terminal) (x : Tree) → Primary rule a x → IsBalanced a
primary_balanced rule a x g.always = refl
primary_balanced rule a x g.true = refl
primary_balanced rule a x g.never = refl
primary_balanced rule a x g.false = refl
primary_balanced rule a x (g.ident s) = refl
primary_balanced rule a x (g.ident_equal s) = refl
primary_balanced rule a x (g.cd_hash h) = refl
primary_balanced rule a x (g.platform b n is) = other (word w.platform) (sign w.equal ∷ b) refl refl (other (sign w.equal) b refl refl (number_balanced b n is))
primary_balanced rule a x g.notarized = refl
primary_balanced rule a x g.legacy = refl
primary_balanced rule a x (g.named_code s) = refl
primary_balanced rule a x g.apple_anchor = refl
primary_balanced rule a x g.apple_generic = refl
primary_balanced rule a x (g.named_anchor s) = refl
primary_balanced rule a x g.trusted_any = refl
primary_balanced rule a x (g.anchor_hash h) = refl
primary_balanced rule a x (g.anchor_test b key test y is so) = other (word w.anchor) b refl refl (keyed_balanced b key test is)
primary_balanced rule a x (g.cert_hash c b slot h word_is is) =
    other (word c) (b ++ sign w.equal ∷ hash h ∷ []) refl refl (joined b (sign w.equal ∷ hash h ∷ []) (slot_balanced b slot is) refl)
primary_balanced rule a x (g.trusted_cert c b slot word_is is) =
    other (word c) (b ++ word w.trusted ∷ []) refl refl (joined b (word w.trusted ∷ []) (slot_balanced b slot is) refl)
primary_balanced rule a x (g.cert_test c b e slot key test y word_is is asked so) =
    other (word c) (b ++ e) refl refl (joined b e (slot_balanced b slot is) (keyed_balanced e key test asked))
primary_balanced rule a x (g.info b key test is) = other (word w.info) b refl refl (keyed_balanced b key test is)
primary_balanced rule a x (g.entitlement b key test is) = other (word w.entitlement) b refl refl (keyed_balanced b key test is)

between : (a : List Terminal) → IsBalanced a → IsBalanced (sign w.left_paren ∷ (a ++ sign w.right_paren ∷ []))
between a h =
    let inner : List Terminal = a ++ sign w.right_paren ∷ [] in
    let l : count_by is_left (sign w.left_paren ∷ inner) ≡ 1 + count_by is_left inner = count_first is_left (sign w.left_paren) inner true refl in
    let r : count_by is_right (sign w.left_paren ∷ inner) ≡ 0 + count_by is_right inner = count_first is_right (sign w.left_paren) inner false refl in
    let m : count_by is_left inner ≡ count_by is_left a + 0 = count_joined is_left a (sign w.right_paren ∷ []) in
    let n : count_by is_right inner ≡ count_by is_right a + 1 = count_joined is_right a (sign w.right_paren ∷ []) in
    omega (arith, h, l, r, m, n)

mutual
  pub expr_balanced : (rule : KeyRule) (a : List Terminal) (x : Tree) → Expr rule a x → IsBalanced a
  expr_balanced rule a x (g.term b y h) = term_balanced rule _ _ h
  expr_balanced rule a x (g.or b c y z h i) = joined b (word w.or ∷ c) (expr_balanced rule _ _ h) (other (word w.or) c refl refl (term_balanced rule _ _ i))

  term_balanced : (rule : KeyRule) (a : List Terminal) (x : Tree) → Term rule a x → IsBalanced a
  term_balanced rule a x (g.factor b y h) = factor_balanced rule _ _ h
  term_balanced rule a x (g.and b c y z h i) = joined b (word w.and ∷ c) (term_balanced rule _ _ h) (other (word w.and) c refl refl (factor_balanced rule _ _ i))

  factor_balanced : (rule : KeyRule) (a : List Terminal) (x : Tree) → Factor rule a x → IsBalanced a
  factor_balanced rule a x (g.bang b y h) = other (sign w.bang) b refl refl (factor_balanced rule _ _ h)
  factor_balanced rule a x (g.paren b y h) = between b (expr_balanced rule _ _ h)
  factor_balanced rule a x (g.primary b y h) = primary_balanced rule _ _ h

pub parts_balanced : (rule : KeyRule) (a : List Terminal) (parts : List (ℕ × Tree)) → Parts rule a parts → IsBalanced a
parts_balanced rule a parts g.none = refl
parts_balanced rule a parts (g.part k n b c x others is h i) =
    other (word k) (sign w.arrow ∷ (b ++ c)) refl refl (other (sign w.arrow) (b ++ c) refl refl (joined b c (expr_balanced rule _ _ h) (parts_balanced rule _ _ i)))
