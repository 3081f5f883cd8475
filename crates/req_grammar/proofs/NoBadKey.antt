-- In a list that is read no key of a certificate's test is a bad one.
use Rattle.std.proofs.Common.{◌≡◌, ℕ, ℤ, ◌&&◌, ◌⊎◌, Bool, true, false, List, [], ◌∷◌, ◌++◌, refl, ap, subst, ◌∙◌, inl, inr}
use Rattle.std.specs.List.{list_all}
use Rattle.std.proofs.lemmas.List.Folds.{list_all-append}
use Rattle.req_tree.specs.declared.matching.Match.{Match}
use Rattle.req_tree.specs.Tree.{Tree}
use Rattle.req_grammar.specs.Words as w
use Rattle.req_grammar.specs.Words.{Word}
use Rattle.req_grammar.specs.Terminals.{Terminal, sign, word, hash}
use Rattle.req_grammar.specs.Grammar as g
use Rattle.req_grammar.specs.Grammar.{KeyRule, Number, Slot, Test, Keyed, Primary, Expr, Term, Factor}
use Rattle.req_grammar.specs.Readings.{CertTest}
use Rattle.req_grammar.specs.ReadingFaults.{IsBadKey, IsCertKey}
use Rattle.req_grammar.proofs.KeyPlaces.{KeyIn, OneKey, no_bracket, begins_bracket, is_bracket, is_str, split_at, no_key, one_key, field_no_key}

-- no key of the list is bad
abbrev pub NoneBad : List Terminal → Type 0
NoneBad list = (place : ℕ) (key : List ℕ) → IsCertKey list place key → IsBadKey key → ⊥

-- ---- what begins with no bracket, and what has none

pub begins_joined : (a l : List Terminal) → begins_bracket a ≡ false → begins_bracket l ≡ false → begins_bracket (a ++ l) ≡ false
begins_joined [] l x y = y
begins_joined (t ∷ a) l x y = x

primary_begins : (rule : KeyRule) (a : List Terminal) (x : Tree) → Primary rule a x → begins_bracket a ≡ false
primary_begins rule a x g.always = refl
primary_begins rule a x g.true = refl
primary_begins rule a x g.never = refl
primary_begins rule a x g.false = refl
primary_begins rule a x (g.ident s) = refl
primary_begins rule a x (g.ident_equal s) = refl
primary_begins rule a x (g.cd_hash h) = refl
primary_begins rule a x (g.platform b n is) = refl
primary_begins rule a x g.notarized = refl
primary_begins rule a x g.legacy = refl
primary_begins rule a x (g.named_code s) = refl
primary_begins rule a x g.apple_anchor = refl
primary_begins rule a x g.apple_generic = refl
primary_begins rule a x (g.named_anchor s) = refl
primary_begins rule a x g.trusted_any = refl
primary_begins rule a x (g.anchor_hash h) = refl
primary_begins rule a x (g.anchor_test b key test y is so) = refl
primary_begins rule a x (g.cert_hash c b slot h word_is is) = refl
primary_begins rule a x (g.trusted_cert c b slot word_is is) = refl
primary_begins rule a x (g.cert_test c b e slot key test y word_is is asked so) = refl
primary_begins rule a x (g.info b key test is) = refl
primary_begins rule a x (g.entitlement b key test is) = refl

mutual
  pub expr_begins : (rule : KeyRule) (a : List Terminal) (x : Tree) → Expr rule a x → begins_bracket a ≡ false
  expr_begins rule a x (g.term b y h) = term_begins rule _ _ h
  expr_begins rule a x (g.or b c y z h i) = begins_joined b (word w.or ∷ c) (expr_begins rule _ _ h) refl

  term_begins : (rule : KeyRule) (a : List Terminal) (x : Tree) → Term rule a x → begins_bracket a ≡ false
  term_begins rule a x (g.factor b y h) = factor_begins rule _ _ h
  term_begins rule a x (g.and b c y z h i) = begins_joined b (word w.and ∷ c) (term_begins rule _ _ h) refl

  factor_begins : (rule : KeyRule) (a : List Terminal) (x : Tree) → Factor rule a x → begins_bracket a ≡ false
  factor_begins rule a x (g.bang b y h) = refl
  factor_begins rule a x (g.paren b y h) = refl
  factor_begins rule a x (g.primary b y h) = primary_begins rule _ _ h

slot_plain : (a : List Terminal) (n : ℤ) → Slot a n → list_all no_bracket a ≡ true
slot_plain a n g.leaf = refl
slot_plain a n g.root = refl
slot_plain a n (g.number b k (g.positive i small)) = refl
slot_plain a n (g.number b k (g.negative i small)) = refl

test_plain : (a : List Terminal) (test : Match) → Test a test → list_all no_bracket a ≡ true
test_plain a test g.nothing = refl
test_plain a test g.exists = refl
test_plain a test g.absent = refl
test_plain a test (g.equal s) = refl
test_plain a test (g.begins s) = refl
test_plain a test (g.ends s) = refl
test_plain a test (g.contains s) = refl
test_plain a test (g.like s) = refl
test_plain a test (g.less s) = refl
test_plain a test (g.greater s) = refl
test_plain a test (g.less_equal s) = refl
test_plain a test (g.greater_equal s) = refl

plain_joined : (a b : List Terminal) → list_all no_bracket a ≡ true → list_all no_bracket b ≡ true → list_all no_bracket (a ++ b) ≡ true
plain_joined a b x y = list_all-append no_bracket a b ∙ ap (λ (c : Bool). c && list_all no_bracket b) x ∙ y

none_bad : (a : List Terminal) → list_all no_bracket a ≡ true → NoneBad a
none_bad a plain place key h bad = no_key a key place plain h

-- ---- what stands behind a slot, or behind a word

info_good : (a : List Terminal) (key : List ℕ) (test : Match) → Keyed a key test → NoneBad (word w.info ∷ a)
info_good a key test (g.keyed k b s asked) place other h bad =
    field_no_key (word w.info) k other refl (one_key (word w.info ∷ []) b k other place refl (test_plain b s asked) h)

entitlement_good : (a : List Terminal) (key : List ℕ) (test : Match) → Keyed a key test → NoneBad (word w.entitlement ∷ a)
entitlement_good a key test (g.keyed k b s asked) place other h bad =
    field_no_key (word w.entitlement) k other refl (one_key (word w.entitlement ∷ []) b k other place refl (test_plain b s asked) h)

-- a key behind terminals without brackets, which stands for a test
keyed_good : (f a : List Terminal) (key : List ℕ) (test : Match) (slot : ℤ) (x : Tree) → list_all no_bracket f ≡ true → Keyed a key test → CertTest slot key test x → NoneBad (f ++ a)
keyed_good f a key test slot x plain (g.keyed k b s asked) so place other h bad =
    let one : OneKey f k other = one_key f b k other place plain (test_plain b s asked) h in
    bad slot s x (subst (λ (l : List ℕ). CertTest slot l s x) one.key_is so)

primary_none_bad : (a : List Terminal) (x : Tree) → Primary CertTest a x → NoneBad a
primary_none_bad a x g.always = none_bad _ refl
primary_none_bad a x g.true = none_bad _ refl
primary_none_bad a x g.never = none_bad _ refl
primary_none_bad a x g.false = none_bad _ refl
primary_none_bad a x (g.ident s) = none_bad _ refl
primary_none_bad a x (g.ident_equal s) = none_bad _ refl
primary_none_bad a x (g.cd_hash h) = none_bad _ refl
primary_none_bad a x (g.platform b n (g.positive i small)) = none_bad _ refl
primary_none_bad a x (g.platform b n (g.negative i small)) = none_bad _ refl
primary_none_bad a x g.notarized = none_bad _ refl
primary_none_bad a x g.legacy = none_bad _ refl
primary_none_bad a x (g.named_code s) = none_bad _ refl
primary_none_bad a x g.apple_anchor = none_bad _ refl
primary_none_bad a x g.apple_generic = none_bad _ refl
primary_none_bad a x (g.named_anchor s) = none_bad _ refl
primary_none_bad a x g.trusted_any = none_bad _ refl
primary_none_bad a x (g.anchor_hash h) = none_bad _ refl
primary_none_bad a x (g.anchor_test b key test y is so) = keyed_good (word w.anchor ∷ []) b key test _ y refl is so
primary_none_bad a x (g.cert_hash c b slot h word_is is) =
    none_bad (word c ∷ (b ++ sign w.equal ∷ hash h ∷ [])) (plain_joined b (sign w.equal ∷ hash h ∷ []) (slot_plain b slot is) refl)
primary_none_bad a x (g.trusted_cert c b slot word_is is) =
    none_bad (word c ∷ (b ++ word w.trusted ∷ [])) (plain_joined b (word w.trusted ∷ []) (slot_plain b slot is) refl)
primary_none_bad a x (g.cert_test c b e slot key test y word_is is asked so) = keyed_good (word c ∷ b) e key test slot y (slot_plain b slot is) asked so
primary_none_bad a x (g.info b key test is) = info_good b key test is
primary_none_bad a x (g.entitlement b key test is) = entitlement_good b key test is

-- ---- operators and parentheses

-- a list of two with a terminal between them, where neither has a bad key
pub joined_none_bad : (a b : List Terminal) (op : Terminal) → is_bracket op ≡ false → is_str op ≡ false → begins_bracket b ≡ false → NoneBad a → NoneBad b → NoneBad (a ++ op ∷ b)
joined_none_bad a b op x y z left right place key h bad = by (split_at a b op key place x y z h)
  where
    by : KeyIn a key ⊎ KeyIn b key → ⊥
    by (inl (p, i)) = left p key i bad
    by (inr (p, i)) = right p key i bad

mutual
  pub expr_none_bad : (a : List Terminal) (x : Tree) → Expr CertTest a x → NoneBad a
  expr_none_bad a x (g.term b y h) = term_none_bad _ _ h
  expr_none_bad a x (g.or b c y z h i) =
      joined_none_bad b c (word w.or) refl refl (term_begins CertTest _ _ i) (expr_none_bad _ _ h) (term_none_bad _ _ i)

  term_none_bad : (a : List Terminal) (x : Tree) → Term CertTest a x → NoneBad a
  term_none_bad a x (g.factor b y h) = factor_none_bad _ _ h
  term_none_bad a x (g.and b c y z h i) =
      joined_none_bad b c (word w.and) refl refl (factor_begins CertTest _ _ i) (term_none_bad _ _ h) (factor_none_bad _ _ i)

  factor_none_bad : (a : List Terminal) (x : Tree) → Factor CertTest a x → NoneBad a
  factor_none_bad a x (g.bang b y h) =
      joined_none_bad [] b (sign w.bang) refl refl (factor_begins CertTest _ _ h) (none_bad [] refl) (factor_none_bad _ _ h)
  factor_none_bad a x (g.paren b y h) =
      joined_none_bad [] (b ++ sign w.right_paren ∷ []) (sign w.left_paren) refl refl (begins_joined b (sign w.right_paren ∷ []) (expr_begins CertTest _ _ h) refl) (none_bad [] refl)
      (joined_none_bad b [] (sign w.right_paren) refl refl refl (expr_none_bad _ _ h) (none_bad [] refl))
  factor_none_bad a x (g.primary b y h) = primary_none_bad _ _ h
