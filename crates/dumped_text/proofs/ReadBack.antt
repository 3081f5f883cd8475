-- The terminals of a tree's text are read as its normal form.
use Rattle.std.proofs.Common.{◌≡◌, ℕ, zero, suc, ℤ, pos, negsuc, ◌<◌, ◌^◌, false, List, ◌∷◌, ◌++◌, codes, refl, sym, subst, arith}
use Rattle.std.specs.Prelude.{FitsSigned}
use Rattle.std.specs.Int.{w32}
use Rattle.req_tree.specs.declared.matching.Match.{Match}
use Rattle.req_tree.specs.declared.matching.Match.TheVariants as m
use Rattle.req_tree.specs.Tree as t
use Rattle.req_tree.specs.Tree.{Tree}
use Rattle.req_tree.specs.Normal.{is_both, is_either, operands_of_both, operands_of_either, normal}
use Rattle.req_grammar.specs.Words as w
use Rattle.req_grammar.specs.Terminals.{Terminal, word}
use Rattle.req_grammar.specs.Grammar as g
use Rattle.req_grammar.specs.Grammar.{Number, Slot, Test, Keyed, Primary, Expr, Term, Factor}
use Rattle.req_grammar.specs.Readings.{CertTest, extension, policy, field, Reads}
use Rattle.dumped_text.specs.Sayable.{IsKept, IsSayable}
use Rattle.req_tree.specs.Spellable.{CanSpell}
use Rattle.dumped_text.specs.Dumped.{Place, alone, beside_and, behind_bang, oid_text}
use Rattle.dumped_text.specs.Said.{number_said, slot_said, test_said, keyed_said, or_said, and_said, said_at, said}
use Rattle.dumped_text.proofs.OidText.{oid_text-is}
use Rattle.dumped_text.proofs.Chains.{Chain, one, joined, nested, own_both, own_either, operands_both, operands_either, both_is_no_either, either_is_no_both}

number_is : (n : ℤ) → FitsSigned w32 n → Number (number_said n) n
number_is (pos n) h = g.positive n h.sfits
number_is (negsuc n) h = let small : n < 2 ^ 31 = h.sfits in g.negative (suc n) (omega (arith, small))

slot_is : (n : ℤ) → FitsSigned w32 n → Slot (slot_said n) n
slot_is (pos zero) h = g.leaf
slot_is (negsuc zero) h = g.root
slot_is (pos (suc n)) h = g.number _ _ (number_is (pos (suc n)) h)
slot_is (negsuc (suc n)) h = g.number _ _ (number_is (negsuc (suc n)) h)

test_is : (test : Match) → Test (test_said test) test
test_is m.Exists = g.nothing
test_is m.Absent = g.absent
test_is (m.Equal s) = g.equal s
test_is (m.Contains s) = g.like s
test_is (m.Begins s) = g.begins s
test_is (m.Ends s) = g.ends s
test_is (m.Less s) = g.less s
test_is (m.Greater s) = g.greater s
test_is (m.LessEqual s) = g.less_equal s
test_is (m.GreaterEqual s) = g.greater_equal s

keyed_is : (key : List ℕ) (test : Match) → Keyed (keyed_said key test) key test
keyed_is key test = g.keyed key (test_said test) test (test_is test)

-- how terminals are read at a place: beside an operator as a chain of its operands, too
abbrev Says : Place → List Terminal → Tree → Type 0
Says alone a x = Expr CertTest a x × Chain (Term CertTest) w.or a (operands_of_either x)
Says beside_and a x = Term CertTest a x × Chain (Factor CertTest) w.and a (operands_of_both x)
Says behind_bang a x = Factor CertTest a x

-- a factor stands at each place
at_place : (place : Place) (a : List Terminal) (x : Tree) → is_both x ≡ false → is_either x ≡ false → Factor CertTest a x → Says place a x
at_place alone a x h k f =
    (g.term a x (g.factor a x f), subst (λ l. Chain (Term CertTest) w.or a l) (sym (own_either x k)) (one a x (g.factor a x f)))
at_place beside_and a x h k f = (g.factor a x f, subst (λ l. Chain (Factor CertTest) w.and a l) (sym (own_both x h)) (one a x f))
at_place behind_bang a x h k f = f

leaf : (place : Place) (a : List Terminal) (x : Tree) → is_both x ≡ false → is_either x ≡ false → Primary CertTest a x → Says place a x
leaf place a x h k p = at_place place a x h k (g.primary a x p)

both_term : (a b : List Terminal) (left right : Tree) → Says beside_and a (normal left) → Says beside_and b (normal right)
    → Term CertTest (a ++ word w.and ∷ b) (normal (t.both left right))
both_term a b left right h k =
    nested (Term CertTest) (Factor CertTest) w.and t.both (λ a x piece. g.factor a x piece) (λ a b x y term factor. g.and a b x y term factor)
    (a ++ word w.and ∷ b) (operands_of_both (normal left) ++ operands_of_both (normal right)) (joined (Factor CertTest) w.and a b _ _ h.1 k.1)

either_expr : (a b : List Terminal) (left right : Tree) → Says alone a (normal left) → Says alone b (normal right)
    → Expr CertTest (a ++ word w.or ∷ b) (normal (t.either left right))
either_expr a b left right h k =
    nested (Expr CertTest) (Term CertTest) w.or t.either (λ a x piece. g.term a x piece) (λ a b x y expr term. g.or a b x y expr term)
    (a ++ word w.or ∷ b) (operands_of_either (normal left) ++ operands_of_either (normal right)) (joined (Term CertTest) w.or a b _ _ h.1 k.1)

both_says : (place : Place) (a b : List Terminal) (left right : Tree) → Says beside_and a (normal left) → Says beside_and b (normal right)
    → Says place (and_said place a b) (normal (t.both left right))
both_says alone a b left right h k =
    let term = both_term a b left right h k in
    (g.term _ _ term, subst (λ l. Chain (Term CertTest) w.or (a ++ word w.and ∷ b) l) (sym (own_either _ (both_is_no_either left right))) (one _ _ term))
both_says beside_and a b left right h k = (
  both_term a b left right h k,
  subst (λ l. Chain (Factor CertTest) w.and (a ++ word w.and ∷ b) l) (sym (operands_both left right)) (joined (Factor CertTest) w.and a b _ _ h.1 k.1),
)
both_says behind_bang a b left right h k = g.paren (a ++ word w.and ∷ b) _ (g.term _ _ (both_term a b left right h k))

either_says : (place : Place) (a b : List Terminal) (left right : Tree) → Says alone a (normal left) → Says alone b (normal right)
    → Says place (or_said place a b) (normal (t.either left right))
either_says alone a b left right h k = (
  either_expr a b left right h k,
  subst (λ l. Chain (Term CertTest) w.or (a ++ word w.or ∷ b) l) (sym (operands_either left right)) (joined (Term CertTest) w.or a b _ _ h.1 k.1),
)
either_says beside_and a b left right h k =
    let factor = g.paren (a ++ word w.or ∷ b) _ (either_expr a b left right h k) in
    (g.factor _ _ factor, subst (λ l. Chain (Factor CertTest) w.and (or_said beside_and a b) l) (sym (own_both _ (either_is_no_both left right))) (one _ _ factor))
either_says behind_bang a b left right h k = g.paren (a ++ word w.or ∷ b) _ (either_expr a b left right h k)

says : (place : Place) (tree : Tree) → IsKept tree → CanSpell tree → Says place (said_at place tree) (normal tree)
says place t.never h k = leaf place _ _ refl refl g.never
says place t.always h k = leaf place _ _ refl refl g.always
says place (t.ident value) h k = leaf place _ _ refl refl (g.ident value)
says place t.apple_anchor h k = leaf place _ _ refl refl g.apple_anchor
says place (t.anchor_hash slot value) h k = leaf place _ _ refl refl (g.cert_hash w.certificate (slot_said slot) slot value g.long (slot_is slot h.0))
says place (t.legacy_info key value) h k = leaf place _ _ refl refl (g.info (keyed_said key (m.Equal value)) key (m.Equal value) (keyed_is key (m.Equal value)))
says place (t.both left right) h k = both_says place _ _ left right (says beside_and left h.0 k.0) (says beside_and right h.1 k.1)
says place (t.either left right) h k = either_says place _ _ left right (says alone left h.0 k.0) (says alone right h.1 k.1)
says place (t.cd_hash value) h k = leaf place _ _ refl refl (g.cd_hash value)
says place (t.negate inner) h k = at_place place _ _ refl refl (g.bang _ _ (says behind_bang inner h k))
says place (t.info_field key test) h k = leaf place _ _ refl refl (g.info (keyed_said key test) key test (keyed_is key test))
says place (t.cert_field slot key test) h k =
    leaf place _ _ refl refl (g.cert_test w.certificate (slot_said slot) (keyed_said key test) slot key test _ g.long (slot_is slot h.0) (keyed_is key test) (field k))
says place (t.trusted_cert slot) h k = leaf place _ _ refl refl (g.trusted_cert w.certificate (slot_said slot) slot g.long (slot_is slot h))
says place t.trusted_any h k = leaf place _ _ refl refl g.trusted_any
says place (t.cert_oid slot oid test) h k =
    let key = codes "field." ++ oid_text oid in
    leaf place _ _ refl refl (g.cert_test w.certificate (slot_said slot) (keyed_said key test) slot key test _ g.long (slot_is slot h.0) (keyed_is key test) (extension oid (oid_text oid) refl (oid_text-is oid h.1)))
says place t.apple_generic h k = leaf place _ _ refl refl g.apple_generic
says place (t.entitlement_field key test) h k = leaf place _ _ refl refl (g.entitlement (keyed_said key test) key test (keyed_is key test))
says place (t.cert_policy slot oid test) h k =
    let key = codes "policy." ++ oid_text oid in
    leaf place _ _ refl refl (g.cert_test w.certificate (slot_said slot) (keyed_said key test) slot key test _ g.long (slot_is slot h.0) (keyed_is key test) (policy oid (oid_text oid) refl (oid_text-is oid h.1)))
says place (t.named_anchor name) h k = leaf place _ _ refl refl (g.named_anchor name)
says place (t.named_code name) h k = leaf place _ _ refl refl (g.named_code name)
says place (t.platform number) h k = leaf place _ _ refl refl (g.platform (number_said number) number (number_is number h))
says place t.notarized h k = leaf place _ _ refl refl g.notarized
says place t.legacy_dev_id h k = leaf place _ _ refl refl g.legacy
says place (t.skip_false op skipped) h k = leaf place _ _ refl refl g.never
says place (t.skip_next op skipped inner) h k = says place inner h k.1

pub read_back : (tree : Tree) → IsSayable tree → Reads (said tree) (normal tree)
read_back tree h = (says alone tree h.kept h.spellable).0
