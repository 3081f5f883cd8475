-- A key stands for one test at most.
use Rattle.std.proofs.Common.{◌≡◌, ℕ, false, List, ◌++◌, drop, get_or, codes, refl, sym, ap, subst, ◌∙◌, true≢false, arith}
use Rattle.req_tree.specs.Tree as t
use Rattle.req_tree.specs.Tree.{Tree}
use Rattle.req_tree.specs.Oid.{IsOidText}
use Rattle.req_tree.specs.Spellable.{is_reserved}
use Rattle.req_grammar.specs.Terminals.{Terminal}
use Rattle.req_grammar.specs.Readings.{CertTest, Reads, extension, policy, field}
use Rattle.req_grammar.proofs.Readings.{IsSingle, reads_one}

-- a text is that of one object identifier at most: a law of req_tree
abbrev pub OneOid : Type 0
OneOid = (text a b : List ℕ) → IsOidText a text → IsOidText b text → a ≡ b

same_oid : OneOid → (front : List ℕ) (n : ℕ) (key a b s u : List ℕ) → ((text : List ℕ) → drop n (front ++ text) ≡ text)
    → key ≡ front ++ a → key ≡ front ++ b → IsOidText s a → IsOidText u b → s ≡ u
same_oid one front n key a b s u behind e h i j =
    let same : a ≡ b = sym (behind a) ∙ ap (drop n) (sym e ∙ h) ∙ behind b in
    one b s u (subst (λ (text : List ℕ). IsOidText s text) same i) j

not_both : (key a b : List ℕ) → key ≡ codes "field." ++ a → key ≡ codes "policy." ++ b → ⊥
not_both key a b e h = let first : 102 ≡ 112 = ap (λ (bytes : List ℕ). get_or bytes 0 0) (sym e ∙ h) in absurd (omega (arith, first))

not_field : (key a : List ℕ) → key ≡ codes "field." ++ a → is_reserved key ≡ false → ⊥
not_field key a e free = true≢false (sym (ap is_reserved e) ∙ free)

not_policy : (key a : List ℕ) → key ≡ codes "policy." ++ a → is_reserved key ≡ false → ⊥
not_policy key a e free = true≢false (sym (ap is_reserved e) ∙ free)

pub cert_test_one : OneOid → IsSingle CertTest
cert_test_one one slot key test x y (extension s a e i) (extension u b h j) = ap (λ (oid : List ℕ). t.cert_oid slot oid test) (same_oid one (codes "field.") 6 key a b s u (λ text. refl) e h i j)
cert_test_one one slot key test x y (extension s a e i) (policy u b h j) = absurd (not_both key a b e h)
cert_test_one one slot key test x y (extension s a e i) (field free) = absurd (not_field key a e free)
cert_test_one one slot key test x y (policy s a e i) (extension u b h j) = absurd (not_both key b a h e)
cert_test_one one slot key test x y (policy s a e i) (policy u b h j) = ap (λ (oid : List ℕ). t.cert_policy slot oid test) (same_oid one (codes "policy.") 7 key a b s u (λ text. refl) e h i j)
cert_test_one one slot key test x y (policy s a e i) (field free) = absurd (not_policy key a e free)
cert_test_one one slot key test x y (field free) (extension u b h j) = absurd (not_field key b h free)
cert_test_one one slot key test x y (field free) (policy u b h j) = absurd (not_policy key b h free)
cert_test_one one slot key test x y (field free) (field freed) = refl

pub one_reading : OneOid → (a : List Terminal) (x y : Tree) → Reads a x → Reads a y → x ≡ y
one_reading one a x y h i = reads_one CertTest (cert_test_one one) a x y h i
