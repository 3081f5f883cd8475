-- What keys stand for, by what they begin with.
use Rattle.std.proofs.Common.{◌≡◌, ◌==◌, ◌≤◌, ◌+◌, max, ℕ, suc, ℤ, true, false, List, ◌++◌, length, drop, codes, slice_index, refl, sym, ap, ◌∙◌, subst, true≢false, arith}
use Rattle.std.specs.List.{starts_with}
use Rattle.std.proofs.lemmas.Bool.Decides.{Decides-eqb}
use Rattle.std.proofs.lemmas.Slice.Eq.{starts_is}
use Rattle.req_tree.specs.declared.matching.Match.{Match}
use Rattle.req_tree.specs.Tree as t
use Rattle.req_tree.specs.Tree.{Tree}
use Rattle.req_tree.specs.Depth.{depth_of}
use Rattle.req_tree.specs.Oid.{IsOidText}
use Rattle.req_tree.specs.Spellable.{is_reserved}
use Rattle.req_grammar.specs.Readings.{CertTest, extension, policy, field}
use Rattle.req_grammar.specs.ReadingFaults.{IsBadKey, StandsForTest}
use Rattle.req_primary.specs.declared.meaning.Meaning.TheVariants as m
use Rattle.req_primary.specs.Operands.{is_cert_field}
use Rattle.req_primary.specs.Keys.{StandsFor, Tells, Outcome, fine, negated, negated_times, Means}

-- what follows the front that a key begins with
behind_front : (key front : List ℕ) → starts_with ◌==◌ key front ≡ true → key ≡ front ++ drop (length front) key
behind_front key front h = (starts_is Decides-eqb key front (starts_with ◌==◌ key front) refl).0 h

front_begins : (key front rest : List ℕ) → key ≡ front ++ rest → starts_with ◌==◌ key front ≡ true
front_begins key front rest e = (starts_is Decides-eqb key front (starts_with ◌==◌ key front) refl).1 rest e

not_both : (key a b : List ℕ) → key ≡ codes "field." ++ a → key ≡ codes "policy." ++ b → ⊥
not_both key a b e h = let same : 102 ≡ 112 = ap (λ (bytes : List ℕ). slice_index bytes 0) (sym e ∙ h) in absurd (omega (arith, same))

-- a reserved key is no field's
not_free : {A : Type 0} (key : List ℕ) → is_reserved key ≡ true → is_reserved key ≡ false → A
not_free key h free = absurd (true≢false (sym h ∙ free))

field_reserved : (key rest : List ℕ) → key ≡ codes "field." ++ rest → is_reserved key ≡ true
field_reserved key rest e = ap is_reserved e

policy_reserved : (key rest : List ℕ) → key ≡ codes "policy." ++ rest → is_reserved key ≡ true
policy_reserved key rest e = ap is_reserved e

same_rest : (front : List ℕ) (n : ℕ) → ((rest : List ℕ) → drop n (front ++ rest) ≡ rest) → (key a b : List ℕ) → key ≡ front ++ a → key ≡ front ++ b → a ≡ b
same_rest front n behind key a b e h = sym (behind a) ∙ ap (drop n) (sym e ∙ h) ∙ behind b

pub extension_means : (key text oid : List ℕ) → starts_with ◌==◌ key (codes "field.") ≡ true → text ≡ drop 6 key → IsOidText oid text
    → (rest : List ℕ) × (key ≡ codes "field." ++ rest) × IsOidText oid rest
extension_means key text oid h e is = (drop 6 key, behind_front key (codes "field.") h, subst (λ (rest : List ℕ). IsOidText oid rest) e is)

pub policy_means : (key text oid : List ℕ) → starts_with ◌==◌ key (codes "policy.") ≡ true → text ≡ drop 7 key → IsOidText oid text
    → (rest : List ℕ) × (key ≡ codes "policy." ++ rest) × IsOidText oid rest
policy_means key text oid h e is = (drop 7 key, behind_front key (codes "policy.") h, subst (λ (rest : List ℕ). IsOidText oid rest) e is)

pub bad_extension : (key text : List ℕ) → starts_with ◌==◌ key (codes "field.") ≡ true → text ≡ drop 6 key → ((oid : List ℕ) → IsOidText oid text → ⊥) → IsBadKey key
bad_extension key text h e none slot test x (extension oid rest is so) =
    none oid (subst (λ (bytes : List ℕ). IsOidText oid bytes) (same_rest (codes "field.") 6 (λ more. refl) key rest (drop 6 key) is (behind_front key (codes "field.") h) ∙ sym e) so)
bad_extension key text h e none slot test x (policy oid rest is so) = not_both key (drop 6 key) rest (behind_front key (codes "field.") h) is
bad_extension key text h e none slot test x (field free) = not_free key (field_reserved key (drop 6 key) (behind_front key (codes "field.") h)) free

pub bad_policy : (key text : List ℕ) → starts_with ◌==◌ key (codes "policy.") ≡ true → text ≡ drop 7 key → ((oid : List ℕ) → IsOidText oid text → ⊥) → IsBadKey key
bad_policy key text h e none slot test x (extension oid rest is so) = not_both key rest (drop 7 key) is (behind_front key (codes "policy.") h)
bad_policy key text h e none slot test x (policy oid rest is so) =
    none oid (subst (λ (bytes : List ℕ). IsOidText oid bytes) (same_rest (codes "policy.") 7 (λ more. refl) key rest (drop 7 key) is (behind_front key (codes "policy.") h) ∙ sym e) so)
bad_policy key text h e none slot test x (field free) = not_free key (policy_reserved key (drop 7 key) (behind_front key (codes "policy.") h)) free

-- a reserved key that begins otherwise
pub bad_other : (key : List ℕ) → is_reserved key ≡ true → starts_with ◌==◌ key (codes "field.") ≡ false → starts_with ◌==◌ key (codes "policy.") ≡ false → IsBadKey key
bad_other key h no_field no_policy slot test x (extension oid rest is so) = absurd (true≢false (sym (front_begins key (codes "field.") rest is) ∙ no_field))
bad_other key h no_field no_policy slot test x (policy oid rest is so) = absurd (true≢false (sym (front_begins key (codes "policy.") rest is) ∙ no_policy))
bad_other key h no_field no_policy slot test x (field free) = not_free key h free

-- a tree without subtrees stands for itself, where it is no certificate's field
pub plain_tells : (x : Tree) (o : Outcome) → depth_of x ≡ 1 → StandsFor x x → o ≡ fine x 1 → Tells x o
plain_tells x o shallow stands e = subst (Tells x) (sym e) (stands, sym shallow, omega arith)

pub meant_tells : (slot : ℤ) (key : List ℕ) (test : Match) (x : Tree) (o : Outcome) → CertTest slot key test x → depth_of x ≡ 1 → o ≡ fine x 1 → Tells (t.cert_field slot key test) o
meant_tells slot key test x o stands shallow e = subst (Tells (t.cert_field slot key test)) (sym e) (stands, sym shallow, omega arith)

pub field_told : (key : List ℕ) → Means key m.Field → StandsForTest key
field_told key free slot test = (t.cert_field slot key test, field free)

pub extension_told : (key oid : List ℕ) → Means key (m.Extension oid) → StandsForTest key
extension_told key oid (text, is, so) slot test = (t.cert_oid slot oid test, extension oid text is so)

pub policy_told : (key oid : List ℕ) → Means key (m.Policy oid) → StandsForTest key
policy_told key oid (text, is, so) slot test = (t.cert_policy slot oid test, policy oid text is so)

pub field_meant : (slot : ℤ) (key : List ℕ) (test : Match) (o : Outcome) → Means key m.Field → o ≡ fine (t.cert_field slot key test) 1 → Tells (t.cert_field slot key test) o
field_meant slot key test o free e = meant_tells slot key test (t.cert_field slot key test) o (field free) refl e

pub extension_meant : (slot : ℤ) (key oid : List ℕ) (test : Match) (o : Outcome) → Means key (m.Extension oid) → o ≡ fine (t.cert_oid slot oid test) 1 → Tells (t.cert_field slot key test) o
extension_meant slot key oid test o (text, is, so) e = meant_tells slot key test (t.cert_oid slot oid test) o (extension oid text is so) refl e

pub policy_meant : (slot : ℤ) (key oid : List ℕ) (test : Match) (o : Outcome) → Means key (m.Policy oid) → o ≡ fine (t.cert_policy slot oid test) 1 → Tells (t.cert_field slot key test) o
policy_meant slot key oid test o (text, is, so) e = meant_tells slot key test (t.cert_policy slot oid test) o (policy oid text is so) refl e

some_depth : (x : Tree) → 1 ≤ depth_of x
some_depth (t.both left right) = omega arith
some_depth (t.either left right) = omega arith
some_depth (t.negate inner) = omega arith
some_depth (t.skip_next op skipped inner) = omega arith
some_depth x = omega arith

one_more : (inner : Tree) → depth_of inner + 1 ≡ 1 → max (depth_of inner) 0 + 1 ≡ 1
one_more inner e = omega (arith, e)

two_deep : (a b : ℕ) → max a b + 1 ≡ 1 → 1 ≤ a → ⊥
two_deep a b e h = absurd (omega (arith, e, h))

-- no requirement without subtrees is a certificate's field with a key that was not looked at
pub no_subtrees : (x : Tree) → depth_of x ≡ 1 → is_cert_field x ≡ false → StandsFor x x
no_subtrees t.never e h = refl
no_subtrees t.always e h = refl
no_subtrees (t.ident s) e h = refl
no_subtrees t.apple_anchor e h = refl
no_subtrees (t.anchor_hash slot hash) e h = refl
no_subtrees (t.legacy_info key value) e h = refl
no_subtrees (t.both left right) e h = absurd (two_deep (depth_of left) (depth_of right) e (some_depth left))
no_subtrees (t.either left right) e h = absurd (two_deep (depth_of left) (depth_of right) e (some_depth left))
no_subtrees (t.cd_hash hash) e h = refl
no_subtrees (t.negate inner) e h = absurd (two_deep (depth_of inner) 0 (one_more inner e) (some_depth inner))
no_subtrees (t.info_field key test) e h = refl
no_subtrees (t.trusted_cert slot) e h = refl
no_subtrees t.trusted_any e h = refl
no_subtrees (t.cert_oid slot oid test) e h = refl
no_subtrees t.apple_generic e h = refl
no_subtrees (t.entitlement_field key test) e h = refl
no_subtrees (t.cert_policy slot oid test) e h = refl
no_subtrees (t.named_anchor name) e h = refl
no_subtrees (t.named_code name) e h = refl
no_subtrees (t.platform number) e h = refl
no_subtrees t.notarized e h = refl
no_subtrees t.legacy_dev_id e h = refl
no_subtrees (t.skip_false op skipped) e h = refl
no_subtrees (t.skip_next op skipped inner) e h = absurd (two_deep (depth_of inner) 0 (one_more inner e) (some_depth inner))
no_subtrees (t.cert_field slot key test) e h = absurd (true≢false h)

pub plain_settled : (x : Tree) (o : Outcome) → depth_of x ≡ 1 → is_cert_field x ≡ false → o ≡ fine x 1 → Tells x o
plain_settled x o shallow is e = plain_tells x o shallow (no_subtrees x shallow is) e

-- a negation more
pub negated_step : (n m : ℕ) (o more last : Outcome) → n ≡ m + 1 → more ≡ negated o → negated_times n o ≡ last → negated_times m more ≡ last
negated_step n m o more last e is all =
    let same : suc m ≡ n = omega (arith, e) in ap (negated_times m) is ∙ ap (λ (k : ℕ). negated_times k o) same ∙ all
