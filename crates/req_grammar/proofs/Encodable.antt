-- The tree of a requirement's text can be written as a blob, and so can each tree of a set's text.
use Rattle.std.proofs.Common.{ℕ, ℤ, Bool, true, false, ◌==◌, if◌then◌else◌, List, Option, Some, None, sym, subst}
use Rattle.std.specs.Prelude.{IfSome}
use Rattle.req_tree.specs.declared.matching.Match.{Match}
use Rattle.req_tree.specs.Tree.{Tree}
use Rattle.req_tree.specs.TreeSet.{TreeSet, no_parts, part_of, with_part, IsEncodableSet}
use Rattle.req_tree.specs.Spellable.{CanSpell, IsShallow, IsEncodable}
use Rattle.req_grammar.specs.Words.{Word}
use Rattle.req_grammar.specs.Terminals.{Terminal}
use Rattle.req_grammar.specs.Grammar as g
use Rattle.req_grammar.specs.Grammar.{Primary, Expr, Term, Factor, KindWord, Parts}
use Rattle.req_grammar.specs.Readings.{CertTest, Collects, IsRequirementText, IsSetText, extension, policy, field}

test_spelt : (slot : ℤ) (key : List ℕ) (test : Match) (x : Tree) → CertTest slot key test x → CanSpell x
test_spelt slot key test x (extension oid text e i) = tt
test_spelt slot key test x (policy oid text e i) = tt
test_spelt slot key test x (field free) = free

primary_spelt : (a : List Terminal) (x : Tree) → Primary CertTest a x → CanSpell x
primary_spelt a x g.always = tt
primary_spelt a x g.true = tt
primary_spelt a x g.never = tt
primary_spelt a x g.false = tt
primary_spelt a x (g.ident s) = tt
primary_spelt a x (g.ident_equal s) = tt
primary_spelt a x (g.cd_hash h) = tt
primary_spelt a x (g.platform b n is) = tt
primary_spelt a x g.notarized = tt
primary_spelt a x g.legacy = tt
primary_spelt a x (g.named_code s) = tt
primary_spelt a x g.apple_anchor = tt
primary_spelt a x g.apple_generic = tt
primary_spelt a x (g.named_anchor s) = tt
primary_spelt a x g.trusted_any = tt
primary_spelt a x (g.anchor_hash h) = tt
primary_spelt a x (g.anchor_test b key test y is so) = test_spelt _ key test y so
primary_spelt a x (g.cert_hash c b slot h word_is is) = tt
primary_spelt a x (g.trusted_cert c b slot word_is is) = tt
primary_spelt a x (g.cert_test c b e slot key test y word_is is asked so) = test_spelt slot key test y so
primary_spelt a x (g.info b key test is) = tt
primary_spelt a x (g.entitlement b key test is) = tt

mutual
  expr_spelt : (a : List Terminal) (x : Tree) → Expr CertTest a x → CanSpell x
  expr_spelt a x (g.term b y h) = term_spelt _ _ h
  expr_spelt a x (g.or b c y z h i) = (expr_spelt _ _ h, term_spelt _ _ i)

  term_spelt : (a : List Terminal) (x : Tree) → Term CertTest a x → CanSpell x
  term_spelt a x (g.factor b y h) = factor_spelt _ _ h
  term_spelt a x (g.and b c y z h i) = (term_spelt _ _ h, factor_spelt _ _ i)

  factor_spelt : (a : List Terminal) (x : Tree) → Factor CertTest a x → CanSpell x
  factor_spelt a x (g.bang b y h) = factor_spelt _ _ h
  factor_spelt a x (g.paren b y h) = expr_spelt _ _ h
  factor_spelt a x (g.primary b y h) = primary_spelt _ _ h

pub text_encodable : (text : List ℕ) (x : Tree) → IsRequirementText text x → IsEncodable x
text_encodable text x h = record { shallow = h.shallow; spellable = expr_spelt _ x h.reads }

-- ---- sets

abbrev Spelt : Option Tree → Type 0
Spelt o = IfSome o CanSpell

either_way : (b : Bool) (x y : Option Tree) → Spelt x → Spelt y → Spelt (if b then x else y)
either_way true x y h i = h
either_way false x y h i = i

-- each part, by its kind, where the five are known
part_spelt : (kind : ℕ) (s : TreeSet) → Spelt s.host → Spelt s.guest → Spelt s.designated → Spelt s.library → Spelt s.plugin → Spelt (part_of kind s)
part_spelt kind s a b c d e =
    either_way (kind == 1) _ _ a (either_way (kind == 2) _ _ b (either_way (kind == 3) _ _ c (either_way (kind == 4) _ _ d (either_way (kind == 5) _ _ e tt))))

with_spelt : (k : Word) (n : ℕ) (x : Tree) (s : TreeSet) → KindWord k n → CanSpell x → ((kind : ℕ) → Spelt (part_of kind s)) → (kind : ℕ) → Spelt (part_of kind (with_part n x s))
with_spelt k n x s g.host h others kind = part_spelt kind (with_part 1 x s) h (others 2) (others 3) (others 4) (others 5)
with_spelt k n x s g.guest h others kind = part_spelt kind (with_part 2 x s) (others 1) h (others 3) (others 4) (others 5)
with_spelt k n x s g.designated h others kind = part_spelt kind (with_part 3 x s) (others 1) (others 2) h (others 4) (others 5)
with_spelt k n x s g.library h others kind = part_spelt kind (with_part 4 x s) (others 1) (others 2) (others 3) h (others 5)
with_spelt k n x s g.plugin h others kind = part_spelt kind (with_part 5 x s) (others 1) (others 2) (others 3) (others 4) h

parts_spelt : (a : List Terminal) (parts : List (ℕ × Tree)) (s : TreeSet) → Parts CertTest a parts → Collects parts s → (kind : ℕ) → Spelt (part_of kind s)
parts_spelt a parts s g.none c kind =
    subst (λ (r : TreeSet). Spelt (part_of kind r)) (sym c) (part_spelt kind no_parts tt tt tt tt tt)
parts_spelt a parts s (g.part k n b d x rest is h i) (others, c, free, e) kind =
    subst (λ (r : TreeSet). Spelt (part_of kind r)) (sym e) (with_spelt k n x others is (expr_spelt _ x h) (parts_spelt _ rest others i c) kind)

both_ways : (o : Option Tree) → IfSome o IsShallow → Spelt o → IfSome o IsEncodable
both_ways None low spelt = tt
both_ways (Some x) low spelt = record { shallow = low; spellable = spelt }

pub set_encodable : (text : List ℕ) (s : TreeSet) → IsSetText text s → IsEncodableSet s
set_encodable text s h =
    record { parts = λ kind. both_ways (part_of kind s) (h.shallow kind) (parts_spelt _ h.reads.0 s h.reads.1 h.reads.2 kind) }
