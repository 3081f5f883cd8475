-- A list that is read with its keys as they stand is read where a rule says what each key stands for.
use Rattle.std.proofs.Common.{◌≡◌, Bool, true, not, ◌&&◌, List, [], length, Some, refl, sym, subst}
use Rattle.req_tree.specs.Tree as t
use Rattle.req_tree.specs.Tree.{Tree}
use Rattle.req_tree.specs.Spellable.{is_reserved}
use Rattle.req_grammar.specs.Terminals.{Terminal}
use Rattle.req_grammar.specs.Grammar as g
use Rattle.req_grammar.specs.Grammar.{KeyRule, Primary, Expr, Term, Factor}
use Rattle.req_grammar.specs.Readings.{AnyKey, CertTest, Reads, field}
use Rattle.req_grammar.specs.Reader.{expr_by, factor_at}
use Rattle.req_grammar.proofs.Readings.{Raw}
use Rattle.req_grammar.proofs.Cuts.{both_true, not_false}
use Rattle.req_grammar.proofs.Sound.{whole_sound}

primary_keyed : (rule : KeyRule) (a : List Terminal) (raw x : Tree) → Primary AnyKey a raw → Raw rule raw x → Primary rule a x
primary_keyed rule a raw x g.always h = subst (λ (y : Tree). Primary rule a y) (sym h) g.always
primary_keyed rule a raw x g.true h = subst (λ (y : Tree). Primary rule a y) (sym h) g.true
primary_keyed rule a raw x g.never h = subst (λ (y : Tree). Primary rule a y) (sym h) g.never
primary_keyed rule a raw x g.false h = subst (λ (y : Tree). Primary rule a y) (sym h) g.false
primary_keyed rule a raw x (g.ident s) h = subst (λ (y : Tree). Primary rule a y) (sym h) (g.ident s)
primary_keyed rule a raw x (g.ident_equal s) h = subst (λ (y : Tree). Primary rule a y) (sym h) (g.ident_equal s)
primary_keyed rule a raw x (g.cd_hash d) h = subst (λ (y : Tree). Primary rule a y) (sym h) (g.cd_hash d)
primary_keyed rule a raw x (g.platform b n is) h = subst (λ (y : Tree). Primary rule a y) (sym h) (g.platform b n is)
primary_keyed rule a raw x g.notarized h = subst (λ (y : Tree). Primary rule a y) (sym h) g.notarized
primary_keyed rule a raw x g.legacy h = subst (λ (y : Tree). Primary rule a y) (sym h) g.legacy
primary_keyed rule a raw x (g.named_code s) h = subst (λ (y : Tree). Primary rule a y) (sym h) (g.named_code s)
primary_keyed rule a raw x g.apple_anchor h = subst (λ (y : Tree). Primary rule a y) (sym h) g.apple_anchor
primary_keyed rule a raw x g.apple_generic h = subst (λ (y : Tree). Primary rule a y) (sym h) g.apple_generic
primary_keyed rule a raw x (g.named_anchor s) h = subst (λ (y : Tree). Primary rule a y) (sym h) (g.named_anchor s)
primary_keyed rule a raw x g.trusted_any h = subst (λ (y : Tree). Primary rule a y) (sym h) g.trusted_any
primary_keyed rule a raw x (g.anchor_hash d) h = subst (λ (y : Tree). Primary rule a y) (sym h) (g.anchor_hash d)
primary_keyed rule a raw x (g.anchor_test b key test y is so) h = g.anchor_test b key test x is (subst (λ (z : Tree). Raw rule z x) so h)
primary_keyed rule a raw x (g.cert_hash c b slot d word_is is) h = subst (λ (y : Tree). Primary rule a y) (sym h) (g.cert_hash c b slot d word_is is)
primary_keyed rule a raw x (g.trusted_cert c b slot word_is is) h = subst (λ (y : Tree). Primary rule a y) (sym h) (g.trusted_cert c b slot word_is is)
primary_keyed rule a raw x (g.cert_test c b e slot key test y word_is is asked so) h = g.cert_test c b e slot key test x word_is is asked (subst (λ (z : Tree). Raw rule z x) so h)
primary_keyed rule a raw x (g.info b key test is) h = subst (λ (y : Tree). Primary rule a y) (sym h) (g.info b key test is)
primary_keyed rule a raw x (g.entitlement b key test is) h = subst (λ (y : Tree). Primary rule a y) (sym h) (g.entitlement b key test is)

mutual
  pub expr_keyed : (rule : KeyRule) (a : List Terminal) (raw x : Tree) → Expr AnyKey a raw → Raw rule raw x → Expr rule a x
  expr_keyed rule a raw x (g.term b y h) k = g.term _ _ (term_keyed rule _ _ x h k)
  expr_keyed rule a raw x (g.or b c y z h i) (p, q, l, r, e) =
      subst (λ (v : Tree). Expr rule a v) (sym e) (g.or b c p q (expr_keyed rule _ _ p h l) (term_keyed rule _ _ q i r))

  term_keyed : (rule : KeyRule) (a : List Terminal) (raw x : Tree) → Term AnyKey a raw → Raw rule raw x → Term rule a x
  term_keyed rule a raw x (g.factor b y h) k = g.factor _ _ (factor_keyed rule _ _ x h k)
  term_keyed rule a raw x (g.and b c y z h i) (p, q, l, r, e) =
      subst (λ (v : Tree). Term rule a v) (sym e) (g.and b c p q (term_keyed rule _ _ p h l) (factor_keyed rule _ _ q i r))

  factor_keyed : (rule : KeyRule) (a : List Terminal) (raw x : Tree) → Factor AnyKey a raw → Raw rule raw x → Factor rule a x
  factor_keyed rule a raw x (g.bang b y h) (p, i, e) = subst (λ (v : Tree). Factor rule a v) (sym e) (g.bang b p (factor_keyed rule _ _ p h i))
  factor_keyed rule a raw x (g.paren b y h) k = g.paren b x (expr_keyed rule _ _ x h k)
  factor_keyed rule a raw x (g.primary b y h) k = g.primary _ _ (primary_keyed rule _ _ x h k)

-- no key of a certificate's test begins as those that stand for other tests
abbrev pub is_free : Tree → Bool
is_free (t.both x y) = is_free x && is_free y
is_free (t.either x y) = is_free x && is_free y
is_free (t.negate x) = is_free x
is_free (t.cert_field slot key test) = not (is_reserved key)
is_free x = true

-- then each stands for itself
pub free : (raw : Tree) → is_free raw ≡ true → Raw CertTest raw raw
free (t.both x y) e = let p = both_true (is_free x) (is_free y) e in (x, y, free x p.0, free y p.1, refl)
free (t.either x y) e = let p = both_true (is_free x) (is_free y) e in (x, y, free x p.0, free y p.1, refl)
free (t.negate x) e = (x, free x e, refl)
free (t.cert_field slot key test) e = field (not_false (is_reserved key) e)
free x e = refl

-- a list that the reader reads whole, with its keys
pub read : (a : List Terminal) (raw x : Tree) → expr_by (length a) (factor_at (length a)) a ≡ Some (raw, []) → Raw CertTest raw x → Reads a x
read a raw x e h = expr_keyed CertTest a raw x (whole_sound a raw e) h

-- and one whose keys stand for themselves
pub read_free : (a : List Terminal) (x : Tree) → expr_by (length a) (factor_at (length a)) a ≡ Some (x, []) → is_free x ≡ true → Reads a x
read_free a x e h = read a x x e (free x h)
