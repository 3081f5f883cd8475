-- Readings, and readings in which each key of a certificate's test stands as it is.
use Rattle.std.proofs.Common.{◌≡◌, negsuc, List, ◌∷◌, ◌++◌, refl, sym, subst}
use Rattle.req_tree.specs.Tree as t
use Rattle.req_tree.specs.Tree.{Tree}
use Rattle.req_grammar.specs.Words as w
use Rattle.req_grammar.specs.Terminals.{Terminal, sign, word}
use Rattle.req_grammar.specs.Grammar as g
use Rattle.req_grammar.specs.Grammar.{Primary, Expr, Term, Factor}
use Rattle.req_grammar.specs.Readings.{AnyKey, CertTest}
use Rattle.req_primary.specs.Keys.{StandsFor}
use Rattle.req_primary.specs.Laws.{IsPlainReading}

-- a primary, a factor, a term or an expression with plain keys, and what it stands for
record Plainly (R : List Terminal → Tree → Type 0) (a : List Terminal) (x : Tree) : Type 0 where
  plain : Tree
  reads : R a plain
  stands : StandsFor plain x

plainly : (R : List Terminal → Tree → Type 0) (a : List Terminal) (plain x : Tree) → R a plain → StandsFor plain x → Plainly R a x
plainly R a plain x reads stands = record { plain = plain; reads = reads; stands = stands }

abbrev AnyPrimary : List Terminal → Tree → Type 0
AnyPrimary a x = Primary AnyKey a x

abbrev AnyFactor : List Terminal → Tree → Type 0
AnyFactor a x = Factor AnyKey a x

abbrev AnyTerm : List Terminal → Tree → Type 0
AnyTerm a x = Term AnyKey a x

abbrev AnyExpr : List Terminal → Tree → Type 0
AnyExpr a x = Expr AnyKey a x

primary_plain : (a : List Terminal) (x : Tree) → Primary CertTest a x → Plainly AnyPrimary a x
primary_plain a x g.always = plainly AnyPrimary a t.always x g.always refl
primary_plain a x g.true = plainly AnyPrimary a t.always x g.true refl
primary_plain a x g.never = plainly AnyPrimary a t.never x g.never refl
primary_plain a x g.false = plainly AnyPrimary a t.never x g.false refl
primary_plain a x (g.ident s) = plainly AnyPrimary a (t.ident s) x (g.ident s) refl
primary_plain a x (g.ident_equal s) = plainly AnyPrimary a (t.ident s) x (g.ident_equal s) refl
primary_plain a x (g.cd_hash h) = plainly AnyPrimary a (t.cd_hash h) x (g.cd_hash h) refl
primary_plain a x (g.platform b n is) = plainly AnyPrimary a (t.platform n) x (g.platform b n is) refl
primary_plain a x g.notarized = plainly AnyPrimary a t.notarized x g.notarized refl
primary_plain a x g.legacy = plainly AnyPrimary a t.legacy_dev_id x g.legacy refl
primary_plain a x (g.named_code s) = plainly AnyPrimary a (t.named_code s) x (g.named_code s) refl
primary_plain a x g.apple_anchor = plainly AnyPrimary a t.apple_anchor x g.apple_anchor refl
primary_plain a x g.apple_generic = plainly AnyPrimary a t.apple_generic x g.apple_generic refl
primary_plain a x (g.named_anchor s) = plainly AnyPrimary a (t.named_anchor s) x (g.named_anchor s) refl
primary_plain a x g.trusted_any = plainly AnyPrimary a t.trusted_any x g.trusted_any refl
primary_plain a x (g.anchor_hash h) = plainly AnyPrimary a (t.anchor_hash (negsuc 0) h) x (g.anchor_hash h) refl
primary_plain a x (g.anchor_test b key test y is so) = plainly AnyPrimary _ (t.cert_field (negsuc 0) key test) y (g.anchor_test b key test _ is refl) so
primary_plain a x (g.cert_hash c b slot h word_is is) = plainly AnyPrimary _ (t.anchor_hash slot h) _ (g.cert_hash c b slot h word_is is) refl
primary_plain a x (g.trusted_cert c b slot word_is is) = plainly AnyPrimary _ (t.trusted_cert slot) _ (g.trusted_cert c b slot word_is is) refl
primary_plain a x (g.cert_test c b e slot key test y word_is is asked so) =
    plainly AnyPrimary _ (t.cert_field slot key test) y (g.cert_test c b e slot key test _ word_is is asked refl) so
primary_plain a x (g.info b key test is) = plainly AnyPrimary _ (t.info_field key test) _ (g.info b key test is) refl
primary_plain a x (g.entitlement b key test is) = plainly AnyPrimary _ (t.entitlement_field key test) _ (g.entitlement b key test is) refl

mutual
  expr_plain : (a : List Terminal) (x : Tree) → Expr CertTest a x → Plainly AnyExpr a x
  expr_plain a x (g.term b y h) = let f : Plainly AnyTerm b y = term_plain b y h in plainly AnyExpr b f.plain y (g.term b f.plain f.reads) f.stands
  expr_plain a x (g.or b c y z h i) =
      let f : Plainly AnyExpr b y = expr_plain b y h in
      let k : Plainly AnyTerm c z = term_plain c z i in
      plainly AnyExpr _ (t.either f.plain k.plain) _ (g.or b c f.plain k.plain f.reads k.reads) (y, z, f.stands, k.stands, refl)

  term_plain : (a : List Terminal) (x : Tree) → Term CertTest a x → Plainly AnyTerm a x
  term_plain a x (g.factor b y h) = let f : Plainly AnyFactor b y = factor_plain b y h in plainly AnyTerm b f.plain y (g.factor b f.plain f.reads) f.stands
  term_plain a x (g.and b c y z h i) =
      let f : Plainly AnyTerm b y = term_plain b y h in
      let k : Plainly AnyFactor c z = factor_plain c z i in
      plainly AnyTerm _ (t.both f.plain k.plain) _ (g.and b c f.plain k.plain f.reads k.reads) (y, z, f.stands, k.stands, refl)

  factor_plain : (a : List Terminal) (x : Tree) → Factor CertTest a x → Plainly AnyFactor a x
  factor_plain a x (g.bang b y h) =
      let f : Plainly AnyFactor b y = factor_plain b y h in plainly AnyFactor _ (t.negate f.plain) _ (g.bang b f.plain f.reads) (y, f.stands, refl)
  factor_plain a x (g.paren b y h) = let f : Plainly AnyExpr b y = expr_plain b y h in plainly AnyFactor _ f.plain y (g.paren b f.plain f.reads) f.stands
  factor_plain a x (g.primary b y h) = let f : Plainly AnyPrimary b y = primary_plain b y h in plainly AnyFactor b f.plain y (g.primary b f.plain f.reads) f.stands

pub plain_one : (a : List Terminal) (x : Tree) → Expr CertTest a x → IsPlainReading a x
plain_one a x h = let f : Plainly AnyExpr a x = expr_plain a x h in record { plain = f.plain; reads = f.reads; stands = f.stands }

-- the tree may be written otherwise
primary_as : (a : List Terminal) (x y : Tree) → x ≡ y → Primary CertTest a y → Primary CertTest a x
primary_as a x y same h = subst (λ (z : Tree). Primary CertTest a z) (sym same) h

primary_stands : (a : List Terminal) (plain x : Tree) → Primary AnyKey a plain → StandsFor plain x → Primary CertTest a x
primary_stands a plain x g.always e = primary_as _ _ _ e g.always
primary_stands a plain x g.true e = primary_as _ _ _ e g.true
primary_stands a plain x g.never e = primary_as _ _ _ e g.never
primary_stands a plain x g.false e = primary_as _ _ _ e g.false
primary_stands a plain x (g.ident s) e = primary_as _ _ _ e (g.ident s)
primary_stands a plain x (g.ident_equal s) e = primary_as _ _ _ e (g.ident_equal s)
primary_stands a plain x (g.cd_hash h) e = primary_as _ _ _ e (g.cd_hash h)
primary_stands a plain x (g.platform b n is) e = primary_as _ _ _ e (g.platform b n is)
primary_stands a plain x g.notarized e = primary_as _ _ _ e g.notarized
primary_stands a plain x g.legacy e = primary_as _ _ _ e g.legacy
primary_stands a plain x (g.named_code s) e = primary_as _ _ _ e (g.named_code s)
primary_stands a plain x g.apple_anchor e = primary_as _ _ _ e g.apple_anchor
primary_stands a plain x g.apple_generic e = primary_as _ _ _ e g.apple_generic
primary_stands a plain x (g.named_anchor s) e = primary_as _ _ _ e (g.named_anchor s)
primary_stands a plain x g.trusted_any e = primary_as _ _ _ e g.trusted_any
primary_stands a plain x (g.anchor_hash h) e = primary_as _ _ _ e (g.anchor_hash h)
primary_stands a plain x (g.anchor_test b key test y is so) e = g.anchor_test b key test x is (subst (λ (z : Tree). StandsFor z x) so e)
primary_stands a plain x (g.cert_hash c b slot h word_is is) e = primary_as _ _ _ e (g.cert_hash c b slot h word_is is)
primary_stands a plain x (g.trusted_cert c b slot word_is is) e = primary_as _ _ _ e (g.trusted_cert c b slot word_is is)
primary_stands a plain x (g.cert_test c b f slot key test y word_is is asked so) e = g.cert_test c b f slot key test x word_is is asked (subst (λ (z : Tree). StandsFor z x) so e)
primary_stands a plain x (g.info b key test is) e = primary_as _ _ _ e (g.info b key test is)
primary_stands a plain x (g.entitlement b key test is) e = primary_as _ _ _ e (g.entitlement b key test is)

mutual
  pub expr_stands : (a : List Terminal) (plain x : Tree) → Expr AnyKey a plain → StandsFor plain x → Expr CertTest a x
  expr_stands a plain x (g.term b y h) s = g.term b x (term_stands b y x h s)
  expr_stands a plain x (g.or b c y z h i) (u, v, l, r, e) =
      subst (λ (whole : Tree). Expr CertTest (b ++ word w.or ∷ c) whole) (sym e) (g.or b c u v (expr_stands b y u h l) (term_stands c z v i r))

  term_stands : (a : List Terminal) (plain x : Tree) → Term AnyKey a plain → StandsFor plain x → Term CertTest a x
  term_stands a plain x (g.factor b y h) s = g.factor b x (factor_stands b y x h s)
  term_stands a plain x (g.and b c y z h i) (u, v, l, r, e) =
      subst (λ (whole : Tree). Term CertTest (b ++ word w.and ∷ c) whole) (sym e) (g.and b c u v (term_stands b y u h l) (factor_stands c z v i r))

  factor_stands : (a : List Terminal) (plain x : Tree) → Factor AnyKey a plain → StandsFor plain x → Factor CertTest a x
  factor_stands a plain x (g.bang b y h) (u, l, e) =
      subst (λ (whole : Tree). Factor CertTest (sign w.bang ∷ b) whole) (sym e) (g.bang b u (factor_stands b y u h l))
  factor_stands a plain x (g.paren b y h) s = g.paren b x (expr_stands b y x h s)
  factor_stands a plain x (g.primary b y h) s = g.primary b x (primary_stands b y x h s)
