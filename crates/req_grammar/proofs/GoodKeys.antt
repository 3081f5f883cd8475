-- A list that has a shape, and in which each key of a certificate's test stands for a test, is read.
use Rattle.std.proofs.Common.{ℕ, ℤ, negsuc, ◌+◌, List, [], ◌∷◌, ◌++◌, length, refl, sym, subst, append_assoc, append-nil}
use Rattle.req_tree.specs.declared.matching.Match.{Match}
use Rattle.req_tree.specs.Tree as t
use Rattle.req_tree.specs.Tree.{Tree}
use Rattle.req_grammar.specs.Words as w
use Rattle.req_grammar.specs.Words.{Word}
use Rattle.req_grammar.specs.Terminals.{Terminal, sign, word, int}
use Rattle.req_grammar.specs.Grammar as g
use Rattle.req_grammar.specs.Grammar.{Slot, Keyed, Primary, Expr, Term, Factor}
use Rattle.req_grammar.specs.Readings.{AnyKey, CertTest, Reads}
use Rattle.req_grammar.specs.ReadingFaults.{IsCertKey, StandsForTest}
use Rattle.req_grammar.proofs.KeyPlaces.{in_middle}

-- each key of a certificate's test stands for one
abbrev pub AllGood : List Terminal → Type 0
AllGood list = (place : ℕ) (key : List ℕ) → IsCertKey list place key → StandsForTest key

pub good_middle : (l mid r : List Terminal) → AllGood ((l ++ mid) ++ r) → AllGood mid
good_middle l mid r all place key h = all (length l + place) key (in_middle l mid r place key h)

pub good_end : (l mid : List Terminal) → AllGood (l ++ mid) → AllGood mid
good_end l mid all = good_middle l mid [] (subst AllGood (sym (append-nil (l ++ mid))) all)

pub good_left : (a r : List Terminal) → AllGood (a ++ r) → AllGood a
good_left a r all = good_middle [] a r all

good_right : (a b : List Terminal) (op : Terminal) → AllGood (a ++ op ∷ b) → AllGood b
good_right a b op all = good_end (a ++ op ∷ []) b (subst AllGood (sym (append_assoc a (op ∷ []) b)) all)

anchor_key : (a : List Terminal) (key : List ℕ) (test : Match) → Keyed a key test → IsCertKey (word w.anchor ∷ a) 2 key
anchor_key a key test (g.keyed k b s asked) =
    record { front = []; before = word w.anchor; rest = sign w.right_bracket ∷ b; parts = refl; certificate = refl; place_is = refl }

-- the place of a key behind a slot
record SlotKey (list : List Terminal) (key : List ℕ) : Type 0 where
  place : ℕ
  stands : IsCertKey list place key

cert_key : (c : Word) (a b : List Terminal) (slot : ℤ) (key : List ℕ) (test : Match) → Slot a slot → Keyed b key test → SlotKey (word c ∷ (a ++ b)) key
cert_key c a b slot key test g.leaf (g.keyed k d s asked) = record {
  place = 3;
  stands = record { front = word c ∷ []; before = word w.leaf; rest = sign w.right_bracket ∷ d; parts = refl; certificate = refl; place_is = refl };
}
cert_key c a b slot key test g.root (g.keyed k d s asked) = record {
  place = 3;
  stands = record { front = word c ∷ []; before = word w.root; rest = sign w.right_bracket ∷ d; parts = refl; certificate = refl; place_is = refl };
}
cert_key c a b slot key test (g.number e i (g.positive n small)) (g.keyed k d s asked) = record {
  place = 3;
  stands = record { front = word c ∷ []; before = int n; rest = sign w.right_bracket ∷ d; parts = refl; certificate = refl; place_is = refl };
}
cert_key c a b slot key test (g.number e i (g.negative n small)) (g.keyed k d s asked) = record {
  place = 4;
  stands = record { front = word c ∷ sign w.dash ∷ []; before = int n; rest = sign w.right_bracket ∷ d; parts = refl; certificate = refl; place_is = refl };
}

primary_good : (a : List Terminal) (x : Tree) → Primary AnyKey a x → AllGood a → (y : Tree) × Primary CertTest a y
primary_good a x g.always all = (_, g.always)
primary_good a x g.true all = (_, g.true)
primary_good a x g.never all = (_, g.never)
primary_good a x g.false all = (_, g.false)
primary_good a x (g.ident s) all = (_, g.ident s)
primary_good a x (g.ident_equal s) all = (_, g.ident_equal s)
primary_good a x (g.cd_hash h) all = (_, g.cd_hash h)
primary_good a x (g.platform b n is) all = (_, g.platform b n is)
primary_good a x g.notarized all = (_, g.notarized)
primary_good a x g.legacy all = (_, g.legacy)
primary_good a x (g.named_code s) all = (_, g.named_code s)
primary_good a x g.apple_anchor all = (_, g.apple_anchor)
primary_good a x g.apple_generic all = (_, g.apple_generic)
primary_good a x (g.named_anchor s) all = (_, g.named_anchor s)
primary_good a x g.trusted_any all = (_, g.trusted_any)
primary_good a x (g.anchor_hash h) all = (_, g.anchor_hash h)
primary_good a x (g.anchor_test b key test y is so) all =
    let made = all 2 key (anchor_key b key test is) (negsuc 0) test in
    (made.0, g.anchor_test b key test made.0 is made.1)
primary_good a x (g.cert_hash c b slot h word_is is) all = (_, g.cert_hash c b slot h word_is is)
primary_good a x (g.trusted_cert c b slot word_is is) all = (_, g.trusted_cert c b slot word_is is)
primary_good a x (g.cert_test c b e slot key test y word_is is asked so) all =
    let k = cert_key c b e slot key test is asked in
    let made = all k.place key k.stands slot test in
    (made.0, g.cert_test c b e slot key test made.0 word_is is asked made.1)
primary_good a x (g.info b key test is) all = (_, g.info b key test is)
primary_good a x (g.entitlement b key test is) all = (_, g.entitlement b key test is)

mutual
  pub expr_good : (a : List Terminal) (x : Tree) → Expr AnyKey a x → AllGood a → (y : Tree) × Reads a y
  expr_good a x (g.term b y h) all = let s = term_good _ _ h all in (s.0, g.term _ _ s.1)
  expr_good a x (g.or b c y z h i) all =
      let s = expr_good _ _ h (good_left b (word w.or ∷ c) all) in
      let r = term_good _ _ i (good_right b c (word w.or) all) in
      (t.either s.0 r.0, g.or b c _ _ s.1 r.1)

  term_good : (a : List Terminal) (x : Tree) → Term AnyKey a x → AllGood a → (y : Tree) × Term CertTest a y
  term_good a x (g.factor b y h) all = let s = factor_good _ _ h all in (s.0, g.factor _ _ s.1)
  term_good a x (g.and b c y z h i) all =
      let s = term_good _ _ h (good_left b (word w.and ∷ c) all) in
      let r = factor_good _ _ i (good_right b c (word w.and) all) in
      (t.both s.0 r.0, g.and b c _ _ s.1 r.1)

  factor_good : (a : List Terminal) (x : Tree) → Factor AnyKey a x → AllGood a → (y : Tree) × Factor CertTest a y
  factor_good a x (g.bang b y h) all = let s = factor_good _ _ h (good_end (sign w.bang ∷ []) b all) in (t.negate s.0, g.bang b _ s.1)
  factor_good a x (g.paren b y h) all =
      let s = expr_good _ _ h (good_middle (sign w.left_paren ∷ []) b (sign w.right_paren ∷ []) all) in (s.0, g.paren b _ s.1)
  factor_good a x (g.primary b y h) all = let s = primary_good _ _ h all in (s.0, g.primary _ _ s.1)
