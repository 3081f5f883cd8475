-- Words for kinds: a list that is read as a set has each once, and one that has the shape of a set, good keys
-- and each word once is read.
use Rattle.std.proofs.Common.{◌≡◌, ℕ, ℤ, ◌+◌, ◌≤◌, Bool, true, false, ◌&&◌, ◌==◌, ◌⊎◌, nat_eq, cond, if◌then◌else◌, List, [], ◌∷◌, ◌++◌, length, count_by, Option, Some, None, is_some, refl, sym, ap, subst, ◌∙◌, inl, inr, true≢false, append_assoc, append-nil, arith, length-append}
use Rattle.std.specs.List.{list_all}
use Rattle.std.proofs.lemmas.Bool.Decides.{Decides-eqb}
use Rattle.std.proofs.lemmas.List.Folds.{list_all-append}
use Rattle.req_tree.specs.declared.matching.Match.{Match}
use Rattle.req_tree.specs.Tree.{Tree}
use Rattle.req_tree.specs.TreeSet.{TreeSet, no_parts, part_of, with_part}
use Rattle.req_grammar.specs.Words as w
use Rattle.req_grammar.specs.Words.{Word}
use Rattle.req_grammar.specs.Terminals.{Terminal, sign, word, hash}
use Rattle.req_grammar.specs.Grammar as g
use Rattle.req_grammar.specs.Grammar.{KeyRule, IsCert, Slot, Test, Keyed, Primary, Expr, Term, Factor, KindWord, Parts}
use Rattle.req_grammar.specs.Readings.{AnyKey, CertTest, Collects, ReadsSet}
use Rattle.req_grammar.specs.ReadingFaults.{IsBadKey, IsCertKey, IsRepeated}
use Rattle.req_grammar.specs.Reader.{kind_of}
use Rattle.req_grammar.proofs.Balance.{count_first}
use Rattle.req_grammar.proofs.Balance.{count_joined as count_seam}
use Rattle.req_grammar.proofs.Sets.{kind_read}
use Rattle.req_grammar.proofs.KeyPlaces.{KeyIn, begins_bracket, behind_first, no_key, split_at}
use Rattle.req_grammar.proofs.GoodKeys.{AllGood, good_end, good_middle, expr_good}
use Rattle.req_grammar.proofs.NoBadKey.{NoneBad, begins_joined, expr_begins, expr_none_bad}

-- ---- words for kinds in an expression: there are none

abbrev pub is_other : Terminal → Bool
is_other (word k) = kind_of k == 0
is_other t = true

-- the terminal is the word for this kind
abbrev pub is_kind : ℕ → Terminal → Bool
is_kind n (word k) = kind_of k == n
is_kind n t = false

abbrev count_kind : ℕ → List Terminal → ℕ
count_kind n list = count_by (is_kind n) list

count_joined : (n : ℕ) (a b : List Terminal) → count_kind n (a ++ b) ≡ count_kind n a + count_kind n b
count_joined n a b = count_seam (is_kind n) a b

same : (a b : ℕ) → nat_eq a b ≡ true → a ≡ b
same a b e = (Decides-eqb a b).0 e

bool_parts : (a b : Bool) → (a && b) ≡ true → (a ≡ true) × (b ≡ true)
bool_parts true b e = (refl, e)
bool_parts false b e = absurd (true≢false (sym e))

not_kind : (n : ℕ) (t : Terminal) → 1 ≤ n → is_other t ≡ true → is_kind n t ≡ false
not_kind n (word k) some e = by (kind_of k == n) refl
  where
    by : (b : Bool) → (kind_of k == n) ≡ b → b ≡ false
    by false h = refl
    by true h =
        let zero_is : kind_of k ≡ 0 = same (kind_of k) 0 e in
        let n_is : kind_of k ≡ n = same (kind_of k) n h in
        absurd (omega (arith, some, zero_is, n_is))
not_kind n t some e = refl

-- a list without words for kinds has none of a kind
none_counted : (n : ℕ) (list : List Terminal) → 1 ≤ n → list_all is_other list ≡ true → count_kind n list ≡ 0
none_counted n [] some e = refl
none_counted n (t ∷ list) some e =
    let parts = bool_parts (is_other t) (list_all is_other list) e in
    let first : count_kind n (t ∷ list) ≡ 0 + count_kind n list = count_first (is_kind n) t list false (not_kind n t some parts.0) in
    let later : count_kind n list ≡ 0 = none_counted n list some parts.1 in
    omega (arith, first, later)

others_joined : (a b : List Terminal) → list_all is_other a ≡ true → list_all is_other b ≡ true → list_all is_other (a ++ b) ≡ true
others_joined a b x y = list_all-append is_other a b ∙ ap (λ (c : Bool). c && list_all is_other b) x ∙ y

slot_others : (a : List Terminal) (n : ℤ) → Slot a n → list_all is_other a ≡ true
slot_others a n g.leaf = refl
slot_others a n g.root = refl
slot_others a n (g.number b k (g.positive i small)) = refl
slot_others a n (g.number b k (g.negative i small)) = refl

keyed_others : (a : List Terminal) (key : List ℕ) (test : Match) → Keyed a key test → list_all is_other a ≡ true
keyed_others a key test (g.keyed k b s g.nothing) = refl
keyed_others a key test (g.keyed k b s g.exists) = refl
keyed_others a key test (g.keyed k b s g.absent) = refl
keyed_others a key test (g.keyed k b s (g.equal v)) = refl
keyed_others a key test (g.keyed k b s (g.begins v)) = refl
keyed_others a key test (g.keyed k b s (g.ends v)) = refl
keyed_others a key test (g.keyed k b s (g.contains v)) = refl
keyed_others a key test (g.keyed k b s (g.like v)) = refl
keyed_others a key test (g.keyed k b s (g.less v)) = refl
keyed_others a key test (g.keyed k b s (g.greater v)) = refl
keyed_others a key test (g.keyed k b s (g.less_equal v)) = refl
keyed_others a key test (g.keyed k b s (g.greater_equal v)) = refl

behind_cert : (c : Word) (a : List Terminal) → IsCert c → list_all is_other a ≡ true → list_all is_other (word c ∷ a) ≡ true
behind_cert c a g.long e = e
behind_cert c a g.short e = e

primary_others : (rule : KeyRule) (a : List Terminal) (x : Tree) → Primary rule a x → list_all is_other a ≡ true
primary_others rule a x g.always = refl
primary_others rule a x g.true = refl
primary_others rule a x g.never = refl
primary_others rule a x g.false = refl
primary_others rule a x (g.ident s) = refl
primary_others rule a x (g.ident_equal s) = refl
primary_others rule a x (g.cd_hash h) = refl
primary_others rule a x (g.platform b n (g.positive i small)) = refl
primary_others rule a x (g.platform b n (g.negative i small)) = refl
primary_others rule a x g.notarized = refl
primary_others rule a x g.legacy = refl
primary_others rule a x (g.named_code s) = refl
primary_others rule a x g.apple_anchor = refl
primary_others rule a x g.apple_generic = refl
primary_others rule a x (g.named_anchor s) = refl
primary_others rule a x g.trusted_any = refl
primary_others rule a x (g.anchor_hash h) = refl
primary_others rule a x (g.anchor_test b key test y is so) = keyed_others b key test is
primary_others rule a x (g.cert_hash c b slot h word_is is) =
    behind_cert c (b ++ sign w.equal ∷ hash h ∷ []) word_is (others_joined b (sign w.equal ∷ hash h ∷ []) (slot_others b slot is) refl)
primary_others rule a x (g.trusted_cert c b slot word_is is) = behind_cert c (b ++ word w.trusted ∷ []) word_is (others_joined b (word w.trusted ∷ []) (slot_others b slot is) refl)
primary_others rule a x (g.cert_test c b e slot key test y word_is is asked so) = behind_cert c (b ++ e) word_is (others_joined b e (slot_others b slot is) (keyed_others e key test asked))
primary_others rule a x (g.info b key test is) = keyed_others b key test is
primary_others rule a x (g.entitlement b key test is) = keyed_others b key test is

mutual
  expr_others : (rule : KeyRule) (a : List Terminal) (x : Tree) → Expr rule a x → list_all is_other a ≡ true
  expr_others rule a x (g.term b y h) = term_others rule _ _ h
  expr_others rule a x (g.or b c y z h i) = others_joined b (word w.or ∷ c) (expr_others rule _ _ h) (term_others rule _ _ i)

  term_others : (rule : KeyRule) (a : List Terminal) (x : Tree) → Term rule a x → list_all is_other a ≡ true
  term_others rule a x (g.factor b y h) = factor_others rule _ _ h
  term_others rule a x (g.and b c y z h i) = others_joined b (word w.and ∷ c) (term_others rule _ _ h) (factor_others rule _ _ i)

  factor_others : (rule : KeyRule) (a : List Terminal) (x : Tree) → Factor rule a x → list_all is_other a ≡ true
  factor_others rule a x (g.bang b y h) = factor_others rule _ _ h
  factor_others rule a x (g.paren b y h) = others_joined b (sign w.right_paren ∷ []) (expr_others rule _ _ h) refl
  factor_others rule a x (g.primary b y h) = primary_others rule _ _ h

-- ---- as many words for a kind as parts of it

abbrev count_parts : ℕ → List (ℕ × Tree) → ℕ
count_parts n parts = count_by (λ (part : ℕ × Tree). part.0 == n) parts

counted : (rule : KeyRule) (n : ℕ) (a : List Terminal) (parts : List (ℕ × Tree)) → 1 ≤ n → Parts rule a parts → count_kind n a ≡ count_parts n parts
counted rule n a parts some g.none = refl
counted rule n a parts some (g.part k m b c x others is h i) =
    let none : count_kind n b ≡ 0 = none_counted n b some (expr_others rule b x h) in
    let seam : count_kind n (b ++ c) ≡ count_kind n b + count_kind n c = count_joined n b c in
    let later : count_kind n c ≡ count_parts n others = counted rule n c others some i in
    let behind : count_kind n (sign w.arrow ∷ (b ++ c)) ≡ 0 + count_kind n (b ++ c) = count_first (is_kind n) (sign w.arrow) (b ++ c) false refl in
    let first : count_kind n (word k ∷ sign w.arrow ∷ (b ++ c)) ≡ (0 + cond (m == n) 1 0) + count_kind n (sign w.arrow ∷ (b ++ c)) =
    count_first (is_kind n) (word k) (sign w.arrow ∷ (b ++ c)) (m == n) (ap (λ (i : ℕ). i == n) (kind_read k m is)) in
    let whole : count_parts n ((m, x) ∷ others) ≡ (0 + cond (m == n) 1 0) + count_parts n others =
    count_first (λ (part : ℕ × Tree). part.0 == n) (m, x) others (m == n) refl in
    omega (arith, none, seam, later, behind, first, whole)

-- ---- a set has each kind once

-- the part of a kind, behind another part
part_behind : (j k : Word) (n m : ℕ) (x : Tree) (s : TreeSet) → KindWord j n → KindWord k m → part_of n (with_part m x s) ≡ (if m == n then Some x else part_of n s)
part_behind j k n m x s g.host g.host = refl
part_behind j k n m x s g.host g.guest = refl
part_behind j k n m x s g.host g.designated = refl
part_behind j k n m x s g.host g.library = refl
part_behind j k n m x s g.host g.plugin = refl
part_behind j k n m x s g.guest g.host = refl
part_behind j k n m x s g.guest g.guest = refl
part_behind j k n m x s g.guest g.designated = refl
part_behind j k n m x s g.guest g.library = refl
part_behind j k n m x s g.guest g.plugin = refl
part_behind j k n m x s g.designated g.host = refl
part_behind j k n m x s g.designated g.guest = refl
part_behind j k n m x s g.designated g.designated = refl
part_behind j k n m x s g.designated g.library = refl
part_behind j k n m x s g.designated g.plugin = refl
part_behind j k n m x s g.library g.host = refl
part_behind j k n m x s g.library g.guest = refl
part_behind j k n m x s g.library g.designated = refl
part_behind j k n m x s g.library g.library = refl
part_behind j k n m x s g.library g.plugin = refl
part_behind j k n m x s g.plugin g.host = refl
part_behind j k n m x s g.plugin g.guest = refl
part_behind j k n m x s g.plugin g.designated = refl
part_behind j k n m x s g.plugin g.library = refl
part_behind j k n m x s g.plugin g.plugin = refl

none_some : (x : Tree) (o : Option Tree) → o ≡ Some x → o ≡ None → ⊥
none_some x o e h = true≢false (sym (ap is_some e) ∙ ap is_some h)

-- how many parts of a kind go into a set: one at most, and none exactly where the set has none
record IsCounted (n : ℕ) (parts : List (ℕ × Tree)) (s : TreeSet) : Type 0 where
  most : count_parts n parts ≤ 1
  none : part_of n s ≡ None → count_parts n parts ≡ 0
  free : count_parts n parts ≡ 0 → part_of n s ≡ None

no_kind_of : (j : Word) (n : ℕ) → KindWord j n → part_of n no_parts ≡ None
no_kind_of j n g.host = refl
no_kind_of j n g.guest = refl
no_kind_of j n g.designated = refl
no_kind_of j n g.library = refl
no_kind_of j n g.plugin = refl

one_more : (j k : Word) (n m : ℕ) (x : Tree) (others : List (ℕ × Tree)) (s r : TreeSet) → KindWord j n → KindWord k m → part_of m s ≡ None → r ≡ with_part m x s
    → IsCounted n others s → IsCounted n ((m, x) ∷ others) r
one_more j k n m x others s r is named unused e h = by (m == n) refl
  where
    by : (b : Bool) → (m == n) ≡ b → IsCounted n ((m, x) ∷ others) r
    by true here =
        let part : part_of n r ≡ Some x = ap (part_of n) e ∙ part_behind j k n m x s is named ∙ ap (λ (c : Bool). if c then Some x else part_of n s) here in
        let later : count_parts n others ≡ 0 = h.none (subst (λ (i : ℕ). part_of i s ≡ None) (same m n here) unused) in
        let size : count_parts n ((m, x) ∷ others) ≡ 1 + count_parts n others = count_first (λ (part : ℕ × Tree). part.0 == n) (m, x) others true here in
        record {
          most = omega (arith, later, size);
          none = λ gone. absurd (none_some x (part_of n r) part gone);
          free = λ zero_is. absurd (omega (arith, zero_is, size));
        }
    by false there =
        let part : part_of n r ≡ part_of n s = ap (part_of n) e ∙ part_behind j k n m x s is named ∙ ap (λ (c : Bool). if c then Some x else part_of n s) there in
        let size : count_parts n ((m, x) ∷ others) ≡ 0 + count_parts n others = count_first (λ (part : ℕ × Tree). part.0 == n) (m, x) others false there in
        let few : count_parts n others ≤ 1 = h.most in
        record {
          most = omega (arith, few, size);
          none = λ gone. let later : count_parts n others ≡ 0 = h.none (sym part ∙ gone) in omega (arith, later, size);
          free = λ zero_is. part ∙ h.free (omega (arith, zero_is, size));
        }

collected : (rule : KeyRule) (j : Word) (n : ℕ) (a : List Terminal) (parts : List (ℕ × Tree)) (s : TreeSet) → KindWord j n → Parts rule a parts → Collects parts s → IsCounted n parts s
collected rule j n a parts s is g.none c = record {
  most = omega arith;
  none = λ gone. refl;
  free = λ zero_is. ap (part_of n) c ∙ no_kind_of j n is;
}
collected rule j n a parts s is (g.part k m b d x rest named h i) (others, c, unused, e) =
    one_more j k n m x rest others s is named unused e (collected rule j n d rest others is i c)

-- ---- a word that stands twice is counted twice

some_kind : (j : Word) (n : ℕ) → KindWord j n → 1 ≤ n
some_kind j n g.host = omega arith
some_kind j n g.guest = omega arith
some_kind j n g.designated = omega arith
some_kind j n g.library = omega arith
some_kind j n g.plugin = omega arith

is_its_kind : (j : Word) (n : ℕ) → KindWord j n → is_kind n (word j) ≡ true
is_its_kind j n g.host = refl
is_its_kind j n g.guest = refl
is_its_kind j n g.designated = refl
is_its_kind j n g.library = refl
is_its_kind j n g.plugin = refl

found : (j : Word) (n : ℕ) (list front rest : List Terminal) → KindWord j n → list ≡ front ++ word j ∷ rest → count_kind n list ≡ count_kind n front + (1 + count_kind n rest)
found j n list front rest is e =
    let one : count_kind n (word j ∷ rest) ≡ 1 + count_kind n rest = count_first (is_kind n) (word j) rest true (is_its_kind j n is) in
    ap (count_kind n) e ∙ count_joined n front (word j ∷ rest) ∙ ap (λ (i : ℕ). count_kind n front + i) one

twice : (list : List Terminal) (place : ℕ) (h : IsRepeated list place) → 2 ≤ count_kind h.earlier.kind list
twice list place h =
    let n : ℕ = h.earlier.kind in
    let whole : count_kind n list ≡ count_kind n h.front + (1 + count_kind n h.rest) = found h.kind_word n list h.front h.rest h.earlier.names h.parts in
    let front : count_kind n h.front ≡ count_kind n h.earlier.front + (1 + count_kind n h.earlier.rest) =
    found h.kind_word n h.front h.earlier.front h.earlier.rest h.earlier.names h.earlier.parts in
    omega (arith, whole, front)

pub set_no_repeat : (list : List Terminal) (s : TreeSet) (place : ℕ) → ReadsSet list s → IsRepeated list place → ⊥
set_no_repeat list s place (parts, h, c) r =
    let n : ℕ = r.earlier.kind in
    let some : 1 ≤ n = some_kind r.kind_word n r.earlier.names in
    let most : count_parts n parts ≤ 1 = (collected CertTest r.kind_word n list parts s r.earlier.names h c).most in
    let same_count : count_kind n list ≡ count_parts n parts = counted CertTest n list parts some h in
    let two : 2 ≤ count_kind n list = twice list place r in
    absurd (omega (arith, most, same_count, two))

-- ---- each word once and good keys: the list is read

abbrev pub NoRepeat : List Terminal → Type 0
NoRepeat list = (place : ℕ) → IsRepeated list place → ⊥

no_repeat_end : (l list : List Terminal) → NoRepeat (l ++ list) → NoRepeat list
no_repeat_end l list none place h =
    none (length l + place) (record {
      kind_word = h.kind_word;
      front = l ++ h.front;
      rest = h.rest;
      parts = ap (λ (m : List Terminal). l ++ m) h.parts ∙ sym (append_assoc l h.front (word h.kind_word ∷ h.rest));
      earlier = record {
        kind = h.earlier.kind;
        names = h.earlier.names;
        front = l ++ h.earlier.front;
        rest = h.earlier.rest;
        parts = ap (λ (m : List Terminal). l ++ m) h.earlier.parts ∙ sym (append_assoc l h.earlier.front (word h.kind_word ∷ h.earlier.rest));
      };
      place_is = omega (arith, h.place_is, length-append l h.front);
    })

-- the word of a kind
abbrev word_of : ℕ → Word
word_of n = if n == 1 then w.host else (if n == 2 then w.guest else (if n == 3 then w.designated else (if n == 4 then w.library else w.plugin)))

word_is : (j : Word) (n : ℕ) → KindWord j n → j ≡ word_of n
word_is j n g.host = refl
word_is j n g.guest = refl
word_is j n g.designated = refl
word_is j n g.library = refl
word_is j n g.plugin = refl

kind_same : (m : ℕ) (j k : Word) (n : ℕ) → KindWord j m → KindWord k n → m ≡ n → j ≡ k
kind_same m j k n is named e = word_is j m is ∙ ap word_of e ∙ sym (word_is k n named)

kind_named : (j k : Word) (n : ℕ) → KindWord k n → kind_of j ≡ n → j ≡ k
kind_named w.host k n is e = kind_same 1 w.host k n g.host is e
kind_named w.guest k n is e = kind_same 2 w.guest k n g.guest is e
kind_named w.designated k n is e = kind_same 3 w.designated k n g.designated is e
kind_named w.library k n is e = kind_same 4 w.library k n g.library is e
kind_named w.plugin k n is e = kind_same 5 w.plugin k n g.plugin is e
kind_named j k n is e = let some : 1 ≤ n = some_kind k n is in absurd (omega (arith, e, some))

-- a word for a kind is counted, or stands there
record Stands (k : Word) (list : List Terminal) : Type 0 where
  front : List Terminal
  rest : List Terminal
  parts : list ≡ front ++ word k ∷ rest

behind_word : (t : Terminal) (k : Word) (list : List Terminal) → Stands k list → Stands k (t ∷ list)
behind_word t k list h = record { front = t ∷ h.front; rest = h.rest; parts = ap (λ (l : List Terminal). t ∷ l) h.parts }

first_word : (t : Terminal) (k : Word) (n : ℕ) (list : List Terminal) → KindWord k n → is_kind n t ≡ true → Stands k (t ∷ list)
first_word (word j) k n list is e =
    record { front = []; rest = list; parts = ap (λ (i : Word). word i ∷ list) (kind_named j k n is (same (kind_of j) n e)) }
first_word t k n list is e = absurd (true≢false (sym e))

find : (k : Word) (n : ℕ) (list : List Terminal) → KindWord k n → (count_kind n list ≡ 0) ⊎ Stands k list
find k n [] is = inl refl
find k n (t ∷ list) is = by (find k n list is) (is_kind n t) refl
  where
    by : (count_kind n list ≡ 0) ⊎ Stands k list → (b : Bool) → is_kind n t ≡ b → (count_kind n (t ∷ list) ≡ 0) ⊎ Stands k (t ∷ list)
    by later true e = inr (first_word t k n list is e)
    by (inl none) false e = inl (let first : count_kind n (t ∷ list) ≡ 0 + count_kind n list = count_first (is_kind n) t list false e in omega (arith, first, none))
    by (inr h) false e = inr (behind_word t k list h)

-- the parts of a list without that word have none of its kind
unused : (k : Word) (n : ℕ) (a b : List Terminal) (parts : List (ℕ × Tree)) (s : TreeSet) → KindWord k n → NoRepeat (word k ∷ sign w.arrow ∷ (a ++ b)) → Parts CertTest b parts → Collects parts s
    → part_of n s ≡ None
unused k n a b parts s is none h c = by (find k n b is)
  where
    by : (count_kind n b ≡ 0) ⊎ Stands k b → part_of n s ≡ None
    by (inl e) = (collected CertTest k n b parts s is h c).free (sym (counted CertTest n b parts (some_kind k n is) h) ∙ e)
    by (inr stands) =
        absurd (none (length (word k ∷ sign w.arrow ∷ (a ++ stands.front))) (record {
          kind_word = k;
          front = word k ∷ sign w.arrow ∷ (a ++ stands.front);
          rest = stands.rest;
          parts = ap (λ (l : List Terminal). word k ∷ sign w.arrow ∷ (a ++ l)) stands.parts
              ∙ ap (λ (l : List Terminal). word k ∷ sign w.arrow ∷ l) (sym (append_assoc a stands.front (word k ∷ stands.rest)));
          earlier = record { kind = n; names = is; front = []; rest = sign w.arrow ∷ (a ++ stands.front); parts = refl };
          place_is = refl;
        }))

-- parts that are read, and their set
pub record PartsRead (list : List Terminal) : Type 0 where
  pub parts : List (ℕ × Tree)
  pub reads : Parts CertTest list parts
  pub set : TreeSet
  pub collects : Collects parts set

pub parts_good : (list : List Terminal) (parts : List (ℕ × Tree)) → Parts AnyKey list parts → AllGood list → NoRepeat list → PartsRead list
parts_good list parts g.none all none = record { parts = []; reads = g.none; set = no_parts; collects = refl }
parts_good list parts (g.part k n a b x others is h i) all none =
    let first = expr_good a x h (good_middle (word k ∷ sign w.arrow ∷ []) a b all) in
    let later = parts_good b others i (good_end (word k ∷ sign w.arrow ∷ a) b all) (no_repeat_end (word k ∷ sign w.arrow ∷ a) b none) in
    record {
      parts = (n, first.0) ∷ later.parts;
      reads = g.part k n a b first.0 later.parts is first.1 later.reads;
      set = with_part n first.0 later.set;
      collects = (later.set, later.collects, unused k n a b later.parts later.set is none later.reads later.collects, refl);
    }

pub set_good : (list : List Terminal) (parts : List (ℕ × Tree)) → Parts AnyKey list parts → AllGood list → NoRepeat list → (s : TreeSet) × ReadsSet list s
set_good list parts h all none = let read = parts_good list parts h all none in (read.set, (read.parts, read.reads, read.collects))

-- ---- no bad key in a set

-- a key in an expression and parts behind it is in the expression or in the parts
split_parts : (rule : KeyRule) (a b : List Terminal) (parts : List (ℕ × Tree)) (key : List ℕ) (place : ℕ) → Parts rule b parts → IsCertKey (a ++ b) place key → KeyIn a key ⊎ KeyIn b key
split_parts rule a b parts key place g.none h = inl (place, subst (λ (l : List Terminal). IsCertKey l place key) (append-nil a) h)
split_parts rule a b parts key place (g.part k n c d x others is e i) h =
    by (split_at a (sign w.arrow ∷ (c ++ d)) (word k) key place refl refl refl h)
  where
    by : KeyIn a key ⊎ KeyIn (sign w.arrow ∷ (c ++ d)) key → KeyIn a key ⊎ KeyIn (word k ∷ sign w.arrow ∷ (c ++ d)) key
    by (inl i) = inl i
    by (inr (p, i)) = inr (1 + p, behind_first (word k) (sign w.arrow ∷ (c ++ d)) p key i)

-- parts: the word, the arrow, and what stands behind them
behind_head : (k : Word) (b : List Terminal) (key : List ℕ) (place : ℕ) → begins_bracket b ≡ false → IsCertKey (word k ∷ sign w.arrow ∷ b) place key → KeyIn b key
behind_head k b key place begins h = by (split_at [] (sign w.arrow ∷ b) (word k) key place refl refl refl h)
  where
    second : KeyIn [] key ⊎ KeyIn b key → KeyIn b key
    second (inl (p, i)) = absurd (no_key [] key p refl i)
    second (inr i) = i

    by : KeyIn [] key ⊎ KeyIn (sign w.arrow ∷ b) key → KeyIn b key
    by (inl (p, i)) = absurd (no_key [] key p refl i)
    by (inr (p, i)) = second (split_at [] b (sign w.arrow) key p refl refl begins i)

parts_begin : (rule : KeyRule) (a : List Terminal) (parts : List (ℕ × Tree)) → Parts rule a parts → begins_bracket a ≡ false
parts_begin rule a parts g.none = refl
parts_begin rule a parts (g.part k n b c x others is h i) = refl

part_none_bad : (k : Word) (b c : List Terminal) (x : Tree) (others : List (ℕ × Tree)) (key : List ℕ) (place : ℕ) → Expr CertTest b x → Parts CertTest c others
    → NoneBad c → IsCertKey (word k ∷ sign w.arrow ∷ (b ++ c)) place key → IsBadKey key → ⊥
part_none_bad k b c x others key place e i later h bad =
    let inside = behind_head k (b ++ c) key place (begins_joined b c (expr_begins CertTest b x e) (parts_begin CertTest c others i)) h in
    by (split_parts CertTest b c others key inside.0 i inside.1)
  where
    by : KeyIn b key ⊎ KeyIn c key → ⊥
    by (inl (p, j)) = expr_none_bad b x e p key j bad
    by (inr (p, j)) = later p key j bad

pub parts_none_bad : (a : List Terminal) (parts : List (ℕ × Tree)) → Parts CertTest a parts → NoneBad a
parts_none_bad a parts g.none place key h bad = no_key [] key place refl h
parts_none_bad a parts (g.part k n b c x others is e i) place key h bad =
    part_none_bad k b c x others key place e i (parts_none_bad c others i) h bad
