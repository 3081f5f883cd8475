-- What is read as an operand stands in the grammar, every key of a certificate's test taken.
use Rattle.std.proofs.Common.{◌≡◌, ℕ, ℤ, pos, negsuc, neg_ℤ, ◌^◌, nat_lt, nat_le, Bool, true, false, cond, List, [], ◌∷◌, ◌++◌, Result, Ok, Err, refl, sym, ap, subst, ◌∙◌, append_assoc, true≢false}
use Rattle.std.proofs.lemmas.Bool.{ltb-true, leb-true}
use Rattle.req_tree.specs.declared.matching.Match.{Match}
use Rattle.req_tree.specs.declared.matching.Match.TheVariants as m
use Rattle.req_tree.specs.Tree as t
use Rattle.req_tree.specs.Tree.{Tree}
use Rattle.req_tree.specs.Depth.{depth_of}
use Rattle.req_grammar.specs.Words as w
use Rattle.req_grammar.specs.Words.{Word, Sign}
use Rattle.req_grammar.specs.Terminals.{Terminal, sign, word, str, hash, int}
use Rattle.req_grammar.specs.Grammar as g
use Rattle.req_grammar.specs.Grammar.{Number, Slot, Test, Keyed, IsCert, Primary}
use Rattle.req_grammar.specs.Readings.{AnyKey}
use Rattle.req_primary.specs.declared.fault.ReadingFault.{ReadingFault}
use Rattle.req_primary.specs.Steps.{Reading, ◌>>=◌, refused, first_at, sign_at, left_bracket_at, right_bracket_at, equal_at, text_at, hash_at, star_at}
use Rattle.req_primary.specs.Tests.{negative_at, number_at, slot_at, starred, begins_at, ends_at, value_at, compared, compared_at, test_at}
use Rattle.req_primary.specs.Primaries.{key_at, info_at, entitlement_at, cert_key_at, behind_equal, ident_at, cd_hash_at, platform_at, anchor_hash_at, slotted_at, cert_at, apple_at, anchor_at, primary_at}
use Rattle.req_primary.specs.Laws.{IsOperand}

-- what was read is a front of the list, and the rest is left
pub record Front {A : Type 0} (R : List Terminal → A → Type 0) (here : List Terminal) (p : A × List Terminal) : Type 0 where
  pub front : List Terminal
  pub parts : here ≡ front ++ p.1
  pub is : R front p.0

abbrev is_fine : {A : Type 0} → Result A ReadingFault → Bool
is_fine (Ok x) = true
is_fine (Err fault) = false

pub err_ok : {A : Type 0} (fault : ReadingFault) (p : A) → ◌≡◌ {A = Result A ReadingFault} (Err fault) (Ok p) → ⊥
err_ok fault p e = true≢false (sym (ap is_fine e))

abbrev from : {A : Type 0} → A → Result A ReadingFault → A
from x (Ok y) = y
from x (Err fault) = x

pub ok_is : {A : Type 0} (x y : A) → ◌≡◌ {A = Result A ReadingFault} (Ok x) (Ok y) → x ≡ y
ok_is x y e = ap (from x) e

pub found : {A : Type 0} (R : List Terminal → A → Type 0) (here front : List Terminal) (v : A) (rest : List Terminal) (p : A × List Terminal)
    → here ≡ front ++ rest → R front v → ◌≡◌ {A = Reading A} (Ok (v, rest)) (Ok p) → Front R here p
found R here front v rest p parts is e = subst (λ q. Front R here q) (ok_is (v, rest) p e) (record { front = front; parts = parts; is = is })

pub bind_ok : {A B : Type 0} (o : Result A ReadingFault) (f : A → Result B ReadingFault) (p : B) → (o >>= f) ≡ Ok p → (q : A) × (o ≡ Ok q) × (f q ≡ Ok p)
bind_ok (Ok q) f p e = (q, refl, e)
bind_ok (Err fault) f p e = absurd (err_ok fault p e)

abbrev read : {A : Type 0} → A → List Terminal → Reading A
read x rest = Ok (x, rest)

number_sound : (size : ℕ) (here : List Terminal) (p : ℤ × List Terminal) → number_at size here ≡ Ok p → Front Number here p
unfolding number_at negative_at first_at
number_sound size (int n ∷ rest) p e = by (nat_lt n (2 ^ 31)) refl e
  where
    by : (b : Bool) → nat_lt n (2 ^ 31) ≡ b → cond b (read (pos n) rest) (refused size (int n ∷ rest)) ≡ Ok p → Front Number (int n ∷ rest) p
    by true small h = found Number (int n ∷ rest) (int n ∷ []) (pos n) rest p refl (g.positive n (ltb-true n (2 ^ 31) small)) h
    by false large h = absurd (err_ok _ p h)
number_sound size (sign w.dash ∷ int n ∷ rest) p e = by (nat_le n (2 ^ 31)) refl e
  where
    by : (b : Bool) → nat_le n (2 ^ 31) ≡ b → cond b (read (neg_ℤ (pos n)) rest) (refused size (int n ∷ rest)) ≡ Ok p → Front Number (sign w.dash ∷ int n ∷ rest) p
    by true small h = found Number (sign w.dash ∷ int n ∷ rest) (sign w.dash ∷ int n ∷ []) (neg_ℤ (pos n)) rest p refl (g.negative n (leb-true n (2 ^ 31) small)) h
    by false large h = absurd (err_ok _ p h)
number_sound size here p e = absurd (err_ok _ p e)

as_slot : (here : List Terminal) (p : ℤ × List Terminal) → Front Number here p → Front Slot here p
as_slot here p f = record { front = f.front; parts = f.parts; is = g.number f.front p.0 f.is }

slot_sound : (size : ℕ) (here : List Terminal) (p : ℤ × List Terminal) → slot_at size here ≡ Ok p → Front Slot here p
unfolding slot_at number_at first_at
slot_sound size (word w.leaf ∷ rest) p e = found Slot _ (word w.leaf ∷ []) (pos 0) rest p refl g.leaf e
slot_sound size (word w.root ∷ rest) p e = found Slot _ (word w.root ∷ []) (negsuc 0) rest p refl g.root e
slot_sound size here p e = as_slot here p (number_sound size here p e)

starred_sound : (here front rest : List Terminal) (with without : Match) (p : Match × List Terminal) → here ≡ front ++ rest
    → Test (front ++ sign w.star ∷ []) with → Test front without → ◌≡◌ {A = Reading Match} (Ok (starred with without rest (star_at rest))) (Ok p) → Front Test here p
unfolding star_at
starred_sound here front (sign w.star ∷ rest) with without p parts a b e =
    found Test here (front ++ sign w.star ∷ []) with rest p (parts ∙ sym (append_assoc front (sign w.star ∷ []) rest)) a e
starred_sound here front rest with without p parts a b e = found Test here front without rest p parts b e

value_sound : (size : ℕ) (here : List Terminal) (p : Match × List Terminal) → value_at size here ≡ Ok p → Front Test (sign w.equal ∷ here) p
unfolding value_at begins_at ends_at text_at first_at star_at
value_sound size (str s ∷ rest) p e = starred_sound _ (sign w.equal ∷ str s ∷ []) rest (m.Begins s) (m.Equal s) p refl (g.begins s) (g.equal s) e
value_sound size (sign w.star ∷ str s ∷ rest) p e = starred_sound _ (sign w.equal ∷ sign w.star ∷ str s ∷ []) rest (m.Contains s) (m.Ends s) p refl (g.contains s) (g.ends s) e
value_sound size here p e = absurd (err_ok _ p e)

compared_sound : (size : ℕ) (c : Sign) → ((s : List ℕ) → Test (sign c ∷ str s ∷ []) (compared c s)) → (here : List Terminal) (p : Match × List Terminal)
    → compared_at size c here ≡ Ok p → Front Test (sign c ∷ here) p
unfolding compared_at text_at first_at
compared_sound size c is (str s ∷ rest) p e = found Test _ (sign c ∷ str s ∷ []) (compared c s) rest p refl (is s) e
compared_sound size c is here p e = absurd (err_ok _ p e)

test_sound : (size : ℕ) (here : List Terminal) (p : Match × List Terminal) → test_at size here ≡ Ok p → Front Test here p
unfolding test_at
test_sound size (word w.exists ∷ rest) p e = found Test _ (word w.exists ∷ []) m.Exists rest p refl g.exists e
test_sound size (word w.absent ∷ rest) p e = found Test _ (word w.absent ∷ []) m.Absent rest p refl g.absent e
test_sound size (sign w.equal ∷ rest) p e = value_sound size rest p e
test_sound size (sign w.tilde ∷ rest) p e = compared_sound size w.tilde g.like rest p e
test_sound size (sign w.less ∷ rest) p e = compared_sound size w.less g.less rest p e
test_sound size (sign w.greater ∷ rest) p e = compared_sound size w.greater g.greater rest p e
test_sound size (sign w.less_equal ∷ rest) p e = compared_sound size w.less_equal g.less_equal rest p e
test_sound size (sign w.greater_equal ∷ rest) p e = compared_sound size w.greater_equal g.greater_equal rest p e
test_sound size here p e = found Test here [] m.Exists here p refl g.nothing e

-- a key and a test that some tree is made of
abbrev Keys : (List ℕ → Match → Tree) → List Terminal → Tree → Type 0
Keys make a x = (key : List ℕ) × (test : Match) × Keyed a key test × (x ≡ make key test)

-- a key in brackets, and a test of which a tree is made
abbrev keyed_by : ℕ → (List ℕ → Match → Tree) → List Terminal → Reading Tree
keyed_by size make here = key_at size here >>= λ (key : List ℕ × List Terminal). test_at size key.1 >>= λ (test : Match × List Terminal). Ok (make key.0 test.0, test.1)

keyed_sound : (size : ℕ) (make : List ℕ → Match → Tree) (here : List Terminal) (p : Tree × List Terminal) → keyed_by size make here ≡ Ok p → Front (Keys make) here p
unfolding key_at left_bracket_at right_bracket_at text_at sign_at first_at
keyed_sound size make (sign w.left_bracket ∷ str key ∷ sign w.right_bracket ∷ rest) p e =
    let q = bind_ok (test_at size rest) (λ (test : Match × List Terminal). read (make key test.0) test.1) p e in
    let f : Front Test rest q.0 = test_sound size rest q.0 q.1 in
    found (Keys make) _ (sign w.left_bracket ∷ str key ∷ sign w.right_bracket ∷ f.front) (make key q.0.0) q.0.1 p
    (ap (λ (l : List Terminal). sign w.left_bracket ∷ str key ∷ sign w.right_bracket ∷ l) f.parts) (key, q.0.0, g.keyed key f.front q.0.0 f.is, refl) q.2
keyed_sound size make here p e = absurd (err_ok _ p e)

-- a word and what stands behind it are an operand
abbrev After : Word → List Terminal → Tree → Type 0
After c a x = Primary AnyKey (word c ∷ a) x

by_key : (c : Word) (make : List ℕ → Match → Tree) → ((a : List Terminal) (key : List ℕ) (test : Match) → Keyed a key test → After c a (make key test))
    → (here : List Terminal) (p : Tree × List Terminal) → Front (Keys make) here p → Front (After c) here p
by_key c make is here p f = record {
  front = f.front;
  parts = f.parts;
  is = subst (λ (x : Tree). After c f.front x) (sym f.is.3) (is f.front f.is.0 f.is.1 f.is.2);
}

info_sound : (size : ℕ) (here : List Terminal) (p : Tree × List Terminal) → info_at size here ≡ Ok p → Front (After w.info) here p
unfolding info_at
info_sound size here p e = by_key w.info t.info_field (λ a key test is. g.info a key test is) here p (keyed_sound size t.info_field here p e)

entitlement_sound : (size : ℕ) (here : List Terminal) (p : Tree × List Terminal) → entitlement_at size here ≡ Ok p → Front (After w.entitlement) here p
unfolding entitlement_at
entitlement_sound size here p e = by_key w.entitlement t.entitlement_field (λ a key test is. g.entitlement a key test is) here p (keyed_sound size t.entitlement_field here p e)

cert_key_sound : (size : ℕ) (slot : ℤ) (here : List Terminal) (p : Tree × List Terminal) → cert_key_at size slot here ≡ Ok p → Front (Keys (t.cert_field slot)) here p
unfolding cert_key_at
cert_key_sound size slot here p e = keyed_sound size (t.cert_field slot) here p e

ident_sound : (size : ℕ) (here : List Terminal) (p : Tree × List Terminal) → ident_at size here ≡ Ok p → Front (After w.identifier) here p
unfolding ident_at behind_equal text_at first_at
ident_sound size (str s ∷ rest) p e = found (After w.identifier) _ (str s ∷ []) (t.ident s) rest p refl (g.ident s) e
ident_sound size (sign w.equal ∷ str s ∷ rest) p e = found (After w.identifier) _ (sign w.equal ∷ str s ∷ []) (t.ident s) rest p refl (g.ident_equal s) e
ident_sound size here p e = absurd (err_ok _ p e)

cd_hash_sound : (size : ℕ) (here : List Terminal) (p : Tree × List Terminal) → cd_hash_at size here ≡ Ok p → Front (After w.cdhash) here p
unfolding cd_hash_at hash_at first_at
cd_hash_sound size (hash h ∷ rest) p e = found (After w.cdhash) _ (hash h ∷ []) (t.cd_hash h) rest p refl (g.cd_hash h) e
cd_hash_sound size here p e = absurd (err_ok _ p e)

platform_sound : (size : ℕ) (here : List Terminal) (p : Tree × List Terminal) → platform_at size here ≡ Ok p → Front (After w.platform) here p
unfolding platform_at equal_at sign_at first_at
platform_sound size (sign w.equal ∷ rest) p e =
    let q = bind_ok (number_at size rest) (λ (n : ℤ × List Terminal). read (t.platform n.0) n.1) p e in
    let f : Front Number rest q.0 = number_sound size rest q.0 q.1 in
    found (After w.platform) _ (sign w.equal ∷ f.front) (t.platform q.0.0) q.0.1 p (ap (λ (l : List Terminal). sign w.equal ∷ l) f.parts)
    (g.platform f.front q.0.0 f.is) q.2
platform_sound size here p e = absurd (err_ok _ p e)

apple_sound : (here : List Terminal) (p : Tree × List Terminal) → apple_at here ≡ Ok p → Front (After w.anchor) (word w.apple ∷ here) p
unfolding apple_at
apple_sound (word w.generic ∷ rest) p e = found (After w.anchor) _ (word w.apple ∷ word w.generic ∷ []) t.apple_generic rest p refl g.apple_generic e
apple_sound (str s ∷ rest) p e = found (After w.anchor) _ (word w.apple ∷ str s ∷ []) (t.named_anchor s) rest p refl (g.named_anchor s) e
apple_sound here p e = found (After w.anchor) _ (word w.apple ∷ []) t.apple_anchor here p refl g.apple_anchor e

-- a hash and the tree that is made of it
abbrev Hashes : (List ℕ → Tree) → List Terminal → Tree → Type 0
Hashes make a x = (h : List ℕ) × (a ≡ hash h ∷ []) × (x ≡ make h)

hash_sound : (size : ℕ) (slot : ℤ) (here : List Terminal) (p : Tree × List Terminal) → anchor_hash_at size slot here ≡ Ok p → Front (Hashes (t.anchor_hash slot)) here p
unfolding anchor_hash_at hash_at first_at
hash_sound size slot (hash h ∷ rest) p e = found (Hashes (t.anchor_hash slot)) _ (hash h ∷ []) (t.anchor_hash slot h) rest p refl (h, refl, refl) e
hash_sound size slot here p e = absurd (err_ok _ p e)

-- what stands behind a slot
abbrev Slotted : ℤ → List Terminal → Tree → Type 0
Slotted slot b x = (c : Word) (a : List Terminal) → IsCert c → Slot a slot → Primary AnyKey (word c ∷ a ++ b) x

-- a hash behind an equals sign
after_equal : (R : List Terminal → Tree → Type 0) (slot : ℤ) → ((h : List ℕ) → R (sign w.equal ∷ hash h ∷ []) (t.anchor_hash slot h))
    → (rest : List Terminal) (p : Tree × List Terminal) → Front (Hashes (t.anchor_hash slot)) rest p → Front R (sign w.equal ∷ rest) p
after_equal R slot is rest p f = record {
  front = sign w.equal ∷ f.front;
  parts = ap (λ (l : List Terminal). sign w.equal ∷ l) f.parts;
  is = subst (λ (x : Tree). R (sign w.equal ∷ f.front) x) (sym f.is.2) (subst (λ (a : List Terminal). R (sign w.equal ∷ a) (t.anchor_hash slot f.is.0)) (sym f.is.1) (is f.is.0));
}

anchor_sound : (size : ℕ) (here : List Terminal) (p : Tree × List Terminal) → anchor_at size here ≡ Ok p → Front (After w.anchor) here p
unfolding anchor_at first_at
anchor_sound size (word w.apple ∷ rest) p e = apple_sound rest p e
anchor_sound size (word w.trusted ∷ rest) p e = found (After w.anchor) _ (word w.trusted ∷ []) t.trusted_any rest p refl g.trusted_any e
anchor_sound size (word other ∷ rest) p e = absurd (err_ok _ p e)
anchor_sound size (sign w.equal ∷ rest) p e = after_equal (After w.anchor) (negsuc 0) (λ h. g.anchor_hash h) rest p (hash_sound size (negsuc 0) rest p e)
anchor_sound size (sign other ∷ rest) p e =
    by_key w.anchor (t.cert_field (negsuc 0)) (λ a key test is. g.anchor_test a key test _ is refl) (sign other ∷ rest) p (cert_key_sound size (negsuc 0) (sign other ∷ rest) p e)
anchor_sound size here p e = absurd (err_ok _ p e)

slotted_sound : (size : ℕ) (slot : ℤ) (here : List Terminal) (p : Tree × List Terminal) → slotted_at size slot here ≡ Ok p → Front (Slotted slot) here p
unfolding slotted_at first_at
slotted_sound size slot (word w.trusted ∷ rest) p e =
    found (Slotted slot) _ (word w.trusted ∷ []) (t.trusted_cert slot) rest p refl (λ c a is at. g.trusted_cert c a slot is at) e
slotted_sound size slot (word other ∷ rest) p e = absurd (err_ok _ p e)
slotted_sound size slot (sign w.equal ∷ rest) p e =
    after_equal (Slotted slot) slot (λ h c a is at. g.cert_hash c a slot h is at) rest p (hash_sound size slot rest p e)
slotted_sound size slot (sign other ∷ rest) p e =
    let f : Front (Keys (t.cert_field slot)) (sign other ∷ rest) p = cert_key_sound size slot (sign other ∷ rest) p e in
    record { front = f.front; parts = f.parts; is = λ c a is at. g.cert_test c a f.front slot f.is.0 f.is.1 p.0 is at f.is.2 f.is.3 }
slotted_sound size slot here p e = absurd (err_ok _ p e)

cert_sound : (size : ℕ) (c : Word) → IsCert c → (here : List Terminal) (p : Tree × List Terminal) → cert_at size here ≡ Ok p → Front (After c) here p
unfolding cert_at
cert_sound size c is here p e =
    let q = bind_ok (slot_at size here) (λ (x : ℤ × List Terminal). slotted_at size x.0 x.1) p e in
    let f : Front Slot here q.0 = slot_sound size here q.0 q.1 in
    let h : Front (Slotted q.0.0) q.0.1 p = slotted_sound size q.0.0 q.0.1 p q.2 in
    record {
      front = f.front ++ h.front;
      parts = f.parts ∙ ap (λ (l : List Terminal). f.front ++ l) h.parts ∙ sym (append_assoc f.front h.front p.1);
      is = h.is c f.front is f.is;
    }

primary_sound : (size : ℕ) (c : Word) (here rest : List Terminal) (p : Tree × List Terminal) → primary_at size c here rest ≡ Ok p → Front (After c) rest p
unfolding primary_at
primary_sound size w.always here rest p e = found (After w.always) rest [] t.always rest p refl g.always e
primary_sound size w.true here rest p e = found (After w.true) rest [] t.always rest p refl g.true e
primary_sound size w.never here rest p e = found (After w.never) rest [] t.never rest p refl g.never e
primary_sound size w.false here rest p e = found (After w.false) rest [] t.never rest p refl g.false e
primary_sound size w.identifier here rest p e = ident_sound size rest p e
primary_sound size w.cdhash here rest p e = cd_hash_sound size rest p e
primary_sound size w.platform here rest p e = platform_sound size rest p e
primary_sound size w.notarized here rest p e = found (After w.notarized) rest [] t.notarized rest p refl g.notarized e
primary_sound size w.legacy here rest p e = found (After w.legacy) rest [] t.legacy_dev_id rest p refl g.legacy e
primary_sound size w.anchor here rest p e = anchor_sound size rest p e
primary_sound size w.certificate here rest p e = cert_sound size w.certificate g.long rest p e
primary_sound size w.cert here rest p e = cert_sound size w.cert g.short rest p e
primary_sound size w.info here rest p e = info_sound size rest p e
primary_sound size w.entitlement here rest p e = entitlement_sound size rest p e
primary_sound size other here rest p e = absurd (err_ok _ p e)

-- an operand has no subtrees
pub primary_depth : (a : List Terminal) (x : Tree) → Primary AnyKey a x → depth_of x ≡ 1
primary_depth a x g.always = refl
primary_depth a x g.true = refl
primary_depth a x g.never = refl
primary_depth a x g.false = refl
primary_depth a x (g.ident s) = refl
primary_depth a x (g.ident_equal s) = refl
primary_depth a x (g.cd_hash h) = refl
primary_depth a x (g.platform b n is) = refl
primary_depth a x g.notarized = refl
primary_depth a x g.legacy = refl
primary_depth a x (g.named_code s) = refl
primary_depth a x g.apple_anchor = refl
primary_depth a x g.apple_generic = refl
primary_depth a x (g.named_anchor s) = refl
primary_depth a x g.trusted_any = refl
primary_depth a x (g.anchor_hash h) = refl
primary_depth a x (g.anchor_test b key test y is so) = ap depth_of so
primary_depth a x (g.cert_hash c b slot h word_is is) = refl
primary_depth a x (g.trusted_cert c b slot word_is is) = refl
primary_depth a x (g.cert_test c b e slot key test y word_is is asked so) = ap depth_of so
primary_depth a x (g.info b key test is) = refl
primary_depth a x (g.entitlement b key test is) = refl

pub operand_sound : (size : ℕ) (c : Word) (here rest left : List Terminal) (x : Tree) → primary_at size c here rest ≡ Ok (x, left) → IsOperand c rest left x
operand_sound size c here rest left x e =
    let f : Front (After c) rest (x, left) = primary_sound size c here rest (x, left) e in
    record { front = f.front; parts = f.parts; is = f.is; plain = primary_depth (word c ∷ f.front) x f.is }
