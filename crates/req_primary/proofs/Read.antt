-- What the grammar has as an operand is read, each key of a certificate's test taken as a field's.
use Rattle.std.proofs.Common.{◌≡◌, ℕ, ℤ, pos, negsuc, neg_ℤ, ◌^◌, Bool, cond, List, [], ◌∷◌, ◌++◌, Option, None, Ok, refl, sym, ap, ◌∙◌, append_assoc}
use Rattle.std.proofs.lemmas.Bool.{lt-ltb, le-leb}
use Rattle.req_tree.specs.declared.matching.Match.{Match}
use Rattle.req_tree.specs.declared.matching.Match.TheVariants as m
use Rattle.req_tree.specs.Tree as t
use Rattle.req_tree.specs.Tree.{Tree}
use Rattle.req_grammar.specs.Words as w
use Rattle.req_grammar.specs.Words.{Word}
use Rattle.req_grammar.specs.Terminals.{Terminal, sign, word, str, hash, int}
use Rattle.req_grammar.specs.Grammar as g
use Rattle.req_grammar.specs.Grammar.{Number, Slot, Test, Keyed, IsCert, Primary}
use Rattle.req_grammar.specs.Readings.{AnyKey}
use Rattle.req_primary.specs.Steps.{Reading, ◌>>=◌, refused, first_at, sign_at, left_bracket_at, right_bracket_at, equal_at, text_at, hash_at, star_at}
use Rattle.req_primary.specs.Tests.{negative_at, number_at, slot_at, starred, begins_at, ends_at, value_at, compared_at, test_at}
use Rattle.req_primary.specs.Primaries.{key_at, info_at, entitlement_at, cert_key_at, behind_equal, ident_at, cd_hash_at, platform_at, anchor_hash_at, slotted_at, cert_at, apple_at, anchor_at, primary_at}
use Rattle.req_primary.specs.Laws.{Stops, end, close, and, or, kind, IsReadSo, named, worded}

abbrev read : {A : Type 0} → A → List Terminal → Reading A
read x rest = Ok (x, rest)

test_stops : (size : ℕ) (rest : List Terminal) → Stops rest → test_at size rest ≡ read m.Exists rest
unfolding test_at
test_stops size rest end = refl
test_stops size rest (close more) = refl
test_stops size rest (and more) = refl
test_stops size rest (or more) = refl
test_stops size rest (kind k n more g.host) = refl
test_stops size rest (kind k n more g.guest) = refl
test_stops size rest (kind k n more g.designated) = refl
test_stops size rest (kind k n more g.library) = refl
test_stops size rest (kind k n more g.plugin) = refl

no_star : (rest : List Terminal) → Stops rest → star_at rest ≡ None
unfolding star_at
no_star rest end = refl
no_star rest (close more) = refl
no_star rest (and more) = refl
no_star rest (or more) = refl
no_star rest (kind k n more g.host) = refl
no_star rest (kind k n more g.guest) = refl
no_star rest (kind k n more g.designated) = refl
no_star rest (kind k n more g.library) = refl
no_star rest (kind k n more g.plugin) = refl

apple_stops : (rest : List Terminal) → Stops rest → apple_at rest ≡ read t.apple_anchor rest
unfolding apple_at
apple_stops rest end = refl
apple_stops rest (close more) = refl
apple_stops rest (and more) = refl
apple_stops rest (or more) = refl
apple_stops rest (kind k n more g.host) = refl
apple_stops rest (kind k n more g.guest) = refl
apple_stops rest (kind k n more g.designated) = refl
apple_stops rest (kind k n more g.library) = refl
apple_stops rest (kind k n more g.plugin) = refl

number_read : (size : ℕ) (a : List Terminal) (n : ℤ) → Number a n → (rest : List Terminal) → number_at size (a ++ rest) ≡ read n rest
unfolding number_at negative_at first_at
number_read size a n (g.positive k small) rest = ap (λ (b : Bool). cond b (read (pos k) rest) (refused size (a ++ rest))) (lt-ltb k (2 ^ 31) small)
number_read size a n (g.negative k small) rest = ap (λ (b : Bool). cond b (read (neg_ℤ (pos k)) rest) (refused size (int k ∷ rest))) (le-leb k (2 ^ 31) small)

slot_number : (size : ℕ) (a : List Terminal) (n : ℤ) → Number a n → (rest : List Terminal) → slot_at size (a ++ rest) ≡ number_at size (a ++ rest)
unfolding slot_at first_at
slot_number size a n (g.positive k small) rest = refl
slot_number size a n (g.negative k small) rest = refl

slot_read : (size : ℕ) (a : List Terminal) (n : ℤ) → Slot a n → (rest : List Terminal) → slot_at size (a ++ rest) ≡ read n rest
unfolding slot_at first_at
slot_read size a n g.leaf rest = refl
slot_read size a n g.root rest = refl
slot_read size a n (g.number b k is) rest = slot_number size _ _ is rest ∙ number_read size _ _ is rest

equal_read : (size : ℕ) (s : List ℕ) (rest : List Terminal) → Stops rest → test_at size (sign w.equal ∷ str s ∷ rest) ≡ read (m.Equal s) rest
unfolding test_at value_at begins_at text_at first_at star_at
equal_read size s rest stops = ap (λ (o : Option (List Terminal)). let x : Reading Match = Ok (starred (m.Begins s) (m.Equal s) rest o) in x) (no_star rest stops)

ends_read : (size : ℕ) (s : List ℕ) (rest : List Terminal) → Stops rest → test_at size (sign w.equal ∷ sign w.star ∷ str s ∷ rest) ≡ read (m.Ends s) rest
unfolding test_at value_at ends_at text_at first_at star_at
ends_read size s rest stops = ap (λ (o : Option (List Terminal)). let x : Reading Match = Ok (starred (m.Contains s) (m.Ends s) rest o) in x) (no_star rest stops)

test_read : (size : ℕ) (a : List Terminal) (test : Match) → Test a test → (rest : List Terminal) → Stops rest → test_at size (a ++ rest) ≡ read test rest
unfolding test_at value_at begins_at ends_at compared_at text_at first_at star_at
test_read size a test g.nothing rest stops = test_stops size rest stops
test_read size a test g.exists rest stops = refl
test_read size a test g.absent rest stops = refl
test_read size a test (g.equal s) rest stops = equal_read size s rest stops
test_read size a test (g.begins s) rest stops = refl
test_read size a test (g.ends s) rest stops = ends_read size s rest stops
test_read size a test (g.contains s) rest stops = refl
test_read size a test (g.like s) rest stops = refl
test_read size a test (g.less s) rest stops = refl
test_read size a test (g.greater s) rest stops = refl
test_read size a test (g.less_equal s) rest stops = refl
test_read size a test (g.greater_equal s) rest stops = refl

-- a reading goes on with a test
abbrev with_test : (Match → Tree) → Reading Match → Reading Tree
with_test make test = test >>= λ (x : Match × List Terminal). Ok (make x.0, x.1)

cert_key_read : (size : ℕ) (slot : ℤ) (a : List Terminal) (key : List ℕ) (test : Match) → Keyed a key test → (rest : List Terminal) → Stops rest
    → cert_key_at size slot (a ++ rest) ≡ read (t.cert_field slot key test) rest
unfolding cert_key_at key_at left_bracket_at right_bracket_at text_at sign_at first_at
cert_key_read size slot a key test (g.keyed k b s asked) rest stops = ap (with_test (t.cert_field slot k)) (test_read size b s asked rest stops)

info_read : (size : ℕ) (a : List Terminal) (key : List ℕ) (test : Match) → Keyed a key test → (rest : List Terminal) → Stops rest
    → info_at size (a ++ rest) ≡ read (t.info_field key test) rest
unfolding info_at key_at left_bracket_at right_bracket_at text_at sign_at first_at
info_read size a key test (g.keyed k b s asked) rest stops = ap (with_test (t.info_field k)) (test_read size b s asked rest stops)

entitlement_read : (size : ℕ) (a : List Terminal) (key : List ℕ) (test : Match) → Keyed a key test → (rest : List Terminal) → Stops rest
    → entitlement_at size (a ++ rest) ≡ read (t.entitlement_field key test) rest
unfolding entitlement_at key_at left_bracket_at right_bracket_at text_at sign_at first_at
entitlement_read size a key test (g.keyed k b s asked) rest stops = ap (with_test (t.entitlement_field k)) (test_read size b s asked rest stops)

slotted_read : (size : ℕ) (slot : ℤ) (a : List Terminal) (key : List ℕ) (test : Match) → Keyed a key test → (rest : List Terminal) → Stops rest
    → slotted_at size slot (a ++ rest) ≡ read (t.cert_field slot key test) rest
unfolding slotted_at first_at
slotted_read size slot a key test (g.keyed k b s asked) rest stops = cert_key_read size slot _ _ _ (g.keyed k b s asked) rest stops

anchor_keyed : (size : ℕ) (a : List Terminal) (key : List ℕ) (test : Match) → Keyed a key test → (rest : List Terminal) → Stops rest
    → anchor_at size (a ++ rest) ≡ read (t.cert_field (negsuc 0) key test) rest
unfolding anchor_at first_at
anchor_keyed size a key test (g.keyed k b s asked) rest stops = cert_key_read size (negsuc 0) _ _ _ (g.keyed k b s asked) rest stops

behind_slot : (size : ℕ) (a b : List Terminal) (slot : ℤ) (rest : List Terminal) (x : Tree) → Slot a slot → slotted_at size slot (b ++ rest) ≡ read x rest
    → cert_at size ((a ++ b) ++ rest) ≡ read x rest
unfolding cert_at
behind_slot size a b slot rest x is e =
    ap (λ (here : List Terminal). slot_at size here >>= λ (p : ℤ × List Terminal). slotted_at size p.0 p.1) (append_assoc a b rest)
    ∙ ap (λ (slots : Reading ℤ). slots >>= λ (p : ℤ × List Terminal). slotted_at size p.0 p.1) (slot_read size a slot is (b ++ rest)) ∙ e

cert_by : (c : Word) (a b : List Terminal) (slot : ℤ) (x : Tree) → IsCert c → Slot a slot
    → ((size : ℕ) (rest : List Terminal) → Stops rest → slotted_at size slot (b ++ rest) ≡ read x rest) → IsReadSo (word c ∷ (a ++ b)) x
unfolding primary_at
cert_by c a b slot x g.long is reads = worded w.certificate (a ++ b) x (λ size here rest stops. behind_slot size a b slot rest x is (reads size rest stops))
cert_by c a b slot x g.short is reads = worded w.cert (a ++ b) x (λ size here rest stops. behind_slot size a b slot rest x is (reads size rest stops))

-- the tree may be written otherwise
read_as : (o : Reading Tree) (x y : Tree) (rest : List Terminal) → o ≡ read x rest → y ≡ x → o ≡ read y rest
read_as o x y rest e same = e ∙ ap (λ (z : Tree). read z rest) (sym same)

platform_read : (size : ℕ) (a : List Terminal) (n : ℤ) (rest : List Terminal) → Number a n → platform_at size (sign w.equal ∷ (a ++ rest)) ≡ read (t.platform n) rest
unfolding platform_at equal_at sign_at first_at
platform_read size a n rest is = ap (λ (o : Reading ℤ). o >>= λ (p : ℤ × List Terminal). read (t.platform p.0) p.1) (number_read size a n is rest)

slotted_hash : (size : ℕ) (slot : ℤ) (h : List ℕ) (rest : List Terminal) → slotted_at size slot (sign w.equal ∷ hash h ∷ rest) ≡ read (t.anchor_hash slot h) rest
unfolding slotted_at anchor_hash_at hash_at first_at
slotted_hash size slot h rest = refl

slotted_trusted : (size : ℕ) (slot : ℤ) (rest : List Terminal) → slotted_at size slot (word w.trusted ∷ rest) ≡ read (t.trusted_cert slot) rest
unfolding slotted_at first_at
slotted_trusted size slot rest = refl

pub operand_read : (a : List Terminal) (x : Tree) → Primary AnyKey a x → IsReadSo a x
unfolding primary_at ident_at behind_equal cd_hash_at anchor_at apple_at anchor_hash_at text_at hash_at first_at
operand_read a x g.always = worded w.always [] t.always (λ size here rest stops. refl)
operand_read a x g.true = worded w.true [] t.always (λ size here rest stops. refl)
operand_read a x g.never = worded w.never [] t.never (λ size here rest stops. refl)
operand_read a x g.false = worded w.false [] t.never (λ size here rest stops. refl)
operand_read a x (g.ident s) = worded w.identifier (str s ∷ []) (t.ident s) (λ size here rest stops. refl)
operand_read a x (g.ident_equal s) = worded w.identifier (sign w.equal ∷ str s ∷ []) (t.ident s) (λ size here rest stops. refl)
operand_read a x (g.cd_hash h) = worded w.cdhash (hash h ∷ []) (t.cd_hash h) (λ size here rest stops. refl)
operand_read a x (g.platform b n is) = worded w.platform (sign w.equal ∷ b) (t.platform n) (λ size here rest stops. platform_read size b n rest is)
operand_read a x g.notarized = worded w.notarized [] t.notarized (λ size here rest stops. refl)
operand_read a x g.legacy = worded w.legacy [] t.legacy_dev_id (λ size here rest stops. refl)
operand_read a x (g.named_code s) = named s
operand_read a x g.apple_anchor = worded w.anchor (word w.apple ∷ []) t.apple_anchor (λ size here rest stops. apple_stops rest stops)
operand_read a x g.apple_generic = worded w.anchor (word w.apple ∷ word w.generic ∷ []) t.apple_generic (λ size here rest stops. refl)
operand_read a x (g.named_anchor s) = worded w.anchor (word w.apple ∷ str s ∷ []) (t.named_anchor s) (λ size here rest stops. refl)
operand_read a x g.trusted_any = worded w.anchor (word w.trusted ∷ []) t.trusted_any (λ size here rest stops. refl)
operand_read a x (g.anchor_hash h) = worded w.anchor (sign w.equal ∷ hash h ∷ []) (t.anchor_hash (negsuc 0) h) (λ size here rest stops. refl)
operand_read a x (g.anchor_test b key test y is so) =
    worded w.anchor b y (λ size here rest stops. read_as _ _ _ rest (anchor_keyed size b key test is rest stops) so)
operand_read a x (g.cert_hash c b slot h word_is is) =
    cert_by c b (sign w.equal ∷ hash h ∷ []) slot (t.anchor_hash slot h) word_is is (λ size rest stops. slotted_hash size slot h rest)
operand_read a x (g.trusted_cert c b slot word_is is) =
    cert_by c b (word w.trusted ∷ []) slot (t.trusted_cert slot) word_is is (λ size rest stops. slotted_trusted size slot rest)
operand_read a x (g.cert_test c b e slot key test y word_is is asked so) =
    cert_by c b e slot y word_is is (λ size rest stops. read_as _ _ _ rest (slotted_read size slot e key test asked rest stops) so)
operand_read a x (g.info b key test is) = worded w.info b (t.info_field key test) (λ size here rest stops. info_read size b key test is rest stops)
operand_read a x (g.entitlement b key test is) =
    worded w.entitlement b (t.entitlement_field key test) (λ size here rest stops. entitlement_read size b key test is rest stops)
