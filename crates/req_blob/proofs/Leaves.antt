-- Opcodes without subexpressions: what is read spells its tree, and what spells one is read.
use Rattle.std.proofs.Common.{◌≡◌, ℕ, ℤ, List, [], ◌++◌, Result, Ok, refl, ap, subst, ◌∙◌, append_assoc}
use Rattle.req_tree.specs.declared.matching.Match.{Match}
use Rattle.req_tree.specs.Tree as t
use Rattle.req_tree.specs.Tree.{Tree}
use Rattle.req_tree.specs.Depth.{depth_of}
use Rattle.req_tree.specs.Oid.{IsBytes}
use Rattle.req_blob.specs.declared.fault.OpsFault.{OpsFault}
use Rattle.req_blob.specs.declared.opcode.Leaf.{Leaf}
use Rattle.req_blob.specs.declared.opcode.Leaf.TheVariants as l
use Rattle.req_blob.specs.Words.{signed_word, datum, match_text}
use Rattle.req_blob.proofs.LawsBelow.{OidIsRead}
use Rattle.req_blob.proofs.Table.{leaf_number}
use Rattle.req_blob.specs.Spelling.{Spells, Marked, IsText, IsSlot, IsHash, IsFieldKey, IsOidDatum, IsTest}
use Rattle.req_blob.specs.Reading.{◌>>=◌, datum_at, signed_at, hash_at, key_at, oid_at, match_at, leaf_at}
use Rattle.req_blob.specs.Reading.{ident_at, anchor_hash_at, legacy_info_at, cd_hash_at, info_field_at, cert_field_at, trusted_cert_at, cert_oid_at, entitlement_field_at, cert_policy_at, named_anchor_at, named_code_at, platform_at}
use Rattle.req_blob.proofs.Fields.{bind_ok, ok_is, Takes, Takes-then, takes_nothing, datum_takes, datum_again, signed_takes, signed_again, hash_takes, hash_again, key_takes, key_again, oid_takes, oid_again, match_takes, match_again}

-- an operand: how it is read, how it is written, and what is one
pub record Field (A : Type 0) : Type 1 where
  pub read : ℕ → List ℕ → Result (A × List ℕ) OpsFault
  pub text : A → List ℕ
  pub Fits : A → Type 0
  pub takes : (size : ℕ) (bytes : List ℕ) (x : A × List ℕ) → IsBytes bytes → read size bytes ≡ Ok x → Takes bytes (text x.0) x.1 × Fits x.0
  pub again : (size : ℕ) (a : A) (rest : List ℕ) → Fits a → read size (text a ++ rest) ≡ Ok (a, rest)

abbrev text_field : Field (List ℕ)
text_field = record { read = datum_at; text = datum; Fits = IsText; takes = datum_takes; again = datum_again }

abbrev signed_field : Field ℤ
signed_field = record { read = signed_at; text = signed_word; Fits = IsSlot; takes = signed_takes; again = signed_again }

abbrev hash_field : Field (List ℕ)
hash_field = record { read = hash_at; text = datum; Fits = IsHash; takes = hash_takes; again = hash_again }

abbrev key_field : Field (List ℕ)
key_field = record { read = key_at; text = datum; Fits = IsFieldKey; takes = key_takes; again = key_again }

abbrev oid_field : OidIsRead → Field (List ℕ)
oid_field read = record { read = oid_at; text = datum; Fits = IsOidDatum; takes = oid_takes read; again = oid_again read }

abbrev match_field : Field Match
match_field = record { read = match_at; text = match_text; Fits = IsTest; takes = match_takes; again = match_again }

-- bytes that spell a tree without subtrees behind the word of an opcode
pub record LeafTaken (opcode : ℕ) (bytes : List ℕ) (x : Tree × List ℕ) : Type 0 where
  pub text : List ℕ
  pub taken : Takes bytes text x.1
  pub spells : (all : List ℕ) → Marked opcode text all → Spells x.0 all
  pub leaf : depth_of x.0 ≡ 1

none_taken : (opcode : ℕ) (tree : Tree) (bytes : List ℕ) (x : Tree × List ℕ) → ((all : List ℕ) → Marked opcode [] all → Spells tree all) → depth_of tree ≡ 1
    → IsBytes bytes → ◌≡◌ {A = Result (Tree × List ℕ) OpsFault} (Ok (tree, bytes)) (Ok x) → LeafTaken opcode bytes x
none_taken opcode tree bytes x spells leaf are e =
    subst (λ (y : Tree × List ℕ). LeafTaken opcode bytes y) (ok_is (tree, bytes) x e) (record { text = []; taken = takes_nothing bytes are; spells = spells; leaf = leaf })

one_taken : {A : Type 0} (f : Field A) (make : A → Tree) (opcode size : ℕ) (bytes : List ℕ) (x : Tree × List ℕ)
    → ((a : A) (all : List ℕ) → f.Fits a → Marked opcode (f.text a) all → Spells (make a) all) → ((a : A) → depth_of (make a) ≡ 1)
    → IsBytes bytes → (f.read size bytes >>= λ a. Ok (make a.0, a.1)) ≡ Ok x → LeafTaken opcode bytes x
one_taken f make opcode size bytes x spells leaf are e =
    let a = bind_ok (f.read size bytes) (λ a. Ok (make a.0, a.1)) x e in
    let s = f.takes size bytes a.0 are a.1 in
    subst (λ (y : Tree × List ℕ). LeafTaken opcode bytes y) (ok_is (make a.0.0, a.0.1) x a.2) (record { text = f.text a.0.0; taken = s.0; spells = λ all m. spells a.0.0 all s.1 m; leaf = leaf a.0.0 })

two_taken : {A B : Type 0} (f : Field A) (g : Field B) (make : A → B → Tree) (opcode size : ℕ) (bytes : List ℕ) (x : Tree × List ℕ)
    → ((a : A) (b : B) (all : List ℕ) → f.Fits a → g.Fits b → Marked opcode (f.text a ++ g.text b) all → Spells (make a b) all) → ((a : A) (b : B) → depth_of (make a b) ≡ 1)
    → IsBytes bytes → (f.read size bytes >>= λ a. g.read size a.1 >>= λ b. Ok (make a.0 b.0, b.1)) ≡ Ok x → LeafTaken opcode bytes x
two_taken f g make opcode size bytes x spells leaf are e =
    let a = bind_ok (f.read size bytes) (λ a. g.read size a.1 >>= λ b. Ok (make a.0 b.0, b.1)) x e in
    let b = bind_ok (g.read size a.0.1) (λ b. Ok (make a.0.0 b.0, b.1)) x a.2 in
    let s = f.takes size bytes a.0 are a.1 in
    let r = g.takes size a.0.1 b.0 s.0.rest_fits b.1 in
    let both = Takes-then bytes (f.text a.0.0) a.0.1 (g.text b.0.0) b.0.1 s.0 r.0 in
    subst (λ (y : Tree × List ℕ). LeafTaken opcode bytes y) (ok_is (make a.0.0 b.0.0, b.0.1) x b.2)
    (record { text = f.text a.0.0 ++ g.text b.0.0; taken = both; spells = λ all m. spells a.0.0 b.0.0 all s.1 r.1 m; leaf = leaf a.0.0 b.0.0 })

three_taken : {A B C : Type 0} (f : Field A) (g : Field B) (h : Field C) (make : A → B → C → Tree) (opcode size : ℕ) (bytes : List ℕ) (x : Tree × List ℕ)
    → ((a : A) (b : B) (c : C) (all : List ℕ) → f.Fits a → g.Fits b → h.Fits c → Marked opcode (f.text a ++ (g.text b ++ h.text c)) all → Spells (make a b c) all)
    → ((a : A) (b : B) (c : C) → depth_of (make a b c) ≡ 1)
    → IsBytes bytes → (f.read size bytes >>= λ a. g.read size a.1 >>= λ b. h.read size b.1 >>= λ c. Ok (make a.0 b.0 c.0, c.1)) ≡ Ok x → LeafTaken opcode bytes x
three_taken f g h make opcode size bytes x spells leaf are e =
    let a = bind_ok (f.read size bytes) (λ a. g.read size a.1 >>= λ b. h.read size b.1 >>= λ c. Ok (make a.0 b.0 c.0, c.1)) x e in
    let b = bind_ok (g.read size a.0.1) (λ b. h.read size b.1 >>= λ c. Ok (make a.0.0 b.0 c.0, c.1)) x a.2 in
    let c = bind_ok (h.read size b.0.1) (λ c. Ok (make a.0.0 b.0.0 c.0, c.1)) x b.2 in
    let s = f.takes size bytes a.0 are a.1 in
    let r = g.takes size a.0.1 b.0 s.0.rest_fits b.1 in
    let q = h.takes size b.0.1 c.0 r.0.rest_fits c.1 in
    let later = Takes-then a.0.1 (g.text b.0.0) b.0.1 (h.text c.0.0) c.0.1 r.0 q.0 in
    let all_three = Takes-then bytes (f.text a.0.0) a.0.1 (g.text b.0.0 ++ h.text c.0.0) c.0.1 s.0 later in
    subst (λ (y : Tree × List ℕ). LeafTaken opcode bytes y) (ok_is (make a.0.0 b.0.0 c.0.0, c.0.1) x c.2)
    (record { text = f.text a.0.0 ++ (g.text b.0.0 ++ h.text c.0.0); taken = all_three; spells = λ all m. spells a.0.0 b.0.0 c.0.0 all s.1 r.1 q.1 m; leaf = leaf a.0.0 b.0.0 c.0.0 })

module _ (is_read : OidIsRead) where
  pub leaf_taken : (size : ℕ) (leaf : Leaf) (bytes : List ℕ) (x : Tree × List ℕ) → IsBytes bytes → leaf_at size leaf bytes ≡ Ok x → LeafTaken (leaf_number leaf) bytes x
  unfolding leaf_at ident_at anchor_hash_at legacy_info_at cd_hash_at info_field_at cert_field_at trusted_cert_at cert_oid_at entitlement_field_at cert_policy_at named_anchor_at named_code_at platform_at
  leaf_taken size l.Never bytes x are e = none_taken 0 t.never bytes x (λ all m. m) refl are e
  leaf_taken size l.Always bytes x are e = none_taken 1 t.always bytes x (λ all m. m) refl are e
  leaf_taken size l.Ident bytes x are e = one_taken text_field t.ident 2 size bytes x (λ a all p m. (p, m)) (λ a. refl) are e
  leaf_taken size l.AppleAnchor bytes x are e = none_taken 3 t.apple_anchor bytes x (λ all m. m) refl are e
  leaf_taken size l.AnchorHash bytes x are e = two_taken signed_field hash_field t.anchor_hash 4 size bytes x (λ a b all p q m. (p, q, m)) (λ a b. refl) are e
  leaf_taken size l.LegacyInfo bytes x are e = two_taken text_field text_field t.legacy_info 5 size bytes x (λ a b all p q m. (p, q, m)) (λ a b. refl) are e
  leaf_taken size l.CdHash bytes x are e = one_taken hash_field t.cd_hash 8 size bytes x (λ a all p m. (p, m)) (λ a. refl) are e
  leaf_taken size l.InfoField bytes x are e = two_taken text_field match_field t.info_field 10 size bytes x (λ a b all p q m. (p, q, m)) (λ a b. refl) are e
  leaf_taken size l.CertField bytes x are e = three_taken signed_field key_field match_field t.cert_field 11 size bytes x (λ a b c all p q r m. (p, q, r, m)) (λ a b c. refl) are e
  leaf_taken size l.TrustedCert bytes x are e = one_taken signed_field t.trusted_cert 12 size bytes x (λ a all p m. (p, m)) (λ a. refl) are e
  leaf_taken size l.TrustedAny bytes x are e = none_taken 13 t.trusted_any bytes x (λ all m. m) refl are e
  leaf_taken size l.CertOid bytes x are e = three_taken signed_field (oid_field is_read) match_field t.cert_oid 14 size bytes x (λ a b c all p q r m. (p, q, r, m)) (λ a b c. refl) are e
  leaf_taken size l.AppleGeneric bytes x are e = none_taken 15 t.apple_generic bytes x (λ all m. m) refl are e
  leaf_taken size l.EntitlementField bytes x are e = two_taken text_field match_field t.entitlement_field 16 size bytes x (λ a b all p q m. (p, q, m)) (λ a b. refl) are e
  leaf_taken size l.CertPolicy bytes x are e = three_taken signed_field (oid_field is_read) match_field t.cert_policy 17 size bytes x (λ a b c all p q r m. (p, q, r, m)) (λ a b c. refl) are e
  leaf_taken size l.NamedAnchor bytes x are e = one_taken text_field t.named_anchor 18 size bytes x (λ a all p m. (p, m)) (λ a. refl) are e
  leaf_taken size l.NamedCode bytes x are e = one_taken text_field t.named_code 19 size bytes x (λ a all p m. (p, m)) (λ a. refl) are e
  leaf_taken size l.Platform bytes x are e = one_taken signed_field t.platform 20 size bytes x (λ a all p m. (p, m)) (λ a. refl) are e
  leaf_taken size l.Notarized bytes x are e = none_taken 21 t.notarized bytes x (λ all m. m) refl are e
  leaf_taken size l.LegacyDevId bytes x are e = none_taken 23 t.legacy_dev_id bytes x (λ all m. m) refl are e

-- ---- what spells a tree is read

-- a tree, and what follows
abbrev pub made : Tree → List ℕ → Result (Tree × List ℕ) OpsFault
made tree rest = Ok (tree, rest)

one_again : {A : Type 0} (f : Field A) (make : A → Tree) (size : ℕ) (a : A) (rest : List ℕ) → f.Fits a → (f.read size (f.text a ++ rest) >>= λ y. made (make y.0) y.1) ≡ Ok (make a, rest)
one_again {A} f make size a rest fits = ap (λ (r : Result (A × List ℕ) OpsFault). r >>= λ y. made (make y.0) y.1) (f.again size a rest fits)

two_again : {A B : Type 0} (f : Field A) (g : Field B) (make : A → B → Tree) (size : ℕ) (a : A) (b : B) (rest : List ℕ) → f.Fits a → g.Fits b
    → (f.read size ((f.text a ++ g.text b) ++ rest) >>= λ y. g.read size y.1 >>= λ z. made (make y.0 z.0) z.1) ≡ Ok (make a b, rest)
two_again {A} {B} f g make size a b rest fits_a fits_b =
    ap (λ (bs : List ℕ). f.read size bs >>= λ y. g.read size y.1 >>= λ z. made (make y.0 z.0) z.1) (append_assoc (f.text a) (g.text b) rest)
    ∙ ap (λ (r : Result (A × List ℕ) OpsFault). r >>= λ y. g.read size y.1 >>= λ z. made (make y.0 z.0) z.1) (f.again size a (g.text b ++ rest) fits_a)
    ∙ one_again g (make a) size b rest fits_b

three_again : {A B C : Type 0} (f : Field A) (g : Field B) (h : Field C) (make : A → B → C → Tree) (size : ℕ) (a : A) (b : B) (c : C) (rest : List ℕ) → f.Fits a → g.Fits b → h.Fits c
    → (f.read size ((f.text a ++ (g.text b ++ h.text c)) ++ rest) >>= λ y. g.read size y.1 >>= λ z. h.read size z.1 >>= λ w. made (make y.0 z.0 w.0) w.1) ≡ Ok (make a b c, rest)
three_again {A} {B} {C} f g h make size a b c rest fits_a fits_b fits_c =
    ap (λ (bs : List ℕ). f.read size bs >>= λ y. g.read size y.1 >>= λ z. h.read size z.1 >>= λ w. made (make y.0 z.0 w.0) w.1) (append_assoc (f.text a) (g.text b ++ h.text c) rest)
    ∙ ap (λ (r : Result (A × List ℕ) OpsFault). r >>= λ y. g.read size y.1 >>= λ z. h.read size z.1 >>= λ w. made (make y.0 z.0 w.0) w.1) (f.again size a ((g.text b ++ h.text c) ++ rest) fits_a)
    ∙ two_again g h (make a) size b c rest fits_b fits_c

-- bytes behind the word of an opcode that are read as a tree, whatever follows
pub record LeafRead (tree : Tree) (bytes : List ℕ) : Type 0 where
  pub leaf : Leaf
  pub operands : List ℕ
  pub marked : Marked (leaf_number leaf) operands bytes
  pub read : (size : ℕ) (rest : List ℕ) → leaf_at size leaf (operands ++ rest) ≡ Ok (tree, rest)

pub never_read : (bytes : List ℕ) → Spells t.never bytes → LeafRead t.never bytes
unfolding leaf_at
never_read bytes h = record { leaf = l.Never; operands = []; marked = h; read = λ size rest. refl }

pub always_read : (bytes : List ℕ) → Spells t.always bytes → LeafRead t.always bytes
unfolding leaf_at
always_read bytes h = record { leaf = l.Always; operands = []; marked = h; read = λ size rest. refl }

pub ident_read : (value : List ℕ) (bytes : List ℕ) → Spells (t.ident value) bytes → LeafRead (t.ident value) bytes
unfolding leaf_at ident_at
ident_read value bytes h = record { leaf = l.Ident; operands = datum value; marked = h.1; read = λ size rest. one_again text_field t.ident size value rest h.0 }

pub apple_anchor_read : (bytes : List ℕ) → Spells t.apple_anchor bytes → LeafRead t.apple_anchor bytes
unfolding leaf_at
apple_anchor_read bytes h = record { leaf = l.AppleAnchor; operands = []; marked = h; read = λ size rest. refl }

pub anchor_hash_read : (slot : ℤ) (hash : List ℕ) (bytes : List ℕ) → Spells (t.anchor_hash slot hash) bytes → LeafRead (t.anchor_hash slot hash) bytes
unfolding leaf_at anchor_hash_at
anchor_hash_read slot hash bytes h = record { leaf = l.AnchorHash; operands = signed_word slot ++ datum hash; marked = h.2; read = λ size rest. two_again signed_field hash_field t.anchor_hash size slot hash rest h.0 h.1 }

pub legacy_info_read : (key : List ℕ) (value : List ℕ) (bytes : List ℕ) → Spells (t.legacy_info key value) bytes → LeafRead (t.legacy_info key value) bytes
unfolding leaf_at legacy_info_at
legacy_info_read key value bytes h = record { leaf = l.LegacyInfo; operands = datum key ++ datum value; marked = h.2; read = λ size rest. two_again text_field text_field t.legacy_info size key value rest h.0 h.1 }

pub cd_hash_read : (hash : List ℕ) (bytes : List ℕ) → Spells (t.cd_hash hash) bytes → LeafRead (t.cd_hash hash) bytes
unfolding leaf_at cd_hash_at
cd_hash_read hash bytes h = record { leaf = l.CdHash; operands = datum hash; marked = h.1; read = λ size rest. one_again hash_field t.cd_hash size hash rest h.0 }

pub info_field_read : (key : List ℕ) (test : Match) (bytes : List ℕ) → Spells (t.info_field key test) bytes → LeafRead (t.info_field key test) bytes
unfolding leaf_at info_field_at
info_field_read key test bytes h = record { leaf = l.InfoField; operands = datum key ++ match_text test; marked = h.2; read = λ size rest. two_again text_field match_field t.info_field size key test rest h.0 h.1 }

pub cert_field_read : (slot : ℤ) (key : List ℕ) (test : Match) (bytes : List ℕ) → Spells (t.cert_field slot key test) bytes → LeafRead (t.cert_field slot key test) bytes
unfolding leaf_at cert_field_at
cert_field_read slot key test bytes h = record { leaf = l.CertField; operands = signed_word slot ++ (datum key ++ match_text test); marked = h.3; read = λ size rest. three_again signed_field key_field match_field t.cert_field size slot key test rest h.0 h.1 h.2 }

pub trusted_cert_read : (slot : ℤ) (bytes : List ℕ) → Spells (t.trusted_cert slot) bytes → LeafRead (t.trusted_cert slot) bytes
unfolding leaf_at trusted_cert_at
trusted_cert_read slot bytes h = record { leaf = l.TrustedCert; operands = signed_word slot; marked = h.1; read = λ size rest. one_again signed_field t.trusted_cert size slot rest h.0 }

pub trusted_any_read : (bytes : List ℕ) → Spells t.trusted_any bytes → LeafRead t.trusted_any bytes
unfolding leaf_at
trusted_any_read bytes h = record { leaf = l.TrustedAny; operands = []; marked = h; read = λ size rest. refl }

pub cert_oid_read : OidIsRead → (slot : ℤ) (oid : List ℕ) (test : Match) (bytes : List ℕ) → Spells (t.cert_oid slot oid test) bytes → LeafRead (t.cert_oid slot oid test) bytes
unfolding leaf_at cert_oid_at
cert_oid_read is_read slot oid test bytes h = record { leaf = l.CertOid; operands = signed_word slot ++ (datum oid ++ match_text test); marked = h.3; read = λ size rest. three_again signed_field (oid_field is_read) match_field t.cert_oid size slot oid test rest h.0 h.1 h.2 }

pub apple_generic_read : (bytes : List ℕ) → Spells t.apple_generic bytes → LeafRead t.apple_generic bytes
unfolding leaf_at
apple_generic_read bytes h = record { leaf = l.AppleGeneric; operands = []; marked = h; read = λ size rest. refl }

pub entitlement_field_read : (key : List ℕ) (test : Match) (bytes : List ℕ) → Spells (t.entitlement_field key test) bytes → LeafRead (t.entitlement_field key test) bytes
unfolding leaf_at entitlement_field_at
entitlement_field_read key test bytes h = record { leaf = l.EntitlementField; operands = datum key ++ match_text test; marked = h.2; read = λ size rest. two_again text_field match_field t.entitlement_field size key test rest h.0 h.1 }

pub cert_policy_read : OidIsRead → (slot : ℤ) (oid : List ℕ) (test : Match) (bytes : List ℕ) → Spells (t.cert_policy slot oid test) bytes → LeafRead (t.cert_policy slot oid test) bytes
unfolding leaf_at cert_policy_at
cert_policy_read is_read slot oid test bytes h = record { leaf = l.CertPolicy; operands = signed_word slot ++ (datum oid ++ match_text test); marked = h.3; read = λ size rest. three_again signed_field (oid_field is_read) match_field t.cert_policy size slot oid test rest h.0 h.1 h.2 }

pub named_anchor_read : (name : List ℕ) (bytes : List ℕ) → Spells (t.named_anchor name) bytes → LeafRead (t.named_anchor name) bytes
unfolding leaf_at named_anchor_at
named_anchor_read name bytes h = record { leaf = l.NamedAnchor; operands = datum name; marked = h.1; read = λ size rest. one_again text_field t.named_anchor size name rest h.0 }

pub named_code_read : (name : List ℕ) (bytes : List ℕ) → Spells (t.named_code name) bytes → LeafRead (t.named_code name) bytes
unfolding leaf_at named_code_at
named_code_read name bytes h = record { leaf = l.NamedCode; operands = datum name; marked = h.1; read = λ size rest. one_again text_field t.named_code size name rest h.0 }

pub platform_read : (number : ℤ) (bytes : List ℕ) → Spells (t.platform number) bytes → LeafRead (t.platform number) bytes
unfolding leaf_at platform_at
platform_read number bytes h = record { leaf = l.Platform; operands = signed_word number; marked = h.1; read = λ size rest. one_again signed_field t.platform size number rest h.0 }

pub notarized_read : (bytes : List ℕ) → Spells t.notarized bytes → LeafRead t.notarized bytes
unfolding leaf_at
notarized_read bytes h = record { leaf = l.Notarized; operands = []; marked = h; read = λ size rest. refl }

pub legacy_dev_id_read : (bytes : List ℕ) → Spells t.legacy_dev_id bytes → LeafRead t.legacy_dev_id bytes
unfolding leaf_at
legacy_dev_id_read bytes h = record { leaf = l.LegacyDevId; operands = []; marked = h; read = λ size rest. refl }
