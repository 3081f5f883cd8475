-- What is read spells its tree, and what spells a tree is read, whatever follows.
use Rattle.std.proofs.Common.{◌≡◌, ℕ, zero, suc, ◌+◌, ◌-◌, ◌%◌, ◌^◌, ◌<◌, ◌≤◌, max, List, ◌++◌, Result, Ok, refl, sym, ap, subst, ◌∙◌, append_assoc, arith}
use Rattle.std.proofs.lemmas.List.{append_cancel_right}
use Rattle.req_tree.specs.Tree as t
use Rattle.req_tree.specs.Tree.{Tree}
use Rattle.req_tree.specs.Depth.{depth_of}
use Rattle.req_tree.specs.Oid.{IsBytes}
use Rattle.req_blob.specs.declared.fault.OpsFault.{OpsFault}
use Rattle.req_blob.specs.declared.opcode.Opcode.{Opcode}
use Rattle.req_blob.specs.declared.opcode.Opcode.TheVariants as o
use Rattle.cs_blob.specs.Numbers.{word}
use Rattle.req_blob.specs.Words.{unpadded}
use Rattle.req_blob.specs.Opcodes.{opcode_of}
use Rattle.req_blob.specs.Spelling.{Spells, Marked}
use Rattle.req_blob.specs.Reading.{◌>>=◌, Reader, place, word_at, unpadded_at, skip_false_at, both_at, either_at, negate_at, skip_next_at, operands_at, req_at}
use Rattle.req_blob.proofs.Fields.{bind_ok, ok_is, Takes, Takes-then, word_takes, word_again, unpadded_takes, unpadded_again}
use Rattle.req_blob.proofs.LawsBelow.{OidIsRead}
use Rattle.req_blob.proofs.Table.{leaf_number, IsRight, opcode_right, opcode_of-leaf, opcode_of-both, opcode_of-either, opcode_of-negate, skip_false_of, skip_next_of}
use Rattle.req_blob.proofs.Leaves as leaves
use Rattle.req_blob.proofs.Leaves.{LeafRead, leaf_taken, made}

-- bytes that spell a tree of at most this depth
pub record Taken (depth : ℕ) (bytes : List ℕ) (x : Tree × List ℕ) : Type 0 where
  pub text : List ℕ
  pub taken : Takes bytes text x.1
  pub spells : Spells x.0 text
  pub shallow : depth_of x.0 ≤ depth

-- the same behind a first word
record Behind (depth first : ℕ) (bytes : List ℕ) (x : Tree × List ℕ) : Type 0 where
  text : List ℕ
  taken : Takes bytes text x.1
  spells : Spells x.0 (word first ++ text)
  shallow : depth_of x.0 ≤ depth

-- a reading of expressions that takes what spells a tree
abbrev Reads : Reader → ℕ → Type 0
Reads next depth = (bytes : List ℕ) (x : Tree × List ℕ) → IsBytes bytes → next bytes ≡ Ok x → Taken depth bytes x

marked_by : (opcode first : ℕ) (operands : List ℕ) → first < 2 ^ 32 → first % 2 ^ 24 ≡ opcode → Marked opcode operands (word first ++ operands)
marked_by opcode first operands small is = record { first = first; small = small; known = is; parts = refl }

pair_taken : (next : Reader) (depth first opcode : ℕ) (make : Tree → Tree → Tree) (bytes : List ℕ) (x : Tree × List ℕ) → Reads next depth → first < 2 ^ 32 → first % 2 ^ 24 ≡ opcode
    → ((left right : Tree) (a b all : List ℕ) → Spells left a → Spells right b → Marked opcode (a ++ b) all → Spells (make left right) all)
    → ((left right : Tree) → depth_of (make left right) ≡ max (depth_of left) (depth_of right) + 1)
    → IsBytes bytes → (next bytes >>= λ left. next left.1 >>= λ right. Ok (make left.0 right.0, right.1)) ≡ Ok x → Behind (depth + 1) first bytes x
pair_taken next depth first opcode make bytes x reads small is spells deep are e =
    let a = bind_ok (next bytes) (λ left. next left.1 >>= λ right. Ok (make left.0 right.0, right.1)) x e in
    let b = bind_ok (next a.0.1) (λ right. Ok (make a.0.0 right.0, right.1)) x a.2 in
    let s = reads bytes a.0 are a.1 in
    let r = reads a.0.1 b.0 s.taken.rest_fits b.1 in
    let both = Takes-then bytes s.text a.0.1 r.text b.0.1 s.taken r.taken in
    let left_deep : depth_of a.0.0 ≤ depth = s.shallow in
    let right_deep : depth_of b.0.0 ≤ depth = r.shallow in
    let deeper : depth_of (make a.0.0 b.0.0) ≤ depth + 1 = omega (arith, deep a.0.0 b.0.0, left_deep, right_deep) in
    subst (λ (y : Tree × List ℕ). Behind (depth + 1) first bytes y) (ok_is (make a.0.0 b.0.0, b.0.1) x b.2)
    (record { text = s.text ++ r.text; taken = both; spells = spells a.0.0 b.0.0 s.text r.text (word first ++ (s.text ++ r.text)) s.spells r.spells (marked_by opcode first (s.text ++ r.text) small is); shallow = deeper })

module _ (is_read : OidIsRead) where
  operands_taken : (next : Reader) (depth size at first : ℕ) (op : Opcode) (bytes : List ℕ) (x : Tree × List ℕ) → Reads next depth → first < 2 ^ 32 → IsRight first (first % 2 ^ 24) op
      → IsBytes bytes → operands_at next size at first op bytes ≡ Ok x → Behind (depth + 1) first bytes x
  unfolding both_at either_at negate_at skip_false_at skip_next_at
  operands_taken next depth size at first (o.Leaf leaf) bytes x reads small right are e =
      let s = leaf_taken is_read size leaf bytes x are e in
      let one : depth_of x.0 ≡ 1 = s.leaf in
      record { text = s.text; taken = s.taken; spells = s.spells (word first ++ s.text) (marked_by (leaf_number leaf) first s.text small right); shallow = omega (arith, one) }
  operands_taken next depth size at first o.Both bytes x reads small right are e =
      pair_taken next depth first 6 t.both bytes x reads small right (λ left right a b all p q m. (a, b, p, q, m)) (λ left right. refl) are e
  operands_taken next depth size at first o.Either bytes x reads small right are e =
      pair_taken next depth first 7 t.either bytes x reads small right (λ left right a b all p q m. (a, b, p, q, m)) (λ left right. refl) are e
  operands_taken next depth size at first o.Negate bytes x reads small right are e =
      let a = bind_ok (next bytes) (λ inner. Ok (t.negate inner.0, inner.1)) x e in
      let s = reads bytes a.0 are a.1 in
      let deep : depth_of a.0.0 ≤ depth = s.shallow in
      subst (λ (y : Tree × List ℕ). Behind (depth + 1) first bytes y) (ok_is (t.negate a.0.0, a.0.1) x a.2)
      (record { text = s.text; taken = s.taken; spells = (s.text, s.spells, marked_by 9 first s.text small right); shallow = omega (arith, deep) })
  operands_taken next depth size at first o.OutOfScope bytes x reads small right are e = absurd cc
  operands_taken next depth size at first o.SkipFalse bytes x reads small right are e =
      let a = bind_ok (unpadded_at size bytes) (λ skipped. Ok (t.skip_false first skipped.0, skipped.1)) x e in
      let s = unpadded_takes size bytes a.0 are a.1 in
      subst (λ (y : Tree × List ℕ). Behind (depth + 1) first bytes y) (ok_is (t.skip_false first a.0.0, a.0.1) x a.2)
      (record { text = unpadded a.0.0; taken = s.0; spells = (record { unknown = right.0; flagged = right.1; small = small }, s.1, refl); shallow = omega arith })
  operands_taken next depth size at first o.SkipNext bytes x reads small right are e =
      let a = bind_ok (unpadded_at size bytes) (λ skipped. next skipped.1 >>= λ inner. Ok (t.skip_next first skipped.0 inner.0, inner.1)) x e in
      let b = bind_ok (next a.0.1) (λ inner. Ok (t.skip_next first a.0.0 inner.0, inner.1)) x a.2 in
      let s = unpadded_takes size bytes a.0 are a.1 in
      let r = reads a.0.1 b.0 s.0.rest_fits b.1 in
      let both = Takes-then bytes (unpadded a.0.0) a.0.1 r.text b.0.1 s.0 r.taken in
      let deep : depth_of b.0.0 ≤ depth = r.shallow in
      subst (λ (y : Tree × List ℕ). Behind (depth + 1) first bytes y) (ok_is (t.skip_next first a.0.0 b.0.0, b.0.1) x b.2)
      (record { text = unpadded a.0.0 ++ r.text; taken = both; spells = (r.text, r.spells, record { unknown = right.0; flagged = right.1; small = right.2 }, s.1, refl); shallow = omega (arith, deep) })
  operands_taken next depth size at first o.Unknown bytes x reads small right are e = absurd cc

  pub req_taken : (size depth : ℕ) (bytes : List ℕ) (x : Tree × List ℕ) → IsBytes bytes → req_at size depth bytes ≡ Ok x → Taken depth bytes x
  unfolding req_at
  req_taken size zero bytes x are e = absurd cc
  req_taken size (suc depth) bytes x are e =
      let a = bind_ok (word_at size bytes) (λ n. operands_at (req_at size depth) size (place size bytes) n.0 (opcode_of n.0) n.1) x e in
      let w = word_takes size bytes a.0 are a.1 in
      let s = operands_taken (req_at size depth) depth size (place size bytes) a.0.0 (opcode_of a.0.0) a.0.1 x (λ bs y p q. req_taken size depth bs y p q) w.1 (opcode_right a.0.0) w.0.rest_fits a.2 in
      let deep : depth_of x.0 ≤ depth + 1 = s.shallow in
      record { text = word a.0.0 ++ s.text; taken = Takes-then bytes (word a.0.0) a.0.1 s.text x.1 w.0 s.taken; spells = s.spells; shallow = omega (arith, deep) }

-- ---- what spells a tree is read

-- a first word, and its operands
first_read : (size depth first : ℕ) (op : Opcode) (operands bytes rest : List ℕ) (x : Tree × List ℕ) → 0 < depth → first < 2 ^ 32 → opcode_of first ≡ op → bytes ≡ word first ++ operands
    → ((at : ℕ) → operands_at (req_at size (depth - 1)) size at first op (operands ++ rest) ≡ Ok x) → req_at size depth (bytes ++ rest) ≡ Ok x
unfolding req_at
first_read size zero first op operands bytes rest x some small is parts read = absurd (omega arith)
first_read size (suc depth) first op operands bytes rest x some small is parts read =
    let less : suc depth - 1 ≡ depth = omega arith in
    let regrouped : bytes ++ rest ≡ word first ++ (operands ++ rest) = ap (λ (bs : List ℕ). bs ++ rest) parts ∙ append_assoc (word first) operands rest in
    let behind : operands_at (req_at size depth) size (place size (word first ++ (operands ++ rest))) first op (operands ++ rest) ≡ Ok x = subst (λ (d : ℕ). operands_at (req_at size d) size (place size (word first ++ (operands ++ rest))) first op (operands ++ rest) ≡ Ok x) less (read _) in
    ap (req_at size (suc depth)) regrouped
    ∙ ap (λ r. r >>= λ n. operands_at (req_at size depth) size (place size (word first ++ (operands ++ rest))) n.0 (opcode_of n.0) n.1) (word_again size first (operands ++ rest) small)
    ∙ ap (λ (w : Opcode). operands_at (req_at size depth) size (place size (word first ++ (operands ++ rest))) first w (operands ++ rest)) is
    ∙ behind

leaf_again : (size depth : ℕ) (tree : Tree) (bytes rest : List ℕ) → 1 ≤ depth → LeafRead tree bytes → req_at size depth (bytes ++ rest) ≡ Ok (tree, rest)
leaf_again size depth tree bytes rest some l =
    first_read size depth l.marked.first (o.Leaf l.leaf) l.operands bytes rest (tree, rest) (omega (arith, some)) l.marked.small (opcode_of-leaf l.leaf l.marked.first l.marked.known) l.marked.parts (λ at. l.read size rest)

pair_again : (next : Reader) (make : Tree → Tree → Tree) (left right : Tree) (a b rest : List ℕ) → next (a ++ (b ++ rest)) ≡ Ok (left, b ++ rest) → next (b ++ rest) ≡ Ok (right, rest)
    → (next ((a ++ b) ++ rest) >>= λ y. next y.1 >>= λ z. made (make y.0 z.0) z.1) ≡ Ok (make left right, rest)
pair_again next make left right a b rest first second =
    ap (λ (bs : List ℕ). next bs >>= λ y. next y.1 >>= λ z. made (make y.0 z.0) z.1) (append_assoc a b rest)
    ∙ ap (λ (r : Result (Tree × List ℕ) OpsFault). r >>= λ y. next y.1 >>= λ z. made (make y.0 z.0) z.1) first
    ∙ ap (λ (r : Result (Tree × List ℕ) OpsFault). r >>= λ z. made (make left z.0) z.1) second

module _ (is_read : OidIsRead) where
  pub req_again : (tree : Tree) (size depth : ℕ) (bytes rest : List ℕ) → depth_of tree ≤ depth → Spells tree bytes → req_at size depth (bytes ++ rest) ≡ Ok (tree, rest)
  unfolding both_at either_at negate_at skip_false_at skip_next_at
  req_again t.never size depth bytes rest deep h = leaf_again size depth t.never bytes rest deep (leaves.never_read bytes h)
  req_again t.always size depth bytes rest deep h = leaf_again size depth t.always bytes rest deep (leaves.always_read bytes h)
  req_again (t.ident value) size depth bytes rest deep h = leaf_again size depth (t.ident value) bytes rest deep (leaves.ident_read value bytes h)
  req_again t.apple_anchor size depth bytes rest deep h = leaf_again size depth t.apple_anchor bytes rest deep (leaves.apple_anchor_read bytes h)
  req_again (t.anchor_hash slot hash) size depth bytes rest deep h = leaf_again size depth (t.anchor_hash slot hash) bytes rest deep (leaves.anchor_hash_read slot hash bytes h)
  req_again (t.legacy_info key value) size depth bytes rest deep h = leaf_again size depth (t.legacy_info key value) bytes rest deep (leaves.legacy_info_read key value bytes h)
  req_again (t.both left right) size depth bytes rest deep h =
      let first : req_at size (depth - 1) (h.0 ++ (h.1 ++ rest)) ≡ Ok (left, h.1 ++ rest) = req_again left size (depth - 1) h.0 (h.1 ++ rest) (omega (arith, deep)) h.2 in
      let second : req_at size (depth - 1) (h.1 ++ rest) ≡ Ok (right, rest) = req_again right size (depth - 1) h.1 rest (omega (arith, deep)) h.3 in
      first_read size depth h.4.first o.Both (h.0 ++ h.1) bytes rest (t.both left right, rest) (omega (arith, deep)) h.4.small (opcode_of-both h.4.first h.4.known) h.4.parts (λ at. pair_again (req_at size (depth - 1)) t.both left right h.0 h.1 rest first second)
  req_again (t.either left right) size depth bytes rest deep h =
      let first : req_at size (depth - 1) (h.0 ++ (h.1 ++ rest)) ≡ Ok (left, h.1 ++ rest) = req_again left size (depth - 1) h.0 (h.1 ++ rest) (omega (arith, deep)) h.2 in
      let second : req_at size (depth - 1) (h.1 ++ rest) ≡ Ok (right, rest) = req_again right size (depth - 1) h.1 rest (omega (arith, deep)) h.3 in
      first_read size depth h.4.first o.Either (h.0 ++ h.1) bytes rest (t.either left right, rest) (omega (arith, deep)) h.4.small (opcode_of-either h.4.first h.4.known) h.4.parts (λ at. pair_again (req_at size (depth - 1)) t.either left right h.0 h.1 rest first second)
  req_again (t.cd_hash hash) size depth bytes rest deep h = leaf_again size depth (t.cd_hash hash) bytes rest deep (leaves.cd_hash_read hash bytes h)
  req_again (t.negate inner) size depth bytes rest deep h =
      let again : req_at size (depth - 1) (h.0 ++ rest) ≡ Ok (inner, rest) = req_again inner size (depth - 1) h.0 rest (omega (arith, deep)) h.1 in
      first_read size depth h.2.first o.Negate h.0 bytes rest (t.negate inner, rest) (omega (arith, deep)) h.2.small (opcode_of-negate h.2.first h.2.known) h.2.parts (λ at. ap (λ (r : Result (Tree × List ℕ) OpsFault). r >>= λ y. made (t.negate y.0) y.1) again)
  req_again (t.info_field key test) size depth bytes rest deep h = leaf_again size depth (t.info_field key test) bytes rest deep (leaves.info_field_read key test bytes h)
  req_again (t.cert_field slot key test) size depth bytes rest deep h = leaf_again size depth (t.cert_field slot key test) bytes rest deep (leaves.cert_field_read slot key test bytes h)
  req_again (t.trusted_cert slot) size depth bytes rest deep h = leaf_again size depth (t.trusted_cert slot) bytes rest deep (leaves.trusted_cert_read slot bytes h)
  req_again t.trusted_any size depth bytes rest deep h = leaf_again size depth t.trusted_any bytes rest deep (leaves.trusted_any_read bytes h)
  req_again (t.cert_oid slot oid test) size depth bytes rest deep h = leaf_again size depth (t.cert_oid slot oid test) bytes rest deep (leaves.cert_oid_read is_read slot oid test bytes h)
  req_again t.apple_generic size depth bytes rest deep h = leaf_again size depth t.apple_generic bytes rest deep (leaves.apple_generic_read bytes h)
  req_again (t.entitlement_field key test) size depth bytes rest deep h = leaf_again size depth (t.entitlement_field key test) bytes rest deep (leaves.entitlement_field_read key test bytes h)
  req_again (t.cert_policy slot oid test) size depth bytes rest deep h = leaf_again size depth (t.cert_policy slot oid test) bytes rest deep (leaves.cert_policy_read is_read slot oid test bytes h)
  req_again (t.named_anchor name) size depth bytes rest deep h = leaf_again size depth (t.named_anchor name) bytes rest deep (leaves.named_anchor_read name bytes h)
  req_again (t.named_code name) size depth bytes rest deep h = leaf_again size depth (t.named_code name) bytes rest deep (leaves.named_code_read name bytes h)
  req_again (t.platform number) size depth bytes rest deep h = leaf_again size depth (t.platform number) bytes rest deep (leaves.platform_read number bytes h)
  req_again t.notarized size depth bytes rest deep h = leaf_again size depth t.notarized bytes rest deep (leaves.notarized_read bytes h)
  req_again t.legacy_dev_id size depth bytes rest deep h = leaf_again size depth t.legacy_dev_id bytes rest deep (leaves.legacy_dev_id_read bytes h)
  req_again (t.skip_false op skipped) size depth bytes rest deep h =
      first_read size depth op o.SkipFalse (unpadded skipped) bytes rest (t.skip_false op skipped, rest) (omega (arith, deep)) h.0.small (skip_false_of op h.0.unknown h.0.flagged) h.2
      (λ at. ap (λ (r : Result (List ℕ × List ℕ) OpsFault). r >>= λ y. made (t.skip_false op y.0) y.1) (unpadded_again size skipped rest h.1))
  req_again (t.skip_next op skipped inner) size depth bytes rest deep h =
      let again : req_at size (depth - 1) (h.0 ++ rest) ≡ Ok (inner, rest) = req_again inner size (depth - 1) h.0 rest (omega (arith, deep)) h.1 in
      let low : op < 2 ^ 31 = h.2.small in
      first_read size depth op o.SkipNext (unpadded skipped ++ h.0) bytes rest (t.skip_next op skipped inner, rest) (omega (arith, deep)) (omega (arith, low)) (skip_next_of op h.2.unknown h.2.flagged h.2.small) h.4
      (λ at. ap (λ (bs : List ℕ). unpadded_at size bs >>= λ y. req_at size (depth - 1) y.1 >>= λ z. made (t.skip_next op y.0 z.0) z.1) (append_assoc (unpadded skipped) h.0 rest)
      ∙ ap (λ (r : Result (List ℕ × List ℕ) OpsFault). r >>= λ y. req_at size (depth - 1) y.1 >>= λ z. made (t.skip_next op y.0 z.0) z.1) (unpadded_again size skipped (h.0 ++ rest) h.3)
      ∙ ap (λ (r : Result (Tree × List ℕ) OpsFault). r >>= λ z. made (t.skip_next op skipped z.0) z.1) again)

same_ok : (x y : Tree × List ℕ) → ◌≡◌ {A = Result (Tree × List ℕ) OpsFault} (Ok x) (Ok y) → x ≡ y
same_ok x y e = ok_is x y e

-- a front spells one tree only
pub one_front : OidIsRead → (first second : Tree) (a b x y : List ℕ) → Spells first a → Spells second b → a ++ x ≡ b ++ y → (first ≡ second) × (a ≡ b)
one_front is_read first second a b x y p q e =
    let depth : ℕ = max (depth_of first) (depth_of second) in
    let read : req_at 0 (max (depth_of first) (depth_of second)) (a ++ x) ≡ Ok (first, x) = req_again is_read first 0 (max (depth_of first) (depth_of second)) a x (omega arith) p in
    let other : req_at 0 (max (depth_of first) (depth_of second)) (b ++ y) ≡ Ok (second, y) = req_again is_read second 0 (max (depth_of first) (depth_of second)) b y (omega arith) q in
    let same : (first, x) ≡ (second, y) = same_ok (first, x) (second, y) (sym read ∙ ap (req_at 0 (max (depth_of first) (depth_of second))) e ∙ other) in
    let rests : x ≡ y = ap (λ (z : Tree × List ℕ). z.1) same in
    (ap (λ (z : Tree × List ℕ). z.0) same, append_cancel_right a b y (subst (λ (z : List ℕ). a ++ z ≡ b ++ y) rests e))
