-- An expression read from the front, as the first fault that is met or a tree and what follows it.
use Rattle.std.specs.Prelude.{ℕ, ◌≡◌, ◌≢◌, ◌+◌, ◌-◌, ◌==◌, nat_lt, if◌then◌else◌, zero, suc, List, length, take, drop, Result, Ok, Err, ℤ}
use Rattle.std.specs.Int.{w32, from_be_bytes, cast_signed}
use Rattle.std.specs.List.{list_all}
use Rattle.req_tree.specs.declared.matching.Match.{Match}
use Rattle.req_tree.specs.declared.matching.Match.TheVariants.{Exists, Absent, Equal, Contains, Begins, Ends, Less, Greater, LessEqual, GreaterEqual}
use Rattle.req_tree.specs.Tree as t
use Rattle.req_tree.specs.Tree.{Tree}
use Rattle.req_tree.specs.OidReading.{is_oid}
use Rattle.req_blob.specs.declared.fault.OpsFault.{OpsFault}
use Rattle.req_blob.specs.declared.fault.OpsFault.TheVariants as fault
use Rattle.req_blob.specs.declared.opcode.Leaf.{Leaf}
use Rattle.req_blob.specs.declared.opcode.Leaf.TheVariants as l
use Rattle.req_blob.specs.declared.opcode.Opcode.{Opcode}
use Rattle.req_blob.specs.declared.opcode.Opcode.TheVariants as o
use Rattle.req_blob.specs.Words.{padding}
use Rattle.req_tree.specs.Spellable.{is_reserved}
use Rattle.req_blob.specs.Opcodes.{opcode_of}

-- one step after another, up to the first fault
infixl 10 ◌>>=◌
abbrev pub ◌>>=◌ : {A B : Type 0} → Result A OpsFault → (A → Result B OpsFault) → Result B OpsFault
(Ok x) >>= f = f x
(Err e) >>= f = Err e

-- what a call returned, seen by view, is what the reading says, unless there was no memory
abbrev pub Gives : {X Y : Type 0} → (X → Y) → Result X OpsFault → Result Y OpsFault → Type 0
Gives view (Ok x) read = read ≡ Ok (view x)
Gives view (Err e) read = e ≢ fault.OutOfMemory → read ≡ Err e

-- where the rest begins in a blob of this size
abbrev pub place : ℕ → List ℕ → ℕ
place size rest = size - length rest

-- four bytes, the highest first
unfoldable pub word_at : ℕ → List ℕ → Result (ℕ × List ℕ) OpsFault
word_at size bytes = if nat_lt (length bytes) 4 then Err (fault.Cut (place size bytes)) else Ok (from_be_bytes w32 (take 4 bytes), drop 4 bytes)

-- a word in two's complement
unfoldable pub signed_at : ℕ → List ℕ → Result (ℤ × List ℕ) OpsFault
signed_at size bytes = do
  n ← word_at size bytes
  Ok (cast_signed w32 n.0, n.1)

-- the bytes of a datum that begins at a place, behind its length
unfoldable pub padded_at : ℕ → ℕ → List ℕ → Result (List ℕ × List ℕ) OpsFault
padded_at at count rest =
    if nat_lt (length rest) (count + padding count) then Err (fault.Cut at)
    else (if list_all (λ b. b == 0) (take (padding count) (drop count rest)) then Ok (take count rest, drop (padding count) (drop count rest)) else Err (fault.BadPadding at))

-- a length, that many bytes, and the zeros that fill them up
unfoldable pub datum_at : ℕ → List ℕ → Result (List ℕ × List ℕ) OpsFault
datum_at size bytes = do
  n ← word_at size bytes
  padded_at (place size bytes) n.0 n.1

-- the bytes behind an unknown opcode, which nothing fills up
unfoldable pub unpadded_at : ℕ → List ℕ → Result (List ℕ × List ℕ) OpsFault
unpadded_at size bytes = do
  n ← word_at size bytes
  if nat_lt (length n.1) n.0 then Err (fault.Cut (place size bytes)) else Ok (take n.0 n.1, drop n.0 n.1)

-- a datum of 20 bytes
unfoldable pub hash_at : ℕ → List ℕ → Result (List ℕ × List ℕ) OpsFault
hash_at size bytes = do
  x ← datum_at size bytes
  if length x.0 == 20 then Ok x else Err (fault.BadHashLength (place size bytes))

-- a datum that is no key of another opcode's text
unfoldable pub key_at : ℕ → List ℕ → Result (List ℕ × List ℕ) OpsFault
key_at size bytes = do
  x ← datum_at size bytes
  if is_reserved x.0 then Err (fault.BadKey (place size bytes)) else Ok x

-- the object identifier in a datum that begins at a place
unfoldable pub oid_of : ℕ → List ℕ → Result (List ℕ) OpsFault
oid_of at text = if is_oid text then Ok text else Err (fault.BadOid at)

-- a datum that is an object identifier
unfoldable pub oid_at : ℕ → List ℕ → Result (List ℕ × List ℕ) OpsFault
oid_at size bytes = do
  x ← datum_at size bytes
  oid ← oid_of (place size bytes) x.0
  Ok (oid, x.1)

-- the comparison of a suffix from 1 to 8
abbrev pub comparison : ℕ → List ℕ → Match
comparison suffix value =
    if suffix == 1 then Equal value
    else (if suffix == 2 then Contains value
    else (if suffix == 3 then Begins value
    else (if suffix == 4 then Ends value
    else (if suffix == 5 then Less value
    else (if suffix == 6 then Greater value
    else (if suffix == 7 then LessEqual value else GreaterEqual value))))))

-- a comparison: the text behind its suffix
unfoldable pub comparison_at : ℕ → ℕ → List ℕ → Result (Match × List ℕ) OpsFault
comparison_at size suffix bytes = do
  x ← datum_at size bytes
  Ok (comparison suffix x.0, x.1)

-- a test, whose suffix stands at a place
unfoldable pub test_at : ℕ → ℕ → ℕ → List ℕ → Result (Match × List ℕ) OpsFault
test_at size at suffix rest =
    if suffix == 0 then Ok (Exists, rest)
    else (if suffix == 14 then Ok (Absent, rest) else (if nat_lt 8 suffix then Err (fault.UnknownMatch at suffix) else comparison_at size suffix rest))

-- a suffix, and the test that it begins
unfoldable pub match_at : ℕ → List ℕ → Result (Match × List ℕ) OpsFault
match_at size bytes = do
  n ← word_at size bytes
  test_at size (place size bytes) n.0 n.1

-- operands of an identifier: the text
unfoldable pub ident_at : ℕ → List ℕ → Result (Tree × List ℕ) OpsFault
ident_at size bytes = do
  value ← datum_at size bytes
  Ok (t.ident value.0, value.1)

-- operands of a hash in the chain: slot and hash
unfoldable pub anchor_hash_at : ℕ → List ℕ → Result (Tree × List ℕ) OpsFault
anchor_hash_at size bytes = do
  slot ← signed_at size bytes
  hash ← hash_at size slot.1
  Ok (t.anchor_hash slot.0 hash.0, hash.1)

-- operands of the old test of an Info key: key and text
unfoldable pub legacy_info_at : ℕ → List ℕ → Result (Tree × List ℕ) OpsFault
legacy_info_at size bytes = do
  key ← datum_at size bytes
  value ← datum_at size key.1
  Ok (t.legacy_info key.0 value.0, value.1)

-- operands of a cdhash: the hash
unfoldable pub cd_hash_at : ℕ → List ℕ → Result (Tree × List ℕ) OpsFault
cd_hash_at size bytes = do
  hash ← hash_at size bytes
  Ok (t.cd_hash hash.0, hash.1)

-- operands of an Info key: key and test
unfoldable pub info_field_at : ℕ → List ℕ → Result (Tree × List ℕ) OpsFault
info_field_at size bytes = do
  key ← datum_at size bytes
  test ← match_at size key.1
  Ok (t.info_field key.0 test.0, test.1)

-- operands of a certificate's field: slot, key and test
unfoldable pub cert_field_at : ℕ → List ℕ → Result (Tree × List ℕ) OpsFault
cert_field_at size bytes = do
  slot ← signed_at size bytes
  key ← key_at size slot.1
  test ← match_at size key.1
  Ok (t.cert_field slot.0 key.0 test.0, test.1)

-- operands of a trusted certificate: the slot
unfoldable pub trusted_cert_at : ℕ → List ℕ → Result (Tree × List ℕ) OpsFault
trusted_cert_at size bytes = do
  slot ← signed_at size bytes
  Ok (t.trusted_cert slot.0, slot.1)

-- operands of a certificate's extension: slot, object identifier and test
unfoldable pub cert_oid_at : ℕ → List ℕ → Result (Tree × List ℕ) OpsFault
cert_oid_at size bytes = do
  slot ← signed_at size bytes
  oid ← oid_at size slot.1
  test ← match_at size oid.1
  Ok (t.cert_oid slot.0 oid.0 test.0, test.1)

-- operands of an entitlement: key and test
unfoldable pub entitlement_field_at : ℕ → List ℕ → Result (Tree × List ℕ) OpsFault
entitlement_field_at size bytes = do
  key ← datum_at size bytes
  test ← match_at size key.1
  Ok (t.entitlement_field key.0 test.0, test.1)

-- operands of a certificate's policy: slot, object identifier and test
unfoldable pub cert_policy_at : ℕ → List ℕ → Result (Tree × List ℕ) OpsFault
cert_policy_at size bytes = do
  slot ← signed_at size bytes
  oid ← oid_at size slot.1
  test ← match_at size oid.1
  Ok (t.cert_policy slot.0 oid.0 test.0, test.1)

-- operands of an anchor by name: the name
unfoldable pub named_anchor_at : ℕ → List ℕ → Result (Tree × List ℕ) OpsFault
named_anchor_at size bytes = do
  name ← datum_at size bytes
  Ok (t.named_anchor name.0, name.1)

-- operands of code by name: the name
unfoldable pub named_code_at : ℕ → List ℕ → Result (Tree × List ℕ) OpsFault
named_code_at size bytes = do
  name ← datum_at size bytes
  Ok (t.named_code name.0, name.1)

-- operands of a platform: its number
unfoldable pub platform_at : ℕ → List ℕ → Result (Tree × List ℕ) OpsFault
platform_at size bytes = do
  number ← signed_at size bytes
  Ok (t.platform number.0, number.1)

-- the operands of an opcode without subexpressions
unfoldable pub leaf_at : ℕ → Leaf → List ℕ → Result (Tree × List ℕ) OpsFault
leaf_at size l.Never bytes = Ok (t.never, bytes)
leaf_at size l.Always bytes = Ok (t.always, bytes)
leaf_at size l.Ident bytes = ident_at size bytes
leaf_at size l.AppleAnchor bytes = Ok (t.apple_anchor, bytes)
leaf_at size l.AnchorHash bytes = anchor_hash_at size bytes
leaf_at size l.LegacyInfo bytes = legacy_info_at size bytes
leaf_at size l.CdHash bytes = cd_hash_at size bytes
leaf_at size l.InfoField bytes = info_field_at size bytes
leaf_at size l.CertField bytes = cert_field_at size bytes
leaf_at size l.TrustedCert bytes = trusted_cert_at size bytes
leaf_at size l.TrustedAny bytes = Ok (t.trusted_any, bytes)
leaf_at size l.CertOid bytes = cert_oid_at size bytes
leaf_at size l.AppleGeneric bytes = Ok (t.apple_generic, bytes)
leaf_at size l.EntitlementField bytes = entitlement_field_at size bytes
leaf_at size l.CertPolicy bytes = cert_policy_at size bytes
leaf_at size l.NamedAnchor bytes = named_anchor_at size bytes
leaf_at size l.NamedCode bytes = named_code_at size bytes
leaf_at size l.Platform bytes = platform_at size bytes
leaf_at size l.Notarized bytes = Ok (t.notarized, bytes)
leaf_at size l.LegacyDevId bytes = Ok (t.legacy_dev_id, bytes)

-- behind an unknown opcode that is false: the bytes that it counts
unfoldable pub skip_false_at : ℕ → ℕ → List ℕ → Result (Tree × List ℕ) OpsFault
skip_false_at size op bytes = do
  skipped ← unpadded_at size bytes
  Ok (t.skip_false op skipped.0, skipped.1)

-- a reading of one expression
abbrev pub Reader : Type 0
Reader = List ℕ → Result (Tree × List ℕ) OpsFault

-- two expressions that both have to hold
unfoldable pub both_at : Reader → Reader
both_at next bytes = do
  left ← next bytes
  right ← next left.1
  Ok (t.both left.0 right.0, right.1)

-- two expressions of which one has to hold
unfoldable pub either_at : Reader → Reader
either_at next bytes = do
  left ← next bytes
  right ← next left.1
  Ok (t.either left.0 right.0, right.1)

-- an expression that may not hold
unfoldable pub negate_at : Reader → Reader
negate_at next bytes = do
  inner ← next bytes
  Ok (t.negate inner.0, inner.1)

-- behind an unknown opcode that is passed over: the bytes that it counts, and an expression
unfoldable pub skip_next_at : Reader → ℕ → ℕ → Reader
skip_next_at next size op bytes = do
  skipped ← unpadded_at size bytes
  inner ← next skipped.1
  Ok (t.skip_next op skipped.0 inner.0, inner.1)

-- what follows an opcode that stands at a place
abbrev pub operands_at : Reader → ℕ → ℕ → ℕ → Opcode → Reader
operands_at next size at op (o.Leaf leaf) bytes = leaf_at size leaf bytes
operands_at next size at op o.Both bytes = both_at next bytes
operands_at next size at op o.Either bytes = either_at next bytes
operands_at next size at op o.Negate bytes = negate_at next bytes
operands_at next size at op o.OutOfScope bytes = Err (fault.OutOfScopeOp at)
operands_at next size at op o.SkipFalse bytes = skip_false_at size op bytes
operands_at next size at op o.SkipNext bytes = skip_next_at next size op bytes
operands_at next size at op o.Unknown bytes = Err (fault.UnknownOp at op)

-- an expression of at most this depth, in a blob of this size
unfoldable pub req_at : ℕ → ℕ → Reader
req_at size zero bytes = Err (fault.TooDeep (place size bytes))
req_at size (suc depth) bytes = do
  n ← word_at size bytes
  operands_at (req_at size depth) size (place size bytes) n.0 (opcode_of n.0) n.1
