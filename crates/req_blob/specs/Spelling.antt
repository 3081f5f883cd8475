-- The bytes of a requirement: the expression opcodes of Apple's requirement.h, one line each.
-- This project's own: an expression is at most 256 deep and a blob has at most 1,048,576 bytes; bytes
-- after an unknown opcode are not filled up; the key of a certificate's field doesn't begin as the
-- text of another opcode does; an object identifier is well formed.
use Rattle.std.specs.Prelude.{ℕ, ℤ, ◌≡◌, ◌+◌, ◌%◌, ◌^◌, ◌<◌, ◌≤◌, false, List, [], ◌++◌, length, FitsSigned}
use Rattle.std.specs.Int.{w32}
use Rattle.req_tree.specs.declared.matching.Match.{Match}
use Rattle.req_tree.specs.declared.matching.Match.TheVariants.{Exists, Absent, Equal, Contains, Begins, Ends, Less, Greater, LessEqual, GreaterEqual}
use Rattle.req_tree.specs.Tree as t
use Rattle.req_tree.specs.Tree.{Tree}
use Rattle.req_tree.specs.Oid.{IsOidBytes}
use Rattle.req_tree.specs.Spellable.{is_reserved, IsSkipFalse, IsSkipNext, IsShallow}
use Rattle.cs_blob.specs.Numbers.{word}
use Rattle.req_blob.specs.declared.limits.TheConstants.{MOST_BYTES}
use Rattle.req_blob.specs.Words.{signed_word, datum, unpadded, match_text}

-- a length that a word holds
abbrev pub IsText : List ℕ → Type 0
IsText bytes = length bytes < 2 ^ 32

-- a number of 32 bits with a sign: a slot of a chain, or a platform
abbrev pub IsSlot : ℤ → Type 0
IsSlot number = FitsSigned w32 number

-- a SHA-1 hash has 20 bytes
abbrev pub IsHash : List ℕ → Type 0
IsHash bytes = length bytes ≡ 20

-- the key of a certificate's field: a text that begins as no other opcode's does
abbrev pub IsFieldKey : List ℕ → Type 0
IsFieldKey key = IsText key × (is_reserved key ≡ false)

-- the bytes of an object identifier, of a length that a word holds
abbrev pub IsOidDatum : List ℕ → Type 0
IsOidDatum bytes = IsText bytes × IsOidBytes bytes

-- a test whose text, where it has one, is of a length that a word holds
abbrev pub IsTest : Match → Type 0
IsTest Exists = Unit {0}
IsTest (Equal value) = IsText value
IsTest (Contains value) = IsText value
IsTest (Begins value) = IsText value
IsTest (Ends value) = IsText value
IsTest (Less value) = IsText value
IsTest (Greater value) = IsText value
IsTest (LessEqual value) = IsText value
IsTest (GreaterEqual value) = IsText value
IsTest Absent = Unit {0}

-- a word whose low 24 bits are the opcode, with any flags in the high eight, and the operands
pub record Marked (opcode : ℕ) (operands bytes : List ℕ) : Type 0 where
  pub first : ℕ
  pub small : first < 2 ^ 32
  pub known : first % 2 ^ 24 ≡ opcode
  pub parts : bytes ≡ word first ++ operands

-- the bytes are an expression, and this is its tree
abbrev pub Spells : Tree → List ℕ → Type 0
Spells t.never bytes = Marked 0 [] bytes
Spells t.always bytes = Marked 1 [] bytes
Spells (t.ident value) bytes = IsText value × Marked 2 (datum value) bytes
Spells t.apple_anchor bytes = Marked 3 [] bytes
Spells (t.anchor_hash slot hash) bytes = IsSlot slot × IsHash hash × Marked 4 (signed_word slot ++ datum hash) bytes
Spells (t.legacy_info key value) bytes = IsText key × IsText value × Marked 5 (datum key ++ datum value) bytes
Spells (t.both left right) bytes = (a b : List ℕ) × Spells left a × Spells right b × Marked 6 (a ++ b) bytes
Spells (t.either left right) bytes = (a b : List ℕ) × Spells left a × Spells right b × Marked 7 (a ++ b) bytes
Spells (t.cd_hash hash) bytes = IsHash hash × Marked 8 (datum hash) bytes
Spells (t.negate inner) bytes = (a : List ℕ) × Spells inner a × Marked 9 a bytes
Spells (t.info_field key test) bytes = IsText key × IsTest test × Marked 10 (datum key ++ match_text test) bytes
Spells (t.cert_field slot key test) bytes = IsSlot slot × IsFieldKey key × IsTest test × Marked 11 (signed_word slot ++ (datum key ++ match_text test)) bytes
Spells (t.trusted_cert slot) bytes = IsSlot slot × Marked 12 (signed_word slot) bytes
Spells t.trusted_any bytes = Marked 13 [] bytes
Spells (t.cert_oid slot oid test) bytes = IsSlot slot × IsOidDatum oid × IsTest test × Marked 14 (signed_word slot ++ (datum oid ++ match_text test)) bytes
Spells t.apple_generic bytes = Marked 15 [] bytes
Spells (t.entitlement_field key test) bytes = IsText key × IsTest test × Marked 16 (datum key ++ match_text test) bytes
Spells (t.cert_policy slot oid test) bytes = IsSlot slot × IsOidDatum oid × IsTest test × Marked 17 (signed_word slot ++ (datum oid ++ match_text test)) bytes
Spells (t.named_anchor name) bytes = IsText name × Marked 18 (datum name) bytes
Spells (t.named_code name) bytes = IsText name × Marked 19 (datum name) bytes
Spells (t.platform number) bytes = IsSlot number × Marked 20 (signed_word number) bytes
Spells t.notarized bytes = Marked 21 [] bytes
Spells t.legacy_dev_id bytes = Marked 23 [] bytes
Spells (t.skip_false op skipped) bytes = IsSkipFalse op × IsText skipped × (bytes ≡ word op ++ unpadded skipped)
Spells (t.skip_next op skipped inner) bytes = (a : List ℕ) × Spells inner a × IsSkipNext op × IsText skipped × (bytes ≡ word op ++ (unpadded skipped ++ a))

-- CSMAGIC_REQUIREMENT of cs_blobs.h
abbrev pub requirement_magic : ℕ
requirement_magic = 0xfade0c00

-- a requirement blob: magic, length, the kind 1 of an expression, and the expression
abbrev pub requirement : List ℕ → List ℕ
requirement expression = word requirement_magic ++ (word (12 + length expression) ++ (word 1 ++ expression))

-- the bytes are one requirement blob, and this is its tree
pub record IsSpelling (tree : Tree) (bytes : List ℕ) : Type 0 where
  pub expression : List ℕ
  pub blob : bytes ≡ requirement expression
  pub spelled : Spells tree expression
  pub shallow : IsShallow tree
  pub short : length bytes ≤ MOST_BYTES

-- the expression without a flag on any known opcode
abbrev pub plain : Tree → List ℕ
plain t.never = word 0
plain t.always = word 1
plain (t.ident value) = word 2 ++ datum value
plain t.apple_anchor = word 3
plain (t.anchor_hash slot hash) = word 4 ++ (signed_word slot ++ datum hash)
plain (t.legacy_info key value) = word 5 ++ (datum key ++ datum value)
plain (t.both left right) = word 6 ++ (plain left ++ plain right)
plain (t.either left right) = word 7 ++ (plain left ++ plain right)
plain (t.cd_hash hash) = word 8 ++ datum hash
plain (t.negate inner) = word 9 ++ plain inner
plain (t.info_field key test) = word 10 ++ (datum key ++ match_text test)
plain (t.cert_field slot key test) = word 11 ++ (signed_word slot ++ (datum key ++ match_text test))
plain (t.trusted_cert slot) = word 12 ++ signed_word slot
plain t.trusted_any = word 13
plain (t.cert_oid slot oid test) = word 14 ++ (signed_word slot ++ (datum oid ++ match_text test))
plain t.apple_generic = word 15
plain (t.entitlement_field key test) = word 16 ++ (datum key ++ match_text test)
plain (t.cert_policy slot oid test) = word 17 ++ (signed_word slot ++ (datum oid ++ match_text test))
plain (t.named_anchor name) = word 18 ++ datum name
plain (t.named_code name) = word 19 ++ datum name
plain (t.platform number) = word 20 ++ signed_word number
plain t.notarized = word 21
plain t.legacy_dev_id = word 23
plain (t.skip_false op skipped) = word op ++ unpadded skipped
plain (t.skip_next op skipped inner) = word op ++ (unpadded skipped ++ plain inner)

-- the one plain blob of a tree
abbrev pub plain_blob : Tree → List ℕ
plain_blob tree = requirement (plain tree)

-- the bytes spell the tree, and carry no flag on a known opcode
pub record IsPlain (tree : Tree) (bytes : List ℕ) : Type 0 where
  pub spelled : IsSpelling tree bytes
  pub plain_is : bytes ≡ plain_blob tree
