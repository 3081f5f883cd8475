-- Which trees have a text that can be read. This project's own.
use Rattle.std.specs.Prelude.{ℕ, ◌≡◌, List, length, FitsSigned}
use Rattle.std.specs.Int.{w32}
use Rattle.req_tree.specs.declared.matching.Match.{Match}
use Rattle.req_tree.specs.declared.matching.Match.TheVariants.{Exists, Absent, Equal, Contains, Begins, Ends, Less, Greater, LessEqual, GreaterEqual}
use Rattle.req_tree.specs.Tree as t
use Rattle.req_tree.specs.Tree.{Tree}
use Rattle.req_tree.specs.Oid.{IsBytes, IsOidBytes}
use Rattle.req_tree.specs.Spellable.{CanSpell}

-- what is asked of a value compares it with bytes, if at all
abbrev pub IsTest : Match → Type 0
IsTest Exists = Unit {0}
IsTest Absent = Unit {0}
IsTest (Equal s) = IsBytes s
IsTest (Contains s) = IsBytes s
IsTest (Begins s) = IsBytes s
IsTest (Ends s) = IsBytes s
IsTest (Less s) = IsBytes s
IsTest (Greater s) = IsBytes s
IsTest (LessEqual s) = IsBytes s
IsTest (GreaterEqual s) = IsBytes s

-- 20 bytes
pub record IsHash (hash : List ℕ) : Type 0 where
  pub bytes : IsBytes hash
  pub size : length hash ≡ 20

-- what the program's types keep of a tree: strings are bytes, hashes have 20 of them, numbers have 32 bits,
-- and object identifiers are whole
abbrev pub IsKept : Tree → Type 0
IsKept (t.ident value) = IsBytes value
IsKept (t.anchor_hash slot hash) = FitsSigned w32 slot × IsHash hash
IsKept (t.legacy_info key value) = IsBytes key × IsBytes value
IsKept (t.both left right) = IsKept left × IsKept right
IsKept (t.either left right) = IsKept left × IsKept right
IsKept (t.cd_hash hash) = IsHash hash
IsKept (t.negate inner) = IsKept inner
IsKept (t.info_field key test) = IsBytes key × IsTest test
IsKept (t.cert_field slot key test) = FitsSigned w32 slot × IsBytes key × IsTest test
IsKept (t.trusted_cert slot) = FitsSigned w32 slot
IsKept (t.cert_oid slot oid test) = FitsSigned w32 slot × IsOidBytes oid × IsTest test
IsKept (t.entitlement_field key test) = IsBytes key × IsTest test
IsKept (t.cert_policy slot oid test) = FitsSigned w32 slot × IsOidBytes oid × IsTest test
IsKept (t.named_anchor name) = IsBytes name
IsKept (t.named_code name) = IsBytes name
IsKept (t.platform number) = FitsSigned w32 number
IsKept (t.skip_next op skipped inner) = IsKept inner
IsKept tree = Unit {0}

-- what the types keep, and no key of a field stands for another test
pub record IsSayable (tree : Tree) : Type 0 where
  pub kept : IsKept tree
  pub spellable : CanSpell tree
