-- What the program's types keep of a tree, and as which bytes it is written.
use Rattle.std.specs.Prelude.{ℕ, nat_lt, if◌then◌else◌, List, length, Result, Ok, Err}
use Rattle.req_tree.specs.Tree as t
use Rattle.req_tree.specs.Tree.{Tree}
use Rattle.req_tree.specs.Oid.{IsOidBytes}
use Rattle.req_blob.specs.declared.fault.OpsFault.{OpsFault}
use Rattle.req_blob.specs.declared.fault.OpsFault.TheVariants as fault
use Rattle.req_blob.specs.declared.limits.TheConstants.{MOST_BYTES}
use Rattle.req_blob.specs.Spelling.{IsSlot, IsHash, plain_blob}

-- what the program's types keep of a tree: numbers of 32 bits, hashes of 20 bytes, object identifiers
abbrev pub HasFields : Tree → Type 0
HasFields (t.both left right) = HasFields left × HasFields right
HasFields (t.either left right) = HasFields left × HasFields right
HasFields (t.negate inner) = HasFields inner
HasFields (t.skip_next op skipped inner) = HasFields inner
HasFields (t.anchor_hash slot hash) = IsSlot slot × IsHash hash
HasFields (t.cd_hash hash) = IsHash hash
HasFields (t.cert_field slot key test) = IsSlot slot
HasFields (t.trusted_cert slot) = IsSlot slot
HasFields (t.cert_oid slot oid test) = IsSlot slot × IsOidBytes oid
HasFields (t.cert_policy slot oid test) = IsSlot slot × IsOidBytes oid
HasFields (t.platform number) = IsSlot number
HasFields tree = Unit {0}

-- the plain blob, unless it has more bytes than a blob may have
abbrev pub encoded : Tree → Result (List ℕ) OpsFault
encoded tree = if nat_lt MOST_BYTES (length (plain_blob tree)) then Err fault.TooLong else Ok (plain_blob tree)
