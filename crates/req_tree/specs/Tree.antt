-- A requirement as a plain tree: the opcodes of Apple's Code Signing Requirement Language
-- (requirement.h); the two skips are its reading of opcodes that are not known.
use Rattle.std.specs.Prelude.{ℕ, ℤ, List}
use Rattle.req_tree.specs.declared.matching.Match.{Match}
use Rattle.req_tree.specs.declared.req.Req as req
use Rattle.req_tree.specs.declared.req.Req.{Req}

-- texts, keys, hashes and object identifiers are their bytes
pub data Tree : Type 0 where
  never : Tree
  always : Tree
  ident : List ℕ → Tree
  apple_anchor : Tree
  anchor_hash : ℤ → List ℕ → Tree
  legacy_info : List ℕ → List ℕ → Tree
  both : Tree → Tree → Tree
  either : Tree → Tree → Tree
  cd_hash : List ℕ → Tree
  negate : Tree → Tree
  info_field : List ℕ → Match → Tree
  cert_field : ℤ → List ℕ → Match → Tree
  trusted_cert : ℤ → Tree
  trusted_any : Tree
  cert_oid : ℤ → List ℕ → Match → Tree
  apple_generic : Tree
  entitlement_field : List ℕ → Match → Tree
  cert_policy : ℤ → List ℕ → Match → Tree
  named_anchor : List ℕ → Tree
  named_code : List ℕ → Tree
  platform : ℤ → Tree
  notarized : Tree
  legacy_dev_id : Tree
  skip_false : ℕ → List ℕ → Tree
  skip_next : ℕ → List ℕ → Tree → Tree

-- the tree that a requirement of the program is
abbrev pub tree_of : Req → Tree
tree_of req.Never = never
tree_of req.Always = always
tree_of (req.Ident value) = ident value
tree_of req.AppleAnchor = apple_anchor
tree_of (req.AnchorHash slot hash) = anchor_hash slot hash.bytes
tree_of (req.LegacyInfo key value) = legacy_info key value
tree_of (req.Both' _ left _ right) = both (tree_of left) (tree_of right)
tree_of (req.Either' _ left _ right) = either (tree_of left) (tree_of right)
tree_of (req.CdHash hash) = cd_hash hash.bytes
tree_of (req.Negate' _ inner) = negate (tree_of inner)
tree_of (req.InfoField key test) = info_field key test
tree_of (req.CertField slot key test) = cert_field slot key test
tree_of (req.TrustedCert slot) = trusted_cert slot
tree_of req.TrustedAny = trusted_any
tree_of (req.CertOid slot oid test) = cert_oid slot oid test
tree_of req.AppleGeneric = apple_generic
tree_of (req.EntitlementField key test) = entitlement_field key test
tree_of (req.CertPolicy slot oid test) = cert_policy slot oid test
tree_of (req.NamedAnchor name) = named_anchor name
tree_of (req.NamedCode name) = named_code name
tree_of (req.Platform number) = platform number
tree_of req.Notarized = notarized
tree_of req.LegacyDevId = legacy_dev_id
tree_of (req.SkipFalse op skipped) = skip_false op skipped
tree_of (req.SkipNext' op skipped _ inner) = skip_next op skipped (tree_of inner)
