-- The code of a tree, for the models whose value holds one: a tree is stored as a requirement of the
-- program with pointers that lead nowhere.
use denote.RawPtr.{null_ptr}
use Rattle.std.specs.Prelude.{Box, ◌≡◌, refl}
use Rattle.std.proofs.Common.{◌∙◌, ap}
use Rattle.std.specs.Coded.{Coded, code_by}
use Rattle.std.specs.declared.alloc.Global.{Global}
use Rattle.req_tree.specs.declared.req.Req as req
use Rattle.req_tree.specs.declared.req.Req.{Req}
use Rattle.req_tree.specs.contracts.req.Req as req_contract
use Rattle.req_tree.specs.Tree as t
use Rattle.req_tree.specs.Tree.{Tree, tree_of}

-- a pointer that nothing reads
abbrev pub nowhere : Box (Unit {0}) Global
nowhere = record { ptr = null_ptr; alloc = record { memory = record { seal = tt } }; value = tt }

-- a requirement whose tree this is
abbrev pub req_of : Tree → Req
req_of t.never = req.Never
req_of t.always = req.Always
req_of (t.ident value) = req.Ident value
req_of t.apple_anchor = req.AppleAnchor
req_of (t.anchor_hash slot hash) = req.AnchorHash slot (record { bytes = hash })
req_of (t.legacy_info key value) = req.LegacyInfo key value
req_of (t.both left right) = req.Both' nowhere (req_of left) nowhere (req_of right)
req_of (t.either left right) = req.Either' nowhere (req_of left) nowhere (req_of right)
req_of (t.cd_hash hash) = req.CdHash (record { bytes = hash })
req_of (t.negate inner) = req.Negate' nowhere (req_of inner)
req_of (t.info_field key test) = req.InfoField key test
req_of (t.cert_field slot key test) = req.CertField slot key test
req_of (t.trusted_cert slot) = req.TrustedCert slot
req_of t.trusted_any = req.TrustedAny
req_of (t.cert_oid slot oid test) = req.CertOid slot oid test
req_of t.apple_generic = req.AppleGeneric
req_of (t.entitlement_field key test) = req.EntitlementField key test
req_of (t.cert_policy slot oid test) = req.CertPolicy slot oid test
req_of (t.named_anchor name) = req.NamedAnchor name
req_of (t.named_code name) = req.NamedCode name
req_of (t.platform number) = req.Platform number
req_of t.notarized = req.Notarized
req_of t.legacy_dev_id = req.LegacyDevId
req_of (t.skip_false op skipped) = req.SkipFalse op skipped
req_of (t.skip_next op skipped inner) = req.SkipNext' op skipped nowhere (req_of inner)

-- its tree is the tree again
pub tree_of-req_of : (tree : Tree) → tree_of (req_of tree) ≡ tree
tree_of-req_of t.never = refl
tree_of-req_of t.always = refl
tree_of-req_of (t.ident value) = refl
tree_of-req_of t.apple_anchor = refl
tree_of-req_of (t.anchor_hash slot hash) = refl
tree_of-req_of (t.legacy_info key value) = refl
tree_of-req_of (t.both left right) = ap (λ (x : Tree). t.both x (tree_of (req_of right))) (tree_of-req_of left) ∙ ap (t.both left) (tree_of-req_of right)
tree_of-req_of (t.either left right) = ap (λ (x : Tree). t.either x (tree_of (req_of right))) (tree_of-req_of left) ∙ ap (t.either left) (tree_of-req_of right)
tree_of-req_of (t.cd_hash hash) = refl
tree_of-req_of (t.negate inner) = ap t.negate (tree_of-req_of inner)
tree_of-req_of (t.info_field key test) = refl
tree_of-req_of (t.cert_field slot key test) = refl
tree_of-req_of (t.trusted_cert slot) = refl
tree_of-req_of t.trusted_any = refl
tree_of-req_of (t.cert_oid slot oid test) = refl
tree_of-req_of t.apple_generic = refl
tree_of-req_of (t.entitlement_field key test) = refl
tree_of-req_of (t.cert_policy slot oid test) = refl
tree_of-req_of (t.named_anchor name) = refl
tree_of-req_of (t.named_code name) = refl
tree_of-req_of (t.platform number) = refl
tree_of-req_of t.notarized = refl
tree_of-req_of t.legacy_dev_id = refl
tree_of-req_of (t.skip_false op skipped) = refl
tree_of-req_of (t.skip_next op skipped inner) = ap (t.skip_next op skipped) (tree_of-req_of inner)

-- trees by requirements
abbrev pub tree_code : Coded Tree
tree_code = code_by Req req_contract.the_row.coded req_of tree_of tree_of-req_of
