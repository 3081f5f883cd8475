-- Operands whose key has to be looked at.
use Rattle.std.specs.Prelude.{Bool, true, false}
use Rattle.req_tree.specs.Tree as t
use Rattle.req_tree.specs.Tree.{Tree}

-- a test of a certificate's field
abbrev pub is_cert_field : Tree → Bool
is_cert_field (t.cert_field slot key test) = true
is_cert_field tree = false
