-- The laws of the crates below that the lemmas here take as arguments, each as its public function says it.
use Rattle.std.proofs.Common.{◌≡◌, ℕ, true, List, ◌++◌, take, drop, None}
use Rattle.req_tree.specs.Oid.{IsBytes, IsOidBytes}
use Rattle.req_tree.specs.OidReading.{is_oid}
use Rattle.cs_blob.specs.Numbers.{number_at}
use Rattle.cs_blob.specs.Blobs.{IsBlob, blob_fault}

-- an_oid_is_read_where_it_is of req_tree
abbrev pub OidIsRead : Type 0
OidIsRead = (bytes : List ℕ) → (IsBytes bytes → is_oid bytes ≡ true → IsOidBytes bytes) × (IsOidBytes bytes → is_oid bytes ≡ true)

-- a_blob_is_read_where_it_is of cs_blob, its clause found
abbrev pub BlobIsFound : Type 0
BlobIsFound = (magic : ℕ) (bytes : List ℕ) → blob_fault magic bytes ≡ None → IsBlob magic (take (number_at 4 bytes) bytes)

-- a_blob_is_read_where_it_is of cs_blob, its clause only
abbrev pub OnlyBlob : Type 0
OnlyBlob = (magic : ℕ) (bytes whole rest : List ℕ) → IsBlob magic whole → bytes ≡ whole ++ rest → (blob_fault magic bytes ≡ None) × (take (number_at 4 bytes) bytes ≡ whole) × (drop (number_at 4 bytes) bytes ≡ rest)
