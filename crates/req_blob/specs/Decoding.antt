-- A requirement blob read whole, as its tree or the first fault that is met.
use Rattle.std.specs.Prelude.{ℕ, ◌==◌, nat_lt, if◌then◌else◌, List, length, take, drop, Option, Some, None, Result, Ok, Err}
use Rattle.req_tree.specs.Tree.{Tree}
use Rattle.req_tree.specs.declared.limits.TheConstants.{MOST_DEPTH}
use Rattle.req_blob.specs.declared.limits.TheConstants.{MOST_BYTES}
use Rattle.cs_blob.specs.Numbers.{number_at}
use Rattle.cs_blob.specs.Blobs.{blob_fault}
use Rattle.cs_blob.specs.declared.fault.BlobFault.{BlobFault}
use Rattle.req_blob.specs.declared.fault.OpsFault.{OpsFault}
use Rattle.req_blob.specs.declared.fault.OpsFault.TheVariants as fault
use Rattle.req_blob.specs.Spelling.{requirement_magic}
use Rattle.req_blob.specs.Reading.{◌>>=◌, place, word_at, req_at}

-- what the header of a blob tells: its fault, or the blob and what follows it
abbrev pub blob_when : Option BlobFault → List ℕ → Result (List ℕ × List ℕ) OpsFault
blob_when None bytes = Ok (take (number_at 4 bytes) bytes, drop (number_at 4 bytes) bytes)
blob_when (Some why) bytes = Err (fault.Blob why)

-- the blob at the front of the bytes, and what follows it
unfoldable pub blob_at : List ℕ → Result (List ℕ × List ℕ) OpsFault
blob_at bytes = blob_when (blob_fault requirement_magic bytes) bytes

-- a blob's body: the kind 1, and an expression
unfoldable pub body_at : ℕ → List ℕ → Result (Tree × List ℕ) OpsFault
body_at size body = do
  kind ← word_at size body
  if kind.0 == 1 then req_at size MOST_DEPTH kind.1 else Err fault.BadKind

-- nothing is left behind the expression, nor behind the blob
unfoldable pub ended : ℕ → Tree × List ℕ → List ℕ → Result Tree OpsFault
ended size x rest = if length x.1 == 0 then (if length rest == 0 then Ok x.0 else Err (fault.Trailing size)) else Err (fault.Trailing (place size x.1))

-- the tree of a blob with a rest behind it
unfoldable pub whole_of : List ℕ → List ℕ → Result Tree OpsFault
whole_of whole rest =
    if nat_lt MOST_BYTES (length whole) then Err fault.TooLong
    else (body_at (length whole) (drop 8 whole) >>= λ x. ended (length whole) x rest)

-- the tree of bytes that are one blob, or the first fault
unfoldable pub decoded : List ℕ → Result Tree OpsFault
decoded bytes = do
  blob ← blob_at bytes
  whole_of blob.0 blob.1
