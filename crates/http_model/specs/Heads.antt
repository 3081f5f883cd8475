-- The head at the front of a stream of bytes, and when there can be none. RFC 9112, sections 2 and 3, as `httparse` reads it;
-- the limits are this project's own.
use Rattle.std.specs.Prelude.{ℕ, zero, suc, ◌≤◌, ◌⊎◌, Bool, false, ◌==◌, ◌||◌, not, IsTrue, List, [], ◌∷◌, length, Option, Some, None, IsSome, if◌then◌else◌}
use Rattle.httparse.specs.Grammar.{RequestHead, ReadsRequest, NeverHasRequest, print_request}
use Rattle.http_model.specs.declared.limits.TheConstants.{HEAD_LIMIT, FIELD_LIMIT}

-- the bytes are a head within the limits, and then the rest
pub record HasHead (bytes : List ℕ) (h : RequestHead) (rest : List ℕ) : Type 0 where
  pub reads : ReadsRequest bytes h rest
  pub size : length (print_request h) ≤ HEAD_LIMIT
  pub fields : length h.fields ≤ FIELD_LIMIT

-- no front of the bytes is a head within the limits
abbrev pub HasNoHead : List ℕ → Type 0
HasNoHead bytes = (h : RequestHead) (rest : List ℕ) → ¬ (HasHead bytes h rest)

-- CR or LF
abbrev pub is_end_byte : ℕ → Bool
is_end_byte b = b == 13 || b == 10

-- what follows the first LF
abbrev pub after_line : List ℕ → Option (List ℕ)
after_line [] = None
after_line (b ∷ bytes) = if b == 10 then Some bytes else after_line bytes

-- what follows the LF of the first line that has a byte other than CR before its LF
abbrev pub after_request_line : List ℕ → Option (List ℕ)
after_request_line [] = None
after_request_line (b ∷ bytes) = if is_end_byte b then after_request_line bytes else after_line bytes

-- the bytes begin with one that is neither CR nor LF
abbrev pub begins_field : List ℕ → Bool
begins_field [] = false
begins_field (b ∷ bytes) = not (is_end_byte b)

-- behind so many lines a line has begun that isn't empty
abbrev pub has_begun : ℕ → Option (List ℕ) → Bool
has_begun n None = false
has_begun zero (Some bytes) = begins_field bytes
has_begun (suc n) (Some bytes) = has_begun n (after_line bytes)

-- one field too many has begun
abbrev pub HasFieldTooMany : List ℕ → Type 0
HasFieldTooMany bytes = IsTrue (has_begun FIELD_LIMIT (after_request_line bytes))

-- the request line has ended, and no bytes can follow that make a head
abbrev pub IsHopeless : List ℕ → Type 0
IsHopeless bytes = IsSome (after_request_line bytes) × NeverHasRequest bytes

-- no front is a head, and none will be
pub record IsBadHead (bytes : List ℕ) : Type 0 where
  pub none : HasNoHead bytes
  pub why : IsHopeless bytes ⊎ (HasFieldTooMany bytes ⊎ (HEAD_LIMIT ≤ length bytes))

-- no front is a head, and one may come
pub record IsOpenHead (bytes : List ℕ) : Type 0 where
  pub none : HasNoHead bytes
  pub open_yet : ¬ (IsBadHead bytes)
