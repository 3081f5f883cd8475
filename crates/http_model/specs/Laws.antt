-- What follows from the definitions alone; each is proved on a function of src/laws.rt.
use Rattle.std.specs.Prelude.{◌≡◌, ℕ, ◌+◌, ◌<◌, false, List, [], ◌∷◌, ◌++◌, length, None, IsSome}
use Rattle.httparse.specs.Grammar.{RequestHead, HasNoRequest, MayBecomeRequest}
use Rattle.httparse.specs.Spans.{RequestOverflows, RequestExceeds}
use Rattle.http_model.specs.Faults.{HttpFault}
use Rattle.http_model.specs.Heads.{HasHead, HasNoHead, IsBadHead, IsOpenHead, IsHopeless, HasFieldTooMany, after_request_line}
use Rattle.http_model.specs.Replies.{Reply, reply_text, replies_text}
use Rattle.http_model.specs.Streams.{Request, IsRequest, AreRequests, closes, GoOn, StreamEnd, refused, IsStream}
use Rattle.http_model.specs.declared.limits.TheConstants.{HEAD_LIMIT, FIELD_LIMIT}

-- bytes begin with at most one head
abbrev pub HasOneHead : Type 0
HasOneHead = (bytes : List ℕ) (h k : RequestHead) (rest more : List ℕ) → HasHead bytes h rest → HasHead bytes k more → (h ≡ k) × (rest ≡ more)

-- a head stays one, whatever follows
abbrev pub HeadsStay : Type 0
HeadsStay = (bytes more : List ℕ) (h : RequestHead) (rest : List ℕ) → HasHead bytes h rest → HasHead (bytes ++ more) h (rest ++ more)

-- and a bad one stays bad
abbrev pub BadHeadsStay : Type 0
BadHeadsStay = (bytes more : List ℕ) → IsBadHead bytes → IsBadHead (bytes ++ more)

-- how whoever looks for a head knows what bytes are
pub record AreLookedFor : Type 0 where
  -- the request line has no LF yet
  pub no_line : (bytes : List ℕ) → after_request_line bytes ≡ None → HasNoHead bytes
  -- fewer bytes than a head may have, and no request line
  pub not_begun : (bytes : List ℕ) → after_request_line bytes ≡ None → length bytes < HEAD_LIMIT → IsOpenHead bytes
  pub no_request : (bytes : List ℕ) → HasNoRequest bytes → HasNoHead bytes
  pub overflows : (bytes : List ℕ) → RequestOverflows FIELD_LIMIT bytes → HasNoHead bytes
  pub exceeds : (bytes : List ℕ) → RequestExceeds FIELD_LIMIT bytes → HasFieldTooMany bytes
  pub may_become : (bytes : List ℕ) → IsSome (after_request_line bytes) → MayBecomeRequest bytes → ¬ (IsHopeless bytes)

-- what a caller who takes request after request off a stream may rely on
pub record RequestsAddUp : Type 0 where
  -- requests stay, whatever follows
  pub stay : (bytes more : List ℕ) (requests : List Request) (rest : List ℕ) → AreRequests bytes requests rest → AreRequests (bytes ++ more) requests (rest ++ more)
  -- one more is taken off
  pub one : (bytes : List ℕ) (requests : List Request) (r : Request) (behind rest : List ℕ) → AreRequests bytes requests behind → IsRequest behind r rest
      → AreRequests bytes (requests ++ r ∷ []) rest
  -- and replied to
  pub texts : (n : ℕ) (requests : List Request) (r : Request) (replies : List Reply) (reply : Reply) → length requests ≡ length replies
      → replies_text n (requests ++ r ∷ []) (replies ++ reply ∷ []) ≡ replies_text n requests replies ++ reply_text reply (closes (n + length requests) r.head)
  -- and the connection goes on
  pub going : (n : ℕ) (requests : List Request) (r : Request) → GoOn n requests → closes (n + length requests) r.head ≡ false → GoOn n (requests ++ r ∷ [])
  -- requests behind which it goes on, and then a stream, are a stream
  pub whole : (n : ℕ) (bytes : List ℕ) (requests more : List Request) (rest : List ℕ) (end : StreamEnd) → AreRequests bytes requests rest → GoOn n requests
      → IsStream (n + length requests) rest more end → IsStream n bytes (requests ++ more) end

-- a stream is cut into requests in one way, and ends in one way
abbrev pub HasOneStream : Type 0
HasOneStream = (n : ℕ) (bytes : List ℕ) (requests others : List Request) (end other : StreamEnd) → IsStream n bytes requests end → IsStream n bytes others other
    → (requests ≡ others) × (end ≡ other)

-- whatever follows, a request that is refused stays refused, and its stream as it was
abbrev pub RefusalsStay : Type 0
RefusalsStay = (n : ℕ) (bytes more : List ℕ) (requests : List Request) (fault : HttpFault) → IsStream n bytes requests (refused fault)
    → IsStream n (bytes ++ more) requests (refused fault)
