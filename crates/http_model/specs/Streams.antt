-- A stream of bytes cut into requests, and how it ends. RFC 9112, sections 2, 6 and 9.3, a subset; the order of the checks and the
-- number of replies are this project's own.
use Rattle.std.specs.Prelude.{◌≡◌, ◌≢◌, ℕ, ◌+◌, ◌<◌, ◌⊎◌, ◌||◌, ◌==◌, Bool, true, false, List, [], ◌∷◌, ◌++◌, length, Result, Ok, Err, ⊤}
use Rattle.httparse.specs.Grammar.{RequestHead}
use Rattle.http_model.specs.Faults.{HttpFault, bad_head}
use Rattle.http_model.specs.Fields.{measured, asks_to_close, pairs_of}
use Rattle.http_model.specs.Heads.{HasHead, IsBadHead, IsOpenHead}
use Rattle.http_model.specs.declared.limits.TheConstants.{REPLY_LIMIT}

-- a request: its head and its body
pub record Request : Type 0 where
  pub head : RequestHead
  pub body : List ℕ

-- the length of the body behind a head, or why it isn't known
abbrev pub measured_of : RequestHead → Result ℕ HttpFault
measured_of h = measured h.method (pairs_of h)

-- the bytes are a request, and then the rest
pub record IsRequest (bytes : List ℕ) (r : Request) (rest : List ℕ) : Type 0 where
  pub head : HasHead bytes r.head (r.body ++ rest)
  pub size : measured_of r.head ≡ Ok (length r.body)

-- the bytes are these requests, and then the rest
abbrev pub AreRequests : List ℕ → List Request → List ℕ → Type 0
AreRequests bytes [] rest = bytes ≡ rest
AreRequests bytes (r ∷ requests) rest = (behind : List ℕ) × IsRequest bytes r behind × AreRequests behind requests rest

-- the reply to the request of this number, counted from 0, ends the connection: it is the last that there may be, or the client is
-- of HTTP/1.0, or asks to close
abbrev pub closes : ℕ → RequestHead → Bool
closes n h = (n + 1 == REPLY_LIMIT) || (h.minor == 0 || asks_to_close (pairs_of h))

-- no reply to these requests, the first of which has the number n, ends the connection
abbrev pub GoOn : ℕ → List Request → Type 0
GoOn n [] = ⊤
GoOn n (r ∷ requests) = (closes n r.head ≡ false) × GoOn (n + 1) requests

-- a head stands at the front, and of it and of what stands behind it this holds
pub record HasHeadThat (P : RequestHead → List ℕ → Type 0) (bytes : List ℕ) : Type 0 where
  pub head : RequestHead
  pub behind : List ℕ
  pub stands : HasHead bytes head behind
  pub that : P head behind

-- the bytes are a part of a head that may still come, or a head and a part of its body
abbrev pub IsCut : List ℕ → Type 0
IsCut bytes =
    ((bytes ≢ []) × IsOpenHead bytes)
    ⊎ HasHeadThat (λ head behind. (size : ℕ) × (measured_of head ≡ Ok size) × (length behind < size)) bytes

-- no head comes, or the length of its body isn't known
abbrev pub IsRefused : List ℕ → HttpFault → Type 0
IsRefused bytes fault = (IsBadHead bytes × (fault ≡ bad_head)) ⊎ HasHeadThat (λ head behind. measured_of head ≡ Err fault) bytes

-- how a stream ends
pub data StreamEnd : Type 0 where
  -- behind a request, or before the first
  closed : StreamEnd
  -- inside a head or a body
  cut : StreamEnd
  -- by a request that is refused
  refused : HttpFault → StreamEnd

-- bytes that aren't a request end so
abbrev pub HasEnd : List ℕ → StreamEnd → Type 0
HasEnd bytes closed = bytes ≡ []
HasEnd bytes cut = IsCut bytes
HasEnd bytes (refused fault) = IsRefused bytes fault

-- the bytes are these requests, the first of which has the number n, and then the stream ends so; behind a request whose reply ends
-- the connection nothing is looked at
abbrev pub IsStream : ℕ → List ℕ → List Request → StreamEnd → Type 0
IsStream n bytes [] end = HasEnd bytes end
IsStream n bytes (r ∷ requests) end =
    (rest : List ℕ) × IsRequest bytes r rest
    × (((closes n r.head ≡ true) × (requests ≡ []) × (end ≡ closed)) ⊎ ((closes n r.head ≡ false) × IsStream (n + 1) rest requests end))
