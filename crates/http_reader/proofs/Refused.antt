-- A head that is refused.
use Rattle.std.proofs.Common.{◌≡◌, ◌≢◌, ℕ, List, inl, inr, refl, Result, Err, IsSome}
use Rattle.httparse.specs.Grammar.{NeverHasRequest}
use Rattle.httparse.specs.Spans.{RequestOverflows, RequestExceeds}
use Rattle.httparse.specs.declared.Error.{Error}
use Rattle.httparse.specs.declared.Error.TheVariants.{HeaderName, HeaderValue, NewLine, Status, Token, TooManyHeaders, Version}
use Rattle.http_model.specs.Heads.{IsBadHead, after_request_line}
use Rattle.http_model.specs.Laws.{AreLookedFor}
use Rattle.http_model.specs.declared.limits.TheConstants.{FIELD_LIMIT}

module _ (laws : AreLookedFor) (bytes : List ℕ) (begun : IsSome (after_request_line bytes)) (over : RequestOverflows FIELD_LIMIT bytes) where
  hopeless : NeverHasRequest bytes → IsBadHead bytes
  hopeless never = record { none = laws.overflows bytes over; why = inl (begun, never) }

  -- whichever error it is
  pub refused : {A : Type 0} (e : Error) → (e ≢ TooManyHeaders → NeverHasRequest bytes) → (◌≡◌ {A = Result A Error} (Err e) (Err TooManyHeaders) → RequestExceeds FIELD_LIMIT bytes) → IsBadHead bytes
  refused TooManyHeaders other many = record { none = laws.overflows bytes over; why = inr (inl (laws.exceeds bytes (many refl))) }
  refused HeaderName other many = hopeless (other (λ e. cc))
  refused HeaderValue other many = hopeless (other (λ e. cc))
  refused NewLine other many = hopeless (other (λ e. cc))
  refused Status other many = hopeless (other (λ e. cc))
  refused Token other many = hopeless (other (λ e. cc))
  refused Version other many = hopeless (other (λ e. cc))
