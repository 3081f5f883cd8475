-- Why a request is refused, and how that is printed. This project's own; the statuses are those of RFC 9110, section 15.
use Rattle.std.specs.Prelude.{ℕ, List, codes}

-- why a request isn't answered as it asks
pub data HttpFault : Type 0 where
  -- no head comes
  bad_head : HttpFault
  -- the body is too long
  too_large : HttpFault
  -- how long the body is isn't said
  no_length : HttpFault
  -- nothing stands at the target
  no_path : HttpFault
  -- the target has another method
  bad_method : HttpFault
  -- the body is no form of one line
  bad_form : HttpFault
  out_of_memory : HttpFault
  -- how long the body is isn't said in digits, or twice
  bad_length : HttpFault
  -- no more turns can be drawn
  spent : HttpFault

-- the refusal of a request, without its LF
abbrev pub http_fault_text : HttpFault → List ℕ
http_fault_text bad_head = codes "refused http 1 BadHead"
http_fault_text too_large = codes "refused http 2 TooLarge"
http_fault_text no_length = codes "refused http 3 NoLength"
http_fault_text no_path = codes "refused http 4 NoPath"
http_fault_text bad_method = codes "refused http 5 BadMethod"
http_fault_text bad_form = codes "refused http 6 BadForm"
http_fault_text out_of_memory = codes "refused http 7 OutOfMemory"
http_fault_text bad_length = codes "refused http 8 BadLength"
http_fault_text spent = codes "refused http 9 Spent"

-- the status of the reply
abbrev pub http_fault_status : HttpFault → ℕ
http_fault_status bad_head = 400
http_fault_status too_large = 413
http_fault_status no_length = 411
http_fault_status no_path = 404
http_fault_status bad_method = 405
http_fault_status bad_form = 400
http_fault_status out_of_memory = 500
http_fault_status bad_length = 400
http_fault_status spent = 503
