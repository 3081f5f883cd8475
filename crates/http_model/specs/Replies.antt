-- Replies and their bytes. RFC 9112, section 4, and RFC 9110, section 15, a subset; the bodies are this project's own.
use Rattle.std.specs.Prelude.{ℕ, ◌+◌, Bool, ◌==◌, List, [], ◌∷◌, ◌++◌, length, if◌then◌else◌, codes, decimal}
use Rattle.http_model.specs.Faults.{HttpFault, http_fault_status, http_fault_text}
use Rattle.http_model.specs.Streams.{Request, closes}

-- a reply: its status and its body
pub record Reply : Type 0 where
  pub status : ℕ
  pub body : List ℕ

-- the words of a status
abbrev pub phrase : ℕ → List ℕ
phrase status =
    if status == 200 then codes "OK"
    else if status == 400 then codes "Bad Request"
    else if status == 404 then codes "Not Found"
    else if status == 405 then codes "Method Not Allowed"
    else if status == 409 then codes "Conflict"
    else if status == 411 then codes "Length Required"
    else if status == 413 then codes "Content Too Large"
    else if status == 422 then codes "Unprocessable Content"
    else if status == 503 then codes "Service Unavailable"
    else if status == 507 then codes "Insufficient Storage"
    else codes "Internal Server Error"

-- CR LF
abbrev pub crlf : List ℕ
crlf = 13 ∷ 10 ∷ []

-- the field that says that the connection ends
abbrev pub close_field : Bool → List ℕ
close_field closes = if closes then codes "Connection: close" ++ crlf else []

-- a reply's bytes, where it ends the connection or not
unfoldable pub reply_text : Reply → Bool → List ℕ
reply_text r closes =
    codes "HTTP/1.1 " ++ decimal r.status ++ codes " " ++ phrase r.status ++ crlf ++ codes "Content-Type: text/plain" ++ crlf
    ++ (codes "Content-Length: " ++ decimal (length r.body)) ++ crlf ++ close_field closes ++ crlf ++ r.body

-- the bytes of the replies to these requests, the first of which has the number n
abbrev pub replies_text : ℕ → List Request → List Reply → List ℕ
replies_text n [] replies = []
replies_text n (r ∷ requests) [] = []
replies_text n (r ∷ requests) (reply ∷ replies) = reply_text reply (closes n r.head) ++ replies_text (n + 1) requests replies

-- the reply to a request that is refused
abbrev pub refusal : HttpFault → Reply
refusal fault = record { status = http_fault_status fault; body = http_fault_text fault ++ 10 ∷ [] }
