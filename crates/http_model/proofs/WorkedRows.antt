-- Rows computed by the definitions alone: streams, lengths, targets, forms, and the replies that were worked out by hand.
use Rattle.std.proofs.Common.{◌≡◌, ℕ, ◌<◌, true, false, List, [], ◌∷◌, ◌++◌, length, replicate, Some, None, Ok, Err, refl, inl, inr, codes, arith}
use Rattle.std.proofs.lemmas.Bool.{false≢true}
use Rattle.std.proofs.lemmas.List.Elements.{All-cons, All-nil}
use Rattle.std.proofs.lemmas.List.Sums.{AllPass-from_list_all}
use Rattle.std.proofs.lemmas.Str.{IsUtf8-from_is_utf8}
use Rattle.std.specs.Fmt.{digits}
use Rattle.std.specs.List.{list_all, concat}
use Rattle.std.specs.Str.{is_utf8, chars}
use Rattle.std.specs.Str.Lossy.{utf8_lossy, utf8_valid_len, utf8_error_len}
use Rattle.form_urlencoded.proofs.OnLiterals.{form_urlencoded_on_literals}
use Rattle.httparse.specs.Grammar as grammar
use Rattle.httparse.proofs.OnLiterals.{httparse_on_literals}
use Rattle.httparse.specs.Grammar.{RequestHead, IsRequestHead, Field, IsField, trim_ows, is_token_byte, is_uri_byte, is_value_byte}
use Rattle.http_model.specs.Faults.{no_length, bad_length, too_large, no_path, bad_method}
use Rattle.http_model.specs.Fields.{measured, asks_to_close}
use Rattle.http_model.specs.Heads.{HasFieldTooMany}
use Rattle.http_model.specs.Forms.{form_line}
use Rattle.http_model.specs.Paths.{status, assess, work_of}
use Rattle.http_model.specs.Replies.{reply_text, replies_text, refusal, crlf}
use Rattle.http_model.specs.Streams.{Request, IsRequest, closes, IsStream, closed, cut, refused}

-- ---- a connection

-- a head of HTTP/1.1 whose lines end with CR LF
abbrev head : List ℕ → List ℕ → List Field → RequestHead
head method target fields = record {
  blank = [];
  method = method;
  target = target;
  minor = 1;
  line_end = grammar.crlf;
  fields = fields;
  last = grammar.crlf;
}

-- a field with a space behind its colon
abbrev field : List ℕ → List ℕ → Field
field name value = record { name = name; raw = 32 ∷ value; end = grammar.crlf }

abbrev edit_form : List ℕ
edit_form = codes "line=add+k1+execute+allow+0+never+-+-+always"

abbrev first : Request
first = record { head = head (codes "GET") (codes "/status") (field (codes "Host") (codes "localhost") ∷ []); body = [] }

abbrev second : Request
second = record { head = head (codes "POST") (codes "/edit") (field (codes "Content-Length") (codes "44") ∷ []); body = edit_form }

abbrev first_bytes : List ℕ
first_bytes = codes "GET /status HTTP/1.1" ++ crlf ++ codes "Host: localhost" ++ crlf ++ crlf

abbrev second_bytes : List ℕ
second_bytes = codes "POST /edit HTTP/1.1" ++ crlf ++ codes "Content-Length: 44" ++ crlf ++ crlf ++ edit_form

-- a field, by tests of its bytes
is_field : (name value : List ℕ) → 0 < length name → list_all is_token_byte name ≡ true → list_all is_value_byte (32 ∷ value) ≡ true → IsField (field name value)
is_field name value some token visible =
    record { name = (some, AllPass-from_list_all is_token_byte name token); raw = AllPass-from_list_all is_value_byte (32 ∷ value) visible }

-- a head of one field, by tests of its bytes
is_head : (method target : List ℕ) (f : Field) → 0 < length method → list_all is_token_byte method ≡ true → 0 < length target → list_all is_uri_byte target ≡ true → is_utf8 target ≡ true
    → IsField f → IsRequestHead (head method target (f ∷ []))
is_head method target f some token at visible text is = record {
  method = (some, AllPass-from_list_all is_token_byte method token);
  target = (at, AllPass-from_list_all is_uri_byte target visible);
  target_text = IsUtf8-from_is_utf8 target text;
  minor = omega arith;
  fields = All-cons IsField f [] is (All-nil IsField);
}

first_is : IsRequest (first_bytes ++ second_bytes) first second_bytes
unfolding httparse_on_literals is_utf8 chars lib.Utf8.encode
first_is = record {
  head = record {
    reads = (is_head _ _ _ (omega arith) refl (omega arith) refl refl (is_field _ _ (omega arith) refl refl), refl);
    size = omega arith;
    fields = omega arith;
  };
  size = refl;
}

second_is : IsRequest second_bytes second []
unfolding httparse_on_literals is_utf8 chars lib.Utf8.encode
second_is = record {
  head = record {
    reads = (is_head _ _ _ (omega arith) refl (omega arith) refl refl (is_field _ _ (omega arith) refl refl), refl);
    size = omega arith;
    fields = omega arith;
  };
  size = refl;
}

-- two requests, and then the end
two_requests : IsStream 0 (first_bytes ++ second_bytes) (first ∷ second ∷ []) closed
unfolding trim_ows
two_requests = (second_bytes, first_is, inr (refl, ([], second_is, inr (refl, refl))))

-- their replies
two_replies : replies_text 0 (first ∷ second ∷ [])
    (record { status = 200; body = codes "assessments enabled" ++ 10 ∷ [] } ∷ record { status = 200; body = codes "ok edit=1 rules=1" ++ 10 ∷ [] } ∷ [])
    ≡ codes "HTTP/1.1 200 OK" ++ crlf ++ codes "Content-Type: text/plain" ++ crlf ++ codes "Content-Length: 20" ++ crlf ++ crlf ++ codes "assessments enabled" ++ 10 ∷ []
    ++ codes "HTTP/1.1 200 OK" ++ crlf ++ codes "Content-Type: text/plain" ++ crlf ++ codes "Content-Length: 18" ++ crlf ++ crlf ++ codes "ok edit=1 rules=1" ++ 10 ∷ []
unfolding digits reply_text trim_ows
two_replies = refl

-- a request that posts, without a length
without_length : IsStream 0 (codes "POST /edit HTTP/1.1" ++ crlf ++ codes "Host: localhost" ++ crlf ++ crlf ++ edit_form) [] (refused no_length)
unfolding httparse_on_literals is_utf8 chars lib.Utf8.encode
without_length = inr (record {
  head = head (codes "POST") (codes "/edit") (field (codes "Host") (codes "localhost") ∷ []);
  behind = edit_form;
  stands = record {
    reads = (is_head _ _ _ (omega arith) refl (omega arith) refl refl (is_field _ _ (omega arith) refl refl), refl);
    size = omega arith;
    fields = omega arith;
  };
  that = refl;
})

-- a body of which a byte is missing
without_a_byte : IsStream 0 (codes "POST /edit HTTP/1.1" ++ crlf ++ codes "Content-Length: 45" ++ crlf ++ crlf ++ edit_form) [] cut
unfolding httparse_on_literals is_utf8 chars lib.Utf8.encode
without_a_byte = inr (record {
  head = head (codes "POST") (codes "/edit") (field (codes "Content-Length") (codes "45") ∷ []);
  behind = edit_form;
  stands = record {
    reads = (is_head _ _ _ (omega arith) refl (omega arith) refl refl (is_field _ _ (omega arith) refl refl), refl);
    size = omega arith;
    fields = omega arith;
  };
  that = (45, refl, omega arith);
})

-- the request of a client that asks to close, behind which nothing is looked at
abbrev closing : Request
closing = record { head = head (codes "GET") (codes "/rules") (field (codes "Connection") (codes "close") ∷ []); body = [] }

closing_is : IsRequest (codes "GET /rules HTTP/1.1" ++ crlf ++ codes "Connection: close" ++ crlf ++ crlf ++ second_bytes) closing second_bytes
unfolding httparse_on_literals is_utf8 chars lib.Utf8.encode
closing_is = record {
  head = record {
    reads = (is_head _ _ _ (omega arith) refl (omega arith) refl refl (is_field _ _ (omega arith) refl refl), refl);
    size = omega arith;
    fields = omega arith;
  };
  size = refl;
}

nothing_behind : IsStream 0 (codes "GET /rules HTTP/1.1" ++ crlf ++ codes "Connection: close" ++ crlf ++ crlf ++ second_bytes) (closing ∷ []) closed
unfolding trim_ows
nothing_behind = (second_bytes, closing_is, inl (refl, refl, refl))

-- the last reply that there may be
last_reply : closes 999 first.head ≡ true
unfolding trim_ows
last_reply = refl

last_but_one : closes 998 first.head ≡ false
unfolding trim_ows
last_but_one = refl

-- a client of HTTP/1.0
old_client : closes 0 (record first.head { minor = 0 }) ≡ true
unfolding trim_ows
old_client = refl

-- ---- fields

-- a request line, so many field lines, and the empty line
abbrev with_fields : ℕ → List ℕ
with_fields n = codes "GET / HTTP/1.1" ++ crlf ++ concat (replicate n (codes "a:b" ++ crlf)) ++ crlf

sixty_four : HasFieldTooMany (with_fields 64) → ⊥
sixty_four begun = false≢true begun

sixty_five : HasFieldTooMany (with_fields 65)
sixty_five = refl

-- ---- replies that refuse

no_length_reply : reply_text (refusal no_length) true
    ≡ codes "HTTP/1.1 411 Length Required" ++ crlf ++ codes "Content-Type: text/plain" ++ crlf ++ codes "Content-Length: 24" ++ crlf ++ codes "Connection: close" ++ crlf ++ crlf
    ++ codes "refused http 3 NoLength" ++ 10 ∷ []
unfolding digits reply_text
no_length_reply = refl

nowhere_reply : reply_text (refusal no_path) false
    ≡ codes "HTTP/1.1 404 Not Found" ++ crlf ++ codes "Content-Type: text/plain" ++ crlf ++ codes "Content-Length: 22" ++ crlf ++ crlf ++ codes "refused http 4 NoPath" ++ 10 ∷ []
unfolding digits reply_text
nowhere_reply = refl

-- ---- lengths

posted : measured (codes "POST") ((codes "Host", codes "localhost") ∷ (codes "content-LENGTH", codes "44") ∷ []) ≡ Ok 44
posted = refl

posted_without : measured (codes "POST") [] ≡ Err no_length
posted_without = refl

got_without : measured (codes "GET") [] ≡ Ok 0
got_without = refl

got_with : measured (codes "GET") ((codes "Content-Length", codes "3") ∷ []) ≡ Ok 3
got_with = refl

chunked : measured (codes "GET") ((codes "Transfer-Encoding", codes "chunked") ∷ (codes "Content-Length", codes "x") ∷ []) ≡ Err no_length
chunked = refl

twice : measured (codes "POST") ((codes "Content-Length", codes "1") ∷ (codes "Content-Length", codes "1") ∷ []) ≡ Err bad_length
twice = refl

signed : measured (codes "POST") ((codes "Content-Length", codes "+1") ∷ []) ≡ Err bad_length
signed = refl

listed : measured (codes "POST") ((codes "Content-Length", codes "1, 1") ∷ []) ≡ Err bad_length
listed = refl

empty : measured (codes "POST") ((codes "Content-Length", []) ∷ []) ≡ Err bad_length
empty = refl

one_too_many : measured (codes "POST") ((codes "Content-Length", codes "16777217") ∷ []) ≡ Err too_large
one_too_many = refl

as_many_as_may_be : measured (codes "POST") ((codes "Content-Length", codes "0000000000016777216") ∷ []) ≡ Ok 16777216
as_many_as_may_be = refl

twenty_digits : measured (codes "POST") ((codes "Content-Length", codes "00000000000000000001") ∷ []) ≡ Err bad_length
twenty_digits = refl

-- ---- who asks to close

one_member : asks_to_close ((codes "connection", codes "Close") ∷ []) ≡ true
unfolding trim_ows
one_member = refl

later_member : asks_to_close ((codes "Host", codes "close") ∷ (codes "Connection", codes "keep-alive , close") ∷ []) ≡ true
unfolding trim_ows
later_member = refl

second_field : asks_to_close ((codes "Connection", codes "te") ∷ (codes "Connection", codes "close") ∷ []) ≡ true
unfolding trim_ows
second_field = refl

other_members : asks_to_close ((codes "Connection", codes "keep-alive,closed,, close it") ∷ []) ≡ false
unfolding trim_ows
other_members = refl

-- ---- targets

status_is_got : work_of (codes "GET") (codes "/status") ≡ Ok status
status_is_got = refl

not_kept : work_of (codes "POST") (codes "/assess/open/nocache") ≡ Ok (assess (codes "open") false)
not_kept = refl

kept : work_of (codes "POST") (codes "/assess/execute") ≡ Ok (assess (codes "execute") true)
kept = refl

nowhere : work_of (codes "PUT") (codes "/nowhere") ≡ Err no_path
nowhere = refl

no_query : work_of (codes "GET") (codes "/status?") ≡ Err no_path
no_query = refl

no_other_kind : work_of (codes "POST") (codes "/assess/run") ≡ Err no_path
no_other_kind = refl

other_method : work_of (codes "HEAD") (codes "/status") ≡ Err bad_method
other_method = refl

no_case : work_of (codes "post") (codes "/edit") ≡ Err bad_method
no_case = refl

-- ---- forms

edit_line : form_line edit_form ≡ Some (codes "add k1 execute allow 0 never - - always")
unfolding form_urlencoded_on_literals utf8_lossy utf8_valid_len utf8_error_len is_utf8 chars lib.Utf8.encode
edit_line = refl

plain_blanks : form_line (codes "&line=switch x1 off&") ≡ Some (codes "switch x1 off")
unfolding form_urlencoded_on_literals utf8_lossy utf8_valid_len utf8_error_len is_utf8 chars lib.Utf8.encode
plain_blanks = refl

encoded : form_line (codes "%6Cine=a%2Bb%3D%26=c") ≡ Some (codes "a+b=&=c")
unfolding form_urlencoded_on_literals utf8_lossy utf8_valid_len utf8_error_len is_utf8 chars lib.Utf8.encode
encoded = refl

not_utf8 : form_line (codes "line=a%ff") ≡ Some (97 ∷ 239 ∷ 191 ∷ 189 ∷ [])
unfolding form_urlencoded_on_literals utf8_lossy utf8_valid_len utf8_error_len is_utf8 chars lib.Utf8.encode
not_utf8 = refl

two_pairs : form_line (codes "line=a&line=b") ≡ None
unfolding form_urlencoded_on_literals utf8_lossy utf8_valid_len utf8_error_len is_utf8 chars lib.Utf8.encode
two_pairs = refl

other_name : form_line (codes "Line=a") ≡ None
unfolding form_urlencoded_on_literals utf8_lossy utf8_valid_len utf8_error_len is_utf8 chars lib.Utf8.encode
other_name = refl

no_pair : form_line [] ≡ None
unfolding form_urlencoded_on_literals utf8_lossy utf8_valid_len utf8_error_len is_utf8 chars lib.Utf8.encode
no_pair = refl
