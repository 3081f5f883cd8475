-- What a head's fields say of the body and of the connection. RFC 9110, sections 5.1, 7.6.1 and 8.6, and RFC 9112, sections 6 and
-- 9.3, a subset; the limits are this project's own.
use Rattle.std.specs.Prelude.{ℕ, nat_le, nat_lt, Bool, true, false, ◌&&◌, ◌==◌, List, [], ◌∷◌, length, map, Result, Ok, Err, if◌then◌else◌, codes, bytes_eq}
use Rattle.std.specs.List.{list_any, list_all, slice_split}
use Rattle.std.specs.Char.{is_ascii_digit, eq_ignore_ascii_case}
use Rattle.std.specs.Str.Parse.{digits_value}
use Rattle.httparse.specs.Grammar.{RequestHead, trim_ows}
use Rattle.httparse.specs.Spans.{name_and_value}
use Rattle.http_model.specs.Faults.{HttpFault, no_length, bad_length, too_large}
use Rattle.http_model.specs.declared.limits.TheConstants.{BODY_LIMIT, LENGTH_DIGITS}

-- a field's name, and its value without the white space around it
abbrev pub Pair : Type 0
Pair = List ℕ × List ℕ

-- the bytes are the same, but for the case of letters
abbrev pub same_name : List ℕ → List ℕ → Bool
same_name [] [] = true
same_name [] (b ∷ bs) = false
same_name (a ∷ rest) [] = false
same_name (a ∷ rest) (b ∷ bs) = eq_ignore_ascii_case a b && same_name rest bs

-- the field has this name
abbrev pub is_named : List ℕ → Pair → Bool
is_named name pair = same_name pair.0 name

-- the values of the fields of that name
abbrev pub values : List ℕ → List Pair → List (List ℕ)
values name [] = []
values name (p ∷ pairs) = if is_named name p then p.1 ∷ values name pairs else values name pairs

-- a length of 1 to 19 digits, which may have zeros in front
abbrev pub by_digits : List ℕ → Result ℕ HttpFault
by_digits value =
    if nat_lt 0 (length value) && nat_le (length value) LENGTH_DIGITS && list_all is_ascii_digit value
    then (if nat_le (digits_value 10 value) BODY_LIMIT then Ok (digits_value 10 value) else Err too_large)
    else Err bad_length

-- the length of the body by the values of Content-Length; a request that posts has to say one
abbrev pub by_lengths : Bool → List (List ℕ) → Result ℕ HttpFault
by_lengths posts [] = if posts then Err no_length else Ok 0
by_lengths posts (value ∷ []) = by_digits value
by_lengths posts (value ∷ other ∷ more) = Err bad_length

-- the length of the body behind a method and these fields, or why it isn't known
abbrev pub measured : List ℕ → List Pair → Result ℕ HttpFault
measured method pairs =
    if list_any (is_named (codes "transfer-encoding")) pairs then Err no_length
    else by_lengths (bytes_eq method (codes "POST")) (values (codes "content-length") pairs)

-- the members of a value, between commas
abbrev pub members : List ℕ → List (List ℕ)
members value = slice_split (λ b. b == 44) value

-- the member is close, without the white space around it
abbrev pub is_close : List ℕ → Bool
is_close member = same_name (trim_ows member) (codes "close")

-- close is among the members
abbrev pub has_close : List ℕ → Bool
has_close value = list_any is_close (members value)

-- a Connection field says that the connection is to be closed
abbrev pub asks_to_close : List Pair → Bool
asks_to_close pairs = list_any has_close (values (codes "connection") pairs)

-- the fields of a head
abbrev pub pairs_of : RequestHead → List Pair
pairs_of h = map name_and_value h.fields
