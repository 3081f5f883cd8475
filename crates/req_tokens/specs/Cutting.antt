-- How many bytes are cut off the front of a text, or the fault that stands there.
use Rattle.std.specs.Prelude.{ℕ, ◌+◌, ◌%◌, ◌==◌, nat_lt, Bool, false, ◌&&◌, if◌then◌else◌, List, [], ◌∷◌, length, take, drop, Result, Ok, Err}
use Rattle.std.specs.List.{list_all}
use Rattle.req_tree.specs.NumericOrder.{number_of}
use Rattle.req_grammar.specs.Sorts as s
use Rattle.req_grammar.specs.Sorts.{Sort}
use Rattle.req_grammar.specs.Tokens as g
use Rattle.req_grammar.specs.Tokens.{is_symbol}
use Rattle.req_tokens.specs.declared.fault.TextFault.{TextFault}
use Rattle.req_tokens.specs.declared.fault.TextFault.TheVariants as fault
use Rattle.req_tokens.specs.declared.reach.End.TheVariants as e
use Rattle.req_tokens.specs.Reach.{reach, before, after}

-- a hexadecimal digit: 0 to 9, A to F or a to f
abbrev pub is_hex_digit : ℕ → Bool
is_hex_digit = g.is_hex_digit

-- the digits of a hash
abbrev pub is_hash_text : List ℕ → Bool
is_hash_text digits = length digits == 40 && list_all is_hex_digit digits

-- some digits
abbrev pub is_some_hex : List ℕ → Bool
is_some_hex [] = false
is_some_hex (b ∷ rest) = is_hex_digit b && list_all is_hex_digit rest

-- two digits a byte, one byte at least
abbrev pub is_bytes_text : List ℕ → Bool
is_bytes_text digits = is_some_hex digits && (length digits % 2 == 0)

-- how many bytes of a hash stand at the front of a text, or what is wrong with it
unfoldable pub hash_length : ℕ → List ℕ → Result ℕ TextFault
hash_length at text =
    if length (after e.Hash (drop 2 text)) == 0 then Err (fault.OpenString at)
    else (if is_hash_text (before e.Hash (drop 2 text)) then Ok 43 else Err (fault.BadHex at))

-- how many bytes of a hex string stand at the front of a text, or what is wrong with it
unfoldable pub hex_length : ℕ → List ℕ → Result ℕ TextFault
hex_length at text =
    if is_bytes_text (before e.Run (drop 2 text)) then Ok (length (before e.Run (drop 2 text)) + 2) else Err (fault.BadHex at)

-- how many digits of a number stand at the front of a text, or that it is too large
unfoldable pub integer_length : ℕ → List ℕ → Result ℕ TextFault
integer_length at text =
    if nat_lt (number_of (before e.Digits text)) 2147483649 then Ok (length (before e.Digits text)) else Err (fault.IntTooLarge at)

-- how many bytes a quoted string has, or where a backslash escapes no quote in it
unfoldable pub escaped_length : ℕ → List ℕ → Result ℕ TextFault
escaped_length at text = if reach e.Escapes text == length text then Ok (length text) else Err (fault.BadByte (at + reach e.Escapes text))

-- how many bytes of a quoted string stand at the front of a text, or what is wrong with it
unfoldable pub quoted_length : ℕ → List ℕ → Result ℕ TextFault
quoted_length at text =
    if length (after e.Quoted text) == 0 then Err (fault.OpenString at)
    else escaped_length at (take (length (before e.Quoted text) + 2) text)

-- how many bytes of a symbol stand at the front of a text, two before one, or that none stands there
unfoldable pub symbol_length : ℕ → List ℕ → Result ℕ TextFault
symbol_length at text =
    if is_symbol (take 2 text) then Ok (length (take 2 text))
    else (if is_symbol (take 1 text) then Ok 1 else Err (fault.BadByte at))

-- how many bytes of a block comment stand at the front of a text, or that it is not closed
unfoldable pub block_length : ℕ → List ℕ → Result ℕ TextFault
block_length at text =
    if length (after e.Block (drop 2 text)) == 0 then Err (fault.OpenComment at) else Ok (length (before e.Block (drop 2 text)) + 4)

-- by what the front is
abbrev pub length_of : Sort → ℕ → List ℕ → Result ℕ TextFault
length_of s.hash at text = hash_length at text
length_of s.hex at text = hex_length at text
length_of s.integer at text = integer_length at text
length_of s.word at text = Ok (reach e.Word text)
length_of s.quoted at text = quoted_length at text
length_of s.symbol at text = symbol_length at text
length_of s.blank at text = Ok 1
length_of s.block at text = block_length at text
length_of s.line at text = Ok (reach e.Line text)
