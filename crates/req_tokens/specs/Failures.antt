-- Which fault a text without tokens has, and where.
use Rattle.std.specs.Prelude.{ℕ, ◌<◌, ◌≤◌, List, length}
use Rattle.req_grammar.specs.declared.limits.TheConstants.{MOST_TEXT_BYTES}
use Rattle.req_grammar.specs.TokenFaults.{FirstFault, bad_byte, open_string, open_comment, bad_hex, int_too_large}
use Rattle.req_tokens.specs.declared.fault.TextFault.{TextFault}
use Rattle.req_tokens.specs.declared.fault.TextFault.TheVariants.{BadByte, OpenString, OpenComment, BadHex, IntTooLarge, TextTooLong, OutOfMemory}

-- the fault is the first of a text that begins at a place
abbrev pub FailsAt : ℕ → List ℕ → TextFault → Type 0
FailsAt at text (BadByte place) = FirstFault at text bad_byte place
FailsAt at text (OpenString place) = FirstFault at text open_string place
FailsAt at text (OpenComment place) = FirstFault at text open_comment place
FailsAt at text (BadHex place) = FirstFault at text bad_hex place
FailsAt at text (IntTooLarge place) = FirstFault at text int_too_large place
FailsAt at text other = ⊥

-- the text is too long, or the fault is its first
abbrev pub FailsTokens : List ℕ → TextFault → Type 0
FailsTokens text OutOfMemory = Unit {0}
FailsTokens text TextTooLong = MOST_TEXT_BYTES < length text
FailsTokens text other = (length text ≤ MOST_TEXT_BYTES) × FailsAt 0 text other
