-- A text that has tokens has no fault, and no other tokens.
use Rattle.std.proofs.Common.{◌≡◌, ℕ, List, Result, Ok, Err, MatchResult, refl, ap, ◌∙◌, arith}
use Rattle.req_grammar.specs.Tokens.{Token}
use Rattle.req_grammar.specs.Terminals.{Terminal, terminals}
use Rattle.req_grammar.specs.TokenFaults.{bad_byte, open_string, open_comment, bad_hex, int_too_large}
use Rattle.req_grammar.specs.Readings.{HasTokens}
use Rattle.req_grammar.specs.Laws.{OneTokenList, FaultyTextsHaveNoTokens}
use Rattle.req_tokens.specs.declared.fault.TextFault.{TextFault}
use Rattle.req_tokens.specs.declared.fault.TextFault.TheVariants.{BadByte, OpenString, OpenComment, BadHex, IntTooLarge, Syntax, TooDeep, TextTooLong, BadKey, KindTwice, OutOfMemory}
use Rattle.req_tokens.specs.Failures.{FailsTokens}
use Rattle.req_tokens.specs.Terminals.{AreTerminals}

memory_alone : FaultyTextsHaveNoTokens → (text : List ℕ) (list : List Token) → HasTokens text list → (fault : TextFault) → FailsTokens text fault → fault ≡ OutOfMemory
memory_alone law text list has (BadByte at) h = absurd (law 0 at text bad_byte list h.1 has.tokens_are)
memory_alone law text list has (OpenString at) h = absurd (law 0 at text open_string list h.1 has.tokens_are)
memory_alone law text list has (OpenComment at) h = absurd (law 0 at text open_comment list h.1 has.tokens_are)
memory_alone law text list has (BadHex at) h = absurd (law 0 at text bad_hex list h.1 has.tokens_are)
memory_alone law text list has (IntTooLarge at) h = absurd (law 0 at text int_too_large list h.1 has.tokens_are)
memory_alone law text list has (Syntax token) h = absurd h.1
memory_alone law text list has TooDeep h = absurd h.1
memory_alone law text list has TextTooLong h = absurd (omega (arith, h, has.short))
memory_alone law text list has (BadKey token) h = absurd h.1
memory_alone law text list has (KindTwice token) h = absurd h.1
memory_alone law text list has OutOfMemory h = refl

pub only_tokens : {A : Type 0} (view : A → List Token) → OneTokenList → FaultyTextsHaveNoTokens → (text : List ℕ) (result : Result A TextFault) → MatchResult result (λ list. HasTokens text (view list)) (FailsTokens text)
    → (list : List Token) → HasTokens text list → MatchResult result (λ cut. view cut ≡ list) (λ fault. fault ≡ OutOfMemory)
only_tokens view one law text (Ok cut) is list has = one 0 text (view cut) list is.tokens_are has.tokens_are
only_tokens view one law text (Err fault) is list has = memory_alone law text list has fault is

pub only_terminals : {A : Type 0} (view : A → List Terminal) (few : A → Type 0) → OneTokenList → FaultyTextsHaveNoTokens → (text : List ℕ) (result : Result A TextFault)
    → MatchResult result (λ list. AreTerminals text (view list) × few list) (FailsTokens text) → (list : List Token) → HasTokens text list → MatchResult result (λ cut. view cut ≡ terminals text list) (λ fault. fault ≡ OutOfMemory)
only_terminals view few one law text (Ok cut) is list has = is.0.are ∙ ap (terminals text) (one 0 text is.0.tokens list is.0.cut.tokens_are has.tokens_are)
only_terminals view few one law text (Err fault) is list has = memory_alone law text list has fault is
