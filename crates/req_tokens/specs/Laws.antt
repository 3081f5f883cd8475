-- What follows from the definitions alone; each is proved on a function of src/laws.rt.
use Rattle.std.specs.Prelude.{ℕ, ◌≢◌, ◌⊎◌, List}
use Rattle.req_grammar.specs.Tokens.{Token, Tokens}
use Rattle.req_grammar.specs.TokenFaults.{TokenFault, FirstFault}
use Rattle.req_grammar.specs.Readings.{HasTokens}
use Rattle.req_tokens.specs.declared.fault.TextFault.{TextFault}
use Rattle.req_tokens.specs.declared.fault.TextFault.TheVariants.{OutOfMemory}
use Rattle.req_tokens.specs.Failures.{FailsTokens}

-- each text has tokens or a first fault
abbrev pub TextsAreCutOrStop : Type 0
TextsAreCutOrStop =
    (at : ℕ) (text : List ℕ) → ((tokens : List Token) × Tokens at text tokens) ⊎ ((fault : TokenFault) × (place : ℕ) × FirstFault at text fault place)

-- each text has tokens and no more bytes than it may have, or a refusal other than that of memory
abbrev pub TextsHaveTokensOrFail : Type 0
TextsHaveTokensOrFail = (text : List ℕ) → ((tokens : List Token) × HasTokens text tokens) ⊎ ((fault : TextFault) × (fault ≢ OutOfMemory) × FailsTokens text fault)
