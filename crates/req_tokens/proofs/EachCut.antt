-- Each text has tokens or a first fault: its front is cut off, or stops it, and so is the front of what follows.
use Rattle.std.proofs.Common.{◌≡◌, ◌≢◌, ℕ, zero, suc, ◌+◌, ◌<◌, ◌≤◌, ◌⊎◌, nat_le, Bool, true, false, List, [], ◌∷◌, ◌++◌, length, take, drop, Result, Ok, Err, refl, ap, inl, inr, arith, length-append}
use Rattle.std.proofs.lemmas.Bool.{leb-true, leb-false}
use Rattle.req_grammar.specs.declared.limits.TheConstants.{MOST_TEXT_BYTES}
use Rattle.req_grammar.specs.Sorts.{Sort, sort_of}
use Rattle.req_grammar.specs.Tokens as k
use Rattle.req_grammar.specs.Tokens.{Token, Tokens}
use Rattle.req_grammar.specs.TokenFaults.{TokenFault, FirstFault, bad_byte, open_string, open_comment, bad_hex, int_too_large}
use Rattle.req_grammar.specs.Readings.{HasTokens}
use Rattle.req_tokens.specs.declared.fault.TextFault.{TextFault}
use Rattle.req_tokens.specs.declared.fault.TextFault.TheVariants as fault
use Rattle.req_tokens.specs.Cuts.{Cuts}
use Rattle.req_tokens.specs.Cutting.{length_of}
use Rattle.req_tokens.specs.Failures.{FailsAt, FailsTokens}
use Rattle.req_tokens.specs.Sorts.{kind_in, added}
use Rattle.req_tokens.proofs.Said.{Said}
use Rattle.req_tokens.proofs.AllSaid.{said}
use Rattle.req_tokens.proofs.Led.{cut_tokens, cut_fault}

abbrev HasSome : ℕ → List ℕ → Type 0
HasSome at text = (tokens : List Token) × Tokens at text tokens

abbrev StopsSomewhere : ℕ → List ℕ → Type 0
StopsSomewhere at text = (why : TokenFault) × (place : ℕ) × FirstFault at text why place

plain_fault : (at : ℕ) (text : List ℕ) (why : TextFault) → FailsAt at text why → StopsSomewhere at text
plain_fault at text (fault.BadByte place) h = (bad_byte, place, h)
plain_fault at text (fault.OpenString place) h = (open_string, place, h)
plain_fault at text (fault.OpenComment place) h = (open_comment, place, h)
plain_fault at text (fault.BadHex place) h = (bad_hex, place, h)
plain_fault at text (fault.IntTooLarge place) h = (int_too_large, place, h)
plain_fault at text other h = absurd h

go_on : (sort : Sort) (at : ℕ) (text front rest : List ℕ) → Cuts sort text front rest → HasSome (at + length front) rest ⊎ StopsSomewhere (at + length front) rest → HasSome at text ⊎ StopsSomewhere at text
go_on sort at text front rest cut (inl later) = inl (added (kind_in sort) at (length front) ++ later.0, cut_tokens sort at text front rest later.0 cut.parts cut.is later.1)
go_on sort at text front rest cut (inr later) = inr (later.0, later.1, cut_fault sort at later.1 text front rest later.0 cut.parts cut.is later.2)

shorter : (sort : Sort) (n : ℕ) (text front rest : List ℕ) → Cuts sort text front rest → length text ≤ suc n → length rest ≤ n
shorter sort n text front rest cut few =
    let size : length text ≡ length (front ++ rest) = ap length cut.parts in
    let some : 0 < length front = cut.some in
    omega (arith, few, size, some, length-append front rest)

front_of : (at : ℕ) (text : List ℕ) (read : Result ℕ TextFault) → Said (sort_of text) at text read
    → ((place : ℕ) (front rest : List ℕ) → Cuts (sort_of text) text front rest → HasSome place rest ⊎ StopsSomewhere place rest) → HasSome at text ⊎ StopsSomewhere at text
front_of at text (Ok n) is later = go_on (sort_of text) at text (take n text) (drop n text) is (later (at + length (take n text)) (take n text) (drop n text) is)
front_of at text (Err why) is later = inr (plain_fault at text why is)

filled : (b : ℕ) (rest : List ℕ) → b ∷ rest ≢ []
filled b rest e = absurd cc

by_length : (n at : ℕ) (text : List ℕ) → length text ≤ n → HasSome at text ⊎ StopsSomewhere at text
by_length n at [] few = inl ([], k.none at)
by_length zero at (b ∷ rest) few = absurd (omega (arith, few))
by_length (suc n) at (b ∷ rest) few =
    front_of at (b ∷ rest) (length_of (sort_of (b ∷ rest)) at (b ∷ rest)) (said (sort_of (b ∷ rest)) at (b ∷ rest) refl (filled b rest))
    (λ place front left cut. by_length n place left (shorter (sort_of (b ∷ rest)) n (b ∷ rest) front left cut few))

pub cut_or_stops : (at : ℕ) (text : List ℕ) → HasSome at text ⊎ StopsSomewhere at text
cut_or_stops at text = by_length (length text) at text (omega arith)

-- ---- as refusals

abbrev Refused : List ℕ → Type 0
Refused text = (why : TextFault) × (why ≢ fault.OutOfMemory) × FailsTokens text why

refusal_of : (text : List ℕ) → length text ≤ MOST_TEXT_BYTES → (why : TokenFault) (place : ℕ) → FirstFault 0 text why place → Refused text
refusal_of text short bad_byte place h = (fault.BadByte place, (λ e. cc), (short, h))
refusal_of text short open_string place h = (fault.OpenString place, (λ e. cc), (short, h))
refusal_of text short open_comment place h = (fault.OpenComment place, (λ e. cc), (short, h))
refusal_of text short bad_hex place h = (fault.BadHex place, (λ e. cc), (short, h))
refusal_of text short int_too_large place h = (fault.IntTooLarge place, (λ e. cc), (short, h))

short_one : (text : List ℕ) → length text ≤ MOST_TEXT_BYTES → HasSome 0 text ⊎ StopsSomewhere 0 text → ((tokens : List Token) × HasTokens text tokens) ⊎ Refused text
short_one text short (inl is) = inl (is.0, record { short = short; tokens_are = is.1 })
short_one text short (inr is) = inr (refusal_of text short is.0 is.1 is.2)

by_size : (text : List ℕ) (b : Bool) → nat_le (length text) MOST_TEXT_BYTES ≡ b → ((tokens : List Token) × HasTokens text tokens) ⊎ Refused text
by_size text true e = short_one text (leb-true (length text) MOST_TEXT_BYTES e) (cut_or_stops 0 text)
by_size text false e = inr (fault.TextTooLong, (λ h. cc), leb-false (length text) MOST_TEXT_BYTES e)

pub told_or_cut : (text : List ℕ) → ((tokens : List Token) × HasTokens text tokens) ⊎ Refused text
told_or_cut text = by_size text (nat_le (length text) MOST_TEXT_BYTES) refl
