-- What was built of all terminals, and what they say.
use Rattle.std.proofs.Common.{◌≡◌, ◌≢◌, ◌⊎◌, inl, inr, Bool, true, false, true≢false, MatchResult, ℕ, ◌≤◌, ◌<◌, List, count_by, length, Result, Ok, Err, refl, sym, ap, subst, ◌∙◌, arith}
use Rattle.req_tree.specs.declared.limits.TheConstants.{MOST_DEPTH}
use Rattle.req_tree.specs.Tree.{Tree, tree_of}
use Rattle.req_tree.specs.declared.req.Req.{Req}
use Rattle.req_tree.specs.Depth.{depth_of}
use Rattle.req_grammar.specs.Terminals as g
use Rattle.req_grammar.specs.Terminals.{Terminal}
use Rattle.req_grammar.specs.Tokens.{Token}
use Rattle.req_grammar.specs.Readings.{HasFewOpen, HasTokens, IsRequirementText, Reads, Shape, is_left}
use Rattle.req_grammar.specs.Laws.{FaultyTextsHaveNoTokens, GoodKeysAreRead, HasGoodKeys, OneReading, OneTokenList, ParenthesesBalance, ReadingsHaveNoBadKey, ReadingsHaveShapes}
use Rattle.req_tokens.specs.Terminals.{AreTerminals}
use Rattle.req_tokens.specs.Failures.{FailsTokens}
use Rattle.req_tokens.specs.declared.fault.TextFault.{TextFault}
use Rattle.req_tokens.specs.declared.fault.TextFault.TheVariants as f
use Rattle.req_primary.specs.declared.fault.ReadingFault.{ReadingFault}
use Rattle.req_primary.specs.declared.fault.ReadingFault.TheVariants as r
use Rattle.req_primary.specs.Keys.{Outcome, fine, deep, bad_key, StandsFor}
use Rattle.req_primary.specs.Laws.{OperandsAreRead, PlainReadingsStand, ReadingsHavePlainOnes, IsPlainReading, WhatIsReadIsAnOperand}
use Rattle.req_parser.specs.Given.{IsFault, IsWholeOutcome}
use Rattle.req_parser.specs.Reading.{whole_at}
use Rattle.req_parser.specs.Failures.{FailsBehind, FailsTerminals, FailsText, IsBadKeyFault, IsRequirementList, text_fault_of}
use Rattle.req_parser.proofs.Leads.{LeadingLaws}
use Rattle.req_parser.proofs.Read.{whole_read}
use Rattle.req_parser.proofs.Sound.{err_ok, ok_is, whole_sound}
use Rattle.req_parser.proofs.Taken.{whole_taken}

pub fine_found : WhatIsReadIsAnOperand → PlainReadingsStand → (list : List Terminal) (x : Tree) (depth : ℕ) → HasFewOpen list → IsWholeOutcome (whole_at list) (fine x depth)
    → IsRequirementList list x
fine_found operands stand list x depth few o =
    let is : depth ≡ depth_of x = o.tells.1 in
    let small : depth ≤ MOST_DEPTH = o.tells.2 in
    record { opens = few; reads = stand list o.tree x (whole_sound operands list o.tree o.reads) o.tells.0; shallow = omega (arith, is, small) }

pub deep_fails : WhatIsReadIsAnOperand → PlainReadingsStand → (list : List Terminal) → HasFewOpen list → IsWholeOutcome (whole_at list) deep → FailsTerminals list f.TooDeep
deep_fails operands stand list few o =
    inr (few, record { tree = o.tells.0; reads = stand list o.tree o.tells.0 (whole_sound operands list o.tree o.reads) o.tells.1; deep = o.tells.2 })

-- where a key is bad, some key of a certificate's test stands for no test
pub no_good_keys : OperandsAreRead → ParenthesesBalance → WhatIsReadIsAnOperand → ReadingsHavePlainOnes → GoodKeysAreRead → (list : List Terminal) → HasFewOpen list
    → IsWholeOutcome (whole_at list) bad_key → HasGoodKeys list → ⊥
no_good_keys read balance operands plain good list few o keys =
    let said : (x : Tree) × Reads list x = good list (o.tree, whole_sound operands list o.tree o.reads) keys in
    let p : IsPlainReading list said.0 = plain list said.0 said.1 in
    let same : p.plain ≡ o.tree = ok_is p.plain o.tree (sym (whole_read read balance list p.plain few p.reads) ∙ o.reads) in
    o.tells said.0 (subst (λ (tree : Tree). StandsFor tree said.0) same p.stands)

pub shape_of : WhatIsReadIsAnOperand → (list : List Terminal) (outcome : Outcome) → IsWholeOutcome (whole_at list) outcome → Shape list
shape_of operands list outcome o = (o.tree, whole_sound operands list o.tree o.reads)

pub bad_key_fails : (list : List Terminal) (fault : TextFault) → HasFewOpen list → Shape list → IsBadKeyFault list fault → FailsTerminals list fault
bad_key_fails list (f.BadKey token) few shape first = (few, shape, first)
bad_key_fails list f.OutOfMemory few shape first = tt
bad_key_fails list other few shape first = absurd first

pub syntax_is_no_want : (token : ℕ) → r.Syntax token ≢ r.OutOfMemory
syntax_is_no_want token e = cc

pub reading_fails : LeadingLaws → OperandsAreRead → ParenthesesBalance → (list : List Terminal) (fault : ReadingFault) → HasFewOpen list → IsFault (whole_at list) fault
    → FailsTerminals list (text_fault_of fault)
reading_fails leading read balance list (r.Syntax token) few is = (
  few,
  whole_taken leading list token few (is (syntax_is_no_want token)),
  λ shape. err_ok (r.Syntax token) shape.0 (sym (is (syntax_is_no_want token)) ∙ whole_read read balance list shape.0 few shape.1),
)
reading_fails leading read balance list r.OutOfMemory few is = tt

-- ---- a text that fails says nothing

abbrev pub ListsDiffer : Type 0
ListsDiffer = (list : List Terminal) (fault : TextFault) (x : Tree) → fault ≢ f.OutOfMemory → FailsTerminals list fault → IsRequirementList list x → ⊥

pub list_fails : OneReading → ReadingsHaveShapes → ReadingsHaveNoBadKey → ListsDiffer
list_fails one shapes no_bad list (f.Syntax token) x other (few, taken, none) is = none (shapes list x is.reads)
list_fails one shapes no_bad list (f.BadKey token) x other (few, shape, first) is = no_bad list x token first.key is.reads first.stands first.bad
list_fails one shapes no_bad list f.TooDeep x other (inl many) is =
    let few : count_by is_left many.front ≤ _ = is.opens many.front many.rest many.parts in absurd (omega (arith, few, many.many))
list_fails one shapes no_bad list f.TooDeep x other (inr (few, found)) is =
    let same : found.tree ≡ x = one list found.tree x found.reads is.reads in
    let large : MOST_DEPTH < depth_of found.tree = found.deep in
    let small : depth_of x ≤ MOST_DEPTH = is.shallow in
    absurd (omega (arith, large, small, ap depth_of same))
list_fails one shapes no_bad list f.OutOfMemory x other fails is = other refl
list_fails one shapes no_bad list fault x other fails is = fails

pub behind_fails : (text : List ℕ) (list : List Terminal) (fault : TextFault) → AreTerminals text list → FailsTerminals list fault → FailsText text fault
behind_fails text list f.OutOfMemory are fails = tt
behind_fails text list fault are fails = inr (record { list = list; are = are; fails = fails })

pub tokens_fail : (text : List ℕ) (fault : TextFault) → FailsTokens text fault → FailsText text fault
tokens_fail text f.OutOfMemory fails = tt
tokens_fail text fault fails = inl fails

pub behind_found : (text : List ℕ) (list : List Terminal) (x : Tree) → AreTerminals text list → IsRequirementList list x → IsRequirementText text x
behind_found text list x are is = record {
  tokens = are.tokens;
  cut = are.cut;
  opens = subst HasFewOpen are.are is.opens;
  reads = subst (λ (terminals : List Terminal). Reads terminals x) are.are is.reads;
  shallow = is.shallow;
}

pub no_tokens : FaultyTextsHaveNoTokens → (text : List ℕ) (fault : TextFault) (tokens : List Token) → fault ≢ f.OutOfMemory → FailsTokens text fault → HasTokens text tokens → ⊥
no_tokens none text f.OutOfMemory tokens other fails has = other refl
no_tokens none text f.TextTooLong tokens other fails has = let short : length text ≤ _ = has.short in absurd (omega (arith, short, fails))
no_tokens none text (f.BadByte at) tokens other (short, fails) has = none 0 at text _ tokens fails has.tokens_are
no_tokens none text (f.OpenString at) tokens other (short, fails) has = none 0 at text _ tokens fails has.tokens_are
no_tokens none text (f.OpenComment at) tokens other (short, fails) has = none 0 at text _ tokens fails has.tokens_are
no_tokens none text (f.BadHex at) tokens other (short, fails) has = none 0 at text _ tokens fails has.tokens_are
no_tokens none text (f.IntTooLarge at) tokens other (short, fails) has = none 0 at text _ tokens fails has.tokens_are
no_tokens none text fault tokens other (short, fails) has = fails

pub as_list : OneTokenList → (text : List ℕ) (list : List Terminal) (x : Tree) → AreTerminals text list → IsRequirementText text x → IsRequirementList list x
as_list tokens text list x are is =
    let same : g.terminals text is.tokens ≡ list = ap (λ (t : List Token). g.terminals text t) (tokens 0 text is.tokens are.tokens is.cut.tokens_are are.cut.tokens_are) ∙ sym are.are in
    record { opens = subst HasFewOpen same is.opens; reads = subst (λ (terminals : List Terminal). Reads terminals x) same is.reads; shallow = is.shallow }

text_cases : OneReading → ReadingsHaveShapes → ReadingsHaveNoBadKey → FaultyTextsHaveNoTokens → OneTokenList → (text : List ℕ) (fault : TextFault) (x : Tree) → fault ≢ f.OutOfMemory
    → FailsTokens text fault ⊎ FailsBehind text fault → IsRequirementText text x → ⊥
text_cases one shapes no_bad none tokens text fault x other (inl fails) is = no_tokens none text fault is.tokens other fails is.cut
text_cases one shapes no_bad none tokens text fault x other (inr behind) is = list_fails one shapes no_bad behind.list fault x other behind.fails (as_list tokens text behind.list x behind.are is)

pub text_fails : OneReading → ReadingsHaveShapes → ReadingsHaveNoBadKey → FaultyTextsHaveNoTokens → OneTokenList → (text : List ℕ) (fault : TextFault) (x : Tree) → fault ≢ f.OutOfMemory
    → FailsText text fault → IsRequirementText text x → ⊥
text_fails one shapes no_bad none tokens text f.OutOfMemory x other fails is = other refl
text_fails one shapes no_bad none tokens text fault x other fails is = text_cases one shapes no_bad none tokens text fault x other fails is

abbrev is_memory : TextFault → Bool
is_memory f.OutOfMemory = true
is_memory other = false

pub memory_or_not : (fault : TextFault) → (fault ≡ f.OutOfMemory) ⊎ (fault ≢ f.OutOfMemory)
memory_or_not f.OutOfMemory = inl refl
memory_or_not other = inr (λ h. true≢false (sym (ap is_memory h)))

-- what the text says is read, unless there was no memory
pub only_this : ((text : List ℕ) (x y : Tree) → IsRequirementText text x → IsRequirementText text y → x ≡ y)
    → ((text : List ℕ) (fault : TextFault) (tree : Tree) → fault ≢ f.OutOfMemory → FailsText text fault → IsRequirementText text tree → ⊥)
    → (text : List ℕ) (result : Result Req TextFault) → MatchResult result (λ req. IsRequirementText text (tree_of req)) (FailsText text) → (tree : Tree) → IsRequirementText text tree
    → MatchResult result (λ req. tree_of req ≡ tree) (λ fault. fault ≡ f.OutOfMemory)
only_this one none text (Ok req) is tree said = one text (tree_of req) tree is said
only_this one none text (Err fault) fails tree said = by (memory_or_not fault)
  where
    by : (fault ≡ f.OutOfMemory) ⊎ (fault ≢ f.OutOfMemory) → fault ≡ f.OutOfMemory
    by (inl is) = is
    by (inr other) = absurd (none text fault tree other fails said)
