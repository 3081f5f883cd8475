-- What was built of all parts, and what the terminals say as a set.
use Rattle.std.proofs.Common.{◌≡◌, ◌≢◌, ◌⊎◌, inl, inr, MatchOption, MatchResult, ℕ, ◌≤◌, ◌<◌, List, [], ◌∷◌, count_by, Option, Some, None, IfSome, Result, Ok, Err, refl, sym, ap, subst, ◌∙◌, arith}
use Rattle.req_tree.specs.declared.limits.TheConstants.{MOST_DEPTH}
use Rattle.req_tree.specs.Tree.{Tree}
use Rattle.req_tree.specs.TreeSet.{TreeSet}
use Rattle.req_tree.specs.Depth.{depth_of}
use Rattle.req_tree.specs.Spellable.{IsShallow}
use Rattle.req_grammar.specs.Terminals as t
use Rattle.req_grammar.specs.Terminals.{Terminal}
use Rattle.req_grammar.specs.Tokens.{Token}
use Rattle.req_grammar.specs.Grammar as g
use Rattle.req_grammar.specs.Grammar.{Expr, Parts}
use Rattle.req_grammar.specs.Readings.{AnyKey, CertTest, HasFewOpen, IsSetText, ReadsSet, ShapeSet, is_left}
use Rattle.req_grammar.specs.ReadingFaults.{IsFirstBadKey, IsRepeated}
use Rattle.req_grammar.specs.Laws.{FaultyTextsHaveNoTokens, GoodSetsAreRead, HasGoodKeys, OneReading, OneSet, OneTokenList, ParenthesesBalance, SetsHaveNoBadKey, SetsHaveShapes, SetsRepeatNoKind}
use Rattle.req_tokens.specs.Terminals.{AreTerminals}
use Rattle.req_tokens.specs.Failures.{FailsTokens}
use Rattle.req_tokens.specs.declared.fault.TextFault.{TextFault}
use Rattle.req_tokens.specs.declared.fault.TextFault.TheVariants as f
use Rattle.req_primary.specs.declared.fault.ReadingFault.{ReadingFault}
use Rattle.req_primary.specs.declared.fault.ReadingFault.TheVariants as r
use Rattle.req_primary.specs.Laws.{OperandsAreRead, PlainReadingsStand, ReadingsHavePlainOnes, IsPlainReading, WhatIsReadIsAnOperand}
use Rattle.req_parser.specs.declared.parts.Part.{Part}
use Rattle.req_parser.specs.Given.{IsFault}
use Rattle.req_parser.specs.GivenParts.{AreParts, PartsTell}
use Rattle.req_parser.specs.SetReading.{parts_at}
use Rattle.req_parser.specs.Gathering.{AllFit, gathered}
use Rattle.req_parser.specs.Kinds.{first_repeated}
use Rattle.req_parser.specs.Failures.{text_fault_of}
use Rattle.req_parser.specs.SetFailures.{AreShallow, FailsSetBehind, FailsSetTerminals, FailsSetText, HasDeepPart, IsSetList}
use Rattle.req_parser.proofs.Leads.{LeadingLaws}
use Rattle.req_parser.proofs.Taken.{parts_taken}
use Rattle.req_parser.proofs.Judged.{memory_or_not, no_tokens, syntax_is_no_want}
use Rattle.req_parser.proofs.Repeats.{Told, repeated_is}
use Rattle.req_parser.proofs.SetMade.{Makes, PartsStand, makes}
use Rattle.req_parser.proofs.SetRead.{list_read}
use Rattle.req_parser.proofs.SetSound.{list_sound}
use Rattle.req_parser.proofs.Sound.{err_ok, ok_is}

-- ---- a list that is read as a set is made one

-- parts with plain keys, and what they stand for
record PlainParts (list : List Terminal) (trees : List (ℕ × Tree)) : Type 0 where
  plains : List (ℕ × Tree)
  reads : Parts AnyKey list plains
  stand : PartsStand plains trees

plain_parts : ReadingsHavePlainOnes → PlainReadingsStand → OneReading → (list : List Terminal) (trees : List (ℕ × Tree)) → Parts CertTest list trees → PlainParts list trees
plain_parts plain stand one list trees g.none = record { plains = []; reads = g.none; stand = tt }
plain_parts plain stand one list trees (g.part k n a b x others names h i) =
    let p : IsPlainReading a x = plain a x h in
    let later : PlainParts b others = plain_parts plain stand one b others i in
    record {
      plains = (n, p.plain) ∷ later.plains;
      reads = g.part k n a b p.plain later.plains names p.reads later.reads;
      stand =
          (record { kind = refl; kind_word = k; names = names; stands = p.stands; only = λ y stands. one a y x (stand a p.plain y p.reads stands) h }, later.stand);
    }

pub record IsMade (list : List Terminal) (parts : List Part) : Type 0 where
  pub fit : AllFit parts
  pub some : (set : TreeSet) → gathered parts ≡ Some set → IsSetList list set
  pub none : gathered parts ≡ None → FailsSetTerminals list f.TooDeep

made_of : (list : List Terminal) (parts : List Part) (set : TreeSet) → HasFewOpen list → ReadsSet list set → Makes parts set → IsMade list parts
made_of list parts set few reads m = record {
  fit = m.fit;
  some = λ made e.
      let p = m.some made e in
      record { opens = few; reads = subst (ReadsSet list) (sym p.0) reads; shallow = subst AreShallow (sym p.0) p.1 };
  none = λ e. inr (few, record { set = set; reads = reads; deep = m.none e });
}

pub made : OperandsAreRead → ParenthesesBalance → ReadingsHavePlainOnes → PlainReadingsStand → WhatIsReadIsAnOperand → GoodSetsAreRead → OneReading
    → (list : List Terminal) (parts : List Part) → HasFewOpen list → HasGoodKeys list → first_repeated list ≡ None → AreParts (parts_at list) parts → IsMade list parts
made read balance plain stand operands good one list parts few keys once o =
    let no_repeat : (place : ℕ) → IsRepeated list place → ⊥ = subst (Told list) once (repeated_is list) in
    let said : (set : TreeSet) × ReadsSet list set = good list (o.all, list_sound operands list o.all o.reads) keys no_repeat in
    let p : PlainParts list said.1.0 = plain_parts plain stand one list said.1.0 said.1.1 in
    let same : o.all ≡ p.plains = ok_is o.all p.plains (sym o.reads ∙ list_read read balance list p.plains few p.reads) in
    let tell : PartsTell p.plains parts = subst (λ (all : List (ℕ × Tree)). PartsTell all parts) same o.tell in
    made_of list parts said.0 few said.1 (makes p.plains said.1.0 parts said.0 p.stand tell said.1.2)

-- ---- faults

pub shape_of : WhatIsReadIsAnOperand → (list : List Terminal) (parts : List Part) → AreParts (parts_at list) parts → ShapeSet list
shape_of operands list parts o = (o.all, list_sound operands list o.all o.reads)

pub first_told : (list : List Terminal) (told : Option ℕ) (token : ℕ) → told ≡ Some token → MatchOption told (HasGoodKeys list) (IsFirstBadKey list) → IsFirstBadKey list token
first_told list told token e is = subst (λ (o : Option ℕ). MatchOption o (HasGoodKeys list) (IsFirstBadKey list)) e is

pub twice_fails : (list : List Terminal) (token : ℕ) → HasFewOpen list → ShapeSet list → HasGoodKeys list → first_repeated list ≡ Some token → FailsSetTerminals list (f.KindTwice token)
twice_fails list token few shape keys found = (few, shape, keys, subst (Told list) found (repeated_is list))

pub set_reading_fails : LeadingLaws → OperandsAreRead → ParenthesesBalance → (list : List Terminal) (fault : ReadingFault) → HasFewOpen list → IsFault (parts_at list) fault
    → FailsSetTerminals list (text_fault_of fault)
set_reading_fails leading read balance list (r.Syntax token) few is = (
  few,
  parts_taken leading list token few (is (syntax_is_no_want token)),
  λ shape. err_ok (r.Syntax token) shape.0 (sym (is (syntax_is_no_want token)) ∙ list_read read balance list shape.0 few shape.1),
)
set_reading_fails leading read balance list r.OutOfMemory few is = tt

-- ---- a text that fails is no set

abbrev low_there : Option Tree → Type 0
low_there o = IfSome o IsShallow

not_deep : (set : TreeSet) → AreShallow set → HasDeepPart set → ⊥
not_deep set low h =
    let small : depth_of h.tree ≤ MOST_DEPTH = subst low_there h.stands (low h.kind) in
    let large : MOST_DEPTH < depth_of h.tree = h.deep in
    absurd (omega (arith, small, large))

set_list_fails : OneSet → SetsHaveShapes → SetsHaveNoBadKey → SetsRepeatNoKind → (list : List Terminal) (fault : TextFault) (set : TreeSet) → fault ≢ f.OutOfMemory
    → FailsSetTerminals list fault → IsSetList list set → ⊥
set_list_fails one shapes no_bad no_twice list (f.Syntax token) set other (few, taken, none) is = none (shapes list set is.reads)
set_list_fails one shapes no_bad no_twice list (f.BadKey token) set other (few, shape, first) is = no_bad list set token first.key is.reads first.stands first.bad
set_list_fails one shapes no_bad no_twice list (f.KindTwice token) set other (few, shape, keys, first) is = no_twice list set token is.reads first.stands
set_list_fails one shapes no_bad no_twice list f.TooDeep set other (inl many) is =
    let few : count_by is_left many.front ≤ _ = is.opens many.front many.rest many.parts in absurd (omega (arith, few, many.many))
set_list_fails one shapes no_bad no_twice list f.TooDeep set other (inr (few, found)) is =
    not_deep set is.shallow (subst HasDeepPart (one list found.set set found.reads is.reads) found.deep)
set_list_fails one shapes no_bad no_twice list f.OutOfMemory set other fails is = other refl
set_list_fails one shapes no_bad no_twice list fault set other fails is = fails

pub set_behind_fails : (text : List ℕ) (list : List Terminal) (fault : TextFault) → AreTerminals text list → FailsSetTerminals list fault → FailsSetText text fault
set_behind_fails text list f.OutOfMemory are fails = tt
set_behind_fails text list fault are fails = inr (record { list = list; are = are; fails = fails })

pub set_tokens_fail : (text : List ℕ) (fault : TextFault) → FailsTokens text fault → FailsSetText text fault
set_tokens_fail text f.OutOfMemory fails = tt
set_tokens_fail text fault fails = inl fails

pub set_behind_found : (text : List ℕ) (list : List Terminal) (set : TreeSet) → AreTerminals text list → IsSetList list set → IsSetText text set
set_behind_found text list set are is = record {
  tokens = are.tokens;
  cut = are.cut;
  opens = subst HasFewOpen are.are is.opens;
  reads = subst (λ (terminals : List Terminal). ReadsSet terminals set) are.are is.reads;
  shallow = is.shallow;
}

pub set_parsed : (text : List ℕ) (list : List Terminal) (result : Result TreeSet TextFault) → AreTerminals text list → MatchResult result (λ set. IsSetList list set) (FailsSetTerminals list)
    → MatchResult result (λ set. IsSetText text set) (FailsSetText text)
set_parsed text list (Ok set) are is = set_behind_found text list set are is
set_parsed text list (Err fault) are fails = set_behind_fails text list fault are fails

as_list : OneTokenList → (text : List ℕ) (list : List Terminal) (set : TreeSet) → AreTerminals text list → IsSetText text set → IsSetList list set
as_list tokens text list set are is =
    let same : t.terminals text is.tokens ≡ list = ap (λ (those : List Token). t.terminals text those) (tokens 0 text is.tokens are.tokens is.cut.tokens_are are.cut.tokens_are) ∙ sym are.are in
    record { opens = subst HasFewOpen same is.opens; reads = subst (λ (terminals : List Terminal). ReadsSet terminals set) same is.reads; shallow = is.shallow }

set_text_cases : OneSet → SetsHaveShapes → SetsHaveNoBadKey → SetsRepeatNoKind → FaultyTextsHaveNoTokens → OneTokenList → (text : List ℕ) (fault : TextFault) (set : TreeSet) → fault ≢ f.OutOfMemory
    → FailsTokens text fault ⊎ FailsSetBehind text fault → IsSetText text set → ⊥
set_text_cases one shapes no_bad no_twice none tokens text fault set other (inl fails) is = no_tokens none text fault is.tokens other fails is.cut
set_text_cases one shapes no_bad no_twice none tokens text fault set other (inr behind) is =
    set_list_fails one shapes no_bad no_twice behind.list fault set other behind.fails (as_list tokens text behind.list set behind.are is)

pub set_text_fails : OneSet → SetsHaveShapes → SetsHaveNoBadKey → SetsRepeatNoKind → FaultyTextsHaveNoTokens → OneTokenList → (text : List ℕ) (fault : TextFault) (set : TreeSet) → fault ≢ f.OutOfMemory
    → FailsSetText text fault → IsSetText text set → ⊥
set_text_fails one shapes no_bad no_twice none tokens text f.OutOfMemory set other fails is = other refl
set_text_fails one shapes no_bad no_twice none tokens text fault set other fails is = set_text_cases one shapes no_bad no_twice none tokens text fault set other fails is

-- what the text says is read, unless there was no memory
pub only_this_set : ((text : List ℕ) (x y : TreeSet) → IsSetText text x → IsSetText text y → x ≡ y)
    → ((text : List ℕ) (fault : TextFault) (set : TreeSet) → fault ≢ f.OutOfMemory → FailsSetText text fault → IsSetText text set → ⊥)
    → (text : List ℕ) (result : Result TreeSet TextFault) → MatchResult result (λ set. IsSetText text set) (FailsSetText text) → (wanted : TreeSet) → IsSetText text wanted
    → MatchResult result (λ set. set ≡ wanted) (λ fault. fault ≡ f.OutOfMemory)
only_this_set one none text (Ok set) is wanted said = one text set wanted is said
only_this_set one none text (Err fault) fails wanted said = by (memory_or_not fault)
  where
    by : (fault ≡ f.OutOfMemory) ⊎ (fault ≢ f.OutOfMemory) → fault ≡ f.OutOfMemory
    by (inl is) = is
    by (inr other) = absurd (none text fault wanted other fails said)
