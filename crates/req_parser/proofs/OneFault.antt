-- A text has one fault, its place or number included.
use Rattle.std.proofs.Common.{◌≡◌, ◌≢◌, ◌⊎◌, inl, inr, ℕ, pos, ◌≤◌, ◌<◌, List, count_by, length, refl, sym, ap, subst, ◌∙◌, arith}
use Rattle.req_tree.specs.declared.matching.Match.TheVariants.{Exists}
use Rattle.req_grammar.specs.Terminals as g
use Rattle.req_grammar.specs.Terminals.{Terminal}
use Rattle.req_grammar.specs.Tokens.{Token}
use Rattle.req_grammar.specs.TokenFaults.{TokenFault, FirstFault, bad_byte, open_string, open_comment, bad_hex, int_too_large}
use Rattle.req_grammar.specs.Readings.{HasFewOpen, IsViable, IsViableSet, Shape, ShapeSet, is_left}
use Rattle.req_grammar.specs.ReadingFaults.{IsFirstBadKey, IsFirstRepeated}
use Rattle.req_grammar.specs.Laws.{FaultyTextsHaveNoTokens, HasGoodKeys, OneFirstFault, OneTokenList, ReadingsHaveNoBadKey, ReadingsHaveShapes, SetsHaveNoBadKey, SetsHaveShapes, SetsRepeatNoKind}
use Rattle.req_grammar.specs.declared.limits.TheConstants.{MOST_TEXT_BYTES}
use Rattle.req_machine.specs.Machine as machine
use Rattle.req_machine.specs.Laws.{TakesLongest, TakesLongestOfSets, TakesOnce}
use Rattle.req_tokens.specs.Terminals.{AreTerminals}
use Rattle.req_tokens.specs.Failures.{FailsTokens}
use Rattle.req_tokens.specs.declared.fault.TextFault.{TextFault}
use Rattle.req_tokens.specs.declared.fault.TextFault.TheVariants as f
use Rattle.req_parser.specs.Failures.{FailsBehind, FailsTerminals, FailsText, HasManyOpen, ReadsTooDeep}
use Rattle.req_parser.specs.SetFailures.{FailsSetBehind, FailsSetTerminals, FailsSetText, ReadsDeepSet}
use Rattle.req_parser.specs.Laws.{StopsAt}
use Rattle.req_parser.proofs.Judged.{no_tokens}

-- ---- of its tokens

abbrev told : TokenFault → ℕ → TextFault
told bad_byte place = f.BadByte place
told open_string place = f.OpenString place
told open_comment place = f.OpenComment place
told bad_hex place = f.BadHex place
told int_too_large place = f.IntTooLarge place

-- the text is too long, or has this first fault
data Faulty (text : List ℕ) (fault : TextFault) : Type 0 where
  long : fault ≡ f.TextTooLong → MOST_TEXT_BYTES < length text → Faulty text fault
  stopped : (cause : TokenFault) (place : ℕ) → fault ≡ told cause place → length text ≤ MOST_TEXT_BYTES → FirstFault 0 text cause place → Faulty text fault

faulty : (text : List ℕ) (fault : TextFault) → fault ≢ f.OutOfMemory → FailsTokens text fault → Faulty text fault
faulty text f.OutOfMemory other fails = absurd (other refl)
faulty text f.TextTooLong other fails = long refl fails
faulty text (f.BadByte at) other (short, fails) = stopped bad_byte at refl short fails
faulty text (f.OpenString at) other (short, fails) = stopped open_string at refl short fails
faulty text (f.OpenComment at) other (short, fails) = stopped open_comment at refl short fails
faulty text (f.BadHex at) other (short, fails) = stopped bad_hex at refl short fails
faulty text (f.IntTooLarge at) other (short, fails) = stopped int_too_large at refl short fails
faulty text fault other (short, fails) = absurd fails

faulty_once : OneFirstFault → (text : List ℕ) (a b : TextFault) → Faulty text a → Faulty text b → a ≡ b
faulty_once one text a b (long e many) (long d more) = e ∙ sym d
faulty_once one text a b (long e many) (stopped c p d short is) = absurd (omega (arith, many, short))
faulty_once one text a b (stopped c p d short is) (long e many) = absurd (omega (arith, many, short))
faulty_once one text a b (stopped c p e short is) (stopped k q d less so) =
    let same : (c ≡ k) × (p ≡ q) = one 0 p q text c k is so in
    e ∙ (ap (λ (x : TokenFault). told x p) same.0 ∙ (ap (told k) same.1 ∙ sym d))

-- ---- of its terminals

abbrev Order : ℕ → ℕ → Type 0
Order n m = (n < m) ⊎ ((m < n) ⊎ (n ≡ m))

order : (n m : ℕ) → Order n m
order n m = grind arith

key_once : (list : List Terminal) (n m : ℕ) → IsFirstBadKey list n → IsFirstBadKey list m → n ≡ m
key_once list n m a b = by (order n m)
  where
    by : Order n m → n ≡ m
    by (inl less) = absurd (b.first n a.key a.stands less a.bad)
    by (inr (inl more)) = absurd (a.first m b.key b.stands more b.bad)
    by (inr (inr same)) = same

kind_once : (list : List Terminal) (n m : ℕ) → IsFirstRepeated list n → IsFirstRepeated list m → n ≡ m
kind_once list n m a b = by (order n m)
  where
    by : Order n m → n ≡ m
    by (inl less) = absurd (b.first n a.stands less)
    by (inr (inl more)) = absurd (a.first m b.stands more)
    by (inr (inr same)) = same

not_many : (list : List Terminal) → HasFewOpen list → HasManyOpen list → ⊥
not_many list opens many =
    let few : count_by is_left many.front ≤ _ = opens many.front many.rest many.parts in omega (arith, few, many.many)

deep_read : (list : List Terminal) → HasFewOpen list → HasManyOpen list ⊎ (HasFewOpen list × ReadsTooDeep list) → ReadsTooDeep list
deep_read list few (inl many) = absurd (not_many list few many)
deep_read list few (inr (others, deep)) = deep

deep_set : (list : List Terminal) → HasFewOpen list → HasManyOpen list ⊎ (HasFewOpen list × ReadsDeepSet list) → ReadsDeepSet list
deep_set list few (inl many) = absurd (not_many list few many)
deep_set list few (inr (others, deep)) = deep

-- the laws of requirements
pub record TreeLaws : Type 0 where
  pub once : TakesOnce
  pub shapes : ReadingsHaveShapes
  pub no_bad : ReadingsHaveNoBadKey

-- the terminals of a tree that is too deep have a shape and no bad key
deep_shape : TreeLaws → (list : List Terminal) → HasFewOpen list → FailsTerminals list f.TooDeep → Shape list
deep_shape laws list few y = let deep : ReadsTooDeep list = deep_read list few y in laws.shapes list deep.tree deep.reads

deep_key : TreeLaws → (list : List Terminal) (n : ℕ) → HasFewOpen list → FailsTerminals list f.TooDeep → IsFirstBadKey list n → ⊥
deep_key laws list n few y first = let deep : ReadsTooDeep list = deep_read list few y in laws.no_bad list deep.tree n first.key deep.reads first.stands first.bad

pub list_once : TreeLaws → (list : List Terminal) (a b : TextFault) → a ≢ f.OutOfMemory → b ≢ f.OutOfMemory → FailsTerminals list a → FailsTerminals list b → a ≡ b
list_once laws list f.OutOfMemory b known sure x y = absurd (known refl)
list_once laws list a f.OutOfMemory known sure x y = absurd (sure refl)
list_once laws list (f.Syntax n) (f.Syntax m) known sure (few, taken, none) (others, so, neither) = ap f.Syntax (laws.once machine.expr list n m taken so)
list_once laws list (f.Syntax n) (f.BadKey m) known sure (few, taken, none) (others, shape, first) = absurd (none shape)
list_once laws list (f.Syntax n) f.TooDeep known sure (few, taken, none) y = absurd (none (deep_shape laws list few y))
list_once laws list (f.BadKey n) (f.Syntax m) known sure (few, shape, first) (others, taken, none) = absurd (none shape)
list_once laws list (f.BadKey n) (f.BadKey m) known sure (few, shape, first) (others, so, second) = ap f.BadKey (key_once list n m first second)
list_once laws list (f.BadKey n) f.TooDeep known sure (few, shape, first) y = absurd (deep_key laws list n few y first)
list_once laws list f.TooDeep (f.Syntax m) known sure x (few, taken, none) = absurd (none (deep_shape laws list few x))
list_once laws list f.TooDeep (f.BadKey m) known sure x (few, shape, first) = absurd (deep_key laws list m few x first)
list_once laws list f.TooDeep f.TooDeep known sure x y = refl
list_once laws list (f.Syntax n) b known sure x y = absurd y
list_once laws list (f.BadKey n) b known sure x y = absurd y
list_once laws list f.TooDeep b known sure x y = absurd y
list_once laws list a b known sure x y = absurd x

-- the laws of sets
pub record SetLaws : Type 0 where
  pub once : TakesOnce
  pub shapes : SetsHaveShapes
  pub no_bad : SetsHaveNoBadKey
  pub no_twice : SetsRepeatNoKind

set_shape : SetLaws → (list : List Terminal) → HasFewOpen list → FailsSetTerminals list f.TooDeep → ShapeSet list
set_shape laws list few y = let deep : ReadsDeepSet list = deep_set list few y in laws.shapes list deep.set deep.reads

set_key : SetLaws → (list : List Terminal) (n : ℕ) → HasFewOpen list → FailsSetTerminals list f.TooDeep → IsFirstBadKey list n → ⊥
set_key laws list n few y first = let deep : ReadsDeepSet list = deep_set list few y in laws.no_bad list deep.set n first.key deep.reads first.stands first.bad

set_twice : SetLaws → (list : List Terminal) (n : ℕ) → HasFewOpen list → FailsSetTerminals list f.TooDeep → IsFirstRepeated list n → ⊥
set_twice laws list n few y first = let deep : ReadsDeepSet list = deep_set list few y in laws.no_twice list deep.set n deep.reads first.stands

good_or_bad : (list : List Terminal) (n : ℕ) → HasGoodKeys list → IsFirstBadKey list n → ⊥
good_or_bad list n keys first = let good = keys n first.key first.stands (pos 0) Exists in first.bad (pos 0) Exists good.0 good.1

pub set_list_once : SetLaws → (list : List Terminal) (a b : TextFault) → a ≢ f.OutOfMemory → b ≢ f.OutOfMemory → FailsSetTerminals list a → FailsSetTerminals list b → a ≡ b
set_list_once laws list f.OutOfMemory b known sure x y = absurd (known refl)
set_list_once laws list a f.OutOfMemory known sure x y = absurd (sure refl)
set_list_once laws list (f.Syntax n) (f.Syntax m) known sure (few, taken, none) (others, so, neither) = ap f.Syntax (laws.once machine.set list n m taken so)
set_list_once laws list (f.Syntax n) (f.BadKey m) known sure (few, taken, none) (others, shape, first) = absurd (none shape)
set_list_once laws list (f.Syntax n) (f.KindTwice m) known sure (few, taken, none) (others, shape, keys, first) = absurd (none shape)
set_list_once laws list (f.Syntax n) f.TooDeep known sure (few, taken, none) y = absurd (none (set_shape laws list few y))
set_list_once laws list (f.BadKey n) (f.Syntax m) known sure (few, shape, first) (others, taken, none) = absurd (none shape)
set_list_once laws list (f.BadKey n) (f.BadKey m) known sure (few, shape, first) (others, so, second) = ap f.BadKey (key_once list n m first second)
set_list_once laws list (f.BadKey n) (f.KindTwice m) known sure (few, shape, first) (others, so, keys, second) = absurd (good_or_bad list n keys first)
set_list_once laws list (f.BadKey n) f.TooDeep known sure (few, shape, first) y = absurd (set_key laws list n few y first)
set_list_once laws list (f.KindTwice n) (f.Syntax m) known sure (few, shape, keys, first) (others, taken, none) = absurd (none shape)
set_list_once laws list (f.KindTwice n) (f.BadKey m) known sure (few, shape, keys, first) (others, so, second) = absurd (good_or_bad list m keys second)
set_list_once laws list (f.KindTwice n) (f.KindTwice m) known sure (few, shape, keys, first) (others, so, good, second) = ap f.KindTwice (kind_once list n m first second)
set_list_once laws list (f.KindTwice n) f.TooDeep known sure (few, shape, keys, first) y = absurd (set_twice laws list n few y first)
set_list_once laws list f.TooDeep (f.Syntax m) known sure x (few, taken, none) = absurd (none (set_shape laws list few x))
set_list_once laws list f.TooDeep (f.BadKey m) known sure x (few, shape, first) = absurd (set_key laws list m few x first)
set_list_once laws list f.TooDeep (f.KindTwice m) known sure x (few, shape, keys, first) = absurd (set_twice laws list m few x first)
set_list_once laws list f.TooDeep f.TooDeep known sure x y = refl
set_list_once laws list (f.Syntax n) b known sure x y = absurd y
set_list_once laws list (f.BadKey n) b known sure x y = absurd y
set_list_once laws list (f.KindTwice n) b known sure x y = absurd y
set_list_once laws list f.TooDeep b known sure x y = absurd y
set_list_once laws list a b known sure x y = absurd x

-- ---- of the text

-- the laws of tokens
pub record TokenLaws : Type 0 where
  pub one : OneFirstFault
  pub none : FaultyTextsHaveNoTokens
  pub list : OneTokenList

same_list : OneTokenList → (text : List ℕ) (a b : List Terminal) → AreTerminals text a → AreTerminals text b → b ≡ a
same_list one text a b x y =
    y.are ∙ (ap (λ (tokens : List Token). g.terminals text tokens) (one 0 text y.tokens x.tokens y.cut.tokens_are x.cut.tokens_are) ∙ sym x.are)

as_cases : (text : List ℕ) (fault : TextFault) → fault ≢ f.OutOfMemory → FailsText text fault → FailsTokens text fault ⊎ FailsBehind text fault
as_cases text f.OutOfMemory other fails = absurd (other refl)
as_cases text fault other fails = fails

cases_once : TokenLaws → TreeLaws → (text : List ℕ) (a b : TextFault) → a ≢ f.OutOfMemory → b ≢ f.OutOfMemory → FailsTokens text a ⊎ FailsBehind text a
    → FailsTokens text b ⊎ FailsBehind text b → a ≡ b
cases_once tokens laws text a b known sure (inl x) (inl y) = faulty_once tokens.one text a b (faulty text a known x) (faulty text b sure y)
cases_once tokens laws text a b known sure (inl x) (inr y) = absurd (no_tokens tokens.none text a y.are.tokens known x y.are.cut)
cases_once tokens laws text a b known sure (inr x) (inl y) = absurd (no_tokens tokens.none text b x.are.tokens sure y x.are.cut)
cases_once tokens laws text a b known sure (inr x) (inr y) =
    list_once laws x.list a b known sure x.fails (subst (λ (l : List Terminal). FailsTerminals l b) (same_list tokens.list text x.list y.list x.are y.are) y.fails)

pub text_once : TokenLaws → TreeLaws → (text : List ℕ) (a b : TextFault) → a ≢ f.OutOfMemory → b ≢ f.OutOfMemory → FailsText text a → FailsText text b → a ≡ b
text_once tokens laws text a b known sure x y = cases_once tokens laws text a b known sure (as_cases text a known x) (as_cases text b sure y)

as_set_cases : (text : List ℕ) (fault : TextFault) → fault ≢ f.OutOfMemory → FailsSetText text fault → FailsTokens text fault ⊎ FailsSetBehind text fault
as_set_cases text f.OutOfMemory other fails = absurd (other refl)
as_set_cases text fault other fails = fails

set_cases_once : TokenLaws → SetLaws → (text : List ℕ) (a b : TextFault) → a ≢ f.OutOfMemory → b ≢ f.OutOfMemory → FailsTokens text a ⊎ FailsSetBehind text a
    → FailsTokens text b ⊎ FailsSetBehind text b → a ≡ b
set_cases_once tokens laws text a b known sure (inl x) (inl y) = faulty_once tokens.one text a b (faulty text a known x) (faulty text b sure y)
set_cases_once tokens laws text a b known sure (inl x) (inr y) = absurd (no_tokens tokens.none text a y.are.tokens known x y.are.cut)
set_cases_once tokens laws text a b known sure (inr x) (inl y) = absurd (no_tokens tokens.none text b x.are.tokens sure y x.are.cut)
set_cases_once tokens laws text a b known sure (inr x) (inr y) =
    set_list_once laws x.list a b known sure x.fails (subst (λ (l : List Terminal). FailsSetTerminals l b) (same_list tokens.list text x.list y.list x.are y.are) y.fails)

pub set_text_once : TokenLaws → SetLaws → (text : List ℕ) (a b : TextFault) → a ≢ f.OutOfMemory → b ≢ f.OutOfMemory → FailsSetText text a → FailsSetText text b → a ≡ b
set_text_once tokens laws text a b known sure x y = set_cases_once tokens laws text a b known sure (as_set_cases text a known x) (as_set_cases text b sure y)

-- ---- where a text stops

pub stops_there : TakesLongest → (text : List ℕ) (token : ℕ) → FailsText text (f.Syntax token) → StopsAt IsViable text token
stops_there longest text token (inl (short, none)) = absurd none
stops_there longest text token (inr x) = by x.fails
  where
    by : FailsTerminals x.list (f.Syntax token) → StopsAt IsViable text token
    by (few, taken, none) = record { list = x.list; are = x.are; longest = longest x.list token taken }

pub set_stops_there : TakesLongestOfSets → (text : List ℕ) (token : ℕ) → FailsSetText text (f.Syntax token) → StopsAt IsViableSet text token
set_stops_there longest text token (inl (short, none)) = absurd none
set_stops_there longest text token (inr x) = by x.fails
  where
    by : FailsSetTerminals x.list (f.Syntax token) → StopsAt IsViableSet text token
    by (few, taken, none) = record { list = x.list; are = x.are; longest = longest x.list token taken }
