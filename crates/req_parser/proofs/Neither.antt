-- No text is neither what the grammar reads nor at fault: each check in its order fails, or the next one comes.
use Rattle.std.proofs.Common.{◌≡◌, ◌≢◌, ◌⊎◌, inl, inr, ℤ, ℕ, zero, suc, ◌+◌, ◌≤◌, nat_le, Bool, true, false, true≢false, List, length, drop, Option, Some, None, is_some, IfSome, refl, sym, ap, subst, ◌∙◌, arith}
use Rattle.std.proofs.lemmas.Bool.{leb-true, leb-false}
use Rattle.req_tree.specs.declared.limits.TheConstants.{MOST_DEPTH}
use Rattle.req_tree.specs.declared.matching.Match.{Match}
use Rattle.req_tree.specs.Tree.{Tree}
use Rattle.req_tree.specs.TreeSet.{TreeSet, part_of}
use Rattle.req_tree.specs.Depth.{depth_of}
use Rattle.req_tree.specs.Spellable.{IsShallow}
use Rattle.req_grammar.specs.Terminals as g
use Rattle.req_grammar.specs.Terminals.{Terminal}
use Rattle.req_grammar.specs.Tokens.{Token}
use Rattle.req_grammar.specs.Reader.{has_shape, has_set_shape}
use Rattle.req_grammar.specs.Readings.{CertTest, HasFewOpen, HasTokens, IsRequirementText, IsSetText, Reads, ReadsSet, Shape, ShapeSet, extension, policy, field}
use Rattle.req_grammar.specs.ReadingFaults.{IsBadKey, IsFirstBadKey, StandsForTest}
use Rattle.req_grammar.specs.Laws.{GoodKeysAreRead, GoodSetsAreRead, HasGoodKeys, SetShapesAreRead, ShapesAreRead}
use Rattle.req_machine.specs.Machine as machine
use Rattle.req_machine.specs.Laws.{TakesSome}
use Rattle.req_tokens.specs.Terminals.{AreTerminals}
use Rattle.req_tokens.specs.Failures.{FailsTokens}
use Rattle.req_tokens.specs.Laws.{TextsHaveTokensOrFail}
use Rattle.req_tokens.specs.declared.fault.TextFault.{TextFault}
use Rattle.req_tokens.specs.declared.fault.TextFault.TheVariants as f
use Rattle.req_parser.specs.BadKeys.{cert_key, IsBadKeyFront, HasGoodFront}
use Rattle.req_parser.specs.Failures.{FailsTerminals, FailsText, IsRequirementList}
use Rattle.req_parser.specs.Kinds.{first_repeated}
use Rattle.req_parser.specs.Open.{few_open}
use Rattle.req_parser.specs.SetFailures.{AreShallow, FailsSetTerminals, FailsSetText, HasDeepPart, IsSetList}
use Rattle.req_parser.proofs.Judged.{behind_fails, behind_found, tokens_fail}
use Rattle.req_parser.proofs.KeyPlaces.{GoodBefore, good_none, good_more, good_all, first_bad}
use Rattle.req_parser.proofs.OpenFronts.{few_has, many_has}
use Rattle.req_parser.proofs.Repeats.{Told, repeated_is}
use Rattle.req_parser.proofs.SetJudged.{set_behind_fails, set_behind_found, set_tokens_fail}

-- ---- keys

-- what stands for a test does so whatever is asked
stands_for : (slot : ℤ) (key : List ℕ) (test : Match) (x : Tree) → CertTest slot key test x → StandsForTest key
stands_for slot key test x (extension oid text parts is) = λ s t. (_, extension oid text parts is)
stands_for slot key test x (policy oid text parts is) = λ s t. (_, policy oid text parts is)
stands_for slot key test x (field plain) = λ s t. (_, field plain)

key_told : (key : List ℕ) → (StandsForTest key → ⊥) → (IsBadKey key → ⊥) → ⊥
key_told key unread faultless = faultless (λ slot test x is. unread (stands_for slot key test x is))

some_same : (a b : List ℕ) → Some a ≡ Some b → a ≡ b
some_same a b e = ap from e
  where
    from : Option (List ℕ) → List ℕ
    from None = a
    from (Some x) = x

front_told : (list : List Terminal) → (HasGoodFront list → ⊥) → (IsBadKeyFront list → ⊥) → ⊥
front_told list unread faultless = by (cert_key list) refl
  where
    by : (o : Option (List ℕ)) → cert_key list ≡ o → ⊥
    by None e = unread (λ key is. absurd (true≢false (sym (ap is_some (sym e ∙ is)))))
    by (Some key) e = key_told key (λ good. unread (λ other is. subst StandsForTest (some_same key other (sym e ∙ is)) good)) (λ bad. faultless (record { key = key; stands = e; bad = bad }))

before_told : (list : List Terminal) (at : ℕ) → at ≤ length list → (GoodBefore list at → ⊥) → ((n : ℕ) → IsFirstBadKey list n → ⊥) → ⊥
before_told list zero within unread faultless = unread (good_none list)
before_told list (suc at) within unread faultless =
    let less : at ≤ length list = omega (arith, within) in
    let same : at + 1 ≡ suc at = omega arith in
    before_told list at less
    (λ before. front_told (drop at list) (λ good. unread (subst (GoodBefore list) same (good_more list at before good))) (λ bad. faultless (at + 2) (first_bad list at less before bad))) faultless

keys_told : (list : List Terminal) → (HasGoodKeys list → ⊥) → ((n : ℕ) → IsFirstBadKey list n → ⊥) → ⊥
keys_told list unread faultless = before_told list (length list) (omega arith) (λ before. unread (good_all list (length list) (omega arith) before)) faultless

-- ---- requirements

-- the laws that tell shapes and where the machine stops
pub record ListLaws : Type 0 where
  pub some : TakesSome
  pub shapes : ShapesAreRead
  pub good : GoodKeysAreRead

abbrev NoFault : List Terminal → Type 0
NoFault list = (fault : TextFault) → fault ≢ f.OutOfMemory → FailsTerminals list fault → ⊥

read_told : (list : List Terminal) (x : Tree) → HasFewOpen list → Reads list x → (IsRequirementList list x → ⊥) → NoFault list → ⊥
read_told list x few reads unread faultless = by (nat_le (depth_of x) MOST_DEPTH) refl
  where
    by : (b : Bool) → nat_le (depth_of x) MOST_DEPTH ≡ b → ⊥
    by true e = unread (record { opens = few; reads = reads; shallow = leb-true (depth_of x) MOST_DEPTH e })
    by false e = faultless f.TooDeep (λ is. cc) (inr (few, record { tree = x; reads = reads; deep = leb-false (depth_of x) MOST_DEPTH e }))

shape_told : ListLaws → (list : List Terminal) → HasFewOpen list → Shape list → ((x : Tree) → IsRequirementList list x → ⊥) → NoFault list → ⊥
shape_told laws list few shape unread faultless =
    keys_told list (λ keys. let said : (x : Tree) × Reads list x = laws.good list shape keys in read_told list said.0 few said.1 (unread said.0) faultless)
    (λ n first. faultless (f.BadKey n) (λ is. cc) (few, shape, first))

few_told : ListLaws → (list : List Terminal) → HasFewOpen list → ((x : Tree) → IsRequirementList list x → ⊥) → NoFault list → ⊥
few_told laws list few unread faultless = by (has_shape list) refl
  where
    by : (b : Bool) → has_shape list ≡ b → ⊥
    by true e = shape_told laws list few ((laws.shapes list).0 e) unread faultless
    by false e =
        let n = laws.some machine.expr list in
        faultless (f.Syntax n.0) (λ is. cc) (few, n.1, λ shape. true≢false (sym ((laws.shapes list).1 shape) ∙ e))

list_told : ListLaws → (list : List Terminal) → ((x : Tree) → IsRequirementList list x → ⊥) → NoFault list → ⊥
list_told laws list unread faultless = by (few_open 0 0 list) refl
  where
    by : (b : Bool) → few_open 0 0 list ≡ b → ⊥
    by true e = few_told laws list (few_has list e) unread faultless
    by false e = faultless f.TooDeep (λ is. cc) (inl (many_has list e))

pub text_told : TextsHaveTokensOrFail → ListLaws → (text : List ℕ) → ((x : Tree) → IsRequirementText text x → ⊥)
    → ((fault : TextFault) → fault ≢ f.OutOfMemory → FailsText text fault → ⊥) → ⊥
text_told cut laws text unread faultless = by (cut text)
  where
    by : ((tokens : List Token) × HasTokens text tokens) ⊎ ((fault : TextFault) × (fault ≢ f.OutOfMemory) × FailsTokens text fault) → ⊥
    by (inl (tokens, has)) =
        let list : List Terminal = g.terminals text tokens in
        let are : AreTerminals text list = record { tokens = tokens; cut = has; are = refl } in
        list_told laws list (λ x is. unread x (behind_found text list x are is)) (λ fault other fails. faultless fault other (behind_fails text list fault are fails))
    by (inr (fault, other, fails)) = faultless fault other (tokens_fail text fault fails)

-- ---- sets

pub record SetListLaws : Type 0 where
  pub some : TakesSome
  pub shapes : SetShapesAreRead
  pub good : GoodSetsAreRead

abbrev NoSetFault : List Terminal → Type 0
NoSetFault list = (fault : TextFault) → fault ≢ f.OutOfMemory → FailsSetTerminals list fault → ⊥

part_low : (set : TreeSet) → (HasDeepPart set → ⊥) → AreShallow set
part_low set none kind = by (part_of kind set) refl
  where
    by : (o : Option Tree) → part_of kind set ≡ o → IfSome o IsShallow
    by None e = tt
    by (Some x) e = low (nat_le (depth_of x) MOST_DEPTH) refl
      where
        low : (b : Bool) → nat_le (depth_of x) MOST_DEPTH ≡ b → IsShallow x
        low true d = leb-true (depth_of x) MOST_DEPTH d
        low false d = absurd (none (record { kind = kind; tree = x; stands = e; deep = leb-false (depth_of x) MOST_DEPTH d }))

set_read_told : (list : List Terminal) (set : TreeSet) → HasFewOpen list → ReadsSet list set → (IsSetList list set → ⊥) → NoSetFault list → ⊥
set_read_told list set few reads unread faultless =
    unread (record { opens = few; reads = reads; shallow = part_low set (λ deep. faultless f.TooDeep (λ is. cc) (inr (few, record { set = set; reads = reads; deep = deep }))) })

kinds_told : SetListLaws → (list : List Terminal) → HasFewOpen list → ShapeSet list → HasGoodKeys list → ((set : TreeSet) → IsSetList list set → ⊥) → NoSetFault list → ⊥
kinds_told laws list few shape keys unread faultless = by (first_repeated list) refl (repeated_is list)
  where
    by : (o : Option ℕ) → first_repeated list ≡ o → Told list (first_repeated list) → ⊥
    by None e is =
        let said : (set : TreeSet) × ReadsSet list set = laws.good list shape keys (subst (Told list) e is) in set_read_told list said.0 few said.1 (unread said.0) faultless
    by (Some n) e is = faultless (f.KindTwice n) (λ is. cc) (few, shape, keys, subst (Told list) e is)

set_shape_told : SetListLaws → (list : List Terminal) → HasFewOpen list → ShapeSet list → ((set : TreeSet) → IsSetList list set → ⊥) → NoSetFault list → ⊥
set_shape_told laws list few shape unread faultless =
    keys_told list (λ keys. kinds_told laws list few shape keys unread faultless) (λ n first. faultless (f.BadKey n) (λ is. cc) (few, shape, first))

set_few_told : SetListLaws → (list : List Terminal) → HasFewOpen list → ((set : TreeSet) → IsSetList list set → ⊥) → NoSetFault list → ⊥
set_few_told laws list few unread faultless = by (has_set_shape list) refl
  where
    by : (b : Bool) → has_set_shape list ≡ b → ⊥
    by true e = set_shape_told laws list few ((laws.shapes list).0 e) unread faultless
    by false e =
        let n = laws.some machine.set list in
        faultless (f.Syntax n.0) (λ is. cc) (few, n.1, λ shape. true≢false (sym ((laws.shapes list).1 shape) ∙ e))

set_list_told : SetListLaws → (list : List Terminal) → ((set : TreeSet) → IsSetList list set → ⊥) → NoSetFault list → ⊥
set_list_told laws list unread faultless = by (few_open 0 0 list) refl
  where
    by : (b : Bool) → few_open 0 0 list ≡ b → ⊥
    by true e = set_few_told laws list (few_has list e) unread faultless
    by false e = faultless f.TooDeep (λ is. cc) (inl (many_has list e))

pub set_text_told : TextsHaveTokensOrFail → SetListLaws → (text : List ℕ) → ((set : TreeSet) → IsSetText text set → ⊥)
    → ((fault : TextFault) → fault ≢ f.OutOfMemory → FailsSetText text fault → ⊥) → ⊥
set_text_told cut laws text unread faultless = by (cut text)
  where
    by : ((tokens : List Token) × HasTokens text tokens) ⊎ ((fault : TextFault) × (fault ≢ f.OutOfMemory) × FailsTokens text fault) → ⊥
    by (inl (tokens, has)) =
        let list : List Terminal = g.terminals text tokens in
        let are : AreTerminals text list = record { tokens = tokens; cut = has; are = refl } in
        set_list_told laws list (λ set is. unread set (set_behind_found text list set are is)) (λ fault other fails. faultless fault other (set_behind_fails text list fault are fails))
    by (inr (fault, other, fails)) = faultless fault other (set_tokens_fail text fault fails)
