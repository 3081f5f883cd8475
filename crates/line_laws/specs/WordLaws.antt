-- What is read back of one word; each is proved on a function of src/laws.rt.
use Rattle.std.specs.Prelude.{◌≡◌, ◌≢◌, ℕ, ◌≤◌, ℤ, List, [], ◌∷◌, Bool, Option, Some, decimal}
use Rattle.line_text.specs.WordText.{word_text}
use Rattle.policy_model.specs.declared.limits.TheConstants.{GREATEST_MOMENT, MOST_RECEIPTS}
use Rattle.policy_model.specs.Rules.{Kind}
use Rattle.policy_model.specs.Texts.{kind_text, any_kind_text, verdict_word, priority_text, expiry_text, flags_text}
use Rattle.line_model.specs.WordTexts.{bytes_of_word}
use Rattle.line_model.specs.Words.{words, moment_word, expiry_word, kind_word, any_kind_word, allow_word, priority_word, label_word, name_word, rule_word, flags_word}
use Rattle.line_laws.specs.Limits.{AreBytes, IsLabel, IsExpiry, IsPriority}

-- bytes are read back from the word that they print as
abbrev pub BytesReadBack : Type 0
BytesReadBack = (bytes : List ℕ) → AreBytes bytes → bytes_of_word (word_text bytes) ≡ Some bytes

-- a label is read back from its word
abbrev pub LabelReadsBack : Type 0
LabelReadsBack = (label : List ℕ) → IsLabel label → label_word (word_text label) ≡ Some label

-- a label that isn't empty is read back as the name of rules
abbrev pub NameReadsBack : Type 0
NameReadsBack = (label : List ℕ) → label ≢ [] → IsLabel label → name_word (word_text label) ≡ Some label

-- a moment is read back from its digits
abbrev pub MomentReadsBack : Type 0
MomentReadsBack = (m : ℕ) → m ≤ GREATEST_MOMENT → moment_word (decimal m) ≡ Some m

-- a moment or never is read back
abbrev pub ExpiryReadsBack : Type 0
ExpiryReadsBack = (expires : Option ℕ) → IsExpiry expires → expiry_word (expiry_text expires) ≡ Some expires

-- the number of a rule is read back from its digits
abbrev pub NumberReadsBack : Type 0
NumberReadsBack = (n : ℕ) → 1 ≤ n → n ≤ MOST_RECEIPTS → rule_word (decimal n) ≡ Some n

-- a priority is read back from its text
abbrev pub PriorityReadsBack : Type 0
PriorityReadsBack = (p : ℤ) → IsPriority p → priority_word (priority_text p) ≡ Some p

-- a kind is read back from its word
abbrev pub KindReadsBack : Type 0
KindReadsBack = (kind : Kind) → kind_word (kind_text kind) ≡ Some kind

-- a kind or any is read back
abbrev pub AnyKindReadsBack : Type 0
AnyKindReadsBack = (kind : Option Kind) → any_kind_word (any_kind_text kind) ≡ Some kind

-- a verdict is read back from its word
abbrev pub VerdictReadsBack : Type 0
VerdictReadsBack = (allow : Bool) → allow_word (verdict_word allow) ≡ Some allow

-- flags are read back from their word
abbrev pub FlagsReadBack : Type 0
FlagsReadBack = (is_default inhibit : Bool) → flags_word (flags_text is_default inhibit) ≡ Some (record { is_default = is_default; inhibit = inhibit })

-- a word of a line: it isn't empty, and no space cuts it
pub record IsWord (word : List ℕ) : Type 0 where
  pub some : word ≢ []
  pub whole : words word ≡ word ∷ []

-- bytes print as a word
abbrev pub BytesPrintAsWord : Type 0
BytesPrintAsWord = (bytes : List ℕ) → AreBytes bytes → IsWord (word_text bytes)

-- a moment or never prints as a word
abbrev pub ExpiryPrintsAsWord : Type 0
ExpiryPrintsAsWord = (expires : Option ℕ) → IsExpiry expires → IsWord (expiry_text expires)

-- a priority prints as a word
abbrev pub PriorityPrintsAsWord : Type 0
PriorityPrintsAsWord = (p : ℤ) → IsPriority p → IsWord (priority_text p)

-- a kind or any prints as a word
abbrev pub KindPrintsAsWord : Type 0
KindPrintsAsWord = (kind : Option Kind) → IsWord (any_kind_text kind)

-- a verdict prints as a word
abbrev pub VerdictPrintsAsWord : Type 0
VerdictPrintsAsWord = (allow : Bool) → IsWord (verdict_word allow)

-- flags print as a word
abbrev pub FlagsPrintAsWord : Type 0
FlagsPrintAsWord = (is_default inhibit : Bool) → IsWord (flags_text is_default inhibit)
