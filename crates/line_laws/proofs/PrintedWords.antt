-- What is printed for a word isn't empty, and has no space in it.
use Rattle.std.proofs.Common.{◌≡◌, ℕ, List, [], Option, Some, None, refl, ap, ◌∙◌}
use Rattle.policy_model.specs.Laws.{PlacesStand}
use Rattle.policy_model.specs.Texts.{any_kind_text, verdict_word, priority_text, expiry_text, flags_text}
use Rattle.line_text.specs.WordText.{word_text}
use Rattle.line_model.specs.WordTexts.{bytes_of_word}
use Rattle.line_model.specs.Words.{expiry_word, any_kind_word, allow_word, priority_word, flags_word}
use Rattle.line_laws.specs.WordLaws.{IsWord, BytesPrintAsWord, ExpiryPrintsAsWord, PriorityPrintsAsWord, KindPrintsAsWord, VerdictPrintsAsWord, FlagsPrintAsWord}
use Rattle.line_laws.proofs.Bytes.{word_back}
use Rattle.line_laws.proofs.Numbers.{expiry_back}
use Rattle.line_laws.proofs.Priorities.{priority_back}
use Rattle.line_laws.proofs.NoSpaces.{HasNoSpace, in_expiry, in_any_kind, in_verdict, in_flags, in_word, in_priority}
use Rattle.line_laws.proofs.OtherWords.{any_kind_back, allow_back, flags_back}
use Rattle.line_laws.proofs.Steps.{words_last}

none_some : {A : Type 0} (x : A) (o : Option A) → o ≡ None → o ≡ Some x → ⊥
none_some x o a b = cc

-- a word that is read isn't empty, where nothing is read of the empty word
is_word : {A : Type 0} (read : List ℕ → Option A) (word : List ℕ) (value : A) → read [] ≡ None → read word ≡ Some value → HasNoSpace word → IsWord word
is_word read word value nothing is h = record { some = λ empty. none_some value (read word) (ap read empty ∙ nothing) is; whole = words_last word h }

pub bytes_word : BytesPrintAsWord
bytes_word bytes h = is_word bytes_of_word (word_text bytes) bytes refl (word_back bytes h) (in_word bytes)

pub expiry_prints : ExpiryPrintsAsWord
expiry_prints e h = is_word expiry_word (expiry_text e) e refl (expiry_back e h) (in_expiry e h)

pub priority_prints : PlacesStand → PriorityPrintsAsWord
priority_prints stand p h = is_word priority_word (priority_text p) p refl (priority_back stand p h) (in_priority stand p h)

pub kind_prints : KindPrintsAsWord
kind_prints k = is_word any_kind_word (any_kind_text k) k refl (any_kind_back k) (in_any_kind k)

pub verdict_prints : VerdictPrintsAsWord
verdict_prints allow = is_word allow_word (verdict_word allow) allow refl (allow_back allow) (in_verdict allow)

pub flags_print : FlagsPrintAsWord
flags_print is_default inhibit =
    is_word flags_word (flags_text is_default inhibit) (record { is_default = is_default; inhibit = inhibit }) refl (flags_back is_default inhibit) (in_flags is_default inhibit)
