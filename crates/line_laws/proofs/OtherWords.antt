-- The other words of a rule or a selector are read back from their texts.
use Rattle.std.proofs.Common.{◌≡◌, ◌≢◌, ℕ, ◌≤◌, ◌==◌, Bool, true, false, nat_le, List, [], ◌∷◌, length, Option, Some, None, if◌then◌else◌, decimal, refl, ap, ◌∙◌, arith}
use Rattle.std.proofs.lemmas.Bool.Decides.{nat_tests}
use Rattle.line_text.specs.WordText.{word_text}
use Rattle.policy_model.specs.Rules.{Kind, execute, install, document}
use Rattle.policy_model.specs.Texts.{kind_text, any_kind_text, verdict_word, flags_text}
use Rattle.line_model.specs.WordTexts.{at_most, only}
use Rattle.line_model.specs.Words.{kind_word, any_kind_word, allow_word, label_word, name_word, from_one, rule_word, flags_word}
use Rattle.line_laws.specs.Limits.{IsLabel}
use Rattle.line_laws.proofs.Bytes.{word_back}
use Rattle.line_laws.proofs.Numbers.{number_back}

pub kind_back : (k : Kind) → kind_word (kind_text k) ≡ Some k
kind_back execute = refl
kind_back install = refl
kind_back document = refl

pub any_kind_back : (k : Option Kind) → any_kind_word (any_kind_text k) ≡ Some k
any_kind_back None = refl
any_kind_back (Some execute) = refl
any_kind_back (Some install) = refl
any_kind_back (Some document) = refl

pub allow_back : (allow : Bool) → allow_word (verdict_word allow) ≡ Some allow
allow_back true = refl
allow_back false = refl

pub flags_back : (is_default inhibit : Bool) → flags_word (flags_text is_default inhibit) ≡ Some (record { is_default = is_default; inhibit = inhibit })
flags_back true true = refl
flags_back true false = refl
flags_back false true = refl
flags_back false false = refl

pub label_back : (label : List ℕ) → IsLabel label → label_word (word_text label) ≡ Some label
label_back label h =
    let short : nat_le (length label) 128 ≡ true = grind (arith, nat_tests, h.few) in
    ap (at_most 128) (word_back label h.bytes) ∙ ap (λ (c : Bool). if c then Some label else None) short

some_bytes : (label : List ℕ) → label ≢ [] → nat_le 1 (length label) ≡ true
some_bytes [] h = absurd (h refl)
some_bytes (b ∷ label) h = grind (arith, nat_tests)

pub name_back : (label : List ℕ) → label ≢ [] → IsLabel label → name_word (word_text label) ≡ Some label
name_back label some h =
    ap (only (λ bytes. nat_le 1 (length bytes))) (label_back label h)
    ∙ ap (λ (c : Bool). if c then Some label else None) (some_bytes label some)

pub rule_back : (n : ℕ) → 1 ≤ n → n ≤ 100000 → rule_word (decimal n) ≡ Some n
rule_back n some few =
    let other : (n == 0) ≡ false = grind (arith, nat_tests, some) in
    ap from_one (number_back 6 100000 n (omega arith) (omega (arith, few)) (omega (arith, few)) few)
    ∙ ap (λ (c : Bool). if c then None else Some n) other
