-- The canonical words of rules and edits. This project's own, after the options of spctl(8).
use Rattle.std.specs.Prelude.{ℕ, zero, suc, ◌+◌, ◌/◌, ◌%◌, ◌^◌, ℤ, pos, int_lt, unsigned_abs, List, [], ◌∷◌, ◌++◌, Bool, Option, Some, None, if◌then◌else◌, codes, decimal, ◌==◌}
use Rattle.line_text.specs.WordText.{word_text}
use Rattle.policy_model.specs.declared.limits.TheConstants.{UNIT}
use Rattle.policy_model.specs.Rules.{Kind, execute, install, document}
use Rattle.policy_model.specs.Contents.{NewRow, Which, by_id, by_label, Selector, Content, add, remove, enable, disable, expire, switch}

-- the word for a kind
abbrev pub kind_text : Kind → List ℕ
kind_text execute = codes "execute"
kind_text install = codes "install"
kind_text document = codes "open"

-- the word for a verdict
abbrev pub verdict_word : Bool → List ℕ
verdict_word allow = if allow then codes "allow" else codes "deny"

-- a moment in seconds, or never
abbrev pub expiry_text : Option ℕ → List ℕ
expiry_text None = codes "never"
expiry_text (Some m) = decimal m

-- the decimal places of a part that is below 10 ^ n, from the highest on, until nothing is left; for millionths Laws.antt says it without a step
unfoldable pub places : ℕ → ℕ → List ℕ
places zero part = []
places (suc n) part = if part == 0 then [] else (48 + part / 10 ^ n) ∷ places n (part % 10 ^ n)

-- millionths behind a dot, where there are some
abbrev pub fraction_text : ℕ → List ℕ
fraction_text part = if part == 0 then [] else 46 ∷ places 6 part

-- a priority in millionths, printed in whole units with as many places as it needs
abbrev pub priority_text : ℤ → List ℕ
priority_text p =
    (if int_lt p (pos 0) then 45 ∷ [] else []) ++ decimal (unsigned_abs p / UNIT) ++ fraction_text (unsigned_abs p % UNIT)

-- the word for the two flags, or - for none
abbrev pub flags_text : Bool → Bool → List ℕ
flags_text is_default inhibit =
    if is_default then (if inhibit then codes "default+inhibit" else codes "default") else if inhibit then codes "inhibit" else codes "-"

-- the two words of an id or a label
abbrev pub which_text : Which → List ℕ
which_text (by_id n) = codes "id " ++ decimal n
which_text (by_label l) = codes "label " ++ word_text l

-- the word for a kind, or any
abbrev pub any_kind_text : Option Kind → List ℕ
any_kind_text None = codes "any"
any_kind_text (Some k) = kind_text k

-- the three words of a selector
abbrev pub selector_text : Selector → List ℕ
selector_text s = which_text s.which ++ codes " " ++ any_kind_text s.kind

-- add KIND VERDICT PRIORITY EXPIRY LABEL FLAGS and a space
unfoldable pub add_front : NewRow → List ℕ
add_front n =
    codes "add " ++ kind_text n.kind ++ codes " " ++ verdict_word n.allow ++ codes " " ++ priority_text n.priority ++ codes " "
    ++ expiry_text n.expires ++ codes " " ++ word_text n.label ++ codes " " ++ flags_text n.is_default n.inhibit ++ codes " "

-- the edit's line without its key, as it is compared and kept
unfoldable pub content_text : Content → List ℕ
content_text (add n) = add_front n ++ n.text
content_text (remove s) = codes "remove " ++ selector_text s
content_text (enable s) = codes "enable " ++ selector_text s
content_text (disable s) = codes "disable " ++ selector_text s
content_text (expire s m) = codes "expire " ++ selector_text s ++ codes " " ++ expiry_text m
content_text (switch on) = codes "switch " ++ (if on then codes "on" else codes "off")
