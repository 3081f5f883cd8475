-- The words of a line, and what each stands for. This project's own.
use Rattle.std.specs.Prelude.{ℕ, ◌+◌, ◌-◌, ◌*◌, ◌^◌, ℤ, pos, neg_ℤ, List, [], ◌∷◌, length, take, drop, position, Bool, true, false, ◌&&◌, ◌==◌, nat_le, nat_lt, Option, Some, None, option_map, if◌then◌else◌, codes, bytes_eq}
use Rattle.std.specs.List.{slice_split, join_with_byte, list_all}
use Rattle.std.specs.Char.{is_ascii_digit}
use Rattle.req_tree.specs.NumericOrder.{number_of}
use Rattle.req_tree.specs.declared.limits.TheConstants.{MOST_IDENTIFIER_BYTES}
use Rattle.policy_model.specs.declared.limits.TheConstants.{GREATEST_MOMENT, UNIT, MOST_LABEL_BYTES, MOST_RECEIPTS}
use Rattle.line_model.specs.declared.limits.TheConstants.{MOMENT_DIGITS, RULE_DIGITS, PRIORITY_DIGITS, FRACTION_DIGITS, GREATEST_UNITS, PLATFORM_DIGITS, GREATEST_PLATFORM}
use Rattle.line_model.specs.WordTexts.{bytes_of_word, only, at_most}
use Rattle.policy_model.specs.Keys.{is_key}
use Rattle.policy_model.specs.Rules.{Kind, execute, install, document}

-- the pieces between single spaces: two spaces in a row have an empty word between them
abbrev pub words : List ℕ → List (List ℕ)
words line = slice_split (λ b. b == 32) line

-- words with a space between each two
abbrev pub spaced : List (List ℕ) → List ℕ
spaced pieces = join_with_byte 32 pieces

-- 1 to most digits of a number that is at most the greatest
abbrev pub number_word : ℕ → ℕ → List ℕ → Option ℕ
number_word most greatest word =
    if nat_le 1 (length word) && nat_le (length word) most && list_all is_ascii_digit word && nat_le (number_of word) greatest
    then Some (number_of word) else None

-- seconds up to the end of the year 9999
abbrev pub moment_word : List ℕ → Option ℕ
moment_word word = number_word MOMENT_DIGITS GREATEST_MOMENT word

-- a moment, or never
abbrev pub expiry_word : List ℕ → Option (Option ℕ)
expiry_word word = if bytes_eq word (codes "never") then Some None else option_map Some (moment_word word)

-- the kind of a word
abbrev pub kind_word : List ℕ → Option Kind
kind_word word =
    if bytes_eq word (codes "execute") then Some execute
    else if bytes_eq word (codes "install") then Some install
    else if bytes_eq word (codes "open") then Some document
    else None

-- a kind, or any
abbrev pub any_kind_word : List ℕ → Option (Option Kind)
any_kind_word word = if bytes_eq word (codes "any") then Some None else option_map Some (kind_word word)

-- whether the rule allows
abbrev pub allow_word : List ℕ → Option Bool
allow_word word = if bytes_eq word (codes "allow") then Some true else if bytes_eq word (codes "deny") then Some false else None

-- whole units, in millionths
abbrev pub units_word : List ℕ → Option ℕ
units_word word = option_map (λ n. n * UNIT) (number_word PRIORITY_DIGITS GREATEST_UNITS word)

-- the digits of a fraction, in millionths
abbrev pub fraction_word : List ℕ → Option ℕ
fraction_word word = option_map (λ n. n * 10 ^ (FRACTION_DIGITS - length word)) (number_word FRACTION_DIGITS (UNIT - 1) word)

-- a sum that is at most the greatest priority
abbrev pub sum_within : Option ℕ → Option ℕ → Option ℕ
sum_within (Some units) (Some millionths) = if nat_le (units + millionths) (GREATEST_UNITS * UNIT) then Some (units + millionths) else None
sum_within None millionths = None
sum_within (Some units) None = None

-- whole units, and behind a dot at this place a fraction
abbrev pub amount_from : Option ℕ → List ℕ → Option ℕ
amount_from None word = units_word word
amount_from (Some dot) word = sum_within (units_word (take dot word)) (fraction_word (drop (dot + 1) word))

-- a priority without its sign, in millionths
abbrev pub amount_word : List ℕ → Option ℕ
amount_word word = amount_from (position (λ b. b == 46) word) word

-- a priority in millionths, behind a sign or none
abbrev pub priority_word : List ℕ → Option ℤ
priority_word [] = None
priority_word (b ∷ bytes) = if b == 45 then option_map (λ n. neg_ℤ (pos n)) (amount_word bytes) else option_map pos (amount_word (b ∷ bytes))

-- a rule's label: any bytes, and not too many
abbrev pub label_word : List ℕ → Option (List ℕ)
label_word word = at_most MOST_LABEL_BYTES (bytes_of_word word)

-- a label that isn't empty
abbrev pub name_word : List ℕ → Option (List ℕ)
name_word word = only (λ bytes. nat_le 1 (length bytes)) (label_word word)

-- a number that isn't 0
abbrev pub from_one : Option ℕ → Option ℕ
from_one None = None
from_one (Some n) = if n == 0 then None else Some n

-- the number of a rule, which may have zeros in front
abbrev pub rule_word : List ℕ → Option ℕ
rule_word word = from_one (number_word RULE_DIGITS MOST_RECEIPTS word)

-- whether assessments are switched on
abbrev pub switch_word : List ℕ → Option Bool
switch_word word = if bytes_eq word (codes "on") then Some true else if bytes_eq word (codes "off") then Some false else None

-- a rule's flags
pub record Flags : Type 0 where
  -- it is a default rule
  pub is_default : Bool
  -- what it governs isn't kept
  pub inhibit : Bool

-- the flags of a word
abbrev pub flags_word : List ℕ → Option Flags
flags_word word =
    if bytes_eq word (codes "-") then Some (record { is_default = false; inhibit = false })
    else if bytes_eq word (codes "default") then Some (record { is_default = true; inhibit = false })
    else if bytes_eq word (codes "inhibit") then Some (record { is_default = false; inhibit = true })
    else if bytes_eq word (codes "default+inhibit") then Some (record { is_default = true; inhibit = true })
    else None

-- an edit's key, which stands for itself
abbrev pub key_word : List ℕ → Option (List ℕ)
key_word word = if is_key word then Some word else None

-- the bytes of an identifier: some, and none of them zero
abbrev pub is_identifier : List ℕ → Bool
is_identifier bytes = nat_le 1 (length bytes) && list_all (λ b. nat_lt 0 b) bytes

-- an identifier
abbrev pub identifier_word : List ℕ → Option (List ℕ)
identifier_word word = only is_identifier (at_most MOST_IDENTIFIER_BYTES (bytes_of_word word))

-- a number up to 255, of 1 to 3 digits
abbrev pub platform_word : List ℕ → Option ℕ
platform_word word = number_word PLATFORM_DIGITS GREATEST_PLATFORM word
