-- The keys of edits. This project's own.
use Rattle.std.specs.Prelude.{ℕ, List, length, Bool, ◌&&◌, ◌||◌, ◌==◌, nat_le}
use Rattle.std.specs.List.{list_all}
use Rattle.std.specs.Char.{is_ascii_digit}
use Rattle.policy_model.specs.declared.limits.TheConstants.{MOST_KEY_BYTES}

-- letters, digits, dot, underscore and dash
abbrev pub is_key_byte : ℕ → Bool
is_key_byte b =
    (nat_le 97 b && nat_le b 122) || (nat_le 65 b && nat_le b 90) || is_ascii_digit b || (b == 46) || (b == 95) || (b == 45)

-- such bytes, at least one and not too many
abbrev pub is_key : List ℕ → Bool
is_key word = nat_le 1 (length word) && nat_le (length word) MOST_KEY_BYTES && list_all is_key_byte word
