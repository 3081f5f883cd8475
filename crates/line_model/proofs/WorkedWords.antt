-- Words and what they stand for, computed by the definitions alone.
use Rattle.std.specs.Prelude.{◌≡◌, ℕ, ℤ, pos, neg_ℤ, List, [], ◌∷◌, refl, codes, Option, Some, None}
use Rattle.hex.specs.Hex.{decode_pairs}
use Rattle.line_model.specs.WordTexts.{bytes_of_word}
use Rattle.line_model.specs.Words.{priority_word}

abbrev Priority : List ℕ → Option ℤ → Type 0
Priority word value = priority_word word ≡ value

a_fraction : Priority (codes "20.5") (Some (pos 20500000))
a_fraction = refl

a_millionth_below : Priority (codes "-0.000001") (Some (neg_ℤ (pos 1)))
a_millionth_below = refl

the_greatest : Priority (codes "1000000.0") (Some (pos 1000000000000))
the_greatest = refl

above_the_greatest : Priority (codes "1000000.000001") None
above_the_greatest = refl

no_digits_behind_the_dot : Priority (codes "5.") None
no_digits_behind_the_dot = refl

no_digits_before_the_dot : Priority (codes ".5") None
no_digits_before_the_dot = refl

two_dots : Priority (codes "1.2.3") None
two_dots = refl

seven_digits_behind_the_dot : Priority (codes "1.0000000") None
seven_digits_behind_the_dot = refl

zeros_in_front : Priority (codes "0000007.10") (Some (pos 7100000))
zeros_in_front = refl

two_signs : Priority (codes "--1") None
two_signs = refl

no_bytes : bytes_of_word (codes "-") ≡ Some []
no_bytes = refl

one_dash : bytes_of_word (codes "%2D") ≡ Some (codes "-")
unfolding decode_pairs
one_dash = refl

two_dashes : bytes_of_word (codes "--") ≡ Some (codes "--")
two_dashes = refl

lower_and_upper : bytes_of_word (codes "%c3%A9a") ≡ Some (0xc3 ∷ 0xa9 ∷ 97 ∷ [])
unfolding decode_pairs
lower_and_upper = refl

a_high_byte : bytes_of_word (0x80 ∷ 0xff ∷ []) ≡ Some (0x80 ∷ 0xff ∷ [])
a_high_byte = refl

a_deleted_byte : bytes_of_word (0x7f ∷ []) ≡ None
a_deleted_byte = refl

a_bare_sign : bytes_of_word (codes "a%") ≡ None
a_bare_sign = refl

no_word : bytes_of_word [] ≡ None
no_word = refl
