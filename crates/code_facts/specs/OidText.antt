-- The bytes of an object identifier that a text names (ITU-T X.690, section 8.19), as a function. A text names one
-- object identifier at most, and an object identifier has one text.
use Rattle.std.specs.Prelude.{ℕ, zero, suc, ◌+◌, ◌/◌, ◌%◌, ◌==◌, if◌then◌else◌, List, [], ◌∷◌, ◌++◌, Option, None, Some, Result, Ok, Err}
use Rattle.std.specs.List.{flat_map}
use Rattle.req_tree.specs.declared.fault.OidFault.{OidFault}
use Rattle.req_tree.specs.OidReading.{numbers_of_text}

-- all septets of a number but the last, at most as many as the count
abbrev pub front_septets : ℕ → ℕ → List ℕ
front_septets zero n = []
front_septets (suc count) n = if n == 0 then [] else front_septets count (n / 128) ++ (128 + n % 128) ∷ []

-- a number below 2^32 in base 128, the high bit set on all bytes but the last
abbrev pub septets : ℕ → List ℕ
septets n = front_septets 4 (n / 128) ++ (n % 128) ∷ []

-- the bytes of the numbers that a text was read as, where it was read without a fault
abbrev pub oid_of_numbers : Result (List ℕ) OidFault → Option (List ℕ)
oid_of_numbers (Ok numbers) = Some (flat_map septets numbers)
oid_of_numbers (Err fault) = None

-- the bytes of the object identifier that the text names
abbrev pub oid_of_text : List ℕ → Option (List ℕ)
oid_of_text text = oid_of_numbers (numbers_of_text text)
