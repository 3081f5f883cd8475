-- No printed word has a space in it.
use Rattle.std.proofs.Common.{◌≡◌, ℕ, suc, ◌+◌, ◌-◌, ◌/◌, ◌%◌, ◌^◌, ◌<◌, ◌≤◌, ◌==◌, Bool, true, false, not, nat_le, ℤ, pos, negsuc, List, [], ◌∷◌, All, Option, Some, None, if◌then◌else◌, decimal, refl, sym, subst, arith}
use Rattle.std.specs.Prelude.{IfSome, unsigned_abs}
use Rattle.std.specs.List.{list_all, flat_map}
use Rattle.std.specs.Char.{is_ascii_digit}
use Rattle.std.specs.Str.{bytes_eq}
use Rattle.std.proofs.lemmas.Bool.{and_parts}
use Rattle.std.proofs.lemmas.Bool.Decides.{nat_tests}
use Rattle.std.proofs.lemmas.Nat.{mod_below}
use Rattle.std.proofs.lemmas.List.Elements.{All-nil, All-cons, All-append}
use Rattle.line_text.specs.WordText.{hex_digit, is_plain, byte_text, word_text}
use Rattle.policy_model.specs.declared.limits.TheConstants.{UNIT}
use Rattle.policy_model.specs.Rules.{Kind, execute, install, document}
use Rattle.policy_model.specs.Texts.{kind_text, verdict_word, expiry_text, places, fraction_text, priority_text, flags_text, any_kind_text}
use Rattle.policy_model.specs.Laws.{PlacesStand}
use Rattle.line_laws.proofs.Numbers.{AreDigits, are_digits}
use Rattle.line_laws.proofs.Priorities.{places_digits, size_text, units_digits, plain_text, signed_text}

abbrev pub is_space : ℕ → Bool
is_space b = b == 32

abbrev pub IsNoSpace : ℕ → Type 0
IsNoSpace b = is_space b ≡ false

abbrev pub HasNoSpace : List ℕ → Type 0
HasNoSpace word = All IsNoSpace word

-- a literal is tested
pub by_test : (word : List ℕ) → list_all (λ b. not (is_space b)) word ≡ true → HasNoSpace word
by_test [] h = All-nil IsNoSpace
by_test (b ∷ word) h =
    let parts = and_parts (not (is_space b)) (list_all (λ b. not (is_space b)) word) h in
    All-cons IsNoSpace b word (turned (is_space b) parts.0) (by_test word parts.1)
  where
    turned : (c : Bool) → not c ≡ true → c ≡ false
    turned true e = absurd (cc e)
    turned false e = refl

digit : (d : ℕ) → is_ascii_digit d ≡ true → IsNoSpace d
digit d h = grind (arith, nat_tests, h)

in_digits : (ds : List ℕ) → AreDigits ds → HasNoSpace ds
in_digits [] h = All-nil IsNoSpace
in_digits (d ∷ ds) h =
    let parts = and_parts (is_ascii_digit d) (list_all is_ascii_digit ds) h in
    All-cons IsNoSpace d ds (digit d parts.0) (in_digits ds parts.1)

pub in_decimal : (n : ℕ) → n < 2 ^ 64 → HasNoSpace (decimal n)
in_decimal n h = in_digits (decimal n) (are_digits n h)

pub in_expiry : (e : Option ℕ) → IfSome e (λ m. m ≤ 253402300799) → HasNoSpace (expiry_text e)
in_expiry None h = by_test (expiry_text None) refl
in_expiry (Some m) h = in_decimal m (omega (arith, h))

pub in_kind : (k : Kind) → HasNoSpace (kind_text k)
in_kind execute = by_test (kind_text execute) refl
in_kind install = by_test (kind_text install) refl
in_kind document = by_test (kind_text document) refl

pub in_any_kind : (k : Option Kind) → HasNoSpace (any_kind_text k)
in_any_kind None = by_test (any_kind_text None) refl
in_any_kind (Some k) = in_kind k

pub in_verdict : (allow : Bool) → HasNoSpace (verdict_word allow)
in_verdict true = by_test (verdict_word true) refl
in_verdict false = by_test (verdict_word false) refl

pub in_flags : (is_default inhibit : Bool) → HasNoSpace (flags_text is_default inhibit)
in_flags true true = by_test (flags_text true true) refl
in_flags true false = by_test (flags_text true false) refl
in_flags false true = by_test (flags_text false true) refl
in_flags false false = by_test (flags_text false false) refl

plain : (b : ℕ) → is_plain b ≡ true → IsNoSpace b
plain b h = grind (arith, nat_tests, h)

hex : (n : ℕ) → IsNoSpace (hex_digit n)
hex n = by_case (nat_le (suc n) 10)
  where
    low : IsNoSpace (48 + n)
    low = grind (arith, nat_tests)

    high : (k : ℕ) → IsNoSpace (65 + k)
    high k = grind (arith, nat_tests)

    by_case : (c : Bool) → IsNoSpace (if c then 48 + n else 65 + (n - 10))
    by_case true = low
    by_case false = high (n - 10)

in_byte : (b : ℕ) → HasNoSpace (byte_text b)
in_byte b = by_case (is_plain b) refl
  where
    by_case : (c : Bool) → is_plain b ≡ c → HasNoSpace (if c then b ∷ [] else 37 ∷ hex_digit (b / 16) ∷ hex_digit (b % 16) ∷ [])
    by_case true e = All-cons IsNoSpace b [] (plain b e) (All-nil IsNoSpace)
    by_case false e =
        All-cons IsNoSpace 37 (hex_digit (b / 16) ∷ hex_digit (b % 16) ∷ []) refl
        (All-cons IsNoSpace (hex_digit (b / 16)) (hex_digit (b % 16) ∷ []) (hex (b / 16))
        (All-cons IsNoSpace (hex_digit (b % 16)) [] (hex (b % 16)) (All-nil IsNoSpace)))

in_bytes : (bytes : List ℕ) → HasNoSpace (flat_map byte_text bytes)
in_bytes [] = All-nil IsNoSpace
in_bytes (b ∷ bytes) = All-append IsNoSpace (byte_text b) (flat_map byte_text bytes) (in_byte b) (in_bytes bytes)

pub in_word : (bytes : List ℕ) → HasNoSpace (word_text bytes)
in_word bytes = by_case (bytes_eq bytes []) (bytes_eq bytes (45 ∷ []))
  where
    by_case : (none dash : Bool) → HasNoSpace (if none then 45 ∷ [] else (if dash then 37 ∷ 50 ∷ 68 ∷ [] else flat_map byte_text bytes))
    by_case true dash = by_test (45 ∷ []) refl
    by_case false true = by_test (37 ∷ 50 ∷ 68 ∷ []) refl
    by_case false false = in_bytes bytes

module _ (stand : PlacesStand) where
  in_fraction : (r : ℕ) → r < UNIT → HasNoSpace (fraction_text r)
  in_fraction r h = by_case (r == 0)
    where
      by_case : (c : Bool) → HasNoSpace (if c then [] else 46 ∷ places 6 r)
      by_case true = All-nil IsNoSpace
      by_case false = All-cons IsNoSpace 46 (places 6 r) refl (in_digits (places 6 r) (places_digits stand r h))

  in_size : (n : ℕ) → n ≤ 1000000000000 → HasNoSpace (size_text stand n)
  in_size n h =
      All-append IsNoSpace (decimal (n / UNIT)) (fraction_text (n % UNIT)) (in_digits (decimal (n / UNIT)) (units_digits stand n h))
      (in_fraction (n % UNIT) (mod_below n UNIT (omega arith)))

  pub in_priority : (p : ℤ) → unsigned_abs p ≤ 1000000000000 → HasNoSpace (priority_text p)
  in_priority (pos m) h = subst HasNoSpace (sym (plain_text stand m)) (in_size m h)
  in_priority (negsuc m) h = subst HasNoSpace (sym (signed_text stand m)) (All-cons IsNoSpace 45 (size_text stand (suc m)) refl (in_size (suc m) h))
