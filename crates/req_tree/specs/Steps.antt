-- What the private functions on object identifiers are said to do, in steps of the definitions.
use Rattle.std.specs.Prelude.{ℕ, ◌≡◌, ◌≢◌, ◌+◌, ◌*◌, ◌%◌, ◌^◌, ◌<◌, ◌≤◌, true, false, nat_lt, if◌then◌else◌, List, [], ◌∷◌, ◌++◌, All, slice_index, min, decimal, Option, None, Some, Result, Ok, Err, MatchOption, MatchResult}
use Rattle.req_tree.specs.declared.fault.OidFault.{OidFault}
use Rattle.req_tree.specs.declared.fault.OidFault.TheVariants.{OutOfMemory}
use Rattle.req_tree.specs.NumericOrder.{number_of}
use Rattle.req_tree.specs.Oid.{base_128, WriteNumbers}
use Rattle.req_tree.specs.OidReading.{arc_words, is_arc}

-- seven more bits of a number, which stays below 2^32
abbrev pub with_septet : ℕ → ℕ → Option ℕ
with_septet part b = if nat_lt (128 * part + b % 128) (2 ^ 32) then Some (128 * part + b % 128) else None

-- the words of what follows a dot, and none where no dot was
abbrev pub words_of : Option (List ℕ) → List (List ℕ)
words_of None = []
words_of (Some text) = arc_words text

-- what a word's value is, up to 2^32; a word that is no arc has none
abbrev pub IsArcValue : List ℕ → Option ℕ → Type 0
IsArcValue word value = MatchOption value (is_arc word ≡ false) (λ n. (is_arc word ≡ true) × (n ≡ min (number_of word) (2 ^ 32)))

-- an arc behind another
abbrev pub dotted_arc : ℕ → List ℕ
dotted_arc n = 46 ∷ decimal n

-- the same of bytes that are appended to others
abbrev pub PushesNumbers : List ℕ → List ℕ → Result (List ℕ) OidFault → Result (Unit {0}) OidFault → Type 0
PushesNumbers old new numbers result =
    MatchResult result (λ _. (read bytes : List ℕ) × (numbers ≡ Ok read) × WriteNumbers read bytes × (new ≡ old ++ bytes)) (λ fault. fault ≢ OutOfMemory → numbers ≡ Err fault)

-- all bytes of a number but the last: the number without its last seven bits
pub record IsNumberFront (n : ℕ) (front : List ℕ) : Type 0 where
  pub more : All (λ b. (128 ≤ b) × (b < 256)) front
  pub fewest : slice_index front 0 ≢ 128
  pub value : base_128 front ≡ n

-- the bytes are whole numbers
abbrev pub HasNumbers : List ℕ → Type 0
HasNumbers bytes = (numbers : List ℕ) × WriteNumbers numbers bytes
