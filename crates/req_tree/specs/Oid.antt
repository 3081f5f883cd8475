-- Object identifiers: their arcs, their bytes (ITU-T X.690, section 8.19) and their text.
-- This project's own: every number in the bytes is below 2^32.
use Rattle.std.specs.Prelude.{ℕ, ◌≡◌, ◌≢◌, ◌+◌, ◌*◌, ◌%◌, ◌^◌, ◌<◌, ◌≤◌, List, [], ◌∷◌, ◌++◌, All, slice_index, map, decimal}
use Rattle.std.specs.List.{fold, join_with_byte}

-- the number of bytes in base 128, by the low seven bits of each
abbrev pub base_128 : List ℕ → ℕ
base_128 bytes = fold (λ n b. 128 * n + b % 128) 0 bytes

-- one number: the high bit stands on all bytes but the last, and there are as few bytes as can be
pub record WritesNumber (n : ℕ) (bytes : List ℕ) : Type 0 where
  pub front : List ℕ
  pub last : ℕ
  pub parts : bytes ≡ front ++ last ∷ []
  pub more : All (λ b. (128 ≤ b) × (b < 256)) front
  pub end : last < 128
  pub fewest : slice_index bytes 0 ≢ 128
  pub value : base_128 bytes ≡ n
  pub small : n < 2 ^ 32

-- numbers one after another
abbrev pub WriteNumbers : List ℕ → List ℕ → Type 0
WriteNumbers [] bytes = bytes ≡ []
WriteNumbers (n ∷ numbers) bytes = (front rest : List ℕ) × (bytes ≡ front ++ rest) × WritesNumber n front × WriteNumbers numbers rest

-- each element of the list is a byte
abbrev pub IsBytes : List ℕ → Type 0
IsBytes bytes = (i : ℕ) → slice_index bytes i < 256

-- the bytes of these arcs: the first two arcs a and b make the one number 40 a + b, so b is at most
-- 39 where a is below 2
pub record IsOid (arcs bytes : List ℕ) : Type 0 where
  pub a : ℕ
  pub b : ℕ
  pub rest : List ℕ
  pub arcs_are : arcs ≡ a ∷ b ∷ rest
  pub a_fits : a ≤ 2
  pub b_fits : a < 2 → b ≤ 39
  pub bytes_are : WriteNumbers ((40 * a + b) ∷ rest) bytes

-- the bytes are those of some arcs
abbrev pub IsOidBytes : List ℕ → Type 0
IsOidBytes bytes = (arcs : List ℕ) × IsOid arcs bytes

-- the arcs in decimal, with dots between them
abbrev pub dotted : List ℕ → List ℕ
dotted arcs = join_with_byte 46 (map decimal arcs)

-- bytes and text are those of the same arcs
abbrev pub IsOidText : List ℕ → List ℕ → Type 0
IsOidText bytes text = (arcs : List ℕ) × IsOid arcs bytes × (text ≡ dotted arcs)
