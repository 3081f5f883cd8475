-- Digests (FIPS 180-4), by the types of Apple's cs_blobs.h.
use Rattle.std.specs.Prelude.{ℕ, Bool, ◌&&◌, ◌==◌, if◌then◌else◌, List, [], ◌∷◌, take}
use Rattle.std.specs.List.{list_any}
use Rattle.sha1.specs.Sha1.{sha1}
use Rattle.sha2.specs.Sha256.{sha256}
use Rattle.sha2.specs.Sha512.{sha384}

-- the types with the sizes of their digests: SHA-1, SHA-256, SHA-256 cut to 20 bytes, and SHA-384
abbrev pub hash_sizes : List (ℕ × ℕ)
hash_sizes = (1, 20) ∷ (2, 32) ∷ (3, 20) ∷ (4, 48) ∷ []

-- whether a type of digests is one of these
abbrev pub is_hash_type : ℕ → Bool
is_hash_type kind = list_any (λ (line : ℕ × ℕ). line.0 == kind) hash_sizes

-- whether the digests of a type have this size
abbrev pub is_hash_size : ℕ → ℕ → Bool
is_hash_size kind size = list_any (λ (line : ℕ × ℕ). (line.0 == kind) && (line.1 == size)) hash_sizes

-- the digest of a type
abbrev pub digest : ℕ → List ℕ → List ℕ
digest kind bytes =
    if kind == 1 then sha1 bytes
    else if kind == 2 then sha256 bytes
    else if kind == 3 then take 20 (sha256 bytes)
    else sha384 bytes
