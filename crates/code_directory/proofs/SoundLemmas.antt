-- What is known of a directory that passed its checks.
use Rattle.std.proofs.Common.{◌≡◌, ℕ, ◌≤◌, Bool, true, false, not, nat_lt, cond, List, [], ◌∷◌, Option, None, Some, refl, arith}
use Rattle.std.proofs.lemmas.Bool.Decides.{nat_tests}
use Rattle.cs_blob.specs.Blobs.{blob_fault}
use Rattle.cs_blob.specs.declared.fault.BlobFault.{BlobFault}
use Rattle.code_directory.specs.declared.layout.TheConstants.{DIRECTORY_MAGIC}
use Rattle.code_directory.specs.declared.fault.CodeFault.{CodeFault}
use Rattle.code_directory.specs.Checks.{first_failing, checks, unless_blob, directory_fault, IsSound}

-- none of the checks fails
abbrev AllPass : List (Bool × CodeFault) → Type 0
AllPass [] = Unit {0}
AllPass (check ∷ rest) = (check.0 ≡ false) × AllPass rest

pass : (t : Bool) (fault : CodeFault) (later : Option CodeFault) → cond t (Some fault) later ≡ None → (t ≡ false) × (later ≡ None)
pass true fault later h = cc
pass false fault later h = (refl, h)

all_pass : (list : List (Bool × CodeFault)) → first_failing list ≡ None → AllPass list
all_pass [] h = tt
all_pass (check ∷ rest) h = let both = pass check.0 check.1 (first_failing rest) h in (both.0, all_pass rest both.1)

is_blob : (part : ℕ) (whole : List ℕ) (fault : Option BlobFault) → unless_blob part whole fault ≡ None → first_failing (checks part whole) ≡ None
is_blob part whole None h = h
is_blob part whole (Some fault) h = cc

holds : (t : Bool) → not t ≡ false → t ≡ true
holds true h = refl
holds false h = cc

at_least : (n bound : ℕ) → nat_lt n bound ≡ false → bound ≤ n
at_least n bound h = grind (arith, nat_tests)

pub sound_of : (part : ℕ) (whole : List ℕ) → directory_fault part whole ≡ None → IsSound whole
sound_of part whole h =
    let all : AllPass (checks part whole) = all_pass (checks part whole) (is_blob part whole (blob_fault DIRECTORY_MAGIC whole) h) in
    record {
      header = at_least _ _ all.0;
      sized = at_least _ _ all.1.1.0;
      hashes = holds _ all.1.1.1.0;
      digests = holds _ all.1.1.1.1.0;
      exponent = at_least _ _ all.1.1.1.1.1.1.0;
      slots = all.1.1.1.1.1.1.1.1.0;
      named = holds _ all.1.1.1.1.1.1.1.1.1.0;
    }
