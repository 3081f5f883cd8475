-- A signature file and, where there is one, a file of its code: what they say the code is, or the first check that
-- fails. This project's own: which parts are checked, and that an empty file is code without a signature.
use Rattle.std.specs.Prelude.{ℕ, ◌≡◌, ◌≢◌, ◌⊎◌, List, [], ◌∷◌, Option, None, Some, option_map}
use denote.Bor.{Bor}
use Rattle.req_tree.specs.Subject.{Subject}
use Rattle.code_directory.specs.declared.layout.TheConstants.{REQUIREMENTS, ENTITLEMENTS, DER_ENTITLEMENTS}
use Rattle.code_directory.specs.declared.fault.CodeFault.{CodeFault}
use Rattle.code_directory.specs.Signatures.{View, Views, SignatureFails, subject}
use Rattle.code_directory.specs.Agreement.{PartAgrees, PartFails, PagesAgree, CodeFails}

-- the bytes of the code, where there is a file of it
abbrev pub code_of : Option (Bor (List ℕ)) → Option (List ℕ)
code_of code = option_map (λ bytes. bytes.now) code

-- the parts that are checked, in this order
abbrev pub checked_parts : List ℕ
checked_parts = REQUIREMENTS ∷ ENTITLEMENTS ∷ DER_ENTITLEMENTS ∷ []

-- each of these parts agrees
abbrev pub PartsAgree : View → List ℕ → Type 0
PartsAgree view [] = Unit {0}
PartsAgree view (kind ∷ kinds) = PartAgrees view kind × PartsAgree view kinds

-- the first of these parts that differs is refused so
abbrev pub PartsFail : View → List ℕ → CodeFault → Type 0
PartsFail view [] fault = ⊥
PartsFail view (kind ∷ kinds) fault = PartFails view kind fault ⊎ (PartAgrees view kind × PartsFail view kinds fault)

-- the code has the pages of the directory, where there is a file of it
abbrev pub CodeAgrees : View → Option (List ℕ) → Type 0
CodeAgrees view None = Unit {0}
CodeAgrees view (Some code) = PagesAgree view.directory code

-- the code is refused so
abbrev pub CodeDiffers : View → Option (List ℕ) → CodeFault → Type 0
CodeDiffers view None fault = ⊥
CodeDiffers view (Some code) fault = CodeFails view.directory code fault

-- the files pass: there is a signature, its parts agree, and so does the code
pub record Passes (signature : List ℕ) (code : Option (List ℕ)) (seen : Subject) : Type 0 where
  pub signed : signature ≢ []
  pub view : View
  pub views : Views signature view
  pub parts : PartsAgree view checked_parts
  pub pages : CodeAgrees view code
  pub seen_is : seen ≡ subject view

-- what the files say the code is; none where there is no signature
abbrev pub IsSubject : List ℕ → Option (List ℕ) → Option Subject → Type 0
IsSubject signature code None = signature ≡ []
IsSubject signature code (Some seen) = Passes signature code seen

-- the signature passes, and what is wrong first with the parts and the code
pub record SignedFails (signature : List ℕ) (code : Option (List ℕ)) (fault : CodeFault) : Type 0 where
  pub view : View
  pub views : Views signature view
  pub first : PartsFail view checked_parts fault ⊎ (PartsAgree view checked_parts × CodeDiffers view code fault)

-- what is wrong first with the files
pub record FilesFail (signature : List ℕ) (code : Option (List ℕ)) (fault : CodeFault) : Type 0 where
  pub signed : signature ≢ []
  pub first : SignatureFails signature fault ⊎ SignedFails signature code fault
