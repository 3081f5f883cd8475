-- What `assess` says of its files at a time. This project's own, after spctl(8), --assess.
use Rattle.std.specs.Prelude.{◌≡◌, ℕ, List, [], ◌∷◌, Option, None, Some, option_map, ⊤}
use denote.Bor.{Bor}
use Rattle.gk_io.specs.Shelf.{File}
use Rattle.line_reader.specs.Lines.{with_lf}
use Rattle.policy_model.specs.Rules.{Kind}
use Rattle.policy_model.specs.History.{Event, Opening}
use Rattle.assess_command.specs.declared.line.Assessed.{Assessed}
use Rattle.assess_command.specs.declared.line.Assessed.TheVariants.{Accepted, Rejected, Refused}
use Rattle.assess_command.specs.Assessments.{Assesses}
use Rattle.run_status.specs.declared.status.Status.{Status}
use Rattle.run_status.specs.declared.status.Status.TheVariants as ends
use Rattle.run_status.specs.Files.{IsFile, SaysOnFile}
use Rattle.file_assessment.specs.declared.limits.TheConstants.{MOST_SIGNATURE_BYTES, MOST_CODE_BYTES}

-- the name of the code file, where there is one
abbrev pub name_of : Option (Bor (List ℕ)) → Option (List ℕ)
name_of name = option_map (λ word. word.now) name

-- the status by what the assessment came to
abbrev pub status_of : Assessed → Status
status_of Accepted = ends.Fine
status_of Rejected = ends.Denied
status_of Refused = ends.Refused

-- from the opening o and the history h on the assessment at these seconds of the clock came to this, and its line is said
pub record SaysAt (o : Opening) (h : List Event) (kind : Kind) (signature : List ℕ) (code : Option (List ℕ)) (seconds : ℕ) (end : Status) (said : List ℕ) : Type 0 where
  pub how : Assessed
  pub line : List ℕ
  pub assesses : Assesses o h kind signature code seconds how line
  pub end_is : end ≡ status_of how
  pub said_is : said ≡ with_lf line

-- the clock's next moment, where it tells its moments
abbrev pub IsNext : Option (List ℕ) → ℕ → Type 0
IsNext None seconds = ⊤
IsNext (Some []) seconds = ⊥
IsNext (Some (moment ∷ later)) seconds = seconds ≡ moment

-- the clock was asked, and this is said at its seconds
pub record SaysByClock (o : Opening) (h : List Event) (moments : Option (List ℕ)) (kind : Kind) (signature : List ℕ) (code : Option (List ℕ)) (end : Status) (said : List ℕ) : Type 0 where
  pub seconds : ℕ
  pub next : IsNext moments seconds
  pub says : SaysAt o h kind signature code seconds end said

-- what is said, by the status, of a signature and of the code file, where one is named
abbrev pub SaysWithCode : Opening → List Event → Option (List File) → Option (List ℕ) → Kind → Option (List ℕ) → List ℕ → Status → List ℕ → Type 0
SaysWithCode o h files moments kind None signature end said = SaysByClock o h moments kind signature None end said
SaysWithCode o h files moments kind (Some name) signature end said = SaysOnFile (λ code. SaysByClock o h moments kind signature (Some code)) files name MOST_CODE_BYTES end said

-- what `assess` says, by the status, over these files and moments: the signature file first, then the code file, then the clock
abbrev pub SaysAssess : Opening → List Event → Option (List File) → Option (List ℕ) → Kind → List ℕ → Option (List ℕ) → Status → List ℕ → Type 0
SaysAssess o h files moments kind name code end said = SaysOnFile (SaysWithCode o h files moments kind code) files name MOST_SIGNATURE_BYTES end said

-- a file of that name is there, and within the limit
abbrev pub HasFile : Option (List File) → List ℕ → ℕ → Type 0
HasFile files name limit = (bytes : List ℕ) × IsFile files name limit bytes

-- the code file is there, where one is named
abbrev pub HasCode : Option (List File) → Option (List ℕ) → Type 0
HasCode files None = ⊤
HasCode files (Some code) = HasFile files code MOST_CODE_BYTES

-- all files of an assessment are there
abbrev pub HasFiles : Option (List File) → List ℕ → Option (List ℕ) → Type 0
HasFiles files name code = HasFile files name MOST_SIGNATURE_BYTES × HasCode files code
