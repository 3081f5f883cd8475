-- What the command `import` says: a reply a row. This project's own.
use Rattle.std.specs.Prelude.{◌≡◌, ◌≢◌, ◌⊎◌, ℕ, List, [], ◌++◌, Option}
use Rattle.std.specs.List.{list_any}
use Rattle.gk_io.specs.Shelf.{File}
use Rattle.line_reader.specs.Lines.{with_lf, text_of}
use Rattle.policy_model.specs.Contents.{Edit}
use Rattle.policy_model.specs.History.{Event, Opening}
use Rattle.run_status.specs.declared.status.Status.{Status}
use Rattle.run_status.specs.declared.status.Status.TheVariants.{Refused, OutOfMemory}
use Rattle.run_status.specs.Files.{SaysWithoutFile, SaysOfFile}
use Rattle.import_csv.specs.declared.fault.ImportFault.{ImportFault}
use Rattle.import_csv.specs.ImportFile.{IsImport, IsFirstFault}
use Rattle.import_csv.specs.FaultText.{import_fault_text}
use Rattle.table_commands.specs.declared.limits.TheConstants.{MOST_IMPORT_BYTES}
use Rattle.table_commands.specs.Replies.{EditsReply, is_refusal, refused_when}

-- the file is refused, and nothing is done
pub record IsRefused (h : List Event) (bytes : List ℕ) (status : Status) (text : List ℕ) (after : List Event) : Type 0 where
  pub fault : ImportFault
  pub first : IsFirstFault bytes fault
  pub status_is : status ≡ Refused
  pub text_is : text ≡ with_lf (import_fault_text fault)
  pub after_is : after ≡ h

-- every row of the file has its reply
pub record IsDone (o : Opening) (h : List Event) (bytes : List ℕ) (status : Status) (text : List ℕ) (after : List Event) : Type 0 where
  pub edits : List Edit
  pub replies : List (List ℕ)
  pub file : IsImport bytes edits
  pub answers : EditsReply o h edits replies after
  pub status_is : status ≡ refused_when (list_any is_refusal replies)
  pub text_is : text ≡ text_of replies

-- the first rows of the file have their replies, and there was no memory for the next
pub record IsStarved (o : Opening) (h : List Event) (bytes text : List ℕ) (after : List Event) : Type 0 where
  pub front : List Edit
  pub rear : List Edit
  pub replies : List (List ℕ)
  pub file : IsImport bytes (front ++ rear)
  pub left : rear ≢ []
  pub answers : EditsReply o h front replies after
  pub text_is : text ≡ text_of replies

-- from the opening o and the history h on: what is said of the bytes of an import, by the status, and the history after it
abbrev pub Imports : Opening → List Event → List Event → List ℕ → Status → List ℕ → Type 0
Imports o h after bytes OutOfMemory text = IsStarved o h bytes text after
Imports o h after bytes status text = IsRefused h bytes status text after ⊎ IsDone o h bytes status text after

-- the file isn't there or is too long, and nothing is done
pub record IsWithoutFile (files : Option (List File)) (h : List Event) (name : List ℕ) (status : Status) (text : List ℕ) (after : List Event) : Type 0 where
  pub says : SaysWithoutFile files name MOST_IMPORT_BYTES status text
  pub after_is : after ≡ h

-- what `import` says over these files, by the status, and the history after it
abbrev pub SaysImport : Opening → List Event → Option (List File) → List ℕ → Status → List ℕ → List Event → Type 0
SaysImport o h files name status text after =
    IsWithoutFile files h name status text after ⊎ SaysOfFile (Imports o h after) files name MOST_IMPORT_BYTES status text
