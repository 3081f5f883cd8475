-- The program's parts of a request as those of the definitions.
use Rattle.std.specs.Prelude.{◌≡◌, ℕ, ◌<◌, List, ◌∷◌, All, length, map, Result, Ok, Err}
use Rattle.httparse.specs.Spans.{header_bytes, IsHeaderWithin}
use Rattle.httparse.specs.declared.spans.HeaderSpan.{HeaderSpan}
use Rattle.http_model.specs.Faults.{HttpFault, bad_head, too_large, no_length, no_path, bad_method, bad_form, out_of_memory, bad_length, spent}
use Rattle.http_model.specs.Fields.{Pair, values}
use Rattle.http_model.specs.Paths as work
use Rattle.http_fields.specs.declared.fault.HttpFault as code
use Rattle.http_fields.specs.declared.fault.HttpFault.TheVariants.{BadHead, TooLarge, NoLength, NoPath, BadMethod, BadForm, OutOfMemory, BadLength, Spent}
use Rattle.http_fields.specs.declared.work.Work.{Work}
use Rattle.http_fields.specs.declared.work.Work.TheVariants.{Status, Rules, Assess, Edit}

-- the names and the values that the spans of fields cover
abbrev pub pairs_at : List ℕ → List HeaderSpan → List Pair
pairs_at window fields = map (header_bytes window) fields

-- the first field of this name has the value, and these are the fields behind it, all in the window
pub record IsFirst (window : List ℕ) (fields : List HeaderSpan) (name value : List ℕ) (rest : List HeaderSpan) : Type 0 where
  pub values_are : values name (pairs_at window fields) ≡ value ∷ values name (pairs_at window rest)
  pub within : All (IsHeaderWithin (length window)) rest
  pub fewer : length rest < length fields

-- the fault of the definitions
abbrev pub fault_of : code.HttpFault → HttpFault
fault_of BadHead = bad_head
fault_of TooLarge = too_large
fault_of NoLength = no_length
fault_of NoPath = no_path
fault_of BadMethod = bad_method
fault_of BadForm = bad_form
fault_of OutOfMemory = out_of_memory
fault_of BadLength = bad_length
fault_of Spent = spent

-- the length of a body, or the fault of the definitions
abbrev pub length_of : Result ℕ code.HttpFault → Result ℕ HttpFault
length_of (Ok size) = Ok size
length_of (Err fault) = Err (fault_of fault)

-- the work of the definitions
abbrev pub work_of : Work → work.Work
work_of Status = work.status
work_of Rules = work.rules
work_of (Assess kind keep) = work.assess kind.now keep
work_of Edit = work.edit

-- what is asked for, or the fault of the definitions
abbrev pub asked_of : Result Work code.HttpFault → Result work.Work HttpFault
asked_of (Ok w) = Ok (work_of w)
asked_of (Err fault) = Err (fault_of fault)
