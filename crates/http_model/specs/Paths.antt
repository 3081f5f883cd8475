-- What a request's target and method ask for. This project's own.
use Rattle.std.specs.Prelude.{ℕ, Bool, true, false, List, [], ◌∷◌, ◌++◌, Option, Some, None, Result, Ok, Err, if◌then◌else◌, codes, bytes_eq}
use Rattle.http_model.specs.Faults.{HttpFault, no_path, bad_method}

-- what is to be done
pub data Work : Type 0 where
  status : Work
  rules : Work
  -- the signature in the body is assessed, by the rules of the kind that this word names; its outcome may be kept, or not
  assess : List ℕ → Bool → Work
  -- the line in the body's form is an edit
  edit : Work

-- the target of a work
abbrev pub target_of : Work → List ℕ
target_of status = codes "/status"
target_of rules = codes "/rules"
target_of (assess kind keep) = codes "/assess/" ++ kind ++ (if keep then [] else codes "/nocache")
target_of edit = codes "/edit"

-- the method of a work
abbrev pub method_of : Work → List ℕ
method_of status = codes "GET"
method_of rules = codes "GET"
method_of (assess kind keep) = codes "POST"
method_of edit = codes "POST"

-- every assessment that has a target
abbrev pub all_assessments : List Work
all_assessments =
    assess (codes "execute") true ∷ assess (codes "execute") false ∷ assess (codes "install") true ∷ assess (codes "install") false
    ∷ assess (codes "open") true ∷ assess (codes "open") false ∷ []

-- every work that has a target
abbrev pub all_works : List Work
all_works = status ∷ rules ∷ edit ∷ all_assessments

-- the work at this target, byte for byte
abbrev pub work_at : List ℕ → List Work → Option Work
work_at target [] = None
work_at target (work ∷ works) = if bytes_eq target (target_of work) then Some work else work_at target works

-- the same, where the method is its own
abbrev pub by_method : List ℕ → Option Work → Result Work HttpFault
by_method method None = Err no_path
by_method method (Some work) = if bytes_eq method (method_of work) then Ok work else Err bad_method

-- what a method and a target ask for, or why nothing
abbrev pub work_of : List ℕ → List ℕ → Result Work HttpFault
work_of method target = by_method method (work_at target all_works)

-- the clock is asked for the moment of this work
abbrev pub asks_clock : Work → Bool
asks_clock status = false
asks_clock rules = false
asks_clock (assess kind keep) = true
asks_clock edit = true
