-- The program's requests as those of the definitions.
use Rattle.std.specs.Prelude.{◌≢◌, Result, Ok, Err}
use Rattle.line_model.specs.LineFaults.{LineFault}
use Rattle.session_model.specs.Lines.{Request, tick, assess, begin, finish, status, edit, Lined, Asks}
use Rattle.assess.specs.Ask.{ask_of}
use Rattle.rule_edits.specs.Edit.{edit_of}
use Rattle.line_words.specs.Faults.{fault_of}
use Rattle.line_words.specs.declared.fault.LineFault as code_fault
use Rattle.line_words.specs.declared.fault.LineFault.TheVariants.{OutOfMemory}
use Rattle.desk_lines.specs.declared.request.Request as code
use Rattle.desk_lines.specs.declared.request.Request.TheVariants.{Tick, Assess, Begin, Finish, Status, Edit}

-- a request of the program as one of the definitions
abbrev pub request_view : code.Request → Request
request_view (Tick at) = tick at
request_view (Assess a) = assess (ask_of a)
request_view (Begin number a) = begin number (ask_of a)
request_view (Finish number) = finish number
request_view Status = status
request_view (Edit e) = edit (edit_of e)

-- a call returned what was read of a line asks for, or its fault, unless memory ran out
abbrev pub Tells : Result code.Request code_fault.LineFault → Result Lined LineFault → Type 0
Tells (Ok request) read = Asks read (Ok (request_view request))
Tells (Err fault) read = fault ≢ OutOfMemory → Asks read (Err (fault_of fault))
