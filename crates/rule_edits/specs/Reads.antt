-- What a call reads of the words of an edit, as the definitions have it.
use Rattle.std.specs.Prelude.{◌≢◌, ⊤, ℕ, List, Result, Ok, Err}
use Rattle.req_tree.specs.Tree.{tree_of}
use Rattle.req_tree.specs.declared.req.Req.{Req}
use Rattle.line_model.specs.LineFaults as model
use Rattle.line_model.specs.Requirements.{ReadsAs}
use Rattle.line_model.specs.Contents.{Worded}
use Rattle.line_model.specs.Edits.{Edited, IsContent, IsEdit}
use Rattle.line_words.specs.Faults.{fault_of}
use Rattle.line_words.specs.declared.fault.LineFault.{LineFault}
use Rattle.line_words.specs.declared.fault.LineFault.TheVariants.{BadRequirement, OutOfMemory}
use Rattle.rule_edits.specs.Edit.{content_of, edit_of}
use Rattle.rule_edits.specs.declared.edit.Content.{Content}
use Rattle.rule_edits.specs.declared.edit.Edit.{Edit}

-- a call returned the requirement that a text reads as, or the fault of the text, unless memory ran out
abbrev pub Parses : Result Req LineFault → List ℕ → Type 0
Parses (Ok req) text = ReadsAs text (Ok (tree_of req))
Parses (Err (BadRequirement fault)) text = ReadsAs text (Err fault)
Parses (Err OutOfMemory) text = ⊤
Parses (Err other) text = ⊥

-- a call returned the content that words ask for, or their first fault, unless memory ran out
abbrev pub ReadsContent : Result Content LineFault → Result Worded model.LineFault → Type 0
ReadsContent (Ok content) read = IsContent read (Ok (content_of content))
ReadsContent (Err fault) read = fault ≢ OutOfMemory → IsContent read (Err (fault_of fault))

-- a call returned the edit that words ask for, or their first fault, unless memory ran out
abbrev pub ReadsEdit : Result Edit LineFault → Result Edited model.LineFault → Type 0
ReadsEdit (Ok edit) read = IsEdit read (Ok (edit_of edit))
ReadsEdit (Err fault) read = fault ≢ OutOfMemory → IsEdit read (Err (fault_of fault))
