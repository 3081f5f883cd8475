-- What is read back of a line; each is proved on a function of src/laws.rt.
use Rattle.std.specs.Prelude.{◌≡◌, ◌≢◌, ℕ, List, [], All, true, Result, Ok, Err}
use Rattle.policy_model.specs.Keys.{is_key}
use Rattle.policy_model.specs.Contents.{Content, Edit}
use Rattle.policy_model.specs.Texts.{content_text}
use Rattle.line_model.specs.Words.{words, spaced}
use Rattle.line_model.specs.LineFaults.{LineFault}
use Rattle.line_model.specs.Contents.{Worded}
use Rattle.line_model.specs.Edits.{Edited, IsContent, IsContentLine, IsEdit, IsEditLine}
use Rattle.line_laws.specs.Limits.{FitsLine}
use Rattle.line_laws.specs.EditTexts.{edit_text}

-- words without spaces that are joined by spaces are the words of that line
abbrev pub WordsReadBack : Type 0
WordsReadBack = (pieces : List (List ℕ)) → pieces ≢ [] → All (λ piece. All (λ b. b ≢ 32) piece) pieces → words (spaced pieces) ≡ pieces

-- the text of a content asks for that content
abbrev pub ContentReadsBack : Type 0
ContentReadsBack = (c : Content) → FitsLine c → IsContentLine (content_text c) (Ok c)

-- the line of an edit asks for that edit
abbrev pub EditReadsBack : Type 0
EditReadsBack = (e : Edit) → is_key e.key ≡ true → FitsLine e.content → IsEditLine (edit_text e) (Ok e)

-- a text asks for one content at most
abbrev pub TextAsksForOneContent : Type 0
TextAsksForOneContent = (text : List ℕ) (a b : Content) → IsContentLine text (Ok a) → IsContentLine text (Ok b) → a ≡ b

-- a line asks for one edit at most
abbrev pub LineAsksForOneEdit : Type 0
LineAsksForOneEdit = (line : List ℕ) (a b : Edit) → IsEditLine line (Ok a) → IsEditLine line (Ok b) → a ≡ b

-- a canonical text is that of one content
abbrev pub TextIsOfOneContent : Type 0
TextIsOfOneContent = (a b : Content) → FitsLine a → FitsLine b → content_text a ≡ content_text b → a ≡ b

-- a text that asks for a content has no fault
abbrev pub ContentHasNoFault : Type 0
ContentHasNoFault = (text : List ℕ) (c : Content) (fault : LineFault) → IsContentLine text (Ok c) → IsContentLine text (Err fault) → ⊥

-- a line that asks for an edit has no fault
abbrev pub EditHasNoFault : Type 0
EditHasNoFault = (line : List ℕ) (e : Edit) (fault : LineFault) → IsEditLine line (Ok e) → IsEditLine line (Err fault) → ⊥

-- what the words of a content ask for, or their fault, is one: a fault's place and number included
abbrev pub ContentIsAskedOnce : Type 0
ContentIsAskedOnce = (words : Result Worded LineFault) (a b : Result Content LineFault) → IsContent words a → IsContent words b → a ≡ b

-- what the words of an edit ask for, or their fault, is one: a fault's place and number included
abbrev pub EditIsAskedOnce : Type 0
EditIsAskedOnce = (words : Result Edited LineFault) (a b : Result Edit LineFault) → IsEdit words a → IsEdit words b → a ≡ b
