-- The lines of edits and of contents, and what each asks for. This project's own.
use Rattle.std.specs.Prelude.{◌≡◌, ℕ, List, length, nat_le, Result, Ok, Err, if◌then◌else◌}
use Rattle.std.specs.Option.{ok_or}
use Rattle.req_tree.specs.Tree.{Tree}
use Rattle.req_tokens.specs.declared.fault.TextFault.{TextFault}
use Rattle.policy_model.specs.Contents.{Content, add, Edit}
use Rattle.line_text.specs.declared.limits.TheConstants.{LINE_LIMIT, LINE_HELD}
use Rattle.line_model.specs.LineFaults.{LineFault, bad_line, bad_requirement}
use Rattle.line_model.specs.Left.{Left, all_of, ◌>>=◌, word_at}
use Rattle.line_model.specs.Forms.{key_at}
use Rattle.line_model.specs.Fronts.{Front, new_row}
use Rattle.line_model.specs.Requirements.{ReadsAs}
use Rattle.line_model.specs.Contents.{Worded, whole, adds, verb_word, operands_at, content_at}

-- an edit's key, and what its other words ask for
pub record Edited : Type 0 where
  pub key : List ℕ
  pub worded : Worded

-- what this first word, a key and the words behind it ask for
abbrev pub edit_at : List ℕ → Left → Result Edited LineFault
edit_at word left = do
  verb ← ok_or (verb_word word) (bad_line 1)
  key ← key_at left
  worded ← operands_at verb key.1
  Ok (record { key = key.0; worded = worded })

-- what is made of the rule of a front whose text reads as a requirement, or the fault of its text
abbrev pub made : {A : Type 0} → (Content → A) → Front → List ℕ → Result Tree TextFault → Result A LineFault
made make front text (Ok tree) = Ok (make (add (new_row front text tree)))
made make front text (Err fault) = Err (bad_requirement fault)

-- words ask for what is made of this content, or their requirement has this fault
abbrev pub Makes : {A : Type 0} → (Content → A) → Worded → Result A LineFault → Type 0
Makes make (whole content) asked = asked ≡ Ok (make content)
Makes make (adds front text) asked = (reads : Result Tree TextFault) × ReadsAs text reads × (asked ≡ made make front text reads)

-- the words of a content ask for this, or have this first fault
abbrev pub IsContent : Result Worded LineFault → Result Content LineFault → Type 0
IsContent (Err fault) asked = asked ≡ Err fault
IsContent (Ok worded) asked = Makes (λ content. content) worded asked

-- a content under a key
abbrev pub keyed : List ℕ → Content → Edit
keyed key content = record { key = key; content = content }

-- the words of an edit ask for this, or have this first fault
abbrev pub IsEdit : Result Edited LineFault → Result Edit LineFault → Type 0
IsEdit (Err fault) asked = asked ≡ Err fault
IsEdit (Ok edited) asked = Makes (keyed edited.key) edited.worded asked

-- a line by its first word and what is left behind it; one that is too long is refused in the first column past the
-- limit
abbrev pub by_words : {A : Type 0} → (List ℕ → Left → Result A LineFault) → List ℕ → Result A LineFault
by_words form line =
    if nat_le (length line) LINE_LIMIT then (word_at (all_of line) >>= λ word. form word.0 word.1) else Err (bad_line LINE_HELD)

-- the line of an edit asks for this, or has this first fault
abbrev pub IsEditLine : List ℕ → Result Edit LineFault → Type 0
IsEditLine line asked = IsEdit (by_words edit_at line) asked

-- the text of a content asks for this, or has this first fault
abbrev pub IsContentLine : List ℕ → Result Content LineFault → Type 0
IsContentLine text asked = IsContent (by_words content_at text) asked
