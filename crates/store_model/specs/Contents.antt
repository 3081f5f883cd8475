-- The texts of contents that receipts keep. This project's own.
use Rattle.std.specs.Prelude.{◌≡◌, ℕ, List, Ok}
use Rattle.policy_model.specs.Contents.{NewRow, Content, add}
use Rattle.policy_model.specs.Texts.{content_text}
use Rattle.line_model.specs.Edits.{IsContentLine}

-- the text is read as this content, and is its canonical one
pub record IsTextOf (content : Content) (text : List ℕ) : Type 0 where
  pub reads : IsContentLine text (Ok content)
  pub canonical : text ≡ content_text content

-- the canonical text of a content
abbrev pub IsContentText : List ℕ → Type 0
IsContentText text = (content : Content) × IsTextOf content text

-- the canonical text of an add
abbrev pub IsAddText : List ℕ → Type 0
IsAddText text = (row : NewRow) × IsTextOf (add row) text
