-- The line of an edit, in canonical words. This project's own.
use Rattle.std.specs.Prelude.{ℕ, List, ◌++◌, ◌==◌, codes}
use Rattle.std.specs.List.{before_first, after_first}
use Rattle.policy_model.specs.Contents.{Edit}
use Rattle.policy_model.specs.Texts.{content_text}

-- a text with a word more behind its first one
abbrev pub with_second : List ℕ → List ℕ → List ℕ
with_second word text = before_first (λ b. b == 32) text ++ codes " " ++ word ++ codes " " ++ after_first (λ b. b == 32) text

-- the content's text, with the key behind its first word
abbrev pub edit_text : Edit → List ℕ
edit_text e = with_second e.key (content_text e.content)
