-- What the words of an edit ask for, but for its key. This project's own, after --add, --remove, --enable, --disable
-- of spctl(8).
use Rattle.std.specs.Prelude.{ℕ, List, Bool, Option, Some, None, Result, Ok, if◌then◌else◌, codes, bytes_eq}
use Rattle.std.specs.Option.{ok_or}
use Rattle.policy_model.specs.Contents.{Selector, Content, remove, enable, disable, expire, switch}
use Rattle.line_model.specs.LineFaults.{LineFault, bad_line}
use Rattle.line_model.specs.Left.{Left, ◌>>=◌, end_at}
use Rattle.line_model.specs.Forms.{expiry_at, switch_at}
use Rattle.line_model.specs.Selectors.{selector_at}
use Rattle.line_model.specs.Fronts.{Front, front_at}
use Rattle.line_model.specs.Requirements.{text_at}

-- what is done to rules, or to the switch
pub data Verb : Type 0 where
  add_verb : Verb
  remove_verb : Verb
  enable_verb : Verb
  disable_verb : Verb
  expire_verb : Verb
  switch_verb : Verb

-- the first word of an edit
abbrev pub verb_word : List ℕ → Option Verb
verb_word word =
    if bytes_eq word (codes "add") then Some add_verb
    else if bytes_eq word (codes "remove") then Some remove_verb
    else if bytes_eq word (codes "enable") then Some enable_verb
    else if bytes_eq word (codes "disable") then Some disable_verb
    else if bytes_eq word (codes "expire") then Some expire_verb
    else if bytes_eq word (codes "switch") then Some switch_verb
    else None

-- what words ask for, before the requirement in them is read
pub data Worded : Type 0 where
  whole : Content → Worded
  -- the rule of this front, with the requirement of this text
  adds : Front → List ℕ → Worded

-- KIND VERDICT PRIORITY EXPIRY LABEL FLAGS REQUIREMENT
abbrev pub add_at : Left → Result Worded LineFault
add_at left = do
  front ← front_at left
  text ← text_at front.1
  Ok (adds front.0 text)

-- SELECTOR
abbrev pub selected_at : Left → Result Selector LineFault
selected_at left = do
  selector ← selector_at left
  end ← end_at selector.1
  Ok selector.0

-- SELECTOR EXPIRY
abbrev pub expiring_at : Left → Result (Selector × Option ℕ) LineFault
expiring_at left = do
  selector ← selector_at left
  expires ← expiry_at selector.1
  end ← end_at expires.1
  Ok (selector.0, expires.0)

-- on or off
abbrev pub turned_at : Left → Result Bool LineFault
turned_at left = do
  on ← switch_at left
  end ← end_at on.1
  Ok on.0

-- what was read, as a content
abbrev pub as_whole : {A : Type 0} → (A → Content) → Result A LineFault → Result Worded LineFault
as_whole content read = do
  value ← read
  Ok (whole (content value))

-- the words that belong to a verb
abbrev pub operands_at : Verb → Left → Result Worded LineFault
operands_at add_verb left = add_at left
operands_at remove_verb left = as_whole remove (selected_at left)
operands_at enable_verb left = as_whole enable (selected_at left)
operands_at disable_verb left = as_whole disable (selected_at left)
operands_at expire_verb left = as_whole (λ asked. expire asked.0 asked.1) (expiring_at left)
operands_at switch_verb left = as_whole switch (turned_at left)

-- what this first word and those behind it ask for
abbrev pub content_at : List ℕ → Left → Result Worded LineFault
content_at word left = do
  verb ← ok_or (verb_word word) (bad_line 1)
  operands_at verb left
