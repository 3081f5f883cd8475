-- What follows of all that lines ask for; each is proved on a function of src/laws.rt. This project's own.
use Rattle.std.specs.Prelude.{◌≡◌, ℕ, ℤ, List, All, Option, Some, Ok, ⊤}
use Rattle.policy_model.specs.Contents.{Content, Edit}
use Rattle.policy_model.specs.Texts.{content_text}
use Rattle.policy_model.specs.Tables.{Tables}
use Rattle.policy_model.specs.History.{Event, tick, ask, offer, edit, edit_failed, edit_starved, look, tables_after}
use Rattle.line_model.specs.Edits.{IsContentLine, IsEditLine}
use Rattle.line_model.specs.Words.{priority_word, expiry_word}
use Rattle.line_laws.specs.Limits.{AreBytes, IsPriority, IsExpiry, FitsLine}
use Rattle.store_model.specs.Raw.{RawTables}
use Rattle.store_model.specs.Stored.{Holds}
use Rattle.store_model.specs.Accepted.{Accepts}
use Rattle.store_model.specs.Kept.{IsEdit, IsKept}
use Rattle.store_model.specs.Again.{IsReadAgain}

-- a priority that a word is read as is neither too great nor too small
abbrev pub PriorityWordFits : Type 0
PriorityWordFits = (word : List ℕ) (p : ℤ) → priority_word word ≡ Some p → IsPriority p

-- an end that a word is read as is none, or a moment that a line can name
abbrev pub ExpiryWordFits : Type 0
ExpiryWordFits = (word : List ℕ) (expires : Option ℕ) → expiry_word word ≡ Some expires → IsExpiry expires

-- what a text of bytes asks for fits a line
abbrev pub AskedContentFits : Type 0
AskedContentFits = (text : List ℕ) (c : Content) → AreBytes text → IsContentLine text (Ok c) → FitsLine c

-- and so does the edit that a line of bytes asks for, under a key
abbrev pub AskedEditFits : Type 0
AskedEditFits = (line : List ℕ) (e : Edit) → AreBytes line → IsEditLine line (Ok e) → IsEdit e

-- what was read of a text is read again of its canonical text
abbrev pub ReadContentReadsAgain : Type 0
ReadContentReadsAgain = (text : List ℕ) (c : Content) → AreBytes text → IsContentLine text (Ok c) → IsContentLine (content_text c) (Ok c)

-- the edit that an event answers was asked for by a line of bytes
abbrev pub WasAsked : Event → Type 0
WasAsked (tick m) = ⊤
WasAsked (ask a) = ⊤
WasAsked (offer k) = ⊤
WasAsked (edit e) = (line : List ℕ) × AreBytes line × IsEditLine line (Ok e)
WasAsked (edit_failed e) = ⊤
WasAsked (edit_starved e) = ⊤
WasAsked look = ⊤

-- a history of such events leaves tables that are stored in accepted rows
abbrev pub AskedHistoriesStayKept : Type 0
AskedHistoriesStayKept = (t : Tables) (h : List Event) → IsKept t → All WasAsked h → IsKept (tables_after h t)

-- so a store that such events have led to from an accepted one is read again: its rows are accepted, and mean those tables alone
abbrev pub AskedHistoriesAreReadAgain : Type 0
AskedHistoriesAreReadAgain = (raw left : RawTables) (t : Tables) (h : List Event) → Accepts raw → Holds raw t → All WasAsked h
    → Holds left (tables_after h t) → IsReadAgain left (tables_after h t)
