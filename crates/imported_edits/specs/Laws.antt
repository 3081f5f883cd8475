-- What the rows of an import leave in a store; each is proved on a function of src/laws.rt. This project's own.
use Rattle.std.specs.Prelude.{ℕ, List, All, Contains, ⊤}
use Rattle.policy_model.specs.Contents.{Edit}
use Rattle.policy_model.specs.Tables.{Tables}
use Rattle.policy_model.specs.History.{Event, tick, ask, offer, edit, edit_failed, edit_starved, look, tables_after}
use Rattle.line_laws.specs.Limits.{AreBytes}
use Rattle.store_model.specs.Raw.{RawTables}
use Rattle.store_model.specs.Stored.{Holds}
use Rattle.store_model.specs.Accepted.{Accepts}
use Rattle.store_model.specs.Kept.{IsEdit}
use Rattle.store_model.specs.Again.{IsReadAgain}
use Rattle.import_csv.specs.ImportFile.{IsImport}

-- each edit of an import is one that a line can ask for
abbrev pub ImportedEditsFit : Type 0
ImportedEditsFit = (bytes : List ℕ) (edits : List Edit) → AreBytes bytes → IsImport bytes edits → All IsEdit edits

-- the edit that an event answers is one of these
abbrev pub AnswersOneOf : List Edit → Event → Type 0
AnswersOneOf edits (tick m) = ⊤
AnswersOneOf edits (ask a) = ⊤
AnswersOneOf edits (offer k) = ⊤
AnswersOneOf edits (edit e) = Contains edits e
AnswersOneOf edits (edit_failed e) = ⊤
AnswersOneOf edits (edit_starved e) = ⊤
AnswersOneOf edits look = ⊤

-- from an accepted store, answers to rows of an import lead to a store that is read again
abbrev pub ImportIsReadAgain : Type 0
ImportIsReadAgain = (bytes : List ℕ) (edits : List Edit) (raw left : RawTables) (t : Tables) (h : List Event) → AreBytes bytes → IsImport bytes edits
    → All (AnswersOneOf edits) h → Accepts raw → Holds raw t → Holds left (tables_after h t) → IsReadAgain left (tables_after h t)
