-- An import that comes twice acts as once. This project's own.
use Rattle.std.specs.Prelude.{◌≡◌, ℕ, List, [], ◌∷◌, ◌++◌}
use Rattle.policy_model.specs.Contents.{Edit}
use Rattle.policy_model.specs.Tables.{Tables, IsAccepted}
use Rattle.policy_model.specs.Edits.{does}
use Rattle.policy_model.specs.History.{Event, edit, Opening, edit_answer}
use Rattle.import_csv.specs.ImportFile.{IsImport}

-- the tables after some edits, each of which was answered
abbrev pub answered : List Edit → Tables → Tables
answered [] t = t
answered (e ∷ es) t = answered es (does t e).tables

-- where every row of an import was answered and it comes again right after, none of its rows changes anything
abbrev pub ImportTwice : Type 0
ImportTwice = (bytes : List ℕ) (edits front rear : List Edit) (t : Tables) → IsImport bytes edits → edits ≡ front ++ rear → answered front (answered edits t) ≡ answered edits t

-- no key is accepted twice, whatever happened before, between and behind
abbrev pub KeyActsOnce : Type 0
KeyActsOnce = (o : Opening) (h more : List Event) (a b : Edit) → a.key ≡ b.key → IsAccepted (edit_answer o h a) → IsAccepted (edit_answer o (h ++ edit a ∷ more) b) → ⊥
