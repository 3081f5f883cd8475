-- What follows from the definitions alone; each is proved on a function of src/laws.rt.
use Rattle.std.specs.Prelude.{◌≡◌, ℕ, List}
use Rattle.req_tree.specs.Subject.{Subject}
use Rattle.req_tree.specs.Facts.{Facts}
use Rattle.policy_model.specs.Rules.{Row, Kind}
use Rattle.policy_model.specs.Outcomes.{outcome}
use Rattle.policy_model.specs.Tables.{Tables}
use Rattle.policy_model.specs.History.{HasOwnIds}
use Rattle.authority_table.specs.Snapshot.{IsSnapshot}
use Rattle.assess.specs.Tests.{AllOfKind}

-- a judgement of a snapshot is one of the tables
abbrev pub SnapshotsJudgeAlike : Type 0
SnapshotsJudgeAlike = (t : Tables) (kind : Kind) (snapshot : List Row) → HasOwnIds t → IsSnapshot t.rows kind snapshot →
    (subject : Subject) (facts : Facts) (m : ℕ) → outcome snapshot kind subject facts m ≡ outcome t.rows kind subject facts m

-- all rows of a snapshot are of its kind
abbrev pub SnapshotsAreOfKind : Type 0
SnapshotsAreOfKind = (rows snapshot : List Row) (kind : Kind) → IsSnapshot rows kind snapshot → AllOfKind kind snapshot
