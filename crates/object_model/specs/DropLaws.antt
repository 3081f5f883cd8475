-- What an edit drops and what has moved, said in other ways; each is proved on a function of src/laws.rt.
use Rattle.std.specs.Prelude.{◌≡◌, ◌↔◌, ℕ, ◌≤◌, ◌-◌, List, take, All, Bool, true, false, nat_lt, Option, is_some}
use Rattle.std.specs.List.{filter}
use Rattle.req_tree.specs.Subject.{Subject}
use Rattle.policy_model.specs.Rules.{Row, Rank, Kind, rank_of, Before}
use Rattle.policy_model.specs.Outcomes.{governed, default}
use Rattle.policy_model.specs.History.{Event, Entry, Opening, Counts}
use Rattle.object_model.specs.Objects.{is_unexpired, outlasts, touches, is_moved}
use Rattle.object_model.specs.Past.{touched_since, mark_of}
use Rattle.object_model.specs.Purges.{first_touched, purged_by, counts_by}
use Rattle.object_model.specs.Stands.{counts_with}
use Rattle.object_model.specs.Rings.{ring_of, moved_by}
use Rattle.object_model.specs.Plain.{Rings, rings_with, rings_by}

-- where no later edit of the kind is forgiven, the counts tell whether an outcome has moved
abbrev pub MovedByCounts : Type 0
MovedByCounts = (o : Opening) (h : List Event) (k : ℕ) (e : Entry) →
    is_moved 0 (touched_since o h k) e ≡ nat_lt (mark_of o (take k h) e.kind) (mark_of o h e.kind)

-- counts and a ring tell whether an outcome has moved, whatever number of edits is forgiven
abbrev pub MovedByRing : Type 0
MovedByRing = (most : ℕ) (o : Opening) (h : List Event) (k : ℕ) (e : Entry) →
    moved_by most e.outcome (mark_of o h e.kind - mark_of o (take k h) e.kind) (ring_of most o h e.kind) ≡ is_moved most (touched_since o h k) e

-- an outcome that a rule decided outlasts an edit exactly where that rule is before all touched rules of the kind
abbrev pub GovernedOutlasts : Type 0
GovernedOutlasts = (touched : List Row) (kind : Kind) (subject : Subject) (rank : Rank) (allow : Bool) (label : List ℕ) (inhibit : Bool) (until : Option ℕ) →
    outlasts touched (record { kind = kind; subject = subject; outcome = governed rank allow label inhibit until }) ≡ true
    ↔ All (λ (r : Row). r.kind ≡ kind → Before rank (rank_of r)) touched

-- a default outlasts an edit exactly where no rule of the kind is touched
abbrev pub DefaultOutlasts : Type 0
DefaultOutlasts = (touched : List Row) (kind : Kind) (subject : Subject) (latent : Option ℕ) (label : List ℕ) (until : ℕ) →
    outlasts touched (record { kind = kind; subject = subject; outcome = default latent label until }) ≡ true
    ↔ touches kind touched ≡ false

-- ended entries may stay in a list that is read past them: a later moment brings none of them back
abbrev pub TickPassesOver : Type 0
TickPassesOver = (now later : ℕ) (xs : List Entry) → now ≤ later → filter (is_unexpired later) (filter (is_unexpired now) xs) ≡ filter (is_unexpired later) xs

-- nor does an edit
abbrev pub EditPassesOver : Type 0
EditPassesOver = (now : ℕ) (touched : List Row) (xs : List Entry) → filter (outlasts touched) (filter (is_unexpired now) xs) ≡ filter (is_unexpired now) (filter (outlasts touched) xs)

-- an edit drops what the first touched rank of each kind drops
abbrev pub EditPurges : Type 0
EditPurges = (touched : List Row) (objects : List Entry) → filter (outlasts touched) objects ≡ purged_by touched objects

-- and each kind is counted exactly where it has a first touched rank
abbrev pub CountsPurges : Type 0
CountsPurges = (kind : Kind) (touched : List Row) → is_some (first_touched kind touched) ≡ touches kind touched

-- so the counts after an edit are those after its first touched ranks
abbrev pub MarksPurge : Type 0
MarksPurge = (touched : List Row) (c : Counts) → counts_with touched c ≡ counts_by touched c

-- and so are the rings
abbrev pub RingsPurge : Type 0
RingsPurge = (touched : List Row) (r : Rings) → rings_with touched r ≡ rings_by touched r
