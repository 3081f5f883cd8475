-- The rules of a kind by rank decide what all rules decide.
use Rattle.std.proofs.Common.{◌≡◌, ℕ, List, [], ◌∷◌, refl, ap, ◌∙◌, Option, Some, None}
use Rattle.std.specs.Prelude.{Bool, true, false, All, Contains, if◌then◌else◌}
use Rattle.std.specs.List.{AllByRecursion, filter}
use Rattle.std.proofs.lemmas.List.Sorted.{IsPermutation-sym, All-permutation}
use Rattle.std.proofs.lemmas.List.Elements.{All-contains, All-contains_itself, All-filter, All-weaker, All-from_recursion, recursion_from_All, filter_passes}
use Rattle.std.proofs.lemmas.Bool.{both_ways}
use Rattle.req_tree.specs.Subject.{Subject}
use Rattle.req_tree.specs.Facts.{Facts}
use Rattle.policy_model.specs.Rules.{Row, Kind, execute, install, document, same_kind, rank_of, Before, Meets, IsFirstOf}
use Rattle.policy_model.specs.Outcomes.{outcome, outcome_by}
use Rattle.policy_model.specs.Laws.{OutcomeIsRight, OutcomeIsOne, IsOutcome}
use Rattle.authority_table.specs.Snapshot.{of_kind, IsSnapshot}
use Rattle.assess.specs.Laws.{SnapshotsJudgeAlike, SnapshotsAreOfKind}

same_kind-is : (a b : Kind) → same_kind a b ≡ true → a ≡ b
same_kind-is execute execute h = refl
same_kind-is install install h = refl
same_kind-is document document h = refl
same_kind-is execute install h = cc
same_kind-is execute document h = cc
same_kind-is install execute h = cc
same_kind-is install document h = cc
same_kind-is document execute h = cc
same_kind-is document install h = cc

kind_is_own : (kind : Kind) → same_kind kind kind ≡ true
kind_is_own execute = refl
kind_is_own install = refl
kind_is_own document = refl

-- all rows of a snapshot are of its kind
pub snapshots_are_of_kind : SnapshotsAreOfKind
snapshots_are_of_kind rows snapshot kind s =
    let test : Row → Bool = λ r. same_kind r.kind kind in
    let passes : All (λ r. same_kind r.kind kind ≡ true) snapshot = All-permutation (λ r. same_kind r.kind kind ≡ true) (of_kind kind rows) snapshot s.same (filter_passes test rows) in
    recursion_from_All (λ r. r.kind ≡ kind) snapshot (All-weaker (λ r. same_kind r.kind kind ≡ true) (λ r. r.kind ≡ kind) (λ r h. same_kind-is r.kind kind h) snapshot passes)

among_rows : (rows snapshot : List Row) (kind : Kind) → IsSnapshot rows kind snapshot → All (Contains rows) snapshot
among_rows rows snapshot kind s =
    All-permutation (Contains rows) (of_kind kind rows) snapshot s.same (All-filter (λ r. same_kind r.kind kind) (Contains rows) rows (All-contains_itself rows))

kept_step : (P : Row → Type 0) (c : Bool) (r : Row) (rest : List Row) → AllByRecursion P (if c then r ∷ rest else rest) → (c ≡ true → P r) × AllByRecursion P rest
kept_step P true r rest h = (λ e. h.0, h.1)
kept_step P false r rest h = (λ e. absurd (both_ways false refl e), h)

-- what holds of all rows that pass a test
kept_all : (P : Row → Type 0) (test : Row → Bool) (rows : List Row) → AllByRecursion P (filter test rows) → AllByRecursion (λ r. test r ≡ true → P r) rows
kept_all P test [] h = tt
kept_all P test (r ∷ rows) h =
    let step = kept_step P (test r) r (filter test rows) h in
    (step.0, kept_all P test rows step.1)

back_to_rows : (P : Row → Type 0) (rows snapshot : List Row) (kind : Kind) → IsSnapshot rows kind snapshot → All P snapshot → All (λ r. same_kind r.kind kind ≡ true → P r) rows
back_to_rows P rows snapshot kind s all =
    All-from_recursion (λ r. same_kind r.kind kind ≡ true → P r) rows (kept_all P (λ r. same_kind r.kind kind) rows
    (recursion_from_All P (of_kind kind rows) (All-permutation P snapshot (of_kind kind rows) (IsPermutation-sym (of_kind kind rows) snapshot s.same) all)))

-- the first of a snapshot is the first of all rows, where only rows of the kind have the property
first_of_all : (P : Row → Type 0) (rows snapshot : List Row) (kind : Kind) → ((r : Row) → P r → same_kind r.kind kind ≡ true) → IsSnapshot rows kind snapshot →
    (o : Option Row) → IsFirstOf P snapshot o → IsFirstOf P rows o
first_of_all P rows snapshot kind of s None f =
    All-weaker (λ r. same_kind r.kind kind ≡ true → P r → ⊥) (λ r. P r → ⊥) (λ r h p. h (of r p) p) rows (back_to_rows (λ r. P r → ⊥) rows snapshot kind s f)
first_of_all P rows snapshot kind of s (Some r) f = record {
  among = All-contains (Contains rows) snapshot r (among_rows rows snapshot kind s) f.among;
  itself = f.itself;
  first = All-weaker (λ x. same_kind x.kind kind ≡ true → P x → Before (rank_of x) (rank_of r) → ⊥) (λ x. P x → Before (rank_of x) (rank_of r) → ⊥) (λ x h p. h (of x p) p) rows
      (back_to_rows (λ x. P x → Before (rank_of x) (rank_of r) → ⊥) rows snapshot kind s f.first);
}

meets_of_kind : (disabled : Bool) (kind : Kind) (subject : Subject) (facts : Facts) (m : ℕ) (r : Row) → Meets disabled kind subject facts m r → same_kind r.kind kind ≡ true
meets_of_kind disabled kind subject facts m r h = ap (λ k. same_kind k kind) h.applies.of_kind ∙ kind_is_own kind

by_any_rows : (a b : List Row) (kind : Kind) (m : ℕ) (g l : Option Row) → outcome_by a kind m g l ≡ outcome_by b kind m g l
by_any_rows a b kind m None l = refl
by_any_rows a b kind m (Some r) l = refl

outcome_of_all : (rows snapshot : List Row) (kind : Kind) (subject : Subject) (facts : Facts) (m : ℕ) → IsSnapshot rows kind snapshot →
    IsOutcome snapshot kind subject facts m (outcome snapshot kind subject facts m) → IsOutcome rows kind subject facts m (outcome snapshot kind subject facts m)
outcome_of_all rows snapshot kind subject facts m s h = (
  h.0,
  h.1,
  first_of_all (Meets false kind subject facts m) rows snapshot kind (meets_of_kind false kind subject facts m) s h.0 h.2,
  first_of_all (Meets true kind subject facts m) rows snapshot kind (meets_of_kind true kind subject facts m) s h.1 h.3,
  h.4 ∙ by_any_rows snapshot rows kind m h.0 h.1,
)

pub snapshots_judge_alike : OutcomeIsRight → OutcomeIsOne → SnapshotsJudgeAlike
snapshots_judge_alike right one t kind snapshot ids s subject facts m =
    one t ids kind subject facts m (outcome snapshot kind subject facts m) (outcome_of_all t.rows snapshot kind subject facts m s (right snapshot kind subject facts m))
