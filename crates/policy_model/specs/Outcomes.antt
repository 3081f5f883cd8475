-- What the rules say of a subject at a moment, and until when that stands; the verdict that is answered.
-- This project's own, after the verdicts of spctl(8), --assess.
use Rattle.std.specs.Prelude.{ℕ, ◌+◌, List, Bool, true, false, not, ◌&&◌, ◌||◌, min, Option, Some, None, option_map, codes}
use Rattle.req_tree.specs.Subject.{Subject}
use Rattle.req_tree.specs.Facts.{Facts}
use Rattle.policy_model.specs.declared.limits.TheConstants.{DEFAULT_SECONDS}
use Rattle.policy_model.specs.Rules.{Row, Rank, Kind, rank_of, meets, first}

-- governed: rank, allow, label, inhibit and the end of the rule that decides;
-- default: the latent rule's id, a label and the end
pub data Outcome : Type 0 where
  governed : Rank → Bool → List ℕ → Bool → Option ℕ → Outcome
  default : Option ℕ → List ℕ → ℕ → Outcome

-- the label of a default denial: that of the latent rule, if there is one
abbrev pub latent_label : Option Row → List ℕ
latent_label None = codes "no matching rule"
latent_label (Some r) = r.label

-- the lesser of a number and one that may be there
abbrev pub at_most : ℕ → Option ℕ → ℕ
at_most n None = n
at_most n (Some e) = min n e

-- the end of a row that may be there
abbrev pub expiry_of : Option Row → Option ℕ
expiry_of None = None
expiry_of (Some r) = r.expires

-- how long what this rule decides at m stands: as long as the rule
abbrev pub governed_until : List Row → Kind → ℕ → Row → Option ℕ
governed_until rows kind m r = r.expires

-- how long a default denial of moment m stands: so many seconds, and no longer than the latent rule
abbrev pub default_until : List Row → Kind → ℕ → Option Row → ℕ
default_until rows kind m latent = at_most (m + DEFAULT_SECONDS) (expiry_of latent)

-- the outcome of a rule that governs, or of none and a latent one
abbrev pub outcome_by : List Row → Kind → ℕ → Option Row → Option Row → Outcome
outcome_by rows kind m (Some r) latent = governed (rank_of r) r.allow r.label r.inhibit (governed_until rows kind m r)
outcome_by rows kind m None latent = default (option_map (λ r. r.id) latent) (latent_label latent) (default_until rows kind m latent)

-- what the rows say of a subject at m; that it is the outcome of the rule that Governs is OutcomeIsRight of Laws.antt
abbrev pub outcome : List Row → Kind → Subject → Facts → ℕ → Outcome
outcome rows kind subject facts m =
    outcome_by rows kind m (first (meets false kind subject facts m) rows) (first (meets true kind subject facts m) rows)

-- an assessment that is asked for: of what kind, of which code (none where it has no signature), and whether its outcome may be kept
pub record Ask : Type 0 where
  pub kind : Kind
  pub subject : Option Subject
  pub keep : Bool

-- the moment at, the rule that decided, the latent rule, a label, and whether a denial was overridden
pub record Verdict : Type 0 where
  pub allow : Bool
  pub at : ℕ
  pub rule : Option ℕ
  pub latent : Option ℕ
  pub label : List ℕ
  pub overridden : Bool

-- a denial is answered as acceptance where assessments are switched off
abbrev pub decided : Bool → ℕ → Bool → Option ℕ → Option ℕ → List ℕ → Verdict
decided enabled m allow rule latent label =
    record { allow = allow || not enabled; at = m; rule = rule; latent = latent; label = label; overridden = not allow && not enabled }

-- the verdict of an outcome, at moment m
abbrev pub verdict_by : Bool → ℕ → Outcome → Verdict
verdict_by enabled m (governed rank allow label inhibit until) = decided enabled m allow (Some rank.id) None label
verdict_by enabled m (default latent label until) = decided enabled m false None latent label

-- code without a signature meets no rule
abbrev pub verdict_on : List Row → Bool → Facts → ℕ → Kind → Option Subject → Verdict
verdict_on rows enabled facts m kind None = decided enabled m false None None (codes "no usable signature")
verdict_on rows enabled facts m kind (Some subject) = verdict_by enabled m (outcome rows kind subject facts m)

-- the verdict on an ask, over rows, the switch, facts and a moment
abbrev pub verdict : List Row → Bool → Facts → ℕ → Ask → Verdict
verdict rows enabled facts m a = verdict_on rows enabled facts m a.kind a.subject
