-- What follows from the definitions alone; each is proved on a function of src/laws.rt.
use Rattle.std.specs.Prelude.{◌≡◌, ◌≢◌, ℕ, ℤ, unsigned_abs, ◌*◌, ◌-◌, ◌^◌, ◌<◌, ◌≤◌, List, [], ◌∷◌, ◌++◌, All, length, Bool, Option, Some, IfSome}
use Rattle.req_tree.specs.Subject.{Subject}
use Rattle.req_tree.specs.Facts.{Facts}
use Rattle.req_tree.specs.NumericOrder.{number_of}
use Rattle.policy_model.specs.Rules.{Row, Kind, rank_of, Before, Meets, IsFirstOf, Governs, IsLatent}
use Rattle.policy_model.specs.Outcomes.{Outcome, outcome, outcome_by}
use Rattle.policy_model.specs.declared.limits.TheConstants.{UNIT, GREATEST_PRIORITY}
use Rattle.policy_model.specs.Contents.{Edit}
use Rattle.policy_model.specs.Texts.{places, priority_text}
use Rattle.policy_model.specs.Tables.{Tables, Receipt}
use Rattle.policy_model.specs.Edits.{kept, does}
use Rattle.policy_model.specs.History.{Event, Opening, tables_step, tables_of, now_step, now_of, HasOwnIds, HasOwnKeys}

-- an outcome is that of a rule that governs, or of none and a latent one
abbrev pub IsOutcome : List Row → Kind → Subject → Facts → ℕ → Outcome → Type 0
IsOutcome rows kind subject facts m o =
    (g l : Option Row) × Governs rows kind subject facts m g × IsLatent rows kind subject facts m l × (o ≡ outcome_by rows kind m g l)

-- what is computed of the rows is the outcome of the rule that governs
abbrev pub OutcomeIsRight : Type 0
OutcomeIsRight = (rows : List Row) (kind : Kind) (subject : Subject) (facts : Facts) (m : ℕ) → IsOutcome rows kind subject facts m (outcome rows kind subject facts m)

-- ids that rise stay so through any history
abbrev pub IdsStayOwn : Type 0
IdsStayOwn = (o : Opening) (h : List Event) → HasOwnIds o.tables → HasOwnIds (tables_of o h)

-- keys that differ stay so through any history: an accepted key acts once
abbrev pub KeysStayOwn : Type 0
KeysStayOwn = (o : Opening) (h : List Event) → HasOwnKeys o.tables → HasOwnKeys (tables_of o h)

-- an edit whose key is kept leaves the tables as they are
abbrev pub KeptKeyChangesNothing : Type 0
KeptKeyChangesNothing = (t : Tables) (e : Edit) (r : Receipt) → kept t.receipts e.key ≡ Some r → (does t e).tables ≡ t

-- the moment never steps back
abbrev pub MomentNeverStepsBack : Type 0
MomentNeverStepsBack = (o : Opening) (h more : List Event) → now_of o h ≤ now_of o (h ++ more)

-- at most one rule governs
abbrev pub GovernsOnce : Type 0
GovernsOnce = (t : Tables) → HasOwnIds t → (kind : Kind) (subject : Subject) (facts : Facts) (m : ℕ) (a b : Option Row) →
    Governs t.rows kind subject facts m a → Governs t.rows kind subject facts m b → a ≡ b

-- at most one rule is latent
abbrev pub LatentOnce : Type 0
LatentOnce = (t : Tables) → HasOwnIds t → (kind : Kind) (subject : Subject) (facts : Facts) (m : ℕ) (a b : Option Row) →
    IsLatent t.rows kind subject facts m a → IsLatent t.rows kind subject facts m b → a ≡ b

-- so the outcome is the only one
abbrev pub OutcomeIsOne : Type 0
OutcomeIsOne = (t : Tables) → HasOwnIds t → (kind : Kind) (subject : Subject) (facts : Facts) (m : ℕ) (o : Outcome) →
    IsOutcome t.rows kind subject facts m o → o ≡ outcome t.rows kind subject facts m

-- a search that goes on by one more row at the end: it finds the row, if it meets the condition and is before the row that was found
abbrev pub FindsNext : Type 0
FindsNext = (disabled : Bool) (kind : Kind) (subject : Subject) (facts : Facts) (m : ℕ) (rows : List Row) (r : Row) (found : Option Row) →
    IsFirstOf (Meets disabled kind subject facts m) rows found → Meets disabled kind subject facts m r → IfSome found (λ s. Before (rank_of r) (rank_of s)) →
    IsFirstOf (Meets disabled kind subject facts m) (rows ++ r ∷ []) (Some r)

-- a row that doesn't meet it changes nothing
abbrev pub PassesOver : Type 0
PassesOver = (disabled : Bool) (kind : Kind) (subject : Subject) (facts : Facts) (m : ℕ) (rows : List Row) (r : Row) (found : Option Row) →
    IsFirstOf (Meets disabled kind subject facts m) rows found → (Meets disabled kind subject facts m r → ⊥) →
    IsFirstOf (Meets disabled kind subject facts m) (rows ++ r ∷ []) found

-- nor does one that isn't before the row that was found, whether or not it meets it
abbrev pub PassesOverLater : Type 0
PassesOverLater = (disabled : Bool) (kind : Kind) (subject : Subject) (facts : Facts) (m : ℕ) (rows : List Row) (r found : Row) →
    IsFirstOf (Meets disabled kind subject facts m) rows (Some found) → (Before (rank_of r) (rank_of found) → ⊥) →
    IsFirstOf (Meets disabled kind subject facts m) (rows ++ r ∷ []) (Some found)

-- one more event leaves the tables that its step makes
abbrev pub TablesGoOn : Type 0
TablesGoOn = (o : Opening) (h : List Event) (e : Event) → tables_of o (h ++ e ∷ []) ≡ tables_step e (tables_of o h)

-- and the moment
abbrev pub MomentGoesOn : Type 0
MomentGoesOn = (o : Opening) (h : List Event) (e : Event) → now_of o (h ++ e ∷ []) ≡ now_step e (now_of o h)

-- the digits stand for a part in millionths: they are at most six bytes of 0 to 9, with zeros behind them up to six they write that number,
-- and the last of them isn't 0
pub record IsFraction (part : ℕ) (digits : List ℕ) : Type 0 where
  pub each : All (λ d. (48 ≤ d) × (d ≤ 57)) digits
  pub most : length digits ≤ 6
  pub value : number_of digits * 10 ^ (6 - length digits) ≡ part
  pub shortest : (front : List ℕ) → digits ≢ front ++ 48 ∷ []

-- the places of a part are digits that stand for it
abbrev pub PlacesStand : Type 0
PlacesStand = (part : ℕ) → part < UNIT → IsFraction part (places 6 part)

-- and no others do
abbrev pub NoOthersStand : Type 0
NoOthersStand = (part : ℕ) (digits : List ℕ) → IsFraction part digits → digits ≡ places 6 part

-- the text of a priority within its limits is that of no other
abbrev pub PriorityTextIsItsOwn : Type 0
PriorityTextIsItsOwn = (a b : ℤ) → unsigned_abs a ≤ unsigned_abs GREATEST_PRIORITY → unsigned_abs b ≤ unsigned_abs GREATEST_PRIORITY →
    priority_text a ≡ priority_text b → a ≡ b
