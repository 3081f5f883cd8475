-- Rules as plain rows, and which of them decides.
-- spctl(8), --priority and --type: a rule is of one kind, and a higher priority is tried first.
-- This project's own: of equal priorities the lesser id is tried first; a count of disablings; the expiry.
use Rattle.std.specs.Prelude.{◌≡◌, ◌⊎◌, ℕ, ◌<◌, ℤ, ◌<ℤ◌, int_lt, List, [], ◌∷◌, Bool, true, false, not, ◌&&◌, ◌||◌, nat_lt, IsTrue, Option, Some, None, IfSome, All, Contains, MatchOption, if◌then◌else◌}
use Rattle.std.specs.Ordering.{int_eq}
use Rattle.req_tree.specs.Tree.{Tree}
use Rattle.req_tree.specs.Subject.{Subject}
use Rattle.req_tree.specs.Facts.{Facts}
use Rattle.req_tree.specs.Meaning.{mean}

-- what code is assessed for: to be executed, to be installed, or to be opened as a document
pub data Kind : Type 0 where
  execute : Kind
  install : Kind
  document : Kind

-- two kinds are one
abbrev pub same_kind : Kind → Kind → Bool
same_kind execute execute = true
same_kind install install = true
same_kind document document = true
same_kind _ _ = false

-- priority in millionths; ids count from 1
pub record Rank : Type 0 where
  pub priority : ℤ
  pub id : ℕ

-- disabled counts the disablings; expires is a moment in seconds
pub record Row : Type 0 where
  pub id : ℕ
  pub kind : Kind
  pub allow : Bool
  pub disabled : ℕ
  pub expires : Option ℕ
  pub priority : ℤ
  pub is_default : Bool
  pub inhibit : Bool
  pub label : List ℕ
  pub text : List ℕ
  pub tree : Tree

-- the rank of a row
abbrev pub rank_of : Row → Rank
rank_of r = record { priority = r.priority; id = r.id }

-- a rule of rank a is tried before one of rank b
abbrev pub Before : Rank → Rank → Type 0
Before a b = (b.priority <ℤ a.priority) ⊎ ((a.priority ≡ b.priority) × (a.id < b.id))

-- the rule is in force at moment m
pub record Live (m : ℕ) (r : Row) : Type 0 where
  pub unexpired : IfSome r.expires (λ e. m < e)

-- the rule, be it enabled or not, is of the kind, live at m, and means true of the subject
pub record Applies (kind : Kind) (subject : Subject) (facts : Facts) (m : ℕ) (r : Row) : Type 0 where
  pub of_kind : r.kind ≡ kind
  pub live : Live m r
  pub means_true : IsTrue (mean r.tree subject facts)

-- it applies, and is disabled or enabled as asked
pub record Meets (disabled : Bool) (kind : Kind) (subject : Subject) (facts : Facts) (m : ℕ) (r : Row) : Type 0 where
  pub applies : Applies kind subject facts m r
  pub counted : nat_lt 0 r.disabled ≡ disabled

-- r is among the rows and has the property, and no other row that has it is tried before r
pub record IsFirst (P : Row → Type 0) (rows : List Row) (r : Row) : Type 0 where
  pub among : Contains rows r
  pub itself : P r
  pub first : All (λ s. P s → Before (rank_of s) (rank_of r) → ⊥) rows

-- no row has the property
abbrev pub HasNone : (Row → Type 0) → List Row → Type 0
HasNone P rows = All (λ s. P s → ⊥) rows

-- the first such row, or none where there is none
abbrev pub IsFirstOf : (Row → Type 0) → List Row → Option Row → Type 0
IsFirstOf P rows o = MatchOption o (HasNone P rows) (IsFirst P rows)

-- the rule that decides: the first of the live, enabled rules of the kind that mean true
abbrev pub Governs : List Row → Kind → Subject → Facts → ℕ → Option Row → Type 0
Governs rows kind subject facts m o = IsFirstOf (Meets false kind subject facts m) rows o

-- the rule that would decide were it enabled: the first of the live, disabled ones
abbrev pub IsLatent : List Row → Kind → Subject → Facts → ℕ → Option Row → Type 0
IsLatent rows kind subject facts m o = IsFirstOf (Meets true kind subject facts m) rows o

-- the same as tests that compute, which the laws tie to the facts above

-- Before as a test
abbrev pub is_before : Rank → Rank → Bool
is_before a b = int_lt b.priority a.priority || (int_eq a.priority b.priority && nat_lt a.id b.id)

-- m is below the moment, if there is one
abbrev pub is_below : ℕ → Option ℕ → Bool
is_below m None = true
is_below m (Some e) = nat_lt m e

-- disabled at least once, or never, as asked
abbrev pub is_counted : Bool → ℕ → Bool
is_counted disabled n = if disabled then nat_lt 0 n else not (nat_lt 0 n)

-- Meets as a test
abbrev pub meets : Bool → Kind → Subject → Facts → ℕ → Row → Bool
meets disabled kind subject facts m r = same_kind r.kind kind && is_below m r.expires && is_counted disabled r.disabled && mean r.tree subject facts

-- of a row and another that may be there, the one that is tried first
abbrev pub sooner : Row → Option Row → Row
sooner r None = r
sooner r (Some s) = if is_before (rank_of s) (rank_of r) then s else r

-- of the rows that pass, the one before all others; that it is the one that Governs is OutcomeIsRight of Laws.antt
abbrev pub first : (Row → Bool) → List Row → Option Row
first test [] = None
first test (r ∷ rows) = if test r then Some (sooner r (first test rows)) else first test rows
