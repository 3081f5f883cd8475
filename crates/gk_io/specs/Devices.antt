-- What a call leaves of the devices that it is handed: each tells as before, its count of failures doesn't fall, and its fault is
-- the cause. This project's own.
use Rattle.std.specs.Prelude.{◌≡◌, ℕ, ◌≤◌, List, Option, is_some}
use Rattle.gk_io.specs.Faults.{Rose}
use Rattle.gk_io.specs.Shelf.{File, KeepsFiles}
use Rattle.gk_io.specs.Told.{IsFlushed}

-- a count of failures over a call: it doesn't fall; it rose where the call says that the device failed; and it moved only where the
-- device may have failed, said or not
pub record Counts (says may : Type 0) (before now : ℕ) : Type 0 where
  pub later : before ≤ now
  pub cause : says → Rose before now
  pub steady : (may → ⊥) → now ≡ before

-- a device tells what it holds before and after a call, or at neither
abbrev pub StaysTold : {A : Type 0} → Option A → Option A → Type 0
StaysTold old new = is_some new ≡ is_some old

-- a source over a call: the bytes that are left in it, and its count
pub record PassesSource (says may : Type 0) (left now : Option (List ℕ)) (before counted : ℕ) : Type 0 where
  pub telling : StaysTold left now
  pub counts : Counts says may before counted

-- a sink over a call: what was written to it and what of that is flushed, and its count; what was all flushed still is, unless
-- the sink may have failed
pub record PassesSink (says may : Type 0) (written sent flushed flushes : Option (List ℕ)) (before counted : ℕ) : Type 0 where
  pub telling : StaysTold written sent
  pub flushed_telling : StaysTold flushed flushes
  pub flushing : (may → ⊥) → IsFlushed flushed written → IsFlushed flushes sent
  pub counts : Counts says may before counted

-- a shelf over a call: no file changes
pub record PassesShelf (says may : Type 0) (files now : Option (List File)) (before counted : ℕ) : Type 0 where
  pub kept : KeepsFiles files now
  pub counts : Counts says may before counted

-- a clock over a call: the moments to come, and its count
pub record PassesClock (says may : Type 0) (moments now : Option (List ℕ)) (before counted : ℕ) : Type 0 where
  pub telling : StaysTold moments now
  pub counts : Counts says may before counted
