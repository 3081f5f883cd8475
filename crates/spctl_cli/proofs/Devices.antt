-- What a run leaves of a device, from what its parts leave of it.
use Rattle.std.proofs.Common.{◌≡◌, ◌≢◌, ◌⊎◌, ℕ, ◌≤◌, Bool, List, Option, inl, inr, arith, refl, sym, ◌∙◌, subst}
use Rattle.std.specs.Prelude.{is_some}
use Rattle.gk_io.specs.Shelf.{File}
use Rattle.gk_io.specs.Devices.{Counts, PassesSource, PassesSink, PassesShelf, PassesClock}
use Rattle.spctl_cli.proofs.Concluded.{counts_for}

-- a device that wasn't asked
pub counts_still : (Says May : Type 0) (n : ℕ) → (Says → ⊥) → Counts Says May n n
counts_still Says May n none = record { later = omega arith; cause = λ says. absurd (none says); steady = λ m. refl }

pub source_still : (Says May : Type 0) (left : Option (List ℕ)) (n : ℕ) → (Says → ⊥) → PassesSource Says May left left n n
source_still Says May left n none = record { telling = refl; counts = counts_still Says May n none }

pub sink_still : (Says May : Type 0) (written flushed : Option (List ℕ)) (n : ℕ) → (Says → ⊥) → PassesSink Says May written written flushed flushed n n
sink_still Says May written flushed n none = record { telling = refl; flushed_telling = refl; flushing = λ m f. f; counts = counts_still Says May n none }

pub shelf_still : (Says May : Type 0) (files : Option (List File)) (n : ℕ) → (Says → ⊥) → PassesShelf Says May files files n n
shelf_still Says May files n none = record { kept = refl; counts = counts_still Says May n none }

pub clock_still : (Says May : Type 0) (moments : Option (List ℕ)) (n : ℕ) → (Says → ⊥) → PassesClock Says May moments moments n n
clock_still Says May moments n none = record { telling = refl; counts = counts_still Says May n none }

-- the same by another cause
pub source_for : (Says May Tells Might : Type 0) (left now : Option (List ℕ)) (before counted : ℕ) → (Tells → Says) → ((Might → ⊥) → May → ⊥) → PassesSource Says May left now before counted → PassesSource Tells Might left now before counted
source_for Says May Tells Might left now before counted says may passes = record { telling = passes.telling; counts = counts_for Says May Tells Might before counted says may passes.counts }

pub sink_for : (Says May Tells Might : Type 0) (written sent flushed flushes : Option (List ℕ)) (before counted : ℕ) → (Tells → Says) → ((Might → ⊥) → May → ⊥) → PassesSink Says May written sent flushed flushes before counted → PassesSink Tells Might written sent flushed flushes before counted
sink_for Says May Tells Might written sent flushed flushes before counted says may passes = record {
  telling = passes.telling;
  flushed_telling = passes.flushed_telling;
  flushing = λ none f. passes.flushing (may none) f;
  counts = counts_for Says May Tells Might before counted says may passes.counts;
}

-- a sink that didn't fail, and then this
pub sink_then : (First May Tells Might : Type 0) (written mid sent flushed flushes flushed_now : Option (List ℕ)) (before between counted : ℕ) → (May → ⊥) → PassesSink First May written mid flushed flushes before between → PassesSink Tells Might mid sent flushes flushed_now between counted
    → PassesSink Tells Might written sent flushed flushed_now before counted
sink_then First May Tells Might written mid sent flushed flushes flushed_now before between counted still first second = record {
  telling = second.telling ∙ first.telling;
  flushed_telling = second.flushed_telling ∙ first.flushed_telling;
  flushing = λ none f. second.flushing none (first.flushing still f);
  counts = subst (λ n. Counts Tells Might n counted) (first.counts.steady still) second.counts;
}

-- a shelf that didn't fail, and then a run that asks for no more files
pub shelf_kept : (First May Tells Might : Type 0) (files kept : Option (List File)) (before now : ℕ) → (May → ⊥) → (Tells → ⊥) → PassesShelf First May files kept before now → PassesShelf Tells Might files kept before now
shelf_kept First May Tells Might files kept before now still none first = record {
  kept = first.kept;
  counts = record { later = first.counts.later; cause = λ tells. absurd (none tells); steady = λ m. first.counts.steady still };
}

pub shelf_for : (Says May Tells Might : Type 0) (files kept : Option (List File)) (before now : ℕ) → (Tells → Says) → ((Might → ⊥) → May → ⊥) → PassesShelf Says May files kept before now → PassesShelf Tells Might files kept before now
shelf_for Says May Tells Might files kept before now says may passes = record { kept = passes.kept; counts = counts_for Says May Tells Might before now says may passes.counts }
