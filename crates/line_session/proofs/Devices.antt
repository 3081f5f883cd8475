-- What calls leave of their devices, one after the other.
use Rattle.std.proofs.Common.{◌≡◌, ◌≤◌, ℕ, List, Option, refl, ◌∙◌, subst, arith}
use Rattle.gk_io.specs.Devices.{Counts, PassesSink, PassesSource, StaysTold}
use Rattle.gk_io.specs.Faults.{Rose}

-- a count that didn't move, where the call says of no failure
pub counts_same : (says may : Type 0) (before now : ℕ) → (says → ⊥) → now ≡ before → Counts says may before now
counts_same says may before now never same = record { later = omega (arith, same); cause = λ s. absurd (never s); steady = λ none. same }

-- a count that may have moved
pub counts_rose : (says may : Type 0) (before now : ℕ) → may → before ≤ now → Rose before now → Counts says may before now
counts_rose says may before now m later rose = record { later = later; cause = λ s. rose; steady = λ none. absurd (none m) }

-- the same count, said in other words
pub counts_as : (A B C D : Type 0) (before now : ℕ) → (C → A) → (B → D) → Counts A B before now → Counts C D before now
counts_as A B C D before now says may c = record { later = c.later; cause = λ s. c.cause (says s); steady = λ none. c.steady (λ m. none (may m)) }

-- a count behind one that didn't move
pub counts_then : (says may : Type 0) (first before now : ℕ) → Counts ⊥ ⊥ first before → Counts says may before now → Counts says may first now
counts_then says may first before now one two = subst (λ (n : ℕ). Counts says may n now) (one.steady (λ none. none)) two

-- a source that didn't fail
pub source_kept : (says may : Type 0) (left now : Option (List ℕ)) (before counted : ℕ) → (says → ⊥) → StaysTold left now → counted ≡ before → PassesSource says may left now before counted
source_kept says may left now before counted never told same = record { telling = told; counts = counts_same says may before counted never same }

-- a source that failed
pub source_failed : (says may : Type 0) (left now : Option (List ℕ)) (before counted : ℕ) → may → StaysTold left now → before ≤ counted → Rose before counted → PassesSource says may left now before counted
source_failed says may left now before counted m told later rose = record { telling = told; counts = counts_rose says may before counted m later rose }

pub source_as : (A B C D : Type 0) (left now : Option (List ℕ)) (before counted : ℕ) → (C → A) → (B → D) → PassesSource A B left now before counted → PassesSource C D left now before counted
source_as A B C D left now before counted says may p = record { telling = p.telling; counts = counts_as A B C D before counted says may p.counts }

pub source_then : (says may : Type 0) (start left now : Option (List ℕ)) (first before counted : ℕ) → PassesSource ⊥ ⊥ start left first before → PassesSource says may left now before counted → PassesSource says may start now first counted
source_then says may start left now first before counted one two = record { telling = two.telling ∙ one.telling; counts = counts_then says may first before counted one.counts two.counts }

-- a sink that wasn't asked
pub sink_unasked : (says may : Type 0) (written flushed : Option (List ℕ)) (n : ℕ) → (says → ⊥) → PassesSink says may written written flushed flushed n n
sink_unasked says may written flushed n never = record { telling = refl; flushed_telling = refl; flushing = λ none all. all; counts = counts_same says may n n never refl }

pub sink_as : (A B C D : Type 0) (written sent flushed flushes : Option (List ℕ)) (before counted : ℕ) → (C → A) → (B → D) → PassesSink A B written sent flushed flushes before counted → PassesSink C D written sent flushed flushes before counted
sink_as A B C D written sent flushed flushes before counted says may p = record {
  telling = p.telling;
  flushed_telling = p.flushed_telling;
  flushing = λ none. p.flushing (λ m. none (may m));
  counts = counts_as A B C D before counted says may p.counts;
}

pub sink_then : (says may : Type 0) (start written sent first flushed flushes : Option (List ℕ)) (n before counted : ℕ) → PassesSink ⊥ ⊥ start written first flushed n before → PassesSink says may written sent flushed flushes before counted → PassesSink says may start sent first flushes n counted
sink_then says may start written sent first flushed flushes n before counted one two = record {
  telling = two.telling ∙ one.telling;
  flushed_telling = two.flushed_telling ∙ one.flushed_telling;
  flushing = λ none all. two.flushing none (one.flushing (λ never. never) all);
  counts = counts_then says may n before counted one.counts two.counts;
}
