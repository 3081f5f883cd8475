-- What a keeper tells through a change.
use Rattle.std.proofs.Common.{refl, sym, subst, Some, None, Result, Ok, Err}
use Rattle.policy_model.specs.Tables.{Tables}
use Rattle.policy_model.specs.Edits.{does}
use Rattle.line_laws.specs.Limits.{FitsLine}
use Rattle.store_model.specs.Stored.{Holds}
use Rattle.std.specs.Prelude.{IsSome, false}
use Rattle.std.proofs.lemmas.Bool.{both_ways}
use Rattle.store_model.specs.Change.{Change, Takes}
use Rattle.store_model.specs.Laws.{ChangeMeansEdit}
use Rattle.policy_keeper.specs.Told.{Told, Stays, Makes, Applies}
use Rattle.policy_keeper.specs.Mirror.{Mirrors, Follows}

-- a keeper that isn't asked tells what it told
pub stays_same : (told : Told) → Stays told told
stays_same None = tt
stays_same (Some raw) = refl

made_telling : (old new : Told) (c : Change) → Makes old new c → IsSome new → IsSome old
made_telling old None c makes some = absurd (both_ways false refl some)
made_telling old (Some after) c makes some = subst (λ x. IsSome x) (sym makes.1) refl

stays_telling : (old new : Told) → Stays old new → IsSome new → IsSome old
stays_telling old None stays some = absurd (both_ways false refl some)
stays_telling old (Some after) stays some = subst (λ x. IsSome x) (sym stays) refl

-- what is told after a change was told before it
pub applies_telling : {T E : Type 0} → (old new : Told) (c : Change) (r : Result T E) → Applies old new c r → IsSome new → IsSome old
applies_telling old new c (Ok x) applies some = made_telling old new c applies some
applies_telling old new c (Err e) applies some = stays_telling old new applies some

-- what is mirrored stays so

mirrored_still : (old new : Told) (t : Tables) → Mirrors old t → Stays old new → Mirrors new t
mirrored_still old None t h same = tt
mirrored_still old (Some after) t h same = subst (λ told. Mirrors told t) same h

mirrored_change : ChangeMeansEdit → (old new : Told) (t : Tables) (c : Change) → Mirrors old t → Takes t c → ∥ FitsLine c.edit.content ∥₁ → Makes old new c → Mirrors new (does t c.edit).tables
mirrored_change meaning old None t c h takes fits makes = tt
mirrored_change meaning old (Some after) t c h takes fits makes =
    subst (λ r. Holds r (does t c.edit).tables) (sym makes.2) (meaning makes.0 t c (subst (λ told. Mirrors told t) makes.1 h) takes fits)

-- a keeper that told the rows of the desk's tables does so after a change
pub follows : {T E : Type 0} → ChangeMeansEdit → (old new : Told) (t : Tables) (c : Change) (result : Result T E) → Mirrors old t → Takes t c → ∥ FitsLine c.edit.content ∥₁
    → Applies old new c result → Follows new t c result
follows meaning old new t c (Ok done) h takes fits applies = mirrored_change meaning old new t c h takes fits applies
follows meaning old new t c (Err fault) h takes fits applies = mirrored_still old new t h applies
