-- What a keeper tells goes with the desk's tables.
use Rattle.std.proofs.Common.{sym, subst, Some, None}
use Rattle.policy_model.specs.Tables.{Tables}
use Rattle.store_model.specs.Raw.{RawTables}
use Rattle.store_model.specs.Stored.{raw_of_tables, Holds}
use Rattle.store_model.specs.Accepted.{Accepts}
use Rattle.store_model.specs.Change.{Change, Takes}
use Rattle.store_model.specs.Laws.{RowsMeanOne}
use Rattle.policy_keeper.specs.Told.{Told, Gives, CanApply}
use Rattle.policy_keeper.specs.Mirror.{Mirrors}

pub can_change : RowsMeanOne → (told : Told) (t : Tables) (c : Change) → Mirrors told t → ∥ Accepts (raw_of_tables t) ∥₁ → Takes t c → CanApply told c
can_change one None t c h accepted takes = tt
can_change one (Some raw) t c h accepted takes =
    (subst (λ r. ∥ Accepts r ∥₁) (sym h.stored) accepted, λ u held. subst (λ v. Takes v c) (one raw t u h held) takes)

pub load_mirrors : (old new : Told) (given : RawTables) (t : Tables) → Gives old new given → Holds given t → Mirrors new t
load_mirrors old None given t gives h = tt
load_mirrors old (Some after) given t gives h = subst (λ r. Holds r t) gives.0 h
