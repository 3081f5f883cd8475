-- A desk that finished an assessment has the tables that it had.
use Rattle.std.proofs.Common.{◌≡◌, sym, ap, subst}
use Rattle.object_model.specs.Plain.{Plain}
use Rattle.object_model.specs.Tickets.{Ticket}
use Rattle.object_model.specs.Stands.{finished}
use Rattle.policy_keeper.specs.Told.{Told}
use Rattle.policy_keeper.specs.Mirror.{Mirrors}

-- so its keeper still tells them
pub still_mirrored : (told : Told) (t : Ticket) (old new : Plain) → new ≡ finished t old → Mirrors told old.tables → Mirrors told new.tables
still_mirrored told t old new is mirrors = subst (Mirrors told) (sym (ap (λ (d : Plain). d.tables) is)) mirrors
