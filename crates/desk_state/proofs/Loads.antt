-- A desk that is loaded stands for no events.
use Rattle.std.proofs.Common.{◌≡◌, List, [], refl, sym, ap, ◌∙◌, subst, arith, Some, None, Result, Ok, Err}
use Rattle.std.specs.Prelude.{IsSome, false}
use Rattle.std.proofs.lemmas.Bool.{both_ways}
use Rattle.std.proofs.lemmas.List.Elements.{All-nil}
use Rattle.std.proofs.Math.Logic.{∥∥₁_elim}
use Rattle.policy_model.specs.Tables.{Tables}
use Rattle.policy_model.specs.History.{Entry, Counts, HasOwnIds, HasOwnKeys}
use Rattle.object_model.specs.Plain.{Plain, Rings, no_rings}
use Rattle.object_model.specs.Fresh.{IsFresh, IsSound}
use Rattle.object_model.specs.Stands as model
use Rattle.object_model.specs.StandsLaws.{OpeningStands}
use Rattle.store_model.specs.Raw.{RawTables}
use Rattle.store_model.specs.Stored.{Holds}
use Rattle.store_model.specs.Accepted.{Accepts}
use Rattle.store_model.specs.Kept.{IsKept}
use Rattle.store_model.specs.Laws.{RowsMeanOne, AcceptedIsNotRefused}
use Rattle.policy_keeper.specs.Told.{Told, Gives}
use Rattle.policy_keeper.specs.Mirror.{Mirrors}
use Rattle.store_reading.specs.Fault.{place_of}
use Rattle.desk_state.specs.declared.desk.Desk.{Desk}
use Rattle.desk_state.specs.declared.load_fault.LoadFault.{LoadFault}
use Rattle.desk_state.specs.declared.load_fault.LoadFault.TheVariants.{KeeperFault, BadStore, OutOfMemory}
use Rattle.desk_state.specs.Cache.{Cache, cache_at}
use Rattle.desk_state.specs.Loaded.{loaded, IsLoaded, IsLoadedAgain}
use Rattle.desk_state.proofs.Purged.{parts_are}

-- where a loaded desk begins is sound
loaded_is_sound : (d : Plain) → HasOwnIds d.tables → HasOwnKeys d.tables → IsSound (loaded d.tables d.facts)
loaded_is_sound d ids keys = record {
  ids = ids;
  keys = keys;
  fresh = All-nil (IsFresh d.tables.rows d.facts 0);
  apart = λ i j e lt in'. absurd (omega (arith, in'));
  fits = omega arith;
}

abbrev with_parts : List Entry → Counts → Rings → Cache
with_parts entries counts rings = record { entries = entries; counts = counts; rings = rings }

pub loaded_stands : OpeningStands → (d : Plain) → d.now ≡ 0 → d.entries ≡ [] → d.counts ≡ record { execute = 0; install = 0; document = 0 } → d.rings ≡ no_rings → HasOwnIds d.tables → HasOwnKeys d.tables →
    model.Stands d (loaded d.tables d.facts) []
loaded_stands stands d now entries counts rings ids keys =
    let empty : Cache = record { entries = []; counts = record { execute = 0; install = 0; document = 0 }; rings = no_rings } in
    let cache : cache_at d ≡ empty =
    ap (λ x. with_parts x d.counts d.rings) entries ∙ ap (λ x. with_parts [] x d.rings) counts ∙ ap (λ x. with_parts [] empty.counts x) rings in
    subst (λ x. model.Stands x (loaded d.tables d.facts) []) (sym (parts_are d.tables d.tables d.facts d.facts d.now 0 (cache_at d) empty refl refl now cache))
    (stands (loaded d.tables d.facts) (loaded_is_sound d ids keys))

-- tables that are loaded again

-- a load of a keeper that told these tables gives rows that mean them
pub held_again : (old new : Told) (given : RawTables) (t : Tables) → IsSome old → Mirrors old t → IsSome new → Gives old new given → Holds given t
held_again None new given t was mirrors is gives = absurd (both_ways false refl was)
held_again (Some before) None given t was mirrors is gives = absurd (both_ways false refl is)
held_again (Some before) (Some after) given t was mirrors is gives = subst (λ raw. Holds raw t) (gives.1 ∙ sym gives.0) mirrors

pub loaded_again : RowsMeanOne → AcceptedIsNotRefused → (given : RawTables) (t : Tables) → Holds given t → ∥ IsKept t ∥₁ → (r : Result Desk LoadFault) → IsLoaded given r → IsLoadedAgain t r
loaded_again one never given t holds k (Ok desk) is = one given _ t is.1 holds
loaded_again one never given t holds k (Err KeeperFault) is = tt
loaded_again one never given t holds k (Err (BadStore row)) is =
    ∥∥₁_elim k (λ a b. absurd a) (λ (k : IsKept t). never given (place_of row) (subst Accepts (sym holds.stored) k.accepted) is)
loaded_again one never given t holds k (Err OutOfMemory) is = tt
