-- A list of entries is fresh in one way at most, so that a type may keep that it is.
use Rattle.std.specs.Prelude.{ℕ, List}
use Rattle.std.specs.Coded.{Coded, Coded-set, codes, le_prop}
use Rattle.req_tree.specs.Facts.{Facts}
use Rattle.policy_model.specs.Rules.{Row}
use Rattle.policy_model.specs.Outcomes.{Outcome, governed, default}
use Rattle.policy_model.specs.History.{Entry}
use Rattle.object_model.specs.Fresh.{StillSays, IsFresh, AreFresh}
use Rattle.object_model.specs.Stands.{IsFreshDesk}
use Rattle.object_model.specs.Plain.{Plain}

-- outcomes are plain data
outcome_code : Coded Outcome
outcome_code = Prim.hlevel codes

-- one outcome is still what another says in one way at most
still_once : (o now : Outcome) → IsProp (StillSays o now)
still_once (governed rank allow label inhibit until) now = hlevel (Coded-set outcome_code)
still_once (default latent label until) (default other text end) = hlevel (Coded-set, codes, le_prop)
still_once (default latent label until) (governed rank allow text inhibit end) = hlevel

-- an entry is fresh in one way at most
one_once : (rows : List Row) (facts : Facts) (m : ℕ) (e : Entry) → IsProp (IsFresh rows facts m e)
one_once rows facts m e = hlevel (still_once, Coded-set, codes)

-- and so is a list of them
pub fresh_once : (rows : List Row) (facts : Facts) (m : ℕ) (objects : List Entry) → IsProp (AreFresh rows facts m objects)
fresh_once rows facts m objects = hlevel (one_once, le_prop)

-- and so is a desk
pub fresh_desk_once : (d : Plain) → IsProp (IsFreshDesk d)
fresh_desk_once d = fresh_once d.tables.rows d.facts d.now d.entries
