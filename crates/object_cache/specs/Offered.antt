-- What becomes of an offer, as in the definitions.
use Rattle.object_model.specs.Objects.{Offered, kept, inhibited, moved, expired, twice, full}
use Rattle.object_cache.specs.declared.offered.Offered as code
use Rattle.object_cache.specs.declared.offered.Offered.TheVariants.{Kept, Inhibited, Moved, Expired, Twice, Full}

-- kept, or why it is not
abbrev pub offered_of : code.Offered → Offered
offered_of Kept = kept
offered_of Inhibited = inhibited
offered_of Moved = moved
offered_of Expired = expired
offered_of Twice = twice
offered_of Full = full
