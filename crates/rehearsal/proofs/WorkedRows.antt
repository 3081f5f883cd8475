-- Worked rehearsals and counts, computed by the definitions alone.
use Rattle.std.specs.Prelude.{◌≡◌, [], ◌∷◌, refl, codes}
use Rattle.std.specs.Fmt.{digits}
use Rattle.rehearsal.specs.Draws.{stirred, below}
use Rattle.rehearsal.specs.Made.{beginning, step}
use Rattle.rehearsal.specs.Counts.{counts, summary_text}

first_state : stirred 1 ≡ 7806831264735756412
first_state = refl

first_draw : below 10 (stirred 1) ≡ 4
first_draw = refl

-- of two steps the first
first_of_two : (step 1 (beginning 2)).0 ≡ codes "add k1 execute allow 4 never L3 - notarized"
unfolding digits
first_of_two = refl

-- of 31 steps the first two
first_of_many : (step 1 (beginning 31)).0 ≡ codes "tick 27"
unfolding digits
first_of_many = refl

second_of_many : (step 2 (step 1 (beginning 31)).1).0 ≡ codes "enable k2 id 1 any"
unfolding digits
second_of_many = refl

nothing_counted : summary_text 1 (counts (codes "begun 4 at=0" ∷ [])) ≡ codes "steps=1 accepted=0 rejected=0 cache=0 kept=0 moved=0 edits=0 refused=0"
unfolding digits
nothing_counted = refl

each_counted : summary_text 5 (counts (codes "accepted at=0 source=rules cache=kept" ∷ codes "rejected at=0 source=cache cache=none" ∷ codes "accepted at=0 source=rules cache=moved" ∷ codes "ok edit=1 rules=1" ∷ codes "refused edit 11 NoRule" ∷ []))
    ≡ codes "steps=5 accepted=2 rejected=1 cache=1 kept=1 moved=1 edits=1 refused=1"
unfolding digits
each_counted = refl
