-- Where a requirement of the program stands, and where parentheses stand.
use Rattle.std.specs.Prelude.{ℕ, Bool, true, false, List, []}
use Rattle.dumped_text.specs.Dumped.{Place, alone, beside_and, behind_bang}
use Rattle.req_dumper.specs.declared.place.Place as place
use Rattle.req_dumper.specs.declared.place.Place.TheVariants.{Alone, BesideAnd, BehindBang}

-- the place that a place of the program stands for
abbrev pub place_of : place.Place → Place
place_of Alone = alone
place_of BesideAnd = beside_and
place_of BehindBang = behind_bang

-- parentheses stand round operands of `or`
abbrev pub needs_or : Place → Bool
needs_or alone = false
needs_or place = true

-- parentheses stand round operands of `and`
abbrev pub needs_and : Place → Bool
needs_and behind_bang = true
needs_and place = false

-- the text, where it is shown
abbrev pub shown : Bool → List ℕ → List ℕ
shown true text = text
shown false text = []
