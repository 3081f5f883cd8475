-- The order of two texts by the numbers in them. (This project's own; cf. CFString's numeric compare.)
use Rattle.std.specs.Prelude.{ℕ, ◌+◌, ◌-◌, ◌*◌, Bool, nat_le, ◌&&◌, if◌then◌else◌, List, [], ◌∷◌}
use Rattle.std.specs.List.{fold}
use Rattle.std.specs.Ordering.{nat_cmp}
use Rattle.std.specs.declared.cmp.Ordering.{Ordering}
use Rattle.std.specs.declared.cmp.Ordering.TheVariants.{Less, Equal, Greater}

-- a longest run of decimal digits, or one other byte
pub data Item : Type 0 where
  run : List ℕ → Item
  other : ℕ → Item

-- the byte is one of 0 to 9 in ASCII
abbrev pub is_digit : ℕ → Bool
is_digit b = nat_le 48 b && nat_le b 57

-- a digit before the items joins a run that begins them
abbrev pub with_digit : ℕ → List Item → List Item
with_digit b [] = run (b ∷ []) ∷ []
with_digit b (run digits ∷ rest) = run (b ∷ digits) ∷ rest
with_digit b (other c ∷ rest) = run (b ∷ []) ∷ other c ∷ rest

-- the items of a text
abbrev pub items : List ℕ → List Item
items [] = []
items (b ∷ rest) = if is_digit b then with_digit b (items rest) else other b ∷ items rest

-- the whole number that digits write, of any length
abbrev pub number_of : List ℕ → ℕ
number_of digits = fold (λ n b. 10 * n + (b - 48)) 0 digits

-- the byte that a run begins with
abbrev pub first_of_run : List ℕ → ℕ
first_of_run [] = 0
first_of_run (b ∷ digits) = b

-- two runs by their numbers, two bytes as bytes, a run against a byte by the run's first byte
abbrev pub item_cmp : Item → Item → Ordering
item_cmp (run a) (run b) = nat_cmp (number_of a) (number_of b)
item_cmp (run a) (other b) = nat_cmp (first_of_run a) b
item_cmp (other a) (run b) = nat_cmp a (first_of_run b)
item_cmp (other a) (other b) = nat_cmp a b

-- what the rest says, where the front ties
abbrev pub unless_tied : Ordering → Ordering → Ordering
unless_tied Less rest = Less
unless_tied Equal rest = rest
unless_tied Greater rest = Greater

-- item by item; the text that ends first is the less
abbrev pub items_cmp : List Item → List Item → Ordering
items_cmp [] [] = Equal
items_cmp [] (b ∷ ys) = Less
items_cmp (a ∷ xs) [] = Greater
items_cmp (a ∷ xs) (b ∷ ys) = unless_tied (item_cmp a b) (items_cmp xs ys)

-- how one text stands to another
abbrev pub numeric_order : List ℕ → List ℕ → Ordering
numeric_order a b = items_cmp (items a) (items b)
