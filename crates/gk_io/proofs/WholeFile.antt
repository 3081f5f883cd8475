-- How far a file is read.
use Rattle.std.proofs.Common.{ℕ, ◌+◌, ◌<◌, ◌≤◌, List, ◌++◌, Option, length, take, length-append, arith}
use Rattle.std.proofs.lemmas.List.{length-take}
use Rattle.std.proofs.KnownBytes.{Consumes-trans}
use Rattle.std.specs.Io.KnownBytes.{Consumes}
use Rattle.gk_io.specs.Shelf.{IsReadPast, IsReadUpTo}

module _ (old mid new : Option (List ℕ)) (into buf : List ℕ) (limit count : ℕ) (before : Consumes old mid into) (more : Consumes mid new (take count buf)) (bound : count ≤ length buf) where
  -- one byte more than the limit allows
  pub one_past : length into ≤ limit → length into + length buf ≤ limit + 1 → limit < length into + count → IsReadPast old new limit
  one_past fits asked past =
      (into ++ take count buf, Consumes-trans old mid new into (take count buf) before more, grind (arith, fits, asked, past, bound, length-append into (take count buf), length-take count buf))

  -- never more than one byte past it
  pub one_past_at_most : length into ≤ limit → length into + length buf ≤ limit + 1 → IsReadUpTo old new (limit + 1)
  one_past_at_most fits asked =
      (into ++ take count buf, Consumes-trans old mid new into (take count buf) before more, grind (arith, fits, asked, bound, length-append into (take count buf), length-take count buf))
