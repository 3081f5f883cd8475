-- A text cut behind its first token, separator or comment.
use Rattle.std.specs.Prelude.{ℕ, ◌≡◌, ◌<◌, List, ◌++◌, length}
use Rattle.req_grammar.specs.Sorts.{Sort, IsCut}

-- the front, of which there is some, is cut off as one of this sort
pub record Cuts (sort : Sort) (text front rest : List ℕ) : Type 0 where
  pub parts : text ≡ front ++ rest
  pub some : 0 < length front
  pub is : IsCut sort front rest
