-- Trees that a text can say, and the one among them that stands for a tree. (This project's own.)
use Rattle.std.specs.Prelude.{◌≡◌, Bool, true, false, List, [], ◌∷◌, ◌++◌}
use Rattle.std.specs.List.{fold}
use Rattle.req_tree.specs.declared.matching.Match.TheVariants.{Equal}
use Rattle.req_tree.specs.Tree as t
use Rattle.req_tree.specs.Tree.{Tree}

-- the tree joins two by Both
abbrev pub is_both : Tree → Bool
is_both (t.both left right) = true
is_both tree = false

-- the tree joins two by Either
abbrev pub is_either : Tree → Bool
is_either (t.either left right) = true
is_either tree = false

-- spoken: chains of Both and of Either nest to the left alone, and neither the old form of InfoField
-- nor a skipped opcode stands in the tree
abbrev pub IsSpoken : Tree → Type 0
IsSpoken (t.both left right) = IsSpoken left × IsSpoken right × (is_both right ≡ false)
IsSpoken (t.either left right) = IsSpoken left × IsSpoken right × (is_either right ≡ false)
IsSpoken (t.negate inner) = IsSpoken inner
IsSpoken (t.legacy_info key value) = ⊥
IsSpoken (t.skip_false op skipped) = ⊥
IsSpoken (t.skip_next op skipped inner) = ⊥
IsSpoken tree = Unit {0}

-- the operands of a chain of Both, from the left, however it nests
abbrev pub operands_of_both : Tree → List Tree
operands_of_both (t.both left right) = operands_of_both left ++ operands_of_both right
operands_of_both tree = tree ∷ []

-- the same of a chain of Either
abbrev pub operands_of_either : Tree → List Tree
operands_of_either (t.either left right) = operands_of_either left ++ operands_of_either right
operands_of_either tree = tree ∷ []

-- the operands as a chain that nests to the left; there is at least one
abbrev pub left_nest : (Tree → Tree → Tree) → List Tree → Tree
left_nest join [] = t.never
left_nest join (tree ∷ rest) = fold join tree rest

-- the normal form: old InfoFields are InfoFields, what is skipped is Never or what follows it, and
-- each chain nests to the left
abbrev pub normal : Tree → Tree
normal (t.both left right) = left_nest t.both (operands_of_both (normal left) ++ operands_of_both (normal right))
normal (t.either left right) = left_nest t.either (operands_of_either (normal left) ++ operands_of_either (normal right))
normal (t.negate inner) = t.negate (normal inner)
normal (t.legacy_info key value) = t.info_field key (Equal value)
normal (t.skip_false op skipped) = t.never
normal (t.skip_next op skipped inner) = normal inner
normal tree = tree
