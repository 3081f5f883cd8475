-- The normal form of a tree that can be spelt can be spelt.
use Rattle.std.proofs.Common.{List, [], ◌∷◌, ◌++◌}
use Rattle.std.specs.List.{fold}
use Rattle.req_tree.specs.Tree as t
use Rattle.req_tree.specs.Tree.{Tree}
use Rattle.req_tree.specs.Normal.{operands_of_both, operands_of_either, left_nest, normal}
use Rattle.req_tree.specs.Spellable.{CanSpell, IsShallow, IsEncodable}
use Rattle.req_tree.proofs.NormalForms.{Each, Each-append}

both_operands : (tree : Tree) → CanSpell tree → Each CanSpell (operands_of_both tree)
both_operands (t.both left right) h = Each-append CanSpell _ _ (both_operands left h.0) (both_operands right h.1)
both_operands tree h = (h, tt)

either_operands : (tree : Tree) → CanSpell tree → Each CanSpell (operands_of_either tree)
either_operands (t.either left right) h = Each-append CanSpell _ _ (either_operands left h.0) (either_operands right h.1)
either_operands tree h = (h, tt)

both_nest : (tree : Tree) (rest : List Tree) → CanSpell tree → Each CanSpell rest → CanSpell (fold t.both tree rest)
both_nest tree [] h k = h
both_nest tree (x ∷ rest) h k = both_nest (t.both tree x) rest (h, k.0) k.1

either_nest : (tree : Tree) (rest : List Tree) → CanSpell tree → Each CanSpell rest → CanSpell (fold t.either tree rest)
either_nest tree [] h k = h
either_nest tree (x ∷ rest) h k = either_nest (t.either tree x) rest (h, k.0) k.1

both_chain : (trees : List Tree) → Each CanSpell trees → CanSpell (left_nest t.both trees)
both_chain [] k = tt
both_chain (x ∷ rest) k = both_nest x rest k.0 k.1

either_chain : (trees : List Tree) → Each CanSpell trees → CanSpell (left_nest t.either trees)
either_chain [] k = tt
either_chain (x ∷ rest) k = either_nest x rest k.0 k.1

-- a normal form says nothing that its tree couldn't say
pub normal_can : (tree : Tree) → CanSpell tree → CanSpell (normal tree)
normal_can (t.both left right) h =
    both_chain _ (Each-append CanSpell _ _ (both_operands (normal left) (normal_can left h.0)) (both_operands (normal right) (normal_can right h.1)))
normal_can (t.either left right) h =
    either_chain _ (Each-append CanSpell _ _ (either_operands (normal left) (normal_can left h.0)) (either_operands (normal right) (normal_can right h.1)))
normal_can (t.negate inner) h = normal_can inner h
normal_can (t.legacy_info key value) h = tt
normal_can (t.skip_false op skipped) h = tt
normal_can (t.skip_next op skipped inner) h = normal_can inner h.1
normal_can tree h = h

-- the same of a tree that can be written, where its normal form is no deeper than a requirement may be
pub normal_written : (tree : Tree) → IsEncodable tree → IsShallow (normal tree) → IsEncodable (normal tree)
normal_written tree h shallow = record { shallow = shallow; spellable = normal_can tree h.spellable }
