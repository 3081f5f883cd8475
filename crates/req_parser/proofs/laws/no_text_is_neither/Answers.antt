use Rattle.req_parser.proofs.Neither.{text_told, set_text_told}
use Rattle.req_parser.proofs.laws.no_text_is_neither.Goals as goal

pub returns-clause-tree : goal.returns-clause-tree
returns-clause-tree c =
    text_told c.a_text_has_tokens_or_a_first_fault.ensures.refusal
    (record { some = c.the_machine_stops.ensures; shapes = c.shapes_are_read.ensures.tree; good = c.good_shapes_are_read.ensures.tree })

pub returns-clause-set : goal.returns-clause-set
returns-clause-set c =
    set_text_told c.a_text_has_tokens_or_a_first_fault.ensures.refusal
    (record { some = c.the_machine_stops.ensures; shapes = c.shapes_are_read.ensures.set; good = c.good_shapes_are_read.ensures.set })
