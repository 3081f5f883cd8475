use Rattle.std.proofs.lemmas.Bool.{both_ways}
use Rattle.store_reading.proofs.Unread.{is_unread}
use Rattle.store_reading.proofs.requirement.read_tree.Goals as goal

pub returns-else-is_out_of_memory : goal.returns-else-is_out_of_memory
returns-else-is_out_of_memory c =
    is_unread c.a_failing_text_is_no_requirement.ensures c.args.text.now c.in-Err.fault
    (λ e. both_ways c.is_out_of_memory.result c.if-is_out_of_memory.false (c.is_out_of_memory.ensures.1 e)) c.in-Err.ensures
