use Rattle.req_tokens.specs.Sorts.{plain_sort}
use Rattle.req_tokens.proofs.AllSaid.{cut_said, fault_said}
use Rattle.req_tokens.proofs.front.cut_front.Goals as goal

pub returns-in-Ok-clause-cut : goal.returns-in-Ok-clause-cut
returns-in-Ok-clause-cut c =
    cut_said (plain_sort c.sort_of-sort.result) c.args.at c.args.text.now c.in-Ok.length c.split.result.0.now c.split.result.1.now c.sort_of-sort.ensures c.requires.some c.in-Ok.ensures
    c.split.ensures.front c.split.ensures.rest

pub returns-in-Err-clause-fault : goal.returns-in-Err-clause-fault
returns-in-Err-clause-fault c = fault_said (plain_sort c.sort_of-sort.result) c.args.at c.args.text.now c.in-Err.fault c.sort_of-sort.ensures c.requires.some c.in-Err.ensures
