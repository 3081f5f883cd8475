use Rattle.req_tokens.proofs.EachCut.{cut_or_stops, told_or_cut}
use Rattle.req_tokens.proofs.laws.a_text_has_tokens_or_a_first_fault.Goals as goal

pub returns-clause-either : goal.returns-clause-either
returns-clause-either c = cut_or_stops

pub returns-clause-refusal : goal.returns-clause-refusal
returns-clause-refusal c = told_or_cut
