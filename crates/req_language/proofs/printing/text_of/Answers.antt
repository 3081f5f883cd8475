use Rattle.req_language.proofs.InTheWay.{sure}
use Rattle.req_language.proofs.Refusals.{not_refused}
use Rattle.req_language.proofs.printing.text_of.Goals as goal

pub returns-in-Err-clause-only : goal.returns-in-Err-clause-only
returns-in-Err-clause-only c tree spelt = sure c.in-Err.fault (λ some. not_refused tree c.in-Err.fault (c.in-Err.ensures.only tree spelt some))
