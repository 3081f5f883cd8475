use Rattle.req_primary.proofs.Leads.{close_leads, primary_leads}
use Rattle.req_primary.proofs.laws.operands_stop_where_the_machine_does.Goals as goal

pub returns-clause-operand : goal.returns-clause-operand
returns-clause-operand c = primary_leads

pub returns-clause-close : goal.returns-clause-close
returns-clause-close c = close_leads
