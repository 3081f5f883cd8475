use Rattle.std.proofs.Common.{refl}
use Rattle.policy_model.specs.History.{look}
use Rattle.desk_state.specs.Stands.{plain}
use Rattle.desk_state.proofs.desk.Desk.list_text.Goals as goal

pub returns-clause-stands : goal.returns-clause-stands
returns-clause-stands c = λ o h s. c.a_desk_goes_on_standing.ensures.quiet (plain c.args.self.now) o h look refl s
