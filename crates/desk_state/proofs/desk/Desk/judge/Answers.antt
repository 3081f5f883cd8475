use Rattle.std.proofs.Common.{refl}
use Rattle.policy_model.specs.History.{ask}
use Rattle.assess.specs.Ask.{ask_of}
use Rattle.desk_state.specs.Stands.{plain}
use Rattle.desk_state.proofs.Judges.{looks_after}
use Rattle.desk_state.proofs.OfDesk.{looked_of_desk}
use Rattle.desk_state.proofs.desk.Desk.judge.Goals as goal

pub returns-clause-after : goal.returns-clause-after
returns-clause-after c = λ o h s.
    looks_after c.a_desk_goes_on_standing.ensures.known c.a_desk_goes_on_standing.ensures.begin (plain c.args.self.now) o h (ask_of c.args.ask.now) s c.look.result c.look.ensures

pub returns-clause-stands : goal.returns-clause-stands
returns-clause-stands c = λ o h s. c.a_desk_goes_on_standing.ensures.quiet (plain c.args.self.now) o h (ask (ask_of c.args.ask.now)) refl s

pub returns-clause-of_desk : goal.returns-clause-of_desk
returns-clause-of_desk c = looked_of_desk c.what_was_judged_is_of_the_desk.ensures.begin (plain c.args.self.now) (ask_of c.args.ask.now) c.look.result c.look.ensures
