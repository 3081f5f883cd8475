use Rattle.std.proofs.Common.{ap, ◌∙◌}
use Rattle.object_model.specs.Plain.{Plain}
use Rattle.desk_state.specs.Stands.{plain}
use Rattle.desk_state.proofs.Assessed.{finishes_after, stands_finished}
use Rattle.desk_state.proofs.Judges.{finished_is, settled_is}
use Rattle.desk_state.proofs.OfDesk.{settled_keeps}
use Rattle.desk_state.proofs.desk.Desk.settle.Goals as goal

pub returns-clause-tables : goal.returns-clause-tables
returns-clause-tables c = ap (λ (d : Plain). d.tables) c.settle_now.ensures.makes

pub returns-clause-settled : goal.returns-clause-settled
returns-clause-settled c = λ t of. finished_is (plain c.args.self.now) c.args.judged t c.settle_now.result of c.settle_now.ensures.says

pub returns-clause-leaves : goal.returns-clause-leaves
returns-clause-leaves c = λ t of. c.settle_now.ensures.makes ∙ settled_is (plain c.args.self.now) c.args.judged t of

pub returns-clause-after : goal.returns-clause-after
returns-clause-after c = λ o h k t s at of.
    finishes_after c.a_ticket_is_enough.ensures.answers c.a_desk_goes_on_standing.ensures.finish (plain c.args.self.now) o h k t s at c.settle_now.result
    (finished_is (plain c.args.self.now) c.args.judged t c.settle_now.result of c.settle_now.ensures.says)

pub returns-clause-stands : goal.returns-clause-stands
returns-clause-stands c = λ o h k t s at of.
    stands_finished c.a_desk_goes_on_standing.ensures.finish (plain c.args.self.now) _ o h k t (c.settle_now.ensures.makes ∙ settled_is (plain c.args.self.now) c.args.judged t of) s at

pub returns-clause-of_desk : goal.returns-clause-of_desk
returns-clause-of_desk c = settled_keeps c.what_was_judged_is_of_the_desk.ensures.entries (plain c.args.self.now) _ c.args.judged c.settle_now.ensures.makes
