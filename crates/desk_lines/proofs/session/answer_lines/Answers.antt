-- What the desk and what is open answered, the desk answered.
use Rattle.desk_lines.specs.Memory.{TakesMemory}
use Rattle.desk_lines.proofs.OneLineMore.{answered_alone}
use Rattle.desk_lines.proofs.Alone.{end_alone}
use Rattle.desk_lines.proofs.session.answer_lines.Goals as goal

pub returns-clause-ends : goal.returns-clause-ends
returns-clause-ends g c =
    end_alone _ _ (λ l r so. answered_alone c.args.responder.now.desk.now c.run_session.new.responder.desk.now c.run_session.new.responder.slots.now.items (g.K.Keeper.faults c.args.responder.now.keeper.now) (g.K.Keeper.faults c.run_session.new.responder.keeper.now) l r so.0) _ _ _ _ TakesMemory c.run_session.result c.run_session.ensures.ends

pub returns-clause-answered : goal.returns-clause-answered
returns-clause-answered g c =
    let so = c.run_session.ensures.answered in
    (so.0, so.1, answered_alone c.args.responder.now.desk.now c.run_session.new.responder.desk.now c.run_session.new.responder.slots.now.items (g.K.Keeper.faults c.args.responder.now.keeper.now) (g.K.Keeper.faults c.run_session.new.responder.keeper.now) so.0 so.1 so.2.0)

pub returns-clause-name : goal.returns-clause-name
returns-clause-name g c = c.run_session.ensures.answered.2.2

pub returns-clause-keeper_name : goal.returns-clause-keeper_name
returns-clause-keeper_name g c = c.run_session.ensures.answered.2.3

pub returns-clause-keeps : goal.returns-clause-keeps
returns-clause-keeps g c = c.run_session.ensures.answered.2.1

pub returns-clause-mirrors : goal.returns-clause-mirrors
returns-clause-mirrors g c = c.run_session.ensures.ready.0
