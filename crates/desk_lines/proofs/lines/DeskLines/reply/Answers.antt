-- All but an edit leave the keeper alone.
use Rattle.std.proofs.lemmas.Result.{on_ok_weaker}
use Rattle.desk_state.specs.Stands.{plain}
use Rattle.desk_lines.proofs.OfDesk.{stay_of_desk}
use Rattle.desk_lines.proofs.lines.DeskLines.reply.Goals as goal

pub returns-in-Tick-clause-replies : goal.returns-in-Tick-clause-replies
returns-in-Tick-clause-replies g c = rw c.in-Tick.is (c.tick.ensures.replies c.args.self.now.slots.now.items (g.K.Keeper.faults c.args.self.now.keeper.now))

pub returns-in-Status-clause-replies : goal.returns-in-Status-clause-replies
returns-in-Status-clause-replies g c = rw c.in-Status.is (c.status.ensures.replies c.args.self.now.slots.now.items (g.K.Keeper.faults c.args.self.now.keeper.now))

pub returns-in-Assess-clause-replies : goal.returns-in-Assess-clause-replies
returns-in-Assess-clause-replies g c = rw c.in-Assess.is (c.assess.ensures.replies c.args.self.now.slots.now.items (g.K.Keeper.faults c.args.self.now.keeper.now))

pub returns-in-Begin-clause-replies : goal.returns-in-Begin-clause-replies
returns-in-Begin-clause-replies g c = on_ok_weaker c.begin.result
    (λ replied. rw c.in-Begin.is (replied (g.K.Keeper.faults c.args.self.now.keeper.now)))
    c.begin.ensures.replies

pub returns-in-Finish-clause-replies : goal.returns-in-Finish-clause-replies
returns-in-Finish-clause-replies g c = rw c.in-Finish.is (c.finish_number.ensures.replies (g.K.Keeper.faults c.args.self.now.keeper.now))

pub returns-in-Edit-clause-of_desk : goal.returns-in-Edit-clause-of_desk
returns-in-Edit-clause-of_desk g c = stay_of_desk (plain c.args.self.now.desk.now) (plain c.make.new.desk) c.args.self.now.slots.now.items c.make.ensures.of_desk c.requires.of_desk

pub returns-in-Tick-clause-of_desk : goal.returns-in-Tick-clause-of_desk
returns-in-Tick-clause-of_desk g c = stay_of_desk (plain c.args.self.now.desk.now) (plain c.tick.new.desk) c.args.self.now.slots.now.items c.tick.ensures.of_desk c.requires.of_desk

pub returns-in-Assess-clause-of_desk : goal.returns-in-Assess-clause-of_desk
returns-in-Assess-clause-of_desk g c = stay_of_desk (plain c.args.self.now.desk.now) (plain c.assess.new.desk) c.args.self.now.slots.now.items c.assess.ensures.of_desk c.requires.of_desk
