-- A reply more makes the session one line longer; a line that isn't answered leaves it.
use Rattle.std.proofs.Common.{◌∷◌, [], ◌++◌, ◌∙◌, arith}
use Rattle.std.proofs.lemmas.Result.{on_ok_weaker, on_err_weaker}
use Rattle.line_text.specs.LineText.{line_bytes}
use Rattle.desk_lines.specs.Answered.{HasAnsweredSo}
use Rattle.desk_lines.proofs.Failed.{keeps_on}
use Rattle.desk_lines.proofs.OneLineMore.{answered_more, answered_still}
use Rattle.desk_lines.proofs.lines.DeskLinesResponder.answer.Goals as goal

pub returns-in-Ok-clause-answers : goal.returns-in-Ok-clause-answers
returns-in-Ok-clause-answers g c = on_ok_weaker c.reply.result
    (λ replied begin whole lines replies front answered.
    let so : HasAnsweredSo begin.desk.now c.reply.new.self.desk.now c.reply.new.self.slots.now.items (g.K.Keeper.faults begin.keeper.now) (g.K.Keeper.faults c.reply.new.self.keeper.now) (lines ++ whole ∷ []) (replies ++ line_bytes c.reply.new.out ∷ []) =
    answered_more begin.desk.now c.args.self.now.desk.now c.reply.new.self.desk.now c.args.self.now.slots.now.items c.reply.new.self.slots.now.items (g.K.Keeper.faults begin.keeper.now) (g.K.Keeper.faults c.args.self.now.keeper.now) (g.K.Keeper.faults c.reply.new.self.keeper.now) _ _ c.args.line.now whole lines replies
    c.reply.ensures.keeps.1 c.the_front_asks_the_same.ensures c.in-Ok.ensures.tells front replied answered.0 in
    (so, keeps_on _ _ _ _ _ _ answered.1 c.reply.ensures.keeps, c.reply.ensures.name ∙ answered.2, c.reply.ensures.keeper_name ∙ answered.3))
    c.reply.ensures.replies

pub returns-in-Ok-clause-refuses : goal.returns-in-Ok-clause-refuses
returns-in-Ok-clause-refuses g c = on_err_weaker c.reply.result
    (λ still begin lines replies answered.
    let so : HasAnsweredSo begin.desk.now c.reply.new.self.desk.now c.reply.new.self.slots.now.items (g.K.Keeper.faults begin.keeper.now) (g.K.Keeper.faults c.reply.new.self.keeper.now) lines replies =
    answered_still begin.desk.now c.args.self.now.desk.now c.reply.new.self.desk.now c.args.self.now.slots.now.items c.reply.new.self.slots.now.items (g.K.Keeper.faults begin.keeper.now) (g.K.Keeper.faults c.args.self.now.keeper.now) (g.K.Keeper.faults c.reply.new.self.keeper.now) lines replies still.1 still.0 answered.0 in
    (so, keeps_on _ _ _ _ _ _ answered.1 c.reply.ensures.keeps, c.reply.ensures.name ∙ answered.2, c.reply.ensures.keeper_name ∙ answered.3))
    c.reply.ensures.refuses

pub returns-in-Ok-clause-memory : goal.returns-in-Ok-clause-memory
returns-in-Ok-clause-memory g c = on_err_weaker c.reply.result c.in-Ok.ensures.memory c.reply.ensures.memory

pub returns-in-Err-clause-answers : goal.returns-in-Err-clause-answers
returns-in-Err-clause-answers g c = on_ok_weaker c.refuse.result
    (λ refused begin whole lines replies front answered.
    let so : HasAnsweredSo begin.desk.now c.args.self.now.desk.now c.args.self.now.slots.now.items (g.K.Keeper.faults begin.keeper.now) (g.K.Keeper.faults c.args.self.now.keeper.now) (lines ++ whole ∷ []) (replies ++ line_bytes c.refuse.new.out ∷ []) =
    answered_more begin.desk.now c.args.self.now.desk.now c.args.self.now.desk.now c.args.self.now.slots.now.items c.args.self.now.slots.now.items (g.K.Keeper.faults begin.keeper.now) (g.K.Keeper.faults c.args.self.now.keeper.now) (g.K.Keeper.faults c.args.self.now.keeper.now) _ _ c.args.line.now whole lines replies
    (omega arith) c.the_front_asks_the_same.ensures (c.in-Err.ensures.tells refused.0) front (refused.1 (g.K.Keeper.faults c.args.self.now.keeper.now)) answered.0 in
    (so, answered.1, answered.2, answered.3))
    c.refuse.ensures.replies

pub returns-in-Err-clause-memory : goal.returns-in-Err-clause-memory
returns-in-Err-clause-memory g c = on_err_weaker c.refuse.result c.in-Err.ensures.memory c.refuse.ensures.memory
