-- A step is made, and the others are left.
use Rattle.std.proofs.Common.{◌≡◌, ◌+◌, ◌-◌, ℕ, ◌∙◌, ap₂, arith}
use Rattle.std.proofs.lemmas.Bool.Decides.{nat_tests}
use Rattle.rehearsal.specs.Made.{step_by}
use Rattle.rehearsal.proofs.Steps.{one_more}
use Rattle.rehearsal.proofs.course.Rehearsal.next_line.Goals as goal

pub returns-clause-made : goal.returns-clause-made
returns-clause-made c t =
    let i = c.args.self.now.next in
    let moment = c.args.self.now.moment in
    let some : c.args.self.now.left ≡ (c.args.self.now.left - 1) + 1 = grind (arith, nat_tests, c.if-self-eq0.false) in
    one_more c.args.self.now.left (c.args.self.now.left - 1) i _ _ _ some
    (c.put_step-self.ensures.line ∙ ap₂ (λ (d x : ℕ). (step_by i moment d x).0) c.draw-draw.ensures.drawn c.draw-draw.ensures.state)
    (c.put_step-self.ensures.course ∙ ap₂ (λ (d x : ℕ). (step_by i moment d x).1) c.draw-draw.ensures.drawn c.draw-draw.ensures.state)
