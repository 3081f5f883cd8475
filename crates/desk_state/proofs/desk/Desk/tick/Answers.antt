use Rattle.std.proofs.Common.{◌∷◌, [], ◌++◌, sym, ap, ◌∙◌, subst}
use Rattle.policy_model.specs.History.{tick, now_step}
use Rattle.object_model.specs.Stands as model
use Rattle.object_model.specs.OfDesk.{KeepsOf}
use Rattle.desk_state.specs.Stands.{tables, facts_of, moment_of, plain}
use Rattle.desk_state.proofs.StaysFresh.{ticks}
use Rattle.desk_state.proofs.desk.Desk.tick.Goals as goal

pub returns-clause-stands : goal.returns-clause-stands
returns-clause-stands c = λ o h s.
    let d = c.args.self.now in
    subst (λ x. model.Stands x o (h ++ tick c.args.at ∷ [])) (sym (ticks c.ended_entries_may_stay.ensures.tick (tables d) (facts_of d) (moment_of d) d.objects c.args.at c.later-self.result c.later-self.ensures))
    (c.a_desk_goes_on_standing.ensures.tick (plain d) o h c.args.at s)

pub returns-clause-legal : goal.returns-clause-legal
returns-clause-legal c = λ o h s. c.later-self.ensures ∙ ap (now_step (tick c.args.at)) s.now_is ∙ sym (c.history_goes_on.ensures.moment o h (tick c.args.at))

pub returns-clause-of_desk : goal.returns-clause-of_desk
returns-clause-of_desk c =
    let d = c.args.self.now in
    subst (KeepsOf (plain d)) (sym (ticks c.ended_entries_may_stay.ensures.tick (tables d) (facts_of d) (moment_of d) d.objects c.args.at c.later-self.result c.later-self.ensures))
    (c.what_was_judged_is_of_the_desk.ensures.tick (plain d) c.args.at)

pub invariant_of-self-clause-fresh : goal.invariant_of-self-clause-fresh
invariant_of-self-clause-fresh c =
    let d = c.args.self.now in
    subst model.IsFreshDesk (sym (ticks c.ended_entries_may_stay.ensures.tick (tables d) (facts_of d) (moment_of d) d.objects c.args.at c.later-self.result c.later-self.ensures))
    (c.a_desk_is_fresh.ensures.tick (plain d) c.args.at d.own_ids d.fresh)
