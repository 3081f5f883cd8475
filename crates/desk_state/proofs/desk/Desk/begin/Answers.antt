use Rattle.std.proofs.Common.{refl, sym, ap, subst}
use Rattle.std.specs.Prelude.{Some, option_map, IfOk}
use Rattle.req_tree.specs.Subject.{subject_of}
use Rattle.policy_model.specs.History.{ask}
use Rattle.rule_values.specs.Kind.{kind_of}
use Rattle.assess.specs.Ask.{ask_of}
use Rattle.desk_state.specs.Stands.{plain}
use Rattle.desk_state.specs.Begun.{IsBegun, IsBegunOfDesk, BeginsAfter}
use Rattle.desk_state.proofs.Assessed.{ok_map, begins_after}
use Rattle.policy_model.specs.Outcomes.{Ask}
use Rattle.desk_state.proofs.OfDesk.{begun_of_desk}
use Rattle.desk_state.proofs.desk.Desk.begin.Goals as goal

pub returns-in-None-clause-stands : goal.returns-in-None-clause-stands
returns-in-None-clause-stands c = λ o h s. c.a_desk_goes_on_standing.ensures.quiet (plain c.args.self.now) o h (ask (ask_of c.args.ask.now)) refl s

pub returns-in-Some-clause-stands : goal.returns-in-Some-clause-stands
returns-in-Some-clause-stands c = λ o h s. c.a_desk_goes_on_standing.ensures.quiet (plain c.args.self.now) o h (ask (ask_of c.args.ask.now)) refl s

pub returns-in-Some-clause-after : goal.returns-in-Some-clause-after
returns-in-Some-clause-after c = λ o h s.
    subst (λ y. IfOk c.begin_signed.result (λ b. BeginsAfter o h (record { kind = kind_of c.args.ask.now.kind; subject = y; keep = c.args.ask.now.keep }) b)) (sym (ap (option_map subject_of) c.in-Some.is))
    (ok_map (IsBegun (plain c.args.self.now) (record { kind = kind_of c.args.ask.now.kind; subject = Some (subject_of c.in-Some.subject); keep = c.args.ask.now.keep })) _ c.begin_signed.result
    (begins_after c.a_desk_goes_on_standing.ensures.known c.a_desk_goes_on_standing.ensures.begin c.snapshots_judge_alike.ensures.alike (plain c.args.self.now) o h
    (record { kind = kind_of c.args.ask.now.kind; subject = Some (subject_of c.in-Some.subject); keep = c.args.ask.now.keep }) c.args.self.now.own_ids s)
    c.begin_signed.ensures.begun)

pub returns-in-Some-clause-of_desk : goal.returns-in-Some-clause-of_desk
returns-in-Some-clause-of_desk c =
    let a : Ask = record { kind = kind_of c.args.ask.now.kind; subject = Some (subject_of c.in-Some.subject); keep = c.args.ask.now.keep } in
    ok_map (IsBegun (plain c.args.self.now) a) (IsBegunOfDesk (plain c.args.self.now)) c.begin_signed.result
    (begun_of_desk c.what_was_judged_is_of_the_desk.ensures.begin c.snapshots_judge_alike.ensures.alike (plain c.args.self.now) a c.args.self.now.own_ids)
    c.begin_signed.ensures.begun
