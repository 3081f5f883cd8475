-- One more is open, at the last place.
use Rattle.std.proofs.Common.{◌≡◌, length, refl, ◌∙◌, arith}
use Rattle.std.proofs.lemmas.Grind.{common_steps}
use Rattle.policy_model.specs.History as event
use Rattle.policy_model.specs.History.{now_of}
use Rattle.assess.specs.Ask.{ask_of}
use Rattle.desk_state.specs.Stands.{plain}
use Rattle.desk_lines.proofs.Places.{get_last}
use Rattle.desk_lines.proofs.Opens.{opens_push}
use Rattle.desk_lines.proofs.Finishes.{held_now}
use Rattle.desk_lines.proofs.OfDesk.{push_of_desk}
use Rattle.desk_lines.proofs.answering.begin_now.Goals as goal

pub returns-clause-replies : goal.returns-clause-replies
returns-clause-replies c = λ o s stands stand.
    let a = ask_of c.args.ask.now in
    let now : c.status-standing.result.now ≡ now_of o s.history = c.status-standing.ensures.is.now_is ∙ stands.now_is in (
      rw (c.push_field-2.ensures.text, c.get.ensures.value, now, c.push_field.ensures.text, c.from.ensures, c.requires.text) (grind (arith, common_steps)),
      c.judge-looked.ensures.stands o s.history stands,
      rw c.in_ok-push.ensures.items (opens_push c.a_ticket_is_enough.ensures.stays o s.history (event.ask a) 0
          (record { number = c.args.number; looked = c.judge-looked.result })
          (record { number = c.args.number; place = length s.history }) c.args.slots.now.items s.slots refl (omega arith) (λ k less is. cc) stand
          (record {
            number_is = refl;
            asked = a;
            stands = get_last s.history (event.ask a);
            held = held_now (plain c.args.desk.now) o s.history a c.judge-looked.result c.judge-looked.ensures.looked (c.judge-looked.ensures.after o s.history stands);
          })),
    )

pub returns-clause-of_desk : goal.returns-clause-of_desk
returns-clause-of_desk c =
    rw c.in_ok-push.ensures.items (push_of_desk (plain c.args.desk.now) c.args.slots.now.items (record { number = c.args.number; looked = c.judge-looked.result }) c.requires.of_desk c.judge-looked.ensures.of_desk)
