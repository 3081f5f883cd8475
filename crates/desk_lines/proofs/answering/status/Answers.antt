-- What a desk says of itself is what its history says.
use Rattle.std.proofs.Common.{◌≡◌, ◌++◌, ◌∷◌, [], ◌∙◌, ap, refl, length, inl}
use Rattle.policy_model.specs.Tables.{Tables}
use Rattle.policy_model.specs.History.{tables_of, now_of}
use Rattle.policy_model.specs.History as event
use Rattle.desk_state.specs.Stands.{tables}
use Rattle.desk_lines.proofs.Opens.{opens_stay}
use Rattle.desk_lines.proofs.Failed.{shows_more}
use Rattle.desk_lines.proofs.answering.status.Goals as goal

pub returns-clause-replies : goal.returns-clause-replies
returns-clause-replies c = λ held n o s stands stand.
    let is = c.status-standing.ensures.is in
    let t : tables c.args.desk.now ≡ tables_of o s.history = stands.tables_are in
    let enabled : c.status-standing.result.enabled ≡ (tables_of o s.history).enabled = is.enabled_is ∙ ap (λ (x : Tables). x.enabled) t in
    let rules : c.status-standing.result.rules ≡ length (tables_of o s.history).rows = is.rules_are ∙ ap (λ (x : Tables). length x.rows) t in
    let receipts : c.status-standing.result.receipts ≡ length (tables_of o s.history).receipts = is.receipts_are ∙ ap (λ (x : Tables). length x.receipts) t in
    let now : c.status-standing.result.now ≡ now_of o s.history = is.now_is ∙ stands.now_is in
    let objects = is.objects_are ∙ ap length stands.objects_are in (
      record { history = s.history ++ event.look ∷ []; slots = s.slots },
      inl (refl, rw (c.status_into.ensures.text, enabled, rules, receipts, objects, now) refl),
      c.status-standing.ensures.stands o s.history stands,
      opens_stay c.a_ticket_is_enough.ensures.stays o s.history event.look 0 held s.slots (λ k less is. cc) stand,
      shows_more s.history event.look n refl,
    )
