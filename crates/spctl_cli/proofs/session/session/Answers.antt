-- A session over the desk that was opened, or what is said without one.
use Rattle.std.proofs.Common.{◌≡◌, ◌≤◌, ℕ, Result, Ok, Err, inl, inr, refl, ap, subst}
use Rattle.std.specs.Prelude.{IsSome}
use Rattle.session_model.specs.Session.{begun}
use Rattle.command_words.specs.Views.{text_of}
use Rattle.run_status.specs.declared.status.Status.TheVariants.{ShelfFault as shelf_status, KeeperFault as keeper_status}
use Rattle.run_status.specs.declared.stop.Stop.TheVariants as stop
use Rattle.desk_opening.specs.declared.unopened.Unopened.TheVariants as unopened
use Rattle.desk_state.specs.Failures.{kept_by}
use Rattle.run_commands.specs.declared.halt.Halt.TheVariants as halt
use Rattle.run_commands.specs.Answers.{UnopenedAnswers}
use Rattle.spctl_cli.specs.Conclusions.{tally_of}
use Rattle.spctl_cli.specs.Ends.{SessionEnds}
use Rattle.spctl_cli.proofs.Concluded.{spoken_uttered, counts_for, shelf_ended, keeper_ended_alone}
use Rattle.spctl_cli.proofs.Devices.{source_still, shelf_for, shelf_kept}
use Rattle.spctl_cli.proofs.EndsOfSessions.{session_own, opened_not_shelf, opened_not_keeper}
use Rattle.spctl_cli.proofs.Starved.{stays_same, loaded_last}
use Rattle.spctl_cli.proofs.Unopened.{unopened_answers, unopened_speaks, unsaid_stop, unsaid_keeper, unsaid_back, keeper_back, counted, unopened_end, deskless_of_session, deskless_not_read, deskless_not_long, ok_is_not_err}
use Rattle.spctl_cli.proofs.session.session.Goals as goal

pub conclude-requires : goal.conclude-requires
conclude-requires g c =
    spoken_uttered c.unopened.result
    (unopened_speaks c.a_run_begins_or_not.ensures.spoken (g.H.Shelf.files c.args.shelf.now) (text_of c.args.facts) (g.K.Keeper.told c.open_desk.new.keeper) c.unopened.result
    (unopened_answers (g.H.Shelf.files c.args.shelf.now) (text_of c.args.facts) (g.K.Keeper.told c.open_desk.new.keeper) c.in-Err.why c.unopened.result c.in-Err.ensures.unopened c.unopened.ensures))

pub over_desk-ended-requires : goal.over_desk-ended-requires
over_desk-ended-requires g c = record { mirrors = c.in-Ok.ensures.opened.mirrors }

pub returns-in-Err-clause-ends : goal.returns-in-Err-clause-ends
returns-in-Err-clause-ends g c times =
    let files = g.H.Shelf.files c.args.shelf.now in
    let facts = text_of c.args.facts in
    let told = g.K.Keeper.told c.open_desk.new.keeper in
    let answers = unopened_answers files facts told c.in-Err.why c.unopened.result c.in-Err.ensures.unopened c.unopened.ensures in (
      told,
      loaded_last (g.K.Keeper.told c.args.keeper.now) told c.in-Err.ensures.keeper.same,
      inr (record {
        spoken = record {
          unread = refl;
          answer = c.unopened.result;
          answers = answers;
          counted = counted c.unopened.result
              (tally_of (g.H.Shelf.faults c.args.shelf.now) (g.H.Shelf.faults c.open_desk.new.shelf) (g.K.Keeper.faults c.args.keeper.now) (g.K.Keeper.faults c.open_desk.new.keeper) times times)
              (λ is. c.in-Err.ensures.shelf.counts.cause (ap Err (unsaid_stop c.in-Err.why c.unopened.result stop.ShelfFault c.unopened.ensures is)))
              (λ is. absurd (subst (UnopenedAnswers files told facts) is answers))
              (λ is. c.in-Err.ensures.keeper.counts.cause (ap Err (unsaid_keeper c.in-Err.why c.unopened.result c.unopened.ensures is)));
          concludes = c.conclude.ensures.ends;
        };
        stays = stays_same told;
      }),
    )

pub returns-in-Err-clause-own : goal.returns-in-Err-clause-own
returns-in-Err-clause-own g c =
    let answers = unopened_answers (g.H.Shelf.files c.args.shelf.now) (text_of c.args.facts) (g.K.Keeper.told c.open_desk.new.keeper) c.in-Err.why c.unopened.result c.in-Err.ensures.unopened c.unopened.ensures in
    deskless_of_session c.conclude.result
    (unopened_end c.a_run_begins_or_not.ensures.deskless (g.H.Shelf.files c.args.shelf.now) (text_of c.args.facts) (g.K.Keeper.told c.open_desk.new.keeper) c.unopened.result _ _ c.conclude.result answers c.conclude.ensures.ends)

pub returns-in-Err-clause-within : goal.returns-in-Err-clause-within
returns-in-Err-clause-within g c bytes left within is =
    let answers = unopened_answers (g.H.Shelf.files c.args.shelf.now) (text_of c.args.facts) (g.K.Keeper.told c.open_desk.new.keeper) c.in-Err.why c.unopened.result c.in-Err.ensures.unopened c.unopened.ensures in
    deskless_not_long c.conclude.result
    (unopened_end c.a_run_begins_or_not.ensures.deskless (g.H.Shelf.files c.args.shelf.now) (text_of c.args.facts) (g.K.Keeper.told c.open_desk.new.keeper) c.unopened.result _ _ c.conclude.result answers c.conclude.ensures.ends) is

pub returns-in-Err-clause-input : goal.returns-in-Err-clause-input
returns-in-Err-clause-input g c =
    let answers = unopened_answers (g.H.Shelf.files c.args.shelf.now) (text_of c.args.facts) (g.K.Keeper.told c.open_desk.new.keeper) c.in-Err.why c.unopened.result c.in-Err.ensures.unopened c.unopened.ensures in
    source_still _ _ _ _ (deskless_not_read c.conclude.result
    (unopened_end c.a_run_begins_or_not.ensures.deskless (g.H.Shelf.files c.args.shelf.now) (text_of c.args.facts) (g.K.Keeper.told c.open_desk.new.keeper) c.unopened.result _ _ c.conclude.result answers c.conclude.ensures.ends))

pub returns-in-Err-clause-shelf : goal.returns-in-Err-clause-shelf
returns-in-Err-clause-shelf g c =
    let files = g.H.Shelf.files c.args.shelf.now in
    let facts = text_of c.args.facts in
    let told = g.K.Keeper.told c.open_desk.new.keeper in
    let answers = unopened_answers files facts told c.in-Err.why c.unopened.result c.in-Err.ensures.unopened c.unopened.ensures in
    shelf_ended c.unopened.result (spoken_uttered c.unopened.result (unopened_speaks c.a_run_begins_or_not.ensures.spoken files facts told c.unopened.result answers)) _ _ c.conclude.result c.conclude.ensures.ends
    (IsSome facts) _ _ _ _ (λ is. subst (UnopenedAnswers files told facts) is answers)
    (shelf_for _ _ _ _ _ _ _ _ (λ is. ap Err (unsaid_stop c.in-Err.why c.unopened.result stop.ShelfFault c.unopened.ensures is))
    (λ none is. none (unsaid_back c.in-Err.why c.unopened.result stop.ShelfFault c.unopened.ensures (err_one is))) c.in-Err.ensures.shelf)
  where
    err_one : {A B : Type 0} {x y : B} → ◌≡◌ {A = Result A B} (Err x) (Err y) → x ≡ y
    err_one e = (cc)

pub returns-in-Err-clause-keeper : goal.returns-in-Err-clause-keeper
returns-in-Err-clause-keeper g c =
    let files = g.H.Shelf.files c.args.shelf.now in
    let facts = text_of c.args.facts in
    let told = g.K.Keeper.told c.open_desk.new.keeper in
    let answers = unopened_answers files facts told c.in-Err.why c.unopened.result c.in-Err.ensures.unopened c.unopened.ensures in
    keeper_ended_alone c.unopened.result (spoken_uttered c.unopened.result (unopened_speaks c.a_run_begins_or_not.ensures.spoken files facts told c.unopened.result answers)) _ _ c.conclude.result c.conclude.ensures.ends
    _ _ _ (λ is hidden. tt)
    (counts_for _ _ _ _ _ _ (λ is. ap Err (unsaid_keeper c.in-Err.why c.unopened.result c.unopened.ensures is))
    (λ none is. none (keeper_back c.in-Err.why c.unopened.result c.unopened.ensures (err_one is))) c.in-Err.ensures.keeper.counts)
  where
    err_one : {A B : Type 0} {x y : B} → ◌≡◌ {A = Result A B} (Err x) (Err y) → x ≡ y
    err_one e = (cc)

pub returns-in-Ok-clause-ends : goal.returns-in-Ok-clause-ends
returns-in-Ok-clause-ends g c times =
    let opened = c.in-Ok.ensures.opened in (
      g.K.Keeper.told c.open_desk.new.keeper,
      record { same = c.in-Ok.ensures.keeper.same; telling = c.over_desk-ended.ensures.keeps.0 },
      inl (record {
        opening = opened.opening;
        is_opening = opened.is_opening;
        ends = subst (λ n. SessionEnds (kept_by (g.K.Keeper.told c.over_desk-ended.new.keeper) n (g.K.Keeper.faults c.over_desk-ended.new.keeper)) opened.opening begun (g.S.Source.left c.args.input.now) (g.S.Source.left c.over_desk-ended.new.input) (g.W.Sink.written c.args.output.now) (g.W.Sink.written c.over_desk-ended.new.output) c.over_desk-ended.result)
            (c.in-Ok.ensures.keeper.counts.steady (ok_is_not_err c.in-Ok.desk unopened.KeeperFault)) (c.over_desk-ended.ensures.ends opened.opening opened.stands);
      }),
    )

pub returns-in-Ok-clause-own : goal.returns-in-Ok-clause-own
returns-in-Ok-clause-own g c =
    session_own _ c.in-Ok.ensures.opened.opening begun _ _ _ _ c.over_desk-ended.result (c.over_desk-ended.ensures.ends c.in-Ok.ensures.opened.opening c.in-Ok.ensures.opened.stands)

pub returns-in-Ok-clause-shelf : goal.returns-in-Ok-clause-shelf
returns-in-Ok-clause-shelf g c =
    shelf_kept _ _ _ _ _ _ _ _ (ok_is_not_err c.in-Ok.desk (unopened.Stop stop.ShelfFault))
    (opened_not_shelf _ c.in-Ok.ensures.opened.opening begun _ _ _ _ c.over_desk-ended.result (c.over_desk-ended.ensures.ends c.in-Ok.ensures.opened.opening c.in-Ok.ensures.opened.stands)) c.in-Ok.ensures.shelf

pub returns-in-Ok-clause-keeper : goal.returns-in-Ok-clause-keeper
returns-in-Ok-clause-keeper g c = record {
  later = subst (λ n. n ≤ g.K.Keeper.faults c.over_desk-ended.new.keeper) (c.in-Ok.ensures.keeper.counts.steady (ok_is_not_err c.in-Ok.desk unopened.KeeperFault)) c.over_desk-ended.ensures.keeps.1;
  cause = λ is. absurd (opened_not_keeper _ c.in-Ok.ensures.opened.opening begun _ _ _ _ c.over_desk-ended.result (c.over_desk-ended.ensures.ends c.in-Ok.ensures.opened.opening c.in-Ok.ensures.opened.stands) is);
  steady = λ none. absurd (none tt);
}
