use Rattle.std.proofs.Common.{[], ◌≡◌, Result, Err, IfOk, sym, subst, ap}
use Rattle.rule_values.specs.Kind.{kind_of}
use Rattle.file_assessment.specs.Assessing.{SaysAssess, HasFiles}
use Rattle.command_words.specs.Views.{text_of}
use Rattle.run_status.specs.declared.stop.Stop.TheVariants as stop
use Rattle.desk_opening.specs.declared.unopened.Unopened.TheVariants as unopened
use Rattle.run_commands.proofs.Devices.{shelf_then, shelf_for, load_for, load_then, still_clock, unsaid_stop, unsaid_keeper, unsaid_back, keeper_back, unsaid_not_clock, err_one, ok_is_not_err}
use Rattle.run_commands.proofs.Over.{assess_says, assess_over, assess_unopened, unopened_spoken}
use Rattle.run_commands.proofs.on_files.assess_opened.Goals as goal

pub returns-in-Ok-clause-answers : goal.returns-in-Ok-clause-answers
returns-in-Ok-clause-answers g c =
    let opened = c.in-Ok.ensures.opened in
    let files = g.H.Shelf.files c.args.shelf.now in
    let moments = g.C.Clock.moments c.args.clock.now in
    let rows = g.K.Keeper.told c.open_desk.new.keeper in
    let facts = text_of c.args.facts in
    let kind = kind_of c.args.kind in
    let name = c.args.name.now in
    let code = text_of c.args.code in
    assess_over files moments rows facts kind name code opened.opening c.assess_over.result opened.is_opening
    (assess_says files facts rows (λ o. SaysAssess o [] files moments kind name code) opened.opening c.assess_over.result opened.is_opening
    (subst (λ shelf. IfOk c.assess_over.result (λ said. SaysAssess opened.opening [] shelf moments kind name code said.status said.text)) c.in-Ok.ensures.shelf.kept (c.assess_over.ensures.says opened.opening opened.stands)))
    (λ is. subst (λ shelf. HasFiles shelf name code) c.in-Ok.ensures.shelf.kept (c.assess_over.ensures.reached is)) c.assess_over.ensures.no_keeper

pub returns-in-Err-clause-answers : goal.returns-in-Err-clause-answers
returns-in-Err-clause-answers g c =
    assess_unopened (g.H.Shelf.files c.args.shelf.now) (g.C.Clock.moments c.args.clock.now) (g.K.Keeper.told c.open_desk.new.keeper) (text_of c.args.facts) (kind_of c.args.kind) c.args.name.now (text_of c.args.code) c.in-Err.why c.unopened.result c.in-Err.ensures.unopened c.unopened.ensures

pub returns-in-Err-clause-spoken : goal.returns-in-Err-clause-spoken
returns-in-Err-clause-spoken g c =
    unopened_spoken (g.H.Shelf.files c.args.shelf.now) (text_of c.args.facts) (g.K.Keeper.told c.open_desk.new.keeper) c.a_run_begins_or_not.ensures.spoken c.in-Err.why c.unopened.result c.in-Err.ensures.unopened c.unopened.ensures

pub returns-in-Ok-clause-shelf : goal.returns-in-Ok-clause-shelf
returns-in-Ok-clause-shelf g c = shelf_then _ _ _ _ _ _ _ _ _ _ (ok_is_not_err c.in-Ok.desk (unopened.Stop stop.ShelfFault)) c.in-Ok.ensures.shelf c.assess_over.ensures.shelf

pub returns-in-Err-clause-shelf : goal.returns-in-Err-clause-shelf
returns-in-Err-clause-shelf g c =
    shelf_for _ _ _ _ _ _ _ _ (λ is. ap Err (unsaid_stop c.in-Err.why c.unopened.result stop.ShelfFault c.unopened.ensures is))
    (λ none is. none (unsaid_back c.in-Err.why c.unopened.result stop.ShelfFault c.unopened.ensures (err_one is))) c.in-Err.ensures.shelf

pub returns-in-Ok-clause-keeper : goal.returns-in-Ok-clause-keeper
returns-in-Ok-clause-keeper g c = load_then _ _ _ _ _ _ _ _ (ok_is_not_err c.in-Ok.desk unopened.KeeperFault) c.assess_over.ensures.no_keeper c.in-Ok.ensures.keeper

pub returns-in-Err-clause-keeper : goal.returns-in-Err-clause-keeper
returns-in-Err-clause-keeper g c =
    load_for _ _ _ _ _ _ _ _ (λ is. ap Err (unsaid_keeper c.in-Err.why c.unopened.result c.unopened.ensures is))
    (λ none is. none (keeper_back c.in-Err.why c.unopened.result c.unopened.ensures (err_one is))) c.in-Err.ensures.keeper

pub returns-in-Err-clause-clock : goal.returns-in-Err-clause-clock
returns-in-Err-clause-clock g c =
    still_clock _ _ _ _ (unsaid_not_clock (g.H.Shelf.files c.args.shelf.now) (text_of c.args.facts) (g.K.Keeper.told c.open_desk.new.keeper) c.in-Err.why c.unopened.result c.in-Err.ensures.unopened c.unopened.ensures)
