-- Each command on files stops as its work does.
use Rattle.std.proofs.Common.{◌≡◌, Err, refl, sym, ap, subst}
use Rattle.command_words.specs.Table as table
use Rattle.command_words.specs.Views.{file_view, text_of}
use Rattle.rule_values.specs.Kind.{kind_of}
use Rattle.run_status.specs.declared.stop.Stop.TheVariants as stop
use Rattle.run_commands.specs.Answers.{FilesAnswer, LeavesAlone}
use Rattle.run_commands.proofs.Devices.{shelf_halted, still_load, still_clock, halted_not_clock, halted_not_keeper}
use Rattle.run_commands.proofs.Over.{of_shelf, files_answer, halted_spoken}
use Rattle.run_commands.proofs.on_files.said_of_files.Goals as goal

pub returns-in-Compile-clause-answers : goal.returns-in-Compile-clause-answers
returns-in-Compile-clause-answers g c =
    subst (λ command. FilesAnswer (g.H.Shelf.files c.args.shelf.now) (g.C.Clock.moments c.args.clock.now) (g.K.Keeper.told c.args.keeper.now) (text_of c.args.facts) command c.halted.result) (sym (ap file_view c.in-Compile.is))
    (files_answer (g.H.Shelf.files c.args.shelf.now) (g.C.Clock.moments c.args.clock.now) (g.K.Keeper.told c.args.keeper.now) (text_of c.args.facts) (table.compile c.in-Compile.name.now) c.compile.result c.halted.result
    c.compile.ensures.says (of_shelf c.compile.result c.compile.ensures.unasked) c.halted.ensures)

pub returns-in-Compile-clause-spoken : goal.returns-in-Compile-clause-spoken
returns-in-Compile-clause-spoken g c = halted_spoken c.compile.result c.halted.result c.compile.ensures.spoken c.halted.ensures

pub returns-in-Compile-clause-leaves : goal.returns-in-Compile-clause-leaves
returns-in-Compile-clause-leaves g c =
    subst (λ command. LeavesAlone command (g.K.Keeper.told c.args.keeper.now) (g.K.Keeper.told c.args.keeper.now) (g.C.Clock.moments c.args.clock.now) (g.C.Clock.moments c.args.clock.now)) (sym (ap file_view c.in-Compile.is)) (refl, refl)

pub returns-in-Compile-clause-shelf : goal.returns-in-Compile-clause-shelf
returns-in-Compile-clause-shelf g c = shelf_halted c.compile.result c.halted.result c.halted.ensures stop.ShelfFault _ _ _ _ c.compile.ensures.shelf

pub returns-in-Compile-clause-keeper : goal.returns-in-Compile-clause-keeper
returns-in-Compile-clause-keeper g c = still_load _ _ _ _ (halted_not_keeper c.compile.result c.halted.result c.halted.ensures)

pub returns-in-Compile-clause-clock : goal.returns-in-Compile-clause-clock
returns-in-Compile-clause-clock g c = still_clock _ _ _ _ (halted_not_clock c.compile.result c.halted.result c.halted.ensures c.compile.ensures.unasked)

pub returns-in-CompileSet-clause-answers : goal.returns-in-CompileSet-clause-answers
returns-in-CompileSet-clause-answers g c =
    subst (λ command. FilesAnswer (g.H.Shelf.files c.args.shelf.now) (g.C.Clock.moments c.args.clock.now) (g.K.Keeper.told c.args.keeper.now) (text_of c.args.facts) command c.halted-in-CompileSet.result) (sym (ap file_view c.in-CompileSet.is))
    (files_answer (g.H.Shelf.files c.args.shelf.now) (g.C.Clock.moments c.args.clock.now) (g.K.Keeper.told c.args.keeper.now) (text_of c.args.facts) (table.compile_set c.in-CompileSet.name.now) c.compile_set.result c.halted-in-CompileSet.result
    c.compile_set.ensures.says (of_shelf c.compile_set.result c.compile_set.ensures.unasked) c.halted-in-CompileSet.ensures)

pub returns-in-CompileSet-clause-spoken : goal.returns-in-CompileSet-clause-spoken
returns-in-CompileSet-clause-spoken g c = halted_spoken c.compile_set.result c.halted-in-CompileSet.result c.compile_set.ensures.spoken c.halted-in-CompileSet.ensures

pub returns-in-CompileSet-clause-leaves : goal.returns-in-CompileSet-clause-leaves
returns-in-CompileSet-clause-leaves g c =
    subst (λ command. LeavesAlone command (g.K.Keeper.told c.args.keeper.now) (g.K.Keeper.told c.args.keeper.now) (g.C.Clock.moments c.args.clock.now) (g.C.Clock.moments c.args.clock.now)) (sym (ap file_view c.in-CompileSet.is)) (refl, refl)

pub returns-in-CompileSet-clause-shelf : goal.returns-in-CompileSet-clause-shelf
returns-in-CompileSet-clause-shelf g c = shelf_halted c.compile_set.result c.halted-in-CompileSet.result c.halted-in-CompileSet.ensures stop.ShelfFault _ _ _ _ c.compile_set.ensures.shelf

pub returns-in-CompileSet-clause-keeper : goal.returns-in-CompileSet-clause-keeper
returns-in-CompileSet-clause-keeper g c = still_load _ _ _ _ (halted_not_keeper c.compile_set.result c.halted-in-CompileSet.result c.halted-in-CompileSet.ensures)

pub returns-in-CompileSet-clause-clock : goal.returns-in-CompileSet-clause-clock
returns-in-CompileSet-clause-clock g c = still_clock _ _ _ _ (halted_not_clock c.compile_set.result c.halted-in-CompileSet.result c.halted-in-CompileSet.ensures c.compile_set.ensures.unasked)

pub returns-in-Dump-clause-answers : goal.returns-in-Dump-clause-answers
returns-in-Dump-clause-answers g c =
    subst (λ command. FilesAnswer (g.H.Shelf.files c.args.shelf.now) (g.C.Clock.moments c.args.clock.now) (g.K.Keeper.told c.args.keeper.now) (text_of c.args.facts) command c.halted-in-Dump.result) (sym (ap file_view c.in-Dump.is))
    (files_answer (g.H.Shelf.files c.args.shelf.now) (g.C.Clock.moments c.args.clock.now) (g.K.Keeper.told c.args.keeper.now) (text_of c.args.facts) (table.dump c.in-Dump.name.now) c.dump_file.result c.halted-in-Dump.result
    c.dump_file.ensures.says (of_shelf c.dump_file.result c.dump_file.ensures.unasked) c.halted-in-Dump.ensures)

pub returns-in-Dump-clause-spoken : goal.returns-in-Dump-clause-spoken
returns-in-Dump-clause-spoken g c = halted_spoken c.dump_file.result c.halted-in-Dump.result c.dump_file.ensures.spoken c.halted-in-Dump.ensures

pub returns-in-Dump-clause-leaves : goal.returns-in-Dump-clause-leaves
returns-in-Dump-clause-leaves g c =
    subst (λ command. LeavesAlone command (g.K.Keeper.told c.args.keeper.now) (g.K.Keeper.told c.args.keeper.now) (g.C.Clock.moments c.args.clock.now) (g.C.Clock.moments c.args.clock.now)) (sym (ap file_view c.in-Dump.is)) (refl, refl)

pub returns-in-Dump-clause-shelf : goal.returns-in-Dump-clause-shelf
returns-in-Dump-clause-shelf g c = shelf_halted c.dump_file.result c.halted-in-Dump.result c.halted-in-Dump.ensures stop.ShelfFault _ _ _ _ c.dump_file.ensures.shelf

pub returns-in-Dump-clause-keeper : goal.returns-in-Dump-clause-keeper
returns-in-Dump-clause-keeper g c = still_load _ _ _ _ (halted_not_keeper c.dump_file.result c.halted-in-Dump.result c.halted-in-Dump.ensures)

pub returns-in-Dump-clause-clock : goal.returns-in-Dump-clause-clock
returns-in-Dump-clause-clock g c = still_clock _ _ _ _ (halted_not_clock c.dump_file.result c.halted-in-Dump.result c.halted-in-Dump.ensures c.dump_file.ensures.unasked)

pub returns-in-Assess-clause-answers : goal.returns-in-Assess-clause-answers
returns-in-Assess-clause-answers g c =
    subst (λ command. FilesAnswer (g.H.Shelf.files c.args.shelf.now) (g.C.Clock.moments c.args.clock.now) (g.K.Keeper.told c.assess_opened.new.keeper) (text_of c.args.facts) command c.assess_opened.result) (sym (ap file_view c.in-Assess.is)) c.assess_opened.ensures.answers

pub returns-in-Assess-clause-leaves : goal.returns-in-Assess-clause-leaves
returns-in-Assess-clause-leaves g c =
    subst (λ command. LeavesAlone command (g.K.Keeper.told c.args.keeper.now) (g.K.Keeper.told c.assess_opened.new.keeper) (g.C.Clock.moments c.args.clock.now) (g.C.Clock.moments c.assess_opened.new.clock)) (sym (ap file_view c.in-Assess.is)) tt
