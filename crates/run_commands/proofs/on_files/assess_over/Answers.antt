use Rattle.std.proofs.Common.{[]}
use Rattle.file_assessment.specs.Assessing.{SaysAssess}
use Rattle.command_words.specs.Views.{text_of}
use Rattle.rule_values.specs.Kind.{kind_of}
use Rattle.run_status.specs.declared.stop.Stop.TheVariants as stop
use Rattle.run_commands.proofs.Devices.{shelf_halted, clock_halted, halted_stop, halted_not_keeper}
use Rattle.run_commands.proofs.Over.{halted_ok, halted_spoken}
use Rattle.run_commands.proofs.on_files.assess_over.Goals as goal

pub returns-clause-says : goal.returns-clause-says
returns-clause-says g c o stands =
    halted_ok (λ said. SaysAssess o [] (g.H.Shelf.files c.args.shelf.now) (g.C.Clock.moments c.args.clock.now) (kind_of c.args.kind) c.args.name.now (text_of c.args.code) said.status said.text)
    c.assess-said.result c.halted.result c.halted.ensures (c.assess-said.ensures.says o [] stands)

pub returns-clause-spoken : goal.returns-clause-spoken
returns-clause-spoken g c = halted_spoken c.assess-said.result c.halted.result c.assess-said.ensures.spoken c.halted.ensures

pub returns-clause-reached : goal.returns-clause-reached
returns-clause-reached g c is = c.assess-said.ensures.reached (halted_stop c.assess-said.result c.halted.result stop.ClockFault c.halted.ensures is)

pub returns-clause-no_keeper : goal.returns-clause-no_keeper
returns-clause-no_keeper g c = halted_not_keeper c.assess-said.result c.halted.result c.halted.ensures

pub returns-clause-shelf : goal.returns-clause-shelf
returns-clause-shelf g c = shelf_halted c.assess-said.result c.halted.result c.halted.ensures stop.ShelfFault _ _ _ _ c.assess-said.ensures.shelf

pub returns-clause-clock : goal.returns-clause-clock
returns-clause-clock g c = clock_halted c.assess-said.result c.halted.result c.halted.ensures stop.ClockFault _ _ _ _ c.assess-said.ensures.clock
