-- What keeps a command from saying anything. This project's own.
use Rattle.gk_io.specs.declared.shelf.ShelfFault as shelf
use Rattle.gk_io.specs.declared.shelf.ShelfFault.TheVariants as shelf_fault
use Rattle.run_status.specs.declared.stop.Stop.{Stop}
use Rattle.run_status.specs.declared.stop.Stop.TheVariants.{ShelfFault, OutOfMemory}

-- a shelf's fault
abbrev pub stop_of : shelf.ShelfFault → Stop
stop_of shelf_fault.Failed = ShelfFault
stop_of shelf_fault.OutOfMemory = OutOfMemory
