use Rattle.std.proofs.Common.{◌≡◌, drop, map}
use Rattle.gk_io.specs.Memory.{as_file}
use Rattle.gk_io.specs.Shelf.{file_named}
use Rattle.gk_io.proofs.memory_shelf.bytes_of.Given as goal

abbrev pub invariant-loop-file : goal.invariant-loop-file
invariant-loop-file l = file_named (map as_file l.files) l.name ≡ file_named (map as_file (drop l.file-index l.files)) l.name
