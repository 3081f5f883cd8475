-- What the forms in memory hold. This project's own.
use Rattle.std.specs.Prelude.{ℕ, List, take, drop, map, string_bytes}
use Rattle.gk_io.specs.Shelf.{File}
use Rattle.gk_io.specs.declared.memory_source.MemorySource.{MemorySource}
use Rattle.gk_io.specs.declared.memory_sink.MemorySink.{MemorySink}
use Rattle.gk_io.specs.declared.memory_shelf.MemoryFile.{MemoryFile}
use Rattle.gk_io.specs.declared.memory_shelf.MemoryShelf.{MemoryShelf}
use Rattle.gk_io.specs.declared.memory_clock.MemoryClock.{MemoryClock}

-- the bytes that are left
abbrev pub source_left : MemorySource → List ℕ
source_left s = drop s.next s.bytes.items

-- the numbers of the calls that fail
abbrev pub source_failing : MemorySource → List ℕ
source_failing s = s.failing

-- how many calls there were
abbrev pub source_calls : MemorySource → ℕ
source_calls s = s.calls

-- how many calls failed
abbrev pub source_faults : MemorySource → ℕ
source_faults s = s.faults

-- the bytes that were written
abbrev pub sink_written : MemorySink → List ℕ
sink_written s = s.bytes.items

-- the bytes that were flushed
abbrev pub sink_flushed : MemorySink → List ℕ
sink_flushed s = take s.flushed s.bytes.items

-- how many bytes find room in all
abbrev pub sink_room : MemorySink → ℕ
sink_room s = s.room

-- the numbers of the calls that fail
abbrev pub sink_failing : MemorySink → List ℕ
sink_failing s = s.failing

-- how many calls there were
abbrev pub sink_calls : MemorySink → ℕ
sink_calls s = s.calls

-- how many calls failed
abbrev pub sink_faults : MemorySink → ℕ
sink_faults s = s.faults

-- a file in memory as one that is told
abbrev pub as_file : MemoryFile → File
as_file f = record { name = string_bytes f.name; bytes = f.bytes.items }

-- the files
abbrev pub shelf_files : MemoryShelf → List File
shelf_files s = map as_file s.files.items

-- the numbers of the calls that fail
abbrev pub shelf_failing : MemoryShelf → List ℕ
shelf_failing s = s.failing

-- how many calls there were
abbrev pub shelf_calls : MemoryShelf → ℕ
shelf_calls s = s.calls

-- how many calls failed
abbrev pub shelf_faults : MemoryShelf → ℕ
shelf_faults s = s.faults

-- the moments to come
abbrev pub clock_moments : MemoryClock → List ℕ
clock_moments c = drop c.next c.moments.items

-- the numbers of the calls that fail
abbrev pub clock_failing : MemoryClock → List ℕ
clock_failing c = c.failing

-- how many calls there were
abbrev pub clock_calls : MemoryClock → ℕ
clock_calls c = c.calls

-- how many calls failed
abbrev pub clock_faults : MemoryClock → ℕ
clock_faults c = c.faults
