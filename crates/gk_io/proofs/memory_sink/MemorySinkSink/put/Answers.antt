use Rattle.std.proofs.Common.{drop, sym}
use Rattle.std.proofs.lemmas.List.{take-append-drop}
use Rattle.gk_io.proofs.memory_sink.MemorySinkSink.put.Goals as goal

pub returns-clause-front : goal.returns-clause-front
returns-clause-front c =
    let flushed = c.args.self.now.flushed in
    let bytes = c.extend_from_slice.new.self.items in
    λ front. (drop flushed bytes, sym (take-append-drop flushed bytes))
