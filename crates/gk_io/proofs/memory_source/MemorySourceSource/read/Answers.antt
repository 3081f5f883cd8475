use Rattle.gk_io.proofs.BytesMove.{before_and_behind, none_left}
use Rattle.gk_io.proofs.memory_source.MemorySourceSource.read.Goals as goal

pub returns-clause-bytes : goal.returns-clause-bytes
returns-clause-bytes c =
    let moved = c.copy_front-count.ensures in
    let same = c.as_slice.ensures.value in
    let s = c.args.self.now in
    let n = c.copy_front-count.result in
    (before_and_behind s.next n s.bytes.items _ (rw same at moved.front), none_left s.next n _ s.bytes.items (rw same at moved.count))
