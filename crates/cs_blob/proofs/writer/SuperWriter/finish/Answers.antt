use Rattle.std.proofs.Common.{subst}
use Rattle.cs_blob.specs.Writing.{Draft, Holds}
use Rattle.cs_blob.specs.SuperBlobs.{IsSuperBlob}
use Rattle.cs_blob.proofs.ReadBack.{reads_back_as}
use Rattle.cs_blob.proofs.writer.SuperWriter.finish.Goals as goal

pub returns-in-Ok-clause-reads : goal.returns-in-Ok-clause-reads
returns-in-Ok-clause-reads c =
    subst (λ (d : Draft). IsSuperBlob d.magic c.in-Ok.bytes × Holds d.parts c.in-Ok.bytes) c.self.view_is
    (reads_back_as (record { magic = c.self.inside.magic; parts = c.self.inside.parts.items }) c.in-Ok.bytes c.self.invariant.0 c.self.invariant.2 c.in-Ok.ensures)
