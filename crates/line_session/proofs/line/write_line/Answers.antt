use Rattle.std.proofs.Common.{◌∙◌}
use Rattle.line_session.proofs.ToldBytes.{put_then_flushed}
use Rattle.line_session.proofs.line.write_line.Goals as goal

pub returns-clause-bytes : goal.returns-clause-bytes
returns-clause-bytes g c =
    put_then_flushed c.flush.result _ _ _ _ _ (c.as_slice.ensures.bytes ∙ c.push.ensures.text) c.in_ok-put.ensures.bytes c.flush.ensures.bytes
