use Rattle.spctl_cli.proofs.Written.{put_then_flushed}
use Rattle.spctl_cli.proofs.last_line.write_out.Goals as goal

pub returns-clause-bytes : goal.returns-clause-bytes
returns-clause-bytes g c = put_then_flushed c.flush.result _ _ _ c.args.text.now c.in_ok-put.ensures.bytes c.flush.ensures.bytes
