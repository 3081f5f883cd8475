use Rattle.req_blob.proofs.Lengths.{word-low}
use Rattle.req_blob.proofs.writing.put_length.Goals as goal

pub returns : goal.returns
returns c = rw (← word-low c.args.length) c.put_word.ensures
