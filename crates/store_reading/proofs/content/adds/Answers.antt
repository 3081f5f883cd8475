use Rattle.store_reading.proofs.Texts.{is_add}
use Rattle.store_reading.proofs.content.adds.Goals as goal

pub returns : goal.returns
returns c = is_add c.args.text.now c.starts_with.result c.starts_with.ensures.value c.requires.0 c.requires.1
