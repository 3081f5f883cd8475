use Rattle.std.proofs.Common.{◌∙◌}
use Rattle.req_tokens.proofs.DigitBytes.{bytes_of_hex}
use Rattle.req_tokens.proofs.string.hex_value.Goals as goal

pub returns-in-Ok : goal.returns-in-Ok
returns-in-Ok c = c.from_vec.ensures ∙ bytes_of_hex c.args.text.now c.behind.result.now c.in-Ok.bytes.items c.requires c.behind.ensures c.in-Ok.ensures.ok
