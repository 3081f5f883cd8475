use Rattle.std.proofs.Common.{ap, take, ◌∙◌}
use Rattle.req_grammar.specs.Terminals.{hash}
use Rattle.req_tokens.proofs.DigitBytes.{bytes_of_hash, some_hash}
use Rattle.req_tokens.proofs.terminal.hash_terminal.Goals as goal

pub returns-in-Some : goal.returns-in-Some
returns-in-Some c = ap hash (bytes_of_hash c.args.text.now c.first.result.now c.in-Some.hash.bytes c.requires (c.first.ensures ∙ ap (take 40) c.behind.ensures) c.in-Some.ensures)

pub returns-in-None : goal.returns-in-None
returns-in-None c = absurd (some_hash c.args.text.now c.first.result.now c.requires (c.first.ensures ∙ ap (take 40) c.behind.ensures) c.in-None.ensures)
