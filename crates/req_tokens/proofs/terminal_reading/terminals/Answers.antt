use Rattle.std.proofs.Common.{◌≤◌, length}
use Rattle.req_tokens.specs.Terminals.{plains}
use Rattle.req_tokens.proofs.Only.{only_terminals}
use Rattle.req_tokens.proofs.terminal_reading.terminals.Goals as goal

pub returns-clause-only : goal.returns-clause-only
returns-clause-only c =
    only_terminals (λ list. plains list.items) (λ list. length list.items ≤ length c.args.text.now) c.texts_have_one_token_list.ensures c.texts_have_one_first_fault.ensures.none c.args.text.now
    c.cut_terminals.result c.cut_terminals.ensures
