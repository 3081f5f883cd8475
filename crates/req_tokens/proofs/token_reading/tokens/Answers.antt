use Rattle.req_tokens.specs.Tokens.{tokens_of}
use Rattle.req_tokens.proofs.Only.{only_tokens}
use Rattle.req_tokens.proofs.token_reading.tokens.Goals as goal

pub returns-clause-only : goal.returns-clause-only
returns-clause-only c = only_tokens tokens_of c.texts_have_one_token_list.ensures c.texts_have_one_first_fault.ensures.none c.args.text.now c.cut_all.result c.cut_all.ensures
