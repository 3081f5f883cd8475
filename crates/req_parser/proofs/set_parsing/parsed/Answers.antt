use Rattle.std.proofs.Common.{MatchResult, List, subst}
use Rattle.req_tokens.specs.declared.terminal.Terminal.{Terminal}
use Rattle.req_tokens.specs.Terminals.{plains}
use Rattle.req_parser.specs.SetFailures.{FailsSetTerminals, IsSetList}
use Rattle.req_parser.proofs.SetJudged.{set_parsed}
use Rattle.req_parser.proofs.set_parsing.parsed.Goals as goal

pub returns-in-Ok : goal.returns-in-Ok
returns-in-Ok c =
    set_parsed c.args.text.now (plains c.in-Ok.list.items) c.set_of.result c.in-Ok.ensures.found
    (subst (λ (l : List Terminal). MatchResult c.set_of.result (λ set. IsSetList (plains l) set) (FailsSetTerminals (plains l))) c.as_slice.ensures.value c.set_of.ensures)
