use Rattle.std.proofs.Common.{ap, sym, ◌∙◌}
use Rattle.req_grammar.specs.Sorts.{sort_of}
use Rattle.req_tokens.proofs.Fronts.{is_empty}
use Rattle.req_tokens.proofs.FirstBytes.{sort_of-nil}
use Rattle.req_tokens.proofs.sort.sort_of.Goals as goal

pub returns-in-None : goal.returns-in-None
returns-in-None c = sym (ap sort_of (is_empty c.args.text.now c.in-None.ensures.cases) ∙ sort_of-nil)
