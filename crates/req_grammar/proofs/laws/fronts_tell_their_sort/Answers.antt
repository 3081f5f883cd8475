use Rattle.req_grammar.proofs.Cuts.{sort_is}
use Rattle.req_grammar.proofs.laws.fronts_tell_their_sort.Goals as goal

pub returns : goal.returns
returns c = sort_is
