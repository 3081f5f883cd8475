use Rattle.std.proofs.Common.{[], refl}
use Rattle.req_grammar.proofs.TokenPlaces.{kind_fits, all_placed}
use Rattle.req_grammar.proofs.laws.tokens_have_terminals_of_their_kind.Goals as goal

pub returns-clause-one : goal.returns-clause-one
returns-clause-one c = kind_fits

pub returns-clause-all : goal.returns-clause-all
returns-clause-all c = λ text tokens h. all_placed text [] text 0 tokens refl refl h
