use Rattle.http_model.proofs.OneStream.{one_stream, refusals_stay}
use Rattle.http_model.proofs.laws.a_stream_has_one_end.Goals as goal

pub returns-clause-one : goal.returns-clause-one
returns-clause-one c = one_stream

pub returns-clause-stay : goal.returns-clause-stay
returns-clause-stay c = refusals_stay
