use Rattle.req_primary.proofs.PlainReadings.{plain_one, expr_stands}
use Rattle.req_primary.proofs.laws.plain_readings_stand_for_readings.Goals as goal

pub returns : goal.returns
returns c = record { plain = plain_one; stands = expr_stands }
