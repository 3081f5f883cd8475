-- A front of 8,193 bytes is the whole line, or too long as the line is.
use Rattle.session_model.proofs.FrontOfALine.{lined-front}
use Rattle.session_model.proofs.laws.the_front_asks_the_same.Goals as goal

pub returns : goal.returns
returns c = lined-front
