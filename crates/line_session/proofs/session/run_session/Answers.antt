use Rattle.std.proofs.Common.{[], refl}
use Rattle.line_session.proofs.Devices.{sink_unasked, source_kept}
use Rattle.line_session.proofs.SessionEnds.{is_answered, stops_at_once, too_long, read_within}
use Rattle.line_session.proofs.session.run_session.Goals as goal

pub returns-in-Err-clause-ends : goal.returns-in-Err-clause-ends
returns-in-Err-clause-ends g c = stops_at_once g.R.Responder.takes_memory _ _ _ c.requires.answered

pub returns-in-Ok-clause-within : goal.returns-in-Ok-clause-within
returns-in-Ok-clause-within g c = λ bytes told within is. too_long c.limits_are_passed_once.ensures.apart c.limits_are_passed_once.ensures.onward _ _ _ _ _ bytes told (rw is at c.all_lines.ensures.ends) within

pub returns-in-Ok-clause-past : goal.returns-in-Ok-clause-past
returns-in-Ok-clause-past g c = λ bytes told past is. read_within c.limits_are_passed_once.ensures.apart _ _ _ _ _ bytes told (rw is at c.all_lines.ensures.ends) past

pub returns-in-Ok-clause-answered : goal.returns-in-Ok-clause-answered
returns-in-Ok-clause-answered g c = is_answered g.R.Responder.takes_memory _ _ _ _ _ _ c.all_lines.ensures.ends

pub returns-in-Err-clause-answered : goal.returns-in-Err-clause-answered
returns-in-Err-clause-answered g c = ([], [], c.requires.answered)

pub returns-in-Err-clause-input : goal.returns-in-Err-clause-input
returns-in-Err-clause-input g c = source_kept _ _ _ _ _ _ (λ is. cc) refl refl

pub returns-in-Err-clause-output : goal.returns-in-Err-clause-output
returns-in-Err-clause-output g c = sink_unasked _ _ _ _ _ (λ is. cc)
