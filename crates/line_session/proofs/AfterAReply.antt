-- What a reply leaves to the session: whether it goes on, and what became of the devices.
use Rattle.std.proofs.Common.{◌≡◌, ◌≢◌, ℕ, List, Option, None, Some, IfNone, refl}
use Rattle.gk_io.specs.Devices.{PassesSink}
use Rattle.line_session.proofs.Devices.{sink_as}
use Rattle.line_session.specs.Going.{end_after}
use Rattle.line_session.specs.declared.ended.Ended.{Ended}
use Rattle.line_session.specs.declared.ended.Ended.TheVariants.{Fine, ReadFault, WriteFault}
use Rattle.line_session.specs.declared.reply.Reply.{Reply}
use Rattle.line_session.specs.declared.reply.Reply.TheVariants.{Whole, Broken, Unanswered}

-- a fact that holds anyway
pub anyway : (P : Type 0) (end : Option Ended) → P → IfNone end P
anyway P None p = p
anyway P (Some end) p = tt

-- after a last line the session ends
pub last_ends : (P : Type 0) (reply : Reply) → IfNone (end_after reply (Some Fine)) P
last_ends P Whole = tt
last_ends P Broken = tt
last_ends P Unanswered = tt

-- a reply isn't the source's failure
pub still_read : (reply : Reply) (whole end : Option Ended) → end ≡ end_after reply whole → whole ≢ Some ReadFault → end ≡ Some ReadFault → ⊥
still_read Whole whole end is never fault = never (cc)
still_read Broken whole end is never fault = cc
still_read Unanswered whole end is never fault = cc

-- the sink failed where the reply is broken
breaks : (reply : Reply) (whole end : Option Ended) → end ≡ end_after reply whole → whole ≢ Some WriteFault → end ≡ Some WriteFault → reply ≡ Broken
breaks Whole whole end is never fault = absurd (never (cc))
breaks Broken whole end is never fault = refl
breaks Unanswered whole end is never fault = cc

broken : (reply : Reply) (whole end : Option Ended) → end ≡ end_after reply whole → reply ≡ Broken → end ≡ Some WriteFault
broken Whole whole end is b = cc
broken Broken whole end is b = is
broken Unanswered whole end is b = cc

pub sink_after : (reply : Reply) (whole end : Option Ended) (written sent flushed flushes : Option (List ℕ)) (before counted : ℕ) → end ≡ end_after reply whole → whole ≢ Some WriteFault
    → PassesSink (reply ≡ Broken) (reply ≡ Broken) written sent flushed flushes before counted
    → PassesSink (end ≡ Some WriteFault) (end ≡ Some WriteFault) written sent flushed flushes before counted
sink_after reply whole end written sent flushed flushes before counted is never p =
    sink_as (reply ≡ Broken) (reply ≡ Broken) (end ≡ Some WriteFault) (end ≡ Some WriteFault) written sent flushed flushes before counted
    (breaks reply whole end is never) (broken reply whole end is) p
