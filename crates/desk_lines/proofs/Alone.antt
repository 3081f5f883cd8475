-- How a session of a desk and its open assessments ended is how the desk's ended.
use Rattle.std.proofs.Common.{ℕ, List, Option}
use Rattle.line_session.specs.Ends.{EndsFine, StopsBefore, BreaksOff, AtReadFault, AtLimit, AtWant, IsEnd}
use Rattle.line_session.specs.declared.ended.Ended.{Ended}
use Rattle.line_session.specs.declared.ended.Ended.TheVariants.{Fine, ReadFault, WriteFault, TooLong, OutOfMemory}

-- of what was answered, something weaker is said
module _ (R S : List (List ℕ) → List (List ℕ) → Type 0) (weaker : (l r : List (List ℕ)) → R l r → S l r) (left now written sent : Option (List ℕ)) where
  fine_alone : EndsFine R left now written sent → EndsFine S left now written sent
  fine_alone e = record {
    bytes = e.bytes;
    replies = e.replies;
    taken = e.taken;
    at_end = e.at_end;
    within = e.within;
    put = e.put;
    answered = weaker _ _ e.answered;
  }

  stops_alone : (Why : List (List ℕ) → List ℕ → Type 0) → StopsBefore Why R left now written sent → StopsBefore Why S left now written sent
  stops_alone Why e = record {
    lines = e.lines;
    rest = e.rest;
    replies = e.replies;
    taken = e.taken;
    whole = e.whole;
    within = e.within;
    why = e.why;
    put = e.put;
    answered = weaker _ _ e.answered;
  }

  breaks_alone : BreaksOff R left now written sent → BreaksOff S left now written sent
  breaks_alone e = record {
    lines = e.lines;
    line = e.line;
    rest = e.rest;
    replies = e.replies;
    reply = e.reply;
    count = e.count;
    taken = e.taken;
    whole = e.whole;
    within = e.within;
    ended = e.ended;
    put = e.put;
    answered = weaker _ _ e.answered;
  }

  pub end_alone : (Takes : List ℕ → Type 0) (end : Ended) → IsEnd Takes R left now written sent end → IsEnd Takes S left now written sent end
  end_alone Takes Fine e = fine_alone e
  end_alone Takes ReadFault e = stops_alone AtReadFault e
  end_alone Takes WriteFault e = breaks_alone e
  end_alone Takes TooLong e = stops_alone AtLimit e
  end_alone Takes OutOfMemory e = stops_alone (AtWant Takes) e
