-- How a session ends, and what was read, answered and written by then.
use Rattle.std.proofs.Common.{◌≡◌, ◌≢◌, ℕ, All, length-append, zero, suc, ◌+◌, ◌<◌, ◌≤◌, ◌⊎◌, inl, inr, List, [], ◌∷◌, ◌++◌, Option, None, Some, length, take, refl, sym, ap, ◌∙◌, subst, append_assoc, append-nil, lit<, arith}
use Rattle.std.proofs.KnownBytes.{Appends-nil, Appends-trans, Consumes-nil, Consumes-trans}
use Rattle.std.specs.Io.KnownBytes.{Appends, Consumes, IsAtEnd, prepend_known}
use Rattle.line_reader.specs.Lines.{lines_of, text_of, with_lf, HasNoLf}
use Rattle.line_reader.specs.Limits.{IsWithin, RunsPast}
use Rattle.line_reader.specs.Reading.{Stream, IsLine, IsPart, IsSpent, pending, stream}
use Rattle.line_reader.specs.declared.reader.LineReader.{LineReader}
use Rattle.line_reader.specs.Laws.{LinesAddUp}
use Rattle.line_reader.specs.declared.limits.TheConstants.{SESSION_BYTES, SESSION_LINES}
use Rattle.line_text.specs.declared.limits.TheConstants.{LINE_HELD}
use Rattle.line_session.specs.Ends.{EndsFine, StopsBefore, BreaksOff, AtReadFault, AtLimit, AtWant, IsEnd}
use Rattle.line_session.specs.Replies.{IsReplied}
use Rattle.line_session.specs.declared.reply.Reply.{Reply}
use Rattle.line_session.specs.declared.reply.Reply.TheVariants.{Whole, Broken, Unanswered}
use Rattle.line_session.specs.Going.{IsGoing, IsTurn, end_after}
use Rattle.line_session.specs.declared.ended.Ended.{Ended}
use Rattle.line_session.specs.declared.ended.Ended.TheVariants.{Fine, ReadFault, WriteFault, TooLong, OutOfMemory}
use Rattle.line_session.proofs.OneLineMore.{one_more, text_of-more, whole_more}
use Rattle.line_session.proofs.ToldBytes.{lost_behind, end_left, lost_at_end, put_kept}

-- the replies and a front of one more
broken_put : (first old new : Option (List ℕ)) (replies : List (List ℕ)) (reply : List ℕ) (count : ℕ) → Appends first old (text_of replies) → Appends old new (take count (with_lf reply))
    → Appends first new (text_of replies ++ take count (with_lf reply))
broken_put first old new replies reply count h k = Appends-trans first old new (text_of replies) (take count (with_lf reply)) h k

-- what is held of a line is some of it
some_held : (n : ℕ) (held bytes : List ℕ) → held ≡ take n bytes → held ≢ [] → 0 < length bytes
some_held zero held [] h some = absurd (some h)
some_held (suc n) held [] h some = absurd (some h)
some_held n held (byte ∷ bytes) h some = omega arith

-- and none only of none
none_held : (n : ℕ) (held bytes : List ℕ) → 0 < n → held ≡ take n bytes → held ≡ [] → bytes ≡ []
none_held n held [] lt h none = refl
none_held zero held (byte ∷ bytes) lt h none = absurd (omega arith)
none_held (suc n) held (byte ∷ bytes) lt h none = cc

-- so many whole lines are within the limits
whole_within : (laws : LinesAddUp) (lines : List (List ℕ)) → All HasNoLf lines → length lines ≤ SESSION_LINES → length (text_of lines) ≤ SESSION_BYTES → IsWithin (text_of lines)
whole_within laws lines whole most size =
    subst IsWithin (append-nil (text_of lines)) (laws.within lines [] whole (λ k d h. absurd (omega arith)) most (λ some. absurd (omega (arith, some))) (grind (arith, size)))

-- a session that couldn't begin
pub stops_at_once : (T : List ℕ → Type 0) (A : List (List ℕ) → List (List ℕ) → Type 0) (left first : Option (List ℕ)) → A [] [] → StopsBefore (AtWant T) A left left first first
stops_at_once T A left first a = record {
  lines = [];
  rest = [];
  replies = [];
  taken = Consumes-nil left;
  whole = λ k d h. absurd (omega arith);
  within = record { lines = omega arith; size = omega arith };
  why = inl (refl, refl);
  put = Appends-nil first;
  answered = a;
}

-- a line and its LF stand before the other lines
front_line : (laws : LinesAddUp) (line behind : List ℕ) → HasNoLf line → lines_of (line ++ 10 ∷ behind) ≡ line ∷ lines_of behind
front_line laws line behind no_lf =
    ap lines_of (sym (append_assoc line (10 ∷ []) behind) ∙ ap (λ (l : List ℕ). l ++ behind) (sym (append-nil (with_lf line)))) ∙ laws.first (line ∷ []) behind (whole_more [] line (λ k d h. absurd (omega arith)) no_lf)

-- however it ended, some lines were answered
pub is_answered : (T : List ℕ → Type 0) (A : List (List ℕ) → List (List ℕ) → Type 0) (start left first sent : Option (List ℕ)) (end : Ended) → IsEnd T A start left first sent end
    → (lines replies : List (List ℕ)) × A lines replies
is_answered T A start left first sent Fine e = (lines_of e.bytes, e.replies, e.answered)
is_answered T A start left first sent ReadFault e = (e.lines, e.replies, e.answered)
is_answered T A start left first sent WriteFault e = (e.lines ++ e.line ∷ [], e.replies ++ e.reply ∷ [], e.answered)
is_answered T A start left first sent TooLong e = (e.lines, e.replies, e.answered)
is_answered T A start left first sent OutOfMemory e = (e.lines, e.replies, e.answered)

-- bytes that run past the limits are no told session within them
pub too_long : (apart : (bytes : List ℕ) → IsWithin bytes → RunsPast bytes → ⊥) (onward : (bytes more : List ℕ) → RunsPast bytes → RunsPast (bytes ++ more)) (A : List (List ℕ) → List (List ℕ) → Type 0) (left now written sent : Option (List ℕ)) (bytes : List ℕ) → left ≡ Some bytes → StopsBefore AtLimit A left now written sent → IsWithin bytes → ⊥
too_long apart onward A None now written sent bytes told stops within = cc
too_long apart onward A (Some us) None written sent bytes told stops within = absurd stops.taken
too_long apart onward A (Some us) (Some vs) written sent bytes told stops within =
    let same : us ≡ bytes = cc in
    apart bytes within (subst RunsPast (sym stops.taken ∙ same) (onward (text_of stops.lines ++ stops.rest) vs stops.why.0))

-- a told session that was read to its end is within them
pub read_within : (apart : (bytes : List ℕ) → IsWithin bytes → RunsPast bytes → ⊥) (A : List (List ℕ) → List (List ℕ) → Type 0) (left now written sent : Option (List ℕ)) (bytes : List ℕ) → left ≡ Some bytes → EndsFine A left now written sent → RunsPast bytes → ⊥
read_within apart A None now written sent bytes told ends past = cc
read_within apart A (Some us) None written sent bytes told ends past = absurd ends.taken
read_within apart A (Some us) (Some vs) written sent bytes told ends past =
    let same : us ≡ bytes = cc in
    let all : ends.bytes ≡ bytes = sym (append-nil ends.bytes) ∙ ap (λ l. ends.bytes ++ l) (sym ends.at_end) ∙ sym ends.taken ∙ same in
    apart bytes (subst IsWithin all ends.within) past

module _ (laws : LinesAddUp) (T : List ℕ → Type 0) (A B : List (List ℕ) → List (List ℕ) → Type 0) (start left first old new : Option (List ℕ)) (s : Stream) (r : LineReader) (held : List ℕ) (going : IsGoing A start s first old) where
  -- a line and its LF were lost, and what is pending behind them
  line_lost : (line : IsLine s (stream r left) held) → Consumes start left (text_of going.lines ++ (line.bytes ++ 10 ∷ pending r))
  line_lost line =
      subst (Consumes start left)
      (append_assoc (text_of going.lines) (with_lf line.bytes) (pending r) ∙ ap (λ l. text_of going.lines ++ l) (append_assoc line.bytes (10 ∷ []) (pending r)))
      (lost_behind start left (text_of going.lines ++ with_lf line.bytes) (pending r)
      (Consumes-trans start s.unread (prepend_known (pending r) left) (text_of going.lines) (with_lf line.bytes) going.taken line.taken))

  -- a part of a line was lost, and what is pending behind it
  part_lost : (part : IsPart s (stream r left) held) → Consumes start left ((text_of going.lines ++ part.bytes) ++ pending r)
  part_lost part =
      lost_behind start left (text_of going.lines ++ part.bytes) (pending r)
      (Consumes-trans start s.unread (prepend_known (pending r) left) (text_of going.lines) part.bytes going.taken part.taken)

  -- a last line was lost
  last_lost : (part : IsPart s (stream r left) held) → IsAtEnd (prepend_known (pending r) left) → Consumes start left (text_of going.lines ++ part.bytes)
  last_lost part end =
      lost_at_end start left (text_of going.lines ++ part.bytes) (pending r)
      (Consumes-trans start s.unread (prepend_known (pending r) left) (text_of going.lines) part.bytes going.taken part.taken) end

  -- what was handed on is within the limits
  handed_within : (part : IsPart s (stream r left) held) → r.lines ≤ SESSION_LINES → r.bytes ≤ SESSION_BYTES → IsWithin (text_of going.lines ++ part.bytes)
  handed_within part most size =
      laws.within going.lines part.bytes going.whole part.no_lf (grind (arith, most, part.lines, going.number)) (λ some. grind (arith, part.begun some, going.number))
      (grind (arith, size, part.size, going.size))

  -- what was answered before is within the limits
  answered_within : s.lines ≤ SESSION_LINES → s.bytes ≤ SESSION_BYTES → IsWithin (text_of going.lines)
  answered_within most size = whole_within laws going.lines going.whole (grind (arith, most, going.number)) (grind (arith, size, going.size))

  -- so it is with a line and its LF
  line_within : (line : IsLine s (stream r left) held) → r.lines ≤ SESSION_LINES → r.bytes ≤ SESSION_BYTES → IsWithin (text_of going.lines ++ (line.bytes ++ 10 ∷ []))
  line_within line most size =
      subst IsWithin (text_of-more going.lines line.bytes)
      (whole_within laws (going.lines ++ line.bytes ∷ []) (whole_more going.lines line.bytes going.whole line.no_lf)
      (grind (arith, most, line.lines, going.number, length-append going.lines (line.bytes ∷ [])))
      (grind (arith, size, line.size, going.size, ap length (text_of-more going.lines line.bytes), length-append (text_of going.lines) (with_lf line.bytes), length-append line.bytes (10 ∷ []))))

  -- a line's reply isn't whole
  line_broken : (line : IsLine s (stream r left) held) → r.lines ≤ SESSION_LINES → r.bytes ≤ SESSION_BYTES → IsReplied T B old new line.bytes going.lines going.replies Broken → BreaksOff B start left first new
  line_broken line most size replied = record {
    lines = going.lines;
    line = line.bytes;
    rest = 10 ∷ pending r;
    replies = going.replies;
    reply = replied.0;
    count = replied.1;
    taken = line_lost line;
    whole = whole_more going.lines line.bytes going.whole line.no_lf;
    within = line_within line most size;
    ended = refl;
    put = broken_put first old new going.replies replied.0 replied.1 going.put replied.2;
    answered = replied.3;
  }

  -- a line wasn't answered
  line_unanswered : (line : IsLine s (stream r left) held) → r.lines ≤ SESSION_LINES → r.bytes ≤ SESSION_BYTES → IsReplied T B old new line.bytes going.lines going.replies Unanswered → StopsBefore (AtWant T) B start left first new
  line_unanswered line most size replied = record {
    lines = going.lines;
    rest = line.bytes ++ 10 ∷ pending r;
    replies = going.replies;
    taken = line_lost line;
    whole = going.whole;
    within = answered_within (grind (arith, most, line.lines)) (grind (arith, size, line.size));
    why = inr (line.bytes, lines_of (pending r), front_line laws line.bytes (pending r) line.no_lf, replied.2);
    put = put_kept first old new (text_of going.replies) going.put replied.0;
    answered = replied.1;
  }

  -- a last line was answered
  last_fine : (part : IsPart s (stream r left) held) → held ≢ [] → IsAtEnd (prepend_known (pending r) left) → r.lines ≤ SESSION_LINES → r.bytes ≤ SESSION_BYTES
      → IsReplied T B old new part.bytes going.lines going.replies Whole → EndsFine B start left first new
  last_fine part some end most size replied = record {
    bytes = text_of going.lines ++ part.bytes;
    replies = going.replies ++ replied.0 ∷ [];
    taken = last_lost part end;
    at_end = end_left left (pending r) end;
    within = handed_within part most size;
    put = subst (Appends first new) (sym (text_of-more going.replies replied.0)) (Appends-trans first old new (text_of going.replies) (with_lf replied.0) going.put replied.1);
    answered = subst (λ (l : List (List ℕ)). B l (going.replies ++ replied.0 ∷ []))
        (sym (laws.first going.lines part.bytes going.whole
        ∙ ap (λ l. going.lines ++ l) (laws.last part.bytes (some_held LINE_HELD held part.bytes part.front some) part.no_lf)))
        replied.2;
  }

  last_broken : (part : IsPart s (stream r left) held) → held ≢ [] → IsAtEnd (prepend_known (pending r) left) → r.lines ≤ SESSION_LINES → r.bytes ≤ SESSION_BYTES → IsReplied T B old new part.bytes going.lines going.replies Broken → BreaksOff B start left first new
  last_broken part some end most size replied = record {
    lines = going.lines;
    line = part.bytes;
    rest = [];
    replies = going.replies;
    reply = replied.0;
    count = replied.1;
    taken = subst (λ (l : List ℕ). Consumes start left (text_of going.lines ++ l)) (sym (append-nil part.bytes)) (last_lost part end);
    whole = whole_more going.lines part.bytes going.whole part.no_lf;
    within = subst (λ (l : List ℕ). IsWithin (text_of going.lines ++ l)) (sym (append-nil part.bytes)) (handed_within part most size);
    ended = (λ none. absurd (omega (arith, ap length none, some_held LINE_HELD held part.bytes part.front some)), end_left left (pending r) end);
    put = broken_put first old new going.replies replied.0 replied.1 going.put replied.2;
    answered = replied.3;
  }

  last_unanswered : (part : IsPart s (stream r left) held) → held ≢ [] → IsAtEnd (prepend_known (pending r) left) → r.lines ≤ SESSION_LINES → r.bytes ≤ SESSION_BYTES → IsReplied T B old new part.bytes going.lines going.replies Unanswered → StopsBefore (AtWant T) B start left first new
  last_unanswered part some end most size replied = record {
    lines = going.lines;
    rest = part.bytes;
    replies = going.replies;
    taken = last_lost part end;
    whole = going.whole;
    within = answered_within (grind (arith, most, part.lines)) (grind (arith, size, part.size));
    why = inr (part.bytes, [], laws.last part.bytes (some_held LINE_HELD held part.bytes part.front some) part.no_lf, replied.2);
    put = put_kept first old new (text_of going.replies) going.put replied.0;
    answered = replied.1;
  }

  -- the source is at its end
  pub at_end : (part : IsPart s (stream r left) held) → held ≡ [] → IsAtEnd (prepend_known (pending r) left) → r.lines ≤ SESSION_LINES → r.bytes ≤ SESSION_BYTES → EndsFine A start left first old
  at_end part none end most size =
      let empty : part.bytes ≡ [] = none_held LINE_HELD held part.bytes (lit< tt) part.front none in
      record {
        bytes = text_of going.lines ++ part.bytes;
        replies = going.replies;
        taken = last_lost part end;
        at_end = end_left left (pending r) end;
        within = handed_within part most size;
        put = going.put;
        answered = subst (λ (l : List (List ℕ)). A l going.replies)
            (sym (laws.first going.lines part.bytes going.whole ∙ ap (λ l. going.lines ++ lines_of l) empty ∙ append-nil going.lines)) going.answered;
      }

  -- the limits were passed
  pub at_limit : (part : IsPart s (stream r left) held) → IsSpent (stream r left) → 0 < length (pending r) → r.lines ≤ SESSION_LINES → r.bytes ≤ SESSION_BYTES → StopsBefore AtLimit A start left first old
  at_limit part spent some most size =
      let full : (length going.lines ≡ SESSION_LINES) ⊎ (length (text_of going.lines) + length part.bytes ≡ SESSION_BYTES) =
      elim spent [ inl number ↦ inl (grind (arith, number, part.lines, going.number)) | inr size ↦ inr (grind (arith, size, part.size, going.size)) ] in
      record {
        lines = going.lines;
        rest = part.bytes ++ pending r;
        replies = going.replies;
        taken = subst (Consumes start left) (append_assoc (text_of going.lines) part.bytes (pending r)) (part_lost part);
        whole = going.whole;
        within = answered_within (grind (arith, most, part.lines)) (grind (arith, size, part.size));
        why = (laws.past going.lines part.bytes (pending r) going.whole some full, laws.part going.lines part.bytes (pending r) part.no_lf full);
        put = going.put;
        answered = going.answered;
      }

  -- the source failed
  pub at_fault : (part : IsPart s (stream r left) held) → pending r ≡ [] → r.lines ≤ SESSION_LINES → r.bytes ≤ SESSION_BYTES → StopsBefore AtReadFault A start left first old
  at_fault part none most size = record {
    lines = going.lines;
    rest = part.bytes;
    replies = going.replies;
    taken = subst (Consumes start left) (ap (λ l. (text_of going.lines ++ part.bytes) ++ l) none ∙ append-nil (text_of going.lines ++ part.bytes)) (part_lost part);
    whole = going.whole;
    within = answered_within (grind (arith, most, part.lines)) (grind (arith, size, part.size));
    why = (part.no_lf, handed_within part most size);
    put = going.put;
    answered = going.answered;
  }

  -- a line was answered, or not, and the session goes on or ends
  pub line_turn : (line : IsLine s (stream r left) held) → r.lines ≤ SESSION_LINES → r.bytes ≤ SESSION_BYTES → (reply : Reply) → IsReplied T B old new line.bytes going.lines going.replies reply
      → IsTurn T B start left (stream r left) first new (end_after reply None)
  line_turn line most size Whole replied = one_more T A B start first old new s (stream r left) held going line replied
  line_turn line most size Broken replied = line_broken line most size replied
  line_turn line most size Unanswered replied = line_unanswered line most size replied

  -- and so it is with a last line, but that the session ends
  pub last_turn : (part : IsPart s (stream r left) held) → held ≢ [] → IsAtEnd (prepend_known (pending r) left) → r.lines ≤ SESSION_LINES → r.bytes ≤ SESSION_BYTES
      → (reply : Reply) → IsReplied T B old new part.bytes going.lines going.replies reply → IsTurn T B start left (stream r left) first new (end_after reply (Some Fine))
  last_turn part some end most size Whole replied = last_fine part some end most size replied
  last_turn part some end most size Broken replied = last_broken part some end most size replied
  last_turn part some end most size Unanswered replied = last_unanswered part some end most size replied
