-- A line grows run by run.
use Rattle.std.proofs.Common.{◌≡◌, ◌≢◌, ℕ, ◌<◌, Bool, true, false, List, [], ◌∷◌, ◌++◌, Option, None, Some, Result, Ok, Err, sym, ap, ◌∙◌, append_assoc, append-nil, length-append, subst, arith}
use Rattle.std.proofs.lemmas.List.Elements.{All-append}
use Rattle.std.proofs.KnownBytes.{Consumes-kept}
use Rattle.std.specs.Io.KnownBytes.{Keeps, Consumes, prepend_known}
use Rattle.line_reader.specs.Lines.{HasNoLf}
use Rattle.line_reader.specs.Reading.{pending, held, Stream, stream, IsPart, IsLine}
use Rattle.line_reader.specs.Steps.{IsReady, HandsOnNothing, IsRun}
use Rattle.line_reader.specs.declared.reader.LineReader.{LineReader}
use Rattle.line_reader.proofs.FrontsGrow.{front_grows}
use Rattle.line_reader.specs.declared.limits.TheConstants.{SESSION_LINES}
use Rattle.line_text.specs.declared.limits.TheConstants.{LINE_HELD}

-- a piece was asked for
pub part_ready : (a : Stream) (p q : LineReader) (l m : Option (List ℕ)) → IsPart a (stream p l) (held p) → HandsOnNothing p q → Keeps (prepend_known (pending p) l) (prepend_known (pending q) m) → IsPart a (stream q m) (held q)
part_ready a p q l m part same kept = record {
  bytes = part.bytes;
  taken = Consumes-kept a.unread (prepend_known (pending p) l) (prepend_known (pending q) m) part.bytes part.taken kept;
  no_lf = part.no_lf;
  front = same.line ∙ part.front;
  size = same.bytes ∙ part.size;
  lines = same.lines ∙ part.lines;
  begun = part.begun;
}

-- a run of pending bytes was handed on
run_taken : (a m : Option (List ℕ)) (bytes before run behind : List ℕ) → before ≡ run ++ behind → Consumes a (prepend_known before m) bytes → Consumes a (prepend_known behind m) (bytes ++ run)
run_taken None m bytes before run behind e h = tt
run_taken (Some us) None bytes before run behind e h = absurd h
run_taken (Some us) (Some vs) bytes before run behind e h =
    h ∙ ap (λ l. bytes ++ (l ++ vs)) e ∙ ap (λ l. bytes ++ l) (append_assoc run behind vs) ∙ sym (append_assoc bytes run (behind ++ vs))

no_lf_more : (xs ys : List ℕ) → HasNoLf xs → HasNoLf ys → HasNoLf (xs ++ ys)
no_lf_more xs ys h k = All-append (λ (byte : ℕ). byte ≢ 10) xs ys h k

-- a run without LF
pub part_grows : (a : Stream) (q r : LineReader) (m : Option (List ℕ)) → IsPart a (stream q m) (held q) → q.lines < SESSION_LINES → IsRun q r false → IsPart a (stream r m) (held r)
part_grows a q r m part room run = record {
  bytes = part.bytes ++ run.run;
  taken = run_taken a.unread m part.bytes (pending q) run.run (pending r) (run.taken ∙ ap (λ l. l ++ pending r) (append-nil run.run)) part.taken;
  no_lf = no_lf_more part.bytes run.run part.no_lf run.no_lf;
  front = front_grows LINE_HELD (held q) (held r) part.bytes run.run part.front run.front;
  size = grind (arith, part.size, run.size, length-append part.bytes run.run, length-append run.run []);
  lines = grind (arith, part.lines, run.lines);
  begun = λ h. grind (arith, room, part.lines);
}

-- a run that ended with LF
pub line_ends : (a : Stream) (q r : LineReader) (m : Option (List ℕ)) → IsPart a (stream q m) (held q) → IsRun q r true → IsLine a (stream r m) (held r)
line_ends a q r m part run = record {
  bytes = part.bytes ++ run.run;
  taken = subst (Consumes a.unread (prepend_known (pending r) m)) (sym (append_assoc part.bytes run.run (10 ∷ [])))
      (run_taken a.unread m part.bytes (pending q) (run.run ++ 10 ∷ []) (pending r) run.taken part.taken);
  no_lf = no_lf_more part.bytes run.run part.no_lf run.no_lf;
  front = front_grows LINE_HELD (held q) (held r) part.bytes run.run part.front run.front;
  size = grind (arith, part.size, run.size, length-append part.bytes run.run, length-append run.run (10 ∷ []));
  lines = grind (arith, part.lines, run.lines);
}

-- asking for a piece keeps what is to come
pub ready_kept : {E : Type 0} (old new : Option (List ℕ)) (behind : List ℕ) (r : Result Bool E) → IsReady old new behind r → Keeps old new
ready_kept old new behind (Ok true) h = h.0
ready_kept old new behind (Ok false) h = h.0
ready_kept old new behind (Err e) h = h.0
