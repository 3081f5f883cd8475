-- A run of pending bytes is handed on.
use Rattle.std.proofs.Common.{◌≡◌, ℕ, ◌+◌, ◌-◌, ◌<◌, ◌≤◌, min, true, false, List, [], ◌∷◌, ◌++◌, length, take, drop, sym, ap, ◌∙◌, append-nil, length-append, arith}
use Rattle.std.proofs.lemmas.List.{drop-drop, length-take-le}
use Rattle.line_reader.specs.Lines.{HasNoLf, IsFirstLf}
use Rattle.line_reader.specs.Reading.{pending, held}
use Rattle.line_reader.specs.Steps.{IsRun}
use Rattle.line_reader.specs.declared.reader.LineReader.{LineReader}
use Rattle.line_reader.proofs.BetweenPlaces.{split_window, split_at_lf, length_window, length_pending}
use Rattle.line_reader.specs.declared.limits.TheConstants.{SESSION_BYTES}
use Rattle.line_text.specs.declared.limits.TheConstants.{LINE_HELD}

-- the run ended with LF at the place
pub run_with_lf : (old new : LineReader) (place mid : ℕ) (window : List ℕ)
    → window ≡ take (mid - old.next) (drop old.next old.piece.items) → mid ≡ min old.end (old.next + (SESSION_BYTES - old.bytes))
    → IsFirstLf window place → held new ≡ take LINE_HELD (held old ++ take place window)
    → pending new ≡ drop (old.next + (place + 1)) (take old.end old.piece.items) → new.lines ≡ old.lines + 1 → new.bytes ≡ old.bytes + (place + 1)
    → IsRun old new true
run_with_lf old new place mid window at m found front behind lines bytes =
    let low : old.next ≤ mid = grind (arith, m, old.ordered) in
    let high : mid ≤ old.end = grind (arith, m) in
    let rest = drop mid (take old.end old.piece.items) in
    let split : pending old ≡ window ++ rest = split_window old.next mid old.end old.piece.items low high ∙ ap (λ w. w ++ rest) (sym at) in
    let after : drop (place + 1) (pending old) ≡ pending new = drop-drop (place + 1) old.next (take old.end old.piece.items) ∙ sym behind in
    let inside : place ≤ length window = grind (arith, found.inside) in
    record {
      run = take place window;
      no_lf = found.before;
      taken = split ∙ split_at_lf window rest place found
          ∙ ap (λ l. (take place window ++ 10 ∷ []) ++ drop (place + 1) l) (sym split)
          ∙ ap (λ l. (take place window ++ 10 ∷ []) ++ l) after;
      front = front;
      lines = lines;
      size = grind (arith, bytes, length-append (take place window) (10 ∷ []), length-take-le place window inside);
      moved = grind (arith, bytes);
    }

-- the run reached the end of the piece or of the limit
pub run_without_lf : (old new : LineReader) (mid : ℕ) (window : List ℕ)
    → window ≡ take (mid - old.next) (drop old.next old.piece.items) → mid ≡ min old.end (old.next + (SESSION_BYTES - old.bytes))
    → HasNoLf window → held new ≡ take LINE_HELD (held old ++ window)
    → pending new ≡ drop mid (take old.end old.piece.items) → new.lines ≡ old.lines → new.bytes ≡ old.bytes + (mid - old.next)
    → 0 < length (pending old) → old.bytes < SESSION_BYTES
    → IsRun old new false
run_without_lf old new mid window at m none front behind lines bytes some room =
    let low : old.next ≤ mid = grind (arith, m, old.ordered) in
    let high : mid ≤ old.end = grind (arith, m) in
    let inside : mid ≤ length old.piece.items = grind (arith, high, old.filled) in
    let rest = drop mid (take old.end old.piece.items) in
    let split : pending old ≡ window ++ rest = split_window old.next mid old.end old.piece.items low high ∙ ap (λ w. w ++ rest) (sym at) in
    let reach : length window ≡ mid - old.next = ap length at ∙ length_window old.next mid old.piece.items low inside in
    let long : 0 < old.end - old.next = grind (arith, some, length_pending old.next old.end old.piece.items old.filled) in
    record {
      run = window;
      no_lf = none;
      taken = split ∙ ap (λ l. window ++ l) (sym behind) ∙ ap (λ l. l ++ pending new) (sym (append-nil window));
      front = front;
      lines = grind (arith, lines);
      size = grind (arith, bytes, reach, length-append window []);
      moved = grind (arith, bytes, m, long, room);
    }
