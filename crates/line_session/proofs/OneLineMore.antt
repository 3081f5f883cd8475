-- A session goes on by one line.
use Rattle.std.proofs.Common.{◌≡◌, ℕ, zero, suc, All, List, [], ◌∷◌, ◌++◌, Option, length, sym, ap, subst, length-append, arith}
use Rattle.std.proofs.KnownBytes.{Appends-trans, Consumes-trans}
use Rattle.std.proofs.lemmas.List.{flat_map_more}
use Rattle.std.proofs.lemmas.List.Elements.{All-append}
use Rattle.std.specs.Io.KnownBytes.{Appends, Consumes}
use Rattle.line_reader.specs.Lines.{text_of, with_lf, HasNoLf}
use Rattle.line_reader.specs.Reading.{Stream, IsLine}
use Rattle.line_session.specs.Replies.{IsReplied}
use Rattle.line_session.specs.declared.reply.Reply.TheVariants.{Whole}
use Rattle.line_session.specs.Going.{IsGoing}

-- the text of one line more
pub text_of-more : (lines : List (List ℕ)) (line : List ℕ) → text_of (lines ++ line ∷ []) ≡ text_of lines ++ with_lf line
text_of-more lines line = sym (flat_map_more with_lf [] lines line)

all_one : (line : List ℕ) → HasNoLf line → All HasNoLf (line ∷ [])
all_one line h zero d lt = h
all_one line h (suc k) d lt = absurd (omega arith)

-- one line more without LF
pub whole_more : (lines : List (List ℕ)) (line : List ℕ) → All HasNoLf lines → HasNoLf line → All HasNoLf (lines ++ line ∷ [])
whole_more lines line h k = All-append HasNoLf lines (line ∷ []) h (all_one line k)

-- a line was answered, and its reply was written
pub one_more : (T : List ℕ → Type 0) (A B : List (List ℕ) → List (List ℕ) → Type 0) (start first old new : Option (List ℕ)) (s t : Stream) (held : List ℕ)
    → (going : IsGoing A start s first old) → (line : IsLine s t held) → IsReplied T B old new line.bytes going.lines going.replies Whole → IsGoing B start t first new
one_more T A B start first old new s t held going line replied = record {
  lines = going.lines ++ line.bytes ∷ [];
  replies = going.replies ++ replied.0 ∷ [];
  taken = subst (Consumes start t.unread) (sym (text_of-more going.lines line.bytes))
      (Consumes-trans start s.unread t.unread (text_of going.lines) (with_lf line.bytes) going.taken line.taken);
  whole = whole_more going.lines line.bytes going.whole line.no_lf;
  number = grind (arith, line.lines, going.number, length-append going.lines (line.bytes ∷ []));
  size = grind (arith, line.size, going.size, ap length (text_of-more going.lines line.bytes), length-append (text_of going.lines) (with_lf line.bytes), length-append line.bytes (10 ∷ []));
  put = subst (Appends first new) (sym (text_of-more going.replies replied.0)) (Appends-trans first old new (text_of going.replies) (with_lf replied.0) going.put replied.1);
  answered = replied.2;
}
