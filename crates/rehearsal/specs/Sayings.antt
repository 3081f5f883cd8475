-- What the program counts replies by, and its counts as those of the definitions.
use Rattle.std.specs.Prelude.{ℕ, List, Bool}
use Rattle.rehearsal.specs.Counts.{Counts, begins, has_word}
use Rattle.rehearsal.specs.declared.saying.Saying.{Saying}
use Rattle.rehearsal.specs.declared.saying.Saying.TheVariants.{Front, Word}
use Rattle.rehearsal.specs.declared.tally.Tally.{Tally}

-- a reply begins with the bytes, or has the word
abbrev pub says : Saying → List ℕ → Bool
says (Front front) reply = begins front.now reply
says (Word word) reply = has_word word.now reply

-- the counts of the definitions
abbrev pub counts_of : Tally → Counts
counts_of t = record {
  accepted = t.accepted;
  rejected = t.rejected;
  cache = t.cache;
  kept = t.kept;
  moved = t.moved;
  edits = t.edits;
  refused = t.refused;
}
