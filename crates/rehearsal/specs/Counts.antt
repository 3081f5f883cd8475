-- The summary of a rehearsal, counted over its replies. This project's own.
use Rattle.std.specs.Prelude.{ℕ, Bool, List, ◌++◌, ◌==◌, codes, count_by, bytes_eq, decimal}
use Rattle.std.specs.List.{list_any, starts_with}
use Rattle.rehearsal.specs.Pieces.{pieces}

-- the reply begins with these bytes
abbrev pub begins : List ℕ → List ℕ → Bool
begins front reply = starts_with (λ a b. a == b) reply front

-- one of the words between the spaces of the reply is this one
abbrev pub has_word : List ℕ → List ℕ → Bool
has_word word reply = list_any (λ w. bytes_eq w word) (pieces 32 reply)

-- how many replies say what
pub record Counts : Type 0 where
  pub accepted : ℕ
  pub rejected : ℕ
  -- answered by a kept outcome
  pub cache : ℕ
  -- whose outcome was kept
  pub kept : ℕ
  -- whose outcome an edit overtook
  pub moved : ℕ
  pub edits : ℕ
  pub refused : ℕ

-- the counts over these replies
abbrev pub counts : List (List ℕ) → Counts
counts replies = record {
  accepted = count_by (begins (codes "accepted")) replies;
  rejected = count_by (begins (codes "rejected")) replies;
  cache = count_by (has_word (codes "source=cache")) replies;
  kept = count_by (has_word (codes "cache=kept")) replies;
  moved = count_by (has_word (codes "cache=moved")) replies;
  edits = count_by (begins (codes "ok edit")) replies;
  refused = count_by (begins (codes "refused")) replies;
}

-- the line of these counts
abbrev pub summary_text : ℕ → Counts → List ℕ
summary_text steps c = (codes "steps=" ++ decimal steps) ++ (codes " accepted=" ++ decimal c.accepted) ++ (codes " rejected=" ++ decimal c.rejected)
    ++ (codes " cache=" ++ decimal c.cache) ++ (codes " kept=" ++ decimal c.kept) ++ (codes " moved=" ++ decimal c.moved)
    ++ (codes " edits=" ++ decimal c.edits) ++ (codes " refused=" ++ decimal c.refused)
