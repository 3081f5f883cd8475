-- Whole lines in front of other bytes: which lines they make, and how they stand to a session's limits.
use Rattle.std.specs.Prelude.{◌≡◌, ℕ, ◌+◌, ◌-◌, ◌<◌, ◌≤◌, ◌⊎◌, List, [], ◌∷◌, ◌++◌, All, length, take}
use Rattle.line_reader.specs.Limits.{IsWithin, RunsPast}
use Rattle.line_reader.specs.Lines.{lines_of, text_of, HasNoLf}
use Rattle.line_reader.specs.declared.limits.TheConstants.{SESSION_BYTES, SESSION_LINES}

-- what a caller who adds line to line may rely on
pub record LinesAddUp : Type 0 where
  -- whole lines come before the lines of what follows
  pub first : (lines : List (List ℕ)) (rest : List ℕ) → All HasNoLf lines → lines_of (text_of lines ++ rest) ≡ lines ++ lines_of rest
  -- bytes without LF are one line
  pub last : (line : List ℕ) → 0 < length line → HasNoLf line → lines_of line ≡ line ∷ []
  -- whole lines, and a part of one for which there was room, are within the limits
  pub within : (lines : List (List ℕ)) (rest : List ℕ) → All HasNoLf lines → HasNoLf rest → length lines ≤ SESSION_LINES → (0 < length rest → length lines < SESSION_LINES)
      → length (text_of lines) + length rest ≤ SESSION_BYTES → IsWithin (text_of lines ++ rest)
  -- a byte behind as many lines, or as many bytes, as a session may have runs past them
  pub past : (lines : List (List ℕ)) (part behind : List ℕ) → All HasNoLf lines → 0 < length behind
      → (length lines ≡ SESSION_LINES) ⊎ (length (text_of lines) + length part ≡ SESSION_BYTES) → RunsPast (text_of lines ++ (part ++ behind))
  -- and what stands within them behind the whole lines is a part of one line
  pub part : (lines : List (List ℕ)) (part behind : List ℕ) → HasNoLf part → (length lines ≡ SESSION_LINES) ⊎ (length (text_of lines) + length part ≡ SESSION_BYTES)
      → (length lines ≡ SESSION_LINES) ⊎ HasNoLf (take (SESSION_BYTES - length (text_of lines)) (part ++ behind))
