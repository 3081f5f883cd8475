-- What became of one line's reply.
use Rattle.std.specs.Prelude.{ℕ, List, [], ◌∷◌, ◌++◌, Option, take}
use Rattle.std.specs.Io.KnownBytes.{Appends, Keeps}
use Rattle.line_text.specs.declared.limits.TheConstants.{LINE_HELD}
use Rattle.line_reader.specs.Lines.{with_lf}
use Rattle.line_session.specs.declared.reply.Reply.{Reply}
use Rattle.line_session.specs.declared.reply.Reply.TheVariants.{Whole, Broken, Unanswered}

-- the line was answered by one reply, which was written; or it takes memory and wasn't answered, and nothing was written
abbrev pub IsReplied : (List ℕ → Type 0) → (List (List ℕ) → List (List ℕ) → Type 0) → Option (List ℕ) → Option (List ℕ) → List ℕ → List (List ℕ) → List (List ℕ) → Reply → Type 0
IsReplied Takes Answered old new line lines replies Whole =
    (reply : List ℕ) × Appends old new (with_lf reply) × Answered (lines ++ line ∷ []) (replies ++ reply ∷ [])
IsReplied Takes Answered old new line lines replies Broken =
    (reply : List ℕ) × (count : ℕ) × Appends old new (take count (with_lf reply)) × Answered (lines ++ line ∷ []) (replies ++ reply ∷ [])
IsReplied Takes Answered old new line lines replies Unanswered = Keeps old new × Answered lines replies × Takes (take LINE_HELD line)
