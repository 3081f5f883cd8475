-- Where memory may run out in a session. This project's own.
use Rattle.std.specs.Prelude.{◌≢◌, ⊤, ℕ, ◌≤◌, List, [], ◌∷◌, length, codes}
use Rattle.line_text.specs.declared.limits.TheConstants.{LINE_LIMIT}
use Rattle.line_model.specs.Words.{words}
use Rattle.desk_lines.specs.declared.request.Request as code
use Rattle.desk_lines.specs.declared.request.Request.TheVariants.{Begin, Edit}

-- no memory is taken for a line that begins with one of these words
abbrev pub MayTake : List (List ℕ) → Type 0
MayTake [] = ⊥
MayTake (word ∷ words) = (word ≢ codes "tick") × (word ≢ codes "assess") × (word ≢ codes "finish") × (word ≢ codes "status")

-- memory may run out at this line: it isn't too long, and begins with another word
abbrev pub TakesMemory : List ℕ → Type 0
TakesMemory line = (length line ≤ LINE_LIMIT) × MayTake (words line)

-- what takes memory: to begin an assessment, and to make an edit
abbrev pub TakesRoom : code.Request → Type 0
TakesRoom (Begin number a) = ⊤
TakesRoom (Edit e) = ⊤
TakesRoom other = ⊥
