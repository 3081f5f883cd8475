-- The lines of a rehearsal, which are made up from its number of steps alone. This project's own.
use Rattle.std.specs.Prelude.{ℕ, zero, suc, ◌+◌, List, [], ◌∷◌, ◌++◌, ◌==◌, if◌then◌else◌, codes, decimal, replicate}
use Rattle.hex.specs.Hex.{encode_lower}
use Rattle.rehearsal.specs.Draws.{Piece, stirred, below, fixed, drawn, chosen, in_turn}

-- the kinds of code, by their numbers
abbrev pub kind_text : ℕ → List ℕ
kind_text d = if d == 0 then codes " execute" else if d == 1 then codes " install" else codes " open"

-- whether a rule allows
abbrev pub verdict_text : ℕ → List ℕ
verdict_text d = if d == 0 then codes " allow" else codes " deny"

-- a number behind these bytes
abbrev pub numbered : List ℕ → ℕ → List ℕ
numbered front n = front ++ decimal n

-- a space and a kind
abbrev pub kind : Piece
kind = drawn 3 kind_text

-- an expiry within a thousand seconds of now, or none, by a draw below 4
abbrev pub expiry_by : ℕ → ℕ → Piece
expiry_by now d = if d == 0 then drawn 1000 (λ more. numbered (codes " ") (now + more)) else fixed (codes " never")

-- a space and an expiry
abbrev pub expiry : ℕ → Piece
expiry now = chosen 4 (expiry_by now)

-- a requirement by a draw below 5
abbrev pub requirement_by : ℕ → Piece
requirement_by d =
    if d == 0 then fixed (codes " always")
    else if d == 1 then drawn 4 (numbered (codes " platform = "))
    else if d == 2 then drawn 50 (numbered (codes " identifier a"))
    else if d == 3 then fixed (codes " notarized")
    else fixed (codes " never")

-- a space and a requirement
abbrev pub requirement : Piece
requirement = chosen 5 requirement_by

-- the hash of twenty equal bytes, in hexadecimal
abbrev pub hash_text : ℕ → List ℕ
hash_text d = encode_lower (replicate 20 d)

-- the code of a number: its hash, its identifier and a platform, each behind a space
abbrev pub subject_by : ℕ → Piece
subject_by d = in_turn (fixed (codes " ") ∷ fixed (hash_text d) ∷ fixed (numbered (codes " a") d) ∷ drawn 4 (numbered (codes " ")) ∷ [])

-- one of fifty codes
abbrev pub subject : Piece
subject = chosen 50 subject_by

-- a new rule, at step i
abbrev pub add_line : ℕ → ℕ → Piece
add_line i now = in_turn (fixed (numbered (codes "add k") i) ∷ kind ∷ drawn 2 verdict_text ∷ drawn 100 (numbered (codes " "))
    ∷ expiry now ∷ drawn 8 (numbered (codes " L")) ∷ fixed (codes " -") ∷ requirement ∷ [])

-- an edit of one rule, at step i, behind these bytes
abbrev pub choice_line : List ℕ → ℕ → Piece
choice_line front i = in_turn (fixed (numbered front i) ∷ drawn i (λ d. numbered (codes " id ") (d + 1)) ∷ fixed (codes " any") ∷ [])

-- an assessment that is begun under a number
abbrev pub begin_line : Piece
begin_line = in_turn (drawn 50 (λ d. numbered (codes "begin ") (d + 1)) ∷ kind ∷ subject ∷ [])

-- one that is finished
abbrev pub finish_line : Piece
finish_line = drawn 50 (λ d. numbered (codes "finish ") (d + 1))

-- an assessment in one line
abbrev pub assess_line : Piece
assess_line = in_turn (fixed (codes "assess") ∷ kind ∷ subject ∷ [])

-- the line of step i for a draw below 10 other than that of a tick, at the desk's moment
abbrev pub line_by : ℕ → ℕ → ℕ → Piece
line_by i now d =
    if d == 0 then add_line i now
    else if d == 1 then choice_line (codes "disable k") i
    else if d == 2 then choice_line (codes "enable k") i
    else if d == 4 then begin_line
    else if d == 5 then begin_line
    else if d == 6 then finish_line
    else if d == 7 then finish_line
    else assess_line

-- where a rehearsal has come to
pub record Course : Type 0 where
  -- the generator's state
  pub state : ℕ
  -- the desk's moment
  pub now : ℕ

-- a line, and where the rehearsal has come to behind it
abbrev pub Step : Type 0
Step = List ℕ × Course

-- a tick, which brings the desk's moment forward
abbrev pub ticked : ℕ → ℕ → Step
ticked now x = let later = now + below 30 (stirred x) in (numbered (codes "tick ") later, record { state = stirred x; now = later })

-- a line that leaves the desk's moment
abbrev pub said : ℕ → List ℕ × ℕ → Step
said now made = (made.0, record { state = made.1; now = now })

-- step i for a draw below 10
abbrev pub step_by : ℕ → ℕ → ℕ → ℕ → Step
step_by i now d x = if d == 3 then ticked now x else said now (line_by i now d x)

-- step i
abbrev pub step : ℕ → Course → Step
step i c = step_by i c.now (below 10 (stirred c.state)) (stirred c.state)

-- the lines of so many steps, of which the first has the number i
abbrev pub lines_from : ℕ → ℕ → Course → List (List ℕ)
lines_from zero i c = []
lines_from (suc n) i c = (step i c).0 ∷ lines_from n (i + 1) (step i c).1

-- where a rehearsal of n steps begins: the number of its steps is the generator's state
abbrev pub beginning : ℕ → Course
beginning n = record { state = n; now = 0 }

-- the lines of a rehearsal of n steps
abbrev pub made : ℕ → List (List ℕ)
made n = lines_from n 1 (beginning n)
