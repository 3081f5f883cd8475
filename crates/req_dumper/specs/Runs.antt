-- Runs of letters and digits with dots between them, byte by byte.
use Rattle.std.specs.Prelude.{ℕ, Bool, true, false, ◌==◌, if◌then◌else◌, List, [], ◌∷◌, Option, None, Some}
use Rattle.req_grammar.specs.Tokens.{is_letter_or_digit}

-- whether the run so far has a byte, after one more byte; none where the byte can't stand there
abbrev pub run_step : Bool → ℕ → Option Bool
run_step begun b = if b == 46 then (if begun then Some false else None) else (if is_letter_or_digit b then Some true else None)

-- the rest goes on, and no run is empty
abbrev pub runs_on : Option Bool → List ℕ → Bool
runs_on None bytes = false
runs_on (Some begun) [] = begun
runs_on (Some begun) (b ∷ bytes) = runs_on (run_step begun b) bytes
