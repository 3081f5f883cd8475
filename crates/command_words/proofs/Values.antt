-- All values of an argument, of which there may be none.
use Rattle.std.proofs.Common.{◌≡◌, ℕ, List, [], Option, map, option_map, unwrap_or, sym, ◌∙◌, ap}
use denote.Bor.{Bor}
use Rattle.clap.specs.Words.{all_of, rows_of, raw_values}
use Rattle.clap.specs.Matches.{matched_of}
use Rattle.clap.specs.declared.parser.matches.Found.{Found}
use Rattle.clap.proofs.WalkLemmas.{raw_values-rows}
use Rattle.command_words.specs.Views.{texts}

-- what a getter gave, and by which of its two answers
pub values_are : (f : Found) (id : List ℕ) (got answer : Option (Bor (List (Bor (List ℕ))))) → option_map (λ s. map (λ v. v.now) s.now) got ≡ option_map raw_values (matched_of f id) → got ≡ answer
    → unwrap_or (option_map (λ s. texts s.now) answer) [] ≡ unwrap_or (all_of id (rows_of f)) []
values_are f id got answer values is =
    ap (λ (o : Option (Bor (List (Bor (List ℕ))))). unwrap_or (option_map (λ s. texts s.now) o) []) (sym is)
    ∙ ap (λ (o : Option (List (List ℕ))). unwrap_or o []) (values ∙ raw_values-rows f id)
