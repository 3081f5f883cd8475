-- Words with a space between each two: the first word, and each other behind its space.
use Rattle.std.proofs.Common.{◌≡◌, ℕ, List, [], ◌∷◌, ◌++◌, map, ap}
use Rattle.std.proofs.lemmas.List.{append-nil}
use Rattle.std.specs.List.{flat_map}
use denote.Bor.{Bor}
use Rattle.line_model.specs.Words.{spaced}

pub spaced_more : (word : List ℕ) (more : List (Bor (List ℕ))) → word ++ flat_map (λ w. 32 ∷ w.now) more ≡ spaced (word ∷ map (λ w. w.now) more)
spaced_more word [] = append-nil word
spaced_more word (next ∷ more) = ap (λ (t : List ℕ). word ++ 32 ∷ t) (spaced_more next.now more)
