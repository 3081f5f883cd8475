-- A text has at least one word, and its words are the text again.
use Rattle.std.proofs.Common.{◌≡◌, ℕ, Bool, true, false, ◌==◌, List, [], ◌∷◌, if◌then◌else◌, Ok, Err, refl, sym, ◌∙◌, ap}
use Rattle.std.specs.List.{onto_first}
use Rattle.std.proofs.lemmas.List.Splits.{join_with_byte-slice_split}
use Rattle.line_model.specs.Words.{words, spaced}
use Rattle.line_model.specs.Left.{Left, end_of, misfit}
use Rattle.line_model.specs.Requirements.{rest_of}

-- some words, of which there is a first
abbrev HasFirst : List (List ℕ) → Type 0
HasFirst ws = (first : List ℕ) × (rest : List (List ℕ)) × (ws ≡ first ∷ rest)

has_first-onto_first : (b : ℕ) (ws : List (List ℕ)) → HasFirst (onto_first b ws)
has_first-onto_first b [] = (b ∷ [], [], refl)
has_first-onto_first b (w ∷ ws) = (b ∷ w, ws, refl)

has_first-if : (space : Bool) (b : ℕ) (ws : List (List ℕ)) → HasFirst (if space then [] ∷ ws else onto_first b ws)
has_first-if true b ws = ([], ws, refl)
has_first-if false b ws = has_first-onto_first b ws

has_first-words : (text : List ℕ) → HasFirst (words text)
has_first-words [] = ([], [], refl)
has_first-words (b ∷ text) = has_first-if (b == 32) b (words text)

rest_of-first : (column : ℕ) (ws : List (List ℕ)) → HasFirst ws → rest_of column ws ≡ Ok (spaced ws)
rest_of-first column ws (first, rest, is) = ap (rest_of column) is ∙ ap (λ l. Ok (spaced l)) (sym is)

-- what is left of a text's words is the text
pub rest_of-words : (column : ℕ) (text : List ℕ) → rest_of column (words text) ≡ Ok text
rest_of-words column text = rest_of-first column (words text) (has_first-words text) ∙ ap Ok (join_with_byte-slice_split 32 text)

end_of-first : (left : Left) (ws : List (List ℕ)) → HasFirst ws → end_of left ws ≡ Err (misfit left)
end_of-first left ws (first, rest, is) = ap (end_of left) is

-- where a text is left, the line isn't at its end
pub end_of-words : (left : Left) (text : List ℕ) → end_of left (words text) ≡ Err (misfit left)
end_of-words left text = end_of-first left (words text) (has_first-words text)
