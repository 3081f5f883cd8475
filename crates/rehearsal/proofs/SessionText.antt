-- A session's text grows line by line.
use Rattle.std.proofs.Common.{◌≡◌, ℕ, List, [], ◌∷◌, ◌++◌, ap, sym, ◌∙◌, append_assoc}
use Rattle.line_reader.specs.Lines.{text_of, with_lf}

pub more_text : (text line : List ℕ) (left after : List (List ℕ)) → left ≡ line ∷ after → ((text ++ line) ++ 10 ∷ []) ++ text_of after ≡ text ++ text_of left
more_text text line left after is =
    ap (λ (t : List ℕ). t ++ text_of after) (append_assoc text line (10 ∷ []))
    ∙ append_assoc text (with_lf line) (text_of after)
    ∙ ap (λ (l : List (List ℕ)). text ++ text_of l) (sym is)
