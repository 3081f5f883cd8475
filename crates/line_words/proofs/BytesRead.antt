-- Bytes that were read go on with those behind them.
use Rattle.std.proofs.Common.{◌≡◌, ℕ, List, ◌++◌, Option, Some, None, refl, sym, ap}
use Rattle.std.proofs.lemmas.List.{append_assoc}
use Rattle.line_model.specs.WordTexts.{joined}

-- bytes, some behind them and the rest are joined in any order
pub joined-joined : (first second : List ℕ) (rest : Option (List ℕ)) → joined (Some first) (joined (Some second) rest) ≡ joined (Some (first ++ second)) rest
joined-joined first second (Some more) = ap Some (sym (append_assoc first second more))
joined-joined first second None = refl
