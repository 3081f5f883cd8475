-- The rows of a facts file, one after the other.
use Rattle.std.proofs.Common.{◌≡◌, ℕ, suc, ◌+◌, ◌*◌, ◌-◌, ◌<◌, List, [], ◌∷◌, ◌++◌, codes, ap, ap₂, sym, ◌∙◌, append_assoc, arith}
use Rattle.line_reader.specs.Lines.{text_of, with_lf}
use Rattle.rehearsal.specs.Facts.{rows_from, notarized_row}

-- a row with its LF, put together in two pieces
pub row_text : (text hash : List ℕ) → (text ++ hash) ++ codes ",flag,,notarized,,\n" ≡ text ++ with_lf (hash ++ codes ",flag,,notarized,,")
row_text text hash = append_assoc text hash (codes ",flag,,notarized,,\n") ∙ ap (λ (t : List ℕ). text ++ t) (sym (append_assoc hash (codes ",flag,,notarized,,") (10 ∷ [])))

-- a row of those that are left
pub row_more : (text : List ℕ) (left d : ℕ) → (text ++ with_lf (notarized_row d)) ++ text_of (rows_from left (d + 2)) ≡ text ++ text_of (rows_from (suc left) d)
row_more text left d = append_assoc text (with_lf (notarized_row d)) (text_of (rows_from left (d + 2)))

-- one row of the 25 was written
pub row_step : (text longer whole : List ℕ) (place : ℕ) → place < 25 → longer ≡ text ++ with_lf (notarized_row (2 * place)) → text ++ text_of (rows_from (25 - place) (2 * place)) ≡ whole
    → longer ++ text_of (rows_from (25 - (place + 1)) (2 * (place + 1))) ≡ whole
row_step text longer whole place inside is invariant =
    let next : 2 * (place + 1) ≡ 2 * place + 2 = omega arith in
    let left : suc (25 - (place + 1)) ≡ 25 - place = omega (arith, inside) in
    ap₂ (λ (t : List ℕ) (d : ℕ). t ++ text_of (rows_from (25 - (place + 1)) d)) is next
    ∙ row_more text (25 - (place + 1)) (2 * place)
    ∙ ap (λ (n : ℕ). text ++ text_of (rows_from n (2 * place))) left
    ∙ invariant
