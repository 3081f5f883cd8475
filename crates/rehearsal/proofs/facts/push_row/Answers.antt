-- The hash and the rest of the row, one behind the other.
use Rattle.std.proofs.Common.{ℕ, List, ◌++◌, codes, ap, ◌∙◌}
use Rattle.rehearsal.specs.Made.{hash_text}
use Rattle.rehearsal.proofs.RowTexts.{row_text}
use Rattle.rehearsal.proofs.facts.push_row.Goals as goal

pub returns : goal.returns
returns c =
    let text = c.args.text.now.items in
    c.in_ok-extend_from_slice-2.ensures.items
    ∙ ap (λ (t : List ℕ). t ++ codes ",flag,,notarized,,\n") (c.in_ok-extend_from_slice.ensures.items ∙ ap (λ (h : List ℕ). text ++ h) c.hash_text.ensures)
    ∙ row_text text (hash_text c.args.code)
