use Rattle.std.proofs.Common.{◌++◌, codes, refl, sym, ap, ◌∙◌, append_assoc}
use Rattle.line_text.specs.LineText.{line_bytes}
use Rattle.import_csv.specs.FaultText.{place_text, import_fault_text}
use Rattle.import_csv.proofs.fault.ImportFault.line_into.Goals as goal

pub returns-in-BadRow-clause-text : goal.returns-in-BadRow-clause-text
returns-in-BadRow-clause-text c =
    c.place_into.ensures.text ∙ ap (λ t. t ++ place_text c.in-BadRow.row c.in-BadRow.column) c.push_all-in-BadRow.ensures.text
    ∙ append_assoc (line_bytes c.args.out.now) (codes "refused import 2 BadRow") (place_text c.in-BadRow.row c.in-BadRow.column)
    ∙ ap (λ fault. line_bytes c.args.out.now ++ import_fault_text fault) (sym c.in-BadRow.is)

pub returns-in-TooMany-clause-text : goal.returns-in-TooMany-clause-text
returns-in-TooMany-clause-text c = rw (c.push_all-in-TooMany.ensures.text, c.in-TooMany.is) refl
