use Rattle.std.proofs.Common.{◌≡◌, ◌+◌, ℕ, List, ◌∷◌, length}
use Rattle.csv_records.specs.Reading.{HasTaken}
use Rattle.import_csv.specs.ImportFile.{header, AskFor}
use Rattle.import_csv.specs.RowCode.{edits_of}
use Rattle.import_csv.proofs.file.read_rules.Given as goal

abbrev pub invariant-loop-row : goal.invariant-loop-row
invariant-loop-row l = record {
  front : List (List (List ℕ));
  taken : HasTaken l.reader l.bytes (header ∷ front);
  asked : AskFor front (edits_of l.edits);
  counted : l.row ≡ 2 + length front;
}
