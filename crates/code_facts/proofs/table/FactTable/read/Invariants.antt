use Rattle.std.proofs.Common.{◌≡◌, ◌+◌, ◌≤◌, true, ℕ, List, [], ◌∷◌, length, Ok}
use Rattle.code_facts.specs.Rows.{Row}
use Rattle.code_facts.specs.FactsFile as file
use Rattle.csv_records.specs.Reading.{HasTaken}
use Rattle.code_facts.specs.Tables.{Stands}
use Rattle.code_facts.proofs.table.FactTable.read.Given as goal

abbrev pub invariant-loop-number : goal.invariant-loop-number
invariant-loop-number l = record {
  head : List (List ℕ);
  front : List (List (List ℕ));
  rows : List Row;
  taken : HasTaken l.reader l.bytes (head ∷ front);
  header : file.same_fields head file.header ≡ true;
  accepted : file.rows_behind 2 [] front ≡ Ok rows;
  stands : Stands l.table rows;
  count : l.number ≡ 2 + length front;
  few : l.number ≤ 100002;
}
