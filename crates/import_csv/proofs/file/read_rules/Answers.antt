use Rattle.std.proofs.Common.{◌≡◌, ℕ, List, [], ◌∷◌, ◌++◌, ◌<◌, ◌≤◌, length, sym, refl, subst, arith}
use Rattle.csv.specs.Records.{fields_of}
use Rattle.csv_records.specs.Reading.{HasTaken, Takes}
use Rattle.rule_edits.specs.declared.edit.Edit.{Edit}
use Rattle.import_csv.specs.ImportFile.{header, AskFor}
use Rattle.import_csv.specs.RowCode.{edits_of}
use Rattle.import_csv.proofs.RightRows.{asked_more, no_records, other_header, bad_row, too_many, count_more}
use Rattle.import_csv.proofs.file.read_rules.Goals as goal

pub returns-then-not-branch-clause-first : goal.returns-then-not-branch-clause-first
returns-then-not-branch-clause-first c = λ apart.
    no_records c.args.bytes.now (subst (Takes c.next_record.new.reader c.args.bytes.now [] (fields_of c.next_record.new.fields)) c.if-not-branch.true (c.in_ok-next_record.ensures c.args.bytes.now [] c.records_of-reader.ensures))

pub returns-then-not-is_header-clause-first : goal.returns-then-not-is_header-clause-first
returns-then-not-is_header-clause-first c = λ apart.
    let taken = subst (Takes c.next_record.new.reader c.args.bytes.now [] (fields_of c.next_record.new.fields)) c.if-not-branch.false (c.in_ok-next_record.ensures c.args.bytes.now [] c.records_of-reader.ensures) in
    other_header c.a_text_has_one_list_of_records.ensures.some c.a_text_has_one_list_of_records.ensures.front c.next_record.new.reader c.args.bytes.now (fields_of c.next_record.new.fields) taken
    (λ same. let yes = c.is_header.ensures.1 same in let no = c.if-not-is_header.true in cc)

pub loop-row-init : goal.loop-row-init
loop-row-init c =
    let taken = subst (Takes c.next_record.new.reader c.args.bytes.now [] (fields_of c.next_record.new.fields)) c.if-not-branch.false (c.in_ok-next_record.ensures c.args.bytes.now [] c.records_of-reader.ensures) in
    let named : fields_of c.next_record.new.fields ≡ header = c.is_header.ensures.0 c.if-not-is_header.false in
    record {
      front = [];
      taken = subst (λ (first : List (List ℕ)). HasTaken c.next_record.new.reader c.args.bytes.now (first ∷ [])) named taken;
      asked = subst (λ (edits : List Edit). AskFor [] (edits_of edits)) (sym c.new-edits.ensures) tt;
      counted = refl;
    }

pub returns-then-not-branch-2-clause-found : goal.returns-then-not-branch-2-clause-found
returns-then-not-branch-2-clause-found c =
    let so_far = c.loop-row.invariant in
    record {
      rows = so_far.front;
      read = subst (Takes c.next_record-in-loop-row.new.reader c.args.bytes.now (header ∷ so_far.front) (fields_of c.next_record-in-loop-row.new.fields)) c.if-not-branch-2.true
          (c.in_ok-next_record-2.ensures c.args.bytes.now (header ∷ so_far.front) so_far.taken);
      few = omega (arith, so_far.counted, c.loop-row-test.true);
      asked = so_far.asked;
    }

pub returns-in-Err-clause-first : goal.returns-in-Err-clause-first
returns-in-Err-clause-first c = λ apart.
    let so_far = c.loop-row.invariant in
    let taken_one = subst (Takes c.next_record-in-loop-row.new.reader c.args.bytes.now (header ∷ so_far.front) (fields_of c.next_record-in-loop-row.new.fields)) c.if-not-branch-2.false
    (c.in_ok-next_record-2.ensures c.args.bytes.now (header ∷ so_far.front) so_far.taken) in
    let bad = c.in-Err.ensures apart in
    let few : c.loop-row.row < 10002 = c.loop-row-test.true in
    rw bad.1 (bad_row c.a_text_has_one_list_of_records.ensures.some c.a_text_has_one_list_of_records.ensures.front c.next_record-in-loop-row.new.reader c.args.bytes.now so_far.front (edits_of c.loop-row.edits) (fields_of c.next_record-in-loop-row.new.fields) c.loop-row.row bad.0
    taken_one so_far.asked so_far.counted few bad.2)

pub loop-row-preserved : goal.loop-row-preserved
loop-row-preserved c =
    let so_far = c.loop-row.invariant in
    let fields = fields_of c.next_record-in-loop-row.new.fields in
    let taken_one = subst (Takes c.next_record-in-loop-row.new.reader c.args.bytes.now (header ∷ so_far.front) fields) c.if-not-branch-2.false
    (c.in_ok-next_record-2.ensures c.args.bytes.now (header ∷ so_far.front) so_far.taken) in
    let one = c.in-Ok.ensures in
    record {
      front = so_far.front ++ fields ∷ [];
      taken = taken_one;
      asked = subst (AskFor (so_far.front ++ fields ∷ [])) (sym one.2) (asked_more so_far.front (edits_of c.loop-row.edits) fields one.0 so_far.asked one.1);
      counted = count_more c.loop-row.row so_far.front fields so_far.counted;
    }

pub returns-then-branch-clause-first : goal.returns-then-branch-clause-first
returns-then-branch-clause-first c = λ apart.
    let so_far = c.loop-row.invariant in
    let fields = fields_of c.next_record-2.new.fields in
    let taken_one = subst (Takes c.next_record-2.new.reader c.args.bytes.now (header ∷ so_far.front) fields) c.if-branch.true
    (c.in_ok-next_record-3.ensures c.args.bytes.now (header ∷ so_far.front) so_far.taken) in
    let end : c.loop-row.row ≤ 10002 = c.loop-row.auto.row-end (omega arith) in
    let all : 10000 ≡ length so_far.front = omega (arith, so_far.counted, end, c.loop-row-test.false) in
    too_many c.a_text_has_one_list_of_records.ensures.some c.a_text_has_one_list_of_records.ensures.front c.next_record-2.new.reader c.args.bytes.now so_far.front (edits_of c.loop-row.edits) fields taken_one so_far.asked all

pub returns-clause-found : goal.returns-clause-found
returns-clause-found c =
    let so_far = c.loop-row.invariant in
    let end : c.loop-row.row ≤ 10002 = c.loop-row.auto.row-end (omega arith) in
    record {
      rows = so_far.front;
      read = subst (Takes c.next_record-2.new.reader c.args.bytes.now (header ∷ so_far.front) (fields_of c.next_record-2.new.fields)) c.if-branch.false
          (c.in_ok-next_record-3.ensures c.args.bytes.now (header ∷ so_far.front) so_far.taken);
      few = omega (arith, so_far.counted, end);
      asked = so_far.asked;
    }
