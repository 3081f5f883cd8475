use Rattle.std.proofs.Common.{[], ◌∷◌, ◌++◌, sym, subst, ◌∙◌, refl, arith}
use Rattle.csv.specs.Records.{fields_of}
use Rattle.csv_records.specs.Reading.{Takes}
use Rattle.code_facts.proofs.FileLemmas.{no_header, header_fault, row_fault, row_more, all_read, taken_few, count_more, few_more}
use Rattle.code_facts.proofs.Refusals.{first_fault}
use Rattle.code_facts.proofs.Soundness.{sound_none}
use Rattle.code_facts.proofs.table.FactTable.read.Goals as goal

pub returns-then-not-branch-clause-first : goal.returns-then-not-branch-clause-first
returns-then-not-branch-clause-first c = λ apart.
    first_fault c.a_text_has_one_list_of_records.ensures.some c.args.bytes.now _ (no_header c.a_text_has_one_list_of_records.ensures.one c.args.bytes.now (subst (Takes c.next_record.new.reader c.args.bytes.now [] (fields_of c.next_record.new.fields)) c.if-not-branch.true (c.in_ok-next_record.ensures c.args.bytes.now [] c.records_of-reader.ensures)))

pub returns-then-not-is_header-clause-first : goal.returns-then-not-is_header-clause-first
returns-then-not-is_header-clause-first c = λ apart.
    let taken = subst (Takes c.next_record.new.reader c.args.bytes.now [] (fields_of c.next_record.new.fields)) c.if-not-branch.false (c.in_ok-next_record.ensures c.args.bytes.now [] c.records_of-reader.ensures) in
    first_fault c.a_text_has_one_list_of_records.ensures.some c.args.bytes.now _ (header_fault c.a_text_has_one_list_of_records.ensures.front c.next_record.new.reader c.args.bytes.now (fields_of c.next_record.new.fields) taken (sym c.is_header.ensures ∙ c.if-not-is_header.true))

pub loop-number-init : goal.loop-number-init
loop-number-init c =
    let taken = subst (Takes c.next_record.new.reader c.args.bytes.now [] (fields_of c.next_record.new.fields)) c.if-not-branch.false (c.in_ok-next_record.ensures c.args.bytes.now [] c.records_of-reader.ensures) in
    record {
      head = fields_of c.next_record.new.fields;
      front = [];
      rows = [];
      taken = taken;
      header = sym c.is_header.ensures ∙ c.if-not-is_header.false;
      accepted = refl;
      stands = record { all = c.empty-table.ensures; each = λ hash. sound_none };
      count = refl;
      few = omega arith;
    }

pub returns-then-not-branch-2-clause-found : goal.returns-then-not-branch-2-clause-found
returns-then-not-branch-2-clause-found c =
    let so_far = c.loop-number.invariant in
    let all = subst (Takes c.next_record-in-loop-number.new.reader c.args.bytes.now (so_far.head ∷ so_far.front) (fields_of c.next_record-in-loop-number.new.fields)) c.if-not-branch-2.true
    (c.in_ok-next_record-2.ensures c.args.bytes.now (so_far.head ∷ so_far.front) so_far.taken) in
    record {
      records = so_far.head ∷ so_far.front;
      rows = so_far.rows;
      read = all;
      accepted = all_read c.args.bytes.now so_far.head so_far.front so_far.rows so_far.header so_far.accepted;
      all = so_far.stands.all;
    }

pub returns-in-Err-clause-first : goal.returns-in-Err-clause-first
returns-in-Err-clause-first c = λ apart.
    let so_far = c.loop-number.invariant in
    let taken_one = subst (Takes c.next_record-in-loop-number.new.reader c.args.bytes.now (so_far.head ∷ so_far.front) (fields_of c.next_record-in-loop-number.new.fields)) c.if-not-branch-2.false
    (c.in_ok-next_record-2.ensures c.args.bytes.now (so_far.head ∷ so_far.front) so_far.taken) in
    let bad = c.in-Err.ensures.first apart so_far.rows so_far.stands in
    first_fault c.a_text_has_one_list_of_records.ensures.some c.args.bytes.now _ (row_fault c.a_text_has_one_list_of_records.ensures.front c.next_record-in-loop-number.new.reader c.args.bytes.now so_far.head so_far.front (fields_of c.next_record-in-loop-number.new.fields) c.in-Err.fault so_far.rows c.loop-number.number
    taken_one so_far.header so_far.accepted so_far.count bad)

pub loop-number-preserved : goal.loop-number-preserved
loop-number-preserved c =
    let so_far = c.loop-number.invariant in
    let taken_one = subst (Takes c.next_record-in-loop-number.new.reader c.args.bytes.now (so_far.head ∷ so_far.front) (fields_of c.next_record-in-loop-number.new.fields)) c.if-not-branch-2.false
    (c.in_ok-next_record-2.ensures c.args.bytes.now (so_far.head ∷ so_far.front) so_far.taken) in
    let one = c.in-Ok.ensures.found so_far.rows so_far.stands in
    record {
      head = so_far.head;
      front = so_far.front ++ fields_of c.next_record-in-loop-number.new.fields ∷ [];
      rows = so_far.rows ++ one.0 ∷ [];
      taken = taken_one;
      header = so_far.header;
      accepted = row_more c.loop-number.number so_far.rows one.0 so_far.front (fields_of c.next_record-in-loop-number.new.fields) so_far.accepted so_far.count one.1;
      stands = one.2;
      count = count_more c.loop-number.number so_far.front (fields_of c.next_record-in-loop-number.new.fields) so_far.count;
      few = few_more c.loop-number.number (taken_few c.loop-number.number so_far.rows (fields_of c.next_record-in-loop-number.new.fields) one.0 one.1);
    }
