use Rattle.csv_records.proofs.OneRead.{takes}
use Rattle.csv_records.proofs.records.next_record.Goals as goal

pub returns-in-Ok : goal.returns-in-Ok
returns-in-Ok c = λ text front h.
    takes c.args.reader.now c.read_byte_record.new.self text front _ c.in-Ok.found h (c.in-Ok.ensures.reads h.plain h.ready) (c.in-Ok.ensures.ready h.plain) c.in-Ok.ensures.flexible
