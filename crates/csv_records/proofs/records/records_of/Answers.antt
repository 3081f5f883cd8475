use Rattle.std.proofs.Common.{inr, ◌∙◌, refl, sym}
use Rattle.csv.specs.Reading.{Reached, strip_bom}
use Rattle.csv_records.proofs.records.records_of.Goals as goal

pub returns : goal.returns
unfolding Reached
returns c =
    let read = c.from_reader.ensures in
    let all = c.flexible.ensures in
    let plain = c.has_headers.ensures in
    record {
      plain = rw (all, plain) at read.trim ∙ c.new.ensures.trim;
      ready = inr (inr (rw (all, plain) at read.has_headers, read.headers));
      flexible = rw all at read.flexible;
      defaults = rw (all, plain) at read.config ∙ c.new.ensures.config;
      left = strip_bom c.args.text.now;
      source = read.source;
      reached = (sym read.state, refl);
    }
