use Rattle.std.proofs.Common.{◌-◌, take, drop, refl, ap}
use Rattle.line_reader.proofs.RunIsHandedOn.{run_with_lf, run_without_lf}
use Rattle.line_reader.proofs.reader.LineReader.take_run.Goals as goal

pub returns-in-Some : goal.returns-in-Some
returns-in-Some c =
    let old = c.args.self.now in
    let mid = c.min-end.result in
    run_with_lf old _ c.in-Some.place mid _ (ap (λ xs. take (mid - old.next) (drop old.next xs)) c.as_slice.ensures.value) c.min-end.ensures
    c.in-Some.ensures c.hold.ensures refl refl refl

pub returns-in-None : goal.returns-in-None
returns-in-None c =
    let old = c.args.self.now in
    let mid = c.min-end.result in
    run_without_lf old _ mid _ (ap (λ xs. take (mid - old.next) (drop old.next xs)) c.as_slice.ensures.value) c.min-end.ensures
    c.in-None.ensures c.hold-in-None.ensures refl refl refl c.requires.some c.requires.bytes
