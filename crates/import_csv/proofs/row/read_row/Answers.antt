use Rattle.std.proofs.Common.{ℕ, Result, Err, refl, sym, subst}
use Rattle.import_csv.specs.ImportRows.{Asked, Makes}
use Rattle.import_csv.specs.RowCode.{Answers}
use Rattle.import_csv.proofs.row.read_row.Goals as goal

pub returns-in-Ok : goal.returns-in-Ok
returns-in-Ok c = subst (λ (x : Result Asked ℕ). Answers c.args.row (Makes x) c.with_requirement.result) (sym c.in-Ok.ensures.asked) c.with_requirement.ensures

pub returns-in-Err : goal.returns-in-Err
returns-in-Err c = λ known. (c.in-Err.column, refl, subst (λ (x : Result Asked ℕ). Makes x (Err c.in-Err.column)) (sym c.in-Err.ensures.asked) refl)
