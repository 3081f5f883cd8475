use Rattle.std.proofs.Common.{rules, ◌≡◌, false, codes, refl}
use Rattle.std.specs.Prelude.{bytes_eq}
use Rattle.line_words.specs.Left.{left}
use Rattle.line_words.specs.declared.fault.LineFault.TheVariants.{OutOfMemory}
use Rattle.desk_lines.specs.Memory.{MayTake, TakesRoom}
use Rattle.desk_lines.proofs.TakesNone.{ask_err, differ, takes_first, begin_takes, anyhow}
use Rattle.desk_lines.proofs.request.read_form.Goals as goal

pub returns-in_err-read_ask-clause-memory : goal.returns-in_err-read_ask-clause-memory
returns-in_err-read_ask-clause-memory c =
    ask_err c.from_residual-in_err-read_ask.result (left c.next.new.self) c.in_err-read_ask.field-0.0 (MayTake (left c.args.words.now).words) TakesRoom c.from_residual-in_err-read_ask.ensures.1 c.in_err-read_ask.ensures

pub returns-then-eq-3-clause-memory : goal.returns-then-eq-3-clause-memory
returns-then-eq-3-clause-memory c =
    anyhow c.read_begin.result (MayTake (left c.args.words.now).words) TakesRoom (λ fault. fault ≡ OutOfMemory) (begin_takes (left c.args.words.now) c.in_ok-form.form.now (left c.next.new.self) c.in_ok-form.ensures.word (search rules))

pub returns-else-eq-5-clause-memory : goal.returns-else-eq-5-clause-memory
returns-else-eq-5-clause-memory c =
    let word = c.in_ok-form.form.now in
    let tick : bytes_eq c.in_ok-form.form.now (codes "tick") ≡ false = let e = c.eq.ensures in let f = c.if-eq.false in let b = c.as_slice.ensures in cc in
    let assess : bytes_eq c.in_ok-form.form.now (codes "assess") ≡ false = let e = c.eq-else-eq.ensures in let f = c.if-eq-2.false in let b = c.as_slice-else-eq.ensures in cc in
    let finish : bytes_eq c.in_ok-form.form.now (codes "finish") ≡ false = let e = c.eq-else-eq-3.ensures in let f = c.if-eq-4.false in let b = c.as_slice-else-eq-3.ensures in cc in
    let status : bytes_eq c.in_ok-form.form.now (codes "status") ≡ false = let e = c.eq-else-eq-4.ensures in let f = c.if-eq-5.false in let b = c.as_slice-else-eq-4.ensures in cc in
    anyhow c.read_other.result (MayTake (left c.args.words.now).words) TakesRoom (λ fault. fault ≡ OutOfMemory)
    (takes_first (left c.args.words.now) word (left c.next.new.self) c.in_ok-form.ensures.word (differ word (codes "tick") refl tick) (differ word (codes "assess") refl assess) (differ word (codes "finish") refl finish) (differ word (codes "status") refl status))
