use Rattle.std.proofs.Common.{◌≡◌, Bool, true, false, ◌&&◌, refl, sym, ◌∙◌}
use Rattle.req_dumper.proofs.DottedRuns.{runs_are}
use Rattle.req_dumper.proofs.word.is_word.Goals as goal

then_all : (a b : Bool) → a ≡ true → (a && b) ≡ b
then_all true b h = refl
then_all false b h = cc

pub returns-then-begins_with_letter : goal.returns-then-begins_with_letter
returns-then-begins_with_letter c =
    let first = sym c.begins_with_letter.ensures ∙ c.if-begins_with_letter.true in
    c.are_runs.ensures ∙ runs_are c.args.bytes.now ∙ sym (then_all _ _ first)
