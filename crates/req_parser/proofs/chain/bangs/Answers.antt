use Rattle.std.proofs.Common.{◌≡◌, ℕ, List, length, sym, ap, ◌∙◌, arith}
use Rattle.req_grammar.specs.Terminals.{Terminal}
use Rattle.req_tokens.specs.Terminals.{plains}
use Rattle.req_parser.specs.Reading.{bangs}
use Rattle.req_parser.proofs.Bangs.{loop_on, loop_stops, loop_ends}
use Rattle.req_parser.proofs.chain.bangs.Goals as goal

pub loop-count-preserved : goal.loop-count-preserved
loop-count-preserved c =
    loop_on c.args.here.now c.loop-count.count c.index-here-count.result (bangs (plains c.args.here.now)) c.loop-count-test.true c.index-here-count.is
    (sym c.is_bang.ensures ∙ c.if-not-is_bang.false) c.loop-count.invariant

pub returns-then-not-is_bang-clause-count : goal.returns-then-not-is_bang-clause-count
returns-then-not-is_bang-clause-count c =
    ap (λ (p : ℕ × List Terminal). p.0)
    (loop_stops c.args.here.now c.loop-count.count c.index-here-count.result (bangs (plains c.args.here.now)) c.loop-count-test.true c.index-here-count.is
    (sym c.is_bang.ensures ∙ c.if-not-is_bang.true) c.loop-count.invariant)

pub returns-then-not-is_bang-clause-rest : goal.returns-then-not-is_bang-clause-rest
returns-then-not-is_bang-clause-rest c =
    ap plains c.split_at.ensures.back
    ∙ ap (λ (p : ℕ × List Terminal). p.1)
    (loop_stops c.args.here.now c.loop-count.count c.index-here-count.result (bangs (plains c.args.here.now)) c.loop-count-test.true c.index-here-count.is
    (sym c.is_bang.ensures ∙ c.if-not-is_bang.true) c.loop-count.invariant)

pub returns-clause-count : goal.returns-clause-count
returns-clause-count c =
    let end : length c.args.here.now ≡ c.loop-count.count = omega arith in
    end ∙ ap (λ (p : ℕ × List Terminal). p.0) (loop_ends c.args.here.now c.loop-count.count (bangs (plains c.args.here.now)) c.loop-count-test.false c.loop-count.invariant)

pub returns-clause-rest : goal.returns-clause-rest
returns-clause-rest c =
    ap (λ (p : ℕ × List Terminal). p.1) (loop_ends c.args.here.now c.loop-count.count (bangs (plains c.args.here.now)) c.loop-count-test.false c.loop-count.invariant)
