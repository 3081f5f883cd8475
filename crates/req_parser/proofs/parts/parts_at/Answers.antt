use Rattle.std.proofs.Common.{◌≡◌, ◌-◌, ◌+◌, ℕ, suc, List, length, MatchResult, Result, subst, sym, ◌∙◌, arith}
use Rattle.std.proofs.lemmas.Result.{err_from_is_err_and}
use Rattle.req_tree.specs.Tree.{Tree}
use Rattle.req_tokens.specs.Terminals.{plains}
use Rattle.req_primary.specs.declared.fault.ReadingFault.{ReadingFault}
use Rattle.req_parser.specs.Given.{IsFault}
use Rattle.req_parser.specs.GivenParts.{AreParts}
use Rattle.req_parser.specs.SetReading.{parts_at}
use Rattle.req_parser.proofs.PartLoops.{IsOnTheWay, all_read, none_there, part_fault, some_there, way_ends, went_on}
use Rattle.req_parser.proofs.parts.parts_at.Goals as goal

pub returns-then-is_empty : goal.returns-then-is_empty
returns-then-is_empty c =
    all_read (length c.args.list.now) (length c.args.list.now - c.loop.counter) (parts_at (plains c.args.list.now)) c.loop.parts.items (plains c.loop.rest.now) c.loop.invariant
    (none_there c.loop.rest.now (sym c.is_empty.ensures ∙ c.if-is_empty.true))

pub returns-in_err-more : goal.returns-in_err-more
returns-in_err-more c =
    let p = err_from_is_err_and c.from_residual.result c.from_residual.ensures.1 in
    let f : IsOnTheWay (length c.args.list.now) (length c.args.list.now - c.loop.counter) (parts_at (plains c.args.list.now)) c.loop.parts.items (plains c.loop.rest.now) = c.loop.invariant in
    let one_less : length c.args.list.now - c.loop.counter ≡ suc (length c.args.list.now - (c.loop.counter + 1)) = omega arith in
    rw (p.1, p.2)
    (part_fault (length c.args.list.now) (length c.args.list.now - c.loop.counter) (length c.args.list.now - (c.loop.counter + 1)) (parts_at (plains c.args.list.now)) c.loop.parts.items (plains c.loop.rest.now) _ f one_less
    (some_there c.loop.rest.now (sym c.is_empty.ensures ∙ c.if-is_empty.false)) (c.in_err-more.ensures f.some f.tell))

pub loop-preserved : goal.loop-preserved
loop-preserved c =
    let f : IsOnTheWay (length c.args.list.now) (length c.args.list.now - c.loop.counter) (parts_at (plains c.args.list.now)) c.loop.parts.items (plains c.loop.rest.now) = c.loop.invariant in
    let one_less : length c.args.list.now - c.loop.counter ≡ suc (length c.args.list.now - (c.loop.counter + 1)) = omega arith in
    went_on (length c.args.list.now) (length c.args.list.now - c.loop.counter) (length c.args.list.now - (c.loop.counter + 1)) (parts_at (plains c.args.list.now)) c.loop.parts.items c.in_ok-more.more.items
    (plains c.loop.rest.now) (plains c.in_ok-more.behind.now) f one_less (some_there c.loop.rest.now (sym c.is_empty.ensures ∙ c.if-is_empty.false)) (c.in_ok-more.ensures f.some f.tell)

pub returns : goal.returns
returns c =
    let f : IsOnTheWay (length c.args.list.now) (length c.args.list.now - c.loop.counter) (parts_at (plains c.args.list.now)) c.loop.parts.items (plains c.loop.rest.now) = c.loop.invariant in
    let none : length c.args.list.now - c.loop.counter ≡ 0 = omega arith in
    subst (λ (read : Result (List (ℕ × Tree)) ReadingFault). MatchResult c.ended.result (λ parts. AreParts read parts.items) (IsFault read))
    (way_ends (length c.args.list.now) (length c.args.list.now - c.loop.counter) (parts_at (plains c.args.list.now)) c.loop.parts.items (plains c.loop.rest.now) f none)
    (c.ended.ensures f.some f.tell)
