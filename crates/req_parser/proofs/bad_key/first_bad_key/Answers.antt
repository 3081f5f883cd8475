use Rattle.std.proofs.Common.{◌≤◌, length, arith}
use Rattle.std.proofs.lemmas.List.{length-map}
use Rattle.req_tokens.specs.Terminals.{plain, plains}
use Rattle.req_parser.proofs.KeyPlaces.{good_none, good_more, good_all, first_bad, told_bad, told_good}
use Rattle.req_parser.proofs.bad_key.first_bad_key.Goals as goal

pub loop-at-init : goal.loop-at-init
loop-at-init c = good_none (plains c.args.list.now)

pub returns-then-branch : goal.returns-then-branch
returns-then-branch c =
    let within : c.loop-at.at ≤ length (plains c.args.list.now) = omega (arith, length-map c.args.list.now plain) in
    first_bad (plains c.args.list.now) c.loop-at.at within c.loop-at.invariant
    (told_bad c.in_ok-is_bad_front.field-0 c.split_at.result.1.now c.args.list.now c.loop-at.at c.if-branch.true c.split_at.ensures.back c.in_ok-is_bad_front.ensures)

pub loop-at-preserved : goal.loop-at-preserved
loop-at-preserved c =
    good_more (plains c.args.list.now) c.loop-at.at c.loop-at.invariant
    (told_good c.in_ok-is_bad_front.field-0 c.split_at.result.1.now c.args.list.now c.loop-at.at c.if-branch.false c.split_at.ensures.back c.in_ok-is_bad_front.ensures)

pub returns : goal.returns
returns c =
    let whole : length (plains c.args.list.now) ≤ c.loop-at.at = omega (arith, length-map c.args.list.now plain) in
    good_all (plains c.args.list.now) c.loop-at.at whole c.loop-at.invariant
