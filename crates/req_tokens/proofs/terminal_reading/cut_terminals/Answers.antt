use Rattle.std.proofs.Common.{◌≤◌, length, subst}
use Rattle.std.proofs.lemmas.List.{length-map}
use Rattle.req_tokens.specs.Cuts.{Cuts}
use Rattle.req_tokens.specs.Sorts.{plain_sort}
use Rattle.req_tokens.specs.Terminals.{plain, plains}
use Rattle.req_tokens.proofs.Led.{none_left, step_terminals, step_within, terminals_last}
use Rattle.req_tokens.proofs.terminal_reading.cut_terminals.Goals as goal

pub loop-rest-preserved : goal.loop-rest-preserved
loop-rest-preserved c =
    let cut : Cuts (plain_sort c.in_ok-sort.sort) c.loop-rest.rest.now c.in_ok-sort.front.now c.in_ok-sort.after.now = c.in_ok-sort.ensures.cut in
    record {
      led =
          step_terminals c.args.text.now c.loop-rest.rest.now c.in_ok-sort.front.now c.in_ok-sort.after.now (plains c.loop-rest.list.items) (plains c.add.new.list.items) (plain_sort c.in_ok-sort.sort)
          c.loop-rest.invariant.led cut c.loop-rest.invariant.within c.in_ok-add.ensures;
      within = step_within (length c.args.text.now) c.loop-rest.rest.now c.in_ok-sort.front.now c.in_ok-sort.after.now (plain_sort c.in_ok-sort.sort) cut c.loop-rest.invariant.within;
      short = c.loop-rest.invariant.short;
    }

pub returns : goal.returns
returns c =
    let last =
    terminals_last c.args.text.now c.loop-rest.rest.now _ (plains c.loop-rest.list.items) c.loop-rest.invariant.short c.loop-rest.invariant.led (none_left c.loop-rest.rest.now c.loop-rest-test.ensures) in
    (last.0, subst (λ n. n ≤ length c.args.text.now) (length-map c.loop-rest.list.items plain) last.1)
