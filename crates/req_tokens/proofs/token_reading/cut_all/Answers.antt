use Rattle.std.proofs.Common.{length}
use Rattle.req_tokens.specs.Cuts.{Cuts}
use Rattle.req_tokens.specs.Sorts.{plain_sort}
use Rattle.req_tokens.specs.Tokens.{tokens_of}
use Rattle.req_tokens.proofs.Led.{led_last, none_left, step_tokens, step_within}
use Rattle.req_tokens.proofs.token_reading.cut_all.Goals as goal

pub loop-rest-preserved : goal.loop-rest-preserved
loop-rest-preserved c =
    let cut : Cuts (plain_sort c.in_ok-sort.sort) c.loop-rest.rest.now c.in_ok-sort.front.now c.in_ok-sort.after.now = c.in_ok-sort.ensures.cut in
    record {
      led =
          step_tokens c.args.text.now c.loop-rest.rest.now c.in_ok-sort.front.now c.in_ok-sort.after.now (tokens_of c.loop-rest.list) (tokens_of c.add.new.list) (plain_sort c.in_ok-sort.sort)
          c.loop-rest.invariant.led cut c.loop-rest.invariant.within c.in_ok-add.ensures;
      within = step_within (length c.args.text.now) c.loop-rest.rest.now c.in_ok-sort.front.now c.in_ok-sort.after.now (plain_sort c.in_ok-sort.sort) cut c.loop-rest.invariant.within;
      short = c.loop-rest.invariant.short;
    }

pub returns : goal.returns
returns c =
    record {
      short = c.loop-rest.invariant.short;
      tokens_are = led_last c.args.text.now c.loop-rest.rest.now _ (tokens_of c.loop-rest.list) c.loop-rest.invariant.led (none_left c.loop-rest.rest.now c.loop-rest-test.ensures);
    }
