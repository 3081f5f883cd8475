use Rattle.std.proofs.Common.{rules}
use Rattle.rule_edits.proofs.JoinedTexts.{joined_when, joined_front, joined_rest}
use Rattle.rule_edits.proofs.text.is_joined.Goals as goal

pub returns-then-begins : goal.returns-then-begins
returns-then-begins c =
    let parts = c.in-Some.ensures.cases in (
      λ ends. joined_when c.args.front.now c.args.rest.now c.in-Some.first.now c.in-Some.second.now c.args.text.now parts.1 parts.2 (search rules) (search (rules, ends)),
      λ e. let same = joined_rest c.args.front.now c.args.rest.now c.in-Some.first.now c.in-Some.second.now c.args.text.now parts.2 e in search (rules, same),
    )

pub returns-else-begins : goal.returns-else-begins
returns-else-begins c =
    let parts = c.in-Some.ensures.cases in (
      λ begins. search (rules, begins),
      λ e. let same = joined_front c.args.front.now c.args.rest.now c.in-Some.first.now c.in-Some.second.now c.args.text.now parts.1 e in search (rules, same),
    )
