use Rattle.std.proofs.Common.{rules}
use Rattle.authority_table.proofs.Ranked.{ranked_from_sort}
use Rattle.authority_table.proofs.rules.sort_by_rank.Goals as goal

pub returns-clause-ranked : goal.returns-clause-ranked
returns-clause-ranked c = ranked_from_sort _ c.in_ok-sort_by.ensures.sorted (λ a r q k. search rules)
