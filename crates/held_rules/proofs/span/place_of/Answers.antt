use Rattle.std.proofs.Common.{rules}
use Rattle.std.specs.Prelude.{nat_lt}
use Rattle.std.proofs.lemmas.List.Sorted.{IsPartitionPoint-from_clause}
use Rattle.held_rules.proofs.Spanned.{parted}
use Rattle.held_rules.proofs.span.place_of.Goals as goal

pub returns-clause-place : goal.returns-clause-place
returns-clause-place c =
    IsPartitionPoint-from_clause (λ r. nat_lt r.id c.args.id) c.args.rules.now c.partition_point.result c.partition_point.ensures.partitioned
    (parted c.args.rules.now c.args.id c.requires) (λ a r f k. search rules)
