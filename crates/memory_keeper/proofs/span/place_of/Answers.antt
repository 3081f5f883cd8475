use Rattle.std.proofs.Common.{rules}
use Rattle.std.specs.Prelude.{pos, int_lt}
use Rattle.std.proofs.Props.{props}
use Rattle.std.proofs.Math.Logic.{∥∥₁_elim}
use Rattle.std.proofs.lemmas.List.Sorted.{IsPartitionPoint-from_clause}
use Rattle.memory_keeper.proofs.Spanned.{parted}
use Rattle.memory_keeper.proofs.span.place_of.Goals as goal

pub returns-clause-place : goal.returns-clause-place
returns-clause-place c =
    IsPartitionPoint-from_clause (λ r. int_lt r.id (pos c.args.id)) c.args.rules.now c.partition_point.result c.partition_point.ensures.partitioned
    (λ i j d le lt t. ∥∥₁_elim c.requires (hlevel props) (λ up. parted c.args.rules.now (pos c.args.id) up i j d le lt t)) (λ a r f k. search (rules, c.stored_id-id.ensures))
