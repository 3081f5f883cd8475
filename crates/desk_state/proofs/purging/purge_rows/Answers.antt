use Rattle.std.proofs.Common.{arith}
use Rattle.policy_model.specs.declared.limits.TheConstants.{MOST_RECEIPTS}
use Rattle.policy_model.specs.Rules.{execute, install}
use Rattle.desk_state.proofs.Purged.{kind_at_most}
use Rattle.desk_state.proofs.purging.purge_rows.Goals as goal

pub purge_kind-requires-2 : goal.purge_kind-requires-2
purge_kind-requires-2 c =
    let one = kind_at_most MOST_RECEIPTS execute _ c.args.objects.now c.purge_kind.new.objects (c.purge_kind.ensures.cache 0) c.requires.marks in
    omega (arith, one.installs)

pub purge_kind-requires-3 : goal.purge_kind-requires-3
purge_kind-requires-3 c =
    let one = kind_at_most MOST_RECEIPTS execute _ c.args.objects.now c.purge_kind.new.objects (c.purge_kind.ensures.cache 0) c.requires.marks in
    let two = kind_at_most 100001 install _ c.purge_kind.new.objects c.purge_kind-2.new.objects (c.purge_kind-2.ensures.cache 0) one in
    omega (arith, two.documents)
