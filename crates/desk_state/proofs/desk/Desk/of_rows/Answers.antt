use Rattle.std.proofs.Common.{ap}
use Rattle.std.specs.List.{filter}
use Rattle.object_model.specs.Objects.{is_unexpired}
use Rattle.raw_tables.specs.Raw.{plain_tables}
use Rattle.store_reading.specs.Tables.{tables_of}
use Rattle.desk_state.proofs.Loads.{loaded_stands}
use Rattle.desk_state.proofs.StaysFresh.{none_fresh}
use Rattle.desk_state.proofs.desk.Desk.of_rows.Goals as goal

pub invariant_of-result-clause-own_ids : goal.invariant_of-result-clause-own_ids
invariant_of-result-clause-own_ids c =
    let t = tables_of c.in_ok-stored.stored in
    c.kept_tables.ensures.ids t (c.stored_rows_mean_tables.ensures.kept (plain_tables c.args.raw.now) t c.in_ok-stored.ensures.accepted c.in_ok-stored.ensures.meant)

pub invariant_of-result-clause-kept : goal.invariant_of-result-clause-kept
invariant_of-result-clause-kept c =
    let t = tables_of c.in_ok-stored.stored in
    ∣ c.stored_rows_mean_tables.ensures.kept (plain_tables c.args.raw.now) t c.in_ok-stored.ensures.accepted c.in_ok-stored.ensures.meant ∣₁

pub returns-clause-stands : goal.returns-clause-stands
returns-clause-stands c =
    let t = tables_of c.in_ok-stored.stored in
    let kept = c.stored_rows_mean_tables.ensures.kept (plain_tables c.args.raw.now) t c.in_ok-stored.ensures.accepted c.in_ok-stored.ensures.meant in
    loaded_stands c.a_desk_goes_on_standing.ensures.opening _ c.zero.ensures (ap (filter (is_unexpired c.zero.result)) c.in_ok-objects.ensures.holds) c.in_ok-objects.ensures.counted c.in_ok-objects.ensures.untouched (c.kept_tables.ensures.ids t kept) (c.kept_tables.ensures.keys t kept)

pub invariant_of-result-clause-fresh : goal.invariant_of-result-clause-fresh
invariant_of-result-clause-fresh c = none_fresh _ _ _ _ c.in_ok-objects.ensures.holds
