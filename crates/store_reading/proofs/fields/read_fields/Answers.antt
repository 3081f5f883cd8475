use Rattle.std.proofs.Common.{◌≡◌, ◌≤◌, length, refl, subst, ◌∙◌, rules, w64, SFits}
use Rattle.std.specs.Prelude.{ℤ, pos, ◌≤ℤ◌}
use Rattle.policy_model.specs.declared.limits.TheConstants.{MOST_DISABLES, MOST_LABEL_BYTES, LEAST_PRIORITY, GREATEST_PRIORITY}
use Rattle.rule_values.specs.Kind.{kind_of}
use Rattle.store_model.specs.Accepted.{IsWithin, AreFlags}
use Rattle.store_model.specs.Stored.{kind_number, bool_number, flags_number}
use Rattle.store_reading.proofs.Passed.{passed}
use Rattle.store_reading.proofs.fields.read_fields.Goals as goal

pub returns : goal.returns
returns c =
    let kind_fits : SFits w64 c.args.row.now.kind = search rules in
    let allow_fits : SFits w64 c.args.row.now.allow = search rules in
    let disabled_fits : SFits w64 c.args.row.now.disabled = search rules in
    let priority_fits : SFits w64 c.args.row.now.priority = search rules in
    let flags_fit : SFits w64 c.args.row.now.flags = search rules in
    let kind = passed (IsWithin 1 3) (λ kind. kind_number (kind_of kind)) c.in_ok-kind.kind c.args.row.now.kind kind_fits c.in_ok-kind.ensures in
    let allow = passed (IsWithin 0 1) bool_number c.in_ok-allow.allow c.args.row.now.allow allow_fits c.in_ok-allow.ensures in
    let disabled = passed (IsWithin 0 MOST_DISABLES) pos c.in_ok-disabled.disabled c.args.row.now.disabled disabled_fits c.in_ok-disabled.ensures in
    let priority = passed (λ z. (LEAST_PRIORITY ≤ℤ z) × (z ≤ℤ GREATEST_PRIORITY)) (λ (p : ℤ). p) c.in_ok-priority.priority c.args.row.now.priority priority_fits (c.in_ok-priority.ensures.fits.0 refl, c.in_ok-priority.ensures.value) in
    let flags = passed AreFlags (λ flags. flags_number flags.is_default flags.inhibit) c.in_ok-flags.flags c.args.row.now.flags flags_fit c.in_ok-flags.ensures in (
      record {
        kind = kind.0;
        allow = allow.0;
        disabled = disabled.0;
        expires = c.in_ok-expires.ensures.0;
        priority = priority.0;
        flags = flags.0;
        label = subst (λ l. length l ≤ MOST_LABEL_BYTES) c.as_slice.ensures (c.in_ok-label.ensures.fits.0 refl);
      },
      record {
        kind = kind.1;
        allow = allow.1;
        disabled = disabled.1;
        expires = c.in_ok-expires.ensures.1;
        priority = priority.1;
        flags = flags.1;
        label = c.in_ok-label.ensures.bytes ∙ c.as_slice.ensures;
      },
    )
