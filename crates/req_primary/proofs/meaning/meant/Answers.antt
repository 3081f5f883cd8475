use Rattle.std.proofs.Common.{ℤ, ap, ◌∙◌, w32}
use Rattle.std.proofs.lemmas.Int.{to_z-of_z}
use Rattle.std.proofs.lemmas.Result.{IfOk-weaker}
use Rattle.req_tree.specs.Tree as t
use Rattle.req_primary.specs.Keys.{outcome_of, fine}
use Rattle.req_primary.proofs.Keys.{field_meant, extension_meant, policy_meant}
use Rattle.req_primary.proofs.meaning.meant.Goals as goal

pub returns-in-Field : goal.returns-in-Field
returns-in-Field c =
    IfOk-weaker _ _ _
    (λ built is. field_meant c.args.slot c.args.key c.args.test (outcome_of built) (rw c.in-Field.is at c.requires)
    (is ∙ ap (λ (slot : ℤ). fine (t.cert_field slot c.args.key c.args.test) 1) (to_z-of_z w32 c.args.slot c.ranges.slot))) c.leaf.ensures

pub returns-in-Extension : goal.returns-in-Extension
returns-in-Extension c =
    IfOk-weaker _ _ _
    (λ built is. extension_meant c.args.slot c.args.key c.in-Extension.oid c.args.test (outcome_of built) (rw c.in-Extension.is at c.requires)
    (is ∙ ap (λ (slot : ℤ). fine (t.cert_oid slot c.in-Extension.oid c.args.test) 1) (to_z-of_z w32 c.args.slot c.ranges.slot))) c.leaf-in-Extension.ensures

pub returns-in-Policy : goal.returns-in-Policy
returns-in-Policy c =
    IfOk-weaker _ _ _
    (λ built is. policy_meant c.args.slot c.args.key c.in-Policy.oid c.args.test (outcome_of built) (rw c.in-Policy.is at c.requires)
    (is ∙ ap (λ (slot : ℤ). fine (t.cert_policy slot c.in-Policy.oid c.args.test) 1) (to_z-of_z w32 c.args.slot c.ranges.slot))) c.leaf-in-Policy.ensures
