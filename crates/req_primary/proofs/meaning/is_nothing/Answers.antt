use Rattle.req_primary.proofs.Keys.{field_told, extension_told, policy_told}
use Rattle.req_primary.proofs.meaning.is_nothing.Goals as goal

pub returns-in-Field : goal.returns-in-Field
returns-in-Field c = λ key means. field_told key (rw c.in-Field.is at means)

pub returns-in-Extension : goal.returns-in-Extension
returns-in-Extension c = λ key means. extension_told key c.in-Extension.oid (rw c.in-Extension.is at means)

pub returns-in-Policy : goal.returns-in-Policy
returns-in-Policy c = λ key means. policy_told key c.in-Policy.oid (rw c.in-Policy.is at means)
