use Rattle.std.proofs.Common.{◌≡◌, ℕ, List, ◌++◌, ap, ◌∙◌}
use Rattle.std.proofs.lemmas.List.{append_assoc}
use Rattle.req_blob.proofs.fault.OpsFault.line_into.Goals as goal

pushed : (old a b half new : List ℕ) → new ≡ half ++ b → half ≡ old ++ a → new ≡ old ++ (a ++ b)
pushed old a b half new p q = p ∙ ap (λ (t : List ℕ). t ++ b) q ∙ append_assoc old a b

pub returns-in-UnknownOp-clause-text : goal.returns-in-UnknownOp-clause-text
returns-in-UnknownOp-clause-text c = rw c.in-UnknownOp.is (pushed _ _ _ _ _ c.push_op.ensures.text c.push_field.ensures.text)

pub returns-in-OutOfScopeOp-clause-text : goal.returns-in-OutOfScopeOp-clause-text
returns-in-OutOfScopeOp-clause-text c = rw c.in-OutOfScopeOp.is c.push_field-in-OutOfScopeOp.ensures.text

pub returns-in-UnknownMatch-clause-text : goal.returns-in-UnknownMatch-clause-text
returns-in-UnknownMatch-clause-text c = rw c.in-UnknownMatch.is (pushed _ _ _ _ _ c.push_field-in-UnknownMatch-2.ensures.text c.push_field-in-UnknownMatch.ensures.text)

pub returns-in-BadPadding-clause-text : goal.returns-in-BadPadding-clause-text
returns-in-BadPadding-clause-text c = rw c.in-BadPadding.is c.push_field-in-BadPadding.ensures.text

pub returns-in-BadHashLength-clause-text : goal.returns-in-BadHashLength-clause-text
returns-in-BadHashLength-clause-text c = rw c.in-BadHashLength.is c.push_field-in-BadHashLength.ensures.text

pub returns-in-TooDeep-clause-text : goal.returns-in-TooDeep-clause-text
returns-in-TooDeep-clause-text c = rw c.in-TooDeep.is c.push_field-in-TooDeep.ensures.text

pub returns-in-Trailing-clause-text : goal.returns-in-Trailing-clause-text
returns-in-Trailing-clause-text c = rw c.in-Trailing.is c.push_field-in-Trailing.ensures.text
