-- The two parts of a content's text are that text.
use Rattle.std.proofs.Common.{◌≡◌, ◌++◌, refl}
use Rattle.std.proofs.lemmas.List.{append-nil}
use Rattle.policy_model.specs.Contents.{Content, add, remove, enable, disable, expire, switch}
use Rattle.policy_model.specs.Texts.{content_text}
use Rattle.rule_edits.specs.Fronts.{front_of, rest_of}

pub two_parts : (c : Content) → front_of c ++ rest_of c ≡ content_text c
unfolding content_text
two_parts (add n) = refl
two_parts (remove s) = append-nil _
two_parts (enable s) = append-nil _
two_parts (disable s) = append-nil _
two_parts (expire s m) = append-nil _
two_parts (switch on) = append-nil _
