-- A content's canonical text in two parts.
use Rattle.std.specs.Prelude.{ℕ, List, []}
use Rattle.policy_model.specs.Contents.{Content, add, remove, enable, disable, expire, switch}
use Rattle.policy_model.specs.Texts.{add_front, content_text}

-- the words of a content, without an added rule's requirement
abbrev pub front_of : Content → List ℕ
front_of (add n) = add_front n
front_of (remove s) = content_text (remove s)
front_of (enable s) = content_text (enable s)
front_of (disable s) = content_text (disable s)
front_of (expire s m) = content_text (expire s m)
front_of (switch on) = content_text (switch on)

-- an added rule's requirement, and nothing for other contents
abbrev pub rest_of : Content → List ℕ
rest_of (add n) = n.text
rest_of (remove s) = []
rest_of (enable s) = []
rest_of (disable s) = []
rest_of (expire s m) = []
rest_of (switch on) = []
