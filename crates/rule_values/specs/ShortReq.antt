-- What a requirement means that stands in its rule.
use Rattle.std.specs.Prelude.{Bool, true, false, bytes_eq}
use Rattle.req_tree.specs.Tree.{Tree}
use Rattle.req_tree.specs.Subject.{Subject}
use Rattle.req_tree.specs.Facts.{Known}
use Rattle.req_tree.specs.Meaning.{means}
use Rattle.rule_values.specs.declared.short_req.ShortReq.{ShortReq}
use Rattle.rule_values.specs.declared.short_req.ShortReq.TheVariants.{Always, Never, CdHash, Long}

-- always, never, by the hash of the code, or what its tree means
abbrev pub short_means : ShortReq → Tree → Subject → Known → Bool
short_means Always tree s k = true
short_means Never tree s k = false
short_means (CdHash hash) tree s k = bytes_eq s.cdhash hash.bytes
short_means Long tree s k = means tree s k
