use Rattle.std.proofs.Common.{sym}
use Rattle.req_tree.proofs.OidTexts.{no_first, oid_written}
use Rattle.req_tree.proofs.oid_text.push_oid.Goals as goal

pub unreachable-requires : goal.unreachable-requires
unreachable-requires c = no_first _ c.requires (sym c.in_default.ensures.number)

pub returns : goal.returns
returns c = oid_written _ _ _ _ _ _ c.requires (sym c.in-Some.ensures.number) c.in_ok-push_first.ensures c.in_ok-push_arcs.ensures
