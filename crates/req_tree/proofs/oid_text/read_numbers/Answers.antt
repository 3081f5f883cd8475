use Rattle.std.proofs.Common.{sym}
use Rattle.req_tree.proofs.OidTexts.{all_read}
use Rattle.req_tree.proofs.oid_text.read_numbers.Goals as goal

pub returns : goal.returns
returns c = all_read c.args.text.now _ _ _ _ _ (sym c.in_ok-number.ensures) c.new-bytes.ensures.items c.in_ok-push_number.ensures c.in_ok-push_later_numbers.ensures
