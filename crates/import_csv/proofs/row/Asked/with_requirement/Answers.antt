use Rattle.std.proofs.Common.{Ok, ap}
use Rattle.req_tree.specs.Tree.{tree_of}
use Rattle.policy_model.specs.Contents.{add}
use Rattle.line_model.specs.Edits.{keyed}
use Rattle.rule_edits.specs.EditKey.{key_bytes}
use Rattle.import_csv.specs.RowCode.{asked_of}
use Rattle.import_csv.proofs.Refused.{refused_row}
use Rattle.import_csv.proofs.row.Asked.with_requirement.Goals as goal

pub returns-in_ok-rule-in-Ok : goal.returns-in_ok-rule-in-Ok
returns-in_ok-rule-in-Ok c = (Ok (tree_of c.in-Ok.req), c.in-Ok.ensures, ap (λ rule. Ok (keyed (key_bytes c.args.self.key) (add rule))) c.in_ok-rule-in-Ok.ensures)

pub returns-in-Err : goal.returns-in-Err
returns-in-Err c = refused_row c.args.row (asked_of c.args.self) c.in-Err.fault c.refused.result c.refused.ensures c.in-Err.ensures
