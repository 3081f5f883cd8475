-- A front, a text and what the text reads as make the content of the words, or the fault of the text is theirs.
use Rattle.std.proofs.Common.{◌≡◌, Ok, refl, ap}
use Rattle.std.proofs.lemmas.Result.{err_from_is_err_and}
use Rattle.req_tree.specs.Tree.{tree_of}
use Rattle.policy_model.specs.Contents.{add}
use Rattle.line_model.specs.Fronts.{front_at}
use Rattle.line_model.specs.Requirements.{text_at}
use Rattle.line_model.specs.Contents.{add_at, adds}
use Rattle.line_words.specs.Left.{left}
use Rattle.rule_edits.specs.NewFront.{added_front}
use Rattle.rule_edits.proofs.Refused.{refused_text}
use Rattle.rule_edits.proofs.operands.read_add.Goals as goal

pub returns : goal.returns
returns c =
    let front : front_at (left c.args.words.now) ≡ Ok (added_front c.in_ok-front.front, left c.read_front.new.words) = c.in_ok-front.ensures in
    let text : text_at (left c.read_front.new.words) ≡ Ok c.in_ok-text.text.now = c.in_ok-text.ensures.text in
    let read : add_at (left c.args.words.now) ≡ Ok (adds (added_front c.in_ok-front.front) c.in_ok-text.text.now) = rw (front, text) refl in
    rw read (Ok (tree_of c.in_ok-req.req), c.in_ok-req.ensures, ap (λ rule. Ok (add rule)) c.in_ok-rule.ensures)

pub returns-in_err-req : goal.returns-in_err-req
returns-in_err-req c =
    let p = err_from_is_err_and c.from_residual-in_err-req.result c.from_residual-in_err-req.ensures.1 in
    let front : front_at (left c.args.words.now) ≡ Ok (added_front c.in_ok-front.front, left c.read_front.new.words) = c.in_ok-front.ensures in
    let text : text_at (left c.read_front.new.words) ≡ Ok c.in_ok-text.text.now = c.in_ok-text.ensures.text in
    let read : add_at (left c.args.words.now) ≡ Ok (adds (added_front c.in_ok-front.front) c.in_ok-text.text.now) = rw (front, text) refl in
    rw (p.1, p.2, read) (refused_text (added_front c.in_ok-front.front) c.in_ok-text.text.now _ c.in_err-req.ensures)
