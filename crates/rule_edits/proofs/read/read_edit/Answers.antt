-- The fault of the words behind a key is the fault of the edit.
use Rattle.std.proofs.Common.{◌≡◌, Ok, Err, refl}
use Rattle.std.specs.Option.{ok_or}
use Rattle.std.proofs.lemmas.Result.{err_from_is_err_and}
use Rattle.line_model.specs.LineFaults.{bad_line}
use Rattle.line_model.specs.Forms.{key_at}
use Rattle.line_model.specs.Contents.{verb_word, operands_at}
use Rattle.line_model.specs.Edits.{edit_at}
use Rattle.line_words.specs.Left.{left}
use Rattle.line_words.specs.Faults.{fault_of}
use Rattle.rule_edits.specs.EditKey.{key_bytes}
use Rattle.rule_edits.specs.Verb.{verb_of}
use Rattle.rule_edits.proofs.Keyed.{behind_key, edit-under_key}
use Rattle.rule_edits.proofs.read.read_edit.Goals as goal

pub returns-in_err-content : goal.returns-in_err-content
returns-in_err-content c =
    let p = err_from_is_err_and c.from_residual-in_err-content.result c.from_residual-in_err-content.ensures.1 in
    let verb : ok_or (verb_word c.args.first.now) (bad_line 1) ≡ Ok (verb_of c.in_ok-verb.verb) = c.in_ok-verb.ensures in
    let key : key_at (left c.args.words.now) ≡ Ok (key_bytes c.in_ok-key.key, left c.read_key.new.words) = c.in_ok-key.ensures in
    let read : edit_at c.args.first.now (left c.args.words.now)
    ≡ behind_key (key_bytes c.in_ok-key.key) (operands_at (verb_of c.in_ok-verb.verb) (left c.read_key.new.words)) = rw (verb, key) refl in
    rw (p.1, p.2, read)
    (λ known. edit-under_key (key_bytes c.in_ok-key.key) (operands_at (verb_of c.in_ok-verb.verb) (left c.read_key.new.words)) (Err (fault_of c.in_err-content.field-0.0)) (c.in_err-content.ensures known))
