use Rattle.std.proofs.Common.{subst}
use Rattle.req_language.specs.Through.{IsMemory, IsTextFault}
use Rattle.language_commands.specs.Refusals.{text_refusal}
use Rattle.language_commands.specs.Compiling.{IsBlob, RefusesText, SaysOfText}
use Rattle.language_commands.proofs.TakenOrRefused.{refusal_of}
use Rattle.language_commands.proofs.compiling.compiled.Goals as goal

pub returns-in-Ok-clause-says : goal.returns-in-Ok-clause-says
returns-in-Ok-clause-says c =
    let b = c.in-Ok.ensures.blob in
    record {
      tree = b.tree;
      is_text = b.says;
      only = λ other is. c.texts_say_one_tree.ensures.tree c.args.text.now other b.tree is b.says;
      says = (b.plain.plain_is, b.plain.spelled.short);
    }

pub returns-in-Err-Text-clause-says : goal.returns-in-Err-Text-clause-says
returns-in-Err-Text-clause-says c =
    let text = c.args.text.now in
    let fault = c.in-Err-Text.fault in
    let is_text = c.in-Err-Text.field-0-is in
    refusal_of (SaysOfText IsBlob text) (RefusesText text) (text_refusal fault) c.refuse_text.result
    (λ said known line. record { none = λ tree is. known (subst IsMemory is_text (c.in-Err-Text.ensures.only tree is)); fault = fault; known = known; fails = subst (IsTextFault text) is_text c.in-Err-Text.ensures.exact; line = line })
    c.refuse_text.ensures.known c.refuse_text.ensures.status c.refuse_text.ensures.text
