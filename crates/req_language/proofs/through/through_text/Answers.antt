use Rattle.std.proofs.Common.{◌≡◌, ℕ, List, sym, ap, subst, ◌∙◌}
use Rattle.req_tree.specs.Tree.{Tree}
use Rattle.req_tree.specs.Normal.{normal}
use Rattle.req_grammar.specs.Readings.{IsRequirementText}
use Rattle.req_blob.specs.Spelling.{IsPlain}
use Rattle.dumped_text.specs.Dumped.{dumped}
use Rattle.dumped_text.specs.Sayable.{IsSayable}
use Rattle.req_language.specs.Steps.{IsTextOf}
use Rattle.req_language.specs.Through.{IsBlobOf, IsTextFault, IsThroughFault}
use Rattle.req_language.specs.Promise.{ComesBack}
use Rattle.req_language.proofs.InTheWay.{if_ok_map, if_err_map}
use Rattle.req_language.proofs.Refusals.{through_fault}
use Rattle.req_language.proofs.through.through_text.Goals as goal

pub returns-in-Ok-clause-back : goal.returns-in-Ok-clause-back
returns-in-Ok-clause-back c =
    let t = c.in-Ok.ensures.text in
    if_ok_map c.blob_of.result (IsBlobOf c.as_slice.result.now) (ComesBack c.args.bytes.now)
    (λ again b.
    let is : normal t.tree ≡ b.tree =
    c.a_printed_text_says_one_normal_form.ensures t.tree b.tree t.sayable
    (subst (λ (l : List ℕ). IsRequirementText l b.tree) (c.as_slice.ensures ∙ t.text_is) b.says) in
    c.normal_forms_come_back.ensures t.tree c.args.bytes.now again t.spelt (subst (λ (y : Tree). IsPlain y again) (sym is) b.plain))
    c.blob_of.ensures.blob

pub returns-in-Ok-clause-only : goal.returns-in-Ok-clause-only
returns-in-Ok-clause-only c tree spelt short shallow =
    let t = c.in-Ok.ensures.text in
    let same : t.tree ≡ tree = c.a_blob_spells_one_tree.ensures t.tree tree c.args.bytes.now t.spelt spelt in
    c.blob_of.ensures.only (normal tree)
    (subst (λ (l : List ℕ). IsRequirementText l (normal tree)) (sym (c.as_slice.ensures ∙ t.text_is ∙ ap dumped same))
    (c.texts_are_normal_forms.ensures.tree tree (subst IsSayable same t.sayable) short shallow))

pub returns-in-Err-clause-only : goal.returns-in-Err-clause-only
returns-in-Err-clause-only c tree spelt short shallow = c.in-Err.ensures.only tree spelt

pub returns-in-Ok-clause-fault : goal.returns-in-Ok-clause-fault
returns-in-Ok-clause-fault c =
    if_err_map c.blob_of.result (IsTextFault c.as_slice.result.now) (IsThroughFault c.args.bytes.now)
    (through_fault c.args.bytes.now c.as_slice.result.now (subst (IsTextOf c.args.bytes.now) (sym c.as_slice.ensures) c.in-Ok.ensures.text)) c.blob_of.ensures.exact

pub returns-in-Err-clause-fault : goal.returns-in-Err-clause-fault
returns-in-Err-clause-fault c = c.in-Err.ensures.fault
