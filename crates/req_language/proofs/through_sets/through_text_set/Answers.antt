use Rattle.std.proofs.Common.{◌≡◌, ℕ, List, sym, ap, subst, ◌∙◌}
use Rattle.req_tree.specs.TreeSet.{TreeSet}
use Rattle.req_grammar.specs.Readings.{IsSetText}
use Rattle.req_ops.specs.SetEncoding.{IsPlainSet}
use Rattle.dumped_text.specs.Dumped.{dumped_set}
use Rattle.dumped_text.specs.Sets.{normal_set, IsSayableSet}
use Rattle.req_language.specs.Steps.{IsSetTextOf}
use Rattle.req_language.specs.ThroughSets.{IsSetBlobOf, IsSetTextFault, IsThroughSetFault}
use Rattle.req_language.specs.Promise.{SetComesBack}
use Rattle.req_language.proofs.InTheWay.{if_ok_map, if_err_map}
use Rattle.req_language.proofs.Refusals.{through_set_fault}
use Rattle.req_language.proofs.through_sets.through_text_set.Goals as goal

pub returns-in-Ok-clause-back : goal.returns-in-Ok-clause-back
returns-in-Ok-clause-back c =
    let t = c.in-Ok.ensures.text in
    if_ok_map c.blob_of_set.result (IsSetBlobOf c.as_slice.result.now) (SetComesBack c.args.bytes.now)
    (λ again b.
    let is : normal_set t.set ≡ b.set =
    c.a_printed_set_says_one_normal_form.ensures t.set b.set t.sayable
    (subst (λ (l : List ℕ). IsSetText l b.set) (c.as_slice.ensures ∙ t.text_is) b.says) in
    c.normal_sets_come_back.ensures t.set c.args.bytes.now again t.spelt (subst (λ (y : TreeSet). IsPlainSet y again) (sym is) b.plain))
    c.blob_of_set.ensures.blob

pub returns-in-Ok-clause-only : goal.returns-in-Ok-clause-only
returns-in-Ok-clause-only c set spelt short shallow =
    let t = c.in-Ok.ensures.text in
    let same : t.set ≡ set = c.bytes_spell_one_set.ensures t.set set c.args.bytes.now t.spelt spelt in
    c.blob_of_set.ensures.only (normal_set set)
    (subst (λ (l : List ℕ). IsSetText l (normal_set set)) (sym (c.as_slice.ensures ∙ t.text_is ∙ ap dumped_set same))
    (c.texts_are_normal_forms.ensures.set set (subst IsSayableSet same t.sayable) short shallow))

pub returns-in-Err-clause-only : goal.returns-in-Err-clause-only
returns-in-Err-clause-only c set spelt short shallow = c.in-Err.ensures.only set spelt

pub returns-in-Ok-clause-fault : goal.returns-in-Ok-clause-fault
returns-in-Ok-clause-fault c =
    if_err_map c.blob_of_set.result (IsSetTextFault c.as_slice.result.now) (IsThroughSetFault c.args.bytes.now)
    (through_set_fault c.args.bytes.now c.as_slice.result.now (subst (IsSetTextOf c.args.bytes.now) (sym c.as_slice.ensures) c.in-Ok.ensures.text)) c.blob_of_set.ensures.exact

pub returns-in-Err-clause-fault : goal.returns-in-Err-clause-fault
returns-in-Err-clause-fault c = c.in-Err.ensures.fault
