use Rattle.std.proofs.Common.{◌≡◌, ◌++◌, ℕ, List, subst, ◌∙◌}
use Rattle.std.specs.Result.{OnOk}
use Rattle.dumped_text.specs.Dumped.{oid_text}
use Rattle.req_dumper.proofs.field.put_oid.Goals as goal

pub returns-clause-text : goal.returns-clause-text
returns-clause-text c =
    let oid = c.args.oid.now in
    let same : c.in_ok-text.text ≡ oid_text oid =
    c.an_oid_has_one_text.ensures oid c.in_ok-text.text (oid_text oid) c.in_ok-text.ensures (c.oids_have_texts.ensures oid c.as_slice-bytes.ensures.oid) in
    subst (λ (t : List ℕ). OnOk c.put.result (c.put.new.out.items ≡ c.args.out.now.items ++ t)) (c.as_slice.ensures ∙ same) c.put.ensures
