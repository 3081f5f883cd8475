use Rattle.std.proofs.Common.{◌≡◌, ◌<◌, List, Some, None, false, arith, inl, sym, ap, ◌∙◌, subst, length}
use Rattle.cs_blob.specs.Writing.{Draft, has_kind, add_fault, total_of}
use Rattle.cs_blob.specs.declared.fault.WriterFault.TheVariants.{TooLong}
use Rattle.cs_blob.proofs.PartsWritten.{Part, draft-grown, fits_when, long_when}
use Rattle.cs_blob.proofs.writer.SuperWriter.add.Goals as goal

pub returns-then-self-part-gt-GREATEST_SIZE-clause-first : goal.returns-then-self-part-gt-GREATEST_SIZE-clause-first
returns-then-self-part-gt-GREATEST_SIZE-clause-first c =
    let parts : List Part = c.self.inside.parts.items in
    let same = c.deref.ensures.value in
    let own : has_kind parts c.args.kind ≡ false = ap (λ ps. has_kind ps c.args.kind) (sym same) ∙ sym c.has_kind.ensures ∙ c.if-has_kind.false in
    let few : length parts < 64 = omega (arith, ap length same) in
    let sized : c.self.inside.size ≡ total_of parts = c.self.invariant.1 in
    inl (subst (λ (d : Draft). add_fault d.parts c.args.kind c.args.part.now ≡ Some TooLong) c.self.view_is (long_when parts c.args.kind c.args.part.now own few (omega (arith, sized))))

pub invariant_of-self-2 : goal.invariant_of-self-2
invariant_of-self-2 c =
    let parts : List Part = c.self.inside.parts.items in
    let same = c.deref.ensures.value in
    let own : has_kind parts c.args.kind ≡ false = ap (λ ps. has_kind ps c.args.kind) (sym same) ∙ sym c.has_kind.ensures ∙ c.if-has_kind.false in
    let few : length parts < 64 = omega (arith, ap length same) in
    let sized : c.self.inside.size ≡ total_of parts = c.self.invariant.1 in
    draft-grown parts _ c.args.kind c.args.part.now _ c.self.inside.size c.self.inside.magic c.self.invariant c.requires c.ranges.kind.fits own few (omega (arith, sized)) c.in_ok-push.ensures.items c.in_ok-copy.ensures

pub returns-clause-fits : goal.returns-clause-fits
returns-clause-fits c =
    let parts : List Part = c.self.inside.parts.items in
    let same = c.deref.ensures.value in
    let own : has_kind parts c.args.kind ≡ false = ap (λ ps. has_kind ps c.args.kind) (sym same) ∙ sym c.has_kind.ensures ∙ c.if-has_kind.false in
    let few : length parts < 64 = omega (arith, ap length same) in
    let sized : c.self.inside.size ≡ total_of parts = c.self.invariant.1 in
    subst (λ (d : Draft). add_fault d.parts c.args.kind c.args.part.now ≡ None) c.self.view_is (fits_when parts c.args.kind c.args.part.now own few (omega (arith, sized)))
