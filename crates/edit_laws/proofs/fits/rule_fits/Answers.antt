use Rattle.std.proofs.Math.Logic.{∥∥₁_map}
use Rattle.edit_laws.proofs.fits.rule_fits.Goals as goal

pub returns : goal.returns
returns c =
    ∥∥₁_map c.args.rule.now.reads (λ reads. record {
      priority = c.priority_fits.ensures;
      expires = c.end_fits.ensures;
      label = c.label_fits.ensures;
      text = c.args.rule.now.text_is;
      reads = reads;
    })
