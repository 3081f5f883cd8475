use Rattle.std.proofs.Math.Logic.{∥∥₁_map}
use Rattle.desk_state.proofs.fits.edit_fits.Goals as goal

pub returns : goal.returns
returns c = ∥∥₁_map c.a_content_fits_a_line.ensures (λ fits. record { key = c.args.edit.now.key.key; content = fits })
