use Rattle.std.proofs.Common.{◌≡◌, true, false}
use Rattle.code_directory.proofs.directory.Directory.identifier.Goals as goal

no : false ≡ true → ⊥
no h = cc

pub unreachable-requires : goal.unreachable-requires
unreachable-requires c = no (c.in-None.ensures.fits.1 c.identifier_bytes.ensures.fits)
