use Rattle.cs_blob.proofs.PartsWritten.{fits_when}
use Rattle.cs_blob.proofs.laws.a_part_fits_where_there_is_room.Goals as goal

pub returns : goal.returns
returns c = fits_when
