use Rattle.code_facts.proofs.Listing.{listed_in_rows}
use Rattle.code_facts.proofs.laws.a_hash_is_listed_where_a_row_has_it.Goals as goal

pub returns : goal.returns
returns c = listed_in_rows
