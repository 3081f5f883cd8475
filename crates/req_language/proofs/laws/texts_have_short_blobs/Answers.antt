use Rattle.req_language.proofs.BlobSizes.{text_short, set_text_short}
use Rattle.req_language.proofs.laws.texts_have_short_blobs.Goals as goal

pub returns-clause-tree : goal.returns-clause-tree
returns-clause-tree c = text_short (λ front rest kind. c.tokens_have_terminals_of_their_kind.ensures.one kind front rest)

pub returns-clause-set : goal.returns-clause-set
returns-clause-set c = set_text_short (λ front rest kind. c.tokens_have_terminals_of_their_kind.ensures.one kind front rest) c.a_super_blob_has_its_total.ensures
