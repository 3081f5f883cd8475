use Rattle.std.proofs.Common.{length}
use Rattle.req_tree.specs.Tree.{tree_of}
use Rattle.req_blob.specs.Spelling.{plain_blob}
use Rattle.req_language.proofs.InTheWay.{memory_alone}
use Rattle.req_language.proofs.through.blob_of.Goals as goal

pub returns-in-Err-blob-clause-only : goal.returns-in-Err-blob-clause-only
returns-in-Err-blob-clause-only c tree says =
    let why = c.in-Err-blob.fault in
    let own = tree_of c.in-Ok.req in
    memory_alone why (length (plain_blob own)) (c.texts_have_short_blobs.ensures.tree c.args.text.now own c.in-Ok.ensures.found)
    (c.what_is_refused_is_too_long.ensures why own c.in-Err-blob.ensures.exact)

pub returns-in-Err-blob-clause-exact : goal.returns-in-Err-blob-clause-exact
returns-in-Err-blob-clause-exact c =
    let why = c.in-Err-blob.fault in
    let own = tree_of c.in-Ok.req in
    memory_alone why (length (plain_blob own)) (c.texts_have_short_blobs.ensures.tree c.args.text.now own c.in-Ok.ensures.found)
    (c.what_is_refused_is_too_long.ensures why own c.in-Err-blob.ensures.exact)
