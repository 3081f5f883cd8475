use Rattle.req_blob.proofs.Written.{blob_plain, blob_long, blob_exact, wanting_long, wanting_exact}
use Rattle.req_blob.proofs.encoding.encode.Goals as goal

pub returns-in-Ok-clause-plain : goal.returns-in-Ok-clause-plain
returns-in-Ok-clause-plain c = blob_plain _ _ _ c.requires c.in-Ok.ensures.fields c.in-Ok.ensures.plain (c.blob.ensures.blob, c.blob.ensures.long, c.blob.ensures.fault)

pub returns-in-Ok-clause-long : goal.returns-in-Ok-clause-long
returns-in-Ok-clause-long c = blob_long _ _ _ c.in-Ok.ensures.plain (c.blob.ensures.blob, c.blob.ensures.long, c.blob.ensures.fault)

pub returns-in-Ok-clause-exact : goal.returns-in-Ok-clause-exact
returns-in-Ok-clause-exact c = blob_exact _ _ _ c.in-Ok.ensures.plain (c.blob.ensures.blob, c.blob.ensures.long, c.blob.ensures.fault)

pub returns-in-Err-clause-long : goal.returns-in-Err-clause-long
returns-in-Err-clause-long c = wanting_long _ _ c.wanting.ensures.long

pub returns-in-Err-clause-exact : goal.returns-in-Err-clause-exact
returns-in-Err-clause-exact c = wanting_exact _ _ c.wanting.ensures.long.0 c.wanting.ensures.fault
