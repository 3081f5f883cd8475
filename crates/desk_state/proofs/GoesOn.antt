-- What an edit does, by its key.
use Rattle.std.proofs.Common.{◌≡◌, ap, Some, None}
use Rattle.policy_model.specs.Contents.{Edit}
use Rattle.policy_model.specs.Tables.{Tables, Receipt}
use Rattle.policy_model.specs.Refusals.{refusal}
use Rattle.policy_model.specs.Edits.{does, does_at, at_new, kept}

-- an edit under a key that is kept changes nothing
pub kept_same : (t : Tables) (e : Edit) (r : Receipt) → Some r ≡ kept t.receipts e.key → t ≡ (does t e).tables
kept_same t e r k = ap (λ x. (does_at x e t).tables) k

-- under a new key
pub new_does : (t : Tables) (e : Edit) → None ≡ kept t.receipts e.key → at_new (refusal e.content t) e t ≡ does t e
new_does t e k = ap (λ x. does_at x e t) k
