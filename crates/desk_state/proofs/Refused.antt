-- With room for one receipt more, the rows alone say why an edit is refused.
use Rattle.std.proofs.Common.{◌≡◌, ◌<◌, length, refl, ap, ◌∙◌, Option, Some, None}
use Rattle.std.specs.Prelude.{if◌then◌else◌}
use Rattle.std.specs.Option.{option_or}
use Rattle.std.proofs.lemmas.Bool.{lt-ltb}
use Rattle.policy_model.specs.declared.limits.TheConstants.{MOST_RECEIPTS}
use Rattle.policy_model.specs.Contents.{NewRow, Content, add}
use Rattle.policy_model.specs.Tables.{Tables, Answer, receipts_full}
use Rattle.policy_model.specs.Refusals.{refusal, refused_by_rows, refused_by_count}

by_rows_alone : (c : Content) (t : Tables) → length t.receipts < MOST_RECEIPTS → refusal c t ≡ option_or (refused_by_rows c t.rows) (refused_by_count c t.rows)
by_rows_alone c t few = ap (λ b. option_or (refused_by_rows c t.rows) (option_or (if b then None else Some receipts_full) (refused_by_count c t.rows))) (lt-ltb (length t.receipts) MOST_RECEIPTS few)

or_none : (o : Option Answer) → option_or o None ≡ o
or_none None = refl
or_none (Some a) = refl

-- a rule that is added is refused as the rows say
pub by_rows_of_rule : (n : NewRow) (t : Tables) → length t.receipts < MOST_RECEIPTS → refusal (add n) t ≡ refused_by_rows (add n) t.rows
by_rows_of_rule n t few = by_rows_alone (add n) t few ∙ or_none (refused_by_rows (add n) t.rows)
