-- The texts of replies. This project's own.
use Rattle.std.specs.Prelude.{ℕ, List, ◌++◌, Bool, Option, Some, None, if◌then◌else◌, codes, decimal}
use Rattle.line_text.specs.WordText.{word_text}
use Rattle.policy_model.specs.Outcomes.{Verdict}
use Rattle.policy_model.specs.Tables.{Answer, done, repeated, key_reused, no_rule, table_full, receipts_full, disable_full}

-- where a verdict comes from: the rules, a kept outcome, or that the code has no signature
pub data Origin : Type 0 where
  rules : Origin
  cache : Origin
  unsigned : Origin

-- the word behind source=
abbrev pub origin_text : Origin → List ℕ
origin_text rules = codes "rules"
origin_text cache = codes "cache"
origin_text unsigned = codes "unsigned"

-- what became of the offer to keep the outcome
pub data Fate : Type 0 where
  -- no rule was asked, so there was nothing to offer
  not_offered : Fate
  kept : Fate
  -- the asker or the rule forbade to keep it
  inhibited : Fate
  -- an edit since the ask touched a rule that it rests on
  moved : Fate
  -- its end was reached
  expired : Fate
  -- one of that kind and subject is kept already
  twice : Fate
  -- as many are kept as may be
  full : Fate

-- the word behind cache=
abbrev pub fate_text : Fate → List ℕ
fate_text not_offered = codes "none"
fate_text kept = codes "kept"
fate_text inhibited = codes "inhibited"
fate_text moved = codes "moved"
fate_text expired = codes "expired"
fate_text twice = codes "twice"
fate_text full = codes "full"

-- a rule's number, or none
abbrev pub number_text : Option ℕ → List ℕ
number_text None = codes "none"
number_text (Some n) = decimal n

-- the first word of a verdict
abbrev pub accepted_text : Bool → List ℕ
accepted_text allow = if allow then codes "accepted" else codes "rejected"

-- the word behind override=
abbrev pub override_text : Bool → List ℕ
override_text overridden = if overridden then codes "security%20disabled" else codes "none"

-- the reply to an assessment
unfoldable pub verdict_text : Verdict → Origin → Fate → List ℕ
verdict_text v origin fate =
    accepted_text v.allow ++ codes " at=" ++ decimal v.at ++ codes " rule=" ++ number_text v.rule ++ codes " latent=" ++ number_text v.latent
    ++ codes " label=" ++ word_text v.label ++ codes " override=" ++ override_text v.overridden
    ++ codes " source=" ++ origin_text origin ++ codes " cache=" ++ fate_text fate

-- the edit's number, and how many rules it touched
abbrev pub numbers_text : ℕ → ℕ → List ℕ
numbers_text number count = codes " edit=" ++ decimal number ++ codes " rules=" ++ decimal count

-- the reply to an edit
abbrev pub answer_text : Answer → List ℕ
answer_text (done n k) = codes "ok" ++ numbers_text n k
answer_text (repeated n k) = codes "repeated" ++ numbers_text n k
answer_text (key_reused n k) = codes "refused edit 12 KeyReused" ++ numbers_text n k
answer_text no_rule = codes "refused edit 11 NoRule"
answer_text table_full = codes "refused edit 13 TableFull"
answer_text receipts_full = codes "refused edit 14 ReceiptsFull"
answer_text (disable_full id) = codes "refused edit 15 DisableFull rule=" ++ decimal id

-- the desk's moment
abbrev pub now_text : ℕ → List ℕ
now_text m = codes "now=" ++ decimal m
