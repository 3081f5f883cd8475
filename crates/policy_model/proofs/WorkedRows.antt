-- Worked edits and assessments, computed by the definitions alone: what was worked out by hand.
use Rattle.std.specs.Prelude.{◌≡◌, ℕ, List, [], ◌∷◌, map, true, false, replicate, refl, codes, Option, Some, None, pos, negsuc}
use Rattle.std.specs.Fmt.{digits}
use Rattle.req_tree.specs.Tree.{always}
use Rattle.req_tree.specs.Facts.{no_facts}
use Rattle.req_tree.specs.Subject.{Subject}
use Rattle.policy_model.specs.Rules.{execute, install, document, Row}
use Rattle.policy_model.specs.Outcomes.{Ask, governed, default, outcome}
use Rattle.policy_model.specs.Contents.{NewRow, add, remove, disable, enable, expire, switch, by_id, by_label, Selector, Edit}
use Rattle.policy_model.specs.Texts.{places, add_front, content_text, priority_text}
use Rattle.policy_model.specs.Tables.{Tables, repeated, key_reused, no_rule, table_full}
use Rattle.policy_model.specs.Changes.{added_row, rows_after, touched_by}
use Rattle.policy_model.specs.Refusals.{refusal, refused_by_rows}
use Rattle.policy_model.specs.Edits.{does}
use Rattle.policy_model.specs.History.{Event, tick, edit, fresh, tables_of, edit_answer, ask_answer}
use Rattle.policy_model.specs.ReplyTexts as reply
use Rattle.policy_model.specs.ReplyTexts.{Origin, Fate, verdict_text, answer_text}

-- a rule for what is executed, which always means true
abbrev dev_id : NewRow
dev_id = record {
  kind = execute;
  allow = true;
  priority = pos 0;
  expires = None;
  label = codes "Dev ID";
  is_default = true;
  inhibit = false;
  text = codes "always";
  tree = always;
}

-- a denial of the same, at the same priority
abbrev denied : NewRow
denied = record dev_id { allow = false; label = codes "denied" }

abbrev first_rule : Edit
first_rule = record { key = codes "a"; content = add dev_id }

abbrev id_one : Selector
id_one = record { which = by_id 1; kind = Some execute }

abbrev labelled : Selector
labelled = record { which = by_label (codes "Dev ID"); kind = None }

abbrev turned_off : Edit
turned_off = record { key = codes "b"; content = disable id_one }

abbrev turned_on : Edit
turned_on = record { key = codes "c"; content = enable labelled }

abbrev subject : Subject
subject = record { cdhash = replicate 20 17; identifier = codes "com.example.app"; platform = 0 }

abbrev asked : Ask
asked = record { kind = execute; subject = Some subject; keep = true }

-- where the verdict on an ask comes from while nothing is kept
abbrev origin_on : Option Subject → Origin
origin_on None = reply.unsigned
origin_on (Some s) = reply.rules

-- what becomes of its outcome then
abbrev fate_on : Option Subject → Fate
fate_on None = reply.not_offered
fate_on (Some s) = reply.kept

-- the reply to the ask after some events, from nothing
abbrev replied : List Event → Ask → List ℕ
replied h a = verdict_text (ask_answer (fresh no_facts) h a) (origin_on a.subject) (fate_on a.subject)

-- the tables after some edits, from nothing
abbrev made : List Edit → Tables
made edits = tables_of (fresh no_facts) (map edit edits)

-- a disabled rule is latent, and lends the denial its label
latent : replied (edit first_rule ∷ edit turned_off ∷ []) asked
    ≡ codes "rejected at=0 rule=none latent=1 label=Dev%20ID override=none source=rules cache=kept"
unfolding digits places add_front content_text verdict_text
latent = refl

enabled_again : replied (edit first_rule ∷ edit turned_off ∷ edit turned_on ∷ []) asked
    ≡ codes "accepted at=0 rule=1 latent=none label=Dev%20ID override=none source=rules cache=kept"
unfolding digits places add_front content_text verdict_text
enabled_again = refl

-- where assessments are switched off a denial is overridden
overridden : replied (tick 5 ∷ edit (record { key = codes "s"; content = switch false }) ∷ []) asked
    ≡ codes "accepted at=5 rule=none latent=none label=no%20matching%20rule override=security%20disabled source=rules cache=kept"
unfolding digits places add_front content_text verdict_text
overridden = refl

-- and an acceptance isn't
not_overridden : replied (edit first_rule ∷ edit (record { key = codes "s"; content = switch false }) ∷ []) asked
    ≡ codes "accepted at=0 rule=1 latent=none label=Dev%20ID override=none source=rules cache=kept"
unfolding digits places add_front content_text verdict_text
not_overridden = refl

unsigned : replied [] (record asked { subject = None })
    ≡ codes "rejected at=0 rule=none latent=none label=no%20usable%20signature override=none source=unsigned cache=none"
unfolding digits verdict_text
unsigned = refl

-- of two rules of one priority the older decides
older : replied (edit first_rule ∷ edit (record { key = codes "d"; content = add denied }) ∷ []) asked
    ≡ codes "accepted at=0 rule=1 latent=none label=Dev%20ID override=none source=rules cache=kept"
unfolding digits places add_front content_text verdict_text
older = refl

-- a higher priority decides before an older rule
higher : replied (edit first_rule ∷ edit (record { key = codes "d"; content = add (record denied { priority = pos 1 }) }) ∷ []) asked
    ≡ codes "rejected at=0 rule=2 latent=none label=denied override=none source=rules cache=kept"
unfolding digits places add_front content_text verdict_text
higher = refl

-- what a rule decides stands until the rule ends
until_it_ends : outcome (added_row 1 (record dev_id { expires = Some 100 }) ∷ []) execute subject no_facts 99
    ≡ governed (record { priority = pos 0; id = 1 }) true (codes "Dev ID") false (Some 100)
until_it_ends = refl

-- and at its end no rule decides; that stands 60 seconds
sixty_seconds : outcome (added_row 1 (record dev_id { expires = Some 100 }) ∷ []) execute subject no_facts 100
    ≡ default None (codes "no matching rule") 160
sixty_seconds = refl

-- or until the latent rule ends
until_latent_ends : outcome (record (added_row 1 (record dev_id { expires = Some 100 })) { disabled = 1 } ∷ []) execute subject no_facts 99
    ≡ default (Some 1) (codes "Dev ID") 100
until_latent_ends = refl

nothing_selected : answer_text (edit_answer (fresh no_facts) [] (record { key = codes "k"; content = remove id_one }))
    ≡ codes "refused edit 11 NoRule"
nothing_selected = refl

-- the same content under a key that is kept
repeats : (does (made (first_rule ∷ turned_off ∷ [])) first_rule).answer ≡ repeated 1 1
unfolding digits places add_front content_text
repeats = refl

-- another content under it
reuses : (does (made (first_rule ∷ turned_off ∷ [])) (record { key = codes "b"; content = remove id_one })).answer ≡ key_reused 2 1
unfolding digits places add_front content_text
reuses = refl

-- what each edit makes of two rules

abbrev one : Row
one = added_row 1 dev_id

abbrev two : Row
two = added_row 2 (record dev_id { kind = install })

abbrev install_id_two : Selector
install_id_two = record { which = by_id 2; kind = Some install }

removed : rows_after 3 (remove id_one) (one ∷ two ∷ []) ≡ two ∷ []
removed = refl

added : rows_after 2 (add denied) (one ∷ []) ≡ one ∷ added_row 2 denied ∷ []
added = refl

disabled_twice : rows_after 4 (disable labelled) (rows_after 3 (disable install_id_two) (one ∷ two ∷ []))
    ≡ record one { disabled = 1 } ∷ record two { disabled = 2 } ∷ []
disabled_twice = refl

enabled_at_once : rows_after 5 (enable labelled) (record one { disabled = 7 } ∷ two ∷ []) ≡ one ∷ two ∷ []
enabled_at_once = refl

given_an_end : rows_after 3 (expire install_id_two (Some 100)) (one ∷ two ∷ []) ≡ one ∷ record two { expires = Some 100 } ∷ []
given_an_end = refl

freed_of_it : rows_after 4 (expire labelled None) (one ∷ record two { expires = Some 100 } ∷ []) ≡ one ∷ two ∷ []
freed_of_it = refl

-- a kind that isn't the rule's selects it not
of_another_kind : refused_by_rows (remove (record { which = by_id 2; kind = Some execute })) (one ∷ two ∷ []) ≡ Some no_rule
of_another_kind = refl

-- the rows that are touched, as they were before, but an added one
touched_both : touched_by 3 (enable labelled) (one ∷ two ∷ []) ≡ one ∷ two ∷ []
touched_both = refl

touched_one : touched_by 3 (remove id_one) (one ∷ two ∷ []) ≡ one ∷ []
touched_one = refl

touched_new : touched_by 3 (add denied) (one ∷ two ∷ []) ≡ added_row 3 denied ∷ []
touched_new = refl

touched_none : touched_by 3 (switch false) (one ∷ two ∷ []) ≡ []
touched_none = refl

-- refusals by a full table, full receipts and full counts

full_table : refused_by_rows (add dev_id) (replicate 10000 one) ≡ Some table_full
full_table = refl

room_for_one : refused_by_rows (add dev_id) (replicate 9999 one) ≡ None
room_for_one = refl

-- rows of ids 2 and 1, both disabled 1,000 times, in no order
abbrev worn : Tables
worn = record { rows = record two { disabled = 1000 } ∷ record one { disabled = 1000 } ∷ []; receipts = []; enabled = true }

-- a rule is disabled 1,000 times at most, and the refusal names the least id of those that were
disabled_too_often : answer_text (does worn (record { key = codes "k"; content = disable labelled })).answer
    ≡ codes "refused edit 15 DisableFull rule=1"
unfolding digits
disabled_too_often = refl

-- it can be enabled
not_too_often : refusal (enable labelled) worn ≡ None
not_too_often = refl

-- the canonical texts

half : priority_text (pos 20500000) ≡ codes "20.5"
unfolding digits places
half = refl

below_zero : priority_text (negsuc 1499) ≡ codes "-0.0015"
unfolding digits places
below_zero = refl

add_line : content_text (add (record denied { kind = document; priority = pos 7000000; expires = Some 100; inhibit = true }))
    ≡ codes "add open deny 7 100 denied default+inhibit always"
unfolding digits places add_front content_text
add_line = refl

expire_line : content_text (expire labelled (Some 100)) ≡ codes "expire label Dev%20ID any 100"
unfolding digits content_text
expire_line = refl

expire_never : content_text (expire id_one None) ≡ codes "expire id 1 execute never"
unfolding digits content_text
expire_never = refl

switch_line : content_text (switch false) ≡ codes "switch off"
unfolding content_text
switch_line = refl
