-- Where the verdict on an ask comes from, and what became of its outcome, as replies tell it. This project's own.
use Rattle.std.specs.Prelude.{List, Option, Some, None, if◌then◌else◌}
use Rattle.std.specs.List.{list_any}
use Rattle.req_tree.specs.Subject.{Subject}
use Rattle.policy_model.specs.Rules.{Kind}
use Rattle.policy_model.specs.History.{Entry}
use Rattle.policy_model.specs.ReplyTexts.{Origin, rules, cache, unsigned, Fate, not_offered}
use Rattle.policy_model.specs.ReplyTexts as fate
use Rattle.object_model.specs.Objects.{Offered, kept, inhibited, moved, expired, twice, full, is_for}

-- code without a signature meets no rule; an entry answers for its kind and subject; else the rules do
abbrev pub origin_with : List Entry → Kind → Option Subject → Origin
origin_with objects kind None = unsigned
origin_with objects kind (Some subject) = if list_any (is_for kind subject) objects then cache else rules

-- what a reply tells of an offer: none where there was nothing to offer, since no rule was asked
abbrev pub fate_of : Option Offered → Fate
fate_of None = not_offered
fate_of (Some kept) = fate.kept
fate_of (Some inhibited) = fate.inhibited
fate_of (Some moved) = fate.moved
fate_of (Some expired) = fate.expired
fate_of (Some twice) = fate.twice
fate_of (Some full) = fate.full
