-- Worked histories, computed by the definitions alone: what is kept, and what becomes of each offer.
use Rattle.std.specs.Prelude.{◌≡◌, ℕ, zero, suc, List, [], ◌∷◌, ◌++◌, replicate, refl, codes, Some, None, pos, Bool, true, false, Option, length, map}
use Rattle.std.specs.Fmt.{digits}
use Rattle.req_tree.specs.Tree.{always}
use Rattle.req_tree.specs.Subject.{Subject}
use Rattle.req_tree.specs.Facts.{no_facts}
use Rattle.policy_model.specs.Rules.{Kind, execute, install}
use Rattle.policy_model.specs.Texts.{places, add_front, content_text}
use Rattle.policy_model.specs.Contents.{add, remove, disable, enable, switch, by_id, Edit}
use Rattle.policy_model.specs.Outcomes.{Ask, default}
use Rattle.policy_model.specs.History.{Event, tick, ask, offer, edit, fresh, Opening}
use Rattle.object_model.specs.Objects.{Offered, kept, inhibited, moved, expired, twice}
use Rattle.object_model.specs.Past.{counts_of}
use Rattle.object_model.specs.Kept.{decision_of, objects_of}

abbrev start : Opening
start = fresh no_facts

abbrev s1 : Subject
s1 = record { cdhash = replicate 20 17; identifier = codes "com.example.app"; platform = 0 }

abbrev asks : Kind → Bool → Ask
asks kind keep = record { kind = kind; subject = Some s1; keep = keep }

abbrev adds : List ℕ → Bool → ℕ → Option ℕ → Edit
adds key allow priority expires = record {
  key = key;
  content = add (record {
    kind = execute;
    allow = allow;
    priority = pos priority;
    expires = expires;
    label = [];
    is_default = false;
    inhibit = false;
    text = codes "always";
    tree = always;
  });
}

-- whether the ask of these parts at place k, offered after h, is kept
abbrev fate : List Event → ℕ → Ask → Offered
fate h k a = decision_of start h (objects_of start h) k a s1

-- a rule that was added since the ask and that is tried first
overtaken : fate (edit (adds (codes "lo") true 1 None) ∷ ask (asks execute true) ∷ edit (adds (codes "hi") false 9 None) ∷ []) 1 (asks execute true) ≡ moved
unfolding digits places add_front content_text
overtaken = refl

-- one that is tried later is forgiven, up to 64 of them

-- so many edits, each of which enables rule 2
abbrev enables : ℕ → List Event
enables zero = []
enables (suc n) = edit (record { key = n ∷ codes "k"; content = enable (record { which = by_id 2; kind = None }) }) ∷ enables n

abbrev lower_edits : ℕ → List Event
lower_edits n = edit (adds (codes "lo") true 9 None) ∷ ask (asks execute true) ∷ edit (adds (codes "hi") false 1 None) ∷ enables n

lower_since : map (λ n. fate (lower_edits n) 1 (asks execute true)) (0 ∷ 63 ∷ 64 ∷ []) ≡ kept ∷ kept ∷ moved ∷ []
unfolding digits places add_front content_text
lower_since = refl

-- an edit of that kind drops no entry whose rule is before the touched one
lower_added : length (objects_of start (edit (adds (codes "lo") true 9 None) ∷ ask (asks execute true) ∷ offer 1 ∷ edit (adds (codes "hi") false 1 None) ∷ [])) ≡ 1
unfolding digits places add_front content_text
lower_added = refl

-- a default goes when a rule of its kind is enabled
abbrev default_after : List Event
default_after = edit (adds (codes "a") true 0 None) ∷ edit (record { key = codes "b"; content = disable (record { which = by_id 1; kind = Some execute }) }) ∷ ask (asks execute true) ∷ offer 2 ∷ []

default_kept : objects_of start default_after ≡ record { kind = execute; subject = s1; outcome = default (Some 1) [] 60 } ∷ []
unfolding digits places add_front content_text
default_kept = refl

default_dropped : objects_of start (default_after ++ edit (record { key = codes "c"; content = enable (record { which = by_id 1; kind = None }) }) ∷ []) ≡ []
unfolding digits places add_front content_text
default_dropped = refl

-- a switch drops nothing
switched : length (objects_of start (default_after ++ edit (record { key = codes "c"; content = switch false }) ∷ [])) ≡ 1
unfolding digits places add_front content_text
switched = refl

-- an entry is kept up to its rule's end
abbrev until_the_end : List Event
until_the_end = edit (adds (codes "a") true 9 (Some 100)) ∷ edit (adds (codes "b") false 1 None) ∷ tick 98 ∷ ask (asks execute true) ∷ offer 3 ∷ tick 99 ∷ []

before_the_end : length (objects_of start until_the_end) ≡ 1
unfolding digits places add_front content_text
before_the_end = refl

at_the_end : objects_of start (until_the_end ++ tick 100 ∷ []) ≡ []
unfolding digits places add_front content_text
at_the_end = refl

-- a default is kept for 60 seconds
sixty_seconds : map length (objects_of start (tick 200 ∷ tick 100 ∷ ask (asks execute true) ∷ offer 2 ∷ tick 259 ∷ []) ∷ objects_of start (tick 200 ∷ tick 100 ∷ ask (asks execute true) ∷ offer 2 ∷ tick 260 ∷ []) ∷ []) ≡ 1 ∷ 0 ∷ []
sixty_seconds = refl

-- two assessments of one subject overlap
abbrev overlapping : List Event
overlapping = ask (asks execute true) ∷ ask (asks execute true) ∷ offer 0 ∷ []

-- the first that is offered is kept, the second finds its entry
first_kept : fate (ask (asks execute true) ∷ ask (asks execute true) ∷ []) 0 (asks execute true) ≡ kept
first_kept = refl

second_twice : fate overlapping 1 (asks execute true) ≡ twice
second_twice = refl

-- the asker forbids keeping
not_asked_to_keep : fate (overlapping ++ ask (asks install false) ∷ []) 3 (asks install false) ≡ inhibited
not_asked_to_keep = refl

-- a default that is offered 60 seconds after its ask has ended
too_late : fate (ask (asks execute true) ∷ tick 60 ∷ []) 0 (asks execute true) ≡ expired
too_late = refl

-- edits are counted in the kinds that they touch
counted : (counts_of start (edit (adds (codes "a") true 0 None) ∷ edit (record { key = codes "b"; content = switch false }) ∷ edit (record { key = codes "c"; content = remove (record { which = by_id 1; kind = None }) }) ∷ []))
    ≡ record { execute = 2; install = 0; document = 0 }
unfolding digits places add_front content_text
counted = refl

-- a rule that forbids keeping
abbrev inhibits_it : Edit
inhibits_it = record {
  key = codes "i";
  content = add (record {
    kind = execute;
    allow = true;
    priority = pos 0;
    expires = None;
    label = [];
    is_default = false;
    inhibit = true;
    text = codes "always";
    tree = always;
  });
}

rule_forbids : fate (edit inhibits_it ∷ ask (asks execute true) ∷ []) 1 (asks execute true) ≡ inhibited
unfolding digits places add_front content_text
rule_forbids = refl

-- a repeat touches nothing; enabling a rule that is enabled does
touching : (counts_of start (edit (adds (codes "a") true 0 None) ∷ edit (adds (codes "a") true 0 None) ∷ edit (record { key = codes "b"; content = enable (record { which = by_id 1; kind = None }) }) ∷ []))
    ≡ record { execute = 2; install = 0; document = 0 }
unfolding digits places add_front content_text
touching = refl
