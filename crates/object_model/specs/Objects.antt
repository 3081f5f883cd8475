-- The outcomes that are kept: which of them an edit drops, and whether an offered one is kept. This project's own.
use Rattle.std.specs.Prelude.{ℕ, List, [], ◌∷◌, ◌++◌, Bool, true, false, not, ◌&&◌, ◌||◌, ◌==◌, nat_lt, nat_le, length, Option, Some, if◌then◌else◌, bytes_eq}
use Rattle.std.specs.List.{filter, list_any}
use Rattle.req_tree.specs.Subject.{Subject}
use Rattle.policy_model.specs.Rules.{Row, Kind, rank_of, same_kind, is_before, is_below}
use Rattle.policy_model.specs.Outcomes.{Outcome, governed, default}
use Rattle.policy_model.specs.History.{Entry}

-- the moment at which an outcome ends, if there is one
abbrev pub ends : Outcome → Option ℕ
ends (governed rank allow label inhibit until) = until
ends (default latent label until) = Some until

-- its end isn't reached at m
abbrev pub is_unexpired : ℕ → Entry → Bool
is_unexpired m e = is_below m (ends e.outcome)

-- two subjects are one
abbrev pub same_subject : Subject → Subject → Bool
same_subject a b = bytes_eq a.cdhash b.cdhash && bytes_eq a.identifier b.identifier && (a.platform == b.platform)

-- the entry answers for this kind and subject
abbrev pub is_for : Kind → Subject → Entry → Bool
is_for kind subject e = same_kind e.kind kind && same_subject e.subject subject

-- the rows of its kind on which an outcome rests: those that its rule isn't before; all, where no rule decides
abbrev pub rests_on : Kind → Outcome → Row → Bool
rests_on kind (governed rank allow label inhibit until) r = same_kind r.kind kind && not (is_before rank (rank_of r))
rests_on kind (default latent label until) r = same_kind r.kind kind

-- an entry outlasts an edit that touches no row on which it rests
abbrev pub outlasts : List Row → Entry → Bool
outlasts touched e = not (list_any (rests_on e.kind e.outcome) touched)

-- a row of the kind is among the touched ones
abbrev pub touches : Kind → List Row → Bool
touches kind touched = list_any (λ r. same_kind r.kind kind) touched

-- what becomes of an offered outcome
pub data Offered : Type 0 where
  kept : Offered
  -- the asker forbids keeping, or the rule that decided does
  inhibited : Offered
  -- edits since may have changed it
  moved : Offered
  expired : Offered
  -- there is an entry for that kind and subject
  twice : Offered
  -- there is room for no more entries
  full : Offered

-- the rule that decided forbids keeping
abbrev pub inhibits : Outcome → Bool
inhibits (governed rank allow label inhibit until) = inhibit
inhibits (default latent label until) = false

-- a rule decided
abbrev pub is_governed : Outcome → Bool
is_governed (governed rank allow label inhibit until) = true
is_governed (default latent label until) = false

-- late has the rows that each later event touched: some row on which the outcome rests, or, where a rule decided, more than most events of the kind
abbrev pub is_moved : ℕ → List (List Row) → Entry → Bool
is_moved most late e =
    list_any (list_any (rests_on e.kind e.outcome)) late
    || (is_governed e.outcome && nat_lt most (length (filter (touches e.kind) late)))

-- the five rules of refusal, the first that holds deciding, else the outcome is kept
abbrev pub by_rules : Bool → Bool → Bool → Bool → Bool → Offered
by_rules is_inhibited has_moved is_expired is_twice is_full =
    if is_inhibited then inhibited
    else if has_moved then moved
    else if is_expired then expired
    else if is_twice then twice
    else if is_full then full else kept

-- the decision on an outcome whose asker wants it kept or not, when these entries are kept
abbrev pub decision : ℕ → ℕ → ℕ → Bool → List (List Row) → List Entry → Entry → Offered
decision most room now keep late objects e =
    by_rules (not keep || inhibits e.outcome) (is_moved most late e) (not (is_unexpired now e)) (list_any (is_for e.kind e.subject) objects) (nat_le room (length objects))

-- the entries after an offer
abbrev pub with_offer : Offered → Entry → List Entry → List Entry
with_offer kept e objects = objects ++ e ∷ []
with_offer inhibited e objects = objects
with_offer moved e objects = objects
with_offer expired e objects = objects
with_offer twice e objects = objects
with_offer full e objects = objects
