-- What an edit leaves of the outcomes that are kept.
use Rattle.std.proofs.Common.{◌≡◌, ℕ, ◌+◌, ◌≤◌, List, [], ◌∷◌, refl, sym, ap, ◌∙◌, subst, arith, Option, Some, None}
use Rattle.std.specs.Prelude.{IsSome, Bool, true, false}
use Rattle.std.specs.List.{filter}
use Rattle.std.proofs.lemmas.Bool.{both_ways}
use Rattle.req_tree.specs.Facts.{Facts}
use Rattle.policy_model.specs.Rules.{Row, Rank, Kind, execute, install, document}
use Rattle.policy_model.specs.Contents.{Edit}
use Rattle.policy_model.specs.Tables.{Tables, Receipt, Answer, Effect}
use Rattle.policy_model.specs.Refusals.{refusal}
use Rattle.policy_model.specs.Edits.{does, does_at, at_new, kept}
use Rattle.policy_model.specs.History.{Entry, Counts}
use Rattle.authority_table.specs.declared.prepared.Prepared.{Prepared}
use Rattle.authority_table.specs.Prepared.{plan_touched}
use Rattle.object_model.specs.Past.{count_of}
use Rattle.object_model.specs.Objects.{is_unexpired}
use Rattle.object_model.specs.Purges.{first_touched, stays_at, counted, purged_by, purged_counts, counts_by}
use Rattle.object_model.specs.Plain.{Plain, Rings, noted, rings_with}
use Rattle.object_model.specs.Stands.{edited}
use Rattle.object_model.specs.DropLaws.{MarksPurge, RingsPurge}
use Rattle.object_cache.specs.declared.objects.Objects.{Objects}
use Rattle.object_cache.specs.Objects.{held, live_at, counts, rings}
use Rattle.desk_state.specs.Plan.{Leaves}
use Rattle.desk_state.specs.Cache.{Cache, cache_in, cache_at, AreAtMost, purged_at, purged_as, edited_cache, IsPurged}

-- bounds of the counts

pub at_most_more : (n m : ℕ) (c : Counts) → n ≤ m → AreAtMost n c → AreAtMost m c
at_most_more n m c le h = record { executes = omega (arith, le, h.executes); installs = omega (arith, le, h.installs); documents = omega (arith, le, h.documents) }

pub count_at_most : (n : ℕ) (kind : Kind) (c : Counts) → AreAtMost n c → count_of kind c ≤ n
count_at_most n execute c h = h.executes
count_at_most n install c h = h.installs
count_at_most n document c h = h.documents

pub one_more_at_most : (n : ℕ) (kind : Kind) (f : Option Rank) (c : Counts) → AreAtMost n c → AreAtMost (n + 1) (purged_counts kind f c)
one_more_at_most n kind None c h = at_most_more n (n + 1) c (omega arith) h
one_more_at_most n execute (Some r) c h = record { executes = omega (arith, h.executes); installs = omega (arith, h.installs); documents = omega (arith, h.documents) }
one_more_at_most n install (Some r) c h = record { executes = omega (arith, h.executes); installs = omega (arith, h.installs); documents = omega (arith, h.documents) }
one_more_at_most n document (Some r) c h = record { executes = omega (arith, h.executes); installs = omega (arith, h.installs); documents = omega (arith, h.documents) }

all_kinds : (n : ℕ) (f g k : Option Rank) (c : Counts) → AreAtMost n c → AreAtMost (n + 1) (purged_counts document k (purged_counts install g (purged_counts execute f c)))
all_kinds n None None k c h = one_more_at_most n document k c h
all_kinds n None (Some g) None c h = one_more_at_most n install (Some g) c h
all_kinds n (Some f) None None c h = one_more_at_most n execute (Some f) c h
all_kinds n None (Some g) (Some k) c h = record { executes = omega (arith, h.executes); installs = omega (arith, h.installs); documents = omega (arith, h.documents) }
all_kinds n (Some f) None (Some k) c h = record { executes = omega (arith, h.executes); installs = omega (arith, h.installs); documents = omega (arith, h.documents) }
all_kinds n (Some f) (Some g) None c h = record { executes = omega (arith, h.executes); installs = omega (arith, h.installs); documents = omega (arith, h.documents) }
all_kinds n (Some f) (Some g) (Some k) c h = record { executes = omega (arith, h.executes); installs = omega (arith, h.installs); documents = omega (arith, h.documents) }

-- a plan counts each kind at most once
pub plan_at_most : (n : ℕ) (p : Option Prepared) (x : Cache) → AreAtMost n x.counts → AreAtMost (n + 1) (purged_as p x).counts
plan_at_most n None x h = at_most_more n (n + 1) x.counts (omega arith) h
plan_at_most n (Some plan) x h = all_kinds n (plan_touched plan execute) (plan_touched plan install) (plan_touched plan document) x.counts h

-- a plan counts each kind at most once in a list of objects
pub objects_at_most : (n m : ℕ) (p : Option Prepared) (old new : Objects) → cache_in m new ≡ purged_as p (cache_in m old) → AreAtMost n (counts old) → AreAtMost (n + 1) (counts new)
objects_at_most n m p old new is h = subst (λ (x : Cache). AreAtMost (n + 1) x.counts) (sym is) (plan_at_most n p (cache_in m old) h)

-- and a kind that is touched once at most
pub kind_at_most : (n : ℕ) (kind : Kind) (f : Option Rank) (old new : Objects) → cache_in 0 new ≡ purged_at kind f (cache_in 0 old) → AreAtMost n (counts old) → AreAtMost (n + 1) (counts new)
kind_at_most n kind f old new is h = subst (λ (x : Cache). AreAtMost (n + 1) x.counts) (sym is) (one_more_at_most n kind f (counts old) h)

abbrev of_parts : List Entry → Counts → Rings → Cache
of_parts entries counts rings = record { entries = entries; counts = counts; rings = rings }

swap_step : (p q : Entry → Bool) (x : Entry) (xs : List Entry) (a b : Bool) → p x ≡ a → q x ≡ b → filter p (filter q xs) ≡ filter q (filter p xs) → filter p (filter q (x ∷ xs)) ≡ filter q (filter p (x ∷ xs))
swap_step p q x xs true true e f ih = grind (arith, e, f, ih)
swap_step p q x xs true false e f ih = grind (arith, e, f, ih)
swap_step p q x xs false true e f ih = grind (arith, e, f, ih)
swap_step p q x xs false false e f ih = grind (arith, e, f, ih)

-- two filters come to the same in either order
swap : (p q : Entry → Bool) (xs : List Entry) → filter p (filter q xs) ≡ filter q (filter p xs)
swap p q [] = refl
swap p q (x ∷ xs) = swap_step p q x xs (p x) (q x) refl refl (swap p q xs)

-- what a purge of a kind leaves, of the entries that haven't ended at m
pub live_purged : (m : ℕ) (kind : Kind) (r : Rank) (old new : Objects) → held new ≡ filter (stays_at kind r) (held old) → counts new ≡ counted kind (counts old) → rings new ≡ noted kind r (rings old) →
    cache_in m new ≡ purged_at kind (Some r) (cache_in m old)
live_purged m kind r old new entries counts_are rings_are =
    ap (λ xs. of_parts xs (counts new) (rings new)) (ap (filter (is_unexpired m)) entries ∙ swap (is_unexpired m) (stays_at kind r) (held old))
    ∙ ap (λ c. of_parts (filter (stays_at kind r) (live_at m old)) c (rings new)) counts_are
    ∙ ap (λ x. of_parts (filter (stays_at kind r) (live_at m old)) (counted kind (counts old)) x) rings_are

-- an edit leaves what its first touched ranks leave, kind by kind
edits_purge : MarksPurge → RingsPurge → (touched : List Row) (x : Cache) →
    edited_cache touched x ≡ purged_at document (first_touched document touched) (purged_at install (first_touched install touched) (purged_at execute (first_touched execute touched) x))
edits_purge marks rings touched x =
    ap (λ c. of_parts (purged_by touched x.entries) c (rings_with touched x.rings)) (marks touched x.counts)
    ∙ ap (λ r. of_parts (purged_by touched x.entries) (counts_by touched x.counts) r) (rings touched x.rings)

-- an edit that touches nothing leaves all
pub untouched : MarksPurge → RingsPurge → (x : Cache) → x ≡ edited_cache [] x
untouched marks rings x = sym (edits_purge marks rings [] x)

-- a plan leaves what its edit makes
by_ranks : (x : Cache) (f g k a b d : Option Rank) → f ≡ a → g ≡ b → k ≡ d → purged_at document k (purged_at install g (purged_at execute f x)) ≡ purged_at document d (purged_at install b (purged_at execute a x))
by_ranks x f g k a b d p q r =
    ap (λ y. purged_at document k (purged_at install g (purged_at execute y x))) p
    ∙ ap (λ y. purged_at document k (purged_at install y (purged_at execute a x))) q
    ∙ ap (λ y. purged_at document y (purged_at install b (purged_at execute a x))) r

pub plan_purges : MarksPurge → RingsPurge → (p : Option Prepared) (rows after touched : List Row) (x : Cache) → Leaves p rows after touched → purged_as p x ≡ edited_cache touched x
plan_purges marks rings None rows after touched x h = untouched marks rings x ∙ ap (λ l. edited_cache l x) (sym h.1)
plan_purges marks rings (Some plan) rows after touched x h =
    by_ranks x (plan_touched plan execute) (plan_touched plan install) (plan_touched plan document) (first_touched execute touched) (first_touched install touched) (first_touched document touched) (h.first_in execute) (h.first_in install) (h.first_in document)
    ∙ sym (edits_purge marks rings touched x)

-- an edit that is refused, or out of memory, leaves all
refused_with : MarksPurge → RingsPurge → (r : Option Answer) (e : Edit) (t : Tables) (x : Cache) → IsPurged (at_new r e t) x x r
refused_with marks rings None e t x = refl
refused_with marks rings (Some a) e t x = untouched marks rings x

pub refused_purges : MarksPurge → RingsPurge → (r : Option Answer) (e : Edit) (t : Tables) (x : Cache) → r ≡ refusal e.content t → IsPurged (at_new (refusal e.content t) e t) x x r
refused_purges marks rings r e t x is = subst (λ y. IsPurged (at_new y e t) x x r) is (refused_with marks rings r e t x)

-- under a key that is kept all stays
pub kept_purges : MarksPurge → RingsPurge → (t : Tables) (e : Edit) (r : Receipt) (x : Cache) → Some r ≡ kept t.receipts e.key → x ≡ edited_cache (does t e).touched x
kept_purges marks rings t e r x k = untouched marks rings x ∙ ap (λ o. edited_cache (does_at o e t).touched x) k

pub kept_so : MarksPurge → RingsPurge → (t : Tables) (e : Edit) (r : Receipt) (x : Cache) (g : Option Answer) → Some r ≡ kept t.receipts e.key → IsPurged (does t e) x x g
kept_so marks rings t e r x None k = refl
kept_so marks rings t e r x (Some a) k = kept_purges marks rings t e r x k

pub new_so : (t : Tables) (e : Edit) (x y : Cache) (g : Option Answer) → None ≡ kept t.receipts e.key → IsPurged (at_new (refusal e.content t) e t) x y g → IsPurged (does t e) x y g
new_so t e x y g k is = subst (λ d. IsPurged d x y g) (ap (λ o. does_at o e t) k) is

-- a desk as plain data, part by part
abbrev pub parts : Tables → Facts → ℕ → Cache → Plain
parts t f n x = record { tables = t; facts = f; now = n; entries = x.entries; counts = x.counts; rings = x.rings }

pub parts_are : (t u : Tables) (f g : Facts) (n m : ℕ) (x y : Cache) → t ≡ u → f ≡ g → n ≡ m → x ≡ y → parts t f n x ≡ parts u g m y
parts_are t u f g n m x y a b c d = ap (λ z. parts z f n x) a ∙ ap (λ z. parts u z n x) b ∙ ap (λ z. parts u g z x) c ∙ ap (λ z. parts u g m z) d

answered_cache : (d : Effect) (x y : Cache) (g : Option Answer) → IsSome g → IsPurged d x y g → y ≡ edited_cache d.touched x
answered_cache d x y None some is = absurd (both_ways false refl some)
answered_cache d x y (Some a) some is = is

-- an answered edit leaves the edited desk
pub whole_edited : (old new : Plain) (e : Edit) (g : Option Answer) → IsSome g → new.tables ≡ (does old.tables e).tables → new.facts ≡ old.facts → new.now ≡ old.now → IsPurged (does old.tables e) (cache_at old) (cache_at new) g → new ≡ edited e old
whole_edited old new e g some t f n x = parts_are new.tables (does old.tables e).tables new.facts old.facts new.now old.now (cache_at new) (edited_cache (does old.tables e).touched (cache_at old)) t f n (answered_cache (does old.tables e) (cache_at old) (cache_at new) g some x)
