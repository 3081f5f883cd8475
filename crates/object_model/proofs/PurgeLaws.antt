-- An edit drops what the first touched rank of each kind drops.
use Rattle.std.proofs.Common.{◌≡◌, ℕ, ◌+◌, List, [], ◌∷◌, refl, sym, ap, ◌∙◌, arith, Option, Some, None}
use Rattle.std.specs.Prelude.{Bool, true, false, not, ◌&&◌, ◌||◌, option_map, is_some, if◌then◌else◌}
use Rattle.std.specs.List.{filter, list_any}
use Rattle.std.proofs.Math.Path.{fun_ext}
use Rattle.std.proofs.lemmas.Int.{ints}
use Rattle.std.proofs.lemmas.Bool.Decides.{nat_tests}
use Rattle.req_tree.specs.Subject.{Subject}
use Rattle.policy_model.specs.Rules.{Row, Rank, Kind, execute, install, document, same_kind, rank_of, is_before, first, sooner}
use Rattle.policy_model.specs.Outcomes.{Outcome, governed, default}
use Rattle.policy_model.specs.History.{Entry, Counts}
use Rattle.object_model.specs.Objects.{rests_on, outlasts}
use Rattle.object_model.specs.Purges.{first_touched, reaches, purged, purged_counts}
use Rattle.object_model.specs.Stands.{one_more}
use Rattle.object_model.specs.DropLaws.{EditPurges, CountsPurges, MarksPurge}

-- the outcome rests on a row of a rank that may be there
abbrev pub is_reached : Outcome → Option Rank → Bool
is_reached o None = false
is_reached o (Some f) = reaches o f

-- a rank is before the sooner of two where it is before both
before_first : (rank s r : Rank) → is_before s r ≡ true → not (is_before rank s) ≡ (not (is_before rank r) || not (is_before rank s))
before_first rank s r h = grind (arith, ints, nat_tests, h)

before_other : (rank s r : Rank) → is_before s r ≡ false → not (is_before rank r) ≡ (not (is_before rank r) || not (is_before rank s))
before_other rank s r h = grind (arith, ints, nat_tests, h)

reached_sooner : (rank : Rank) (allow : Bool) (label : List ℕ) (inhibit : Bool) (until : Option ℕ) (r s : Row) (c : Bool) → is_before (rank_of s) (rank_of r) ≡ c → is_reached (governed rank allow label inhibit until) (Some (rank_of (if c then s else r))) ≡ (not (is_before rank (rank_of r)) || not (is_before rank (rank_of s)))
reached_sooner rank allow label inhibit until r s true e = before_first rank (rank_of s) (rank_of r) e
reached_sooner rank allow label inhibit until r s false e = before_other rank (rank_of s) (rank_of r) e

or_false : (b : Bool) → b ≡ (b || false)
or_false true = refl
or_false false = refl

reached_cons : (o : Outcome) (kind : Kind) (r : Row) (f : Option Row) (c : Bool) → same_kind r.kind kind ≡ c → is_reached o (option_map rank_of (if c then Some (sooner r f) else f)) ≡ (rests_on kind o r || is_reached o (option_map rank_of f))
reached_cons (governed rank allow label inhibit until) kind r None true e = or_false (not (is_before rank (rank_of r))) ∙ ap (λ b. (b && not (is_before rank (rank_of r))) || false) (sym e)
reached_cons (governed rank allow label inhibit until) kind r (Some s) true e = reached_sooner rank allow label inhibit until r s (is_before (rank_of s) (rank_of r)) refl ∙ ap (λ b. (b && not (is_before rank (rank_of r))) || not (is_before rank (rank_of s))) (sym e)
reached_cons (governed rank allow label inhibit until) kind r f false e = ap (λ b. (b && not (is_before rank (rank_of r))) || is_reached (governed rank allow label inhibit until) (option_map rank_of f)) (sym e)
reached_cons (default latent label until) kind r f true e = ap (λ b. b || is_reached (default latent label until) (option_map rank_of f)) (sym e)
reached_cons (default latent label until) kind r f false e = ap (λ b. b || is_reached (default latent label until) (option_map rank_of f)) (sym e)

-- an outcome rests on a touched row exactly where it rests on the first
pub reached_is : (o : Outcome) (kind : Kind) (touched : List Row) → is_reached o (first_touched kind touched) ≡ list_any (rests_on kind o) touched
reached_is o kind [] = refl
reached_is o kind (r ∷ touched) = reached_cons o kind r (first (λ s. same_kind s.kind kind) touched) (same_kind r.kind kind) refl ∙ ap (λ b. rests_on kind o r || b) (reached_is o kind touched)

some_cons : (kind : Kind) (r : Row) (f : Option Row) (c : Bool) → same_kind r.kind kind ≡ c → is_some (option_map rank_of (if c then Some (sooner r f) else f)) ≡ (same_kind r.kind kind || is_some (option_map rank_of f))
some_cons kind r f true e = ap (λ b. b || is_some (option_map rank_of f)) (sym e)
some_cons kind r f false e = ap (λ b. b || is_some (option_map rank_of f)) (sym e)

pub counts_purges : CountsPurges
counts_purges kind [] = refl
counts_purges kind (r ∷ touched) = some_cons kind r (first (λ s. same_kind s.kind kind) touched) (same_kind r.kind kind) refl ∙ ap (λ b. same_kind r.kind kind || b) (counts_purges kind touched)

-- what stays, as a test for a rank that may be there
abbrev stays_by : Kind → Option Rank → Entry → Bool
stays_by kind f e = not (same_kind e.kind kind) || not (is_reached e.outcome f)

or_true : (b : Bool) → true ≡ (b || true)
or_true true = refl
or_true false = refl

filter_all : (xs : List Entry) (test : Entry → Bool) → ((e : Entry) → true ≡ test e) → xs ≡ filter test xs
filter_all [] test all = refl
filter_all (x ∷ xs) test all = grind (arith, sym (all x), filter_all xs test all)

purged_is : (kind : Kind) (f : Option Rank) (objects : List Entry) → purged kind f objects ≡ filter (stays_by kind f) objects
purged_is kind None objects = filter_all objects (stays_by kind None) (λ e. or_true (not (same_kind e.kind kind)))
purged_is kind (Some r) objects = refl

filter_both_one : (p q : Entry → Bool) (x : Entry) (xs : List Entry) (b c : Bool) → q x ≡ b → p x ≡ c → filter p (filter q xs) ≡ filter (λ e. q e && p e) xs → filter p (filter q (x ∷ xs)) ≡ filter (λ e. q e && p e) (x ∷ xs)
filter_both_one p q x xs true true e f ih = grind (arith, e, f, ih)
filter_both_one p q x xs true false e f ih = grind (arith, e, f, ih)
filter_both_one p q x xs false c e f ih = grind (arith, e, ih)

filter_both : (p q : Entry → Bool) (xs : List Entry) → filter p (filter q xs) ≡ filter (λ e. q e && p e) xs
filter_both p q [] = refl
filter_both p q (x ∷ xs) = filter_both_one p q x xs (q x) (p x) refl refl (filter_both p q xs)

and_true : (b : Bool) → b ≡ ((b && true) && true)
and_true true = refl
and_true false = refl

and_middle : (b : Bool) → b ≡ ((true && b) && true)
and_middle true = refl
and_middle false = refl

-- of the three kinds one is that of the entry
by_kinds : (kind : Kind) (subject : Subject) (o : Outcome) (touched : List Row) → outlasts touched (record { kind = kind; subject = subject; outcome = o }) ≡
    ((stays_by execute (first_touched execute touched) (record { kind = kind; subject = subject; outcome = o })
    && stays_by install (first_touched install touched) (record { kind = kind; subject = subject; outcome = o }))
    && stays_by document (first_touched document touched) (record { kind = kind; subject = subject; outcome = o }))
by_kinds execute subject o touched = ap not (sym (reached_is o execute touched)) ∙ and_true (not (is_reached o (first_touched execute touched)))
by_kinds install subject o touched = ap not (sym (reached_is o install touched)) ∙ and_middle (not (is_reached o (first_touched install touched)))
by_kinds document subject o touched = ap not (sym (reached_is o document touched))

pub edit_purges : EditPurges
edit_purges touched objects =
    let p : Entry → Bool = stays_by execute (first_touched execute touched) in
    let q : Entry → Bool = stays_by install (first_touched install touched) in
    let r : Entry → Bool = stays_by document (first_touched document touched) in
    ap (λ t. filter t objects) (fun_ext (λ (e : Entry). by_kinds e.kind e.subject e.outcome touched))
    ∙ sym (
    purged_is document (first_touched document touched) _
    ∙ ap (filter r) (purged_is install (first_touched install touched) _ ∙ ap (filter q) (purged_is execute (first_touched execute touched) objects) ∙ filter_both q p objects)
    ∙ filter_both r (λ e. p e && q e) objects)

abbrev three : ℕ → ℕ → ℕ → Counts
three a b c = record { execute = a; install = b; document = c }

pub same_three : (a b c x y z : ℕ) → a ≡ x → b ≡ y → c ≡ z → three a b c ≡ three x y z
same_three a b c x y z e f g = ap (λ n. three n b c) e ∙ ap (λ n. three x n c) f ∙ ap (λ n. three x y n) g

-- each kind's count, after the first rank that is touched in it
execute_one : (f : Option Rank) (c : Counts) → purged_counts execute f c ≡ three (one_more (is_some f) c.execute) c.install c.document
execute_one None c = same_three c.execute c.install c.document (c.execute + 0) c.install c.document (omega arith) refl refl
execute_one (Some r) c = refl

install_one : (f : Option Rank) (c : Counts) → purged_counts install f c ≡ three c.execute (one_more (is_some f) c.install) c.document
install_one None c = same_three c.execute c.install c.document c.execute (c.install + 0) c.document refl (omega arith) refl
install_one (Some r) c = refl

document_one : (f : Option Rank) (c : Counts) → purged_counts document f c ≡ three c.execute c.install (one_more (is_some f) c.document)
document_one None c = same_three c.execute c.install c.document c.execute c.install (c.document + 0) refl refl (omega arith)
document_one (Some r) c = refl

by_ranks : (a b d : Option Rank) (c : Counts) → purged_counts document d (purged_counts install b (purged_counts execute a c))
    ≡ three (one_more (is_some a) c.execute) (one_more (is_some b) c.install) (one_more (is_some d) c.document)
by_ranks a b d c =
    ap (λ x. purged_counts document d (purged_counts install b x)) (execute_one a c)
    ∙ ap (purged_counts document d) (install_one b (three (one_more (is_some a) c.execute) c.install c.document))
    ∙ document_one d (three (one_more (is_some a) c.execute) (one_more (is_some b) c.install) c.document)

pub marks_purge : MarksPurge
marks_purge touched c =
    same_three _ _ _ _ _ _
    (ap (λ b. one_more b c.execute) (sym (counts_purges execute touched)))
    (ap (λ b. one_more b c.install) (sym (counts_purges install touched)))
    (ap (λ b. one_more b c.document) (sym (counts_purges document touched)))
    ∙ sym (by_ranks (first_touched execute touched) (first_touched install touched) (first_touched document touched) c)
