-- A ring through one more edit; what hasn't moved after an edit hadn't before it.
use Rattle.std.proofs.Common.{◌≡◌, ℕ, zero, suc, ◌+◌, ◌-◌, ◌≤◌, ◌<◌, List, [], ◌∷◌, ◌++◌, take, reverse, refl, sym, ap, ◌∙◌, subst, arith, Option, Some, None}
use Rattle.std.specs.Prelude.{Bool, true, false, not, ◌||◌, nat_lt, is_some, AllPairs, IfSome}
use Rattle.std.specs.List.{filter, list_any, cons_option}
use Rattle.std.proofs.lemmas.List.{reverse-append}
use Rattle.std.proofs.lemmas.Bool.{ltb-false, false≢true, lt-ltb, le-ltb, or_parts}
use Rattle.std.proofs.lemmas.List.Elements.{filter_map-append}
use Rattle.req_tree.specs.Subject.{Subject}
use Rattle.req_tree.specs.Facts.{Facts}
use Rattle.policy_model.specs.Rules.{Row, Rank, Kind, execute, install, document, is_before, is_below}
use Rattle.policy_model.specs.Outcomes.{Outcome, governed, default, outcome}
use Rattle.policy_model.specs.History.{Event, Opening, tables_of}
use Rattle.object_model.specs.declared.limits.TheConstants.{LATE_EDITS}
use Rattle.object_model.specs.Objects.{rests_on, touches}
use Rattle.object_model.specs.Past.{touched_step, touched_after}
use Rattle.object_model.specs.Purges.{first_touched, reaches}
use Rattle.object_model.specs.Rings.{firsts, firsts_of, ring_of, moved_by}
use Rattle.object_model.specs.Stands.{one_more}
use Rattle.object_model.specs.Plain.{Rings, ring_in, with_first, rings_with, rings_of, purged_rings}
use Rattle.object_model.specs.DropLaws.{RingsPurge}
use Rattle.object_model.proofs.CountLaws.{touched_joined}
use Rattle.object_model.proofs.PurgeLaws.{is_reached, reached_is, counts_purges}
use Rattle.object_model.proofs.RingLaws.{take_again}
use Rattle.object_model.proofs.Says.{Says, IsGovernedBy}
use Rattle.object_model.proofs.OutcomeSays.{outcome_says, still_says}
use Rattle.object_model.proofs.Right.{governed_through}
use Rattle.object_model.proofs.SameKind.{outcome_same}

take_once : (most : ℕ) (f : Rank) (xs : List Rank) → take most (f ∷ xs) ≡ take most (f ∷ take most xs)
take_once zero f xs = refl
take_once (suc m) f xs = ap (λ r. f ∷ r) (sym (take_again m (suc m) xs (omega arith)))

one_first : (xs : List Rank) (f : Option Rank) → take LATE_EDITS (reverse (xs ++ cons_option f [])) ≡ with_first f (take LATE_EDITS (reverse xs))
one_first xs None = ap (λ r. take LATE_EDITS r) (reverse-append xs [])
one_first xs (Some f) = ap (λ r. take LATE_EDITS r) (reverse-append xs (f ∷ [])) ∙ take_once LATE_EDITS f (reverse xs)

pub ring_of-more : (o : Opening) (h : List Event) (kind : Kind) (e : Event) → ring_of LATE_EDITS o (h ++ e ∷ []) kind ≡ with_first (first_touched kind (touched_step e (tables_of o h))) (ring_of LATE_EDITS o h kind)
ring_of-more o h kind e =
    ap (λ l. take LATE_EDITS (reverse (firsts kind l))) (touched_joined h (e ∷ []) o.tables)
    ∙ ap (λ l. take LATE_EDITS (reverse l)) (filter_map-append (first_touched kind) (touched_after h o.tables) (touched_step e (tables_of o h) ∷ []))
    ∙ one_first (firsts_of o h kind) (first_touched kind (touched_step e (tables_of o h)))

abbrev three : List Rank → List Rank → List Rank → Rings
three a b c = record { execute = a; install = b; document = c }

same_three : (a b c x y z : List Rank) → a ≡ x → b ≡ y → c ≡ z → three a b c ≡ three x y z
same_three a b c x y z e f g = ap (λ n. three n b c) e ∙ ap (λ n. three x n c) f ∙ ap (λ n. three x y n) g

pub rings_of-more : (o : Opening) (h : List Event) (e : Event) → rings_of o (h ++ e ∷ []) ≡ rings_with (touched_step e (tables_of o h)) (rings_of o h)
rings_of-more o h e = same_three _ _ _ _ _ _ (ring_of-more o h execute e) (ring_of-more o h install e) (ring_of-more o h document e)

pub ring_kind : (o : Opening) (h : List Event) (kind : Kind) → ring_in kind (rings_of o h) ≡ ring_of LATE_EDITS o h kind
ring_kind o h execute = refl
ring_kind o h install = refl
ring_kind o h document = refl

pub ring_with : (kind : Kind) (touched : List Row) (r : Rings) → ring_in kind (rings_with touched r) ≡ with_first (first_touched kind touched) (ring_in kind r)
ring_with execute touched r = refl
ring_with install touched r = refl
ring_with document touched r = refl

-- kind by kind
execute_one : (f : Option Rank) (r : Rings) → purged_rings execute f r ≡ three (with_first f r.execute) r.install r.document
execute_one None r = refl
execute_one (Some x) r = refl

install_one : (f : Option Rank) (r : Rings) → purged_rings install f r ≡ three r.execute (with_first f r.install) r.document
install_one None r = refl
install_one (Some x) r = refl

document_one : (f : Option Rank) (r : Rings) → purged_rings document f r ≡ three r.execute r.install (with_first f r.document)
document_one None r = refl
document_one (Some x) r = refl

by_ranks : (a b d : Option Rank) (r : Rings) → purged_rings document d (purged_rings install b (purged_rings execute a r)) ≡ three (with_first a r.execute) (with_first b r.install) (with_first d r.document)
by_ranks a b d r =
    ap (λ x. purged_rings document d (purged_rings install b x)) (execute_one a r)
    ∙ ap (purged_rings document d) (install_one b (three (with_first a r.execute) r.install r.document))
    ∙ document_one d (three (with_first a r.execute) (with_first b r.install) r.document)

pub rings_purge : RingsPurge
rings_purge touched r = sym (by_ranks (first_touched execute touched) (first_touched install touched) (first_touched document touched) r)

-- an outcome that is computed of rows is computed of later ones that leave those on which it rests

live_below : (o : Option ℕ) (m : ℕ) → IfSome o (λ e. m < e) → is_below m o ≡ true
live_below None m h = refl
live_below (Some e) m h = lt-ltb m e h

governed_lasts : (rows : List Row) (kind : Kind) (subject : Subject) (facts : Facts) (m : ℕ) (rank : Rank) (allow : Bool) (label : List ℕ) (inhibit : Bool) (until : Option ℕ) → IsGovernedBy rows kind subject facts m rank allow label inhibit until → is_below m until ≡ true
governed_lasts rows kind subject facts m rank allow label inhibit until h = ap (is_below m) h.until_is ∙ live_below h.row.expires m h.first.itself.applies.live.unexpired

stays_by : (rows later : List Row) (kind : Kind) (subject : Subject) (facts : Facts) (m : ℕ) (said : Outcome) → AllPairs (λ (a b : Row). a.id < b.id) later →
    filter (rests_on kind said) rows ≡ filter (rests_on kind said) later → said ≡ outcome rows kind subject facts m → Says rows kind subject facts m said → said ≡ outcome later kind subject facts m
stays_by rows later kind subject facts m (governed rank allow label inhibit until) apart same is h =
    still_says later kind subject facts m (governed rank allow label inhibit until) apart
    (governed_through rows later kind subject facts m m rank allow label inhibit until same (omega arith) (governed_lasts rows kind subject facts m rank allow label inhibit until h) h)
stays_by rows later kind subject facts m (default latent label until) apart same is h = is ∙ outcome_same rows later kind subject facts m same

pub outcome_stays : (rows later : List Row) (kind : Kind) (subject : Subject) (facts : Facts) (m : ℕ) (said : Outcome) → AllPairs (λ (a b : Row). a.id < b.id) later →
    filter (rests_on kind said) rows ≡ filter (rests_on kind said) later → said ≡ outcome rows kind subject facts m → said ≡ outcome later kind subject facts m
outcome_stays rows later kind subject facts m said apart same is =
    stays_by rows later kind subject facts m said apart same is (subst (Says rows kind subject facts m) (sym is) (outcome_says rows kind subject facts m))

-- what hasn't moved after an edit isn't reached by it, and hadn't moved before

no_more : (n : ℕ) → nat_lt LATE_EDITS (n + 1) ≡ false → n + 1 ≤ LATE_EDITS
no_more n h = ltb-false LATE_EDITS (n + 1) h

fewer : (most n : ℕ) → n + 1 ≤ most → nat_lt most n ≡ false
fewer most n le = le-ltb most n (omega (arith, le))

moved_both : (rank : Rank) (allow : Bool) (label : List ℕ) (inhibit : Bool) (until : Option ℕ) (n : ℕ) (f : Rank) (ring : List Rank) →
    moved_by LATE_EDITS (governed rank allow label inhibit until) (n + 1) (take LATE_EDITS (f ∷ ring)) ≡ false →
    (reaches (governed rank allow label inhibit until) f ≡ false) × (moved_by LATE_EDITS (governed rank allow label inhibit until) n ring ≡ false)
moved_both rank allow label inhibit until n f ring h =
    let p : Rank → Bool = λ x. not (is_before rank x) in
    let parts = or_parts (nat_lt LATE_EDITS (n + 1)) (list_any p (take (n + 1) (take LATE_EDITS (f ∷ ring)))) h in
    let le : n + 1 ≤ LATE_EDITS = no_more n parts.0 in
    let one : suc n ≡ n + 1 = omega arith in
    let any : (p f || list_any p (take n ring)) ≡ false =
    ap (λ k. list_any p (take k (f ∷ ring))) one ∙ ap (list_any p) (sym (take_again (n + 1) LATE_EDITS (f ∷ ring) le)) ∙ parts.1 in
    let two = or_parts (p f) (list_any p (take n ring)) any in
    let few : nat_lt LATE_EDITS n ≡ false = fewer LATE_EDITS n le in
    (two.0, ap (λ b. b || list_any p (take n ring)) few ∙ two.1)

none_zero : (n : ℕ) → nat_lt 0 (n + 1) ≡ true
none_zero n = lt-ltb 0 (n + 1) (omega arith)

-- by the first rank that an edit touched in the kind, if it touched any
pub moved_before : (said : Outcome) (f : Option Rank) (n : ℕ) (ring : List Rank) → moved_by LATE_EDITS said (one_more (is_some f) n) (with_first f ring) ≡ false →
    (is_reached said f ≡ false) × (moved_by LATE_EDITS said n ring ≡ false)
moved_before said None n ring h = let zero' : n + 0 ≡ n = omega arith in (refl, subst (λ k. moved_by LATE_EDITS said k ring ≡ false) zero' h)
moved_before (governed rank allow label inhibit until) (Some f) n ring h = moved_both rank allow label inhibit until n f ring h
moved_before (default latent label until) (Some f) n ring h = absurd (false≢true (sym h ∙ none_zero n))

since_one : (b : Bool) (count mark : ℕ) → mark ≤ count → one_more b count - mark ≡ one_more b (count - mark)
since_one true count mark le = omega (arith, le)
since_one false count mark le = omega (arith, le)

-- an edit that hasn't moved an outcome touches no row on which it rests, and the edits before it hadn't moved it
pub unmoved : (said : Outcome) (kind : Kind) (touched : List Row) (count mark : ℕ) (ring : List Rank) → mark ≤ count →
    moved_by LATE_EDITS said (one_more (touches kind touched) count - mark) (with_first (first_touched kind touched) ring) ≡ false →
    (list_any (rests_on kind said) touched ≡ false) × (moved_by LATE_EDITS said (count - mark) ring ≡ false)
unmoved said kind touched count mark ring le h =
    let f : Option Rank = first_touched kind touched in
    let n : one_more (touches kind touched) count - mark ≡ one_more (is_some f) (count - mark) =
    since_one (touches kind touched) count mark le ∙ ap (λ b. one_more b (count - mark)) (sym (counts_purges kind touched)) in
    let both = moved_before said f (count - mark) ring (ap (λ k. moved_by LATE_EDITS said k (with_first f ring)) (sym n) ∙ h) in
    (sym (reached_is said kind touched) ∙ both.0, both.1)
