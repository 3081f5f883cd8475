-- Among rows in the order of their ranks, the first that passes a test is before all others that do.
use Rattle.std.proofs.Common.{◌≡◌, ℕ, List, [], ◌∷◌, refl, ap, ◌∙◌, arith, Option, Some, None}
use Rattle.std.specs.Prelude.{Bool, true, false, ◌&&◌, IfSome, if◌then◌else◌}
use Rattle.std.specs.List.{AllByRecursion, find}
use Rattle.std.proofs.lemmas.Int.{ints}
use Rattle.std.proofs.lemmas.Bool.Decides.{nat_tests}
use Rattle.req_tree.specs.Subject.{Subject}
use Rattle.req_tree.specs.Facts.{Facts, Known, known_of}
use Rattle.req_tree.specs.Meaning.{mean, means}
use Rattle.policy_model.specs.Rules.{Row, Kind, execute, install, document, same_kind, Rank, rank_of, Before, is_before, is_below, is_counted, meets, first, sooner}
use Rattle.authority_table.specs.Snapshot.{IsByRank}
use Rattle.assess.specs.Tests.{holds, AllOfKind}

not_before : (a b : Rank) → (c : Bool) → is_before a b ≡ c → (Before a b → ⊥) → c ≡ false
not_before a b true e h = absurd (h (grind (arith, ints, nat_tests, e)))
not_before a b false e h = refl

sooner_stays : (r : Row) (o : Option Row) → IfSome o (λ s. Before (rank_of s) (rank_of r) → ⊥) → sooner r o ≡ r
sooner_stays r None h = refl
sooner_stays r (Some s) h = ap (λ c. if c then s else r) (not_before (rank_of s) (rank_of r) (is_before (rank_of s) (rank_of r)) refl h)

chosen_has : (P : Row → Type 0) (c : Bool) (r : Row) (o : Option Row) → P r → IfSome o P → IfSome (if c then Some r else o) P
chosen_has P true r o p q = p
chosen_has P false r o p q = q

found_has : (P : Row → Type 0) (test : Row → Bool) (rows : List Row) → AllByRecursion P rows → IfSome (find test rows) P
found_has P test [] all = tt
found_has P test (r ∷ rows) all = chosen_has P (test r) r (find test rows) all.0 (found_has P test rows all.1)

first_step : (c : Bool) (r : Row) (o : Option Row) → IfSome o (λ s. Before (rank_of s) (rank_of r) → ⊥) →
    (if c then Some (sooner r o) else o) ≡ (if c then Some r else o)
first_step true r o h = ap Some (sooner_stays r o h)
first_step false r o h = refl

-- so a search may stop at the first
pub first_is_found : (test : Row → Bool) (rows : List Row) → IsByRank rows → first test rows ≡ find test rows
first_is_found test [] h = refl
first_is_found test (r ∷ rows) h =
    ap (λ o. if test r then Some (sooner r o) else o) (first_is_found test rows h.1)
    ∙ first_step (test r) r (find test rows) (found_has (λ s. Before (rank_of s) (rank_of r) → ⊥) test rows h.0)

kind_is_own : (kind : Kind) → same_kind kind kind ≡ true
kind_is_own execute = refl
kind_is_own install = refl
kind_is_own document = refl

-- of a row of the kind the test of the definitions is that of the program
meets_holds : (disabled : Bool) (kind : Kind) (subject : Subject) (facts : Facts) (known : Known) (m : ℕ) (r : Row) → r.kind ≡ kind → known_of facts subject.cdhash ≡ known →
    meets disabled kind subject facts m r ≡ holds disabled m subject known r
meets_holds disabled kind subject facts known m r is same =
    ap (λ b. b && is_below m r.expires && is_counted disabled r.disabled && mean r.tree subject facts) (ap (λ k. same_kind k kind) is ∙ kind_is_own kind)
    ∙ ap (λ k. is_below m r.expires && is_counted disabled r.disabled && means r.tree subject k) same

find_alike : (f g : Row → Bool) (rows : List Row) → AllByRecursion (λ r. f r ≡ g r) rows → find f rows ≡ find g rows
find_alike f g [] all = refl
find_alike f g (r ∷ rows) all = λ i. if all.0 i then Some r else find_alike f g rows all.1 i

all_alike : (disabled : Bool) (kind : Kind) (subject : Subject) (facts : Facts) (known : Known) (m : ℕ) (rows : List Row) → AllOfKind kind rows → known_of facts subject.cdhash ≡ known →
    AllByRecursion (λ r. meets disabled kind subject facts m r ≡ holds disabled m subject known r) rows
all_alike disabled kind subject facts known m [] all same = tt
all_alike disabled kind subject facts known m (r ∷ rows) all same = (meets_holds disabled kind subject facts known m r all.0 same, all_alike disabled kind subject facts known m rows all.1 same)

-- what the definitions find among rows of one kind in the order of their ranks
pub first_held : (disabled : Bool) (kind : Kind) (subject : Subject) (facts : Facts) (known : Known) (m : ℕ) (rows : List Row) → AllOfKind kind rows → IsByRank rows → known_of facts subject.cdhash ≡ known →
    first (meets disabled kind subject facts m) rows ≡ find (holds disabled m subject known) rows
first_held disabled kind subject facts known m rows of_kind ranked same =
    first_is_found (meets disabled kind subject facts m) rows ranked
    ∙ find_alike (meets disabled kind subject facts m) (holds disabled m subject known) rows (all_alike disabled kind subject facts known m rows of_kind same)
