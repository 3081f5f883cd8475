-- What is computed of the rows is what they say, and no more than that.
use Rattle.std.proofs.Common.{◌≡◌, ℕ, ◌+◌, ◌<◌, ◌≤◌, List, refl, sym, ◌∙◌, subst, arith, Option, Some, None}
use Rattle.std.specs.Prelude.{Bool, true, false, IfSome, AllPairs}
use Rattle.req_tree.specs.Subject.{Subject}
use Rattle.req_tree.specs.Facts.{Facts}
use Rattle.policy_model.specs.Rules.{Row, Rank, Kind, rank_of, Meets, meets, IsFirstOf, first}
use Rattle.policy_model.specs.Outcomes.{Outcome, governed, default, outcome, outcome_by, at_most, expiry_of}
use Rattle.policy_model.proofs.FirstRows.{first_meets}
use Rattle.policy_model.proofs.OwnIds.{one_answer}
use Rattle.object_model.specs.Fresh.{StillSays}
use Rattle.object_model.proofs.Says.{IsDefault, Says}

soon_enough : (m : ℕ) (o : Option ℕ) → at_most m o ≤ m
soon_enough m None = omega arith
soon_enough m (Some e) = omega arith

by_its_expiry : (m : ℕ) (o : Option ℕ) → IfSome o (λ e. at_most m o ≤ e)
by_its_expiry m None = tt
by_its_expiry m (Some e) = omega arith

says_by : (rows : List Row) (kind : Kind) (subject : Subject) (facts : Facts) (m : ℕ) (g l : Option Row) → IsFirstOf (Meets false kind subject facts m) rows g → IsFirstOf (Meets true kind subject facts m) rows l → Says rows kind subject facts m (outcome_by rows kind m g l)
says_by rows kind subject facts m (Some r) l f k = record { row = r; first = f; rank_is = refl; allow_is = refl; label_is = refl; inhibit_is = refl; until_is = refl }
says_by rows kind subject facts m None l f k = record { row = l; none = f; first = k; latent_is = refl; label_is = refl; soon = soon_enough (m + 60) (expiry_of l); by_expiry = by_its_expiry (m + 60) (expiry_of l) }

pub outcome_says : (rows : List Row) (kind : Kind) (subject : Subject) (facts : Facts) (m : ℕ) → Says rows kind subject facts m (outcome rows kind subject facts m)
outcome_says rows kind subject facts m = says_by rows kind subject facts m (first (meets false kind subject facts m) rows) (first (meets true kind subject facts m) rows) (first_meets false kind subject facts m rows) (first_meets true kind subject facts m rows)

-- where ids rise, what the rows say is what is computed, but that a default may end sooner

at_most_both : (u m : ℕ) (o : Option ℕ) → u ≤ m → IfSome o (λ e. u ≤ e) → u ≤ at_most m o
at_most_both u m None le by = le
at_most_both u m (Some e) le by = omega (arith, le, by)

fields : (a b : Rank) (allow allow' : Bool) (label label' : List ℕ) (inhibit inhibit' : Bool) (until until' : Option ℕ) → a ≡ b → allow ≡ allow' → label ≡ label' → inhibit ≡ inhibit' → until ≡ until' → governed a allow label inhibit until ≡ governed b allow' label' inhibit' until'
fields a b allow allow' label label' inhibit inhibit' until until' p q r s t = cc

-- the same of an outcome by two rows that were found
still_by : (rows : List Row) (kind : Kind) (subject : Subject) (facts : Facts) (m : ℕ) (g l : Option Row) (o : Outcome) → AllPairs (λ (a b : Row). a.id < b.id) rows →
    IsFirstOf (Meets false kind subject facts m) rows g → IsFirstOf (Meets true kind subject facts m) rows l → Says rows kind subject facts m o → StillSays o (outcome_by rows kind m g l)
still_by rows kind subject facts m g l (governed rank allow label inhibit until) apart f k h =
    let one : Some h.row ≡ g = one_answer (Meets false kind subject facts m) rows (Some h.row) g apart h.first f in
    subst (λ x. StillSays (governed rank allow label inhibit until) (outcome_by rows kind m x l)) one
    (fields rank (rank_of h.row) allow h.row.allow label h.row.label inhibit h.row.inhibit until h.row.expires h.rank_is h.allow_is h.label_is h.inhibit_is h.until_is)
still_by rows kind subject facts m g l (default latent label until) apart f k h =
    let none : None ≡ g = one_answer (Meets false kind subject facts m) rows None g apart h.none f in
    let one : h.row ≡ l = one_answer (Meets true kind subject facts m) rows h.row l apart h.first k in
    subst (λ x. StillSays (default latent label until) (outcome_by rows kind m x l)) none
    (subst (λ y. StillSays (default latent label until) (outcome_by rows kind m None y)) one
    (h.latent_is, h.label_is, at_most_both until (m + 60) (expiry_of h.row) h.soon h.by_expiry))

pub still_says : (rows : List Row) (kind : Kind) (subject : Subject) (facts : Facts) (m : ℕ) (o : Outcome) → AllPairs (λ (a b : Row). a.id < b.id) rows → Says rows kind subject facts m o → StillSays o (outcome rows kind subject facts m)
still_says rows kind subject facts m o apart h = still_by rows kind subject facts m (first (meets false kind subject facts m) rows) (first (meets true kind subject facts m) rows) o apart (first_meets false kind subject facts m rows) (first_meets true kind subject facts m rows) h

by_less : (o : Option ℕ) (u v : ℕ) → u ≤ v → IfSome o (λ e. v ≤ e) → IfSome o (λ e. u ≤ e)
by_less None u v le h = tt
by_less (Some e) u v le h = omega (arith, h, le)

less_default : (rows : List Row) (kind : Kind) (subject : Subject) (facts : Facts) (m : ℕ) (latent other : Option ℕ) (label text : List ℕ) (u v : ℕ) → latent ≡ other → label ≡ text → u ≤ v → IsDefault rows kind subject facts m other text v → IsDefault rows kind subject facts m latent label u
less_default rows kind subject facts m latent other label text u v a b le h = record {
  row = h.row;
  none = h.none;
  first = h.first;
  latent_is = a ∙ h.latent_is;
  label_is = b ∙ h.label_is;
  soon = omega (arith, h.soon, le);
  by_expiry = by_less (expiry_of h.row) u v le h.by_expiry;
}

-- and what still is what is said is right
says_from : (rows : List Row) (kind : Kind) (subject : Subject) (facts : Facts) (m : ℕ) (o now : Outcome) → StillSays o now → Says rows kind subject facts m now → Says rows kind subject facts m o
says_from rows kind subject facts m (governed rank allow label inhibit until) now s h = subst (λ x. Says rows kind subject facts m x) (sym s) h
says_from rows kind subject facts m (default latent label until) (default other text end) s h = less_default rows kind subject facts m latent other label text until end s.0 s.1 s.2 h
says_from rows kind subject facts m (default latent label until) (governed rank allow text inhibit end) s h = absurd s

pub says_still : (rows : List Row) (kind : Kind) (subject : Subject) (facts : Facts) (m : ℕ) (o : Outcome) → StillSays o (outcome rows kind subject facts m) → Says rows kind subject facts m o
says_still rows kind subject facts m o s = says_from rows kind subject facts m o (outcome rows kind subject facts m) s (outcome_says rows kind subject facts m)
