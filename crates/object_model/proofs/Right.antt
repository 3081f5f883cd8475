-- An outcome that was right stays right until it ends, while the rows on which it rests stay.
use Rattle.std.proofs.Common.{◌≡◌, ℕ, ◌<◌, ◌≤◌, List, refl, sym, ◌∙◌, subst, arith, Option, Some, None}
use Rattle.std.specs.Prelude.{Contains, Bool, true, false, not, ◌&&◌, IfSome}
use Rattle.std.specs.List.{filter}
use Rattle.std.proofs.lemmas.Bool.{ltb-true, false_from_ne_true}
use Rattle.req_tree.specs.Subject.{Subject}
use Rattle.req_tree.specs.Facts.{Facts}
use Rattle.policy_model.specs.Rules.{Row, Rank, Kind, same_kind, rank_of, Before, is_before, is_below, Live, Meets, IsLatent}
use Rattle.policy_model.specs.Outcomes.{Outcome, governed, default, expiry_of}
use Rattle.policy_model.specs.History.{Entry}
use Rattle.policy_model.proofs.FirstRows.{same_kind-from, before_irrefl, before_asym, test_before}
use Rattle.object_model.specs.Objects.{rests_on, ends, is_unexpired}
use Rattle.object_model.proofs.Says.{IsGovernedBy, IsDefault, Says, IsRight}
use Rattle.object_model.proofs.Firsts.{in_both, first_stays, none_stays}

live_sooner : (o : Option ℕ) (m n : ℕ) → m ≤ n → IfSome o (λ e. n < e) → IfSome o (λ e. m < e)
live_sooner None m n le live = tt
live_sooner (Some e) m n le live = omega (arith, le, live)

pub meets_sooner : (disabled : Bool) (kind : Kind) (subject : Subject) (facts : Facts) (m n : ℕ) (r : Row) → m ≤ n → Meets disabled kind subject facts n r → Meets disabled kind subject facts m r
meets_sooner disabled kind subject facts m n r le h = record { applies = record { of_kind = h.applies.of_kind; live = record { unexpired = live_sooner r.expires m n le h.applies.live.unexpired }; means_true = h.applies.means_true }; counted = h.counted }

meets_on : (disabled : Bool) (kind : Kind) (subject : Subject) (facts : Facts) (m n : ℕ) (r : Row) → Live n r → Meets disabled kind subject facts m r → Meets disabled kind subject facts n r
meets_on disabled kind subject facts m n r live h = record { applies = record { of_kind = h.applies.of_kind; live = live; means_true = h.applies.means_true }; counted = h.counted }

below_live : (o : Option ℕ) (m : ℕ) → is_below m o ≡ true → IfSome o (λ e. m < e)
below_live None m h = tt
below_live (Some e) m h = ltb-true m e h

live_by : (o : Option ℕ) (n until : ℕ) → n < until → IfSome o (λ e. until ≤ e) → IfSome o (λ e. n < e)
live_by None n until lt by = tt
live_by (Some e) n until lt by = omega (arith, lt, by)

pub not_before : (a b : Rank) → (Before a b → ⊥) → is_before a b ≡ false
not_before a b h = false_from_ne_true (is_before a b) (λ t. h (test_before a b t))

-- rows of the kind that the rank isn't before are looked at
in_front : (kind : Kind) (rank : Rank) (s : Row) (b : Bool) → is_before rank (rank_of s) ≡ b → s.kind ≡ kind → b ≡ false → (same_kind s.kind kind && not (is_before rank (rank_of s))) ≡ true
in_front kind rank s b e k f = let a : is_before rank (rank_of s) ≡ false = e ∙ f in let c : same_kind s.kind kind ≡ true = same_kind-from s.kind kind k in grind (arith, a, c)

pub governed_through : (rows later : List Row) (kind : Kind) (subject : Subject) (facts : Facts) (m n : ℕ) (rank : Rank) (allow : Bool) (label : List ℕ) (inhibit : Bool) (until : Option ℕ)
    → filter (rests_on kind (governed rank allow label inhibit until)) rows ≡ filter (rests_on kind (governed rank allow label inhibit until)) later
    → m ≤ n → is_below n until ≡ true
    → IsGovernedBy rows kind subject facts m rank allow label inhibit until → IsGovernedBy later kind subject facts n rank allow label inhibit until
governed_through rows later kind subject facts m n rank allow label inhibit until same le lasts h =
    let front : (s : Row) → s.kind ≡ kind → (Before rank (rank_of s) → ⊥) → rests_on kind (governed rank allow label inhibit until) s ≡ true = λ s k b. in_front kind rank s false (not_before rank (rank_of s) b) k refl in
    let live : Live n h.row = record { unexpired = subst (λ o. IfSome o (λ e. n < e)) h.until_is (below_live until n lasts) } in
    let itself : Before rank (rank_of h.row) → ⊥ = λ b. before_irrefl (rank_of h.row) (subst (λ z. Before z (rank_of h.row)) h.rank_is b) in
    record {
      row = h.row;
      first = first_stays (Meets false kind subject facts m) (Meets false kind subject facts n) rows later h.row h.first
          (in_both (rests_on kind (governed rank allow label inhibit until)) rows later h.row same h.first.among (front h.row h.first.itself.applies.of_kind itself))
          (meets_on false kind subject facts m n h.row live h.first.itself)
          (λ s c q b. (
            in_both (rests_on kind (governed rank allow label inhibit until)) later rows s (sym same) c
                (front s q.applies.of_kind (λ a. before_asym (rank_of s) (rank_of h.row) b (subst (λ z. Before z (rank_of s)) h.rank_is a))),
            meets_sooner false kind subject facts m n s le q,
          ));
      rank_is = h.rank_is;
      allow_is = h.allow_is;
      label_is = h.label_is;
      inhibit_is = h.inhibit_is;
      until_is = h.until_is;
    }

-- a default rests on all rows of the kind
old_row : (rows later : List Row) (disabled : Bool) (kind : Kind) (subject : Subject) (facts : Facts) (m n : ℕ) → filter (λ r. same_kind r.kind kind) rows ≡ filter (λ r. same_kind r.kind kind) later → m ≤ n → (s : Row) → Contains later s → Meets disabled kind subject facts n s → Contains rows s × Meets disabled kind subject facts m s
old_row rows later disabled kind subject facts m n same le s c q = (in_both (λ r. same_kind r.kind kind) later rows s (sym same) c (same_kind-from s.kind kind q.applies.of_kind), meets_sooner disabled kind subject facts m n s le q)

latent_through : (rows later : List Row) (kind : Kind) (subject : Subject) (facts : Facts) (m n : ℕ) (until : ℕ) (o : Option Row) → filter (λ r. same_kind r.kind kind) rows ≡ filter (λ r. same_kind r.kind kind) later → m ≤ n → n < until → IfSome (expiry_of o) (λ e. until ≤ e) → IsLatent rows kind subject facts m o → IsLatent later kind subject facts n o
latent_through rows later kind subject facts m n until None same le lasts by f = none_stays (Meets true kind subject facts m) (Meets true kind subject facts n) rows later f (old_row rows later true kind subject facts m n same le)
latent_through rows later kind subject facts m n until (Some r) same le lasts by f =
    first_stays (Meets true kind subject facts m) (Meets true kind subject facts n) rows later r f
    (in_both (λ r. same_kind r.kind kind) rows later r same f.among (same_kind-from r.kind kind f.itself.applies.of_kind))
    (meets_on true kind subject facts m n r (record { unexpired = live_by r.expires n until lasts by }) f.itself)
    (λ s c q b. old_row rows later true kind subject facts m n same le s c q)

default_through : (rows later : List Row) (kind : Kind) (subject : Subject) (facts : Facts) (m n : ℕ) (latent : Option ℕ) (label : List ℕ) (until : ℕ)
    → filter (λ r. same_kind r.kind kind) rows ≡ filter (λ r. same_kind r.kind kind) later
    → m ≤ n → n < until
    → IsDefault rows kind subject facts m latent label until → IsDefault later kind subject facts n latent label until
default_through rows later kind subject facts m n latent label until same le lasts h = record {
  row = h.row;
  none = none_stays (Meets false kind subject facts m) (Meets false kind subject facts n) rows later h.none (old_row rows later false kind subject facts m n same le);
  first = latent_through rows later kind subject facts m n until h.row same le lasts h.by_expiry h.first;
  latent_is = h.latent_is;
  label_is = h.label_is;
  soon = omega (arith, h.soon, le);
  by_expiry = h.by_expiry;
}

-- an entry that was right at m over some rows is right at n over later ones
says_through : (rows later : List Row) (kind : Kind) (subject : Subject) (facts : Facts) (m n : ℕ) (o : Outcome) → filter (rests_on kind o) rows ≡ filter (rests_on kind o) later → m ≤ n → is_below n (ends o) ≡ true → Says rows kind subject facts m o → Says later kind subject facts n o
says_through rows later kind subject facts m n (governed rank allow label inhibit until) same le lasts h = governed_through rows later kind subject facts m n rank allow label inhibit until same le lasts h
says_through rows later kind subject facts m n (default latent label until) same le lasts h = default_through rows later kind subject facts m n latent label until same le (ltb-true n until lasts) h

pub right_through : (rows later : List Row) (facts : Facts) (m n : ℕ) (e : Entry) → filter (rests_on e.kind e.outcome) rows ≡ filter (rests_on e.kind e.outcome) later → m ≤ n → is_unexpired n e ≡ true → IsRight rows facts m e → IsRight later facts n e
right_through rows later facts m n e same le lasts h = says_through rows later e.kind e.subject facts m n e.outcome same le lasts h
