-- A text has one list of records, of which those that were taken are the front.
use Rattle.std.proofs.Common.{◌≡◌, ℕ, List, [], ◌∷◌, ◌++◌, None, Some, Bor, refl, sym, ap, subst, ◌∙◌}
use Rattle.csv.specs.Machine.{Read, next_record}
use Rattle.csv.specs.Reading.{Reached, AreRecords, default_config, strip_bom, reader_state}
use Rattle.csv.specs.declared.parser.Config.{Config}
use Rattle.csv.specs.declared.parser.State.{State}
use Rattle.csv.specs.declared.parser.State.TheVariants as st
use Rattle.csv.specs.declared.reader.Reader.{Reader}
use Rattle.csv_records.specs.Reading.{HasTaken, HasRecords}

-- what was reached is the front of all
reached_front : (cfg : Config) (s : State) (xs : List ℕ) (front : List (List (List ℕ))) (s2 : State) (ys : List ℕ) (all : List (List (List ℕ)))
    → Reached cfg s xs front s2 ys → AreRecords cfg s xs all → (more : List (List (List ℕ))) × (all ≡ front ++ more) × AreRecords cfg s2 ys more
unfolding Reached
reached_front cfg s xs [] s2 ys all h a = (all, refl, rw (← h.0, ← h.1) a)
reached_front cfg s xs (r ∷ rs) s2 ys [] h a =
    let some : next_record cfg s [] [] xs ≡ Some h.0 = h.1 in
    let here : s ≡ a.0 = a.2.0 in
    let left : xs ≡ a.1 = a.2.1 in
    let none : next_record cfg a.0 [] [] a.1 ≡ None = a.3 in
    absurd (cc)
reached_front cfg s xs (r ∷ rs) s2 ys (q ∷ qs) h a =
    let first : next_record cfg s [] [] xs ≡ Some h.0 = h.1 in
    let again : next_record cfg s [] [] xs ≡ Some a.2.0 = a.2.1 in
    let same : a.2.0 ≡ h.0 = cc in
    let r_is : r ≡ h.0.0 = h.2 in
    let q_is : q ≡ a.2.0.0 = a.2.2 in
    let rest : Reached cfg h.0.1 h.0.2 qs a.0 a.1 = subst (λ (p : Read). Reached cfg p.1 p.2 qs a.0 a.1) same a.2.3 in
    let more = reached_front cfg h.0.1 h.0.2 rs s2 ys qs h.3 (a.0, a.1, rest, a.3) in
    let heads : q ≡ r = q_is ∙ ap (λ (p : Read). p.0) same ∙ sym r_is in
    let tails : qs ≡ rs ++ more.0 = more.1 in
    (more.0, ap (λ (f : List (List ℕ)). f ∷ qs) heads ∙ ap (λ (t : List (List (List ℕ))). r ∷ t) tails, more.2)

no_more : (cfg : Config) (s : State) (xs : List ℕ) (more : List (List (List ℕ))) → next_record cfg s [] [] xs ≡ None → AreRecords cfg s xs more → more ≡ []
unfolding Reached
no_more cfg s xs [] none a = refl
no_more cfg s xs (r ∷ rs) none a =
    let some : next_record cfg s [] [] xs ≡ Some a.2.0 = a.2.1 in
    absurd (cc)

append_none : (xs : List (List (List ℕ))) → xs ++ [] ≡ xs
append_none [] = refl
append_none (x ∷ xs) = ap (λ (t : List (List (List ℕ))). x ∷ t) (append_none xs)

-- a text has one list of records
pub one_list : (text : List ℕ) (front all : List (List (List ℕ))) → HasRecords text front → HasRecords text all → all ≡ front
one_list text front all f a =
    let more = reached_front default_config st.StartRecord (strip_bom text) front f.0 f.1 all f.2 a in
    let none : more.0 ≡ [] = no_more default_config f.0 f.1 more.0 f.3 more.2 in
    more.1 ∙ ap (λ (t : List (List (List ℕ))). front ++ t) none ∙ append_none front

-- what was taken is the front of all
pub taken_front : (reader : Reader (Bor (List ℕ))) (text : List ℕ) (front all : List (List (List ℕ))) → HasTaken reader text front → HasRecords text all
    → (more : List (List (List ℕ))) × (all ≡ front ++ more)
taken_front reader text front all h a =
    let more = reached_front default_config st.StartRecord (strip_bom text) front (reader_state reader) h.left all h.reached a in
    (more.0, more.1)
