-- Places at which a mark doesn't stand.
use Rattle.std.proofs.Common.{◌≡◌, ◌≢◌, ℕ, ◌+◌, ◌-◌, ◌<◌, ◌≤◌, length, get_or, List, refl, sym, ap, ◌∙◌, arith}
use Rattle.std.specs.Prelude.{Bool, true, false, nat_lt}
use Rattle.std.specs.List.{between}
use Rattle.std.proofs.lemmas.Bool.Decides.{nat_tests}
use Rattle.std.proofs.lemmas.List.{get_or_default}
use Rattle.std.proofs.lemmas.List.Edits.{length-between, get_or-between}

split_at : {P : Type 0} (b : Bool) (k at : ℕ) → nat_lt k at ≡ b → (k < at → P) → (at ≤ k → P) → P
split_at true k at e f g = f (grind (arith, nat_tests, e))
split_at false k at e f g = g (grind (arith, nat_tests, e))

-- a mark isn't in a part, so it is at none of its places
absent_between : (marks : List ℕ) (mark from to : ℕ) → from ≤ to → to ≤ length marks → ((k d : ℕ) → k < length (between from to marks) → get_or (between from to marks) k d ≢ mark) →
    (k d : ℕ) → from ≤ k → k < to → get_or marks k d ≢ mark
absent_between marks mark from to le within absent k d ge lt q =
    let many : length (between from to marks) ≡ to - from = length-between marks from to within in
    let here : from + (k - from) ≡ k = omega (arith, ge) in
    absent (k - from) d (omega (arith, many, ge, lt)) (get_or-between marks from to (k - from) d (omega (arith, here, lt)) ∙ (ap (λ n. get_or marks n d) here ∙ q))

-- nor before that part, so nowhere before its end
pub absent_before : (marks : List ℕ) (mark from to : ℕ) → from ≤ to → to ≤ length marks → ((k d : ℕ) → k < from → get_or marks k d ≢ mark) →
    ((k d : ℕ) → k < length (between from to marks) → get_or (between from to marks) k d ≢ mark) → (k d : ℕ) → k < to → get_or marks k d ≢ mark
absent_before marks mark from to le within first absent k d lt =
    split_at (nat_lt k from) k from refl (λ less. first k d less) (λ ge. absent_between marks mark from to le within absent k d ge lt)

-- nor behind that part, so nowhere from its beginning on
pub absent_behind : (marks : List ℕ) (mark from to : ℕ) → from ≤ to → to ≤ length marks → ((k d : ℕ) → to ≤ k → k < length marks → get_or marks k d ≢ mark) →
    ((k d : ℕ) → k < length (between from to marks) → get_or (between from to marks) k d ≢ mark) → (k d : ℕ) → from ≤ k → k < length marks → get_or marks k d ≢ mark
absent_behind marks mark from to le within last absent k d ge in' =
    split_at (nat_lt k to) k to refl (λ less. absent_between marks mark from to le within absent k d ge less) (λ more. last k d more in')

-- one more mark is another
pub absent_more : (marks : List ℕ) (mark i x : ℕ) → i < length marks → x ≡ get_or marks i x → x ≢ mark → ((k d : ℕ) → k < i → get_or marks k d ≢ mark) → (k d : ℕ) → k < i + 1 → get_or marks k d ≢ mark
absent_more marks mark i x lt is other first k d less =
    split_at (nat_lt k i) k i refl (λ before. first k d before) (λ ge q.
    let here : k ≡ i = omega (arith, ge, less) in
    other (is ∙ (get_or_default marks i x d lt ∙ (ap (λ n. get_or marks n d) (sym here) ∙ q))))
