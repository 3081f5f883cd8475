-- A chain of which one certificate was changed.
use Rattle.std.proofs.Common.{◌≡◌, ℕ, zero, suc, ◌<◌, length, List, [], ◌∷◌, refl, ap, ◌∙◌, arith, slice_set, get_or, map}
use Rattle.req_tree.specs.Facts as f
use Rattle.fact_values.specs.Knowledge.{certificate_of}
use Rattle.fact_values.specs.Growth.{changed_at}
use Rattle.fact_values.specs.declared.certificate.Certificate.{Certificate}

-- the item at a place is set to what it changes to
changed_is_set : (change : f.Certificate → f.Certificate) (place : ℕ) (chain : List Certificate) (d new : Certificate) → place < length chain →
    certificate_of new ≡ change (certificate_of (get_or chain place d)) → map certificate_of (slice_set chain place new) ≡ changed_at place change (map certificate_of chain)
changed_is_set change zero [] d new h e = refl
changed_is_set change zero (c ∷ chain) d new h e = ap (λ x. x ∷ map certificate_of chain) e
changed_is_set change (suc n) [] d new h e = refl
changed_is_set change (suc n) (c ∷ chain) d new h e = ap (λ l. certificate_of c ∷ l) (changed_is_set change n chain d new (omega arith) e)

-- the certificate that stands at the place, and what it is then
pub changed_chain : (change : f.Certificate → f.Certificate) (place : ℕ) (chain : List Certificate) (old new : Certificate) → place < length chain → old ≡ get_or chain place old →
    certificate_of new ≡ change (certificate_of old) → map certificate_of (slice_set chain place new) ≡ changed_at place change (map certificate_of chain)
changed_chain change place chain old new h was e = changed_is_set change place chain old new h (e ∙ ap (λ c. change (certificate_of c)) was)
