-- Bytes without a quote stand as they are.
use Rattle.std.proofs.Common.{◌≡◌, ℕ, Bool, true, false, ◌==◌, ◌||◌, if◌then◌else◌, List, [], ◌∷◌, ◌++◌, refl, ap, ◌∙◌}
use Rattle.std.specs.List.{flat_map, list_any}
use Rattle.req_grammar.specs.Tokens.{escaped}

neither : (a b : Bool) → (a || b) ≡ false → (a ≡ false) × (b ≡ false)
neither true b h = absurd (cc)
neither false b h = (refl, h)

stays : (b : Bool) (x y : List ℕ) → b ≡ false → (if b then x else y) ≡ y
stays true x y h = absurd (cc)
stays false x y h = refl

pub nothing_escaped : (bytes : List ℕ) → list_any (λ b. b == 34) bytes ≡ false → flat_map escaped bytes ≡ bytes
nothing_escaped [] h = refl
nothing_escaped (b ∷ rest) h =
    let none = neither (b == 34) (list_any (λ b. b == 34) rest) h in
    ap (λ (l : List ℕ). l ++ flat_map escaped rest) (stays (b == 34) (92 ∷ 34 ∷ []) (b ∷ []) none.0) ∙ ap (λ (l : List ℕ). b ∷ l) (nothing_escaped rest none.1)
