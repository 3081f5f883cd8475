-- A rehearsal of which a step is left makes its line, and goes on.
use Rattle.std.proofs.Common.{◌≡◌, ℕ, suc, ◌+◌, List, ◌∷◌, sym, ◌∙◌, ap, ap₂, arith}
use Rattle.rehearsal.specs.Made.{Course, step, lines_from}

pub one_more : (left fewer i : ℕ) (c after : Course) (line : List ℕ) → left ≡ fewer + 1 → line ≡ (step i c).0 → after ≡ (step i c).1 → lines_from left i c ≡ line ∷ lines_from fewer (i + 1) after
one_more left fewer i c after line count first rest =
    let as_suc : left ≡ suc fewer = omega (arith, count) in
    ap (λ (n : ℕ). lines_from n i c) as_suc ∙ ap₂ (λ (l : List ℕ) (a : Course). l ∷ lines_from fewer (i + 1) a) (sym first) (sym rest)
