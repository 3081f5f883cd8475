-- Pieces that are laid one behind the other.
use Rattle.std.proofs.Common.{◌≡◌, ℕ, ◌+◌, ◌≤◌, List, [], ◌∷◌, ◌++◌, arith, refl, sym, ◌∙◌, ap, ap₂, append_assoc, append-nil}
use Rattle.line_text.specs.LineText.{line_bytes}
use Rattle.rehearsal.specs.declared.draft.Draft.{Draft}
use Rattle.rehearsal.specs.Draws.{Piece, stirred, below, drawn, chosen, in_turn}
use Rattle.rehearsal.specs.Laid.{Lays}

-- nothing was laid
pub lays_none : (a : Draft) → Lays (in_turn []) 0 a a
lays_none a = record { text = sym (append-nil (line_bytes a.line)); state = refl; fits = omega arith }

-- a piece, and then the others
pub lays_more : (piece : Piece) (pieces : List Piece) (m n : ℕ) (a b c : Draft) → Lays piece m a b → Lays (in_turn pieces) n b c → Lays (in_turn (piece ∷ pieces)) (m + n) a c
lays_more piece pieces m n a b c first rest = record {
  text = rest.text ∙ ap₂ (λ (l : List ℕ) (x : ℕ). l ++ (in_turn pieces x).0) first.text first.state ∙ append_assoc (line_bytes a.line) (piece a.state).0 (in_turn pieces (piece a.state).1).0;
  state = rest.state ∙ ap (λ (x : ℕ). (in_turn pieces x).1) first.state;
  fits = omega (arith, first.fits, rest.fits);
}

-- there may be room for more
pub lays_within : (piece : Piece) (m n : ℕ) (a b : Draft) → Lays piece m a b → m ≤ n → Lays piece n a b
lays_within piece m n a b lays more = record { text = lays.text; state = lays.state; fits = omega (arith, lays.fits, more) }

-- a draw, and then the piece that it chooses
pub lays_chosen : (k : ℕ) (piece : ℕ → Piece) (m d : ℕ) (a b c : Draft) → b.state ≡ stirred a.state → d ≡ below k (stirred a.state) → b.line ≡ a.line → Lays (piece d) m b c → Lays (chosen k piece) m a c
lays_chosen k piece m d a b c state draw line lays = record {
  text = lays.text ∙ ap₂ (λ (l x : List ℕ). l ++ x) (ap line_bytes line) (ap₂ (λ (n x : ℕ). (piece n x).0) draw state);
  state = lays.state ∙ ap₂ (λ (n x : ℕ). (piece n x).1) draw state;
  fits = rw (← line) lays.fits;
}

-- a draw, and then the text that it stands for
pub lays_drawn : (k : ℕ) (text : ℕ → List ℕ) (m d : ℕ) (a b c : Draft) → b.state ≡ stirred a.state → d ≡ below k (stirred a.state) → b.line ≡ a.line → Lays (λ x. (text d, x)) m b c → Lays (drawn k text) m a c
lays_drawn k text m d a b c state draw line lays = lays_chosen k (λ n x. (text n, x)) m d a b c state draw line lays
