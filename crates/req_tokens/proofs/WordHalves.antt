-- A table is looked through in two halves.
use Rattle.std.proofs.Common.{◌≡◌, ℕ, Bool, true, false, if◌then◌else◌, List, [], ◌∷◌, ◌++◌, Option, Some, None, refl, sym, ap, ◌∙◌}
use Rattle.std.specs.Str.{bytes_eq}
use Rattle.req_grammar.specs.Words.{Word, under, reserved}
use Rattle.req_tokens.specs.Words.{early, late}

-- the first, or else the second
or_other : Option Word → Option Word → Option Word
or_other (Some w) other = Some w
or_other None other = other

or_other-some : (w : Word) (other : Option Word) → or_other (Some w) other ≡ Some w
unfolding or_other
or_other-some w other = refl

or_other-none : (other : Option Word) → or_other None other ≡ other
unfolding or_other
or_other-none other = refl

under_step : (w : Word) (a b : Option Word) (t : Bool) → (if t then Some w else or_other a b) ≡ or_other (if t then Some w else a) b
unfolding or_other
under_step w a b true = refl
under_step w a b false = refl

under-append : (a b : List (List ℕ × Word)) (bytes : List ℕ) → under bytes (a ++ b) ≡ or_other (under bytes a) (under bytes b)
under-append [] b bytes = sym (or_other-none (under bytes b))
under-append (entry ∷ a) b bytes =
    ap (λ (rest : Option Word). if bytes_eq entry.0 bytes then Some entry.1 else rest) (under-append a b bytes) ∙ under_step entry.1 (under bytes a) (under bytes b) (bytes_eq entry.0 bytes)

halves : (bytes : List ℕ) → under bytes reserved ≡ or_other (under bytes early) (under bytes late)
halves bytes = under-append early late bytes

pub in_first_half : (bytes : List ℕ) (w : Word) → under bytes early ≡ Some w → under bytes reserved ≡ Some w
in_first_half bytes w is = halves bytes ∙ ap (λ (o : Option Word). or_other o (under bytes late)) is ∙ or_other-some w (under bytes late)

pub in_second_half : (bytes : List ℕ) → under bytes early ≡ None → under bytes reserved ≡ under bytes late
in_second_half bytes is = halves bytes ∙ ap (λ (o : Option Word). or_other o (under bytes late)) is ∙ or_other-none (under bytes late)
