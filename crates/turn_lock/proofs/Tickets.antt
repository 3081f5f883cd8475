-- Who owns which ticket.
use Rattle.std.proofs.Common.{◌≡◌, ◌≢◌, ℕ, ◌+◌, List, [], ◌∷◌, refl, ap, sym, ◌∙◌, arith}
use native.Mathlib.Decide.{ℕ_discrete}
use Rattle.turn_lock.specs.Rule.{TicketOk}

abbrev head_or : ℕ → List ℕ → ℕ
head_or d [] = d
head_or d (x ∷ xs) = x

-- a list of one ticket has no other
pub one_ticket : (ts : List ℕ) (a b : ℕ) → ts ≡ a ∷ [] → ts ≡ b ∷ [] → a ≡ b
one_ticket ts a b p q = ap (head_or 0) (sym p ∙ q)

abbrev pick : {P : Type 0} → Dec P → ℕ → ℕ → ℕ
pick (yes _) a b = a
pick (no _) a b = b

-- the owners, but for the ticket i, which is that of c
pub put : (ℕ → ℕ) → ℕ → ℕ → ℕ → ℕ
put f i c j = pick (ℕ_discrete j i) c (f j)

-- the ticket i is that of c
pub put_here : (f : ℕ → ℕ) (i c : ℕ) → put f i c i ≡ c
unfolding put
put_here f i c = go (ℕ_discrete i i)
  where
    go : (d : Dec (i ≡ i)) → pick d c (f i) ≡ c
    go (yes _) = refl
    go (no n) = absurd (n refl)

-- each other ticket has the owner that it had
pub put_else : (f : ℕ → ℕ) (i c j : ℕ) → j ≢ i → put f i c j ≡ f j
unfolding put
put_else f i c j other = go (ℕ_discrete j i)
  where
    go : (d : Dec (j ≡ i)) → pick d c (f j) ≡ f j
    go (yes e) = absurd (other e)
    go (no _) = refl

-- what tickets a seat has stays right when a ticket is drawn
pub ticket_drawn : (next serving : ℕ) (owner : ℕ → ℕ) (id by : ℕ) (ts : List ℕ) → TicketOk next serving owner by ts → TicketOk (next + 1) serving (put owner next id) by ts
ticket_drawn next serving owner id by [] k = tt
ticket_drawn next serving owner id by (t ∷ []) k = let l = k.1 in (k.0, omega arith, put_else owner next id t (λ e. omega arith) ∙ k.2)
ticket_drawn next serving owner id by (t ∷ u ∷ ts) k = k

-- and when another seat's turn is ended
pub ticket_ended : (next serving : ℕ) (owner : ℕ → ℕ) (by : ℕ) (ts : List ℕ) → by ≢ owner serving → TicketOk next serving owner by ts → TicketOk next (serving + 1) owner by ts
ticket_ended next serving owner by [] other k = tt
ticket_ended next serving owner by (t ∷ []) other k = let a = k.0 in let ne : t ≢ serving = λ e. other (sym k.2 ∙ ap owner e) in (omega arith, k.1, k.2)
ticket_ended next serving owner by (t ∷ u ∷ ts) other k = k
