-- The loan of the value for the time of a turn. This project's own.
use Rattle.std.specs.Borrow.{Lends, MutBor, Fml, RattleType}
use Rattle.std.specs.Prelude.{[]}
use mir.Syntax.{named}
use Rattle.turn_lock.specs.declared.logged.Logged.{Ghosts}
use Rattle.turn_lock.specs.contracts.held.Held.{the_row}

-- the value is lent, and nothing else of the turn changes
abbrev pub LendsValue : (R O E : RattleType) → (G : Ghosts R.Denot O.Denot E.Denot) → (k : MutBor (the_row (record { mir = named 1; lft = [] }) R O E G).Denot) → MutBor R.Denot → Fml
LendsValue R O E G s r = Lends (the_row (record { mir = named 1; lft = [] }) R O E G) R s r (λ w. record s.now { value = w })
