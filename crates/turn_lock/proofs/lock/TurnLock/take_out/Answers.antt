use Rattle.std.proofs.Common.{rules, ◌∷◌, ◌∙◌, ap, sym, Some}
use Rattle.atomic_table.specs.Table.{rest}
use Rattle.turn_lock.proofs.lock.TurnLock.take_out.Goals as goal

pub exchange-requires : goal.exchange-requires
exchange-requires g c = let f = c.requires.full in (search rules, (Some f.0, f.1 ∙ ap (λ cs. (0, Some f.0) ∷ rest cs) (sym f.1)))
