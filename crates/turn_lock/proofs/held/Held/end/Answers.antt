use Rattle.std.proofs.Common.{ap, sym, subst}
use Rattle.turn_lock.specs.Seats.{MayEnd}
use Rattle.turn_lock.proofs.held.Held.end.Goals as goal

pub end-served-requires-clause-value : goal.end-served-requires-clause-value
end-served-requires-clause-value g c = let m = c.give.ensures.me in (
  c.args.self.value,
  ap (λ z. z.1) m,
  subst (λ v. MayEnd g.T.Logged.stands v g.N.Names.events c.args.self.value) (sym (ap (λ z. z.0) m)) c.requires.stands,
)
