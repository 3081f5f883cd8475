use Rattle.std.proofs.Common.{sym, subst}
use Rattle.held_rules.specs.Spans.{AreRising}
use Rattle.authority_table.proofs.Planned.{held_after}
use Rattle.authority_table.proofs.table.Table.commit.Goals as goal

pub rises_with-self-inside-requires : goal.rises_with-self-inside-requires
rises_with-self-inside-requires c = λ r. subst AreRising (sym c.deref.ensures.value) (c.self.invariant.rise r)

pub invariant_of-self-in-Change : goal.invariant_of-self-in-Change
invariant_of-self-in-Change c =
    held_after c.in-Change.selector c.in-Change.change c.self.inside.rules c.change.new.rules c.self.inside.marks c.change.new.marks c.self.inside.rising c.self.invariant c.change.ensures.rows c.change.ensures.fewer
    c.change.ensures.held c.change.ensures.marked c.change.ensures.marks_held
