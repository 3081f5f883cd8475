use Rattle.std.proofs.Common.{[], sym, subst}
use Rattle.table_commands.specs.TableSays.{SaysList}
use Rattle.run_commands.specs.Spoken.{IsUttered}
use Rattle.run_commands.proofs.Over.{map_ok, starved_ok, starved_halts}
use Rattle.run_commands.proofs.on_tables.list_over.Goals as goal

pub returns-clause-says : goal.returns-clause-says
returns-clause-says c o stands = starved_ok (λ said. SaysList o [] said.status said.text) c.list-said.result c.starved.result c.starved.ensures (c.list-said.ensures o [] stands)

pub returns-clause-spoken : goal.returns-clause-spoken
returns-clause-spoken c o stands =
    starved_ok (λ said. IsUttered said.status) c.list-said.result c.starved.result c.starved.ensures
    (map_ok (λ said. SaysList o [] said.status said.text) (λ said. IsUttered said.status) c.list-said.result (c.list-said.ensures o [] stands) (λ said says. subst IsUttered (sym says.status_is) tt))

pub returns-clause-halts : goal.returns-clause-halts
returns-clause-halts c = starved_halts c.list-said.result c.starved.result c.starved.ensures
