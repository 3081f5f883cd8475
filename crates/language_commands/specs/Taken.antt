-- What is taken or refused. This project's own.
use Rattle.std.specs.Prelude.{ℕ, List}
use Rattle.run_status.specs.declared.status.Status.{Status}
use Rattle.run_status.specs.declared.status.Status.TheVariants.{Fine, Refused}

-- what is said, by the status, where something is taken or refused
abbrev pub TakenOrRefused : (List ℕ → Type 0) → (List ℕ → Type 0) → Status → List ℕ → Type 0
TakenOrRefused Takes Refuses Fine said = Takes said
TakenOrRefused Takes Refuses Refused said = Refuses said
TakenOrRefused Takes Refuses other said = ⊥
