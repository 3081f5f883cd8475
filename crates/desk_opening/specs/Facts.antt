-- The facts of a run: those of a file, where one is named. This project's own.
use Rattle.std.specs.Prelude.{◌≡◌, ◌≢◌, ◌⊎◌, ℕ, List, Option, None, Some, IsSome, option_map, ⊤}
use denote.Bor.{Bor}
use Rattle.gk_io.specs.Shelf.{File}
use Rattle.line_reader.specs.Lines.{with_lf}
use Rattle.req_tree.specs.Facts.{Facts, no_facts}
use Rattle.code_facts.specs.declared.fault.FactFault.{FactFault}
use Rattle.code_facts.specs.declared.fault.FactFault.TheVariants.{OutOfMemory}
use Rattle.code_facts.specs.Tables.{IsFactsFile, IsFirstFault}
use Rattle.run_status.specs.declared.status.Status.{Status}
use Rattle.run_status.specs.declared.status.Status.TheVariants.{BadFacts}
use Rattle.run_status.specs.declared.stop.Stop.TheVariants as stop
use Rattle.run_status.specs.Files.{IsFile, SaysWithoutFile}
use Rattle.desk_opening.specs.declared.limits.TheConstants.{MOST_FACTS_BYTES}
use Rattle.desk_opening.specs.declared.unopened.Unopened.{Unopened}
use Rattle.desk_opening.specs.declared.unopened.Unopened.TheVariants.{Said, Stop, KeeperFault}
use Rattle.desk_opening.specs.StoreTexts.{bad_facts_text}

-- the name of the facts file, where one is named
abbrev pub name_of : Option (Bor (List ℕ)) → Option (List ℕ)
name_of name = option_map (λ word. word.now) name

-- the facts: none without a file, else those of the file of that name
abbrev pub IsFacts : Option (List File) → Option (List ℕ) → Facts → Type 0
IsFacts files None facts = facts ≡ no_facts
IsFacts files (Some name) facts = (bytes : List ℕ) × IsFile files name MOST_FACTS_BYTES bytes × IsFactsFile bytes facts

-- the facts were read, or none were asked for
abbrev pub HasFacts : Option (List File) → Option (List ℕ) → Type 0
HasFacts files name = (facts : Facts) × IsFacts files name facts

-- the facts file's bytes are refused for this fault, and the line says so
abbrev pub SaysBadFacts : List ℕ → Status → List ℕ → Type 0
SaysBadFacts bytes BadFacts text = (fault : FactFault) × (fault ≢ OutOfMemory) × IsFirstFault bytes fault × (text ≡ with_lf (bad_facts_text fault))
SaysBadFacts bytes other text = ⊥

-- what is said, by its status, of a facts file that isn't there, is too long or is wrong
abbrev pub SaysOfFacts : Option (List File) → Option (List ℕ) → Status → List ℕ → Type 0
SaysOfFacts files None status text = ⊥
SaysOfFacts files (Some name) status text =
    SaysWithoutFile files name MOST_FACTS_BYTES status text
    ⊎ ((bytes : List ℕ) × IsFile files name MOST_FACTS_BYTES bytes × SaysBadFacts bytes status text)

-- why there are no facts: what is said of their file, the shelf, which is asked for a file that is named, or no memory
abbrev pub FactsFail : Option (List File) → Option (List ℕ) → Unopened → Type 0
FactsFail files name (Said said) = SaysOfFacts files name said.status said.text
FactsFail files name (Stop stop.ShelfFault) = IsSome name
FactsFail files name (Stop stop.ClockFault) = ⊥
FactsFail files name (Stop stop.OutOfMemory) = ⊤
FactsFail files name KeeperFault = ⊥

-- why a refused file gives no facts: its line, or no memory
abbrev pub IsRefusal : FactFault → Unopened → Type 0
IsRefusal fault (Said said) = (fault ≢ OutOfMemory) × (said.status ≡ BadFacts) × (said.text ≡ with_lf (bad_facts_text fault))
IsRefusal fault (Stop stop.ShelfFault) = ⊥
IsRefusal fault (Stop stop.ClockFault) = ⊥
IsRefusal fault (Stop stop.OutOfMemory) = ⊤
IsRefusal fault KeeperFault = ⊥

-- why these bytes give no facts
abbrev pub ReadingFails : List ℕ → Unopened → Type 0
ReadingFails bytes (Said said) = SaysBadFacts bytes said.status said.text
ReadingFails bytes (Stop stop.ShelfFault) = ⊥
ReadingFails bytes (Stop stop.ClockFault) = ⊥
ReadingFails bytes (Stop stop.OutOfMemory) = ⊤
ReadingFails bytes KeeperFault = ⊥
