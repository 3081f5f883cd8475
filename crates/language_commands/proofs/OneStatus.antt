-- A text or a blob is taken or refused, and never both.
use Rattle.std.proofs.Common.{◌≡◌, ℕ, ◌⊎◌, Bool, true, false, List, inl, inr, refl, sym, ◌∙◌}
use Rattle.run_status.specs.declared.status.Status.{Status}
use Rattle.run_status.specs.declared.status.Status.TheVariants.{Fine, Denied, Usage, ReadFault, WriteFault, ShelfFault, ClockFault, KeeperFault, FileMissing, FileTooLong, BadFacts, BadStore, Refused, SessionTooLong, OutOfMemory}
use Rattle.language_commands.specs.Taken.{TakenOrRefused}
use Rattle.language_commands.specs.Compiling.{Compiles, SaysOfText, IsBlob, RefusesText}
use Rattle.req_ops.specs.SetEncoding.{IsPlainSet}
use Rattle.language_commands.specs.CompilingSets.{CompilesSet, SaysOfSetText, RefusesSetText}
use Rattle.language_commands.specs.Dumping.{Dumps, DumpsBy, SaysTree, RefusesBlob, SaysSet, begins_as_set}
use Rattle.language_commands.specs.Dumping as dumping

-- what is neither taken nor refused says nothing
two : (Takes Refuses : List ℕ → Type 0) (status : Status) (said : List ℕ) → TakenOrRefused Takes Refuses status said → ((status ≡ Fine) × Takes said) ⊎ ((status ≡ Refused) × Refuses said)
two Takes Refuses Fine said h = inl (refl, h)
two Takes Refuses Refused said h = inr (refl, h)
two Takes Refuses Denied said h = absurd h
two Takes Refuses Usage said h = absurd h
two Takes Refuses ReadFault said h = absurd h
two Takes Refuses WriteFault said h = absurd h
two Takes Refuses ShelfFault said h = absurd h
two Takes Refuses ClockFault said h = absurd h
two Takes Refuses KeeperFault said h = absurd h
two Takes Refuses FileMissing said h = absurd h
two Takes Refuses FileTooLong said h = absurd h
two Takes Refuses BadFacts said h = absurd h
two Takes Refuses BadStore said h = absurd h
two Takes Refuses SessionTooLong said h = absurd h
two Takes Refuses OutOfMemory said h = absurd h

joined : (Takes Refuses : List ℕ → Type 0) (never : (said other : List ℕ) → Takes said → Refuses other → ⊥) (first second : Status) (said other : List ℕ)
    → ((first ≡ Fine) × Takes said) ⊎ ((first ≡ Refused) × Refuses said) → ((second ≡ Fine) × Takes other) ⊎ ((second ≡ Refused) × Refuses other) → first ≡ second
joined Takes Refuses never first second said other (inl a) (inl b) = a.0 ∙ sym b.0
joined Takes Refuses never first second said other (inr a) (inr b) = a.0 ∙ sym b.0
joined Takes Refuses never first second said other (inl a) (inr b) = absurd (never said other a.1 b.1)
joined Takes Refuses never first second said other (inr a) (inl b) = absurd (never other said b.1 a.1)

-- where nothing is both taken and refused, there is one status
one : (Takes Refuses : List ℕ → Type 0) (never : (said other : List ℕ) → Takes said → Refuses other → ⊥) (first second : Status) (said other : List ℕ)
    → TakenOrRefused Takes Refuses first said → TakenOrRefused Takes Refuses second other → first ≡ second
one Takes Refuses never first second said other a b = joined Takes Refuses never first second said other (two Takes Refuses first said a) (two Takes Refuses second other b)

compile_never : (text said other : List ℕ) → SaysOfText IsBlob text said → RefusesText text other → ⊥
compile_never text said other a b = b.none a.tree a.is_text

pub compile_one : (text said other : List ℕ) (first second : Status) → Compiles text first said → Compiles text second other → first ≡ second
compile_one text said other first second a b = one (SaysOfText IsBlob text) (RefusesText text) (compile_never text) first second said other a b

compile_set_never : (text said other : List ℕ) → SaysOfSetText IsPlainSet text said → RefusesSetText text other → ⊥
compile_set_never text said other a b = b.none a.set a.is_text

pub compile_set_one : (text said other : List ℕ) (first second : Status) → CompilesSet text first said → CompilesSet text second other → first ≡ second
compile_set_one text said other first second a b = one (SaysOfSetText IsPlainSet text) (RefusesSetText text) (compile_set_never text) first second said other a b

tree_never : (bytes said other : List ℕ) → SaysTree bytes said → RefusesBlob bytes other → ⊥
tree_never bytes said other a b = b.none a.tree a.spells

set_never : (bytes said other : List ℕ) → SaysSet bytes said → dumping.RefusesSet bytes other → ⊥
set_never bytes said other a b = b.none a.set a.spells

dump_by : (as_set : Bool) (bytes said other : List ℕ) (first second : Status) → DumpsBy as_set bytes first said → DumpsBy as_set bytes second other → first ≡ second
dump_by true bytes said other first second a b = one (SaysSet bytes) (dumping.RefusesSet bytes) (set_never bytes) first second said other a b
dump_by false bytes said other first second a b = one (SaysTree bytes) (RefusesBlob bytes) (tree_never bytes) first second said other a b

pub dump_one : (bytes said other : List ℕ) (first second : Status) → Dumps bytes first said → Dumps bytes second other → first ≡ second
dump_one bytes said other first second a b = dump_by (begins_as_set bytes) bytes said other first second a b
