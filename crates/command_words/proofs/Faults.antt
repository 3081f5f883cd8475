-- Out of memory is no usage, and a fault that is handed on is the same fault.
use Rattle.std.proofs.Common.{◌≡◌, ◌≢◌, List, [], ◌∷◌, None, Result, Ok, Err, IfErr, IsErrAnd, refl, sym, ◌∙◌}
use Rattle.clap.specs.Words.{Kinds, Row}
use Rattle.command_words.specs.Lines.{line_unless}
use Rattle.command_words.specs.declared.command.WordsFault.{WordsFault}
use Rattle.command_words.specs.declared.command.WordsFault.TheVariants.{Usage, OutOfMemory}

pub memory_is_no_usage : {T : Type 0} (result : Result T WordsFault) (P : Type 0) → IsErrAnd result (λ y. y ≡ OutOfMemory) → IfErr result (λ fault. fault ≡ Usage → P)
memory_is_no_usage (Ok x) P h = tt
memory_is_no_usage (Err Usage) P h = λ e. absurd (other h)
  where
    other : Usage ≡ OutOfMemory → ⊥
    other h = cc
memory_is_no_usage (Err OutOfMemory) P h = λ e. absurd (other e)
  where
    other : OutOfMemory ≡ Usage → ⊥
    other h = cc

pub same_fault : {T : Type 0} (result : Result T WordsFault) (fault : WordsFault) (P : Type 0) → IsErrAnd result (λ y. y ≡ fault) → (fault ≡ Usage → P) → IfErr result (λ y. y ≡ Usage → P)
same_fault (Ok x) fault P h f = tt
same_fault (Err y) fault P h f = λ e. f (sym h ∙ e)

-- words that clap refuses are no command line
pub refused_by : (kinds : Kinds) (rows : List Row) → kinds ≢ [] → line_unless kinds rows ≡ None
refused_by [] rows some = absurd (some refl)
refused_by (kind ∷ kinds) rows some = refl
