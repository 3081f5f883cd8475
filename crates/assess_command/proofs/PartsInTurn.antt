-- Parts that are checked in turn, from a place of the list on.
use Rattle.std.proofs.Common.{◌≡◌, ℕ, ◌+◌, ◌<◌, List, ◌∷◌, length, drop, slice_index_or, inl, inr, refl, sym, subst, add-one, drop-cons}
use Rattle.code_directory.specs.declared.fault.CodeFault.{CodeFault}
use Rattle.code_directory.specs.Signatures.{View}
use Rattle.code_directory.specs.Agreement.{PartAgrees, PartFails}
use Rattle.assess_command.specs.Files.{PartsAgree, PartsFail}

-- what holds from a place on holds of all
pub record FromOn (view : View) (kinds : List ℕ) (i : ℕ) : Type 0 where
  pub agree : PartsAgree view (drop i kinds) → PartsAgree view kinds
  pub fail : (fault : CodeFault) → PartsFail view (drop i kinds) fault → PartsFail view kinds fault

next_at : (list : List ℕ) (i : ℕ) → i < length list → drop i list ≡ slice_index_or list i 0 ∷ drop (i + 1) list
next_at list i h = rw (add-one, drop-cons list i 0) refl

pub failing_at : (view : View) (kinds : List ℕ) (i : ℕ) (fault : CodeFault) → i < length kinds → FromOn view kinds i → PartFails view (slice_index_or kinds i 0) fault → PartsFail view kinds fault
failing_at view kinds i fault less from fails = from.fail fault (subst (λ (list : List ℕ). PartsFail view list fault) (sym (next_at kinds i less)) (inl fails))

pub passing_at : (view : View) (kinds : List ℕ) (i : ℕ) → i < length kinds → FromOn view kinds i → PartAgrees view (slice_index_or kinds i 0) → FromOn view kinds (i + 1)
passing_at view kinds i less from agrees = record {
  agree = λ rest. from.agree (subst (λ (list : List ℕ). PartsAgree view list) (sym (next_at kinds i less)) (agrees, rest));
  fail = λ fault rest. from.fail fault (subst (λ (list : List ℕ). PartsFail view list fault) (sym (next_at kinds i less)) (inr (agrees, rest)));
}
