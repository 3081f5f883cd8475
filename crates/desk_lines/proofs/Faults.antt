-- What a fault of an edit tells.
use Rattle.std.proofs.Common.{◌≡◌, ◌≢◌, ◌⊎◌, is_some, true, refl, inl, inr}
use Rattle.desk_state.specs.declared.fault.EditFault.{EditFault}
use Rattle.desk_state.specs.declared.fault.EditFault.TheVariants.{NoRule, KeyReused, TableFull, ReceiptsFull, DisableFull, KeeperFault, OutOfMemory}
use Rattle.desk_state.specs.Answer.{refusal_of, given_text, fault_text}

-- a fault that is told is the keeper's, or refuses the edit
pub told_fault : (f : EditFault) → f ≢ OutOfMemory → (f ≡ KeeperFault) ⊎ ((f ≢ KeeperFault) × (is_some (refusal_of f) ≡ true) × (fault_text f ≡ given_text (refusal_of f)))
told_fault NoRule told = inr (λ is. cc, refl, refl)
told_fault (KeyReused number rules) told = inr (λ is. cc, refl, refl)
told_fault TableFull told = inr (λ is. cc, refl, refl)
told_fault ReceiptsFull told = inr (λ is. cc, refl, refl)
told_fault (DisableFull rule) told = inr (λ is. cc, refl, refl)
told_fault KeeperFault told = inl refl
told_fault OutOfMemory told = absurd (told refl)
