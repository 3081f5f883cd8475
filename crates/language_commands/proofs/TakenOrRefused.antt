-- What is refused, and what is said of it.
use Rattle.std.proofs.Common.{◌≡◌, ℕ, List, Result, Ok, Err, IfOk, sym, subst}
use Rattle.run_status.specs.declared.said.Said.{Said}
use Rattle.run_status.specs.declared.status.Status.TheVariants.{Refused}
use Rattle.language_commands.specs.Taken.{TakenOrRefused}

-- a refusal whose line is known
pub refusal_of : {E Known : Type 0} (Takes Refuses : List ℕ → Type 0) (line : List ℕ) (r : Result Said E) → ((said : List ℕ) → Known → said ≡ line → Refuses said) → IfOk r (λ _. Known)
    → IfOk r (λ said. said.status ≡ Refused) → IfOk r (λ said. said.text ≡ line) → IfOk r (λ said. TakenOrRefused Takes Refuses said.status said.text)
refusal_of T R line (Ok said) refuses known status text = subst (λ s. TakenOrRefused T R s said.text) (sym status) (refuses said.text known text)
refusal_of T R line (Err e) refuses known status text = tt

pub ok_or_err : {A E : Type 0} (x : A) (e : E) → Ok x ≡ Err e → ⊥
ok_or_err x e is = (cc)
