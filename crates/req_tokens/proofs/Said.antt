-- What is said of a text's front: it is cut off so many bytes long, or a fault is the first of the text.
use Rattle.std.proofs.Common.{◌≡◌, ℕ, ◌<◌, List, ◌++◌, length, take, drop, Result, Ok, Err, sym, ap, subst, ◌∙◌, arith, add-zero}
use Rattle.std.proofs.lemmas.List.{take-append-drop, take_at, drop_at}
use Rattle.req_grammar.specs.Sorts.{Sort, IsCut}
use Rattle.req_grammar.specs.TokenFaults.{TokenFault, Stops, FirstFault, here}
use Rattle.req_tokens.specs.declared.fault.TextFault.{TextFault}
use Rattle.req_tokens.specs.Cuts.{Cuts}
use Rattle.req_tokens.specs.Failures.{FailsAt}

abbrev pub Said : Sort → ℕ → List ℕ → Result ℕ TextFault → Type 0
Said sort at text (Ok length) = Cuts sort text (take length text) (drop length text)
Said sort at text (Err fault) = FailsAt at text fault

-- a front of that length, of which there is some
pub cuts : (sort : Sort) (text front rest : List ℕ) (n : ℕ) → text ≡ front ++ rest → length front ≡ n → 0 < n → IsCut sort front rest → Cuts sort text (take n text) (drop n text)
cuts sort text front rest n parts size some is =
    let front_is : front ≡ take n text = sym (ap (take n) parts ∙ take_at front rest n size) in
    let rest_is : rest ≡ drop n text = sym (ap (drop n) parts ∙ drop_at front rest n size) in
    record {
      parts = sym (take-append-drop n text);
      some = subst (λ (l : List ℕ). 0 < length l) front_is (omega (arith, size, some));
      is = subst (λ (r : List ℕ). IsCut sort (take n text) r) rest_is (subst (λ (f : List ℕ). IsCut sort f rest) front_is is);
    }

-- a fault at the first byte
pub first_here : (at : ℕ) (text : List ℕ) (fault : TokenFault) → Stops text fault 0 → FirstFault at text fault at
first_here at text fault stops = subst (λ (n : ℕ). FirstFault at text fault n) (add-zero at) (here at 0 text fault stops)
