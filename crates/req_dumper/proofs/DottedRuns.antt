-- Runs with dots between them are the parts between the dots.
use Rattle.std.proofs.Common.{◌≡◌, ℕ, Bool, true, false, ◌&&◌, ◌==◌, if◌then◌else◌, List, [], ◌∷◌, None, Some, refl, sym, ap, ◌∙◌}
use Rattle.std.specs.List.{list_all, slice_split, onto_first}
use Rattle.std.proofs.lemmas.List.Splits.{slice_split-cons_yes, slice_split-cons_no}
use Rattle.req_grammar.specs.Tokens.{is_letter_or_digit, is_run}
use Rattle.req_dumper.specs.Runs.{run_step, runs_on}

abbrev is_part : List ℕ → Bool
is_part = is_run is_letter_or_digit

-- the first part goes on a run that has a byte, and each further one is a run
abbrev goes_on_parts : List (List ℕ) → Bool
goes_on_parts [] = true
goes_on_parts (part ∷ parts) = list_all is_letter_or_digit part && list_all is_part parts

put_first : (b : ℕ) (q : Bool) → is_letter_or_digit b ≡ q → (parts : List (List ℕ)) → list_all is_part (onto_first b parts) ≡ (q && goes_on_parts parts)
put_first b true e [] = rw e refl
put_first b true e (part ∷ parts) = rw e refl
put_first b false e [] = rw e refl
put_first b false e (part ∷ parts) = rw e refl

put_on : (b : ℕ) (q : Bool) → is_letter_or_digit b ≡ q → (parts : List (List ℕ)) → goes_on_parts (onto_first b parts) ≡ (q && goes_on_parts parts)
put_on b true e [] = rw e refl
put_on b true e (part ∷ parts) = rw e refl
put_on b false e [] = rw e refl
put_on b false e (part ∷ parts) = rw e refl

-- both at once: a run that has no byte yet, and one that has
pub record Agrees (bytes : List ℕ) : Type 0 where
  pub begin : runs_on (Some false) bytes ≡ list_all is_part (slice_split (λ b. b == 46) bytes)
  pub go_on : runs_on (Some true) bytes ≡ goes_on_parts (slice_split (λ b. b == 46) bytes)

step_is : (begun : Bool) (b : ℕ) (dot letter : Bool) → (b == 46) ≡ dot → is_letter_or_digit b ≡ letter
    → run_step begun b ≡ (if dot then (if begun then Some false else None) else (if letter then Some true else None))
step_is begun b dot letter e k =
    ap (λ (d : Bool). if d then (if begun then Some false else None) else (if is_letter_or_digit b then Some true else None)) e
    ∙ ap (λ (l : Bool). if dot then (if begun then Some false else None) else (if l then Some true else None)) k

abbrev parts : List ℕ → List (List ℕ)
parts bytes = slice_split (λ b. b == 46) bytes

agree_on : (b : ℕ) (rest : List ℕ) (dot letter : Bool) → (b == 46) ≡ dot → is_letter_or_digit b ≡ letter → Agrees rest → Agrees (b ∷ rest)
agree_on b rest true letter e k h =
    let cut = slice_split-cons_yes (λ b. b == 46) b rest e in
    record {
      begin = ap (λ o. runs_on o rest) (step_is false b true letter e k) ∙ sym (ap (list_all is_part) cut);
      go_on = ap (λ o. runs_on o rest) (step_is true b true letter e k) ∙ h.begin ∙ sym (ap goes_on_parts cut);
    }
agree_on b rest false letter e k h = letters letter k
  where
    cut : parts (b ∷ rest) ≡ onto_first b (parts rest)
    cut = slice_split-cons_no (λ b. b == 46) b rest e

    letters : (q : Bool) → is_letter_or_digit b ≡ q → Agrees (b ∷ rest)
    letters true k = record {
      begin = ap (λ o. runs_on o rest) (step_is false b false true e k) ∙ h.go_on ∙ sym (ap (list_all is_part) cut ∙ put_first b true k (parts rest));
      go_on = ap (λ o. runs_on o rest) (step_is true b false true e k) ∙ h.go_on ∙ sym (ap goes_on_parts cut ∙ put_on b true k (parts rest));
    }
    letters false k = record {
      begin = ap (λ o. runs_on o rest) (step_is false b false false e k) ∙ sym (ap (list_all is_part) cut ∙ put_first b false k (parts rest));
      go_on = ap (λ o. runs_on o rest) (step_is true b false false e k) ∙ sym (ap goes_on_parts cut ∙ put_on b false k (parts rest));
    }

agree : (bytes : List ℕ) → Agrees bytes
agree [] = record { begin = refl; go_on = refl }
agree (b ∷ rest) = agree_on b rest (b == 46) (is_letter_or_digit b) refl refl (agree rest)

pub runs_are : (bytes : List ℕ) → runs_on (Some false) bytes ≡ list_all (is_run is_letter_or_digit) (slice_split (λ b. b == 46) bytes)
runs_are bytes = (agree bytes).begin
