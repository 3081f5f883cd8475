-- Parts read by a loop: what is built so far is of parts from which the rest goes on.
use Rattle.std.proofs.Common.{◌≡◌, ◌≢◌, ℕ, zero, suc, ◌==◌, Bool, true, false, true≢false, List, [], ◌∷◌, ◌++◌, length, Result, Ok, refl, sym, ap, subst, ◌∙◌, arith}
use Rattle.std.proofs.lemmas.Bool.Decides.{Decides-eqb}
use Rattle.req_tree.specs.Tree.{Tree}
use Rattle.req_grammar.specs.Terminals.{Terminal}
use Rattle.req_tokens.specs.declared.terminal.Terminal as code
use Rattle.req_tokens.specs.Terminals.{plains}
use Rattle.req_primary.specs.declared.fault.ReadingFault.{ReadingFault}
use Rattle.req_primary.specs.Steps.{Reading, ◌>>=◌}
use Rattle.req_parser.specs.declared.parts.Part.{Part}
use Rattle.req_parser.specs.Given.{IsFault}
use Rattle.req_parser.specs.GivenParts.{AreMoreParts, AreParts, IsPart, PartTells, PartsTell}
use Rattle.req_parser.specs.SetReading.{ended, part_at, parts_from, parts_at}

-- with at most so many parts to go, the rest gives what the whole gives
pub record IsOnTheWay (size n : ℕ) (whole : Result (List (ℕ × Tree)) ReadingFault) (parts : List Part) (rest : List Terminal) : Type 0 where
  pub some : List (ℕ × Tree)
  pub tell : PartsTell some parts
  pub goes_on : parts_from size n some rest ≡ whole

pub begun : (size n : ℕ) (list : List Terminal) → size ≡ length list → n ≡ length list → IsOnTheWay size n (parts_at list) [] list
unfolding parts_at
begun size n list sized counted = record {
  some = [];
  tell = tt;
  goes_on = ap (λ (m : ℕ). parts_from m n [] list) sized ∙ ap (λ (m : ℕ). parts_from (length list) m [] list) counted;
}

-- another part
one_more : (size n m : ℕ) (some : List (ℕ × Tree)) (first : Terminal) (rest : List Terminal) → n ≡ suc m
    → parts_from size n some (first ∷ rest) ≡ (part_at size (first ∷ rest) >>= λ (x : (ℕ × Tree) × List Terminal). parts_from size m (some ++ x.0 ∷ []) x.1)
unfolding parts_from
one_more size n m some first rest same = ap (λ (k : ℕ). parts_from size k some (first ∷ rest)) same

-- a list that isn't empty
abbrev is_some_list : List Terminal → Type 0
is_some_list [] = ⊥
is_some_list (first ∷ rest) = Unit {0}

next_read : (size n m : ℕ) (some : List (ℕ × Tree)) (here : List Terminal) → is_some_list here → n ≡ suc m
    → parts_from size n some here ≡ (part_at size here >>= λ (x : (ℕ × Tree) × List Terminal). parts_from size m (some ++ x.0 ∷ []) x.1)
next_read size n m some [] there same = absurd there
next_read size n m some (first ∷ rest) there same = one_more size n m some first rest same

list_there : (here : List Terminal) → here ≢ [] → is_some_list here
list_there [] other = other refl
list_there (first ∷ rest) other = tt

pub went_on : (size n m : ℕ) (whole : Result (List (ℕ × Tree)) ReadingFault) (parts more : List Part) (here rest : List Terminal) (f : IsOnTheWay size n whole parts here)
    → n ≡ suc m → here ≢ [] → AreMoreParts (part_at size here) f.some more rest → IsOnTheWay size m whole more rest
went_on size n m whole parts more here rest f same other o = record {
  some = f.some ++ o.next ∷ [];
  tell = o.tell;
  goes_on =
      sym (next_read size n m f.some here (list_there here other) same
      ∙ ap (λ (r : Reading (ℕ × Tree)). r >>= λ (x : (ℕ × Tree) × List Terminal). parts_from size m (f.some ++ x.0 ∷ []) x.1) o.reads)
      ∙ f.goes_on;
}

pub part_fault : (size n m : ℕ) (whole : Result (List (ℕ × Tree)) ReadingFault) (parts : List Part) (here : List Terminal) (fault : ReadingFault) (f : IsOnTheWay size n whole parts here)
    → n ≡ suc m → here ≢ [] → IsFault (part_at size here) fault → IsFault whole fault
part_fault size n m whole parts here fault f same other is not_memory =
    sym f.goes_on ∙ next_read size n m f.some here (list_there here other) same
    ∙ ap (λ (r : Reading (ℕ × Tree)). r >>= λ (x : (ℕ × Tree) × List Terminal). parts_from size m (f.some ++ x.0 ∷ []) x.1) (is not_memory)

none_left : (size n : ℕ) (some : List (ℕ × Tree)) → parts_from size n some [] ≡ Ok some
unfolding parts_from
none_left size zero some = refl
none_left size (suc n) some = refl

pub all_read : (size n : ℕ) (whole : Result (List (ℕ × Tree)) ReadingFault) (parts : List Part) (rest : List Terminal) → IsOnTheWay size n whole parts rest → rest ≡ [] → AreParts whole parts
all_read size n whole parts rest f none = record {
  all = f.some;
  reads = sym f.goes_on ∙ ap (λ (l : List Terminal). parts_from size n f.some l) none ∙ none_left size n f.some;
  tell = f.tell;
}

at_end : (size n : ℕ) (some : List (ℕ × Tree)) (rest : List Terminal) → n ≡ 0 → parts_from size n some rest ≡ ended size some rest
unfolding parts_from
at_end size n some rest same = ap (λ (k : ℕ). parts_from size k some rest) same

pub way_ends : (size n : ℕ) (whole : Result (List (ℕ × Tree)) ReadingFault) (parts : List Part) (rest : List Terminal) (f : IsOnTheWay size n whole parts rest) → n ≡ 0 → ended size f.some rest ≡ whole
way_ends size n whole parts rest f same = sym (at_end size n f.some rest same) ∙ f.goes_on

-- one part more behind the others
tell_more : (some : List (ℕ × Tree)) (parts : List Part) (next : ℕ × Tree) (part : Part) → PartsTell some parts → PartTells next part → PartsTell (some ++ next ∷ []) (parts ++ part ∷ [])
tell_more [] [] next part h i = (i, tt)
tell_more (first ∷ some) (one ∷ parts) next part (h, others) i = (h, tell_more some parts next part others i)
tell_more [] (one ∷ parts) next part h i = absurd h
tell_more (first ∷ some) [] next part h i = absurd h

pub part_more : (read : Reading (ℕ × Tree)) (some : List (ℕ × Tree)) (parts more : List Part) (part : Part) (rest : List Terminal) → PartsTell some parts → IsPart read part rest
    → more ≡ parts ++ part ∷ [] → AreMoreParts read some more rest
part_more read some parts more part rest tell o is = record {
  next = o.first;
  reads = o.reads;
  tell = subst (PartsTell (some ++ o.first ∷ [])) (sym is) (tell_more some parts o.first part tell o.tells);
}

-- ---- over the program's terminals

pub none_there : (here : List code.Terminal) → (length here == 0) ≡ true → plains here ≡ []
none_there [] e = refl
none_there (first ∷ rest) e = let none : length (first ∷ rest) ≡ 0 = (Decides-eqb (length (first ∷ rest)) 0).0 e in absurd (omega (arith, none))

abbrev is_none : List Terminal → Bool
is_none [] = true
is_none (t ∷ more) = false

pub some_there : (here : List code.Terminal) → (length here == 0) ≡ false → plains here ≢ []
some_there [] e h = true≢false e
some_there (first ∷ rest) e h = true≢false (ap is_none (sym h))
