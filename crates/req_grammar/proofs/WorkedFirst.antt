-- Worked faults in one list: host => always host => certificate leaf[field.1] repeats a word at token 3, and has its
-- first bad key at token 8, which is the one that is told.
use Rattle.std.proofs.Common.{◌≡◌, ℕ, zero, suc, ◌≤◌, ◌<◌, true, false, List, [], ◌∷◌, ◌++◌, length, take, get_or, codes, refl, sym, ap, subst, ◌∙◌, true≢false, append_assoc, arith, length-append}
use Rattle.std.specs.List.{list_all}
use Rattle.req_grammar.specs.Words as w
use Rattle.req_grammar.specs.Words.{Word}
use Rattle.req_grammar.specs.Terminals.{Terminal, sign, word, str}
use Rattle.req_grammar.specs.Grammar as g
use Rattle.req_grammar.specs.Grammar.{KindWord}
use Rattle.req_grammar.specs.ReadingFaults.{IsCertKey, IsFirstBadKey, IsFirstRepeated, IsRepeated}
use Rattle.req_grammar.proofs.Cuts.{both_true}
use Rattle.req_grammar.proofs.KeyPlaces.{no_bracket}
use Rattle.req_grammar.proofs.KindWords.{is_other}
use Rattle.req_grammar.proofs.WorkedFaults.{field_1}

abbrev both : List Terminal
both =
    word w.host ∷ sign w.arrow ∷ word w.always ∷ word w.host ∷ sign w.arrow ∷ word w.certificate ∷ word w.leaf ∷ sign w.left_bracket
    ∷ str (codes "field.1") ∷ sign w.right_bracket ∷ []

-- ---- a key stands behind a bracket

no_bracket_in : (n : ℕ) (g rest : List Terminal) → length g < n → list_all no_bracket (take n (g ++ sign w.left_bracket ∷ rest)) ≡ true → ⊥
no_bracket_in zero g rest fits e = absurd (omega (arith, fits))
no_bracket_in (suc n) [] rest fits e = true≢false (sym e)
no_bracket_in (suc n) (t ∷ g) rest fits e = no_bracket_in n g rest (omega (arith, fits)) (both_true (no_bracket t) (list_all no_bracket (take n (g ++ sign w.left_bracket ∷ rest))) e).1

no_key_before : (n : ℕ) (list : List Terminal) (place : ℕ) (key : List ℕ) → list_all no_bracket (take n list) ≡ true → place ≤ n → IsCertKey list place key → ⊥
no_key_before n list place key plain near h =
    let parts : list ≡ (h.front ++ h.before ∷ []) ++ sign w.left_bracket ∷ str key ∷ h.rest =
    h.parts ∙ sym (append_assoc h.front (h.before ∷ []) (sign w.left_bracket ∷ str key ∷ h.rest)) in
    no_bracket_in n (h.front ++ h.before ∷ []) (str key ∷ h.rest) (omega (arith, near, h.place_is, length-append h.front (h.before ∷ [])))
    (subst (λ (l : List Terminal). list_all no_bracket (take n l) ≡ true) parts plain)

first_key : IsFirstBadKey both 8
first_key = record {
  key = codes "field.1";
  stands = record {
    front = word w.host ∷ sign w.arrow ∷ word w.always ∷ word w.host ∷ sign w.arrow ∷ word w.certificate ∷ [];
    before = word w.leaf;
    rest = sign w.right_bracket ∷ [];
    parts = refl;
    certificate = refl;
    place_is = refl;
  };
  bad = field_1;
  first = λ earlier other h less bad. no_key_before 7 both earlier other refl (omega (arith, less)) h;
}

-- ---- a word for a kind stands where one is repeated

at_seam : (front rest : List Terminal) (x y : Terminal) → get_or (front ++ x ∷ rest) (length front) y ≡ x
at_seam [] rest x y = refl
at_seam (t ∷ front) rest x y = at_seam front rest x y

named : (k : Word) (n : ℕ) → KindWord k n → is_other (word k) ≡ false
named k n g.host = refl
named k n g.guest = refl
named k n g.designated = refl
named k n g.library = refl
named k n g.plugin = refl

-- it has another before it
not_first : (list : List Terminal) (place : ℕ) → IsRepeated list place → 1 ≤ place
not_first list place h =
    let size : length h.front ≡ length (h.earlier.front ++ word h.kind_word ∷ h.earlier.rest) = ap length h.earlier.parts in
    omega (arith, size, h.place_is, length-append h.earlier.front (word h.kind_word ∷ h.earlier.rest))

kind_there : (list : List Terminal) (place : ℕ) → IsRepeated list place → is_other (get_or list place (sign w.bang)) ≡ false
kind_there list place h =
    ap (λ (l : List Terminal). is_other (get_or l place (sign w.bang))) h.parts
    ∙ ap (λ (n : ℕ). is_other (get_or (h.front ++ word h.kind_word ∷ h.rest) n (sign w.bang))) h.place_is
    ∙ ap is_other (at_seam h.front h.rest (word h.kind_word) (sign w.bang))
    ∙ named h.kind_word h.earlier.kind h.earlier.names

none_before : (place : ℕ) → place < 3 → IsRepeated both place → ⊥
none_before zero less h = let some : 1 ≤ 0 = not_first both 0 h in absurd (omega (arith, some))
none_before (suc zero) less h = true≢false (kind_there both 1 h)
none_before (suc (suc zero)) less h = true≢false (kind_there both 2 h)
none_before (suc (suc (suc n))) less h = absurd (omega (arith, less))

first_word : IsFirstRepeated both 3
first_word = record {
  stands = record {
    kind_word = w.host;
    front = word w.host ∷ sign w.arrow ∷ word w.always ∷ [];
    rest = sign w.arrow ∷ word w.certificate ∷ word w.leaf ∷ sign w.left_bracket ∷ str (codes "field.1") ∷ sign w.right_bracket ∷ [];
    parts = refl;
    earlier = record { kind = 1; names = g.host; front = []; rest = sign w.arrow ∷ word w.always ∷ []; parts = refl };
    place_is = refl;
  };
  first = λ earlier h less. none_before earlier less h;
}
