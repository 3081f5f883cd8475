-- Keys of certificates' tests, told from what a list begins with behind each place.
use Rattle.std.proofs.Common.{◌≡◌, ℕ, pos, suc, ◌+◌, ◌≤◌, ◌<◌, ◌⊎◌, inl, inr, Bool, true, false, cond, List, [], ◌∷◌, ◌++◌, length, take, drop, Option, Some, None, is_some, refl, sym, ap, subst, ◌∙◌, true≢false, arith, length-append}
use Rattle.std.proofs.Math.Seq.{drop-append_seam}
use Rattle.std.proofs.lemmas.List.{drop-map, length-take-le, take-append-drop}
use Rattle.req_tree.specs.declared.matching.Match.TheVariants.{Exists}
use Rattle.req_grammar.specs.Words as w
use Rattle.req_grammar.specs.Terminals.{Terminal, sign, str}
use Rattle.req_grammar.specs.ReadingFaults.{IsCertKey, IsFirstBadKey, StandsForTest, is_field_word}
use Rattle.req_grammar.specs.Laws.{HasGoodKeys}
use Rattle.req_tokens.specs.declared.terminal.Terminal as code
use Rattle.req_tokens.specs.Terminals.{plain, plains}
use Rattle.req_primary.specs.Keys.{KeyTold}
use Rattle.req_parser.specs.BadKeys.{bracket_at, cert_key, key_behind, FrontTold, IsBadKeyFront, HasGoodFront}

none_some : (s : List ℕ) → ◌≡◌ {A = Option (List ℕ)} None (Some s) → ⊥
none_some s e = true≢false (sym (ap is_some e))

abbrev from : List ℕ → Option (List ℕ) → List ℕ
from x None = x
from x (Some y) = y

-- what a list with a key at its front is
record KeyFirst (list : List Terminal) (key : List ℕ) : Type 0 where
  before : Terminal
  rest : List Terminal
  parts : list ≡ before ∷ sign w.left_bracket ∷ str key ∷ rest
  certificate : is_field_word before ≡ false

behind_is : (before : Terminal) (rest : List Terminal) (key : List ℕ) → is_field_word before ≡ false → key_behind (bracket_at rest) ≡ Some key → KeyFirst (before ∷ rest) key
behind_is before (sign w.left_bracket ∷ str s ∷ more) key is e =
    record { before = before; rest = more; parts = ap (λ (k : List ℕ). before ∷ sign w.left_bracket ∷ str k ∷ more) (ap (from s) e); certificate = is }
behind_is before rest key is e = absurd (none_some key e)

key_first : (list : List Terminal) (key : List ℕ) → cert_key list ≡ Some key → KeyFirst list key
key_first [] key e = absurd (none_some key e)
key_first (before ∷ rest) key e = by (is_field_word before) refl e
  where
    by : (b : Bool) → is_field_word before ≡ b → cond b None (key_behind (bracket_at rest)) ≡ Some key → KeyFirst (before ∷ rest) key
    by true is h = absurd (none_some key h)
    by false is h = behind_is before rest key is h

-- a key behind a place
place_key : (list : List Terminal) (at : ℕ) (key : List ℕ) → at ≤ length list → cert_key (drop at list) ≡ Some key → IsCertKey list (at + 2) key
place_key list at key within e =
    let f : KeyFirst (drop at list) key = key_first (drop at list) key e in
    record {
      front = take at list;
      before = f.before;
      rest = f.rest;
      parts = sym (take-append-drop at list) ∙ ap (λ (l : List Terminal). take at list ++ l) f.parts;
      certificate = f.certificate;
      place_is = ap (λ (n : ℕ). n + 2) (sym (length-take-le at list within));
    }

key_place : (list : List Terminal) (place : ℕ) (key : List ℕ) (f : IsCertKey list place key) → cert_key (drop (length f.front) list) ≡ Some key
key_place list place key f =
    ap cert_key (ap (drop (length f.front)) f.parts ∙ drop-append_seam f.front (f.before ∷ sign w.left_bracket ∷ str key ∷ f.rest))
    ∙ ap (λ (b : Bool). cond b None (Some key)) f.certificate

-- the keys before a place stand for tests
abbrev pub GoodBefore : List Terminal → ℕ → Type 0
GoodBefore list at = (place : ℕ) (key : List ℕ) → IsCertKey list place key → place < at + 2 → StandsForTest key

pub good_none : (list : List Terminal) → GoodBefore list 0
good_none list place key f small = let is : place ≡ length f.front + 2 = f.place_is in absurd (omega (arith, is, small))

pub good_more : (list : List Terminal) (at : ℕ) → GoodBefore list at → HasGoodFront (drop at list) → GoodBefore list (at + 1)
good_more list at before front place key f small = by (last_or_less at place small)
  where
    last_or_less : (at place : ℕ) → place < (at + 1) + 2 → (place < at + 2) ⊎ (place ≡ at + 2)
    last_or_less at place small = grind arith

    by : (place < at + 2) ⊎ (place ≡ at + 2) → StandsForTest key
    by (inl less) = before place key f less
    by (inr is) =
        let placed : place ≡ length f.front + 2 = f.place_is in
        let same : length f.front ≡ at = omega (arith, is, placed) in
        front key (ap (λ (n : ℕ). cert_key (drop n list)) (sym same) ∙ key_place list place key f)

pub good_all : (list : List Terminal) (at : ℕ) → length list ≤ at → GoodBefore list at → HasGoodKeys list
good_all list at whole before place key f =
    let placed : place ≡ length f.front + 2 = f.place_is in
    let parts : length list ≡ length f.front + length (f.before ∷ sign w.left_bracket ∷ str key ∷ f.rest) =
    ap length f.parts ∙ length-append f.front (f.before ∷ sign w.left_bracket ∷ str key ∷ f.rest) in
    before place key f (small (length f.front) (length f.rest) (length list) at place placed parts whole)
  where
    small : (front rest all at place : ℕ) → place ≡ front + 2 → all ≡ front + suc (suc (suc rest)) → all ≤ at → place < at + 2
    small front rest all at place placed parts whole = omega (arith, placed, parts, whole)

pub first_bad : (list : List Terminal) (at : ℕ) → at ≤ length list → GoodBefore list at → IsBadKeyFront (drop at list) → IsFirstBadKey list (at + 2)
first_bad list at within before front = record {
  key = front.key;
  stands = place_key list at front.key within front.stands;
  bad = front.bad;
  first = λ earlier other f small bad. let good = before earlier other f small (pos 0) Exists in bad (pos 0) Exists good.0 good.1;
}

pub front_told : (list : List Terminal) (key : List ℕ) (bad : Bool) → cert_key list ≡ Some key → KeyTold bad key → FrontTold bad list
front_told list key true e is = record { key = key; stands = e; bad = is }
front_told list key false e is = λ other h. subst StandsForTest (ap (from key) (sym e ∙ h)) is

pub behind_place : (here list : List code.Terminal) (at : ℕ) → here ≡ drop at list → plains here ≡ drop at (plains list)
behind_place here list at e = ap plains e ∙ sym (drop-map plain at list)

pub told_bad : (bad : Bool) (here list : List code.Terminal) (at : ℕ) → bad ≡ true → here ≡ drop at list → FrontTold bad (plains here) → IsBadKeyFront (drop at (plains list))
told_bad true here list at e parts is = subst IsBadKeyFront (behind_place here list at parts) is
told_bad false here list at e parts is = absurd (true≢false (sym e))

pub told_good : (bad : Bool) (here list : List code.Terminal) (at : ℕ) → bad ≡ false → here ≡ drop at list → FrontTold bad (plains here) → HasGoodFront (drop at (plains list))
told_good true here list at e parts is = absurd (true≢false e)
told_good false here list at e parts is = subst HasGoodFront (behind_place here list at parts) is
