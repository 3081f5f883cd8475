-- The first word for a kind that stands twice, found by what was seen before each place.
use Rattle.std.proofs.Common.{◌≡◌, ◌≢◌, ◌⊎◌, inl, inr, ℕ, zero, suc, ◌+◌, ◌≤◌, ◌<◌, ◌==◌, ◌||◌, nat_lt, Bool, true, false, if◌then◌else◌, true≢false, List, [], ◌∷◌, ◌++◌, length, take, get_or, set, Option, Some, MatchOption, refl, sym, ap, subst, ◌∙◌, append_assoc, append-nil, arith, length-append}
use Rattle.std.proofs.Math.Seq.{take-append_seam}
use Rattle.std.proofs.lemmas.Bool.{lt-ltb}
use Rattle.std.proofs.lemmas.Bool.Decides.{Decides-eqb}
use Rattle.std.proofs.lemmas.List.{append_cancel_left, get_or-set_same, get_or-set_other, length-set}
use Rattle.req_grammar.specs.Words as w
use Rattle.req_grammar.specs.Words.{Word}
use Rattle.req_grammar.specs.Terminals.{Terminal, word}
use Rattle.req_grammar.specs.Grammar as g
use Rattle.req_grammar.specs.Grammar.{KindWord}
use Rattle.req_grammar.specs.ReadingFaults.{IsFirstRepeated, IsKindIn, IsRepeated}
use Rattle.req_parser.specs.Kinds.{kind_of_word, kind_of, repeated_from, first_repeated}

pub kind_named : (k : Word) (n : ℕ) → KindWord k n → kind_of_word k ≡ n
kind_named k n g.host = refl
kind_named k n g.guest = refl
kind_named k n g.designated = refl
kind_named k n g.library = refl
kind_named k n g.plugin = refl

-- a terminal that names a kind
pub record Names (t : Terminal) : Type 0 where
  pub kind_word : Word
  pub is : t ≡ word kind_word
  pub names : KindWord kind_word (kind_of t)

pub names_kind : (t : Terminal) → (kind_of t == 0) ≡ false → Names t
names_kind (word w.host) e = record { kind_word = w.host; is = refl; names = g.host }
names_kind (word w.guest) e = record { kind_word = w.guest; is = refl; names = g.guest }
names_kind (word w.designated) e = record { kind_word = w.designated; is = refl; names = g.designated }
names_kind (word w.library) e = record { kind_word = w.library; is = refl; names = g.library }
names_kind (word w.plugin) e = record { kind_word = w.plugin; is = refl; names = g.plugin }
names_kind t e = absurd (true≢false e)

kind_small : (t : Terminal) → kind_of t < 6
kind_small (word w.host) = omega arith
kind_small (word w.guest) = omega arith
kind_small (word w.designated) = omega arith
kind_small (word w.library) = omega arith
kind_small (word w.plugin) = omega arith
kind_small t = omega arith

kind_some : (k : Word) (n : ℕ) → KindWord k n → (1 ≤ n) × (n < 6)
kind_some k n g.host = (omega arith, omega arith)
kind_some k n g.guest = (omega arith, omega arith)
kind_some k n g.designated = (omega arith, omega arith)
kind_some k n g.library = (omega arith, omega arith)
kind_some k n g.plugin = (omega arith, omega arith)

abbrev word_of : ℕ → Word
word_of n = if n == 1 then w.host else (if n == 2 then w.guest else (if n == 3 then w.designated else (if n == 4 then w.library else w.plugin)))

word_is : (j : Word) (n : ℕ) → KindWord j n → j ≡ word_of n
word_is j n g.host = refl
word_is j n g.guest = refl
word_is j n g.designated = refl
word_is j n g.library = refl
word_is j n g.plugin = refl

same : (a b : ℕ) → (a == b) ≡ true → a ≡ b
same a b e = (Decides-eqb a b).0 e

equal : (a b : ℕ) → a ≡ b → (a == b) ≡ true
equal a b e = (Decides-eqb a b).1 e

apart : (a b : ℕ) → (a == b) ≡ false → a ≢ b
apart a b e is = true≢false (sym (equal a b is) ∙ e)

not_zero : (t : Terminal) → 1 ≤ kind_of t → (kind_of t == 0) ≡ false
not_zero t some = by (kind_of t == 0) refl
  where
    by : (b : Bool) → (kind_of t == 0) ≡ b → b ≡ false
    by false e = refl
    by true e = absurd (omega (arith, some, same (kind_of t) 0 e))

-- a terminal that names the kind of a word is the word
the_word : (t : Terminal) (k : Word) (n : ℕ) → KindWord k n → kind_of t ≡ n → t ≡ word k
the_word t k n names e =
    let some : 1 ≤ kind_of t = omega (arith, e, (kind_some k n names).0) in
    let f : Names t = names_kind t (not_zero t some) in
    f.is ∙ ap word (word_is f.kind_word (kind_of t) f.names ∙ ap word_of e ∙ sym (word_is k n names))

-- ---- whether a kind is named in a list

occurs : ℕ → List Terminal → Bool
occurs n [] = false
occurs n (t ∷ list) = (kind_of t == n) || occurs n list

occurs_joined : (n : ℕ) (a b : List Terminal) → occurs n (a ++ b) ≡ (occurs n a || occurs n b)
unfolding occurs
occurs_joined n [] b = refl
occurs_joined n (t ∷ a) b = by (kind_of t == n) (occurs_joined n a b)
  where
    by : (c : Bool) → occurs n (a ++ b) ≡ (occurs n a || occurs n b) → (c || occurs n (a ++ b)) ≡ ((c || occurs n a) || occurs n b)
    by true later = refl
    by false later = later

either : (a b : Bool) → b ≡ true → (a || b) ≡ true
either true b e = refl
either false b e = e

occurs_first : (n : ℕ) (k : Word) (rest : List Terminal) → KindWord k n → occurs n (word k ∷ rest) ≡ true
unfolding occurs
occurs_first n k rest names = ap (λ (c : Bool). c || occurs n rest) (equal (kind_of_word k) n (kind_named k n names))

is_occurs : (list : List Terminal) (k : Word) (h : IsKindIn list k) → occurs h.kind list ≡ true
is_occurs list k h =
    ap (occurs h.kind) h.parts ∙ occurs_joined h.kind h.front (word k ∷ h.rest)
    ∙ either (occurs h.kind h.front) (occurs h.kind (word k ∷ h.rest)) (occurs_first h.kind k h.rest h.names)

occurs_is : (n : ℕ) (k : Word) → KindWord k n → (list : List Terminal) → occurs n list ≡ true → IsKindIn list k
unfolding occurs
occurs_is n k names [] e = absurd (true≢false (sym e))
occurs_is n k names (t ∷ list) e = by (kind_of t == n) refl (λ h. occurs_is n k names list h) e
  where
    by : (b : Bool) → (kind_of t == n) ≡ b → (occurs n list ≡ true → IsKindIn list k) → (b || occurs n list) ≡ true → IsKindIn (t ∷ list) k
    by true is later h = record {
      kind = n;
      names = names;
      front = [];
      rest = list;
      parts = ap (λ (first : Terminal). first ∷ list) (the_word t k n names (same (kind_of t) n is));
    }
    by false is later h =
        let f : IsKindIn list k = later h in
        record { kind = f.kind; names = f.names; front = t ∷ f.front; rest = f.rest; parts = ap (λ (l : List Terminal). t ∷ l) f.parts }

-- ---- what was seen

record Knows (front : List Terminal) (seen : List Bool) : Type 0 where
  size : length seen ≡ 6
  none : get_or seen 0 false ≡ false
  each : (n : ℕ) → 1 ≤ n → n < 6 → get_or seen n false ≡ occurs n front

pub data UnderSix : ℕ → Type 0 where
  one : UnderSix 1
  two : UnderSix 2
  three : UnderSix 3
  four : UnderSix 4
  five : UnderSix 5

under_six : (n : ℕ) → 1 ≤ n → n < 6 → UnderSix n
under_six (suc zero) some few = one
under_six (suc (suc zero)) some few = two
under_six (suc (suc (suc zero))) some few = three
under_six (suc (suc (suc (suc zero)))) some few = four
under_six (suc (suc (suc (suc (suc zero))))) some few = five
under_six n some few = absurd (omega (arith, some, few))

none_seen : (n : ℕ) → UnderSix n → get_or (false ∷ false ∷ false ∷ false ∷ false ∷ false ∷ []) n false ≡ occurs n []
unfolding occurs
none_seen n one = refl
none_seen n two = refl
none_seen n three = refl
none_seen n four = refl
none_seen n five = refl

knows_none : Knows [] (false ∷ false ∷ false ∷ false ∷ false ∷ false ∷ [])
knows_none = record { size = refl; none = refl; each = λ n some few. none_seen n (under_six n some few) }

old_or_new : (n m : ℕ) (front : List Terminal) (t : Terminal) → kind_of t ≡ m → occurs n (front ++ t ∷ []) ≡ (occurs n front || (m == n))
unfolding occurs
old_or_new n m front t is = occurs_joined n front (t ∷ []) ∙ ap (λ (c : Bool). occurs n front || c) (no_more (kind_of t == n)) ∙ ap (λ (k : ℕ). occurs n front || (k == n)) is
  where
    no_more : (c : Bool) → (c || false) ≡ c
    no_more true = refl
    no_more false = refl

marked : (n : ℕ) → 1 ≤ n → nat_lt 0 n ≡ true
marked n some = lt-ltb 0 n some

knows_more : (front : List Terminal) (t : Terminal) (seen : List Bool) → Knows front seen → Knows (front ++ t ∷ []) (set seen (kind_of t) (nat_lt 0 (kind_of t)))
knows_more front t seen h = record {
  size = length-set seen (kind_of t) (nat_lt 0 (kind_of t)) ∙ h.size;
  none = at_zero (kind_of t == 0) refl;
  each = λ n some few. at_kind n some few (kind_of t == n) refl;
}
  where
    within : kind_of t < length seen
    within = let six : length seen ≡ 6 = h.size in omega (arith, six, kind_small t)

    at_zero : (b : Bool) → (kind_of t == 0) ≡ b → get_or (set seen (kind_of t) (nat_lt 0 (kind_of t))) 0 false ≡ false
    at_zero true e =
        let zero_is : kind_of t ≡ 0 = same (kind_of t) 0 e in
        ap (λ (k : ℕ). get_or (set seen (kind_of t) (nat_lt 0 (kind_of t))) k false) (sym zero_is) ∙ get_or-set_same seen (kind_of t) (nat_lt 0 (kind_of t)) false within ∙ ap (nat_lt 0) zero_is
    at_zero false e = get_or-set_other seen (kind_of t) 0 (nat_lt 0 (kind_of t)) false (λ is. apart (kind_of t) 0 e (sym is)) ∙ h.none

    or_true : (c : Bool) → (c || true) ≡ true
    or_true true = refl
    or_true false = refl

    or_false : (c : Bool) → (c || false) ≡ c
    or_false true = refl
    or_false false = refl

    at_kind : (n : ℕ) → 1 ≤ n → n < 6 → (b : Bool) → (kind_of t == n) ≡ b → get_or (set seen (kind_of t) (nat_lt 0 (kind_of t))) n false ≡ occurs n (front ++ t ∷ [])
    at_kind n some few true e =
        let is : kind_of t ≡ n = same (kind_of t) n e in
        ap (λ (k : ℕ). get_or (set seen (kind_of t) (nat_lt 0 (kind_of t))) k false) (sym is) ∙ get_or-set_same seen (kind_of t) (nat_lt 0 (kind_of t)) false within
        ∙ ap (nat_lt 0) is ∙ marked n some ∙ sym (or_true (occurs n front)) ∙ ap (λ (c : Bool). occurs n front || c) (sym e) ∙ sym (old_or_new n (kind_of t) front t refl)
    at_kind n some few false e =
        get_or-set_other seen (kind_of t) n (nat_lt 0 (kind_of t)) false (λ is. apart (kind_of t) n e (sym is)) ∙ h.each n some few
        ∙ sym (or_false (occurs n front)) ∙ ap (λ (c : Bool). occurs n front || c) (sym e) ∙ sym (old_or_new n (kind_of t) front t refl)

-- ---- the first place

-- no word for a kind stands twice before a place
NoneBefore : List Terminal → ℕ → Type 0
NoneBefore list at = (place : ℕ) → IsRepeated list place → place < at → ⊥

abbrev pub Told : List Terminal → Option ℕ → Type 0
Told list o = MatchOption o ((place : ℕ) → IsRepeated list place → ⊥) (IsFirstRepeated list)

-- what a place of a list splits it into
front_is : (list front rest other more : List Terminal) → list ≡ front ++ rest → list ≡ other ++ more → length front ≡ length other → other ≡ front
front_is list front rest other more e h is =
    sym (take-append_seam other more) ∙ ap (take (length other)) (sym h ∙ e) ∙ ap (λ (n : ℕ). take n (front ++ rest)) (sym is) ∙ take-append_seam front rest

rest_is : (list front rest other more : List Terminal) → list ≡ front ++ rest → list ≡ other ++ more → length front ≡ length other → more ≡ rest
rest_is list front rest other more e h is =
    append_cancel_left front more rest (ap (λ (l : List Terminal). l ++ more) (sym (front_is list front rest other more e h is)) ∙ sym h ∙ e)

abbrev head_or : Terminal → List Terminal → Terminal
head_or t [] = t
head_or t (first ∷ rest) = first

-- a word that stands twice at a place was seen before it
seen_there : (list front : List Terminal) (t : Terminal) (rest : List Terminal) (seen : List Bool) → list ≡ front ++ t ∷ rest → Knows front seen
    → IsRepeated list (length front) → get_or seen (kind_of t) false ≡ true
seen_there list front t rest seen e know h =
    let before : h.front ≡ front = front_is list front (t ∷ rest) h.front (word h.kind_word ∷ h.rest) e h.parts h.place_is in
    let behind : word h.kind_word ∷ h.rest ≡ t ∷ rest = rest_is list front (t ∷ rest) h.front (word h.kind_word ∷ h.rest) e h.parts h.place_is in
    let it : word h.kind_word ≡ t = ap (head_or t) behind in
    let kind_is : kind_of t ≡ h.earlier.kind = ap kind_of (sym it) ∙ kind_named h.kind_word h.earlier.kind h.earlier.names in
    let bounds = kind_some h.kind_word h.earlier.kind h.earlier.names in
    ap (λ (k : ℕ). get_or seen k false) kind_is ∙ know.each h.earlier.kind bounds.0 bounds.1
    ∙ ap (occurs h.earlier.kind) (sym before) ∙ is_occurs h.front h.kind_word h.earlier

none_yet : (list front : List Terminal) (t : Terminal) (rest : List Terminal) (seen : List Bool) → list ≡ front ++ t ∷ rest → Knows front seen → get_or seen (kind_of t) false ≡ false
    → NoneBefore list (length front) → NoneBefore list (length (front ++ t ∷ []))
unfolding NoneBefore
none_yet list front t rest seen e know new before place h small = by (last_or_less (length front) place less)
  where
    less : place < length front + 1
    less = omega (arith, small, length-append front (t ∷ []))

    last_or_less : (at place : ℕ) → place < at + 1 → (place < at) ⊎ (place ≡ at)
    last_or_less at place small = grind arith

    by : (place < length front) ⊎ (place ≡ length front) → ⊥
    by (inl early) = before place h early
    by (inr is) = true≢false (sym (seen_there list front t rest seen e know (subst (λ (n : ℕ). IsRepeated list n) is h)) ∙ new)

some_kind : (front : List Terminal) (t : Terminal) (seen : List Bool) → Knows front seen → get_or seen (kind_of t) false ≡ true → (kind_of t == 0) ≡ false
some_kind front t seen know e = by (kind_of t == 0) refl
  where
    by : (b : Bool) → (kind_of t == 0) ≡ b → b ≡ false
    by false h = refl
    by true h = absurd (true≢false (sym e ∙ ap (λ (k : ℕ). get_or seen k false) (same (kind_of t) 0 h) ∙ know.none))

found_there : (list front : List Terminal) (t : Terminal) (rest : List Terminal) (seen : List Bool) → list ≡ front ++ t ∷ rest → Knows front seen → get_or seen (kind_of t) false ≡ true
    → NoneBefore list (length front) → IsFirstRepeated list (length front)
unfolding NoneBefore
found_there list front t rest seen e know old before =
    let f : Names t = names_kind t (some_kind front t seen know old) in
    let bounds = kind_some f.kind_word (kind_of t) f.names in
    record {
      stands = record {
        kind_word = f.kind_word;
        front = front;
        rest = rest;
        parts = e ∙ ap (λ (first : Terminal). front ++ first ∷ rest) f.is;
        earlier = occurs_is (kind_of t) f.kind_word f.names front (sym (know.each (kind_of t) bounds.0 bounds.1) ∙ old);
        place_is = refl;
      };
      first = before;
    }

at_end : (list front : List Terminal) → list ≡ front ++ [] → NoneBefore list (length front) → (place : ℕ) → IsRepeated list place → ⊥
unfolding NoneBefore
at_end list front e before place h =
    let whole : length list ≡ length front = ap length e ∙ ap length (append-nil front) in
    let parts : length list ≡ length h.front + length (word h.kind_word ∷ h.rest) = ap length h.parts ∙ length-append h.front (word h.kind_word ∷ h.rest) in
    let placed : place ≡ length h.front = h.place_is in
    before place h (small (length list) (length front) (length h.front) (length h.rest) whole parts placed)
  where
    small : (all front other rest : ℕ) → all ≡ front → all ≡ other + suc rest → place ≡ other → place < front
    small all front other rest whole parts placed = omega (arith, whole, parts, placed)

told_from : (list front rest : List Terminal) (at : ℕ) (seen : List Bool) → list ≡ front ++ rest → at ≡ length front → Knows front seen → NoneBefore list (length front)
    → Told list (repeated_from at seen rest)
told_from list front [] at seen e is know before = at_end list front e before
told_from list front (t ∷ rest) at seen e is know before = by (get_or seen (kind_of t) false) refl (λ h i j k. told_from list (front ++ t ∷ []) rest (at + 1) (set seen (kind_of t) (nat_lt 0 (kind_of t))) h i j k)
  where
    by : (b : Bool) → get_or seen (kind_of t) false ≡ b
        → (list ≡ (front ++ t ∷ []) ++ rest → at + 1 ≡ length (front ++ t ∷ []) → Knows (front ++ t ∷ []) (set seen (kind_of t) (nat_lt 0 (kind_of t))) → NoneBefore list (length (front ++ t ∷ []))
        → Told list (repeated_from (at + 1) (set seen (kind_of t) (nat_lt 0 (kind_of t))) rest))
        → Told list (if b then Some at else repeated_from (at + 1) (set seen (kind_of t) (nat_lt 0 (kind_of t))) rest)
    by true old later = subst (λ (n : ℕ). IsFirstRepeated list n) (sym is) (found_there list front t rest seen e know old before)
    by false new later =
        later (e ∙ sym (append_assoc front (t ∷ []) rest)) (omega (arith, is, length-append front (t ∷ []))) (knows_more front t seen know) (none_yet list front t rest seen e know new before)

pub repeated_is : (list : List Terminal) → Told list (first_repeated list)
unfolding NoneBefore
repeated_is list = told_from list [] list 0 _ refl refl knows_none (λ place h small. absurd (omega (arith, small)))
