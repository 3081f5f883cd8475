-- A text has one list of tokens at most: its first byte or two tell what its front is, and where that ends.
use Rattle.std.proofs.Common.{◌≡◌, ℕ, ◌+◌, ◌≤◌, Bool, true, false, not, ◌&&◌, ◌||◌, ◌==◌, ◌⊎◌, nat_eq, nat_le, if◌then◌else◌, List, [], ◌∷◌, ◌++◌, length, take, drop, get_or, codes, Some, is_some, refl, sym, ap, subst, ◌∙◌, inl, inr, true≢false, arith, length-append}
use Rattle.std.specs.Cmp.Lexicographic.{pointwise}
use Rattle.std.specs.List.{list_all, starts_with}
use Rattle.std.specs.Str.{bytes_eq}
use Rattle.std.proofs.lemmas.Bool.{ne_eqb, leb-true, le-leb}
use Rattle.std.proofs.lemmas.Bool.Decides.{Decides-eqb}
use Rattle.std.proofs.lemmas.Slice.Eq.{starts_is, bytes_eq-Decides}
use Rattle.std.proofs.lemmas.List.{append-nil, length-drop, nil_from_length}
use Rattle.std.proofs.lemmas.List.Folds.{list_all-append}
use Rattle.req_tree.specs.NumericOrder.{is_digit}
use Rattle.req_tree.specs.Meaning.{has_part}
use Rattle.req_grammar.specs.Words.{Sign, signs, under}
use Rattle.req_grammar.specs.Sorts.{Sort, hash, hex, integer, word, quoted, symbol, blank, block, line, IsCut, pick, sort_of}
use Rattle.req_grammar.specs.Tokens as k
use Rattle.req_grammar.specs.Tokens.{Kind, Token, Tokens, IsToken, IsGap, IsBlank, IsBlock, IsLine, IsLongest, goes_on, is_run, is_letter, is_letter_or_digit, is_hex_digit, hash_mark, hex_mark, is_hash, is_hex, is_integer, is_symbol, is_word, is_quoted, quoted_text, quoted_value, is_plain, is_marked}

-- ---- tests

pub both_true : (a b : Bool) → (a && b) ≡ true → (a ≡ true) × (b ≡ true)
both_true true b e = (refl, e)
both_true false b e = absurd (true≢false (sym e))

pub both_false : (a b : Bool) → (a || b) ≡ false → (a ≡ false) × (b ≡ false)
both_false true b e = absurd (true≢false e)
both_false false b e = (refl, e)

pub one_true : (a b : Bool) → (a || b) ≡ true → (a ≡ true) ⊎ (b ≡ true)
one_true true b e = inl refl
one_true false b e = inr e

pub not_false : (b : Bool) → not b ≡ true → b ≡ false
not_false true e = sym e
not_false false e = refl

pub same : (a b : ℕ) → nat_eq a b ≡ true → a ≡ b
same a b e = (Decides-eqb a b).0 e

pub starts : (mark text : List ℕ) → starts_with nat_eq text mark ≡ true → text ≡ mark ++ drop (length mark) text
starts mark text e = (starts_is Decides-eqb text mark (starts_with nat_eq text mark) refl).0 e

tail_is : (a b : ℕ) (xs ys : List ℕ) → a ∷ xs ≡ b ∷ ys → xs ≡ ys
tail_is a b xs ys e = ap (drop 1) e

head_is : (a b : ℕ) (xs ys : List ℕ) → a ∷ xs ≡ b ∷ ys → a ≡ b
head_is a b xs ys e = ap (λ (bytes : List ℕ). get_or bytes 0 0) e

-- ---- what a front is

-- what holds of the bytes of each entry holds of bytes under which an entry stands
abbrev pub Each : (List ℕ → Type 0) → List (List ℕ × Sign) → Type 0
Each P [] = Unit {0}
Each P (entry ∷ rest) = P entry.0 × Each P rest

pub under_each : (P : List ℕ → Type 0) (table : List (List ℕ × Sign)) (bytes : List ℕ) → Each P table → is_some (under bytes table) ≡ true → P bytes
under_each P [] bytes all e = absurd (true≢false (sym e))
under_each P (entry ∷ rest) bytes all e = by (under_each P rest bytes all.1) (bytes_eq entry.0 bytes) refl e
  where
    by : (is_some (under bytes rest) ≡ true → P bytes) → (b : Bool) → bytes_eq entry.0 bytes ≡ b → is_some (if b then Some entry.1 else under bytes rest) ≡ true → P bytes
    by later true found h = subst P ((bytes_eq-Decides entry.0 bytes).0 found) all.0
    by later false found h = later h

pub apart : (n b : ℕ) (mark rest : List ℕ) (sort : ℕ → Bool) → sort b ≡ true → sort n ≡ false → starts_with nat_eq (b ∷ rest) (n ∷ mark) ≡ false
apart n b mark rest sort is other =
    ap (λ (t : Bool). t && pointwise nat_eq mark (take (length mark) rest))
    (ne_eqb n b (λ e. true≢false (sym (subst (λ (c : ℕ). sort c ≡ true) (sym e) is) ∙ other)))

sort_hash : (front rest : List ℕ) → is_hash front ≡ true → sort_of (front ++ rest) ≡ hash
unfolding sort_of
sort_hash front rest e =
    subst (λ (f : List ℕ). sort_of (f ++ rest) ≡ hash) (sym (starts hash_mark front (both_true _ _ (both_true _ _ e).0).0)) refl

sort_hex : (front rest : List ℕ) → is_hex front ≡ true → sort_of (front ++ rest) ≡ hex
unfolding sort_of
sort_hex front rest e =
    subst (λ (f : List ℕ). sort_of (f ++ rest) ≡ hex) (sym (starts hex_mark front (both_true _ _ (both_true _ _ e).0).0)) refl

pub pick_integer : (a b c d e f g h : Bool) → a ≡ false → b ≡ false → c ≡ true → pick a b c d e f g h ≡ integer
pick_integer false false true d e f g h x y z = refl
pick_integer true b c d e f g h x y z = absurd (true≢false x)
pick_integer false true c d e f g h x y z = absurd (true≢false y)
pick_integer false false false d e f g h x y z = absurd (true≢false (sym z))

pick_word : (a b c d e f g h : Bool) → a ≡ false → b ≡ false → c ≡ false → d ≡ true → pick a b c d e f g h ≡ word
pick_word false false false true e f g h x y z w = refl
pick_word true b c d e f g h x y z w = absurd (true≢false x)
pick_word false true c d e f g h x y z w = absurd (true≢false y)
pick_word false false true d e f g h x y z w = absurd (true≢false z)
pick_word false false false false e f g h x y z w = absurd (true≢false (sym w))

sort_integer : (front rest : List ℕ) → IsToken k.integer front rest → sort_of (front ++ rest) ≡ integer
unfolding sort_of
sort_integer [] rest h = absurd (true≢false (sym h.0))
sort_integer (b ∷ front) rest h =
    let digit : is_digit b ≡ true = (both_true _ _ (both_true _ _ h.0).0).0 in
    pick_integer _ _ _ _ _ _ _ _ (apart 72 b (34 ∷ []) (front ++ rest) is_digit digit refl) h.2 digit

sort_word : (front rest : List ℕ) → IsToken k.word front rest → sort_of (front ++ rest) ≡ word
unfolding sort_of
sort_word [] rest h = absurd (true≢false (sym h.1.0))
sort_word (b ∷ front) rest h =
    let letter : is_letter b ≡ true = (both_true _ _ h.1.0).0 in
    let free = both_false _ _ h.0 in
    pick_word _ _ _ _ _ _ _ _ free.0 (apart 48 b (120 ∷ []) (front ++ rest) is_letter letter refl) free.1 letter

sort_quoted : (front rest : List ℕ) → is_quoted front ≡ true → sort_of (front ++ rest) ≡ quoted
unfolding sort_of
sort_quoted front rest e =
    subst (λ (f : List ℕ). sort_of (f ++ rest) ≡ quoted) ((bytes_eq-Decides (quoted_text (quoted_value front)) front).0 e) refl

sort_symbol : (front rest : List ℕ) → is_symbol front ≡ true → sort_of (front ++ rest) ≡ symbol
unfolding sort_of
sort_symbol front rest e =
    under_each (λ bytes. (r : List ℕ) → sort_of (bytes ++ r) ≡ symbol) signs front
    ((λ r. refl), ((λ r. refl), ((λ r. refl), ((λ r. refl), ((λ r. refl), ((λ r. refl), ((λ r. refl), ((λ r. refl), ((λ r. refl), ((λ r. refl), ((λ r. refl), ((λ r. refl), ((λ r. refl), ((λ r. refl), tt)))))))))))))) e rest

sort_blank : (front rest : List ℕ) → IsBlank front → sort_of (front ++ rest) ≡ blank
unfolding sort_of
sort_blank front rest (b, e, is) = subst (λ (f : List ℕ). sort_of (f ++ rest) ≡ blank) (sym e) (by (one_true _ _ is))
  where
    at : (n : ℕ) → (b == n) ≡ true → sort_of (n ∷ rest) ≡ blank → sort_of (b ∷ rest) ≡ blank
    at n h s = subst (λ (c : ℕ). sort_of (c ∷ rest) ≡ blank) (sym (same b n h)) s

    third : ((b == 32 || b == 9) ≡ true) ⊎ ((b == 10) ≡ true) → sort_of (b ∷ rest) ≡ blank
    third (inl h) = elim (one_true _ _ h) [ inl x ↦ at 32 x refl | inr x ↦ at 9 x refl ]
    third (inr h) = at 10 h refl

    by : ((b == 32 || b == 9 || b == 10) ≡ true) ⊎ ((b == 13) ≡ true) → sort_of (b ∷ rest) ≡ blank
    by (inl h) = third (one_true _ _ h)
    by (inr h) = at 13 h refl

sort_block : (front rest : List ℕ) → IsBlock front → sort_of (front ++ rest) ≡ block
unfolding sort_of
sort_block front rest (inside, e, is) = subst (λ (f : List ℕ). sort_of (f ++ rest) ≡ block) (sym e) refl

sort_line : (front rest : List ℕ) → IsLine front rest → sort_of (front ++ rest) ≡ line
unfolding sort_of
sort_line front rest h = by (one_true _ _ h.0)
  where
    by : (starts_with nat_eq front (codes "//") ≡ true) ⊎ (starts_with nat_eq front (codes "#") ≡ true) → sort_of (front ++ rest) ≡ line
    by (inl e) = subst (λ (f : List ℕ). sort_of (f ++ rest) ≡ line) (sym (starts (codes "//") front e)) refl
    by (inr e) = subst (λ (f : List ℕ). sort_of (f ++ rest) ≡ line) (sym (starts (codes "#") front e)) refl

pub sort_is : (s : Sort) (front rest : List ℕ) → IsCut s front rest → sort_of (front ++ rest) ≡ s
sort_is hash front rest h = sort_hash front rest h
sort_is hex front rest h = sort_hex front rest h.0
sort_is integer front rest h = sort_integer front rest h
sort_is word front rest h = sort_word front rest h
sort_is quoted front rest h = sort_quoted front rest h.1.0
sort_is symbol front rest h = sort_symbol front rest h.1.0
sort_is blank front rest h = sort_blank front rest h
sort_is block front rest h = sort_block front rest h
sort_is line front rest h = sort_line front rest h

-- ---- where a front ends

pub hash_end : (front : List ℕ) → is_hash front ≡ true → drop 42 front ≡ 34 ∷ []
hash_end front e = (bytes_eq-Decides (drop 42 front) (34 ∷ [])).0 (both_true _ _ e).1

pub hash_length : (front : List ℕ) → is_hash front ≡ true → length front ≡ 43
hash_length front e =
    let size : length (drop 42 front) ≡ 1 = ap length (hash_end front e) in
    omega (arith, size, length-drop 42 front)

pub all_behind : (sort : ℕ → Bool) (front : List ℕ) (b : ℕ) (more : List ℕ) → list_all sort (front ++ b ∷ more) ≡ true → sort b ≡ true
all_behind sort front b more e = (both_true _ _ (both_true _ _ (sym (list_all-append sort front (b ∷ more)) ∙ e)).1).0

pub or_left : (a b : Bool) → a ≡ true → (a || b) ≡ true
or_left true b e = refl
or_left false b e = absurd (true≢false (sym e))

pub or_right : (a b : Bool) → b ≡ true → (a || b) ≡ true
or_right true b e = refl
or_right false b e = e

pub and_both : (a b : Bool) → a ≡ true → b ≡ true → (a && b) ≡ true
and_both true b x y = y
and_both false b x y = absurd (true≢false (sym x))

up_to : (b n m : ℕ) → n ≤ m → nat_le b n ≡ true → nat_le b m ≡ true
up_to b n m most e = let small : b ≤ n = leb-true b n e in le-leb b m (omega (arith, small, most))

upper : (b : ℕ) → (nat_le 65 b && nat_le b 70) ≡ true → is_letter b ≡ true
upper b h =
    let parts = both_true (nat_le 65 b) (nat_le b 70) h in
    or_left (nat_le 65 b && nat_le b 90) (nat_le 97 b && nat_le b 122) (and_both (nat_le 65 b) (nat_le b 90) parts.0 (up_to b 70 90 (omega arith) parts.1))

lower : (b : ℕ) → (nat_le 97 b && nat_le b 102) ≡ true → is_letter b ≡ true
lower b h =
    let parts = both_true (nat_le 97 b) (nat_le b 102) h in
    or_right (nat_le 65 b && nat_le b 90) (nat_le 97 b && nat_le b 122) (and_both (nat_le 97 b) (nat_le b 122) parts.0 (up_to b 102 122 (omega arith) parts.1))

pub hex_is_letter_or_digit : (b : ℕ) → is_hex_digit b ≡ true → is_letter_or_digit b ≡ true
hex_is_letter_or_digit b e = first (one_true (is_digit b || nat_le 65 b && nat_le b 70) (nat_le 97 b && nat_le b 102) e)
  where
    second : (is_digit b ≡ true) ⊎ ((nat_le 65 b && nat_le b 70) ≡ true) → is_letter_or_digit b ≡ true
    second (inl h) = or_right (is_letter b) (is_digit b) h
    second (inr h) = or_left (is_letter b) (is_digit b) (upper b h)

    first : ((is_digit b || nat_le 65 b && nat_le b 70) ≡ true) ⊎ ((nat_le 97 b && nat_le b 102) ≡ true) → is_letter_or_digit b ≡ true
    first (inl h) = second (one_true (is_digit b) (nat_le 65 b && nat_le b 70) h)
    first (inr h) = or_left (is_letter b) (is_digit b) (lower b h)

hex_behind : (front : List ℕ) (b : ℕ) (more : List ℕ) → is_hex front ≡ true → is_hex (front ++ b ∷ more) ≡ true → is_hex_digit b ≡ true
hex_behind front b more e h =
    let mark : front ≡ hex_mark ++ drop 2 front = starts hex_mark front (both_true _ _ (both_true _ _ e).0).0 in
    let all : list_all is_hex_digit (drop 2 (front ++ b ∷ more)) ≡ true = (both_true _ _ (both_true _ _ (both_true _ _ h).0).1).1 in
    all_behind is_hex_digit (drop 2 front) b more (ap (λ (f : List ℕ). list_all is_hex_digit (drop 2 (f ++ b ∷ more))) (sym mark) ∙ all)

block_one : (i j more : List ℕ) → (i ++ 42 ∷ 47 ∷ []) ++ more ≡ j ++ 42 ∷ 47 ∷ [] → has_part (j ++ 42 ∷ []) (42 ∷ 47 ∷ []) ≡ false → more ≡ []
block_one [] [] more e h = ap (drop 2) e
block_one [] (a ∷ []) more e h = let wrong : 47 ≡ 42 = ap (λ (bytes : List ℕ). get_or bytes 1 0) e in absurd (omega (arith, wrong))
block_one [] (a ∷ b ∷ j) more e h =
    let x : 42 ≡ a = ap (λ (bytes : List ℕ). get_or bytes 0 0) e in
    let y : 47 ≡ b = ap (λ (bytes : List ℕ). get_or bytes 1 0) e in
    absurd (true≢false (ap (λ (c : ℕ). has_part (c ∷ 47 ∷ (j ++ 42 ∷ [])) (42 ∷ 47 ∷ [])) x ∙ ap (λ (c : ℕ). has_part (a ∷ c ∷ (j ++ 42 ∷ [])) (42 ∷ 47 ∷ [])) y ∙ h))
block_one (a ∷ i) [] more e h =
    let size : length ((i ++ 42 ∷ 47 ∷ []) ++ more) ≡ 1 = ap (λ (bytes : List ℕ). length (drop 1 bytes)) e in
    absurd (omega (arith, size, length-append (i ++ 42 ∷ 47 ∷ []) more, length-append i (42 ∷ 47 ∷ [])))
block_one (a ∷ i) (b ∷ j) more e h = block_one i j more (ap (drop 1) e) (both_false _ _ h).1

-- of two fronts of one sort neither goes on beyond the other
longer : (s : Sort) (front more rest : List ℕ) → IsCut s front (more ++ rest) → IsCut s (front ++ more) rest → more ≡ []
longer hash front more rest h i =
    let a : length front ≡ 43 = hash_length front h in
    let b : length (front ++ more) ≡ 43 = hash_length (front ++ more) i in
    nil_from_length more (omega (arith, a, b, length-append front more))
longer s front [] rest h i = refl
longer hex front (b ∷ more) rest h i = absurd (true≢false (sym (hex_is_letter_or_digit b (hex_behind front b more h.0 i.0)) ∙ h.1))
longer integer front (b ∷ more) rest h i = absurd (true≢false (sym (all_behind is_digit front b more (both_true _ _ (both_true _ _ i.0).0).1) ∙ h.1))
longer word front (b ∷ more) rest h i = absurd (true≢false (sym i.1.0 ∙ (both_false _ _ (h.1.1 (b ∷ more) rest refl (λ e. absurd cc))).1))
longer quoted front (b ∷ more) rest h i = absurd (true≢false (sym i.1.0 ∙ (both_false _ _ (both_false _ _ (h.1.1 (b ∷ more) rest refl (λ e. absurd cc))).0).1))
longer symbol front (b ∷ more) rest h i = absurd (true≢false (sym i.1.0 ∙ (both_false _ _ (both_false _ _ (h.1.1 (b ∷ more) rest refl (λ e. absurd cc))).0).0))
longer blank front (b ∷ more) rest (c, e, is) (d, f, others) =
    let x : length front ≡ 1 = ap length e in
    let y : length (front ++ b ∷ more) ≡ 1 = ap length f in
    absurd (omega (arith, x, y, length-append front (b ∷ more)))
longer block front (b ∷ more) rest (i, e, is) (j, f, others) =
    block_one i j (b ∷ more) (ap (λ (bytes : List ℕ). drop 2 (bytes ++ b ∷ more)) (sym e) ∙ ap (drop 2) f) others
longer line front (b ∷ more) rest h i = absurd (true≢false (sym (all_behind (λ c. not (c == 10)) front b more i.1) ∙ h.2))

-- ---- one front

split : (f g r s : List ℕ) → f ++ r ≡ g ++ s
    → ((more : List ℕ) × (g ≡ f ++ more) × (r ≡ more ++ s)) ⊎ ((more : List ℕ) × (f ≡ g ++ more) × (s ≡ more ++ r))
split [] g r s e = inl (g, refl, e)
split (a ∷ f) [] r s e = inr (a ∷ f, refl, sym e)
split (a ∷ f) (b ∷ g) r s e = by (split f g r s (ap (drop 1) e))
  where
    first : a ≡ b
    first = ap (λ (bytes : List ℕ). get_or bytes 0 0) e

    by : ((more : List ℕ) × (g ≡ f ++ more) × (r ≡ more ++ s)) ⊎ ((more : List ℕ) × (f ≡ g ++ more) × (s ≡ more ++ r))
        → ((more : List ℕ) × (b ∷ g ≡ (a ∷ f) ++ more) × (r ≡ more ++ s)) ⊎ ((more : List ℕ) × (a ∷ f ≡ (b ∷ g) ++ more) × (s ≡ more ++ r))
    by (inl (more, x, y)) = inl (more, ap (λ (c : ℕ). c ∷ g) (sym first) ∙ ap (λ (l : List ℕ). a ∷ l) x, y)
    by (inr (more, x, y)) = inr (more, ap (λ (c : ℕ). c ∷ f) first ∙ ap (λ (l : List ℕ). b ∷ l) x, y)

pub record IsSame (s u : Sort) (front other rest left : List ℕ) : Type 0 where
  pub sort : s ≡ u
  pub fronts : front ≡ other
  pub rests : rest ≡ left

cut_shorter : (s u : Sort) (f g r l more : List ℕ) → s ≡ u → g ≡ f ++ more → r ≡ more ++ l → IsCut s f r → IsCut u g l → IsSame s u f g r l
cut_shorter s u f g r l more same_sort x y h i =
    let none : more ≡ [] = longer s f more l (subst (λ (z : List ℕ). IsCut s f z) y h) (subst (λ (z : List ℕ). IsCut s z l) x (subst (λ (z : Sort). IsCut z g l) (sym same_sort) i)) in
    record {
      sort = same_sort;
      fronts = sym (x ∙ ap (λ (z : List ℕ). f ++ z) none ∙ append-nil f);
      rests = y ∙ ap (λ (z : List ℕ). z ++ l) none;
    }

pub cut_one : (s u : Sort) (f g r l : List ℕ) → f ++ r ≡ g ++ l → IsCut s f r → IsCut u g l → IsSame s u f g r l
cut_one s u f g r l e h i = by (split f g r l e)
  where
    same_sort : s ≡ u
    same_sort = sym (sort_is s f r h) ∙ ap sort_of e ∙ sort_is u g l i

    by : ((more : List ℕ) × (g ≡ f ++ more) × (r ≡ more ++ l)) ⊎ ((more : List ℕ) × (f ≡ g ++ more) × (l ≡ more ++ r)) → IsSame s u f g r l
    by (inl (more, x, y)) = cut_shorter s u f g r l more same_sort x y h i
    by (inr (more, x, y)) =
        let k = cut_shorter u s g f l r more (sym same_sort) x y i h in
        record { sort = sym k.sort; fronts = sym k.fronts; rests = sym k.rests }

filled : (s : Sort) (front rest : List ℕ) → IsCut s front rest → front ≡ [] → ⊥
filled hash front rest h e = true≢false (sym (subst (λ f. is_hash f ≡ true) e h))
filled hex front rest h e = true≢false (sym (subst (λ f. is_hex f ≡ true) e h.0))
filled integer front rest h e = true≢false (sym (subst (λ f. is_integer f ≡ true) e h.0))
filled word front rest h e = true≢false (sym (subst (λ f. is_word f ≡ true) e h.1.0))
filled quoted front rest h e = true≢false (sym (subst (λ f. is_quoted f ≡ true) e h.1.0))
filled symbol front rest h e = true≢false (sym (subst (λ f. is_symbol f ≡ true) e h.1.0))
filled blank front rest h e = let size : length front ≡ 1 = ap length h.1 in let none : length front ≡ 0 = ap length e in absurd (omega (arith, size, none))
filled block front rest (inside, is, open_) e =
    let wrong : 47 ≡ 0 = ap (λ (bytes : List ℕ). get_or bytes 0 0) (sym is ∙ e) in absurd (omega (arith, wrong))
filled line front rest h e = true≢false (sym (subst (λ f. (starts_with nat_eq f (codes "//") || starts_with nat_eq f (codes "#")) ≡ true) e h.0))

-- ---- the list

-- a token of this sort before others, or none where the front is dropped
abbrev pub add : Sort → ℕ → ℕ → List Token → List Token
add hash at size rest = record { kind = k.hash; at = at; length = size } ∷ rest
add hex at size rest = record { kind = k.hex; at = at; length = size } ∷ rest
add integer at size rest = record { kind = k.integer; at = at; length = size } ∷ rest
add word at size rest = record { kind = k.word; at = at; length = size } ∷ rest
add quoted at size rest = record { kind = k.quoted; at = at; length = size } ∷ rest
add symbol at size rest = record { kind = k.symbol; at = at; length = size } ∷ rest
add other at size rest = rest

pub data Step (at : ℕ) (text : List ℕ) (list : List Token) : Type 0 where
  ends : text ≡ [] → list ≡ [] → Step at text list
  cuts : (s : Sort) (front rest : List ℕ) (tokens : List Token) → text ≡ front ++ rest → IsCut s front rest
      → Tokens (at + length front) rest tokens → list ≡ add s at (length front) tokens → Step at text list

pub step_of : (at : ℕ) (text : List ℕ) (list : List Token) → Tokens at text list → Step at text list
step_of at text list (k.none n) = ends refl refl
step_of at text list (k.dropped n t f r a e (inl h) u) = cuts blank f r a e h u refl
step_of at text list (k.dropped n t f r a e (inr (inl h)) u) = cuts block f r a e h u refl
step_of at text list (k.dropped n t f r a e (inr (inr h)) u) = cuts line f r a e h u refl
step_of at text list (k.one n t f r a k.hash e h u) = cuts hash f r a e h u refl
step_of at text list (k.one n t f r a k.hex e h u) = cuts hex f r a e h u refl
step_of at text list (k.one n t f r a k.integer e h u) = cuts integer f r a e h u refl
step_of at text list (k.one n t f r a k.word e h u) = cuts word f r a e h u refl
step_of at text list (k.one n t f r a k.quoted e h u) = cuts quoted f r a e h u refl
step_of at text list (k.one n t f r a k.symbol e h u) = cuts symbol f r a e h u refl

pub no_front : (s : Sort) (front rest : List ℕ) → IsCut s front rest → [] ≡ front ++ rest → ⊥
no_front s [] rest h e = filled s [] rest h refl
no_front s (b ∷ front) rest h e = absurd cc

ends_one : (at : ℕ) (list : List Token) → Step at [] list → [] ≡ list
ends_one at list (ends e none) = sym none
ends_one at list (cuts s f r a e h u is) = absurd (no_front s f r h e)

cuts_one : (s : Sort) (at : ℕ) (text front rest : List ℕ) (tokens list : List Token) → text ≡ front ++ rest → IsCut s front rest
    → ((others : List Token) → Tokens (at + length front) rest others → tokens ≡ others) → Step at text list → add s at (length front) tokens ≡ list
cuts_one s at text front rest tokens list e h later (ends none is) = absurd (no_front s front rest h (sym none ∙ e))
cuts_one s at text front rest tokens list e h later (cuts u other left others d i t is) =
    let same_cut = cut_one s u front other rest left (sym e ∙ d) h i in
    let back : Tokens (at + length front) rest others =
    subst (λ (f : List ℕ). Tokens (at + length f) rest others) (sym same_cut.fronts) (subst (λ (r : List ℕ). Tokens (at + length other) r others) (sym same_cut.rests) t) in
    ap (add s at (length front)) (later others back)
    ∙ ap (λ (f : List ℕ). add s at (length f) others) same_cut.fronts
    ∙ ap (λ (v : Sort). add v at (length other) others) same_cut.sort
    ∙ sym is

pub tokens_one : (at : ℕ) (text : List ℕ) (a b : List Token) → Tokens at text a → Tokens at text b → a ≡ b
tokens_one at text a b (k.none n) u = ends_one at b (step_of at [] b u)
tokens_one at text a b (k.dropped n t f r c e (inl h) v) u = cuts_one blank at text f r c b e h (λ others w. tokens_one _ _ c others v w) (step_of at text b u)
tokens_one at text a b (k.dropped n t f r c e (inr (inl h)) v) u = cuts_one block at text f r c b e h (λ others w. tokens_one _ _ c others v w) (step_of at text b u)
tokens_one at text a b (k.dropped n t f r c e (inr (inr h)) v) u = cuts_one line at text f r c b e h (λ others w. tokens_one _ _ c others v w) (step_of at text b u)
tokens_one at text a b (k.one n t f r c k.hash e h v) u = cuts_one hash at text f r c b e h (λ others w. tokens_one _ _ c others v w) (step_of at text b u)
tokens_one at text a b (k.one n t f r c k.hex e h v) u = cuts_one hex at text f r c b e h (λ others w. tokens_one _ _ c others v w) (step_of at text b u)
tokens_one at text a b (k.one n t f r c k.integer e h v) u = cuts_one integer at text f r c b e h (λ others w. tokens_one _ _ c others v w) (step_of at text b u)
tokens_one at text a b (k.one n t f r c k.word e h v) u = cuts_one word at text f r c b e h (λ others w. tokens_one _ _ c others v w) (step_of at text b u)
tokens_one at text a b (k.one n t f r c k.quoted e h v) u = cuts_one quoted at text f r c b e h (λ others w. tokens_one _ _ c others v w) (step_of at text b u)
tokens_one at text a b (k.one n t f r c k.symbol e h v) u = cuts_one symbol at text f r c b e h (λ others w. tokens_one _ _ c others v w) (step_of at text b u)
