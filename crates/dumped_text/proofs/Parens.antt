-- How many parentheses are open in a tree's terminals: no more than its normal form is deep.
use Rattle.std.proofs.Common.{◌≡◌, ℕ, zero, suc, ℤ, pos, negsuc, ◌+◌, ◌≤◌, max, List, [], ◌∷◌, ◌++◌, refl, sym, ap, subst, ◌∙◌, arith}
use Rattle.std.specs.Prelude.{count_by, drop}
use Rattle.std.specs.List.{fold}
use Rattle.std.proofs.lemmas.List.Sums.{sum_by-append}
use Rattle.req_tree.specs.declared.matching.Match.{Match}
use Rattle.req_tree.specs.declared.matching.Match.TheVariants as m
use Rattle.req_tree.specs.Tree as t
use Rattle.req_tree.specs.Tree.{Tree}
use Rattle.req_tree.specs.Depth.{depth_of}
use Rattle.req_tree.specs.Spellable.{IsShallow}
use Rattle.req_tree.specs.Normal.{operands_of_both, operands_of_either, left_nest, normal}
use Rattle.req_grammar.specs.Words as w
use Rattle.req_grammar.specs.Terminals.{Terminal, sign, word, str, int}
use Rattle.req_grammar.specs.Readings.{is_left, is_right, HasFewOpen}
use Rattle.dumped_text.specs.Dumped.{Place, alone, beside_and, behind_bang}
use Rattle.dumped_text.specs.Said.{number_said, slot_said, keyed_said, in_parens_said, or_said, and_said, said_at, said}
use Rattle.dumped_text.proofs.Chains.{HasSome, some_of_both, some_of_either, Each, Each-append, own_both, own_either, operands_both, operands_either, both_is_no_either, either_is_no_both}

-- ---- lists of terminals

abbrev pub lefts : List Terminal → ℕ
lefts a = count_by is_left a

abbrev pub rights : List Terminal → ℕ
rights a = count_by is_right a

lefts-append : (a b : List Terminal) → lefts (a ++ b) ≡ lefts a + lefts b
lefts-append a b = sum_by-append _ a b

rights-append : (a b : List Terminal) → rights (a ++ b) ≡ rights a + rights b
rights-append a b = sum_by-append _ a b

-- as many of both, and at each place at most n are open
pub record Fits (n : ℕ) (a : List Terminal) : Type 0 where
  pub even : lefts a ≡ rights a
  pub open_at : (front rest : List Terminal) → a ≡ front ++ rest → lefts front ≤ n + rights front

-- no parentheses
pub record Flat (a : List Terminal) : Type 0 where
  pub no_left : lefts a ≡ 0
  pub no_right : rights a ≡ 0

flat-append : (a b : List Terminal) → Flat a → Flat b → Flat (a ++ b)
flat-append a b h k = record {
  no_left = let e : lefts (a ++ b) ≡ lefts a + lefts b = lefts-append a b in let x : lefts a ≡ 0 = h.no_left in let y : lefts b ≡ 0 = k.no_left in omega (arith, e, x, y);
  no_right = let e : rights (a ++ b) ≡ rights a + rights b = rights-append a b in let x : rights a ≡ 0 = h.no_right in let y : rights b ≡ 0 = k.no_right in omega (arith, e, x, y);
}

pub flat_fits : (n : ℕ) (a : List Terminal) → Flat a → Fits n a
flat_fits n a h = record {
  even = h.no_left ∙ sym h.no_right;
  open_at = λ front rest e.
      let sum : lefts a ≡ lefts front + lefts rest = ap lefts e ∙ lefts-append front rest in
      let none : lefts a ≡ 0 = h.no_left in
      omega (arith, sum, none);
}

-- where a front of two lists ends: in the first, or behind it
pub data Split (a b front rest : List Terminal) : Type 0 where
  within : (more : List Terminal) → a ≡ front ++ more → Split a b front rest
  behind : (more : List Terminal) → front ≡ a ++ more → b ≡ more ++ rest → Split a b front rest

abbrev first_of : List Terminal → Terminal
first_of [] = int 0
first_of (x ∷ rest) = x

split : (a b front rest : List Terminal) → a ++ b ≡ front ++ rest → Split a b front rest
split [] b front rest e = behind front refl e
split (x ∷ a) b [] rest e = within (x ∷ a) refl
split (x ∷ a) b (y ∷ front) rest e = by (split a b front rest (ap (drop 1) e))
  where
    same : x ≡ y
    same = ap first_of e

    by : Split a b front rest → Split (x ∷ a) b (y ∷ front) rest
    by (within more h) = within more (ap (λ l. x ∷ l) h ∙ ap (λ (z : Terminal). z ∷ (front ++ more)) same)
    by (behind more h k) = behind more (ap (λ l. y ∷ l) h ∙ ap (λ (z : Terminal). z ∷ (a ++ more)) (sym same)) k

pub fits-append : (n : ℕ) (a b : List Terminal) → Fits n a → Fits n b → Fits n (a ++ b)
fits-append n a b h k = record {
  even =
      let l : lefts (a ++ b) ≡ lefts a + lefts b = lefts-append a b in
      let r : rights (a ++ b) ≡ rights a + rights b = rights-append a b in
      let x : lefts a ≡ rights a = h.even in
      let y : lefts b ≡ rights b = k.even in
      omega (arith, l, r, x, y);
  open_at = λ front rest e. by front rest (split a b front rest e);
}
  where
    by : (front rest : List Terminal) → Split a b front rest → lefts front ≤ n + rights front
    by front rest (within more e) = h.open_at front more e
    by front rest (behind more e f) =
        let l : lefts front ≡ lefts a + lefts more = ap lefts e ∙ lefts-append a more in
        let r : rights front ≡ rights a + rights more = ap rights e ∙ rights-append a more in
        let x : lefts a ≡ rights a = h.even in
        let y : lefts more ≤ n + rights more = k.open_at more rest f in
        omega (arith, l, r, x, y)

abbrev closing : List Terminal
closing = sign w.right_paren ∷ []

-- a pair of parentheses opens one more
pub fits_in_parens : (n : ℕ) (a : List Terminal) → Fits n a → Fits (n + 1) (in_parens_said a)
fits_in_parens n a h = record {
  even =
      let l : lefts (a ++ closing) ≡ lefts a + 0 = lefts-append a closing in
      let r : rights (a ++ closing) ≡ rights a + 1 = rights-append a closing in
      let x : lefts a ≡ rights a = h.even in
      let ll : lefts (in_parens_said a) ≡ 1 + lefts (a ++ closing) = lefts-append (sign w.left_paren ∷ []) (a ++ closing) in
      let rr : rights (in_parens_said a) ≡ 0 + rights (a ++ closing) = rights-append (sign w.left_paren ∷ []) (a ++ closing) in
      omega (arith, l, r, x, ll, rr);
  open_at = at;
}
  where
    inside : (front rest : List Terminal) → Split a closing front rest → lefts front ≤ n + rights front
    inside front rest (within more e) = h.open_at front more e
    inside front rest (behind more e f) =
        let l : lefts front ≡ lefts a + lefts more = ap lefts e ∙ lefts-append a more in
        let r : rights front ≡ rights a + rights more = ap rights e ∙ rights-append a more in
        let x : lefts a ≡ rights a = h.even in
        let none : 0 ≡ lefts more + lefts rest = ap lefts f ∙ lefts-append more rest in
        omega (arith, l, r, x, none)

    at : (front rest : List Terminal) → in_parens_said a ≡ front ++ rest → lefts front ≤ n + 1 + rights front
    at [] rest e = omega arith
    at (x ∷ front) rest e =
        let s : lefts front ≤ n + rights front = inside front rest (split a closing front rest (ap (drop 1) e)) in
        let l : lefts (x ∷ front) ≡ lefts (x ∷ []) + lefts front = lefts-append (x ∷ []) front in
        let r : rights (x ∷ front) ≡ rights (x ∷ []) + rights front = rights-append (x ∷ []) front in
        let head : sign w.left_paren ≡ x = ap first_of e in
        let one : 1 ≡ lefts (x ∷ []) = ap (λ (z : Terminal). lefts (z ∷ [])) head in
        omega (arith, s, l, r, one)

-- ---- depths of operands

fold_deep : (join : Tree → Tree → Tree) → ((a b : Tree) → depth_of (join a b) ≡ max (depth_of a) (depth_of b) + 1)
    → (n : ℕ) (x : Tree) (ys : List Tree) → depth_of (fold join x ys) ≤ n → (depth_of x ≤ n) × Each (λ y. depth_of y + 1 ≤ n) ys
fold_deep join grow n x [] h = (h, tt)
fold_deep join grow n x (y ∷ ys) h =
    let rest = fold_deep join grow n (join x y) ys h in
    let joined : depth_of (join x y) ≤ n = rest.0 in
    let is : depth_of (join x y) ≡ max (depth_of x) (depth_of y) + 1 = grow x y in
    (omega (arith, joined, is), (omega (arith, joined, is), rest.1))

-- each of two operands or more is less deep than their nest
nest_deep : (join : Tree → Tree → Tree) → ((a b : Tree) → depth_of (join a b) ≡ max (depth_of a) (depth_of b) + 1)
    → (n : ℕ) (xs ys : List Tree) → HasSome xs → HasSome ys → depth_of (left_nest join (xs ++ ys)) ≤ n → Each (λ y. depth_of y + 1 ≤ n) (xs ++ ys)
nest_deep join grow n [] ys h k d = absurd h
nest_deep join grow n (x ∷ []) [] h k d = absurd k
nest_deep join grow n (x ∷ []) (y ∷ ys) h k d =
    let rest = fold_deep join grow n (join x y) ys d in
    let joined : depth_of (join x y) ≤ n = rest.0 in
    let is : depth_of (join x y) ≡ max (depth_of x) (depth_of y) + 1 = grow x y in
    (omega (arith, joined, is), (omega (arith, joined, is), rest.1))
nest_deep join grow n (x ∷ z ∷ xs) ys h k d =
    let rest = fold_deep join grow n (join x z) (xs ++ ys) d in
    let joined : depth_of (join x z) ≤ n = rest.0 in
    let is : depth_of (join x z) ≡ max (depth_of x) (depth_of z) + 1 = grow x z in
    (omega (arith, joined, is), (omega (arith, joined, is), rest.1))

abbrev WithinDepth : ℕ → Tree → Type 0
WithinDepth n x = depth_of x ≤ n

each_less : (n : ℕ) (xs : List Tree) → Each (λ y. depth_of y + 1 ≤ suc n) xs → Each (WithinDepth n) xs
each_less n [] h = tt
each_less n (x ∷ xs) h = let d : depth_of x + 1 ≤ suc n = h.0 in (omega (arith, d), each_less n xs h.1)

each_more : (n : ℕ) (xs : List Tree) → Each (WithinDepth n) xs → Each (WithinDepth (suc n)) xs
each_more n [] h = tt
each_more n (x ∷ xs) h = let d : depth_of x ≤ n = h.0 in (omega (arith, d), each_more n xs h.1)

some_depth : (tree : Tree) → 1 ≤ depth_of tree
some_depth (t.both left right) = omega arith
some_depth (t.either left right) = omega arith
some_depth (t.negate inner) = omega arith
some_depth (t.skip_next op skipped inner) = omega arith
some_depth tree = omega arith

both_deep : (n : ℕ) (left right : Tree) → depth_of (normal (t.both left right)) ≤ suc n
    → Each (WithinDepth n) (operands_of_both (normal left) ++ operands_of_both (normal right))
both_deep n left right h = each_less n _ (nest_deep t.both (λ a b. refl) (suc n) _ _ (some_of_both (normal left)) (some_of_both (normal right)) h)

either_deep : (n : ℕ) (left right : Tree) → depth_of (normal (t.either left right)) ≤ suc n
    → Each (WithinDepth n) (operands_of_either (normal left) ++ operands_of_either (normal right))
either_deep n left right h = each_less n _ (nest_deep t.either (λ a b. refl) (suc n) _ _ (some_of_either (normal left)) (some_of_either (normal right)) h)

front_each : (P : Tree → Type 0) (xs ys : List Tree) → Each P (xs ++ ys) → Each P xs
front_each P [] ys h = tt
front_each P (x ∷ xs) ys h = (h.0, front_each P xs ys h.1)

back_each : (P : Tree → Type 0) (xs ys : List Tree) → Each P (xs ++ ys) → Each P ys
back_each P [] ys h = h
back_each P (x ∷ xs) ys h = back_each P xs ys h.1

operands_deep : (n : ℕ) (tree : Tree) → depth_of tree ≤ n → Each (WithinDepth n) (operands_of_either tree)
operands_deep n (t.either left right) h =
    let d : max (depth_of left) (depth_of right) + 1 ≤ n = h in
    Each-append (WithinDepth n) _ _ (operands_deep n left (omega (arith, d))) (operands_deep n right (omega (arith, d)))
operands_deep n tree h = (h, tt)

-- ---- trees

flat_number : (number : ℤ) → Flat (number_said number)
flat_number (pos n) = record { no_left = refl; no_right = refl }
flat_number (negsuc n) = record { no_left = refl; no_right = refl }

flat_slot : (slot : ℤ) → Flat (slot_said slot)
flat_slot (pos zero) = record { no_left = refl; no_right = refl }
flat_slot (negsuc zero) = record { no_left = refl; no_right = refl }
flat_slot (pos (suc n)) = flat_number (pos (suc n))
flat_slot (negsuc (suc n)) = flat_number (negsuc (suc n))

flat_keyed : (key : List ℕ) (test : Match) → Flat (keyed_said key test)
flat_keyed key m.Exists = record { no_left = refl; no_right = refl }
flat_keyed key m.Absent = record { no_left = refl; no_right = refl }
flat_keyed key (m.Equal s) = record { no_left = refl; no_right = refl }
flat_keyed key (m.Contains s) = record { no_left = refl; no_right = refl }
flat_keyed key (m.Begins s) = record { no_left = refl; no_right = refl }
flat_keyed key (m.Ends s) = record { no_left = refl; no_right = refl }
flat_keyed key (m.Less s) = record { no_left = refl; no_right = refl }
flat_keyed key (m.Greater s) = record { no_left = refl; no_right = refl }
flat_keyed key (m.LessEqual s) = record { no_left = refl; no_right = refl }
flat_keyed key (m.GreaterEqual s) = record { no_left = refl; no_right = refl }

abbrev flat : (a : List Terminal) → lefts a ≡ 0 → rights a ≡ 0 → Flat a
flat a h k = record { no_left = h; no_right = k }

flat_cert : (slot : ℤ) (a : List Terminal) → Flat a → Flat (word w.certificate ∷ slot_said slot ++ a)
flat_cert slot a h = flat-append (word w.certificate ∷ []) _ (flat _ refl refl) (flat-append (slot_said slot) a (flat_slot slot) h)

-- how deep the normal form is, by where the tree stands: beside an operator each of its operands counts
abbrev Deep : Place → ℕ → Tree → Type 0
Deep alone n x = Each (WithinDepth n) (operands_of_either x)
Deep beside_and n x = Each (WithinDepth n) (operands_of_both x)
Deep behind_bang n x = depth_of x ≤ n

beside : (n : ℕ) (op : Terminal) (a b : List Terminal) → Flat (op ∷ []) → Fits n a → Fits n b → Fits n (a ++ op ∷ b)
beside n op a b h k l = fits-append n a (op ∷ b) k (fits-append n (op ∷ []) b (flat_fits n _ h) l)

parens : (n : ℕ) (a : List Terminal) → Fits n a → Fits (suc n) (in_parens_said a)
parens n a h = let e : n + 1 ≡ suc n = omega arith in subst (λ k. Fits k (in_parens_said a)) e (fits_in_parens n a h)

-- where the places of a pair differ, what is asked at each
both_fits : (place : Place) (n : ℕ) (left right : Tree) (a b : List Terminal)
    → ((k : ℕ) → Deep beside_and k (normal left) → Fits k a) → ((k : ℕ) → Deep beside_and k (normal right) → Fits k b)
    → Deep place n (normal (t.both left right)) → Fits n (and_said place a b)
both_fits alone zero left right a b fa fb d =
    let some : 1 ≤ depth_of (normal (t.both left right)) = some_depth _ in
    let none : depth_of (normal (t.both left right)) ≤ 0 =
    (subst (Each (WithinDepth 0)) (own_either _ (both_is_no_either left right)) d).0 in
    absurd (omega (arith, some, none))
both_fits alone (suc n) left right a b fa fb d =
    let whole : depth_of (normal (t.both left right)) ≤ suc n =
    (subst (Each (WithinDepth (suc n))) (own_either _ (both_is_no_either left right)) d).0 in
    let each = each_more n _ (both_deep n left right whole) in
    beside (suc n) (word w.and) a b (flat _ refl refl) (fa (suc n) (front_each _ _ _ each)) (fb (suc n) (back_each _ _ _ each))
both_fits beside_and n left right a b fa fb d =
    let each = subst (Each (WithinDepth n)) (operands_both left right) d in
    beside n (word w.and) a b (flat _ refl refl) (fa n (front_each _ _ _ each)) (fb n (back_each _ _ _ each))
both_fits behind_bang zero left right a b fa fb d =
    let some : 1 ≤ depth_of (normal (t.both left right)) = some_depth _ in
    let none : depth_of (normal (t.both left right)) ≤ 0 = d in
    absurd (omega (arith, some, none))
both_fits behind_bang (suc n) left right a b fa fb d =
    let each = both_deep n left right d in
    parens n _ (beside n (word w.and) a b (flat _ refl refl) (fa n (front_each _ _ _ each)) (fb n (back_each _ _ _ each)))

either_inside : (n : ℕ) (left right : Tree) (a b : List Terminal)
    → ((k : ℕ) → Deep alone k (normal left) → Fits k a) → ((k : ℕ) → Deep alone k (normal right) → Fits k b)
    → depth_of (normal (t.either left right)) ≤ n → Fits n (in_parens_said (a ++ word w.or ∷ b))
either_inside zero left right a b fa fb d =
    let some : 1 ≤ depth_of (normal (t.either left right)) = some_depth _ in
    absurd (omega (arith, some, d))
either_inside (suc n) left right a b fa fb d =
    let each = either_deep n left right d in
    parens n _ (beside n (word w.or) a b (flat _ refl refl) (fa n (front_each _ _ _ each)) (fb n (back_each _ _ _ each)))

either_fits : (place : Place) (n : ℕ) (left right : Tree) (a b : List Terminal)
    → ((k : ℕ) → Deep alone k (normal left) → Fits k a) → ((k : ℕ) → Deep alone k (normal right) → Fits k b)
    → Deep place n (normal (t.either left right)) → Fits n (or_said place a b)
either_fits alone n left right a b fa fb d =
    let each = subst (Each (WithinDepth n)) (operands_either left right) d in
    beside n (word w.or) a b (flat _ refl refl) (fa n (front_each _ _ _ each)) (fb n (back_each _ _ _ each))
either_fits beside_and n left right a b fa fb d =
    either_inside n left right a b fa fb (subst (Each (WithinDepth n)) (own_both _ (either_is_no_both left right)) d).0
either_fits behind_bang n left right a b fa fb d = either_inside n left right a b fa fb d

-- what stands alone is as deep as any of its operands
depth_at : (place : Place) (n : ℕ) (x : Tree) → operands_of_both x ≡ x ∷ [] → operands_of_either x ≡ x ∷ [] → Deep place n x → depth_of x ≤ n
depth_at alone n x h k d = (subst (Each (WithinDepth n)) k d).0
depth_at beside_and n x h k d = (subst (Each (WithinDepth n)) h d).0
depth_at behind_bang n x h k d = d

named_fits : (n : ℕ) (name : List ℕ) → 1 ≤ n → Fits n (in_parens_said (str name ∷ []))
named_fits zero name h = absurd (omega (arith, h))
named_fits (suc n) name h = parens n (str name ∷ []) (flat_fits n _ (flat _ refl refl))

bang_fits : (n : ℕ) (a : List Terminal) → Fits n a → Fits (suc n) (sign w.bang ∷ a)
bang_fits n a h = fits-append (suc n) (sign w.bang ∷ []) a (flat_fits (suc n) _ (flat _ refl refl)) (record {
  even = h.even;
  open_at = λ front rest e. let s : lefts front ≤ n + rights front = h.open_at front rest e in omega (arith, s);
})

deny_fits : (n : ℕ) (inner : Tree) (a : List Terminal) → ((k : ℕ) → depth_of (normal inner) ≤ k → Fits k a) → depth_of (normal inner) + 1 ≤ n
    → Fits n (sign w.bang ∷ a)
deny_fits zero inner a f h = absurd (omega (arith, h))
deny_fits (suc n) inner a f h = let less : depth_of (normal inner) ≤ n = omega (arith, h) in bang_fits n a (f n less)

pub fits : (place : Place) (tree : Tree) (n : ℕ) → Deep place n (normal tree) → Fits n (said_at place tree)
fits place (t.anchor_hash slot value) n d = flat_fits n _ (flat_cert slot _ (flat _ refl refl))
fits place (t.legacy_info key value) n d = flat_fits n _ (flat _ refl refl)
fits place (t.both left right) n d = both_fits place n left right _ _ (fits beside_and left) (fits beside_and right) d
fits place (t.either left right) n d = either_fits place n left right _ _ (fits alone left) (fits alone right) d
fits place (t.negate inner) n d = deny_fits n inner _ (fits behind_bang inner) (depth_at place n _ refl refl d)
fits place (t.info_field key test) n d = flat_fits n _ (flat-append (word w.info ∷ []) _ (flat _ refl refl) (flat_keyed key test))
fits place (t.cert_field slot key test) n d = flat_fits n _ (flat_cert slot _ (flat_keyed key test))
fits place (t.trusted_cert slot) n d = flat_fits n _ (flat_cert slot _ (flat _ refl refl))
fits place (t.cert_oid slot oid test) n d = flat_fits n _ (flat_cert slot _ (flat_keyed _ test))
fits place (t.entitlement_field key test) n d = flat_fits n _ (flat-append (word w.entitlement ∷ []) _ (flat _ refl refl) (flat_keyed key test))
fits place (t.cert_policy slot oid test) n d = flat_fits n _ (flat_cert slot _ (flat_keyed _ test))
fits place (t.named_code name) n d = named_fits n name (depth_at place n _ refl refl d)
fits place (t.platform number) n d = flat_fits n _ (flat-append (word w.platform ∷ sign w.equal ∷ []) _ (flat _ refl refl) (flat_number number))
fits place (t.skip_next op skipped inner) n d = fits place inner n d
fits place t.never n d = flat_fits n _ (flat _ refl refl)
fits place t.always n d = flat_fits n _ (flat _ refl refl)
fits place (t.ident value) n d = flat_fits n _ (flat _ refl refl)
fits place t.apple_anchor n d = flat_fits n _ (flat _ refl refl)
fits place (t.cd_hash value) n d = flat_fits n _ (flat _ refl refl)
fits place t.trusted_any n d = flat_fits n _ (flat _ refl refl)
fits place t.apple_generic n d = flat_fits n _ (flat _ refl refl)
fits place (t.named_anchor name) n d = flat_fits n _ (flat _ refl refl)
fits place t.notarized n d = flat_fits n _ (flat _ refl refl)
fits place t.legacy_dev_id n d = flat_fits n _ (flat _ refl refl)
fits place (t.skip_false op skipped) n d = flat_fits n _ (flat _ refl refl)

-- a tree that is shallow in its normal form
pub shallow_fits : (tree : Tree) → IsShallow (normal tree) → Fits 256 (said tree)
shallow_fits tree h = fits alone tree 256 (operands_deep 256 (normal tree) h)

pub few_open : (tree : Tree) → IsShallow (normal tree) → HasFewOpen (said tree)
few_open tree h = (shallow_fits tree h).open_at
