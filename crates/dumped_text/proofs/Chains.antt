-- Chains of operands: how two are joined, and what their left nest is.
use Rattle.std.proofs.Common.{◌≡◌, false, List, [], ◌∷◌, ◌++◌, refl, sym, ap, subst, ◌∙◌, append_assoc}
use Rattle.std.specs.List.{fold}
use Rattle.req_tree.specs.Tree as t
use Rattle.req_tree.specs.Tree.{Tree}
use Rattle.req_tree.specs.Normal.{is_both, is_either, operands_of_both, operands_of_either, left_nest, normal}
use Rattle.req_grammar.specs.Words.{Word}
use Rattle.req_grammar.specs.Terminals.{Terminal, word}

-- pieces with an operator's word between them, and the trees that the pieces are read as
pub data Chain (Piece : List Terminal → Tree → Type 0) (op : Word) : List Terminal → List Tree → Type 0 where
  one : (a : List Terminal) (x : Tree) → Piece a x → Chain Piece op a (x ∷ [])
  more : (a b : List Terminal) (xs : List Tree) (y : Tree) → Chain Piece op a xs → Piece b y → Chain Piece op (a ++ word op ∷ b) (xs ++ y ∷ [])

-- a chain behind another
pub joined : (Piece : List Terminal → Tree → Type 0) (op : Word) (a b : List Terminal) (xs ys : List Tree) → Chain Piece op a xs → Chain Piece op b ys
    → Chain Piece op (a ++ word op ∷ b) (xs ++ ys)
joined Piece op a b xs ys front (one _ y piece) = more a b xs y front piece
joined Piece op a b xs ys front (more b' c ys' y back piece) =
    let whole : Chain Piece op ((a ++ word op ∷ b') ++ word op ∷ c) ((xs ++ ys') ++ y ∷ []) =
    more (a ++ word op ∷ b') c (xs ++ ys') y (joined Piece op a b' xs ys' front back) piece in
    let said : Chain Piece op (a ++ word op ∷ (b' ++ word op ∷ c)) ((xs ++ ys') ++ y ∷ []) =
    subst (λ l. Chain Piece op l ((xs ++ ys') ++ y ∷ [])) (append_assoc a (word op ∷ b') (word op ∷ c)) whole in
    subst (λ l. Chain Piece op (a ++ word op ∷ (b' ++ word op ∷ c)) l) (append_assoc xs ys' (y ∷ [])) said

-- there is at least one
abbrev pub HasSome : List Tree → Type 0
HasSome [] = ⊥
HasSome (x ∷ rest) = Unit {0}

HasSome-append : (xs ys : List Tree) → HasSome xs → HasSome (xs ++ ys)
HasSome-append [] ys h = absurd h
HasSome-append (x ∷ xs) ys h = tt

fold-last : (join : Tree → Tree → Tree) (x : Tree) (ys : List Tree) (y : Tree) → fold join x (ys ++ y ∷ []) ≡ join (fold join x ys) y
fold-last join x [] y = refl
fold-last join x (z ∷ ys) y = fold-last join (join x z) ys y

nest-last : (join : Tree → Tree → Tree) (xs : List Tree) (y : Tree) → HasSome xs → left_nest join (xs ++ y ∷ []) ≡ join (left_nest join xs) y
nest-last join [] y h = absurd h
nest-last join (x ∷ xs) y h = fold-last join x xs y

chain_some : (Piece : List Terminal → Tree → Type 0) (op : Word) (a : List Terminal) (xs : List Tree) → Chain Piece op a xs → HasSome xs
chain_some Piece op a xs (one _ x piece) = tt
chain_some Piece op a xs (more b c ys y back piece) = HasSome-append ys (y ∷ []) (chain_some Piece op b ys back)

-- what takes one operand after another takes the left nest of a chain
pub nested : (Whole Piece : List Terminal → Tree → Type 0) (op : Word) (join : Tree → Tree → Tree)
    → ((a : List Terminal) (x : Tree) → Piece a x → Whole a x)
    → ((a b : List Terminal) (x y : Tree) → Whole a x → Piece b y → Whole (a ++ word op ∷ b) (join x y))
    → (a : List Terminal) (xs : List Tree) → Chain Piece op a xs → Whole a (left_nest join xs)
nested Whole Piece op join first step a xs (one _ x piece) = first a x piece
nested Whole Piece op join first step a xs (more b c ys y back piece) =
    subst (Whole (b ++ word op ∷ c)) (sym (nest-last join ys y (chain_some Piece op b ys back)))
    (step b c (left_nest join ys) y (nested Whole Piece op join first step b ys back) piece)

-- each of them
abbrev pub Each : (Tree → Type 0) → List Tree → Type 0
Each P [] = Unit {0}
Each P (x ∷ rest) = P x × Each P rest

pub Each-append : (P : Tree → Type 0) (xs ys : List Tree) → Each P xs → Each P ys → Each P (xs ++ ys)
Each-append P [] ys h k = k
Each-append P (x ∷ xs) ys h k = (h.0, Each-append P xs ys h.1 k)

append-nil : (l : List Tree) → l ≡ l ++ []
append-nil [] = refl
append-nil (z ∷ l) = ap (λ r. z ∷ r) (append-nil l)

-- Both

abbrev pub NoBoth : Tree → Type 0
NoBoth x = is_both x ≡ false

pub each_not_both : (tree : Tree) → Each NoBoth (operands_of_both tree)
each_not_both (t.both left right) = Each-append NoBoth _ _ (each_not_both left) (each_not_both right)
each_not_both tree = (refl, tt)

pub some_of_both : (tree : Tree) → HasSome (operands_of_both tree)
some_of_both (t.both left right) = HasSome-append _ _ (some_of_both left)
some_of_both tree = tt

pub own_both : (tree : Tree) → is_both tree ≡ false → operands_of_both tree ≡ tree ∷ []
own_both (t.both left right) h = cc
own_both tree h = refl

of_fold_both : (x : Tree) (ys : List Tree) → Each NoBoth ys → operands_of_both (fold t.both x ys) ≡ operands_of_both x ++ ys
of_fold_both x [] h = append-nil (operands_of_both x)
of_fold_both x (y ∷ ys) h =
    of_fold_both (t.both x y) ys h.1
    ∙ append_assoc (operands_of_both x) (operands_of_both y) ys
    ∙ ap (λ l. operands_of_both x ++ (l ++ ys)) (own_both y h.0)

of_nest_both : (xs : List Tree) → HasSome xs → Each NoBoth xs → operands_of_both (left_nest t.both xs) ≡ xs
of_nest_both [] h k = absurd h
of_nest_both (x ∷ xs) h k = of_fold_both x xs k.1 ∙ ap (λ l. l ++ xs) (own_both x k.0)

-- the operands of the normal form of two trees are those of their normal forms
pub operands_both : (left right : Tree) → operands_of_both (normal (t.both left right)) ≡ operands_of_both (normal left) ++ operands_of_both (normal right)
operands_both left right =
    of_nest_both (operands_of_both (normal left) ++ operands_of_both (normal right))
    (HasSome-append _ _ (some_of_both (normal left)))
    (Each-append NoBoth _ _ (each_not_both (normal left)) (each_not_both (normal right)))

fold_no_either : (x : Tree) (ys : List Tree) → is_either x ≡ false → is_either (fold t.both x ys) ≡ false
fold_no_either x [] h = h
fold_no_either x (y ∷ ys) h = fold_no_either (t.both x y) ys refl

nest_no_either : (xs ys : List Tree) → HasSome xs → HasSome ys → is_either (left_nest t.both (xs ++ ys)) ≡ false
nest_no_either [] ys h k = absurd h
nest_no_either (x ∷ []) [] h k = absurd k
nest_no_either (x ∷ []) (y ∷ ys) h k = fold_no_either (t.both x y) ys refl
nest_no_either (x ∷ z ∷ xs) ys h k = fold_no_either (t.both x z) (xs ++ ys) refl

pub both_is_no_either : (left right : Tree) → is_either (normal (t.both left right)) ≡ false
both_is_no_either left right = nest_no_either _ _ (some_of_both (normal left)) (some_of_both (normal right))

-- Either

abbrev pub NoEither : Tree → Type 0
NoEither x = is_either x ≡ false

pub each_not_either : (tree : Tree) → Each NoEither (operands_of_either tree)
each_not_either (t.either left right) = Each-append NoEither _ _ (each_not_either left) (each_not_either right)
each_not_either tree = (refl, tt)

pub some_of_either : (tree : Tree) → HasSome (operands_of_either tree)
some_of_either (t.either left right) = HasSome-append _ _ (some_of_either left)
some_of_either tree = tt

pub own_either : (tree : Tree) → is_either tree ≡ false → operands_of_either tree ≡ tree ∷ []
own_either (t.either left right) h = cc
own_either tree h = refl

of_fold_either : (x : Tree) (ys : List Tree) → Each NoEither ys → operands_of_either (fold t.either x ys) ≡ operands_of_either x ++ ys
of_fold_either x [] h = append-nil (operands_of_either x)
of_fold_either x (y ∷ ys) h =
    of_fold_either (t.either x y) ys h.1
    ∙ append_assoc (operands_of_either x) (operands_of_either y) ys
    ∙ ap (λ l. operands_of_either x ++ (l ++ ys)) (own_either y h.0)

of_nest_either : (xs : List Tree) → HasSome xs → Each NoEither xs → operands_of_either (left_nest t.either xs) ≡ xs
of_nest_either [] h k = absurd h
of_nest_either (x ∷ xs) h k = of_fold_either x xs k.1 ∙ ap (λ l. l ++ xs) (own_either x k.0)

pub operands_either : (left right : Tree) → operands_of_either (normal (t.either left right)) ≡ operands_of_either (normal left) ++ operands_of_either (normal right)
operands_either left right =
    of_nest_either (operands_of_either (normal left) ++ operands_of_either (normal right))
    (HasSome-append _ _ (some_of_either (normal left)))
    (Each-append NoEither _ _ (each_not_either (normal left)) (each_not_either (normal right)))

fold_no_both : (x : Tree) (ys : List Tree) → is_both x ≡ false → is_both (fold t.either x ys) ≡ false
fold_no_both x [] h = h
fold_no_both x (y ∷ ys) h = fold_no_both (t.either x y) ys refl

nest_no_both : (xs ys : List Tree) → HasSome xs → HasSome ys → is_both (left_nest t.either (xs ++ ys)) ≡ false
nest_no_both [] ys h k = absurd h
nest_no_both (x ∷ []) [] h k = absurd k
nest_no_both (x ∷ []) (y ∷ ys) h k = fold_no_both (t.either x y) ys refl
nest_no_both (x ∷ z ∷ xs) ys h k = fold_no_both (t.either x z) (xs ++ ys) refl

pub either_is_no_both : (left right : Tree) → is_both (normal (t.either left right)) ≡ false
either_is_no_both left right = nest_no_both _ _ (some_of_either (normal left)) (some_of_either (normal right))
