-- The normal form is spoken, means what its tree means, and is the tree itself where that is spoken.
use Rattle.std.proofs.Common.{◌≡◌, Bool, true, false, ◌&&◌, ◌||◌, not, List, [], ◌∷◌, ◌++◌, refl, sym, ap, subst, ◌∙◌}
use Rattle.std.specs.List.{fold}
use Rattle.req_tree.specs.Tree as t
use Rattle.req_tree.specs.Tree.{Tree}
use Rattle.req_tree.specs.Subject.{Subject}
use Rattle.req_tree.specs.Facts.{Known}
use Rattle.req_tree.specs.Meaning.{means}
use Rattle.req_tree.specs.Normal.{IsSpoken, is_both, is_either, operands_of_both, operands_of_either, left_nest, normal}

-- a spoken operand of a chain of Both
abbrev pub IsBothOperand : Tree → Type 0
IsBothOperand tree = IsSpoken tree × (is_both tree ≡ false)

-- a spoken operand of a chain of Either
abbrev pub IsEitherOperand : Tree → Type 0
IsEitherOperand tree = IsSpoken tree × (is_either tree ≡ false)

abbrev pub Each : (Tree → Type 0) → List Tree → Type 0
Each P [] = Unit {0}
Each P (x ∷ rest) = P x × Each P rest

pub Each-append : (P : Tree → Type 0) (xs ys : List Tree) → Each P xs → Each P ys → Each P (xs ++ ys)
Each-append P [] ys h k = k
Each-append P (x ∷ xs) ys h k = (h.0, Each-append P xs ys h.1 k)

-- the operands of a spoken tree are spoken, and none is Both itself
operands_both_fit : (tree : Tree) → IsSpoken tree → Each IsBothOperand (operands_of_both tree)
operands_both_fit (t.both left right) h = Each-append IsBothOperand _ _ (operands_both_fit left h.0) (operands_both_fit right h.1)
operands_both_fit tree h = ((h, refl), tt)

-- a spoken tree and more operands nest to a spoken tree
nest_both_spoken : (tree : Tree) (rest : List Tree) → IsSpoken tree → Each IsBothOperand rest → IsSpoken (fold t.both tree rest)
nest_both_spoken tree [] h k = h
nest_both_spoken tree (x ∷ rest) h k = nest_both_spoken (t.both tree x) rest (h, k.0.0, k.0.1) k.1

chain_both_spoken : (trees : List Tree) → Each IsBothOperand trees → IsSpoken (left_nest t.both trees)
chain_both_spoken [] k = tt
chain_both_spoken (x ∷ rest) k = nest_both_spoken x rest k.0.0 k.1

-- the operands of a spoken tree are spoken, and none is Either itself
operands_either_fit : (tree : Tree) → IsSpoken tree → Each IsEitherOperand (operands_of_either tree)
operands_either_fit (t.either left right) h = Each-append IsEitherOperand _ _ (operands_either_fit left h.0) (operands_either_fit right h.1)
operands_either_fit tree h = ((h, refl), tt)

-- a spoken tree and more operands nest to a spoken tree
nest_either_spoken : (tree : Tree) (rest : List Tree) → IsSpoken tree → Each IsEitherOperand rest → IsSpoken (fold t.either tree rest)
nest_either_spoken tree [] h k = h
nest_either_spoken tree (x ∷ rest) h k = nest_either_spoken (t.either tree x) rest (h, k.0.0, k.0.1) k.1

chain_either_spoken : (trees : List Tree) → Each IsEitherOperand trees → IsSpoken (left_nest t.either trees)
chain_either_spoken [] k = tt
chain_either_spoken (x ∷ rest) k = nest_either_spoken x rest k.0.0 k.1

-- a normal form is spoken
pub normal_spoken : (tree : Tree) → IsSpoken (normal tree)
normal_spoken (t.both left right) =
    chain_both_spoken _ (Each-append IsBothOperand _ _ (operands_both_fit (normal left) (normal_spoken left)) (operands_both_fit (normal right) (normal_spoken right)))
normal_spoken (t.either left right) =
    chain_either_spoken _ (Each-append IsEitherOperand _ _ (operands_either_fit (normal left) (normal_spoken left)) (operands_either_fit (normal right) (normal_spoken right)))
normal_spoken (t.negate inner) = normal_spoken inner
normal_spoken (t.legacy_info key value) = tt
normal_spoken (t.skip_false op skipped) = tt
normal_spoken (t.skip_next op skipped inner) = normal_spoken inner
normal_spoken tree = tt

and_assoc : (a b c : Bool) → (a && b && c) ≡ (a && (b && c))
and_assoc true b c = refl
and_assoc false b c = refl

and_true : (a : Bool) → (a && true) ≡ a
and_true true = refl
and_true false = refl

or_assoc : (a b c : Bool) → (a || b || c) ≡ (a || (b || c))
or_assoc true b c = refl
or_assoc false b c = refl

or_false : (a : Bool) → (a || false) ≡ a
or_false true = refl
or_false false = refl

-- there is at least one
abbrev pub HasSome : List Tree → Type 0
HasSome [] = ⊥
HasSome (x ∷ rest) = Unit {0}

HasSome-append : (xs ys : List Tree) → HasSome xs → HasSome (xs ++ ys)
HasSome-append [] ys h = absurd h
HasSome-append (x ∷ xs) ys h = tt

-- what operands of Both mean together
abbrev pub all_mean : List Tree → Subject → Known → Bool
all_mean [] s k = true
all_mean (x ∷ rest) s k = means x s k && all_mean rest s k

all_mean-append : (xs ys : List Tree) (s : Subject) (k : Known) → all_mean (xs ++ ys) s k ≡ (all_mean xs s k && all_mean ys s k)
all_mean-append [] ys s k = refl
all_mean-append (x ∷ xs) ys s k = ap (λ b. means x s k && b) (all_mean-append xs ys s k) ∙ sym (and_assoc (means x s k) (all_mean xs s k) (all_mean ys s k))

operands_both_mean : (tree : Tree) (s : Subject) (k : Known) → all_mean (operands_of_both tree) s k ≡ means tree s k
operands_both_mean (t.both left right) s k =
    all_mean-append (operands_of_both left) (operands_of_both right) s k
    ∙ ap (λ b. b && all_mean (operands_of_both right) s k) (operands_both_mean left s k)
    ∙ ap (λ b. means left s k && b) (operands_both_mean right s k)
operands_both_mean tree s k = and_true (means tree s k)

nest_both_mean : (tree : Tree) (rest : List Tree) (s : Subject) (k : Known) → means (fold t.both tree rest) s k ≡ (means tree s k && all_mean rest s k)
nest_both_mean tree [] s k = sym (and_true (means tree s k))
nest_both_mean tree (x ∷ rest) s k = nest_both_mean (t.both tree x) rest s k ∙ and_assoc (means tree s k) (means x s k) (all_mean rest s k)

-- operands before others, nested to the left
nested_both_mean : (xs : List Tree) (ys : List Tree) (s : Subject) (k : Known) → HasSome xs → means (left_nest t.both (xs ++ ys)) s k ≡ (all_mean xs s k && all_mean ys s k)
nested_both_mean [] ys s k h = absurd h
nested_both_mean (x ∷ xs) ys s k h = nest_both_mean x (xs ++ ys) s k ∙ ap (λ b. means x s k && b) (all_mean-append xs ys s k) ∙ sym (and_assoc (means x s k) (all_mean xs s k) (all_mean ys s k))

some_operand_both : (tree : Tree) → HasSome (operands_of_both tree)
some_operand_both (t.both left right) = HasSome-append (operands_of_both left) (operands_of_both right) (some_operand_both left)
some_operand_both tree = tt

-- the operands of two trees, nested to the left
pair_both_mean : (left right : Tree) (s : Subject) (k : Known)
    → means (left_nest t.both (operands_of_both left ++ operands_of_both right)) s k ≡ (means left s k && means right s k)
pair_both_mean left right s k =
    nested_both_mean (operands_of_both left) (operands_of_both right) s k (some_operand_both left)
    ∙ ap (λ b. b && all_mean (operands_of_both right) s k) (operands_both_mean left s k)
    ∙ ap (λ b. means left s k && b) (operands_both_mean right s k)

-- what operands of Either mean together
abbrev pub some_mean : List Tree → Subject → Known → Bool
some_mean [] s k = false
some_mean (x ∷ rest) s k = means x s k || some_mean rest s k

some_mean-append : (xs ys : List Tree) (s : Subject) (k : Known) → some_mean (xs ++ ys) s k ≡ (some_mean xs s k || some_mean ys s k)
some_mean-append [] ys s k = refl
some_mean-append (x ∷ xs) ys s k = ap (λ b. means x s k || b) (some_mean-append xs ys s k) ∙ sym (or_assoc (means x s k) (some_mean xs s k) (some_mean ys s k))

operands_either_mean : (tree : Tree) (s : Subject) (k : Known) → some_mean (operands_of_either tree) s k ≡ means tree s k
operands_either_mean (t.either left right) s k =
    some_mean-append (operands_of_either left) (operands_of_either right) s k
    ∙ ap (λ b. b || some_mean (operands_of_either right) s k) (operands_either_mean left s k)
    ∙ ap (λ b. means left s k || b) (operands_either_mean right s k)
operands_either_mean tree s k = or_false (means tree s k)

nest_either_mean : (tree : Tree) (rest : List Tree) (s : Subject) (k : Known) → means (fold t.either tree rest) s k ≡ (means tree s k || some_mean rest s k)
nest_either_mean tree [] s k = sym (or_false (means tree s k))
nest_either_mean tree (x ∷ rest) s k = nest_either_mean (t.either tree x) rest s k ∙ or_assoc (means tree s k) (means x s k) (some_mean rest s k)

-- operands before others, nested to the left
nested_either_mean : (xs : List Tree) (ys : List Tree) (s : Subject) (k : Known) → HasSome xs → means (left_nest t.either (xs ++ ys)) s k ≡ (some_mean xs s k || some_mean ys s k)
nested_either_mean [] ys s k h = absurd h
nested_either_mean (x ∷ xs) ys s k h = nest_either_mean x (xs ++ ys) s k ∙ ap (λ b. means x s k || b) (some_mean-append xs ys s k) ∙ sym (or_assoc (means x s k) (some_mean xs s k) (some_mean ys s k))

some_operand_either : (tree : Tree) → HasSome (operands_of_either tree)
some_operand_either (t.either left right) = HasSome-append (operands_of_either left) (operands_of_either right) (some_operand_either left)
some_operand_either tree = tt

-- the operands of two trees, nested to the left
pair_either_mean : (left right : Tree) (s : Subject) (k : Known)
    → means (left_nest t.either (operands_of_either left ++ operands_of_either right)) s k ≡ (means left s k || means right s k)
pair_either_mean left right s k =
    nested_either_mean (operands_of_either left) (operands_of_either right) s k (some_operand_either left)
    ∙ ap (λ b. b || some_mean (operands_of_either right) s k) (operands_either_mean left s k)
    ∙ ap (λ b. means left s k || b) (operands_either_mean right s k)

-- a normal form means what its tree means
pub normal_means : (tree : Tree) (s : Subject) (k : Known) → means (normal tree) s k ≡ means tree s k
normal_means (t.both left right) s k =
    pair_both_mean (normal left) (normal right) s k
    ∙ ap (λ b. b && means (normal right) s k) (normal_means left s k)
    ∙ ap (λ b. means left s k && b) (normal_means right s k)
normal_means (t.either left right) s k =
    pair_either_mean (normal left) (normal right) s k
    ∙ ap (λ b. b || means (normal right) s k) (normal_means left s k)
    ∙ ap (λ b. means left s k || b) (normal_means right s k)
normal_means (t.negate inner) s k = ap not (normal_means inner s k)
normal_means (t.legacy_info key value) s k = refl
normal_means (t.skip_false op skipped) s k = refl
normal_means (t.skip_next op skipped inner) s k = normal_means inner s k
normal_means tree s k = refl

-- a tree that isn't Both is its own operand
own_operand_both : (tree : Tree) → is_both tree ≡ false → operands_of_both tree ≡ tree ∷ []
own_operand_both (t.both left right) h = cc
own_operand_both tree h = refl

-- operands behind operands join what those before them made
fold-append : (join : Tree → Tree → Tree) (x : Tree) (xs ys : List Tree) → fold join x (xs ++ ys) ≡ fold join (fold join x xs) ys
fold-append join x [] ys = refl
fold-append join x (z ∷ xs) ys = fold-append join (join x z) xs ys

nest-append : (join : Tree → Tree → Tree) (xs ys : List Tree) → HasSome xs → left_nest join (xs ++ ys) ≡ fold join (left_nest join xs) ys
nest-append join [] ys h = absurd h
nest-append join (x ∷ xs) ys h = fold-append join x xs ys

-- a spoken tree is the left nest of its operands
again_both : (tree : Tree) → IsSpoken tree → left_nest t.both (operands_of_both tree) ≡ tree
again_both (t.both left right) h =
    ap (λ ys. left_nest t.both (operands_of_both left ++ ys)) (own_operand_both right h.2)
    ∙ nest-append t.both (operands_of_both left) (right ∷ []) (some_operand_both left)
    ∙ ap (λ (x : Tree). t.both x right) (again_both left h.0)
again_both tree h = refl

-- a tree that isn't Either is its own operand
own_operand_either : (tree : Tree) → is_either tree ≡ false → operands_of_either tree ≡ tree ∷ []
own_operand_either (t.either left right) h = cc
own_operand_either tree h = refl

-- a spoken tree is the left nest of its operands
again_either : (tree : Tree) → IsSpoken tree → left_nest t.either (operands_of_either tree) ≡ tree
again_either (t.either left right) h =
    ap (λ ys. left_nest t.either (operands_of_either left ++ ys)) (own_operand_either right h.2)
    ∙ nest-append t.either (operands_of_either left) (right ∷ []) (some_operand_either left)
    ∙ ap (λ (x : Tree). t.either x right) (again_either left h.0)
again_either tree h = refl

-- a spoken tree is its normal form
pub normal_again : (tree : Tree) → IsSpoken tree → normal tree ≡ tree
normal_again (t.both left right) h =
    ap (λ (x : Tree). left_nest t.both (operands_of_both x ++ operands_of_both (normal right))) (normal_again left h.0)
    ∙ ap (λ (y : Tree). left_nest t.both (operands_of_both left ++ operands_of_both y)) (normal_again right h.1)
    ∙ again_both (t.both left right) h
normal_again (t.either left right) h =
    ap (λ (x : Tree). left_nest t.either (operands_of_either x ++ operands_of_either (normal right))) (normal_again left h.0)
    ∙ ap (λ (y : Tree). left_nest t.either (operands_of_either left ++ operands_of_either y)) (normal_again right h.1)
    ∙ again_either (t.either left right) h
normal_again (t.negate inner) h = ap t.negate (normal_again inner h)
normal_again (t.legacy_info key value) h = absurd h
normal_again (t.skip_false op skipped) h = absurd h
normal_again (t.skip_next op skipped inner) h = absurd h
normal_again tree h = refl
