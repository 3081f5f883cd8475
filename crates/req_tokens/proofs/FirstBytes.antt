-- What the sort of a text's front says of the first bytes.
use Rattle.std.proofs.Common.{◌≡◌, ℕ, Bool, true, false, ◌||◌, nat_eq, List, [], ◌++◌, length, drop, codes, refl, subst}
use Rattle.std.specs.List.{starts_with}
use Rattle.std.proofs.lemmas.Bool.Decides.{Decides-eqb}
use Rattle.std.proofs.lemmas.Slice.Eq.{starts_is}
use Rattle.req_tree.specs.NumericOrder.{is_digit}
use Rattle.req_grammar.specs.Tokens.{goes_on, hash_mark, hex_mark, is_letter}
use Rattle.req_grammar.specs.Sorts as s
use Rattle.req_grammar.specs.Sorts.{Sort, is_blank, pick, sort_of}

abbrev Known : Sort → Bool → Bool → Bool → Bool → Bool → Bool → Bool → Bool → Type 0
Known s.hash a b c d e f g h = a ≡ true
Known s.hex a b c d e f g h = b ≡ true
Known s.integer a b c d e f g h = (a ≡ false) × (b ≡ false) × (c ≡ true)
Known s.word a b c d e f g h = (a ≡ false) × (c ≡ false) × (d ≡ true)
Known s.quoted a b c d e f g h = (a ≡ false) × (c ≡ false) × (e ≡ true)
Known s.symbol a b c d e f g h = (a ≡ false) × (c ≡ false) × (d ≡ false) × (e ≡ false) × (f ≡ false) × (g ≡ false) × (h ≡ false)
Known s.blank a b c d e f g h = f ≡ true
Known s.block a b c d e f g h = g ≡ true
Known s.line a b c d e f g h = h ≡ true

picked : (a b c d e f g h : Bool) → Known (pick a b c d e f g h) a b c d e f g h
picked true b c d e f g h = refl
picked false true c d e f g h = refl
picked false false true d e f g h = (refl, refl, refl)
picked false false false true e f g h = (refl, refl, refl)
picked false false false false true f g h = (refl, refl, refl)
picked false false false false false true g h = refl
picked false false false false false false true h = refl
picked false false false false false false false true = refl
picked false false false false false false false false = (refl, refl, refl, refl, refl, refl, refl)

-- the tests on the first bytes of a text whose front is of a sort
abbrev pub IsKnown : Sort → List ℕ → Type 0
IsKnown sort text =
    Known sort (starts_with nat_eq text hash_mark) (starts_with nat_eq text hex_mark) (goes_on is_digit text) (goes_on is_letter text)
    (goes_on (λ b. nat_eq 34 b) text) (goes_on is_blank text) (starts_with nat_eq text (codes "/*")) (starts_with nat_eq text (codes "//") || starts_with nat_eq text (codes "#"))

pub known : (sort : Sort) (text : List ℕ) → sort_of text ≡ sort → IsKnown sort text
unfolding sort_of
known sort text is =
    subst (λ (u : Sort). IsKnown u text) is
    (picked (starts_with nat_eq text hash_mark) (starts_with nat_eq text hex_mark) (goes_on is_digit text) (goes_on is_letter text) (goes_on (λ b. nat_eq 34 b) text) (goes_on is_blank text)
    (starts_with nat_eq text (codes "/*")) (starts_with nat_eq text (codes "//") || starts_with nat_eq text (codes "#")))

pub sort_of-nil : sort_of [] ≡ s.symbol
unfolding sort_of
sort_of-nil = refl

-- a text that starts with a mark is the mark and what follows
pub starts : (mark text : List ℕ) → starts_with nat_eq text mark ≡ true → text ≡ mark ++ drop (length mark) text
starts mark text e = (starts_is Decides-eqb text mark (starts_with nat_eq text mark) refl).0 e
