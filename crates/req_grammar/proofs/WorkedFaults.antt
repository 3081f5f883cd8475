-- Worked faults: lists of terminals that no tree, no shape or no set has, where they stop, and the first bad key
-- or repeated kind.
use Rattle.std.proofs.Common.{◌≡◌, ℕ, Bool, true, false, ◌==◌, not, List, [], ◌∷◌, drop, get_or, decimal, codes, refl, sym, ap, subst, ◌∙◌, true≢false, arith}
use Rattle.std.specs.List.{list_all}
use Rattle.req_tree.specs.Tree.{Tree}
use Rattle.req_tree.specs.TreeSet.{TreeSet}
use Rattle.req_tree.specs.Oid.{IsOidText, dotted}
use Rattle.req_grammar.specs.Words as w
use Rattle.req_grammar.specs.Terminals.{Terminal, sign, word, str, hash, int}
use Rattle.req_grammar.specs.Grammar as g
use Rattle.req_grammar.specs.Readings.{Reads, ReadsSet, Shape, ShapeSet, IsViable, extension, policy, field}
use Rattle.req_grammar.specs.Reader.{has_shape, factor_at, chain_from}
use Rattle.req_grammar.specs.ReadingFaults.{IsBadKey, IsCertKey, IsRepeated}
use Rattle.req_grammar.proofs.Cuts.{all_behind}
use Rattle.req_grammar.proofs.Sound.{has_shape-sound, has_shape-complete}
use Rattle.req_grammar.proofs.NoBadKey.{expr_none_bad}
use Rattle.req_grammar.proofs.KindWords.{set_no_repeat}

-- what the reader doesn't read whole has no shape
pub refuses : (a : List Terminal) → has_shape a ≡ false → Shape a → ⊥
refuses a e s = true≢false (sym (has_shape-complete a s) ∙ e)

-- ---- where a list stops: its front goes on, and no longer front does

-- no terminals: it ends too early, at token 0
nothing : Shape [] → ⊥
unfolding factor_at chain_from
nothing s = refuses [] refl s

nothing_goes_on : IsViable []
unfolding factor_at chain_from
nothing_goes_on = (word w.always ∷ [], has_shape-sound (word w.always ∷ []) refl)

-- identifier and: token 1
identifier_and_goes_on : IsViable (word w.identifier ∷ [])
unfolding factor_at chain_from
identifier_and_goes_on = ((str (codes "x") ∷ []), has_shape-sound (word w.identifier ∷ str (codes "x") ∷ []) refl)

identifier_and : IsViable (word w.identifier ∷ word w.and ∷ []) → ⊥
unfolding factor_at chain_from
identifier_and v = refuses (word w.identifier ∷ word w.and ∷ v.0) refl v.1

-- always or: token 2
always_or_goes_on : IsViable (word w.always ∷ word w.or ∷ [])
unfolding factor_at chain_from
always_or_goes_on = ((word w.always ∷ []), has_shape-sound (word w.always ∷ word w.or ∷ word w.always ∷ []) refl)

always_or : Shape (word w.always ∷ word w.or ∷ []) → ⊥
unfolding factor_at chain_from
always_or s = refuses (word w.always ∷ word w.or ∷ []) refl s

-- anchor apple trusted: token 2
anchor_apple_trusted_goes_on : IsViable (word w.anchor ∷ word w.apple ∷ [])
unfolding factor_at chain_from
anchor_apple_trusted_goes_on = (([]), has_shape-sound (word w.anchor ∷ word w.apple ∷ []) refl)

anchor_apple_trusted : IsViable (word w.anchor ∷ word w.apple ∷ word w.trusted ∷ []) → ⊥
unfolding factor_at chain_from
anchor_apple_trusted v = refuses (word w.anchor ∷ word w.apple ∷ word w.trusted ∷ v.0) refl v.1

-- certificate leaf: token 2
certificate_leaf_goes_on : IsViable (word w.certificate ∷ word w.leaf ∷ [])
unfolding factor_at chain_from
certificate_leaf_goes_on = ((word w.trusted ∷ []), has_shape-sound (word w.certificate ∷ word w.leaf ∷ word w.trusted ∷ []) refl)

certificate_leaf : Shape (word w.certificate ∷ word w.leaf ∷ []) → ⊥
unfolding factor_at chain_from
certificate_leaf s = refuses (word w.certificate ∷ word w.leaf ∷ []) refl s

-- ! ( always: token 3
open_paren_goes_on : IsViable (sign w.bang ∷ sign w.left_paren ∷ word w.always ∷ [])
unfolding factor_at chain_from
open_paren_goes_on = ((sign w.right_paren ∷ []), has_shape-sound (sign w.bang ∷ sign w.left_paren ∷ word w.always ∷ sign w.right_paren ∷ []) refl)

open_paren : Shape (sign w.bang ∷ sign w.left_paren ∷ word w.always ∷ []) → ⊥
unfolding factor_at chain_from
open_paren s = refuses (sign w.bang ∷ sign w.left_paren ∷ word w.always ∷ []) refl s

-- info[Version] <: token 5
version_below_goes_on : IsViable (word w.info ∷ sign w.left_bracket ∷ str (codes "Version") ∷ sign w.right_bracket ∷ sign w.less ∷ [])
unfolding factor_at chain_from
version_below_goes_on = ((str (codes "1") ∷ []), has_shape-sound (word w.info ∷ sign w.left_bracket ∷ str (codes "Version") ∷ sign w.right_bracket ∷ sign w.less ∷ str (codes "1") ∷ []) refl)

version_below : Shape (word w.info ∷ sign w.left_bracket ∷ str (codes "Version") ∷ sign w.right_bracket ∷ sign w.less ∷ []) → ⊥
unfolding factor_at chain_from
version_below s = refuses (word w.info ∷ sign w.left_bracket ∷ str (codes "Version") ∷ sign w.right_bracket ∷ sign w.less ∷ []) refl s

-- always ): token 1
always_close_goes_on : IsViable (word w.always ∷ [])
unfolding factor_at chain_from
always_close_goes_on = (([]), has_shape-sound (word w.always ∷ []) refl)

always_close : IsViable (word w.always ∷ sign w.right_paren ∷ []) → ⊥
unfolding factor_at chain_from
always_close v = refuses (word w.always ∷ sign w.right_paren ∷ v.0) refl v.1

-- (a and b): token 2
and_in_parens_goes_on : IsViable (sign w.left_paren ∷ str (codes "a") ∷ [])
unfolding factor_at chain_from
and_in_parens_goes_on = ((sign w.right_paren ∷ []), has_shape-sound (sign w.left_paren ∷ str (codes "a") ∷ sign w.right_paren ∷ []) refl)

and_in_parens : IsViable (sign w.left_paren ∷ str (codes "a") ∷ word w.and ∷ []) → ⊥
unfolding factor_at chain_from
and_in_parens v = refuses (sign w.left_paren ∷ str (codes "a") ∷ word w.and ∷ v.0) refl v.1

-- platform = 2147483648: token 2
platform_too_large_goes_on : IsViable (word w.platform ∷ sign w.equal ∷ [])
unfolding factor_at chain_from
platform_too_large_goes_on = ((int 1 ∷ []), has_shape-sound (word w.platform ∷ sign w.equal ∷ int 1 ∷ []) refl)

platform_too_large : IsViable (word w.platform ∷ sign w.equal ∷ int 2147483648 ∷ []) → ⊥
unfolding factor_at chain_from
platform_too_large v = refuses (word w.platform ∷ sign w.equal ∷ int 2147483648 ∷ v.0) refl v.1

-- com.example: token 0
com_example_goes_on : IsViable ([])
unfolding factor_at chain_from
com_example_goes_on = ((word w.always ∷ []), has_shape-sound (word w.always ∷ []) refl)

com_example : IsViable (str (codes "com.example") ∷ []) → ⊥
unfolding factor_at chain_from
com_example v = refuses (str (codes "com.example") ∷ v.0) refl v.1

-- certificate leaf[field.1] ): token 5
bad_key_and_paren_goes_on : IsViable (word w.certificate ∷ word w.leaf ∷ sign w.left_bracket ∷ str (codes "field.1") ∷ sign w.right_bracket ∷ [])
unfolding factor_at chain_from
bad_key_and_paren_goes_on = (([]), has_shape-sound (word w.certificate ∷ word w.leaf ∷ sign w.left_bracket ∷ str (codes "field.1") ∷ sign w.right_bracket ∷ []) refl)

bad_key_and_paren : IsViable (word w.certificate ∷ word w.leaf ∷ sign w.left_bracket ∷ str (codes "field.1") ∷ sign w.right_bracket ∷ sign w.right_paren ∷ []) → ⊥
unfolding factor_at chain_from
bad_key_and_paren v = refuses (word w.certificate ∷ word w.leaf ∷ sign w.left_bracket ∷ str (codes "field.1") ∷ sign w.right_bracket ∷ sign w.right_paren ∷ v.0) refl v.1

-- cdhash "/path": token 1
hash_by_path_goes_on : IsViable (word w.cdhash ∷ [])
unfolding factor_at chain_from
hash_by_path_goes_on = ((hash (1 ∷ 35 ∷ 69 ∷ 103 ∷ 137 ∷ 171 ∷ 205 ∷ 239 ∷ 1 ∷ 35 ∷ 69 ∷ 103 ∷ 137 ∷ 171 ∷ 205 ∷ 239 ∷ 1 ∷ 35 ∷ 69 ∷ 103 ∷ []) ∷ []), has_shape-sound (word w.cdhash ∷ hash (1 ∷ 35 ∷ 69 ∷ 103 ∷ 137 ∷ 171 ∷ 205 ∷ 239 ∷ 1 ∷ 35 ∷ 69 ∷ 103 ∷ 137 ∷ 171 ∷ 205 ∷ 239 ∷ 1 ∷ 35 ∷ 69 ∷ 103 ∷ []) ∷ []) refl)

hash_by_path : IsViable (word w.cdhash ∷ str (codes "/path") ∷ []) → ⊥
unfolding factor_at chain_from
hash_by_path v = refuses (word w.cdhash ∷ str (codes "/path") ∷ v.0) refl v.1

-- info[k] = * * x: token 6
two_stars_goes_on : IsViable (word w.info ∷ sign w.left_bracket ∷ str (codes "k") ∷ sign w.right_bracket ∷ sign w.equal ∷ sign w.star ∷ [])
unfolding factor_at chain_from
two_stars_goes_on = ((str (codes "x") ∷ []), has_shape-sound (word w.info ∷ sign w.left_bracket ∷ str (codes "k") ∷ sign w.right_bracket ∷ sign w.equal ∷ sign w.star ∷ str (codes "x") ∷ []) refl)

two_stars : IsViable (word w.info ∷ sign w.left_bracket ∷ str (codes "k") ∷ sign w.right_bracket ∷ sign w.equal ∷ sign w.star ∷ sign w.star ∷ []) → ⊥
unfolding factor_at chain_from
two_stars v = refuses (word w.info ∷ sign w.left_bracket ∷ str (codes "k") ∷ sign w.right_bracket ∷ sign w.equal ∷ sign w.star ∷ sign w.star ∷ v.0) refl v.1

-- always never: token 1
two_words_goes_on : IsViable (word w.always ∷ [])
unfolding factor_at chain_from
two_words_goes_on = (([]), has_shape-sound (word w.always ∷ []) refl)

two_words : IsViable (word w.always ∷ word w.never ∷ []) → ⊥
unfolding factor_at chain_from
two_words v = refuses (word w.always ∷ word w.never ∷ v.0) refl v.1

-- certificate 2147483648 trusted: token 1
cert_slot_number_goes_on : IsViable (word w.certificate ∷ [])
unfolding factor_at chain_from
cert_slot_number_goes_on = ((int 0 ∷ word w.trusted ∷ []), has_shape-sound (word w.certificate ∷ int 0 ∷ word w.trusted ∷ []) refl)

cert_slot_number : IsViable (word w.certificate ∷ int 2147483648 ∷ []) → ⊥
unfolding factor_at chain_from
cert_slot_number v = refuses (word w.certificate ∷ int 2147483648 ∷ v.0) refl v.1

-- !: token 1
not_alone_goes_on : IsViable (sign w.bang ∷ [])
unfolding factor_at chain_from
not_alone_goes_on = ((word w.always ∷ []), has_shape-sound (sign w.bang ∷ word w.always ∷ []) refl)

not_alone : Shape (sign w.bang ∷ []) → ⊥
unfolding factor_at chain_from
not_alone s = refuses (sign w.bang ∷ []) refl s

-- ( ): token 1
empty_parens_goes_on : IsViable (sign w.left_paren ∷ [])
unfolding factor_at chain_from
empty_parens_goes_on = ((word w.always ∷ sign w.right_paren ∷ []), has_shape-sound (sign w.left_paren ∷ word w.always ∷ sign w.right_paren ∷ []) refl)

empty_parens : IsViable (sign w.left_paren ∷ sign w.right_paren ∷ []) → ⊥
unfolding factor_at chain_from
empty_parens v = refuses (sign w.left_paren ∷ sign w.right_paren ∷ v.0) refl v.1

-- [k]: token 0
bracket_first_goes_on : IsViable ([])
unfolding factor_at chain_from
bracket_first_goes_on = ((word w.always ∷ []), has_shape-sound (word w.always ∷ []) refl)

bracket_first : IsViable (sign w.left_bracket ∷ []) → ⊥
unfolding factor_at chain_from
bracket_first v = refuses (sign w.left_bracket ∷ v.0) refl v.1

-- anchor trusted = x: token 2
trusted_equal_goes_on : IsViable (word w.anchor ∷ word w.trusted ∷ [])
unfolding factor_at chain_from
trusted_equal_goes_on = (([]), has_shape-sound (word w.anchor ∷ word w.trusted ∷ []) refl)

trusted_equal : IsViable (word w.anchor ∷ word w.trusted ∷ sign w.equal ∷ []) → ⊥
unfolding factor_at chain_from
trusted_equal v = refuses (word w.anchor ∷ word w.trusted ∷ sign w.equal ∷ v.0) refl v.1

-- identifier = = x: token 2
identifier_equal_equal_goes_on : IsViable (word w.identifier ∷ sign w.equal ∷ [])
unfolding factor_at chain_from
identifier_equal_equal_goes_on = ((str (codes "x") ∷ []), has_shape-sound (word w.identifier ∷ sign w.equal ∷ str (codes "x") ∷ []) refl)

identifier_equal_equal : IsViable (word w.identifier ∷ sign w.equal ∷ sign w.equal ∷ []) → ⊥
unfolding factor_at chain_from
identifier_equal_equal v = refuses (word w.identifier ∷ sign w.equal ∷ sign w.equal ∷ v.0) refl v.1

-- ---- keys of certificates' tests

not_a_dot : ℕ → Bool
not_a_dot b = not (b == 46)

-- a text without a dot is no object identifier: there are two arcs at least
no_oid : (oid text : List ℕ) → list_all not_a_dot text ≡ true → IsOidText oid text → ⊥
unfolding not_a_dot
no_oid oid text plain (arcs, is, e) =
    let parts : text ≡ dotted (is.a ∷ is.b ∷ is.rest) = e ∙ ap dotted is.arcs_are in
    true≢false (sym (all_behind not_a_dot (decimal is.a) 46 (dotted (is.b ∷ is.rest)) (subst (λ (l : List ℕ). list_all not_a_dot l ≡ true) parts plain)))

-- field.1 stands for nothing: 1 is no object identifier
pub field_1 : IsBadKey (codes "field.1")
unfolding not_a_dot
field_1 slot test x (extension oid text e i) =
    let one : codes "1" ≡ text = ap (drop 6) e in
    no_oid oid text (subst (λ (l : List ℕ). list_all not_a_dot l ≡ true) one refl) i
field_1 slot test x (policy oid text e i) = let wrong : 102 ≡ 112 = ap (λ (bytes : List ℕ). get_or bytes 0 0) e in absurd (omega (arith, wrong))
field_1 slot test x (field free) = true≢false free

-- timestamp. stands for nothing, whatever follows
timestamp_x : IsBadKey (codes "timestamp.x")
timestamp_x slot test x (extension oid text e i) = let wrong : 116 ≡ 102 = ap (λ (bytes : List ℕ). get_or bytes 0 0) e in absurd (omega (arith, wrong))
timestamp_x slot test x (policy oid text e i) = let wrong : 116 ≡ 112 = ap (λ (bytes : List ℕ). get_or bytes 0 0) e in absurd (omega (arith, wrong))
timestamp_x slot test x (field free) = true≢false free

-- certificate leaf[field.1]: it has a shape, and no tree, for the key at token 3
abbrev bad_key : List Terminal
bad_key = word w.certificate ∷ word w.leaf ∷ sign w.left_bracket ∷ str (codes "field.1") ∷ sign w.right_bracket ∷ []

bad_key_shape : Shape bad_key
unfolding factor_at chain_from
bad_key_shape = has_shape-sound bad_key refl

bad_key_stands : IsCertKey bad_key 3 (codes "field.1")
bad_key_stands = record { front = word w.certificate ∷ []; before = word w.leaf; rest = sign w.right_bracket ∷ []; parts = refl; certificate = refl; place_is = refl }

bad_key_tree : (x : Tree) → Reads bad_key x → ⊥
bad_key_tree x h = expr_none_bad bad_key x h 3 (codes "field.1") bad_key_stands field_1

-- ---- words for kinds

-- designated => always designated => never: it has the shape of a set, and is none, for the word at token 3
abbrev twice : List Terminal
twice = word w.designated ∷ sign w.arrow ∷ word w.always ∷ word w.designated ∷ sign w.arrow ∷ word w.never ∷ []

twice_shape : ShapeSet twice
unfolding factor_at chain_from
twice_shape =
    let first = has_shape-sound (word w.always ∷ []) refl in
    let second = has_shape-sound (word w.never ∷ []) refl in (
      _,
      g.part _ _ (word w.always ∷ []) (word w.designated ∷ sign w.arrow ∷ word w.never ∷ []) _ _ g.designated first.1
          (g.part _ _ (word w.never ∷ []) [] _ _ g.designated second.1 g.none),
    )

twice_stands : IsRepeated twice 3
twice_stands = record {
  kind_word = w.designated;
  front = word w.designated ∷ sign w.arrow ∷ word w.always ∷ [];
  rest = sign w.arrow ∷ word w.never ∷ [];
  parts = refl;
  earlier = record { kind = 3; names = g.designated; front = []; rest = sign w.arrow ∷ word w.always ∷ []; parts = refl };
  place_is = refl;
}

twice_set : (s : TreeSet) → ReadsSet twice s → ⊥
twice_set s h = set_no_repeat twice s 3 h twice_stands
