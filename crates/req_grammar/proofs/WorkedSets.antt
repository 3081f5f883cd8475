-- Worked lists that stop where a set can't go on: the front goes on to the shape of a set, and no longer front does.
use Rattle.std.proofs.Common.{◌≡◌, false, List, [], ◌∷◌, refl, sym, ◌∙◌, true≢false}
use Rattle.req_grammar.specs.Words as w
use Rattle.req_grammar.specs.Terminals.{Terminal, sign, word}
use Rattle.req_grammar.specs.Readings.{ShapeSet, IsViableSet}
use Rattle.req_grammar.specs.Reader.{has_set_shape, parts_at, factor_at, chain_from}
use Rattle.req_grammar.proofs.Sets.{has_set_shape-complete}
use Rattle.req_grammar.proofs.SetSound.{has_set_shape-sound}

refuses : (a : List Terminal) → has_set_shape a ≡ false → ShapeSet a → ⊥
refuses a e s = true≢false (sym (has_set_shape-complete a s) ∙ e)

-- no terminals: a set without parts
nothing : ShapeSet []
unfolding parts_at factor_at chain_from
nothing = has_set_shape-sound [] refl

-- always: token 0
always_alone : IsViableSet (word w.always ∷ word w.and ∷ []) → ⊥
unfolding parts_at factor_at chain_from
always_alone v = refuses (word w.always ∷ word w.and ∷ v.0) refl v.1

-- host always: token 1
host_goes_on : IsViableSet (word w.host ∷ [])
unfolding parts_at factor_at chain_from
host_goes_on = (sign w.arrow ∷ word w.always ∷ [], has_set_shape-sound (word w.host ∷ sign w.arrow ∷ word w.always ∷ []) refl)

host_always : IsViableSet (word w.host ∷ word w.always ∷ []) → ⊥
unfolding parts_at factor_at chain_from
host_always v = refuses (word w.host ∷ word w.always ∷ v.0) refl v.1

-- host => always and guest: token 4
and_goes_on : IsViableSet (word w.host ∷ sign w.arrow ∷ word w.always ∷ word w.and ∷ [])
unfolding parts_at factor_at chain_from
and_goes_on = (word w.never ∷ [], has_set_shape-sound (word w.host ∷ sign w.arrow ∷ word w.always ∷ word w.and ∷ word w.never ∷ []) refl)

and_guest : IsViableSet (word w.host ∷ sign w.arrow ∷ word w.always ∷ word w.and ∷ word w.guest ∷ []) → ⊥
unfolding parts_at factor_at chain_from
and_guest v = refuses (word w.host ∷ sign w.arrow ∷ word w.always ∷ word w.and ∷ word w.guest ∷ v.0) refl v.1

-- host => always host => never guest: it ends too early, at token 7; a kind may stand again
twice_goes_on : IsViableSet (word w.host ∷ sign w.arrow ∷ word w.always ∷ word w.host ∷ sign w.arrow ∷ word w.never ∷ word w.guest ∷ [])
unfolding parts_at factor_at chain_from
twice_goes_on = (
  sign w.arrow ∷ word w.always ∷ [],
  has_set_shape-sound (word w.host ∷ sign w.arrow ∷ word w.always ∷ word w.host ∷ sign w.arrow ∷ word w.never ∷ word w.guest ∷ sign w.arrow ∷ word w.always ∷ []) refl,
)

twice_guest : ShapeSet (word w.host ∷ sign w.arrow ∷ word w.always ∷ word w.host ∷ sign w.arrow ∷ word w.never ∷ word w.guest ∷ []) → ⊥
unfolding parts_at factor_at chain_from
twice_guest s = refuses (word w.host ∷ sign w.arrow ∷ word w.always ∷ word w.host ∷ sign w.arrow ∷ word w.never ∷ word w.guest ∷ []) refl s
