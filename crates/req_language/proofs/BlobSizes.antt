-- The plain blob of a text is no longer than a blob may be.
use Rattle.std.proofs.Common.{◌≡◌, ℕ, suc, ◌+◌, ◌*◌, ◌≤◌, List, [], ◌∷◌, ◌++◌, length, Option, Some, None, refl, ap, ◌∙◌, arith, length-append}
use Rattle.req_tree.specs.Tree.{Tree}
use Rattle.req_tree.specs.TreeSet.{TreeSet, part_of, with_part}
use Rattle.cs_blob.specs.Numbers.{word}
use Rattle.cs_blob.specs.Writing.{Draft, body_bytes, total_of, written}
use Rattle.req_blob.specs.Spelling.{plain, plain_blob}
use Rattle.req_blob.specs.declared.limits.TheConstants.{MOST_BYTES}
use Rattle.req_ops.specs.Sets.{set_magic}
use Rattle.req_ops.specs.SetEncoding.{part_under, parts_below, plain_set}
use Rattle.req_grammar.specs.Words.{Word}
use Rattle.req_grammar.specs.Tokens.{Kind, Token, IsToken}
use Rattle.req_grammar.specs.Terminals.{Terminal, terminal_of, terminals}
use Rattle.req_grammar.specs.Places.{FitsKind}
use Rattle.req_grammar.specs.Grammar as g
use Rattle.req_grammar.specs.Grammar.{KindWord, Parts}
use Rattle.req_grammar.specs.Readings.{CertTest, Collects, HasTokens, IsRequirementText, IsSetText}
use Rattle.req_language.proofs.Weights.{weigh, weigh-append, expr_most}
use Rattle.req_language.proofs.TokenWeights.{tokens_most}

length-word : (n : ℕ) → length (word n) ≡ 4
unfolding word
length-word n = refl

blob_size : (x : Tree) → length (plain_blob x) ≡ 12 + length (plain x)
blob_size x =
    omega (arith, length-append (word 0xfade0c00) (word (12 + length (plain x)) ++ (word 1 ++ plain x)), length-append (word (12 + length (plain x))) (word 1 ++ plain x), length-append (word 1) (plain x), length-word 0xfade0c00, length-word (12 + length (plain x)), length-word 1)

abbrev FitsAll : Type 0
FitsAll = (front rest : List ℕ) (kind : Kind) → IsToken kind front rest → FitsKind front kind (terminal_of kind front)

weigh_most : FitsAll → (text : List ℕ) (tokens : List Token) → HasTokens text tokens → weigh (terminals text tokens) ≤ 786432
weigh_most fits text tokens cut = omega (arith, tokens_most fits text [] text 0 tokens refl refl cut.tokens_are, cut.short)

pub text_short : FitsAll → (text : List ℕ) (x : Tree) → IsRequirementText text x → length (plain_blob x) ≤ MOST_BYTES
text_short fits text x h = omega (arith, blob_size x, expr_most _ x h.reads, weigh_most fits text h.tokens h.cut)

-- ---- sets

-- how many bytes a part makes, with its entry in the index
abbrev part_size : Option Tree → ℕ
part_size None = 0
part_size (Some x) = 20 + length (plain x)

abbrev parts_size : TreeSet → ℕ
parts_size set = part_size set.host + part_size set.guest + part_size set.designated + part_size set.library + part_size set.plugin

-- a part more
with_size : (k : Word) (kind : ℕ) (x : Tree) (set : TreeSet) → KindWord k kind → part_of kind set ≡ None → parts_size (with_part kind x set) ≡ 20 + length (plain x) + parts_size set
with_size k kind x set g.host none = omega (arith, ap part_size none)
with_size k kind x set g.guest none = omega (arith, ap part_size none)
with_size k kind x set g.designated none = omega (arith, ap part_size none)
with_size k kind x set g.library none = omega (arith, ap part_size none)
with_size k kind x set g.plugin none = omega (arith, ap part_size none)

collected_most : (a : List Terminal) (parts : List (ℕ × Tree)) (set : TreeSet) → Parts CertTest a parts → Collects parts set → parts_size set ≤ weigh a
collected_most a parts set g.none c = omega (arith, ap parts_size c)
collected_most a parts set (g.part k kind b d x rest is h i) (others, c, free, e) =
    omega (arith, ap parts_size e, with_size k kind x others is free, expr_most b x h, collected_most d rest others i c, weigh-append b d)

-- the size of parts in a list
abbrev sizes : List (ℕ × List ℕ) → ℕ
sizes parts = 8 * length parts + length (body_bytes parts)

sizes-append : (a b : List (ℕ × List ℕ)) → sizes (a ++ b) ≡ sizes a + sizes b
sizes-append [] b = omega arith
sizes-append (part ∷ a) b = omega (arith, sizes-append a b, length-append part.1 (body_bytes (a ++ b)), length-append part.1 (body_bytes a))

under_size : (kind : ℕ) (part : Option Tree) → sizes (part_under kind part) ≡ part_size part
under_size kind None = refl
under_size kind (Some x) = omega (arith, blob_size x, length-append (plain_blob x) [])

below : (kind : ℕ) (set : TreeSet) → sizes (parts_below (suc kind) set) ≡ sizes (parts_below kind set) + part_size (part_of kind set)
below kind set = sizes-append (parts_below kind set) (part_under kind (part_of kind set)) ∙ ap (λ (n : ℕ). sizes (parts_below kind set) + n) (under_size kind (part_of kind set))

all_sizes : (set : TreeSet) → sizes (parts_below 6 set) ≡ parts_size set
all_sizes set = omega (arith, below 0 set, below 1 set, below 2 set, below 3 set, below 4 set, below 5 set)

set_size : ((draft : Draft) → length (written draft) ≡ total_of draft.parts) → (set : TreeSet) → length (plain_set set) ≡ 12 + parts_size set
unfolding plain_set
set_size total set = omega (arith, total (record { magic = set_magic; parts = parts_below 6 set }), all_sizes set)

pub set_text_short : FitsAll → ((draft : Draft) → length (written draft) ≡ total_of draft.parts) → (text : List ℕ) (set : TreeSet) → IsSetText text set → length (plain_set set) ≤ MOST_BYTES
set_text_short fits total text set h =
    omega (arith, set_size total set, collected_most _ h.reads.0 set h.reads.1 h.reads.2, weigh_most fits text h.tokens h.cut)
