-- The terminals that a dumped text has: what the grammar sees of it, comments left out. This project's own.
use Rattle.std.specs.Prelude.{ℕ, zero, suc, ℤ, pos, negsuc, List, [], ◌∷◌, ◌++◌, Option, None, Some, codes}
use Rattle.req_tree.specs.declared.matching.Match.{Match}
use Rattle.req_tree.specs.declared.matching.Match.TheVariants.{Exists, Absent, Equal, Contains, Begins, Ends, Less, Greater, LessEqual, GreaterEqual}
use Rattle.req_tree.specs.Tree as t
use Rattle.req_tree.specs.Tree.{Tree}
use Rattle.req_tree.specs.TreeSet.{TreeSet}
use Rattle.req_grammar.specs.Words as w
use Rattle.req_grammar.specs.Words.{Word}
use Rattle.req_grammar.specs.Terminals.{Terminal, sign, word, str, hash, int}
use Rattle.dumped_text.specs.Dumped.{Place, alone, beside_and, behind_bang, oid_text}

-- a number, behind a dash where it is negative
abbrev pub number_said : ℤ → List Terminal
number_said (pos n) = int n ∷ []
number_said (negsuc n) = sign w.dash ∷ int (suc n) ∷ []

-- a place in the chain: leaf, root or its number
abbrev pub slot_said : ℤ → List Terminal
slot_said (pos zero) = word w.leaf ∷ []
slot_said (negsuc zero) = word w.root ∷ []
slot_said slot = number_said slot

-- that a value is there is said by nothing
abbrev pub test_said : Match → List Terminal
test_said Exists = []
test_said Absent = word w.absent ∷ []
test_said (Equal s) = sign w.equal ∷ str s ∷ []
test_said (Contains s) = sign w.tilde ∷ str s ∷ []
test_said (Begins s) = sign w.equal ∷ str s ∷ sign w.star ∷ []
test_said (Ends s) = sign w.equal ∷ sign w.star ∷ str s ∷ []
test_said (Less s) = sign w.less ∷ str s ∷ []
test_said (Greater s) = sign w.greater ∷ str s ∷ []
test_said (LessEqual s) = sign w.less_equal ∷ str s ∷ []
test_said (GreaterEqual s) = sign w.greater_equal ∷ str s ∷ []

-- a key in brackets, and what is asked of its value
abbrev pub keyed_said : List ℕ → Match → List Terminal
keyed_said key test = sign w.left_bracket ∷ str key ∷ sign w.right_bracket ∷ test_said test

-- terminals in parentheses
abbrev pub in_parens_said : List Terminal → List Terminal
in_parens_said terminals = sign w.left_paren ∷ terminals ++ sign w.right_paren ∷ []

-- beside `and` and behind `!` parentheses stand round `or`
abbrev pub or_said : Place → List Terminal → List Terminal → List Terminal
or_said alone left right = left ++ word w.or ∷ right
or_said place left right = in_parens_said (left ++ word w.or ∷ right)

-- behind `!` parentheses stand round `and`
abbrev pub and_said : Place → List Terminal → List Terminal → List Terminal
and_said behind_bang left right = in_parens_said (left ++ word w.and ∷ right)
and_said place left right = left ++ word w.and ∷ right

-- the terminals of a tree by where it stands
abbrev pub said_at : Place → Tree → List Terminal
said_at place t.never = word w.never ∷ []
said_at place t.always = word w.always ∷ []
said_at place (t.ident value) = word w.identifier ∷ str value ∷ []
said_at place t.apple_anchor = word w.anchor ∷ word w.apple ∷ []
said_at place (t.anchor_hash slot h) = word w.certificate ∷ slot_said slot ++ sign w.equal ∷ hash h ∷ []
said_at place (t.legacy_info key value) = word w.info ∷ keyed_said key (Equal value)
said_at place (t.both left right) = and_said place (said_at beside_and left) (said_at beside_and right)
said_at place (t.either left right) = or_said place (said_at alone left) (said_at alone right)
said_at place (t.cd_hash h) = word w.cdhash ∷ hash h ∷ []
said_at place (t.negate inner) = sign w.bang ∷ said_at behind_bang inner
said_at place (t.info_field key test) = word w.info ∷ keyed_said key test
said_at place (t.cert_field slot key test) = word w.certificate ∷ slot_said slot ++ keyed_said key test
said_at place (t.trusted_cert slot) = word w.certificate ∷ slot_said slot ++ word w.trusted ∷ []
said_at place t.trusted_any = word w.anchor ∷ word w.trusted ∷ []
said_at place (t.cert_oid slot oid test) = word w.certificate ∷ slot_said slot ++ keyed_said (codes "field." ++ oid_text oid) test
said_at place t.apple_generic = word w.anchor ∷ word w.apple ∷ word w.generic ∷ []
said_at place (t.entitlement_field key test) = word w.entitlement ∷ keyed_said key test
said_at place (t.cert_policy slot oid test) = word w.certificate ∷ slot_said slot ++ keyed_said (codes "policy." ++ oid_text oid) test
said_at place (t.named_anchor name) = word w.anchor ∷ word w.apple ∷ str name ∷ []
said_at place (t.named_code name) = in_parens_said (str name ∷ [])
said_at place (t.platform number) = word w.platform ∷ sign w.equal ∷ number_said number
said_at place t.notarized = word w.notarized ∷ []
said_at place t.legacy_dev_id = word w.legacy ∷ []
said_at place (t.skip_false op skipped) = word w.never ∷ []
said_at place (t.skip_next op skipped inner) = said_at place inner

-- the terminals of a tree's text
abbrev pub said : Tree → List Terminal
said tree = said_at alone tree

-- a part of a set, where it is there
abbrev pub part_said : Word → Option Tree → List Terminal
part_said kind None = []
part_said kind (Some tree) = word kind ∷ sign w.arrow ∷ said tree

-- the terminals of a set's text
abbrev pub set_said : TreeSet → List Terminal
set_said set =
    part_said w.host set.host ++ part_said w.guest set.guest ++ part_said w.designated set.designated
    ++ part_said w.library set.library ++ part_said w.plugin set.plugin
