-- The text of a requirement, as the program prints it. This project's own, after the dumper of Apple's
-- Security framework.
use Rattle.std.specs.Prelude.{ℕ, zero, ℤ, pos, negsuc, min, ◌+◌, ◌-◌, ◌*◌, ◌/◌, ◌%◌, Bool, nat_lt, nat_le, not, ◌&&◌, ◌==◌, if◌then◌else◌, List, [], ◌∷◌, ◌++◌, length, Option, None, Some, is_some, codes, decimal}
use Rattle.std.specs.List.{list_all}
use Rattle.std.specs.Int.{w32, to_be_bytes}
use Rattle.std.specs.Fmt.{signed_decimal}
use Rattle.hex.specs.Hex.{encode_lower}
use Rattle.req_tree.specs.declared.matching.Match.{Match}
use Rattle.req_tree.specs.declared.matching.Match.TheVariants.{Exists, Absent, Equal, Contains, Begins, Ends, Less, Greater, LessEqual, GreaterEqual}
use Rattle.req_tree.specs.Tree as t
use Rattle.req_tree.specs.Tree.{Tree}
use Rattle.req_tree.specs.TreeSet.{TreeSet}
use Rattle.req_tree.specs.Oid.{dotted}
use Rattle.req_grammar.specs.Words.{reserved, under}
use Rattle.req_grammar.specs.Tokens.{is_letter, is_letter_or_digit, goes_on, is_word, hash_mark, hex_mark, quoted_text}

-- the bytes are no reserved word
unfoldable pub is_free : List ℕ → Bool
is_free s = not (is_some (under s reserved))

-- a letter, then letters and digits, and no reserved word
abbrev pub is_bare : List ℕ → Bool
is_bare s = goes_on is_letter s && list_all is_letter_or_digit s && is_free s

-- a byte that can stand between quotes: 0x20 to 0x7e, and no backslash
abbrev pub is_printed : ℕ → Bool
is_printed b = nat_le 0x20 b && nat_le b 0x7e && not (b == 92)

-- between quotes where every byte can stand there, else in hexadecimal
abbrev pub marked_text : List ℕ → List ℕ
marked_text s = if list_all is_printed s then quoted_text s else hex_mark ++ encode_lower s

-- a string: bare where it can be, else quoted or in hexadecimal
unfoldable pub string_text : List ℕ → List ℕ
string_text s = if is_bare s then s else marked_text s

-- a key: bare also with dots in it, else as a string
unfoldable pub key_text : List ℕ → List ℕ
key_text key = if is_word key && is_free key then key else string_text key

-- a hash: H, and its digits in lower case between quotes
abbrev pub hash_text : List ℕ → List ℕ
hash_text hash = hash_mark ++ encode_lower hash ++ 34 ∷ []

-- a place in the chain: leaf, root or its number
unfoldable pub slot_text : ℤ → List ℕ
slot_text (pos zero) = codes "leaf"
slot_text (negsuc zero) = codes "root"
slot_text slot = signed_decimal slot

-- the numbers that bytes write seven bits at a time, after the part of the first so far
abbrev pub numbers_from : ℕ → List ℕ → List ℕ
numbers_from part [] = []
numbers_from part (b ∷ rest) = if nat_lt b 128 then (128 * part + b) ∷ numbers_from 0 rest else numbers_from (128 * part + b % 128) rest

-- the first number holds two arcs, each further number is one
abbrev pub arcs : List ℕ → List ℕ
arcs [] = []
arcs (n ∷ rest) = min (n / 40) 2 ∷ (n - 40 * min (n / 40) 2) ∷ rest

-- an object identifier, by its arcs with dots between them
unfoldable pub oid_text : List ℕ → List ℕ
oid_text oid = dotted (arcs (numbers_from 0 oid))

-- what is asked of a value
abbrev pub test_text : Match → List ℕ
test_text Exists = codes " /* exists */"
test_text Absent = codes " absent"
test_text (Equal s) = codes " = " ++ string_text s
test_text (Contains s) = codes " ~ " ++ string_text s
test_text (Begins s) = codes " = " ++ string_text s ++ codes "*"
test_text (Ends s) = codes " = *" ++ string_text s
test_text (Less s) = codes " < " ++ string_text s
test_text (Greater s) = codes " > " ++ string_text s
test_text (LessEqual s) = codes " <= " ++ string_text s
test_text (GreaterEqual s) = codes " >= " ++ string_text s

-- a key in brackets, and what is asked of its value
abbrev pub keyed_text : List ℕ → Match → List ℕ
keyed_text key test = codes "[" ++ key ++ codes "]" ++ test_text test

-- a certificate by its place
abbrev pub cert_text : ℤ → List ℕ
cert_text slot = codes "certificate " ++ slot_text slot

-- an opcode that isn't known, and how many bytes were skipped after it
abbrev pub opcode_text : ℕ → List ℕ → List ℕ
opcode_text op skipped = codes "opcode 0x" ++ encode_lower (to_be_bytes w32 op) ++ codes ", " ++ decimal (length skipped) ++ codes " bytes"

-- where a tree stands: alone or beside `or`, beside `and`, or behind `!`
pub data Place : Type 0 where
  alone : Place
  beside_and : Place
  behind_bang : Place

-- a text in parentheses
abbrev pub in_parens : List ℕ → List ℕ
in_parens text = codes "(" ++ text ++ codes ")"

-- two texts with `or` between them; beside `and` and behind `!` parentheses stand round them
abbrev pub or_text : Place → List ℕ → List ℕ → List ℕ
or_text alone left right = left ++ codes " or " ++ right
or_text place left right = in_parens (left ++ codes " or " ++ right)

-- two texts with `and` between them; behind `!` parentheses stand round them
abbrev pub and_text : Place → List ℕ → List ℕ → List ℕ
and_text behind_bang left right = in_parens (left ++ codes " and " ++ right)
and_text place left right = left ++ codes " and " ++ right

-- the text of a tree by where it stands; what follows a skipped opcode stands where the opcode stood
abbrev pub dumped_at : Place → Tree → List ℕ
dumped_at place t.never = codes "never"
dumped_at place t.always = codes "always"
dumped_at place (t.ident value) = codes "identifier " ++ string_text value
dumped_at place t.apple_anchor = codes "anchor apple"
dumped_at place (t.anchor_hash slot hash) = cert_text slot ++ codes " = " ++ hash_text hash
dumped_at place (t.legacy_info key value) = codes "info" ++ keyed_text (key_text key) (Equal value)
dumped_at place (t.both left right) = and_text place (dumped_at beside_and left) (dumped_at beside_and right)
dumped_at place (t.either left right) = or_text place (dumped_at alone left) (dumped_at alone right)
dumped_at place (t.cd_hash hash) = codes "cdhash " ++ hash_text hash
dumped_at place (t.negate inner) = codes "! " ++ dumped_at behind_bang inner
dumped_at place (t.info_field key test) = codes "info" ++ keyed_text (key_text key) test
dumped_at place (t.cert_field slot key test) = cert_text slot ++ keyed_text (key_text key) test
dumped_at place (t.trusted_cert slot) = cert_text slot ++ codes " trusted"
dumped_at place t.trusted_any = codes "anchor trusted"
dumped_at place (t.cert_oid slot oid test) = cert_text slot ++ keyed_text (codes "field." ++ oid_text oid) test
dumped_at place t.apple_generic = codes "anchor apple generic"
dumped_at place (t.entitlement_field key test) = codes "entitlement" ++ keyed_text (key_text key) test
dumped_at place (t.cert_policy slot oid test) = cert_text slot ++ keyed_text (codes "policy." ++ oid_text oid) test
dumped_at place (t.named_anchor name) = codes "anchor apple " ++ string_text name
dumped_at place (t.named_code name) = in_parens (string_text name)
dumped_at place (t.platform number) = codes "platform = " ++ signed_decimal number
dumped_at place t.notarized = codes "notarized"
dumped_at place t.legacy_dev_id = codes "legacy"
dumped_at place (t.skip_false op skipped) = codes "never /* " ++ opcode_text op skipped ++ codes " */"
dumped_at place (t.skip_next op skipped inner) = codes "/* skipped " ++ opcode_text op skipped ++ codes " */ " ++ dumped_at place inner

-- the text of a requirement
abbrev pub dumped : Tree → List ℕ
dumped tree = dumped_at alone tree

-- a part of a set on a line of its own, where it is there
abbrev pub part_text : List ℕ → Option Tree → List ℕ
part_text kind None = []
part_text kind (Some tree) = kind ++ codes " => " ++ dumped tree ++ 10 ∷ []

-- the text of a set: its parts by rising type
abbrev pub dumped_set : TreeSet → List ℕ
dumped_set set =
    part_text (codes "host") set.host ++ part_text (codes "guest") set.guest ++ part_text (codes "designated") set.designated
    ++ part_text (codes "library") set.library ++ part_text (codes "plugin") set.plugin
