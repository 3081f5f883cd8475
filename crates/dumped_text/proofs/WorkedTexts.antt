-- Worked texts: trees and sets and their texts, worked out apart from the definitions, and that these give the same.
use Rattle.std.proofs.Common.{◌≡◌, pos, negsuc, [], ◌∷◌, ◌++◌, replicate, codes, refl}
use Rattle.std.specs.Fmt.{digits}
use Rattle.hex.specs.Hex.{encode_with}
use Rattle.req_tree.specs.declared.matching.Match.TheVariants as m
use Rattle.req_tree.specs.Tree as t
use Rattle.req_tree.specs.TreeSet.{no_parts, with_part}
use Rattle.dumped_text.specs.Dumped.{is_free, string_text, key_text, slot_text, oid_text, dumped, dumped_set}

-- a chain that nests to the left, with three tests of certificates
developer_id : dumped (t.both (t.both (t.both (t.both (t.ident (codes "com.example.app")) t.apple_generic)
    (t.cert_oid (pos 1) (42 ∷ 134 ∷ 72 ∷ 134 ∷ 247 ∷ 99 ∷ 100 ∷ 6 ∷ 2 ∷ 6 ∷ []) m.Exists))
    (t.cert_oid (pos 0) (42 ∷ 134 ∷ 72 ∷ 134 ∷ 247 ∷ 99 ∷ 100 ∷ 6 ∷ 1 ∷ 13 ∷ []) m.Exists))
    (t.cert_field (pos 0) (codes "subject.OU") (m.Equal (codes "2DC432GLL2"))))
    ≡ codes "identifier " ++ 34 ∷ codes "com.example.app" ++ 34 ∷ codes " and anchor apple generic"
    ++ codes " and certificate 1[field.1.2.840.113635.100.6.2.6] /* exists */"
    ++ codes " and certificate leaf[field.1.2.840.113635.100.6.1.13] /* exists */"
    ++ codes " and certificate leaf[subject.OU] = " ++ 34 ∷ codes "2DC432GLL2" ++ 34 ∷ []
unfolding digits encode_with is_free string_text key_text slot_text oid_text
developer_id = refl

-- a chain that nests to the right has no parentheses
right_nest : dumped (t.both t.always (t.both t.never t.notarized)) ≡ codes "always and never and notarized"
right_nest = refl

left_nest : dumped (t.both (t.both t.always t.never) t.notarized) ≡ codes "always and never and notarized"
left_nest = refl

-- parentheses beside `and` and behind `!`, none beside `or`
parentheses : dumped (t.either t.legacy_dev_id (t.both (t.negate (t.either t.always t.never)) (t.either t.notarized t.never)))
    ≡ codes "legacy or ! (always or never) and (notarized or never)"
parentheses = refl

skipped_alone : dumped (t.skip_false 0x800000ff (replicate 8 0)) ≡ codes "never /* opcode 0x800000ff, 8 bytes */"
unfolding digits encode_with is_free string_text key_text slot_text oid_text
skipped_alone = refl

skipped_before : dumped (t.skip_next 0x400000ff (replicate 8 0) t.always) ≡ codes "/* skipped opcode 0x400000ff, 8 bytes */ always"
unfolding digits encode_with is_free string_text key_text slot_text oid_text
skipped_before = refl

-- parentheses stand behind the comment
skipped_in_chain : dumped (t.both (t.skip_next 0x400000ff (replicate 8 0) (t.either t.always t.never)) t.notarized)
    ≡ codes "/* skipped opcode 0x400000ff, 8 bytes */ (always or never) and notarized"
unfolding digits encode_with is_free string_text key_text slot_text oid_text
skipped_in_chain = refl

no_bytes : dumped (t.ident []) ≡ codes "identifier " ++ 34 ∷ 34 ∷ []
unfolding digits encode_with is_free string_text key_text slot_text oid_text
no_bytes = refl

-- one letter is bare
one_letter : dumped (t.ident (codes "a")) ≡ codes "identifier a"
unfolding digits encode_with is_free string_text key_text slot_text oid_text
one_letter = refl

-- a reserved word is quoted
reserved_word : dumped (t.ident (codes "and")) ≡ codes "identifier " ++ (34 ∷ []) ++ codes "and" ++ (34 ∷ [])
unfolding digits encode_with is_free string_text key_text slot_text oid_text
reserved_word = refl

-- a digit in front is quoted
digit_first : dumped (t.ident (codes "1a")) ≡ codes "identifier " ++ (34 ∷ []) ++ codes "1a" ++ (34 ∷ [])
unfolding digits encode_with is_free string_text key_text slot_text oid_text
digit_first = refl

-- a dot is quoted in a string
dots_in_string : dumped (t.ident (codes "a.b")) ≡ codes "identifier " ++ (34 ∷ []) ++ codes "a.b" ++ (34 ∷ [])
unfolding digits encode_with is_free string_text key_text slot_text oid_text
dots_in_string = refl

-- and bare in a key
dots_in_key : dumped (t.info_field (codes "a.b") m.Exists) ≡ codes "info[a.b] /* exists */"
unfolding digits encode_with is_free string_text key_text slot_text oid_text
dots_in_key = refl

-- unless nothing follows it
dot_at_end : dumped (t.info_field (codes "a.") m.Exists) ≡ codes "info[" ++ (34 ∷ []) ++ codes "a." ++ (34 ∷ []) ++ codes "] /* exists */"
unfolding digits encode_with is_free string_text key_text slot_text oid_text
dot_at_end = refl

-- a reserved word is quoted as a key
reserved_key : dumped (t.entitlement_field (codes "root") m.Absent) ≡ codes "entitlement[" ++ (34 ∷ []) ++ codes "root" ++ (34 ∷ []) ++ codes "] absent"
unfolding digits encode_with is_free string_text key_text slot_text oid_text
reserved_key = refl

-- a quote has a backslash before it
quote : dumped (t.ident (34 ∷ [])) ≡ codes "identifier " ++ (34 ∷ []) ++ (92 ∷ []) ++ (34 ∷ []) ++ (34 ∷ [])
unfolding digits encode_with is_free string_text key_text slot_text oid_text
quote = refl

-- 0x20 and 0x7e stand between quotes
space_and_tilde : dumped (t.ident (32 ∷ 126 ∷ [])) ≡ codes "identifier " ++ (34 ∷ []) ++ codes " ~" ++ (34 ∷ [])
unfolding digits encode_with is_free string_text key_text slot_text oid_text
space_and_tilde = refl

-- a backslash is hexadecimal
backslash : dumped (t.ident (92 ∷ [])) ≡ codes "identifier 0x5c"
unfolding digits encode_with is_free string_text key_text slot_text oid_text
backslash = refl

-- 0x7f is hexadecimal
delete : dumped (t.ident (97 ∷ 127 ∷ [])) ≡ codes "identifier 0x617f"
unfolding digits encode_with is_free string_text key_text slot_text oid_text
delete = refl

-- 0x1f is hexadecimal
unit : dumped (t.named_anchor (31 ∷ [])) ≡ codes "anchor apple 0x1f"
unfolding digits encode_with is_free string_text key_text slot_text oid_text
unit = refl

-- a hash in lower case
cdhash : dumped (t.cd_hash (replicate 20 0xab)) ≡ codes "cdhash H" ++ (34 ∷ []) ++ codes "abababababababababababababababababababab" ++ (34 ∷ [])
unfolding digits encode_with is_free string_text key_text slot_text oid_text
cdhash = refl

-- the anchor is root
anchor_hash : dumped (t.anchor_hash (negsuc 0) (replicate 20 0)) ≡ codes "certificate root = H" ++ (34 ∷ []) ++ codes "0000000000000000000000000000000000000000" ++ (34 ∷ [])
unfolding digits encode_with is_free string_text key_text slot_text oid_text
anchor_hash = refl

-- a slot below -1 is its number
trusted : dumped (t.trusted_cert (negsuc 1)) ≡ codes "certificate -2 trusted"
unfolding digits encode_with is_free string_text key_text slot_text oid_text
trusted = refl

-- the leaf by its name
trusted_leaf : dumped (t.trusted_cert (pos 0)) ≡ codes "certificate leaf trusted"
unfolding digits encode_with is_free string_text key_text slot_text oid_text
trusted_leaf = refl

-- a policy by its arcs, the first at most 2
policy : dumped (t.cert_policy (pos 2) (136 ∷ 55 ∷ []) (m.Less (codes "x"))) ≡ codes "certificate 2[policy.2.999] < x"
unfolding digits encode_with is_free string_text key_text slot_text oid_text
policy = refl

-- two arcs in one number
small_arcs : dumped (t.cert_oid (pos 0) (39 ∷ 127 ∷ []) (m.Greater (codes "x"))) ≡ codes "certificate leaf[field.0.39.127] > x"
unfolding digits encode_with is_free string_text key_text slot_text oid_text
small_arcs = refl

-- the old form is a test of equality
old_form : dumped (t.legacy_info (codes "a.b") (codes "c.d")) ≡ codes "info[a.b] = " ++ (34 ∷ []) ++ codes "c.d" ++ (34 ∷ [])
unfolding digits encode_with is_free string_text key_text slot_text oid_text
old_form = refl

contains : dumped (t.info_field (codes "k") (m.Contains (codes "v"))) ≡ codes "info[k] ~ v"
unfolding digits encode_with is_free string_text key_text slot_text oid_text
contains = refl

begins : dumped (t.info_field (codes "k") (m.Begins (codes "v"))) ≡ codes "info[k] = v*"
unfolding digits encode_with is_free string_text key_text slot_text oid_text
begins = refl

ends : dumped (t.info_field (codes "k") (m.Ends (codes "v"))) ≡ codes "info[k] = *v"
unfolding digits encode_with is_free string_text key_text slot_text oid_text
ends = refl

less_equal : dumped (t.info_field (codes "k") (m.LessEqual (codes "v"))) ≡ codes "info[k] <= v"
unfolding digits encode_with is_free string_text key_text slot_text oid_text
less_equal = refl

greater_equal : dumped (t.info_field (codes "k") (m.GreaterEqual (codes "v"))) ≡ codes "info[k] >= v"
unfolding digits encode_with is_free string_text key_text slot_text oid_text
greater_equal = refl

named_code : dumped (t.named_code (codes "calculator")) ≡ codes "(calculator)"
unfolding digits encode_with is_free string_text key_text slot_text oid_text
named_code = refl

-- a number with its sign
platform : dumped (t.platform (negsuc 4)) ≡ codes "platform = -5"
unfolding digits encode_with is_free string_text key_text slot_text oid_text
platform = refl

any_anchor : dumped (t.either t.trusted_any t.apple_anchor) ≡ codes "anchor trusted or anchor apple"
unfolding digits encode_with is_free string_text key_text slot_text oid_text
any_anchor = refl

-- parentheses round and behind !
deny_both : dumped (t.negate (t.both t.always t.never)) ≡ codes "! (always and never)"
unfolding digits encode_with is_free string_text key_text slot_text oid_text
deny_both = refl

-- none round !
deny_twice : dumped (t.negate (t.negate t.always)) ≡ codes "! ! always"
unfolding digits encode_with is_free string_text key_text slot_text oid_text
deny_twice = refl

-- none round and beside or
both_in_either : dumped (t.either t.always (t.both t.never t.notarized)) ≡ codes "always or never and notarized"
unfolding digits encode_with is_free string_text key_text slot_text oid_text
both_in_either = refl

-- a chain of or has none
either_nests : dumped (t.either t.always (t.either t.never t.notarized)) ≡ codes "always or never or notarized"
unfolding digits encode_with is_free string_text key_text slot_text oid_text
either_nests = refl

-- the number of bytes that were skipped
skipped_bytes : dumped (t.skip_false 0x80abcdef (replicate 12 1)) ≡ codes "never /* opcode 0x80abcdef, 12 bytes */"
unfolding digits encode_with is_free string_text key_text slot_text oid_text
skipped_bytes = refl

-- a set of one part
designated : dumped_set (with_part 3 t.always no_parts) ≡ codes "designated => always" ++ 10 ∷ []
designated = refl

-- each part has a line, by rising type
two_parts : dumped_set (with_part 5 t.never (with_part 1 t.always no_parts)) ≡ codes "host => always" ++ 10 ∷ codes "plugin => never" ++ 10 ∷ []
two_parts = refl

five_parts : dumped_set (with_part 4 t.notarized (with_part 3 t.never (with_part 5 t.legacy_dev_id (with_part 1 t.always (with_part 2 t.apple_anchor no_parts)))))
    ≡ codes "host => always" ++ 10 ∷ codes "guest => anchor apple" ++ 10 ∷ codes "designated => never" ++ 10 ∷ codes "library => notarized" ++ 10 ∷ codes "plugin => legacy" ++ 10 ∷ []
five_parts = refl
