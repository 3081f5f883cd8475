-- Facts F, computed by the definitions alone: the rows of the file, and what requirements mean by them.
use Rattle.std.specs.Prelude.{◌≡◌, ℕ, Bool, pos, negsuc, List, [], ◌∷◌, true, false, replicate, refl, codes, Some, None, Result, Ok, Err}
use Rattle.std.specs.Fmt.{digits}
use Rattle.hex.specs.Hex.{decode_pairs}
use Rattle.req_tree.specs.declared.matching.Match.TheVariants.{Exists, Absent, Equal, Less, LessEqual, GreaterEqual}
use Rattle.req_tree.specs.Tree as t
use Rattle.req_tree.specs.Tree.{Tree}
use Rattle.req_tree.specs.Subject.{Subject}
use Rattle.req_tree.specs.Meaning.{mean}
use Rattle.req_tree.specs.Facts.{text, texts}
use Rattle.code_facts.specs.declared.fault.FactFault.{FactFault}
use Rattle.code_facts.specs.declared.fault.FactFault.TheVariants.{BadRow, Twice}
use Rattle.code_facts.specs.Rows.{Row}
use Rattle.code_facts.specs.FactsFile.{header, rows_of_records}
use Rattle.code_facts.specs.Knowledge.{known, facts_in}

abbrev letters : ℕ → List ℕ
letters b = replicate 40 b

abbrev ones : List ℕ
ones = letters 49

abbrev twos : List ℕ
twos = letters 50

abbrev file_f : List (List (List ℕ))
file_f =
    header
    ∷ (ones ∷ codes "flag" ∷ [] ∷ codes "anchor-apple-generic" ∷ [] ∷ [] ∷ [])
    ∷ (ones ∷ codes "cert" ∷ codes "0" ∷ [] ∷ codes "hash" ∷ (letters 97) ∷ [])
    ∷ (ones ∷ codes "cert" ∷ codes "1" ∷ [] ∷ codes "hash" ∷ (letters 98) ∷ [])
    ∷ (ones ∷ codes "cert" ∷ codes "2" ∷ [] ∷ codes "hash" ∷ (letters 99) ∷ [])
    ∷ (ones ∷ codes "cert-oid" ∷ codes "1" ∷ codes "1.2.840.113635.100.6.2.6" ∷ codes "true" ∷ [] ∷ [])
    ∷ (ones ∷ codes "cert-oid" ∷ codes "0" ∷ codes "1.2.840.113635.100.6.1.13" ∷ codes "true" ∷ [] ∷ [])
    ∷ (ones ∷ codes "cert-field" ∷ codes "0" ∷ codes "subject.OU" ∷ codes "text" ∷ codes "2DC432GLL2" ∷ [])
    ∷ (ones ∷ codes "info" ∷ [] ∷ codes "Version" ∷ codes "text" ∷ codes "10.9" ∷ [])
    ∷ (ones ∷ codes "info" ∷ [] ∷ codes "Build" ∷ codes "text" ∷ codes "007" ∷ [])
    ∷ (ones ∷ codes "info" ∷ [] ∷ codes "Tags" ∷ codes "item" ∷ codes "red" ∷ [])
    ∷ (ones ∷ codes "info" ∷ [] ∷ codes "Tags" ∷ codes "item" ∷ codes "blue" ∷ [])
    ∷ (ones ∷ codes "info" ∷ [] ∷ codes "Off" ∷ codes "false" ∷ [] ∷ [])
    ∷ []

abbrev or_none : Result (List Row) FactFault → List Row
or_none (Ok rows) = rows
or_none (Err fault) = []

abbrev rows_f : List Row
rows_f = or_none (rows_of_records file_f)

abbrev s1 : Subject
s1 = record { cdhash = replicate 20 17; identifier = codes "com.example.app"; platform = 0 }

abbrev s2 : Subject
s2 = record { cdhash = replicate 20 34; identifier = codes "com.example.app"; platform = 0 }

abbrev means_s1 : Tree → Bool
means_s1 tree = mean tree s1 (facts_in rows_f)

abbrev means_s2 : Tree → Bool
means_s2 tree = mean tree s2 (facts_in rows_f)

no_slot_3 : means_s1 (t.cert_field (pos 3) (codes "subject.OU") Exists) ≡ false
unfolding decode_pairs digits
no_slot_3 = refl

no_slot_3_absent : means_s1 (t.cert_field (pos 3) (codes "subject.OU") Absent) ≡ false
unfolding decode_pairs digits
no_slot_3_absent = refl

off_does_not_exist : means_s1 (t.info_field (codes "Off") Exists) ≡ false
unfolding decode_pairs digits
off_does_not_exist = refl

off_is_not_absent : means_s1 (t.info_field (codes "Off") Absent) ≡ false
unfolding decode_pairs digits
off_is_not_absent = refl

build_is_not_7 : means_s1 (t.info_field (codes "Build") (Equal (codes "7"))) ≡ false
unfolding decode_pairs digits
build_is_not_7 = refl

no_common_name : means_s1 (t.cert_field (pos 0) (codes "subject.CN") Absent) ≡ true
unfolding decode_pairs digits
no_common_name = refl

nope_is_absent : means_s1 (t.info_field (codes "Nope") Absent) ≡ true
unfolding decode_pairs digits
nope_is_absent = refl

tags_have_blue : means_s1 (t.info_field (codes "Tags") (Equal (codes "blue"))) ≡ true
unfolding decode_pairs digits
tags_have_blue = refl

tags_have_red : means_s1 (t.info_field (codes "Tags") (Equal (codes "red"))) ≡ true
unfolding decode_pairs digits
tags_have_red = refl

anchor_hash : means_s1 (t.anchor_hash (negsuc 0) (replicate 20 204)) ≡ true
unfolding decode_pairs digits
anchor_hash = refl

slot_2_hash : means_s1 (t.anchor_hash (pos 2) (replicate 20 204)) ≡ true
unfolding decode_pairs digits
slot_2_hash = refl

leaf_hash : means_s1 (t.anchor_hash (pos 0) (replicate 20 204)) ≡ false
unfolding decode_pairs digits
leaf_hash = refl

version_below : means_s1 (t.info_field (codes "Version") (Less (codes "10.10"))) ≡ true
unfolding decode_pairs digits
version_below = refl

build_at_most : means_s1 (t.info_field (codes "Build") (LessEqual (codes "7"))) ≡ true
unfolding decode_pairs digits
build_at_most = refl

build_at_least : means_s1 (t.info_field (codes "Build") (GreaterEqual (codes "7"))) ≡ true
unfolding decode_pairs digits
build_at_least = refl

build_not_below : means_s1 (t.info_field (codes "Build") (Less (codes "7"))) ≡ false
unfolding decode_pairs digits
build_not_below = refl

generic : means_s1 (t.apple_generic) ≡ true
unfolding decode_pairs digits
generic = refl

not_apple : means_s1 (t.apple_anchor) ≡ false
unfolding decode_pairs digits
not_apple = refl

unit : means_s1 (t.cert_field (pos 0) (codes "subject.OU") (Equal (codes "2DC432GLL2"))) ≡ true
unfolding decode_pairs digits
unit = refl

oid_1 : means_s1 (t.cert_oid (pos 1) (42 ∷ 134 ∷ 72 ∷ 134 ∷ 247 ∷ 99 ∷ 100 ∷ 6 ∷ 2 ∷ 6 ∷ []) Exists) ≡ true
unfolding decode_pairs digits
oid_1 = refl

oid_0 : means_s1 (t.cert_oid (pos 0) (42 ∷ 134 ∷ 72 ∷ 134 ∷ 247 ∷ 99 ∷ 100 ∷ 6 ∷ 1 ∷ 13 ∷ []) Exists) ≡ true
unfolding decode_pairs digits
oid_0 = refl

no_oid_2 : means_s1 (t.cert_oid (pos 2) (42 ∷ 134 ∷ 72 ∷ 134 ∷ 247 ∷ 99 ∷ 100 ∷ 6 ∷ 1 ∷ 13 ∷ []) Exists) ≡ false
unfolding decode_pairs digits
no_oid_2 = refl

untrusted : means_s1 (t.trusted_any) ≡ false
unfolding decode_pairs digits
untrusted = refl

other_hash : means_s2 (t.apple_generic) ≡ false
unfolding decode_pairs digits
other_hash = refl

abbrev developer_id : Tree
developer_id =
    t.both (t.both (t.both (t.both (t.ident (codes "com.example.app")) t.apple_generic)
    (t.cert_oid (pos 1) (42 ∷ 134 ∷ 72 ∷ 134 ∷ 247 ∷ 99 ∷ 100 ∷ 6 ∷ 2 ∷ 6 ∷ []) Exists))
    (t.cert_oid (pos 0) (42 ∷ 134 ∷ 72 ∷ 134 ∷ 247 ∷ 99 ∷ 100 ∷ 6 ∷ 1 ∷ 13 ∷ []) Exists))
    (t.cert_field (pos 0) (codes "subject.OU") (Equal (codes "2DC432GLL2")))

developer_id_of_s1 : means_s1 (developer_id) ≡ true
unfolding decode_pairs digits
developer_id_of_s1 = refl

developer_id_of_s2 : means_s2 (developer_id) ≡ false
unfolding decode_pairs digits
developer_id_of_s2 = refl

no_rows : rows_of_records [] ≡ Err (BadRow 1)
no_rows = refl

header_alone : rows_of_records (header ∷ []) ≡ Ok []
header_alone = refl

short_header : rows_of_records ((codes "cdhash" ∷ []) ∷ []) ≡ Err (BadRow 1)
short_header = refl

five_fields : rows_of_records (header ∷ (ones ∷ codes "flag" ∷ [] ∷ codes "notarized" ∷ [] ∷ []) ∷ []) ≡ Err (BadRow 2)
unfolding decode_pairs digits
five_fields = refl

slot_not_next : rows_of_records (header ∷ (ones ∷ codes "cert" ∷ codes "1" ∷ [] ∷ codes "hash" ∷ (letters 97) ∷ []) ∷ []) ≡ Err (BadRow 2)
unfolding decode_pairs digits
slot_not_next = refl

slot_above : rows_of_records (header ∷ (ones ∷ codes "cert" ∷ codes "0" ∷ [] ∷ codes "hash" ∷ (letters 97) ∷ []) ∷ (ones ∷ codes "cert-trusted" ∷ codes "1" ∷ [] ∷ [] ∷ [] ∷ []) ∷ []) ≡ Err (BadRow 3)
unfolding decode_pairs digits
slot_above = refl

leading_zero : rows_of_records (header ∷ (ones ∷ codes "cert" ∷ codes "00" ∷ [] ∷ codes "hash" ∷ (letters 97) ∷ []) ∷ []) ≡ Err (BadRow 2)
unfolding decode_pairs digits
leading_zero = refl

twice : rows_of_records (header ∷ (ones ∷ codes "info" ∷ [] ∷ codes "a" ∷ codes "text" ∷ codes "b" ∷ []) ∷ (ones ∷ codes "info" ∷ [] ∷ codes "a" ∷ codes "item" ∷ codes "c" ∷ []) ∷ []) ≡ Err (Twice 3)
unfolding decode_pairs digits
twice = refl

twice_flag : rows_of_records (header ∷ (ones ∷ codes "flag" ∷ [] ∷ codes "legacy" ∷ [] ∷ [] ∷ []) ∷ (ones ∷ codes "flag" ∷ [] ∷ codes "legacy" ∷ [] ∷ [] ∷ []) ∷ []) ≡ Err (Twice 3)
unfolding decode_pairs digits
twice_flag = refl

first_row_decides : rows_of_records (header ∷ (ones ∷ codes "flag" ∷ [] ∷ codes "legacy" ∷ [] ∷ [] ∷ []) ∷ (ones ∷ codes "flag" ∷ [] ∷ codes "legacy" ∷ [] ∷ [] ∷ []) ∷ (ones ∷ codes "x" ∷ [] ∷ [] ∷ [] ∷ [] ∷ []) ∷ []) ≡ Err (Twice 3)
unfolding decode_pairs digits
first_row_decides = refl

bad_before_twice : rows_of_records (header ∷ (ones ∷ codes "cert" ∷ codes "0" ∷ [] ∷ codes "hash" ∷ (letters 97) ∷ []) ∷ (ones ∷ codes "cert" ∷ codes "0" ∷ [] ∷ codes "hash" ∷ (letters 97) ∷ []) ∷ []) ≡ Err (BadRow 3)
unfolding decode_pairs digits
bad_before_twice = refl

true_has_no_value : rows_of_records (header ∷ (ones ∷ codes "info" ∷ [] ∷ codes "a" ∷ codes "true" ∷ codes "x" ∷ []) ∷ []) ≡ Err (BadRow 2)
unfolding decode_pairs digits
true_has_no_value = refl

bad_oid : rows_of_records (header ∷ (ones ∷ codes "cert" ∷ codes "0" ∷ [] ∷ codes "hash" ∷ (letters 97) ∷ []) ∷ (ones ∷ codes "cert-oid" ∷ codes "0" ∷ codes "1.40" ∷ codes "true" ∷ [] ∷ []) ∷ []) ≡ Err (BadRow 3)
unfolding decode_pairs digits
bad_oid = refl

-- what is known of the keys
keyed_build : (known rows_f (replicate 20 17)).info (codes "Build") ≡ Some (text (codes "007"))
unfolding decode_pairs digits
keyed_build = refl

keyed_tags : (known rows_f (replicate 20 17)).info (codes "Tags") ≡ Some (texts (codes "red") (codes "blue" ∷ []))
unfolding decode_pairs digits
keyed_tags = refl

keyed_nope : (known rows_f (replicate 20 17)).info (codes "Nope") ≡ None
unfolding decode_pairs digits
keyed_nope = refl

-- more rows of one fault each
cert_trusted_twice : rows_of_records (header ∷ (ones ∷ codes "cert" ∷ codes "0" ∷ [] ∷ codes "hash" ∷ letters 97 ∷ []) ∷ (ones ∷ codes "cert-trusted" ∷ codes "0" ∷ [] ∷ [] ∷ [] ∷ []) ∷ (ones ∷ codes "cert-trusted" ∷ codes "0" ∷ [] ∷ [] ∷ [] ∷ []) ∷ []) ≡ Err (Twice 4)
unfolding decode_pairs digits
cert_trusted_twice = refl

item_after_text : rows_of_records (header ∷ (ones ∷ codes "entitlement" ∷ [] ∷ codes "k" ∷ codes "item" ∷ codes "a" ∷ []) ∷ (ones ∷ codes "entitlement" ∷ [] ∷ codes "k" ∷ codes "text" ∷ codes "b" ∷ []) ∷ []) ≡ Err (Twice 3)
unfolding decode_pairs digits
item_after_text = refl

other_hashes_apart : facts_in (or_none (rows_of_records (header ∷ (ones ∷ codes "flag" ∷ [] ∷ codes "legacy" ∷ [] ∷ [] ∷ []) ∷ (twos ∷ codes "flag" ∷ [] ∷ codes "legacy" ∷ [] ∷ [] ∷ []) ∷ (ones ∷ codes "code-name" ∷ [] ∷ codes "x" ∷ [] ∷ [] ∷ []) ∷ []))) ≡ (replicate 20 17, known (or_none (rows_of_records (header ∷ (ones ∷ codes "flag" ∷ [] ∷ codes "legacy" ∷ [] ∷ [] ∷ []) ∷ (ones ∷ codes "code-name" ∷ [] ∷ codes "x" ∷ [] ∷ [] ∷ []) ∷ []))) (replicate 20 17)) ∷ (replicate 20 34, known (or_none (rows_of_records (header ∷ (twos ∷ codes "flag" ∷ [] ∷ codes "legacy" ∷ [] ∷ [] ∷ []) ∷ []))) (replicate 20 34)) ∷ []
unfolding decode_pairs digits
other_hashes_apart = refl
