-- Rows of meaning, computed by the definitions alone: no code runs most of them, so that a wrong line of
-- a definition is refused here.
use Rattle.std.specs.Prelude.{◌≡◌, ℕ, pos, negsuc, ◌+◌, ◌^◌, Bool, true, false, ◌||◌, if◌then◌else◌, List, [], ◌∷◌, replicate, map, refl, codes, Option, Some, None}
use Rattle.std.specs.Str.{bytes_eq}
use Rattle.std.specs.declared.cmp.Ordering.{Ordering}
use Rattle.std.specs.declared.cmp.Ordering.TheVariants as o
use Rattle.req_tree.specs.declared.matching.Match.TheVariants.{Exists, Absent, Equal, Contains, Begins, Ends, Less, Greater, LessEqual, GreaterEqual}
use Rattle.req_tree.specs.Tree as t
use Rattle.req_tree.specs.Tree.{Tree}
use Rattle.req_tree.specs.Subject.{Subject}
use Rattle.req_tree.specs.Facts.{Value, text, truth, texts, Certificate, Known, Facts, no_facts, nothing}
use Rattle.req_tree.specs.NumericOrder.{numeric_order}
use Rattle.req_tree.specs.Meaning.{value_match, mean}

-- the value of a key by the first entry that has it
abbrev by_key : List (List ℕ × Value) → List ℕ → Option Value
by_key [] key = None
by_key (entry ∷ rest) key = if bytes_eq entry.0 key then Some entry.1 else by_key rest key

abbrev no_values : List ℕ → Option Value
no_values = by_key []

abbrev signing : List ℕ
signing = 42 ∷ 134 ∷ 72 ∷ 134 ∷ 247 ∷ 99 ∷ 100 ∷ 6 ∷ 1 ∷ 13 ∷ []

abbrev developer : List ℕ
developer = 42 ∷ 134 ∷ 72 ∷ 134 ∷ 247 ∷ 99 ∷ 100 ∷ 6 ∷ 2 ∷ 6 ∷ []

abbrev leaf : Certificate
leaf = record {
  hash = replicate 20 170;
  trusted = false;
  field = by_key ((codes "subject.OU", text (codes "2DC432GLL2")) ∷ []);
  oid = by_key ((signing, truth true) ∷ []);
  policy = by_key ((developer, truth false) ∷ []);
}

abbrev between : Certificate
between = record { hash = replicate 20 187; trusted = false; field = no_values; oid = by_key ((developer, truth true) ∷ []); policy = no_values }

abbrev anchor : Certificate
anchor = record { hash = replicate 20 204; trusted = true; field = no_values; oid = no_values; policy = no_values }

abbrev known_code : Known
known_code = record nothing {
  apple_generic = true;
  legacy_dev_id = true;
  anchor_name = λ name. bytes_eq name (codes "root");
  code_name = λ name. bytes_eq name (codes "tool");
  chain = leaf ∷ between ∷ anchor ∷ [];
  info = by_key ((codes "Version", text (codes "10.9")) ∷ (codes "Build", text (codes "007")) ∷ (codes "Tags", texts (codes "red") (codes "blue" ∷ [])) ∷ (codes "Off", truth false) ∷ (codes "On", truth true) ∷ []);
  entitlement = by_key ((codes "com.apple.x", text (codes "abc")) ∷ []);
}

abbrev signed : Subject
signed = record { cdhash = replicate 20 17; identifier = codes "com.example.app"; platform = 2 }

abbrev other : Subject
other = record { cdhash = replicate 20 34; identifier = codes "com.example.app"; platform = 0 }

abbrev facts : Facts
facts = (replicate 20 17, known_code) ∷ []

-- each tree of the rows means of the signed code what its row says
abbrev Rows : List (Tree × Bool) → Type 0
Rows rows = map (λ (row : Tree × Bool). mean row.0 signed facts) rows ≡ map (λ (row : Tree × Bool). row.1) rows

-- slots from the leaf and from the anchor, and slots that no certificate has
slots : Rows (
    (t.anchor_hash (pos 0) (replicate 20 170), true) ∷ (t.anchor_hash (pos 1) (replicate 20 187), true)
    ∷ (t.anchor_hash (pos 2) (replicate 20 204), true) ∷ (t.anchor_hash (negsuc 0) (replicate 20 204), true)
    ∷ (t.anchor_hash (negsuc 1) (replicate 20 187), true) ∷ (t.anchor_hash (negsuc 2) (replicate 20 170), true)
    ∷ (t.anchor_hash (pos 0) (replicate 20 204), false) ∷ (t.trusted_cert (pos 3), false)
    ∷ (t.trusted_cert (negsuc 3), false) ∷ (t.trusted_cert (pos 2), true) ∷ (t.trusted_cert (negsuc 0), true)
    ∷ (t.trusted_cert (pos 0), false) ∷ (t.trusted_any, true)
    ∷ (t.cert_field (pos 3) (codes "subject.OU") Exists, false) ∷ (t.cert_field (pos 3) (codes "subject.OU") Absent, false)
    ∷ (t.cert_field (negsuc 3) (codes "subject.OU") Absent, false) ∷ (t.cert_field (pos 0) (codes "subject.CN") Absent, true)
    ∷ (t.cert_field (pos 0) (codes "subject.OU") (Equal (codes "2DC432GLL2")), true)
    ∷ (t.cert_field (negsuc 2) (codes "subject.OU") (Equal (codes "2DC432GLL2")), true)
    ∷ (t.cert_field (pos 1) (codes "subject.OU") Exists, false)
    ∷ (t.cert_oid (pos 0) signing Exists, true) ∷ (t.cert_oid (pos 1) developer Exists, true)
    ∷ (t.cert_oid (pos 0) developer Exists, false) ∷ (t.cert_oid (pos 0) developer Absent, true)
    ∷ (t.cert_policy (pos 0) developer Exists, false) ∷ (t.cert_policy (pos 0) developer Absent, false)
    ∷ (t.cert_policy (pos 0) signing Absent, true) ∷ (t.cert_policy (pos 7) signing Absent, false) ∷ [])
slots = refl

-- the values of keys, of which one is a list and two are truth values
values : Rows (
    (t.info_field (codes "Off") Exists, false) ∷ (t.info_field (codes "Off") Absent, false)
    ∷ (t.info_field (codes "On") Exists, true) ∷ (t.info_field (codes "On") (Equal (codes "true")), false)
    ∷ (t.info_field (codes "On") (Begins []), false) ∷ (t.info_field (codes "Nope") Absent, true)
    ∷ (t.info_field (codes "Nope") Exists, false) ∷ (t.info_field (codes "Nope") (Equal []), false)
    ∷ (t.info_field (codes "Tags") (Equal (codes "blue")), true) ∷ (t.info_field (codes "Tags") (Equal (codes "red")), true)
    ∷ (t.info_field (codes "Tags") (Equal (codes "green")), false) ∷ (t.info_field (codes "Tags") Exists, true)
    ∷ (t.info_field (codes "Tags") Absent, false)
    ∷ (t.info_field (codes "Build") (Equal (codes "7")), false) ∷ (t.legacy_info (codes "Build") (codes "007"), true)
    ∷ (t.legacy_info (codes "Build") (codes "7"), false) ∷ (t.legacy_info (codes "Nope") [], false)
    ∷ (t.entitlement_field (codes "com.apple.x") (Contains (codes "b")), true)
    ∷ (t.entitlement_field (codes "com.apple.x") (Contains (codes "ac")), false)
    ∷ (t.entitlement_field (codes "com.apple.x") (Begins (codes "ab")), true)
    ∷ (t.entitlement_field (codes "com.apple.x") (Begins (codes "bc")), false)
    ∷ (t.entitlement_field (codes "com.apple.x") (Ends (codes "bc")), true)
    ∷ (t.entitlement_field (codes "com.apple.x") (Ends (codes "ab")), false)
    ∷ (t.entitlement_field (codes "Version") Exists, false) ∷ [])
values = refl

-- comparisons by the numbers in a text
numbers : Rows (
    (t.info_field (codes "Version") (Less (codes "10.10")), true) ∷ (t.info_field (codes "Version") (Greater (codes "10.10")), false)
    ∷ (t.info_field (codes "Version") (LessEqual (codes "10.10")), true) ∷ (t.info_field (codes "Version") (GreaterEqual (codes "10.10")), false)
    ∷ (t.info_field (codes "Version") (Greater (codes "10.8")), true) ∷ (t.info_field (codes "Version") (Less (codes "10.9")), false)
    ∷ (t.info_field (codes "Build") (LessEqual (codes "7")), true) ∷ (t.info_field (codes "Build") (GreaterEqual (codes "7")), true)
    ∷ (t.info_field (codes "Build") (Less (codes "7")), false) ∷ (t.info_field (codes "Build") (Greater (codes "7")), false) ∷ [])
numbers = refl

-- flags, names, and what the subject itself has
flags : Rows (
    (t.apple_generic, true) ∷ (t.apple_anchor, false) ∷ (t.notarized, false) ∷ (t.legacy_dev_id, true)
    ∷ (t.named_anchor (codes "root"), true) ∷ (t.named_anchor (codes "tool"), false)
    ∷ (t.named_code (codes "tool"), true) ∷ (t.named_code (codes "root"), false)
    ∷ (t.platform (pos 2), true) ∷ (t.platform (pos 0), false) ∷ (t.platform (negsuc 1), false)
    ∷ (t.ident (codes "com.example.app"), true) ∷ (t.ident (codes "com.example"), false)
    ∷ (t.cd_hash (replicate 20 17), true) ∷ (t.cd_hash (replicate 20 34), false)
    ∷ (t.skip_false (2 ^ 31 + 24) [], false) ∷ (t.skip_next (2 ^ 30 + 24) [] t.always, true) ∷ (t.skip_next (2 ^ 30 + 24) [] t.never, false)
    ∷ (t.negate t.never, true) ∷ (t.negate t.always, false) ∷ (t.never, false) ∷ (t.always, true)
    ∷ (t.both t.always t.never, false) ∷ (t.both t.never t.always, false) ∷ (t.both t.always t.always, true)
    ∷ (t.either t.always t.never, true) ∷ (t.either t.never t.always, true) ∷ (t.either t.never t.never, false) ∷ [])
flags = refl

-- nothing is known of another hash
other_hash : (mean t.apple_generic other facts ≡ false) × (mean t.trusted_any other facts ≡ false) × (mean (t.info_field (codes "Version") Exists) other facts ≡ false)
    × (mean (t.info_field (codes "Version") Absent) other facts ≡ true) × (mean (t.named_anchor (codes "root")) other facts ≡ false)
    × (mean (t.cert_field (pos 0) (codes "subject.OU") Absent) other facts ≡ false)
other_hash = (refl, refl, refl, refl, refl, refl)

-- no hash is listed
without_facts : (mean t.apple_generic signed no_facts ≡ false) × (mean (t.info_field (codes "Version") Absent) signed no_facts ≡ true)
    × (mean (t.entitlement_field (codes "com.apple.x") Absent) signed no_facts ≡ true) × (mean (t.named_code (codes "tool")) signed no_facts ≡ false)
without_facts = (refl, refl, refl, refl)

-- a truth value, a text and several texts
each_value : (value_match None Absent ≡ true) × (value_match None Exists ≡ false) × (value_match (Some (truth true)) Absent ≡ false)
    × (value_match (Some (text [])) Exists ≡ true) × (value_match (Some (texts (codes "a") [])) (Equal (codes "a")) ≡ true)
    × (value_match (Some (texts (codes "b") (codes "a" ∷ []))) Absent ≡ false)
each_value = (refl, refl, refl, refl, refl, refl)

-- the first text of each row stands to the second as the row says
abbrev Orders : List (List ℕ × List ℕ × Ordering) → Type 0
Orders rows = map (λ (row : List ℕ × List ℕ × Ordering). numeric_order row.0 row.1) rows ≡ map (λ (row : List ℕ × List ℕ × Ordering). row.2) rows

-- runs as numbers of any length, other bytes as bytes, and the text that ends first is the less
orders : Orders (
    ([], [], o.Equal) ∷ ([], codes "0", o.Less) ∷ (codes "a", [], o.Greater)
    ∷ (codes "1", codes "2", o.Less) ∷ (codes "2", codes "10", o.Less) ∷ (codes "10", codes "9", o.Greater)
    ∷ (codes "007", codes "7", o.Equal) ∷ (codes "0", codes "000", o.Equal)
    ∷ (codes "99999999999999999999", codes "100000000000000000000", o.Less)
    ∷ (codes "1.9", codes "1.10", o.Less) ∷ (codes "1.9", codes "1", o.Greater) ∷ (codes "1", codes "1.0", o.Less)
    ∷ (codes "1a", codes "1b", o.Less) ∷ (codes "a1", codes "b0", o.Less) ∷ (codes "a2", codes "a10", o.Less)
    ∷ (codes "1", codes "a", o.Less) ∷ (codes "a", codes "1", o.Greater) ∷ (codes "1", codes "/", o.Greater) ∷ (codes "/", codes "1", o.Less)
    ∷ (codes "19", codes "2/", o.Greater) ∷ (codes "a01b", codes "a1c", o.Less) ∷ (codes "A", codes "a", o.Less) ∷ (codes "B", codes "B", o.Equal) ∷ [])
orders = refl
