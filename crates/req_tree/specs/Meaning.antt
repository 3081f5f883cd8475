-- What a requirement means of a subject and what is known of it: a truth value, one line for each
-- operator of the language.
use Rattle.std.specs.Prelude.{ℕ, ℤ, pos, negsuc, ◌-◌, suc, Bool, true, false, not, ◌&&◌, ◌||◌, nat_lt, nat_eq, if◌then◌else◌, List, [], ◌∷◌, length, Option, None, Some, slice_get}
use Rattle.std.specs.List.{list_any, starts_with, ends_with}
use Rattle.std.specs.Ordering.{is_lt, is_gt, is_le, is_ge, int_eq}
use Rattle.std.specs.Str.{bytes_eq}
use Rattle.req_tree.specs.declared.matching.Match.{Match}
use Rattle.req_tree.specs.declared.matching.Match.TheVariants.{Exists, Absent, Equal, Contains, Begins, Ends, Less, Greater, LessEqual, GreaterEqual}
use Rattle.req_tree.specs.Tree as t
use Rattle.req_tree.specs.Tree.{Tree}
use Rattle.req_tree.specs.Subject.{Subject}
use Rattle.req_tree.specs.Facts.{Facts, Known, Certificate, Value, text, truth, texts, known_of}
use Rattle.req_tree.specs.NumericOrder.{numeric_order}

-- the part stands somewhere in the text
abbrev pub has_part : List ℕ → List ℕ → Bool
has_part [] part = starts_with nat_eq [] part
has_part (b ∷ rest) part = starts_with nat_eq (b ∷ rest) part || has_part rest part

-- a text against a test that asks for one
abbrev pub text_match : List ℕ → Match → Bool
text_match bytes Exists = true
text_match bytes Absent = false
text_match bytes (Equal datum) = bytes_eq bytes datum
text_match bytes (Contains datum) = has_part bytes datum
text_match bytes (Begins datum) = starts_with nat_eq bytes datum
text_match bytes (Ends datum) = ends_with nat_eq bytes datum
text_match bytes (Less datum) = is_lt (numeric_order bytes datum)
text_match bytes (Greater datum) = is_gt (numeric_order bytes datum)
text_match bytes (LessEqual datum) = is_le (numeric_order bytes datum)
text_match bytes (GreaterEqual datum) = is_ge (numeric_order bytes datum)

-- the test asks only that a value be there
abbrev pub is_exists : Match → Bool
is_exists Exists = true
is_exists test = false

-- the test asks that no value be there
abbrev pub is_absent : Match → Bool
is_absent Absent = true
is_absent test = false

-- no value is Absent alone; a truth value answers Exists by itself and no other test; of several
-- texts one has to match
abbrev pub value_match : Option Value → Match → Bool
value_match None test = is_absent test
value_match (Some (text bytes)) test = text_match bytes test
value_match (Some (truth b)) test = is_exists test && b
value_match (Some (texts first others)) test = text_match first test || list_any (λ bytes. text_match bytes test) others

-- the certificate of a slot: from the leaf at 0 upwards, from the anchor at -1 downwards
abbrev pub cert_at : ℤ → List Certificate → Option Certificate
cert_at (pos k) chain = slice_get chain k
cert_at (negsuc k) chain = if nat_lt k (length chain) then slice_get chain (length chain - suc k) else None

-- a test of the certificate of a slot is false where the chain has none
abbrev pub of_cert : Option Certificate → (Certificate → Bool) → Bool
of_cert None test = false
of_cert (Some certificate) test = test certificate

-- whether the requirement holds of a subject of whose hash so much is known
abbrev pub means : Tree → Subject → Known → Bool
means t.never s k = false
means t.always s k = true
means (t.ident value) s k = bytes_eq s.identifier value
means t.apple_anchor s k = k.apple_anchor
means (t.anchor_hash slot hash) s k = of_cert (cert_at slot k.chain) (λ c. bytes_eq c.hash hash)
means (t.legacy_info key value) s k = value_match (k.info key) (Equal value)
means (t.both left right) s k = means left s k && means right s k
means (t.either left right) s k = means left s k || means right s k
means (t.cd_hash hash) s k = bytes_eq s.cdhash hash
means (t.negate inner) s k = not (means inner s k)
means (t.info_field key test) s k = value_match (k.info key) test
means (t.cert_field slot key test) s k = of_cert (cert_at slot k.chain) (λ c. value_match (c.field key) test)
means (t.trusted_cert slot) s k = of_cert (cert_at slot k.chain) (λ c. c.trusted)
means t.trusted_any s k = list_any (λ (c : Certificate). c.trusted) k.chain
means (t.cert_oid slot oid test) s k = of_cert (cert_at slot k.chain) (λ c. value_match (c.oid oid) test)
means t.apple_generic s k = k.apple_generic
means (t.entitlement_field key test) s k = value_match (k.entitlement key) test
means (t.cert_policy slot oid test) s k = of_cert (cert_at slot k.chain) (λ c. value_match (c.policy oid) test)
means (t.named_anchor name) s k = k.anchor_name name
means (t.named_code name) s k = k.code_name name
means (t.platform number) s k = int_eq (pos s.platform) number
means t.notarized s k = k.notarized
means t.legacy_dev_id s k = k.legacy_dev_id
means (t.skip_false op skipped) s k = false
means (t.skip_next op skipped inner) s k = means inner s k

-- whether the requirement holds, by what is known of the subject's hash
abbrev pub mean : Tree → Subject → Facts → Bool
mean tree s f = means tree s (known_of f s.cdhash)
