-- The facts of one hash as what is known of it.
use Rattle.std.specs.Prelude.{ℕ, ◌<◌, Bool, false, List, [], length, map, slice_get, Option, None, Some, option_map}
use Rattle.std.specs.Option.{option_copied}
use Rattle.std.specs.Borrow.{Bor}
use Rattle.req_tree.specs.Facts as f
use Rattle.req_tree.specs.Facts.{Known, nothing}
use Rattle.fact_values.specs.Keyed.{values_of, names_of}
use Rattle.fact_values.specs.declared.certificate.Certificate.{Certificate}
use Rattle.fact_values.specs.declared.facts.Facts.{Facts}
use Rattle.fact_values.specs.declared.flag.FactFlag.{FactFlag}
use Rattle.fact_values.specs.declared.flag.FactFlag.TheVariants.{AppleAnchor, AppleGeneric, Notarized, LegacyDevId}
use Rattle.fact_values.specs.declared.place.Place.{Place}
use Rattle.fact_values.specs.declared.place.Place.TheVariants.{Info, Entitlement, CertField, CertOid, CertPolicy}

-- a certificate as plain data
abbrev pub certificate_of : Certificate → f.Certificate
certificate_of c = record {
  hash = c.hash.bytes;
  trusted = c.trusted;
  field = values_of c.fields;
  oid = values_of c.oids;
  policy = values_of c.policies;
}

-- the certificate that a look-up found
abbrev pub certificate_found : Option (Bor Certificate) → Option f.Certificate
certificate_found found = option_map certificate_of (option_copied found)

-- what is known by these facts
abbrev pub knowledge_of : Facts → Known
knowledge_of facts = record {
  apple_anchor = facts.apple_anchor;
  apple_generic = facts.apple_generic;
  notarized = facts.notarized;
  legacy_dev_id = facts.legacy_dev_id;
  anchor_name = names_of facts.anchor_names;
  code_name = names_of facts.code_names;
  chain = map certificate_of facts.chain.items;
  info = values_of facts.info;
  entitlement = values_of facts.entitlements;
}

-- of a hash without facts nothing is known
abbrev pub known_in : Option (Bor Facts) → Known
known_in None = nothing
known_in (Some facts) = knowledge_of facts.now

-- the flag
abbrev pub has_flag : FactFlag → Known → Bool
has_flag AppleAnchor k = k.apple_anchor
has_flag AppleGeneric k = k.apple_generic
has_flag Notarized k = k.notarized
has_flag LegacyDevId k = k.legacy_dev_id

-- of a certificate that isn't there
abbrev pub hash_in : Option f.Certificate → List ℕ
hash_in None = []
hash_in (Some c) = c.hash

-- whether a certificate is trusted; one that isn't there is not
abbrev pub trusted_in : Option f.Certificate → Bool
trusted_in None = false
trusted_in (Some c) = c.trusted

-- the hash of the certificate of a place
abbrev pub hash_at : ℕ → Known → List ℕ
hash_at place k = hash_in (slice_get k.chain place)

-- whether it is trusted
abbrev pub trusted_at : ℕ → Known → Bool
trusted_at place k = trusted_in (slice_get k.chain place)

-- one of a certificate's lists of values, where the certificate is there
abbrev pub list_in : (f.Certificate → List ℕ → Option f.Value) → Option f.Certificate → List ℕ → Option f.Value
list_in values None key = None
list_in values (Some c) key = values c key

-- the value at a key of a place
abbrev pub value_at : Place → Known → List ℕ → Option f.Value
value_at Info k = k.info
value_at Entitlement k = k.entitlement
value_at (CertField place) k = list_in (λ c. c.field) (slice_get k.chain place)
value_at (CertOid place) k = list_in (λ c. c.oid) (slice_get k.chain place)
value_at (CertPolicy place) k = list_in (λ c. c.policy) (slice_get k.chain place)

-- the chain has the certificate that a place names
abbrev pub HasPlace : Place → Known → Type 0
HasPlace Info k = Unit {0}
HasPlace Entitlement k = Unit {0}
HasPlace (CertField place) k = place < length k.chain
HasPlace (CertOid place) k = place < length k.chain
HasPlace (CertPolicy place) k = place < length k.chain
