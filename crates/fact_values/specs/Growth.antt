-- What is known, with one fact more.
use Rattle.std.specs.Prelude.{ℕ, zero, suc, true, false, List, [], ◌∷◌, ◌++◌, Option, None}
use Rattle.req_tree.specs.Facts.{Known, Certificate, Value}
use Rattle.fact_values.specs.Keyed.{with_name, with_value, with_item}
use Rattle.fact_values.specs.declared.flag.FactFlag.{FactFlag}
use Rattle.fact_values.specs.declared.flag.FactFlag.TheVariants.{AppleAnchor, AppleGeneric, Notarized, LegacyDevId}
use Rattle.fact_values.specs.declared.place.Place.{Place}
use Rattle.fact_values.specs.declared.place.Place.TheVariants.{Info, Entitlement, CertField, CertOid, CertPolicy}

-- what is known, with this flag set
abbrev pub with_flag : FactFlag → Known → Known
with_flag AppleAnchor k = record k { apple_anchor = true }
with_flag AppleGeneric k = record k { apple_generic = true }
with_flag Notarized k = record k { notarized = true }
with_flag LegacyDevId k = record k { legacy_dev_id = true }

-- one more name of the anchor
abbrev pub with_anchor_name : List ℕ → Known → Known
with_anchor_name name k = record k { anchor_name = with_name name k.anchor_name }

-- one more name of the code
abbrev pub with_code_name : List ℕ → Known → Known
with_code_name name k = record k { code_name = with_name name k.code_name }

-- a certificate of which only its hash is known
abbrev pub new_certificate : List ℕ → Certificate
new_certificate hash = record {
  hash = hash;
  trusted = false;
  field = λ key. None;
  oid = λ key. None;
  policy = λ key. None;
}

-- one more certificate at the end of the chain
abbrev pub with_certificate : List ℕ → Known → Known
with_certificate hash k = record k { chain = k.chain ++ new_certificate hash ∷ [] }

-- a list whose item at a place is changed
abbrev pub changed_at : {A : Type 0} → ℕ → (A → A) → List A → List A
changed_at place change [] = []
changed_at zero change (x ∷ rest) = change x ∷ rest
changed_at (suc place) change (x ∷ rest) = x ∷ changed_at place change rest

-- the certificate at a place of the chain, trusted
abbrev pub with_trust : ℕ → Known → Known
with_trust place k = record k { chain = changed_at place (λ c. record c { trusted = true }) k.chain }

-- the values of a place, changed
abbrev pub with_values : Place → ((List ℕ → Option Value) → List ℕ → Option Value) → Known → Known
with_values Info change k = record k { info = change k.info }
with_values Entitlement change k = record k { entitlement = change k.entitlement }
with_values (CertField place) change k = record k { chain = changed_at place (λ c. record c { field = change c.field }) k.chain }
with_values (CertOid place) change k = record k { chain = changed_at place (λ c. record c { oid = change c.oid }) k.chain }
with_values (CertPolicy place) change k = record k { chain = changed_at place (λ c. record c { policy = change c.policy }) k.chain }

-- this value at a key of a place
abbrev pub with_value_at : Place → List ℕ → Value → Known → Known
with_value_at place key value k = with_values place (with_value key value) k

-- one more member of the list at a key of a place
abbrev pub with_item_at : Place → List ℕ → List ℕ → Known → Known
with_item_at place key member k = with_values place (with_item key member) k
