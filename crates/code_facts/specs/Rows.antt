-- One row of a facts file as plain data, and the words that it is read from. This project's own.
use Rattle.std.specs.Prelude.{ℕ, Bool, true, false, ◌&&◌, nat_le, if◌then◌else◌, List, [], ◌∷◌, length, Option, None, Some, option_map, codes, bytes_eq}
use Rattle.req_tree.specs.HashWord.{hash_word}
use Rattle.req_tree.specs.NumericOrder.{number_of}
use Rattle.req_tree.specs.OidReading.{is_arc}
use Rattle.fact_values.specs.declared.flag.FactFlag.{FactFlag}
use Rattle.fact_values.specs.declared.flag.FactFlag.TheVariants.{AppleAnchor, AppleGeneric, Notarized, LegacyDevId}
use Rattle.fact_values.specs.declared.place.Place.{Place}
use Rattle.fact_values.specs.declared.place.Place.TheVariants.{Info, Entitlement, CertField, CertOid, CertPolicy}
use Rattle.code_facts.specs.OidText.{oid_of_text}

-- what a row gives to a key: a text, a truth value, or one member of a list
pub data Given : Type 0 where
  text : List ℕ → Given
  truth : Bool → Given
  item : List ℕ → Given

-- what a row says of code: a flag; a name; the certificate of a place by its hash; that the certificate of a place
-- is trusted; what a key of a place is given, where the key of an extension or a policy is an object identifier
pub data Fact : Type 0 where
  flag : FactFlag → Fact
  anchor_name : List ℕ → Fact
  code_name : List ℕ → Fact
  certificate : ℕ → List ℕ → Fact
  trust : ℕ → Fact
  entry : Place → List ℕ → Given → Fact

-- a fact about the code of a hash of 20 bytes
pub record Row : Type 0 where
  pub hash : List ℕ
  pub fact : Fact

-- the first word of a fact
pub data Scope : Type 0 where
  flag_scope : Scope
  anchor_name_scope : Scope
  code_name_scope : Scope
  cert_scope : Scope
  cert_trusted_scope : Scope
  cert_field_scope : Scope
  cert_oid_scope : Scope
  cert_policy_scope : Scope
  info_scope : Scope
  entitlement_scope : Scope

-- the scope that a word names
abbrev pub scope_word : List ℕ → Option Scope
scope_word word =
    if bytes_eq word (codes "flag") then Some flag_scope
    else if bytes_eq word (codes "anchor-name") then Some anchor_name_scope
    else if bytes_eq word (codes "code-name") then Some code_name_scope
    else if bytes_eq word (codes "cert") then Some cert_scope
    else if bytes_eq word (codes "cert-trusted") then Some cert_trusted_scope
    else if bytes_eq word (codes "cert-field") then Some cert_field_scope
    else if bytes_eq word (codes "cert-oid") then Some cert_oid_scope
    else if bytes_eq word (codes "cert-policy") then Some cert_policy_scope
    else if bytes_eq word (codes "info") then Some info_scope
    else if bytes_eq word (codes "entitlement") then Some entitlement_scope
    else None

-- there are no bytes
abbrev pub is_empty : List ℕ → Bool
is_empty [] = true
is_empty (b ∷ bytes) = false

-- decimal digits without a leading zero, below 100000
abbrev pub place_word : List ℕ → Option ℕ
place_word word = if is_arc word && nat_le (length word) 5 then Some (number_of word) else None

-- the four flags
abbrev pub flag_word : List ℕ → Option FactFlag
flag_word word =
    if bytes_eq word (codes "anchor-apple") then Some AppleAnchor
    else if bytes_eq word (codes "anchor-apple-generic") then Some AppleGeneric
    else if bytes_eq word (codes "notarized") then Some Notarized
    else if bytes_eq word (codes "legacy") then Some LegacyDevId
    else None

-- what is given, where the condition holds
abbrev pub given_if : Bool → Given → Option Given
given_if true given = Some given
given_if false given = None

-- a value by its kind
abbrev pub given_words : List ℕ → List ℕ → Option Given
given_words kind value =
    if bytes_eq kind (codes "text") then Some (text value)
    else if bytes_eq kind (codes "item") then Some (item value)
    else if bytes_eq kind (codes "true") then given_if (is_empty value) (truth true)
    else if bytes_eq kind (codes "false") then given_if (is_empty value) (truth false)
    else None

-- a fact that has no slot, kind and value
abbrev pub alone : List ℕ → List ℕ → List ℕ → Option Fact → Option Fact
alone slot kind value fact = if is_empty slot && is_empty kind && is_empty value then fact else None

-- the certificate of a place by its hash, where both are there
abbrev pub certificate_from : Option ℕ → Option (List ℕ) → Option Fact
certificate_from None hash = None
certificate_from (Some place) None = None
certificate_from (Some place) (Some hash) = Some (certificate place hash)

-- a certificate has no key, and its kind is hash
abbrev pub certificate_words : List ℕ → List ℕ → List ℕ → List ℕ → Option Fact
certificate_words slot key kind value =
    if is_empty key && bytes_eq kind (codes "hash") then certificate_from (place_word slot) (hash_word value) else None

-- a mark of trust has a slot alone
abbrev pub trust_words : List ℕ → List ℕ → List ℕ → List ℕ → Option Fact
trust_words slot key kind value = if is_empty key && is_empty kind && is_empty value then option_map trust (place_word slot) else None

-- what a key of a place is given, where all three are there
abbrev pub value_from : Option Place → Option (List ℕ) → Option Given → Option Fact
value_from None key given = None
value_from (Some place) None given = None
value_from (Some place) (Some key) None = None
value_from (Some place) (Some key) (Some given) = Some (entry place key given)

-- a place that no slot names
abbrev pub unslotted : List ℕ → Place → Option Place
unslotted slot place = if is_empty slot then Some place else None

-- the fact of a scope and of the words behind it
abbrev pub fact_words : Scope → List ℕ → List ℕ → List ℕ → List ℕ → Option Fact
fact_words flag_scope slot key kind value = alone slot kind value (option_map flag (flag_word key))
fact_words anchor_name_scope slot key kind value = alone slot kind value (Some (anchor_name key))
fact_words code_name_scope slot key kind value = alone slot kind value (Some (code_name key))
fact_words cert_scope slot key kind value = certificate_words slot key kind value
fact_words cert_trusted_scope slot key kind value = trust_words slot key kind value
fact_words cert_field_scope slot key kind value = value_from (option_map CertField (place_word slot)) (Some key) (given_words kind value)
fact_words cert_oid_scope slot key kind value = value_from (option_map CertOid (place_word slot)) (oid_of_text key) (given_words kind value)
fact_words cert_policy_scope slot key kind value = value_from (option_map CertPolicy (place_word slot)) (oid_of_text key) (given_words kind value)
fact_words info_scope slot key kind value = value_from (unslotted slot Info) (Some key) (given_words kind value)
fact_words entitlement_scope slot key kind value = value_from (unslotted slot Entitlement) (Some key) (given_words kind value)

-- the row of a hash and a fact, where there is a fact
abbrev pub row_from : List ℕ → Option Fact → Option Row
row_from hash None = None
row_from hash (Some fact) = Some (record { hash = hash; fact = fact })

-- the row of a hash, a scope and the words behind them, where they are of one of the forms
abbrev pub row_words : Option (List ℕ) → Option Scope → List ℕ → List ℕ → List ℕ → List ℕ → Option Row
row_words None scope slot key kind value = None
row_words (Some hash) None slot key kind value = None
row_words (Some hash) (Some scope) slot key kind value = row_from hash (fact_words scope slot key kind value)

-- the row of a record, where its six fields are of one of the forms
abbrev pub row_of : List (List ℕ) → Option Row
row_of (hash ∷ scope ∷ slot ∷ key ∷ kind ∷ value ∷ []) = row_words (hash_word hash) (scope_word scope) slot key kind value
row_of fields = None
