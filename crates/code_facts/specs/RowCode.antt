-- The program's row of a facts file as plain data.
use Rattle.std.specs.Prelude.{ℕ, List, [], Option, None, Some}
use Rattle.code_facts.specs.declared.row.Fact.{Fact as CodeFact}
use Rattle.code_facts.specs.declared.row.Fact.TheVariants as fact
use Rattle.code_facts.specs.declared.row.Given.{Given as CodeGiven}
use Rattle.code_facts.specs.declared.row.Given.TheVariants as given
use Rattle.code_facts.specs.declared.row.Key.{Key as CodeKey}
use Rattle.code_facts.specs.declared.row.Key.TheVariants as key
use Rattle.code_facts.specs.declared.row.Row.{Row as CodeRow}
use Rattle.code_facts.specs.declared.scope.Scope.{Scope as CodeScope}
use Rattle.code_facts.specs.declared.scope.Scope.TheVariants as scope
use Rattle.code_facts.specs.Rows.{Scope, flag_scope, anchor_name_scope, code_name_scope, cert_scope, cert_trusted_scope, cert_field_scope, cert_oid_scope, cert_policy_scope, info_scope, entitlement_scope, Given, text, truth, item, Fact, flag, anchor_name, code_name, certificate, trust, entry, Row}

-- the program's scope as plain data
abbrev pub scope_of : CodeScope → Scope
scope_of scope.Flag = flag_scope
scope_of scope.AnchorName = anchor_name_scope
scope_of scope.CodeName = code_name_scope
scope_of scope.Cert = cert_scope
scope_of scope.CertTrusted = cert_trusted_scope
scope_of scope.CertField = cert_field_scope
scope_of scope.CertOid = cert_oid_scope
scope_of scope.CertPolicy = cert_policy_scope
scope_of scope.Info = info_scope
scope_of scope.Entitlement = entitlement_scope

-- what the program has a row give to a key, as plain data
abbrev pub given_of : CodeGiven → Given
given_of (given.Text bytes) = text bytes.now
given_of (given.Truth b) = truth b
given_of (given.Item bytes) = item bytes.now

-- the bytes of the program's key: those of a text, or of an object identifier
abbrev pub key_of : CodeKey → List ℕ
key_of (key.Text bytes) = bytes.now
key_of (key.Oid oid) = oid

-- the program's fact as plain data
abbrev pub fact_of : CodeFact → Fact
fact_of (fact.Flag which) = flag which
fact_of (fact.AnchorName name) = anchor_name name.now
fact_of (fact.CodeName name) = code_name name.now
fact_of (fact.Certificate place hash) = certificate place.number hash.bytes
fact_of (fact.Trust place) = trust place.number
fact_of (fact.Entry place name what) = entry place (key_of name) (given_of what)

-- the program's row as plain data: the bytes of its hash, and its fact
abbrev pub row_of_code : CodeRow → Row
row_of_code row = record { hash = row.hash.bytes; fact = fact_of row.fact }

-- a field of a record, where there is one
abbrev pub field_or_none : Option (List ℕ) → List ℕ
field_or_none None = []
field_or_none (Some bytes) = bytes
