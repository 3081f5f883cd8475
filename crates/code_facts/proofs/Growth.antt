-- What is known of a hash by facts that were taken one after another, and by one fact more.
use Rattle.std.proofs.Common.{◌≡◌, ℕ, zero, suc, ◌+◌, ◌<◌, Bool, true, false, ◌&&◌, nat_lt, ◌==◌, if◌then◌else◌, List, [], ◌∷◌, ◌++◌, length, slice_get, Option, None, Some, refl, sym, ap, subst, ◌∙◌, arith, zero-add}
use Rattle.std.specs.List.{list_any, list_all, cons_option}
use Rattle.std.specs.Str.{bytes_eq}
use Rattle.req_tree.specs.Facts as f
use Rattle.req_tree.specs.Facts.{Known, Certificate, Value}
use Rattle.fact_values.specs.declared.flag.FactFlag.{FactFlag}
use Rattle.fact_values.specs.declared.flag.FactFlag.TheVariants.{AppleAnchor, AppleGeneric, Notarized, LegacyDevId}
use Rattle.fact_values.specs.declared.place.Place.{Place}
use Rattle.fact_values.specs.declared.place.Place.TheVariants.{Info, Entitlement, CertField, CertOid, CertPolicy}
use Rattle.fact_values.specs.Keyed.{member_added}
use Rattle.fact_values.specs.Knowledge.{trusted_at, value_at}
use Rattle.fact_values.specs.Growth.{changed_at, new_certificate, with_values}
use Rattle.code_facts.specs.Rows.{Given, text, truth, item, Fact, flag, anchor_name, code_name, certificate, trust, entry}
use Rattle.code_facts.specs.FactsFile.{cert_hash, certs, is_there, fits, same_place, is_flag, is_anchor_name, is_code_name, is_trust}
use Rattle.code_facts.specs.Knowledge.{given_when, given_at, givens, item_bytes, value_given, value_by, certificate_by, chain_by, known_by}
use Rattle.code_facts.specs.Growing.{is_given_twice, is_known, with_given, with_fact}
use Rattle.code_facts.specs.Tables.{is_below, AreSound}
use Rattle.code_facts.proofs.Bits.{and_left, and_right, no_test, same_any, more_any, any_when, same_map, more_map, same_bytes, same_number, number_same, number_other, is_less}

-- what is known is equal where its parts are
known_path : (a b : Known) → a.apple_anchor ≡ b.apple_anchor → a.apple_generic ≡ b.apple_generic → a.notarized ≡ b.notarized → a.legacy_dev_id ≡ b.legacy_dev_id
    → ((name : List ℕ) → a.anchor_name name ≡ b.anchor_name name) → ((name : List ℕ) → a.code_name name ≡ b.code_name name) → a.chain ≡ b.chain
    → ((key : List ℕ) → a.info key ≡ b.info key) → ((key : List ℕ) → a.entitlement key ≡ b.entitlement key) → a ≡ b
known_path a b e1 e2 e3 e4 e5 e6 e7 e8 e9 = λ i. record {
  apple_anchor = e1 i;
  apple_generic = e2 i;
  notarized = e3 i;
  legacy_dev_id = e4 i;
  anchor_name = λ name. e5 name i;
  code_name = λ name. e6 name i;
  chain = e7 i;
  info = λ key. e8 key i;
  entitlement = λ key. e9 key i;
}

certificate_path : (a b : Certificate) → a.hash ≡ b.hash → a.trusted ≡ b.trusted → ((key : List ℕ) → a.field key ≡ b.field key)
    → ((key : List ℕ) → a.oid key ≡ b.oid key) → ((key : List ℕ) → a.policy key ≡ b.policy key) → a ≡ b
certificate_path a b e1 e2 e3 e4 e5 = λ i. record {
  hash = e1 i;
  trusted = e2 i;
  field = λ key. e3 key i;
  oid = λ key. e4 key i;
  policy = λ key. e5 key i;
}

-- a fact that gives nothing to a key
same_value : (facts : List Fact) (fact : Fact) (place : Place) (key : List ℕ) → given_at place key fact ≡ None → value_by (facts ++ fact ∷ []) place key ≡ value_by facts place key
same_value facts fact place key h = ap value_given (same_map (given_at place key) facts fact h)

-- the fact says nothing of the certificate of a place
record IsSilent (fact : Fact) (place : ℕ) : Type 0 where
  silent_trust : is_trust place fact ≡ false
  silent_field : (key : List ℕ) → given_at (CertField place) key fact ≡ None
  silent_oid : (key : List ℕ) → given_at (CertOid place) key fact ≡ None
  silent_policy : (key : List ℕ) → given_at (CertPolicy place) key fact ≡ None

same_certificate : (facts : List Fact) (fact : Fact) (place : ℕ) (hash : List ℕ) → IsSilent fact place → certificate_by (facts ++ fact ∷ []) place hash ≡ certificate_by facts place hash
same_certificate facts fact place hash h =
    certificate_path (certificate_by (facts ++ fact ∷ []) place hash) (certificate_by facts place hash) refl (same_any (is_trust place) facts fact h.silent_trust)
    (λ key. same_value facts fact (CertField place) key (h.silent_field key)) (λ key. same_value facts fact (CertOid place) key (h.silent_oid key)) (λ key. same_value facts fact (CertPolicy place) key (h.silent_policy key))

same_chain : (facts : List Fact) (fact : Fact) → ((place : ℕ) → IsSilent fact place) → (start : ℕ) (hashes : List (List ℕ)) → chain_by (facts ++ fact ∷ []) start hashes ≡ chain_by facts start hashes
same_chain facts fact h start [] = refl
same_chain facts fact h start (hash ∷ rest) =
    ap (λ c. c ∷ chain_by (facts ++ fact ∷ []) (start + 1) rest) (same_certificate facts fact start hash (h start))
    ∙ ap (λ cs. certificate_by facts start hash ∷ cs) (same_chain facts fact h (start + 1) rest)

-- a fact about one certificate leaves those behind it
later_chain : (facts : List Fact) (fact : Fact) (at : ℕ) → ((place : ℕ) → (place ≡ at → ⊥) → IsSilent fact place) → (start : ℕ) → at < start → (hashes : List (List ℕ))
    → chain_by (facts ++ fact ∷ []) start hashes ≡ chain_by facts start hashes
later_chain facts fact at h start above [] = refl
later_chain facts fact at h start above (hash ∷ rest) =
    ap (λ c. c ∷ chain_by (facts ++ fact ∷ []) (start + 1) rest) (same_certificate facts fact start hash (h start (λ e. omega arith)))
    ∙ ap (λ cs. certificate_by facts start hash ∷ cs) (later_chain facts fact at h (start + 1) (omega arith) rest)

-- and changes that one
changed_chain : (facts : List Fact) (fact : Fact) (at : ℕ) (change : Certificate → Certificate) → ((place : ℕ) → (place ≡ at → ⊥) → IsSilent fact place)
    → ((hash : List ℕ) → certificate_by (facts ++ fact ∷ []) at hash ≡ change (certificate_by facts at hash)) → (start left : ℕ) → start + left ≡ at → (hashes : List (List ℕ))
    → chain_by (facts ++ fact ∷ []) start hashes ≡ changed_at left change (chain_by facts start hashes)
changed_chain facts fact at change h new start left sum [] = refl
changed_chain facts fact at change h new start zero sum (hash ∷ rest) =
    let here : start ≡ at = omega arith in
    let one : certificate_by (facts ++ fact ∷ []) start hash ≡ change (certificate_by facts start hash) = subst (λ p. certificate_by (facts ++ fact ∷ []) p hash ≡ change (certificate_by facts p hash)) (sym here) (new hash) in
    ap (λ c. c ∷ chain_by (facts ++ fact ∷ []) (start + 1) rest) one
    ∙ ap (λ cs. change (certificate_by facts start hash) ∷ cs) (later_chain facts fact at h (start + 1) (omega arith) rest)
changed_chain facts fact at change h new start (suc left) sum (hash ∷ rest) =
    let here : certificate_by (facts ++ fact ∷ []) start hash ≡ certificate_by facts start hash = same_certificate facts fact start hash (h start (λ e. omega arith)) in
    let more : chain_by (facts ++ fact ∷ []) (start + 1) rest ≡ changed_at left change (chain_by facts (start + 1) rest) = changed_chain facts fact at change h new (start + 1) left (omega arith) rest in
    ap (λ c. c ∷ chain_by (facts ++ fact ∷ []) (start + 1) rest) here
    ∙ ap (λ cs. certificate_by facts start hash ∷ cs) more

chain_append : (facts : List Fact) (start : ℕ) (hashes : List (List ℕ)) (hash : List ℕ) → chain_by facts start (hashes ++ hash ∷ []) ≡ chain_by facts start hashes ++ certificate_by facts (start + length hashes) hash ∷ []
chain_append facts start [] hash = let e : start ≡ start + 0 = omega arith in ap (λ n. certificate_by facts n hash ∷ []) e
chain_append facts start (h ∷ rest) hash =
    let e : start + 1 + length rest ≡ start + length (h ∷ rest) = omega arith in
    ap (λ cs. certificate_by facts start h ∷ cs) (chain_append facts (start + 1) rest hash ∙ ap (λ n. chain_by facts (start + 1) rest ++ certificate_by facts n hash ∷ []) e)

pub chain_length : (facts : List Fact) (start : ℕ) (hashes : List (List ℕ)) → length (chain_by facts start hashes) ≡ length hashes
chain_length facts start [] = refl
chain_length facts start (hash ∷ rest) = let more : length (chain_by facts (start + 1) rest) ≡ length rest = chain_length facts (start + 1) rest in omega arith

-- a certificate of a place
chain_get : (facts : List Fact) (start : ℕ) (hashes : List (List ℕ)) (i : ℕ) → i < length hashes → (hash : List ℕ) × (slice_get (chain_by facts start hashes) i ≡ Some (certificate_by facts (start + i) hash))
chain_get facts start [] i h = absurd (omega arith)
chain_get facts start (hash ∷ rest) zero h = let e : start ≡ start + 0 = omega arith in (hash, ap (λ n. Some (certificate_by facts n hash)) e)
chain_get facts start (hash ∷ rest) (suc i) h =
    let more = chain_get facts (start + 1) rest i (omega arith) in
    let e : start + 1 + i ≡ start + suc i = omega arith in
    (more.0, more.1 ∙ ap (λ n. Some (certificate_by facts n more.0)) e)

-- what a key of a place has
pub trusted_by : (facts : List Fact) (place : ℕ) → nat_lt place (length (certs facts)) ≡ true → trusted_at place (known_by facts) ≡ list_any (is_trust place) facts
trusted_by facts place h =
    let one = chain_get facts 0 (certs facts) place (is_less place (length (certs facts)) h) in
    let e : 0 + place ≡ place = zero-add place in
    rw (one.1, e) refl

pub value_at_by : (facts : List Fact) (place : Place) (key : List ℕ) → is_there (length (certs facts)) place ≡ true → value_at place (known_by facts) key ≡ value_by facts place key
value_at_by facts Info key h = refl
value_at_by facts Entitlement key h = refl
value_at_by facts (CertField at) key h =
    let one = chain_get facts 0 (certs facts) at (is_less at (length (certs facts)) h) in
    let e : 0 + at ≡ at = zero-add at in
    rw (one.1, e) refl
value_at_by facts (CertOid at) key h =
    let one = chain_get facts 0 (certs facts) at (is_less at (length (certs facts)) h) in
    let e : 0 + at ≡ at = zero-add at in
    rw (one.1, e) refl
value_at_by facts (CertPolicy at) key h =
    let one = chain_get facts 0 (certs facts) at (is_less at (length (certs facts)) h) in
    let e : 0 + at ≡ at = zero-add at in
    rw (one.1, e) refl

-- a key with what one more row gives to it
abbrev value_with_given : Given → Bool → Option Value → Option Value
value_with_given (text bytes) b old = if b then Some (f.text bytes) else old
value_with_given (truth t) b old = if b then Some (f.truth t) else old
value_with_given (item bytes) b old = if b then member_added bytes old else old

given_more : (gs : List Given) (g : Given) → is_given_twice g (value_given gs) ≡ false → value_given (gs ++ g ∷ []) ≡ value_with_given g true (value_given gs)
given_more [] (text bytes) h = refl
given_more [] (truth t) h = refl
given_more [] (item bytes) h = refl
given_more (text a ∷ rest) (text bytes) h = cc
given_more (text a ∷ rest) (truth t) h = cc
given_more (text a ∷ rest) (item bytes) h = cc
given_more (truth a ∷ rest) (text bytes) h = cc
given_more (truth a ∷ rest) (truth t) h = cc
given_more (truth a ∷ rest) (item bytes) h = cc
given_more (item a ∷ rest) (text bytes) h = cc
given_more (item a ∷ rest) (truth t) h = cc
given_more (item a ∷ rest) (item bytes) h = ap (λ others. Some (f.texts a others)) (more_map item_bytes rest (item bytes) bytes refl)

same_given : (g : Given) (old : Option Value) → old ≡ value_with_given g false old
same_given (text bytes) old = refl
same_given (truth t) old = refl
same_given (item bytes) old = refl

entry_value : (facts : List Fact) (fact : Fact) (place : Place) (key : List ℕ) (g : Given) (b : Bool) → given_at place key fact ≡ given_when b g → (b ≡ true → is_given_twice g (value_by facts place key) ≡ false)
    → value_by (facts ++ fact ∷ []) place key ≡ value_with_given g b (value_by facts place key)
entry_value facts fact place key g false h new = same_value facts fact place key h ∙ same_given g (value_by facts place key)
entry_value facts fact place key g true h new = ap value_given (more_map (given_at place key) facts fact g h) ∙ given_more (givens facts place key) g (new refl)

-- no fact speaks of the next certificate
not_trusted : (n : ℕ) (facts : List Fact) → list_all (is_below n) facts ≡ true → list_any (is_trust n) facts ≡ false
not_trusted n [] h = refl
not_trusted n (flag which ∷ rest) h = not_trusted n rest h
not_trusted n (anchor_name name ∷ rest) h = not_trusted n rest h
not_trusted n (code_name name ∷ rest) h = not_trusted n rest h
not_trusted n (certificate place hash ∷ rest) h = not_trusted n rest (and_right (nat_lt place n) _ h)
not_trusted n (trust place ∷ rest) h =
    let low : place < n = is_less place n (and_left (nat_lt place n) _ h) in
    let here : (n == place) ≡ false = number_other n place (λ e. omega arith) in
    rw here (not_trusted n rest (and_right (nat_lt place n) _ h))
not_trusted n (entry place key g ∷ rest) h = not_trusted n rest (and_right (is_there n place) _ h)

places_apart : (n : ℕ) (a b : Place) → is_there n a ≡ false → is_there n b ≡ true → same_place a b ≡ false
places_apart n Info b h k = cc
places_apart n Entitlement b h k = cc
places_apart n (CertField i) Info h k = refl
places_apart n (CertField i) Entitlement h k = refl
places_apart n (CertField i) (CertField j) h k = number_other i j (λ e. let low : nat_lt i n ≡ true = rw e k in cc)
places_apart n (CertField i) (CertOid j) h k = refl
places_apart n (CertField i) (CertPolicy j) h k = refl
places_apart n (CertOid i) Info h k = refl
places_apart n (CertOid i) Entitlement h k = refl
places_apart n (CertOid i) (CertField j) h k = refl
places_apart n (CertOid i) (CertOid j) h k = number_other i j (λ e. let low : nat_lt i n ≡ true = rw e k in cc)
places_apart n (CertOid i) (CertPolicy j) h k = refl
places_apart n (CertPolicy i) Info h k = refl
places_apart n (CertPolicy i) Entitlement h k = refl
places_apart n (CertPolicy i) (CertField j) h k = refl
places_apart n (CertPolicy i) (CertOid j) h k = refl
places_apart n (CertPolicy i) (CertPolicy j) h k = number_other i j (λ e. let low : nat_lt i n ≡ true = rw e k in cc)

place_self : (a : Place) → same_place a a ≡ true
place_self Info = refl
place_self Entitlement = refl
place_self (CertField i) = number_same i i refl
place_self (CertOid i) = number_same i i refl
place_self (CertPolicy i) = number_same i i refl

pub place_same : (a b : Place) → same_place a b ≡ true → a ≡ b
place_same Info Info h = refl
place_same Info Entitlement h = cc
place_same Info (CertField j) h = cc
place_same Info (CertOid j) h = cc
place_same Info (CertPolicy j) h = cc
place_same Entitlement Info h = cc
place_same Entitlement Entitlement h = refl
place_same Entitlement (CertField j) h = cc
place_same Entitlement (CertOid j) h = cc
place_same Entitlement (CertPolicy j) h = cc
place_same (CertField i) Info h = cc
place_same (CertField i) Entitlement h = cc
place_same (CertField i) (CertField j) h = ap CertField (same_number i j h)
place_same (CertField i) (CertOid j) h = cc
place_same (CertField i) (CertPolicy j) h = cc
place_same (CertOid i) Info h = cc
place_same (CertOid i) Entitlement h = cc
place_same (CertOid i) (CertField j) h = cc
place_same (CertOid i) (CertOid j) h = ap CertOid (same_number i j h)
place_same (CertOid i) (CertPolicy j) h = cc
place_same (CertPolicy i) Info h = cc
place_same (CertPolicy i) Entitlement h = cc
place_same (CertPolicy i) (CertField j) h = cc
place_same (CertPolicy i) (CertOid j) h = cc
place_same (CertPolicy i) (CertPolicy j) h = ap CertPolicy (same_number i j h)

given_none : (t : Bool) (g : Given) → t ≡ false → given_when t g ≡ None
given_none true g h = cc
given_none false g h = refl

nothing_given : (n : ℕ) (place : Place) (key : List ℕ) (facts : List Fact) → is_there n place ≡ false → list_all (is_below n) facts ≡ true → givens facts place key ≡ []
nothing_given n place key [] h k = refl
nothing_given n place key (flag which ∷ rest) h k = nothing_given n place key rest h k
nothing_given n place key (anchor_name name ∷ rest) h k = nothing_given n place key rest h k
nothing_given n place key (code_name name ∷ rest) h k = nothing_given n place key rest h k
nothing_given n place key (certificate at hash ∷ rest) h k = nothing_given n place key rest h (and_right (nat_lt at n) _ k)
nothing_given n place key (trust at ∷ rest) h k = nothing_given n place key rest h (and_right (nat_lt at n) _ k)
nothing_given n place key (entry other name g ∷ rest) h k =
    let apart : same_place place other ≡ false = places_apart n place other h (and_left (is_there n other) _ k) in
    let none : given_when (same_place place other && bytes_eq key name) g ≡ None = rw apart refl in
    ap (λ o. cons_option o (givens rest place key)) none ∙ nothing_given n place key rest h (and_right (is_there n other) _ k)

not_below_self : (n : ℕ) → nat_lt n n ≡ false
not_below_self n = no_test (nat_lt n n) (λ h. let low : n < n = is_less n n h in absurd (omega arith))

-- the certificate of which only its hash is known
new_here : (n : ℕ) (facts : List Fact) (hash : List ℕ) → list_all (is_below n) facts ≡ true → certificate_by facts n hash ≡ new_certificate hash
new_here n facts hash h =
    certificate_path (certificate_by facts n hash) (new_certificate hash) refl (not_trusted n facts h)
    (λ key. ap value_given (nothing_given n (CertField n) key facts (not_below_self n) h))
    (λ key. ap value_given (nothing_given n (CertOid n) key facts (not_below_self n) h))
    (λ key. ap value_given (nothing_given n (CertPolicy n) key facts (not_below_self n) h))

-- facts that speak of no certificate's marks and values
silent_flag : (which : FactFlag) (place : ℕ) → IsSilent (flag which) place
silent_flag which place = record { silent_trust = refl; silent_field = λ key. refl; silent_oid = λ key. refl; silent_policy = λ key. refl }

silent_anchor_name : (name : List ℕ) (place : ℕ) → IsSilent (anchor_name name) place
silent_anchor_name name place = record { silent_trust = refl; silent_field = λ key. refl; silent_oid = λ key. refl; silent_policy = λ key. refl }

silent_code_name : (name : List ℕ) (place : ℕ) → IsSilent (code_name name) place
silent_code_name name place = record { silent_trust = refl; silent_field = λ key. refl; silent_oid = λ key. refl; silent_policy = λ key. refl }

silent_certificate : (at : ℕ) (hash : List ℕ) (place : ℕ) → IsSilent (certificate at hash) place
silent_certificate at hash place = record { silent_trust = refl; silent_field = λ key. refl; silent_oid = λ key. refl; silent_policy = λ key. refl }

silent_trust_of : (at place : ℕ) → (place ≡ at → ⊥) → IsSilent (trust at) place
silent_trust_of at place h = record { silent_trust = number_other place at h; silent_field = λ key. refl; silent_oid = λ key. refl; silent_policy = λ key. refl }

silent_info : (key : List ℕ) (g : Given) (place : ℕ) → IsSilent (entry Info key g) place
silent_info key g place = record { silent_trust = refl; silent_field = λ name. refl; silent_oid = λ name. refl; silent_policy = λ name. refl }

silent_entitlement : (key : List ℕ) (g : Given) (place : ℕ) → IsSilent (entry Entitlement key g) place
silent_entitlement key g place = record { silent_trust = refl; silent_field = λ name. refl; silent_oid = λ name. refl; silent_policy = λ name. refl }

other_place : (place at : ℕ) (name key : List ℕ) (g : Given) → (place ≡ at → ⊥) → given_when ((place == at) && bytes_eq name key) g ≡ None
other_place place at name key g h = rw (number_other place at h) refl

silent_field_of : (at : ℕ) (key : List ℕ) (g : Given) (place : ℕ) → (place ≡ at → ⊥) → IsSilent (entry (CertField at) key g) place
silent_field_of at key g place h = record { silent_trust = refl; silent_field = λ name. other_place place at name key g h; silent_oid = λ name. refl; silent_policy = λ name. refl }

silent_oid_of : (at : ℕ) (key : List ℕ) (g : Given) (place : ℕ) → (place ≡ at → ⊥) → IsSilent (entry (CertOid at) key g) place
silent_oid_of at key g place h = record { silent_trust = refl; silent_field = λ name. refl; silent_oid = λ name. other_place place at name key g h; silent_policy = λ name. refl }

silent_policy_of : (at : ℕ) (key : List ℕ) (g : Given) (place : ℕ) → (place ≡ at → ⊥) → IsSilent (entry (CertPolicy at) key g) place
silent_policy_of at key g place h = record { silent_trust = refl; silent_field = λ name. refl; silent_oid = λ name. refl; silent_policy = λ name. other_place place at name key g h }

-- a chain that a fact leaves
chain_stays : (facts : List Fact) (fact : Fact) → cert_hash fact ≡ None → ((place : ℕ) → IsSilent fact place) → chain_by (facts ++ fact ∷ []) 0 (certs (facts ++ fact ∷ [])) ≡ chain_by facts 0 (certs facts)
chain_stays facts fact none h = ap (chain_by (facts ++ fact ∷ []) 0) (same_map cert_hash facts fact none) ∙ same_chain facts fact h 0 (certs facts)

-- a chain one of whose certificates a fact changes
chain_changes : (facts : List Fact) (fact : Fact) (at : ℕ) (change : Certificate → Certificate) → cert_hash fact ≡ None → ((place : ℕ) → (place ≡ at → ⊥) → IsSilent fact place)
    → ((hash : List ℕ) → certificate_by (facts ++ fact ∷ []) at hash ≡ change (certificate_by facts at hash))
    → chain_by (facts ++ fact ∷ []) 0 (certs (facts ++ fact ∷ [])) ≡ changed_at at change (chain_by facts 0 (certs facts))
chain_changes facts fact at change none h new =
    ap (chain_by (facts ++ fact ∷ []) 0) (same_map cert_hash facts fact none) ∙ changed_chain facts fact at change h new 0 at (zero-add at) (certs facts)

-- a chain with one certificate more
chain_grows : (facts : List Fact) (hash : List ℕ) → list_all (is_below (length (certs facts))) facts ≡ true
    → chain_by (facts ++ certificate (length (certs facts)) hash ∷ []) 0 (certs (facts ++ certificate (length (certs facts)) hash ∷ [])) ≡ chain_by facts 0 (certs facts) ++ new_certificate hash ∷ []
chain_grows facts hash h =
    let fact : Fact = certificate (length (certs facts)) hash in
    let n : 0 + length (certs facts) ≡ length (certs facts) = zero-add (length (certs facts)) in
    ap (chain_by (facts ++ fact ∷ []) 0) (more_map cert_hash facts fact hash refl)
    ∙ same_chain facts fact (silent_certificate (length (certs facts)) hash) 0 (certs facts ++ hash ∷ [])
    ∙ chain_append facts 0 (certs facts) hash
    ∙ ap (λ k. chain_by facts 0 (certs facts) ++ certificate_by facts k hash ∷ []) n
    ∙ ap (λ c. chain_by facts 0 (certs facts) ++ c ∷ []) (new_here (length (certs facts)) facts hash h)

-- what a key that may be the fact's has
key_value : (facts : List Fact) (place : Place) (name key : List ℕ) (g : Given) → is_given_twice g (value_by facts place key) ≡ false
    → value_by (facts ++ entry place key g ∷ []) place name ≡ value_with_given g (bytes_eq name key) (value_by facts place name)
key_value facts place name key g h =
    let here : given_at place name (entry place key g) ≡ given_when (bytes_eq name key) g = rw (place_self place) refl in
    entry_value facts (entry place key g) place name g (bytes_eq name key) here (λ e. rw (same_bytes name key e) h)

-- the certificate of a place whose key is given more
field_given : (facts : List Fact) (at : ℕ) (key : List ℕ) (g : Given) → is_given_twice g (value_by facts (CertField at) key) ≡ false → (hash : List ℕ)
    → certificate_by (facts ++ entry (CertField at) key g ∷ []) at hash ≡ record (certificate_by facts at hash) { field = λ name. value_with_given g (bytes_eq name key) (value_by facts (CertField at) name) }
field_given facts at key g h hash =
    let fact : Fact = entry (CertField at) key g in
    certificate_path (certificate_by (facts ++ fact ∷ []) at hash) (record (certificate_by facts at hash) { field = λ name. value_with_given g (bytes_eq name key) (value_by facts (CertField at) name) })
    refl (same_any (is_trust at) facts fact refl) (λ name. key_value facts (CertField at) name key g h)
    (λ name. same_value facts fact (CertOid at) name refl) (λ name. same_value facts fact (CertPolicy at) name refl)

oid_given : (facts : List Fact) (at : ℕ) (key : List ℕ) (g : Given) → is_given_twice g (value_by facts (CertOid at) key) ≡ false → (hash : List ℕ)
    → certificate_by (facts ++ entry (CertOid at) key g ∷ []) at hash ≡ record (certificate_by facts at hash) { oid = λ name. value_with_given g (bytes_eq name key) (value_by facts (CertOid at) name) }
oid_given facts at key g h hash =
    let fact : Fact = entry (CertOid at) key g in
    certificate_path (certificate_by (facts ++ fact ∷ []) at hash) (record (certificate_by facts at hash) { oid = λ name. value_with_given g (bytes_eq name key) (value_by facts (CertOid at) name) })
    refl (same_any (is_trust at) facts fact refl) (λ name. same_value facts fact (CertField at) name refl)
    (λ name. key_value facts (CertOid at) name key g h) (λ name. same_value facts fact (CertPolicy at) name refl)

policy_given : (facts : List Fact) (at : ℕ) (key : List ℕ) (g : Given) → is_given_twice g (value_by facts (CertPolicy at) key) ≡ false → (hash : List ℕ)
    → certificate_by (facts ++ entry (CertPolicy at) key g ∷ []) at hash ≡ record (certificate_by facts at hash) { policy = λ name. value_with_given g (bytes_eq name key) (value_by facts (CertPolicy at) name) }
policy_given facts at key g h hash =
    let fact : Fact = entry (CertPolicy at) key g in
    certificate_path (certificate_by (facts ++ fact ∷ []) at hash) (record (certificate_by facts at hash) { policy = λ name. value_with_given g (bytes_eq name key) (value_by facts (CertPolicy at) name) })
    refl (same_any (is_trust at) facts fact refl) (λ name. same_value facts fact (CertField at) name refl)
    (λ name. same_value facts fact (CertOid at) name refl) (λ name. key_value facts (CertPolicy at) name key g h)

trust_given : (facts : List Fact) (at : ℕ) (hash : List ℕ) → certificate_by (facts ++ trust at ∷ []) at hash ≡ record (certificate_by facts at hash) { trusted = true }
trust_given facts at hash =
    certificate_path (certificate_by (facts ++ trust at ∷ []) at hash) (record (certificate_by facts at hash) { trusted = true })
    refl (more_any (is_trust at) facts (trust at) (number_same at at refl)) (λ name. same_value facts (trust at) (CertField at) name refl)
    (λ name. same_value facts (trust at) (CertOid at) name refl) (λ name. same_value facts (trust at) (CertPolicy at) name refl)

abbrev given_change : Given → List ℕ → (List ℕ → Option Value) → List ℕ → Option Value
given_change g key values name = value_with_given g (bytes_eq name key) (values name)

with_given_is : (place : Place) (key : List ℕ) (g : Given) (k : Known) → with_given place key g k ≡ with_values place (given_change g key) k
with_given_is place key (text bytes) k = refl
with_given_is place key (truth t) k = refl
with_given_is place key (item bytes) k = refl

entry_known : (facts : List Fact) (place : Place) (key : List ℕ) (g : Given) → is_given_twice g (value_by facts place key) ≡ false
    → known_by (facts ++ entry place key g ∷ []) ≡ with_values place (given_change g key) (known_by facts)
entry_known facts Info key g h =
    let fact : Fact = entry Info key g in
    known_path (known_by (facts ++ fact ∷ [])) (with_values Info (given_change g key) (known_by facts))
    (same_any (is_flag AppleAnchor) facts fact refl) (same_any (is_flag AppleGeneric) facts fact refl) (same_any (is_flag Notarized) facts fact refl) (same_any (is_flag LegacyDevId) facts fact refl)
    (λ name. same_any (is_anchor_name name) facts fact refl) (λ name. same_any (is_code_name name) facts fact refl) (chain_stays facts fact refl (silent_info key g))
    (λ name. key_value facts Info name key g h) (λ name. same_value facts fact Entitlement name refl)
entry_known facts Entitlement key g h =
    let fact : Fact = entry Entitlement key g in
    known_path (known_by (facts ++ fact ∷ [])) (with_values Entitlement (given_change g key) (known_by facts))
    (same_any (is_flag AppleAnchor) facts fact refl) (same_any (is_flag AppleGeneric) facts fact refl) (same_any (is_flag Notarized) facts fact refl) (same_any (is_flag LegacyDevId) facts fact refl)
    (λ name. same_any (is_anchor_name name) facts fact refl) (λ name. same_any (is_code_name name) facts fact refl) (chain_stays facts fact refl (silent_entitlement key g))
    (λ name. same_value facts fact Info name refl) (λ name. key_value facts Entitlement name key g h)
entry_known facts (CertField at) key g h =
    let fact : Fact = entry (CertField at) key g in
    known_path (known_by (facts ++ fact ∷ [])) (with_values (CertField at) (given_change g key) (known_by facts))
    (same_any (is_flag AppleAnchor) facts fact refl) (same_any (is_flag AppleGeneric) facts fact refl) (same_any (is_flag Notarized) facts fact refl) (same_any (is_flag LegacyDevId) facts fact refl)
    (λ name. same_any (is_anchor_name name) facts fact refl) (λ name. same_any (is_code_name name) facts fact refl)
    (chain_changes facts fact at (λ c. record c { field = given_change g key c.field }) refl (silent_field_of at key g) (field_given facts at key g h))
    (λ name. same_value facts fact Info name refl) (λ name. same_value facts fact Entitlement name refl)
entry_known facts (CertOid at) key g h =
    let fact : Fact = entry (CertOid at) key g in
    known_path (known_by (facts ++ fact ∷ [])) (with_values (CertOid at) (given_change g key) (known_by facts))
    (same_any (is_flag AppleAnchor) facts fact refl) (same_any (is_flag AppleGeneric) facts fact refl) (same_any (is_flag Notarized) facts fact refl) (same_any (is_flag LegacyDevId) facts fact refl)
    (λ name. same_any (is_anchor_name name) facts fact refl) (λ name. same_any (is_code_name name) facts fact refl)
    (chain_changes facts fact at (λ c. record c { oid = given_change g key c.oid }) refl (silent_oid_of at key g) (oid_given facts at key g h))
    (λ name. same_value facts fact Info name refl) (λ name. same_value facts fact Entitlement name refl)
entry_known facts (CertPolicy at) key g h =
    let fact : Fact = entry (CertPolicy at) key g in
    known_path (known_by (facts ++ fact ∷ [])) (with_values (CertPolicy at) (given_change g key) (known_by facts))
    (same_any (is_flag AppleAnchor) facts fact refl) (same_any (is_flag AppleGeneric) facts fact refl) (same_any (is_flag Notarized) facts fact refl) (same_any (is_flag LegacyDevId) facts fact refl)
    (λ name. same_any (is_anchor_name name) facts fact refl) (λ name. same_any (is_code_name name) facts fact refl)
    (chain_changes facts fact at (λ c. record c { policy = given_change g key c.policy }) refl (silent_policy_of at key g) (policy_given facts at key g h))
    (λ name. same_value facts fact Info name refl) (λ name. same_value facts fact Entitlement name refl)

flag_known : (facts : List Fact) (which : FactFlag) → known_by (facts ++ flag which ∷ []) ≡ with_fact (flag which) (known_by facts)
flag_known facts AppleAnchor =
    let fact : Fact = flag AppleAnchor in
    known_path (known_by (facts ++ fact ∷ [])) (with_fact fact (known_by facts))
    (more_any (is_flag AppleAnchor) facts fact refl) (same_any (is_flag AppleGeneric) facts fact refl) (same_any (is_flag Notarized) facts fact refl) (same_any (is_flag LegacyDevId) facts fact refl)
    (λ name. same_any (is_anchor_name name) facts fact refl) (λ name. same_any (is_code_name name) facts fact refl) (chain_stays facts fact refl (silent_flag AppleAnchor))
    (λ name. same_value facts fact Info name refl) (λ name. same_value facts fact Entitlement name refl)
flag_known facts AppleGeneric =
    let fact : Fact = flag AppleGeneric in
    known_path (known_by (facts ++ fact ∷ [])) (with_fact fact (known_by facts))
    (same_any (is_flag AppleAnchor) facts fact refl) (more_any (is_flag AppleGeneric) facts fact refl) (same_any (is_flag Notarized) facts fact refl) (same_any (is_flag LegacyDevId) facts fact refl)
    (λ name. same_any (is_anchor_name name) facts fact refl) (λ name. same_any (is_code_name name) facts fact refl) (chain_stays facts fact refl (silent_flag AppleGeneric))
    (λ name. same_value facts fact Info name refl) (λ name. same_value facts fact Entitlement name refl)
flag_known facts Notarized =
    let fact : Fact = flag Notarized in
    known_path (known_by (facts ++ fact ∷ [])) (with_fact fact (known_by facts))
    (same_any (is_flag AppleAnchor) facts fact refl) (same_any (is_flag AppleGeneric) facts fact refl) (more_any (is_flag Notarized) facts fact refl) (same_any (is_flag LegacyDevId) facts fact refl)
    (λ name. same_any (is_anchor_name name) facts fact refl) (λ name. same_any (is_code_name name) facts fact refl) (chain_stays facts fact refl (silent_flag Notarized))
    (λ name. same_value facts fact Info name refl) (λ name. same_value facts fact Entitlement name refl)
flag_known facts LegacyDevId =
    let fact : Fact = flag LegacyDevId in
    known_path (known_by (facts ++ fact ∷ [])) (with_fact fact (known_by facts))
    (same_any (is_flag AppleAnchor) facts fact refl) (same_any (is_flag AppleGeneric) facts fact refl) (same_any (is_flag Notarized) facts fact refl) (more_any (is_flag LegacyDevId) facts fact refl)
    (λ name. same_any (is_anchor_name name) facts fact refl) (λ name. same_any (is_code_name name) facts fact refl) (chain_stays facts fact refl (silent_flag LegacyDevId))
    (λ name. same_value facts fact Info name refl) (λ name. same_value facts fact Entitlement name refl)

certificate_known : (facts : List Fact) (hash : List ℕ) → list_all (is_below (length (certs facts))) facts ≡ true
    → known_by (facts ++ certificate (length (certs facts)) hash ∷ []) ≡ with_fact (certificate (length (certs facts)) hash) (known_by facts)
certificate_known facts hash h =
    let fact : Fact = certificate (length (certs facts)) hash in
    known_path (known_by (facts ++ fact ∷ [])) (with_fact fact (known_by facts))
    (same_any (is_flag AppleAnchor) facts fact refl) (same_any (is_flag AppleGeneric) facts fact refl) (same_any (is_flag Notarized) facts fact refl) (same_any (is_flag LegacyDevId) facts fact refl)
    (λ name. same_any (is_anchor_name name) facts fact refl) (λ name. same_any (is_code_name name) facts fact refl) (chain_grows facts hash h)
    (λ name. same_value facts fact Info name refl) (λ name. same_value facts fact Entitlement name refl)

-- one fact more, where facts were taken one after another and this one is taken too
pub known_more : (facts : List Fact) (fact : Fact) → AreSound facts → fits (length (certs facts)) fact ≡ true → is_known fact (known_by facts) ≡ false
    → known_by (facts ++ fact ∷ []) ≡ with_fact fact (known_by facts)
known_more facts (flag which) sound fit new = flag_known facts which
known_more facts (anchor_name own) sound fit new =
    let fact : Fact = anchor_name own in
    known_path (known_by (facts ++ fact ∷ [])) (with_fact fact (known_by facts))
    (same_any (is_flag AppleAnchor) facts fact refl) (same_any (is_flag AppleGeneric) facts fact refl) (same_any (is_flag Notarized) facts fact refl) (same_any (is_flag LegacyDevId) facts fact refl)
    (λ name. any_when (is_anchor_name name) facts fact (bytes_eq name own) refl) (λ name. same_any (is_code_name name) facts fact refl) (chain_stays facts fact refl (silent_anchor_name own))
    (λ name. same_value facts fact Info name refl) (λ name. same_value facts fact Entitlement name refl)
known_more facts (code_name own) sound fit new =
    let fact : Fact = code_name own in
    known_path (known_by (facts ++ fact ∷ [])) (with_fact fact (known_by facts))
    (same_any (is_flag AppleAnchor) facts fact refl) (same_any (is_flag AppleGeneric) facts fact refl) (same_any (is_flag Notarized) facts fact refl) (same_any (is_flag LegacyDevId) facts fact refl)
    (λ name. same_any (is_anchor_name name) facts fact refl) (λ name. any_when (is_code_name name) facts fact (bytes_eq name own) refl) (chain_stays facts fact refl (silent_code_name own))
    (λ name. same_value facts fact Info name refl) (λ name. same_value facts fact Entitlement name refl)
known_more facts (certificate place hash) sound fit new =
    let here : place ≡ length (certs facts) = same_number place (length (certs facts)) fit in
    subst (λ p. known_by (facts ++ certificate p hash ∷ []) ≡ with_fact (certificate p hash) (known_by facts)) (sym here) (certificate_known facts hash sound.below)
known_more facts (trust at) sound fit new =
    let fact : Fact = trust at in
    known_path (known_by (facts ++ fact ∷ [])) (with_fact fact (known_by facts))
    (same_any (is_flag AppleAnchor) facts fact refl) (same_any (is_flag AppleGeneric) facts fact refl) (same_any (is_flag Notarized) facts fact refl) (same_any (is_flag LegacyDevId) facts fact refl)
    (λ name. same_any (is_anchor_name name) facts fact refl) (λ name. same_any (is_code_name name) facts fact refl)
    (chain_changes facts fact at (λ c. record c { trusted = true }) refl (silent_trust_of at) (trust_given facts at))
    (λ name. same_value facts fact Info name refl) (λ name. same_value facts fact Entitlement name refl)
known_more facts (entry place key g) sound fit new =
    let free : is_given_twice g (value_by facts place key) ≡ false = rw (value_at_by facts place key fit) at new in
    entry_known facts place key g free ∙ sym (with_given_is place key g (known_by facts))
