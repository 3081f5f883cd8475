-- Facts that were taken one after another: a further one clashes exactly where its place is known, and where it is
-- taken all of them were.
use Rattle.std.proofs.Common.{◌≡◌, ℕ, ◌+◌, ◌<◌, Bool, true, false, not, ◌&&◌, ◌||◌, nat_lt, ◌==◌, if◌then◌else◌, List, [], ◌∷◌, ◌++◌, length, None, Some, Ok, Err, refl, sym, ap, ◌∙◌, arith, length-append}
use Rattle.std.specs.List.{list_any, list_all, cons_option}
use Rattle.std.specs.Str.{bytes_eq}
use Rattle.req_tree.specs.Facts.{Known}
use Rattle.fact_values.specs.declared.flag.FactFlag.TheVariants.{AppleAnchor, AppleGeneric, Notarized, LegacyDevId}
use Rattle.fact_values.specs.declared.place.Place.{Place}
use Rattle.fact_values.specs.declared.place.Place.TheVariants.{Info, Entitlement, CertField, CertOid, CertPolicy}
use Rattle.code_facts.specs.declared.fault.FactFault.{FactFault}
use Rattle.code_facts.specs.declared.fault.FactFault.TheVariants.{BadRow, Twice}
use Rattle.code_facts.specs.Rows.{Given, text, truth, item, Fact, flag, anchor_name, code_name, certificate, trust, entry, Row}
use Rattle.code_facts.specs.FactsFile.{cert_hash, certs, is_there, fits, same_place, is_item, clash, row_after}
use Rattle.code_facts.specs.Knowledge.{given_when, given_at, givens, value_given, known_by}
use Rattle.code_facts.specs.Growing.{is_given_twice, is_known, with_fact, grown}
use Rattle.code_facts.specs.Tables.{is_below, is_settled, AreSound}
use Rattle.code_facts.proofs.Bits.{and_left, and_right, more_all, all_mono, same_map, more_map, same_bytes, number_other, same_number, is_less, less_is}
use Rattle.code_facts.proofs.Growth.{known_more, value_at_by, trusted_by, chain_length, place_same}

-- a further certificate has no place that one has
no_certificate : (n : ℕ) (facts : List Fact) (hash : List ℕ) → list_all (is_below n) facts ≡ true → list_any (clash (certificate n hash)) facts ≡ false
no_certificate n [] hash h = refl
no_certificate n (flag which ∷ rest) hash h = no_certificate n rest hash h
no_certificate n (anchor_name name ∷ rest) hash h = no_certificate n rest hash h
no_certificate n (code_name name ∷ rest) hash h = no_certificate n rest hash h
no_certificate n (certificate place other ∷ rest) hash h =
    let low : place < n = is_less place n (and_left (nat_lt place n) _ h) in
    let here : (n == place) ≡ false = number_other n place (λ e. omega arith) in
    rw here (no_certificate n rest hash (and_right (nat_lt place n) _ h))
no_certificate n (trust place ∷ rest) hash h = no_certificate n rest hash (and_right (nat_lt place n) _ h)
no_certificate n (entry place key g ∷ rest) hash h = no_certificate n rest hash (and_right (is_there n place) _ h)

-- a given beside another
abbrev beside : Given → Given → Bool
beside g other = not (is_item g && is_item other)

one_given : (t : Bool) (g other : Given) (rest : List Given) (more : Bool) → more ≡ list_any (beside g) rest
    → ((not (is_item g && is_item other) && t) || more) ≡ list_any (beside g) (cons_option (given_when t other) rest)
one_given true g other rest more h = two_parts (beside g other) more (list_any (beside g) rest) h
  where
    two_parts : (b more all : Bool) → more ≡ all → ((b && true) || more) ≡ (b || all)
    two_parts true more all e = refl
    two_parts false more all e = e
one_given false g other rest more h = no_part (beside g other) more (list_any (beside g) rest) h
  where
    no_part : (b more all : Bool) → more ≡ all → ((b && false) || more) ≡ all
    no_part true more all e = e
    no_part false more all e = e

none_beside : (b more all : Bool) → more ≡ all → ((b && false) || more) ≡ all
none_beside true more all e = e
none_beside false more all e = e

-- what clashes with an entry is what its key was given before
clash_givens : (place : Place) (key : List ℕ) (g : Given) (facts : List Fact) → list_any (clash (entry place key g)) facts ≡ list_any (beside g) (givens facts place key)
clash_givens place key g [] = refl
clash_givens place key g (flag which ∷ rest) = none_beside (not (is_item g && false)) _ _ (clash_givens place key g rest)
clash_givens place key g (anchor_name name ∷ rest) = none_beside (not (is_item g && false)) _ _ (clash_givens place key g rest)
clash_givens place key g (code_name name ∷ rest) = none_beside (not (is_item g && false)) _ _ (clash_givens place key g rest)
clash_givens place key g (certificate at hash ∷ rest) = none_beside (not (is_item g && false)) _ _ (clash_givens place key g rest)
clash_givens place key g (trust at ∷ rest) = none_beside (not (is_item g && false)) _ _ (clash_givens place key g rest)
clash_givens place key g (entry other name what ∷ rest) =
    one_given (same_place place other && bytes_eq key name) g what (givens rest place key) (list_any (clash (entry place key g)) rest) (clash_givens place key g rest)

all_items : (gs : List Given) → list_all is_item gs ≡ true → list_any (λ other. not (is_item other)) gs ≡ false
all_items [] h = refl
all_items (text bytes ∷ rest) h = cc
all_items (truth t ∷ rest) h = cc
all_items (item bytes ∷ rest) h = all_items rest h

settled_clash : (gs : List Given) (g : Given) → is_settled gs ≡ true → list_any (beside g) gs ≡ is_given_twice g (value_given gs)
settled_clash [] g h = refl
settled_clash (text a ∷ rest) (text bytes) h = refl
settled_clash (text a ∷ rest) (truth t) h = refl
settled_clash (text a ∷ rest) (item bytes) h = refl
settled_clash (truth a ∷ rest) (text bytes) h = refl
settled_clash (truth a ∷ rest) (truth t) h = refl
settled_clash (truth a ∷ rest) (item bytes) h = refl
settled_clash (item a ∷ rest) (text bytes) h = refl
settled_clash (item a ∷ rest) (truth t) h = refl
settled_clash (item a ∷ []) (item bytes) h = refl
settled_clash (item a ∷ other ∷ rest) (item bytes) h = all_items (other ∷ rest) h

-- a further fact clashes with one of those that were taken exactly where its place is known
clash_known : (facts : List Fact) (fact : Fact) → AreSound facts → fits (length (certs facts)) fact ≡ true → list_any (clash fact) facts ≡ is_known fact (known_by facts)
clash_known facts (flag AppleAnchor) sound fit = refl
clash_known facts (flag AppleGeneric) sound fit = refl
clash_known facts (flag Notarized) sound fit = refl
clash_known facts (flag LegacyDevId) sound fit = refl
clash_known facts (anchor_name name) sound fit = refl
clash_known facts (code_name name) sound fit = refl
clash_known facts (certificate place hash) sound fit =
    let here : place ≡ length (certs facts) = same_number place (length (certs facts)) fit in
    rw here (no_certificate (length (certs facts)) facts hash sound.below)
clash_known facts (trust place) sound fit = sym (trusted_by facts place fit)
clash_known facts (entry place key g) sound fit =
    clash_givens place key g facts ∙ settled_clash (givens facts place key) g (sound.settled place key) ∙ ap (is_given_twice g) (sym (value_at_by facts place key fit))

settled_more : (gs : List Given) (g : Given) → is_settled gs ≡ true → is_given_twice g (value_given gs) ≡ false → is_settled (gs ++ g ∷ []) ≡ true
settled_more [] g h k = refl
settled_more (text a ∷ rest) (text bytes) h k = cc
settled_more (text a ∷ rest) (truth t) h k = cc
settled_more (text a ∷ rest) (item bytes) h k = cc
settled_more (truth a ∷ rest) (text bytes) h k = cc
settled_more (truth a ∷ rest) (truth t) h k = cc
settled_more (truth a ∷ rest) (item bytes) h k = cc
settled_more (item a ∷ rest) (text bytes) h k = cc
settled_more (item a ∷ rest) (truth t) h k = cc
settled_more (item a ∷ []) (item bytes) h k = refl
settled_more (item a ∷ other ∷ rest) (item bytes) h k = more_all is_item (item a ∷ other ∷ rest) (item bytes) h refl

-- a fact that gives nothing to a key leaves what the key was given
settled_same : (facts : List Fact) (fact : Fact) (place : Place) (key : List ℕ) → given_at place key fact ≡ None → is_settled (givens facts place key) ≡ true → is_settled (givens (facts ++ fact ∷ []) place key) ≡ true
settled_same facts fact place key none h = ap is_settled (same_map (given_at place key) facts fact none) ∙ h

settled_entry : (facts : List Fact) (place other : Place) (key name : List ℕ) (g : Given) (t : Bool) → (same_place place other && bytes_eq key name) ≡ t → is_settled (givens facts place key) ≡ true
    → is_given_twice g (value_given (givens facts other name)) ≡ false → is_settled (givens (facts ++ entry other name g ∷ []) place key) ≡ true
settled_entry facts place other key name g false e h k =
    let none : given_at place key (entry other name g) ≡ None = rw e refl in
    settled_same facts (entry other name g) place key none h
settled_entry facts place other key name g true e h k =
    let some : given_at place key (entry other name g) ≡ Some g = rw e refl in
    let where_it_is : place ≡ other = place_same place other (and_left (same_place place other) (bytes_eq key name) e) in
    let key_is : key ≡ name = same_bytes key name (and_right (same_place place other) (bytes_eq key name) e) in
    let free : is_given_twice g (value_given (givens facts place key)) ≡ false = rw (where_it_is, key_is) k in
    ap is_settled (more_map (given_at place key) facts (entry other name g) g some) ∙ settled_more (givens facts place key) g h free

below_more : (facts : List Fact) (fact : Fact) → cert_hash fact ≡ None → list_all (is_below (length (certs facts))) facts ≡ true → is_below (length (certs facts)) fact ≡ true
    → list_all (is_below (length (certs (facts ++ fact ∷ [])))) (facts ++ fact ∷ []) ≡ true
below_more facts fact none h k =
    ap (λ (cs : List (List ℕ)). list_all (is_below (length cs)) (facts ++ fact ∷ [])) (same_map cert_hash facts fact none) ∙ more_all (is_below (length (certs facts))) facts fact h k

there_more : (n : ℕ) (place : Place) → is_there n place ≡ true → is_there (n + 1) place ≡ true
there_more n Info h = refl
there_more n Entitlement h = refl
there_more n (CertField at) h = let low : at < n = is_less at n h in less_is at (n + 1) (omega arith)
there_more n (CertOid at) h = let low : at < n = is_less at n h in less_is at (n + 1) (omega arith)
there_more n (CertPolicy at) h = let low : at < n = is_less at n h in less_is at (n + 1) (omega arith)

mono : (n : ℕ) (fact : Fact) → is_below n fact ≡ true → is_below (n + 1) fact ≡ true
mono n (flag which) h = refl
mono n (anchor_name name) h = refl
mono n (code_name name) h = refl
mono n (certificate place hash) h = let low : place < n = is_less place n h in less_is place (n + 1) (omega arith)
mono n (trust place) h = let low : place < n = is_less place n h in less_is place (n + 1) (omega arith)
mono n (entry place key g) h = there_more n place h

-- a further certificate is one of those that are there
certificate_below : (facts : List Fact) (at : ℕ) (hash : List ℕ) → list_all (is_below (length (certs facts))) facts ≡ true → fits (length (certs facts)) (certificate at hash) ≡ true
    → list_all (is_below (length (certs (facts ++ certificate at hash ∷ [])))) (facts ++ certificate at hash ∷ []) ≡ true
certificate_below facts at hash h fit =
    let n : ℕ = length (certs facts) in
    let here : at ≡ length (certs facts) = same_number at (length (certs facts)) fit in
    let count : length (certs (facts ++ certificate at hash ∷ [])) ≡ length (certs facts) + 1 = ap length (more_map cert_hash facts (certificate at hash) hash refl) ∙ length-append (certs facts) (hash ∷ []) in
    let own : nat_lt at (length (certs facts) + 1) ≡ true = less_is at (length (certs facts) + 1) (omega arith) in
    rw count (more_all (is_below (length (certs facts) + 1)) facts (certificate at hash) (all_mono (is_below (length (certs facts))) (is_below (length (certs facts) + 1)) (mono (length (certs facts))) facts h) own)

-- facts that were taken, and one more that is taken
sound_more : (facts : List Fact) (fact : Fact) → AreSound facts → fits (length (certs facts)) fact ≡ true → is_known fact (known_by facts) ≡ false → AreSound (facts ++ fact ∷ [])
sound_more facts (flag which) sound fit new = record {
  below = below_more facts (flag which) refl sound.below refl;
  settled = λ place key. settled_same facts (flag which) place key refl (sound.settled place key);
}
sound_more facts (anchor_name name) sound fit new = record {
  below = below_more facts (anchor_name name) refl sound.below refl;
  settled = λ place key. settled_same facts (anchor_name name) place key refl (sound.settled place key);
}
sound_more facts (code_name name) sound fit new = record {
  below = below_more facts (code_name name) refl sound.below refl;
  settled = λ place key. settled_same facts (code_name name) place key refl (sound.settled place key);
}
sound_more facts (certificate at hash) sound fit new = record {
  below = certificate_below facts at hash sound.below fit;
  settled = λ place key. settled_same facts (certificate at hash) place key refl (sound.settled place key);
}
sound_more facts (trust at) sound fit new = record {
  below = below_more facts (trust at) refl sound.below fit;
  settled = λ place key. settled_same facts (trust at) place key refl (sound.settled place key);
}
sound_more facts (entry other name g) sound fit new = record {
  below = below_more facts (entry other name g) refl sound.below fit;
  settled = λ place key. settled_entry facts place other key name g (same_place place other && bytes_eq key name) refl (sound.settled place key) (rw (value_at_by facts other name fit) at new);
}

-- a row that grows what is known is taken, and one that is refused is refused for the same fault
pub record IsTaken (number : ℕ) (facts : List Fact) (row : Row) (k : Known) : Type 0 where
  pub row_is : row_after number facts row ≡ Ok row
  pub known_is : known_by (facts ++ row.fact ∷ []) ≡ k
  pub sound_is : AreSound (facts ++ row.fact ∷ [])

taken_when : (number : ℕ) (facts : List Fact) (row : Row) (k : Known) (fit twice : Bool) → AreSound facts → fit ≡ fits (length (certs facts)) row.fact → twice ≡ is_known row.fact (known_by facts)
    → (if not fit then Err (BadRow number) else if twice then Err (Twice number) else Ok (with_fact row.fact (known_by facts))) ≡ Ok k → IsTaken number facts row k
taken_when number facts row k true false sound fit twice h =
    let clashes : list_any (clash row.fact) facts ≡ false = clash_known facts row.fact sound (sym fit) ∙ sym twice in
    let k_is : with_fact row.fact (known_by facts) ≡ k = cc in
    record {
      row_is = rw (← fit, clashes) refl;
      known_is = known_more facts row.fact sound (sym fit) (sym twice) ∙ k_is;
      sound_is = sound_more facts row.fact sound (sym fit) (sym twice);
    }
taken_when number facts row k true true sound fit twice h = cc
taken_when number facts row k false twice sound fit t h = cc

pub grown_taken : (number : ℕ) (facts : List Fact) (row : Row) (k : Known) → AreSound facts → grown number row.fact (known_by facts) ≡ Ok k → IsTaken number facts row k
grown_taken number facts row k sound h =
    let count : length (known_by facts).chain ≡ length (certs facts) = chain_length facts 0 (certs facts) in
    taken_when number facts row k (fits (length (certs facts)) row.fact) (is_known row.fact (known_by facts)) sound refl refl (rw count at h)

refused_when : (number : ℕ) (facts : List Fact) (row : Row) (fault : FactFault) (fit twice : Bool) → AreSound facts → fit ≡ fits (length (certs facts)) row.fact → twice ≡ is_known row.fact (known_by facts)
    → (if not fit then Err (BadRow number) else if twice then Err (Twice number) else Ok (with_fact row.fact (known_by facts))) ≡ Err fault → row_after number facts row ≡ Err fault
refused_when number facts row fault true false sound fit twice h = cc
refused_when number facts row fault true true sound fit twice h =
    let clashes : list_any (clash row.fact) facts ≡ true = clash_known facts row.fact sound (sym fit) ∙ sym twice in
    let fault_is : Twice number ≡ fault = cc in
    rw (← fit, clashes) (ap (λ (f : FactFault). Err f) fault_is)
refused_when number facts row fault false twice sound fit t h =
    let fault_is : BadRow number ≡ fault = cc in
    rw (← fit) (ap (λ (f : FactFault). Err f) fault_is)

pub grown_refused : (number : ℕ) (facts : List Fact) (row : Row) (fault : FactFault) → AreSound facts → grown number row.fact (known_by facts) ≡ Err fault → row_after number facts row ≡ Err fault
grown_refused number facts row fault sound h =
    let count : length (known_by facts).chain ≡ length (certs facts) = chain_length facts 0 (certs facts) in
    refused_when number facts row fault (fits (length (certs facts)) row.fact) (is_known row.fact (known_by facts)) sound refl refl (rw count at h)

pub sound_none : AreSound []
sound_none = record { below = refl; settled = λ place key. refl }
