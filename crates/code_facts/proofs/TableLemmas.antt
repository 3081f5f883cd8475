-- A table that holds rows, and one row more.
use Rattle.std.proofs.Common.{◌≡◌, ℕ, Bool, true, false, List, [], ◌∷◌, ◌++◌, map, slice_get, Option, None, Some, option_map, is_some, Result, Ok, Err, Bor, refl, sym, ap, subst, ◌∙◌}
use Rattle.std.specs.List.{position}
use Rattle.std.specs.Option.{option_copied}
use Rattle.std.specs.Result.{OnOk, IfErr}
use Rattle.std.specs.Str.{bytes_eq}
use Rattle.std.specs.Map.{lookup, keys_of}
use Rattle.indexmap.specs.IndexMap.{insert_entry}
use Rattle.indexmap.proofs.MapLemmas.{Found-position, insert_entry-first}
use Rattle.req_tree.specs.declared.hash.Hash20.{Hash20}
use Rattle.req_tree.specs.Facts.{Facts, Known, nothing, known_of}
use Rattle.fact_values.specs.declared.facts.Facts.{Facts as CodeFacts}
use Rattle.fact_values.specs.Knowledge.{knowledge_of, known_in}
use Rattle.code_facts.specs.declared.fault.FactFault.{FactFault}
use Rattle.code_facts.specs.Rows.{Fact, Row}
use Rattle.code_facts.specs.FactsFile.{facts_about, row_after}
use Rattle.code_facts.specs.Knowledge.{known_by, known}
use Rattle.code_facts.specs.Growing.{grown}
use Rattle.code_facts.specs.Tables.{Entry, entry_facts, or_nothing, known_at, AreSound, Grows, Holds}
use Rattle.code_facts.proofs.Listing.{about_more, about_same, facts_more, known_in_rows, updated, inserted, found_known}
use Rattle.code_facts.proofs.Soundness.{grown_taken, grown_refused}
use Rattle.code_facts.proofs.Bits.{same_bytes, bytes_same}

pub copied_known : (found : Option (Bor CodeFacts)) → option_map (λ (facts : Bor CodeFacts). knowledge_of facts.now) found ≡ option_map knowledge_of (option_copied found)
copied_known None = refl
copied_known (Some facts) = refl

pub copied_in : (found : Option (Bor CodeFacts)) → known_in found ≡ or_nothing (option_copied found)
copied_in None = refl
copied_in (Some facts) = refl

pub none_found : {A : Type 0} (found : Option A) → false ≡ is_some found → found ≡ None
none_found None h = refl
none_found (Some x) h = cc

pub on_ok : {E : Type 0} (P Q : Type 0) → (P → Q) → (result : Result (Unit {0}) E) → OnOk result P → OnOk result Q
on_ok P Q f (Ok u) h = f h
on_ok P Q f (Err e) h = h

pub if_err : {E : Type 0} (P Q : E → Type 0) → ((e : E) → P e → Q e) → (result : Result (Unit {0}) E) → IfErr result P → IfErr result Q
if_err P Q f (Ok u) h = h
if_err P Q f (Err e) h = f e h

-- the row is taken, and the table holds it too
pub record Added (number : ℕ) (rows : List Row) (row : Row) (new : List Entry) : Type 0 where
  pub row_is : row_after number (facts_about rows row.hash) row ≡ Ok row
  pub held : Holds new (rows ++ row ∷ [])

sound_when : (rows : List Row) (row : Row) → ((hash : List ℕ) → AreSound (facts_about rows hash)) → AreSound (facts_about rows row.hash ++ row.fact ∷ []) → (hash : List ℕ) → (t : Bool) → bytes_eq hash row.hash ≡ t
    → AreSound (facts_about (rows ++ row ∷ []) hash)
sound_when rows row each own hash true e =
    let same : hash ≡ row.hash = same_bytes hash row.hash e in
    subst AreSound (sym (about_more rows row hash e)) (subst (λ (h : List ℕ). AreSound (facts_about rows h ++ row.fact ∷ [])) (sym same) own)
sound_when rows row each own hash false e = subst AreSound (sym (about_same rows row hash e)) (each hash)

pub added : (number : ℕ) (rows : List Row) (row : Row) (old new : List Entry) (facts : CodeFacts) → Holds old rows → grown number row.fact (known rows row.hash) ≡ Ok (knowledge_of facts)
    → map entry_facts new ≡ updated row.hash (knowledge_of facts) (map entry_facts old) → Added number rows row new
added number rows row old new facts h grows is =
    let one = grown_taken number (facts_about rows row.hash) row (knowledge_of facts) (h.each row.hash) grows in
    let own : bytes_eq row.hash row.hash ≡ true = bytes_same row.hash row.hash refl in
    let now : known (rows ++ row ∷ []) row.hash ≡ knowledge_of facts = ap known_by (about_more rows row row.hash own) ∙ one.known_is in
    record {
      row_is = one.row_is;
      held = record {
        all = is ∙ ap (λ (k : Known). updated row.hash k (map entry_facts old)) (sym now) ∙ ap (updated row.hash (known (rows ++ row ∷ []) row.hash)) h.all ∙ sym (facts_more rows row);
        each = λ hash. sound_when rows row h.each one.sound_is hash (bytes_eq hash row.hash) refl;
      };
    }

-- what is known of a hash by its place in the table, or by its absence
module _ (eq : Hash20 → Hash20 → Bool) (hash : Hash20) (same : (other : Hash20) → eq hash other ≡ bytes_eq hash.bytes other.bytes) where
  known_before : (entries : List Entry) (rows : List Row) → Holds entries rows → or_nothing (lookup (eq hash) entries) ≡ known rows hash.bytes
  known_before entries rows h = found_known eq hash same entries ∙ ap (λ (facts : Facts). known_of facts hash.bytes) h.all ∙ known_in_rows rows hash.bytes

  known_there : (entries : List Entry) (rows : List Row) (at : ℕ) → Holds entries rows → slice_get (map (λ (own : Entry). own.1) entries) at ≡ lookup (eq hash) entries → known_at entries at ≡ known rows hash.bytes
  known_there entries rows at h e = ap or_nothing e ∙ known_before entries rows h

  pub added_there : (number : ℕ) (rows : List Row) (fact : Fact) (at : ℕ) (old new : List Entry) → Holds old rows → position (eq hash) (keys_of old) ≡ Some at → slice_get (map (λ (own : Entry). own.1) old) at ≡ lookup (eq hash) old
      → Grows number fact old at new → Added number rows (record { hash = hash.bytes; fact = fact }) new
  added_there number rows fact at old new h place e grows =
      let first = (Found-position (eq hash) old at place).first in
      let entries : new ≡ insert_entry eq old hash grows.facts = grows.entries ∙ sym (insert_entry-first eq hash grows.facts old at first) in
      added number rows (record { hash = hash.bytes; fact = fact }) old new grows.facts h
      (ap (grown number fact) (sym (known_there old rows at h e)) ∙ grows.right)
      (ap (map entry_facts) entries ∙ inserted eq hash same old grows.facts)

  pub refused_there : (number : ℕ) (rows : List Row) (fact : Fact) (at : ℕ) (old : List Entry) (fault : FactFault) → Holds old rows → slice_get (map (λ (own : Entry). own.1) old) at ≡ lookup (eq hash) old
      → grown number fact (known_at old at) ≡ Err fault → row_after number (facts_about rows hash.bytes) (record { hash = hash.bytes; fact = fact }) ≡ Err fault
  refused_there number rows fact at old fault h e bad =
      grown_refused number (facts_about rows hash.bytes) (record { hash = hash.bytes; fact = fact }) fault (h.each hash.bytes) (ap (grown number fact) (sym (known_there old rows at h e)) ∙ bad)

  pub added_new : (number : ℕ) (rows : List Row) (fact : Fact) (old new : List Entry) (facts : CodeFacts) → Holds old rows → lookup (eq hash) old ≡ None
      → grown number fact nothing ≡ Ok (knowledge_of facts) → new ≡ insert_entry eq old hash facts → Added number rows (record { hash = hash.bytes; fact = fact }) new
  added_new number rows fact old new facts h none grows is =
      let was : known rows hash.bytes ≡ nothing = sym (known_before old rows h) ∙ ap or_nothing none in
      added number rows (record { hash = hash.bytes; fact = fact }) old new facts h (ap (grown number fact) was ∙ grows) (ap (map entry_facts) is ∙ inserted eq hash same old facts)

  pub refused_new : (number : ℕ) (rows : List Row) (fact : Fact) (old : List Entry) (fault : FactFault) → Holds old rows → lookup (eq hash) old ≡ None
      → grown number fact nothing ≡ Err fault → row_after number (facts_about rows hash.bytes) (record { hash = hash.bytes; fact = fact }) ≡ Err fault
  refused_new number rows fact old fault h none bad =
      let was : known rows hash.bytes ≡ nothing = sym (known_before old rows h) ∙ ap or_nothing none in
      grown_refused number (facts_about rows hash.bytes) (record { hash = hash.bytes; fact = fact }) fault (h.each hash.bytes) (ap (grown number fact) was ∙ bad)
