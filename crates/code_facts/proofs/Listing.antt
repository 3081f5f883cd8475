-- The facts of rows, and of one row more.
use Rattle.std.proofs.Common.{◌≡◌, ℕ, Bool, true, false, ◌||◌, cond, if◌then◌else◌, List, [], ◌∷◌, ◌++◌, map, None, Some, option_map, refl, sym, ap, ◌∙◌}
use Rattle.std.specs.List.{list_any, cons_option}
use Rattle.std.specs.Str.{bytes_eq}
use Rattle.std.specs.Map.{lookup}
use Rattle.indexmap.specs.IndexMap.{insert_entry}
use Rattle.req_tree.specs.declared.hash.Hash20.{Hash20}
use Rattle.req_tree.specs.Facts.{Facts, Known, nothing, known_of}
use Rattle.fact_values.specs.declared.facts.Facts.{Facts as CodeFacts}
use Rattle.fact_values.specs.Knowledge.{knowledge_of}
use Rattle.code_facts.specs.Rows.{Row}
use Rattle.code_facts.specs.FactsFile.{fact_if, facts_about}
use Rattle.code_facts.specs.Knowledge.{known_by, known, with_hash, hashes_behind, hashes_in, facts_in}
use Rattle.code_facts.specs.Tables.{Entry, entry_facts, or_nothing, listed}
use Rattle.code_facts.proofs.Bits.{or_true, same_any, more_any, same_map, more_map, same_bytes, bytes_turned}

-- the facts of a hash, where a row more is of it and where it isn't
pub about_more : (rows : List Row) (row : Row) (hash : List ℕ) → bytes_eq hash row.hash ≡ true → facts_about (rows ++ row ∷ []) hash ≡ facts_about rows hash ++ row.fact ∷ []
about_more rows row hash h = let here : fact_if (bytes_eq hash row.hash) row.fact ≡ Some row.fact = rw h refl in more_map (λ (r : Row). fact_if (bytes_eq hash r.hash) r.fact) rows row row.fact here

pub about_same : (rows : List Row) (row : Row) (hash : List ℕ) → bytes_eq hash row.hash ≡ false → facts_about (rows ++ row ∷ []) hash ≡ facts_about rows hash
about_same rows row hash h = let here : fact_if (bytes_eq hash row.hash) row.fact ≡ None = rw h refl in same_map (λ (r : Row). fact_if (bytes_eq hash r.hash) r.fact) rows row here

hashes_more : (hashes : List (List ℕ)) (rows : List Row) (row : Row) → hashes_behind hashes (rows ++ row ∷ []) ≡ with_hash row.hash (hashes_behind hashes rows)
hashes_more hashes [] row = refl
hashes_more hashes (first ∷ rest) row = hashes_more (with_hash first.hash hashes) rest row

-- each hash stands once
abbrev pub AreApart : List (List ℕ) → Type 0
AreApart [] = Unit {0}
AreApart (hash ∷ rest) = (list_any (bytes_eq hash) rest ≡ false) × AreApart rest

or_left : (a b : Bool) → (a || b) ≡ false → a ≡ false
or_left true b h = h
or_left false b h = refl

or_right : (a b : Bool) → (a || b) ≡ false → b ≡ false
or_right true b h = cc
or_right false b h = h

apart_append : (hashes : List (List ℕ)) (hash : List ℕ) → AreApart hashes → list_any (bytes_eq hash) hashes ≡ false → AreApart (hashes ++ hash ∷ [])
apart_append [] hash h k = (refl, tt)
apart_append (first ∷ rest) hash h k =
    let other : bytes_eq first hash ≡ false = bytes_turned hash first false (or_left (bytes_eq hash first) (list_any (bytes_eq hash) rest) k) in
    (same_any (bytes_eq first) rest hash other ∙ h.0, apart_append rest hash h.1 (or_right (bytes_eq hash first) (list_any (bytes_eq hash) rest) k))

apart_when : (hashes : List (List ℕ)) (hash : List ℕ) (t : Bool) → list_any (bytes_eq hash) hashes ≡ t → AreApart hashes → AreApart (if t then hashes else hashes ++ hash ∷ [])
apart_when hashes hash true e h = h
apart_when hashes hash false e h = apart_append hashes hash h e

apart_behind : (hashes : List (List ℕ)) (rows : List Row) → AreApart hashes → AreApart (hashes_behind hashes rows)
apart_behind hashes [] h = h
apart_behind hashes (row ∷ rest) h = apart_behind (with_hash row.hash hashes) rest (apart_when hashes row.hash (list_any (bytes_eq row.hash) hashes) refl h)

-- a list of facts where this is known of this hash
abbrev pub updated : List ℕ → Known → Facts → Facts
updated hash k [] = (hash, k) ∷ []
updated hash k (own ∷ rest) = if bytes_eq hash own.0 then (own.0, k) ∷ rest else own ∷ updated hash k rest

abbrev pairs : (List ℕ → Known) → List (List ℕ) → Facts
pairs told hashes = map (λ hash. (hash, told hash)) hashes

-- what is known of other hashes stays
abbrev Stays : (List ℕ → Known) → (List ℕ → Known) → List ℕ → Type 0
Stays old new hash = (other : List ℕ) → bytes_eq other hash ≡ false → new other ≡ old other

pairs_same : (old new : List ℕ → Known) (hash : List ℕ) → Stays old new hash → (hashes : List (List ℕ)) → list_any (bytes_eq hash) hashes ≡ false → pairs new hashes ≡ pairs old hashes
pairs_same old new hash h [] k = refl
pairs_same old new hash h (first ∷ rest) k =
    let other : bytes_eq first hash ≡ false = bytes_turned hash first false (or_left (bytes_eq hash first) (list_any (bytes_eq hash) rest) k) in
    ap (λ (w : Known). (first, w) ∷ pairs new rest) (h first other)
    ∙ ap (λ (es : Facts). (first, old first) ∷ es) (pairs_same old new hash h rest (or_right (bytes_eq hash first) (list_any (bytes_eq hash) rest) k))

pairs_found : (old new : List ℕ → Known) (hash : List ℕ) → Stays old new hash → (hashes : List (List ℕ)) → AreApart hashes → list_any (bytes_eq hash) hashes ≡ true
    → pairs new hashes ≡ updated hash (new hash) (pairs old hashes)
pairs_found old new hash h [] apart k = cc
pairs_found old new hash h (first ∷ rest) apart k = by (bytes_eq hash first) refl k (λ m. pairs_found old new hash h rest apart.1 m)
  where
    by : (t : Bool) → bytes_eq hash first ≡ t → (t || list_any (bytes_eq hash) rest) ≡ true → (list_any (bytes_eq hash) rest ≡ true → pairs new rest ≡ updated hash (new hash) (pairs old rest))
        → pairs new (first ∷ rest) ≡ (if t then (first, new hash) ∷ pairs old rest else (first, old first) ∷ updated hash (new hash) (pairs old rest))
    by true e m more =
        let same : hash ≡ first = same_bytes hash first e in
        let none : list_any (bytes_eq hash) rest ≡ false = rw same apart.0 in
        ap (λ (x : List ℕ). (first, new x) ∷ pairs new rest) (sym same) ∙ ap (λ (es : Facts). (first, new hash) ∷ es) (pairs_same old new hash h rest none)
    by false e m more =
        ap (λ (w : Known). (first, w) ∷ pairs new rest) (h first (bytes_turned hash first false e))
        ∙ ap (λ (es : Facts). (first, old first) ∷ es) (more m)

pairs_absent : (old new : List ℕ → Known) (hash : List ℕ) → Stays old new hash → (hashes : List (List ℕ)) → list_any (bytes_eq hash) hashes ≡ false
    → pairs new (hashes ++ hash ∷ []) ≡ updated hash (new hash) (pairs old hashes)
pairs_absent old new hash h [] k = refl
pairs_absent old new hash h (first ∷ rest) k =
    let apart : bytes_eq hash first ≡ false = or_left (bytes_eq hash first) (list_any (bytes_eq hash) rest) k in
    let stays : new first ≡ old first = h first (bytes_turned hash first false apart) in
    rw apart (ap (λ (w : Known). (first, w) ∷ pairs new (rest ++ hash ∷ [])) stays
    ∙ ap (λ (es : Facts). (first, old first) ∷ es) (pairs_absent old new hash h rest (or_right (bytes_eq hash first) (list_any (bytes_eq hash) rest) k)))

pairs_when : (old new : List ℕ → Known) (hash : List ℕ) → Stays old new hash → (hashes : List (List ℕ)) → AreApart hashes → (t : Bool) → list_any (bytes_eq hash) hashes ≡ t
    → pairs new (if t then hashes else hashes ++ hash ∷ []) ≡ updated hash (new hash) (pairs old hashes)
pairs_when old new hash h hashes apart true e = pairs_found old new hash h hashes apart e
pairs_when old new hash h hashes apart false e = pairs_absent old new hash h hashes e

-- the facts of rows, where one more says more of its hash
pub facts_more : (rows : List Row) (row : Row) → facts_in (rows ++ row ∷ []) ≡ updated row.hash (known (rows ++ row ∷ []) row.hash) (facts_in rows)
facts_more rows row =
    let stays : Stays (known rows) (known (rows ++ row ∷ [])) row.hash = λ other e. ap known_by (about_same rows row other e) in
    ap (pairs (known (rows ++ row ∷ []))) (hashes_more [] rows row)
    ∙ pairs_when (known rows) (known (rows ++ row ∷ [])) row.hash stays (hashes_in rows) (apart_behind [] rows tt) (list_any (bytes_eq row.hash) (hashes_in rows)) refl

kept : (hash own : List ℕ) (xs : List (List ℕ)) → list_any (bytes_eq hash) xs ≡ true → list_any (bytes_eq hash) (xs ++ own ∷ []) ≡ true
kept hash own [] k = cc
kept hash own (x ∷ xs) k = again (bytes_eq hash x) k (λ m. kept hash own xs m)
  where
    again : (t : Bool) → (t || list_any (bytes_eq hash) xs) ≡ true → (list_any (bytes_eq hash) xs ≡ true → list_any (bytes_eq hash) (xs ++ own ∷ []) ≡ true) → (t || list_any (bytes_eq hash) (xs ++ own ∷ [])) ≡ true
    again true m more = refl
    again false m more = more m

-- a hash that stands in no row
stays_listed : (hash : List ℕ) (hashes : List (List ℕ)) (rows : List Row) → list_any (bytes_eq hash) hashes ≡ true → list_any (bytes_eq hash) (hashes_behind hashes rows) ≡ true
stays_listed hash hashes [] h = h
stays_listed hash hashes (row ∷ rest) h = stays_listed hash (with_hash row.hash hashes) rest (by (list_any (bytes_eq row.hash) hashes))
  where
    by : (t : Bool) → list_any (bytes_eq hash) (if t then hashes else hashes ++ row.hash ∷ []) ≡ true
    by true = h
    by false = kept hash row.hash hashes h

is_listed : (hash own : List ℕ) (hashes : List (List ℕ)) → bytes_eq hash own ≡ true → list_any (bytes_eq hash) (with_hash own hashes) ≡ true
is_listed hash own hashes e = by (list_any (bytes_eq own) hashes) refl
  where
    by : (t : Bool) → list_any (bytes_eq own) hashes ≡ t → list_any (bytes_eq hash) (if t then hashes else hashes ++ own ∷ []) ≡ true
    by true k = let same : hash ≡ own = same_bytes hash own e in rw same k
    by false k = more_any (bytes_eq hash) hashes own e

no_facts_about : (hash : List ℕ) (hashes : List (List ℕ)) (rows : List Row) → list_any (bytes_eq hash) (hashes_behind hashes rows) ≡ false → facts_about rows hash ≡ []
no_facts_about hash hashes [] h = refl
no_facts_about hash hashes (row ∷ rest) h = by (bytes_eq hash row.hash) refl (no_facts_about hash (with_hash row.hash hashes) rest h)
  where
    by : (t : Bool) → bytes_eq hash row.hash ≡ t → facts_about rest hash ≡ [] → cons_option (fact_if t row.fact) (facts_about rest hash) ≡ []
    by true e none =
        let there : list_any (bytes_eq hash) (hashes_behind (with_hash row.hash hashes) rest) ≡ true = stays_listed hash (with_hash row.hash hashes) rest (is_listed hash row.hash hashes e) in
        cc
    by false e none = none

known_pairs : (told : List ℕ → Known) (hash : List ℕ) → (hashes : List (List ℕ)) → (list_any (bytes_eq hash) hashes ≡ false → nothing ≡ told hash) → known_of (pairs told hashes) hash ≡ told hash
known_pairs told hash [] none = none refl
known_pairs told hash (first ∷ rest) none = by (bytes_eq first hash) refl (λ k. known_pairs told hash rest k)
  where
    by : (t : Bool) → bytes_eq first hash ≡ t → ((list_any (bytes_eq hash) rest ≡ false → nothing ≡ told hash) → known_of (pairs told rest) hash ≡ told hash) → (if t then told first else known_of (pairs told rest) hash) ≡ told hash
    by true e more = ap told (same_bytes first hash e)
    by false e more = let turned : bytes_eq hash first ≡ false = bytes_turned first hash false e in more (λ k. none (rw turned k))

-- what the facts of rows list of a hash is what the rows say of it
pub known_in_rows : (rows : List Row) (hash : List ℕ) → known_of (facts_in rows) hash ≡ known rows hash
known_in_rows rows hash = known_pairs (known rows) hash (hashes_in rows) (λ e. sym (ap known_by (no_facts_about hash [] rows e)))

-- a table that is looked up and one that takes an entry, as facts
module _ (eq : Hash20 → Hash20 → Bool) (hash : Hash20) (same : (other : Hash20) → eq hash other ≡ bytes_eq hash.bytes other.bytes) where
  pub inserted : (entries : List Entry) (facts : CodeFacts) → map entry_facts (insert_entry eq entries hash facts) ≡ updated hash.bytes (knowledge_of facts) (map entry_facts entries)
  inserted [] facts = refl
  inserted (own ∷ rest) facts = by (bytes_eq hash.bytes own.0.bytes) (same own.0) (inserted rest facts)
    where
      by : (t : Bool) → eq hash own.0 ≡ t → map entry_facts (insert_entry eq rest hash facts) ≡ updated hash.bytes (knowledge_of facts) (map entry_facts rest)
          → map entry_facts (if eq hash own.0 then (own.0, facts) ∷ rest else own ∷ insert_entry eq rest hash facts)
          ≡ (if t then (own.0.bytes, knowledge_of facts) ∷ map entry_facts rest else entry_facts own ∷ updated hash.bytes (knowledge_of facts) (map entry_facts rest))
      by true e more = rw e refl
      by false e more = rw e (ap (λ (es : Facts). entry_facts own ∷ es) more)

  pub found_listed : (entries : List Entry) → option_map knowledge_of (lookup (eq hash) entries) ≡ listed (map entry_facts entries) hash.bytes
  found_listed [] = refl
  found_listed (own ∷ rest) = by (bytes_eq hash.bytes own.0.bytes) (same own.0) refl (found_listed rest)
    where
      by : (t : Bool) → eq hash own.0 ≡ t → bytes_eq hash.bytes own.0.bytes ≡ t → option_map knowledge_of (lookup (eq hash) rest) ≡ listed (map entry_facts rest) hash.bytes
          → option_map knowledge_of (cond (eq hash own.0) (Some own.1) (lookup (eq hash) rest))
          ≡ (if bytes_eq own.0.bytes hash.bytes then Some (knowledge_of own.1) else listed (map entry_facts rest) hash.bytes)
      by true e k more = let turned : bytes_eq own.0.bytes hash.bytes ≡ true = bytes_turned hash.bytes own.0.bytes true k in rw (e, turned) refl
      by false e k more = let turned : bytes_eq own.0.bytes hash.bytes ≡ false = bytes_turned hash.bytes own.0.bytes false k in rw (e, turned) more

  pub found_known : (entries : List Entry) → or_nothing (lookup (eq hash) entries) ≡ known_of (map entry_facts entries) hash.bytes
  found_known [] = refl
  found_known (own ∷ rest) = by (bytes_eq hash.bytes own.0.bytes) (same own.0) refl (found_known rest)
    where
      by : (t : Bool) → eq hash own.0 ≡ t → bytes_eq hash.bytes own.0.bytes ≡ t → or_nothing (lookup (eq hash) rest) ≡ known_of (map entry_facts rest) hash.bytes
          → or_nothing (cond (eq hash own.0) (Some own.1) (lookup (eq hash) rest))
          ≡ (if bytes_eq own.0.bytes hash.bytes then knowledge_of own.1 else known_of (map entry_facts rest) hash.bytes)
      by true e k more = let turned : bytes_eq own.0.bytes hash.bytes ≡ true = bytes_turned hash.bytes own.0.bytes true k in rw (e, turned) refl
      by false e k more = let turned : bytes_eq own.0.bytes hash.bytes ≡ false = bytes_turned hash.bytes own.0.bytes false k in rw (e, turned) more

or_none : (b : Bool) → (b || false) ≡ b
or_none true = refl
or_none false = refl

or_turned : (a b c : Bool) → ((a || b) || c) ≡ (a || (b || c))
or_turned true b c = refl
or_turned false b c = refl

-- a hash behind others
listed_with : (hash own : List ℕ) (hashes : List (List ℕ)) → list_any (bytes_eq hash) (with_hash own hashes) ≡ (list_any (bytes_eq hash) hashes || bytes_eq hash own)
listed_with hash own hashes = by (list_any (bytes_eq own) hashes) refl (bytes_eq hash own) refl
  where
    by : (t : Bool) → list_any (bytes_eq own) hashes ≡ t → (u : Bool) → bytes_eq hash own ≡ u → list_any (bytes_eq hash) (if t then hashes else hashes ++ own ∷ []) ≡ (list_any (bytes_eq hash) hashes || u)
    by true k true e = let same : hash ≡ own = same_bytes hash own e in let there : list_any (bytes_eq hash) hashes ≡ true = rw same k in there ∙ sym (or_true (list_any (bytes_eq hash) hashes))
    by true k false e = sym (or_none (list_any (bytes_eq hash) hashes))
    by false k true e = more_any (bytes_eq hash) hashes own e ∙ sym (or_true (list_any (bytes_eq hash) hashes))
    by false k false e = same_any (bytes_eq hash) hashes own e ∙ sym (or_none (list_any (bytes_eq hash) hashes))

-- a hash is among those of rows exactly where a row has it
listed_behind : (hash : List ℕ) (hashes : List (List ℕ)) (rows : List Row) → list_any (bytes_eq hash) (hashes_behind hashes rows) ≡ (list_any (bytes_eq hash) hashes || list_any (λ (row : Row). bytes_eq hash row.hash) rows)
listed_behind hash hashes [] = sym (or_none (list_any (bytes_eq hash) hashes))
listed_behind hash hashes (row ∷ rest) =
    listed_behind hash (with_hash row.hash hashes) rest
    ∙ ap (λ (t : Bool). t || list_any (λ (r : Row). bytes_eq hash r.hash) rest) (listed_with hash row.hash hashes)
    ∙ or_turned (list_any (bytes_eq hash) hashes) (bytes_eq hash row.hash) (list_any (λ (r : Row). bytes_eq hash r.hash) rest)

listed_pairs : (told : List ℕ → Known) (hash : List ℕ) (hashes : List (List ℕ)) → listed (pairs told hashes) hash ≡ (if list_any (bytes_eq hash) hashes then Some (told hash) else None)
listed_pairs told hash [] = refl
listed_pairs told hash (first ∷ rest) = by (bytes_eq first hash) refl (listed_pairs told hash rest)
  where
    by : (t : Bool) → bytes_eq first hash ≡ t → listed (pairs told rest) hash ≡ (if list_any (bytes_eq hash) rest then Some (told hash) else None) → (if t then Some (told first) else listed (pairs told rest) hash) ≡ (if (bytes_eq hash first || list_any (bytes_eq hash) rest) then Some (told hash) else None)
    by true e more =
        let turned : bytes_eq hash first ≡ true = bytes_turned first hash true e in
        rw turned (ap (λ (h : List ℕ). Some (told h)) (same_bytes first hash e))
    by false e more = let turned : bytes_eq hash first ≡ false = bytes_turned first hash false e in rw turned more

pub listed_in_rows : (rows : List Row) (hash : List ℕ) → listed (facts_in rows) hash ≡ (if list_any (λ (row : Row). bytes_eq hash row.hash) rows then Some (known rows hash) else None)
listed_in_rows rows hash =
    listed_pairs (known rows) hash (hashes_in rows)
    ∙ ap (λ (t : Bool). if t then Some (known rows hash) else None) (listed_behind hash [] rows)
