-- A set that is written part by part.
use Rattle.std.proofs.Common.{◌≡◌, ◌≢◌, ℕ, zero, suc, ◌+◌, ◌*◌, ◌^◌, ◌<◌, ◌≤◌, Bool, true, false, ◌==◌, ◌||◌, Option, Some, None, Result, Ok, Err, List, [], ◌∷◌, ◌++◌, length, refl, sym, ap, subst, ◌∙◌, arith, inl, inr, ◌⊎◌, add-one, length-append}
use Rattle.std.specs.Prelude.{IfSome, MatchResult}
use Rattle.std.specs.List.{list_any}
use Rattle.std.proofs.lemmas.Bool.{cases_lt}
use Rattle.std.proofs.lemmas.Bool.Decides.{nat_tests}
use Rattle.std.proofs.lemmas.List.{append-nil, append_assoc}
use Rattle.req_tree.specs.Tree.{Tree}
use Rattle.req_tree.specs.TreeSet.{TreeSet, part_of}
use Rattle.cs_blob.specs.Blobs.{IsSized}
use Rattle.cs_blob.specs.Writing.{Draft, has_kind, body_bytes, total_of, add_fault, written}
use Rattle.req_blob.specs.declared.fault.OpsFault.{OpsFault}
use Rattle.req_blob.specs.declared.fault.OpsFault.TheVariants as fault
use Rattle.req_blob.specs.Spelling.{IsSpelling, IsPlain, plain, plain_blob}
use Rattle.req_tree.specs.Spellable.{IsEncodable}
use Rattle.req_blob.specs.declared.limits.TheConstants.{MOST_BYTES}
use Rattle.req_blob.specs.Encoding.{encoded}
use Rattle.req_ops.specs.Sets.{set_magic}
use Rattle.req_ops.specs.SetEncoding.{part_under, parts_below, plain_set}
use Rattle.req_ops.specs.Steps.{IsDraftTo, HasLongPart}
use Rattle.req_tree.specs.TreeSet.{IsEncodableSet}
use Rattle.req_ops.proofs.LawsBelow.{IsBlobOf, RefusedIsLong, PartFits, HasTotal}

body-append : (xs ys : List (ℕ × List ℕ)) → body_bytes (xs ++ ys) ≡ body_bytes xs ++ body_bytes ys
body-append [] ys = refl
body-append (x ∷ xs) ys = ap (λ (r : List ℕ). x.1 ++ r) (body-append xs ys) ∙ sym (append_assoc x.1 (body_bytes xs) (body_bytes ys))

-- one part more
pub total-more : (parts : List (ℕ × List ℕ)) (kind : ℕ) (part : List ℕ) → total_of (parts ++ (kind, part) ∷ []) ≡ total_of parts + (8 + length part)
total-more parts kind part =
    let body : length (body_bytes (parts ++ (kind, part) ∷ [])) ≡ length (body_bytes parts) + length part =
    ap length (body-append parts ((kind, part) ∷ []) ∙ ap (λ (r : List ℕ). body_bytes parts ++ r) (append-nil part)) ∙ length-append (body_bytes parts) part in
    let count : length (parts ++ (kind, part) ∷ []) ≡ length parts + 1 = length-append parts ((kind, part) ∷ []) in
    omega (arith, body, count)

any-append : {A : Type 0} (p : A → Bool) (xs ys : List A) → list_any p xs ≡ false → list_any p ys ≡ false → list_any p (xs ++ ys) ≡ false
any-append p [] ys h g = g
any-append p (x ∷ xs) ys h g = by_test (p x) h (λ k. any-append p xs ys k g)
  where
    by_test : (b : Bool) → (b || list_any p xs) ≡ false → (list_any p xs ≡ false → list_any p (xs ++ ys) ≡ false) → (b || list_any p (xs ++ ys)) ≡ false
    by_test true k next = absurd cc
    by_test false k next = next k

other_kind : (kind other : ℕ) → kind < other → (kind == other) ≡ false
other_kind kind other lt = grind (arith, nat_tests)

under_kind : (kind other : ℕ) (o : Option Tree) → kind < other → has_kind (part_under kind o) other ≡ false
under_kind kind other None lt = refl
under_kind kind other (Some tree) lt = ap (λ (b : Bool). b || false) (other_kind kind other lt)

below_kind : (kind other : ℕ) (s : TreeSet) → kind ≤ other → has_kind (parts_below kind s) other ≡ false
below_kind zero other s le = refl
below_kind (suc kind) other s le = any-append (λ (part : ℕ × List ℕ). part.0 == other) (parts_below kind s) (part_under kind (part_of kind s)) (below_kind kind other s (omega (arith, le))) (under_kind kind other (part_of kind s) (omega (arith, le)))

under_count : (kind : ℕ) (o : Option Tree) → length (part_under kind o) ≤ 1
under_count kind None = omega arith
under_count kind (Some tree) = omega arith

below_count : (kind : ℕ) (s : TreeSet) → length (parts_below kind s) ≤ kind
below_count zero s = omega arith
below_count (suc kind) s = omega (arith, length-append (parts_below kind s) (part_under kind (part_of kind s)), below_count kind s, under_count kind (part_of kind s))

pub draft_none : (s : TreeSet) (draft : Draft) → draft ≡ record { magic = set_magic; parts = [] } → IsDraftTo s 0 draft
draft_none s draft is = subst (IsDraftTo s 0) (sym is) (record { magic = refl; parts = refl; small = omega arith; spelled = λ k lt. absurd (omega (arith, lt)) })

-- ---- one type

-- what holds of the types below a number, and of that one
types_more : (s : TreeSet) (kind : ℕ) (P : Tree → Type 0) → ((k : ℕ) → k < kind → IfSome (part_of k s) P) → IfSome (part_of kind s) P → (k : ℕ) → k < kind + 1 → IfSome (part_of k s) P
types_more s kind P below here k lt =
    elim (cases_lt k kind) [
      | inl less ↦ below k less
      | inr le ↦ let same : kind ≡ k = omega (arith, lt, le) in subst (λ (j : ℕ). IfSome (part_of j s) P) same here
    ]

abbrev IsSpelledPlain : Tree → Type 0
IsSpelledPlain tree = IsSpelling tree (plain_blob tree)

below_none : (kind : ℕ) (s : TreeSet) → part_of kind s ≡ None → parts_below (kind + 1) s ≡ parts_below kind s
below_none kind s none = rw add-one (ap (λ (o : Option Tree). parts_below kind s ++ part_under kind o) none ∙ append-nil (parts_below kind s))

below_some : (kind : ℕ) (s : TreeSet) (tree : Tree) → part_of kind s ≡ Some tree → parts_below (kind + 1) s ≡ parts_below kind s ++ (kind, plain_blob tree) ∷ []
below_some kind s tree some = rw add-one (ap (λ (o : Option Tree). parts_below kind s ++ part_under kind o) some)

pub draft_same : (s : TreeSet) (kind : ℕ) (draft : Draft) → IsDraftTo s kind draft → part_of kind s ≡ None → IsDraftTo s (kind + 1) draft
draft_same s kind draft is none =
    let small : total_of draft.parts ≤ 12 + kind * (MOST_BYTES + 8) = is.small in
    record {
      magic = is.magic;
      parts = is.parts ∙ sym (below_none kind s none);
      small = omega (arith, small);
      spelled = types_more s kind IsSpelledPlain is.spelled (subst (λ (o : Option Tree). IfSome o IsSpelledPlain) (sym none) tt);
    }

pub draft_more : (s : TreeSet) (kind : ℕ) (old new : Draft) (tree : Tree) (part : List ℕ) → IsDraftTo s kind old → part_of kind s ≡ Some tree → IsPlain tree part
    → new ≡ record old { parts = old.parts ++ (kind, part) ∷ [] } → IsDraftTo s (kind + 1) new
draft_more s kind old new tree part is some written more = subst (IsDraftTo s (kind + 1)) (sym more) grown
  where
    grown : IsDraftTo s (kind + 1) (record old { parts = old.parts ++ (kind, part) ∷ [] })
    grown =
        let small : total_of old.parts ≤ 12 + kind * (MOST_BYTES + 8) = is.small in
        let short : length part ≤ MOST_BYTES = written.spelled.short in
        record {
          magic = is.magic;
          parts = ap (λ (ps : List (ℕ × List ℕ)). ps ++ (kind, part) ∷ []) is.parts ∙ ap (λ (b : List ℕ). parts_below kind s ++ (kind, b) ∷ []) written.plain_is ∙ sym (below_some kind s tree some);
          small = omega (arith, total-more old.parts kind part, small, short);
          spelled = types_more s kind IsSpelledPlain is.spelled (subst (λ (o : Option Tree). IfSome o IsSpelledPlain) (sym some) (subst (λ (b : List ℕ). IsSpelling tree b) written.plain_is written.spelled));
        }

pub part_sized : IsBlobOf → (tree : Tree) (part : List ℕ) → IsPlain tree part → IsSized part
part_sized blob_of tree part is =
    let short : length part ≤ MOST_BYTES = is.spelled.short in
    let blob = blob_of (plain tree) (subst (λ (b : List ℕ). length b < 2 ^ 32) is.plain_is (omega (arith, short))) in
    subst IsSized (sym is.plain_is) (record { header = blob.header; sized = blob.sized })

pub part_fits : PartFits → (s : TreeSet) (kind : ℕ) (draft : Draft) (tree : Tree) (part : List ℕ) → IsDraftTo s kind draft → kind < 6 → IsPlain tree part → add_fault draft.parts kind part ≡ None
part_fits fits s kind draft tree part is low written =
    let small : total_of draft.parts ≤ 12 + kind * (MOST_BYTES + 8) = is.small in
    let short : length part ≤ MOST_BYTES = written.spelled.short in
    let fresh : has_kind draft.parts kind ≡ false = ap (λ (ps : List (ℕ × List ℕ)). has_kind ps kind) is.parts ∙ below_kind kind kind s (omega arith) in
    let count : length draft.parts ≤ kind = subst (λ (ps : List (ℕ × List ℕ)). length ps ≤ kind) (sym is.parts) (below_count kind s) in
    fits draft.parts kind part fresh (omega (arith, count, low)) (omega (arith, small, short, low))

pub part_can : (s : TreeSet) (kind : ℕ) (tree : Tree) → IsEncodableSet s → Some tree ≡ part_of kind s → IsEncodable tree
part_can s kind tree can some = subst (λ (o : Option Tree). IfSome o IsEncodable) (sym some) (can.parts kind)

pub part_long : RefusedIsLong → (s : TreeSet) (kind : ℕ) (tree : Tree) (e : OpsFault) → Some tree ≡ part_of kind s → (e ≢ fault.OutOfMemory → encoded tree ≡ Err e)
    → (e ≡ fault.OutOfMemory) ⊎ ((e ≡ fault.TooLong) × HasLongPart s kind)
part_long refused s kind tree e some given =
    elim (refused e tree given) [
      | inl is ↦ inl is
      | inr long ↦ inr (long.0, record { tree = tree; part = sym some; long = long.1 })
    ]

-- ---- the whole

part_inside : (k kind : ℕ) (s : TreeSet) (tree : Tree) → kind < k → part_of kind s ≡ Some tree → length (plain_blob tree) ≤ length (body_bytes (parts_below k s))
part_inside zero kind s tree lt some = absurd (omega (arith, lt))
part_inside (suc k) kind s tree lt some = by_test (kind == k) refl (λ less. part_inside k kind s tree less some)
  where
    split : length (body_bytes (parts_below k s ++ part_under k (part_of k s))) ≡ length (body_bytes (parts_below k s)) + length (body_bytes (part_under k (part_of k s)))
    split = ap length (body-append (parts_below k s) (part_under k (part_of k s))) ∙ length-append (body_bytes (parts_below k s)) (body_bytes (part_under k (part_of k s)))

    here : kind ≡ k → length (body_bytes (part_under k (part_of k s))) ≡ length (plain_blob tree)
    here same =
        ap (λ (o : Option Tree). length (body_bytes (part_under k o))) (subst (λ (i : ℕ). part_of i s ≡ Some tree) same some)
        ∙ ap length (append-nil (plain_blob tree))

    by_test : (b : Bool) → (kind == k) ≡ b → (kind < k → length (plain_blob tree) ≤ length (body_bytes (parts_below k s)))
        → length (plain_blob tree) ≤ length (body_bytes (parts_below k s ++ part_under k (part_of k s)))
    by_test true e next = let same : kind ≡ k = grind (arith, nat_tests, e) in omega (arith, split, here same)
    by_test false e next = let less : kind < k = grind (arith, nat_tests, e, lt) in omega (arith, split, next less)

pub set_long : HasTotal → (s : TreeSet) (kind : ℕ) → kind < 6 → HasLongPart s kind → MOST_BYTES < length (plain_set s)
unfolding plain_set
set_long has_total s kind low has =
    let inside : length (plain_blob has.tree) ≤ length (body_bytes (parts_below 6 s)) = part_inside 6 kind s has.tree low has.part in
    let long : MOST_BYTES < length (plain_blob has.tree) = has.long in
    let size : length (written (record { magic = set_magic; parts = parts_below 6 s })) ≡ total_of (parts_below 6 s) = has_total (record { magic = set_magic; parts = parts_below 6 s }) in
    omega (arith, inside, long, size)

abbrev draft_of : ℕ → List (ℕ × List ℕ) → Draft
draft_of magic parts = record { magic = magic; parts = parts }

pub whole_written : (s : TreeSet) (draft : Draft) → IsDraftTo s 6 draft → written draft ≡ plain_set s
unfolding plain_set
whole_written s draft is = ap (λ (m : ℕ). written (draft_of m draft.parts)) is.magic ∙ ap (λ (ps : List (ℕ × List ℕ)). written (draft_of set_magic ps)) is.parts

pub long_fault : HasTotal → (s : TreeSet) (e : OpsFault) → ((e ≡ fault.OutOfMemory) ⊎ ((e ≡ fault.TooLong) × ((kind : ℕ) × (kind < 6) × HasLongPart s kind)))
    → (e ≡ fault.OutOfMemory) ⊎ ((e ≡ fault.TooLong) × (MOST_BYTES < length (plain_set s)))
long_fault has_total s e (inl is) = inl is
long_fault has_total s e (inr h) = inr (h.0, set_long has_total s h.1.0 h.1.1 h.1.2)

pub added_more : (r : Result (Unit {0}) OpsFault) (s : TreeSet) (kind : ℕ) (old new : Draft) (tree : Tree) (part : List ℕ) → IsDraftTo s kind old → Some tree ≡ part_of kind s → IsPlain tree part
    → MatchResult r (λ _. new ≡ record old { parts = old.parts ++ (kind, part) ∷ [] }) (λ e. e ≡ fault.OutOfMemory)
    → MatchResult r (λ _. IsDraftTo s (kind + 1) new) (λ e. (e ≡ fault.OutOfMemory) ⊎ ((e ≡ fault.TooLong) × HasLongPart s kind))
added_more (Ok _) s kind old new tree part is some written h = draft_more s kind old new tree part is (sym some) written h
added_more (Err e) s kind old new tree part is some written h = inl h
