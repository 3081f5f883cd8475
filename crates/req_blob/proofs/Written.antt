-- What is written is plain, and is read again.
use Rattle.std.proofs.Common.{◌≡◌, ◌≢◌, ℕ, ◌+◌, ◌<◌, ◌≤◌, min, Bool, true, false, cond, ltb, List, length, Result, Ok, Err, refl, sym, ap, subst, ◌∙◌, arith, ◌⊎◌, inl, inr}
use Rattle.std.specs.Prelude.{IfOk, IfErr, IsErrOf}
use Rattle.std.proofs.lemmas.Bool.{le-ltb, cases_lt}
use Rattle.std.proofs.lemmas.Bool.Decides.{nat_tests}
use Rattle.req_tree.specs.Tree.{Tree, tree_of}
use Rattle.req_tree.specs.declared.req.Req.{Req}
use Rattle.req_tree.specs.Spellable.{IsEncodable}
use Rattle.req_blob.specs.declared.fault.OpsFault.{OpsFault}
use Rattle.req_blob.specs.declared.fault.OpsFault.TheVariants as fault
use Rattle.req_blob.specs.Spelling.{IsSpelling, IsPlain, plain, plain_blob, requirement}
use Rattle.req_blob.specs.declared.limits.TheConstants.{MOST_BYTES}
use Rattle.req_blob.specs.Encoding.{HasFields, encoded}
use Rattle.req_blob.specs.Reading.{Gives}
use Rattle.req_blob.proofs.Fields.{ok_is}
use Rattle.req_blob.proofs.Blobs.{length-requirement}
use Rattle.req_blob.specs.Decoding.{decoded}
use Rattle.req_blob.proofs.Plain.{plain_spells, spelled_can, spelled_size}

pub is_plain : (tree : Tree) (bytes : List ℕ) → IsEncodable tree → HasFields tree → length (plain_blob tree) ≤ MOST_BYTES → bytes ≡ plain_blob tree → IsPlain tree bytes
is_plain tree bytes can has short is =
    let size : length (plain_blob tree) ≡ 12 + length (plain tree) = length-requirement (plain tree) in
    record {
      spelled = record {
        expression = plain tree;
        blob = is;
        spelled = plain_spells tree has can.spellable (omega (arith, size, short));
        shallow = can.shallow;
        short = subst (λ (b : List ℕ). length b ≤ MOST_BYTES) (sym is) short;
      };
      plain_is = is;
    }

pub can_encode : (tree : Tree) (bytes : List ℕ) → IsSpelling tree bytes → IsEncodable tree
can_encode tree bytes is = record { shallow = is.shallow; spellable = spelled_can tree is.expression is.spelled }

pub found_can : (bytes : List ℕ) (r : Result Req OpsFault) → IfOk r (λ req. IsSpelling (tree_of req) bytes) → IfOk r (λ req. IsEncodable (tree_of req))
found_can bytes (Ok req) h = can_encode (tree_of req) bytes h
found_can bytes (Err e) h = tt

-- ---- sizes

pub long_size : (n : ℕ) (tree : Tree) → n ≡ min (length (plain tree)) (MOST_BYTES + 1) → MOST_BYTES < 12 + n → MOST_BYTES < length (plain_blob tree)
long_size n tree is h =
    let size : length (plain_blob tree) ≡ 12 + length (plain tree) = length-requirement (plain tree) in
    omega (arith, size, is, h)

pub short_size : (n : ℕ) (tree : Tree) → n ≡ min (length (plain tree)) (MOST_BYTES + 1) → 12 + n ≤ MOST_BYTES → length (plain_blob tree) ≤ MOST_BYTES
short_size n tree is h =
    let size : length (plain_blob tree) ≡ 12 + length (plain tree) = length-requirement (plain tree) in
    omega (arith, size, is, h)

pub encoded_long : (tree : Tree) → MOST_BYTES < length (plain_blob tree) → encoded tree ≡ Err fault.TooLong
encoded_long tree long = ap (λ (b : Bool). cond b (Err fault.TooLong) (Ok (plain_blob tree))) (is_less MOST_BYTES (length (plain_blob tree)) long)
  where
    is_less : (m n : ℕ) → m < n → ltb m n ≡ true
    is_less m n h = grind (arith, nat_tests)

pub encoded_short : (tree : Tree) (bytes : List ℕ) → length (plain_blob tree) ≤ MOST_BYTES → bytes ≡ plain_blob tree → encoded tree ≡ Ok bytes
encoded_short tree bytes short is = ap (λ (b : Bool). cond b (Err fault.TooLong) (Ok (plain_blob tree))) (le-ltb _ _ short) ∙ ap Ok (sym is)

-- ---- the blob of an expression

-- what is told of the blob of an expression
abbrev pub BlobTold : Result (List ℕ) OpsFault → List ℕ → Type 0
BlobTold r body =
    IfOk r (λ b. b ≡ requirement body)
    × ((IsErrOf r fault.TooLong → MOST_BYTES < 12 + length body) × (MOST_BYTES < 12 + length body → IsErrOf r fault.TooLong))
    × IfErr r (λ e. (e ≡ fault.OutOfMemory) ⊎ (e ≡ fault.TooLong))

ok_is_no_err : (bytes : List ℕ) (e : OpsFault) → ◌≡◌ {A = Result (List ℕ) OpsFault} (Ok bytes) (Err e) → ⊥
ok_is_no_err bytes e h = cc

same_err : (d e : OpsFault) → ◌≡◌ {A = Result (List ℕ) OpsFault} (Err d) (Err e) → d ≡ e
same_err d e h = cc

blob_size : (tree : Tree) (body : List ℕ) → body ≡ plain tree → length (plain_blob tree) ≡ 12 + length body
blob_size tree body is = length-requirement (plain tree) ∙ ap (λ (b : List ℕ). 12 + length b) (sym is)

blob_short : (tree : Tree) (body bytes : List ℕ) → body ≡ plain tree → BlobTold (Ok bytes) body → length (plain_blob tree) ≤ MOST_BYTES
blob_short tree body bytes is told =
    elim (cases_lt MOST_BYTES (12 + length body)) [
      | inl long ↦ absurd (ok_is_no_err bytes fault.TooLong (told.1.1 long))
      | inr le ↦ omega (arith, blob_size tree body is, le)
    ]

pub blob_plain : (r : Result (List ℕ) OpsFault) (tree : Tree) (body : List ℕ) → IsEncodable tree → HasFields tree → body ≡ plain tree → BlobTold r body → IfOk r (λ b. IsPlain tree b)
blob_plain (Ok bytes) tree body can has is told = is_plain tree bytes can has (blob_short tree body bytes is told) (told.0 ∙ ap requirement is)
blob_plain (Err e) tree body can has is told = tt

pub blob_long : (r : Result (List ℕ) OpsFault) (tree : Tree) (body : List ℕ) → body ≡ plain tree → BlobTold r body
    → (IsErrOf r fault.TooLong → MOST_BYTES < length (plain_blob tree)) × (MOST_BYTES < length (plain_blob tree) → IsErrOf r fault.TooLong)
blob_long r tree body is told = (
  λ err. let long = told.1.0 err in omega (arith, long, blob_size tree body is),
  λ long. told.1.1 (omega (arith, long, blob_size tree body is)),
)

pub blob_exact : (r : Result (List ℕ) OpsFault) (tree : Tree) (body : List ℕ) → body ≡ plain tree → BlobTold r body → Gives (λ b. b) r (encoded tree)
blob_exact (Ok bytes) tree body is told = encoded_short tree bytes (blob_short tree body bytes is told) (told.0 ∙ ap requirement is)
blob_exact (Err e) tree body is told = λ other. by_fault told.2 other
  where
    by_fault : ((e ≡ fault.OutOfMemory) ⊎ (e ≡ fault.TooLong)) → (e ≢ fault.OutOfMemory) → encoded tree ≡ Err e
    by_fault (inl memory) other = absurd (other memory)
    by_fault (inr long) other =
        let more = told.1.0 (ap Err long) in
        encoded_long tree (omega (arith, more, blob_size tree body is)) ∙ ap Err (sym long)

-- memory was wanting, or the requirement is too long all the same
pub wanting_long : (e : OpsFault) (tree : Tree) → (e ≡ fault.TooLong → MOST_BYTES < length (plain_blob tree)) × (MOST_BYTES < length (plain_blob tree) → e ≡ fault.TooLong)
    → (◌≡◌ {A = Result (List ℕ) OpsFault} (Err e) (Err fault.TooLong) → MOST_BYTES < length (plain_blob tree)) × (MOST_BYTES < length (plain_blob tree) → ◌≡◌ {A = Result (List ℕ) OpsFault} (Err e) (Err fault.TooLong))
wanting_long e tree both = (λ err. both.0 (same_err e fault.TooLong err), λ long. ap Err (both.1 long))

pub wanting_exact : (e : OpsFault) (tree : Tree) → (e ≡ fault.TooLong → MOST_BYTES < length (plain_blob tree)) → ((e ≡ fault.OutOfMemory) ⊎ (e ≡ fault.TooLong)) → e ≢ fault.OutOfMemory → encoded tree ≡ Err e
wanting_exact e tree long (inl memory) other = absurd (other memory)
wanting_exact e tree long (inr is) other = encoded_long tree (long is) ∙ ap Err (sym is)

-- ---- round trips

memory_alone : (e : OpsFault) → (e ≢ fault.OutOfMemory → ⊥) → e ≡ fault.OutOfMemory
memory_alone fault.OutOfMemory h = refl
memory_alone (fault.Blob why) h = absurd (h (λ p. cc))
memory_alone fault.BadKind h = absurd (h (λ p. cc))
memory_alone (fault.UnknownOp at op) h = absurd (h (λ p. cc))
memory_alone (fault.OutOfScopeOp at) h = absurd (h (λ p. cc))
memory_alone (fault.UnknownMatch at suffix) h = absurd (h (λ p. cc))
memory_alone (fault.Cut at) h = absurd (h (λ p. cc))
memory_alone (fault.BadPadding at) h = absurd (h (λ p. cc))
memory_alone (fault.BadHashLength at) h = absurd (h (λ p. cc))
memory_alone (fault.TooDeep at) h = absurd (h (λ p. cc))
memory_alone (fault.Trailing at) h = absurd (h (λ p. cc))
memory_alone (fault.BadOid at) h = absurd (h (λ p. cc))
memory_alone fault.TooLong h = absurd (h (λ p. cc))
memory_alone (fault.BadKey at) h = absurd (h (λ p. cc))

abbrev read_as : Tree → Result Tree OpsFault
read_as tree = Ok tree

ok_not_err : (tree : Tree) (e : OpsFault) → read_as tree ≡ Err e → ⊥
ok_not_err tree e h = cc

pub same_again : (r : Result Req OpsFault) (tree : Tree) → Gives tree_of r (Ok tree) → IfOk r (λ again. tree_of again ≡ tree)
same_again (Ok req) tree given = sym (ok_is tree (tree_of req) given)
same_again (Err e) tree given = tt

pub fault_again : (r : Result Req OpsFault) (tree : Tree) → Gives tree_of r (Ok tree) → IfErr r (λ e. (e ≡ fault.OutOfMemory) ⊎ ((e ≡ fault.TooLong) × (MOST_BYTES < length (plain_blob tree))))
fault_again (Ok req) tree given = tt
fault_again (Err e) tree given = inl (memory_alone e (λ other. ok_not_err tree e (given other)))

pub fault_written : (e : OpsFault) (tree : Tree) → (e ≢ fault.OutOfMemory → encoded tree ≡ Err e) → (e ≡ fault.OutOfMemory) ⊎ ((e ≡ fault.TooLong) × (MOST_BYTES < length (plain_blob tree)))
fault_written e tree given = by_size (ltb MOST_BYTES (length (plain_blob tree))) refl given
  where
    too_long : OpsFault → ◌≡◌ {A = Result (List ℕ) OpsFault} (Err fault.TooLong) (Err e) → e ≡ fault.TooLong
    too_long d h = cc

    no_fault : (bytes : List ℕ) → ◌≡◌ {A = Result (List ℕ) OpsFault} (Ok bytes) (Err e) → ⊥
    no_fault bytes h = cc

    is_memory : (d : OpsFault) → ((d ≡ fault.OutOfMemory) ⊎ (d ≢ fault.OutOfMemory))
    is_memory fault.OutOfMemory = inl refl
    is_memory (fault.Blob why) = inr (λ p. cc)
    is_memory fault.BadKind = inr (λ p. cc)
    is_memory (fault.UnknownOp at op) = inr (λ p. cc)
    is_memory (fault.OutOfScopeOp at) = inr (λ p. cc)
    is_memory (fault.UnknownMatch at suffix) = inr (λ p. cc)
    is_memory (fault.Cut at) = inr (λ p. cc)
    is_memory (fault.BadPadding at) = inr (λ p. cc)
    is_memory (fault.BadHashLength at) = inr (λ p. cc)
    is_memory (fault.TooDeep at) = inr (λ p. cc)
    is_memory (fault.Trailing at) = inr (λ p. cc)
    is_memory (fault.BadOid at) = inr (λ p. cc)
    is_memory fault.TooLong = inr (λ p. cc)
    is_memory (fault.BadKey at) = inr (λ p. cc)

    by_size : (b : Bool) → ltb MOST_BYTES (length (plain_blob tree)) ≡ b → (e ≢ fault.OutOfMemory → cond b (Err fault.TooLong) (Ok (plain_blob tree)) ≡ Err e)
        → (e ≡ fault.OutOfMemory) ⊎ ((e ≡ fault.TooLong) × (MOST_BYTES < length (plain_blob tree)))
    by_size true long h =
        elim (is_memory e) [
          | inl is ↦ inl is
          | inr other ↦ inr (too_long e (h other), grind (arith, nat_tests, long))
        ]
    by_size false long h = inl (memory_alone e (λ other. no_fault (plain_blob tree) (h other)))

-- bytes come back exactly where they are plain
-- a_blob_spells_one_tree, a law of this crate
abbrev OneTree : Type 0
OneTree = (first second : Tree) (bytes : List ℕ) → IsSpelling first bytes → IsSpelling second bytes → first ≡ second

pub plain_again : OneTree → (tree : Tree) (bytes again : List ℕ) → IsSpelling tree bytes → IsPlain tree again → (again ≡ bytes → (t : Tree) × IsPlain t bytes) × (((t : Tree) × IsPlain t bytes) → again ≡ bytes)
plain_again one_tree tree bytes again spelled written = (
  λ same. (tree, subst (λ (b : List ℕ). IsPlain tree b) same written),
  λ is. written.plain_is ∙ ap plain_blob (one_tree tree is.0 bytes spelled is.1.spelled) ∙ sym is.1.plain_is,
)

pub respelled_spells : (r : Result (List ℕ) OpsFault) (tree : Tree) (bytes : List ℕ) → IsSpelling tree bytes → IfOk r (λ b. IsPlain tree b) → IfOk r (λ again. (t : Tree) × IsSpelling t bytes × IsPlain t again)
respelled_spells (Ok again) tree bytes spelled written = (tree, spelled, written)
respelled_spells (Err e) tree bytes spelled written = tt

pub respelled_same : OneTree → (r : Result (List ℕ) OpsFault) (tree : Tree) (bytes : List ℕ) → IsSpelling tree bytes → IfOk r (λ b. IsPlain tree b)
    → IfOk r (λ again. (again ≡ bytes → (t : Tree) × IsPlain t bytes) × (((t : Tree) × IsPlain t bytes) → again ≡ bytes))
respelled_same one_tree (Ok again) tree bytes spelled written = plain_again one_tree tree bytes again spelled written
respelled_same one_tree (Err e) tree bytes spelled written = tt

-- nothing that is read is too long to be written
pub respelled_fault : (r : Result (List ℕ) OpsFault) (tree : Tree) (bytes : List ℕ) → IsSpelling tree bytes → Gives (λ b. b) r (encoded tree) → IfErr r (λ e. e ≢ fault.OutOfMemory → decoded bytes ≡ Err e)
respelled_fault (Ok again) tree bytes spelled given = tt
respelled_fault (Err e) tree bytes spelled given = λ other. absurd (elim (fault_written e tree given) [
  | inl is ↦ other is
  | inr long ↦ not_long long.1
])
  where
    not_long : MOST_BYTES < length (plain_blob tree) → ⊥
    not_long long =
        let short : length bytes ≤ MOST_BYTES = spelled.short in
        let size : length bytes ≡ 12 + length spelled.expression = ap length spelled.blob ∙ length-requirement spelled.expression in
        let same : length spelled.expression ≡ length (plain tree) = spelled_size tree spelled.expression spelled.spelled in
        absurd (omega (arith, long, short, size, same, length-requirement (plain tree)))
