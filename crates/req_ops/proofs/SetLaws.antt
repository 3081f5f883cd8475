-- A set that is read is spelled so, and one that is spelled is read.
use Rattle.std.proofs.Common.{◌≡◌, ◌≢◌, ℕ, ◌<◌, ◌≤◌, Option, Some, None, Result, Ok, Err, List, [], ◌++◌, length, refl, sym, ap, subst, ◌∙◌, arith}
use Rattle.std.specs.Prelude.{IfOk, IfErr, MatchResult}
use Rattle.std.specs.Option.{MatchOption}
use Rattle.std.specs.Result.{result_and}
use Rattle.std.proofs.lemmas.List.{append-nil}
use Rattle.req_tree.specs.Tree.{Tree}
use Rattle.req_tree.specs.TreeSet.{TreeSet, IsSetKind, part_of}
use Rattle.req_tree.specs.Oid.{IsBytes}
use Rattle.cs_blob.specs.SuperBlobs.{IsSuperBlob, IsPartOf, count_of, kind_at, part_at, offset_at, length_at}
use Rattle.cs_blob.specs.declared.fault.BlobFault.{BlobFault}
use Rattle.req_blob.specs.declared.fault.OpsFault.{OpsFault}
use Rattle.req_blob.specs.declared.fault.OpsFault.TheVariants as fault
use Rattle.req_ops.specs.declared.fault.SetFault.{SetFault}
use Rattle.req_ops.specs.declared.fault.SetFault.TheVariants.{Blob, TooLong, Trailing, BadSetKind, Part, OutOfMemory}
use Rattle.req_blob.specs.Spelling.{IsSpelling}
use Rattle.req_blob.specs.Decoding.{decoded}
use Rattle.req_ops.specs.Sets.{set_magic, IsSetSpelling, SetFails, StopsAt, PartFails, part_fault}
use Rattle.req_ops.specs.Steps.{HasRead}
use Rattle.req_blob.specs.declared.limits.TheConstants.{MOST_BYTES}
use Rattle.req_ops.proofs.SetParts.{Tells, same_entry}
use Rattle.req_ops.proofs.LawsBelow.{ReadsWhereSpelt, OneTree, OneBlob, NoFault, ok_is, IsBytes-drop, IsBytes-take}

part_bytes : (whole : List ℕ) (k : ℕ) → IsBytes whole → IsBytes (part_at whole k)
part_bytes whole k are = IsBytes-take (length_at whole k) _ (IsBytes-drop (offset_at whole k) whole are)

-- the parts of a set that is read spell its trees
pub read_spells : ReadsWhereSpelt → (whole : List ℕ) (set : TreeSet) → IsBytes whole → IsSuperBlob set_magic whole → length whole ≤ MOST_BYTES → HasRead whole (count_of whole) set → IsSetSpelling set whole
read_spells reads whole set are blob short has = record {
  blob = blob;
  short = short;
  kinds = λ index among. (has.before index among).0;
  parts = λ kind is. by_part kind (part_of kind set) (has.parts kind is);
}
  where
    by_part : (kind : ℕ) (o : Option Tree) → Tells whole (count_of whole) kind o
        → MatchOption o ((part : List ℕ) → IsPartOf whole kind part → ⊥) (λ tree. (part : List ℕ) × IsPartOf whole kind part × IsSpelling tree part)
    by_part kind None h = λ part p. h p.0 p.1 p.2
    by_part kind (Some tree) h = (part_at whole h.0, (h.0, h.1, h.2, refl), (reads (part_at whole h.0) tree (part_bytes whole h.0 are)).0 h.3)

same_option : ReadsWhereSpelt → (whole : List ℕ) (kind : ℕ) (o p : Option Tree) → IsBytes whole → IsSuperBlob set_magic whole → Tells whole (count_of whole) kind o
    → MatchOption p ((part : List ℕ) → IsPartOf whole kind part → ⊥) (λ tree. (part : List ℕ) × IsPartOf whole kind part × IsSpelling tree part) → o ≡ p
same_option reads whole kind None None are blob h g = refl
same_option reads whole kind None (Some u) are blob h g = absurd (h g.1.0 g.1.1 g.1.2)
same_option reads whole kind (Some t) None are blob h g = absurd (g (part_at whole h.0) (h.0, h.1, h.2, refl))
same_option reads whole kind (Some t) (Some u) are blob h g =
    let entry : h.0 ≡ g.1.0 = same_entry set_magic whole h.0 g.1.0 blob h.1 g.1.1 (h.2 ∙ sym g.1.2) in
    let part : part_at whole h.0 ≡ g.0 = ap (part_at whole) entry ∙ sym g.1.3 in
    ap Some (ok_is t u (sym h.3 ∙ (reads (part_at whole h.0) u (part_bytes whole h.0 are)).1 (subst (λ (b : List ℕ). IsSpelling u b) (sym part) g.2)))

abbrev set_of : Option Tree → Option Tree → Option Tree → Option Tree → Option Tree → TreeSet
set_of a b c d e = record { host = a; guest = b; designated = c; library = d; plugin = e }

same_parts : (a b : TreeSet) → a.host ≡ b.host → a.guest ≡ b.guest → a.designated ≡ b.designated → a.library ≡ b.library → a.plugin ≡ b.plugin → a ≡ b
same_parts a b p q r s t =
    ap (λ (x : Option Tree). set_of x a.guest a.designated a.library a.plugin) p
    ∙ ap (λ (x : Option Tree). set_of b.host x a.designated a.library a.plugin) q
    ∙ ap (λ (x : Option Tree). set_of b.host b.guest x a.library a.plugin) r
    ∙ ap (λ (x : Option Tree). set_of b.host b.guest b.designated x a.plugin) s
    ∙ ap (λ (x : Option Tree). set_of b.host b.guest b.designated b.library x) t

-- what is read is the set that is spelt
pub same_set : ReadsWhereSpelt → (whole : List ℕ) (a b : TreeSet) → IsBytes whole → HasRead whole (count_of whole) a → IsSetSpelling b whole → a ≡ b
same_set reads whole a b are has is =
    let at : (kind : ℕ) → IsSetKind kind → part_of kind a ≡ part_of kind b = λ kind be. same_option reads whole kind (part_of kind a) (part_of kind b) are is.blob (has.parts kind be) (is.parts kind be) in
    same_parts a b (at 1 (omega arith, omega arith)) (at 2 (omega arith, omega arith)) (at 3 (omega arith, omega arith)) (at 4 (omega arith, omega arith)) (at 5 (omega arith, omega arith))

not_both : (tree : Tree) (why : OpsFault) (r : Result Tree OpsFault) → r ≡ Ok tree → r ≡ Err why → ⊥
not_both tree why r h k = cc

-- each part of a set is read
spelled_part : ReadsWhereSpelt → (bytes : List ℕ) (set : TreeSet) (index : ℕ) → IsBytes bytes → IsSetSpelling set bytes → index < count_of bytes → (tree : Tree) × (decoded (part_at bytes index) ≡ Ok tree)
spelled_part reads bytes set index are is among = by_part (part_of (kind_at bytes index) set) (is.parts (kind_at bytes index) (is.kinds index among))
  where
    by_part : (o : Option Tree) → MatchOption o ((part : List ℕ) → IsPartOf bytes (kind_at bytes index) part → ⊥) (λ tree. (part : List ℕ) × IsPartOf bytes (kind_at bytes index) part × IsSpelling tree part)
        → (tree : Tree) × (decoded (part_at bytes index) ≡ Ok tree)
    by_part None h = absurd (h (part_at bytes index) (index, among, refl, refl))
    by_part (Some tree) h =
        let entry : index ≡ h.1.0 = same_entry set_magic bytes index h.1.0 is.blob among h.1.1 (sym h.1.2) in
        (tree, (reads (part_at bytes index) tree (part_bytes bytes index are)).1 (subst (λ (b : List ℕ). IsSpelling tree b) (h.1.3 ∙ ap (part_at bytes) (sym entry)) h.2))

-- bytes that spell a set are refused for memory alone
pub no_set_fault : ReadsWhereSpelt → OneBlob → NoFault → (bytes : List ℕ) (set : TreeSet) (fault : SetFault) → IsBytes bytes → IsSetSpelling set bytes → SetFails bytes fault → fault ≡ OutOfMemory
no_set_fault reads one none bytes set (Blob why) are is h = absurd (none set_magic bytes bytes [] why h is.blob (sym (append-nil bytes)))
no_set_fault reads one none bytes set TooLong are is h =
    let same = one set_magic bytes h.0 h.1 bytes [] h.2.blob h.3 is.blob.blob (sym (append-nil bytes)) in
    let short : length bytes ≤ MOST_BYTES = is.short in
    let long : MOST_BYTES < length h.0 = h.4 in
    absurd (omega (arith, ap length same.0, short, long))
no_set_fault reads one none bytes set (Trailing at) are is h =
    let same = one set_magic bytes h.0 h.1 bytes [] h.2.blob h.3 is.blob.blob (sym (append-nil bytes)) in
    absurd (h.5 same.1)
no_set_fault reads one none bytes set (BadSetKind index) are is h = absurd (h.2.fails.1 (is.kinds h.2.index h.2.among))
no_set_fault reads one none bytes set (Part index why) are is h =
    let part = spelled_part reads bytes set h.2.index are is h.2.among in
    absurd (not_both part.0 why (decoded (part_at bytes h.2.index)) part.1 h.2.fails.2)
no_set_fault reads one none bytes set OutOfMemory are is h = refl

-- ---- the public call

whole_alone : (bytes whole rest : List ℕ) → bytes ≡ whole ++ rest → rest ≡ [] → whole ≡ bytes
whole_alone bytes whole rest parts none = sym (parts ∙ ap (λ (r : List ℕ). whole ++ r) none ∙ append-nil whole)

-- what reading the whole tells
abbrev pub WholeRead : List ℕ → List ℕ → Result TreeSet SetFault → Type 0
WholeRead whole rest r = MatchResult r (λ set. (rest ≡ []) × (length whole ≤ MOST_BYTES) × HasRead whole (count_of whole) set) (λ fault. SetFails (whole ++ rest) fault)

pub set_found : ReadsWhereSpelt → (bytes whole rest : List ℕ) (r : Result TreeSet SetFault) → IsBytes bytes → IsSuperBlob set_magic whole → bytes ≡ whole ++ rest → WholeRead whole rest r → IfOk r (λ set. IsSetSpelling set bytes)
set_found reads bytes whole rest (Err fault) are blob parts h = tt
set_found reads bytes whole rest (Ok set) are blob parts h =
    let same : whole ≡ bytes = whole_alone bytes whole rest parts h.0 in
    subst (λ (b : List ℕ). IsSetSpelling set b) same (read_spells reads whole set (subst IsBytes (sym same) are) blob h.1 h.2)

pub set_only : ReadsWhereSpelt → OneBlob → NoFault → (bytes whole rest : List ℕ) (r : Result TreeSet SetFault) (set : TreeSet) → IsBytes bytes → bytes ≡ whole ++ rest → WholeRead whole rest r → IsSetSpelling set bytes
    → MatchResult r (λ read. read ≡ set) (λ fault. fault ≡ OutOfMemory)
set_only reads one none bytes whole rest (Err fault) set are parts h is = no_set_fault reads one none bytes set fault are is (subst (λ (b : List ℕ). SetFails b fault) (sym parts) h)
set_only reads one none bytes whole rest (Ok read) set are parts h is =
    let same : whole ≡ bytes = whole_alone bytes whole rest parts h.0 in
    same_set reads whole read set (subst IsBytes (sym same) are) h.2 (subst (λ (b : List ℕ). IsSetSpelling set b) (sym same) is)

pub set_exact : (bytes whole rest : List ℕ) (r : Result TreeSet SetFault) → bytes ≡ whole ++ rest → WholeRead whole rest r → IfErr r (λ fault. SetFails bytes fault)
set_exact bytes whole rest (Err fault) parts h = subst (λ (b : List ℕ). SetFails b fault) (sym parts) h
set_exact bytes whole rest (Ok set) parts h = tt

pub blob_only : NoFault → (bytes : List ℕ) (why : BlobFault) (set : TreeSet) → SetFails bytes (Blob why) → IsSetSpelling set bytes → ⊥
blob_only none bytes why set h is = none set_magic bytes bytes [] why h is.blob (sym (append-nil bytes))

pub read_fault : (whole : List ℕ) (index : ℕ) (why : OpsFault) → IsSetKind (kind_at whole index) → (why ≢ fault.OutOfMemory → decoded (part_at whole index) ≡ Err why) → PartFails whole index (part_fault index why)
read_fault whole index fault.OutOfMemory is h = tt
read_fault whole index (fault.Blob why) is h = (refl, is, h (λ p. cc))
read_fault whole index fault.BadKind is h = (refl, is, h (λ p. cc))
read_fault whole index (fault.UnknownOp at op) is h = (refl, is, h (λ p. cc))
read_fault whole index (fault.OutOfScopeOp at) is h = (refl, is, h (λ p. cc))
read_fault whole index (fault.UnknownMatch at suffix) is h = (refl, is, h (λ p. cc))
read_fault whole index (fault.Cut at) is h = (refl, is, h (λ p. cc))
read_fault whole index (fault.BadPadding at) is h = (refl, is, h (λ p. cc))
read_fault whole index (fault.BadHashLength at) is h = (refl, is, h (λ p. cc))
read_fault whole index (fault.TooDeep at) is h = (refl, is, h (λ p. cc))
read_fault whole index (fault.Trailing at) is h = (refl, is, h (λ p. cc))
read_fault whole index (fault.BadOid at) is h = (refl, is, h (λ p. cc))
read_fault whole index fault.TooLong is h = (refl, is, h (λ p. cc))
read_fault whole index (fault.BadKey at) is h = (refl, is, h (λ p. cc))

-- the set, where its parts were added
pub and_read : (r : Result (Unit {0}) SetFault) (whole : List ℕ) (set : TreeSet) → MatchResult r (λ _. HasRead whole (count_of whole) set) (λ f. StopsAt whole f)
    → MatchResult (result_and r (Ok set)) (λ read. HasRead whole (count_of whole) read) (λ f. StopsAt whole f)
and_read (Ok _) whole set h = h
and_read (Err f) whole set h = h

-- what one set says of the part of a type, and what another says
one_option : OneTree → (bytes : List ℕ) (kind : ℕ) (o p : Option Tree) → IsSuperBlob set_magic bytes
    → MatchOption o ((part : List ℕ) → IsPartOf bytes kind part → ⊥) (λ tree. (part : List ℕ) × IsPartOf bytes kind part × IsSpelling tree part)
    → MatchOption p ((part : List ℕ) → IsPartOf bytes kind part → ⊥) (λ tree. (part : List ℕ) × IsPartOf bytes kind part × IsSpelling tree part) → o ≡ p
one_option one bytes kind None None blob h g = refl
one_option one bytes kind None (Some u) blob h g = absurd (h g.0 g.1)
one_option one bytes kind (Some t) None blob h g = absurd (g h.0 h.1)
one_option one bytes kind (Some t) (Some u) blob h g =
    let entry : h.1.0 ≡ g.1.0 = same_entry set_magic bytes h.1.0 g.1.0 blob h.1.1 g.1.1 (h.1.2 ∙ sym g.1.2) in
    let part : h.0 ≡ g.0 = h.1.3 ∙ ap (part_at bytes) entry ∙ sym g.1.3 in
    ap Some (one t u h.0 h.2 (subst (λ (b : List ℕ). IsSpelling u b) (sym part) g.2))

-- bytes spell one set
pub one_set : OneTree → (a b : TreeSet) (bytes : List ℕ) → IsSetSpelling a bytes → IsSetSpelling b bytes → a ≡ b
one_set one a b bytes p q =
    let at : (kind : ℕ) → IsSetKind kind → part_of kind a ≡ part_of kind b = λ kind be. one_option one bytes kind (part_of kind a) (part_of kind b) p.blob (p.parts kind be) (q.parts kind be) in
    same_parts a b (at 1 (omega arith, omega arith)) (at 2 (omega arith, omega arith)) (at 3 (omega arith, omega arith)) (at 4 (omega arith, omega arith)) (at 5 (omega arith, omega arith))
