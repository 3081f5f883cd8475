-- The plain bytes of a set spell it.
use Rattle.std.proofs.Common.{◌≡◌, ℕ, zero, suc, ◌+◌, ◌<◌, ◌≤◌, Bool, true, false, ◌==◌, Option, Some, None, List, [], ◌∷◌, ◌++◌, length, take, drop, refl, sym, ap, subst, ◌∙◌, arith, length-append, Result, Ok, Err, ◌⊎◌, inl, inr}
use Rattle.std.specs.Prelude.{IfSome, IfOk, IfErr, MatchResult, get_or}
use Rattle.std.specs.List.{All}
use Rattle.std.specs.Option.{MatchOption}
use Rattle.std.proofs.lemmas.Bool.Decides.{nat_tests}
use Rattle.std.proofs.lemmas.List.{take-append-drop, drop_more, append_assoc, length-take-le}
use Rattle.std.proofs.lemmas.List.Elements.{All-append, All-nil}
use Rattle.req_tree.specs.Tree.{Tree}
use Rattle.req_tree.specs.TreeSet.{TreeSet, IsSetKind, part_of}
use Rattle.cs_blob.specs.SuperBlobs.{IsSuperBlob, IsPartOf, count_of, kind_at}
use Rattle.cs_blob.specs.Writing.{Draft, Holds, written}
use Rattle.req_blob.specs.declared.fault.OpsFault.{OpsFault}
use Rattle.req_ops.specs.declared.fault.SetFault.{SetFault}
use Rattle.req_blob.specs.declared.fault.OpsFault.TheVariants as fault
use Rattle.req_blob.specs.Spelling.{IsSpelling, plain_blob}
use Rattle.req_tree.specs.Spellable.{IsEncodable}
use Rattle.req_blob.specs.declared.limits.TheConstants.{MOST_BYTES}
use Rattle.req_ops.specs.Sets.{set_magic, IsSetSpelling}
use Rattle.req_ops.specs.SetEncoding.{part_under, parts_below, plain_set, IsPlainSet}
use Rattle.req_ops.specs.Steps.{IsDraftTo}
use Rattle.req_tree.specs.TreeSet.{IsEncodableSet}
use Rattle.req_ops.proofs.LawsBelow.{CanWrite}
use Rattle.req_ops.proofs.SetWritten.{whole_written}

not_at : (k i : ℕ) → 6 ≤ k → i < 6 → (k == i) ≡ false
not_at k i h low = grind (arith, nat_tests)

none_above : (k : ℕ) (s : TreeSet) → 6 ≤ k → part_of k s ≡ None
none_above k s h = rw (not_at k 1 h (omega arith), not_at k 2 h (omega arith), not_at k 3 h (omega arith), not_at k 4 h (omega arith), not_at k 5 h (omega arith)) refl

-- a part is that of a tree of the set, plain, under its type
abbrev IsOwn : TreeSet → ℕ × List ℕ → Type 0
IsOwn s part = (tree : Tree) × (part_of part.0 s ≡ Some tree) × (part.1 ≡ plain_blob tree)

own_under : (s : TreeSet) (kind : ℕ) (o : Option Tree) → part_of kind s ≡ o → All (IsOwn s) (part_under kind o)
own_under s kind None is = All-nil (IsOwn s)
own_under s kind (Some tree) is = own_first
  where
    own_first : (k : ℕ) (d : ℕ × List ℕ) → k < 1 → IsOwn s (get_or ((kind, plain_blob tree) ∷ []) k d)
    own_first zero d lt = (tree, is, refl)
    own_first (suc k) d lt = absurd (omega (arith, lt))

own_parts : (s : TreeSet) (kind : ℕ) → All (IsOwn s) (parts_below kind s)
own_parts s zero = All-nil (IsOwn s)
own_parts s (suc kind) = All-append (IsOwn s) (parts_below kind s) (part_under kind (part_of kind s)) (own_parts s kind) (own_under s kind (part_of kind s) refl)

-- where the part of a type stands
record StandsUnder (parts : List (ℕ × List ℕ)) (part : ℕ × List ℕ) : Type 0 where
  before : List (ℕ × List ℕ)
  after : List (ℕ × List ℕ)
  split : parts ≡ before ++ part ∷ after

part_stands : (s : TreeSet) (k kind : ℕ) (tree : Tree) → kind < k → part_of kind s ≡ Some tree → StandsUnder (parts_below k s) (kind, plain_blob tree)
part_stands s zero kind tree lt some = absurd (omega (arith, lt))
part_stands s (suc k) kind tree lt some = by_test (kind == k) refl (λ less. part_stands s k kind tree less some)
  where
    under : List (ℕ × List ℕ)
    under = part_under k (part_of k s)

    by_test : (b : Bool) → (kind == k) ≡ b → (kind < k → StandsUnder (parts_below k s) (kind, plain_blob tree)) → StandsUnder (parts_below k s ++ under) (kind, plain_blob tree)
    by_test true e below =
        let same : kind ≡ k = grind (arith, nat_tests, e) in
        record {
          before = parts_below k s;
          after = [];
          split =
              ap (λ (o : Option Tree). parts_below k s ++ part_under k o) (subst (λ (i : ℕ). part_of i s ≡ Some tree) same some)
              ∙ ap (λ (i : ℕ). parts_below k s ++ (i, plain_blob tree) ∷ []) (sym same);
        }
    by_test false e below =
        let less : kind < k = grind (arith, nat_tests, e, lt) in
        let stands = below less in
        record {
          before = stands.before;
          after = stands.after ++ under;
          split = ap (λ (ps : List (ℕ × List ℕ)). ps ++ under) stands.split ∙ append_assoc stands.before ((kind, plain_blob tree) ∷ stands.after) under;
        }

abbrev none_of_trees : Option Tree
none_of_trees = None

not_some : (tree : Tree) → none_of_trees ≡ Some tree → ⊥
not_some tree e = cc

-- a type with a tree is one of the five
pub has_set_kind : (s : TreeSet) (kind : ℕ) (tree : Tree) → part_of kind s ≡ Some tree → IsSetKind kind
has_set_kind s zero tree some = cc
has_set_kind s (suc zero) tree some = (omega arith, omega arith)
has_set_kind s (suc (suc zero)) tree some = (omega arith, omega arith)
has_set_kind s (suc (suc (suc zero))) tree some = (omega arith, omega arith)
has_set_kind s (suc (suc (suc (suc zero)))) tree some = (omega arith, omega arith)
has_set_kind s (suc (suc (suc (suc (suc zero))))) tree some = (omega arith, omega arith)
has_set_kind s (suc (suc (suc (suc (suc (suc k)))))) tree some = absurd (not_some tree (sym (none_above (suc (suc (suc (suc (suc (suc k)))))) s (omega arith)) ∙ some))

-- an entry of the written set is that of a tree
own_entry : (s : TreeSet) (bytes : List ℕ) (index : ℕ) → Holds (parts_below 6 s) bytes → index < count_of bytes
    → (tree : Tree) × (part_of (kind_at bytes index) s ≡ Some tree)
own_entry s bytes index holds among = (own.0, subst (λ (kind : ℕ). part_of kind s ≡ Some own.0) (sym kind) own.1)
  where
    parts : List (ℕ × List ℕ)
    parts = parts_below 6 s

    here : ℕ × List ℕ
    here = get_or parts index (0, [])

    inside : index < length parts
    inside = omega (arith, among, holds.counted)

    own : IsOwn s here
    own = own_parts s 6 index (0, []) inside

    split : parts ≡ take index parts ++ here ∷ drop (index + 1) parts
    split = sym (take-append-drop index parts) ∙ ap (λ (ps : List (ℕ × List ℕ)). take index parts ++ ps) (drop_more parts index (0, []) inside)

    kind : kind_at bytes index ≡ here.0
    kind = ap (kind_at bytes) (sym (length-take-le index parts (omega (arith, inside)))) ∙ (holds.each (take index parts) (drop (index + 1) parts) here split).0

-- each tree has its plain part among those of the written set
part_written : (s : TreeSet) (bytes : List ℕ) (kind : ℕ) (tree : Tree) → Holds (parts_below 6 s) bytes → kind < 6 → part_of kind s ≡ Some tree → IsPartOf bytes kind (plain_blob tree)
part_written s bytes kind tree holds low some =
    let stands = part_stands s 6 kind tree low some in
    let each = holds.each stands.before stands.after (kind, plain_blob tree) stands.split in
    let size : length (parts_below 6 s) ≡ length stands.before + length ((kind, plain_blob tree) ∷ stands.after) = ap length stands.split ∙ length-append stands.before ((kind, plain_blob tree) ∷ stands.after) in
    (length stands.before, omega (arith, size, holds.counted), each.0, sym each.1)

pub written_spells : (s : TreeSet) (bytes : List ℕ) → IsSuperBlob set_magic bytes → length bytes ≤ MOST_BYTES → Holds (parts_below 6 s) bytes
    → ((k : ℕ) → k < 6 → IfSome (part_of k s) (λ tree. IsSpelling tree (plain_blob tree))) → IsSetSpelling s bytes
written_spells s bytes blob short holds spelled = record {
  blob = blob;
  short = short;
  kinds = λ index among. let own = own_entry s bytes index holds among in has_set_kind s (kind_at bytes index) own.0 own.1;
  parts = λ kind is. by_part kind is (part_of kind s) refl (spelled kind (omega (arith, is.1)));
}
  where
    by_part : (kind : ℕ) → IsSetKind kind → (o : Option Tree) → part_of kind s ≡ o → IfSome o (λ tree. IsSpelling tree (plain_blob tree))
        → MatchOption o ((part : List ℕ) → IsPartOf bytes kind part → ⊥) (λ tree. (part : List ℕ) × IsPartOf bytes kind part × IsSpelling tree part)
    by_part kind is None none h = λ part p.
        let own = own_entry s bytes p.0 holds p.1 in
        let some : part_of kind s ≡ Some own.0 = subst (λ (i : ℕ). part_of i s ≡ Some own.0) p.2 own.1 in
        absurd (not_some own.0 (sym none ∙ some))
    by_part kind is (Some tree) some h = (plain_blob tree, part_written s bytes kind tree holds (omega (arith, is.1)) some, h)

pub plain_spells_set : (s : TreeSet) (draft : Draft) (bytes : List ℕ) → IsDraftTo s 6 draft → bytes ≡ written draft → length bytes ≤ MOST_BYTES → IsSuperBlob draft.magic bytes → Holds draft.parts bytes
    → IsPlainSet s bytes
plain_spells_set s draft bytes is written_is short blob holds = record {
  spelled = written_spells s bytes (subst (λ (m : ℕ). IsSuperBlob m bytes) is.magic blob) short (subst (λ (ps : List (ℕ × List ℕ)). Holds ps bytes) is.parts holds) is.spelled;
  plain_is = written_is ∙ whole_written s draft is;
}

-- what the last step tells
abbrev pub Finished : Draft → Result (List ℕ) OpsFault → Type 0
Finished draft r =
    MatchResult r (λ b. (b ≡ written draft) × (length b ≤ MOST_BYTES) × IsSuperBlob draft.magic b × Holds draft.parts b)
    (λ e. (e ≡ fault.OutOfMemory) ⊎ ((e ≡ fault.TooLong) × (MOST_BYTES < length (written draft))))

pub finished_plain : (s : TreeSet) (draft : Draft) (r : Result (List ℕ) OpsFault) → IsDraftTo s 6 draft → Finished draft r → IfOk r (λ b. IsPlainSet s b)
finished_plain s draft (Ok b) is h = plain_spells_set s draft b is h.0 h.1 h.2 h.3
finished_plain s draft (Err e) is h = tt

pub finished_fault : (s : TreeSet) (draft : Draft) (r : Result (List ℕ) OpsFault) → IsDraftTo s 6 draft → Finished draft r → IfErr r (λ e. (e ≡ fault.OutOfMemory) ⊎ ((e ≡ fault.TooLong) × (MOST_BYTES < length (plain_set s))))
finished_fault s draft (Ok b) is h = tt
finished_fault s draft (Err e) is (inl h) = inl h
finished_fault s draft (Err e) is (inr h) = inr (h.0, subst (λ (b : List ℕ). MOST_BYTES < length b) (whole_written s draft is) h.1)

-- what is spelled can be written
pub spelled_can_encode : CanWrite → (s : TreeSet) (bytes : List ℕ) → IsSetSpelling s bytes → IsEncodableSet s
spelled_can_encode can s bytes is = record { parts = λ kind. by_part kind (part_of kind s) refl }
  where
    spelled : (kind : ℕ) (tree : Tree) → MatchOption (Some tree) ((part : List ℕ) → IsPartOf bytes kind part → ⊥) (λ t. (part : List ℕ) × IsPartOf bytes kind part × IsSpelling t part) → IsEncodable tree
    spelled kind tree h = can tree h.0 h.2

    by_part : (kind : ℕ) (o : Option Tree) → part_of kind s ≡ o → IfSome o IsEncodable
    by_part kind None none = tt
    by_part kind (Some tree) some =
        spelled kind tree
        (subst (λ (o : Option Tree). MatchOption o ((part : List ℕ) → IsPartOf bytes kind part → ⊥) (λ t. (part : List ℕ) × IsPartOf bytes kind part × IsSpelling t part)) some (is.parts kind (has_set_kind s kind tree some)))

-- a set that is read can be written
pub read_can_encode : CanWrite → (bytes : List ℕ) (r : Result TreeSet SetFault) → IfOk r (λ set. IsSetSpelling set bytes) → IfOk r (λ set. IsEncodableSet set)
read_can_encode can bytes (Ok set) h = spelled_can_encode can set bytes h
read_can_encode can bytes (Err e) h = tt
