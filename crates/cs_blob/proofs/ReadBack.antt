-- A super-blob that was written reads back as its parts.
use Rattle.std.proofs.Common.{◌≡◌, ◌≢◌, ℕ, suc, zero, ◌+◌, ◌*◌, ◌<◌, ◌≤◌, ◌^◌, Bool, true, false, ◌||◌, ◌==◌, List, [], ◌∷◌, ◌++◌, length, take, drop, refl, sym, ap, subst, ◌∙◌, append_assoc, arith, length-append}
use Rattle.std.proofs.lemmas.Bool.Decides.{nat_tests}
use Rattle.std.proofs.Math.Seq.{drop-append_seam}
use Rattle.cs_blob.specs.Numbers.{number_at, word}
use Rattle.cs_blob.specs.Blobs.{IsSized}
use Rattle.cs_blob.specs.SuperBlobs.{IsFine, IsSuperBlob, count_of, kind_at, offset_at, length_at, part_at}
use Rattle.cs_blob.specs.Writing.{Draft, has_kind, body_bytes, total_of, index_bytes, written, AreParts, IsDraft, Holds}
use Rattle.cs_blob.proofs.NumbersPlaced.{number_at-front, number_at-behind}
use Rattle.cs_blob.proofs.PartsWritten.{Part, body-append, length-index, index-append, head_of, length-head, written_is, length-written, written_magic, written_total, written_count, number_placed, length-word}

-- a list at a place
record Split (parts : List Part) (place : ℕ) : Type 0 where
  before : List Part
  part : Part
  after : List Part
  parts_are : parts ≡ before ++ part ∷ after
  at : length before ≡ place

split : (parts : List Part) (place : ℕ) → place < length parts → Split parts place
split [] place h = absurd (omega (arith, h))
split (p ∷ parts) zero h = record { before = []; part = p; after = parts; parts_are = refl; at = refl }
split (p ∷ parts) (suc place) h =
    let rest = split parts place (omega arith) in
    record { before = p ∷ rest.before; part = rest.part; after = rest.after; parts_are = ap (λ r. p ∷ r) rest.parts_are; at = ap suc rest.at }

-- the parts from a place on
parts_from : (before : List Part) (part : Part) (after : List Part) → AreParts (before ++ part ∷ after) → AreParts (part ∷ after)
parts_from [] part after are = are
parts_from (p ∷ before) part after are = parts_from before part after are.3

no_or : (a b : Bool) → (a || b) ≡ false → (a ≡ false) × (b ≡ false)
no_or false b h = (refl, h)
no_or true b h = cc

kind_differs : (between : List Part) (part : Part) (after : List Part) (kind : ℕ) → has_kind (between ++ part ∷ after) kind ≡ false → part.0 ≢ kind
kind_differs [] part after kind h = let apart = no_or (part.0 == kind) _ h in differs part.0 kind apart.0
  where
    differs : (a b : ℕ) → (a == b) ≡ false → a ≢ b
    differs a b h = λ e. absurd (grind (arith, nat_tests, h, e))
kind_differs (p ∷ between) part after kind h = kind_differs between part after kind (no_or (p.0 == kind) _ h).1

-- where the parts of a draft begin
start : Draft → ℕ
start draft = 12 + 8 * length draft.parts

regroup_kind : (h i k o r b : List ℕ) → (h ++ (i ++ (k ++ o ++ r))) ++ b ≡ (h ++ i) ++ (k ++ (o ++ (r ++ b)))
regroup_kind h i k o r b = simp append_assoc

regroup_offset : (h i k o r b : List ℕ) → (h ++ (i ++ (k ++ o ++ r))) ++ b ≡ (h ++ i ++ k) ++ (o ++ (r ++ b))
regroup_offset h i k o r b = simp append_assoc

regroup_body : (h i b p a : List ℕ) → (h ++ i) ++ (b ++ (p ++ a)) ≡ (h ++ i ++ b) ++ (p ++ a)
regroup_body h i b p a = simp append_assoc

length_2 : (a b : List ℕ) (m n : ℕ) → length a ≡ m → length b ≡ n → length (a ++ b) ≡ m + n
length_2 a b m n h k = let sum = length-append a b in omega (arith, sum, h, k)

-- an entry of the index and its part
record Placed (draft : Draft) (before : List Part) (part : Part) : Type 0 where
  kind : kind_at (written draft) (length before) ≡ part.0
  offset : offset_at (written draft) (length before) ≡ start draft + length (body_bytes before)
  size : length_at (written draft) (length before) ≡ length part.1
  bytes : part_at (written draft) (length before) ≡ part.1

-- the whole around the part
around : (draft : Draft) (before after : List Part) (part : Part) → draft.parts ≡ before ++ part ∷ after
    → written draft ≡ (head_of draft ++ index_bytes (12 + 8 * length draft.parts) draft.parts ++ body_bytes before) ++ (part.1 ++ body_bytes after)
around draft before after part is =
    written_is draft
    ∙ ap (λ b. (head_of draft ++ index_bytes (12 + 8 * length draft.parts) draft.parts) ++ b) (ap body_bytes is ∙ body-append before (part ∷ after))
    ∙ regroup_body (head_of draft) (index_bytes (12 + 8 * length draft.parts) draft.parts) (body_bytes before) part.1 (body_bytes after)

length-around : (draft : Draft) (before : List Part)
    → length (head_of draft ++ index_bytes (12 + 8 * length draft.parts) draft.parts ++ body_bytes before) ≡ 12 + 8 * length draft.parts + length (body_bytes before)
length-around draft before =
    length_2 (head_of draft ++ index_bytes (12 + 8 * length draft.parts) draft.parts) (body_bytes before) (12 + 8 * length draft.parts) (length (body_bytes before))
    (length_2 (head_of draft) (index_bytes (12 + 8 * length draft.parts) draft.parts) 12 (8 * length draft.parts) (length-head draft) (length-index (12 + 8 * length draft.parts) draft.parts))
    refl

-- the index around an entry
entry : (draft : Draft) (before after : List Part) (part : Part) → draft.parts ≡ before ++ part ∷ after
    → index_bytes (12 + 8 * length draft.parts) draft.parts
    ≡ index_bytes (12 + 8 * length draft.parts) before
    ++ (word part.0 ++ word (12 + 8 * length draft.parts + length (body_bytes before)) ++ index_bytes (12 + 8 * length draft.parts + length (body_bytes before) + length part.1) after)
entry draft before after part is = ap (index_bytes (12 + 8 * length draft.parts)) is ∙ index-append (12 + 8 * length draft.parts) before (part ∷ after)

body_fits : (draft : Draft) (before after : List Part) (part : Part) → draft.parts ≡ before ++ part ∷ after
    → length (body_bytes draft.parts) ≡ length (body_bytes before) + (length part.1 + length (body_bytes after))
body_fits draft before after part is =
    ap (λ ps. length (body_bytes ps)) is ∙ ap length (body-append before (part ∷ after))
    ∙ length_2 (body_bytes before) (part.1 ++ body_bytes after) (length (body_bytes before)) (length part.1 + length (body_bytes after)) refl (length-append part.1 (body_bytes after))

take-append : (xs ys : List ℕ) → take (length xs) (xs ++ ys) ≡ xs
take-append [] ys = refl
take-append (x ∷ xs) ys = ap (λ r. x ∷ r) (take-append xs ys)

place_offset : (draft : Draft) (before after : List Part) (part : Part) → draft.parts ≡ before ++ part ∷ after → start draft + length (body_bytes before) < 2 ^ 32
    → offset_at (written draft) (length before) ≡ start draft + length (body_bytes before)
unfolding start
place_offset draft before after part is small =
    number_placed (16 + 8 * length before) (head_of draft ++ index_bytes (12 + 8 * length draft.parts) before ++ word part.0) (12 + 8 * length draft.parts + length (body_bytes before))
    (index_bytes (12 + 8 * length draft.parts + length (body_bytes before) + length part.1) after ++ body_bytes draft.parts)
    (written draft) small
    (sym (length_2 (head_of draft ++ index_bytes (12 + 8 * length draft.parts) before) (word part.0) (12 + 8 * length before) 4
    (length_2 (head_of draft) (index_bytes (12 + 8 * length draft.parts) before) 12 (8 * length before) (length-head draft) (length-index (12 + 8 * length draft.parts) before))
    (length-word part.0) ∙ four (8 * length before)))
    (written_is draft ∙ ap (λ i. (head_of draft ++ i) ++ body_bytes draft.parts) (entry draft before after part is)
    ∙ regroup_offset (head_of draft) (index_bytes (12 + 8 * length draft.parts) before) (word part.0) (word (12 + 8 * length draft.parts + length (body_bytes before)))
    (index_bytes (12 + 8 * length draft.parts + length (body_bytes before) + length part.1) after) (body_bytes draft.parts))
  where
    four : (n : ℕ) → 12 + n + 4 ≡ 16 + n
    four n = omega arith

place_kind : (draft : Draft) (before after : List Part) (part : Part) → draft.parts ≡ before ++ part ∷ after → part.0 < 2 ^ 32 → kind_at (written draft) (length before) ≡ part.0
place_kind draft before after part is small =
    number_placed (12 + 8 * length before) (head_of draft ++ index_bytes (12 + 8 * length draft.parts) before) part.0
    (word (12 + 8 * length draft.parts + length (body_bytes before)) ++ (index_bytes (12 + 8 * length draft.parts + length (body_bytes before) + length part.1) after ++ body_bytes draft.parts))
    (written draft) small
    (sym (length_2 (head_of draft) (index_bytes (12 + 8 * length draft.parts) before) 12 (8 * length before) (length-head draft) (length-index (12 + 8 * length draft.parts) before)))
    (written_is draft ∙ ap (λ i. (head_of draft ++ i) ++ body_bytes draft.parts) (entry draft before after part is)
    ∙ regroup_kind (head_of draft) (index_bytes (12 + 8 * length draft.parts) before) (word part.0) (word (12 + 8 * length draft.parts + length (body_bytes before)))
    (index_bytes (12 + 8 * length draft.parts + length (body_bytes before) + length part.1) after) (body_bytes draft.parts))

-- the header of a part tells its length, wherever it stands
part_length : (front : List ℕ) (part after whole : List ℕ) (offset : ℕ) → whole ≡ front ++ (part ++ after) → offset ≡ length front → IsSized part → number_at (offset + 4) whole ≡ length part
part_length front part after whole offset is at sized =
    let header : 8 ≤ length part = sized.header in
    ap (λ k. number_at (k + 4) whole) at ∙ ap (number_at (length front + 4)) is ∙ number_at-behind front (part ++ after) 4 ∙ number_at-front 4 part after (omega (arith, header)) ∙ sized.sized

part_bytes : (front : List ℕ) (part after whole : List ℕ) (offset n : ℕ) → whole ≡ front ++ (part ++ after) → offset ≡ length front → n ≡ length part → take n (drop offset whole) ≡ part
part_bytes front part after whole offset n is at long =
    ap (λ k. take k (drop offset whole)) long
    ∙ ap (λ k. take (length part) (drop k whole)) at
    ∙ ap (λ w. take (length part) (drop (length front) w)) is
    ∙ ap (take (length part)) (drop-append_seam front (part ++ after))
    ∙ take-append part after

placed : (draft : Draft) (before after : List Part) (part : Part) → IsDraft draft.parts → draft.parts ≡ before ++ part ∷ after → Placed draft before part
unfolding start
placed draft before after part sound is =
    let are : AreParts (part ∷ after) = parts_from before part after (subst AreParts is sound.sound) in
    let short : total_of draft.parts ≤ 16777216 = sound.short in
    let body = body_fits draft before after part is in
    let small : start draft + length (body_bytes before) < 2 ^ 32 = omega (arith, short, body) in
    let offset : offset_at (written draft) (length before) ≡ start draft + length (body_bytes before) = place_offset draft before after part is small in
    let front : List ℕ = head_of draft ++ index_bytes (12 + 8 * length draft.parts) draft.parts ++ body_bytes before in
    let whole = around draft before after part is in
    let at : offset_at (written draft) (length before) ≡ length front = offset ∙ sym (length-around draft before) in
    let size : length_at (written draft) (length before) ≡ length part.1 = part_length front part.1 (body_bytes after) (written draft) (offset_at (written draft) (length before)) whole at are.0 in
    record {
      kind = place_kind draft before after part is are.1;
      offset = offset;
      size = size;
      bytes = part_bytes front part.1 (body_bytes after) (written draft) (offset_at (written draft) (length before)) (length_at (written draft) (length before)) whole at size;
    }

-- two entries, the first before the second
apart_kinds : (before between after : List Part) (first second : Part) → AreParts (before ++ first ∷ (between ++ second ∷ after)) → first.0 ≢ second.0
apart_kinds before between after first second are =
    let from = parts_from before first (between ++ second ∷ after) are in
    λ e. kind_differs between second after first.0 from.2 (sym e)

ends_before : (before between : List Part) (first : Part) → length (body_bytes before) + length first.1 ≤ length (body_bytes (before ++ first ∷ between))
ends_before before between first =
    let sum : length (body_bytes (before ++ first ∷ between)) ≡ length (body_bytes before) + length (first.1 ++ body_bytes between) = ap length (body-append before (first ∷ between)) ∙ length-append (body_bytes before) (first.1 ++ body_bytes between) in
    let more = length-append first.1 (body_bytes between) in
    omega (arith, sum, more)

-- what an earlier entry is beside a later one
record Earlier (draft : Draft) (before : List Part) (part : Part) (place : ℕ) : Type 0 where
  kind : kind_at (written draft) place ≢ part.0
  ends : offset_at (written draft) place + length_at (written draft) place ≤ start draft + length (body_bytes before)

earlier_is : (draft : Draft) (before after : List Part) (part : Part) (place : ℕ) → IsDraft draft.parts → draft.parts ≡ before ++ part ∷ after → place < length before → Earlier draft before part place
unfolding start
earlier_is draft before after part place sound is less =
    let s = split before place less in
    let all : draft.parts ≡ s.before ++ s.part ∷ (s.after ++ part ∷ after) = is ∙ ap (λ b. b ++ part ∷ after) s.parts_are ∙ append_assoc s.before (s.part ∷ s.after) (part ∷ after) in
    let p : Placed draft s.before s.part = placed draft s.before (s.after ++ part ∷ after) s.part sound all in
    let differs = apart_kinds s.before s.after after s.part part (subst AreParts all sound.sound) in
    let kind : kind_at (written draft) place ≡ s.part.0 = ap (kind_at (written draft)) (sym s.at) ∙ p.kind in
    let offset : offset_at (written draft) place ≡ start draft + length (body_bytes s.before) = ap (offset_at (written draft)) (sym s.at) ∙ p.offset in
    let size : length_at (written draft) place ≡ length s.part.1 = ap (length_at (written draft)) (sym s.at) ∙ p.size in
    let bound : length (body_bytes s.before) + length s.part.1 ≤ length (body_bytes before) = subst (λ (b : List Part). length (body_bytes s.before) + length s.part.1 ≤ length (body_bytes b)) (sym s.parts_are) (ends_before s.before s.after s.part) in
    record {
      kind = λ e. differs (sym kind ∙ e);
      ends = omega (arith, offset, size, bound);
    }

-- each entry is fine
fine_at : (draft : Draft) (before after : List Part) (part : Part) → IsDraft draft.parts → draft.parts ≡ before ++ part ∷ after → IsFine (written draft) (length before)
unfolding start
fine_at draft before after part sound is =
    let p : Placed draft before part = placed draft before after part sound is in
    let are : AreParts (part ∷ after) = parts_from before part after (subst AreParts is sound.sound) in
    let header : 8 ≤ length part.1 = are.0.header in
    let few : length draft.parts ≤ 64 = sound.few in
    let count : count_of (written draft) ≡ length draft.parts = written_count draft (omega (arith, few)) in
    let body = body_fits draft before after part is in
    let long : length (written draft) ≡ total_of draft.parts = length-written draft in
    let offset : offset_at (written draft) (length before) ≡ start draft + length (body_bytes before) = p.offset in
    let size : length_at (written draft) (length before) ≡ length part.1 = p.size in
    record {
      inside = record {
        behind = omega (arith, count, offset);
        header = omega (arith, offset, long, body, header);
        sized = omega (arith, size, header);
        ends = omega (arith, offset, size, long, body);
      };
      own_kind = λ earlier less e. (earlier_is draft before after part earlier sound is less).kind (e ∙ p.kind);
      apart = λ earlier less over.
          let ends : offset_at (written draft) earlier + length_at (written draft) earlier ≤ start draft + length (body_bytes before) = (earlier_is draft before after part earlier sound is less).ends in
          let second : offset_at (written draft) (length before) < offset_at (written draft) earlier + length_at (written draft) earlier = over.second in
          absurd (omega (arith, ends, second, offset));
    }

-- what was written is a super-blob with just these parts
pub reads_back : (draft : Draft) → IsDraft draft.parts → draft.magic < 2 ^ 32 → IsSuperBlob draft.magic (written draft) × Holds draft.parts (written draft)
reads_back draft sound small =
    let few : length draft.parts ≤ 64 = sound.few in
    let short : total_of draft.parts ≤ 16777216 = sound.short in
    let count : count_of (written draft) ≡ length draft.parts = written_count draft (omega (arith, few)) in
    let long : length (written draft) ≡ total_of draft.parts = length-written draft in
    let sized : number_at 4 (written draft) ≡ total_of draft.parts = written_total draft (omega (arith, short)) in (
      record {
        blob = record { header = omega (arith, long); kind = written_magic draft small; sized = sized ∙ sym long };
        indexed = record { counted = omega (arith, long); few = omega (arith, count, few); fits = omega (arith, count, long) };
        fine = λ index among.
            let s = split draft.parts index (omega (arith, among, count)) in
            subst (IsFine (written draft)) s.at (fine_at draft s.before s.after s.part sound s.parts_are);
      },
      record {
        counted = count;
        each = λ before after part is.
            let p = placed draft before after part sound is in
            (p.kind, p.bytes);
      },
    )

pub reads_back_as : (draft : Draft) (bytes : List ℕ) → IsDraft draft.parts → draft.magic < 2 ^ 32 → bytes ≡ written draft → IsSuperBlob draft.magic bytes × Holds draft.parts bytes
reads_back_as draft bytes sound small is = subst (λ (b : List ℕ). IsSuperBlob draft.magic b × Holds draft.parts b) (sym is) (reads_back draft sound small)
