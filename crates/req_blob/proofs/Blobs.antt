-- What a requirement blob that is read holds, and that it is read again.
use Rattle.std.proofs.Common.{◌≡◌, ℕ, ◌+◌, ◌^◌, ◌<◌, ◌≤◌, Bool, true, false, cond, eqb, ltb, List, [], ◌∷◌, ◌++◌, length, take, drop, Option, Some, None, Result, Ok, Err, refl, sym, ap, subst, ◌∙◌, arith, length-append}
use Rattle.std.specs.Prelude.{IfOk}
use Rattle.std.specs.Int.{w32, from_be_bytes}
use Rattle.std.proofs.lemmas.Bool.{ltb-false, le-ltb, eqb-true}
use Rattle.std.proofs.Math.Seq.{drop-append-add}
use Rattle.std.proofs.lemmas.List.{take_at, drop_at, append-nil, nil_from_length, length-drop, take-append-drop}
use Rattle.byteorder.specs.Endian.{big_number}
use Rattle.byteorder.specs.Numbers.{big_number-reads_back}
use Rattle.req_tree.specs.Tree.{Tree, tree_of}
use Rattle.req_tree.specs.declared.limits.TheConstants.{MOST_DEPTH}
use Rattle.req_tree.specs.Spellable.{IsShallow}
use Rattle.req_tree.specs.declared.req.Req.{Req}
use Rattle.req_tree.specs.Oid.{IsBytes}
use Rattle.cs_blob.specs.Numbers.{word, number_at}
use Rattle.cs_blob.specs.Blobs.{IsBlob, blob_fault}
use Rattle.cs_blob.specs.declared.fault.BlobFault.{BlobFault}
use Rattle.req_blob.specs.declared.fault.OpsFault.{OpsFault}
use Rattle.req_blob.specs.declared.fault.OpsFault.TheVariants as fault
use Rattle.req_blob.specs.Spelling.{Spells, IsSpelling, requirement, requirement_magic}
use Rattle.req_blob.specs.Reading.{◌>>=◌, Gives, place, word_at, req_at}
use Rattle.req_blob.specs.declared.limits.TheConstants.{MOST_BYTES}
use Rattle.req_blob.specs.Decoding.{blob_when, blob_at, body_at, ended, whole_of, decoded}
use Rattle.req_blob.proofs.LawsBelow.{OidIsRead, BlobIsFound, OnlyBlob}
use Rattle.req_blob.proofs.Fields.{bind_ok, ok_is, Takes, IsBytes-drop, IsBytes-take, length-word, word_takes, word_again}
use Rattle.req_blob.proofs.Trees.{req_taken, req_again}

-- ---- the header

four_bytes : (bytes : List ℕ) → 4 ≤ length bytes → from_be_bytes w32 (take 4 bytes) ≡ big_number 4 bytes
four_bytes [] long = absurd (omega (arith, long))
four_bytes (a ∷ []) long = absurd (omega (arith, long))
four_bytes (a ∷ b ∷ []) long = absurd (omega (arith, long))
four_bytes (a ∷ b ∷ c ∷ []) long = absurd (omega (arith, long))
four_bytes (a ∷ b ∷ c ∷ d ∷ rest) long = omega arith

word_read : (bytes : List ℕ) → 4 ≤ length bytes → word_at 0 bytes ≡ Ok (number_at 0 bytes, drop 4 bytes)
unfolding word_at number_at
word_read bytes long =
    let enough : ltb (length bytes) 4 ≡ false = le-ltb _ _ long in
    ap (λ (b : Bool). cond b (Err (fault.Cut (place 0 bytes))) (Ok (from_be_bytes w32 (take 4 bytes), drop 4 bytes))) enough
    ∙ ap (λ (n : ℕ). Ok (n, drop 4 bytes)) (four_bytes bytes long)

word_front : (bytes : List ℕ) → IsBytes bytes → 4 ≤ length bytes → bytes ≡ word (number_at 0 bytes) ++ drop 4 bytes
word_front bytes are long = (word_takes 0 bytes (number_at 0 bytes, drop 4 bytes) are (word_read bytes long)).0.parts

number_at-drop : (bytes : List ℕ) → number_at 0 (drop 4 bytes) ≡ number_at 4 bytes
unfolding number_at
number_at-drop bytes = refl

drop-drop : (bytes : List ℕ) → drop 4 (drop 4 bytes) ≡ drop 8 bytes
drop-drop [] = refl
drop-drop (a ∷ []) = refl
drop-drop (a ∷ b ∷ []) = refl
drop-drop (a ∷ b ∷ c ∷ []) = refl
drop-drop (a ∷ b ∷ c ∷ d ∷ rest) = refl

-- a blob is its magic, its length and its body
blob_parts : (magic : ℕ) (whole : List ℕ) → IsBytes whole → IsBlob magic whole → whole ≡ word magic ++ (word (length whole) ++ drop 8 whole)
blob_parts magic whole are blob =
    let header : 8 ≤ length whole = blob.header in
    let long : 4 ≤ length (drop 4 whole) = omega (arith, length-drop 4 whole, header) in
    let behind : drop 4 whole ≡ word (length whole) ++ drop 8 whole =
    word_front (drop 4 whole) (IsBytes-drop 4 whole are) long
    ∙ ap (λ (n : ℕ). word n ++ drop 4 (drop 4 whole)) (number_at-drop whole ∙ blob.sized)
    ∙ ap (λ (r : List ℕ). word (length whole) ++ r) (drop-drop whole) in
    word_front whole are (omega (arith, header)) ∙ ap (λ (n : ℕ). word n ++ drop 4 whole) blob.kind ∙ ap (λ (r : List ℕ). word magic ++ r) behind

written_number : (n : ℕ) (rest : List ℕ) → n < 2 ^ 32 → number_at 0 (word n ++ rest) ≡ n
unfolding number_at word
written_number n rest small = big_number-reads_back 4 n rest small

-- bytes before a number move its place
number_at-behind : (xs ys : List ℕ) (place : ℕ) → number_at (length xs + place) (xs ++ ys) ≡ number_at place ys
unfolding number_at
number_at-behind xs ys place = ap (big_number 4) (drop-append-add xs ys place)

-- bytes with a header that tells their length are a blob
is_blob : (magic n : ℕ) (body : List ℕ) → magic < 2 ^ 32 → n < 2 ^ 32 → n ≡ 8 + length body → IsBlob magic (word magic ++ (word n ++ body))
is_blob magic n body small fits is =
    let sizes : length (word magic ++ (word n ++ body)) ≡ length (word magic) + length (word n ++ body) = length-append (word magic) (word n ++ body) in
    let later : length (word n ++ body) ≡ length (word n) + length body = length-append (word n) body in
    let first : length (word magic) ≡ 4 = length-word magic in
    let second : length (word n) ≡ 4 = length-word n in
    let place : number_at 4 (word magic ++ (word n ++ body)) ≡ number_at (length (word magic) + 0) (word magic ++ (word n ++ body)) = ap (λ (k : ℕ). number_at k (word magic ++ (word n ++ body))) (omega (arith, first)) in
    record {
      header = omega (arith, sizes, later, first, second);
      kind = written_number magic (word n ++ body) small;
      sized = place ∙ number_at-behind (word magic) (word n ++ body) 0 ∙ written_number n body fits ∙ omega (arith, sizes, later, first, second, is);
    }

pub requirement_blob : (expression : List ℕ) → length (requirement expression) < 2 ^ 32 → IsBlob requirement_magic (requirement expression)
requirement_blob expression fits =
    let first : length (word requirement_magic) ≡ 4 = length-word requirement_magic in
    let second : length (word (12 + length expression)) ≡ 4 = length-word (12 + length expression) in
    let third : length (word 1) ≡ 4 = length-word 1 in
    let a = length-append (word requirement_magic) (word (12 + length expression) ++ (word 1 ++ expression)) in
    let b = length-append (word (12 + length expression)) (word 1 ++ expression) in
    let c = length-append (word 1) expression in
    is_blob requirement_magic (12 + length expression) (word 1 ++ expression) (omega arith) (omega (arith, first, second, third, a, b, c, fits)) (omega (arith, third, c))

pub length-requirement : (expression : List ℕ) → length (requirement expression) ≡ 12 + length expression
length-requirement expression =
    let first : length (word requirement_magic) ≡ 4 = length-word requirement_magic in
    let second : length (word (12 + length expression)) ≡ 4 = length-word (12 + length expression) in
    let third : length (word 1) ≡ 4 = length-word 1 in
    let a = length-append (word requirement_magic) (word (12 + length expression) ++ (word 1 ++ expression)) in
    let b = length-append (word (12 + length expression)) (word 1 ++ expression) in
    let c = length-append (word 1) expression in
    omega (arith, first, second, third, a, b, c)

-- ---- the code's blob

-- bytes that begin with the blob are taken apart there
pub blob_taken : OnlyBlob → (bytes whole rest : List ℕ) → IsBlob requirement_magic whole × (bytes ≡ whole ++ rest) → blob_at bytes ≡ Ok (whole, rest)
unfolding blob_at
blob_taken only bytes whole rest found =
    let read = only requirement_magic bytes whole rest found.0 found.1 in
    ap (λ (o : Option BlobFault). blob_when o bytes) read.0
    ∙ ap (λ (a : List ℕ). Ok (a, drop (number_at 4 bytes) bytes)) read.1
    ∙ ap (λ (b : List ℕ). Ok (whole, b)) read.2

blob_found : BlobIsFound → (o : Option BlobFault) (bytes : List ℕ) (y : List ℕ × List ℕ) → blob_fault requirement_magic bytes ≡ o → blob_when o bytes ≡ Ok y → IsBlob requirement_magic y.0 × (bytes ≡ y.0 ++ y.1)
blob_found at_front None bytes y e h =
    let parts : bytes ≡ take (number_at 4 bytes) bytes ++ drop (number_at 4 bytes) bytes = sym (take-append-drop (number_at 4 bytes) bytes) in
    subst (λ (z : List ℕ × List ℕ). IsBlob requirement_magic z.0 × (bytes ≡ z.0 ++ z.1)) (ok_is (take (number_at 4 bytes) bytes, drop (number_at 4 bytes) bytes) y h) (at_front requirement_magic bytes e, parts)
blob_found at_front (Some why) bytes y e h = absurd cc

IsBytes-front : (front rest : List ℕ) → IsBytes (front ++ rest) → IsBytes front
IsBytes-front front rest are = subst IsBytes (take_at front rest (length front) refl) (IsBytes-take (length front) (front ++ rest) are)

-- ---- the two laws

-- a body, and what it spells
record BodyTaken (body : List ℕ) (x : Tree × List ℕ) : Type 0 where
  text : List ℕ
  parts : body ≡ word 1 ++ (text ++ x.1)
  spells : Spells x.0 text
  shallow : IsShallow x.0

body_taken : OidIsRead → (size : ℕ) (body : List ℕ) (x : Tree × List ℕ) → IsBytes body → body_at size body ≡ Ok x → BodyTaken body x
unfolding body_at
body_taken is_read size body x are e =
    let k = bind_ok (word_at size body) (λ kind. cond (eqb kind.0 1) (req_at size MOST_DEPTH kind.1) (Err fault.BadKind)) x e in
    let w = word_takes size body k.0 are k.1 in
    by_kind k.0.0 k.0.1 (eqb k.0.0 1) refl w.0 k.2
  where
    by_kind : (n : ℕ) (rest : List ℕ) (b : Bool) → eqb n 1 ≡ b → Takes body (word n) rest → cond b (req_at size MOST_DEPTH rest) (Err fault.BadKind) ≡ Ok x → BodyTaken body x
    by_kind n rest false t w h = absurd cc
    by_kind n rest true t w h =
        let is : n ≡ 1 = eqb-true _ _ t in
        let s = req_taken is_read size MOST_DEPTH rest x w.rest_fits h in
        record { text = s.text; parts = w.parts ∙ ap (λ (m : ℕ). word m ++ rest) is ∙ ap (λ (r : List ℕ). word 1 ++ r) s.taken.parts; spells = s.spells; shallow = s.shallow }

ended_with : (size : ℕ) (x : Tree × List ℕ) (rest : List ℕ) (tree : Tree) → ended size x rest ≡ Ok tree → (x.1 ≡ []) × (rest ≡ []) × (x.0 ≡ tree)
unfolding ended
ended_with size x rest tree h = by_tests (eqb (length x.1) 0) (eqb (length rest) 0) refl refl h
  where
    by_tests : (a b : Bool) → eqb (length x.1) 0 ≡ a → eqb (length rest) 0 ≡ b → cond a (cond b (Ok x.0) (Err (fault.Trailing size))) (Err (fault.Trailing (place size x.1))) ≡ Ok tree
        → (x.1 ≡ []) × (rest ≡ []) × (x.0 ≡ tree)
    by_tests false b e f h = absurd cc
    by_tests true false e f h = absurd cc
    by_tests true true e f h = (nil_from_length x.1 (eqb-true _ _ e), nil_from_length rest (eqb-true _ _ f), ok_is x.0 tree h)

-- what is read is spelled so
pub decoded_spells : OidIsRead → BlobIsFound → (bytes : List ℕ) (tree : Tree) → IsBytes bytes → decoded bytes ≡ Ok tree → IsSpelling tree bytes
unfolding decoded blob_at whole_of
decoded_spells is_read at_front bytes tree are e =
    let b = bind_ok (blob_when (blob_fault requirement_magic bytes) bytes) (λ blob. whole_of blob.0 blob.1) tree e in
    let found = blob_found at_front (blob_fault requirement_magic bytes) bytes b.0 refl b.1 in
    by_size b.0.0 b.0.1 found.0 found.1 (ltb MOST_BYTES (length b.0.0)) refl b.2
  where
    by_size : (whole rest : List ℕ) → IsBlob requirement_magic whole → bytes ≡ whole ++ rest → (c : Bool) → ltb MOST_BYTES (length whole) ≡ c
        → cond c (Err fault.TooLong) (body_at (length whole) (drop 8 whole) >>= λ x. ended (length whole) x rest) ≡ Ok tree → IsSpelling tree bytes
    by_size whole rest blob parts true t h = absurd cc
    by_size whole rest blob parts false t h =
        let short : length whole ≤ MOST_BYTES = ltb-false _ _ t in
        let whole_are : IsBytes whole = IsBytes-front whole rest (subst IsBytes parts are) in
        let x = bind_ok (body_at (length whole) (drop 8 whole)) (λ y. ended (length whole) y rest) tree h in
        let body = body_taken is_read (length whole) (drop 8 whole) x.0 (IsBytes-drop 8 whole whole_are) x.1 in
        let last = ended_with (length whole) x.0 rest tree x.2 in
        let body_is : drop 8 whole ≡ word 1 ++ body.text = body.parts ∙ ap (λ (r : List ℕ). word 1 ++ (body.text ++ r)) last.0 ∙ ap (λ (r : List ℕ). word 1 ++ r) (append-nil body.text) in
        let whole_is_all : bytes ≡ whole = parts ∙ ap (λ (r : List ℕ). whole ++ r) last.1 ∙ append-nil whole in
        let header : 8 ≤ length whole = blob.header in
        let size : length whole ≡ 12 + length body.text = omega (arith, length-drop 8 whole, ap length body_is, length-append (word 1) body.text, length-word 1, header) in
        let blob_is : whole ≡ requirement body.text =
        blob_parts requirement_magic whole whole_are blob
        ∙ ap (λ (n : ℕ). word requirement_magic ++ (word n ++ drop 8 whole)) size
        ∙ ap (λ (r : List ℕ). word requirement_magic ++ (word (12 + length body.text) ++ r)) body_is in
        record {
          expression = body.text;
          blob = whole_is_all ∙ blob_is;
          spelled = subst (λ (y : Tree). Spells y body.text) last.2 body.spells;
          shallow = subst (λ (y : Tree). IsShallow y) last.2 body.shallow;
          short = subst (λ (y : List ℕ). length y ≤ MOST_BYTES) (sym whole_is_all) short;
        }

body_again : OidIsRead → (size : ℕ) (tree : Tree) (expression : List ℕ) → Spells tree expression → IsShallow tree → body_at size (word 1 ++ expression) ≡ Ok (tree, [])
unfolding body_at
body_again is_read size tree expression spelled shallow =
    let read : req_at size MOST_DEPTH expression ≡ Ok (tree, []) = ap (req_at size 256) (sym (append-nil expression)) ∙ req_again is_read tree size MOST_DEPTH expression [] shallow spelled in
    ap (λ (r : Result (ℕ × List ℕ) OpsFault). r >>= λ kind. cond (eqb kind.0 1) (req_at size MOST_DEPTH kind.1) (Err fault.BadKind)) (word_again size 1 expression (omega arith)) ∙ read

drop-header : (magic n : ℕ) (body : List ℕ) → drop 8 (word magic ++ (word n ++ body)) ≡ body
drop-header magic n body =
    sym (drop-drop (word magic ++ (word n ++ body)))
    ∙ ap (drop 4) (drop_at (word magic) (word n ++ body) 4 (length-word magic))
    ∙ drop_at (word n) body 4 (length-word n)

spelling_decoded : OidIsRead → OnlyBlob → (tree : Tree) (expression : List ℕ) → Spells tree expression → IsShallow tree → length (requirement expression) ≤ MOST_BYTES → decoded (requirement expression) ≡ Ok tree
unfolding decoded whole_of ended
spelling_decoded is_read only tree expression spelled shallow short =
    let blob : IsBlob requirement_magic (requirement expression) = requirement_blob expression (omega (arith, short)) in
    let fits : ltb MOST_BYTES (length (requirement expression)) ≡ false = le-ltb _ _ short in
    let body : body_at (length (requirement expression)) (drop 8 (requirement expression)) ≡ Ok (tree, []) = ap (body_at (length (requirement expression))) (drop-header requirement_magic (12 + length expression) (word 1 ++ expression)) ∙ body_again is_read (length (requirement expression)) tree expression spelled shallow in
    ap (λ (r : Result (List ℕ × List ℕ) OpsFault). r >>= λ b. whole_of b.0 b.1) (blob_taken only (requirement expression) (requirement expression) [] (blob, sym (append-nil (requirement expression))))
    ∙ ap (λ (c : Bool). cond c (Err fault.TooLong) (body_at (length (requirement expression)) (drop 8 (requirement expression)) >>= λ x. ended (length (requirement expression)) x [])) fits
    ∙ ap (λ (r : Result (Tree × List ℕ) OpsFault). r >>= λ x. ended (length (requirement expression)) x []) body

-- what is spelled so is read
pub spells_decoded : OidIsRead → OnlyBlob → (bytes : List ℕ) (tree : Tree) → IsSpelling tree bytes → decoded bytes ≡ Ok tree
spells_decoded is_read only bytes tree is = ap decoded is.blob ∙ spelling_decoded is_read only tree is.expression is.spelled is.shallow (subst (λ (y : List ℕ). length y ≤ MOST_BYTES) is.blob is.short)

-- ---- the public call

-- bytes_are_read_where_they_spell, a law of this crate
abbrev ReadsWhereSpelt : Type 0
ReadsWhereSpelt = (bytes : List ℕ) (tree : Tree) → IsBytes bytes → (decoded bytes ≡ Ok tree → IsSpelling tree bytes) × (IsSpelling tree bytes → decoded bytes ≡ Ok tree)

-- what the call returns is spelled so
pub is_found : ReadsWhereSpelt → (bytes : List ℕ) (r : Result Req OpsFault) → IsBytes bytes → Gives tree_of r (decoded bytes) → IfOk r (λ req. IsSpelling (tree_of req) bytes)
is_found reads bytes (Ok req) are given = (reads bytes (tree_of req) are).0 given
is_found reads bytes (Err e) are given = tt

-- what is spelled so is what the call returns
pub is_only : ReadsWhereSpelt → (bytes : List ℕ) (r : Result Req OpsFault) (tree : Tree) → IsBytes bytes → IsSpelling tree bytes → Gives tree_of r (decoded bytes) → Gives tree_of r (Ok tree)
is_only reads bytes r tree are is given = subst (λ (d : Result Tree OpsFault). Gives tree_of r d) ((reads bytes tree are).1 is) given

-- bytes spell one tree at most
pub one_tree : OidIsRead → OnlyBlob → (first second : Tree) (bytes : List ℕ) → IsSpelling first bytes → IsSpelling second bytes → first ≡ second
one_tree is_read only first second bytes p q = ok_is first second (sym (spells_decoded is_read only bytes first p) ∙ spells_decoded is_read only bytes second q)
