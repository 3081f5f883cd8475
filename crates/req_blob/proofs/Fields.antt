-- An operand that is read is the one that stands there, and one that stands there is read.
use Rattle.std.proofs.Common.{◌≡◌, ℕ, ℤ, zero, suc, ◌+◌, ◌-◌, ◌^◌, ◌<◌, ◌≤◌, Bool, true, false, cond, ltb, eqb, ◌==◌, ◌&&◌, List, [], ◌∷◌, ◌++◌, length, take, drop, Result, Ok, Err, refl, sym, ap, subst, ◌∙◌, append_assoc, arith, inl, inr}
use Rattle.std.specs.Prelude.{FitsSigned}
use Rattle.std.specs.Int.{w32, from_be_bytes, to_be_bytes, cast_signed, cast_unsigned}
use Rattle.std.specs.List.{list_all}
use Rattle.std.proofs.Math.Facts.{sfits_to_z, Fits-of_z}
use Rattle.std.proofs.lemmas.Int.{to_z-of_z, of_z-to_z}
use Rattle.std.proofs.lemmas.Bool.{cases_lt, ltb-false, le-ltb}
use Rattle.std.proofs.lemmas.Bool.Decides.{nat_tests}
use Rattle.std.proofs.lemmas.List.{take_at, drop_at, take-append-drop, length-append, length-take, length-drop, length-replicate, get_or-drop, get_or-take, get_or_past}
use Rattle.std.proofs.lemmas.Nat.{be_bytes_4, from_be_bytes-to_be_bytes_4}
use Rattle.req_tree.specs.declared.matching.Match.{Match}
use Rattle.req_tree.specs.declared.matching.Match.TheVariants.{Exists, Absent, Equal, Contains, Begins, Ends, Less, Greater, LessEqual, GreaterEqual}
use Rattle.req_tree.specs.Oid.{IsBytes}
use Rattle.req_blob.specs.declared.fault.OpsFault.{OpsFault}
use Rattle.req_blob.specs.declared.fault.OpsFault.TheVariants as fault
use Rattle.cs_blob.specs.Numbers.{word}
use Rattle.req_blob.specs.Words.{signed_word, datum, unpadded, match_text, padding, zeros}
use Rattle.req_blob.specs.Spelling.{IsText, IsSlot, IsHash, IsFieldKey, IsOidDatum, IsTest}
use Rattle.req_tree.specs.Spellable.{is_reserved}
use Rattle.req_blob.specs.Reading.{◌>>=◌, place, word_at, signed_at, padded_at, datum_at, unpadded_at, hash_at, key_at, oid_of, oid_at, comparison, comparison_at, test_at, match_at}
use Rattle.req_tree.specs.OidReading.{is_oid}
use Rattle.req_blob.proofs.LawsBelow.{OidIsRead}

pub IsBytes-drop : (n : ℕ) (bytes : List ℕ) → IsBytes bytes → IsBytes (drop n bytes)
IsBytes-drop n bytes h i = rw get_or-drop (h (n + i))

pub IsBytes-take : (n : ℕ) (bytes : List ℕ) → IsBytes bytes → IsBytes (take n bytes)
IsBytes-take n bytes h i =
    elim (cases_lt i n) [
      | inl lt ↦ rw (get_or-take n bytes i 0 lt) (h i)
      | inr le ↦ rw (get_or_past (take n bytes) i 0 (omega (arith, length-take n bytes))) (omega arith)
    ]

-- the value of a step that did not fail
pub bind_ok : {A B : Type 0} (r : Result A OpsFault) (f : A → Result B OpsFault) (y : B) → (r >>= f) ≡ Ok y → (x : A) × (r ≡ Ok x) × (f x ≡ Ok y)
bind_ok (Ok x) f y e = (x, refl, e)
bind_ok (Err d) f y e = absurd cc

-- a test that did not fail
pub guard_ok : {A : Type 0} (b : Bool) (d : OpsFault) (x y : A) → cond b (Err d) (Ok x) ≡ Ok y → (b ≡ false) × (x ≡ y)
guard_ok true d x y e = absurd cc
guard_ok false d x y e = (refl, cc)

pub guard_passed : {A : Type 0} (b : Bool) (d : OpsFault) (x y : A) → cond b (Ok x) (Err d) ≡ Ok y → (b ≡ true) × (x ≡ y)
guard_passed true d x y e = (refl, cc)
guard_passed false d x y e = absurd cc

abbrev done : {A : Type 0} → A → Result A OpsFault
done x = Ok x

pub ok_is : {A : Type 0} (x y : A) → done x ≡ done y → x ≡ y
ok_is x y e = cc

-- what a reader took from the front
pub record Takes (bytes text rest : List ℕ) : Type 0 where
  pub parts : bytes ≡ text ++ rest
  pub rest_fits : IsBytes rest

pub takes_nothing : (bytes : List ℕ) → IsBytes bytes → Takes bytes [] bytes
takes_nothing bytes are = record { parts = refl; rest_fits = are }

pub Takes-then : (a x b y c : List ℕ) → Takes a x b → Takes b y c → Takes a (x ++ y) c
Takes-then a x b y c p q = record { parts = p.parts ∙ ap (λ (t : List ℕ). x ++ t) q.parts ∙ sym (append_assoc x y c); rest_fits = q.rest_fits }

pub takes_front : (n : ℕ) (bytes : List ℕ) → IsBytes bytes → Takes bytes (take n bytes) (drop n bytes)
takes_front n bytes are = record { parts = sym (take-append-drop n bytes); rest_fits = IsBytes-drop n bytes are }

-- ---- words

pub length-word : (n : ℕ) → length (word n) ≡ 4
unfolding word
length-word n = refl

pub word_takes : (size : ℕ) (bytes : List ℕ) (x : ℕ × List ℕ) → IsBytes bytes → word_at size bytes ≡ Ok x → Takes bytes (word x.0) x.1 × (x.0 < 2 ^ 32)
unfolding word_at word
word_takes size bytes x are e =
    let g = guard_ok (ltb (length bytes) 4) (fault.Cut (place size bytes)) (from_be_bytes w32 (take 4 bytes), drop 4 bytes) x e in
    let long : 4 ≤ length bytes = ltb-false _ _ g.0 in
    let are4 : IsBytes (take 4 bytes) = IsBytes-take 4 bytes are in
    let front : to_be_bytes w32 (from_be_bytes w32 (take 4 bytes)) ≡ take 4 bytes = be_bytes_4 (take 4 bytes) _ (omega (arith, length-take 4 bytes)) are4 refl in
    let taken : Takes bytes (to_be_bytes w32 (from_be_bytes w32 (take 4 bytes))) (drop 4 bytes) = subst (λ (t : List ℕ). Takes bytes t (drop 4 bytes)) (sym front) (takes_front 4 bytes are) in
    let small : from_be_bytes w32 (take 4 bytes) < 2 ^ 32 = below (take 4 bytes) are4 in
    subst (λ (y : ℕ × List ℕ). Takes bytes (to_be_bytes w32 y.0) y.1 × (y.0 < 2 ^ 32)) g.1 (taken, small)
  where
    below : (bs : List ℕ) → IsBytes bs → from_be_bytes w32 bs < 2 ^ 32
    below bs fits = omega (arith, fits 0, fits 1, fits 2, fits 3)

pub word_again : (size n : ℕ) (rest : List ℕ) → n < 2 ^ 32 → word_at size (word n ++ rest) ≡ Ok (n, rest)
unfolding word_at word
word_again size n rest lt =
    let long : ltb (length (to_be_bytes w32 n ++ rest)) 4 ≡ false = le-ltb _ _ (omega (arith, length-append (to_be_bytes w32 n) rest)) in
    let number : from_be_bytes w32 (to_be_bytes w32 n) ≡ n = from_be_bytes-to_be_bytes_4 n lt in
    ap (λ (b : Bool). cond b (Err (fault.Cut (place size (to_be_bytes w32 n ++ rest)))) (Ok (from_be_bytes w32 (take 4 (to_be_bytes w32 n ++ rest)), drop 4 (to_be_bytes w32 n ++ rest)))) long
    ∙ ap (λ (k : ℕ). Ok (k, rest)) number

-- ---- signed words

pub signed_takes : (size : ℕ) (bytes : List ℕ) (x : ℤ × List ℕ) → IsBytes bytes → signed_at size bytes ≡ Ok x → Takes bytes (signed_word x.0) x.1 × IsSlot x.0
unfolding signed_at
signed_takes size bytes x are e =
    let b = bind_ok (word_at size bytes) (λ n. Ok (cast_signed w32 n.0, n.1)) x e in
    let w = word_takes size bytes b.0 are b.1 in
    let back : cast_unsigned w32 (cast_signed w32 b.0.0) ≡ b.0.0 = of_z-to_z w32 b.0.0 w.1 in
    let taken : Takes bytes (signed_word (cast_signed w32 b.0.0)) b.0.1 = subst (λ (k : ℕ). Takes bytes (word k) b.0.1) (sym back) w.0 in
    subst (λ (y : ℤ × List ℕ). Takes bytes (signed_word y.0) y.1 × IsSlot y.0) (ok_is (cast_signed w32 b.0.0, b.0.1) x b.2) (taken, sfits_to_z {w = w32} {n = b.0.0} (record { fits = w.1 }))

pub signed_again : (size : ℕ) (z : ℤ) (rest : List ℕ) → IsSlot z → signed_at size (signed_word z ++ rest) ≡ Ok (z, rest)
unfolding signed_at
signed_again size z rest fits =
    rw (word_again size (cast_unsigned w32 z) rest (unsigned_fits z fits)) (ap (λ (k : ℤ). Ok (k, rest)) (to_z-of_z w32 z fits))
  where
    unsigned_fits : (z : ℤ) → FitsSigned w32 z → cast_unsigned w32 z < 2 ^ 32
    unsigned_fits z fits = (Fits-of_z {w = w32} {z = z} fits).fits

-- ---- data

-- bytes that are all zero are zeros
zeros_are : (xs : List ℕ) → list_all (λ b. b == 0) xs ≡ true → xs ≡ zeros (length xs)
zeros_are [] h = refl
zeros_are (x ∷ xs) h = by_test (x == 0) refl h (zeros_are xs)
  where
    by_test : (b : Bool) → (x == 0) ≡ b → (b && list_all (λ y. y == 0) xs) ≡ true → (list_all (λ y. y == 0) xs ≡ true → xs ≡ zeros (length xs)) → (x ∷ xs) ≡ zeros (length (x ∷ xs))
    by_test true e h next = let is : x ≡ 0 = grind (arith, nat_tests, e) in rw is (ap (λ (r : List ℕ). 0 ∷ r) (next h))
    by_test false e h next = absurd cc

zeros_pass : (n : ℕ) → list_all (λ b. b == 0) (zeros n) ≡ true
zeros_pass zero = refl
zeros_pass (suc n) = zeros_pass n

padded_takes : (at count : ℕ) (rest : List ℕ) (x : List ℕ × List ℕ) → IsBytes rest → padded_at at count rest ≡ Ok x → Takes rest (x.0 ++ zeros (padding (length x.0))) x.1 × (length x.0 ≡ count)
unfolding padded_at
padded_takes at count rest x are e = by_length (ltb (length rest) (count + padding count)) refl e
  where
    by_length : (b : Bool) → ltb (length rest) (count + padding count) ≡ b
        → cond b (Err (fault.Cut at)) (cond (list_all (λ y. y == 0) (take (padding count) (drop count rest))) (Ok (take count rest, drop (padding count) (drop count rest))) (Err (fault.BadPadding at))) ≡ Ok x
        → Takes rest (x.0 ++ zeros (padding (length x.0))) x.1 × (length x.0 ≡ count)
    by_length true short h = absurd cc
    by_length false long h =
        let g = guard_passed (list_all (λ y. y == 0) (take (padding count) (drop count rest))) (fault.BadPadding at) (take count rest, drop (padding count) (drop count rest)) x h in
        let enough : count + padding count ≤ length rest = ltb-false _ _ long in
        let text_size : length (take count rest) ≡ count = omega (arith, length-take count rest, enough) in
        let behind : length (drop count rest) ≡ length rest - count = length-drop count rest in
        let pad_size : length (take (padding count) (drop count rest)) ≡ padding count = omega (arith, length-take (padding count) (drop count rest), behind, enough) in
        let pad_is : take (padding count) (drop count rest) ≡ zeros (padding (length (take count rest))) = zeros_are (take (padding count) (drop count rest)) g.0 ∙ ap zeros pad_size ∙ ap (λ (n : ℕ). zeros (padding n)) (sym text_size) in
        let front = takes_front count rest are in
        let pad : Takes (drop count rest) (zeros (padding (length (take count rest)))) (drop (padding count) (drop count rest)) = subst (λ (p : List ℕ). Takes (drop count rest) p (drop (padding count) (drop count rest))) pad_is (takes_front (padding count) (drop count rest) front.rest_fits) in
        let both = Takes-then rest (take count rest) (drop count rest) (zeros (padding (length (take count rest)))) (drop (padding count) (drop count rest)) front pad in
        subst (λ (y : List ℕ × List ℕ). Takes rest (y.0 ++ zeros (padding (length y.0))) y.1 × (length y.0 ≡ count)) g.1 (both, text_size)

padded_again : (at : ℕ) (text rest : List ℕ) → padded_at at (length text) ((text ++ zeros (padding (length text))) ++ rest) ≡ Ok (text, rest)
unfolding padded_at
padded_again at text rest =
    let pad : List ℕ = zeros (padding (length text)) in
    let regrouped : (text ++ zeros (padding (length text))) ++ rest ≡ text ++ (zeros (padding (length text)) ++ rest) = append_assoc text (zeros (padding (length text))) rest in
    let pad_size : length (zeros (padding (length text))) ≡ padding (length text) = length-replicate (padding (length text)) 0 in
    let long : ltb (length (text ++ (zeros (padding (length text)) ++ rest))) (length text + padding (length text)) ≡ false = le-ltb _ _ (omega (arith, length-append text (zeros (padding (length text)) ++ rest), length-append (zeros (padding (length text))) rest, pad_size)) in
    let behind : drop (length text) (text ++ (zeros (padding (length text)) ++ rest)) ≡ zeros (padding (length text)) ++ rest = drop_at text (zeros (padding (length text)) ++ rest) (length text) refl in
    let front : take (length text) (text ++ (zeros (padding (length text)) ++ rest)) ≡ text = take_at text (zeros (padding (length text)) ++ rest) (length text) refl in
    let pad_front : take (padding (length text)) (zeros (padding (length text)) ++ rest) ≡ zeros (padding (length text)) = take_at (zeros (padding (length text))) rest (padding (length text)) pad_size in
    let pad_behind : drop (padding (length text)) (zeros (padding (length text)) ++ rest) ≡ rest = drop_at (zeros (padding (length text))) rest (padding (length text)) pad_size in
    let passes : list_all (λ b. b == 0) (zeros (padding (length text))) ≡ true = zeros_pass (padding (length text)) in
    rw (regrouped, long, behind, front, pad_front, pad_behind, passes) refl

pub datum_takes : (size : ℕ) (bytes : List ℕ) (x : List ℕ × List ℕ) → IsBytes bytes → datum_at size bytes ≡ Ok x → Takes bytes (datum x.0) x.1 × IsText x.0
unfolding datum_at datum
datum_takes size bytes x are e =
    let b = bind_ok (word_at size bytes) (λ n. padded_at (place size bytes) n.0 n.1) x e in
    let w = word_takes size bytes b.0 are b.1 in
    let p = padded_takes (place size bytes) b.0.0 b.0.1 x w.0.rest_fits b.2 in
    let both = Takes-then bytes (word b.0.0) b.0.1 (x.0 ++ zeros (padding (length x.0))) x.1 w.0 p.0 in
    (subst (λ (k : ℕ). Takes bytes (word k ++ (x.0 ++ zeros (padding (length x.0)))) x.1) (sym p.1) both, subst (λ (k : ℕ). k < 2 ^ 32) (sym p.1) w.1)

pub datum_again : (size : ℕ) (text rest : List ℕ) → IsText text → datum_at size (datum text ++ rest) ≡ Ok (text, rest)
unfolding datum_at datum
datum_again size text rest fits =
    let regrouped : (word (length text) ++ (text ++ zeros (padding (length text)))) ++ rest ≡ word (length text) ++ ((text ++ zeros (padding (length text))) ++ rest) = append_assoc (word (length text)) (text ++ zeros (padding (length text))) rest in
    ap (λ (bs : List ℕ). word_at size bs >>= λ n. padded_at (place size bs) n.0 n.1) regrouped
    ∙ ap (λ r. r >>= λ n. padded_at (place size (word (length text) ++ ((text ++ zeros (padding (length text))) ++ rest))) n.0 n.1) (word_again size (length text) ((text ++ zeros (padding (length text))) ++ rest) fits)
    ∙ padded_again _ text rest

pub unpadded_takes : (size : ℕ) (bytes : List ℕ) (x : List ℕ × List ℕ) → IsBytes bytes → unpadded_at size bytes ≡ Ok x → Takes bytes (unpadded x.0) x.1 × IsText x.0
unfolding unpadded_at unpadded
unpadded_takes size bytes x are e =
    let b = bind_ok (word_at size bytes) (λ n. cond (ltb (length n.1) n.0) (Err (fault.Cut (place size bytes))) (Ok (take n.0 n.1, drop n.0 n.1))) x e in
    let w = word_takes size bytes b.0 are b.1 in
    let g = guard_ok (ltb (length b.0.1) b.0.0) (fault.Cut (place size bytes)) (take b.0.0 b.0.1, drop b.0.0 b.0.1) x b.2 in
    let long : b.0.0 ≤ length b.0.1 = ltb-false _ _ g.0 in
    let text_size : length (take b.0.0 b.0.1) ≡ b.0.0 = omega (arith, length-take b.0.0 b.0.1, long) in
    let both = Takes-then bytes (word b.0.0) b.0.1 (take b.0.0 b.0.1) (drop b.0.0 b.0.1) w.0 (takes_front b.0.0 b.0.1 w.0.rest_fits) in
    let whole : Takes bytes (word (length (take b.0.0 b.0.1)) ++ take b.0.0 b.0.1) (drop b.0.0 b.0.1) = subst (λ (k : ℕ). Takes bytes (word k ++ take b.0.0 b.0.1) (drop b.0.0 b.0.1)) (sym text_size) both in
    subst (λ (y : List ℕ × List ℕ). Takes bytes (word (length y.0) ++ y.0) y.1 × IsText y.0) g.1 (whole, subst (λ (k : ℕ). k < 2 ^ 32) (sym text_size) w.1)

pub unpadded_again : (size : ℕ) (text rest : List ℕ) → IsText text → unpadded_at size (unpadded text ++ rest) ≡ Ok (text, rest)
unfolding unpadded_at unpadded
unpadded_again size text rest fits =
    let long : ltb (length (text ++ rest)) (length text) ≡ false = le-ltb _ _ (omega (arith, length-append text rest)) in
    let regrouped : (word (length text) ++ text) ++ rest ≡ word (length text) ++ (text ++ rest) = append_assoc (word (length text)) text rest in
    rw (regrouped, word_again size (length text) (text ++ rest) fits, long, take_at text rest (length text) refl, drop_at text rest (length text) refl) refl

-- ---- what stands in a datum

-- a datum, and a test of it
tested_takes : (size : ℕ) (bytes : List ℕ) (x y : List ℕ × List ℕ) (b : Bool) (d : OpsFault) → IsBytes bytes → datum_at size bytes ≡ Ok y → cond b (Ok y) (Err d) ≡ Ok x
    → Takes bytes (datum x.0) x.1 × IsText x.0 × (b ≡ true) × (y ≡ x)
tested_takes size bytes x y b d are read e =
    let g = guard_passed b d y x e in
    let t = datum_takes size bytes y are read in
    let whole = subst (λ (z : List ℕ × List ℕ). Takes bytes (datum z.0) z.1 × IsText z.0) g.1 t in
    (whole.0, whole.1, g.0, g.1)

pub hash_takes : (size : ℕ) (bytes : List ℕ) (x : List ℕ × List ℕ) → IsBytes bytes → hash_at size bytes ≡ Ok x → Takes bytes (datum x.0) x.1 × IsHash x.0
unfolding hash_at
hash_takes size bytes x are e =
    let b = bind_ok (datum_at size bytes) (λ y. cond (eqb (length y.0) 20) (Ok y) (Err (fault.BadHashLength (place size bytes)))) x e in
    let t = tested_takes size bytes x b.0 (eqb (length b.0.0) 20) (fault.BadHashLength (place size bytes)) are b.1 b.2 in
    let is : length b.0.0 ≡ 20 = twenty (length b.0.0) t.2 in
    (t.0, ap (λ (z : List ℕ × List ℕ). length z.0) (sym t.3) ∙ is)
  where
    twenty : (n : ℕ) → eqb n 20 ≡ true → n ≡ 20
    twenty n h = grind (arith, nat_tests, h)

pub hash_again : (size : ℕ) (text rest : List ℕ) → IsHash text → hash_at size (datum text ++ rest) ≡ Ok (text, rest)
unfolding hash_at
hash_again size text rest is = rw (datum_again size text rest (omega (arith, is)), is) refl

pub key_takes : (size : ℕ) (bytes : List ℕ) (x : List ℕ × List ℕ) → IsBytes bytes → key_at size bytes ≡ Ok x → Takes bytes (datum x.0) x.1 × IsFieldKey x.0
unfolding key_at
key_takes size bytes x are e =
    let b = bind_ok (datum_at size bytes) (λ y. cond (is_reserved y.0) (Err (fault.BadKey (place size bytes))) (Ok y)) x e in
    let g = guard_ok (is_reserved b.0.0) (fault.BadKey (place size bytes)) b.0 x b.2 in
    let t = datum_takes size bytes b.0 are b.1 in
    subst (λ (z : List ℕ × List ℕ). Takes bytes (datum z.0) z.1 × IsFieldKey z.0) g.1 (t.0, (t.1, g.0))

pub key_again : (size : ℕ) (text rest : List ℕ) → IsFieldKey text → key_at size (datum text ++ rest) ≡ Ok (text, rest)
unfolding key_at
key_again size text rest is =
    rw (datum_again size text rest is.0) (ap (λ (b : Bool). cond b (Err (fault.BadKey (place size (datum text ++ rest)))) (Ok (text, rest))) is.1)

text_bytes : (size : ℕ) (bytes : List ℕ) (x : List ℕ × List ℕ) → IsBytes bytes → datum_at size bytes ≡ Ok x → IsBytes x.0
unfolding datum_at padded_at
text_bytes size bytes x are e =
    let b = bind_ok (word_at size bytes) (λ n. padded_at (place size bytes) n.0 n.1) x e in
    let w = word_takes size bytes b.0 are b.1 in
    by_length b.0.0 b.0.1 (ltb (length b.0.1) (b.0.0 + padding b.0.0)) w.0.rest_fits b.2
  where
    by_length : (count : ℕ) (rest : List ℕ) (short : Bool) → IsBytes rest
        → cond short (Err (fault.Cut (place size bytes))) (cond (list_all (λ y. y == 0) (take (padding count) (drop count rest))) (Ok (take count rest, drop (padding count) (drop count rest))) (Err (fault.BadPadding (place size bytes)))) ≡ Ok x
        → IsBytes x.0
    by_length count rest true are h = absurd cc
    by_length count rest false are h =
        let g = guard_passed (list_all (λ y. y == 0) (take (padding count) (drop count rest))) (fault.BadPadding (place size bytes)) (take count rest, drop (padding count) (drop count rest)) x h in
        subst (λ (z : List ℕ × List ℕ). IsBytes z.0) g.1 (IsBytes-take count rest are)

pub oid_takes : OidIsRead → (size : ℕ) (bytes : List ℕ) (x : List ℕ × List ℕ) → IsBytes bytes → oid_at size bytes ≡ Ok x → Takes bytes (datum x.0) x.1 × IsOidDatum x.0
unfolding oid_at oid_of
oid_takes read size bytes x are e =
    let b = bind_ok (datum_at size bytes) (λ y. oid_of (place size bytes) y.0 >>= λ oid. Ok (oid, y.1)) x e in
    let c = bind_ok (oid_of (place size bytes) b.0.0) (λ oid. Ok (oid, b.0.1)) x b.2 in
    let g = guard_passed (is_oid b.0.0) (fault.BadOid (place size bytes)) b.0.0 c.0 c.1 in
    let t = datum_takes size bytes b.0 are b.1 in
    let is = (read b.0.0).0 (text_bytes size bytes b.0 are b.1) g.0 in
    let made : b.0 ≡ x = ap (λ (o : List ℕ). (o, b.0.1)) g.1 ∙ ok_is (c.0, b.0.1) x c.2 in
    subst (λ (z : List ℕ × List ℕ). Takes bytes (datum z.0) z.1 × IsOidDatum z.0) made (t.0, (t.1, is))

pub oid_again : OidIsRead → (size : ℕ) (text rest : List ℕ) → IsOidDatum text → oid_at size (datum text ++ rest) ≡ Ok (text, rest)
unfolding oid_at oid_of
oid_again read size text rest is =
    rw (datum_again size text rest is.0) (ap (λ (b : Bool). cond b (Ok text) (Err (fault.BadOid (place size (datum text ++ rest)))) >>= λ oid. Ok (oid, rest)) ((read text).1 is.1))

-- ---- matches

-- a test that was read, and its bytes
pub record IsTaken (bytes : List ℕ) (x : Match × List ℕ) : Type 0 where
  pub taken : Takes bytes (match_text x.0) x.1
  pub fits : IsTest x.0

suffix_takes : (size suffix : ℕ) (bytes rest : List ℕ) (x : Match × List ℕ) → 1 ≤ suffix → suffix ≤ 8 → Takes bytes (word suffix) rest → comparison_at size suffix rest ≡ Ok x → IsTaken bytes x
unfolding comparison_at
suffix_takes size suffix bytes rest x low high w e =
    let b = bind_ok (datum_at size rest) (λ y. Ok (comparison suffix y.0, y.1)) x e in
    let t = datum_takes size rest b.0 w.rest_fits b.1 in
    let both = Takes-then bytes (word suffix) rest (datum b.0.0) b.0.1 w t.0 in
    subst (λ (z : Match × List ℕ). IsTaken bytes z) (ok_is (comparison suffix b.0.0, b.0.1) x b.2) (by_suffix suffix low high b.0.0 b.0.1 both t.1)
  where
    by_suffix : (k : ℕ) → 1 ≤ k → k ≤ 8 → (value after : List ℕ) → Takes bytes (word k ++ datum value) after → IsText value → IsTaken bytes (comparison k value, after)
    by_suffix zero low high value after t fits = absurd (omega arith)
    by_suffix (suc zero) low high value after t fits = record { taken = t; fits = fits }
    by_suffix (suc (suc zero)) low high value after t fits = record { taken = t; fits = fits }
    by_suffix (suc (suc (suc zero))) low high value after t fits = record { taken = t; fits = fits }
    by_suffix (suc (suc (suc (suc zero)))) low high value after t fits = record { taken = t; fits = fits }
    by_suffix (suc (suc (suc (suc (suc zero))))) low high value after t fits = record { taken = t; fits = fits }
    by_suffix (suc (suc (suc (suc (suc (suc zero)))))) low high value after t fits = record { taken = t; fits = fits }
    by_suffix (suc (suc (suc (suc (suc (suc (suc zero))))))) low high value after t fits = record { taken = t; fits = fits }
    by_suffix (suc (suc (suc (suc (suc (suc (suc (suc zero)))))))) low high value after t fits = record { taken = t; fits = fits }
    by_suffix (suc (suc (suc (suc (suc (suc (suc (suc (suc k))))))))) low high value after t fits = absurd (omega arith)

pub match_takes : (size : ℕ) (bytes : List ℕ) (x : Match × List ℕ) → IsBytes bytes → match_at size bytes ≡ Ok x → Takes bytes (match_text x.0) x.1 × IsTest x.0
unfolding match_at test_at
match_takes size bytes x are e =
    let b = bind_ok (word_at size bytes) (λ n. test_at size (place size bytes) n.0 n.1) x e in
    let w = word_takes size bytes b.0 are b.1 in
    let is = by_zero b.0.0 b.0.1 (eqb b.0.0 0) refl w.0 b.2 in
    (is.taken, is.fits)
  where
    by_eight : (k : ℕ) (rest : List ℕ) (c : Bool) → ltb 8 k ≡ c → 1 ≤ k → Takes bytes (word k) rest
        → cond c (Err (fault.UnknownMatch (place size bytes) k)) (comparison_at size k rest) ≡ Ok x → IsTaken bytes x
    by_eight k rest true t low w h = absurd cc
    by_eight k rest false t low w h = suffix_takes size k bytes rest x low (ltb-false _ _ t) w h

    by_absent : (k : ℕ) (rest : List ℕ) (c : Bool) → eqb k 14 ≡ c → 1 ≤ k → Takes bytes (word k) rest
        → cond c (Ok (Absent, rest)) (cond (ltb 8 k) (Err (fault.UnknownMatch (place size bytes) k)) (comparison_at size k rest)) ≡ Ok x → IsTaken bytes x
    by_absent k rest true t low w h =
        let is : k ≡ 14 = grind (arith, nat_tests, t) in
        subst (λ (z : Match × List ℕ). IsTaken bytes z) (ok_is (Absent, rest) x h) (record { taken = subst (λ (n : ℕ). Takes bytes (word n) rest) is w; fits = tt })
    by_absent k rest false t low w h = by_eight k rest (ltb 8 k) refl low w h

    by_zero : (k : ℕ) (rest : List ℕ) (c : Bool) → eqb k 0 ≡ c → Takes bytes (word k) rest
        → cond c (Ok (Exists, rest)) (cond (eqb k 14) (Ok (Absent, rest)) (cond (ltb 8 k) (Err (fault.UnknownMatch (place size bytes) k)) (comparison_at size k rest))) ≡ Ok x → IsTaken bytes x
    by_zero k rest true t w h =
        let is : k ≡ 0 = grind (arith, nat_tests, t) in
        subst (λ (z : Match × List ℕ). IsTaken bytes z) (ok_is (Exists, rest) x h) (record { taken = subst (λ (n : ℕ). Takes bytes (word n) rest) is w; fits = tt })
    by_zero k rest false t w h =
        let some : 1 ≤ k = grind (arith, nat_tests, t) in
        by_absent k rest (eqb k 14) refl some w h

compared : (size suffix : ℕ) (value rest : List ℕ) → suffix < 2 ^ 32 → IsText value → (test : Match) → ((at : ℕ) (bytes : List ℕ) → test_at size at suffix bytes ≡ comparison_at size suffix bytes) → comparison suffix value ≡ test
    → match_at size ((word suffix ++ datum value) ++ rest) ≡ Ok (test, rest)
unfolding match_at comparison_at
compared size suffix value rest small fits test is_comparison is =
    let regrouped : (word suffix ++ datum value) ++ rest ≡ word suffix ++ (datum value ++ rest) = append_assoc (word suffix) (datum value) rest in
    rw (regrouped, word_again size suffix (datum value ++ rest) small, is_comparison, datum_again size value rest fits) (ap (λ (m : Match). Ok (m, rest)) is)

bare : (size suffix : ℕ) (rest : List ℕ) → suffix < 2 ^ 32 → (test : Match) → ((at : ℕ) (bytes : List ℕ) → test_at size at suffix bytes ≡ Ok (test, bytes)) → match_at size (word suffix ++ rest) ≡ Ok (test, rest)
unfolding match_at
bare size suffix rest small test is = rw (word_again size suffix rest small) (is _ rest)

pub match_again : (size : ℕ) (test : Match) (rest : List ℕ) → IsTest test → match_at size (match_text test ++ rest) ≡ Ok (test, rest)
unfolding test_at
match_again size Exists rest fits = bare size 0 rest (omega arith) Exists (λ at bytes. refl)
match_again size Absent rest fits = bare size 14 rest (omega arith) Absent (λ at bytes. refl)
match_again size (Equal value) rest fits = compared size 1 value rest (omega arith) fits (Equal value) (λ at bytes. refl) refl
match_again size (Contains value) rest fits = compared size 2 value rest (omega arith) fits (Contains value) (λ at bytes. refl) refl
match_again size (Begins value) rest fits = compared size 3 value rest (omega arith) fits (Begins value) (λ at bytes. refl) refl
match_again size (Ends value) rest fits = compared size 4 value rest (omega arith) fits (Ends value) (λ at bytes. refl) refl
match_again size (Less value) rest fits = compared size 5 value rest (omega arith) fits (Less value) (λ at bytes. refl) refl
match_again size (Greater value) rest fits = compared size 6 value rest (omega arith) fits (Greater value) (λ at bytes. refl) refl
match_again size (LessEqual value) rest fits = compared size 7 value rest (omega arith) fits (LessEqual value) (λ at bytes. refl) refl
match_again size (GreaterEqual value) rest fits = compared size 8 value rest (omega arith) fits (GreaterEqual value) (λ at bytes. refl) refl
