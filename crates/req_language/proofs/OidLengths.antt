-- An object identifier has at most five bytes for each number, and its text a dot before each number but the first.
use Rattle.std.proofs.Common.{◌≡◌, ◌≢◌, ℕ, suc, ◌+◌, ◌*◌, ◌%◌, ◌<◌, ◌≤◌, List, [], ◌∷◌, ◌++◌, length, All, map, decimal, refl, sym, ap, subst, ◌∙◌, arith, length-append}
use Rattle.std.specs.List.{fold, join_with_byte}
use Rattle.std.proofs.lemmas.List.Elements.{All-head}
use Rattle.req_tree.specs.Oid.{WritesNumber, WriteNumbers, IsOidText, dotted}

abbrev base_from : ℕ → List ℕ → ℕ
base_from part bytes = fold (λ n b. 128 * n + b % 128) part bytes

base_from-le : (part : ℕ) (xs : List ℕ) → part ≤ base_from part xs
base_from-le part [] = omega arith
base_from-le part (x ∷ xs) = omega (arith, base_from-le (128 * part + x % 128) xs)

part_least : (part n : ℕ) (xs : List ℕ) → base_from part xs ≡ n → part ≤ n
part_least part n xs e = subst (λ (k : ℕ). part ≤ k) e (base_from-le part xs)

abbrev HighByte : ℕ → Type 0
HighByte b = (128 ≤ b) × (b < 256)

-- the first of several bytes has the high bit
first_high : (front : List ℕ) (last a b : ℕ) (rest : List ℕ) → a ∷ b ∷ rest ≡ front ++ last ∷ [] → All HighByte front → HighByte a
first_high [] last a b rest e high = absurd (two e)
  where
    two : a ∷ b ∷ rest ≡ last ∷ [] → ⊥
    two e = omega (arith, ap length e)
first_high (x ∷ front) last a b rest e high = subst HighByte (sym (head e)) (All-head HighByte x front high)
  where
    head : a ∷ b ∷ rest ≡ x ∷ (front ++ last ∷ []) → a ≡ x
    head e = cc

number_short : (n : ℕ) (bytes : List ℕ) → WritesNumber n bytes → length bytes ≤ 5
number_short n [] h = omega arith
number_short n (a ∷ []) h = omega arith
number_short n (a ∷ b ∷ []) h = omega arith
number_short n (a ∷ b ∷ c ∷ []) h = omega arith
number_short n (a ∷ b ∷ c ∷ d ∷ []) h = omega arith
number_short n (a ∷ b ∷ c ∷ d ∷ e ∷ []) h = omega arith
number_short n (a ∷ b ∷ c ∷ d ∷ e ∷ f ∷ rest) h =
    let high : HighByte a = first_high h.front h.last a b (c ∷ d ∷ e ∷ f ∷ rest) h.parts h.more in
    let other : a ≢ 128 = h.fewest in
    let least : 128 * (128 * (128 * (128 * (128 * (128 * 0 + a % 128) + b % 128) + c % 128) + d % 128) + e % 128) + f % 128 ≤ n = part_least (128 * (128 * (128 * (128 * (128 * (128 * 0 + a % 128) + b % 128) + c % 128) + d % 128) + e % 128) + f % 128) n rest h.value in
    absurd (omega (arith, high.0, high.1, other, least, h.small))

numbers_short : (numbers bytes : List ℕ) → WriteNumbers numbers bytes → length bytes ≤ 5 * length numbers
numbers_short [] bytes h = omega (arith, ap length h)
numbers_short (n ∷ numbers) bytes (front, rest, e, one, more) =
    omega (arith, ap length e, length-append front rest, number_short n front one, numbers_short numbers rest more)

-- a dot stands before each number but the first
dots : (first : List ℕ) (more : List (List ℕ)) → length more ≤ length (join_with_byte 46 (first ∷ more))
dots first [] = omega arith
dots first (next ∷ more) = omega (arith, length-append first (46 ∷ join_with_byte 46 (next ∷ more)), dots next more)

map_length : (xs : List ℕ) → length (map decimal xs) ≡ length xs
map_length [] = refl
map_length (x ∷ xs) = ap suc (map_length xs)

oid_short : (oid text : List ℕ) → IsOidText oid text → length oid ≤ 5 * length text
oid_short oid text (arcs, is, e) =
    let size : length oid ≤ 5 * length ((40 * is.a + is.b) ∷ is.rest) = numbers_short ((40 * is.a + is.b) ∷ is.rest) oid is.bytes_are in
    let text_is : text ≡ join_with_byte 46 (map decimal (is.a ∷ is.b ∷ is.rest)) = e ∙ ap dotted is.arcs_are in
    omega (arith, size, ap length text_is, dots (decimal is.a) (map decimal (is.b ∷ is.rest)), map_length (is.b ∷ is.rest))

-- a key that ends with an object identifier's text
pub key_of_oid : (key front oid text : List ℕ) → key ≡ front ++ text → IsOidText oid text → length oid ≤ 5 * length key
key_of_oid key front oid text e is = omega (arith, ap length e, length-append front text, oid_short oid text is)
