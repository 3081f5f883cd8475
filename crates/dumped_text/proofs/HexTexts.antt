-- Bytes in hexadecimal digits: they are read back, and are digits alone.
use Rattle.std.proofs.Common.{◌≡◌, ℕ, zero, suc, ◌+◌, ◌*◌, ◌/◌, ◌%◌, ◌<◌, true, false, ◌==◌, List, [], ◌∷◌, ◌++◌, length, take, drop, slice_index, refl, sym, ap, subst, ◌∙◌, arith}
use Rattle.std.specs.List.{list_all}
use Rattle.std.specs.Int.{w32, to_be_bytes}
use Rattle.std.proofs.lemmas.Bool.Decides.{nat_tests}
use Rattle.std.proofs.lemmas.Slice.Eq.{bytes_eq-Decides}
use Rattle.hex.specs.Hex.{encode_with, encode_lower, lower_digits}
use Rattle.req_tree.specs.Oid.{IsBytes}
use Rattle.req_grammar.specs.Tokens as k
use Rattle.req_grammar.specs.Tokens.{hash_mark, hex_mark, is_hash, is_hex, is_hex_digit, is_letter_or_digit, is_run, goes_on}
use Rattle.req_grammar.specs.Terminals.{Terminal, str, hash, digit_value, hex_bytes, terminal_of}
use Rattle.dumped_text.specs.Dumped.{is_printed, hash_text}
use Rattle.dumped_text.specs.Sayable.{IsHash}
use Rattle.dumped_text.proofs.Bools.{and_is, was_false}
use Rattle.dumped_text.proofs.Cutting.{Cut, token, take_front, drop_front}
use Rattle.dumped_text.proofs.Pieces.{Stops, Loose, Piece}

digit_back : (d : ℕ) → d < 16 → digit_value (slice_index lower_digits d) ≡ d
digit_back zero h = refl
digit_back (suc zero) h = refl
digit_back (suc (suc zero)) h = refl
digit_back (suc (suc (suc zero))) h = refl
digit_back (suc (suc (suc (suc zero)))) h = refl
digit_back (suc (suc (suc (suc (suc zero))))) h = refl
digit_back (suc (suc (suc (suc (suc (suc zero)))))) h = refl
digit_back (suc (suc (suc (suc (suc (suc (suc zero))))))) h = refl
digit_back (suc (suc (suc (suc (suc (suc (suc (suc zero)))))))) h = refl
digit_back (suc (suc (suc (suc (suc (suc (suc (suc (suc zero))))))))) h = refl
digit_back (suc (suc (suc (suc (suc (suc (suc (suc (suc (suc zero)))))))))) h = refl
digit_back (suc (suc (suc (suc (suc (suc (suc (suc (suc (suc (suc zero))))))))))) h = refl
digit_back (suc (suc (suc (suc (suc (suc (suc (suc (suc (suc (suc (suc zero)))))))))))) h = refl
digit_back (suc (suc (suc (suc (suc (suc (suc (suc (suc (suc (suc (suc (suc zero))))))))))))) h = refl
digit_back (suc (suc (suc (suc (suc (suc (suc (suc (suc (suc (suc (suc (suc (suc zero)))))))))))))) h = refl
digit_back (suc (suc (suc (suc (suc (suc (suc (suc (suc (suc (suc (suc (suc (suc (suc zero))))))))))))))) h = refl
digit_back (suc (suc (suc (suc (suc (suc (suc (suc (suc (suc (suc (suc (suc (suc (suc (suc d)))))))))))))))) h = absurd (omega (arith, h))

pub hex_back : (s : List ℕ) → IsBytes s → hex_bytes (encode_lower s) ≡ s
unfolding encode_with
hex_back [] h = refl
hex_back (b ∷ rest) h =
    let byte : b < 256 = h 0 in
    let high : digit_value (slice_index lower_digits (b / 16)) ≡ b / 16 = digit_back (b / 16) (omega (arith, byte)) in
    let low : digit_value (slice_index lower_digits (b % 16)) ≡ b % 16 = digit_back (b % 16) (omega arith) in
    let whole : 16 * digit_value (slice_index lower_digits (b / 16)) + digit_value (slice_index lower_digits (b % 16)) ≡ b = omega (arith, high, low) in
    ap (λ n. n ∷ hex_bytes (encode_lower rest)) whole ∙ ap (λ l. b ∷ l) (hex_back rest (λ i. h (suc i)))

digit_is : (d : ℕ) → d < 16 → is_hex_digit (slice_index lower_digits d) ≡ true
digit_is zero h = refl
digit_is (suc zero) h = refl
digit_is (suc (suc zero)) h = refl
digit_is (suc (suc (suc zero))) h = refl
digit_is (suc (suc (suc (suc zero)))) h = refl
digit_is (suc (suc (suc (suc (suc zero))))) h = refl
digit_is (suc (suc (suc (suc (suc (suc zero)))))) h = refl
digit_is (suc (suc (suc (suc (suc (suc (suc zero))))))) h = refl
digit_is (suc (suc (suc (suc (suc (suc (suc (suc zero)))))))) h = refl
digit_is (suc (suc (suc (suc (suc (suc (suc (suc (suc zero))))))))) h = refl
digit_is (suc (suc (suc (suc (suc (suc (suc (suc (suc (suc zero)))))))))) h = refl
digit_is (suc (suc (suc (suc (suc (suc (suc (suc (suc (suc (suc zero))))))))))) h = refl
digit_is (suc (suc (suc (suc (suc (suc (suc (suc (suc (suc (suc (suc zero)))))))))))) h = refl
digit_is (suc (suc (suc (suc (suc (suc (suc (suc (suc (suc (suc (suc (suc zero))))))))))))) h = refl
digit_is (suc (suc (suc (suc (suc (suc (suc (suc (suc (suc (suc (suc (suc (suc zero)))))))))))))) h = refl
digit_is (suc (suc (suc (suc (suc (suc (suc (suc (suc (suc (suc (suc (suc (suc (suc zero))))))))))))))) h = refl
digit_is (suc (suc (suc (suc (suc (suc (suc (suc (suc (suc (suc (suc (suc (suc (suc (suc d)))))))))))))))) h = absurd (omega (arith, h))

pub digits_are : (s : List ℕ) → IsBytes s → list_all is_hex_digit (encode_lower s) ≡ true
unfolding encode_with
digits_are [] h = refl
digits_are (b ∷ rest) h =
    let byte : b < 256 = h 0 in
    and_is _ _ (digit_is (b / 16) (omega (arith, byte))) (and_is _ _ (digit_is (b % 16) (omega arith)) (digits_are rest (λ i. h (suc i))))

length-hex : (s : List ℕ) → length (encode_lower s) ≡ 2 * length s
unfolding encode_with
length-hex [] = refl
length-hex (b ∷ rest) = omega (arith, length-hex rest)

pub hash_back : (h : List ℕ) → IsBytes h → length h ≡ 20 → terminal_of k.hash (hash_text h) ≡ hash h
hash_back h bytes size =
    let forty : 40 ≡ length (encode_lower h) = omega (arith, size, length-hex h) in
    ap (λ n. hash (hex_bytes (take n (encode_lower h ++ 34 ∷ [])))) forty
    ∙ ap (λ l. hash (hex_bytes l)) (take_front (encode_lower h) (34 ∷ []))
    ∙ ap hash (hex_back h bytes)

run_of_digits : (s : List ℕ) → IsBytes s → list_all is_printed s ≡ false → is_run is_hex_digit (encode_lower s) ≡ true
unfolding encode_with
run_of_digits [] h k = cc
run_of_digits (b ∷ rest) h k =
    let byte : b < 256 = h 0 in
    and_is _ _ (digit_is (b / 16) (omega (arith, byte))) (digits_are (b ∷ rest) h)

pub hex_is_hex : (s : List ℕ) → IsBytes s → list_all is_printed s ≡ false → is_hex (hex_mark ++ encode_lower s) ≡ true
hex_is_hex s h k =
    let even : (length (hex_mark ++ encode_lower s) % 2 == 0) ≡ true = grind (arith, nat_tests, length-hex s) in
    and_is _ _ (run_of_digits s h k) even

-- a hash is a token
hash_is : (h : List ℕ) → IsHash h → is_hash (hash_text h) ≡ true
hash_is h is =
    let forty : length (encode_lower h) ≡ 40 = let size : length h ≡ 20 = is.size in omega (arith, size, length-hex h) in
    let front : take 40 (encode_lower h ++ 34 ∷ []) ≡ encode_lower h =
    ap (λ n. take n (encode_lower h ++ 34 ∷ [])) (sym forty) ∙ take_front (encode_lower h) (34 ∷ []) in
    let back : drop 40 (encode_lower h ++ 34 ∷ []) ≡ 34 ∷ [] =
    ap (λ n. drop n (encode_lower h ++ 34 ∷ [])) (sym forty) ∙ drop_front (encode_lower h) (34 ∷ []) in
    and_is _ _ (ap (list_all is_hex_digit) front ∙ digits_are h is.bytes) ((bytes_eq-Decides _ _).1 back)

pub hash_loose : (h : List ℕ) → IsHash h → Loose (hash_text h) (hash h ∷ [])
hash_loose h is rest ts cut =
    subst (λ (t : Terminal). Cut (hash_text h ++ rest) (t ∷ ts)) (hash_back h is.bytes is.size)
    (token k.hash (hash_text h) rest ts (hash_is h is) cut)

-- what stops isn't a letter or a digit
pub stops_alone : (rest : List ℕ) → Stops rest → goes_on is_letter_or_digit rest ≡ false
stops_alone [] h = refl
stops_alone (b ∷ rest) h = (was_false (is_letter_or_digit b) (b == 46) (was_false _ (b == 34) h).0).0

pub hex_piece : (s : List ℕ) → IsBytes s → list_all is_printed s ≡ false → Piece (hex_mark ++ encode_lower s) (str s ∷ [])
hex_piece s h some rest ts stop cut =
    subst (λ (t : Terminal). Cut (hex_mark ++ encode_lower s ++ rest) (t ∷ ts)) (ap str (hex_back s h))
    (token k.hex (hex_mark ++ encode_lower s) rest ts (hex_is_hex s h some, stops_alone rest stop) cut)

-- four bytes of a number
pub word_bytes : (n : ℕ) → IsBytes (to_be_bytes w32 n)
word_bytes n zero = omega arith
word_bytes n (suc zero) = omega arith
word_bytes n (suc (suc zero)) = omega arith
word_bytes n (suc (suc (suc zero))) = omega arith
word_bytes n (suc (suc (suc (suc i)))) = omega arith
