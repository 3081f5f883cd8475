-- Lines, their texts, and texts in front of others.
use Rattle.std.proofs.Common.{inl, inr, ◌⊎◌, append-nil, ◌≡◌, ◌≢◌, ℕ, zero, suc, ◌<◌, ◌≤◌, Bool, true, false, ◌==◌, if◌then◌else◌, List, [], ◌∷◌, ◌++◌, All, length, refl, sym, ap, ◌∙◌, append_assoc, arith}
use Rattle.std.proofs.lemmas.Bool.Decides.{nat_tests}
use Rattle.line_reader.specs.Lines.{onto_first, lines_of, with_lf, text_of, HasNoLf}

head_no_lf : (byte : ℕ) (bytes : List ℕ) → HasNoLf (byte ∷ bytes) → byte ≢ 10
head_no_lf byte bytes h = h 0 0 (omega arith)

tail_no_lf : (byte : ℕ) (bytes : List ℕ) → HasNoLf (byte ∷ bytes) → HasNoLf bytes
tail_no_lf byte bytes h = λ k d lt. h (suc k) d (omega arith)

-- a byte that is no LF belongs to the first line
lines_of-byte : (byte : ℕ) (bytes : List ℕ) → byte ≢ 10 → lines_of (byte ∷ bytes) ≡ onto_first byte (lines_of bytes)
lines_of-byte byte bytes ne = grind (arith, nat_tests)

-- a line with its LF stands first
pub lines_of-line : (line rest : List ℕ) → HasNoLf line → lines_of (line ++ 10 ∷ rest) ≡ line ∷ lines_of rest
lines_of-line [] rest h = refl
lines_of-line (byte ∷ line) rest h =
    lines_of-byte byte (line ++ 10 ∷ rest) (head_no_lf byte line h) ∙ ap (onto_first byte) (lines_of-line line rest (tail_no_lf byte line h))

-- a line without LF stands alone
pub lines_of-last : (line : List ℕ) → 0 < length line → HasNoLf line → lines_of line ≡ line ∷ []
lines_of-last [] some h = absurd (omega arith)
lines_of-last (byte ∷ []) some h = lines_of-byte byte [] (head_no_lf byte [] h)
lines_of-last (byte ∷ next ∷ line) some h =
    lines_of-byte byte (next ∷ line) (head_no_lf byte (next ∷ line) h)
    ∙ ap (onto_first byte) (lines_of-last (next ∷ line) (omega arith) (tail_no_lf byte (next ∷ line) h))

tail_whole : (line : List ℕ) (lines : List (List ℕ)) → All HasNoLf (line ∷ lines) → All HasNoLf lines
tail_whole line lines h = λ k d lt. h (suc k) d (omega arith)

-- whole lines stand before the lines of what follows
pub lines_of-text : (lines : List (List ℕ)) (rest : List ℕ) → All HasNoLf lines → lines_of (text_of lines ++ rest) ≡ lines ++ lines_of rest
lines_of-text [] rest h = refl
lines_of-text (line ∷ lines) rest h =
    ap lines_of (append_assoc (with_lf line) (text_of lines) rest ∙ append_assoc line (10 ∷ []) (text_of lines ++ rest))
    ∙ lines_of-line line (text_of lines ++ rest) (h 0 [] (omega arith))
    ∙ ap (λ l. line ∷ l) (lines_of-text lines rest (tail_whole line lines h))

-- some bytes are at least one line
pub lines_of-some : (bytes : List ℕ) → 0 < length bytes → 0 < length (lines_of bytes)
lines_of-some [] some = absurd (omega arith)
lines_of-some (byte ∷ bytes) some = one_or_more byte (lines_of bytes) (byte == 10)
  where
    one_or_more : (byte : ℕ) (lines : List (List ℕ)) (ended : Bool) → 0 < length (if ended then [] ∷ lines else onto_first byte lines)
    one_or_more byte lines true = omega arith
    one_or_more byte [] false = omega arith
    one_or_more byte (line ∷ lines) false = omega arith

-- more bytes are no fewer lines
no_fewer : (byte : ℕ) (xs ys : List (List ℕ)) (ended : Bool) → length xs ≤ length ys
    → length (if ended then [] ∷ xs else onto_first byte xs) ≤ length (if ended then [] ∷ ys else onto_first byte ys)
no_fewer byte xs ys true h = omega arith
no_fewer byte [] [] false h = omega arith
no_fewer byte [] (y ∷ ys) false h = omega arith
no_fewer byte (x ∷ xs) [] false h = absurd (omega arith)
no_fewer byte (x ∷ xs) (y ∷ ys) false h = omega arith

pub lines_of-front : (xs ys : List ℕ) → length (lines_of xs) ≤ length (lines_of (xs ++ ys))
lines_of-front [] ys = omega arith
lines_of-front (x ∷ xs) ys = no_fewer x (lines_of xs) (lines_of (xs ++ ys)) (x == 10) (lines_of-front xs ys)

-- ---- lines are the bytes

all_more : (line : List ℕ) (lines : List (List ℕ)) → HasNoLf line → All HasNoLf lines → All HasNoLf (line ∷ lines)
all_more line lines h k zero d lt = h
all_more line lines h k (suc n) d lt = k n d (omega arith)

no_lf_first : (byte : ℕ) (line : List ℕ) → byte ≢ 10 → HasNoLf line → HasNoLf (byte ∷ line)
no_lf_first byte line ne h zero d lt = ne
no_lf_first byte line ne h (suc n) d lt = h n d (omega arith)

no_line : All HasNoLf []
no_line k d lt = absurd (omega arith)

no_byte : HasNoLf []
no_byte k d lt = absurd (omega arith)

onto_whole : (byte : ℕ) (lines : List (List ℕ)) → byte ≢ 10 → All HasNoLf lines → All HasNoLf (onto_first byte lines)
onto_whole byte [] ne h = all_more (byte ∷ []) [] (no_lf_first byte [] ne no_byte) no_line
onto_whole byte (line ∷ lines) ne h = all_more (byte ∷ line) lines (no_lf_first byte line ne (h 0 [] (omega arith))) (tail_whole line lines h)

-- a byte is LF or not
whole_by : (byte : ℕ) (lines : List (List ℕ)) (ended : Bool) → (byte == 10) ≡ ended → All HasNoLf lines → All HasNoLf (if ended then [] ∷ lines else onto_first byte lines)
whole_by byte lines true t h = all_more [] lines no_byte h
whole_by byte lines false t h = onto_whole byte lines (λ e. grind (arith, nat_tests, t, e)) h

pub lines_of-whole : (bytes : List ℕ) → All HasNoLf (lines_of bytes)
lines_of-whole [] = no_line
lines_of-whole (byte ∷ bytes) = whole_by byte (lines_of bytes) (byte == 10) refl (lines_of-whole bytes)

not_empty : (bytes : List ℕ) → [] ≡ bytes ++ 10 ∷ [] → ⊥
not_empty [] h = cc
not_empty (byte ∷ bytes) h = cc

text_onto : (byte : ℕ) (bytes : List ℕ) (lines : List (List ℕ)) → (text_of lines ≡ bytes) ⊎ (text_of lines ≡ bytes ++ 10 ∷ [])
    → (text_of (onto_first byte lines) ≡ byte ∷ bytes) ⊎ (text_of (onto_first byte lines) ≡ byte ∷ bytes ++ 10 ∷ [])
text_onto byte bytes [] h =
    elim h [ inl same ↦ inr (ap (λ l. byte ∷ l ++ 10 ∷ []) same) | inr more ↦ absurd (not_empty bytes more) ]
text_onto byte bytes (line ∷ lines) h =
    elim h [ inl same ↦ inl (ap (λ l. byte ∷ l) same) | inr more ↦ inr (ap (λ l. byte ∷ l) more) ]

text_by : (byte : ℕ) (bytes : List ℕ) (lines : List (List ℕ)) (ended : Bool) → (byte == 10) ≡ ended → (text_of lines ≡ bytes) ⊎ (text_of lines ≡ bytes ++ 10 ∷ [])
    → (text_of (if ended then [] ∷ lines else onto_first byte lines) ≡ byte ∷ bytes) ⊎ (text_of (if ended then [] ∷ lines else onto_first byte lines) ≡ byte ∷ bytes ++ 10 ∷ [])
text_by byte bytes lines true t h =
    let lf : byte ≡ 10 = grind (arith, nat_tests, t) in
    elim h [ inl same ↦ inl (ap (λ l. 10 ∷ l) same ∙ ap (λ b. b ∷ bytes) (sym lf)) | inr more ↦ inr (ap (λ l. 10 ∷ l) more ∙ ap (λ b. b ∷ bytes ++ 10 ∷ []) (sym lf)) ]
text_by byte bytes lines false t h = text_onto byte bytes lines h

pub text_of-lines_of : (bytes : List ℕ) → (text_of (lines_of bytes) ≡ bytes) ⊎ (text_of (lines_of bytes) ≡ bytes ++ 10 ∷ [])
text_of-lines_of [] = inl refl
text_of-lines_of (byte ∷ bytes) = text_by byte bytes (lines_of bytes) (byte == 10) refl (text_of-lines_of bytes)

-- and back
pub lines_of-text_of : (lines : List (List ℕ)) → All HasNoLf lines → lines_of (text_of lines) ≡ lines
lines_of-text_of lines h = ap lines_of (sym (append-nil (text_of lines))) ∙ lines_of-text lines [] h ∙ append-nil lines
