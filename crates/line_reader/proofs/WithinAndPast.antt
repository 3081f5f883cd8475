-- Sessions within their limits, and past them.
use Rattle.std.proofs.Common.{◌≡◌, ℕ, ◌+◌, ◌-◌, ◌<◌, ◌≤◌, ◌⊎◌, inl, inr, List, [], ◌∷◌, ◌++◌, All, length, take, ap, sym, ◌∙◌, subst, length-append, arith}
use Rattle.std.proofs.lemmas.Bool.{cases_lt}
use Rattle.std.proofs.lemmas.List.{take_at}
use Rattle.line_reader.specs.Lines.{lines_of, text_of, HasNoLf}
use Rattle.line_reader.specs.Limits.{IsWithin, RunsPast}
use Rattle.line_reader.proofs.LinesAndTheirText.{lines_of-text, lines_of-last, lines_of-some, lines_of-front}
use Rattle.line_reader.specs.declared.limits.TheConstants.{SESSION_BYTES, SESSION_LINES}

-- no session is both
pub not_both : (bytes : List ℕ) → IsWithin bytes → RunsPast bytes → ⊥
not_both bytes within past = elim past [ inl lines ↦ absurd (grind (arith, lines, within.lines)) | inr size ↦ absurd (grind (arith, size, within.size)) ]

-- what runs past them does so whatever follows
pub RunsPast-append : (xs ys : List ℕ) → RunsPast xs → RunsPast (xs ++ ys)
RunsPast-append xs ys past =
    elim past [ inl lines ↦ inl (grind (arith, lines, lines_of-front xs ys)) | inr size ↦ inr (grind (arith, size, length-append xs ys)) ]

count_lines : (lines : List (List ℕ)) (rest : List ℕ) → All HasNoLf lines → length (lines_of (text_of lines ++ rest)) ≡ length lines + length (lines_of rest)
count_lines lines rest whole = ap length (lines_of-text lines rest whole) ∙ length-append lines (lines_of rest)

-- whole lines and a part of one for which there was room
pub within_part : (lines : List (List ℕ)) (rest : List ℕ) → All HasNoLf lines → HasNoLf rest → length lines ≤ SESSION_LINES → (0 < length rest → length lines < SESSION_LINES)
    → length (text_of lines) + length rest ≤ SESSION_BYTES → IsWithin (text_of lines ++ rest)
within_part lines [] whole no_lf most begun size = record {
  lines = grind (arith, most, count_lines lines [] whole);
  size = grind (arith, size, length-append (text_of lines) []);
}
within_part lines (byte ∷ rest) whole no_lf most begun size =
    let some : 0 < length (byte ∷ rest) = omega arith in
    record {
      lines = grind (arith, begun some, count_lines lines (byte ∷ rest) whole, ap length (lines_of-last (byte ∷ rest) some no_lf));
      size = grind (arith, size, length-append (text_of lines) (byte ∷ rest));
    }

-- a byte behind as many lines, or as many bytes, as a session may have
pub past_limit : (lines : List (List ℕ)) (part behind : List ℕ) → All HasNoLf lines → 0 < length behind
    → (length lines ≡ SESSION_LINES) ⊎ (length (text_of lines) + length part ≡ SESSION_BYTES) → RunsPast (text_of lines ++ (part ++ behind))
past_limit lines part behind whole some full =
    let more : 0 < length (part ++ behind) = grind (arith, some, length-append part behind) in
    elim full [
      | inl number ↦ inl (grind (arith, number, count_lines lines (part ++ behind) whole, lines_of-some (part ++ behind) more))
      | inr size ↦ inr (grind (arith, size, some, length-append (text_of lines) (part ++ behind), length-append part behind))
    ]

-- what stands within the limit behind whole lines is the part that was handed on
no_lf_within : (n : ℕ) (text part behind : List ℕ) → length text + length part ≡ n → HasNoLf part → HasNoLf (take (n - length text) (part ++ behind))
no_lf_within n text part behind full no_lf = subst HasNoLf (sym (take_at part behind (n - length text) (grind (arith, full)))) no_lf

pub all_within : (lines : List (List ℕ)) (part behind : List ℕ) → HasNoLf part → (length lines ≡ SESSION_LINES) ⊎ (length (text_of lines) + length part ≡ SESSION_BYTES)
    → (length lines ≡ SESSION_LINES) ⊎ HasNoLf (take (SESSION_BYTES - length (text_of lines)) (part ++ behind))
all_within lines part behind no_lf full =
    elim full [ inl number ↦ inl number | inr size ↦ inr (no_lf_within SESSION_BYTES (text_of lines) part behind size no_lf) ]

-- each is one
pub within_or_past : (bytes : List ℕ) → IsWithin bytes ⊎ RunsPast bytes
within_or_past bytes =
    elim (cases_lt SESSION_LINES (length (lines_of bytes))) [
      | inl lines ↦ inr (inl lines)
      | inr lines ↦ elim (cases_lt SESSION_BYTES (length bytes)) [ inl size ↦ inr (inr size) | inr size ↦ inl (record { lines = lines; size = size }) ]
    ]
