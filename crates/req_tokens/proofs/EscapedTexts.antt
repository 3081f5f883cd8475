-- Quoted strings: where one is closed, and that its bytes are those of its value.
use Rattle.std.proofs.Common.{◌≡◌, ℕ, zero, suc, ◌+◌, ◌-◌, ◌<◌, ◌≤◌, Bool, true, false, not, ◌&&◌, ◌||◌, ◌==◌, List, [], ◌∷◌, ◌++◌, length, take, drop, filter, cond, refl, sym, ap, subst, ◌∙◌, arith, append_assoc, length-append}
use Rattle.std.specs.List.{list_all, flat_map}
use Rattle.std.proofs.lemmas.Bool.{and_parts, and_from, eqb-true, not-true, true≢false}
use Rattle.std.proofs.lemmas.List.{take_at}
use Rattle.std.proofs.lemmas.Slice.Eq.{bytes_eq-Decides}
use Rattle.req_grammar.specs.Tokens.{goes_on, escaped, is_quoted, quoted_text, quoted_value}
use Rattle.req_grammar.specs.TokenFaults.{is_quote, has_end}
use Rattle.req_tokens.specs.declared.reach.End.TheVariants.{Quoted, Escapes}
use Rattle.req_tokens.specs.Reach.{ends, reach}

-- no backslash
abbrev pub is_other : ℕ → Bool
is_other b = not (b == 92)

-- each backslash has a quote behind it, and each quote a backslash before it; the flag tells of one before the bytes
abbrev pub is_escaped : Bool → List ℕ → Bool
is_escaped flag [] = not flag
is_escaped true (b ∷ xs) = is_quote b && is_escaped false xs
is_escaped false (b ∷ xs) = cond (b == 92) (is_escaped true xs) (not (is_quote b) && is_escaped false xs)

-- such bytes, with the backslash before them, are those of their value
abbrev IsSpelt : Bool → List ℕ → Type 0
IsSpelt flag xs = is_escaped flag xs ≡ true → cond flag (92 ∷ xs) xs ≡ flat_map escaped (filter is_other xs)

spelt_first : (b : ℕ) (xs : List ℕ) (s q : Bool) → (b == 92) ≡ s → is_quote b ≡ q → IsSpelt true xs → IsSpelt false xs
    → cond s (is_escaped true xs) (not q && is_escaped false xs) ≡ true → b ∷ xs ≡ flat_map escaped (cond (not s) (b ∷ filter is_other xs) (filter is_other xs))
spelt_first b xs true q e f behind plain h = ap (λ (c : ℕ). c ∷ xs) (eqb-true b 92 e) ∙ behind h
spelt_first b xs false true e f behind plain h = absurd (true≢false (sym h))
spelt_first b xs false false e f behind plain h =
    ap (λ (l : List ℕ). b ∷ l) (plain h) ∙ ap (λ (t : Bool). cond t (92 ∷ 34 ∷ []) (b ∷ []) ++ flat_map escaped (filter is_other xs)) (sym f)

spelt_behind : (b : ℕ) (xs : List ℕ) → IsSpelt false xs → IsSpelt true (b ∷ xs)
spelt_behind b xs plain h =
    let parts = and_parts (is_quote b) (is_escaped false xs) h in
    subst (λ (c : ℕ). 92 ∷ c ∷ xs ≡ flat_map escaped (filter is_other (c ∷ xs))) (sym (eqb-true b 34 parts.0)) (ap (λ (l : List ℕ). 92 ∷ 34 ∷ l) (plain parts.1))

pub spelt : (flag : Bool) (xs : List ℕ) → IsSpelt flag xs
spelt true [] h = absurd (true≢false (sym h))
spelt false [] h = refl
spelt true (b ∷ xs) h = spelt_behind b xs (spelt false xs) h
spelt false (b ∷ xs) h = spelt_first b xs (b == 92) (is_quote b) refl refl (spelt true xs) (spelt false xs) h

all_filter_step : (b : ℕ) (xs : List ℕ) (t : Bool) → is_other b ≡ t → list_all is_other xs ≡ true → list_all is_other (cond t (b ∷ xs) xs) ≡ true
all_filter_step b xs true e h = and_from (is_other b) (list_all is_other xs) e h
all_filter_step b xs false e h = h

pub all_filter : (xs : List ℕ) → list_all is_other (filter is_other xs) ≡ true
all_filter [] = refl
all_filter (b ∷ xs) = all_filter_step b (filter is_other xs) (is_other b) refl (all_filter xs)

-- ---- where a quoted string is closed

end_step : (c b : ℕ) (xs : List ℕ) (t : Bool) → ends Quoted c (b ∷ xs) ≡ t
    → (reach Quoted (b ∷ xs) < suc (length xs) → has_end b xs ≡ true)
    → cond t 0 (suc (reach Quoted (b ∷ xs))) < suc (suc (length xs)) → (t || has_end b xs) ≡ true
end_step c b xs true e later few = refl
end_step c b xs false e later few = later (omega (arith, few))

pub has_end-closed : (c : ℕ) (xs : List ℕ) → reach Quoted (c ∷ xs) < suc (length xs) → has_end c xs ≡ true
has_end-closed c [] few = absurd (omega (arith, few))
has_end-closed c (b ∷ xs) few = end_step c b xs (ends Quoted c (b ∷ xs)) refl (has_end-closed b xs) few

no_end_step : (c b : ℕ) (xs : List ℕ) (t : Bool) → ends Quoted c (b ∷ xs) ≡ t
    → (reach Quoted (b ∷ xs) ≡ suc (length xs) → has_end b xs ≡ false)
    → cond t 0 (suc (reach Quoted (b ∷ xs))) ≡ suc (suc (length xs)) → (t || has_end b xs) ≡ false
no_end_step c b xs true e later all = absurd (omega (arith, all))
no_end_step c b xs false e later all = later (omega (arith, all))

pub has_end-open : (c : ℕ) (xs : List ℕ) → reach Quoted (c ∷ xs) ≡ suc (length xs) → has_end c xs ≡ false
has_end-open c [] all = refl
has_end-open c (b ∷ xs) all = no_end_step c b xs (ends Quoted c (b ∷ xs)) refl (has_end-open b xs) all

-- ---- between the quotes

escaped_step : (b : ℕ) (xs : List ℕ) (s q t : Bool) → (b == 92) ≡ t → is_quote b ≡ q → (s && not q) ≡ false → (q && not s) ≡ false → is_escaped (b == 92) xs ≡ true
    → is_escaped s (b ∷ xs) ≡ true
escaped_step b xs true true t e f open_ last h =
    and_from (is_quote b) (is_escaped false xs) f (subst (λ (c : ℕ). is_escaped (c == 92) xs ≡ true) (eqb-true b 34 f) h)
escaped_step b xs true false t e f open_ last h = absurd (true≢false open_)
escaped_step b xs false true t e f open_ last h = absurd (true≢false last)
escaped_step b xs false false true e f open_ last h =
    subst (λ (u : Bool). cond u (is_escaped true xs) (not (is_quote b) && is_escaped false xs) ≡ true) (sym e) (subst (λ (u : Bool). is_escaped u xs ≡ true) e h)
escaped_step b xs false false false e f open_ last h =
    subst (λ (u : Bool). cond u (is_escaped true xs) (not (is_quote b) && is_escaped false xs) ≡ true) (sym e)
    (subst (λ (u : Bool). (not u && is_escaped false xs) ≡ true) (sym f) (subst (λ (u : Bool). is_escaped u xs ≡ true) e h))

take_first : (b n : ℕ) (ys : List ℕ) → take (suc n + 1) (b ∷ ys) ≡ b ∷ take (n + 1) ys
take_first b n ys = let one : suc n + 1 ≡ suc (n + 1) = omega arith in ap (λ (m : ℕ). take m (b ∷ ys)) one

-- what stands behind a quote and is closed
pub record Closed (c n : ℕ) (xs : List ℕ) : Type 0 where
  pub inside : List ℕ
  pub rest : List ℕ
  pub parts : xs ≡ inside ++ 34 ∷ rest
  pub size : length inside ≡ n
  pub sound : is_escaped (c == 92) inside ≡ true

abbrev IsClosed : ℕ → List ℕ → List ℕ → ℕ → Type 0
IsClosed c xs front n = reach Quoted (c ∷ xs) ≡ n → n + 2 ≤ suc (length xs) → front ≡ take (n + 1) xs → reach Escapes (c ∷ front) ≡ suc (length front) → Closed c n xs

closed_now : (c b : ℕ) (ys : List ℕ) (n : ℕ) → ends Quoted c (b ∷ ys) ≡ true → 0 ≡ n → Closed c n (b ∷ ys)
closed_now c b ys n is zero_is =
    let parts = and_parts (is_quote b) (not (c == 92)) is in
    record {
      inside = [];
      rest = ys;
      parts = ap (λ (d : ℕ). d ∷ ys) (eqb-true b 34 parts.0);
      size = zero_is;
      sound = parts.1;
    }

no_backslash : (c b : ℕ) (front : List ℕ) (k : ℕ) (u : Bool) → ends Escapes c (b ∷ front) ≡ u → cond u 0 (suc (reach Escapes (b ∷ front))) ≡ suc k → (ends Escapes c (b ∷ front) ≡ false) × (reach Escapes (b ∷ front) ≡ k)
no_backslash c b front k true e h = absurd (omega (arith, h))
no_backslash c b front k false e h = (e, omega (arith, h))

closed_more : (c b : ℕ) (ys : List ℕ) (m : ℕ) → ends Quoted c (b ∷ ys) ≡ false → (ends Escapes c (b ∷ take (m + 1) ys) ≡ false) → Closed b m ys → Closed c (suc m) (b ∷ ys)
closed_more c b ys m last open_ k =
    record {
      inside = b ∷ k.inside;
      rest = k.rest;
      parts = ap (λ (l : List ℕ). b ∷ l) k.parts;
      size = ap suc k.size;
      sound = escaped_step b k.inside (c == 92) (is_quote b) (b == 92) refl refl open_ last k.sound;
    }

closed_step : (c b : ℕ) (ys front : List ℕ) (n : ℕ) (t : Bool) → ends Quoted c (b ∷ ys) ≡ t → ((f : List ℕ) (m : ℕ) → IsClosed b ys f m)
    → cond t 0 (suc (reach Quoted (b ∷ ys))) ≡ n → n + 2 ≤ suc (suc (length ys)) → front ≡ take (n + 1) (b ∷ ys) → reach Escapes (c ∷ front) ≡ suc (length front) → Closed c n (b ∷ ys)
closed_step c b ys front n true e later size room is whole = closed_now c b ys n e size
closed_step c b ys front n false e later size room is whole =
    subst (λ (k : ℕ). Closed c k (b ∷ ys)) size
    (
    let m : ℕ = reach Quoted (b ∷ ys) in
    let cut : front ≡ b ∷ take (m + 1) ys = is ∙ ap (λ (k : ℕ). take (k + 1) (b ∷ ys)) (sym size) ∙ take_first b m ys in
    let short : reach Escapes (c ∷ b ∷ take (m + 1) ys) ≡ suc (suc (length (take (m + 1) ys))) = subst (λ (f : List ℕ). reach Escapes (c ∷ f) ≡ suc (length f)) cut whole in
    let turn = no_backslash c b (take (m + 1) ys) (suc (length (take (m + 1) ys))) (ends Escapes c (b ∷ take (m + 1) ys)) refl short in
    closed_more c b ys m e turn.0 (later (take (m + 1) ys) m refl (omega (arith, size, room)) refl turn.1)
    )

pub closed : (c : ℕ) (xs front : List ℕ) (n : ℕ) → IsClosed c xs front n
closed c [] front n size room is whole = absurd (omega (arith, room))
closed c (b ∷ ys) front n size room is whole = closed_step c b ys front n (ends Quoted c (b ∷ ys)) refl (closed b ys) size room is whole

-- what stands behind a quote, up to a backslash that escapes nothing
pub record Stray (c k : ℕ) (xs : List ℕ) : Type 0 where
  pub inside : List ℕ
  pub rest : List ℕ
  pub parts : xs ≡ inside ++ 92 ∷ rest
  pub size : length inside ≡ k
  pub sound : is_escaped (c == 92) inside ≡ true
  pub alone : goes_on is_quote rest ≡ false
  pub closes : has_end 92 rest ≡ true

abbrev IsStray : ℕ → List ℕ → List ℕ → ℕ → ℕ → Type 0
IsStray c xs front n k = reach Quoted (c ∷ xs) ≡ n → n + 2 ≤ suc (length xs) → front ≡ take (n + 1) xs → reach Escapes (c ∷ front) ≡ suc k → k < length front → Stray c k xs

goes_on-take : (p : ℕ → Bool) (n : ℕ) (ys : List ℕ) → goes_on p (take (n + 1) ys) ≡ goes_on p ys
goes_on-take p n [] = let one : n + 1 ≡ suc n = omega arith in ap (λ (m : ℕ). goes_on p (take m [])) one
goes_on-take p n (b ∷ ys) = let one : n + 1 ≡ suc n = omega arith in ap (λ (m : ℕ). goes_on p (take m (b ∷ ys))) one

-- the byte before the backslash is none
before_backslash : (s q : Bool) → (s && not q) ≡ false → q ≡ false → not s ≡ true
before_backslash true true h e = absurd (true≢false e)
before_backslash true false h e = absurd (true≢false h)
before_backslash false q h e = refl

stray_now : (c b m : ℕ) (ys : List ℕ) → ends Escapes c (b ∷ take (m + 1) ys) ≡ false → ends Escapes b (take (m + 1) ys) ≡ true → has_end b ys ≡ true → Stray c 0 (b ∷ ys)
stray_now c b m ys open_ is closes =
    let parts = and_parts (b == 92) (not (goes_on is_quote (take (m + 1) ys))) is in
    let backslash : b ≡ 92 = eqb-true b 92 parts.0 in
    record {
      inside = [];
      rest = ys;
      parts = ap (λ (d : ℕ). d ∷ ys) backslash;
      size = refl;
      sound = before_backslash (c == 92) (is_quote b) open_ (ap is_quote backslash);
      alone = sym (goes_on-take is_quote m ys) ∙ not-true (goes_on is_quote (take (m + 1) ys)) parts.1;
      closes = subst (λ (d : ℕ). has_end d ys ≡ true) backslash closes;
    }

stray_more : (c b k m : ℕ) (ys : List ℕ) → ends Quoted c (b ∷ ys) ≡ false → ends Escapes c (b ∷ take (m + 1) ys) ≡ false → Stray b k ys → Stray c (suc k) (b ∷ ys)
stray_more c b k m ys last open_ s =
    record {
      inside = b ∷ s.inside;
      rest = s.rest;
      parts = ap (λ (l : List ℕ). b ∷ l) s.parts;
      size = ap suc s.size;
      sound = escaped_step b s.inside (c == 92) (is_quote b) (b == 92) refl refl open_ last s.sound;
      alone = s.alone;
      closes = s.closes;
    }

at_once : (b : ℕ) (front : List ℕ) (u : Bool) → ends Escapes b front ≡ u → cond u 0 (suc (reach Escapes front)) ≡ 0 → ends Escapes b front ≡ true
at_once b front true e h = e
at_once b front false e h = absurd (omega (arith, h))

stray_behind : (c b m k : ℕ) (ys : List ℕ) → ends Quoted c (b ∷ ys) ≡ false → ((f : List ℕ) (n j : ℕ) → IsStray b ys f n j) → reach Quoted (b ∷ ys) ≡ m → m + 2 ≤ suc (length ys)
    → ends Escapes c (b ∷ take (m + 1) ys) ≡ false → reach Escapes (b ∷ take (m + 1) ys) ≡ k → k < suc (length (take (m + 1) ys)) → Stray c k (b ∷ ys)
stray_behind c b m zero ys last later size room open_ whole few =
    stray_now c b m ys open_ (at_once b (take (m + 1) ys) (ends Escapes b (take (m + 1) ys)) refl whole) (has_end-closed b ys (omega (arith, size, room)))
stray_behind c b m (suc k) ys last later size room open_ whole few =
    stray_more c b k m ys last open_ (later (take (m + 1) ys) m k size room refl whole (omega (arith, few)))

-- a quote that closes is no backslash
not_both : (c b k : ℕ) (ys : List ℕ) → ends Quoted c (b ∷ ys) ≡ true → reach Escapes (b ∷ []) ≡ k → k < 1 → ⊥
not_both c b k ys is whole few =
    let parts = and_parts (is_quote b) (not (c == 92)) is in
    let one : reach Escapes (34 ∷ []) ≡ k = subst (λ (d : ℕ). reach Escapes (d ∷ []) ≡ k) (eqb-true b 34 parts.0) whole in
    let one_is : 1 ≡ k = one in
    absurd (omega (arith, one_is, few))

stray_step : (c b : ℕ) (ys front : List ℕ) (n k : ℕ) (t : Bool) → ends Quoted c (b ∷ ys) ≡ t → ((f : List ℕ) (m j : ℕ) → IsStray b ys f m j)
    → cond t 0 (suc (reach Quoted (b ∷ ys))) ≡ n → n + 2 ≤ suc (suc (length ys)) → front ≡ take (n + 1) (b ∷ ys) → reach Escapes (c ∷ front) ≡ suc k → k < length front → Stray c k (b ∷ ys)
stray_step c b ys front n k true e later size room is whole few =
    let cut : front ≡ b ∷ [] = is ∙ ap (λ (m : ℕ). take (m + 1) (b ∷ ys)) (sym size) in
    let short : reach Escapes (c ∷ b ∷ []) ≡ suc k = subst (λ (f : List ℕ). reach Escapes (c ∷ f) ≡ suc k) cut whole in
    let fewer : k < 1 = subst (λ (f : List ℕ). k < length f) cut few in
    let turn = no_backslash c b [] k (ends Escapes c (b ∷ [])) refl short in
    absurd (not_both c b k ys e turn.1 fewer)
stray_step c b ys front n k false e later size room is whole few =
    let m : ℕ = reach Quoted (b ∷ ys) in
    let cut : front ≡ b ∷ take (m + 1) ys = is ∙ ap (λ (j : ℕ). take (j + 1) (b ∷ ys)) (sym size) ∙ take_first b m ys in
    let short : reach Escapes (c ∷ b ∷ take (m + 1) ys) ≡ suc k = subst (λ (f : List ℕ). reach Escapes (c ∷ f) ≡ suc k) cut whole in
    let fewer : k < suc (length (take (m + 1) ys)) = subst (λ (f : List ℕ). k < length f) cut few in
    let turn = no_backslash c b (take (m + 1) ys) k (ends Escapes c (b ∷ take (m + 1) ys)) refl short in
    stray_behind c b m k ys e later refl (omega (arith, size, room)) turn.0 turn.1 fewer

pub stray : (c : ℕ) (xs front : List ℕ) (n k : ℕ) → IsStray c xs front n k
stray c [] front n k size room is whole few = absurd (omega (arith, room))
stray c (b ∷ ys) front n k size room is whole few = stray_step c b ys front n k (ends Quoted c (b ∷ ys)) refl (stray b ys) size room is whole few

-- ---- whole quoted strings

-- a quote, such bytes and a quote are a quoted string
pub is_quoted-closed : (inside : List ℕ) → is_escaped false inside ≡ true → is_quoted (34 ∷ (inside ++ 34 ∷ [])) ≡ true
is_quoted-closed inside sound =
    let text : List ℕ = 34 ∷ (inside ++ 34 ∷ []) in
    let size : length text - 2 ≡ length inside = omega (arith, length-append inside (34 ∷ [])) in
    let value : quoted_value text ≡ filter is_other inside =
    ap (λ (n : ℕ). filter is_other (take n (inside ++ 34 ∷ []))) size ∙ ap (filter is_other) (take_at inside (34 ∷ []) (length inside) refl) in
    let same : quoted_text (quoted_value text) ≡ text =
    ap quoted_text value ∙ ap (λ (l : List ℕ). 34 ∷ (l ++ 34 ∷ [])) (sym (spelt false inside sound)) in
    (bytes_eq-Decides (quoted_text (quoted_value text)) text).1 same

closes_step : (c v : ℕ) (vs rest : List ℕ) (q : Bool) → is_quote v ≡ q
    → ((d : ℕ) → (d == 92) ≡ false → reach Quoted (d ∷ (flat_map escaped vs ++ 34 ∷ rest)) ≡ length (flat_map escaped vs)) → (v == 92) ≡ false
    → reach Quoted (c ∷ ((cond q (92 ∷ 34 ∷ []) (v ∷ []) ++ flat_map escaped vs) ++ 34 ∷ rest)) ≡ length (cond q (92 ∷ 34 ∷ []) (v ∷ []) ++ flat_map escaped vs)
closes_step c v vs rest true e later other = ap (λ (n : ℕ). suc (suc n)) (later 34 refl)
closes_step c v vs rest false e later other =
    ap (λ (q : Bool). cond (q && not (c == 92)) 0 (suc (reach Quoted (v ∷ (flat_map escaped vs ++ 34 ∷ rest))))) e ∙ ap suc (later v other)

-- behind a quote the bytes of a value go up to the closing quote
closes_at : (value rest : List ℕ) → list_all is_other value ≡ true → (c : ℕ) → (c == 92) ≡ false → reach Quoted (c ∷ (flat_map escaped value ++ 34 ∷ rest)) ≡ length (flat_map escaped value)
closes_at [] rest all c other = ap (λ (s : Bool). cond (not s) 0 (suc (reach Quoted (34 ∷ rest)))) other
closes_at (v ∷ vs) rest all c other =
    let parts = and_parts (is_other v) (list_all is_other vs) all in
    closes_step c v vs rest (is_quote v) refl (closes_at vs rest parts.1) (not-true (v == 92) parts.0)

-- a quoted string ends where its closing quote is found, whatever follows
pub quoted_reach : (front rest : List ℕ) → is_quoted front ≡ true → reach Quoted (front ++ rest) + 2 ≡ length front
quoted_reach front rest is =
    let value : List ℕ = quoted_value front in
    let body : List ℕ = flat_map escaped value in
    let same : 34 ∷ (body ++ 34 ∷ []) ≡ front = (bytes_eq-Decides (quoted_text value) front).0 is in
    let shape : 34 ∷ (body ++ 34 ∷ rest) ≡ front ++ rest =
    ap (λ (l : List ℕ). 34 ∷ l) (sym (append_assoc body (34 ∷ []) rest)) ∙ ap (λ (l : List ℕ). l ++ rest) same in
    let found : reach Quoted (34 ∷ (body ++ 34 ∷ rest)) ≡ length body = closes_at value rest (all_filter (take (length front - 2) (drop 1 front))) 34 refl in
    let here : reach Quoted (front ++ rest) ≡ length body = subst (λ (l : List ℕ). reach Quoted l ≡ length body) shape found in
    let size : length (34 ∷ (body ++ 34 ∷ [])) ≡ length front = ap length same in
    omega (arith, here, size, length-append body (34 ∷ []))
