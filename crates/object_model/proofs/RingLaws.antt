-- Counts and a ring tell whether an outcome has moved.
use Rattle.std.proofs.Common.{◌≡◌, ℕ, zero, suc, ◌+◌, ◌-◌, ◌≤◌, List, [], ◌∷◌, ◌++◌, length, take, drop, reverse, refl, sym, ap, ◌∙◌, arith, Option, Some, None}
use Rattle.std.specs.Prelude.{Bool, true, false, cond, not, ◌&&◌, ◌||◌, nat_lt, is_some}
use Rattle.std.specs.List.{filter, list_any, cons_option}
use Rattle.std.proofs.Math.Seq.{take-append_seam}
use Rattle.std.proofs.lemmas.List.{reverse-append, length-reverse, length-append}
use Rattle.std.proofs.lemmas.List.Folds.{list_any-append}
use Rattle.std.proofs.lemmas.Bool.{ltb-false, false≢true, lt-ltb}
use Rattle.std.proofs.lemmas.List.Elements.{filter_map-append}
use Rattle.policy_model.specs.Rules.{Row, Rank, Kind, is_before}
use Rattle.policy_model.specs.Outcomes.{Outcome, governed, default}
use Rattle.policy_model.specs.History.{Event, Entry, Opening}
use Rattle.object_model.specs.Objects.{rests_on, is_governed, is_moved, touches}
use Rattle.object_model.specs.Past.{touched_after, touched_since, mark_of}
use Rattle.object_model.specs.Purges.{first_touched, reaches}
use Rattle.object_model.specs.Rings.{firsts, firsts_of, ring_of, moved_by}
use Rattle.object_model.specs.DropLaws.{MovedByRing}
use Rattle.object_model.proofs.PastLaws.{cut}
use Rattle.object_model.proofs.CountLaws.{touched_joined, mark_cut}
use Rattle.object_model.proofs.PurgeLaws.{is_reached, reached_is, counts_purges}

-- Moved by the first ranks of all later events
abbrev moved_late : ℕ → Outcome → List Rank → Bool
moved_late most (governed rank allow label inhibit until) late = list_any (λ f. not (is_before rank f)) late || nat_lt most (length late)
moved_late most (default latent label until) late = nat_lt 0 (length late)

or_false : (b : Bool) → (b || false) ≡ b
or_false true = refl
or_false false = refl

count_cons : (f : Option Rank) (xs : List Rank) (t : List Row) (ys : List (List Row)) (b : Bool) → is_some f ≡ b → length xs ≡ length ys → length (cons_option f xs) ≡ length (cond b (t ∷ ys) ys)
count_cons None xs t ys true e h = absurd (false≢true e)
count_cons None xs t ys false e h = h
count_cons (Some f) xs t ys true e h = ap (λ n. suc n) h
count_cons (Some f) xs t ys false e h = absurd (false≢true (sym e))

-- one first rank for each edit that touched the kind
pub firsts_counted : (kind : Kind) (late : List (List Row)) → length (firsts kind late) ≡ length (filter (touches kind) late)
firsts_counted kind [] = refl
firsts_counted kind (t ∷ late) = count_cons (first_touched kind t) (firsts kind late) t (filter (touches kind) late) (touches kind t) (counts_purges kind t) (firsts_counted kind late)

any_cons : (o : Outcome) (f : Option Rank) (fs : List Rank) → list_any (λ x. reaches o x) (cons_option f fs) ≡ (is_reached o f || list_any (λ x. reaches o x) fs)
any_cons o None fs = refl
any_cons o (Some f) fs = refl

pub any_reached : (o : Outcome) (kind : Kind) (late : List (List Row)) → list_any (λ f. reaches o f) (firsts kind late) ≡ list_any (list_any (rests_on kind o)) late
any_reached o kind [] = refl
any_reached o kind (t ∷ late) = any_cons o (first_touched kind t) (firsts kind late) ∙ ap (λ b. b || list_any (λ f. reaches o f) (firsts kind late)) (reached_is o kind t) ∙ ap (λ b. list_any (rests_on kind o) t || b) (any_reached o kind late)

some_late : (latent : Option ℕ) (label : List ℕ) (until : ℕ) (fs : List Rank) → nat_lt 0 (length fs) ≡ list_any (λ f. reaches (default latent label until) f) fs
some_late latent label until [] = refl
some_late latent label until (f ∷ fs) = lt-ltb 0 (length (f ∷ fs)) (omega arith)

moved_cases : (most : ℕ) (kind : Kind) (o : Outcome) (late : List (List Row)) → moved_late most o (firsts kind late) ≡ (list_any (list_any (rests_on kind o)) late || (is_governed o && nat_lt most (length (filter (touches kind) late))))
moved_cases most kind (governed rank allow label inhibit until) late = ap (λ n. list_any (λ f. not (is_before rank f)) (firsts kind late) || nat_lt most n) (firsts_counted kind late) ∙ ap (λ b. b || nat_lt most (length (filter (touches kind) late))) (any_reached (governed rank allow label inhibit until) kind late)
moved_cases most kind (default latent label until) late = some_late latent label until (firsts kind late) ∙ any_reached (default latent label until) kind late ∙ sym (or_false (list_any (list_any (rests_on kind (default latent label until))) late))

-- Moved by first ranks is Moved
pub moved_is : (most : ℕ) (e : Entry) (late : List (List Row)) → moved_late most e.outcome (firsts e.kind late) ≡ is_moved most late e
moved_is most e late = moved_cases most e.kind e.outcome late

-- the first ranks up to place k, and those since
pub firsts_cut : (o : Opening) (h : List Event) (k : ℕ) (kind : Kind) → firsts_of o h kind ≡ firsts_of o (take k h) kind ++ firsts kind (touched_since o h k)
firsts_cut o h k kind =
    ap (λ x. firsts_of o x kind) (sym (cut k h))
    ∙ ap (firsts kind) (touched_joined (take k h) (drop k h) o.tables)
    ∙ filter_map-append (first_touched kind) (touched_after (take k h) o.tables) (touched_since o h k)

pub take_again : (m n : ℕ) (xs : List Rank) → m ≤ n → take m (take n xs) ≡ take m xs
take_again zero n xs le = refl
take_again (suc m) zero xs le = absurd (omega (arith, le))
take_again (suc m) (suc n) [] le = refl
take_again (suc m) (suc n) (x ∷ xs) le = let less : m ≤ n = omega (arith, le) in ap (λ r. x ∷ r) (take_again m n xs less)

swap_or : (a b : Bool) → (a || b) ≡ (b || a)
swap_or true true = refl
swap_or true false = refl
swap_or false true = refl
swap_or false false = refl

any_reversed : (p : Rank → Bool) (xs : List Rank) → list_any p (reverse xs) ≡ list_any p xs
any_reversed p [] = refl
any_reversed p (x ∷ xs) = ap (list_any p) (reverse-append (x ∷ []) xs) ∙ list_any-append p (reverse xs) (x ∷ []) ∙ swap_or (list_any p (reverse xs)) (p x || false) ∙ ap (λ b. b || list_any p (reverse xs)) (or_false (p x)) ∙ ap (λ b. p x || b) (any_reversed p xs)

-- the newest first ranks, as many as there were since, are those since
newest : (before late : List Rank) (most : ℕ) → length late ≤ most → take (length late) (take most (reverse (before ++ late))) ≡ reverse late
newest before late most le =
    take_again (length late) most (reverse (before ++ late)) le
    ∙ ap (take (length late)) (reverse-append before late)
    ∙ ap (λ n. take n (reverse late ++ reverse before)) (sym (length-reverse late))
    ∙ take-append_seam (reverse late) (reverse before)

both_true : (a b : Bool) → a ≡ true → (a || b) ≡ true
both_true a b h = ap (λ x. x || b) h

ring_governed : (most : ℕ) (rank : Rank) (allow : Bool) (label : List ℕ) (inhibit : Bool) (until : Option ℕ) (before late : List Rank) (c : Bool) → nat_lt most (length late) ≡ c
    → moved_by most (governed rank allow label inhibit until) (length late) (take most (reverse (before ++ late))) ≡ moved_late most (governed rank allow label inhibit until) late
ring_governed most rank allow label inhibit until before late true e = grind (arith, e, swap_or)
ring_governed most rank allow label inhibit until before late false e =
    let p : Rank → Bool = λ f. not (is_before rank f) in
    ap (λ b. b || list_any p (take (length late) (take most (reverse (before ++ late))))) e
    ∙ ap (list_any p) (newest before late most (ltb-false most (length late) e))
    ∙ any_reversed p late
    ∙ sym (or_false (list_any p late))
    ∙ ap (λ b. list_any p late || b) (sym e)

ring_moved : (most : ℕ) (o : Outcome) (before late : List Rank) → moved_by most o (length late) (take most (reverse (before ++ late))) ≡ moved_late most o late
ring_moved most (governed rank allow label inhibit until) before late = ring_governed most rank allow label inhibit until before late (nat_lt most (length late)) refl
ring_moved most (default latent label until) before late = refl

count_since : (before late all : List Rank) → all ≡ before ++ late → length all - length before ≡ length late
count_since before late all e = let l : length all ≡ length before + length late = ap length e ∙ length-append before late in omega (arith, l)

-- Moved by the marks and the ring is Moved by the history
counts_since : (o : Opening) (h : List Event) (k : ℕ) (kind : Kind) → mark_of o h kind - mark_of o (take k h) kind ≡ length (firsts kind (touched_since o h k))
counts_since o h k kind = omega (arith, mark_cut o h k kind, firsts_counted kind (touched_since o h k))

pub moved_by_ring : MovedByRing
moved_by_ring most op h k e =
    let late : List Rank = firsts e.kind (touched_since op h k) in
    let before : List Rank = firsts_of op (take k h) e.kind in
    ap (λ n. moved_by most e.outcome n (ring_of most op h e.kind)) (counts_since op h k e.kind)
    ∙ ap (λ x. moved_by most e.outcome (length late) (take most (reverse x))) (firsts_cut op h k e.kind)
    ∙ ring_moved most e.outcome before late
    ∙ moved_is most e (touched_since op h k)
