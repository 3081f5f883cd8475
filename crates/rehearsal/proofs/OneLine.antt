-- No line of a rehearsal has an LF in it.
use Rattle.std.proofs.Common.{◌≡◌, ℕ, zero, suc, ◌+◌, ◌/◌, ◌%◌, ◌==◌, Bool, true, false, not, nat_lt, List, [], ◌∷◌, All, if◌then◌else◌, decimal, refl, arith}
use Rattle.std.specs.Prelude.{replicate, codes, slice_index}
use Rattle.std.specs.List.{list_all}
use Rattle.std.proofs.lemmas.Bool.{and_parts}
use Rattle.std.proofs.lemmas.List.Elements.{All-nil, All-cons, All-append}
use Rattle.std.specs.Fmt.{digit_glyph, digits_onto, digits}
use Rattle.hex.specs.Hex.{encode_with, lower_digits}
use Rattle.line_reader.specs.Lines.{HasNoLf}
use Rattle.rehearsal.specs.Draws.{Piece, stirred, below, fixed, drawn, chosen, in_turn}
use Rattle.rehearsal.specs.Made.{kind_text, verdict_text, numbered, kind, expiry_by, expiry, requirement_by, requirement, hash_text, subject_by, subject, add_line, choice_line, begin_line, finish_line, assess_line, line_by, Course, ticked, said, step, lines_from, beginning, made}

abbrev IsNotLf : ℕ → Type 0
IsNotLf byte = byte ≡ 10 → ⊥

other : (b : ℕ) → not (b == 10) ≡ true → IsNotLf b
other b e is = cc

-- a literal is tested
by_test : (text : List ℕ) → list_all (λ b. not (b == 10)) text ≡ true → HasNoLf text
by_test [] h = All-nil IsNotLf
by_test (b ∷ text) h =
    let parts = and_parts (not (b == 10)) (list_all (λ b. not (b == 10)) text) h in
    All-cons IsNotLf b text (other b parts.0) (by_test text parts.1)

low : (d : ℕ) → IsNotLf (48 + d)
low d e = omega (arith, e)

high : (d : ℕ) → IsNotLf (87 + d)
high d e = omega (arith, e)

glyph : (d : ℕ) → IsNotLf (digit_glyph false d)
glyph d = by_case (nat_lt d 10)
  where
    by_case : (c : Bool) → IsNotLf (if c then 48 + d else 87 + d)
    by_case true = low d
    by_case false = high d

one_more : (n : ℕ) (rest : List ℕ) → HasNoLf rest → HasNoLf (digit_glyph false (n % 10) ∷ rest)
one_more n rest h = All-cons IsNotLf (digit_glyph false (n % 10)) rest (glyph (n % 10)) h

either : (c : Bool) (a b : List ℕ) → HasNoLf a → HasNoLf b → HasNoLf (if c then a else b)
either true a b h k = h
either false a b h k = k

digits_too : (k n : ℕ) (rest : List ℕ) → HasNoLf rest → HasNoLf (digits_onto k 10 false n rest)
digits_too zero n rest h = h
digits_too (suc k) n rest h =
    either (n / 10 == 0) (digit_glyph false (n % 10) ∷ rest) (digits_onto k 10 false (n / 10) (digit_glyph false (n % 10) ∷ rest))
    (one_more n rest h) (digits_too k (n / 10) (digit_glyph false (n % 10) ∷ rest) (one_more n rest h))

pub in_decimal : (n : ℕ) → HasNoLf (decimal n)
unfolding digits
in_decimal n = digits_too 64 n [] (All-nil IsNotLf)

in_numbered : (front : List ℕ) (n : ℕ) → HasNoLf front → HasNoLf (numbered front n)
in_numbered front n h = All-append IsNotLf front (decimal n) h (in_decimal n)

at_place : (table : List ℕ) (i : ℕ) → list_all (λ b. not (b == 10)) table ≡ true → IsNotLf (slice_index table i)
at_place [] i h e = omega (arith, e)
at_place (b ∷ table) zero h e = other b (and_parts (not (b == 10)) (list_all (λ b. not (b == 10)) table) h).0 e
at_place (b ∷ table) (suc i) h e = at_place table i (and_parts (not (b == 10)) (list_all (λ b. not (b == 10)) table) h).1 e

in_hex : (bytes : List ℕ) → HasNoLf (encode_with lower_digits bytes)
unfolding encode_with
in_hex [] = All-nil IsNotLf
in_hex (b ∷ rest) =
    All-cons IsNotLf (slice_index lower_digits (b / 16)) (slice_index lower_digits (b % 16) ∷ encode_with lower_digits rest) (at_place lower_digits (b / 16) refl)
    (All-cons IsNotLf (slice_index lower_digits (b % 16)) (encode_with lower_digits rest) (at_place lower_digits (b % 16) refl) (in_hex rest))

-- whatever is drawn, the piece has no LF
abbrev IsOneLine : Piece → Type 0
IsOneLine p = (x : ℕ) → HasNoLf (p x).0

of_fixed : (text : List ℕ) → HasNoLf text → IsOneLine (fixed text)
of_fixed text h x = h

of_drawn : (k : ℕ) (text : ℕ → List ℕ) → ((d : ℕ) → HasNoLf (text d)) → IsOneLine (drawn k text)
of_drawn k text h x = h (below k (stirred x))

of_chosen : (k : ℕ) (piece : ℕ → Piece) → ((d : ℕ) → IsOneLine (piece d)) → IsOneLine (chosen k piece)
of_chosen k piece h x = h (below k (stirred x)) (stirred x)

-- each of these pieces
abbrev Each : List Piece → Type 0
Each [] = Unit {0}
Each (p ∷ ps) = IsOneLine p × Each ps

in_a_row : (ps : List Piece) → Each ps → IsOneLine (in_turn ps)
in_a_row [] h x = All-nil IsNotLf
in_a_row (p ∷ ps) h x = All-append IsNotLf (p x).0 (in_turn ps (p x).1).0 (h.0 x) (in_a_row ps h.1 (p x).1)

one_of : (c : Bool) (p q : Piece) → IsOneLine p → IsOneLine q → IsOneLine (if c then p else q)
one_of true p q h k = h
one_of false p q h k = k

in_kind : IsOneLine kind
in_kind = of_drawn 3 kind_text (λ d. either (d == 0) (codes " execute") (if d == 1 then codes " install" else codes " open") (by_test (codes " execute") refl)
    (either (d == 1) (codes " install") (codes " open") (by_test (codes " install") refl) (by_test (codes " open") refl)))

in_verdict : IsOneLine (drawn 2 verdict_text)
in_verdict = of_drawn 2 verdict_text (λ d. either (d == 0) (codes " allow") (codes " deny") (by_test (codes " allow") refl) (by_test (codes " deny") refl))

-- a number that is drawn behind a text
drawn_behind : (k : ℕ) (front : List ℕ) → list_all (λ b. not (b == 10)) front ≡ true → IsOneLine (drawn k (numbered front))
drawn_behind k front h = of_drawn k (numbered front) (λ d. in_numbered front d (by_test front h))

fixed_text : (text : List ℕ) → list_all (λ b. not (b == 10)) text ≡ true → IsOneLine (fixed text)
fixed_text text h = of_fixed text (by_test text h)

in_expiry : (now : ℕ) → IsOneLine (expiry now)
in_expiry now = of_chosen 4 (expiry_by now) (λ d. one_of (d == 0) (drawn 1000 (λ more. numbered (codes " ") (now + more))) (fixed (codes " never"))
    (of_drawn 1000 (λ more. numbered (codes " ") (now + more)) (λ more. in_numbered (codes " ") (now + more) (by_test (codes " ") refl)))
    (fixed_text (codes " never") refl))

by_draw : (d : ℕ) → IsOneLine (requirement_by d)
by_draw d =
    one_of (d == 0) (fixed (codes " always")) _ (fixed_text (codes " always") refl)
    (one_of (d == 1) (drawn 4 (numbered (codes " platform = "))) _ (drawn_behind 4 (codes " platform = ") refl)
    (one_of (d == 2) (drawn 50 (numbered (codes " identifier a"))) _ (drawn_behind 50 (codes " identifier a") refl)
    (one_of (d == 3) (fixed (codes " notarized")) (fixed (codes " never")) (fixed_text (codes " notarized") refl) (fixed_text (codes " never") refl))))

in_requirement : IsOneLine requirement
in_requirement = of_chosen 5 requirement_by by_draw

in_subject : IsOneLine subject
in_subject = of_chosen 50 subject_by (λ d.
    in_a_row (fixed (codes " ") ∷ fixed (hash_text d) ∷ fixed (numbered (codes " a") d) ∷ drawn 4 (numbered (codes " ")) ∷ [])
    (fixed_text (codes " ") refl, (of_fixed (hash_text d) (in_hex (replicate 20 d)), (of_fixed (numbered (codes " a") d) (in_numbered (codes " a") d (by_test (codes " a") refl)), (drawn_behind 4 (codes " ") refl, tt)))))

in_add : (i now : ℕ) → IsOneLine (add_line i now)
in_add i now =
    let front : IsOneLine (fixed (numbered (codes "add k") i)) = of_fixed (numbered (codes "add k") i) (in_numbered (codes "add k") i (by_test (codes "add k") refl)) in
    in_a_row (fixed (numbered (codes "add k") i) ∷ kind ∷ drawn 2 verdict_text ∷ drawn 100 (numbered (codes " ")) ∷ expiry now ∷ drawn 8 (numbered (codes " L")) ∷ fixed (codes " -") ∷ requirement ∷ [])
    (front, (in_kind, (in_verdict, (drawn_behind 100 (codes " ") refl, (in_expiry now, (drawn_behind 8 (codes " L") refl, (fixed_text (codes " -") refl, (in_requirement, tt))))))))

in_choice : (front : List ℕ) (i : ℕ) → list_all (λ b. not (b == 10)) front ≡ true → IsOneLine (choice_line front i)
in_choice front i h =
    let id : IsOneLine (drawn i (λ d. numbered (codes " id ") (d + 1))) = of_drawn i (λ d. numbered (codes " id ") (d + 1)) (λ d. in_numbered (codes " id ") (d + 1) (by_test (codes " id ") refl)) in
    in_a_row (fixed (numbered front i) ∷ drawn i (λ d. numbered (codes " id ") (d + 1)) ∷ fixed (codes " any") ∷ [])
    (of_fixed (numbered front i) (in_numbered front i (by_test front h)), (id, (fixed_text (codes " any") refl, tt)))

in_begin : IsOneLine begin_line
in_begin =
    in_a_row (drawn 50 (λ d. numbered (codes "begin ") (d + 1)) ∷ kind ∷ subject ∷ [])
    (of_drawn 50 (λ d. numbered (codes "begin ") (d + 1)) (λ d. in_numbered (codes "begin ") (d + 1) (by_test (codes "begin ") refl)), (in_kind, (in_subject, tt)))

in_finish : IsOneLine finish_line
in_finish = of_drawn 50 (λ d. numbered (codes "finish ") (d + 1)) (λ d. in_numbered (codes "finish ") (d + 1) (by_test (codes "finish ") refl))

in_assess : IsOneLine assess_line
in_assess = in_a_row (fixed (codes "assess") ∷ kind ∷ subject ∷ []) (fixed_text (codes "assess") refl, (in_kind, (in_subject, tt)))

in_line : (i now d : ℕ) → IsOneLine (line_by i now d)
in_line i now d =
    one_of (d == 0) (add_line i now) _ (in_add i now)
    (one_of (d == 1) (choice_line (codes "disable k") i) _ (in_choice (codes "disable k") i refl)
    (one_of (d == 2) (choice_line (codes "enable k") i) _ (in_choice (codes "enable k") i refl)
    (one_of (d == 4) begin_line _ in_begin
    (one_of (d == 5) begin_line _ in_begin
    (one_of (d == 6) finish_line _ in_finish
    (one_of (d == 7) finish_line assess_line in_finish in_assess))))))

in_step : (i : ℕ) (c : Course) → HasNoLf (step i c).0
in_step i c = by_case (below 10 (stirred c.state) == 3)
  where
    by_case : (tick : Bool) → HasNoLf (if tick then ticked c.now (stirred c.state) else said c.now (line_by i c.now (below 10 (stirred c.state)) (stirred c.state))).0
    by_case true = in_numbered (codes "tick ") (c.now + below 30 (stirred (stirred c.state))) (by_test (codes "tick ") refl)
    by_case false = in_line i c.now (below 10 (stirred c.state)) (stirred c.state)

each_line : (n i : ℕ) (c : Course) → All HasNoLf (lines_from n i c)
each_line zero i c = All-nil HasNoLf
each_line (suc n) i c = All-cons HasNoLf (step i c).0 (lines_from n (i + 1) (step i c).1) (in_step i c) (each_line n (i + 1) (step i c).1)

pub made_of_lines : (n : ℕ) → All HasNoLf (made n)
made_of_lines n = each_line n 1 (beginning n)
