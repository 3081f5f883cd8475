-- The lines of a head, and where the scan of lines comes to in them.
use Rattle.std.proofs.Common.{◌≡◌, ℕ, zero, suc, ◌<◌, ◌≤◌, Bool, true, false, ◌==◌, List, [], ◌∷◌, ◌++◌, length, All, refl, sym, ap, ◌∙◌, subst, arith, append_assoc, Option, Some, IsTrue, not}
use Rattle.std.specs.List.{flat_map}
use Rattle.std.proofs.lemmas.List.Elements.{All-head, All-tail}
use Rattle.std.proofs.lemmas.Bool.{false≢true, ne_eqb}
use Rattle.httparse.specs.Grammar.{is_token_byte, is_uri_byte, is_value_byte, AllPass, IsToken, LineEnd, crlf, lf, print_end, print_blank, print_version, Field, print_field, IsField, RequestHead, IsRequestHead, print_section, print_request}
use Rattle.httparse.proofs.PieceLemmas.{Stops_token, print_field-append}
use Rattle.httparse.proofs.GrammarLemmas.{print_request-append}
use Rattle.http_model.specs.Heads.{after_line, after_request_line, is_end_byte, begins_field, has_begun}

-- so many lines on, a line has begun
abbrev pub HasBegun : ℕ → Option (List ℕ) → Type 0
HasBegun n lines = IsTrue (has_begun n lines)

-- the bytes begin with neither CR nor LF
abbrev pub BeginsField : List ℕ → Type 0
BeginsField bytes = IsTrue (begins_field bytes)

-- bytes of a class without LF are passed over
pub after_pass : (test : ℕ → Bool) → test 10 ≡ false → (xs ys : List ℕ) → AllPass test xs → after_line (xs ++ ys) ≡ after_line ys
after_pass test lfless [] ys all = refl
after_pass test lfless (x ∷ xs) ys all =
    let pass : test x ≡ true = All-head (λ v. test v ≡ true) x xs all in
    let apart : (x == 10) ≡ false = ne_eqb x 10 (λ e. false≢true (sym lfless ∙ ap test (sym e) ∙ pass)) in
    rw apart (after_pass test lfless xs ys (All-tail (λ v. test v ≡ true) x xs all))

-- a line end ends the line
pub after_end : (end : LineEnd) (ys : List ℕ) → after_line (print_end end ++ ys) ≡ Some ys
after_end crlf ys = refl
after_end lf ys = refl

-- empty lines in front belong to no request line
pub after_blank : (ends : List LineEnd) (ys : List ℕ) → after_request_line (print_blank ends ++ ys) ≡ after_request_line ys
after_blank [] ys = refl
after_blank (crlf ∷ ends) ys = after_blank ends ys
after_blank (lf ∷ ends) ys = after_blank ends ys

-- the version has no LF
after_version : (minor : ℕ) (ys : List ℕ) → minor ≤ 1 → after_line (print_version minor ++ ys) ≡ after_line ys
after_version zero ys h = refl
after_version (suc zero) ys h = refl
after_version (suc (suc n)) ys h = absurd (omega arith)

token_no_lf : is_token_byte 10 ≡ false
unfolding is_token_byte
token_no_lf = refl

-- the line of a method's first byte is the request line
pub after_token : (word ys : List ℕ) → IsToken word → after_request_line (word ++ ys) ≡ after_line ys
after_token [] ys token = absurd (omega arith)
after_token (b ∷ word) ys token =
    let begins : is_end_byte b ≡ false = Stops_token (b ∷ word) [] token.0 token.1 in
    rw begins (after_pass is_token_byte token_no_lf word ys (All-tail (λ v. is_token_byte v ≡ true) b word token.1))

-- what a head has in front of its fields
abbrev pub start_of : RequestHead → List ℕ
start_of h = print_blank h.blank ++ (h.method ++ 32 ∷ (h.target ++ 32 ∷ (print_version h.minor ++ print_end h.line_end)))

-- the fields follow the request line
pub after_start : (h : RequestHead) (ys : List ℕ) → IsRequestHead h → after_request_line (start_of h ++ ys) ≡ Some ys
after_start h ys is =
    let version = print_version h.minor ++ print_end h.line_end in
    ap after_request_line (append_assoc (print_blank h.blank) _ ys) ∙ after_blank h.blank _
    ∙ ap after_request_line (append_assoc h.method _ ys) ∙ after_token h.method _ is.method
    ∙ ap after_line (append_assoc h.target _ ys) ∙ after_pass is_uri_byte refl h.target _ is.target.1
    ∙ ap after_line (append_assoc (print_version h.minor) _ ys) ∙ after_version h.minor _ is.minor
    ∙ after_end h.line_end ys

-- a head is its start and then its fields
pub start_and_fields : (h : RequestHead) (rest : List ℕ) → print_request h ++ rest ≡ start_of h ++ (print_section h.fields h.last ++ rest)
start_and_fields h rest =
    let behind = print_section h.fields h.last ++ rest in
    print_request-append h rest ∙ sym (regroup (print_blank h.blank) h.method h.target (print_version h.minor) (print_end h.line_end) behind)
  where
    regroup : (a b c d e r : List ℕ) → (a ++ (b ++ 32 ∷ (c ++ 32 ∷ (d ++ e)))) ++ r ≡ a ++ (b ++ 32 ∷ (c ++ 32 ∷ (d ++ (e ++ r))))
    regroup a b c d e r = simp (append_assoc)

-- a field line ends with its LF
after_field : (f : Field) (ys : List ℕ) → IsField f → after_line (print_field f ++ ys) ≡ Some ys
after_field f ys is =
    ap after_line (print_field-append f ys) ∙ after_pass is_token_byte token_no_lf f.name _ is.name.1
    ∙ after_pass is_value_byte refl f.raw _ is.raw
    ∙ after_end f.end ys

-- the first field line of a section, and what follows it
section_cons : (f : Field) (fields : List Field) (last : LineEnd) → print_section (f ∷ fields) last ≡ print_field f ++ print_section fields last
section_cons f fields last = append_assoc (print_field f) (flat_map print_field fields) (print_end last)

-- a section of few fields begins no field too many
pub few_begin : (n : ℕ) (fields : List Field) (last : LineEnd) → All IsField fields → length fields ≤ n → HasBegun n (Some (print_section fields last)) → ⊥
few_begin zero [] crlf all few begun = false≢true begun
few_begin zero [] lf all few begun = false≢true begun
few_begin zero (f ∷ fields) last all few begun = absurd (omega arith)
few_begin (suc zero) [] crlf all few begun = false≢true begun
few_begin (suc zero) [] lf all few begun = false≢true begun
few_begin (suc (suc n)) [] crlf all few begun = false≢true begun
few_begin (suc (suc n)) [] lf all few begun = false≢true begun
few_begin (suc n) (f ∷ fields) last all few begun =
    let after : after_line (print_section (f ∷ fields) last) ≡ Some (print_section fields last) =
    ap after_line (section_cons f fields last) ∙ after_field f _ (All-head IsField f fields all) in
    few_begin n fields last (All-tail IsField f fields all) (omega arith) (subst (HasBegun n) after begun)

-- a field line begins with neither CR nor LF
field_begins : (f : Field) (ys : List ℕ) → IsField f → BeginsField (print_field f ++ ys)
field_begins f ys is = subst BeginsField (sym (print_field-append f ys)) (token_begins f.name _ is.name)
  where
    token_begins : (word more : List ℕ) → IsToken word → BeginsField (word ++ more)
    token_begins [] more token = absurd (omega arith)
    token_begins (b ∷ word) more token = ap not (Stops_token (b ∷ word) [] token.0 token.1)

-- more fields than so many begin one too many, whatever follows them
pub many_begin : (n : ℕ) (fields : List Field) (ys : List ℕ) → All IsField fields → n < length fields → HasBegun n (Some (flat_map print_field fields ++ ys))
many_begin n [] ys all many = absurd (omega arith)
many_begin zero (f ∷ fields) ys all many =
    subst BeginsField (sym (append_assoc (print_field f) (flat_map print_field fields) ys)) (field_begins f _ (All-head IsField f fields all))
many_begin (suc n) (f ∷ fields) ys all many =
    let after : after_line (flat_map print_field (f ∷ fields) ++ ys) ≡ Some (flat_map print_field fields ++ ys) =
    ap after_line (append_assoc (print_field f) (flat_map print_field fields) ys) ∙ after_field f _ (All-head IsField f fields all) in
    subst (HasBegun n) (sym after) (many_begin n fields ys (All-tail IsField f fields all) (omega arith))
