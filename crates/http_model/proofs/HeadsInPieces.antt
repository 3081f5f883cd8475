-- Heads on a stream that comes in pieces.
use Rattle.std.proofs.Common.{◌≡◌, ℕ, zero, suc, ◌<◌, ◌⊎◌, inl, inr, Bool, true, false, ◌==◌, List, [], ◌∷◌, ◌++◌, length, refl, sym, ap, ◌∙◌, subst, arith, append_assoc, append-nil, length-append, Option, Some, None, if◌then◌else◌, IsSome}
use Rattle.std.specs.Prelude.{⊤}
use Rattle.std.specs.List.{flat_map}
use Rattle.std.proofs.lemmas.List.{append_cancel_right}
use Rattle.httparse.specs.Spans.{RequestExceeds}
use Rattle.httparse.specs.Grammar.{RequestHead, ReadsRequest, NeverHasRequest, MayBecomeRequest, EndsInTarget, LineEnd, crlf, lf, print_end, print_blank, print_field, print_request, print_section, is_uri_byte}
use Rattle.httparse.proofs.GrammarLemmas.{request_unique, ReadsRequest-append}
use Rattle.http_model.specs.Heads.{HasHead, HasNoHead, IsBadHead, IsOpenHead, HasFieldTooMany, after_line, after_request_line, is_end_byte}
use Rattle.http_model.specs.Laws.{HasOneHead, HeadsStay, BadHeadsStay, AreLookedFor}
use Rattle.http_model.specs.declared.limits.TheConstants.{HEAD_LIMIT, FIELD_LIMIT}
use Rattle.http_model.proofs.HeadLines.{start_of, start_and_fields, after_start, after_blank, after_token, after_pass, few_begin, many_begin, HasBegun, BeginsField}

pub one_head : HasOneHead
one_head bytes h k rest more x y = request_unique bytes h k rest more x.reads y.reads

pub heads_stay : HeadsStay
heads_stay bytes more h rest x = record { reads = ReadsRequest-append bytes h rest more x.reads; size = x.size; fields = x.fields }

-- ---- what follows a line, as more bytes come

-- what there was is there, and then the new bytes
abbrev pub IsGrown : List ℕ → Option (List ℕ) → Option (List ℕ) → Type 0
IsGrown ys None new = ⊤
IsGrown ys (Some xs) new = new ≡ Some (xs ++ ys)

grown_if : (ys : List ℕ) (test : Bool) (a b c d : Option (List ℕ)) → IsGrown ys a b → IsGrown ys c d → IsGrown ys (if test then a else c) (if test then b else d)
grown_if ys true a b c d h k = h
grown_if ys false a b c d h k = k

pub line_grown : (xs ys : List ℕ) → IsGrown ys (after_line xs) (after_line (xs ++ ys))
line_grown [] ys = tt
line_grown (x ∷ xs) ys = grown_if ys (x == 10) (Some xs) (Some (xs ++ ys)) (after_line xs) (after_line (xs ++ ys)) refl (line_grown xs ys)

pub request_line_grown : (xs ys : List ℕ) → IsGrown ys (after_request_line xs) (after_request_line (xs ++ ys))
request_line_grown [] ys = tt
request_line_grown (x ∷ xs) ys =
    grown_if ys (is_end_byte x) (after_request_line xs) (after_request_line (xs ++ ys)) (after_line xs) (after_line (xs ++ ys)) (request_line_grown xs ys) (line_grown xs ys)

field_grown : (xs ys : List ℕ) → BeginsField xs → BeginsField (xs ++ ys)
field_grown [] ys h = cc
field_grown (x ∷ xs) ys h = h

pub begun_grown : (n : ℕ) (ys : List ℕ) (old new : Option (List ℕ)) → IsGrown ys old new → HasBegun n old → HasBegun n new
begun_grown zero ys None new grown begun = cc
begun_grown (suc n) ys None new grown begun = cc
begun_grown zero ys (Some xs) new grown begun = subst (HasBegun zero) (sym grown) (field_grown xs ys begun)
begun_grown (suc n) ys (Some xs) new grown begun =
    subst (HasBegun (suc n)) (sym grown) (begun_grown n ys (after_line xs) (after_line (xs ++ ys)) (line_grown xs ys) begun)

some_grown : (ys : List ℕ) (old new : Option (List ℕ)) → IsGrown ys old new → IsSome old → IsSome new
some_grown ys None new grown some = cc
some_grown ys (Some xs) new grown some = subst IsSome (sym grown) some

-- ---- bad heads

-- of two fronts of one list one is a front of the other
pub two_fronts : (a b c d : List ℕ) → a ++ b ≡ c ++ d → ((m : List ℕ) × (c ≡ a ++ m)) ⊎ ((m : List ℕ) × (a ≡ c ++ m) × (0 < length m))
two_fronts [] b c d e = inl (c, refl)
two_fronts (x ∷ a) b [] d e = inr (x ∷ a, refl, omega arith)
two_fronts (x ∷ a) b (y ∷ c) d e =
    let same : x ≡ y = cc in
    let tails : a ++ b ≡ c ++ d = cc in
    elim (two_fronts a b c d tails) [
      | inl f ↦ inl (f.0, cc)
      | inr f ↦ inr (f.0, cc, f.2)
    ]

-- a head of no more fields than it may have begins none too many
pub no_field_too_many : (h : RequestHead) (bytes m rest : List ℕ) → HasHead (bytes ++ m) h [] → print_request h ≡ bytes ++ m → HasFieldTooMany bytes → ⊥
no_field_too_many h bytes m rest x is begun =
    let whole : HasBegun FIELD_LIMIT (after_request_line (bytes ++ m)) = begun_grown FIELD_LIMIT m _ _ (request_line_grown bytes m) begun in
    let fields : after_request_line (bytes ++ m) ≡ Some (print_section h.fields h.last) =
    ap after_request_line (sym is ∙ sym (append-nil (print_request h)) ∙ start_and_fields h []) ∙ after_start h _ x.reads.0 ∙ ap Some (append-nil _) in
    few_begin FIELD_LIMIT h.fields h.last x.reads.0.fields x.fields (subst (HasBegun FIELD_LIMIT) fields whole)

never_grown : (bytes more : List ℕ) → NeverHasRequest bytes → NeverHasRequest (bytes ++ more)
never_grown bytes more never next h rest x = never (more ++ next) h rest (subst (λ b. ReadsRequest b h rest) (append_assoc bytes more next) x)

-- a head that more bytes would complete
longer : (bytes more : List ℕ) → IsBadHead bytes → (h : RequestHead) (rest m : List ℕ) → HasHead (bytes ++ more) h rest → print_request h ≡ bytes ++ m → 0 < length m → ⊥
longer bytes more bad h rest m x is some = elim bad.why [
  | inl hopeless ↦ hopeless.1 more h rest x.reads
  | inr why ↦ elim why [
    | inl begun ↦ no_field_too_many h bytes m rest (record { reads = (x.reads.0, sym is ∙ sym (append-nil _)); size = x.size; fields = x.fields }) is begun
    | inr size ↦ absurd (grind (arith, x.size, size, some, ap length is, length-append bytes m))
  ]
]

still_none : (bytes more : List ℕ) → IsBadHead bytes → HasNoHead (bytes ++ more)
still_none bytes more bad h rest x = elim (two_fronts (print_request h) rest bytes more (sym x.reads.1)) [
  | inl f ↦ bad.none h f.0 (record { reads = (x.reads.0, f.1); size = x.size; fields = x.fields })
  | inr f ↦ longer bytes more bad h rest f.0 x f.1 f.2
]

pub bad_heads_stay : BadHeadsStay
bad_heads_stay bytes more bad = record {
  none = still_none bytes more bad;
  why = elim bad.why [
    | inl hopeless ↦ inl (some_grown more _ _ (request_line_grown bytes more) hopeless.0, never_grown bytes more hopeless.1)
    | inr why ↦ elim why [
      | inl begun ↦ inr (inl (begun_grown FIELD_LIMIT more _ _ (request_line_grown bytes more) begun))
      | inr size ↦ inr (inr (grind (arith, size, length-append bytes more)))
    ]
  ];
}

-- ---- a head that isn't there

-- a head's request line has its LF
pub without_lf : (bytes : List ℕ) → after_request_line bytes ≡ None → HasNoHead bytes
without_lf bytes none h rest x =
    let some : after_request_line bytes ≡ Some (print_section h.fields h.last ++ rest) =
    ap after_request_line (x.reads.1 ∙ start_and_fields h rest) ∙ after_start h _ x.reads.0 in
    cc

-- bytes that end inside a target have no request line with its LF
pub in_target : (bytes : List ℕ) → EndsInTarget bytes → after_request_line bytes ≡ None
in_target bytes x =
    ap after_request_line (x.5 ∙ append_assoc (print_blank x.0) x.1 (32 ∷ x.2)) ∙ after_blank x.0 (x.1 ++ 32 ∷ x.2) ∙ after_token x.1 (32 ∷ x.2) x.3
    ∙ ap after_line (sym (append-nil x.2)) ∙ after_pass is_uri_byte refl x.2 [] x.4

-- where a line follows the request line, bytes that may become a head aren't hopeless
pub may_become : (bytes : List ℕ) → IsSome (after_request_line bytes) → MayBecomeRequest bytes → NeverHasRequest bytes → ⊥
may_become bytes some may never = elim may [
  | inl x ↦ never x.0 x.1 [] x.2
  | inr x ↦ let none = in_target bytes x in cc
]

-- a head of more fields than it may have begins one too many, though it isn't whole
pub exceeds : (bytes : List ℕ) → RequestExceeds FIELD_LIMIT bytes → HasFieldTooMany bytes
exceeds bytes x =
    let front = x.0 in
    let rest = x.1 in
    let h = x.3 in
    let fields = flat_map print_field h.fields in
    let all : front ++ 10 ∷ [] ≡ (start_of h ++ fields) ++ print_end h.last =
    x.4.1 ∙ start_and_fields h [] ∙ ap (λ t. start_of h ++ t) (append-nil _) ∙ sym (append_assoc (start_of h) fields (print_end h.last)) in
    let cut = cut_end front (start_of h ++ fields) h.last all in
    let after : after_request_line bytes ≡ Some (fields ++ (cut.0 ++ rest)) =
    ap after_request_line (x.2 ∙ ap (λ t. t ++ rest) cut.1 ∙ append_assoc (start_of h ++ fields) cut.0 rest ∙ append_assoc (start_of h) fields (cut.0 ++ rest))
    ∙ after_start h _ x.4.0 in
    subst (HasBegun FIELD_LIMIT) (sym after) (many_begin FIELD_LIMIT h.fields _ x.4.0.fields x.5)
  where
    cut_end : (front whole : List ℕ) (last : LineEnd) → front ++ 10 ∷ [] ≡ whole ++ print_end last → (cr : List ℕ) × (front ≡ whole ++ cr)
    cut_end front whole crlf e = (13 ∷ [], append_cancel_right front (whole ++ 13 ∷ []) (10 ∷ []) (e ∙ sym (append_assoc whole (13 ∷ []) (10 ∷ []))))
    cut_end front whole lf e = ([], append_cancel_right front (whole ++ []) (10 ∷ []) (e ∙ ap (λ t. t ++ 10 ∷ []) (sym (append-nil whole))))

-- fewer bytes than a head may have, without a request line
open_without_lf : (bytes : List ℕ) → after_request_line bytes ≡ None → length bytes < HEAD_LIMIT → IsOpenHead bytes
open_without_lf bytes none small = record {
  none = without_lf bytes none;
  open_yet = λ bad. elim bad.why [
    | inl hopeless ↦ let some = hopeless.0 in cc
    | inr why ↦ elim why [
      | inl begun ↦ let is = subst (HasBegun FIELD_LIMIT) none begun in cc
      | inr size ↦ absurd (grind (arith, small, size))
    ]
  ];
}

pub looked_for : AreLookedFor
looked_for = record {
  no_line = without_lf;
  not_begun = open_without_lf;
  no_request = λ bytes none h rest x. none h rest x.reads;
  overflows = λ bytes over h rest x.
      let many : FIELD_LIMIT < length h.fields = over [] h rest (subst (λ b. ReadsRequest b h rest) (sym (append-nil bytes)) x.reads) in
      absurd (grind (arith, many, x.fields));
  exceeds = exceeds;
  may_become = λ bytes some may hopeless. may_become bytes some may hopeless.1;
}
