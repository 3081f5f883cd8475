-- A stream is cut in one way.
use Rattle.std.proofs.Common.{◌≡◌, ℕ, ◌+◌, ◌<◌, inl, inr, List, [], ◌∷◌, ◌++◌, length, Result, Ok, Err, refl, sym, ap, ◌∙◌, subst, arith, length-append}
use Rattle.std.proofs.lemmas.Bool.{false≢true}
use Rattle.httparse.specs.Grammar.{RequestHead}
use Rattle.http_model.specs.Faults.{HttpFault}
use Rattle.http_model.specs.Heads.{HasHead, IsBadHead}
use Rattle.http_model.specs.Streams.{Request, measured_of, IsRequest, closes, IsCut, IsRefused, StreamEnd, closed, cut, refused, HasEnd, IsStream}
use Rattle.http_model.specs.Laws.{HasOneStream, RefusalsStay}
use Rattle.http_model.proofs.HeadsInPieces.{one_head, heads_stay, bad_heads_stay, without_lf}
use Rattle.http_model.proofs.RequestsGrow.{request_stays}

-- fronts of one length of one list are one, and so is what follows them
same_parts : (a b c d : List ℕ) → length a ≡ length b → a ++ c ≡ b ++ d → (a ≡ b) × (c ≡ d)
same_parts [] [] c d size e = (refl, e)
same_parts [] (y ∷ b) c d size e = absurd (omega arith)
same_parts (x ∷ a) [] c d size e = absurd (omega arith)
same_parts (x ∷ a) (y ∷ b) c d size e =
    let first : x ≡ y = cc in
    let tails : a ++ c ≡ b ++ d = cc in
    let parts = same_parts a b c d (omega arith) tails in
    (λ i. first i ∷ parts.0 i, parts.1)

ok_is : {a b : ℕ} → ◌≡◌ {A = Result ℕ HttpFault} (Ok a) (Ok b) → a ≡ b
ok_is e = cc

-- bytes begin with one request at most
pub one_request : (bytes : List ℕ) (r s : Request) (rest more : List ℕ) → IsRequest bytes r rest → IsRequest bytes s more → (r ≡ s) × (rest ≡ more)
one_request bytes r s rest more x y =
    let heads = one_head bytes r.head s.head (r.body ++ rest) (s.body ++ more) x.head y.head in
    let size : length r.body ≡ length s.body = ok_is (sym x.size ∙ ap measured_of heads.0 ∙ y.size) in
    let parts = same_parts r.body s.body rest more size heads.1 in
    (λ i. record { head = heads.0 i; body = parts.0 i }, parts.1)

-- a request's head and body are all there
request_or_less : (bytes : List ℕ) (r : Request) (rest : List ℕ) → IsRequest bytes r rest → (h : RequestHead) (behind : List ℕ) (size : ℕ) → HasHead bytes h behind → measured_of h ≡ Ok size → length behind < size → ⊥
request_or_less bytes r rest x h behind size y e less =
    let heads = one_head bytes r.head h (r.body ++ rest) behind x.head y in
    let same : length r.body ≡ size = ok_is (sym x.size ∙ ap measured_of heads.0 ∙ e) in
    absurd (grind (arith, same, less, length-append r.body rest, ap length heads.1))

-- where a request stands, the stream doesn't end
no_end : (bytes : List ℕ) (r : Request) (rest : List ℕ) (end : StreamEnd) → IsRequest bytes r rest → HasEnd bytes end → ⊥
no_end bytes r rest closed x none = without_lf [] refl r.head (r.body ++ rest) (subst (λ b. HasHead b r.head (r.body ++ rest)) none x.head)
no_end bytes r rest cut x ends = elim ends [
  | inl part ↦ part.1.none r.head (r.body ++ rest) x.head
  | inr some ↦ request_or_less bytes r rest x some.head some.behind some.that.0 some.stands some.that.1 some.that.2
]
no_end bytes r rest (refused fault) x ends = elim ends [
  | inl bad ↦ bad.0.none r.head (r.body ++ rest) x.head
  | inr some ↦
      let heads = one_head bytes r.head some.head (r.body ++ rest) some.behind x.head some.stands in
      let apart : ◌≡◌ {A = Result ℕ HttpFault} (Ok (length r.body)) (Err fault) = sym x.size ∙ ap measured_of heads.0 ∙ some.that in
      cc
]

-- no bytes are neither a part of a request nor refused
nothing_cut : IsCut [] → ⊥
nothing_cut ends = elim ends [
  | inl part ↦ part.0 refl
  | inr some ↦ without_lf [] refl some.head some.behind some.stands
]

bad_is_some : IsBadHead [] → ⊥
bad_is_some bad = elim bad.why [
  | inl hopeless ↦ false≢true hopeless.0
  | inr why ↦ elim why [
    | inl begun ↦ false≢true begun
    | inr size ↦ absurd (omega arith)
  ]
]

nothing_refused : (fault : HttpFault) → IsRefused [] fault → ⊥
nothing_refused fault ends = elim ends [
  | inl bad ↦ bad_is_some bad.0
  | inr some ↦ without_lf [] refl some.head some.behind some.stands
]

-- a part of a request isn't refused
cut_or_refused : (bytes : List ℕ) (fault : HttpFault) → IsCut bytes → IsRefused bytes fault → ⊥
cut_or_refused bytes fault ends others = elim ends [
  | inl part ↦ elim others [
    | inl bad ↦ part.1.open_yet bad.0
    | inr some ↦ part.1.none some.head some.behind some.stands
  ]
  | inr some ↦ elim others [
    | inl bad ↦ bad.0.none some.head some.behind some.stands
    | inr other ↦
        let heads = one_head bytes some.head other.head some.behind other.behind some.stands other.stands in
        let apart : ◌≡◌ {A = Result ℕ HttpFault} (Ok some.that.0) (Err fault) = sym some.that.1 ∙ ap measured_of heads.0 ∙ other.that in
        cc
  ]
]

one_refusal : (bytes : List ℕ) (fault other : HttpFault) → IsRefused bytes fault → IsRefused bytes other → fault ≡ other
one_refusal bytes fault other x y = elim x [
  | inl bad ↦ elim y [
    | inl worse ↦ bad.1 ∙ sym worse.1
    | inr some ↦ absurd (bad.0.none some.head some.behind some.stands)
  ]
  | inr some ↦ elim y [
    | inl bad ↦ absurd (bad.0.none some.head some.behind some.stands)
    | inr more ↦
        let heads = one_head bytes some.head more.head some.behind more.behind some.stands more.stands in
        let same : ◌≡◌ {A = Result ℕ HttpFault} (Err fault) (Err other) = sym some.that ∙ ap measured_of heads.0 ∙ more.that in
        cc
  ]
]

one_end : (bytes : List ℕ) (end other : StreamEnd) → HasEnd bytes end → HasEnd bytes other → end ≡ other
one_end bytes closed closed x y = refl
one_end bytes closed cut x y = absurd (nothing_cut (subst IsCut x y))
one_end bytes closed (refused fault) x y = absurd (nothing_refused fault (subst (λ b. IsRefused b fault) x y))
one_end bytes cut closed x y = absurd (nothing_cut (subst IsCut y x))
one_end bytes cut cut x y = refl
one_end bytes cut (refused fault) x y = absurd (cut_or_refused bytes fault x y)
one_end bytes (refused fault) closed x y = absurd (nothing_refused fault (subst (λ b. IsRefused b fault) y x))
one_end bytes (refused fault) cut x y = absurd (cut_or_refused bytes fault y x)
one_end bytes (refused fault) (refused other) x y = ap refused (one_refusal bytes fault other x y)

pub one_stream : HasOneStream
one_stream n bytes [] [] end other x y = (refl, one_end bytes end other x y)
one_stream n bytes [] (s ∷ others) end other x y = absurd (no_end bytes s y.0 end y.1 x)
one_stream n bytes (r ∷ requests) [] end other x y = absurd (no_end bytes r x.0 other x.1 y)
one_stream n bytes (r ∷ requests) (s ∷ others) end other x y =
    let first = one_request bytes r s x.0 y.0 x.1 y.1 in
    let closing = ap (λ (q : Request). closes n q.head) first.0 in
    elim x.2 [
      | inl last ↦ elim y.2 [
        | inl final ↦ (λ i. first.0 i ∷ (last.1 ∙ sym final.1) i, last.2 ∙ sym final.2)
        | inr later ↦ absurd (false≢true (sym later.0 ∙ sym closing ∙ last.0))
      ]
      | inr later ↦ elim y.2 [
        | inl final ↦ absurd (false≢true (sym later.0 ∙ closing ∙ final.0))
        | inr after ↦
            let same = one_stream (n + 1) y.0 requests others end other (subst (λ b. IsStream (n + 1) b requests end) first.1 later.1) after.1 in
            (λ i. first.0 i ∷ same.0 i, same.1)
      ]
    ]

refusal_stays : (bytes more : List ℕ) (fault : HttpFault) → IsRefused bytes fault → IsRefused (bytes ++ more) fault
refusal_stays bytes more fault x = elim x [
  | inl bad ↦ inl (bad_heads_stay bytes more bad.0, bad.1)
  | inr some ↦ inr (record {
    head = some.head;
    behind = some.behind ++ more;
    stands = heads_stay bytes more some.head some.behind some.stands;
    that = some.that;
  })
]

pub refusals_stay : RefusalsStay
refusals_stay n bytes more [] fault x = refusal_stays bytes more fault x
refusals_stay n bytes more (r ∷ requests) fault x = (
  x.0 ++ more,
  request_stays bytes more r x.0 x.1,
  elim x.2 [
    | inl last ↦ let apart : refused fault ≡ closed = last.2 in cc
    | inr later ↦ inr (later.0, refusals_stay (n + 1) x.0 more requests fault later.1)
  ],
)
