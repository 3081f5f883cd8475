-- A stream that is there whole, request by request.
use Rattle.std.proofs.Common.{◌≡◌, ℕ, ◌+◌, ◌<◌, ◌≤◌, inl, inr, Bool, true, false, ◌==◌, List, [], ◌∷◌, ◌++◌, length, take, drop, Ok, refl, sym, ap, ◌∙◌, subst, arith, length-append, length-drop, take-append-drop}
use Rattle.std.proofs.lemmas.List.{drop-append-le, drop-drop, length-take-le}
use Rattle.std.proofs.lemmas.Bool.{false≢true}
use Rattle.std.proofs.lemmas.Bool.Decides.{nat_tests}
use Rattle.httparse.specs.Grammar.{RequestHead}
use Rattle.httparse.specs.declared.spans.HeaderSpan.{HeaderSpan}
use Rattle.httparse.specs.declared.spans.RequestSpans.{RequestSpans}
use Rattle.http_model.specs.Heads.{HasHead}
use Rattle.http_model.specs.Laws.{HeadsStay, RequestsAddUp}
use Rattle.http_model.specs.declared.limits.TheConstants.{REPLY_LIMIT}
use Rattle.http_model.specs.Streams as model
use Rattle.http_model.specs.Streams.{measured_of, IsRequest, AreRequests, GoOn, closes, HasEnd, IsStream, StreamEnd, closed}
use Rattle.http_reader.specs.Looked.{IsHeadAt}
use Rattle.http_reader.specs.Plain.{IsFirst, IsMeasuredOff}
use Rattle.http_reader.specs.declared.plain.StreamEnd.TheVariants.{Closed, Cut, Refused}
use Rattle.http_reader.specs.declared.plain.First.{First}
use Rattle.http_reader.specs.declared.plain.First.TheVariants.{Request, End}

module _ (stay : HeadsStay) (count all : ℕ) (bytes front behind : List ℕ) (fields : List HeaderSpan) (spans : RequestSpans) (cut : bytes ≡ front ++ behind) (size : all ≡ length bytes)
    (at : IsHeadAt front fields spans) where
  -- the head stands at the front of all bytes
  stands : HasHead bytes at.head (drop spans.len bytes)
  stands =
      let rest : drop spans.len front ++ behind ≡ drop spans.len bytes = sym (drop-append-le spans.len front behind at.within.section.len_fits) ∙ ap (drop spans.len) (sym cut) in
      subst (λ b. HasHead b at.head (drop spans.len bytes)) (sym cut) (subst (HasHead (front ++ behind) at.head) rest (stay front behind at.head (drop spans.len front) at.stands))

  -- a body of so many bytes stands behind it
  with_body : (body : ℕ) → spans.len + body ≤ length bytes → measured_of at.head ≡ Ok body
      → IsRequest bytes (record { head = at.head; body = take body (drop spans.len bytes) }) (drop (spans.len + body) bytes)
  with_body body inside e =
      let rest = drop spans.len bytes in
      let whole : rest ≡ take body rest ++ drop (spans.len + body) bytes = sym (take-append-drop body rest) ∙ ap (λ t. take body rest ++ t) (drop-drop body spans.len bytes) in
      record {
        head = subst (HasHead bytes at.head) whole stands;
        size = e ∙ ap Ok (sym (length-take-le body rest (grind (arith, inside, length-drop spans.len bytes))));
      }

  pub first_is : (first : First) → IsMeasuredOff count all front fields spans first → IsFirst count bytes first
  first_is (Request total last) m =
      let known = m.3 at.head at.at in
      let inside : spans.len + m.0 ≤ length bytes = omega (arith, m.1, m.2, size) in
      rw m.1 (record { head = at.head; body = take m.0 (drop spans.len bytes) }, with_body m.0 inside known.0, inside, known.1)
  first_is (End Closed) m = absurd m
  first_is (End Cut) m = inr (record {
    head = at.head;
    behind = drop spans.len bytes;
    stands = stands;
    that = (m.0, m.2 at.head at.at, grind (arith, m.1, size, length-drop spans.len bytes));
  })
  first_is (End (Refused fault)) m = inr (record { head = at.head; behind = drop spans.len bytes; stands = stands; that = m at.head at.at })

-- requests behind which the connection goes on, and then the rest
abbrev pub IsSoFar : List ℕ → List ℕ → ℕ → Type 0
IsSoFar bytes rest count = (requests : List model.Request) × AreRequests bytes requests rest × GoOn 0 requests × (length requests ≡ count)

module _ (laws : RequestsAddUp) (bytes rest : List ℕ) (count : ℕ) (so_far : IsSoFar bytes rest count) where
  zero_plus : 0 + length so_far.0 ≡ count
  zero_plus = omega (arith, so_far.3)

  pub ends : (end : StreamEnd) → HasEnd rest end → (requests : List model.Request) × IsStream 0 bytes requests end
  ends end has = (so_far.0 ++ [], laws.whole 0 bytes so_far.0 [] rest end so_far.1 so_far.2 has)

  module _ (r : model.Request) (behind : List ℕ) (is : IsRequest rest r behind) where
    pub closing : true ≡ closes count r.head → (requests : List model.Request) × IsStream 0 bytes requests closed
    closing last =
        (so_far.0 ++ r ∷ [], laws.whole 0 bytes so_far.0 (r ∷ []) rest closed so_far.1 so_far.2 (behind, is, inl (ap (λ n. closes n r.head) zero_plus ∙ sym last, refl, refl)))

    pub goes_on : false ≡ closes count r.head → IsSoFar bytes behind (count + 1)
    goes_on more = (
      so_far.0 ++ r ∷ [],
      laws.one bytes so_far.0 r rest behind so_far.1 is,
      laws.going 0 so_far.0 r so_far.2 (ap (λ n. closes n r.head) zero_plus ∙ sym more),
      grind (arith, so_far.3, length-append so_far.0 (r ∷ [])),
    )

-- a reply that isn't the last leaves room for one more
pub not_last : (count : ℕ) (h : RequestHead) → false ≡ closes count h → count < REPLY_LIMIT → count + 1 < REPLY_LIMIT
not_last count h more few = go (count + 1 == REPLY_LIMIT) refl
  where
    go : (b : Bool) → (count + 1 == REPLY_LIMIT) ≡ b → count + 1 < REPLY_LIMIT
    go true is = absurd (false≢true (more ∙ rw is refl))
    go false other = grind (arith, nat_tests, other, few)
