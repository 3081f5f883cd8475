-- Requests on a stream, one after the other.
use Rattle.std.proofs.Common.{◌≡◌, ℕ, suc, ◌+◌, inr, false, List, [], ◌∷◌, ◌++◌, length, refl, sym, ap, ◌∙◌, subst, arith, append-nil, append_assoc}
use Rattle.http_model.specs.Heads.{HasHead}
use Rattle.http_model.specs.Replies.{Reply, reply_text, replies_text}
use Rattle.http_model.specs.Streams.{Request, IsRequest, AreRequests, closes, GoOn, StreamEnd, IsStream}
use Rattle.http_model.specs.Laws.{RequestsAddUp}
use Rattle.http_model.proofs.HeadsInPieces.{heads_stay}

-- a request stays one, whatever follows
pub request_stays : (bytes more : List ℕ) (r : Request) (rest : List ℕ) → IsRequest bytes r rest → IsRequest (bytes ++ more) r (rest ++ more)
request_stays bytes more r rest x = record {
  head = subst (HasHead (bytes ++ more) r.head) (append_assoc r.body rest more) (heads_stay bytes more r.head (r.body ++ rest) x.head);
  size = x.size;
}

stay : (bytes more : List ℕ) (requests : List Request) (rest : List ℕ) → AreRequests bytes requests rest → AreRequests (bytes ++ more) requests (rest ++ more)
stay bytes more [] rest x = ap (λ t. t ++ more) x
stay bytes more (r ∷ requests) rest x = (x.0 ++ more, request_stays bytes more r x.0 x.1, stay x.0 more requests rest x.2)

one : (bytes : List ℕ) (requests : List Request) (r : Request) (behind rest : List ℕ) → AreRequests bytes requests behind → IsRequest behind r rest → AreRequests bytes (requests ++ r ∷ []) rest
one bytes [] r behind rest x y = (rest, subst (λ b. IsRequest b r rest) (sym x) y, refl)
one bytes (q ∷ requests) r behind rest x y = (x.0, x.1, one x.0 requests r behind rest x.2 y)

texts : (n : ℕ) (requests : List Request) (r : Request) (replies : List Reply) (reply : Reply) → length requests ≡ length replies
    → replies_text n (requests ++ r ∷ []) (replies ++ reply ∷ []) ≡ replies_text n requests replies ++ reply_text reply (closes (n + length requests) r.head)
texts n [] r [] reply e = append-nil _ ∙ ap (λ k. reply_text reply (closes k r.head)) (omega arith)
texts n [] r (p ∷ replies) reply e = absurd (omega arith)
texts n (q ∷ requests) r [] reply e = absurd (omega arith)
texts n (q ∷ requests) r (p ∷ replies) reply e =
    let first = reply_text p (closes n q.head) in
    ap (λ t. first ++ t) (texts (n + 1) requests r replies reply (omega arith) ∙ ap (λ m. replies_text (n + 1) requests replies ++ reply_text reply (closes m r.head)) (omega arith))
    ∙ sym (append_assoc first (replies_text (n + 1) requests replies) _)

going : (n : ℕ) (requests : List Request) (r : Request) → GoOn n requests → closes (n + length requests) r.head ≡ false → GoOn n (requests ++ r ∷ [])
going n [] r g e = (ap (λ k. closes k r.head) (omega arith) ∙ e, tt)
going n (q ∷ requests) r g e = (g.0, going (n + 1) requests r g.1 (ap (λ m. closes m r.head) (omega arith) ∙ e))

whole : (n : ℕ) (bytes : List ℕ) (requests more : List Request) (rest : List ℕ) (end : StreamEnd) → AreRequests bytes requests rest → GoOn n requests
    → IsStream (n + length requests) rest more end → IsStream n bytes (requests ++ more) end
whole n bytes [] more rest end x g s = subst (λ k. IsStream k bytes more end) (plus_zero n) (subst (λ b. IsStream (n + 0) b more end) (sym x) s)
  where
    plus_zero : (n : ℕ) → n + 0 ≡ n
    plus_zero n = omega arith
whole n bytes (q ∷ requests) more rest end x g s =
    (x.0, x.1, inr (g.0, whole (n + 1) x.0 requests more rest end x.2 g.1 (subst (λ k. IsStream k rest more end) (next n (length requests)) s)))
  where
    next : (n k : ℕ) → n + suc k ≡ (n + 1) + k
    next n k = omega arith

pub add_up : RequestsAddUp
add_up = record { stay = stay; one = one; texts = texts; going = going; whole = whole }
