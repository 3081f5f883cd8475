-- A front of some bytes is written, piece by piece.
use Rattle.std.proofs.Common.{ℕ, ◌-◌, List, ◌++◌, Option, None, Some, length, take, drop, sym, ap, ◌∙◌, subst, append_assoc, length-append, arith}
use Rattle.std.proofs.KnownBytes.{Appends-trans}
use Rattle.std.proofs.Math.Seq.{take-append_seam}
use Rattle.std.proofs.lemmas.List.{take-append-drop, take_rest}
use Rattle.std.specs.Io.KnownBytes.{Appends, Keeps}
use Rattle.gk_io.specs.Told.{AppendsFront, Sent}

-- a piece more
pub sent_more : (a b c : Option (List ℕ)) (bytes rest : List ℕ) (n : ℕ) → Sent a b bytes rest → Appends b c (take n rest) → Sent a c bytes (take (length rest - n) (drop n rest))
sent_more a b c bytes rest n sent more = record {
  front = sent.front ++ take n rest;
  split = sent.split ∙ ap (λ l. sent.front ++ l) (sym (take-append-drop n rest) ∙ ap (λ l. take n rest ++ l) (sym (take_rest rest n))) ∙ sym (append_assoc sent.front (take n rest) (take (length rest - n) (drop n rest)));
  put = Appends-trans a b c sent.front (take n rest) sent.put more;
}

-- what was sent is a front
pub sent_front : (a b : Option (List ℕ)) (bytes rest : List ℕ) → Sent a b bytes rest → AppendsFront a b bytes
sent_front a b bytes rest sent = (
  length sent.front,
  grind (arith, ap length sent.split, length-append sent.front rest),
  subst (Appends a b) (sym (ap (take (length sent.front)) sent.split ∙ take-append_seam sent.front rest)) sent.put,
)

-- a call that wrote nothing
sent_kept : (a b c : Option (List ℕ)) (bytes : List ℕ) → Appends a b bytes → Keeps b c → Appends a c bytes
sent_kept None b c bytes h k = tt
sent_kept (Some us) None c bytes h k = absurd h
sent_kept (Some us) (Some vs) None bytes h k = absurd k
sent_kept (Some us) (Some vs) (Some ws) bytes h k = k ∙ h

pub sent_still : (a b c : Option (List ℕ)) (bytes rest : List ℕ) → Sent a b bytes rest → Keeps b c → Sent a c bytes rest
sent_still a b c bytes rest sent kept = record { front = sent.front; split = sent.split; put = sent_kept a b c sent.front sent.put kept }
