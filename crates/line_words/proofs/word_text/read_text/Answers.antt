-- A byte that was read joins those in front of it.
use Rattle.std.proofs.Common.{◌≡◌, ◌∷◌, [], Some, ◌∙◌, ap, sym, arith, rules}
use Rattle.line_model.specs.WordTexts.{joined, bytes_in}
use Rattle.line_words.proofs.BytesRead.{joined-joined}
use Rattle.line_words.proofs.word_text.read_text.Goals as goal

pub loop-left-preserved : goal.loop-left-preserved
loop-left-preserved c =
    let here : bytes_in c.loop-left.left.now ≡ joined (Some (c.in_ok-byte.byte ∷ [])) (bytes_in c.in_ok-byte.rest.now) = search rules in
    record {
      read = ap (λ items. joined (Some items) (bytes_in c.in_ok-byte.rest.now)) c.push.ensures.items
          ∙ sym (joined-joined c.loop-left.bytes.items (c.in_ok-byte.byte ∷ []) (bytes_in c.in_ok-byte.rest.now))
          ∙ ap (joined (Some c.loop-left.bytes.items)) (sym here)
          ∙ c.loop-left.invariant.read;
      few = search (rules, arith);
    }
