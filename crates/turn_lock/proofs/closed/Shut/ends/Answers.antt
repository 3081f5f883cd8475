use Rattle.std.proofs.Common.{◌≡◌, [], ◌∷◌, ap, sym, ◌∙◌}
use Rattle.std.specs.Mem.Slots.{slots_items}
use mathlib.Core.Option.{some-injective}
use lib.ListN.{get_elem?}
use Rattle.turn_lock.proofs.AtTheEnd.{pair}
use Rattle.turn_lock.proofs.closed.Shut.ends.Goals as goal

pub returns-clause-stuck : goal.returns-clause-stuck
returns-clause-stuck g c n s =
    let words = pair _ c.requires.words.0 c.requires.words.1 c.word-next.result c.word-serving.result c.requires.words.2 c.word-next.ensures c.word-serving.ensures in (
      (λ is. let q = (c.of.ensures.stuck n s).0 is in (words ∙ (λ i. sym q.0 i ∷ sym q.1 i ∷ []), λ same. q.2 (sym q.0 ∙ (same ∙ q.1)))),
      λ p. let a : n ≡ c.word-next.result = cc (p.0, words) in let b : s ≡ c.word-serving.result = cc (p.0, words) in (c.of.ensures.stuck n s).1 (a, b, λ same. p.1 (a ∙ (same ∙ sym b))),
    )

pub returns-clause-whole : goal.returns-clause-whole
returns-clause-whole g c x =
    let words = pair _ c.requires.words.0 c.requires.words.1 c.word-next.result c.word-serving.result c.requires.words.2 c.word-next.ensures c.word-serving.ensures in (
      (λ is. let q = (c.of.ensures.whole x).0 is in
          let same : slots_items c.args.self.table.words ≡ c.word-next.result ∷ c.word-next.result ∷ [] = words ∙ (λ i. c.word-next.result ∷ sym q.0 i ∷ []) in
          let v = c.requires.value c.word-next.result same in
          ((c.word-next.result, same), v.1 ∙ ap (λ z. z ∷ []) (some-injective _ _ (ap (λ l. get_elem? l 0) (sym v.1) ∙ c.take-slot.ensures.value) ∙ q.1))),
      λ p. let a : c.word-next.result ≡ c.word-serving.result = cc (p.0.1, words) in
          (c.of.ensures.whole x).1 (a, some-injective _ _ (sym c.take-slot.ensures.value ∙ ap (λ l. get_elem? l 0) p.1)),
    )
