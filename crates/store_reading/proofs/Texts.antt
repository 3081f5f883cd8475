-- Which canonical texts are those of adds.
use Rattle.std.proofs.Common.{◌≡◌, ℕ, List, refl, sym, ap, ◌∙◌, codes}
use Rattle.std.specs.Prelude.{Bool, true, false, ◌↔◌, IsTrue, nat_eq}
use Rattle.std.specs.List.{starts_with}
use Rattle.std.proofs.lemmas.Bool.{both_ways}
use Rattle.policy_model.specs.Contents.{NewRow, Content, add, remove, enable, disable, expire, switch}
use Rattle.policy_model.specs.Texts.{content_text, add_front}
use Rattle.store_model.specs.Contents.{IsTextOf, IsAddText}

-- the text begins with the word of an add
abbrev begins : List ℕ → Bool
begins text = starts_with nat_eq text (codes "add ")

add_begins : (n : NewRow) → begins (content_text (add n)) ≡ true
unfolding content_text add_front
add_begins n = refl

-- only an add begins so
module _ (text : List ℕ) (b : Bool) (is : b ≡ begins text) where
  by_add : (n : NewRow) → IsTextOf (add n) text → IsTrue b ↔ IsAddText text
  by_add n h = ((λ t. (n, h)), (λ k. is ∙ ap begins h.canonical ∙ add_begins n))

  by_other : (c : Content) → begins (content_text c) ≡ false → IsTextOf c text → IsTrue b ↔ IsAddText text
  by_other c other h = (
    (λ t. absurd (both_ways b (is ∙ ap begins h.canonical ∙ other) t)),
    (λ k. absurd (both_ways (begins text) (ap begins h.canonical ∙ other) (ap begins k.1.canonical ∙ add_begins k.0))),
  )

  -- a canonical text that begins so is that of an add, and no other
  pub is_add : (c : Content) → IsTextOf c text → IsTrue b ↔ IsAddText text
  unfolding content_text
  is_add (add n) h = by_add n h
  is_add (remove s) h = by_other (remove s) refl h
  is_add (enable s) h = by_other (enable s) refl h
  is_add (disable s) h = by_other (disable s) refl h
  is_add (expire s m) h = by_other (expire s m) refl h
  is_add (switch on) h = by_other (switch on) refl h
