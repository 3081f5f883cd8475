-- The word always may be the text of a rule.
use Rattle.std.proofs.Common.{ℕ, ◌≢◌, [], codes, arith}
use Rattle.std.proofs.lemmas.List.Elements.{All-nil, All-cons}
use Rattle.policy_model.specs.Contents.{IsRuleText}

abbrev NotLineEnd : ℕ → Type 0
NotLineEnd b = b ≢ 10

pub always_text : IsRuleText (codes "always")
always_text = record {
  short = omega arith;
  one_line =
      All-cons NotLineEnd 97 (codes "lways") (λ e. omega (arith, e)) (All-cons NotLineEnd 108 (codes "ways") (λ e. omega (arith, e)) (All-cons NotLineEnd 119 (codes "ays") (λ e. omega (arith, e))
      (All-cons NotLineEnd 97 (codes "ys") (λ e. omega (arith, e)) (All-cons NotLineEnd 121 (codes "s") (λ e. omega (arith, e)) (All-cons NotLineEnd 115 [] (λ e. omega (arith, e)) (All-nil NotLineEnd))))));
}
