use Rattle.std.proofs.Common.{◌≡◌, ℕ, List, [], ◌∷◌, ◌++◌, ap, ◌∙◌}
use Rattle.std.specs.Prelude.{codes, decimal}
use Rattle.std.proofs.lemmas.List.{append_assoc}
use Rattle.line_text.specs.LineText.{line_bytes}
use Rattle.req_ops.proofs.fault.SetFault.line_into.Goals as goal

pushed : (old a b half new : List ℕ) → new ≡ half ++ b → half ≡ old ++ a → new ≡ old ++ (a ++ b)
pushed old a b half new p q = p ∙ ap (λ (t : List ℕ). t ++ b) q ∙ append_assoc old a b

numbered : (old name half new : List ℕ) (number given : ℕ) → new ≡ half ++ decimal given → half ≡ old ++ name → given ≡ number → new ≡ old ++ (name ++ decimal number)
numbered old name half new number given p q is = pushed old name (decimal number) half new (p ∙ ap (λ (n : ℕ). half ++ decimal n) is) q

pub returns-in-BadSetKind-clause-text : goal.returns-in-BadSetKind-clause-text
returns-in-BadSetKind-clause-text c = rw c.in-BadSetKind.is (numbered _ _ _ _ _ _ c.push_number-in-BadSetKind.ensures.text c.push_all-in-BadSetKind.ensures.text c.from-in-BadSetKind.ensures)

-- what follows the entry of a part
followed : (old name digits why half spaced new : List ℕ) → new ≡ spaced ++ why → spaced ≡ half ++ 32 ∷ [] → half ≡ old ++ (name ++ digits) → new ≡ old ++ (name ++ (digits ++ 32 ∷ why))
followed old name digits why half spaced new p q r =
    pushed old (name ++ digits) (32 ∷ why) half new (p ∙ ap (λ (t : List ℕ). t ++ why) q ∙ append_assoc half (32 ∷ []) why) r ∙ ap (λ (t : List ℕ). old ++ t) (append_assoc name digits (32 ∷ why))

pub returns-in-Part-clause-text : goal.returns-in-Part-clause-text
returns-in-Part-clause-text c =
    rw c.in-Part.is
    (followed (line_bytes c.args.out.now) (codes "5 Part index=") (decimal c.in-Part.index) _ _ _ _ c.line_into-in-Part.ensures.text c.push.ensures.text
    (numbered (line_bytes c.args.out.now) (codes "5 Part index=") _ _ _ _ c.push_number-in-Part.ensures.text c.push_all-in-Part.ensures.text c.from-in-Part.ensures))
