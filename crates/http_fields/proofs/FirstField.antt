-- The first field of a name.
use Rattle.std.proofs.Common.{◌≡◌, ℕ, true, false, List, ◌∷◌, All, length, refl, sym, ap, ◌∙◌, subst, arith}
use Rattle.std.proofs.lemmas.List.Elements.{All-tail}
use Rattle.httparse.specs.Spans.{span_bytes, IsHeaderWithin}
use Rattle.httparse.specs.declared.spans.HeaderSpan.{HeaderSpan}
use Rattle.http_model.specs.Fields.{same_name, values}
use Rattle.http_fields.specs.Views.{pairs_at, IsFirst}

module _ (window name : List ℕ) (fields : List HeaderSpan) (field : HeaderSpan) (rest : List HeaderSpan) (first : fields ≡ field ∷ rest) where
  -- a field of the name is the first
  pub found : All (IsHeaderWithin (length window)) fields → true ≡ same_name (span_bytes window field.name) name → IsFirst window fields name (span_bytes window field.value) rest
  found within same = record {
    values_are = ap (λ f. values name (pairs_at window f)) first ∙ rw (sym same) refl;
    within = All-tail (IsHeaderWithin (length window)) field rest (subst (All (IsHeaderWithin (length window))) first within);
    fewer = grind (arith, ap length first);
  }

  -- another is passed over
  pub passed : false ≡ same_name (span_bytes window field.name) name → values name (pairs_at window fields) ≡ values name (pairs_at window rest)
  passed other = ap (λ f. values name (pairs_at window f)) first ∙ rw (sym other) refl
