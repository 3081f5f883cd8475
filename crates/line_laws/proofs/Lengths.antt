-- How long the words of a content are, and that they fit a line.
use Rattle.std.proofs.Common.{ℕ, suc, ◌+◌, ◌*◌, ◌/◌, ◌%◌, ◌<◌, ◌≤◌, ◌==◌, Bool, true, false, ℤ, pos, negsuc, List, [], ◌∷◌, ◌++◌, length, Option, Some, None, if◌then◌else◌, decimal, sym, subst, arith, length-append}
use Rattle.std.specs.List.{flat_map}
use Rattle.std.specs.Str.{bytes_eq}
use Rattle.std.proofs.lemmas.Nat.{mod_below, div_below}
use Rattle.std.proofs.lemmas.Fmt.{length-decimal-le}
use Rattle.line_text.specs.WordText.{is_plain, hex_digit, byte_text, word_text}
use Rattle.policy_model.specs.declared.limits.TheConstants.{UNIT}
use Rattle.policy_model.specs.Rules.{Kind, execute, install, document}
use Rattle.policy_model.specs.Contents.{Which, by_id, by_label, Selector, Content, add, remove, enable, disable, expire, switch}
use Rattle.policy_model.specs.Texts.{kind_text, verdict_word, priority_text, expiry_text, places, fraction_text, flags_text, which_text, any_kind_text}
use Rattle.policy_model.specs.Laws.{PlacesStand}
use Rattle.line_model.specs.Fronts.{Terms, Front}
use Rattle.line_laws.specs.Limits.{IsLabel, IsExpiry, IsPriority, IsName, FitsLine}
use Rattle.line_laws.proofs.Priorities.{size_text, plain_text, signed_text}
use Rattle.line_laws.proofs.FrontsBack.{AreWithin, flags_line, label_line, expires_line, terms_line, allow_line, front_line}
use Rattle.line_laws.proofs.SelectorsBack.{last_selector}
use Rattle.line_laws.proofs.ContentsBack.{verb_text, front_of, operands_text}

-- a word, and what is behind its space
joined : (word rest : List ℕ) (a b : ℕ) → length word ≤ a → length rest ≤ b → length (word ++ 32 ∷ rest) ≤ a + 1 + b
joined word rest a b h k = omega (arith, length-append word (32 ∷ rest), h, k)

of_kind : (k : Kind) → length (kind_text k) ≤ 7
of_kind execute = omega arith
of_kind install = omega arith
of_kind document = omega arith

of_any_kind : (k : Option Kind) → length (any_kind_text k) ≤ 7
of_any_kind None = omega arith
of_any_kind (Some k) = of_kind k

of_verdict : (allow : Bool) → length (verdict_word allow) ≤ 5
of_verdict true = omega arith
of_verdict false = omega arith

of_flags : (is_default inhibit : Bool) → length (flags_text is_default inhibit) ≤ 15
of_flags true true = omega arith
of_flags true false = omega arith
of_flags false true = omega arith
of_flags false false = omega arith

of_expiry : (e : Option ℕ) → IsExpiry e → length (expiry_text e) ≤ 12
of_expiry None h = omega arith
of_expiry (Some m) h = length-decimal-le 12 m (omega arith) (omega (arith, h)) (omega (arith, h))

of_byte : (b : ℕ) → length (byte_text b) ≤ 3
of_byte b = by_case (is_plain b)
  where
    by_case : (c : Bool) → length (if c then b ∷ [] else 37 ∷ hex_digit (b / 16) ∷ hex_digit (b % 16) ∷ []) ≤ 3
    by_case true = omega arith
    by_case false = omega arith

of_bytes : (bytes : List ℕ) → length (flat_map byte_text bytes) ≤ 3 * length bytes
of_bytes [] = omega arith
of_bytes (b ∷ bytes) = omega (arith, length-append (byte_text b) (flat_map byte_text bytes), of_byte b, of_bytes bytes)

of_word : (bytes : List ℕ) → length (word_text bytes) ≤ 3 * length bytes + 3
of_word bytes = by_case (bytes_eq bytes []) (bytes_eq bytes (45 ∷ []))
  where
    by_case : (none dash : Bool) → length (if none then 45 ∷ [] else (if dash then 37 ∷ 50 ∷ 68 ∷ [] else flat_map byte_text bytes)) ≤ 3 * length bytes + 3
    by_case true dash = omega arith
    by_case false true = omega arith
    by_case false false = omega (arith, of_bytes bytes)

of_label : (label : List ℕ) → IsLabel label → length (word_text label) ≤ 387
of_label label h = omega (arith, of_word label, h.few)

of_which : (w : Which) → IsName w → length (which_text w) ≤ 400
of_which (by_id n) h =
    let few : length (decimal n) ≤ 6 = length-decimal-le 6 n (omega arith) (omega (arith, h.1)) (omega (arith, h.1)) in
    omega (arith, few)
of_which (by_label l) h = omega (arith, of_label l h.1)

module _ (stand : PlacesStand) where
  of_fraction : (r : ℕ) → r < UNIT → length (fraction_text r) ≤ 7
  of_fraction r h = by_case (r == 0)
    where
      by_case : (c : Bool) → length (if c then [] else 46 ∷ places 6 r) ≤ 7
      by_case true = omega arith
      by_case false = omega (arith, (stand r h).most)

  of_size : (n : ℕ) → n ≤ 1000000000000 → length (size_text stand n) ≤ 14
  of_size n h =
      let less : n / UNIT < 1000001 = div_below n UNIT 1000001 (omega arith) (omega (arith, h)) in
      let units : length (decimal (n / UNIT)) ≤ 7 = length-decimal-le 7 (n / UNIT) (omega arith) (omega (arith, less)) (omega (arith, less)) in
      omega (arith, length-append (decimal (n / UNIT)) (fraction_text (n % UNIT)), units, of_fraction (n % UNIT) (mod_below n UNIT (omega arith)))

  of_priority : (p : ℤ) → IsPriority p → length (priority_text p) ≤ 15
  of_priority (pos m) h = subst (λ text. length text ≤ 15) (sym (plain_text stand m)) (omega (arith, of_size m h))
  of_priority (negsuc m) h = subst (λ text. length text ≤ 15) (sym (signed_text stand m)) (omega (arith, of_size (suc m) h))

  of_terms : (t : Terms) (rest : List ℕ) (b : ℕ) → AreWithin t → length rest ≤ b → length (terms_line t rest) ≤ 433 + b
  of_terms t rest b h k =
      let flags = joined (flags_text t.flags.is_default t.flags.inhibit) rest 15 b (of_flags t.flags.is_default t.flags.inhibit) k in
      let label = joined (word_text t.label) (flags_line t rest) 387 (15 + 1 + b) (of_label t.label h.label) flags in
      let expires = joined (expiry_text t.expires) (label_line t rest) 12 (387 + 1 + (15 + 1 + b)) (of_expiry t.expires h.expires) label in
      let all = joined (priority_text t.priority) (expires_line t rest) 15 (12 + 1 + (387 + 1 + (15 + 1 + b))) (of_priority t.priority h.priority) expires in
      omega (arith, all)

  of_front : (f : Front) (rest : List ℕ) → AreWithin f.terms → length rest ≤ 4096 → length (front_line f rest) ≤ 5000
  of_front f rest h k =
      let terms = of_terms f.terms rest 4096 h k in
      let allow = joined (verdict_word f.allow) (terms_line f.terms rest) 5 (433 + 4096) (of_verdict f.allow) terms in
      let all = joined (kind_text f.kind) (allow_line f rest) 7 (5 + 1 + (433 + 4096)) (of_kind f.kind) allow in
      omega (arith, all)

  of_selector : (s : Selector) → IsName s.which → length (last_selector s) ≤ 5000
  of_selector s h =
      let all = joined (which_text s.which) (any_kind_text s.kind) 400 7 (of_which s.which h) (of_any_kind s.kind) in
      omega (arith, all)

  -- the words of a content behind its first one are short
  pub of_operands : (c : Content) → FitsLine c → length (operands_text c) ≤ 5000
  of_operands (add n) h = of_front (front_of n) n.text (record { priority = h.priority; expires = h.expires; label = h.label }) h.text.short
  of_operands (remove s) h = of_selector s h
  of_operands (enable s) h = of_selector s h
  of_operands (disable s) h = of_selector s h
  of_operands (expire s m) h =
      let kind = joined (any_kind_text s.kind) (expiry_text m) 7 12 (of_any_kind s.kind) (of_expiry m h.1) in
      let all = joined (which_text s.which) (any_kind_text s.kind ++ 32 ∷ expiry_text m) 400 (7 + 1 + 12) (of_which s.which h.0) kind in
      omega (arith, all)
  of_operands (switch true) h = omega arith
  of_operands (switch false) h = omega arith

of_verb : (c : Content) → length (verb_text c) ≤ 7
of_verb (add n) = omega arith
of_verb (remove s) = omega arith
of_verb (enable s) = omega arith
of_verb (disable s) = omega arith
of_verb (expire s m) = omega arith
of_verb (switch on) = omega arith

-- so is a content's text
pub of_content : PlacesStand → (c : Content) → FitsLine c → length (verb_text c ++ 32 ∷ operands_text c) ≤ 8192
of_content stand c h = omega (arith, joined (verb_text c) (operands_text c) 7 5000 (of_verb c) (of_operands stand c h))

-- and an edit's line
pub of_edit : PlacesStand → (key : List ℕ) (c : Content) → length key ≤ 64 → FitsLine c → length (verb_text c ++ 32 ∷ (key ++ 32 ∷ operands_text c)) ≤ 8192
of_edit stand key c few h =
    let behind = joined key (operands_text c) 64 5000 few (of_operands stand c h) in
    omega (arith, joined (verb_text c) (key ++ 32 ∷ operands_text c) 7 (64 + 1 + 5000) (of_verb c) behind)
