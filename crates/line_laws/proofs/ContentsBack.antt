-- The words of a content are read back in a line.
use Rattle.std.proofs.Common.{◌≡◌, ℕ, Bool, true, false, List, ◌∷◌, ◌++◌, Option, Some, Result, Ok, if◌then◌else◌, codes, refl, ap, ◌∙◌, append_assoc}
use Rattle.std.specs.Option.{ok_or}
use Rattle.line_text.specs.WordText.{word_text}
use Rattle.policy_model.specs.Contents.{NewRow, Selector, Content, add, remove, enable, disable, expire, switch}
use Rattle.policy_model.specs.Texts.{kind_text, verdict_word, priority_text, expiry_text, flags_text, which_text, any_kind_text, selector_text, add_front, content_text}
use Rattle.policy_model.specs.Laws.{PlacesStand}
use Rattle.line_model.specs.LineFaults.{LineFault, bad_line, bad_moment}
use Rattle.line_model.specs.Words.{expiry_word, switch_word}
use Rattle.line_model.specs.Left.{Left, ◌>>=◌, end_at}
use Rattle.line_model.specs.Forms.{expiry_at}
use Rattle.line_model.specs.Fronts.{Front}
use Rattle.line_model.specs.Contents.{Verb, add_verb, remove_verb, enable_verb, disable_verb, expire_verb, switch_verb, verb_word, Worded, whole, adds, selected_at, expiring_at, turned_at, as_whole, operands_at, content_at}
use Rattle.line_laws.specs.Limits.{IsName, IsExpiry, FitsLine}
use Rattle.line_laws.proofs.Numbers.{expiry_back}
use Rattle.line_laws.proofs.NoSpaces.{HasNoSpace, by_test, in_expiry}
use Rattle.line_laws.proofs.Steps.{from, value_last}
use Rattle.line_laws.proofs.FrontsBack.{front_line, add_on}
use Rattle.line_laws.proofs.SelectorsBack.{selector_line, last_selector, past_selector, selector_on, selector_last}

-- the first word of a content's text
abbrev pub verb_text : Content → List ℕ
verb_text (add n) = codes "add"
verb_text (remove s) = codes "remove"
verb_text (enable s) = codes "enable"
verb_text (disable s) = codes "disable"
verb_text (expire s m) = codes "expire"
verb_text (switch on) = codes "switch"

abbrev pub verb_of : Content → Verb
verb_of (add n) = add_verb
verb_of (remove s) = remove_verb
verb_of (enable s) = enable_verb
verb_of (disable s) = disable_verb
verb_of (expire s m) = expire_verb
verb_of (switch on) = switch_verb

pub verb_back : (c : Content) → verb_word (verb_text c) ≡ Some (verb_of c)
verb_back (add n) = refl
verb_back (remove s) = refl
verb_back (enable s) = refl
verb_back (disable s) = refl
verb_back (expire s m) = refl
verb_back (switch on) = refl

pub in_verb : (c : Content) → HasNoSpace (verb_text c)
in_verb (add n) = by_test (codes "add") refl
in_verb (remove s) = by_test (codes "remove") refl
in_verb (enable s) = by_test (codes "enable") refl
in_verb (disable s) = by_test (codes "disable") refl
in_verb (expire s m) = by_test (codes "expire") refl
in_verb (switch on) = by_test (codes "switch") refl

abbrev pub front_of : NewRow → Front
front_of n = record {
  kind = n.kind;
  allow = n.allow;
  terms = record { priority = n.priority; expires = n.expires; label = n.label; flags = record { is_default = n.is_default; inhibit = n.inhibit } };
}

-- the words behind the first one
abbrev pub operands_text : Content → List ℕ
operands_text (add n) = front_line (front_of n) n.text
operands_text (remove s) = last_selector s
operands_text (enable s) = last_selector s
operands_text (disable s) = last_selector s
operands_text (expire s m) = selector_line s (expiry_text m)
operands_text (switch on) = if on then codes "on" else codes "off"

regrouped : (s a k v p e l f t : List ℕ)
    → a ++ k ++ s ++ v ++ s ++ p ++ s ++ e ++ s ++ l ++ s ++ f ++ s ++ t ≡ a ++ (k ++ (s ++ (v ++ (s ++ (p ++ (s ++ (e ++ (s ++ (l ++ (s ++ (f ++ (s ++ t))))))))))))
regrouped s a k v p e l f t = simp append_assoc

added : (n : NewRow) → content_text (add n) ≡ codes "add" ++ 32 ∷ front_line (front_of n) n.text
unfolding content_text add_front
added n =
    regrouped (codes " ") (codes "add ") (kind_text n.kind) (verdict_word n.allow) (priority_text n.priority) (expiry_text n.expires) (word_text n.label)
    (flags_text n.is_default n.inhibit) n.text

selector_grouped : (s : Selector) → selector_text s ≡ last_selector s
selector_grouped s = append_assoc (which_text s.which) (codes " ") (any_kind_text s.kind)

expire_grouped : (s : Selector) (m : Option ℕ) → selector_text s ++ codes " " ++ expiry_text m ≡ selector_line s (expiry_text m)
expire_grouped s m =
    append_assoc (selector_text s) (codes " ") (expiry_text m)
    ∙ append_assoc (which_text s.which ++ codes " ") (any_kind_text s.kind) (codes " " ++ expiry_text m)
    ∙ append_assoc (which_text s.which) (codes " ") (any_kind_text s.kind ++ (codes " " ++ expiry_text m))

-- a content's text is its first word and those behind it
pub spelled : (c : Content) → content_text c ≡ verb_text c ++ 32 ∷ operands_text c
unfolding content_text
spelled (add n) = added n
spelled (remove s) = ap (λ text. codes "remove " ++ text) (selector_grouped s)
spelled (enable s) = ap (λ text. codes "enable " ++ text) (selector_grouped s)
spelled (disable s) = ap (λ text. codes "disable " ++ text) (selector_grouped s)
spelled (expire s m) = ap (λ text. codes "expire " ++ text) (expire_grouped s m)
spelled (switch on) = refl

-- what the words say
abbrev pub worded_of : Content → Worded
worded_of (add n) = adds (front_of n) n.text
worded_of (remove s) = whole (remove s)
worded_of (enable s) = whole (enable s)
worded_of (disable s) = whole (disable s)
worded_of (expire s m) = whole (expire s m)
worded_of (switch on) = whole (switch on)

selected_on : (column : ℕ) (s : Selector) → IsName s.which → selected_at (from column (last_selector s)) ≡ Ok s
selected_on column s h = ap (λ (r : Result (Selector × Left) LineFault). r >>= (λ selector. end_at selector.1 >>= (λ end. Ok selector.0))) (selector_last column s h)

expiring_on : (column : ℕ) (s : Selector) (m : Option ℕ) → IsName s.which → IsExpiry m → expiring_at (from column (selector_line s (expiry_text m))) ≡ Ok (s, m)
expiring_on column s m h e =
    ap (λ (r : Result (Selector × Left) LineFault). r >>= (λ selector. expiry_at selector.1 >>= (λ expires. end_at expires.1 >>= (λ end. Ok (selector.0, expires.0)))))
    (selector_on column s (expiry_text m) h)
    ∙ ap (λ (r : Result (Option ℕ × Left) LineFault). r >>= (λ expires. end_at expires.1 >>= (λ end. Ok (s, expires.0))))
    (value_last expiry_word bad_moment (past_selector column s) (expiry_text m) m (in_expiry m e) (expiry_back m e))

turned_on : (column : ℕ) (on : Bool) → turned_at (from column (if on then codes "on" else codes "off")) ≡ Ok on
turned_on column true = ap (λ (r : Result (Bool × Left) LineFault). r >>= (λ on. end_at on.1 >>= (λ end. Ok on.0))) (value_last switch_word (bad_line column) column (codes "on") true (by_test (codes "on") refl) refl)
turned_on column false = ap (λ (r : Result (Bool × Left) LineFault). r >>= (λ on. end_at on.1 >>= (λ end. Ok on.0))) (value_last switch_word (bad_line column) column (codes "off") false (by_test (codes "off") refl) refl)

module _ (stand : PlacesStand) where
  pub operands_on : (column : ℕ) (c : Content) → FitsLine c → operands_at (verb_of c) (from column (operands_text c)) ≡ Ok (worded_of c)
  operands_on column (add n) h = add_on stand column (front_of n) n.text (record { priority = h.priority; expires = h.expires; label = h.label }) h.text
  operands_on column (remove s) h = ap (as_whole remove) (selected_on column s h)
  operands_on column (enable s) h = ap (as_whole enable) (selected_on column s h)
  operands_on column (disable s) h = ap (as_whole disable) (selected_on column s h)
  operands_on column (expire s m) h = ap (as_whole (λ asked. expire asked.0 asked.1)) (expiring_on column s m h.0 h.1)
  operands_on column (switch on) h = ap (as_whole switch) (turned_on column on)

  pub content_on : (column : ℕ) (c : Content) → FitsLine c → content_at (verb_text c) (from column (operands_text c)) ≡ Ok (worded_of c)
  content_on column c h =
      ap (λ (o : Option Verb). ok_or o (bad_line 1) >>= (λ verb. operands_at verb (from column (operands_text c)))) (verb_back c)
      ∙ operands_on column c h
