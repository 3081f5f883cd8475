-- The words of an added rule are read back in a line.
use Rattle.std.proofs.Common.{◌≡◌, ℕ, ℤ, List, ◌∷◌, ◌++◌, Option, Result, Ok, ap, ◌∙◌}
use Rattle.line_text.specs.WordText.{word_text}
use Rattle.policy_model.specs.Contents.{IsRuleText}
use Rattle.policy_model.specs.Texts.{kind_text, verdict_word, priority_text, expiry_text, flags_text}
use Rattle.policy_model.specs.Laws.{PlacesStand}
use Rattle.line_model.specs.LineFaults.{LineFault, bad_line, bad_priority, bad_moment, bad_label}
use Rattle.line_model.specs.Words.{kind_word, allow_word, priority_word, expiry_word, label_word, flags_word}
use Rattle.line_model.specs.Left.{Left, ◌>>=◌}
use Rattle.line_model.specs.Forms.{allow_at, expiry_at, label_at, flags_at}
use Rattle.line_model.specs.Fronts.{Terms, terms_at, Front, front_at}
use Rattle.line_model.specs.Requirements.{text_at}
use Rattle.line_model.specs.Contents.{adds, add_at}
use Rattle.line_laws.specs.Limits.{IsLabel, IsExpiry, IsPriority}
use Rattle.line_laws.proofs.Numbers.{expiry_back}
use Rattle.line_laws.proofs.Priorities.{priority_back}
use Rattle.line_laws.proofs.NoSpaces.{in_kind, in_verdict, in_expiry, in_priority, in_word, in_flags}
use Rattle.line_laws.proofs.OtherWords.{kind_back, allow_back, label_back, flags_back}
use Rattle.line_laws.proofs.Steps.{from, past, value_step, text_on}

pub record AreWithin (t : Terms) : Type 0 where
  pub priority : IsPriority t.priority
  pub expires : IsExpiry t.expires
  pub label : IsLabel t.label

-- the words of terms, one by one, and what is behind them
abbrev pub flags_line : Terms → List ℕ → List ℕ
flags_line t rest = flags_text t.flags.is_default t.flags.inhibit ++ 32 ∷ rest

abbrev pub label_line : Terms → List ℕ → List ℕ
label_line t rest = word_text t.label ++ 32 ∷ flags_line t rest

abbrev pub expires_line : Terms → List ℕ → List ℕ
expires_line t rest = expiry_text t.expires ++ 32 ∷ label_line t rest

abbrev pub terms_line : Terms → List ℕ → List ℕ
terms_line t rest = priority_text t.priority ++ 32 ∷ expires_line t rest

-- the words of a front
abbrev pub allow_line : Front → List ℕ → List ℕ
allow_line f rest = verdict_word f.allow ++ 32 ∷ terms_line f.terms rest

abbrev pub front_line : Front → List ℕ → List ℕ
front_line f rest = kind_text f.kind ++ 32 ∷ allow_line f rest

-- the steps of terms, one behind the other
abbrev flags_step : ℤ → Option ℕ → List ℕ → Left → Result (Terms × Left) LineFault
flags_step p e l left = do
  flags ← flags_at left
  Ok (record { priority = p; expires = e; label = l; flags = flags.0 }, flags.1)

abbrev label_step : ℤ → Option ℕ → Left → Result (Terms × Left) LineFault
label_step p e left = do
  label ← label_at left
  flags_step p e label.0 label.1

abbrev expires_step : ℤ → Left → Result (Terms × Left) LineFault
expires_step p left = do
  expires ← expiry_at left
  label_step p expires.0 expires.1

abbrev after_expires : ℕ → Terms → ℕ
after_expires column t = past (past column (priority_text t.priority)) (expiry_text t.expires)

abbrev pub past_terms : ℕ → Terms → ℕ
past_terms column t = past (past (after_expires column t) (word_text t.label)) (flags_text t.flags.is_default t.flags.inhibit)

flags_on : (column : ℕ) (t : Terms) (rest : List ℕ) → flags_step t.priority t.expires t.label (from column (flags_line t rest)) ≡ Ok (t, from (past column (flags_text t.flags.is_default t.flags.inhibit)) rest)
flags_on column t rest =
    value_step flags_word (bad_line column) column (flags_text t.flags.is_default t.flags.inhibit) rest t.flags
    (λ flags. Ok (record { priority = t.priority; expires = t.expires; label = t.label; flags = flags.0 }, flags.1))
    (in_flags t.flags.is_default t.flags.inhibit) (flags_back t.flags.is_default t.flags.inhibit)

label_on : (column : ℕ) (t : Terms) (rest : List ℕ) → IsLabel t.label
    → label_step t.priority t.expires (from column (label_line t rest)) ≡ Ok (t, from (past (past column (word_text t.label)) (flags_text t.flags.is_default t.flags.inhibit)) rest)
label_on column t rest h =
    value_step label_word bad_label column (word_text t.label) (flags_line t rest) t.label (λ label. flags_step t.priority t.expires label.0 label.1) (in_word t.label) (label_back t.label h)
    ∙ flags_on (past column (word_text t.label)) t rest

expires_on : (column : ℕ) (t : Terms) (rest : List ℕ) → IsExpiry t.expires → IsLabel t.label
    → expires_step t.priority (from column (expires_line t rest)) ≡ Ok (t, from (past (past (past column (expiry_text t.expires)) (word_text t.label)) (flags_text t.flags.is_default t.flags.inhibit)) rest)
expires_on column t rest e l =
    value_step expiry_word bad_moment column (expiry_text t.expires) (label_line t rest) t.expires (λ expires. label_step t.priority expires.0 expires.1) (in_expiry t.expires e) (expiry_back t.expires e)
    ∙ label_on (past column (expiry_text t.expires)) t rest l

module _ (stand : PlacesStand) where
  terms_on : (column : ℕ) (t : Terms) (rest : List ℕ) → AreWithin t → terms_at (from column (terms_line t rest)) ≡ Ok (t, from (past_terms column t) rest)
  terms_on column t rest h =
      value_step priority_word bad_priority column (priority_text t.priority) (expires_line t rest) t.priority (λ priority. expires_step priority.0 priority.1)
      (in_priority stand t.priority h.priority) (priority_back stand t.priority h.priority)
      ∙ expires_on (past column (priority_text t.priority)) t rest h.expires h.label

  abbrev pub past_front : ℕ → Front → ℕ
  past_front column f = past_terms (past (past column (kind_text f.kind)) (verdict_word f.allow)) f.terms

  front_on : (column : ℕ) (f : Front) (rest : List ℕ) → AreWithin f.terms → front_at (from column (front_line f rest)) ≡ Ok (f, from (past_front column f) rest)
  front_on column f rest h =
      value_step kind_word (bad_line column) column (kind_text f.kind) (allow_line f rest) f.kind
      (λ kind. allow_at kind.1 >>= (λ allow. terms_at allow.1 >>= (λ terms. Ok (record { kind = kind.0; allow = allow.0; terms = terms.0 }, terms.1))))
      (in_kind f.kind) (kind_back f.kind)
      ∙ value_step allow_word (bad_line (past column (kind_text f.kind))) (past column (kind_text f.kind)) (verdict_word f.allow) (terms_line f.terms rest) f.allow
      (λ allow. terms_at allow.1 >>= (λ terms. Ok (record { kind = f.kind; allow = allow.0; terms = terms.0 }, terms.1)))
      (in_verdict f.allow) (allow_back f.allow)
      ∙ ap (λ (r : Result (Terms × Left) LineFault). r >>= (λ terms. Ok (record { kind = f.kind; allow = f.allow; terms = terms.0 }, terms.1))) (terms_on (past (past column (kind_text f.kind)) (verdict_word f.allow)) f.terms rest h)

  pub add_on : (column : ℕ) (f : Front) (text : List ℕ) → AreWithin f.terms → IsRuleText text → add_at (from column (front_line f text)) ≡ Ok (adds f text)
  add_on column f text h within =
      ap (λ (r : Result (Front × Left) LineFault). r >>= (λ front. text_at front.1 >>= (λ text. Ok (adds front.0 text)))) (front_on column f text h)
      ∙ ap (λ (r : Result (List ℕ) LineFault). r >>= (λ text. Ok (adds f text))) (text_on (past_front column f) text within)
