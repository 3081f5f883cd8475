-- The words of a selector are read back in a line.
use Rattle.std.proofs.Common.{◌≡◌, ℕ, List, ◌∷◌, ◌++◌, Option, Result, Ok, codes, decimal, refl, ap, ◌∙◌, arith}
use Rattle.line_text.specs.WordText.{word_text}
use Rattle.policy_model.specs.Rules.{Kind}
use Rattle.policy_model.specs.Contents.{Which, by_id, by_label, Selector}
use Rattle.policy_model.specs.Texts.{which_text, any_kind_text}
use Rattle.line_model.specs.LineFaults.{LineFault, bad_line, bad_label}
use Rattle.line_model.specs.Words.{any_kind_word, name_word, rule_word}
use Rattle.line_model.specs.Left.{Left, ◌>>=◌}
use Rattle.line_model.specs.Forms.{any_kind_at}
use Rattle.line_model.specs.Selectors.{as_which, which_by, which_at, selector_at}
use Rattle.line_laws.specs.Limits.{IsName}
use Rattle.line_laws.proofs.NoSpaces.{by_test, in_decimal, in_word, in_any_kind}
use Rattle.line_laws.proofs.OtherWords.{any_kind_back, name_back, rule_back}
use Rattle.line_laws.proofs.Steps.{from, done_at, past, word_step, value_on, value_step, value_last}

abbrev pub past_which : ℕ → Which → ℕ
past_which column (by_id n) = past (past column (codes "id")) (decimal n)
past_which column (by_label l) = past (past column (codes "label")) (word_text l)

which_on : (column : ℕ) (w : Which) (rest : List ℕ) → IsName w → which_at (from column (which_text w ++ 32 ∷ rest)) ≡ Ok (w, from (past_which column w) rest)
which_on column (by_id n) rest h =
    word_step column (codes "id") (decimal n ++ 32 ∷ rest) (which_by (from column (codes "id" ++ 32 ∷ decimal n ++ 32 ∷ rest))) (by_test (codes "id") refl)
    ∙ ap (as_which by_id) (value_on rule_word (bad_line (past column (codes "id"))) (past column (codes "id")) (decimal n) rest n (in_decimal n (omega (arith, h.1))) (rule_back n h.0 h.1))
which_on column (by_label l) rest h =
    word_step column (codes "label") (word_text l ++ 32 ∷ rest) (which_by (from column (codes "label" ++ 32 ∷ word_text l ++ 32 ∷ rest))) (by_test (codes "label") refl)
    ∙ ap (as_which by_label) (value_on name_word bad_label (past column (codes "label")) (word_text l) rest l (in_word l) (name_back l h.0 h.1))

-- a selector's words, where this is left behind it
abbrev pub selector_line : Selector → List ℕ → List ℕ
selector_line s rest = which_text s.which ++ 32 ∷ (any_kind_text s.kind ++ 32 ∷ rest)

abbrev pub last_selector : Selector → List ℕ
last_selector s = which_text s.which ++ 32 ∷ any_kind_text s.kind

abbrev pub past_selector : ℕ → Selector → ℕ
past_selector column s = past (past_which column s.which) (any_kind_text s.kind)

abbrev selected : Which → Option Kind × Left → Result (Selector × Left) LineFault
selected which kind = Ok (record { which = which; kind = kind.0 }, kind.1)

abbrev kind_step : Which × Left → Result (Selector × Left) LineFault
kind_step which = any_kind_at which.1 >>= selected which.0

pub selector_on : (column : ℕ) (s : Selector) (rest : List ℕ) → IsName s.which → selector_at (from column (selector_line s rest)) ≡ Ok (s, from (past_selector column s) rest)
selector_on column s rest h =
    ap (λ (r : Result (Which × Left) LineFault). r >>= kind_step) (which_on column s.which (any_kind_text s.kind ++ 32 ∷ rest) h)
    ∙ value_step any_kind_word (bad_line (past_which column s.which)) (past_which column s.which) (any_kind_text s.kind) rest s.kind (selected s.which)
    (in_any_kind s.kind) (any_kind_back s.kind)

pub selector_last : (column : ℕ) (s : Selector) → IsName s.which → selector_at (from column (last_selector s)) ≡ Ok (s, done_at (past_selector column s))
selector_last column s h =
    ap (λ (r : Result (Which × Left) LineFault). r >>= kind_step) (which_on column s.which (any_kind_text s.kind) h)
    ∙ ap (λ (r : Result (Option Kind × Left) LineFault). r >>= selected s.which)
    (value_last any_kind_word (bad_line (past_which column s.which)) (past_which column s.which) (any_kind_text s.kind) s.kind (in_any_kind s.kind) (any_kind_back s.kind))
