-- The line in a form. URL Standard, section 5, as `form_urlencoded` reads it; that it is the one pair `line` is this project's own.
use Rattle.std.specs.Prelude.{ℕ, List, [], ◌∷◌, Option, Some, None, if◌then◌else◌, codes, bytes_eq}
use Rattle.std.specs.Str.Lossy.{utf8_lossy}
use Rattle.form_urlencoded.specs.Form.{raw_pairs, decode}

-- the one item of a list
abbrev pub only : {A : Type 0} → List A → Option A
only [] = None
only (x ∷ []) = Some x
only (x ∷ y ∷ rest) = None

-- the text that an encoded name or value stands for; bytes that aren't UTF-8 are read as U+FFFD
abbrev pub text_of : List ℕ → List ℕ
text_of encoded = utf8_lossy (decode encoded)

-- the value of the pair that is named line
abbrev pub named_line : Option (List ℕ × List ℕ) → Option (List ℕ)
named_line None = None
named_line (Some pair) = if bytes_eq (text_of pair.0) (codes "line") then Some (text_of pair.1) else None

-- the line in a form of just one pair, whose name is line
abbrev pub form_line : List ℕ → Option (List ℕ)
form_line body = named_line (only (raw_pairs body))
