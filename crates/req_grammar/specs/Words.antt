-- The symbols and reserved words of requirement text, with their bytes.
-- (The language is Apple's Code Signing Requirement Language; the choice of words is this project's own.)
use Rattle.std.specs.Prelude.{ℕ, List, [], ◌∷◌, Option, Some, None, if◌then◌else◌, codes}
use Rattle.std.specs.Str.{bytes_eq}

-- the symbols, each named for its look
pub data Sign : Type 0 where
  left_paren : Sign
  right_paren : Sign
  left_bracket : Sign
  right_bracket : Sign
  bang : Sign
  equal : Sign
  arrow : Sign
  less : Sign
  less_equal : Sign
  greater : Sign
  greater_equal : Sign
  tilde : Sign
  star : Sign
  dash : Sign

-- the reserved words, each named as it is written
pub data Word : Type 0 where
  always : Word
  true : Word
  never : Word
  false : Word
  identifier : Word
  cdhash : Word
  anchor : Word
  apple : Word
  generic : Word
  trusted : Word
  certificate : Word
  cert : Word
  leaf : Word
  root : Word
  info : Word
  entitlement : Word
  platform : Word
  notarized : Word
  legacy : Word
  exists : Word
  absent : Word
  and : Word
  or : Word
  host : Word
  guest : Word
  designated : Word
  library : Word
  plugin : Word

-- each symbol under its bytes
abbrev pub signs : List (List ℕ × Sign)
signs =
    (codes "(", left_paren) ∷ (codes ")", right_paren) ∷ (codes "[", left_bracket) ∷ (codes "]", right_bracket)
    ∷ (codes "!", bang) ∷ (codes "=", equal) ∷ (codes "=>", arrow) ∷ (codes "<", less) ∷ (codes "<=", less_equal)
    ∷ (codes ">", greater) ∷ (codes ">=", greater_equal) ∷ (codes "~", tilde) ∷ (codes "*", star) ∷ (codes "-", dash) ∷ []

-- each reserved word under its bytes
abbrev pub reserved : List (List ℕ × Word)
reserved =
    (codes "always", always) ∷ (codes "true", true) ∷ (codes "never", never) ∷ (codes "false", false)
    ∷ (codes "identifier", identifier) ∷ (codes "cdhash", cdhash) ∷ (codes "anchor", anchor) ∷ (codes "apple", apple)
    ∷ (codes "generic", generic) ∷ (codes "trusted", trusted) ∷ (codes "certificate", certificate) ∷ (codes "cert", cert)
    ∷ (codes "leaf", leaf) ∷ (codes "root", root) ∷ (codes "info", info) ∷ (codes "entitlement", entitlement)
    ∷ (codes "platform", platform) ∷ (codes "notarized", notarized) ∷ (codes "legacy", legacy) ∷ (codes "exists", exists)
    ∷ (codes "absent", absent) ∷ (codes "and", and) ∷ (codes "or", or) ∷ (codes "host", host) ∷ (codes "guest", guest)
    ∷ (codes "designated", designated) ∷ (codes "library", library) ∷ (codes "plugin", plugin) ∷ []

-- what stands under these bytes, if anything
abbrev pub under : {A : Type 0} → List ℕ → List (List ℕ × A) → Option A
under bytes [] = None
under bytes (entry ∷ rest) = if bytes_eq entry.0 bytes then Some entry.1 else under bytes rest
