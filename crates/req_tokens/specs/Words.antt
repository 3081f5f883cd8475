-- The program's symbols and reserved words as those of the definitions.
use Rattle.std.specs.Prelude.{ℕ, List, take, drop}
use Rattle.req_grammar.specs.Words as w
use Rattle.req_grammar.specs.Words.{reserved}
use Rattle.req_tokens.specs.declared.word.Sign.{Sign}
use Rattle.req_tokens.specs.declared.word.Sign.TheVariants as s
use Rattle.req_tokens.specs.declared.word.Word.{Word}
use Rattle.req_tokens.specs.declared.word.Word.TheVariants as r

-- the definitions' symbol for the program's
abbrev pub plain_sign : Sign → w.Sign
plain_sign s.LeftParen = w.left_paren
plain_sign s.RightParen = w.right_paren
plain_sign s.LeftBracket = w.left_bracket
plain_sign s.RightBracket = w.right_bracket
plain_sign s.Bang = w.bang
plain_sign s.Equal = w.equal
plain_sign s.Arrow = w.arrow
plain_sign s.Less = w.less
plain_sign s.LessEqual = w.less_equal
plain_sign s.Greater = w.greater
plain_sign s.GreaterEqual = w.greater_equal
plain_sign s.Tilde = w.tilde
plain_sign s.Star = w.star
plain_sign s.Dash = w.dash

-- the definitions' reserved word for the program's
abbrev pub plain_word : Word → w.Word
plain_word r.Always = w.always
plain_word r.True = w.true
plain_word r.Never = w.never
plain_word r.False = w.false
plain_word r.Identifier = w.identifier
plain_word r.Cdhash = w.cdhash
plain_word r.Anchor = w.anchor
plain_word r.Apple = w.apple
plain_word r.Generic = w.generic
plain_word r.Trusted = w.trusted
plain_word r.Certificate = w.certificate
plain_word r.Cert = w.cert
plain_word r.Leaf = w.leaf
plain_word r.Root = w.root
plain_word r.Info = w.info
plain_word r.Entitlement = w.entitlement
plain_word r.Platform = w.platform
plain_word r.Notarized = w.notarized
plain_word r.Legacy = w.legacy
plain_word r.Exists = w.exists
plain_word r.Absent = w.absent
plain_word r.And = w.and
plain_word r.Or = w.or
plain_word r.Host = w.host
plain_word r.Guest = w.guest
plain_word r.Designated = w.designated
plain_word r.Library = w.library
plain_word r.Plugin = w.plugin

-- the reserved words in two halves
abbrev pub early : List (List ℕ × w.Word)
early = take 14 reserved

-- the second half: the reserved words after the first fourteen
abbrev pub late : List (List ℕ × w.Word)
late = drop 14 reserved
