-- A rule's flags as plain data.
use Rattle.line_model.specs.Words as model
use Rattle.line_words.specs.declared.flags.Flags.{Flags}

-- the flags of the definitions
abbrev pub flags_of : Flags → model.Flags
flags_of f = record { is_default = f.is_default; inhibit = f.inhibit }
