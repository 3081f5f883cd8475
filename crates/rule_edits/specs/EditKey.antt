-- What an edit key holds.
use Rattle.std.specs.Prelude.{ℕ, List}
use Rattle.rule_edits.specs.declared.edit_key.EditKey.{EditKey}

-- the bytes of a key
abbrev pub key_bytes : EditKey → List ℕ
key_bytes key = key.bytes.items
