-- Operands without subtrees that a reserved word begins, read from the front of a list of terminals: the key of each
-- certificate's test is taken as a field's.
use Rattle.std.specs.Prelude.{ℕ, ℤ, negsuc, List, Option, Some, None, Ok}
use Rattle.req_tree.specs.Tree as t
use Rattle.req_tree.specs.Tree.{Tree}
use Rattle.req_grammar.specs.Words as w
use Rattle.req_grammar.specs.Words.{Sign, Word}
use Rattle.req_grammar.specs.Terminals.{Terminal, sign, word, str}
use Rattle.req_primary.specs.Steps.{Reading, Reader, ◌>>=◌, refused, cut, first_at, left_bracket_at, right_bracket_at, equal_at, text_at, hash_at, sign_first}
use Rattle.req_primary.specs.Tests.{number_at, slot_at, test_at}

-- a key in brackets
unfoldable pub key_at : ℕ → Reader (List ℕ)
key_at size here = do
  rest ← left_bracket_at size here
  key ← text_at size rest
  behind ← right_bracket_at size key.1
  Ok (key.0, behind)

-- a key and a test of the information list
unfoldable pub info_at : ℕ → Reader Tree
info_at size here = do
  key ← key_at size here
  test ← test_at size key.1
  Ok (t.info_field key.0 test.0, test.1)

-- a key and a test of the entitlements
unfoldable pub entitlement_at : ℕ → Reader Tree
entitlement_at size here = do
  key ← key_at size here
  test ← test_at size key.1
  Ok (t.entitlement_field key.0 test.0, test.1)

-- a key and a test of the certificate in a slot
unfoldable pub cert_key_at : ℕ → ℤ → Reader Tree
cert_key_at size slot here = do
  key ← key_at size here
  test ← test_at size key.1
  Ok (t.cert_field slot key.0 test.0, test.1)

-- what follows the symbol where it is an equals sign, else the list as it stands
abbrev pub behind_sign : List Terminal → Sign → List Terminal → List Terminal
behind_sign here w.equal rest = rest
behind_sign here other rest = here

-- the same, from the symbol at the front, where one stands there
abbrev pub behind_equal_of : List Terminal → Option (Sign × List Terminal) → List Terminal
behind_equal_of here None = here
behind_equal_of here (Some x) = behind_sign here x.0 x.1

-- the list behind an equals sign, or as it stands where none is there
unfoldable pub behind_equal : List Terminal → List Terminal
behind_equal here = behind_equal_of here (sign_first here)

-- a string that the identifier is, with an equals sign before it or none
unfoldable pub ident_at : ℕ → Reader Tree
ident_at size here = text_at size (behind_equal here) >>= λ x. Ok (t.ident x.0, x.1)

-- a hash that is the code directory's
unfoldable pub cd_hash_at : ℕ → Reader Tree
cd_hash_at size here = hash_at size here >>= λ x. Ok (t.cd_hash x.0, x.1)

-- a number that the platform is, behind an equals sign
unfoldable pub platform_at : ℕ → Reader Tree
platform_at size here = do
  rest ← equal_at size here
  number ← number_at size rest
  Ok (t.platform number.0, number.1)

-- the hash of the certificate in a slot
unfoldable pub anchor_hash_at : ℕ → ℤ → Reader Tree
anchor_hash_at size slot here = hash_at size here >>= λ x. Ok (t.anchor_hash slot x.0, x.1)

-- what is asked of the certificate in a slot, where a symbol stands first: its hash, or a key and a test
abbrev pub slotted_of_sign : ℕ → ℤ → List Terminal → Sign → List Terminal → Reading Tree
slotted_of_sign size slot here w.equal rest = anchor_hash_at size slot rest
slotted_of_sign size slot here other rest = cert_key_at size slot here

-- the same where a word stands first: that the certificate is trusted
abbrev pub slotted_of_word : ℕ → ℤ → List Terminal → Word → List Terminal → Reading Tree
slotted_of_word size slot here w.trusted rest = Ok (t.trusted_cert slot, rest)
slotted_of_word size slot here other rest = refused size here

-- what is asked of the certificate in a slot, from the first terminal
abbrev pub slotted_of : ℕ → ℤ → List Terminal → Terminal → List Terminal → Reading Tree
slotted_of size slot here (word c) rest = slotted_of_word size slot here c rest
slotted_of size slot here (sign s) rest = slotted_of_sign size slot here s rest
slotted_of size slot here other rest = refused size here

-- what is asked of the certificate in a slot
unfoldable pub slotted_at : ℕ → ℤ → Reader Tree
slotted_at size slot here = first_at size here >>= λ x. slotted_of size slot here x.0 x.1

-- a slot, and what is asked of the certificate in it
unfoldable pub cert_at : ℕ → Reader Tree
cert_at size here = slot_at size here >>= λ x. slotted_at size x.0 x.1

-- any certificate below Apple's anchor where the word says so, else the anchor alone
abbrev pub apple_of_word : List Terminal → Word → List Terminal → Reading Tree
apple_of_word here w.generic rest = Ok (t.apple_generic, rest)
apple_of_word here other rest = Ok (t.apple_anchor, here)

-- which of Apple's anchors is meant, from the terminal at the front
abbrev pub apple_of : List Terminal → Terminal → List Terminal → Reading Tree
apple_of here (word c) rest = apple_of_word here c rest
apple_of here (str s) rest = Ok (t.named_anchor s, rest)
apple_of here other rest = Ok (t.apple_anchor, here)

-- the same, where there may be no terminal: then it is Apple's anchor alone
abbrev pub apple_by : List Terminal → Option (Terminal × List Terminal) → Reading Tree
apple_by here None = Ok (t.apple_anchor, here)
apple_by here (Some x) = apple_of here x.0 x.1

-- Apple's anchor, any certificate below it, or one by its name
unfoldable pub apple_at : Reader Tree
apple_at here = apple_by here (cut here)

-- what is asked of the anchor, where a word stands first: that it is Apple's, or that any is trusted
abbrev pub anchor_of_word : ℕ → List Terminal → Word → List Terminal → Reading Tree
anchor_of_word size here w.apple rest = apple_at rest
anchor_of_word size here w.trusted rest = Ok (t.trusted_any, rest)
anchor_of_word size here other rest = refused size here

-- what is asked of the anchor, from the first terminal; a symbol asks it of the last certificate
abbrev pub anchor_of : ℕ → List Terminal → Terminal → List Terminal → Reading Tree
anchor_of size here (word c) rest = anchor_of_word size here c rest
anchor_of size here (sign s) rest = slotted_of_sign size (negsuc 0) here s rest
anchor_of size here other rest = refused size here

-- what is asked of the anchor
unfoldable pub anchor_at : ℕ → Reader Tree
anchor_at size here = first_at size here >>= λ x. anchor_of size here x.0 x.1

-- what a reserved word begins, which is the first of the list, and the rest stands behind it
unfoldable pub primary_at : ℕ → Word → List Terminal → List Terminal → Reading Tree
primary_at size w.always here rest = Ok (t.always, rest)
primary_at size w.true here rest = Ok (t.always, rest)
primary_at size w.never here rest = Ok (t.never, rest)
primary_at size w.false here rest = Ok (t.never, rest)
primary_at size w.identifier here rest = ident_at size rest
primary_at size w.cdhash here rest = cd_hash_at size rest
primary_at size w.platform here rest = platform_at size rest
primary_at size w.notarized here rest = Ok (t.notarized, rest)
primary_at size w.legacy here rest = Ok (t.legacy_dev_id, rest)
primary_at size w.anchor here rest = anchor_at size rest
primary_at size w.certificate here rest = cert_at size rest
primary_at size w.cert here rest = cert_at size rest
primary_at size w.info here rest = info_at size rest
primary_at size w.entitlement here rest = entitlement_at size rest
primary_at size other here rest = refused size here
