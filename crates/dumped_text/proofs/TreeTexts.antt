-- The text of a tree is cut into its terminals.
use Rattle.std.proofs.Common.{◌≡◌, ℕ, ℤ, Bool, true, false, not, ◌==◌, List, [], ◌∷◌, ◌++◌, length, codes, decimal, refl, sym, ap, subst, append_assoc, arith}
use Rattle.std.proofs.lemmas.Bool.Decides.{nat_tests}
use Rattle.std.specs.Prelude.{FitsSigned}
use Rattle.std.specs.Int.{w32, to_be_bytes}
use Rattle.std.specs.List.{list_all}
use Rattle.std.specs.Fmt.{signed_decimal}
use Rattle.std.proofs.lemmas.List.{append-nil}
use Rattle.hex.specs.Hex.{encode_lower}
use Rattle.req_tree.specs.declared.matching.Match.{Match}
use Rattle.req_tree.specs.declared.matching.Match.TheVariants as m
use Rattle.req_tree.specs.Tree as t
use Rattle.req_tree.specs.Tree.{Tree}
use Rattle.req_tree.specs.Oid.{IsBytes}
use Rattle.req_tree.specs.NumericOrder.{is_digit}
use Rattle.req_grammar.specs.Words as w
use Rattle.req_grammar.specs.Words.{Word}
use Rattle.req_grammar.specs.Tokens.{Token, Tokens, is_hex_digit, goes_on}
use Rattle.req_grammar.specs.Terminals.{Terminal, sign, word, str, hash, terminals}
use Rattle.dumped_text.specs.Dumped.{Place, alone, beside_and, behind_bang, string_text, key_text, hash_text, slot_text, oid_text, test_text, keyed_text, cert_text, opcode_text, in_parens, or_text, and_text, dumped_at, dumped}
use Rattle.dumped_text.specs.Said.{number_said, slot_said, test_said, keyed_said, in_parens_said, or_said, and_said, said_at, said}
use Rattle.dumped_text.specs.Sayable.{IsTest, IsHash, IsKept, IsSayable}
use Rattle.dumped_text.proofs.Bools.{both_hold, all_wider, all_append}
use Rattle.dumped_text.proofs.Cutting.{Cut, end, tokens_told}
use Rattle.dumped_text.proofs.Pieces.{Stops, Loose, Piece, piece_piece, loose_piece, loose_loose, piece_loose, as_piece, space, comment, lone, is_lone, spaced, word_piece, word_space}
use Rattle.dumped_text.proofs.HexTexts.{digits_are, hash_loose, word_bytes}
use Rattle.dumped_text.proofs.NumberTexts.{decimal_run, signed_piece, slot_piece}
use Rattle.dumped_text.proofs.StringTexts.{string_piece, key_piece, field_piece, policy_piece}

-- ---- symbols and words as they stand in a text

left_paren : Loose (codes "(") (sign w.left_paren ∷ [])
left_paren = lone 40 (is_lone 40 refl refl refl refl refl refl)

right_paren : Loose (codes ")") (sign w.right_paren ∷ [])
right_paren = lone 41 (is_lone 41 refl refl refl refl refl refl)

left_bracket : Loose (codes "[") (sign w.left_bracket ∷ [])
left_bracket = lone 91 (is_lone 91 refl refl refl refl refl refl)

right_bracket : Loose (codes "]") (sign w.right_bracket ∷ [])
right_bracket = lone 93 (is_lone 93 refl refl refl refl refl refl)

star : Loose (codes "*") (sign w.star ∷ [])
star = lone 42 (is_lone 42 refl refl refl refl refl refl)

bang : Loose (codes "! ") (sign w.bang ∷ [])
bang = loose_loose (codes "!") (32 ∷ []) (sign w.bang ∷ []) [] (lone 33 (is_lone 33 refl refl refl refl refl refl)) space

-- a symbol between spaces
between : (front : List ℕ) (said : List Terminal) → Loose (front ++ 32 ∷ []) said → Loose (32 ∷ front ++ 32 ∷ []) said
between front said h = loose_loose (32 ∷ []) (front ++ 32 ∷ []) [] said space h

equal : Loose (codes " = ") (sign w.equal ∷ [])
equal = between (codes "=") (sign w.equal ∷ []) (spaced (codes "=") refl (λ rest. refl) (λ more. refl))

less : Loose (codes " < ") (sign w.less ∷ [])
less = between (codes "<") (sign w.less ∷ []) (spaced (codes "<") refl (λ rest. refl) (λ more. refl))

greater : Loose (codes " > ") (sign w.greater ∷ [])
greater = between (codes ">") (sign w.greater ∷ []) (spaced (codes ">") refl (λ rest. refl) (λ more. refl))

less_equal : Loose (codes " <= ") (sign w.less_equal ∷ [])
less_equal = between (codes "<=") (sign w.less_equal ∷ []) (spaced (codes "<=") refl (λ rest. refl) (λ more. refl))

greater_equal : Loose (codes " >= ") (sign w.greater_equal ∷ [])
greater_equal = between (codes ">=") (sign w.greater_equal ∷ []) (spaced (codes ">=") refl (λ rest. refl) (λ more. refl))

tilde : Loose (codes " ~ ") (sign w.tilde ∷ [])
tilde = between (codes "~") (sign w.tilde ∷ []) (spaced (codes "~") refl (λ rest. refl) (λ more. refl))

pub arrow : Loose (codes " => ") (sign w.arrow ∷ [])
arrow = between (codes "=>") (sign w.arrow ∷ []) (spaced (codes "=>") refl (λ rest. refl) (λ more. refl))

-- a word between spaces
pub spaced_word : (front : List ℕ) (said : List Terminal) → Loose (front ++ 32 ∷ []) said → Loose (32 ∷ front ++ 32 ∷ []) said
spaced_word front said h = loose_loose (32 ∷ []) (front ++ 32 ∷ []) [] said space h

and_word : Loose (codes " and ") (word w.and ∷ [])
and_word = spaced_word (codes "and") (word w.and ∷ []) (word_space (codes "and") refl)

or_word : Loose (codes " or ") (word w.or ∷ [])
or_word = spaced_word (codes "or") (word w.or ∷ []) (word_space (codes "or") refl)

-- ---- what is asked of a value, and of which

pub string_behind : (front : List ℕ) (said : List Terminal) (s : List ℕ) → Loose front said → IsBytes s → Piece (front ++ string_text s) (said ++ str s ∷ [])
string_behind front said s h bytes = loose_piece front (string_text s) said (str s ∷ []) h (string_piece s bytes)

test_piece : (test : Match) → IsTest test → Piece (test_text test) (test_said test)
test_piece m.Exists h = as_piece (codes " /* exists */") [] (loose_loose (32 ∷ []) (codes "/* exists */") [] [] space (comment (codes " exists ") refl))
test_piece m.Absent h = loose_piece (32 ∷ []) (codes "absent") [] (word w.absent ∷ []) space (word_piece (codes "absent") refl)
test_piece (m.Equal s) h = string_behind (codes " = ") (sign w.equal ∷ []) s equal h
test_piece (m.Contains s) h = string_behind (codes " ~ ") (sign w.tilde ∷ []) s tilde h
test_piece (m.Begins s) h =
    as_piece (codes " = " ++ string_text s ++ codes "*") (sign w.equal ∷ str s ∷ sign w.star ∷ [])
    (piece_loose (codes " = " ++ string_text s) (codes "*") (sign w.equal ∷ str s ∷ []) (sign w.star ∷ []) (string_behind (codes " = ") (sign w.equal ∷ []) s equal h) (λ rest. refl) star)
test_piece (m.Ends s) h =
    string_behind (codes " = *") (sign w.equal ∷ sign w.star ∷ []) s
    (loose_loose (codes " = ") (codes "*") (sign w.equal ∷ []) (sign w.star ∷ []) equal star) h
test_piece (m.Less s) h = string_behind (codes " < ") (sign w.less ∷ []) s less h
test_piece (m.Greater s) h = string_behind (codes " > ") (sign w.greater ∷ []) s greater h
test_piece (m.LessEqual s) h = string_behind (codes " <= ") (sign w.less_equal ∷ []) s less_equal h
test_piece (m.GreaterEqual s) h = string_behind (codes " >= ") (sign w.greater_equal ∷ []) s greater_equal h

-- a key in brackets, however it is written, and what is asked of its value
keyed_piece : (text key : List ℕ) (test : Match) → Piece text (str key ∷ []) → IsTest test → Piece (keyed_text text test) (keyed_said key test)
keyed_piece text key test h is =
    loose_piece (codes "[" ++ text ++ codes "]") (test_text test) (sign w.left_bracket ∷ str key ∷ sign w.right_bracket ∷ []) (test_said test)
    (piece_loose (codes "[" ++ text) (codes "]") (sign w.left_bracket ∷ str key ∷ []) (sign w.right_bracket ∷ [])
    (loose_piece (codes "[") text (sign w.left_bracket ∷ []) (str key ∷ []) left_bracket h) (λ rest. refl) right_bracket)
    (test_piece test is)

-- ---- a certificate by its place

cert_piece : (slot : ℤ) → FitsSigned w32 slot → Piece (cert_text slot) (word w.certificate ∷ slot_said slot)
cert_piece slot h = loose_piece (codes "certificate ") (slot_text slot) (word w.certificate ∷ []) (slot_said slot) (word_space (codes "certificate") refl) (slot_piece slot h)

cert_keyed : (slot : ℤ) (text key : List ℕ) (test : Match) → FitsSigned w32 slot → Piece text (str key ∷ []) → IsTest test
    → Piece (cert_text slot ++ keyed_text text test) (word w.certificate ∷ slot_said slot ++ keyed_said key test)
cert_keyed slot text key test h p is =
    piece_piece (cert_text slot) (keyed_text text test) (word w.certificate ∷ slot_said slot) (keyed_said key test)
    (cert_piece slot h) (λ rest stop. refl) (keyed_piece text key test p is)

word_keyed : (front : List ℕ) (w' : Word) (key : List ℕ) (test : Match) → Piece front (word w' ∷ []) → IsBytes key → IsTest test
    → Piece (front ++ keyed_text (key_text key) test) (word w' ∷ keyed_said key test)
word_keyed front w' key test h bytes is =
    piece_piece front (keyed_text (key_text key) test) (word w' ∷ []) (keyed_said key test) h (λ rest stop. refl) (keyed_piece (key_text key) key test (key_piece key bytes) is)

-- ---- comments

abbrev no_slash : ℕ → Bool
no_slash b = not (b == 47)

hex_no_slash : (b : ℕ) → is_hex_digit b ≡ true → no_slash b ≡ true
hex_no_slash b h = let e : (b == 47) ≡ false = grind (arith, nat_tests, h) in ap not e

digit_no_slash : (b : ℕ) → is_digit b ≡ true → no_slash b ≡ true
digit_no_slash b h = let e : (b == 47) ≡ false = grind (arith, nat_tests, h) in ap not e

opcode_no_slash : (op : ℕ) (skipped : List ℕ) → list_all no_slash (opcode_text op skipped) ≡ true
opcode_no_slash op skipped =
    all_append no_slash (codes "opcode 0x" ++ encode_lower (to_be_bytes w32 op) ++ codes ", " ++ decimal (length skipped)) (codes " bytes")
    (all_append no_slash (codes "opcode 0x" ++ encode_lower (to_be_bytes w32 op) ++ codes ", ") (decimal (length skipped))
    (all_append no_slash (codes "opcode 0x" ++ encode_lower (to_be_bytes w32 op)) (codes ", ")
    (all_append no_slash (codes "opcode 0x") (encode_lower (to_be_bytes w32 op)) refl (all_wider is_hex_digit no_slash hex_no_slash (encode_lower (to_be_bytes w32 op)) (digits_are (to_be_bytes w32 op) (word_bytes op)))) refl)
    (all_wider is_digit no_slash digit_no_slash (decimal (length skipped)) (both_hold (goes_on is_digit (decimal (length skipped))) _ (decimal_run (length skipped))).1))
    refl

-- a comment with an opcode in it; what stands before the opcode has no slash
opcode_comment : (front : List ℕ) (op : ℕ) (skipped : List ℕ) → list_all no_slash front ≡ true → Loose (codes "/*" ++ front ++ opcode_text op skipped ++ codes " */") []
opcode_comment front op skipped h =
    let inside = front ++ opcode_text op skipped ++ codes " " in
    let clean : list_all no_slash inside ≡ true = all_append no_slash (front ++ opcode_text op skipped) (codes " ") (all_append no_slash front (opcode_text op skipped) h (opcode_no_slash op skipped)) refl in
    let same : codes "/*" ++ inside ++ codes "*/" ≡ codes "/*" ++ front ++ opcode_text op skipped ++ codes " */" =
    append_assoc (codes "/*" ++ front ++ opcode_text op skipped) (codes " ") (codes "*/") in
    subst (λ l. Loose l []) same (comment inside clean)

-- ---- operators

parens_piece : (text : List ℕ) (said : List Terminal) → Piece text said → Piece (in_parens text) (in_parens_said said)
parens_piece text said h =
    as_piece (in_parens text) (in_parens_said said)
    (piece_loose (codes "(" ++ text) (codes ")") (sign w.left_paren ∷ said) (sign w.right_paren ∷ [])
    (loose_piece (codes "(") text (sign w.left_paren ∷ []) said left_paren h) (λ rest. refl) right_paren)

joined_piece : (a op b : List ℕ) (x y : List Terminal) (w' : Word) → Piece a x → ((rest : List ℕ) → Stops (op ++ rest)) → Loose op (word w' ∷ []) → Piece b y
    → Piece (a ++ op ++ b) (x ++ word w' ∷ y)
joined_piece a op b x y w' h stop o k =
    subst (λ l. Piece l (x ++ word w' ∷ y)) (sym (append_assoc a op b))
    (piece_piece a (op ++ b) x (word w' ∷ y) h
    (λ rest _. subst Stops (sym (append_assoc op b rest)) (stop (b ++ rest)))
    (loose_piece op b (word w' ∷ []) y o k))

and_piece : (place : Place) (a b : List ℕ) (x y : List Terminal) → Piece a x → Piece b y → Piece (and_text place a b) (and_said place x y)
and_piece alone a b x y h k = joined_piece a (codes " and ") b x y w.and h (λ rest. refl) and_word k
and_piece beside_and a b x y h k = joined_piece a (codes " and ") b x y w.and h (λ rest. refl) and_word k
and_piece behind_bang a b x y h k = parens_piece (a ++ codes " and " ++ b) (x ++ word w.and ∷ y) (joined_piece a (codes " and ") b x y w.and h (λ rest. refl) and_word k)

or_piece : (place : Place) (a b : List ℕ) (x y : List Terminal) → Piece a x → Piece b y → Piece (or_text place a b) (or_said place x y)
or_piece alone a b x y h k = joined_piece a (codes " or ") b x y w.or h (λ rest. refl) or_word k
or_piece beside_and a b x y h k = parens_piece (a ++ codes " or " ++ b) (x ++ word w.or ∷ y) (joined_piece a (codes " or ") b x y w.or h (λ rest. refl) or_word k)
or_piece behind_bang a b x y h k = parens_piece (a ++ codes " or " ++ b) (x ++ word w.or ∷ y) (joined_piece a (codes " or ") b x y w.or h (λ rest. refl) or_word k)

-- ---- trees

two_words : (front back : List ℕ) (x y : Terminal) → Loose (front ++ 32 ∷ []) (x ∷ []) → Piece back (y ∷ []) → Piece (front ++ 32 ∷ [] ++ back) (x ∷ y ∷ [])
two_words front back x y h k = loose_piece (front ++ 32 ∷ []) back (x ∷ []) (y ∷ []) h k

skipped_false : (op : ℕ) (skipped : List ℕ) → Piece (codes "never /* " ++ opcode_text op skipped ++ codes " */") (word w.never ∷ [])
skipped_false op skipped =
    as_piece (codes "never /* " ++ opcode_text op skipped ++ codes " */") (word w.never ∷ [])
    (loose_loose (codes "never ") (codes "/* " ++ opcode_text op skipped ++ codes " */") (word w.never ∷ []) []
    (word_space (codes "never") refl) (opcode_comment (codes " ") op skipped refl))

skipped_next : (op : ℕ) (skipped text : List ℕ) (said : List Terminal) → Piece text said → Piece (codes "/* skipped " ++ opcode_text op skipped ++ codes " */ " ++ text) said
skipped_next op skipped text said h =
    loose_piece (codes "/* skipped " ++ opcode_text op skipped ++ codes " */ ") text [] said
    (subst (λ l. Loose l []) (append_assoc (codes "/* skipped " ++ opcode_text op skipped) (codes " */") (32 ∷ []))
    (loose_loose (codes "/* skipped " ++ opcode_text op skipped ++ codes " */") (32 ∷ []) [] [] (opcode_comment (codes " skipped ") op skipped refl) space))
    h

anchor_piece : (slot : ℤ) (value : List ℕ) → FitsSigned w32 slot → IsHash value
    → Piece (cert_text slot ++ codes " = " ++ hash_text value) (word w.certificate ∷ slot_said slot ++ sign w.equal ∷ hash value ∷ [])
anchor_piece slot value h is =
    subst (λ l. Piece l (word w.certificate ∷ slot_said slot ++ sign w.equal ∷ hash value ∷ [])) (sym (append_assoc (cert_text slot) (codes " = ") (hash_text value)))
    (piece_piece (cert_text slot) (codes " = " ++ hash_text value) (word w.certificate ∷ slot_said slot) (sign w.equal ∷ hash value ∷ []) (cert_piece slot h) (λ rest stop. refl)
    (as_piece (codes " = " ++ hash_text value) (sign w.equal ∷ hash value ∷ [])
    (loose_loose (codes " = ") (hash_text value) (sign w.equal ∷ []) (hash value ∷ []) equal (hash_loose value is))))

pub piece : (place : Place) (tree : Tree) → IsKept tree → Piece (dumped_at place tree) (said_at place tree)
piece place t.never h = word_piece (codes "never") refl
piece place t.always h = word_piece (codes "always") refl
piece place (t.ident value) h = string_behind (codes "identifier ") (word w.identifier ∷ []) value (word_space (codes "identifier") refl) h
piece place t.apple_anchor h = two_words (codes "anchor") (codes "apple") (word w.anchor) (word w.apple) (word_space (codes "anchor") refl) (word_piece (codes "apple") refl)
piece place (t.anchor_hash slot value) h = anchor_piece slot value h.0 h.1
piece place (t.legacy_info key value) h = word_keyed (codes "info") w.info key (m.Equal value) (word_piece (codes "info") refl) h.0 h.1
piece place (t.both left right) h = and_piece place (dumped_at beside_and left) (dumped_at beside_and right) (said_at beside_and left) (said_at beside_and right) (piece beside_and left h.0) (piece beside_and right h.1)
piece place (t.either left right) h = or_piece place (dumped_at alone left) (dumped_at alone right) (said_at alone left) (said_at alone right) (piece alone left h.0) (piece alone right h.1)
piece place (t.cd_hash value) h =
    as_piece (codes "cdhash " ++ hash_text value) (word w.cdhash ∷ hash value ∷ [])
    (loose_loose (codes "cdhash ") (hash_text value) (word w.cdhash ∷ []) (hash value ∷ []) (word_space (codes "cdhash") refl) (hash_loose value h))
piece place (t.negate inner) h = loose_piece (codes "! ") (dumped_at behind_bang inner) (sign w.bang ∷ []) (said_at behind_bang inner) bang (piece behind_bang inner h)
piece place (t.info_field key test) h = word_keyed (codes "info") w.info key test (word_piece (codes "info") refl) h.0 h.1
piece place (t.cert_field slot key test) h = cert_keyed slot (key_text key) key test h.0 (key_piece key h.1) h.2
piece place (t.trusted_cert slot) h =
    piece_piece (cert_text slot) (codes " trusted") (word w.certificate ∷ slot_said slot) (word w.trusted ∷ []) (cert_piece slot h) (λ rest stop. refl)
    (loose_piece (32 ∷ []) (codes "trusted") [] (word w.trusted ∷ []) space (word_piece (codes "trusted") refl))
piece place t.trusted_any h = two_words (codes "anchor") (codes "trusted") (word w.anchor) (word w.trusted) (word_space (codes "anchor") refl) (word_piece (codes "trusted") refl)
piece place (t.cert_oid slot oid test) h = cert_keyed slot (codes "field." ++ oid_text oid) (codes "field." ++ oid_text oid) test h.0 (field_piece oid h.1) h.2
piece place t.apple_generic h =
    loose_piece (codes "anchor ") (codes "apple generic") (word w.anchor ∷ []) (word w.apple ∷ word w.generic ∷ []) (word_space (codes "anchor") refl)
    (two_words (codes "apple") (codes "generic") (word w.apple) (word w.generic) (word_space (codes "apple") refl) (word_piece (codes "generic") refl))
piece place (t.entitlement_field key test) h = word_keyed (codes "entitlement") w.entitlement key test (word_piece (codes "entitlement") refl) h.0 h.1
piece place (t.cert_policy slot oid test) h = cert_keyed slot (codes "policy." ++ oid_text oid) (codes "policy." ++ oid_text oid) test h.0 (policy_piece oid h.1) h.2
piece place (t.named_anchor name) h =
    string_behind (codes "anchor apple ") (word w.anchor ∷ word w.apple ∷ []) name
    (loose_loose (codes "anchor ") (codes "apple ") (word w.anchor ∷ []) (word w.apple ∷ []) (word_space (codes "anchor") refl) (word_space (codes "apple") refl)) h
piece place (t.named_code name) h = parens_piece (string_text name) (str name ∷ []) (string_piece name h)
piece place (t.platform number) h =
    loose_piece (codes "platform = ") (signed_decimal number) (word w.platform ∷ sign w.equal ∷ []) (number_said number)
    (piece_loose (codes "platform") (codes " = ") (word w.platform ∷ []) (sign w.equal ∷ []) (word_piece (codes "platform") refl) (λ rest. refl) equal) (signed_piece number h)
piece place t.notarized h = word_piece (codes "notarized") refl
piece place t.legacy_dev_id h = word_piece (codes "legacy") refl
piece place (t.skip_false op skipped) h = skipped_false op skipped
piece place (t.skip_next op skipped inner) h = skipped_next op skipped (dumped_at place inner) (said_at place inner) (piece place inner h)

-- a tree's text has tokens, and their terminals are the tree's
pub text_says : (tree : Tree) → IsSayable tree → (tokens : List Token) × Tokens 0 (dumped tree) tokens × (terminals (dumped tree) tokens ≡ said tree)
text_says tree h =
    let cut : Cut (dumped tree ++ []) (said tree ++ []) = piece alone tree h.kept [] [] refl end in
    tokens_told (dumped tree) (said tree)
    (subst (λ l. Cut l (said tree)) (append-nil (dumped tree)) (subst (Cut (dumped tree ++ [])) (append-nil (said tree)) cut))
