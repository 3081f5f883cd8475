-- A tree that can be spelled is spelled by its plain bytes, and what is spelled can be.
use Rattle.std.proofs.Common.{◌≡◌, ℕ, ◌^◌, ◌<◌, List, [], ◌++◌, length, refl, sym, ap, arith, length-append}
use Rattle.std.proofs.lemmas.List.{append-nil}
use Rattle.req_tree.specs.declared.matching.Match.{Match}
use Rattle.req_tree.specs.declared.matching.Match.TheVariants.{Exists, Absent, Equal, Contains, Begins, Ends, Less, Greater, LessEqual, GreaterEqual}
use Rattle.req_tree.specs.Tree as t
use Rattle.req_tree.specs.Tree.{Tree}
use Rattle.req_tree.specs.Spellable.{CanSpell}
use Rattle.cs_blob.specs.Numbers.{word}
use Rattle.req_blob.specs.Words.{signed_word, datum, unpadded, match_text}
use Rattle.req_blob.specs.Spelling.{Spells, Marked, IsText, IsTest, plain}
use Rattle.req_blob.specs.Encoding.{HasFields}
use Rattle.req_blob.proofs.Fields.{length-word}
use Rattle.req_blob.proofs.Lengths.{length-datum, length-unpadded}

marked : (opcode : ℕ) (operands : List ℕ) → opcode < 2 ^ 24 → Marked opcode operands (word opcode ++ operands)
marked opcode operands small = record { first = opcode; small = omega (arith, small); known = omega (arith, small); parts = refl }

bare : (opcode : ℕ) → opcode < 2 ^ 24 → Marked opcode [] (word opcode)
bare opcode small = record { first = opcode; small = omega (arith, small); known = omega (arith, small); parts = sym (append-nil (word opcode)) }

-- a part of something short is short
first_part : (a b : List ℕ) → length (a ++ b) < 2 ^ 32 → length a < 2 ^ 32
first_part a b fits = omega (arith, length-append a b, fits)

second_part : (a b : List ℕ) → length (a ++ b) < 2 ^ 32 → length b < 2 ^ 32
second_part a b fits = omega (arith, length-append a b, fits)

is_text : (value : List ℕ) → length (datum value) < 2 ^ 32 → IsText value
is_text value fits = omega (arith, length-datum value, fits)

is_skipped : (value : List ℕ) → length (unpadded value) < 2 ^ 32 → IsText value
is_skipped value fits = omega (arith, length-unpadded value, fits)

is_compared : (suffix : ℕ) (value : List ℕ) → length (word suffix ++ datum value) < 2 ^ 32 → IsText value
is_compared suffix value fits = is_text value (second_part (word suffix) (datum value) fits)

is_test : (test : Match) → length (match_text test) < 2 ^ 32 → IsTest test
is_test Exists fits = tt
is_test Absent fits = tt
is_test (Equal value) fits = is_compared 1 value fits
is_test (Contains value) fits = is_compared 2 value fits
is_test (Begins value) fits = is_compared 3 value fits
is_test (Ends value) fits = is_compared 4 value fits
is_test (Less value) fits = is_compared 5 value fits
is_test (Greater value) fits = is_compared 6 value fits
is_test (LessEqual value) fits = is_compared 7 value fits
is_test (GreaterEqual value) fits = is_compared 8 value fits

pub plain_spells : (tree : Tree) → HasFields tree → CanSpell tree → length (plain tree) < 2 ^ 32 → Spells tree (plain tree)
plain_spells t.never has can fits = bare 0 (omega arith)
plain_spells t.always has can fits = bare 1 (omega arith)
plain_spells (t.ident value) has can fits =
    let all = second_part (word 2) (datum value) fits in
    (is_text value all, marked 2 (datum value) (omega arith))
plain_spells t.apple_anchor has can fits = bare 3 (omega arith)
plain_spells (t.anchor_hash slot hash) has can fits =
    let all = second_part (word 4) (signed_word slot ++ datum hash) fits in
    (has.0, has.1, marked 4 (signed_word slot ++ datum hash) (omega arith))
plain_spells (t.legacy_info key value) has can fits =
    let all = second_part (word 5) (datum key ++ datum value) fits in
    (is_text key (first_part (datum key) (datum value) all), is_text value (second_part (datum key) (datum value) all), marked 5 (datum key ++ datum value) (omega arith))
plain_spells (t.both left right) has can fits =
    let both = second_part (word 6) (plain left ++ plain right) fits in
    (plain left, plain right, plain_spells left has.0 can.0 (first_part (plain left) (plain right) both), plain_spells right has.1 can.1 (second_part (plain left) (plain right) both), marked 6 (plain left ++ plain right) (omega arith))
plain_spells (t.either left right) has can fits =
    let both = second_part (word 7) (plain left ++ plain right) fits in
    (plain left, plain right, plain_spells left has.0 can.0 (first_part (plain left) (plain right) both), plain_spells right has.1 can.1 (second_part (plain left) (plain right) both), marked 7 (plain left ++ plain right) (omega arith))
plain_spells (t.cd_hash hash) has can fits =
    let all = second_part (word 8) (datum hash) fits in
    (has, marked 8 (datum hash) (omega arith))
plain_spells (t.negate inner) has can fits = (plain inner, plain_spells inner has can (second_part (word 9) (plain inner) fits), marked 9 (plain inner) (omega arith))
plain_spells (t.info_field key test) has can fits =
    let all = second_part (word 10) (datum key ++ match_text test) fits in
    (is_text key (first_part (datum key) (match_text test) all), is_test test (second_part (datum key) (match_text test) all), marked 10 (datum key ++ match_text test) (omega arith))
plain_spells (t.cert_field slot key test) has can fits =
    let all = second_part (word 11) (signed_word slot ++ (datum key ++ match_text test)) fits in
    let later = second_part (signed_word slot) (datum key ++ match_text test) all in
    (has, (is_text key (first_part (datum key) (match_text test) later), can), is_test test (second_part (datum key) (match_text test) later), marked 11 (signed_word slot ++ (datum key ++ match_text test)) (omega arith))
plain_spells (t.trusted_cert slot) has can fits =
    let all = second_part (word 12) (signed_word slot) fits in
    (has, marked 12 (signed_word slot) (omega arith))
plain_spells t.trusted_any has can fits = bare 13 (omega arith)
plain_spells (t.cert_oid slot oid test) has can fits =
    let all = second_part (word 14) (signed_word slot ++ (datum oid ++ match_text test)) fits in
    let later = second_part (signed_word slot) (datum oid ++ match_text test) all in
    (has.0, (is_text oid (first_part (datum oid) (match_text test) later), has.1), is_test test (second_part (datum oid) (match_text test) later), marked 14 (signed_word slot ++ (datum oid ++ match_text test)) (omega arith))
plain_spells t.apple_generic has can fits = bare 15 (omega arith)
plain_spells (t.entitlement_field key test) has can fits =
    let all = second_part (word 16) (datum key ++ match_text test) fits in
    (is_text key (first_part (datum key) (match_text test) all), is_test test (second_part (datum key) (match_text test) all), marked 16 (datum key ++ match_text test) (omega arith))
plain_spells (t.cert_policy slot oid test) has can fits =
    let all = second_part (word 17) (signed_word slot ++ (datum oid ++ match_text test)) fits in
    let later = second_part (signed_word slot) (datum oid ++ match_text test) all in
    (has.0, (is_text oid (first_part (datum oid) (match_text test) later), has.1), is_test test (second_part (datum oid) (match_text test) later), marked 17 (signed_word slot ++ (datum oid ++ match_text test)) (omega arith))
plain_spells (t.named_anchor name) has can fits =
    let all = second_part (word 18) (datum name) fits in
    (is_text name all, marked 18 (datum name) (omega arith))
plain_spells (t.named_code name) has can fits =
    let all = second_part (word 19) (datum name) fits in
    (is_text name all, marked 19 (datum name) (omega arith))
plain_spells (t.platform number) has can fits =
    let all = second_part (word 20) (signed_word number) fits in
    (has, marked 20 (signed_word number) (omega arith))
plain_spells t.notarized has can fits = bare 21 (omega arith)
plain_spells t.legacy_dev_id has can fits = bare 23 (omega arith)
plain_spells (t.skip_false op skipped) has can fits = (can, is_skipped skipped (second_part (word op) (unpadded skipped) fits), refl)
plain_spells (t.skip_next op skipped inner) has can fits =
    let all = second_part (word op) (unpadded skipped ++ plain inner) fits in
    (plain inner, plain_spells inner has can.1 (second_part (unpadded skipped) (plain inner) all), can.0, is_skipped skipped (first_part (unpadded skipped) (plain inner) all), refl)

-- what is spelled can be spelled again
pub spelled_can : (tree : Tree) (bytes : List ℕ) → Spells tree bytes → CanSpell tree
spelled_can t.never bytes h = tt
spelled_can t.always bytes h = tt
spelled_can (t.ident value) bytes h = tt
spelled_can t.apple_anchor bytes h = tt
spelled_can (t.anchor_hash slot hash) bytes h = tt
spelled_can (t.legacy_info key value) bytes h = tt
spelled_can (t.both left right) bytes h = (spelled_can left h.0 h.2, spelled_can right h.1 h.3)
spelled_can (t.either left right) bytes h = (spelled_can left h.0 h.2, spelled_can right h.1 h.3)
spelled_can (t.cd_hash hash) bytes h = tt
spelled_can (t.negate inner) bytes h = spelled_can inner h.0 h.1
spelled_can (t.info_field key test) bytes h = tt
spelled_can (t.cert_field slot key test) bytes h = h.1.1
spelled_can (t.trusted_cert slot) bytes h = tt
spelled_can t.trusted_any bytes h = tt
spelled_can (t.cert_oid slot oid test) bytes h = tt
spelled_can t.apple_generic bytes h = tt
spelled_can (t.entitlement_field key test) bytes h = tt
spelled_can (t.cert_policy slot oid test) bytes h = tt
spelled_can (t.named_anchor name) bytes h = tt
spelled_can (t.named_code name) bytes h = tt
spelled_can (t.platform number) bytes h = tt
spelled_can t.notarized bytes h = tt
spelled_can t.legacy_dev_id bytes h = tt
spelled_can (t.skip_false op skipped) bytes h = h.0
spelled_can (t.skip_next op skipped inner) bytes h = (h.2, spelled_can inner h.0 h.1)

-- what is spelled has as many bytes as the plain spelling: a flag takes no room
same_size : (opcode k : ℕ) (operands bytes : List ℕ) → Marked opcode operands bytes → length bytes ≡ length (word k ++ operands)
same_size opcode k operands bytes h = omega (arith, ap length h.parts, length-append (word h.first) operands, length-append (word k) operands, length-word h.first, length-word k)

bare_size : (opcode k : ℕ) (bytes : List ℕ) → Marked opcode [] bytes → length bytes ≡ length (word k)
bare_size opcode k bytes h = omega (arith, ap length h.parts, length-append (word h.first) [], length-word h.first, length-word k)

two_sizes : (opcode : ℕ) (a b : List ℕ) (left right : Tree) (bytes : List ℕ) → length a ≡ length (plain left) → length b ≡ length (plain right) → Marked opcode (a ++ b) bytes → length bytes ≡ length (word opcode ++ (plain left ++ plain right))
two_sizes opcode a b left right bytes p q h =
    let size : length bytes ≡ length (word opcode ++ (a ++ b)) = same_size opcode opcode (a ++ b) bytes h in
    omega (arith, size, length-append (word opcode) (a ++ b), length-append a b, length-append (word opcode) (plain left ++ plain right), length-append (plain left) (plain right), p, q)

pub spelled_size : (tree : Tree) (bytes : List ℕ) → Spells tree bytes → length bytes ≡ length (plain tree)
spelled_size t.never bytes h = bare_size 0 0 bytes h
spelled_size t.always bytes h = bare_size 1 1 bytes h
spelled_size (t.ident value) bytes h = same_size 2 2 (datum value) bytes h.1
spelled_size t.apple_anchor bytes h = bare_size 3 3 bytes h
spelled_size (t.anchor_hash slot hash) bytes h = same_size 4 4 (signed_word slot ++ datum hash) bytes h.2
spelled_size (t.legacy_info key value) bytes h = same_size 5 5 (datum key ++ datum value) bytes h.2
spelled_size (t.both left right) bytes h = two_sizes 6 h.0 h.1 left right bytes (spelled_size left h.0 h.2) (spelled_size right h.1 h.3) h.4
spelled_size (t.either left right) bytes h = two_sizes 7 h.0 h.1 left right bytes (spelled_size left h.0 h.2) (spelled_size right h.1 h.3) h.4
spelled_size (t.cd_hash hash) bytes h = same_size 8 8 (datum hash) bytes h.1
spelled_size (t.negate inner) bytes h =
    let size : length bytes ≡ length (word 9 ++ h.0) = same_size 9 9 h.0 bytes h.2 in
    omega (arith, size, length-append (word 9) h.0, length-append (word 9) (plain inner), spelled_size inner h.0 h.1)
spelled_size (t.info_field key test) bytes h = same_size 10 10 (datum key ++ match_text test) bytes h.2
spelled_size (t.cert_field slot key test) bytes h = same_size 11 11 (signed_word slot ++ (datum key ++ match_text test)) bytes h.3
spelled_size (t.trusted_cert slot) bytes h = same_size 12 12 (signed_word slot) bytes h.1
spelled_size t.trusted_any bytes h = bare_size 13 13 bytes h
spelled_size (t.cert_oid slot oid test) bytes h = same_size 14 14 (signed_word slot ++ (datum oid ++ match_text test)) bytes h.3
spelled_size t.apple_generic bytes h = bare_size 15 15 bytes h
spelled_size (t.entitlement_field key test) bytes h = same_size 16 16 (datum key ++ match_text test) bytes h.2
spelled_size (t.cert_policy slot oid test) bytes h = same_size 17 17 (signed_word slot ++ (datum oid ++ match_text test)) bytes h.3
spelled_size (t.named_anchor name) bytes h = same_size 18 18 (datum name) bytes h.1
spelled_size (t.named_code name) bytes h = same_size 19 19 (datum name) bytes h.1
spelled_size (t.platform number) bytes h = same_size 20 20 (signed_word number) bytes h.1
spelled_size t.notarized bytes h = bare_size 21 21 bytes h
spelled_size t.legacy_dev_id bytes h = bare_size 23 23 bytes h
spelled_size (t.skip_false op skipped) bytes h = ap length h.2
spelled_size (t.skip_next op skipped inner) bytes h =
    let size : length bytes ≡ length (word op ++ (unpadded skipped ++ h.0)) = ap length h.4 in
    omega (
      arith,
      size,
      length-append (word op) (unpadded skipped ++ h.0),
      length-append (unpadded skipped) h.0,
      length-append (word op) (unpadded skipped ++ plain inner),
      length-append (unpadded skipped) (plain inner),
      spelled_size inner h.0 h.1,
    )
