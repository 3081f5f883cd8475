-- Texts without tokens: what is wrong with them first, and where.
use Rattle.std.proofs.Common.{◌≡◌, [], ◌∷◌, ◌++◌, codes, refl, arith}
use Rattle.req_tree.specs.NumericOrder.{number_of}
use Rattle.req_grammar.specs.Sorts as s
use Rattle.req_grammar.specs.TokenFaults as f
use Rattle.req_grammar.specs.TokenFaults.{FirstFault}
use Rattle.req_grammar.proofs.Cutting.{stop, some_bytes}

-- "abc
fault_1 : FirstFault 0 ((34 ∷ []) ++ codes "abc") f.open_string 0
fault_1 = stop ((34 ∷ []) ++ codes "abc") [] f.open_string 0 refl (f.quoted_open (codes "abc") refl refl)

-- H"12"
fault_2 : FirstFault 0 (codes "H" ++ (34 ∷ []) ++ codes "12" ++ (34 ∷ [])) f.bad_hex 0
fault_2 = stop (codes "H" ++ (34 ∷ []) ++ codes "12" ++ (34 ∷ [])) [] f.bad_hex 0 refl (f.hash_digits (codes "12") [] refl refl refl)

-- 0x1
fault_3 : FirstFault 0 (codes "0x1") f.bad_hex 0
fault_3 = stop (codes "0x1") [] f.bad_hex 0 refl (f.hex_digits (codes "1") [] refl refl refl refl)

-- 0x
fault_4 : FirstFault 0 (codes "0x") f.bad_hex 0
fault_4 = stop (codes "0x") [] f.bad_hex 0 refl (f.hex_digits [] [] refl refl refl refl)

-- /*/
fault_5 : FirstFault 0 (codes "/*/") f.open_comment 0
fault_5 = stop (codes "/*/") [] f.open_comment 0 refl (f.comment (codes "/") refl refl)

-- /* x
fault_6 : FirstFault 0 (codes "/* x") f.open_comment 0
fault_6 = stop (codes "/* x") [] f.open_comment 0 refl (f.comment (codes " x") refl refl)

-- 2147483649
fault_7 : FirstFault 0 (codes "2147483649") f.int_too_large 0
fault_7 = stop (codes "2147483649") [] f.int_too_large 0 refl (f.large (codes "2147483649") [] refl refl refl refl (let n : number_of (codes "2147483649") ≡ 2147483649 = refl in omega (arith, n)))

-- .a
fault_8 : FirstFault 0 (codes ".a") f.bad_byte 0
fault_8 = stop (codes ".a") [] f.bad_byte 0 refl (f.other (some_bytes 46 (codes "a")) refl)

-- "a\b"
fault_9 : FirstFault 0 ((34 ∷ []) ++ codes "a" ++ (92 ∷ []) ++ codes "b" ++ (34 ∷ [])) f.bad_byte 2
fault_9 = stop ((34 ∷ []) ++ codes "a" ++ (92 ∷ []) ++ codes "b" ++ (34 ∷ [])) [] f.bad_byte 2 refl (f.backslash (codes "a") (codes "b" ++ (34 ∷ [])) refl refl refl refl)

-- "a\\"
fault_10 : FirstFault 0 ((34 ∷ []) ++ codes "a" ++ (92 ∷ 92 ∷ 34 ∷ [])) f.open_string 0
fault_10 = stop ((34 ∷ []) ++ codes "a" ++ (92 ∷ 92 ∷ 34 ∷ [])) [] f.open_string 0 refl (f.quoted_open (codes "a" ++ (92 ∷ 92 ∷ 34 ∷ [])) refl refl)

-- H"12
fault_11 : FirstFault 0 (codes "H" ++ (34 ∷ []) ++ codes "12") f.open_string 0
fault_11 = stop (codes "H" ++ (34 ∷ []) ++ codes "12") [] f.open_string 0 refl (f.hash_open (codes "12") refl refl)

-- _
fault_12 : FirstFault 0 (codes "_") f.bad_byte 0
fault_12 = stop (codes "_") [] f.bad_byte 0 refl (f.other (some_bytes 95 []) refl)

-- 0x12g
fault_13 : FirstFault 0 (codes "0x12g") f.bad_hex 0
fault_13 = stop (codes "0x12g") [] f.bad_hex 0 refl (f.hex_digits (codes "12g") [] refl refl refl refl)

-- \x0c
fault_14 : FirstFault 0 (12 ∷ []) f.bad_byte 0
fault_14 = stop (12 ∷ []) [] f.bad_byte 0 refl (f.other (some_bytes 12 []) refl)

-- /
fault_15 : FirstFault 0 (codes "/") f.bad_byte 0
fault_15 = stop (codes "/") [] f.bad_byte 0 refl (f.other (some_bytes 47 []) refl)

-- @
fault_16 : FirstFault 0 (codes "@") f.bad_byte 0
fault_16 = stop (codes "@") [] f.bad_byte 0 refl (f.other (some_bytes 64 []) refl)

-- 9999999999
fault_17 : FirstFault 0 (codes "9999999999") f.int_too_large 0
fault_17 = stop (codes "9999999999") [] f.int_too_large 0 refl (f.large (codes "9999999999") [] refl refl refl refl (let n : number_of (codes "9999999999") ≡ 9999999999 = refl in omega (arith, n)))

-- H"0123456789abcdef0123456789abcdef0123456g"
fault_18 : FirstFault 0 (codes "H" ++ (34 ∷ []) ++ codes "0123456789abcdef0123456789abcdef0123456g" ++ (34 ∷ [])) f.bad_hex 0
fault_18 = stop (codes "H" ++ (34 ∷ []) ++ codes "0123456789abcdef0123456789abcdef0123456g" ++ (34 ∷ [])) [] f.bad_hex 0 refl (f.hash_digits (codes "0123456789abcdef0123456789abcdef0123456g") [] refl refl refl)

-- H"0123456789abcdef0123456789abcdef012345678"
fault_19 : FirstFault 0 (codes "H" ++ (34 ∷ []) ++ codes "0123456789abcdef0123456789abcdef012345678" ++ (34 ∷ [])) f.bad_hex 0
fault_19 = stop (codes "H" ++ (34 ∷ []) ++ codes "0123456789abcdef0123456789abcdef012345678" ++ (34 ∷ [])) [] f.bad_hex 0 refl (f.hash_digits (codes "0123456789abcdef0123456789abcdef012345678") [] refl refl refl)

-- 0x123
fault_20 : FirstFault 0 (codes "0x123") f.bad_hex 0
fault_20 = stop (codes "0x123") [] f.bad_hex 0 refl (f.hex_digits (codes "123") [] refl refl refl refl)

-- $1
fault_21 : FirstFault 0 (codes "$1") f.bad_byte 0
fault_21 = stop (codes "$1") [] f.bad_byte 0 refl (f.other (some_bytes 36 (codes "1")) refl)

-- 0x1G
fault_22 : FirstFault 0 (codes "0x1G") f.bad_hex 0
fault_22 = stop (codes "0x1G") [] f.bad_hex 0 refl (f.hex_digits (codes "1G") [] refl refl refl refl)

-- a.
fault_23 : FirstFault 0 (codes "a.") f.bad_byte 1
fault_23 = stop (codes "a.") ((s.word, 1) ∷ []) f.bad_byte 0 refl (f.other (some_bytes 46 []) refl)

-- a..b
fault_24 : FirstFault 0 (codes "a..b") f.bad_byte 1
fault_24 = stop (codes "a..b") ((s.word, 1) ∷ []) f.bad_byte 0 refl (f.other (some_bytes 46 (codes ".b")) refl)

-- cdhash H"12"
fault_25 : FirstFault 0 (codes "cdhash H" ++ (34 ∷ []) ++ codes "12" ++ (34 ∷ [])) f.bad_hex 7
fault_25 = stop (codes "cdhash H" ++ (34 ∷ []) ++ codes "12" ++ (34 ∷ [])) ((s.word, 6) ∷ (s.blank, 1) ∷ []) f.bad_hex 0 refl (f.hash_digits (codes "12") [] refl refl refl)

-- H"12 and "x"
fault_26 : FirstFault 0 (codes "H" ++ (34 ∷ []) ++ codes "12 and " ++ (34 ∷ []) ++ codes "x" ++ (34 ∷ [])) f.bad_hex 0
fault_26 = stop (codes "H" ++ (34 ∷ []) ++ codes "12 and " ++ (34 ∷ []) ++ codes "x" ++ (34 ∷ [])) [] f.bad_hex 0 refl (f.hash_digits (codes "12 and ") (codes "x" ++ (34 ∷ [])) refl refl refl)

-- "a\b
fault_27 : FirstFault 0 ((34 ∷ []) ++ codes "a" ++ (92 ∷ []) ++ codes "b") f.open_string 0
fault_27 = stop ((34 ∷ []) ++ codes "a" ++ (92 ∷ []) ++ codes "b") [] f.open_string 0 refl (f.quoted_open (codes "a" ++ (92 ∷ []) ++ codes "b") refl refl)

-- "a\"b\c"
fault_28 : FirstFault 0 ((34 ∷ []) ++ codes "a" ++ (92 ∷ 34 ∷ []) ++ codes "b" ++ (92 ∷ []) ++ codes "c" ++ (34 ∷ [])) f.bad_byte 5
fault_28 = stop ((34 ∷ []) ++ codes "a" ++ (92 ∷ 34 ∷ []) ++ codes "b" ++ (92 ∷ []) ++ codes "c" ++ (34 ∷ [])) [] f.bad_byte 5 refl (f.backslash (codes "a" ++ (34 ∷ []) ++ codes "b") (codes "c" ++ (34 ∷ [])) refl refl refl refl)

-- "\\x"
fault_29 : FirstFault 0 ((34 ∷ 92 ∷ 92 ∷ []) ++ codes "x" ++ (34 ∷ [])) f.bad_byte 1
fault_29 = stop ((34 ∷ 92 ∷ 92 ∷ []) ++ codes "x" ++ (34 ∷ [])) [] f.bad_byte 1 refl (f.backslash [] ((92 ∷ []) ++ codes "x" ++ (34 ∷ [])) refl refl refl refl)

-- always /* x
fault_30 : FirstFault 0 (codes "always /* x") f.open_comment 7
fault_30 = stop (codes "always /* x") ((s.word, 6) ∷ (s.blank, 1) ∷ []) f.open_comment 0 refl (f.comment (codes " x") refl refl)

-- always and /
fault_31 : FirstFault 0 (codes "always and /") f.bad_byte 11
fault_31 = stop (codes "always and /") ((s.word, 6) ∷ (s.blank, 1) ∷ (s.word, 3) ∷ (s.blank, 1) ∷ []) f.bad_byte 0 refl (f.other (some_bytes 47 []) refl)

-- identifier "x
fault_32 : FirstFault 0 (codes "identifier " ++ (34 ∷ []) ++ codes "x") f.open_string 11
fault_32 = stop (codes "identifier " ++ (34 ∷ []) ++ codes "x") ((s.word, 10) ∷ (s.blank, 1) ∷ []) f.open_string 0 refl (f.quoted_open (codes "x") refl refl)

-- H"0123456789abcdef0123456789abcdef01234567
fault_33 : FirstFault 0 (codes "H" ++ (34 ∷ []) ++ codes "0123456789abcdef0123456789abcdef01234567") f.open_string 0
fault_33 = stop (codes "H" ++ (34 ∷ []) ++ codes "0123456789abcdef0123456789abcdef01234567") [] f.open_string 0 refl (f.hash_open (codes "0123456789abcdef0123456789abcdef01234567") refl refl)

-- platform = 4294967296
fault_34 : FirstFault 0 (codes "platform = 4294967296") f.int_too_large 11
fault_34 = stop (codes "platform = 4294967296") ((s.word, 8) ∷ (s.blank, 1) ∷ (s.symbol, 1) ∷ (s.blank, 1) ∷ []) f.int_too_large 0 refl (f.large (codes "4294967296") [] refl refl refl refl (let n : number_of (codes "4294967296") ≡ 4294967296 = refl in omega (arith, n)))

-- info[k]=\x80
fault_35 : FirstFault 0 (codes "info[k]=" ++ (128 ∷ [])) f.bad_byte 8
fault_35 = stop (codes "info[k]=" ++ (128 ∷ [])) ((s.word, 4) ∷ (s.symbol, 1) ∷ (s.word, 1) ∷ (s.symbol, 1) ∷ (s.symbol, 1) ∷ []) f.bad_byte 0 refl (f.other (some_bytes 128 []) refl)

-- a.b.#
fault_36 : FirstFault 0 (codes "a.b.#") f.bad_byte 3
fault_36 = stop (codes "a.b.#") ((s.word, 3) ∷ []) f.bad_byte 0 refl (f.other (some_bytes 46 (codes "#")) refl)

-- "x"y"
fault_37 : FirstFault 0 ((34 ∷ []) ++ codes "x" ++ (34 ∷ []) ++ codes "y" ++ (34 ∷ [])) f.open_string 4
fault_37 = stop ((34 ∷ []) ++ codes "x" ++ (34 ∷ []) ++ codes "y" ++ (34 ∷ [])) ((s.quoted, 3) ∷ (s.word, 1) ∷ []) f.open_string 0 refl (f.quoted_open [] refl refl)

-- /**/*/
fault_38 : FirstFault 0 (codes "/**/*/") f.bad_byte 5
fault_38 = stop (codes "/**/*/") ((s.block, 4) ∷ (s.symbol, 1) ∷ []) f.bad_byte 0 refl (f.other (some_bytes 47 []) refl)

-- "\"
fault_39 : FirstFault 0 (34 ∷ 92 ∷ 34 ∷ []) f.open_string 0
fault_39 = stop (34 ∷ 92 ∷ 34 ∷ []) [] f.open_string 0 refl (f.quoted_open (92 ∷ 34 ∷ []) refl refl)

-- 0xAbC
fault_40 : FirstFault 0 (codes "0xAbC") f.bad_hex 0
fault_40 = stop (codes "0xAbC") [] f.bad_hex 0 refl (f.hex_digits (codes "AbC") [] refl refl refl refl)

-- H""
fault_41 : FirstFault 0 (codes "H" ++ (34 ∷ 34 ∷ [])) f.bad_hex 0
fault_41 = stop (codes "H" ++ (34 ∷ 34 ∷ [])) [] f.bad_hex 0 refl (f.hash_digits [] [] refl refl refl)
