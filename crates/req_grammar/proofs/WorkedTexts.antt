-- Worked texts: tokens, terminals and trees, worked out apart from these definitions, which give the same.
use Rattle.std.proofs.Common.{◌≡◌, ℕ, pos, negsuc, List, [], ◌∷◌, ◌++◌, Some, None, codes, refl}
use Rattle.req_tree.specs.declared.matching.Match.TheVariants as m
use Rattle.req_tree.specs.Tree as t
use Rattle.req_grammar.specs.Words as w
use Rattle.req_grammar.specs.Sorts as s
use Rattle.req_grammar.specs.Tokens as k
use Rattle.req_grammar.specs.Tokens.{Kind, Token, Tokens}
use Rattle.req_grammar.specs.Terminals.{sign, word, str, hash, int, terminals}
use Rattle.req_grammar.specs.Grammar as g
use Rattle.req_grammar.specs.Readings.{Reads, ReadsSet, extension, policy}
use Rattle.req_grammar.specs.Reader.{factor_at, chain_from}
use Rattle.req_grammar.proofs.Cutting.{cut}
use Rattle.req_grammar.proofs.Rekeyed.{free, read, read_free}
use Rattle.req_grammar.proofs.WorkedOids.{oid_1_2, oid_1_2_840_113635_100_6_1_13, oid_1_2_840_113635_100_6_1_9, oid_1_2_840_113635_100_6_2_6, oid_2_100_3}

abbrev token : Kind → ℕ → ℕ → Token
token kind at size = record { kind = kind; at = at; length = size }

-- always and never and notarized
abbrev text_1 : List ℕ
text_1 = codes "always and never and notarized"

text_1-tokens : Tokens 0 text_1 (token k.word 0 6 ∷ token k.word 7 3 ∷ token k.word 11 5 ∷ token k.word 17 3 ∷ token k.word 21 9 ∷ [])
text_1-tokens = cut text_1 ((s.word, 6) ∷ (s.blank, 1) ∷ (s.word, 3) ∷ (s.blank, 1) ∷ (s.word, 5) ∷ (s.blank, 1) ∷ (s.word, 3) ∷ (s.blank, 1) ∷ (s.word, 9) ∷ []) refl refl

text_1-terminals : terminals text_1 (token k.word 0 6 ∷ token k.word 7 3 ∷ token k.word 11 5 ∷ token k.word 17 3 ∷ token k.word 21 9 ∷ []) ≡ (word w.always ∷ word w.and ∷ word w.never ∷ word w.and ∷ word w.notarized ∷ [])
text_1-terminals = refl

text_1-reads : Reads (word w.always ∷ word w.and ∷ word w.never ∷ word w.and ∷ word w.notarized ∷ []) (t.both (t.both t.always t.never) t.notarized)
unfolding factor_at chain_from
text_1-reads = read_free _ _ refl refl

-- legacy or ! (always or never) and (notarized or never)
abbrev text_2 : List ℕ
text_2 = codes "legacy or ! (always or never) and (notarized or never)"

text_2-tokens : Tokens 0 text_2 (token k.word 0 6 ∷ token k.word 7 2 ∷ token k.symbol 10 1 ∷ token k.symbol 12 1 ∷ token k.word 13 6 ∷ token k.word 20 2 ∷ token k.word 23 5 ∷ token k.symbol 28 1 ∷ token k.word 30 3 ∷ token k.symbol 34 1 ∷ token k.word 35 9 ∷ token k.word 45 2 ∷ token k.word 48 5 ∷ token k.symbol 53 1 ∷ [])
text_2-tokens = cut text_2 ((s.word, 6) ∷ (s.blank, 1) ∷ (s.word, 2) ∷ (s.blank, 1) ∷ (s.symbol, 1) ∷ (s.blank, 1) ∷ (s.symbol, 1) ∷ (s.word, 6) ∷ (s.blank, 1) ∷ (s.word, 2) ∷ (s.blank, 1) ∷ (s.word, 5) ∷ (s.symbol, 1) ∷ (s.blank, 1) ∷ (s.word, 3) ∷ (s.blank, 1) ∷ (s.symbol, 1) ∷ (s.word, 9) ∷ (s.blank, 1) ∷ (s.word, 2) ∷ (s.blank, 1) ∷ (s.word, 5) ∷ (s.symbol, 1) ∷ []) refl refl

text_2-terminals : terminals text_2 (token k.word 0 6 ∷ token k.word 7 2 ∷ token k.symbol 10 1 ∷ token k.symbol 12 1 ∷ token k.word 13 6 ∷ token k.word 20 2 ∷ token k.word 23 5 ∷ token k.symbol 28 1 ∷ token k.word 30 3 ∷ token k.symbol 34 1 ∷ token k.word 35 9 ∷ token k.word 45 2 ∷ token k.word 48 5 ∷ token k.symbol 53 1 ∷ []) ≡ (word w.legacy ∷ word w.or ∷ sign w.bang ∷ sign w.left_paren ∷ word w.always ∷ word w.or ∷ word w.never ∷ sign w.right_paren ∷ word w.and ∷ sign w.left_paren ∷ word w.notarized ∷ word w.or ∷ word w.never ∷ sign w.right_paren ∷ [])
text_2-terminals = refl

text_2-reads : Reads (word w.legacy ∷ word w.or ∷ sign w.bang ∷ sign w.left_paren ∷ word w.always ∷ word w.or ∷ word w.never ∷ sign w.right_paren ∷ word w.and ∷ sign w.left_paren ∷ word w.notarized ∷ word w.or ∷ word w.never ∷ sign w.right_paren ∷ []) (t.either t.legacy_dev_id (t.both (t.negate (t.either t.always t.never)) (t.either t.notarized t.never)))
unfolding factor_at chain_from
text_2-reads = read_free _ _ refl refl

-- identifier "com.example.app" and anchor apple generic and certificate 1[field.1.2.840.113635.100.6.2.6] /* exists */ and certificate leaf[field.1.2.840.113635.100.6.1.13] /* exists */ and certificate leaf[subject.OU] = "2DC432GLL2"
abbrev text_3 : List ℕ
text_3 = codes "identifier " ++ (34 ∷ []) ++ codes "com.example.app" ++ (34 ∷ []) ++ codes " and anchor apple generic and certificate 1[field.1.2.840.113635.100.6.2.6] /* exists */ and certificate leaf[field.1.2.840.113635.100.6.1.13] /* exists */ and certificate leaf[subject.OU] = " ++ (34 ∷ []) ++ codes "2DC432GLL2" ++ (34 ∷ [])

text_3-tokens : Tokens 0 text_3 (token k.word 0 10 ∷ token k.quoted 11 17 ∷ token k.word 29 3 ∷ token k.word 33 6 ∷ token k.word 40 5 ∷ token k.word 46 7 ∷ token k.word 54 3 ∷ token k.word 58 11 ∷ token k.integer 70 1 ∷ token k.symbol 71 1 ∷ token k.word 72 30 ∷ token k.symbol 102 1 ∷ token k.word 117 3 ∷ token k.word 121 11 ∷ token k.word 133 4 ∷ token k.symbol 137 1 ∷ token k.word 138 31 ∷ token k.symbol 169 1 ∷ token k.word 184 3 ∷ token k.word 188 11 ∷ token k.word 200 4 ∷ token k.symbol 204 1 ∷ token k.word 205 10 ∷ token k.symbol 215 1 ∷ token k.symbol 217 1 ∷ token k.quoted 219 12 ∷ [])
text_3-tokens = cut text_3 ((s.word, 10) ∷ (s.blank, 1) ∷ (s.quoted, 17) ∷ (s.blank, 1) ∷ (s.word, 3) ∷ (s.blank, 1) ∷ (s.word, 6) ∷ (s.blank, 1) ∷ (s.word, 5) ∷ (s.blank, 1) ∷ (s.word, 7) ∷ (s.blank, 1) ∷ (s.word, 3) ∷ (s.blank, 1) ∷ (s.word, 11) ∷ (s.blank, 1) ∷ (s.integer, 1) ∷ (s.symbol, 1) ∷ (s.word, 30) ∷ (s.symbol, 1) ∷ (s.blank, 1) ∷ (s.block, 12) ∷ (s.blank, 1) ∷ (s.word, 3) ∷ (s.blank, 1) ∷ (s.word, 11) ∷ (s.blank, 1) ∷ (s.word, 4) ∷ (s.symbol, 1) ∷ (s.word, 31) ∷ (s.symbol, 1) ∷ (s.blank, 1) ∷ (s.block, 12) ∷ (s.blank, 1) ∷ (s.word, 3) ∷ (s.blank, 1) ∷ (s.word, 11) ∷ (s.blank, 1) ∷ (s.word, 4) ∷ (s.symbol, 1) ∷ (s.word, 10) ∷ (s.symbol, 1) ∷ (s.blank, 1) ∷ (s.symbol, 1) ∷ (s.blank, 1) ∷ (s.quoted, 12) ∷ []) refl refl

text_3-terminals : terminals text_3 (token k.word 0 10 ∷ token k.quoted 11 17 ∷ token k.word 29 3 ∷ token k.word 33 6 ∷ token k.word 40 5 ∷ token k.word 46 7 ∷ token k.word 54 3 ∷ token k.word 58 11 ∷ token k.integer 70 1 ∷ token k.symbol 71 1 ∷ token k.word 72 30 ∷ token k.symbol 102 1 ∷ token k.word 117 3 ∷ token k.word 121 11 ∷ token k.word 133 4 ∷ token k.symbol 137 1 ∷ token k.word 138 31 ∷ token k.symbol 169 1 ∷ token k.word 184 3 ∷ token k.word 188 11 ∷ token k.word 200 4 ∷ token k.symbol 204 1 ∷ token k.word 205 10 ∷ token k.symbol 215 1 ∷ token k.symbol 217 1 ∷ token k.quoted 219 12 ∷ []) ≡ (word w.identifier ∷ str (codes "com.example.app") ∷ word w.and ∷ word w.anchor ∷ word w.apple ∷ word w.generic ∷ word w.and ∷ word w.certificate ∷ int 1 ∷ sign w.left_bracket ∷ str (codes "field.1.2.840.113635.100.6.2.6") ∷ sign w.right_bracket ∷ word w.and ∷ word w.certificate ∷ word w.leaf ∷ sign w.left_bracket ∷ str (codes "field.1.2.840.113635.100.6.1.13") ∷ sign w.right_bracket ∷ word w.and ∷ word w.certificate ∷ word w.leaf ∷ sign w.left_bracket ∷ str (codes "subject.OU") ∷ sign w.right_bracket ∷ sign w.equal ∷ str (codes "2DC432GLL2") ∷ [])
text_3-terminals = refl

text_3-reads : Reads (word w.identifier ∷ str (codes "com.example.app") ∷ word w.and ∷ word w.anchor ∷ word w.apple ∷ word w.generic ∷ word w.and ∷ word w.certificate ∷ int 1 ∷ sign w.left_bracket ∷ str (codes "field.1.2.840.113635.100.6.2.6") ∷ sign w.right_bracket ∷ word w.and ∷ word w.certificate ∷ word w.leaf ∷ sign w.left_bracket ∷ str (codes "field.1.2.840.113635.100.6.1.13") ∷ sign w.right_bracket ∷ word w.and ∷ word w.certificate ∷ word w.leaf ∷ sign w.left_bracket ∷ str (codes "subject.OU") ∷ sign w.right_bracket ∷ sign w.equal ∷ str (codes "2DC432GLL2") ∷ []) (t.both (t.both (t.both (t.both (t.ident (codes "com.example.app")) t.apple_generic) (t.cert_oid (pos 1) (42 ∷ 134 ∷ 72 ∷ 134 ∷ 247 ∷ 99 ∷ 100 ∷ 6 ∷ 2 ∷ 6 ∷ []) m.Exists)) (t.cert_oid (pos 0) (42 ∷ 134 ∷ 72 ∷ 134 ∷ 247 ∷ 99 ∷ 100 ∷ 6 ∷ 1 ∷ 13 ∷ []) m.Exists)) (t.cert_field (pos 0) (codes "subject.OU") (m.Equal (codes "2DC432GLL2"))))
unfolding factor_at chain_from
text_3-reads = read _ (t.both (t.both (t.both (t.both (t.ident (codes "com.example.app")) t.apple_generic) (t.cert_field (pos 1) (codes "field.1.2.840.113635.100.6.2.6") m.Exists)) (t.cert_field (pos 0) (codes "field.1.2.840.113635.100.6.1.13") m.Exists)) (t.cert_field (pos 0) (codes "subject.OU") (m.Equal (codes "2DC432GLL2")))) _ refl (((t.both (t.both (t.both (t.ident (codes "com.example.app")) t.apple_generic) (t.cert_oid (pos 1) (42 ∷ 134 ∷ 72 ∷ 134 ∷ 247 ∷ 99 ∷ 100 ∷ 6 ∷ 2 ∷ 6 ∷ []) m.Exists)) (t.cert_oid (pos 0) (42 ∷ 134 ∷ 72 ∷ 134 ∷ 247 ∷ 99 ∷ 100 ∷ 6 ∷ 1 ∷ 13 ∷ []) m.Exists)), (t.cert_field (pos 0) (codes "subject.OU") (m.Equal (codes "2DC432GLL2"))), ((t.both (t.both (t.ident (codes "com.example.app")) t.apple_generic) (t.cert_oid (pos 1) (42 ∷ 134 ∷ 72 ∷ 134 ∷ 247 ∷ 99 ∷ 100 ∷ 6 ∷ 2 ∷ 6 ∷ []) m.Exists)), (t.cert_oid (pos 0) (42 ∷ 134 ∷ 72 ∷ 134 ∷ 247 ∷ 99 ∷ 100 ∷ 6 ∷ 1 ∷ 13 ∷ []) m.Exists), ((t.both (t.ident (codes "com.example.app")) t.apple_generic), (t.cert_oid (pos 1) (42 ∷ 134 ∷ 72 ∷ 134 ∷ 247 ∷ 99 ∷ 100 ∷ 6 ∷ 2 ∷ 6 ∷ []) m.Exists), free (t.both (t.ident (codes "com.example.app")) t.apple_generic) refl, extension (42 ∷ 134 ∷ 72 ∷ 134 ∷ 247 ∷ 99 ∷ 100 ∷ 6 ∷ 2 ∷ 6 ∷ []) (codes "1.2.840.113635.100.6.2.6") refl oid_1_2_840_113635_100_6_2_6, refl), extension (42 ∷ 134 ∷ 72 ∷ 134 ∷ 247 ∷ 99 ∷ 100 ∷ 6 ∷ 1 ∷ 13 ∷ []) (codes "1.2.840.113635.100.6.1.13") refl oid_1_2_840_113635_100_6_1_13, refl), free (t.cert_field (pos 0) (codes "subject.OU") (m.Equal (codes "2DC432GLL2"))) refl, refl))

-- always or never and true
abbrev text_4 : List ℕ
text_4 = codes "always or never and true"

text_4-tokens : Tokens 0 text_4 (token k.word 0 6 ∷ token k.word 7 2 ∷ token k.word 10 5 ∷ token k.word 16 3 ∷ token k.word 20 4 ∷ [])
text_4-tokens = cut text_4 ((s.word, 6) ∷ (s.blank, 1) ∷ (s.word, 2) ∷ (s.blank, 1) ∷ (s.word, 5) ∷ (s.blank, 1) ∷ (s.word, 3) ∷ (s.blank, 1) ∷ (s.word, 4) ∷ []) refl refl

text_4-terminals : terminals text_4 (token k.word 0 6 ∷ token k.word 7 2 ∷ token k.word 10 5 ∷ token k.word 16 3 ∷ token k.word 20 4 ∷ []) ≡ (word w.always ∷ word w.or ∷ word w.never ∷ word w.and ∷ word w.true ∷ [])
text_4-terminals = refl

text_4-reads : Reads (word w.always ∷ word w.or ∷ word w.never ∷ word w.and ∷ word w.true ∷ []) (t.either t.always (t.both t.never t.always))
unfolding factor_at chain_from
text_4-reads = read_free _ _ refl refl

-- always and never or legacy and notarized
abbrev text_5 : List ℕ
text_5 = codes "always and never or legacy and notarized"

text_5-tokens : Tokens 0 text_5 (token k.word 0 6 ∷ token k.word 7 3 ∷ token k.word 11 5 ∷ token k.word 17 2 ∷ token k.word 20 6 ∷ token k.word 27 3 ∷ token k.word 31 9 ∷ [])
text_5-tokens = cut text_5 ((s.word, 6) ∷ (s.blank, 1) ∷ (s.word, 3) ∷ (s.blank, 1) ∷ (s.word, 5) ∷ (s.blank, 1) ∷ (s.word, 2) ∷ (s.blank, 1) ∷ (s.word, 6) ∷ (s.blank, 1) ∷ (s.word, 3) ∷ (s.blank, 1) ∷ (s.word, 9) ∷ []) refl refl

text_5-terminals : terminals text_5 (token k.word 0 6 ∷ token k.word 7 3 ∷ token k.word 11 5 ∷ token k.word 17 2 ∷ token k.word 20 6 ∷ token k.word 27 3 ∷ token k.word 31 9 ∷ []) ≡ (word w.always ∷ word w.and ∷ word w.never ∷ word w.or ∷ word w.legacy ∷ word w.and ∷ word w.notarized ∷ [])
text_5-terminals = refl

text_5-reads : Reads (word w.always ∷ word w.and ∷ word w.never ∷ word w.or ∷ word w.legacy ∷ word w.and ∷ word w.notarized ∷ []) (t.either (t.both t.always t.never) (t.both t.legacy_dev_id t.notarized))
unfolding factor_at chain_from
text_5-reads = read_free _ _ refl refl

-- ! ! never
abbrev text_6 : List ℕ
text_6 = codes "! ! never"

text_6-tokens : Tokens 0 text_6 (token k.symbol 0 1 ∷ token k.symbol 2 1 ∷ token k.word 4 5 ∷ [])
text_6-tokens = cut text_6 ((s.symbol, 1) ∷ (s.blank, 1) ∷ (s.symbol, 1) ∷ (s.blank, 1) ∷ (s.word, 5) ∷ []) refl refl

text_6-terminals : terminals text_6 (token k.symbol 0 1 ∷ token k.symbol 2 1 ∷ token k.word 4 5 ∷ []) ≡ (sign w.bang ∷ sign w.bang ∷ word w.never ∷ [])
text_6-terminals = refl

text_6-reads : Reads (sign w.bang ∷ sign w.bang ∷ word w.never ∷ []) (t.negate (t.negate t.never))
unfolding factor_at chain_from
text_6-reads = read_free _ _ refl refl

-- identifier "a\"b"
abbrev text_7 : List ℕ
text_7 = codes "identifier " ++ (34 ∷ []) ++ codes "a" ++ (92 ∷ 34 ∷ []) ++ codes "b" ++ (34 ∷ [])

text_7-tokens : Tokens 0 text_7 (token k.word 0 10 ∷ token k.quoted 11 6 ∷ [])
text_7-tokens = cut text_7 ((s.word, 10) ∷ (s.blank, 1) ∷ (s.quoted, 6) ∷ []) refl refl

text_7-terminals : terminals text_7 (token k.word 0 10 ∷ token k.quoted 11 6 ∷ []) ≡ (word w.identifier ∷ str (codes "a" ++ (34 ∷ []) ++ codes "b") ∷ [])
text_7-terminals = refl

text_7-reads : Reads (word w.identifier ∷ str (codes "a" ++ (34 ∷ []) ++ codes "b") ∷ []) (t.ident (codes "a" ++ (34 ∷ []) ++ codes "b"))
unfolding factor_at chain_from
text_7-reads = read_free _ _ refl refl

-- identifier = 0x00fF
abbrev text_8 : List ℕ
text_8 = codes "identifier = 0x00fF"

text_8-tokens : Tokens 0 text_8 (token k.word 0 10 ∷ token k.symbol 11 1 ∷ token k.hex 13 6 ∷ [])
text_8-tokens = cut text_8 ((s.word, 10) ∷ (s.blank, 1) ∷ (s.symbol, 1) ∷ (s.blank, 1) ∷ (s.hex, 6) ∷ []) refl refl

text_8-terminals : terminals text_8 (token k.word 0 10 ∷ token k.symbol 11 1 ∷ token k.hex 13 6 ∷ []) ≡ (word w.identifier ∷ sign w.equal ∷ str (0 ∷ 255 ∷ []) ∷ [])
text_8-terminals = refl

text_8-reads : Reads (word w.identifier ∷ sign w.equal ∷ str (0 ∷ 255 ∷ []) ∷ []) (t.ident (0 ∷ 255 ∷ []))
unfolding factor_at chain_from
text_8-reads = read_free _ _ refl refl

-- identifier com.example.App2
abbrev text_9 : List ℕ
text_9 = codes "identifier com.example.App2"

text_9-tokens : Tokens 0 text_9 (token k.word 0 10 ∷ token k.word 11 16 ∷ [])
text_9-tokens = cut text_9 ((s.word, 10) ∷ (s.blank, 1) ∷ (s.word, 16) ∷ []) refl refl

text_9-terminals : terminals text_9 (token k.word 0 10 ∷ token k.word 11 16 ∷ []) ≡ (word w.identifier ∷ str (codes "com.example.App2") ∷ [])
text_9-terminals = refl

text_9-reads : Reads (word w.identifier ∷ str (codes "com.example.App2") ∷ []) (t.ident (codes "com.example.App2"))
unfolding factor_at chain_from
text_9-reads = read_free _ _ refl refl

-- (Name)
abbrev text_10 : List ℕ
text_10 = codes "(Name)"

text_10-tokens : Tokens 0 text_10 (token k.symbol 0 1 ∷ token k.word 1 4 ∷ token k.symbol 5 1 ∷ [])
text_10-tokens = cut text_10 ((s.symbol, 1) ∷ (s.word, 4) ∷ (s.symbol, 1) ∷ []) refl refl

text_10-terminals : terminals text_10 (token k.symbol 0 1 ∷ token k.word 1 4 ∷ token k.symbol 5 1 ∷ []) ≡ (sign w.left_paren ∷ str (codes "Name") ∷ sign w.right_paren ∷ [])
text_10-terminals = refl

text_10-reads : Reads (sign w.left_paren ∷ str (codes "Name") ∷ sign w.right_paren ∷ []) (t.named_code (codes "Name"))
unfolding factor_at chain_from
text_10-reads = read_free _ _ refl refl

-- ("and")
abbrev text_11 : List ℕ
text_11 = codes "(" ++ (34 ∷ []) ++ codes "and" ++ (34 ∷ []) ++ codes ")"

text_11-tokens : Tokens 0 text_11 (token k.symbol 0 1 ∷ token k.quoted 1 5 ∷ token k.symbol 6 1 ∷ [])
text_11-tokens = cut text_11 ((s.symbol, 1) ∷ (s.quoted, 5) ∷ (s.symbol, 1) ∷ []) refl refl

text_11-terminals : terminals text_11 (token k.symbol 0 1 ∷ token k.quoted 1 5 ∷ token k.symbol 6 1 ∷ []) ≡ (sign w.left_paren ∷ str (codes "and") ∷ sign w.right_paren ∷ [])
text_11-terminals = refl

text_11-reads : Reads (sign w.left_paren ∷ str (codes "and") ∷ sign w.right_paren ∷ []) (t.named_code (codes "and"))
unfolding factor_at chain_from
text_11-reads = read_free _ _ refl refl

-- anchor apple
abbrev text_12 : List ℕ
text_12 = codes "anchor apple"

text_12-tokens : Tokens 0 text_12 (token k.word 0 6 ∷ token k.word 7 5 ∷ [])
text_12-tokens = cut text_12 ((s.word, 6) ∷ (s.blank, 1) ∷ (s.word, 5) ∷ []) refl refl

text_12-terminals : terminals text_12 (token k.word 0 6 ∷ token k.word 7 5 ∷ []) ≡ (word w.anchor ∷ word w.apple ∷ [])
text_12-terminals = refl

text_12-reads : Reads (word w.anchor ∷ word w.apple ∷ []) t.apple_anchor
unfolding factor_at chain_from
text_12-reads = read_free _ _ refl refl

-- anchor apple "x y"
abbrev text_13 : List ℕ
text_13 = codes "anchor apple " ++ (34 ∷ []) ++ codes "x y" ++ (34 ∷ [])

text_13-tokens : Tokens 0 text_13 (token k.word 0 6 ∷ token k.word 7 5 ∷ token k.quoted 13 5 ∷ [])
text_13-tokens = cut text_13 ((s.word, 6) ∷ (s.blank, 1) ∷ (s.word, 5) ∷ (s.blank, 1) ∷ (s.quoted, 5) ∷ []) refl refl

text_13-terminals : terminals text_13 (token k.word 0 6 ∷ token k.word 7 5 ∷ token k.quoted 13 5 ∷ []) ≡ (word w.anchor ∷ word w.apple ∷ str (codes "x y") ∷ [])
text_13-terminals = refl

text_13-reads : Reads (word w.anchor ∷ word w.apple ∷ str (codes "x y") ∷ []) (t.named_anchor (codes "x y"))
unfolding factor_at chain_from
text_13-reads = read_free _ _ refl refl

-- anchor trusted and cert leaf trusted
abbrev text_14 : List ℕ
text_14 = codes "anchor trusted and cert leaf trusted"

text_14-tokens : Tokens 0 text_14 (token k.word 0 6 ∷ token k.word 7 7 ∷ token k.word 15 3 ∷ token k.word 19 4 ∷ token k.word 24 4 ∷ token k.word 29 7 ∷ [])
text_14-tokens = cut text_14 ((s.word, 6) ∷ (s.blank, 1) ∷ (s.word, 7) ∷ (s.blank, 1) ∷ (s.word, 3) ∷ (s.blank, 1) ∷ (s.word, 4) ∷ (s.blank, 1) ∷ (s.word, 4) ∷ (s.blank, 1) ∷ (s.word, 7) ∷ []) refl refl

text_14-terminals : terminals text_14 (token k.word 0 6 ∷ token k.word 7 7 ∷ token k.word 15 3 ∷ token k.word 19 4 ∷ token k.word 24 4 ∷ token k.word 29 7 ∷ []) ≡ (word w.anchor ∷ word w.trusted ∷ word w.and ∷ word w.cert ∷ word w.leaf ∷ word w.trusted ∷ [])
text_14-terminals = refl

text_14-reads : Reads (word w.anchor ∷ word w.trusted ∷ word w.and ∷ word w.cert ∷ word w.leaf ∷ word w.trusted ∷ []) (t.both t.trusted_any (t.trusted_cert (pos 0)))
unfolding factor_at chain_from
text_14-reads = read_free _ _ refl refl

-- anchor = H"00112233445566778899aabbccddeeffAABBCCDD"
abbrev text_15 : List ℕ
text_15 = codes "anchor = H" ++ (34 ∷ []) ++ codes "00112233445566778899aabbccddeeffAABBCCDD" ++ (34 ∷ [])

text_15-tokens : Tokens 0 text_15 (token k.word 0 6 ∷ token k.symbol 7 1 ∷ token k.hash 9 43 ∷ [])
text_15-tokens = cut text_15 ((s.word, 6) ∷ (s.blank, 1) ∷ (s.symbol, 1) ∷ (s.blank, 1) ∷ (s.hash, 43) ∷ []) refl refl

text_15-terminals : terminals text_15 (token k.word 0 6 ∷ token k.symbol 7 1 ∷ token k.hash 9 43 ∷ []) ≡ (word w.anchor ∷ sign w.equal ∷ hash (0 ∷ 17 ∷ 34 ∷ 51 ∷ 68 ∷ 85 ∷ 102 ∷ 119 ∷ 136 ∷ 153 ∷ 170 ∷ 187 ∷ 204 ∷ 221 ∷ 238 ∷ 255 ∷ 170 ∷ 187 ∷ 204 ∷ 221 ∷ []) ∷ [])
text_15-terminals = refl

text_15-reads : Reads (word w.anchor ∷ sign w.equal ∷ hash (0 ∷ 17 ∷ 34 ∷ 51 ∷ 68 ∷ 85 ∷ 102 ∷ 119 ∷ 136 ∷ 153 ∷ 170 ∷ 187 ∷ 204 ∷ 221 ∷ 238 ∷ 255 ∷ 170 ∷ 187 ∷ 204 ∷ 221 ∷ []) ∷ []) (t.anchor_hash (negsuc 0) (0 ∷ 17 ∷ 34 ∷ 51 ∷ 68 ∷ 85 ∷ 102 ∷ 119 ∷ 136 ∷ 153 ∷ 170 ∷ 187 ∷ 204 ∷ 221 ∷ 238 ∷ 255 ∷ 170 ∷ 187 ∷ 204 ∷ 221 ∷ []))
unfolding factor_at chain_from
text_15-reads = read_free _ _ refl refl

-- cdhash H"0123456789abcdef0123456789abcdef01234567"
abbrev text_16 : List ℕ
text_16 = codes "cdhash H" ++ (34 ∷ []) ++ codes "0123456789abcdef0123456789abcdef01234567" ++ (34 ∷ [])

text_16-tokens : Tokens 0 text_16 (token k.word 0 6 ∷ token k.hash 7 43 ∷ [])
text_16-tokens = cut text_16 ((s.word, 6) ∷ (s.blank, 1) ∷ (s.hash, 43) ∷ []) refl refl

text_16-terminals : terminals text_16 (token k.word 0 6 ∷ token k.hash 7 43 ∷ []) ≡ (word w.cdhash ∷ hash (1 ∷ 35 ∷ 69 ∷ 103 ∷ 137 ∷ 171 ∷ 205 ∷ 239 ∷ 1 ∷ 35 ∷ 69 ∷ 103 ∷ 137 ∷ 171 ∷ 205 ∷ 239 ∷ 1 ∷ 35 ∷ 69 ∷ 103 ∷ []) ∷ [])
text_16-terminals = refl

text_16-reads : Reads (word w.cdhash ∷ hash (1 ∷ 35 ∷ 69 ∷ 103 ∷ 137 ∷ 171 ∷ 205 ∷ 239 ∷ 1 ∷ 35 ∷ 69 ∷ 103 ∷ 137 ∷ 171 ∷ 205 ∷ 239 ∷ 1 ∷ 35 ∷ 69 ∷ 103 ∷ []) ∷ []) (t.cd_hash (1 ∷ 35 ∷ 69 ∷ 103 ∷ 137 ∷ 171 ∷ 205 ∷ 239 ∷ 1 ∷ 35 ∷ 69 ∷ 103 ∷ 137 ∷ 171 ∷ 205 ∷ 239 ∷ 1 ∷ 35 ∷ 69 ∷ 103 ∷ []))
unfolding factor_at chain_from
text_16-reads = read_free _ _ refl refl

-- cert -1 = H"0123456789abcdef0123456789abcdef01234567"
abbrev text_17 : List ℕ
text_17 = codes "cert -1 = H" ++ (34 ∷ []) ++ codes "0123456789abcdef0123456789abcdef01234567" ++ (34 ∷ [])

text_17-tokens : Tokens 0 text_17 (token k.word 0 4 ∷ token k.symbol 5 1 ∷ token k.integer 6 1 ∷ token k.symbol 8 1 ∷ token k.hash 10 43 ∷ [])
text_17-tokens = cut text_17 ((s.word, 4) ∷ (s.blank, 1) ∷ (s.symbol, 1) ∷ (s.integer, 1) ∷ (s.blank, 1) ∷ (s.symbol, 1) ∷ (s.blank, 1) ∷ (s.hash, 43) ∷ []) refl refl

text_17-terminals : terminals text_17 (token k.word 0 4 ∷ token k.symbol 5 1 ∷ token k.integer 6 1 ∷ token k.symbol 8 1 ∷ token k.hash 10 43 ∷ []) ≡ (word w.cert ∷ sign w.dash ∷ int 1 ∷ sign w.equal ∷ hash (1 ∷ 35 ∷ 69 ∷ 103 ∷ 137 ∷ 171 ∷ 205 ∷ 239 ∷ 1 ∷ 35 ∷ 69 ∷ 103 ∷ 137 ∷ 171 ∷ 205 ∷ 239 ∷ 1 ∷ 35 ∷ 69 ∷ 103 ∷ []) ∷ [])
text_17-terminals = refl

text_17-reads : Reads (word w.cert ∷ sign w.dash ∷ int 1 ∷ sign w.equal ∷ hash (1 ∷ 35 ∷ 69 ∷ 103 ∷ 137 ∷ 171 ∷ 205 ∷ 239 ∷ 1 ∷ 35 ∷ 69 ∷ 103 ∷ 137 ∷ 171 ∷ 205 ∷ 239 ∷ 1 ∷ 35 ∷ 69 ∷ 103 ∷ []) ∷ []) (t.anchor_hash (negsuc 0) (1 ∷ 35 ∷ 69 ∷ 103 ∷ 137 ∷ 171 ∷ 205 ∷ 239 ∷ 1 ∷ 35 ∷ 69 ∷ 103 ∷ 137 ∷ 171 ∷ 205 ∷ 239 ∷ 1 ∷ 35 ∷ 69 ∷ 103 ∷ []))
unfolding factor_at chain_from
text_17-reads = read_free _ _ refl refl

-- certificate root[policy.1.2] absent
abbrev text_18 : List ℕ
text_18 = codes "certificate root[policy.1.2] absent"

text_18-tokens : Tokens 0 text_18 (token k.word 0 11 ∷ token k.word 12 4 ∷ token k.symbol 16 1 ∷ token k.word 17 10 ∷ token k.symbol 27 1 ∷ token k.word 29 6 ∷ [])
text_18-tokens = cut text_18 ((s.word, 11) ∷ (s.blank, 1) ∷ (s.word, 4) ∷ (s.symbol, 1) ∷ (s.word, 10) ∷ (s.symbol, 1) ∷ (s.blank, 1) ∷ (s.word, 6) ∷ []) refl refl

text_18-terminals : terminals text_18 (token k.word 0 11 ∷ token k.word 12 4 ∷ token k.symbol 16 1 ∷ token k.word 17 10 ∷ token k.symbol 27 1 ∷ token k.word 29 6 ∷ []) ≡ (word w.certificate ∷ word w.root ∷ sign w.left_bracket ∷ str (codes "policy.1.2") ∷ sign w.right_bracket ∷ word w.absent ∷ [])
text_18-terminals = refl

text_18-reads : Reads (word w.certificate ∷ word w.root ∷ sign w.left_bracket ∷ str (codes "policy.1.2") ∷ sign w.right_bracket ∷ word w.absent ∷ []) (t.cert_policy (negsuc 0) (42 ∷ []) m.Absent)
unfolding factor_at chain_from
text_18-reads = read _ (t.cert_field (negsuc 0) (codes "policy.1.2") m.Absent) _ refl (policy (42 ∷ []) (codes "1.2") refl oid_1_2)

-- anchor[field.2.100.3] exists
abbrev text_19 : List ℕ
text_19 = codes "anchor[field.2.100.3] exists"

text_19-tokens : Tokens 0 text_19 (token k.word 0 6 ∷ token k.symbol 6 1 ∷ token k.word 7 13 ∷ token k.symbol 20 1 ∷ token k.word 22 6 ∷ [])
text_19-tokens = cut text_19 ((s.word, 6) ∷ (s.symbol, 1) ∷ (s.word, 13) ∷ (s.symbol, 1) ∷ (s.blank, 1) ∷ (s.word, 6) ∷ []) refl refl

text_19-terminals : terminals text_19 (token k.word 0 6 ∷ token k.symbol 6 1 ∷ token k.word 7 13 ∷ token k.symbol 20 1 ∷ token k.word 22 6 ∷ []) ≡ (word w.anchor ∷ sign w.left_bracket ∷ str (codes "field.2.100.3") ∷ sign w.right_bracket ∷ word w.exists ∷ [])
text_19-terminals = refl

text_19-reads : Reads (word w.anchor ∷ sign w.left_bracket ∷ str (codes "field.2.100.3") ∷ sign w.right_bracket ∷ word w.exists ∷ []) (t.cert_oid (negsuc 0) (129 ∷ 52 ∷ 3 ∷ []) m.Exists)
unfolding factor_at chain_from
text_19-reads = read _ (t.cert_field (negsuc 0) (codes "field.2.100.3") m.Exists) _ refl (extension (129 ∷ 52 ∷ 3 ∷ []) (codes "2.100.3") refl oid_2_100_3)

-- cert 2147483647["field.1.2"] = *b*
abbrev text_20 : List ℕ
text_20 = codes "cert 2147483647[" ++ (34 ∷ []) ++ codes "field.1.2" ++ (34 ∷ []) ++ codes "] = *b*"

text_20-tokens : Tokens 0 text_20 (token k.word 0 4 ∷ token k.integer 5 10 ∷ token k.symbol 15 1 ∷ token k.quoted 16 11 ∷ token k.symbol 27 1 ∷ token k.symbol 29 1 ∷ token k.symbol 31 1 ∷ token k.word 32 1 ∷ token k.symbol 33 1 ∷ [])
text_20-tokens = cut text_20 ((s.word, 4) ∷ (s.blank, 1) ∷ (s.integer, 10) ∷ (s.symbol, 1) ∷ (s.quoted, 11) ∷ (s.symbol, 1) ∷ (s.blank, 1) ∷ (s.symbol, 1) ∷ (s.blank, 1) ∷ (s.symbol, 1) ∷ (s.word, 1) ∷ (s.symbol, 1) ∷ []) refl refl

text_20-terminals : terminals text_20 (token k.word 0 4 ∷ token k.integer 5 10 ∷ token k.symbol 15 1 ∷ token k.quoted 16 11 ∷ token k.symbol 27 1 ∷ token k.symbol 29 1 ∷ token k.symbol 31 1 ∷ token k.word 32 1 ∷ token k.symbol 33 1 ∷ []) ≡ (word w.cert ∷ int 2147483647 ∷ sign w.left_bracket ∷ str (codes "field.1.2") ∷ sign w.right_bracket ∷ sign w.equal ∷ sign w.star ∷ str (codes "b") ∷ sign w.star ∷ [])
text_20-terminals = refl

text_20-reads : Reads (word w.cert ∷ int 2147483647 ∷ sign w.left_bracket ∷ str (codes "field.1.2") ∷ sign w.right_bracket ∷ sign w.equal ∷ sign w.star ∷ str (codes "b") ∷ sign w.star ∷ []) (t.cert_oid (pos 2147483647) (42 ∷ []) (m.Contains (codes "b")))
unfolding factor_at chain_from
text_20-reads = read _ (t.cert_field (pos 2147483647) (codes "field.1.2") (m.Contains (codes "b"))) _ refl (extension (42 ∷ []) (codes "1.2") refl oid_1_2)

-- platform = -2147483648
abbrev text_21 : List ℕ
text_21 = codes "platform = -2147483648"

text_21-tokens : Tokens 0 text_21 (token k.word 0 8 ∷ token k.symbol 9 1 ∷ token k.symbol 11 1 ∷ token k.integer 12 10 ∷ [])
text_21-tokens = cut text_21 ((s.word, 8) ∷ (s.blank, 1) ∷ (s.symbol, 1) ∷ (s.blank, 1) ∷ (s.symbol, 1) ∷ (s.integer, 10) ∷ []) refl refl

text_21-terminals : terminals text_21 (token k.word 0 8 ∷ token k.symbol 9 1 ∷ token k.symbol 11 1 ∷ token k.integer 12 10 ∷ []) ≡ (word w.platform ∷ sign w.equal ∷ sign w.dash ∷ int 2147483648 ∷ [])
text_21-terminals = refl

text_21-reads : Reads (word w.platform ∷ sign w.equal ∷ sign w.dash ∷ int 2147483648 ∷ []) (t.platform (negsuc 2147483647))
unfolding factor_at chain_from
text_21-reads = read_free _ _ refl refl

-- info[CFBundleVersion] >= "10.2" and info[a]<=b
abbrev text_22 : List ℕ
text_22 = codes "info[CFBundleVersion] >= " ++ (34 ∷ []) ++ codes "10.2" ++ (34 ∷ []) ++ codes " and info[a]<=b"

text_22-tokens : Tokens 0 text_22 (token k.word 0 4 ∷ token k.symbol 4 1 ∷ token k.word 5 15 ∷ token k.symbol 20 1 ∷ token k.symbol 22 2 ∷ token k.quoted 25 6 ∷ token k.word 32 3 ∷ token k.word 36 4 ∷ token k.symbol 40 1 ∷ token k.word 41 1 ∷ token k.symbol 42 1 ∷ token k.symbol 43 2 ∷ token k.word 45 1 ∷ [])
text_22-tokens = cut text_22 ((s.word, 4) ∷ (s.symbol, 1) ∷ (s.word, 15) ∷ (s.symbol, 1) ∷ (s.blank, 1) ∷ (s.symbol, 2) ∷ (s.blank, 1) ∷ (s.quoted, 6) ∷ (s.blank, 1) ∷ (s.word, 3) ∷ (s.blank, 1) ∷ (s.word, 4) ∷ (s.symbol, 1) ∷ (s.word, 1) ∷ (s.symbol, 1) ∷ (s.symbol, 2) ∷ (s.word, 1) ∷ []) refl refl

text_22-terminals : terminals text_22 (token k.word 0 4 ∷ token k.symbol 4 1 ∷ token k.word 5 15 ∷ token k.symbol 20 1 ∷ token k.symbol 22 2 ∷ token k.quoted 25 6 ∷ token k.word 32 3 ∷ token k.word 36 4 ∷ token k.symbol 40 1 ∷ token k.word 41 1 ∷ token k.symbol 42 1 ∷ token k.symbol 43 2 ∷ token k.word 45 1 ∷ []) ≡ (word w.info ∷ sign w.left_bracket ∷ str (codes "CFBundleVersion") ∷ sign w.right_bracket ∷ sign w.greater_equal ∷ str (codes "10.2") ∷ word w.and ∷ word w.info ∷ sign w.left_bracket ∷ str (codes "a") ∷ sign w.right_bracket ∷ sign w.less_equal ∷ str (codes "b") ∷ [])
text_22-terminals = refl

text_22-reads : Reads (word w.info ∷ sign w.left_bracket ∷ str (codes "CFBundleVersion") ∷ sign w.right_bracket ∷ sign w.greater_equal ∷ str (codes "10.2") ∷ word w.and ∷ word w.info ∷ sign w.left_bracket ∷ str (codes "a") ∷ sign w.right_bracket ∷ sign w.less_equal ∷ str (codes "b") ∷ []) (t.both (t.info_field (codes "CFBundleVersion") (m.GreaterEqual (codes "10.2"))) (t.info_field (codes "a") (m.LessEqual (codes "b"))))
unfolding factor_at chain_from
text_22-reads = read_free _ _ refl refl

-- entitlement["com.apple.x"] = "y"* or entitlement[k] ~ z
abbrev text_23 : List ℕ
text_23 = codes "entitlement[" ++ (34 ∷ []) ++ codes "com.apple.x" ++ (34 ∷ []) ++ codes "] = " ++ (34 ∷ []) ++ codes "y" ++ (34 ∷ []) ++ codes "* or entitlement[k] ~ z"

text_23-tokens : Tokens 0 text_23 (token k.word 0 11 ∷ token k.symbol 11 1 ∷ token k.quoted 12 13 ∷ token k.symbol 25 1 ∷ token k.symbol 27 1 ∷ token k.quoted 29 3 ∷ token k.symbol 32 1 ∷ token k.word 34 2 ∷ token k.word 37 11 ∷ token k.symbol 48 1 ∷ token k.word 49 1 ∷ token k.symbol 50 1 ∷ token k.symbol 52 1 ∷ token k.word 54 1 ∷ [])
text_23-tokens = cut text_23 ((s.word, 11) ∷ (s.symbol, 1) ∷ (s.quoted, 13) ∷ (s.symbol, 1) ∷ (s.blank, 1) ∷ (s.symbol, 1) ∷ (s.blank, 1) ∷ (s.quoted, 3) ∷ (s.symbol, 1) ∷ (s.blank, 1) ∷ (s.word, 2) ∷ (s.blank, 1) ∷ (s.word, 11) ∷ (s.symbol, 1) ∷ (s.word, 1) ∷ (s.symbol, 1) ∷ (s.blank, 1) ∷ (s.symbol, 1) ∷ (s.blank, 1) ∷ (s.word, 1) ∷ []) refl refl

text_23-terminals : terminals text_23 (token k.word 0 11 ∷ token k.symbol 11 1 ∷ token k.quoted 12 13 ∷ token k.symbol 25 1 ∷ token k.symbol 27 1 ∷ token k.quoted 29 3 ∷ token k.symbol 32 1 ∷ token k.word 34 2 ∷ token k.word 37 11 ∷ token k.symbol 48 1 ∷ token k.word 49 1 ∷ token k.symbol 50 1 ∷ token k.symbol 52 1 ∷ token k.word 54 1 ∷ []) ≡ (word w.entitlement ∷ sign w.left_bracket ∷ str (codes "com.apple.x") ∷ sign w.right_bracket ∷ sign w.equal ∷ str (codes "y") ∷ sign w.star ∷ word w.or ∷ word w.entitlement ∷ sign w.left_bracket ∷ str (codes "k") ∷ sign w.right_bracket ∷ sign w.tilde ∷ str (codes "z") ∷ [])
text_23-terminals = refl

text_23-reads : Reads (word w.entitlement ∷ sign w.left_bracket ∷ str (codes "com.apple.x") ∷ sign w.right_bracket ∷ sign w.equal ∷ str (codes "y") ∷ sign w.star ∷ word w.or ∷ word w.entitlement ∷ sign w.left_bracket ∷ str (codes "k") ∷ sign w.right_bracket ∷ sign w.tilde ∷ str (codes "z") ∷ []) (t.either (t.entitlement_field (codes "com.apple.x") (m.Begins (codes "y"))) (t.entitlement_field (codes "k") (m.Contains (codes "z"))))
unfolding factor_at chain_from
text_23-reads = read_free _ _ refl refl

-- info[k]=*"s"
abbrev text_24 : List ℕ
text_24 = codes "info[k]=*" ++ (34 ∷ []) ++ codes "s" ++ (34 ∷ [])

text_24-tokens : Tokens 0 text_24 (token k.word 0 4 ∷ token k.symbol 4 1 ∷ token k.word 5 1 ∷ token k.symbol 6 1 ∷ token k.symbol 7 1 ∷ token k.symbol 8 1 ∷ token k.quoted 9 3 ∷ [])
text_24-tokens = cut text_24 ((s.word, 4) ∷ (s.symbol, 1) ∷ (s.word, 1) ∷ (s.symbol, 1) ∷ (s.symbol, 1) ∷ (s.symbol, 1) ∷ (s.quoted, 3) ∷ []) refl refl

text_24-terminals : terminals text_24 (token k.word 0 4 ∷ token k.symbol 4 1 ∷ token k.word 5 1 ∷ token k.symbol 6 1 ∷ token k.symbol 7 1 ∷ token k.symbol 8 1 ∷ token k.quoted 9 3 ∷ []) ≡ (word w.info ∷ sign w.left_bracket ∷ str (codes "k") ∷ sign w.right_bracket ∷ sign w.equal ∷ sign w.star ∷ str (codes "s") ∷ [])
text_24-terminals = refl

text_24-reads : Reads (word w.info ∷ sign w.left_bracket ∷ str (codes "k") ∷ sign w.right_bracket ∷ sign w.equal ∷ sign w.star ∷ str (codes "s") ∷ []) (t.info_field (codes "k") (m.Ends (codes "s")))
unfolding factor_at chain_from
text_24-reads = read_free _ _ refl refl

-- info[k]<s//x
abbrev text_25 : List ℕ
text_25 = codes "info[k]<s//x"

text_25-tokens : Tokens 0 text_25 (token k.word 0 4 ∷ token k.symbol 4 1 ∷ token k.word 5 1 ∷ token k.symbol 6 1 ∷ token k.symbol 7 1 ∷ token k.word 8 1 ∷ [])
text_25-tokens = cut text_25 ((s.word, 4) ∷ (s.symbol, 1) ∷ (s.word, 1) ∷ (s.symbol, 1) ∷ (s.symbol, 1) ∷ (s.word, 1) ∷ (s.line, 3) ∷ []) refl refl

text_25-terminals : terminals text_25 (token k.word 0 4 ∷ token k.symbol 4 1 ∷ token k.word 5 1 ∷ token k.symbol 6 1 ∷ token k.symbol 7 1 ∷ token k.word 8 1 ∷ []) ≡ (word w.info ∷ sign w.left_bracket ∷ str (codes "k") ∷ sign w.right_bracket ∷ sign w.less ∷ str (codes "s") ∷ [])
text_25-terminals = refl

text_25-reads : Reads (word w.info ∷ sign w.left_bracket ∷ str (codes "k") ∷ sign w.right_bracket ∷ sign w.less ∷ str (codes "s") ∷ []) (t.info_field (codes "k") (m.Less (codes "s")))
unfolding factor_at chain_from
text_25-reads = read_free _ _ refl refl

-- always/**//***/ and\tnever# to the end
abbrev text_26 : List ℕ
text_26 = codes "always/**//***/ and" ++ (9 ∷ []) ++ codes "never# to the end"

text_26-tokens : Tokens 0 text_26 (token k.word 0 6 ∷ token k.word 16 3 ∷ token k.word 20 5 ∷ [])
text_26-tokens = cut text_26 ((s.word, 6) ∷ (s.block, 4) ∷ (s.block, 5) ∷ (s.blank, 1) ∷ (s.word, 3) ∷ (s.blank, 1) ∷ (s.word, 5) ∷ (s.line, 12) ∷ []) refl refl

text_26-terminals : terminals text_26 (token k.word 0 6 ∷ token k.word 16 3 ∷ token k.word 20 5 ∷ []) ≡ (word w.always ∷ word w.and ∷ word w.never ∷ [])
text_26-terminals = refl

text_26-reads : Reads (word w.always ∷ word w.and ∷ word w.never ∷ []) (t.both t.always t.never)
unfolding factor_at chain_from
text_26-reads = read_free _ _ refl refl

-- always\r\nand//x\nnever
abbrev text_27 : List ℕ
text_27 = codes "always" ++ (13 ∷ 10 ∷ []) ++ codes "and//x" ++ (10 ∷ []) ++ codes "never"

text_27-tokens : Tokens 0 text_27 (token k.word 0 6 ∷ token k.word 8 3 ∷ token k.word 15 5 ∷ [])
text_27-tokens = cut text_27 ((s.word, 6) ∷ (s.blank, 1) ∷ (s.blank, 1) ∷ (s.word, 3) ∷ (s.line, 3) ∷ (s.blank, 1) ∷ (s.word, 5) ∷ []) refl refl

text_27-terminals : terminals text_27 (token k.word 0 6 ∷ token k.word 8 3 ∷ token k.word 15 5 ∷ []) ≡ (word w.always ∷ word w.and ∷ word w.never ∷ [])
text_27-terminals = refl

text_27-reads : Reads (word w.always ∷ word w.and ∷ word w.never ∷ []) (t.both t.always t.never)
unfolding factor_at chain_from
text_27-reads = read_free _ _ refl refl

-- false
abbrev text_28 : List ℕ
text_28 = codes "false"

text_28-tokens : Tokens 0 text_28 (token k.word 0 5 ∷ [])
text_28-tokens = cut text_28 ((s.word, 5) ∷ []) refl refl

text_28-terminals : terminals text_28 (token k.word 0 5 ∷ []) ≡ (word w.false ∷ [])
text_28-terminals = refl

text_28-reads : Reads (word w.false ∷ []) t.never
unfolding factor_at chain_from
text_28-reads = read_free _ _ refl refl

-- identifier ""
abbrev text_29 : List ℕ
text_29 = codes "identifier " ++ (34 ∷ 34 ∷ [])

text_29-tokens : Tokens 0 text_29 (token k.word 0 10 ∷ token k.quoted 11 2 ∷ [])
text_29-tokens = cut text_29 ((s.word, 10) ∷ (s.blank, 1) ∷ (s.quoted, 2) ∷ []) refl refl

text_29-terminals : terminals text_29 (token k.word 0 10 ∷ token k.quoted 11 2 ∷ []) ≡ (word w.identifier ∷ str [] ∷ [])
text_29-terminals = refl

text_29-reads : Reads (word w.identifier ∷ str [] ∷ []) (t.ident [])
unfolding factor_at chain_from
text_29-reads = read_free _ _ refl refl

-- identifier "a\n\xc3\xa9\x00"
abbrev text_30 : List ℕ
text_30 = codes "identifier " ++ (34 ∷ []) ++ codes "a" ++ (10 ∷ 195 ∷ 169 ∷ 0 ∷ 34 ∷ [])

text_30-tokens : Tokens 0 text_30 (token k.word 0 10 ∷ token k.quoted 11 7 ∷ [])
text_30-tokens = cut text_30 ((s.word, 10) ∷ (s.blank, 1) ∷ (s.quoted, 7) ∷ []) refl refl

text_30-terminals : terminals text_30 (token k.word 0 10 ∷ token k.quoted 11 7 ∷ []) ≡ (word w.identifier ∷ str (codes "a" ++ (10 ∷ 195 ∷ 169 ∷ 0 ∷ [])) ∷ [])
text_30-terminals = refl

text_30-reads : Reads (word w.identifier ∷ str (codes "a" ++ (10 ∷ 195 ∷ 169 ∷ 0 ∷ [])) ∷ []) (t.ident (codes "a" ++ (10 ∷ 195 ∷ 169 ∷ 0 ∷ [])))
unfolding factor_at chain_from
text_30-reads = read_free _ _ refl refl

-- identifier 0xA0bC
abbrev text_31 : List ℕ
text_31 = codes "identifier 0xA0bC"

text_31-tokens : Tokens 0 text_31 (token k.word 0 10 ∷ token k.hex 11 6 ∷ [])
text_31-tokens = cut text_31 ((s.word, 10) ∷ (s.blank, 1) ∷ (s.hex, 6) ∷ []) refl refl

text_31-terminals : terminals text_31 (token k.word 0 10 ∷ token k.hex 11 6 ∷ []) ≡ (word w.identifier ∷ str (160 ∷ 188 ∷ []) ∷ [])
text_31-terminals = refl

text_31-reads : Reads (word w.identifier ∷ str (160 ∷ 188 ∷ []) ∷ []) (t.ident (160 ∷ 188 ∷ []))
unfolding factor_at chain_from
text_31-reads = read_free _ _ refl refl

-- identifier always.x
abbrev text_32 : List ℕ
text_32 = codes "identifier always.x"

text_32-tokens : Tokens 0 text_32 (token k.word 0 10 ∷ token k.word 11 8 ∷ [])
text_32-tokens = cut text_32 ((s.word, 10) ∷ (s.blank, 1) ∷ (s.word, 8) ∷ []) refl refl

text_32-terminals : terminals text_32 (token k.word 0 10 ∷ token k.word 11 8 ∷ []) ≡ (word w.identifier ∷ str (codes "always.x") ∷ [])
text_32-terminals = refl

text_32-reads : Reads (word w.identifier ∷ str (codes "always.x") ∷ []) (t.ident (codes "always.x"))
unfolding factor_at chain_from
text_32-reads = read_free _ _ refl refl

-- identifier Always
abbrev text_33 : List ℕ
text_33 = codes "identifier Always"

text_33-tokens : Tokens 0 text_33 (token k.word 0 10 ∷ token k.word 11 6 ∷ [])
text_33-tokens = cut text_33 ((s.word, 10) ∷ (s.blank, 1) ∷ (s.word, 6) ∷ []) refl refl

text_33-terminals : terminals text_33 (token k.word 0 10 ∷ token k.word 11 6 ∷ []) ≡ (word w.identifier ∷ str (codes "Always") ∷ [])
text_33-terminals = refl

text_33-reads : Reads (word w.identifier ∷ str (codes "Always") ∷ []) (t.ident (codes "Always"))
unfolding factor_at chain_from
text_33-reads = read_free _ _ refl refl

-- identifier a.9.z0
abbrev text_34 : List ℕ
text_34 = codes "identifier a.9.z0"

text_34-tokens : Tokens 0 text_34 (token k.word 0 10 ∷ token k.word 11 6 ∷ [])
text_34-tokens = cut text_34 ((s.word, 10) ∷ (s.blank, 1) ∷ (s.word, 6) ∷ []) refl refl

text_34-terminals : terminals text_34 (token k.word 0 10 ∷ token k.word 11 6 ∷ []) ≡ (word w.identifier ∷ str (codes "a.9.z0") ∷ [])
text_34-terminals = refl

text_34-reads : Reads (word w.identifier ∷ str (codes "a.9.z0") ∷ []) (t.ident (codes "a.9.z0"))
unfolding factor_at chain_from
text_34-reads = read_free _ _ refl refl

-- identifier H and identifier = Hx
abbrev text_35 : List ℕ
text_35 = codes "identifier H and identifier = Hx"

text_35-tokens : Tokens 0 text_35 (token k.word 0 10 ∷ token k.word 11 1 ∷ token k.word 13 3 ∷ token k.word 17 10 ∷ token k.symbol 28 1 ∷ token k.word 30 2 ∷ [])
text_35-tokens = cut text_35 ((s.word, 10) ∷ (s.blank, 1) ∷ (s.word, 1) ∷ (s.blank, 1) ∷ (s.word, 3) ∷ (s.blank, 1) ∷ (s.word, 10) ∷ (s.blank, 1) ∷ (s.symbol, 1) ∷ (s.blank, 1) ∷ (s.word, 2) ∷ []) refl refl

text_35-terminals : terminals text_35 (token k.word 0 10 ∷ token k.word 11 1 ∷ token k.word 13 3 ∷ token k.word 17 10 ∷ token k.symbol 28 1 ∷ token k.word 30 2 ∷ []) ≡ (word w.identifier ∷ str (codes "H") ∷ word w.and ∷ word w.identifier ∷ sign w.equal ∷ str (codes "Hx") ∷ [])
text_35-terminals = refl

text_35-reads : Reads (word w.identifier ∷ str (codes "H") ∷ word w.and ∷ word w.identifier ∷ sign w.equal ∷ str (codes "Hx") ∷ []) (t.both (t.ident (codes "H")) (t.ident (codes "Hx")))
unfolding factor_at chain_from
text_35-reads = read_free _ _ refl refl

-- platform = 0 or platform = 2147483647 or platform = 007
abbrev text_36 : List ℕ
text_36 = codes "platform = 0 or platform = 2147483647 or platform = 007"

text_36-tokens : Tokens 0 text_36 (token k.word 0 8 ∷ token k.symbol 9 1 ∷ token k.integer 11 1 ∷ token k.word 13 2 ∷ token k.word 16 8 ∷ token k.symbol 25 1 ∷ token k.integer 27 10 ∷ token k.word 38 2 ∷ token k.word 41 8 ∷ token k.symbol 50 1 ∷ token k.integer 52 3 ∷ [])
text_36-tokens = cut text_36 ((s.word, 8) ∷ (s.blank, 1) ∷ (s.symbol, 1) ∷ (s.blank, 1) ∷ (s.integer, 1) ∷ (s.blank, 1) ∷ (s.word, 2) ∷ (s.blank, 1) ∷ (s.word, 8) ∷ (s.blank, 1) ∷ (s.symbol, 1) ∷ (s.blank, 1) ∷ (s.integer, 10) ∷ (s.blank, 1) ∷ (s.word, 2) ∷ (s.blank, 1) ∷ (s.word, 8) ∷ (s.blank, 1) ∷ (s.symbol, 1) ∷ (s.blank, 1) ∷ (s.integer, 3) ∷ []) refl refl

text_36-terminals : terminals text_36 (token k.word 0 8 ∷ token k.symbol 9 1 ∷ token k.integer 11 1 ∷ token k.word 13 2 ∷ token k.word 16 8 ∷ token k.symbol 25 1 ∷ token k.integer 27 10 ∷ token k.word 38 2 ∷ token k.word 41 8 ∷ token k.symbol 50 1 ∷ token k.integer 52 3 ∷ []) ≡ (word w.platform ∷ sign w.equal ∷ int 0 ∷ word w.or ∷ word w.platform ∷ sign w.equal ∷ int 2147483647 ∷ word w.or ∷ word w.platform ∷ sign w.equal ∷ int 7 ∷ [])
text_36-terminals = refl

text_36-reads : Reads (word w.platform ∷ sign w.equal ∷ int 0 ∷ word w.or ∷ word w.platform ∷ sign w.equal ∷ int 2147483647 ∷ word w.or ∷ word w.platform ∷ sign w.equal ∷ int 7 ∷ []) (t.either (t.either (t.platform (pos 0)) (t.platform (pos 2147483647))) (t.platform (pos 7)))
unfolding factor_at chain_from
text_36-reads = read_free _ _ refl refl

-- cert 0 trusted and certificate -2147483648 trusted
abbrev text_37 : List ℕ
text_37 = codes "cert 0 trusted and certificate -2147483648 trusted"

text_37-tokens : Tokens 0 text_37 (token k.word 0 4 ∷ token k.integer 5 1 ∷ token k.word 7 7 ∷ token k.word 15 3 ∷ token k.word 19 11 ∷ token k.symbol 31 1 ∷ token k.integer 32 10 ∷ token k.word 43 7 ∷ [])
text_37-tokens = cut text_37 ((s.word, 4) ∷ (s.blank, 1) ∷ (s.integer, 1) ∷ (s.blank, 1) ∷ (s.word, 7) ∷ (s.blank, 1) ∷ (s.word, 3) ∷ (s.blank, 1) ∷ (s.word, 11) ∷ (s.blank, 1) ∷ (s.symbol, 1) ∷ (s.integer, 10) ∷ (s.blank, 1) ∷ (s.word, 7) ∷ []) refl refl

text_37-terminals : terminals text_37 (token k.word 0 4 ∷ token k.integer 5 1 ∷ token k.word 7 7 ∷ token k.word 15 3 ∷ token k.word 19 11 ∷ token k.symbol 31 1 ∷ token k.integer 32 10 ∷ token k.word 43 7 ∷ []) ≡ (word w.cert ∷ int 0 ∷ word w.trusted ∷ word w.and ∷ word w.certificate ∷ sign w.dash ∷ int 2147483648 ∷ word w.trusted ∷ [])
text_37-terminals = refl

text_37-reads : Reads (word w.cert ∷ int 0 ∷ word w.trusted ∷ word w.and ∷ word w.certificate ∷ sign w.dash ∷ int 2147483648 ∷ word w.trusted ∷ []) (t.both (t.trusted_cert (pos 0)) (t.trusted_cert (negsuc 2147483647)))
unfolding factor_at chain_from
text_37-reads = read_free _ _ refl refl

-- info[k]>"1"
abbrev text_38 : List ℕ
text_38 = codes "info[k]>" ++ (34 ∷ []) ++ codes "1" ++ (34 ∷ [])

text_38-tokens : Tokens 0 text_38 (token k.word 0 4 ∷ token k.symbol 4 1 ∷ token k.word 5 1 ∷ token k.symbol 6 1 ∷ token k.symbol 7 1 ∷ token k.quoted 8 3 ∷ [])
text_38-tokens = cut text_38 ((s.word, 4) ∷ (s.symbol, 1) ∷ (s.word, 1) ∷ (s.symbol, 1) ∷ (s.symbol, 1) ∷ (s.quoted, 3) ∷ []) refl refl

text_38-terminals : terminals text_38 (token k.word 0 4 ∷ token k.symbol 4 1 ∷ token k.word 5 1 ∷ token k.symbol 6 1 ∷ token k.symbol 7 1 ∷ token k.quoted 8 3 ∷ []) ≡ (word w.info ∷ sign w.left_bracket ∷ str (codes "k") ∷ sign w.right_bracket ∷ sign w.greater ∷ str (codes "1") ∷ [])
text_38-terminals = refl

text_38-reads : Reads (word w.info ∷ sign w.left_bracket ∷ str (codes "k") ∷ sign w.right_bracket ∷ sign w.greater ∷ str (codes "1") ∷ []) (t.info_field (codes "k") (m.Greater (codes "1")))
unfolding factor_at chain_from
text_38-reads = read_free _ _ refl refl

-- info [ k ] < 0x31
abbrev text_39 : List ℕ
text_39 = codes "info [ k ] < 0x31"

text_39-tokens : Tokens 0 text_39 (token k.word 0 4 ∷ token k.symbol 5 1 ∷ token k.word 7 1 ∷ token k.symbol 9 1 ∷ token k.symbol 11 1 ∷ token k.hex 13 4 ∷ [])
text_39-tokens = cut text_39 ((s.word, 4) ∷ (s.blank, 1) ∷ (s.symbol, 1) ∷ (s.blank, 1) ∷ (s.word, 1) ∷ (s.blank, 1) ∷ (s.symbol, 1) ∷ (s.blank, 1) ∷ (s.symbol, 1) ∷ (s.blank, 1) ∷ (s.hex, 4) ∷ []) refl refl

text_39-terminals : terminals text_39 (token k.word 0 4 ∷ token k.symbol 5 1 ∷ token k.word 7 1 ∷ token k.symbol 9 1 ∷ token k.symbol 11 1 ∷ token k.hex 13 4 ∷ []) ≡ (word w.info ∷ sign w.left_bracket ∷ str (codes "k") ∷ sign w.right_bracket ∷ sign w.less ∷ str (codes "1") ∷ [])
text_39-terminals = refl

text_39-reads : Reads (word w.info ∷ sign w.left_bracket ∷ str (codes "k") ∷ sign w.right_bracket ∷ sign w.less ∷ str (codes "1") ∷ []) (t.info_field (codes "k") (m.Less (codes "1")))
unfolding factor_at chain_from
text_39-reads = read_free _ _ refl refl

-- info[field.1] and entitlement["timestamp.x"]
abbrev text_40 : List ℕ
text_40 = codes "info[field.1] and entitlement[" ++ (34 ∷ []) ++ codes "timestamp.x" ++ (34 ∷ []) ++ codes "]"

text_40-tokens : Tokens 0 text_40 (token k.word 0 4 ∷ token k.symbol 4 1 ∷ token k.word 5 7 ∷ token k.symbol 12 1 ∷ token k.word 14 3 ∷ token k.word 18 11 ∷ token k.symbol 29 1 ∷ token k.quoted 30 13 ∷ token k.symbol 43 1 ∷ [])
text_40-tokens = cut text_40 ((s.word, 4) ∷ (s.symbol, 1) ∷ (s.word, 7) ∷ (s.symbol, 1) ∷ (s.blank, 1) ∷ (s.word, 3) ∷ (s.blank, 1) ∷ (s.word, 11) ∷ (s.symbol, 1) ∷ (s.quoted, 13) ∷ (s.symbol, 1) ∷ []) refl refl

text_40-terminals : terminals text_40 (token k.word 0 4 ∷ token k.symbol 4 1 ∷ token k.word 5 7 ∷ token k.symbol 12 1 ∷ token k.word 14 3 ∷ token k.word 18 11 ∷ token k.symbol 29 1 ∷ token k.quoted 30 13 ∷ token k.symbol 43 1 ∷ []) ≡ (word w.info ∷ sign w.left_bracket ∷ str (codes "field.1") ∷ sign w.right_bracket ∷ word w.and ∷ word w.entitlement ∷ sign w.left_bracket ∷ str (codes "timestamp.x") ∷ sign w.right_bracket ∷ [])
text_40-terminals = refl

text_40-reads : Reads (word w.info ∷ sign w.left_bracket ∷ str (codes "field.1") ∷ sign w.right_bracket ∷ word w.and ∷ word w.entitlement ∷ sign w.left_bracket ∷ str (codes "timestamp.x") ∷ sign w.right_bracket ∷ []) (t.both (t.info_field (codes "field.1") m.Exists) (t.entitlement_field (codes "timestamp.x") m.Exists))
unfolding factor_at chain_from
text_40-reads = read_free _ _ refl refl

-- cert leaf["fieldx"] exists and cert leaf[fields.1]
abbrev text_41 : List ℕ
text_41 = codes "cert leaf[" ++ (34 ∷ []) ++ codes "fieldx" ++ (34 ∷ []) ++ codes "] exists and cert leaf[fields.1]"

text_41-tokens : Tokens 0 text_41 (token k.word 0 4 ∷ token k.word 5 4 ∷ token k.symbol 9 1 ∷ token k.quoted 10 8 ∷ token k.symbol 18 1 ∷ token k.word 20 6 ∷ token k.word 27 3 ∷ token k.word 31 4 ∷ token k.word 36 4 ∷ token k.symbol 40 1 ∷ token k.word 41 8 ∷ token k.symbol 49 1 ∷ [])
text_41-tokens = cut text_41 ((s.word, 4) ∷ (s.blank, 1) ∷ (s.word, 4) ∷ (s.symbol, 1) ∷ (s.quoted, 8) ∷ (s.symbol, 1) ∷ (s.blank, 1) ∷ (s.word, 6) ∷ (s.blank, 1) ∷ (s.word, 3) ∷ (s.blank, 1) ∷ (s.word, 4) ∷ (s.blank, 1) ∷ (s.word, 4) ∷ (s.symbol, 1) ∷ (s.word, 8) ∷ (s.symbol, 1) ∷ []) refl refl

text_41-terminals : terminals text_41 (token k.word 0 4 ∷ token k.word 5 4 ∷ token k.symbol 9 1 ∷ token k.quoted 10 8 ∷ token k.symbol 18 1 ∷ token k.word 20 6 ∷ token k.word 27 3 ∷ token k.word 31 4 ∷ token k.word 36 4 ∷ token k.symbol 40 1 ∷ token k.word 41 8 ∷ token k.symbol 49 1 ∷ []) ≡ (word w.cert ∷ word w.leaf ∷ sign w.left_bracket ∷ str (codes "fieldx") ∷ sign w.right_bracket ∷ word w.exists ∷ word w.and ∷ word w.cert ∷ word w.leaf ∷ sign w.left_bracket ∷ str (codes "fields.1") ∷ sign w.right_bracket ∷ [])
text_41-terminals = refl

text_41-reads : Reads (word w.cert ∷ word w.leaf ∷ sign w.left_bracket ∷ str (codes "fieldx") ∷ sign w.right_bracket ∷ word w.exists ∷ word w.and ∷ word w.cert ∷ word w.leaf ∷ sign w.left_bracket ∷ str (codes "fields.1") ∷ sign w.right_bracket ∷ []) (t.both (t.cert_field (pos 0) (codes "fieldx") m.Exists) (t.cert_field (pos 0) (codes "fields.1") m.Exists))
unfolding factor_at chain_from
text_41-reads = read_free _ _ refl refl

-- cert leaf[0x6669656c642e312e32]
abbrev text_42 : List ℕ
text_42 = codes "cert leaf[0x6669656c642e312e32]"

text_42-tokens : Tokens 0 text_42 (token k.word 0 4 ∷ token k.word 5 4 ∷ token k.symbol 9 1 ∷ token k.hex 10 20 ∷ token k.symbol 30 1 ∷ [])
text_42-tokens = cut text_42 ((s.word, 4) ∷ (s.blank, 1) ∷ (s.word, 4) ∷ (s.symbol, 1) ∷ (s.hex, 20) ∷ (s.symbol, 1) ∷ []) refl refl

text_42-terminals : terminals text_42 (token k.word 0 4 ∷ token k.word 5 4 ∷ token k.symbol 9 1 ∷ token k.hex 10 20 ∷ token k.symbol 30 1 ∷ []) ≡ (word w.cert ∷ word w.leaf ∷ sign w.left_bracket ∷ str (codes "field.1.2") ∷ sign w.right_bracket ∷ [])
text_42-terminals = refl

text_42-reads : Reads (word w.cert ∷ word w.leaf ∷ sign w.left_bracket ∷ str (codes "field.1.2") ∷ sign w.right_bracket ∷ []) (t.cert_oid (pos 0) (42 ∷ []) m.Exists)
unfolding factor_at chain_from
text_42-reads = read _ (t.cert_field (pos 0) (codes "field.1.2") m.Exists) _ refl (extension (42 ∷ []) (codes "1.2") refl oid_1_2)

-- anchor apple generic
abbrev text_43 : List ℕ
text_43 = codes "anchor apple generic"

text_43-tokens : Tokens 0 text_43 (token k.word 0 6 ∷ token k.word 7 5 ∷ token k.word 13 7 ∷ [])
text_43-tokens = cut text_43 ((s.word, 6) ∷ (s.blank, 1) ∷ (s.word, 5) ∷ (s.blank, 1) ∷ (s.word, 7) ∷ []) refl refl

text_43-terminals : terminals text_43 (token k.word 0 6 ∷ token k.word 7 5 ∷ token k.word 13 7 ∷ []) ≡ (word w.anchor ∷ word w.apple ∷ word w.generic ∷ [])
text_43-terminals = refl

text_43-reads : Reads (word w.anchor ∷ word w.apple ∷ word w.generic ∷ []) t.apple_generic
unfolding factor_at chain_from
text_43-reads = read_free _ _ refl refl

-- anchor[subject.CN] ~ Apple
abbrev text_44 : List ℕ
text_44 = codes "anchor[subject.CN] ~ Apple"

text_44-tokens : Tokens 0 text_44 (token k.word 0 6 ∷ token k.symbol 6 1 ∷ token k.word 7 10 ∷ token k.symbol 17 1 ∷ token k.symbol 19 1 ∷ token k.word 21 5 ∷ [])
text_44-tokens = cut text_44 ((s.word, 6) ∷ (s.symbol, 1) ∷ (s.word, 10) ∷ (s.symbol, 1) ∷ (s.blank, 1) ∷ (s.symbol, 1) ∷ (s.blank, 1) ∷ (s.word, 5) ∷ []) refl refl

text_44-terminals : terminals text_44 (token k.word 0 6 ∷ token k.symbol 6 1 ∷ token k.word 7 10 ∷ token k.symbol 17 1 ∷ token k.symbol 19 1 ∷ token k.word 21 5 ∷ []) ≡ (word w.anchor ∷ sign w.left_bracket ∷ str (codes "subject.CN") ∷ sign w.right_bracket ∷ sign w.tilde ∷ str (codes "Apple") ∷ [])
text_44-terminals = refl

text_44-reads : Reads (word w.anchor ∷ sign w.left_bracket ∷ str (codes "subject.CN") ∷ sign w.right_bracket ∷ sign w.tilde ∷ str (codes "Apple") ∷ []) (t.cert_field (negsuc 0) (codes "subject.CN") (m.Contains (codes "Apple")))
unfolding factor_at chain_from
text_44-reads = read_free _ _ refl refl

-- !always and never
abbrev text_45 : List ℕ
text_45 = codes "!always and never"

text_45-tokens : Tokens 0 text_45 (token k.symbol 0 1 ∷ token k.word 1 6 ∷ token k.word 8 3 ∷ token k.word 12 5 ∷ [])
text_45-tokens = cut text_45 ((s.symbol, 1) ∷ (s.word, 6) ∷ (s.blank, 1) ∷ (s.word, 3) ∷ (s.blank, 1) ∷ (s.word, 5) ∷ []) refl refl

text_45-terminals : terminals text_45 (token k.symbol 0 1 ∷ token k.word 1 6 ∷ token k.word 8 3 ∷ token k.word 12 5 ∷ []) ≡ (sign w.bang ∷ word w.always ∷ word w.and ∷ word w.never ∷ [])
text_45-terminals = refl

text_45-reads : Reads (sign w.bang ∷ word w.always ∷ word w.and ∷ word w.never ∷ []) (t.both (t.negate t.always) t.never)
unfolding factor_at chain_from
text_45-reads = read_free _ _ refl refl

-- !(always and never)
abbrev text_46 : List ℕ
text_46 = codes "!(always and never)"

text_46-tokens : Tokens 0 text_46 (token k.symbol 0 1 ∷ token k.symbol 1 1 ∷ token k.word 2 6 ∷ token k.word 9 3 ∷ token k.word 13 5 ∷ token k.symbol 18 1 ∷ [])
text_46-tokens = cut text_46 ((s.symbol, 1) ∷ (s.symbol, 1) ∷ (s.word, 6) ∷ (s.blank, 1) ∷ (s.word, 3) ∷ (s.blank, 1) ∷ (s.word, 5) ∷ (s.symbol, 1) ∷ []) refl refl

text_46-terminals : terminals text_46 (token k.symbol 0 1 ∷ token k.symbol 1 1 ∷ token k.word 2 6 ∷ token k.word 9 3 ∷ token k.word 13 5 ∷ token k.symbol 18 1 ∷ []) ≡ (sign w.bang ∷ sign w.left_paren ∷ word w.always ∷ word w.and ∷ word w.never ∷ sign w.right_paren ∷ [])
text_46-terminals = refl

text_46-reads : Reads (sign w.bang ∷ sign w.left_paren ∷ word w.always ∷ word w.and ∷ word w.never ∷ sign w.right_paren ∷ []) (t.negate (t.both t.always t.never))
unfolding factor_at chain_from
text_46-reads = read_free _ _ refl refl

-- always and (never and legacy)
abbrev text_47 : List ℕ
text_47 = codes "always and (never and legacy)"

text_47-tokens : Tokens 0 text_47 (token k.word 0 6 ∷ token k.word 7 3 ∷ token k.symbol 11 1 ∷ token k.word 12 5 ∷ token k.word 18 3 ∷ token k.word 22 6 ∷ token k.symbol 28 1 ∷ [])
text_47-tokens = cut text_47 ((s.word, 6) ∷ (s.blank, 1) ∷ (s.word, 3) ∷ (s.blank, 1) ∷ (s.symbol, 1) ∷ (s.word, 5) ∷ (s.blank, 1) ∷ (s.word, 3) ∷ (s.blank, 1) ∷ (s.word, 6) ∷ (s.symbol, 1) ∷ []) refl refl

text_47-terminals : terminals text_47 (token k.word 0 6 ∷ token k.word 7 3 ∷ token k.symbol 11 1 ∷ token k.word 12 5 ∷ token k.word 18 3 ∷ token k.word 22 6 ∷ token k.symbol 28 1 ∷ []) ≡ (word w.always ∷ word w.and ∷ sign w.left_paren ∷ word w.never ∷ word w.and ∷ word w.legacy ∷ sign w.right_paren ∷ [])
text_47-terminals = refl

text_47-reads : Reads (word w.always ∷ word w.and ∷ sign w.left_paren ∷ word w.never ∷ word w.and ∷ word w.legacy ∷ sign w.right_paren ∷ []) (t.both t.always (t.both t.never t.legacy_dev_id))
unfolding factor_at chain_from
text_47-reads = read_free _ _ refl refl

-- (always and never) and legacy
abbrev text_48 : List ℕ
text_48 = codes "(always and never) and legacy"

text_48-tokens : Tokens 0 text_48 (token k.symbol 0 1 ∷ token k.word 1 6 ∷ token k.word 8 3 ∷ token k.word 12 5 ∷ token k.symbol 17 1 ∷ token k.word 19 3 ∷ token k.word 23 6 ∷ [])
text_48-tokens = cut text_48 ((s.symbol, 1) ∷ (s.word, 6) ∷ (s.blank, 1) ∷ (s.word, 3) ∷ (s.blank, 1) ∷ (s.word, 5) ∷ (s.symbol, 1) ∷ (s.blank, 1) ∷ (s.word, 3) ∷ (s.blank, 1) ∷ (s.word, 6) ∷ []) refl refl

text_48-terminals : terminals text_48 (token k.symbol 0 1 ∷ token k.word 1 6 ∷ token k.word 8 3 ∷ token k.word 12 5 ∷ token k.symbol 17 1 ∷ token k.word 19 3 ∷ token k.word 23 6 ∷ []) ≡ (sign w.left_paren ∷ word w.always ∷ word w.and ∷ word w.never ∷ sign w.right_paren ∷ word w.and ∷ word w.legacy ∷ [])
text_48-terminals = refl

text_48-reads : Reads (sign w.left_paren ∷ word w.always ∷ word w.and ∷ word w.never ∷ sign w.right_paren ∷ word w.and ∷ word w.legacy ∷ []) (t.both (t.both t.always t.never) t.legacy_dev_id)
unfolding factor_at chain_from
text_48-reads = read_free _ _ refl refl

-- always or never or legacy or notarized
abbrev text_49 : List ℕ
text_49 = codes "always or never or legacy or notarized"

text_49-tokens : Tokens 0 text_49 (token k.word 0 6 ∷ token k.word 7 2 ∷ token k.word 10 5 ∷ token k.word 16 2 ∷ token k.word 19 6 ∷ token k.word 26 2 ∷ token k.word 29 9 ∷ [])
text_49-tokens = cut text_49 ((s.word, 6) ∷ (s.blank, 1) ∷ (s.word, 2) ∷ (s.blank, 1) ∷ (s.word, 5) ∷ (s.blank, 1) ∷ (s.word, 2) ∷ (s.blank, 1) ∷ (s.word, 6) ∷ (s.blank, 1) ∷ (s.word, 2) ∷ (s.blank, 1) ∷ (s.word, 9) ∷ []) refl refl

text_49-terminals : terminals text_49 (token k.word 0 6 ∷ token k.word 7 2 ∷ token k.word 10 5 ∷ token k.word 16 2 ∷ token k.word 19 6 ∷ token k.word 26 2 ∷ token k.word 29 9 ∷ []) ≡ (word w.always ∷ word w.or ∷ word w.never ∷ word w.or ∷ word w.legacy ∷ word w.or ∷ word w.notarized ∷ [])
text_49-terminals = refl

text_49-reads : Reads (word w.always ∷ word w.or ∷ word w.never ∷ word w.or ∷ word w.legacy ∷ word w.or ∷ word w.notarized ∷ []) (t.either (t.either (t.either t.always t.never) t.legacy_dev_id) t.notarized)
unfolding factor_at chain_from
text_49-reads = read_free _ _ refl refl

-- always or (never or legacy)
abbrev text_50 : List ℕ
text_50 = codes "always or (never or legacy)"

text_50-tokens : Tokens 0 text_50 (token k.word 0 6 ∷ token k.word 7 2 ∷ token k.symbol 10 1 ∷ token k.word 11 5 ∷ token k.word 17 2 ∷ token k.word 20 6 ∷ token k.symbol 26 1 ∷ [])
text_50-tokens = cut text_50 ((s.word, 6) ∷ (s.blank, 1) ∷ (s.word, 2) ∷ (s.blank, 1) ∷ (s.symbol, 1) ∷ (s.word, 5) ∷ (s.blank, 1) ∷ (s.word, 2) ∷ (s.blank, 1) ∷ (s.word, 6) ∷ (s.symbol, 1) ∷ []) refl refl

text_50-terminals : terminals text_50 (token k.word 0 6 ∷ token k.word 7 2 ∷ token k.symbol 10 1 ∷ token k.word 11 5 ∷ token k.word 17 2 ∷ token k.word 20 6 ∷ token k.symbol 26 1 ∷ []) ≡ (word w.always ∷ word w.or ∷ sign w.left_paren ∷ word w.never ∷ word w.or ∷ word w.legacy ∷ sign w.right_paren ∷ [])
text_50-terminals = refl

text_50-reads : Reads (word w.always ∷ word w.or ∷ sign w.left_paren ∷ word w.never ∷ word w.or ∷ word w.legacy ∷ sign w.right_paren ∷ []) (t.either t.always (t.either t.never t.legacy_dev_id))
unfolding factor_at chain_from
text_50-reads = read_free _ _ refl refl

-- (always or never) and legacy
abbrev text_51 : List ℕ
text_51 = codes "(always or never) and legacy"

text_51-tokens : Tokens 0 text_51 (token k.symbol 0 1 ∷ token k.word 1 6 ∷ token k.word 8 2 ∷ token k.word 11 5 ∷ token k.symbol 16 1 ∷ token k.word 18 3 ∷ token k.word 22 6 ∷ [])
text_51-tokens = cut text_51 ((s.symbol, 1) ∷ (s.word, 6) ∷ (s.blank, 1) ∷ (s.word, 2) ∷ (s.blank, 1) ∷ (s.word, 5) ∷ (s.symbol, 1) ∷ (s.blank, 1) ∷ (s.word, 3) ∷ (s.blank, 1) ∷ (s.word, 6) ∷ []) refl refl

text_51-terminals : terminals text_51 (token k.symbol 0 1 ∷ token k.word 1 6 ∷ token k.word 8 2 ∷ token k.word 11 5 ∷ token k.symbol 16 1 ∷ token k.word 18 3 ∷ token k.word 22 6 ∷ []) ≡ (sign w.left_paren ∷ word w.always ∷ word w.or ∷ word w.never ∷ sign w.right_paren ∷ word w.and ∷ word w.legacy ∷ [])
text_51-terminals = refl

text_51-reads : Reads (sign w.left_paren ∷ word w.always ∷ word w.or ∷ word w.never ∷ sign w.right_paren ∷ word w.and ∷ word w.legacy ∷ []) (t.both (t.either t.always t.never) t.legacy_dev_id)
unfolding factor_at chain_from
text_51-reads = read_free _ _ refl refl

-- ((always))
abbrev text_52 : List ℕ
text_52 = codes "((always))"

text_52-tokens : Tokens 0 text_52 (token k.symbol 0 1 ∷ token k.symbol 1 1 ∷ token k.word 2 6 ∷ token k.symbol 8 1 ∷ token k.symbol 9 1 ∷ [])
text_52-tokens = cut text_52 ((s.symbol, 1) ∷ (s.symbol, 1) ∷ (s.word, 6) ∷ (s.symbol, 1) ∷ (s.symbol, 1) ∷ []) refl refl

text_52-terminals : terminals text_52 (token k.symbol 0 1 ∷ token k.symbol 1 1 ∷ token k.word 2 6 ∷ token k.symbol 8 1 ∷ token k.symbol 9 1 ∷ []) ≡ (sign w.left_paren ∷ sign w.left_paren ∷ word w.always ∷ sign w.right_paren ∷ sign w.right_paren ∷ [])
text_52-terminals = refl

text_52-reads : Reads (sign w.left_paren ∷ sign w.left_paren ∷ word w.always ∷ sign w.right_paren ∷ sign w.right_paren ∷ []) t.always
unfolding factor_at chain_from
text_52-reads = read_free _ _ refl refl

-- !!!(Name)
abbrev text_53 : List ℕ
text_53 = codes "!!!(Name)"

text_53-tokens : Tokens 0 text_53 (token k.symbol 0 1 ∷ token k.symbol 1 1 ∷ token k.symbol 2 1 ∷ token k.symbol 3 1 ∷ token k.word 4 4 ∷ token k.symbol 8 1 ∷ [])
text_53-tokens = cut text_53 ((s.symbol, 1) ∷ (s.symbol, 1) ∷ (s.symbol, 1) ∷ (s.symbol, 1) ∷ (s.word, 4) ∷ (s.symbol, 1) ∷ []) refl refl

text_53-terminals : terminals text_53 (token k.symbol 0 1 ∷ token k.symbol 1 1 ∷ token k.symbol 2 1 ∷ token k.symbol 3 1 ∷ token k.word 4 4 ∷ token k.symbol 8 1 ∷ []) ≡ (sign w.bang ∷ sign w.bang ∷ sign w.bang ∷ sign w.left_paren ∷ str (codes "Name") ∷ sign w.right_paren ∷ [])
text_53-terminals = refl

text_53-reads : Reads (sign w.bang ∷ sign w.bang ∷ sign w.bang ∷ sign w.left_paren ∷ str (codes "Name") ∷ sign w.right_paren ∷ []) (t.negate (t.negate (t.negate (t.named_code (codes "Name")))))
unfolding factor_at chain_from
text_53-reads = read_free _ _ refl refl

-- /*/*/always
abbrev text_54 : List ℕ
text_54 = codes "/*/*/always"

text_54-tokens : Tokens 0 text_54 (token k.word 5 6 ∷ [])
text_54-tokens = cut text_54 ((s.block, 5) ∷ (s.word, 6) ∷ []) refl refl

text_54-terminals : terminals text_54 (token k.word 5 6 ∷ []) ≡ (word w.always ∷ [])
text_54-terminals = refl

text_54-reads : Reads (word w.always ∷ []) t.always
unfolding factor_at chain_from
text_54-reads = read_free _ _ refl refl

-- #\n# c\nalways//
abbrev text_55 : List ℕ
text_55 = codes "#" ++ (10 ∷ []) ++ codes "# c" ++ (10 ∷ []) ++ codes "always//"

text_55-tokens : Tokens 0 text_55 (token k.word 6 6 ∷ [])
text_55-tokens = cut text_55 ((s.line, 1) ∷ (s.blank, 1) ∷ (s.line, 3) ∷ (s.blank, 1) ∷ (s.word, 6) ∷ (s.line, 2) ∷ []) refl refl

text_55-terminals : terminals text_55 (token k.word 6 6 ∷ []) ≡ (word w.always ∷ [])
text_55-terminals = refl

text_55-reads : Reads (word w.always ∷ []) t.always
unfolding factor_at chain_from
text_55-reads = read_free _ _ refl refl

-- always/* * / */or never
abbrev text_56 : List ℕ
text_56 = codes "always/* * / */or never"

text_56-tokens : Tokens 0 text_56 (token k.word 0 6 ∷ token k.word 15 2 ∷ token k.word 18 5 ∷ [])
text_56-tokens = cut text_56 ((s.word, 6) ∷ (s.block, 9) ∷ (s.word, 2) ∷ (s.blank, 1) ∷ (s.word, 5) ∷ []) refl refl

text_56-terminals : terminals text_56 (token k.word 0 6 ∷ token k.word 15 2 ∷ token k.word 18 5 ∷ []) ≡ (word w.always ∷ word w.or ∷ word w.never ∷ [])
text_56-terminals = refl

text_56-reads : Reads (word w.always ∷ word w.or ∷ word w.never ∷ []) (t.either t.always t.never)
unfolding factor_at chain_from
text_56-reads = read_free _ _ refl refl

-- identifier "com.apple.Safari" and anchor apple
abbrev text_57 : List ℕ
text_57 = codes "identifier " ++ (34 ∷ []) ++ codes "com.apple.Safari" ++ (34 ∷ []) ++ codes " and anchor apple"

text_57-tokens : Tokens 0 text_57 (token k.word 0 10 ∷ token k.quoted 11 18 ∷ token k.word 30 3 ∷ token k.word 34 6 ∷ token k.word 41 5 ∷ [])
text_57-tokens = cut text_57 ((s.word, 10) ∷ (s.blank, 1) ∷ (s.quoted, 18) ∷ (s.blank, 1) ∷ (s.word, 3) ∷ (s.blank, 1) ∷ (s.word, 6) ∷ (s.blank, 1) ∷ (s.word, 5) ∷ []) refl refl

text_57-terminals : terminals text_57 (token k.word 0 10 ∷ token k.quoted 11 18 ∷ token k.word 30 3 ∷ token k.word 34 6 ∷ token k.word 41 5 ∷ []) ≡ (word w.identifier ∷ str (codes "com.apple.Safari") ∷ word w.and ∷ word w.anchor ∷ word w.apple ∷ [])
text_57-terminals = refl

text_57-reads : Reads (word w.identifier ∷ str (codes "com.apple.Safari") ∷ word w.and ∷ word w.anchor ∷ word w.apple ∷ []) (t.both (t.ident (codes "com.apple.Safari")) t.apple_anchor)
unfolding factor_at chain_from
text_57-reads = read_free _ _ refl refl

-- (anchor apple generic and certificate leaf[field.1.2.840.113635.100.6.1.9] /* exists */ or anchor apple generic and certificate 1[field.1.2.840.113635.100.6.2.6] /* exists */ and certificate leaf[field.1.2.840.113635.100.6.1.13] /* exists */ and certificate leaf[subject.OU] = ABCDE12345) and identifier "com.example.app"
abbrev text_58 : List ℕ
text_58 = codes "(anchor apple generic and certificate leaf[field.1.2.840.113635.100.6.1.9] /* exists */ or anchor apple generic and certificate 1[field.1.2.840.113635.100.6.2.6] /* exists */ and certificate leaf[field.1.2.840.113635.100.6.1.13] /* exists */ and certificate leaf[subject.OU] = ABCDE12345) and identifier " ++ (34 ∷ []) ++ codes "com.example.app" ++ (34 ∷ [])

text_58-tokens : Tokens 0 text_58 (token k.symbol 0 1 ∷ token k.word 1 6 ∷ token k.word 8 5 ∷ token k.word 14 7 ∷ token k.word 22 3 ∷ token k.word 26 11 ∷ token k.word 38 4 ∷ token k.symbol 42 1 ∷ token k.word 43 30 ∷ token k.symbol 73 1 ∷ token k.word 88 2 ∷ token k.word 91 6 ∷ token k.word 98 5 ∷ token k.word 104 7 ∷ token k.word 112 3 ∷ token k.word 116 11 ∷ token k.integer 128 1 ∷ token k.symbol 129 1 ∷ token k.word 130 30 ∷ token k.symbol 160 1 ∷ token k.word 175 3 ∷ token k.word 179 11 ∷ token k.word 191 4 ∷ token k.symbol 195 1 ∷ token k.word 196 31 ∷ token k.symbol 227 1 ∷ token k.word 242 3 ∷ token k.word 246 11 ∷ token k.word 258 4 ∷ token k.symbol 262 1 ∷ token k.word 263 10 ∷ token k.symbol 273 1 ∷ token k.symbol 275 1 ∷ token k.word 277 10 ∷ token k.symbol 287 1 ∷ token k.word 289 3 ∷ token k.word 293 10 ∷ token k.quoted 304 17 ∷ [])
text_58-tokens = cut text_58 ((s.symbol, 1) ∷ (s.word, 6) ∷ (s.blank, 1) ∷ (s.word, 5) ∷ (s.blank, 1) ∷ (s.word, 7) ∷ (s.blank, 1) ∷ (s.word, 3) ∷ (s.blank, 1) ∷ (s.word, 11) ∷ (s.blank, 1) ∷ (s.word, 4) ∷ (s.symbol, 1) ∷ (s.word, 30) ∷ (s.symbol, 1) ∷ (s.blank, 1) ∷ (s.block, 12) ∷ (s.blank, 1) ∷ (s.word, 2) ∷ (s.blank, 1) ∷ (s.word, 6) ∷ (s.blank, 1) ∷ (s.word, 5) ∷ (s.blank, 1) ∷ (s.word, 7) ∷ (s.blank, 1) ∷ (s.word, 3) ∷ (s.blank, 1) ∷ (s.word, 11) ∷ (s.blank, 1) ∷ (s.integer, 1) ∷ (s.symbol, 1) ∷ (s.word, 30) ∷ (s.symbol, 1) ∷ (s.blank, 1) ∷ (s.block, 12) ∷ (s.blank, 1) ∷ (s.word, 3) ∷ (s.blank, 1) ∷ (s.word, 11) ∷ (s.blank, 1) ∷ (s.word, 4) ∷ (s.symbol, 1) ∷ (s.word, 31) ∷ (s.symbol, 1) ∷ (s.blank, 1) ∷ (s.block, 12) ∷ (s.blank, 1) ∷ (s.word, 3) ∷ (s.blank, 1) ∷ (s.word, 11) ∷ (s.blank, 1) ∷ (s.word, 4) ∷ (s.symbol, 1) ∷ (s.word, 10) ∷ (s.symbol, 1) ∷ (s.blank, 1) ∷ (s.symbol, 1) ∷ (s.blank, 1) ∷ (s.word, 10) ∷ (s.symbol, 1) ∷ (s.blank, 1) ∷ (s.word, 3) ∷ (s.blank, 1) ∷ (s.word, 10) ∷ (s.blank, 1) ∷ (s.quoted, 17) ∷ []) refl refl

text_58-terminals : terminals text_58 (token k.symbol 0 1 ∷ token k.word 1 6 ∷ token k.word 8 5 ∷ token k.word 14 7 ∷ token k.word 22 3 ∷ token k.word 26 11 ∷ token k.word 38 4 ∷ token k.symbol 42 1 ∷ token k.word 43 30 ∷ token k.symbol 73 1 ∷ token k.word 88 2 ∷ token k.word 91 6 ∷ token k.word 98 5 ∷ token k.word 104 7 ∷ token k.word 112 3 ∷ token k.word 116 11 ∷ token k.integer 128 1 ∷ token k.symbol 129 1 ∷ token k.word 130 30 ∷ token k.symbol 160 1 ∷ token k.word 175 3 ∷ token k.word 179 11 ∷ token k.word 191 4 ∷ token k.symbol 195 1 ∷ token k.word 196 31 ∷ token k.symbol 227 1 ∷ token k.word 242 3 ∷ token k.word 246 11 ∷ token k.word 258 4 ∷ token k.symbol 262 1 ∷ token k.word 263 10 ∷ token k.symbol 273 1 ∷ token k.symbol 275 1 ∷ token k.word 277 10 ∷ token k.symbol 287 1 ∷ token k.word 289 3 ∷ token k.word 293 10 ∷ token k.quoted 304 17 ∷ []) ≡ (sign w.left_paren ∷ word w.anchor ∷ word w.apple ∷ word w.generic ∷ word w.and ∷ word w.certificate ∷ word w.leaf ∷ sign w.left_bracket ∷ str (codes "field.1.2.840.113635.100.6.1.9") ∷ sign w.right_bracket ∷ word w.or ∷ word w.anchor ∷ word w.apple ∷ word w.generic ∷ word w.and ∷ word w.certificate ∷ int 1 ∷ sign w.left_bracket ∷ str (codes "field.1.2.840.113635.100.6.2.6") ∷ sign w.right_bracket ∷ word w.and ∷ word w.certificate ∷ word w.leaf ∷ sign w.left_bracket ∷ str (codes "field.1.2.840.113635.100.6.1.13") ∷ sign w.right_bracket ∷ word w.and ∷ word w.certificate ∷ word w.leaf ∷ sign w.left_bracket ∷ str (codes "subject.OU") ∷ sign w.right_bracket ∷ sign w.equal ∷ str (codes "ABCDE12345") ∷ sign w.right_paren ∷ word w.and ∷ word w.identifier ∷ str (codes "com.example.app") ∷ [])
text_58-terminals = refl

text_58-reads : Reads (sign w.left_paren ∷ word w.anchor ∷ word w.apple ∷ word w.generic ∷ word w.and ∷ word w.certificate ∷ word w.leaf ∷ sign w.left_bracket ∷ str (codes "field.1.2.840.113635.100.6.1.9") ∷ sign w.right_bracket ∷ word w.or ∷ word w.anchor ∷ word w.apple ∷ word w.generic ∷ word w.and ∷ word w.certificate ∷ int 1 ∷ sign w.left_bracket ∷ str (codes "field.1.2.840.113635.100.6.2.6") ∷ sign w.right_bracket ∷ word w.and ∷ word w.certificate ∷ word w.leaf ∷ sign w.left_bracket ∷ str (codes "field.1.2.840.113635.100.6.1.13") ∷ sign w.right_bracket ∷ word w.and ∷ word w.certificate ∷ word w.leaf ∷ sign w.left_bracket ∷ str (codes "subject.OU") ∷ sign w.right_bracket ∷ sign w.equal ∷ str (codes "ABCDE12345") ∷ sign w.right_paren ∷ word w.and ∷ word w.identifier ∷ str (codes "com.example.app") ∷ []) (t.both (t.either (t.both t.apple_generic (t.cert_oid (pos 0) (42 ∷ 134 ∷ 72 ∷ 134 ∷ 247 ∷ 99 ∷ 100 ∷ 6 ∷ 1 ∷ 9 ∷ []) m.Exists)) (t.both (t.both (t.both t.apple_generic (t.cert_oid (pos 1) (42 ∷ 134 ∷ 72 ∷ 134 ∷ 247 ∷ 99 ∷ 100 ∷ 6 ∷ 2 ∷ 6 ∷ []) m.Exists)) (t.cert_oid (pos 0) (42 ∷ 134 ∷ 72 ∷ 134 ∷ 247 ∷ 99 ∷ 100 ∷ 6 ∷ 1 ∷ 13 ∷ []) m.Exists)) (t.cert_field (pos 0) (codes "subject.OU") (m.Equal (codes "ABCDE12345"))))) (t.ident (codes "com.example.app")))
unfolding factor_at chain_from
text_58-reads = read _ (t.both (t.either (t.both t.apple_generic (t.cert_field (pos 0) (codes "field.1.2.840.113635.100.6.1.9") m.Exists)) (t.both (t.both (t.both t.apple_generic (t.cert_field (pos 1) (codes "field.1.2.840.113635.100.6.2.6") m.Exists)) (t.cert_field (pos 0) (codes "field.1.2.840.113635.100.6.1.13") m.Exists)) (t.cert_field (pos 0) (codes "subject.OU") (m.Equal (codes "ABCDE12345"))))) (t.ident (codes "com.example.app"))) _ refl (((t.either (t.both t.apple_generic (t.cert_oid (pos 0) (42 ∷ 134 ∷ 72 ∷ 134 ∷ 247 ∷ 99 ∷ 100 ∷ 6 ∷ 1 ∷ 9 ∷ []) m.Exists)) (t.both (t.both (t.both t.apple_generic (t.cert_oid (pos 1) (42 ∷ 134 ∷ 72 ∷ 134 ∷ 247 ∷ 99 ∷ 100 ∷ 6 ∷ 2 ∷ 6 ∷ []) m.Exists)) (t.cert_oid (pos 0) (42 ∷ 134 ∷ 72 ∷ 134 ∷ 247 ∷ 99 ∷ 100 ∷ 6 ∷ 1 ∷ 13 ∷ []) m.Exists)) (t.cert_field (pos 0) (codes "subject.OU") (m.Equal (codes "ABCDE12345"))))), (t.ident (codes "com.example.app")), ((t.both t.apple_generic (t.cert_oid (pos 0) (42 ∷ 134 ∷ 72 ∷ 134 ∷ 247 ∷ 99 ∷ 100 ∷ 6 ∷ 1 ∷ 9 ∷ []) m.Exists)), (t.both (t.both (t.both t.apple_generic (t.cert_oid (pos 1) (42 ∷ 134 ∷ 72 ∷ 134 ∷ 247 ∷ 99 ∷ 100 ∷ 6 ∷ 2 ∷ 6 ∷ []) m.Exists)) (t.cert_oid (pos 0) (42 ∷ 134 ∷ 72 ∷ 134 ∷ 247 ∷ 99 ∷ 100 ∷ 6 ∷ 1 ∷ 13 ∷ []) m.Exists)) (t.cert_field (pos 0) (codes "subject.OU") (m.Equal (codes "ABCDE12345")))), (t.apple_generic, (t.cert_oid (pos 0) (42 ∷ 134 ∷ 72 ∷ 134 ∷ 247 ∷ 99 ∷ 100 ∷ 6 ∷ 1 ∷ 9 ∷ []) m.Exists), free t.apple_generic refl, extension (42 ∷ 134 ∷ 72 ∷ 134 ∷ 247 ∷ 99 ∷ 100 ∷ 6 ∷ 1 ∷ 9 ∷ []) (codes "1.2.840.113635.100.6.1.9") refl oid_1_2_840_113635_100_6_1_9, refl), ((t.both (t.both t.apple_generic (t.cert_oid (pos 1) (42 ∷ 134 ∷ 72 ∷ 134 ∷ 247 ∷ 99 ∷ 100 ∷ 6 ∷ 2 ∷ 6 ∷ []) m.Exists)) (t.cert_oid (pos 0) (42 ∷ 134 ∷ 72 ∷ 134 ∷ 247 ∷ 99 ∷ 100 ∷ 6 ∷ 1 ∷ 13 ∷ []) m.Exists)), (t.cert_field (pos 0) (codes "subject.OU") (m.Equal (codes "ABCDE12345"))), ((t.both t.apple_generic (t.cert_oid (pos 1) (42 ∷ 134 ∷ 72 ∷ 134 ∷ 247 ∷ 99 ∷ 100 ∷ 6 ∷ 2 ∷ 6 ∷ []) m.Exists)), (t.cert_oid (pos 0) (42 ∷ 134 ∷ 72 ∷ 134 ∷ 247 ∷ 99 ∷ 100 ∷ 6 ∷ 1 ∷ 13 ∷ []) m.Exists), (t.apple_generic, (t.cert_oid (pos 1) (42 ∷ 134 ∷ 72 ∷ 134 ∷ 247 ∷ 99 ∷ 100 ∷ 6 ∷ 2 ∷ 6 ∷ []) m.Exists), free t.apple_generic refl, extension (42 ∷ 134 ∷ 72 ∷ 134 ∷ 247 ∷ 99 ∷ 100 ∷ 6 ∷ 2 ∷ 6 ∷ []) (codes "1.2.840.113635.100.6.2.6") refl oid_1_2_840_113635_100_6_2_6, refl), extension (42 ∷ 134 ∷ 72 ∷ 134 ∷ 247 ∷ 99 ∷ 100 ∷ 6 ∷ 1 ∷ 13 ∷ []) (codes "1.2.840.113635.100.6.1.13") refl oid_1_2_840_113635_100_6_1_13, refl), free (t.cert_field (pos 0) (codes "subject.OU") (m.Equal (codes "ABCDE12345"))) refl, refl), refl), free (t.ident (codes "com.example.app")) refl, refl))

-- ---- sets

-- (no bytes)
abbrev text_59 : List ℕ
text_59 = []

text_59-tokens : Tokens 0 text_59 ([])
text_59-tokens = cut text_59 ([]) refl refl

text_59-terminals : terminals text_59 ([]) ≡ ([])
text_59-terminals = refl

text_59-reads : ReadsSet ([]) (record { host = None; guest = None; designated = None; library = None; plugin = None })
unfolding factor_at chain_from
text_59-reads = ([], g.none, refl)

-- designated => always
abbrev text_60 : List ℕ
text_60 = codes "designated => always"

text_60-tokens : Tokens 0 text_60 (token k.word 0 10 ∷ token k.symbol 11 2 ∷ token k.word 14 6 ∷ [])
text_60-tokens = cut text_60 ((s.word, 10) ∷ (s.blank, 1) ∷ (s.symbol, 2) ∷ (s.blank, 1) ∷ (s.word, 6) ∷ []) refl refl

text_60-terminals : terminals text_60 (token k.word 0 10 ∷ token k.symbol 11 2 ∷ token k.word 14 6 ∷ []) ≡ (word w.designated ∷ sign w.arrow ∷ word w.always ∷ [])
text_60-terminals = refl

text_60-reads : ReadsSet (word w.designated ∷ sign w.arrow ∷ word w.always ∷ []) (record { host = None; guest = None; designated = Some t.always; library = None; plugin = None })
unfolding factor_at chain_from
text_60-reads = ((3, t.always) ∷ [], g.part _ _ (word w.always ∷ []) ([]) _ _ g.designated (read_free _ _ refl refl) (g.none), (_, refl, refl, refl))

-- host => always plugin => anchor apple guest => cert leaf[k] and ! (legacy or never)
abbrev text_61 : List ℕ
text_61 = codes "host => always plugin => anchor apple guest => cert leaf[k] and ! (legacy or never)"

text_61-tokens : Tokens 0 text_61 (token k.word 0 4 ∷ token k.symbol 5 2 ∷ token k.word 8 6 ∷ token k.word 15 6 ∷ token k.symbol 22 2 ∷ token k.word 25 6 ∷ token k.word 32 5 ∷ token k.word 38 5 ∷ token k.symbol 44 2 ∷ token k.word 47 4 ∷ token k.word 52 4 ∷ token k.symbol 56 1 ∷ token k.word 57 1 ∷ token k.symbol 58 1 ∷ token k.word 60 3 ∷ token k.symbol 64 1 ∷ token k.symbol 66 1 ∷ token k.word 67 6 ∷ token k.word 74 2 ∷ token k.word 77 5 ∷ token k.symbol 82 1 ∷ [])
text_61-tokens = cut text_61 ((s.word, 4) ∷ (s.blank, 1) ∷ (s.symbol, 2) ∷ (s.blank, 1) ∷ (s.word, 6) ∷ (s.blank, 1) ∷ (s.word, 6) ∷ (s.blank, 1) ∷ (s.symbol, 2) ∷ (s.blank, 1) ∷ (s.word, 6) ∷ (s.blank, 1) ∷ (s.word, 5) ∷ (s.blank, 1) ∷ (s.word, 5) ∷ (s.blank, 1) ∷ (s.symbol, 2) ∷ (s.blank, 1) ∷ (s.word, 4) ∷ (s.blank, 1) ∷ (s.word, 4) ∷ (s.symbol, 1) ∷ (s.word, 1) ∷ (s.symbol, 1) ∷ (s.blank, 1) ∷ (s.word, 3) ∷ (s.blank, 1) ∷ (s.symbol, 1) ∷ (s.blank, 1) ∷ (s.symbol, 1) ∷ (s.word, 6) ∷ (s.blank, 1) ∷ (s.word, 2) ∷ (s.blank, 1) ∷ (s.word, 5) ∷ (s.symbol, 1) ∷ []) refl refl

text_61-terminals : terminals text_61 (token k.word 0 4 ∷ token k.symbol 5 2 ∷ token k.word 8 6 ∷ token k.word 15 6 ∷ token k.symbol 22 2 ∷ token k.word 25 6 ∷ token k.word 32 5 ∷ token k.word 38 5 ∷ token k.symbol 44 2 ∷ token k.word 47 4 ∷ token k.word 52 4 ∷ token k.symbol 56 1 ∷ token k.word 57 1 ∷ token k.symbol 58 1 ∷ token k.word 60 3 ∷ token k.symbol 64 1 ∷ token k.symbol 66 1 ∷ token k.word 67 6 ∷ token k.word 74 2 ∷ token k.word 77 5 ∷ token k.symbol 82 1 ∷ []) ≡ (word w.host ∷ sign w.arrow ∷ word w.always ∷ word w.plugin ∷ sign w.arrow ∷ word w.anchor ∷ word w.apple ∷ word w.guest ∷ sign w.arrow ∷ word w.cert ∷ word w.leaf ∷ sign w.left_bracket ∷ str (codes "k") ∷ sign w.right_bracket ∷ word w.and ∷ sign w.bang ∷ sign w.left_paren ∷ word w.legacy ∷ word w.or ∷ word w.never ∷ sign w.right_paren ∷ [])
text_61-terminals = refl

text_61-reads : ReadsSet (word w.host ∷ sign w.arrow ∷ word w.always ∷ word w.plugin ∷ sign w.arrow ∷ word w.anchor ∷ word w.apple ∷ word w.guest ∷ sign w.arrow ∷ word w.cert ∷ word w.leaf ∷ sign w.left_bracket ∷ str (codes "k") ∷ sign w.right_bracket ∷ word w.and ∷ sign w.bang ∷ sign w.left_paren ∷ word w.legacy ∷ word w.or ∷ word w.never ∷ sign w.right_paren ∷ []) (record { host = Some t.always; guest = Some (t.both (t.cert_field (pos 0) (codes "k") m.Exists) (t.negate (t.either t.legacy_dev_id t.never))); designated = None; library = None; plugin = Some t.apple_anchor })
unfolding factor_at chain_from
text_61-reads = ((1, t.always) ∷ (5, t.apple_anchor) ∷ (2, (t.both (t.cert_field (pos 0) (codes "k") m.Exists) (t.negate (t.either t.legacy_dev_id t.never)))) ∷ [], g.part _ _ (word w.always ∷ []) (word w.plugin ∷ sign w.arrow ∷ word w.anchor ∷ word w.apple ∷ word w.guest ∷ sign w.arrow ∷ word w.cert ∷ word w.leaf ∷ sign w.left_bracket ∷ str (codes "k") ∷ sign w.right_bracket ∷ word w.and ∷ sign w.bang ∷ sign w.left_paren ∷ word w.legacy ∷ word w.or ∷ word w.never ∷ sign w.right_paren ∷ []) _ _ g.host (read_free _ _ refl refl) (g.part _ _ (word w.anchor ∷ word w.apple ∷ []) (word w.guest ∷ sign w.arrow ∷ word w.cert ∷ word w.leaf ∷ sign w.left_bracket ∷ str (codes "k") ∷ sign w.right_bracket ∷ word w.and ∷ sign w.bang ∷ sign w.left_paren ∷ word w.legacy ∷ word w.or ∷ word w.never ∷ sign w.right_paren ∷ []) _ _ g.plugin (read_free _ _ refl refl) (g.part _ _ (word w.cert ∷ word w.leaf ∷ sign w.left_bracket ∷ str (codes "k") ∷ sign w.right_bracket ∷ word w.and ∷ sign w.bang ∷ sign w.left_paren ∷ word w.legacy ∷ word w.or ∷ word w.never ∷ sign w.right_paren ∷ []) ([]) _ _ g.guest (read_free _ _ refl refl) (g.none))), (_, (_, (_, refl, refl, refl), refl, refl), refl, refl))

-- plugin=>always library=>never designated=>legacy guest=>notarized host=>true or false
abbrev text_62 : List ℕ
text_62 = codes "plugin=>always library=>never designated=>legacy guest=>notarized host=>true or false"

text_62-tokens : Tokens 0 text_62 (token k.word 0 6 ∷ token k.symbol 6 2 ∷ token k.word 8 6 ∷ token k.word 15 7 ∷ token k.symbol 22 2 ∷ token k.word 24 5 ∷ token k.word 30 10 ∷ token k.symbol 40 2 ∷ token k.word 42 6 ∷ token k.word 49 5 ∷ token k.symbol 54 2 ∷ token k.word 56 9 ∷ token k.word 66 4 ∷ token k.symbol 70 2 ∷ token k.word 72 4 ∷ token k.word 77 2 ∷ token k.word 80 5 ∷ [])
text_62-tokens = cut text_62 ((s.word, 6) ∷ (s.symbol, 2) ∷ (s.word, 6) ∷ (s.blank, 1) ∷ (s.word, 7) ∷ (s.symbol, 2) ∷ (s.word, 5) ∷ (s.blank, 1) ∷ (s.word, 10) ∷ (s.symbol, 2) ∷ (s.word, 6) ∷ (s.blank, 1) ∷ (s.word, 5) ∷ (s.symbol, 2) ∷ (s.word, 9) ∷ (s.blank, 1) ∷ (s.word, 4) ∷ (s.symbol, 2) ∷ (s.word, 4) ∷ (s.blank, 1) ∷ (s.word, 2) ∷ (s.blank, 1) ∷ (s.word, 5) ∷ []) refl refl

text_62-terminals : terminals text_62 (token k.word 0 6 ∷ token k.symbol 6 2 ∷ token k.word 8 6 ∷ token k.word 15 7 ∷ token k.symbol 22 2 ∷ token k.word 24 5 ∷ token k.word 30 10 ∷ token k.symbol 40 2 ∷ token k.word 42 6 ∷ token k.word 49 5 ∷ token k.symbol 54 2 ∷ token k.word 56 9 ∷ token k.word 66 4 ∷ token k.symbol 70 2 ∷ token k.word 72 4 ∷ token k.word 77 2 ∷ token k.word 80 5 ∷ []) ≡ (word w.plugin ∷ sign w.arrow ∷ word w.always ∷ word w.library ∷ sign w.arrow ∷ word w.never ∷ word w.designated ∷ sign w.arrow ∷ word w.legacy ∷ word w.guest ∷ sign w.arrow ∷ word w.notarized ∷ word w.host ∷ sign w.arrow ∷ word w.true ∷ word w.or ∷ word w.false ∷ [])
text_62-terminals = refl

text_62-reads : ReadsSet (word w.plugin ∷ sign w.arrow ∷ word w.always ∷ word w.library ∷ sign w.arrow ∷ word w.never ∷ word w.designated ∷ sign w.arrow ∷ word w.legacy ∷ word w.guest ∷ sign w.arrow ∷ word w.notarized ∷ word w.host ∷ sign w.arrow ∷ word w.true ∷ word w.or ∷ word w.false ∷ []) (record { host = Some (t.either t.always t.never); guest = Some t.notarized; designated = Some t.legacy_dev_id; library = Some t.never; plugin = Some t.always })
unfolding factor_at chain_from
text_62-reads = ((5, t.always) ∷ (4, t.never) ∷ (3, t.legacy_dev_id) ∷ (2, t.notarized) ∷ (1, (t.either t.always t.never)) ∷ [], g.part _ _ (word w.always ∷ []) (word w.library ∷ sign w.arrow ∷ word w.never ∷ word w.designated ∷ sign w.arrow ∷ word w.legacy ∷ word w.guest ∷ sign w.arrow ∷ word w.notarized ∷ word w.host ∷ sign w.arrow ∷ word w.true ∷ word w.or ∷ word w.false ∷ []) _ _ g.plugin (read_free _ _ refl refl) (g.part _ _ (word w.never ∷ []) (word w.designated ∷ sign w.arrow ∷ word w.legacy ∷ word w.guest ∷ sign w.arrow ∷ word w.notarized ∷ word w.host ∷ sign w.arrow ∷ word w.true ∷ word w.or ∷ word w.false ∷ []) _ _ g.library (read_free _ _ refl refl) (g.part _ _ (word w.legacy ∷ []) (word w.guest ∷ sign w.arrow ∷ word w.notarized ∷ word w.host ∷ sign w.arrow ∷ word w.true ∷ word w.or ∷ word w.false ∷ []) _ _ g.designated (read_free _ _ refl refl) (g.part _ _ (word w.notarized ∷ []) (word w.host ∷ sign w.arrow ∷ word w.true ∷ word w.or ∷ word w.false ∷ []) _ _ g.guest (read_free _ _ refl refl) (g.part _ _ (word w.true ∷ word w.or ∷ word w.false ∷ []) ([]) _ _ g.host (read_free _ _ refl refl) (g.none))))), (_, (_, (_, (_, (_, refl, refl, refl), refl, refl), refl, refl), refl, refl), refl, refl))

-- library => cert leaf[policy.1.2]
abbrev text_63 : List ℕ
text_63 = codes "library => cert leaf[policy.1.2]"

text_63-tokens : Tokens 0 text_63 (token k.word 0 7 ∷ token k.symbol 8 2 ∷ token k.word 11 4 ∷ token k.word 16 4 ∷ token k.symbol 20 1 ∷ token k.word 21 10 ∷ token k.symbol 31 1 ∷ [])
text_63-tokens = cut text_63 ((s.word, 7) ∷ (s.blank, 1) ∷ (s.symbol, 2) ∷ (s.blank, 1) ∷ (s.word, 4) ∷ (s.blank, 1) ∷ (s.word, 4) ∷ (s.symbol, 1) ∷ (s.word, 10) ∷ (s.symbol, 1) ∷ []) refl refl

text_63-terminals : terminals text_63 (token k.word 0 7 ∷ token k.symbol 8 2 ∷ token k.word 11 4 ∷ token k.word 16 4 ∷ token k.symbol 20 1 ∷ token k.word 21 10 ∷ token k.symbol 31 1 ∷ []) ≡ (word w.library ∷ sign w.arrow ∷ word w.cert ∷ word w.leaf ∷ sign w.left_bracket ∷ str (codes "policy.1.2") ∷ sign w.right_bracket ∷ [])
text_63-terminals = refl

text_63-reads : ReadsSet (word w.library ∷ sign w.arrow ∷ word w.cert ∷ word w.leaf ∷ sign w.left_bracket ∷ str (codes "policy.1.2") ∷ sign w.right_bracket ∷ []) (record { host = None; guest = None; designated = None; library = Some (t.cert_policy (pos 0) (42 ∷ []) m.Exists); plugin = None })
unfolding factor_at chain_from
text_63-reads = ((4, (t.cert_policy (pos 0) (42 ∷ []) m.Exists)) ∷ [], g.part _ _ (word w.cert ∷ word w.leaf ∷ sign w.left_bracket ∷ str (codes "policy.1.2") ∷ sign w.right_bracket ∷ []) ([]) _ _ g.library (read _ (t.cert_field (pos 0) (codes "policy.1.2") m.Exists) _ refl (policy (42 ∷ []) (codes "1.2") refl oid_1_2)) (g.none), (_, refl, refl, refl))

-- ---- tokens alone

-- a or b
abbrev text_64 : List ℕ
text_64 = codes "a or b"

text_64-tokens : Tokens 0 text_64 (token k.word 0 1 ∷ token k.word 2 2 ∷ token k.word 5 1 ∷ [])
text_64-tokens = cut text_64 ((s.word, 1) ∷ (s.blank, 1) ∷ (s.word, 2) ∷ (s.blank, 1) ∷ (s.word, 1) ∷ []) refl refl

text_64-terminals : terminals text_64 (token k.word 0 1 ∷ token k.word 2 2 ∷ token k.word 5 1 ∷ []) ≡ (str (codes "a") ∷ word w.or ∷ str (codes "b") ∷ [])
text_64-terminals = refl

-- Hab and 0x12
abbrev text_65 : List ℕ
text_65 = codes "Hab and 0x12"

text_65-tokens : Tokens 0 text_65 (token k.word 0 3 ∷ token k.word 4 3 ∷ token k.hex 8 4 ∷ [])
text_65-tokens = cut text_65 ((s.word, 3) ∷ (s.blank, 1) ∷ (s.word, 3) ∷ (s.blank, 1) ∷ (s.hex, 4) ∷ []) refl refl

text_65-terminals : terminals text_65 (token k.word 0 3 ∷ token k.word 4 3 ∷ token k.hex 8 4 ∷ []) ≡ (str (codes "Hab") ∷ word w.and ∷ str (18 ∷ []) ∷ [])
text_65-terminals = refl

-- 01 => <= < = > ! - H
abbrev text_66 : List ℕ
text_66 = codes "01 => <= < = > ! - H"

text_66-tokens : Tokens 0 text_66 (token k.integer 0 2 ∷ token k.symbol 3 2 ∷ token k.symbol 6 2 ∷ token k.symbol 9 1 ∷ token k.symbol 11 1 ∷ token k.symbol 13 1 ∷ token k.symbol 15 1 ∷ token k.symbol 17 1 ∷ token k.word 19 1 ∷ [])
text_66-tokens = cut text_66 ((s.integer, 2) ∷ (s.blank, 1) ∷ (s.symbol, 2) ∷ (s.blank, 1) ∷ (s.symbol, 2) ∷ (s.blank, 1) ∷ (s.symbol, 1) ∷ (s.blank, 1) ∷ (s.symbol, 1) ∷ (s.blank, 1) ∷ (s.symbol, 1) ∷ (s.blank, 1) ∷ (s.symbol, 1) ∷ (s.blank, 1) ∷ (s.symbol, 1) ∷ (s.blank, 1) ∷ (s.word, 1) ∷ []) refl refl

text_66-terminals : terminals text_66 (token k.integer 0 2 ∷ token k.symbol 3 2 ∷ token k.symbol 6 2 ∷ token k.symbol 9 1 ∷ token k.symbol 11 1 ∷ token k.symbol 13 1 ∷ token k.symbol 15 1 ∷ token k.symbol 17 1 ∷ token k.word 19 1 ∷ []) ≡ (int 1 ∷ sign w.arrow ∷ sign w.less_equal ∷ sign w.less ∷ sign w.equal ∷ sign w.greater ∷ sign w.bang ∷ sign w.dash ∷ str (codes "H") ∷ [])
text_66-terminals = refl

-- H"0123456789abcdef0123456789abcdef01234567"x
abbrev text_67 : List ℕ
text_67 = codes "H" ++ (34 ∷ []) ++ codes "0123456789abcdef0123456789abcdef01234567" ++ (34 ∷ []) ++ codes "x"

text_67-tokens : Tokens 0 text_67 (token k.hash 0 43 ∷ token k.word 43 1 ∷ [])
text_67-tokens = cut text_67 ((s.hash, 43) ∷ (s.word, 1) ∷ []) refl refl

text_67-terminals : terminals text_67 (token k.hash 0 43 ∷ token k.word 43 1 ∷ []) ≡ (hash (1 ∷ 35 ∷ 69 ∷ 103 ∷ 137 ∷ 171 ∷ 205 ∷ 239 ∷ 1 ∷ 35 ∷ 69 ∷ 103 ∷ 137 ∷ 171 ∷ 205 ∷ 239 ∷ 1 ∷ 35 ∷ 69 ∷ 103 ∷ []) ∷ str (codes "x") ∷ [])
text_67-terminals = refl

-- certificate leaf[field.1]
abbrev text_68 : List ℕ
text_68 = codes "certificate leaf[field.1]"

text_68-tokens : Tokens 0 text_68 (token k.word 0 11 ∷ token k.word 12 4 ∷ token k.symbol 16 1 ∷ token k.word 17 7 ∷ token k.symbol 24 1 ∷ [])
text_68-tokens = cut text_68 ((s.word, 11) ∷ (s.blank, 1) ∷ (s.word, 4) ∷ (s.symbol, 1) ∷ (s.word, 7) ∷ (s.symbol, 1) ∷ []) refl refl

text_68-terminals : terminals text_68 (token k.word 0 11 ∷ token k.word 12 4 ∷ token k.symbol 16 1 ∷ token k.word 17 7 ∷ token k.symbol 24 1 ∷ []) ≡ (word w.certificate ∷ word w.leaf ∷ sign w.left_bracket ∷ str (codes "field.1") ∷ sign w.right_bracket ∷ [])
text_68-terminals = refl

-- identifier and
abbrev text_69 : List ℕ
text_69 = codes "identifier and"

text_69-tokens : Tokens 0 text_69 (token k.word 0 10 ∷ token k.word 11 3 ∷ [])
text_69-tokens = cut text_69 ((s.word, 10) ∷ (s.blank, 1) ∷ (s.word, 3) ∷ []) refl refl

text_69-terminals : terminals text_69 (token k.word 0 10 ∷ token k.word 11 3 ∷ []) ≡ (word w.identifier ∷ word w.and ∷ [])
text_69-terminals = refl

-- always or
abbrev text_70 : List ℕ
text_70 = codes "always or"

text_70-tokens : Tokens 0 text_70 (token k.word 0 6 ∷ token k.word 7 2 ∷ [])
text_70-tokens = cut text_70 ((s.word, 6) ∷ (s.blank, 1) ∷ (s.word, 2) ∷ []) refl refl

text_70-terminals : terminals text_70 (token k.word 0 6 ∷ token k.word 7 2 ∷ []) ≡ (word w.always ∷ word w.or ∷ [])
text_70-terminals = refl

-- designated => always designated => never
abbrev text_71 : List ℕ
text_71 = codes "designated => always designated => never"

text_71-tokens : Tokens 0 text_71 (token k.word 0 10 ∷ token k.symbol 11 2 ∷ token k.word 14 6 ∷ token k.word 21 10 ∷ token k.symbol 32 2 ∷ token k.word 35 5 ∷ [])
text_71-tokens = cut text_71 ((s.word, 10) ∷ (s.blank, 1) ∷ (s.symbol, 2) ∷ (s.blank, 1) ∷ (s.word, 6) ∷ (s.blank, 1) ∷ (s.word, 10) ∷ (s.blank, 1) ∷ (s.symbol, 2) ∷ (s.blank, 1) ∷ (s.word, 5) ∷ []) refl refl

text_71-terminals : terminals text_71 (token k.word 0 10 ∷ token k.symbol 11 2 ∷ token k.word 14 6 ∷ token k.word 21 10 ∷ token k.symbol 32 2 ∷ token k.word 35 5 ∷ []) ≡ (word w.designated ∷ sign w.arrow ∷ word w.always ∷ word w.designated ∷ sign w.arrow ∷ word w.never ∷ [])
text_71-terminals = refl

-- host => a or b plugin => anchor apple guest => cert leaf[k]
abbrev text_72 : List ℕ
text_72 = codes "host => a or b plugin => anchor apple guest => cert leaf[k]"

text_72-tokens : Tokens 0 text_72 (token k.word 0 4 ∷ token k.symbol 5 2 ∷ token k.word 8 1 ∷ token k.word 10 2 ∷ token k.word 13 1 ∷ token k.word 15 6 ∷ token k.symbol 22 2 ∷ token k.word 25 6 ∷ token k.word 32 5 ∷ token k.word 38 5 ∷ token k.symbol 44 2 ∷ token k.word 47 4 ∷ token k.word 52 4 ∷ token k.symbol 56 1 ∷ token k.word 57 1 ∷ token k.symbol 58 1 ∷ [])
text_72-tokens = cut text_72 ((s.word, 4) ∷ (s.blank, 1) ∷ (s.symbol, 2) ∷ (s.blank, 1) ∷ (s.word, 1) ∷ (s.blank, 1) ∷ (s.word, 2) ∷ (s.blank, 1) ∷ (s.word, 1) ∷ (s.blank, 1) ∷ (s.word, 6) ∷ (s.blank, 1) ∷ (s.symbol, 2) ∷ (s.blank, 1) ∷ (s.word, 6) ∷ (s.blank, 1) ∷ (s.word, 5) ∷ (s.blank, 1) ∷ (s.word, 5) ∷ (s.blank, 1) ∷ (s.symbol, 2) ∷ (s.blank, 1) ∷ (s.word, 4) ∷ (s.blank, 1) ∷ (s.word, 4) ∷ (s.symbol, 1) ∷ (s.word, 1) ∷ (s.symbol, 1) ∷ []) refl refl

text_72-terminals : terminals text_72 (token k.word 0 4 ∷ token k.symbol 5 2 ∷ token k.word 8 1 ∷ token k.word 10 2 ∷ token k.word 13 1 ∷ token k.word 15 6 ∷ token k.symbol 22 2 ∷ token k.word 25 6 ∷ token k.word 32 5 ∷ token k.word 38 5 ∷ token k.symbol 44 2 ∷ token k.word 47 4 ∷ token k.word 52 4 ∷ token k.symbol 56 1 ∷ token k.word 57 1 ∷ token k.symbol 58 1 ∷ []) ≡ (word w.host ∷ sign w.arrow ∷ str (codes "a") ∷ word w.or ∷ str (codes "b") ∷ word w.plugin ∷ sign w.arrow ∷ word w.anchor ∷ word w.apple ∷ word w.guest ∷ sign w.arrow ∷ word w.cert ∷ word w.leaf ∷ sign w.left_bracket ∷ str (codes "k") ∷ sign w.right_bracket ∷ [])
text_72-terminals = refl

-- a-b~c*d
abbrev text_73 : List ℕ
text_73 = codes "a-b~c*d"

text_73-tokens : Tokens 0 text_73 (token k.word 0 1 ∷ token k.symbol 1 1 ∷ token k.word 2 1 ∷ token k.symbol 3 1 ∷ token k.word 4 1 ∷ token k.symbol 5 1 ∷ token k.word 6 1 ∷ [])
text_73-tokens = cut text_73 ((s.word, 1) ∷ (s.symbol, 1) ∷ (s.word, 1) ∷ (s.symbol, 1) ∷ (s.word, 1) ∷ (s.symbol, 1) ∷ (s.word, 1) ∷ []) refl refl

text_73-terminals : terminals text_73 (token k.word 0 1 ∷ token k.symbol 1 1 ∷ token k.word 2 1 ∷ token k.symbol 3 1 ∷ token k.word 4 1 ∷ token k.symbol 5 1 ∷ token k.word 6 1 ∷ []) ≡ (str (codes "a") ∷ sign w.dash ∷ str (codes "b") ∷ sign w.tilde ∷ str (codes "c") ∷ sign w.star ∷ str (codes "d") ∷ [])
text_73-terminals = refl

-- >==>=<==
abbrev text_74 : List ℕ
text_74 = codes ">==>=<=="

text_74-tokens : Tokens 0 text_74 (token k.symbol 0 2 ∷ token k.symbol 2 2 ∷ token k.symbol 4 1 ∷ token k.symbol 5 2 ∷ token k.symbol 7 1 ∷ [])
text_74-tokens = cut text_74 ((s.symbol, 2) ∷ (s.symbol, 2) ∷ (s.symbol, 1) ∷ (s.symbol, 2) ∷ (s.symbol, 1) ∷ []) refl refl

text_74-terminals : terminals text_74 (token k.symbol 0 2 ∷ token k.symbol 2 2 ∷ token k.symbol 4 1 ∷ token k.symbol 5 2 ∷ token k.symbol 7 1 ∷ []) ≡ (sign w.greater_equal ∷ sign w.arrow ∷ sign w.equal ∷ sign w.less_equal ∷ sign w.equal ∷ [])
text_74-terminals = refl

-- aH"b"
abbrev text_75 : List ℕ
text_75 = codes "aH" ++ (34 ∷ []) ++ codes "b" ++ (34 ∷ [])

text_75-tokens : Tokens 0 text_75 (token k.word 0 2 ∷ token k.quoted 2 3 ∷ [])
text_75-tokens = cut text_75 ((s.word, 2) ∷ (s.quoted, 3) ∷ []) refl refl

text_75-terminals : terminals text_75 (token k.word 0 2 ∷ token k.quoted 2 3 ∷ []) ≡ (str (codes "aH") ∷ str (codes "b") ∷ [])
text_75-terminals = refl

-- 0x01 and0x02
abbrev text_76 : List ℕ
text_76 = codes "0x01 and0x02"

text_76-tokens : Tokens 0 text_76 (token k.hex 0 4 ∷ token k.word 5 7 ∷ [])
text_76-tokens = cut text_76 ((s.hex, 4) ∷ (s.blank, 1) ∷ (s.word, 7) ∷ []) refl refl

text_76-terminals : terminals text_76 (token k.hex 0 4 ∷ token k.word 5 7 ∷ []) ≡ (str (1 ∷ []) ∷ str (codes "and0x02") ∷ [])
text_76-terminals = refl

-- 12ab
abbrev text_77 : List ℕ
text_77 = codes "12ab"

text_77-tokens : Tokens 0 text_77 (token k.integer 0 2 ∷ token k.word 2 2 ∷ [])
text_77-tokens = cut text_77 ((s.integer, 2) ∷ (s.word, 2) ∷ []) refl refl

text_77-terminals : terminals text_77 (token k.integer 0 2 ∷ token k.word 2 2 ∷ []) ≡ (int 12 ∷ str (codes "ab") ∷ [])
text_77-terminals = refl

-- "a" "b"""
abbrev text_78 : List ℕ
text_78 = (34 ∷ []) ++ codes "a" ++ (34 ∷ []) ++ codes " " ++ (34 ∷ []) ++ codes "b" ++ (34 ∷ 34 ∷ 34 ∷ [])

text_78-tokens : Tokens 0 text_78 (token k.quoted 0 3 ∷ token k.quoted 4 3 ∷ token k.quoted 7 2 ∷ [])
text_78-tokens = cut text_78 ((s.quoted, 3) ∷ (s.blank, 1) ∷ (s.quoted, 3) ∷ (s.quoted, 2) ∷ []) refl refl

text_78-terminals : terminals text_78 (token k.quoted 0 3 ∷ token k.quoted 4 3 ∷ token k.quoted 7 2 ∷ []) ≡ (str (codes "a") ∷ str (codes "b") ∷ str [] ∷ [])
text_78-terminals = refl

-- host guest designated library plugin
abbrev text_79 : List ℕ
text_79 = codes "host guest designated library plugin"

text_79-tokens : Tokens 0 text_79 (token k.word 0 4 ∷ token k.word 5 5 ∷ token k.word 11 10 ∷ token k.word 22 7 ∷ token k.word 30 6 ∷ [])
text_79-tokens = cut text_79 ((s.word, 4) ∷ (s.blank, 1) ∷ (s.word, 5) ∷ (s.blank, 1) ∷ (s.word, 10) ∷ (s.blank, 1) ∷ (s.word, 7) ∷ (s.blank, 1) ∷ (s.word, 6) ∷ []) refl refl

text_79-terminals : terminals text_79 (token k.word 0 4 ∷ token k.word 5 5 ∷ token k.word 11 10 ∷ token k.word 22 7 ∷ token k.word 30 6 ∷ []) ≡ (word w.host ∷ word w.guest ∷ word w.designated ∷ word w.library ∷ word w.plugin ∷ [])
text_79-terminals = refl

-- certificate leaf["timestamp.x"]
abbrev text_80 : List ℕ
text_80 = codes "certificate leaf[" ++ (34 ∷ []) ++ codes "timestamp.x" ++ (34 ∷ []) ++ codes "]"

text_80-tokens : Tokens 0 text_80 (token k.word 0 11 ∷ token k.word 12 4 ∷ token k.symbol 16 1 ∷ token k.quoted 17 13 ∷ token k.symbol 30 1 ∷ [])
text_80-tokens = cut text_80 ((s.word, 11) ∷ (s.blank, 1) ∷ (s.word, 4) ∷ (s.symbol, 1) ∷ (s.quoted, 13) ∷ (s.symbol, 1) ∷ []) refl refl

text_80-terminals : terminals text_80 (token k.word 0 11 ∷ token k.word 12 4 ∷ token k.symbol 16 1 ∷ token k.quoted 17 13 ∷ token k.symbol 30 1 ∷ []) ≡ (word w.certificate ∷ word w.leaf ∷ sign w.left_bracket ∷ str (codes "timestamp.x") ∷ sign w.right_bracket ∷ [])
text_80-terminals = refl

-- always true never false identifier cdhash anchor apple generic trusted certificate cert leaf root info entitlement platform notarized legacy exists absent and or host guest designated library plugin
abbrev text_81 : List ℕ
text_81 = codes "always true never false identifier cdhash anchor apple generic trusted certificate cert leaf root info entitlement platform notarized legacy exists absent and or host guest designated library plugin"

text_81-tokens : Tokens 0 text_81 (token k.word 0 6 ∷ token k.word 7 4 ∷ token k.word 12 5 ∷ token k.word 18 5 ∷ token k.word 24 10 ∷ token k.word 35 6 ∷ token k.word 42 6 ∷ token k.word 49 5 ∷ token k.word 55 7 ∷ token k.word 63 7 ∷ token k.word 71 11 ∷ token k.word 83 4 ∷ token k.word 88 4 ∷ token k.word 93 4 ∷ token k.word 98 4 ∷ token k.word 103 11 ∷ token k.word 115 8 ∷ token k.word 124 9 ∷ token k.word 134 6 ∷ token k.word 141 6 ∷ token k.word 148 6 ∷ token k.word 155 3 ∷ token k.word 159 2 ∷ token k.word 162 4 ∷ token k.word 167 5 ∷ token k.word 173 10 ∷ token k.word 184 7 ∷ token k.word 192 6 ∷ [])
text_81-tokens = cut text_81 ((s.word, 6) ∷ (s.blank, 1) ∷ (s.word, 4) ∷ (s.blank, 1) ∷ (s.word, 5) ∷ (s.blank, 1) ∷ (s.word, 5) ∷ (s.blank, 1) ∷ (s.word, 10) ∷ (s.blank, 1) ∷ (s.word, 6) ∷ (s.blank, 1) ∷ (s.word, 6) ∷ (s.blank, 1) ∷ (s.word, 5) ∷ (s.blank, 1) ∷ (s.word, 7) ∷ (s.blank, 1) ∷ (s.word, 7) ∷ (s.blank, 1) ∷ (s.word, 11) ∷ (s.blank, 1) ∷ (s.word, 4) ∷ (s.blank, 1) ∷ (s.word, 4) ∷ (s.blank, 1) ∷ (s.word, 4) ∷ (s.blank, 1) ∷ (s.word, 4) ∷ (s.blank, 1) ∷ (s.word, 11) ∷ (s.blank, 1) ∷ (s.word, 8) ∷ (s.blank, 1) ∷ (s.word, 9) ∷ (s.blank, 1) ∷ (s.word, 6) ∷ (s.blank, 1) ∷ (s.word, 6) ∷ (s.blank, 1) ∷ (s.word, 6) ∷ (s.blank, 1) ∷ (s.word, 3) ∷ (s.blank, 1) ∷ (s.word, 2) ∷ (s.blank, 1) ∷ (s.word, 4) ∷ (s.blank, 1) ∷ (s.word, 5) ∷ (s.blank, 1) ∷ (s.word, 10) ∷ (s.blank, 1) ∷ (s.word, 7) ∷ (s.blank, 1) ∷ (s.word, 6) ∷ []) refl refl

text_81-terminals : terminals text_81 (token k.word 0 6 ∷ token k.word 7 4 ∷ token k.word 12 5 ∷ token k.word 18 5 ∷ token k.word 24 10 ∷ token k.word 35 6 ∷ token k.word 42 6 ∷ token k.word 49 5 ∷ token k.word 55 7 ∷ token k.word 63 7 ∷ token k.word 71 11 ∷ token k.word 83 4 ∷ token k.word 88 4 ∷ token k.word 93 4 ∷ token k.word 98 4 ∷ token k.word 103 11 ∷ token k.word 115 8 ∷ token k.word 124 9 ∷ token k.word 134 6 ∷ token k.word 141 6 ∷ token k.word 148 6 ∷ token k.word 155 3 ∷ token k.word 159 2 ∷ token k.word 162 4 ∷ token k.word 167 5 ∷ token k.word 173 10 ∷ token k.word 184 7 ∷ token k.word 192 6 ∷ []) ≡ (word w.always ∷ word w.true ∷ word w.never ∷ word w.false ∷ word w.identifier ∷ word w.cdhash ∷ word w.anchor ∷ word w.apple ∷ word w.generic ∷ word w.trusted ∷ word w.certificate ∷ word w.cert ∷ word w.leaf ∷ word w.root ∷ word w.info ∷ word w.entitlement ∷ word w.platform ∷ word w.notarized ∷ word w.legacy ∷ word w.exists ∷ word w.absent ∷ word w.and ∷ word w.or ∷ word w.host ∷ word w.guest ∷ word w.designated ∷ word w.library ∷ word w.plugin ∷ [])
text_81-terminals = refl

-- ( ) [ ] ! = => < <= > >= ~ * -
abbrev text_82 : List ℕ
text_82 = codes "( ) [ ] ! = => < <= > >= ~ * -"

text_82-tokens : Tokens 0 text_82 (token k.symbol 0 1 ∷ token k.symbol 2 1 ∷ token k.symbol 4 1 ∷ token k.symbol 6 1 ∷ token k.symbol 8 1 ∷ token k.symbol 10 1 ∷ token k.symbol 12 2 ∷ token k.symbol 15 1 ∷ token k.symbol 17 2 ∷ token k.symbol 20 1 ∷ token k.symbol 22 2 ∷ token k.symbol 25 1 ∷ token k.symbol 27 1 ∷ token k.symbol 29 1 ∷ [])
text_82-tokens = cut text_82 ((s.symbol, 1) ∷ (s.blank, 1) ∷ (s.symbol, 1) ∷ (s.blank, 1) ∷ (s.symbol, 1) ∷ (s.blank, 1) ∷ (s.symbol, 1) ∷ (s.blank, 1) ∷ (s.symbol, 1) ∷ (s.blank, 1) ∷ (s.symbol, 1) ∷ (s.blank, 1) ∷ (s.symbol, 2) ∷ (s.blank, 1) ∷ (s.symbol, 1) ∷ (s.blank, 1) ∷ (s.symbol, 2) ∷ (s.blank, 1) ∷ (s.symbol, 1) ∷ (s.blank, 1) ∷ (s.symbol, 2) ∷ (s.blank, 1) ∷ (s.symbol, 1) ∷ (s.blank, 1) ∷ (s.symbol, 1) ∷ (s.blank, 1) ∷ (s.symbol, 1) ∷ []) refl refl

text_82-terminals : terminals text_82 (token k.symbol 0 1 ∷ token k.symbol 2 1 ∷ token k.symbol 4 1 ∷ token k.symbol 6 1 ∷ token k.symbol 8 1 ∷ token k.symbol 10 1 ∷ token k.symbol 12 2 ∷ token k.symbol 15 1 ∷ token k.symbol 17 2 ∷ token k.symbol 20 1 ∷ token k.symbol 22 2 ∷ token k.symbol 25 1 ∷ token k.symbol 27 1 ∷ token k.symbol 29 1 ∷ []) ≡ (sign w.left_paren ∷ sign w.right_paren ∷ sign w.left_bracket ∷ sign w.right_bracket ∷ sign w.bang ∷ sign w.equal ∷ sign w.arrow ∷ sign w.less ∷ sign w.less_equal ∷ sign w.greater ∷ sign w.greater_equal ∷ sign w.tilde ∷ sign w.star ∷ sign w.dash ∷ [])
text_82-terminals = refl

-- ([!=>]~)
abbrev text_83 : List ℕ
text_83 = codes "([!=>]~)"

text_83-tokens : Tokens 0 text_83 (token k.symbol 0 1 ∷ token k.symbol 1 1 ∷ token k.symbol 2 1 ∷ token k.symbol 3 2 ∷ token k.symbol 5 1 ∷ token k.symbol 6 1 ∷ token k.symbol 7 1 ∷ [])
text_83-tokens = cut text_83 ((s.symbol, 1) ∷ (s.symbol, 1) ∷ (s.symbol, 1) ∷ (s.symbol, 2) ∷ (s.symbol, 1) ∷ (s.symbol, 1) ∷ (s.symbol, 1) ∷ []) refl refl

text_83-terminals : terminals text_83 (token k.symbol 0 1 ∷ token k.symbol 1 1 ∷ token k.symbol 2 1 ∷ token k.symbol 3 2 ∷ token k.symbol 5 1 ∷ token k.symbol 6 1 ∷ token k.symbol 7 1 ∷ []) ≡ (sign w.left_paren ∷ sign w.left_bracket ∷ sign w.bang ∷ sign w.arrow ∷ sign w.right_bracket ∷ sign w.tilde ∷ sign w.right_paren ∷ [])
text_83-terminals = refl
