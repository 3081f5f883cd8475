-- Worked texts: each operator under each other, with a skipped opcode between; and the terminals of some trees.
use Rattle.std.proofs.Common.{◌≡◌, pos, negsuc, [], ◌∷◌, codes, refl}
use Rattle.std.specs.Fmt.{digits}
use Rattle.hex.specs.Hex.{encode_with}
use Rattle.req_tree.specs.declared.matching.Match.TheVariants as m
use Rattle.req_tree.specs.Tree as t
use Rattle.req_tree.specs.Tree.{Tree}
use Rattle.req_tree.specs.TreeSet.{no_parts, with_part}
use Rattle.req_grammar.specs.Words as w
use Rattle.req_grammar.specs.Terminals.{sign, word, str, int}
use Rattle.dumped_text.specs.Dumped.{slot_text, oid_text, dumped}
use Rattle.dumped_text.specs.Said.{said, set_said}

-- ---- Both over each operator

both_both_left : dumped (t.both (t.both t.always t.never) t.notarized) ≡ codes "always and never and notarized"
both_both_left = refl

both_both_right : dumped (t.both t.always (t.both t.never t.notarized)) ≡ codes "always and never and notarized"
both_both_right = refl

both_either_left : dumped (t.both (t.either t.always t.never) t.notarized) ≡ codes "(always or never) and notarized"
both_either_left = refl

both_either_right : dumped (t.both t.always (t.either t.never t.notarized)) ≡ codes "always and (never or notarized)"
both_either_right = refl

both_negate_left : dumped (t.both (t.negate t.always) t.never) ≡ codes "! always and never"
both_negate_left = refl

both_negate_right : dumped (t.both t.always (t.negate t.never)) ≡ codes "always and ! never"
both_negate_right = refl

-- ---- Either over each operator

either_either_left : dumped (t.either (t.either t.always t.never) t.notarized) ≡ codes "always or never or notarized"
either_either_left = refl

either_either_right : dumped (t.either t.always (t.either t.never t.notarized)) ≡ codes "always or never or notarized"
either_either_right = refl

either_both_left : dumped (t.either (t.both t.always t.never) t.notarized) ≡ codes "always and never or notarized"
either_both_left = refl

either_both_right : dumped (t.either t.always (t.both t.never t.notarized)) ≡ codes "always or never and notarized"
either_both_right = refl

either_negate_left : dumped (t.either (t.negate t.always) t.never) ≡ codes "! always or never"
either_negate_left = refl

either_negate_right : dumped (t.either t.always (t.negate t.never)) ≡ codes "always or ! never"
either_negate_right = refl

-- ---- Negate over each operator

negate_both : dumped (t.negate (t.both t.always t.never)) ≡ codes "! (always and never)"
negate_both = refl

negate_either : dumped (t.negate (t.either t.always t.never)) ≡ codes "! (always or never)"
negate_either = refl

negate_negate : dumped (t.negate (t.negate t.always)) ≡ codes "! ! always"
negate_negate = refl

-- ---- a skipped opcode between: what follows it decides

skipped : Tree → Tree
skipped inner = t.skip_next 0x40000020 (7 ∷ []) inner

both_skips_either : dumped (t.both t.always (skipped (t.either t.never t.notarized)))
    ≡ codes "always and /* skipped opcode 0x40000020, 1 bytes */ (never or notarized)"
unfolding skipped digits encode_with
both_skips_either = refl

both_skips_both : dumped (t.both (skipped (t.both t.always t.never)) t.notarized)
    ≡ codes "/* skipped opcode 0x40000020, 1 bytes */ always and never and notarized"
unfolding skipped digits encode_with
both_skips_both = refl

negate_skips_both : dumped (t.negate (skipped (t.both t.always t.never)))
    ≡ codes "! /* skipped opcode 0x40000020, 1 bytes */ (always and never)"
unfolding skipped digits encode_with
negate_skips_both = refl

negate_skips_either : dumped (t.negate (skipped (t.either t.always t.never)))
    ≡ codes "! /* skipped opcode 0x40000020, 1 bytes */ (always or never)"
unfolding skipped digits encode_with
negate_skips_either = refl

skips_twice : dumped (t.both t.always (skipped (skipped (t.either t.never t.notarized))))
    ≡ codes "always and /* skipped opcode 0x40000020, 1 bytes */ /* skipped opcode 0x40000020, 1 bytes */ (never or notarized)"
unfolding skipped digits encode_with
skips_twice = refl

-- ---- terminals

operators_said : said (t.either t.legacy_dev_id (t.both (t.negate (t.either t.always t.never)) t.notarized))
    ≡ word w.legacy ∷ word w.or ∷ sign w.bang ∷ sign w.left_paren ∷ word w.always ∷ word w.or ∷ word w.never ∷ sign w.right_paren ∷ word w.and ∷ word w.notarized ∷ []
operators_said = refl

field_said : said (t.cert_field (pos 0) (codes "subject.OU") (m.Equal (codes "x")))
    ≡ word w.certificate ∷ word w.leaf ∷ sign w.left_bracket ∷ str (codes "subject.OU") ∷ sign w.right_bracket ∷ sign w.equal ∷ str (codes "x") ∷ []
field_said = refl

extension_said : said (t.cert_oid (pos 1) (42 ∷ 3 ∷ []) m.Exists)
    ≡ word w.certificate ∷ int 1 ∷ sign w.left_bracket ∷ str (codes "field.1.2.3") ∷ sign w.right_bracket ∷ []
unfolding digits slot_text oid_text
extension_said = refl

policy_said : said (t.cert_policy (negsuc 0) (42 ∷ 3 ∷ []) m.Absent)
    ≡ word w.certificate ∷ word w.root ∷ sign w.left_bracket ∷ str (codes "policy.1.2.3") ∷ sign w.right_bracket ∷ word w.absent ∷ []
unfolding digits slot_text oid_text
policy_said = refl

slot_below_root : said (t.trusted_cert (negsuc 1)) ≡ word w.certificate ∷ sign w.dash ∷ int 2 ∷ word w.trusted ∷ []
slot_below_root = refl

contains_said : said (t.info_field (codes "k") (m.Contains (codes "v")))
    ≡ word w.info ∷ sign w.left_bracket ∷ str (codes "k") ∷ sign w.right_bracket ∷ sign w.tilde ∷ str (codes "v") ∷ []
contains_said = refl

begins_said : said (t.entitlement_field (codes "k") (m.Begins (codes "v")))
    ≡ word w.entitlement ∷ sign w.left_bracket ∷ str (codes "k") ∷ sign w.right_bracket ∷ sign w.equal ∷ str (codes "v") ∷ sign w.star ∷ []
begins_said = refl

old_field_said : said (t.legacy_info (codes "k") (codes "v"))
    ≡ word w.info ∷ sign w.left_bracket ∷ str (codes "k") ∷ sign w.right_bracket ∷ sign w.equal ∷ str (codes "v") ∷ []
old_field_said = refl

names_said : said (t.both (t.named_anchor (codes "a")) (t.named_code (codes "b")))
    ≡ word w.anchor ∷ word w.apple ∷ str (codes "a") ∷ word w.and ∷ sign w.left_paren ∷ str (codes "b") ∷ sign w.right_paren ∷ []
names_said = refl

platform_said : said (t.platform (negsuc 4)) ≡ word w.platform ∷ sign w.equal ∷ sign w.dash ∷ int 5 ∷ []
platform_said = refl

skips_say_nothing : said (t.both (t.skip_false 0x80000020 []) (skipped t.always)) ≡ word w.never ∷ word w.and ∷ word w.always ∷ []
unfolding skipped
skips_say_nothing = refl

two_parts_said : set_said (with_part 5 t.never (with_part 1 t.always no_parts))
    ≡ word w.host ∷ sign w.arrow ∷ word w.always ∷ word w.plugin ∷ sign w.arrow ∷ word w.never ∷ []
two_parts_said = refl
