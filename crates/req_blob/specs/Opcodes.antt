-- The opcodes of the requirement language (ExprOp of Apple's requirement.h) by their numbers.
use Rattle.std.specs.Prelude.{ℕ, ◌==◌, ◌%◌, ◌^◌, nat_lt, if◌then◌else◌}
use Rattle.req_blob.specs.declared.opcode.Leaf.TheVariants as l
use Rattle.req_blob.specs.declared.opcode.Opcode.{Opcode}
use Rattle.req_blob.specs.declared.opcode.Opcode.TheVariants as o

-- what a word with an unknown number is, by its two highest bits
abbrev pub unknown_of : ℕ → Opcode
unknown_of first = if nat_lt first (2 ^ 30) then o.Unknown else (if nat_lt first (2 ^ 31) then o.SkipNext else o.SkipFalse)

-- what a word of this number is
abbrev pub opcode_at : ℕ → ℕ → Opcode
opcode_at first number =
    if number == 0 then o.Leaf l.Never else
    (if number == 1 then o.Leaf l.Always else
    (if number == 2 then o.Leaf l.Ident else
    (if number == 3 then o.Leaf l.AppleAnchor else
    (if number == 4 then o.Leaf l.AnchorHash else
    (if number == 5 then o.Leaf l.LegacyInfo else
    (if number == 6 then o.Both else
    (if number == 7 then o.Either else
    (if number == 8 then o.Leaf l.CdHash else
    (if number == 9 then o.Negate else
    (if number == 10 then o.Leaf l.InfoField else
    (if number == 11 then o.Leaf l.CertField else
    (if number == 12 then o.Leaf l.TrustedCert else
    (if number == 13 then o.Leaf l.TrustedAny else
    (if number == 14 then o.Leaf l.CertOid else
    (if number == 15 then o.Leaf l.AppleGeneric else
    (if number == 16 then o.Leaf l.EntitlementField else
    (if number == 17 then o.Leaf l.CertPolicy else
    (if number == 18 then o.Leaf l.NamedAnchor else
    (if number == 19 then o.Leaf l.NamedCode else
    (if number == 20 then o.Leaf l.Platform else
    (if number == 21 then o.Leaf l.Notarized else
    (if number == 22 then o.OutOfScope else
    (if number == 23 then o.Leaf l.LegacyDevId else
    unknown_of first)))))))))))))))))))))))

-- what an opcode's word is, flags and all
unfoldable pub opcode_of : ℕ → Opcode
opcode_of first = opcode_at first (first % 2 ^ 24)
