-- An expression goes on with the operands of its opcode, one less deep.
use Rattle.std.proofs.Common.{◌≡◌, ℕ, zero, suc, ◌-◌, ◌<◌, List, Ok, refl, arith}
use Rattle.req_blob.specs.declared.opcode.Opcode.{Opcode}
use Rattle.req_blob.specs.Opcodes.{opcode_of}
use Rattle.req_blob.specs.Reading.{place, word_at, operands_at, req_at}

pub goes_on : (size depth : ℕ) (bytes : List ℕ) (n : ℕ) (rest : List ℕ) (op : Opcode) → 0 < depth → word_at size bytes ≡ Ok (n, rest) → op ≡ opcode_of n
    → req_at size depth bytes ≡ operands_at (req_at size (depth - 1)) size (place size bytes) n op rest
unfolding req_at
goes_on size zero bytes n rest op some read is = absurd (omega arith)
goes_on size (suc depth) bytes n rest op some read is =
    let less : suc depth - 1 ≡ depth = omega arith in
    rw (read, less, is) refl
