-- The lines that refuse a text or a blob, each with its LF. This project's own.
use Rattle.std.specs.Prelude.{ℕ, List, ◌++◌, codes}
use Rattle.line_reader.specs.Lines.{with_lf}
use Rattle.req_blob.specs.declared.fault.OpsFault.{OpsFault}
use Rattle.req_blob.specs.FaultText.{ops_fault_text}
use Rattle.req_ops.specs.declared.fault.SetFault.{SetFault}
use Rattle.req_ops.specs.FaultText.{set_fault_text}
use Rattle.req_tokens.specs.declared.fault.TextFault.{TextFault}
use Rattle.req_tokens.specs.FaultText.{text_fault_text}

-- a text is refused
abbrev pub text_refusal : TextFault → List ℕ
text_refusal fault = with_lf (codes "refused text " ++ text_fault_text fault)

-- a requirement's blob is refused
abbrev pub ops_refusal : OpsFault → List ℕ
ops_refusal fault = with_lf (codes "refused ops " ++ ops_fault_text fault)

-- a set's blob is refused
abbrev pub set_refusal : SetFault → List ℕ
set_refusal fault = with_lf (codes "refused set " ++ set_fault_text fault)
