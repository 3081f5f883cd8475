-- The program's answers to edits as those of the definitions.
use Rattle.std.specs.Prelude.{ℕ, List, [], Option, Some, None, Result, Ok, Err, if◌then◌else◌, ◌≡◌, codes}
use Rattle.policy_model.specs.Tables as model
use Rattle.policy_model.specs.Tables.{done, repeated, no_rule, key_reused, table_full, receipts_full, disable_full, Effect, Tables}
use Rattle.policy_model.specs.ReplyTexts.{answer_text}
use Rattle.desk_state.specs.declared.answer.Answer as code
use Rattle.desk_state.specs.declared.fault.EditFault as fault
use Rattle.desk_state.specs.declared.fault.EditFault.TheVariants.{NoRule, KeyReused, TableFull, ReceiptsFull, DisableFull, KeeperFault, OutOfMemory}

-- made, or made before
abbrev pub answer_of : code.Answer → model.Answer
answer_of a = if a.repeated then repeated a.number a.rules else done a.number a.rules

-- the refusal, or none where it is out of memory or the keeper failed
abbrev pub refusal_of : fault.EditFault → Option model.Answer
refusal_of NoRule = Some no_rule
refusal_of (KeyReused number rules) = Some (key_reused number rules)
refusal_of TableFull = Some table_full
refusal_of ReceiptsFull = Some receipts_full
refusal_of (DisableFull rule) = Some (disable_full rule)
refusal_of KeeperFault = None
refusal_of OutOfMemory = None

-- why an edit is refused, if it is
abbrev pub refusal_in : Option fault.EditFault → Option model.Answer
refusal_in None = None
refusal_in (Some f) = refusal_of f

-- what an edit was answered, or none where it is out of memory or the keeper failed
abbrev pub given : Result code.Answer fault.EditFault → Option model.Answer
given (Ok a) = Some (answer_of a)
given (Err f) = refusal_of f

-- the line of an answer, and no bytes where none is given
abbrev pub given_text : Option model.Answer → List ℕ
given_text None = []
given_text (Some a) = answer_text a

-- the line of a refusal, and no bytes where it is out of memory
abbrev pub fault_text : fault.EditFault → List ℕ
fault_text KeeperFault = codes "refused edit 16 KeeperFault"
fault_text other = given_text (refusal_of other)

-- the answer and the tables are the definition's; where none is given the tables are as before
abbrev pub IsDone : Effect → Tables → Tables → Option model.Answer → Type 0
IsDone effect old new None = new ≡ old
IsDone effect old new (Some a) = (a ≡ effect.answer) × (new ≡ effect.tables)
