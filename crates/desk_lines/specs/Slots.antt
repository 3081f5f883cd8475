-- Assessments that a session holds open, as those of the definitions. This project's own.
use Rattle.std.specs.Prelude.{◌≡◌, ◌≢◌, ⊤, All, ℕ, suc, ◌≤◌, List, [], ◌∷◌, take, Some, slice_get}
use Rattle.policy_model.specs.Outcomes.{Ask}
use Rattle.policy_model.specs.ReplyTexts.{rules}
use Rattle.policy_model.specs.History.{Event, Opening, ask, ask_answer}
use Rattle.object_model.specs.Kept.{objects_of}
use Rattle.object_model.specs.Origins.{origin_with}
use Rattle.object_model.specs.Plain.{Plain}
use Rattle.session_model.specs.Slots.{Slot}
use Rattle.desk_state.specs.Verdict.{verdict_of, origin_of}
use Rattle.desk_state.specs.Judged.{IsJudgedAt, IsLookedOfDesk}
use Rattle.desk_state.specs.declared.judged.Looked.{Looked}
use Rattle.desk_state.specs.declared.judged.Looked.TheVariants.{Known, Open}
use Rattle.desk_lines.specs.declared.slots.OpenSlot.{OpenSlot}

-- what is held of the ask at place k: the answer that was known, by no rule; or what the rules of that place said
abbrev pub IsHeld : Opening → List Event → ℕ → Ask → Looked → Type 0
IsHeld o h k a (Known verdict) =
    (verdict_of verdict ≡ ask_answer o (take k h) a) × (origin_of verdict.origin ≡ origin_with (objects_of o (take k h)) a.kind a.subject) × (origin_of verdict.origin ≢ rules)
IsHeld o h k a (Open judged) = IsJudgedAt judged o h k

-- what is held is that of the ask at the slot's place
pub record IsOpenAt (o : Opening) (h : List Event) (c : OpenSlot) (s : Slot) : Type 0 where
  pub number_is : c.number ≡ s.number
  pub asked : Ask
  pub stands : slice_get h s.place ≡ Some (ask asked)
  pub held : IsHeld o h s.place asked c.looked

-- what is open stands for these slots, whose places rise from m on
abbrev pub AreOpen : Opening → List Event → ℕ → List OpenSlot → List Slot → Type 0
AreOpen o h m [] [] = ⊤
AreOpen o h m (c ∷ cs) (s ∷ ss) = (m ≤ s.place) × IsOpenAt o h c s × AreOpen o h (suc s.place) cs ss
AreOpen o h m [] (s ∷ ss) = ⊥
AreOpen o h m (c ∷ cs) [] = ⊥

-- what was judged of each that is open is of a desk that holds this
abbrev pub AreOfDesk : Plain → List OpenSlot → Type 0
AreOfDesk d slots = All (λ c. IsLookedOfDesk d c.looked) slots
