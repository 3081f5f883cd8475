-- The fields of a text's records are made of its bytes.
use Rattle.std.proofs.Common.{◌≡◌, ℕ, zero, suc, ◌<◌, List, [], ◌∷◌, ◌++◌, subst, sym, Option, Some, None}
use Rattle.std.specs.Prelude.{All, Bool, true, false, if◌then◌else◌}
use Rattle.std.proofs.lemmas.List.Elements.{All-nil, All-cons, All-head, All-tail, All-push}
use Rattle.csv.specs.Machine.{Read, step, ends_at_end, is_end, fields_after, field_after, next_record}
use Rattle.csv.specs.Reading.{Reached, AreRecords, default_config, is_bom, strip_bom}
use Rattle.csv.specs.Records.{field_at}
use Rattle.csv.specs.declared.parser.Config.{Config}
use Rattle.csv.specs.declared.parser.State.{State}
use Rattle.csv.specs.declared.parser.State.TheVariants as st
use Rattle.csv.specs.declared.parser.Action.{Action}
use Rattle.csv.specs.declared.parser.Action.TheVariants as act
use Rattle.line_laws.specs.Limits.{AreBytes}
use Rattle.import_csv.specs.ImportRows.{field_or_none}

no_bytes : AreBytes []
no_bytes = All-nil (λ b. b < 256)

tail_bytes : (b : ℕ) (bytes : List ℕ) → AreBytes (b ∷ bytes) → AreBytes bytes
tail_bytes b bytes h = All-tail (λ x. x < 256) b bytes h

fields_on : (a : Action) (fields : List (List ℕ)) (field : List ℕ) → All AreBytes fields → AreBytes field → All AreBytes (fields_after a fields field)
fields_on act.EndField fields field h k = All-push AreBytes fields field h k
fields_on act.Skip fields field h k = h
fields_on act.Copy fields field h k = h
fields_on act.EndRecord fields field h k = All-push AreBytes fields field h k

field_on : (a : Action) (b : ℕ) (field : List ℕ) → b < 256 → AreBytes field → AreBytes (field_after a b field)
field_on act.Copy b field byte k = All-push (λ x. x < 256) field b k byte
field_on act.EndField b field byte k = no_bytes
field_on act.Skip b field byte k = k
field_on act.EndRecord b field byte k = no_bytes

-- what a read gives and leaves is bytes
abbrev ReadBytes : Read → Type 0
ReadBytes p = All AreBytes p.0 × AreBytes p.2

read_is : (test : Bool) (r : Read) (next : Option Read) (p : Read) → (if test then Some r else next) ≡ Some p → ReadBytes r → (next ≡ Some p → ReadBytes p) → ReadBytes p
read_is true r next p e h k = let same : r ≡ p = cc in subst ReadBytes same h
read_is false r next p e h k = k e

no_read : (p : Read) → ◌≡◌ {A = Option Read} None (Some p) → ReadBytes p
no_read p e = absurd (nothing p e)
  where
    nothing : (p : Read) → ◌≡◌ {A = Option Read} None (Some p) → ⊥
    nothing p e = cc

next_bytes : (cfg : Config) (s : State) (fields : List (List ℕ)) (field text : List ℕ) (p : Read) → All AreBytes fields → AreBytes field → AreBytes text
    → next_record cfg s fields field text ≡ Some p → ReadBytes p
unfolding next_record
next_bytes cfg s fields field [] p h k bytes e =
    read_is (ends_at_end s) (fields ++ field ∷ [], st.StartRecord, []) None p e (All-push AreBytes fields field h k, no_bytes) (no_read p)
next_bytes cfg s fields field (b ∷ rest) p h k bytes e =
    let to = step cfg s b in
    let more = fields_on to.1 fields field h k in
    let left = tail_bytes b rest bytes in
    read_is (is_end to.1) (fields_after to.1 fields field, to.0, rest) (next_record cfg to.0 (fields_after to.1 fields field) (field_after to.1 b field) rest) p e (more, left)
    (λ on. next_bytes cfg to.0 (fields_after to.1 fields field) (field_after to.1 b field) rest p more (field_on to.1 b field (All-head (λ x. x < 256) b rest bytes) k) left on)

reached_bytes : (cfg : Config) (s : State) (text : List ℕ) (rows : List (List (List ℕ))) (to : State) (left : List ℕ) → AreBytes text → Reached cfg s text rows to left → All (All AreBytes) rows
unfolding Reached
reached_bytes cfg s text [] to left bytes reached = All-nil (All AreBytes)
reached_bytes cfg s text (row ∷ rows) to left bytes reached =
    let read = next_bytes cfg s [] [] text reached.0 (All-nil AreBytes) no_bytes bytes reached.1 in
    All-cons (All AreBytes) row rows (subst (All AreBytes) (sym reached.2) read.0) (reached_bytes cfg reached.0.1 reached.0.2 rows to left read.1 reached.3)

stripped : (a b c : ℕ) (rest : List ℕ) (bom : Bool) → AreBytes (a ∷ b ∷ c ∷ rest) → AreBytes (if bom then rest else a ∷ b ∷ c ∷ rest)
stripped a b c rest true h = tail_bytes c rest (tail_bytes b (c ∷ rest) (tail_bytes a (b ∷ c ∷ rest) h))
stripped a b c rest false h = h

strip_bytes : (text : List ℕ) → AreBytes text → AreBytes (strip_bom text)
unfolding strip_bom
strip_bytes [] h = h
strip_bytes (a ∷ []) h = h
strip_bytes (a ∷ b ∷ []) h = h
strip_bytes (a ∷ b ∷ c ∷ rest) h = stripped a b c rest (is_bom a b c) h

-- all fields of a text of bytes are bytes
pub records_bytes : (text : List ℕ) (rows : List (List (List ℕ))) → AreBytes text → AreRecords default_config st.StartRecord (strip_bom text) rows → All (All AreBytes) rows
records_bytes text rows bytes are = reached_bytes default_config st.StartRecord (strip_bom text) rows are.0 are.1 (strip_bytes text bytes) are.2

-- and so is the field at a place
pub field_bytes : (fields : List (List ℕ)) (place : ℕ) → All AreBytes fields → AreBytes (field_or_none (field_at fields place))
unfolding field_at
field_bytes [] place h = no_bytes
field_bytes (field ∷ fields) zero h = All-head AreBytes field fields h
field_bytes (field ∷ fields) (suc place) h = field_bytes fields place (All-tail AreBytes field fields h)
