-- One read of a record, told of all records of a text.
use Rattle.std.proofs.Common.{◌≡◌, ℕ, List, Bool, true, false, Bor, Some, inl, ◌∙◌}
use Rattle.csv.specs.Reading.{ReadRecord, default_config, is_flexible, strip_bom, took_first}
use Rattle.csv.specs.declared.reader.Reader.{Reader}
use Rattle.csv.specs.declared.parser.State.TheVariants as st
use Rattle.csv.proofs.ReadFacts.{rows-more, rows-end}
use Rattle.csv_records.specs.Reading.{HasTaken, Takes}

pub takes : (a b : Reader (Bor (List ℕ))) (text : List ℕ) (front : List (List (List ℕ))) (fields : List (List ℕ)) (found : Bool) → HasTaken a text front
    → ReadRecord (λ (s : Bor (List ℕ)). Some s.now) a b found fields → took_first b ≡ true → is_flexible b ≡ is_flexible a → Takes b text front fields found
takes a b text front fields true h read first same =
    let more = rows-more (λ (s : Bor (List ℕ)). Some s.now) a b fields default_config st.StartRecord (strip_bom text) h.left front h.defaults h.source h.reached read in
    record { plain = read.3 ∙ h.plain; ready = inl first; flexible = same ∙ h.flexible; defaults = read.2 ∙ h.defaults; left = more.0; source = more.1; reached = more.2 }
takes a b text front fields false h read first same =
    (a.state, h.left, h.reached, rows-end (λ (s : Bor (List ℕ)). Some s.now) a b fields default_config h.left h.defaults h.source read)
