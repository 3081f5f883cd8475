-- What stands at the front of a stream that is there whole. Only contracts of private functions cite all but the first.
use Rattle.std.specs.Prelude.{◌≡◌, ℕ, ◌+◌, ◌-◌, ◌<◌, ◌≤◌, List, Ok, Err, drop, length}
use Rattle.httparse.specs.declared.spans.HeaderSpan.{HeaderSpan}
use Rattle.httparse.specs.declared.spans.RequestSpans.{RequestSpans}
use Rattle.httparse.specs.Grammar.{RequestHead}
use Rattle.httparse.specs.Spans.{IsRequestAt}
use Rattle.http_fields.specs.Views.{fault_of}
use Rattle.http_model.specs.Streams as model
use Rattle.http_model.specs.Streams.{IsRequest, HasEnd, closes, measured_of}
use Rattle.http_reader.specs.declared.plain.StreamEnd.{StreamEnd}
use Rattle.http_reader.specs.declared.plain.StreamEnd.TheVariants.{Closed, Cut, Refused}
use Rattle.http_reader.specs.declared.plain.First.{First}
use Rattle.http_reader.specs.declared.plain.First.TheVariants.{Request, End}

-- the end of the definitions
abbrev pub end_of : StreamEnd → model.StreamEnd
end_of Closed = model.closed
end_of Cut = model.cut
end_of (Refused fault) = model.refused (fault_of fault)

-- a request of so many bytes stands at the front, where so many came before it, or none does
abbrev pub IsFirst : ℕ → List ℕ → First → Type 0
IsFirst count bytes (Request size last) = (r : model.Request) × IsRequest bytes r (drop size bytes) × (size ≤ length bytes) × (last ≡ closes count r.head)
IsFirst count bytes (End end) = HasEnd bytes (end_of end)

-- the same of a head whose parts are known, by the length of all bytes
abbrev pub IsMeasuredOff : ℕ → ℕ → List ℕ → List HeaderSpan → RequestSpans → First → Type 0
IsMeasuredOff count all window fields spans (Request size last) =
    (body : ℕ) × (size ≡ spans.len + body) × (size ≤ all)
    × ((h : RequestHead) → IsRequestAt window fields spans h → (measured_of h ≡ Ok body) × (last ≡ closes count h))
IsMeasuredOff count all window fields spans (End Closed) = ⊥
IsMeasuredOff count all window fields spans (End Cut) =
    (body : ℕ) × (all - spans.len < body) × ((h : RequestHead) → IsRequestAt window fields spans h → measured_of h ≡ Ok body)
IsMeasuredOff count all window fields spans (End (Refused fault)) = (h : RequestHead) → IsRequestAt window fields spans h → measured_of h ≡ Err (fault_of fault)
