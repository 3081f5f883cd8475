-- A line asks for one thing, or has one first fault.
use Rattle.std.proofs.Common.{◌≡◌, sym, ap, ◌∙◌, Result, Ok, Err}
use Rattle.policy_model.specs.Contents.{Edit}
use Rattle.line_model.specs.LineFaults.{LineFault}
use Rattle.line_model.specs.Edits.{Edited, IsEdit}
use Rattle.session_model.specs.Lines.{Request, Lined, asks, edits, lined, edited, Asks}
use Rattle.session_laws.specs.Laws.{LineAsksForOne}

module _ (one : (words : Result Edited LineFault) (a b : Result Edit LineFault) → IsEdit words a → IsEdit words b → a ≡ b) where
  one_asked : (r : Result Lined LineFault) (a b : Result Request LineFault) → Asks r a → Asks r b → a ≡ b
  one_asked (Err fault) a b x y = x ∙ sym y
  one_asked (Ok (asks request)) a b x y = x ∙ sym y
  one_asked (Ok (edits words)) a b x y = x.2 ∙ ap edited (one (Ok words) x.0 y.0 x.1 y.1) ∙ sym y.2

  pub line_asks_for_one : LineAsksForOne
  line_asks_for_one line a b x y = one_asked (lined line) a b x y
