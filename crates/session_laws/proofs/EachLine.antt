-- What words make is something: the text of a requirement is one, or has a fault.
use Rattle.std.proofs.Common.{Result, Ok, Err, refl}
use Rattle.req_parser.specs.Laws.{NoTextIsNeither}
use Rattle.policy_model.specs.Contents.{Content}
use Rattle.line_model.specs.LineFaults.{LineFault}
use Rattle.line_model.specs.Contents.{Worded, whole, adds}
use Rattle.line_model.specs.Edits.{Makes, keyed, made}
use Rattle.session_model.specs.Lines.{Request, Lined, asks, edits, edited, lined, Asks}
use Rattle.session_laws.specs.Asks.{EachLineAsks, SomeContentIsAsked, SomeEditIsAsked}

some_made : NoTextIsNeither → {A : Type 0} (make : Content → A) (worded : Worded) → ((asked : Result A LineFault) → Makes make worded asked → ⊥) → ⊥
some_made law make (whole content) none = none (Ok (make content)) refl
some_made law make (adds front text) none =
    law text (λ tree is. none (made make front text (Ok tree)) (Ok tree, is, refl)) (λ fault some fails. none (made make front text (Err fault)) (Err fault, (fails, some), refl))

pub some_content : NoTextIsNeither → SomeContentIsAsked
some_content law (Err fault) none = none (Err fault) refl
some_content law (Ok worded) none = some_made law (λ content. content) worded none

pub some_edit : NoTextIsNeither → SomeEditIsAsked
some_edit law (Err fault) none = none (Err fault) refl
some_edit law (Ok e) none = some_made law (keyed e.key) e.worded none

some_request : NoTextIsNeither → (read : Result Lined LineFault) → ((asked : Result Request LineFault) → Asks read asked → ⊥) → ⊥
some_request law (Err fault) none = none (Err fault) refl
some_request law (Ok (asks request)) none = none (Ok request) refl
some_request law (Ok (edits e)) none = some_edit law (Ok e) (λ read is. none (edited read) (read, is, refl))

pub some_asked : NoTextIsNeither → EachLineAsks
some_asked law line none = some_request law (lined line) none
