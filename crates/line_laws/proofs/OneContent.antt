-- What words make is one thing.
use Rattle.std.proofs.Common.{◌≡◌, ◌≢◌, ℕ, List, Result, Ok, Err, sym, ap, ◌∙◌}
use Rattle.req_tree.specs.Tree.{Tree}
use Rattle.req_grammar.specs.Readings.{IsRequirementText}
use Rattle.req_grammar.specs.Laws.{OneTree}
use Rattle.req_tokens.specs.declared.fault.TextFault.{TextFault}
use Rattle.req_tokens.specs.declared.fault.TextFault.TheVariants.{OutOfMemory}
use Rattle.req_parser.specs.Failures.{FailsText}
use Rattle.req_parser.specs.Laws.{OneFault}
use Rattle.policy_model.specs.Contents.{Content, add, Edit}
use Rattle.line_model.specs.LineFaults.{LineFault}
use Rattle.line_model.specs.Fronts.{new_row}
use Rattle.line_model.specs.Contents.{Worded, whole, adds, content_at}
use Rattle.line_model.specs.Requirements.{ReadsAs}
use Rattle.line_model.specs.Edits.{Edited, edit_at, made, Makes, keyed, IsContent, IsEdit, by_words}
use Rattle.line_laws.specs.Laws.{TextAsksForOneContent, LineAsksForOneEdit, ContentHasNoFault, EditHasNoFault, ContentIsAskedOnce, EditIsAskedOnce}

ok_is : {A : Type 0} (a b : A) → ◌≡◌ {A = Result A LineFault} (Ok a) (Ok b) → a ≡ b
ok_is a b e = cc

not_ok : {A : Type 0} (a : A) (fault : LineFault) → ◌≡◌ {A = Result A LineFault} (Ok a) (Err fault) → ⊥
not_ok a fault e = cc

module _ (one_tree : OneTree) where
  one_made : {A : Type 0} (make : Content → A) (worded : Worded) (a b : A) → Makes make worded (Ok a) → Makes make worded (Ok b) → a ≡ b
  one_made make (whole content) a b x y = ok_is a (make content) x ∙ sym (ok_is b (make content) y)
  one_made make (adds front text) a b (Ok s, reads_s, x) (Ok t, reads_t, y) =
      ok_is a (make (add (new_row front text s))) x
      ∙ ap (λ tree. make (add (new_row front text tree))) (one_tree text s t reads_s reads_t)
      ∙ sym (ok_is b (make (add (new_row front text t))) y)
  one_made make (adds front text) a b (Ok s, reads_s, x) (Err fault, fails, y) = absurd (not_ok b _ y)
  one_made make (adds front text) a b (Err fault, fails, x) (read, reads, y) = absurd (not_ok a _ x)

  one_content : (r : Result Worded LineFault) (a b : Content) → IsContent r (Ok a) → IsContent r (Ok b) → a ≡ b
  one_content (Err fault) a b x y = absurd (not_ok a fault x)
  one_content (Ok worded) a b x y = one_made (λ content. content) worded a b x y

  one_edit : (r : Result Edited LineFault) (a b : Edit) → IsEdit r (Ok a) → IsEdit r (Ok b) → a ≡ b
  one_edit (Err fault) a b x y = absurd (not_ok a fault x)
  one_edit (Ok edited) a b x y = one_made (keyed edited.key) edited.worded a b x y

  pub text_asks_once : TextAsksForOneContent
  text_asks_once text a b x y = one_content (by_words content_at text) a b x y

  pub line_asks_once : LineAsksForOneEdit
  line_asks_once line a b x y = one_edit (by_words edit_at line) a b x y

module _ (apart : (text : List ℕ) (fault : TextFault) (tree : Tree) → fault ≢ OutOfMemory → FailsText text fault → IsRequirementText text tree → ⊥) where
  no_fault : {A : Type 0} (make : Content → A) (worded : Worded) (a : A) (fault : LineFault) → Makes make worded (Ok a) → Makes make worded (Err fault) → ⊥
  no_fault make (whole content) a fault x y = not_ok (make content) fault (sym y)
  no_fault make (adds front text) a fault (Ok s, reads, x) (Ok t, reads_t, y) = not_ok (make (add (new_row front text t))) fault (sym y)
  no_fault make (adds front text) a fault (Ok s, reads, x) (Err g, fails, y) = apart text g s fails.1 fails.0 reads
  no_fault make (adds front text) a fault (Err g, fails, x) (read, reads, y) = not_ok a _ x

  content_no_fault : (r : Result Worded LineFault) (a : Content) (fault : LineFault) → IsContent r (Ok a) → IsContent r (Err fault) → ⊥
  content_no_fault (Err found) a fault x y = not_ok a found x
  content_no_fault (Ok worded) a fault x y = no_fault (λ content. content) worded a fault x y

  edit_no_fault : (r : Result Edited LineFault) (a : Edit) (fault : LineFault) → IsEdit r (Ok a) → IsEdit r (Err fault) → ⊥
  edit_no_fault (Err found) a fault x y = not_ok a found x
  edit_no_fault (Ok edited) a fault x y = no_fault (keyed edited.key) edited.worded a fault x y

  pub content_has_no_fault : ContentHasNoFault
  content_has_no_fault text c fault x y = content_no_fault (by_words content_at text) c fault x y

  pub edit_has_no_fault : EditHasNoFault
  edit_has_no_fault line e fault x y = edit_no_fault (by_words edit_at line) e fault x y

module _ (one_tree : OneTree) (apart : (text : List ℕ) (fault : TextFault) (tree : Tree) → fault ≢ OutOfMemory → FailsText text fault → IsRequirementText text tree → ⊥) (one_fault : OneFault) where
  read_once : (text : List ℕ) (a b : Result Tree TextFault) → ReadsAs text a → ReadsAs text b → a ≡ b
  read_once text (Ok s) (Ok t) x y = ap Ok (one_tree text s t x y)
  read_once text (Ok s) (Err fault) x y = absurd (apart text fault s y.1 y.0 x)
  read_once text (Err fault) (Ok t) x y = absurd (apart text fault t x.1 x.0 y)
  read_once text (Err fault) (Err other) x y = ap Err (one_fault text fault other x.1 y.1 x.0 y.0)

  made_once : {A : Type 0} (make : Content → A) (worded : Worded) (a b : Result A LineFault) → Makes make worded a → Makes make worded b → a ≡ b
  made_once make (whole content) a b x y = x ∙ sym y
  made_once make (adds front text) a b (r, reads, x) (q, so, y) = x ∙ (ap (made make front text) (read_once text r q reads so) ∙ sym y)

  pub content_asked_once : ContentIsAskedOnce
  content_asked_once (Err fault) a b x y = x ∙ sym y
  content_asked_once (Ok worded) a b x y = made_once (λ content. content) worded a b x y

  pub edit_asked_once : EditIsAskedOnce
  edit_asked_once (Err fault) a b x y = x ∙ sym y
  edit_asked_once (Ok edited) a b x y = made_once (keyed edited.key) edited.worded a b x y
