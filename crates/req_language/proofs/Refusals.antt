-- A text's own fault is in the way of the bytes that it was printed of.
use Rattle.std.proofs.Common.{◌≡◌, ℕ, List, Ok, Err, subst}
use Rattle.req_tree.specs.Tree.{Tree}
use Rattle.req_blob.specs.declared.fault.OpsFault.{OpsFault}
use Rattle.req_parser.specs.Failures.{FailsText}
use Rattle.req_parser.specs.SetFailures.{FailsSetText}
use Rattle.req_ops.specs.declared.fault.SetFault.TheVariants as sets
use Rattle.req_ops.specs.declared.fault.SetFault.{SetFault}
use Rattle.req_ops.specs.Sets.{SetFails}
use Rattle.req_language.specs.declared.through.LanguageFault.{LanguageFault}
use Rattle.req_language.specs.declared.through.LanguageFault.TheVariants as one
use Rattle.req_language.specs.declared.through_sets.SetLanguageFault.{SetLanguageFault}
use Rattle.req_language.specs.declared.through_sets.SetLanguageFault.TheVariants as set
use Rattle.req_language.specs.Steps.{IsTextOf, IsSetTextOf}
use Rattle.req_language.specs.Through.{IsTextFault, IsThroughFault}
use Rattle.req_language.specs.ThroughSets.{IsSetTextFault, IsThroughSetFault}

-- what is read isn't refused
pub not_refused : (tree : Tree) (why : OpsFault) → Ok tree ≡ Err why → ⊥
not_refused tree why e = cc

pub through_fault : (bytes text : List ℕ) → IsTextOf bytes text → (fault : LanguageFault) → IsTextFault text fault → IsThroughFault bytes fault
through_fault bytes text t (one.Bytes why) h = λ some. absurd (some h)
through_fault bytes text t (one.Text why) h = (t.tree, t.spelt, subst (λ (l : List ℕ). FailsText l why) t.text_is h)

of_memory : (bytes : List ℕ) (why : SetFault) → why ≡ sets.OutOfMemory → SetFails bytes why
of_memory bytes (sets.Blob fault) e = absurd cc
of_memory bytes sets.TooLong e = absurd cc
of_memory bytes (sets.Trailing at) e = absurd cc
of_memory bytes (sets.BadSetKind index) e = absurd cc
of_memory bytes (sets.Part index fault) e = absurd cc
of_memory bytes sets.OutOfMemory e = tt

pub through_set_fault : (bytes text : List ℕ) → IsSetTextOf bytes text → (fault : SetLanguageFault) → IsSetTextFault text fault → IsThroughSetFault bytes fault
through_set_fault bytes text t (set.Bytes why) h = of_memory bytes why h
through_set_fault bytes text t (set.Text why) h = (t.set, t.spelt, subst (λ (l : List ℕ). FailsSetText l why) t.text_is h)
through_set_fault bytes text t (set.Blob why) h = h
