-- An assessment has one status.
use Rattle.std.proofs.Common.{◌≡◌, ℕ, List, [], ◌∷◌, Option, Some, refl, sym, ap, ◌∙◌, subst}
use Rattle.policy_model.specs.Rules.{Kind}
use Rattle.policy_model.specs.History.{Event, Opening}
use Rattle.assess_command.specs.declared.line.Assessed.{Assessed}
use Rattle.assess_command.specs.declared.line.Assessed.TheVariants.{Accepted, Rejected, Refused}
use Rattle.assess_command.specs.Assessments.{Assesses}
use Rattle.run_status.specs.declared.status.Status.{Status}
use Rattle.run_status.specs.declared.status.Status.TheVariants as ends
use Rattle.file_assessment.specs.Assessing.{SaysByClock, SaysAt, IsNext, status_of}

-- files are assessed in one way, by one line
abbrev OneLine : Type 0
OneLine =
    (o : Opening) (h : List Event) (kind : Kind) (signature : List ℕ) (code : Option (List ℕ)) (seconds : ℕ) (how other : Assessed) (line another : List ℕ)
    → Assesses o h kind signature code seconds how line → Assesses o h kind signature code seconds other another → (how ≡ other) × (line ≡ another)

-- a clock that tells its moments has one next moment
one_next : (moments : List ℕ) (first second : ℕ) → IsNext (Some moments) first → IsNext (Some moments) second → first ≡ second
one_next [] first second a b = absurd a
one_next (moment ∷ later) first second a b = a ∙ sym b

refused_how : (how : Assessed) → ends.Refused ≡ status_of how → how ≡ Refused
refused_how Accepted e = (cc)
refused_how Rejected e = (cc)
refused_how Refused e = refl

module _ (law : OneLine) (o : Opening) (h : List Event) (kind : Kind) (signature : List ℕ) (code : Option (List ℕ)) where
  one_at : (seconds : ℕ) (first second : Status) (said other : List ℕ) → SaysAt o h kind signature code seconds first said → SaysAt o h kind signature code seconds second other → first ≡ second
  one_at seconds first second said other a b =
      a.end_is ∙ (ap status_of (law o h kind signature code seconds a.how b.how a.line b.line a.assesses b.assesses).0 ∙ sym b.end_is)

  pub one_told : (moments : List ℕ) (first second : Status) (said other : List ℕ) → SaysByClock o h (Some moments) kind signature code first said → SaysByClock o h (Some moments) kind signature code second other → first ≡ second
  one_told moments first second said other a b =
      let same = one_next moments a.seconds b.seconds a.next b.next in
      one_at b.seconds first second said other (subst (λ seconds. SaysAt o h kind signature code seconds first said) same a.says) b.says

  -- what is refused is so at any time
  pub refused_ever : (moments others : Option (List ℕ)) (second : Status) (said other : List ℕ) → SaysByClock o h moments kind signature code ends.Refused said → SaysByClock o h others kind signature code second other → second ≡ ends.Refused
  refused_ever moments others second said other a b =
      let refused = subst (λ how. Assesses o h kind signature code a.seconds how a.says.line) (refused_how a.says.how a.says.end_is) a.says.assesses in
      b.says.end_is ∙ ap status_of (law o h kind signature code b.seconds b.says.how Refused b.says.line a.says.line b.says.assesses refused).0
