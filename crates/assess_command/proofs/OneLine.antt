-- Files are assessed in one way, by one line.
use Rattle.std.proofs.Common.{◌≡◌, ℕ, Bool, true, false, List, [], ◌∷◌, Option, None, Some, ◌⊎◌, inl, inr, refl, sym, ap, ◌∙◌, subst}
use Rattle.std.specs.Prelude.{codes, ◌++◌}
use Rattle.req_tree.specs.Subject.{Subject}
use Rattle.policy_model.specs.Rules.{Kind}
use Rattle.policy_model.specs.History.{Event, Opening}
use Rattle.code_directory.specs.declared.fault.CodeFault.{CodeFault}
use Rattle.code_directory.specs.FaultText.{code_fault_text}
use Rattle.code_directory.specs.Signatures.{View, Views, SignatureFails, subject}
use Rattle.code_directory.specs.Agreement.{PagesAgree, CodeFails}
use Rattle.assess_command.specs.declared.line.Assessed.{Assessed}
use Rattle.assess_command.specs.declared.line.Assessed.TheVariants.{Accepted, Rejected, Refused}
use Rattle.assess_command.specs.Files.{checked_parts, PartsAgree, PartsFail, CodeAgrees, CodeDiffers, Passes, IsSubject, SignedFails, FilesFail}
use Rattle.assess_command.specs.Assessments.{ask_on, answer_at, line_at, Judged, IsRefused, Assesses}

-- laws of signatures and of code
pub record Laws : Type 0 where
  pub view : (bytes : List ℕ) (one other : View) → Views bytes one → Views bytes other → one ≡ other
  pub fault : (bytes : List ℕ) (first second : CodeFault) → SignatureFails bytes first → SignatureFails bytes second → first ≡ second
  pub apart : (bytes : List ℕ) (one : View) (fault : CodeFault) → Views bytes one → SignatureFails bytes fault → ⊥
  pub code : (directory code : List ℕ) (first second : CodeFault) → CodeFails directory code first → CodeFails directory code second → first ≡ second
  pub pages : (directory code : List ℕ) (fault : CodeFault) → PagesAgree directory code → CodeFails directory code fault → ⊥

parts_one : (view : View) (kinds : List ℕ) (first second : CodeFault) → PartsFail view kinds first → PartsFail view kinds second → first ≡ second
parts_one view [] first second f s = absurd f
parts_one view (kind ∷ kinds) first second (inl f) (inl s) = f.named ∙ sym s.named
parts_one view (kind ∷ kinds) first second (inl f) (inr s) = absurd (f.differs s.0)
parts_one view (kind ∷ kinds) first second (inr f) (inl s) = absurd (s.differs f.0)
parts_one view (kind ∷ kinds) first second (inr f) (inr s) = parts_one view kinds first second f.1 s.1

parts_apart : (view : View) (kinds : List ℕ) (fault : CodeFault) → PartsAgree view kinds → PartsFail view kinds fault → ⊥
parts_apart view [] fault a f = f
parts_apart view (kind ∷ kinds) fault a (inl f) = f.differs a.0
parts_apart view (kind ∷ kinds) fault a (inr f) = parts_apart view kinds fault a.1 f.1

code_one : Laws → (view : View) (code : Option (List ℕ)) (first second : CodeFault) → CodeDiffers view code first → CodeDiffers view code second → first ≡ second
code_one laws view None first second f s = absurd f
code_one laws view (Some code) first second f s = laws.code view.directory code first second f s

code_apart : Laws → (view : View) (code : Option (List ℕ)) (fault : CodeFault) → CodeAgrees view code → CodeDiffers view code fault → ⊥
code_apart laws view None fault a f = f
code_apart laws view (Some code) fault a f = laws.pages view.directory code fault a f

-- what is wrong first with the parts and the code
abbrev Behind : View → Option (List ℕ) → CodeFault → Type 0
Behind view code fault = PartsFail view checked_parts fault ⊎ (PartsAgree view checked_parts × CodeDiffers view code fault)

behind_one : Laws → (view : View) (code : Option (List ℕ)) (first second : CodeFault) → Behind view code first → Behind view code second → first ≡ second
behind_one laws view code first second (inl f) (inl s) = parts_one view checked_parts first second f s
behind_one laws view code first second (inl f) (inr s) = absurd (parts_apart view checked_parts first s.0 f)
behind_one laws view code first second (inr f) (inl s) = absurd (parts_apart view checked_parts second f.0 s)
behind_one laws view code first second (inr f) (inr s) = code_one laws view code first second f.1 s.1

behind_apart : Laws → (view : View) (code : Option (List ℕ)) (fault : CodeFault) → PartsAgree view checked_parts → CodeAgrees view code → Behind view code fault → ⊥
behind_apart laws view code fault parts pages (inl f) = parts_apart view checked_parts fault parts f
behind_apart laws view code fault parts pages (inr f) = code_apart laws view code fault pages f.1

signed_one : Laws → (signature : List ℕ) (code : Option (List ℕ)) (first second : CodeFault) → SignedFails signature code first → SignedFails signature code second → first ≡ second
signed_one laws signature code first second f s =
    let same : s.view ≡ f.view = laws.view signature s.view f.view s.views f.views in
    behind_one laws f.view code first second f.first (subst (λ (v : View). Behind v code second) same s.first)

fails_one : Laws → (signature : List ℕ) (code : Option (List ℕ)) (first second : CodeFault)
    → SignatureFails signature first ⊎ SignedFails signature code first → SignatureFails signature second ⊎ SignedFails signature code second → first ≡ second
fails_one laws signature code first second (inl f) (inl s) = laws.fault signature first second f s
fails_one laws signature code first second (inl f) (inr s) = absurd (laws.apart signature s.view first s.views f)
fails_one laws signature code first second (inr f) (inl s) = absurd (laws.apart signature f.view second f.views s)
fails_one laws signature code first second (inr f) (inr s) = signed_one laws signature code first second f s

passes_apart : Laws → (signature : List ℕ) (code : Option (List ℕ)) (seen : Subject) (fault : CodeFault) → Passes signature code seen → SignatureFails signature fault ⊎ SignedFails signature code fault → ⊥
passes_apart laws signature code seen fault p (inl f) = laws.apart signature p.view fault p.views f
passes_apart laws signature code seen fault p (inr f) =
    let same : f.view ≡ p.view = laws.view signature f.view p.view f.views p.views in
    behind_apart laws p.view code fault p.parts p.pages (subst (λ (v : View). Behind v code fault) same f.first)

-- what the files say the code is, and that a check fails, exclude one another
apart : Laws → (signature : List ℕ) (code : Option (List ℕ)) (seen : Option Subject) (fault : CodeFault) → IsSubject signature code seen → FilesFail signature code fault → ⊥
apart laws signature code None fault s f = f.signed s
apart laws signature code (Some seen) fault s f = passes_apart laws signature code seen fault s f.first

abbrev some_subject : Subject → Option Subject
some_subject seen = Some seen

subject_one : Laws → (signature : List ℕ) (code : Option (List ℕ)) (one other : Option Subject) → IsSubject signature code one → IsSubject signature code other → one ≡ other
subject_one laws signature code None None a b = refl
subject_one laws signature code None (Some other) a b = absurd (b.signed a)
subject_one laws signature code (Some one) None a b = absurd (a.signed b)
subject_one laws signature code (Some one) (Some other) a b = ap some_subject (a.seen_is ∙ ap subject (laws.view signature a.view b.view a.views b.views) ∙ sym b.seen_is)

-- two verdicts on the same files allow alike
allows_alike : Laws → (o : Opening) (h : List Event) (kind : Kind) (signature : List ℕ) (code : Option (List ℕ)) (seconds : ℕ) (allow also : Bool) (line another : List ℕ)
    → Judged o h kind signature code seconds allow line → Judged o h kind signature code seconds also another → allow ≡ also
allows_alike laws o h kind signature code seconds allow also line another a b =
    sym a.answered.allows ∙ ap (λ s. (answer_at o h (ask_on kind s) seconds).allow) (subject_one laws signature code a.subject b.subject a.subject_is b.subject_is) ∙ b.answered.allows

-- and have one line
lines_alike : Laws → (o : Opening) (h : List Event) (kind : Kind) (signature : List ℕ) (code : Option (List ℕ)) (seconds : ℕ) (allow also : Bool) (line another : List ℕ)
    → Judged o h kind signature code seconds allow line → Judged o h kind signature code seconds also another → line ≡ another
lines_alike laws o h kind signature code seconds allow also line another a b =
    a.answered.line_is ∙ ap (λ s. line_at o h (ask_on kind s) seconds) (subject_one laws signature code a.subject b.subject a.subject_is b.subject_is) ∙ sym b.answered.line_is

refusals_alike : Laws → (signature : List ℕ) (code : Option (List ℕ)) (line another : List ℕ) → IsRefused signature code line → IsRefused signature code another → line ≡ another
refusals_alike laws signature code line another a b =
    a.line_is ∙ ap (λ fault. codes "refused code " ++ code_fault_text fault) (fails_one laws signature code a.fault b.fault a.fails.first b.fails.first) ∙ sym b.line_is

no : true ≡ false → ⊥
no h = cc

not_both : Laws → (o : Opening) (h : List Event) (kind : Kind) (signature : List ℕ) (code : Option (List ℕ)) (seconds : ℕ) (allow : Bool) (line another : List ℕ)
    → Judged o h kind signature code seconds allow line → IsRefused signature code another → ⊥
not_both laws o h kind signature code seconds allow line another a b = apart laws signature code a.subject b.fault a.subject_is b.fails

pub one_line : Laws → (o : Opening) (h : List Event) (kind : Kind) (signature : List ℕ) (code : Option (List ℕ)) (seconds : ℕ) (how other : Assessed) (line another : List ℕ)
    → Assesses o h kind signature code seconds how line → Assesses o h kind signature code seconds other another → (how ≡ other) × (line ≡ another)
one_line laws o h kind signature code seconds Accepted Accepted line another a b = (refl, lines_alike laws o h kind signature code seconds true true line another a b)
one_line laws o h kind signature code seconds Accepted Rejected line another a b = absurd (no (allows_alike laws o h kind signature code seconds true false line another a b))
one_line laws o h kind signature code seconds Accepted Refused line another a b = absurd (not_both laws o h kind signature code seconds true line another a b)
one_line laws o h kind signature code seconds Rejected Accepted line another a b = absurd (no (allows_alike laws o h kind signature code seconds true false another line b a))
one_line laws o h kind signature code seconds Rejected Rejected line another a b = (refl, lines_alike laws o h kind signature code seconds false false line another a b)
one_line laws o h kind signature code seconds Rejected Refused line another a b = absurd (not_both laws o h kind signature code seconds false line another a b)
one_line laws o h kind signature code seconds Refused Accepted line another a b = absurd (not_both laws o h kind signature code seconds true another line b a)
one_line laws o h kind signature code seconds Refused Rejected line another a b = absurd (not_both laws o h kind signature code seconds false another line b a)
one_line laws o h kind signature code seconds Refused Refused line another a b = (refl, refusals_alike laws signature code line another a b)
