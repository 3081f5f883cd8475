-- What a rehearsal says. This project's own.
use Rattle.std.specs.Prelude.{◌≡◌, ℕ, List}
use Rattle.line_reader.specs.Lines.{lines_of, text_of, with_lf}
use Rattle.req_tree.specs.Facts.{Facts}
use Rattle.policy_model.specs.History.{fresh}
use Rattle.session_model.specs.Slots.{State}
use Rattle.session_model.specs.Session.{Session, begun}
use Rattle.code_facts.specs.Tables.{IsFactsFile}
use Rattle.desk_state.specs.Failures.{failures}
use Rattle.rehearsal.specs.Facts.{facts_file}
use Rattle.rehearsal.specs.Made.{made}
use Rattle.rehearsal.specs.Counts.{Counts, counts, summary_text}
use Rattle.run_status.specs.declared.status.Status.{Status}
use Rattle.run_status.specs.declared.status.Status.TheVariants.{Fine}

-- the facts are those of the rehearsals' file
abbrev pub AreKnown : Facts → Type 0
AreKnown facts = IsFactsFile facts_file facts

-- a session of a new desk that knows these facts, in which no edit failed, gives replies to the made-up lines of n steps, over whose
-- lines the counts are these
pub record AreCounts (facts : Facts) (n : ℕ) (c : Counts) : Type 0 where
  pub replies : List (List ℕ)
  pub after : State
  pub session : Session (fresh facts) begun (lines_of (text_of (made n))) replies after
  pub whole : failures after.history ≡ 0
  pub counted : c ≡ counts (lines_of (text_of replies))

-- what is said, and the status: the line of the counts of a rehearsal of n steps
pub record SaysRehearsal (n : ℕ) (status : Status) (text : List ℕ) : Type 0 where
  pub facts : Facts
  pub known : AreKnown facts
  pub c : Counts
  pub are_counts : AreCounts facts n c
  pub status_is : status ≡ Fine
  pub text_is : text ≡ with_lf (summary_text n c)
