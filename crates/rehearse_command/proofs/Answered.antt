-- A session over bytes in memory that ends well has read them all, and written just the replies to their lines.
use Rattle.std.proofs.Common.{◌≡◌, ℕ, List, [], ◌++◌, Some, refl, sym, ◌∙◌, ap, subst, append-nil, arith}
use Rattle.line_reader.specs.Lines.{lines_of, text_of}
use Rattle.line_session.specs.Ends.{EndsFine}
use Rattle.req_tree.specs.Facts.{Facts}
use Rattle.policy_model.specs.History.{fresh}
use Rattle.session_model.specs.Session.{Session, begun}
use Rattle.desk_state.specs.Stands.{Stands}
use Rattle.desk_state.specs.declared.desk.Desk.{Desk}
use Rattle.desk_lines.specs.Answered.{HasAnswered}
use Rattle.rehearsal.specs.Made.{made}
use Rattle.rehearsal.specs.Counts.{Counts, counts}
use Rattle.rehearse_command.specs.Rehearsing.{AreCounts}

pub fine_counts : (start now : Desk) (facts : Facts) (n before counted : ℕ) (text left first written : List ℕ) (c : Counts) → text ≡ text_of (made n) → first ≡ [] → Stands start (fresh facts) []
    → EndsFine (HasAnswered start now before counted) (Some text) (Some left) (Some first) (Some written) → counted ≡ 0 → c ≡ counts (lines_of written) → AreCounts facts n c
fine_counts start now facts n before counted text left first written c text_is first_is stands ends none counts_are =
    let all : text ≡ ends.bytes = ends.taken ∙ ap (λ (l : List ℕ). ends.bytes ++ l) ends.at_end ∙ append-nil ends.bytes in
    let put : written ≡ text_of ends.replies = ends.put ∙ ap (λ (l : List ℕ). l ++ text_of ends.replies) first_is in
    let answered = ends.answered (fresh facts) begun (stands, refl) in
    let few = answered.3 (omega (arith, none)) in
    record {
      replies = ends.replies;
      after = answered.0;
      session = subst (λ (bytes : List ℕ). Session (fresh facts) begun (lines_of bytes) ends.replies answered.0) (sym all ∙ text_is) answered.1;
      whole = omega (arith, few, none);
      counted = counts_are ∙ ap (λ (t : List ℕ). counts (lines_of t)) put;
    }
