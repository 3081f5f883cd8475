-- Edits one after another, with one more at the end.
use Rattle.std.proofs.Common.{◌≡◌, ℕ, ◌+◌, ◌<◌, ◌≤◌, Bool, true, false, ◌||◌, List, [], ◌∷◌, ◌++◌, length, take, get_or, refl, sym, ap, subst, ◌∙◌, append_assoc}
use Rattle.std.specs.List.{list_any}
use Rattle.line_reader.specs.Lines.{with_lf, text_of}
use Rattle.policy_model.specs.Contents.{Edit}
use Rattle.policy_model.specs.History.{Event, Opening}
use Rattle.rule_edits.specs.declared.edit.Edit as code
use Rattle.rule_edits.specs.Edit.{edit_of}
use Rattle.import_csv.specs.RowCode.{edits_of}
use Rattle.std.proofs.lemmas.List.{map_more}
use Rattle.desk_state.specs.declared.desk.Desk.{Desk}
use Rattle.desk_state.specs.Stands.{Stands}
use Rattle.table_commands.specs.Replies.{EditReplies, EditsReply, is_refusal}
use Rattle.table_commands.specs.Steps.{Replies, AllReply}
use Rattle.table_commands.proofs.Failed.{shows_on}

-- one more edit with its reply
pub replies_more : (o : Opening) (h : List Event) (es : List Edit) (rs : List (List ℕ)) (mid : List Event) (e : Edit) (r : List ℕ) (after : List Event)
    → EditsReply o h es rs mid → EditReplies o mid e r after → EditsReply o h (es ++ e ∷ []) (rs ++ r ∷ []) after
replies_more o h [] [] mid e r after same last = (after, subst (λ (m : List Event). EditReplies o m e r after) same last, refl)
replies_more o h [] (x ∷ xs) mid e r after first last = absurd first
replies_more o h (f ∷ fs) [] mid e r after first last = absurd first
replies_more o h (f ∷ fs) (x ∷ xs) mid e r after first last = (first.0, first.1, replies_more o first.0 fs xs mid e r after first.2 last)

-- and its line
pub text_more : (rs : List (List ℕ)) (r : List ℕ) → text_of (rs ++ r ∷ []) ≡ text_of rs ++ with_lf r
text_more [] r = append_nil (with_lf r)
  where
    append_nil : (xs : List ℕ) → xs ++ [] ≡ xs
    append_nil [] = refl
    append_nil (x ∷ xs) = ap (λ (t : List ℕ). x ∷ t) (append_nil xs)
text_more (x ∷ xs) r = ap (λ (t : List ℕ). with_lf x ++ t) (text_more xs r) ∙ sym (append_assoc (with_lf x) (text_of xs) (with_lf r))

-- whether one of them is a refusal
pub any_more : (test : List ℕ → Bool) (rs : List (List ℕ)) (r : List ℕ) → list_any test (rs ++ r ∷ []) ≡ (list_any test rs || test r)
any_more test [] r = or_false (test r)
  where
    or_false : (b : Bool) → (b || false) ≡ b
    or_false true = refl
    or_false false = refl
any_more test (x ∷ xs) r = by (test x) (any_more test xs r)
  where
    by : (b : Bool) → list_any test (xs ++ r ∷ []) ≡ (list_any test xs || test r) → (b || list_any test (xs ++ r ∷ [])) ≡ ((b || list_any test xs) || test r)
    by true e = refl
    by false e = e

-- one more of a list of edits
pub all_more : (o : Opening) (h : List Event) (es : List Edit) (e : Edit) (old desk : Desk) (before counted now : ℕ) (text more : List ℕ) (any refused : Bool) → counted ≤ now → AllReply o h es old before counted text any
    → ((mid : List Event) → Stands old o mid → Replies o mid e desk counted now text more refused) → AllReply o h (es ++ e ∷ []) desk before now more (any || refused)
all_more o h es e old desk before counted now text more any refused later so_far step =
    let one = step so_far.after so_far.stands in
    record {
      replies = so_far.replies ++ one.reply ∷ [];
      after = one.came.0;
      answers = replies_more o h es so_far.replies so_far.after e one.reply one.came.0 so_far.answers one.came.1;
      stands = one.came.2;
      shows = shows_on h so_far.after one.came.0 before counted now later so_far.shows one.came.3;
      text_is = one.text_is ∙ ap (λ (t : List ℕ). t ++ with_lf one.reply) so_far.text_is ∙ sym (text_more so_far.replies one.reply);
      refused_is = both so_far.refused_is one.refused_is ∙ sym (any_more is_refusal so_far.replies one.reply);
    }
  where
    both : {a b c d : Bool} → a ≡ b → c ≡ d → (a || c) ≡ (b || d)
    both e f = rw (e, f) refl

-- the edits up to one more
pub edits_more : (edits : List code.Edit) (i : ℕ) (d x : code.Edit) → i < length edits → x ≡ get_or edits i d → edits_of (take (i + 1) edits) ≡ edits_of (take i edits) ++ edit_of x ∷ []
edits_more edits i d x inside is = map_more edit_of edits i d inside ∙ ap (λ (e : code.Edit). edits_of (take i edits) ++ edit_of e ∷ []) (sym is)
