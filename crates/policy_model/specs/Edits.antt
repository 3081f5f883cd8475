-- What an edit does to the tables. This project's own, after --add, --remove, --enable, --disable of spctl(8).
use Rattle.std.specs.Prelude.{ℕ, ◌+◌, List, [], ◌∷◌, ◌++◌, length, Option, Some, None, if◌then◌else◌, bytes_eq}
use Rattle.std.specs.List.{find}
use Rattle.policy_model.specs.Rules.{Row}
use Rattle.policy_model.specs.Contents.{Edit}
use Rattle.policy_model.specs.Texts.{content_text}
use Rattle.policy_model.specs.Tables.{Receipt, Tables, Answer, done, repeated, key_reused, Effect}
use Rattle.policy_model.specs.Changes.{rows_after, touched_by, switch_after}
use Rattle.policy_model.specs.Refusals.{refusal}

-- the receipt that is kept for a key
abbrev pub kept : List Receipt → List ℕ → Option Receipt
kept receipts key = find (λ r. bytes_eq r.key key) receipts

-- an answer that changes nothing and touches no row
abbrev pub stays : Answer → Tables → Effect
stays a t = record { answer = a; tables = t; touched = [] }

-- the edit of number n, which touches these rows
abbrev pub accepted : ℕ → List Row → Edit → Tables → Effect
accepted n touched e t = record {
  answer = done n (length touched);
  touched = touched;
  tables = record {
    rows = rows_after n e.content t.rows;
    receipts = t.receipts ++ record { number = n; key = e.key; content = content_text e.content; rules = length touched } ∷ [];
    enabled = switch_after e.content t.enabled;
  };
}

-- under a key that is kept: the same content again, or another one
abbrev pub at_kept : Receipt → Edit → Answer
at_kept r e = if bytes_eq r.content (content_text e.content) then repeated r.number r.rules else key_reused r.number r.rules

-- under a new key: refused, or accepted with the next number
abbrev pub at_new : Option Answer → Edit → Tables → Effect
at_new (Some a) e t = stays a t
at_new None e t = accepted (length t.receipts + 1) (touched_by (length t.receipts + 1) e.content t.rows) e t

-- under a key that is kept, or under a new one
abbrev pub does_at : Option Receipt → Edit → Tables → Effect
does_at (Some r) e t = stays (at_kept r e) t
does_at None e t = at_new (refusal e.content t) e t

-- what the edit does
abbrev pub does : Tables → Edit → Effect
does t e = does_at (kept t.receipts e.key) e t
