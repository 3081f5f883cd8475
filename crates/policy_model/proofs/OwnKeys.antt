-- The keys of receipts differ, through any edit.
use Rattle.std.proofs.Common.{◌≡◌, List, [], ◌∷◌, ℕ, refl, ap, Option, Some, None, arith}
use Rattle.std.specs.Prelude.{All, Bool, true, false, bytes_eq, cond}
use Rattle.std.proofs.lemmas.List.Quantifiers.{all_pairs_push}
use Rattle.std.proofs.lemmas.List.Elements.{All-nil, All-cons}
use Rattle.policy_model.specs.Contents.{Edit}
use Rattle.policy_model.specs.Tables.{Tables, Receipt, Answer}
use Rattle.policy_model.specs.Refusals.{refusal}
use Rattle.policy_model.specs.Edits.{does, does_at, at_new, kept}
use Rattle.policy_model.specs.History.{Event, tick, ask, offer, edit, edit_failed, edit_starved, look, tables_step, tables_after, HasOwnKeys, empty_tables}
use Rattle.policy_model.specs.Laws.{KeptKeyChangesNothing}

abbrev NoneHas : List ℕ → List Receipt → Type 0
NoneHas key receipts = All (λ (r : Receipt). bytes_eq r.key key ≡ false) receipts

by_test : (key : List ℕ) (r : Receipt) (rs : List Receipt) (b : Bool) → bytes_eq r.key key ≡ b → (kept rs key ≡ None → NoneHas key rs)
    → cond b (Some r) (kept rs key) ≡ None → NoneHas key (r ∷ rs)
by_test key r rs true is rest none = cc
by_test key r rs false is rest none = All-cons (λ (r : Receipt). bytes_eq r.key key ≡ false) r rs is (rest none)

find_none : (key : List ℕ) (receipts : List Receipt) → kept receipts key ≡ None → NoneHas key receipts
find_none key [] none = All-nil (λ (r : Receipt). bytes_eq r.key key ≡ false)
find_none key (r ∷ rs) none = by_test key r rs (bytes_eq r.key key) refl (λ h. find_none key rs h) none

new_keys : (a : Option Answer) (e : Edit) (t : Tables) → NoneHas e.key t.receipts → HasOwnKeys t → HasOwnKeys (at_new a e t).tables
new_keys (Some a) e t none h = h
new_keys None e t none h = record { apart = all_pairs_push (λ (a b : Receipt). bytes_eq a.key b.key ≡ false) t.receipts _ h.apart none }

at_keys : (k : Option Receipt) (e : Edit) (t : Tables) → (k ≡ None → NoneHas e.key t.receipts) → HasOwnKeys t → HasOwnKeys (does_at k e t).tables
at_keys (Some r) e t none h = h
at_keys None e t none h = new_keys (refusal e.content t) e t (none refl) h

-- an edit keeps keys apart
edit_keys : (e : Edit) (t : Tables) → HasOwnKeys t → HasOwnKeys (does t e).tables
edit_keys e t h = at_keys (kept t.receipts e.key) e t (find_none e.key t.receipts) h

step_keys : (e : Event) (t : Tables) → HasOwnKeys t → HasOwnKeys (tables_step e t)
step_keys (edit e) t h = edit_keys e t h
step_keys (tick m) t h = h
step_keys (ask a) t h = h
step_keys (offer k) t h = h
step_keys (edit_failed e) t h = h
step_keys (edit_starved e) t h = h
step_keys look t h = h

-- and so does a history
pub keys_after : (es : List Event) (t : Tables) → HasOwnKeys t → HasOwnKeys (tables_after es t)
keys_after [] t h = h
keys_after (e ∷ es) t h = keys_after es (tables_step e t) (step_keys e t h)

pub empty_keys : HasOwnKeys empty_tables
empty_keys = record { apart = λ i j d lt in'. absurd (omega (arith, in')) }

pub kept_changes_nothing : KeptKeyChangesNothing
kept_changes_nothing t e r k = ap (λ x. (does_at x e t).tables) k
