-- A history with one more event.
use Rattle.std.proofs.Common.{◌≡◌, ℕ, ◌≤◌, List, [], ◌∷◌, ◌++◌, refl, arith}
use Rattle.policy_model.specs.Tables.{Tables}
use Rattle.policy_model.specs.History.{Event, tick, ask, offer, edit, edit_failed, edit_starved, look, Opening, tables_step, tables_after, tables_of, now_step, now_after, now_of}
use Rattle.policy_model.specs.Laws.{MomentNeverStepsBack}

tables_after-more : (h : List Event) (e : Event) (t : Tables) → tables_after (h ++ e ∷ []) t ≡ tables_step e (tables_after h t)
tables_after-more [] e t = refl
tables_after-more (d ∷ h) e t = tables_after-more h e (tables_step d t)

now_after-more : (h : List Event) (e : Event) (n : ℕ) → now_after (h ++ e ∷ []) n ≡ now_step e (now_after h n)
now_after-more [] e n = refl
now_after-more (d ∷ h) e n = now_after-more h e (now_step d n)

pub tables_of-more : (o : Opening) (h : List Event) (e : Event) → tables_of o (h ++ e ∷ []) ≡ tables_step e (tables_of o h)
tables_of-more o h e = tables_after-more h e o.tables

pub now_of-more : (o : Opening) (h : List Event) (e : Event) → now_of o (h ++ e ∷ []) ≡ now_step e (now_of o h)
now_of-more o h e = now_after-more h e o.now

now_step-on : (e : Event) (n : ℕ) → n ≤ now_step e n
now_step-on (tick m) n = omega arith
now_step-on (ask a) n = omega arith
now_step-on (offer k) n = omega arith
now_step-on (edit e) n = omega arith
now_step-on (edit_failed e) n = omega arith
now_step-on (edit_starved e) n = omega arith
now_step-on look n = omega arith

now_after-on : (h more : List Event) (n : ℕ) → now_after h n ≤ now_after (h ++ more) n
now_after-on [] [] n = omega arith
now_after-on [] (e ∷ more) n = omega (arith, now_step-on e n, now_after-on [] more (now_step e n))
now_after-on (d ∷ h) more n = now_after-on h more (now_step d n)

pub never_steps_back : MomentNeverStepsBack
never_steps_back o h more = now_after-on h more o.now
