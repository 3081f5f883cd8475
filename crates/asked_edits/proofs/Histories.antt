-- Whatever edits lines have asked for, tables stay stored in accepted rows.
use Rattle.std.proofs.Common.{get_or}
use Rattle.policy_model.specs.History.{Event, tick, ask, offer, edit, edit_failed, edit_starved, look}
use Rattle.store_model.specs.Kept.{HasEdits}
use Rattle.store_model.specs.Laws.{HistoriesStayKept}
use Rattle.store_model.specs.Again.{HistoriesAreReadAgain}
use Rattle.asked_edits.specs.Laws.{AskedEditFits, WasAsked, AskedHistoriesStayKept, AskedHistoriesAreReadAgain}

has_edits : AskedEditFits → (e : Event) → WasAsked e → HasEdits e
has_edits fits (tick m) h = tt
has_edits fits (ask a) h = tt
has_edits fits (offer k) h = tt
has_edits fits (edit e) h = fits h.0 e h.1 h.2
has_edits fits (edit_failed e) h = tt
has_edits fits (edit_starved e) h = tt
has_edits fits look h = tt

pub asked_histories : AskedEditFits → HistoriesStayKept → AskedHistoriesStayKept
asked_histories fits stay t h kept asked = stay t h kept (λ k d lt. has_edits fits (get_or h k d) (asked k d lt))

pub asked_stores : AskedEditFits → HistoriesAreReadAgain → AskedHistoriesAreReadAgain
asked_stores fits again raw left t h accepted holds asked means = again raw left t h accepted holds (λ k d lt. has_edits fits (get_or h k d) (asked k d lt)) means
