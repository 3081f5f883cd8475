-- A number that is open, as many as may be open, or one more.
use Rattle.std.proofs.Common.{◌≡◌, true, false, length, refl, inl, nat_le, arith}
use Rattle.std.specs.List.{list_any}
use Rattle.std.proofs.lemmas.Bool.Decides.{nat_tests}
use Rattle.std.proofs.lemmas.Result.{on_ok_weaker}
use Rattle.session_model.specs.Slots.{has_number, begins_now}
use Rattle.assess.specs.Ask.{ask_of}
use Rattle.desk_lines.proofs.Failed.{shows_none, shows_more}
use Rattle.policy_model.specs.History as event
use Rattle.desk_lines.proofs.Opens.{same_numbers, same_count}
use Rattle.desk_lines.proofs.answering.begin.Goals as goal

pub returns-then-is_open-clause-replies : goal.returns-then-is_open-clause-replies
returns-then-is_open-clause-replies c = λ n o s stands stand.
    let same = same_numbers o s.history 0 c.args.number c.args.slots.now.items s.slots stand in
    let is = c.is_open.ensures in
    let items = c.as_slice.ensures.value in
    let yes = c.if-is_open.true in
    let busy : list_any (has_number c.args.number) s.slots ≡ true = cc in
    (s, inl (rw busy refl, rw (busy, c.push_all.ensures.text, c.requires.text) refl), stands, stand, shows_none s.history n)

pub returns-then-len-ge-MOST_SLOTS-clause-replies : goal.returns-then-len-ge-MOST_SLOTS-clause-replies
returns-then-len-ge-MOST_SLOTS-clause-replies c = λ n o s stands stand.
    let same = same_numbers o s.history 0 c.args.number c.args.slots.now.items s.slots stand in
    let is = c.is_open.ensures in
    let items = c.as_slice.ensures.value in
    let no = c.if-is_open.false in
    let free : list_any (has_number c.args.number) s.slots ≡ false = cc in
    let count : length c.args.slots.now.items ≡ length s.slots = same_count o s.history 0 c.args.slots.now.items s.slots stand in
    let full : nat_le 50 (length s.slots) ≡ true = grind (arith, nat_tests, count, c.if-len-ge-MOST_SLOTS.true) in
    (s, inl (rw (free, full) refl, rw (free, full, c.push_all-then-len-ge-MOST_SLOTS.ensures.text, c.requires.text) refl), stands, stand, shows_none s.history n)

pub returns-else-len-ge-MOST_SLOTS-clause-replies : goal.returns-else-len-ge-MOST_SLOTS-clause-replies
returns-else-len-ge-MOST_SLOTS-clause-replies c = on_ok_weaker c.begin_now.result (λ anew n o s stands stand.
    let same = same_numbers o s.history 0 c.args.number c.args.slots.now.items s.slots stand in
    let is = c.is_open.ensures in
    let items = c.as_slice.ensures.value in
    let no = c.if-is_open.false in
    let free : list_any (has_number c.args.number) s.slots ≡ false = cc in
    let count : length c.args.slots.now.items ≡ length s.slots = same_count o s.history 0 c.args.slots.now.items s.slots stand in
    let room : nat_le 50 (length s.slots) ≡ false = grind (arith, nat_tests, count, c.if-len-ge-MOST_SLOTS.false) in
    let done = anew o s stands stand in
    ((begins_now o s c.args.number (ask_of c.args.ask.now)).after, inl (rw (free, room) refl, rw (free, room) done.0), done.1, done.2, shows_more s.history (event.ask (ask_of c.args.ask.now)) n refl)) c.begin_now.ensures.replies
