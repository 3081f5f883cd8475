-- What is taken out is the first of its number, and the others stay.
use Rattle.std.proofs.Common.{◌≡◌, ◌==◌, None, Some, ◌∙◌, sym, ap}
use Rattle.std.specs.List.{position}
use Rattle.desk_lines.specs.declared.slots.OpenSlot.{OpenSlot}
use Rattle.desk_lines.proofs.Places.{found_at, none_at, left_at}
use Rattle.desk_lines.proofs.slots.take_slot.Goals as goal

pub returns-in-Some-clause-taken : goal.returns-in-Some-clause-taken
returns-in-Some-clause-taken c =
    let place : position (λ (x : OpenSlot). x.number == c.args.number) c.args.slots.now.items ≡ Some c.in-Some.at = ap (position (λ (x : OpenSlot). x.number == c.args.number)) (sym c.as_slice.ensures.value) ∙ sym c.find_slot.ensures ∙ c.in-Some.is in
    found_at (λ (x : OpenSlot). x.number == c.args.number) c.args.slots.now.items c.in-Some.at c.remove.result place c.remove.ensures.value

pub returns-in-Some-clause-left : goal.returns-in-Some-clause-left
returns-in-Some-clause-left c =
    let place : position (λ (x : OpenSlot). x.number == c.args.number) c.args.slots.now.items ≡ Some c.in-Some.at = ap (position (λ (x : OpenSlot). x.number == c.args.number)) (sym c.as_slice.ensures.value) ∙ sym c.find_slot.ensures ∙ c.in-Some.is in
    c.remove.ensures.items ∙ left_at (λ (x : OpenSlot). x.number == c.args.number) c.args.slots.now.items c.in-Some.at place

pub returns-in-None-clause-taken : goal.returns-in-None-clause-taken
returns-in-None-clause-taken c =
    let place : position (λ (x : OpenSlot). x.number == c.args.number) c.args.slots.now.items ≡ None = ap (position (λ (x : OpenSlot). x.number == c.args.number)) (sym c.as_slice.ensures.value) ∙ sym c.find_slot.ensures ∙ c.in-None.is in
    none_at (λ (x : OpenSlot). x.number == c.args.number) c.args.slots.now.items place
