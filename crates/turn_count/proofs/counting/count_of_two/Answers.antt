use Rattle.std.proofs.Common.{rules, ◌≡◌, ℕ, ◌+◌, ◌%◌, ◌^◌, ◌<◌, ◌≤◌, length, arith, sym, subst, ◌∙◌, ap, Some, []}
use Rattle.std.proofs.Math.Nat.{mod-eq_of_lt}
use Rattle.turn_lock.specs.declared.lock.TheConstants.{TICKETS}
use Rattle.turn_lock.specs.declared.logged.View.{View}
use Rattle.turn_lock.specs.Views.{HasAll, newborn, left_of, right_of, both_of}
use Rattle.turn_lock.specs.Seats.{SameSeat, known}
use Rattle.turn_count.specs.Counts.{Counted, event_count}
use Rattle.turn_count.proofs.SameSeats.{all_again}
use Rattle.turn_count.proofs.TwoSeats.{taken_events, both_all, two_total, two_length, both_ended, one_refused}
use Rattle.turn_count.proofs.counting.count_of_two.Goals as goal

pub unreachable-requires : goal.unreachable-requires
unreachable-requires g c =
    let ends = c.in_two-counted.ensures.ends in
    let has : HasAll (known c.join.new.seat) = all_again (known c.in-Ok.one) (known c.split-two.new.seat) (known c.split-two.result) (known c.in_two-counted.new.one) (known c.in_two-counted.new.two) (known c.join.new.seat) (search rules) c.split-two.ensures.numbers ends.3.0 ends.4.0 c.join.ensures.numbers in
    cc ((c.close.ensures.alone has).1, c.in-Stuck.is)

pub returns-in-Whole-clause-counted : goal.returns-in-Whole-clause-counted
returns-in-Whole-clause-counted g c =
    let v : View ℕ ℕ = known c.in_two-counted.new.one in
    let w : View ℕ ℕ = known c.in_two-counted.new.two in
    let times : ℕ = c.args.times in
    let ends = c.in_two-counted.ensures.ends in
    let has : HasAll (known c.join.new.seat) = all_again (known c.in-Ok.one) (known c.split-two.new.seat) (known c.split-two.result) v w (known c.join.new.seat) (search rules) c.split-two.ensures.numbers ends.3.0 ends.4.0 c.join.ensures.numbers in
    let p : SameSeat (left_of (newborn 0)) v = search rules in
    let q : SameSeat (right_of (newborn 0)) w = search rules in
    let e : known c.join.new.seat ≡ both_of v w = search rules in
    let whole = c.close.ensures.whole c.in-Whole.counter c.in-Whole.is in
    let begun : (known c.join.new.seat).origin ≡ Some 0 = ap (λ (z : View ℕ ℕ). z.origin) e ∙ p.0 in
    let zero_origin : whole.0 ≡ 0 = cc (whole.2, begun) in
    let counted : Counted c.in-Whole.counter 0 whole.1 = subst (λ z. Counted c.in-Whole.counter z whole.1) zero_origin whole.3 in
    let none : (known c.split-two.new.seat).own ≡ [] = search rules in
    let none' : (known c.split-two.result).own ≡ [] = search rules in
    let really = sym ends.2 ∙ c.if-counted.true in
    let took = both_all times (known c.split-two.new.seat) v (known c.split-two.result) w ends.0 ends.1 really ends.3.1 ends.4.1 in
    let first : event_count v.own ≡ times = taken_events (known c.split-two.new.seat) v times none took.0 in
    let second : event_count w.own ≡ times = taken_events (known c.split-two.result) w times none' took.1 in
    let turns : length whole.1 ≡ times + times = two_length whole.1 v w (known c.join.new.seat) p q e has whole.4
    ∙ both_ended times (known c.split-two.new.seat) v (known c.split-two.result) w ends.0 ends.1 none none' really ends.3.1 ends.4.1 in
    let small : times + times < 2 ^ 64 = omega (arith, turns, whole.4.within) in
    two_total c.in-Whole.counter whole.1 v w (known c.join.new.seat) p q e has whole.4 counted ∙ ap (λ z. z % 2 ^ 64) (λ i. first i + second i) ∙ mod-eq_of_lt small

pub returns-in-Whole-clause-within : goal.returns-in-Whole-clause-within
returns-in-Whole-clause-within g c =
    let v : View ℕ ℕ = known c.in_two-counted.new.one in
    let w : View ℕ ℕ = known c.in_two-counted.new.two in
    let ends = c.in_two-counted.ensures.ends in
    let has : HasAll (known c.join.new.seat) = all_again (known c.in-Ok.one) (known c.split-two.new.seat) (known c.split-two.result) v w (known c.join.new.seat) (search rules) c.split-two.ensures.numbers ends.3.0 ends.4.0 c.join.ensures.numbers in
    let p : SameSeat (left_of (newborn 0)) v = search rules in
    let q : SameSeat (right_of (newborn 0)) w = search rules in
    let e : known c.join.new.seat ≡ both_of v w = search rules in
    let whole = c.close.ensures.whole c.in-Whole.counter c.in-Whole.is in
    let none : (known c.split-two.new.seat).own ≡ [] = search rules in
    let none' : (known c.split-two.result).own ≡ [] = search rules in
    let turns = two_length whole.1 v w (known c.join.new.seat) p q e has whole.4
    ∙ both_ended c.args.times (known c.split-two.new.seat) v (known c.split-two.result) w ends.0 ends.1 none none' (sym ends.2 ∙ c.if-counted.true) ends.3.1 ends.4.1 in
    omega (arith, turns, whole.4.within)

pub returns-in-Whole-2-clause-spent : goal.returns-in-Whole-2-clause-spent
returns-in-Whole-2-clause-spent g c = λ is.
    let v : View ℕ ℕ = known c.in_two-counted.new.one in
    let w : View ℕ ℕ = known c.in_two-counted.new.two in
    let ends = c.in_two-counted.ensures.ends in
    let has : HasAll (known c.join.new.seat) = all_again (known c.in-Ok.one) (known c.split-two.new.seat) (known c.split-two.result) v w (known c.join.new.seat) (search rules) c.split-two.ensures.numbers ends.3.0 ends.4.0 c.join.ensures.numbers in
    let p : SameSeat (left_of (newborn 0)) v = search rules in
    let q : SameSeat (right_of (newborn 0)) w = search rules in
    let e : known c.join.new.seat ≡ both_of v w = search rules in
    let whole = c.close.ensures.whole c.in-Whole-2.field-0 c.in-Whole-2.is in
    let none : (known c.split-two.new.seat).own ≡ [] = search rules in
    let none' : (known c.split-two.result).own ≡ [] = search rules in
    let turns = two_length whole.1 v w (known c.join.new.seat) p q e has whole.4 in
    let less = one_refused c.args.times (known c.split-two.new.seat) v (known c.split-two.result) w ends.0 ends.1 none none' (sym ends.2 ∙ c.if-counted.false) ends.3.1 ends.4.1 in
    let both : (known c.join.new.seat).spent ≡ v.spent + w.spent = ap (λ (z : View ℕ ℕ). z.spent) e in
    let over : TICKETS ≤ length whole.1 = whole.4.over (omega (arith, both, less.1)) in
    omega (arith, turns, less.0, over)
