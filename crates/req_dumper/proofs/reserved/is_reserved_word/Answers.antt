use Rattle.std.proofs.Common.{◌≡◌, Bool, ◌||◌, not, sym, ap, ◌∙◌, arith}
use Rattle.req_dumper.proofs.WordLengths.{free_of_length, free_by_length}
use Rattle.req_dumper.proofs.reserved.is_reserved_word.Goals as goal

two : (a b x y : Bool) → a ≡ x → b ≡ y → not (x || y) ≡ not (a || b)
two a b x y e h = ap (λ (z : Bool). not (z || y)) (sym e) ∙ ap (λ (z : Bool). not (a || z)) (sym h)

pub returns-then-size-eq2 : goal.returns-then-size-eq2
returns-then-size-eq2 c = free_of_length c.args.bytes.now 2 c.if-size-eq2.true ∙ ap not (sym c.is_same.ensures)

pub returns-then-size-eq3 : goal.returns-then-size-eq3
returns-then-size-eq3 c = free_of_length c.args.bytes.now 3 c.if-size-eq3.true ∙ ap not (sym c.is_same-then-size-eq3.ensures)

pub returns-then-size-eq4 : goal.returns-then-size-eq4
returns-then-size-eq4 c = free_of_length c.args.bytes.now 4 c.if-size-eq4.true ∙ ap not (sym c.is_one_of_four.ensures)

pub returns-then-size-eq5 : goal.returns-then-size-eq5
returns-then-size-eq5 c = free_of_length c.args.bytes.now 5 c.if-size-eq5.true ∙ ap not (sym c.is_one_of_five.ensures)

pub returns-then-size-eq6 : goal.returns-then-size-eq6
returns-then-size-eq6 c = free_of_length c.args.bytes.now 6 c.if-size-eq6.true ∙ ap not (sym c.is_one_of_six.ensures)

pub returns-then-size-eq7 : goal.returns-then-size-eq7
returns-then-size-eq7 c = free_of_length c.args.bytes.now 7 c.if-size-eq7.true ∙ ap not (sym c.is_one_of_seven.ensures)

pub returns-then-size-eq8 : goal.returns-then-size-eq8
returns-then-size-eq8 c = free_of_length c.args.bytes.now 8 c.if-size-eq8.true ∙ ap not (sym c.is_same-then-size-eq8.ensures)

pub returns-then-size-eq9 : goal.returns-then-size-eq9
returns-then-size-eq9 c = free_of_length c.args.bytes.now 9 c.if-size-eq9.true ∙ ap not (sym c.is_same-then-size-eq9.ensures)

pub returns-then-size-eq10 : goal.returns-then-size-eq10
returns-then-size-eq10 c = free_of_length c.args.bytes.now 10 c.if-size-eq10.true ∙ two _ _ _ _ c.is_same-then-size-eq10.ensures c.is_same-then-size-eq10-2.ensures

pub returns-then-size-eq11 : goal.returns-then-size-eq11
returns-then-size-eq11 c = free_of_length c.args.bytes.now 11 c.if-size-eq11.true ∙ two _ _ _ _ c.is_same-then-size-eq11.ensures c.is_same-then-size-eq11-2.ensures

pub returns-else-size-eq11 : goal.returns-else-size-eq11
returns-else-size-eq11 c =
    let two = c.if-size-eq2.false in
    let three = c.if-size-eq3.false in
    let four = c.if-size-eq4.false in
    let five = c.if-size-eq5.false in
    let six = c.if-size-eq6.false in
    let seven = c.if-size-eq7.false in
    let eight = c.if-size-eq8.false in
    let nine = c.if-size-eq9.false in
    let ten = c.if-size-eq10.false in
    let eleven = c.if-size-eq11.false in
    free_by_length c.args.bytes.now (λ h. omega (arith, h.0, h.1, two, three, four, five, six, seven, eight, nine, ten, eleven))
