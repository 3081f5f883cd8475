-- Plans, and what they leave.
use Rattle.std.proofs.Common.{◌≡◌, ℕ, ◌+◌, ◌<◌, ◌≤◌, length, List, [], ◌∷◌, ◌++◌, length-append, refl, sym, ap, ◌∙◌, subst, arith}
use Rattle.std.specs.Prelude.{Bool, true, false, nat_lt, Some, None, if◌then◌else◌, vec_capacity}
use Rattle.std.specs.declared.vec.Vec.{Vec}
use Rattle.std.specs.declared.alloc.Global.{Global}
use Rattle.std.specs.Option.{option_or}
use Rattle.std.proofs.lemmas.Bool.Decides.{nat_tests}
use Rattle.std.proofs.lemmas.List.{length-map, map-append}
use Rattle.policy_model.specs.declared.limits.TheConstants.{MOST_RULES}
use Rattle.policy_model.specs.Rules.{Row}
use Rattle.policy_model.specs.Contents.{NewRow, add, remove, enable, disable, expire}
use Rattle.policy_model.specs.Changes.{rows_after, touched_by}
use Rattle.policy_model.specs.Tables.{table_full}
use Rattle.policy_model.specs.Refusals.{full_rows, least_id, refused_by_rows, refused_by_count}
use Rattle.rule_values.specs.declared.rule.Rule.{Rule}
use Rattle.authority_table.specs.declared.tally.Tally.{Tally}
use Rattle.authority_table.specs.declared.touched.Touched.{Touched}
use Rattle.rule_values.specs.declared.selector.Selector as code
use Rattle.rule_values.specs.declared.row_change.RowChange.{RowChange}
use Rattle.rule_values.specs.declared.row_change.RowChange.TheVariants.{Remove, Enable, Disable, Expire}
use Rattle.held_rules.specs.declared.rooms.Room.{Room}
use Rattle.authority_table.specs.declared.prepared.Step.TheVariants.{Insert, Change}
use Rattle.authority_table.specs.declared.prepared.Prepared.{Prepared}
use Rattle.rule_values.specs.Rule.{row_of, rows_of}
use Rattle.held_rules.specs.Rooms.{room_for}
use Rattle.authority_table.specs.Held.{IsHeld}
use Rattle.authority_table.specs.Touched.{IsTouched}
use Rattle.authority_table.specs.Tally.{IsTally}
use Rattle.rule_values.specs.Selector.{selector_of, content_by}
use Rattle.authority_table.specs.Prepared.{Takes, stepped, IsPlanFor, planned, IsPlan}
use Rattle.held_rules.specs.Spare.{HasRoom, IsSpare}
use Rattle.held_rules.specs.Spans.{AreRising}
use Rattle.rule_values.specs.Label.{label_bytes}
use Rattle.list_marks.specs.Marks.{mark_of}
use Rattle.held_rules.specs.Marks.{row_mark, AreMarks}
use Rattle.authority_table.proofs.RoomFor.{room_grows, room_holds}
use Rattle.authority_table.proofs.StillRising.{rising_after}
use Rattle.authority_table.proofs.OneMoreMark.{marks_more}
use Rattle.authority_table.proofs.TallyGoesOn.{none_full, rows_by, touched_rows}

-- a full table refuses one more, and no other does
pub full_refuses : (rules : List Rule) (n : NewRow) → length rules ≡ MOST_RULES → Some table_full ≡ refused_by_rows (add n) (rows_of rules)
full_refuses rules n e =
    let lt : nat_lt (length (rows_of rules)) MOST_RULES ≡ false = grind (arith, nat_tests, e, length-map rules row_of) in
    ap (λ b. if b then None else Some table_full) (sym lt)

pub room_takes : (rules : List Rule) (n : NewRow) → length rules < MOST_RULES → None ≡ refused_by_rows (add n) (rows_of rules)
room_takes rules n h =
    let lt : nat_lt (length (rows_of rules)) MOST_RULES ≡ true = grind (arith, nat_tests, h, length-map rules row_of) in
    ap (λ b. if b then None else Some table_full) (sym lt)

-- a rule that is added
pub plan_of_insert : (rules : List Rule) (rule held : Rule) (room : Room) (t : Touched) → held ≡ rule → HasRoom (length rules) room → IsTouched (row_of rule ∷ []) t →
    IsPlan (record { step = Insert held room; touched = t; count = 1 }) (rows_of rules) (rows_of rules ++ row_of rule ∷ []) (row_of rule ∷ [])
plan_of_insert rules rule held room t is h touched = record {
  fits = subst (λ n. HasRoom n room) (sym (length-map rules row_of)) h;
  leaves = ap (λ (r : Rule). rows_of rules ++ row_of r ∷ []) is;
  count = refl;
  first_in = touched;
}

content_same : (s t : code.Selector) (c : RowChange) → selector_of t ≡ selector_of s → content_by t c ≡ content_by s c
content_same s t Remove e = ap remove e
content_same s t Enable e = ap enable e
content_same s t Disable e = ap disable e
content_same s t (Expire end) e = ap (λ x. expire x end) e

-- rules that are changed
pub plan_of_change : (n : ℕ) (s t : code.Selector) (c : RowChange) (rows : List Row) (tally : Tally) → selector_of t ≡ selector_of s → IsTally (selector_of s) rows tally →
    option_or (refused_by_rows (content_by s c) rows) (refused_by_count (content_by s c) rows) ≡ None →
    IsPlan (record { step = Change t c; touched = tally.touched; count = tally.count }) rows (rows_after n (content_by s c) rows) (touched_by n (content_by s c) rows)
plan_of_change n s t c rows tally same h passes = record {
  fits = subst (λ x. least_id (full_rows x rows) ≡ None) (sym (content_same s t c same)) (none_full (content_by s c) rows passes);
  leaves = ap (λ x. rows_after 0 x rows) (content_same s t c same) ∙ rows_by n s c rows;
  count = h.count ∙ ap length (touched_rows n s c rows);
  first_in = subst (λ l. IsTouched l tally.touched) (touched_rows n s c rows) h.touched;
}

-- what the steps need and leave
pub insert_fits : (p : Prepared) (rule : Rule) (room : Room) (rules : List Rule) → p.step ≡ Insert rule room → IsPlanFor p (rows_of rules) → HasRoom (length rules) room
insert_fits p rule room rules e h = subst (λ n. HasRoom n room) (length-map rules row_of) (subst (λ s. Takes s (rows_of rules)) e h)

pub insert_leaves : (p : Prepared) (rule : Rule) (room : Room) (old new : List Rule) → p.step ≡ Insert rule room → new ≡ old ++ rule ∷ [] → rows_of new ≡ planned p (rows_of old)
insert_leaves p rule room old new e is = ap rows_of is ∙ (map-append row_of old (rule ∷ []) ∙ ap (λ s. stepped s (rows_of old)) (sym e))

pub change_fits : (p : Prepared) (s : code.Selector) (c : RowChange) (rows : List Row) → p.step ≡ Change s c → IsPlanFor p rows → least_id (full_rows (content_by s c) rows) ≡ None
change_fits p s c rows e h = subst (λ x. Takes x rows) e h

pub change_leaves : (p : Prepared) (s : code.Selector) (c : RowChange) (old : List Row) (new : List Row) → p.step ≡ Change s c → new ≡ rows_after 0 (content_by s c) old → new ≡ planned p old
change_leaves p s c old new e is = is ∙ ap (λ x. stepped x old) (sym e)

as_many : (rules : List Rule) (marks : List ℕ) → AreMarks (rows_of rules) marks → length marks ≡ length rules
as_many rules marks marked = ap length marked ∙ (length-map (rows_of rules) row_mark ∙ length-map rules row_of)

-- what always holds, after one more rule came
pub held_more : (old new : Vec Rule Global) (marks after : Vec ℕ Global) (rising rises : Bool) (rule : Rule) (mark : ℕ) → IsHeld old marks rising → length old.items < MOST_RULES →
    new.items ≡ old.items ++ rule ∷ [] → room_for (length new.items) ≤ vec_capacity new → mark ≡ mark_of (label_bytes rule.label) → after.items ≡ marks.items ++ mark ∷ [] →
    room_for (length after.items) ≤ vec_capacity after → (rises ≡ true → AreRising (old.items ++ rule ∷ [])) → IsHeld new after rises
held_more old new marks after rising rises rule mark h few is held e more marks_held up =
    let one : length new.items ≡ length old.items + 1 = ap length is ∙ length-append old.items (rule ∷ []) in
    let marked : AreMarks (rows_of new.items) after.items = marks_more old.items new.items rule marks.items after.items mark h.marked e is more in
    record {
      few = omega (arith, few, one);
      held = held;
      marks_held = subst (λ n. room_for n ≤ vec_capacity after) (as_many new.items after.items marked) marks_held;
      marked = marked;
      rise = λ r. subst AreRising (sym is) (up r);
    }

-- the marks have the memory that so many rules have at least
pub marks_room : (rules : Vec Rule Global) (marks : Vec ℕ Global) (rising : Bool) → IsHeld rules marks rising → room_for (length marks.items) ≤ vec_capacity marks
marks_room rules marks rising h = subst (λ n. room_for n ≤ vec_capacity marks) (sym (as_many rules.items marks.items h.marked)) h.marks_held

pub marks_fit : (rules : Vec Rule Global) (marks : Vec ℕ Global) (rising : Bool) → IsHeld rules marks rising → length rules.items ≤ vec_capacity marks
marks_fit rules marks rising h = omega (arith, room_holds (length rules.items) h.few, h.marks_held)

pub marks_few : (rules : Vec Rule Global) (marks : Vec ℕ Global) (rising : Bool) → IsHeld rules marks rising → (room : Room) → HasRoom (length rules.items) room → length marks.items < MOST_RULES
marks_few rules marks rising h room has = omega (arith, has.few, as_many rules.items marks.items h.marked)

pub marks_spare : (rules : Vec Rule Global) (marks : Vec ℕ Global) (rising : Bool) → IsHeld rules marks rising → (room : Room) → HasRoom (length rules.items) room → IsSpare (length marks.items) room.marks
marks_spare rules marks rising h room has = subst (λ n. IsSpare n room.marks) (sym (as_many rules.items marks.items h.marked)) has.marks

-- and after rules were changed
pub held_after : (s : code.Selector) (c : RowChange) (old new : Vec Rule Global) (marks after : Vec ℕ Global) (rising : Bool) → IsHeld old marks rising →
    rows_of new.items ≡ rows_after 0 (content_by s c) (rows_of old.items) → length new.items ≤ length old.items → vec_capacity new ≡ vec_capacity old →
    AreMarks (rows_of new.items) after.items → vec_capacity after ≡ vec_capacity marks → IsHeld new after rising
held_after s c old new marks after rising h rows fewer same marked marks_same =
    let less : room_for (length new.items) ≤ room_for (length old.items) = room_grows (length new.items) (length old.items) fewer in
    record {
      few = omega (arith, h.few, fewer);
      held = omega (arith, h.held, less, same);
      marks_held = omega (arith, h.marks_held, less, marks_same);
      marked = marked;
      rise = λ r. rising_after s c old.items new.items rows (h.rise r);
    }
