-- Two counts of edits tell whether an outcome has moved.
use Rattle.std.proofs.Common.{◌≡◌, ℕ, suc, ◌+◌, List, [], ◌∷◌, ◌++◌, length, take, drop, refl, sym, ap, ◌∙◌, arith}
use Rattle.std.specs.Prelude.{Bool, true, false, cond, not, ◌&&◌, ◌||◌, nat_lt}
use Rattle.std.specs.List.{filter, list_any}
use Rattle.std.proofs.lemmas.Bool.{lt-ltb}
use Rattle.std.proofs.lemmas.Bool.Decides.{nat_tests}
use Rattle.std.proofs.lemmas.List.{length-append}
use Rattle.std.proofs.lemmas.List.Elements.{filter-append}
use Rattle.policy_model.specs.Rules.{Row, Kind, same_kind, rank_of, is_before}
use Rattle.policy_model.specs.Outcomes.{Outcome, governed, default}
use Rattle.policy_model.specs.Tables.{Tables}
use Rattle.policy_model.specs.History.{Event, Opening, tables_step, tables_after}
use Rattle.object_model.specs.Objects.{rests_on, touches, is_governed}
use Rattle.object_model.specs.Past.{touched_step, touched_after, touched_since, mark_of}
use Rattle.object_model.specs.DropLaws.{MovedByCounts}
use Rattle.object_model.proofs.PastLaws.{cut}

pub touched_joined : (a b : List Event) (t : Tables) → touched_after (a ++ b) t ≡ touched_after a t ++ touched_after b (tables_after a t)
touched_joined [] b t = refl
touched_joined (e ∷ a) b t = ap (λ r. touched_step e t ∷ r) (touched_joined a b (tables_step e t))

-- the mark of place k, and the events that touched the kind since
pub mark_cut : (o : Opening) (h : List Event) (k : ℕ) (kind : Kind) → mark_of o h kind ≡ mark_of o (take k h) kind + length (filter (touches kind) (touched_since o h k))
mark_cut o h k kind =
    let before : List (List Row) = touched_after (take k h) o.tables in
    let joined : length (filter (touches kind) (touched_after h o.tables)) ≡ length (filter (touches kind) before) + length (filter (touches kind) (touched_since o h k)) =
    ap (λ x. length (filter (touches kind) (touched_after x o.tables))) (sym (cut k h))
    ∙ ap (λ l. length (filter (touches kind) l)) (touched_joined (take k h) (drop k h) o.tables)
    ∙ ap length (filter-append (touches kind) before (touched_since o h k))
    ∙ length-append (filter (touches kind) before) (filter (touches kind) (touched_since o h k)) in
    omega (arith, joined)

some_of : (x : List Row) (xs : List (List Row)) (b : Bool) → nat_lt 0 (length (cond b (x ∷ xs) xs)) ≡ (b || nat_lt 0 (length xs))
some_of x xs true = lt-ltb 0 (suc (length xs)) (omega arith)
some_of x xs false = refl

-- some event touches the kind
pub some_late : (kind : Kind) (late : List (List Row)) → nat_lt 0 (length (filter (touches kind) late)) ≡ list_any (touches kind) late
some_late kind [] = refl
some_late kind (t ∷ late) = some_of t (filter (touches kind) late) (touches kind t) ∙ ap (λ b. touches kind t || b) (some_late kind late)

-- a weaker test takes up a stronger one
either_one : (a b c d : Bool) → (a || c) ≡ c → (b || d) ≡ d → ((a || b) || (c || d)) ≡ (c || d)
either_one true b true d e f = refl
either_one true b false d e f = grind (arith, e)
either_one false true c true e f = grind (arith)
either_one false true true false e f = refl
either_one false true false false e f = grind (arith, f)
either_one false false c d e f = refl

weaker_any : {X : Type 0} (p q : X → Bool) → ((x : X) → (p x || q x) ≡ q x) → (xs : List X) → (list_any p xs || list_any q xs) ≡ list_any q xs
weaker_any p q weaker [] = refl
weaker_any p q weaker (x ∷ xs) = either_one (p x) (list_any p xs) (q x) (list_any q xs) (weaker x) (weaker_any p q weaker xs)

and_weaker : (a b : Bool) → ((a && b) || a) ≡ a
and_weaker true true = refl
and_weaker true false = refl
and_weaker false b = refl

or_same : (a : Bool) → (a || a) ≡ a
or_same true = refl
or_same false = refl

or_false : (a : Bool) → (a || false) ≡ a
or_false true = refl
or_false false = refl

moved_cases : (kind : Kind) (o : Outcome) (late : List (List Row)) → (list_any (list_any (rests_on kind o)) late || (is_governed o && nat_lt 0 (length (filter (touches kind) late)))) ≡ nat_lt 0 (length (filter (touches kind) late))
moved_cases kind (governed rank allow label inhibit until) late =
    ap (λ b. list_any (list_any (rests_on kind (governed rank allow label inhibit until))) late || b) (some_late kind late)
    ∙ weaker_any (list_any (rests_on kind (governed rank allow label inhibit until))) (touches kind)
    (λ t. weaker_any (rests_on kind (governed rank allow label inhibit until)) (λ r. same_kind r.kind kind) (λ r. and_weaker (same_kind r.kind kind) (not (is_before rank (rank_of r)))) t) late
    ∙ sym (some_late kind late)
moved_cases kind (default latent label until) late = or_false (list_any (touches kind) late) ∙ sym (some_late kind late)

later_count : (a b n : ℕ) → b ≡ a + n → nat_lt 0 n ≡ nat_lt a b
later_count a b n e = grind (arith, nat_tests, e)

pub moved_by_counts : MovedByCounts
moved_by_counts o h k e =
    moved_cases e.kind e.outcome (touched_since o h k)
    ∙ later_count (mark_of o (take k h) e.kind) (mark_of o h e.kind) (length (filter (touches e.kind) (touched_since o h k))) (mark_cut o h k e.kind)
