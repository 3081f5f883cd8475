-- Where no edit failed, edits have one reply each.
use Rattle.std.proofs.Common.{◌≡◌, ◌≤◌, ◌<◌, arith, ℕ, ◌+◌, List, [], ◌∷◌, ◌++◌, length, true, Result, Ok, Err, inl, inr, refl, sym, ◌∙◌, ap, subst, length-append}
use Rattle.std.specs.Prelude.{min, ◌-◌, ◌^◌}
use Rattle.std.specs.List.{filter}
use Rattle.std.proofs.lemmas.List.Elements.{filter-append}
use Rattle.gk_io.specs.Faults.{CanRise}
use Rattle.req_tree.specs.Tree.{Tree}
use Rattle.req_tokens.specs.declared.fault.TextFault.{TextFault}
use Rattle.policy_model.specs.Contents.{Content, Edit}
use Rattle.policy_model.specs.History.{Event, edit, edit_failed, Opening}
use Rattle.line_model.specs.LineFaults.{LineFault, bad_requirement, line_fault_text}
use Rattle.line_model.specs.Fronts.{Front}
use Rattle.line_model.specs.Contents.{Worded, whole, adds}
use Rattle.line_model.specs.Edits.{Edited, made, Makes, keyed, IsEdit, by_words, edit_at, IsEditLine}
use Rattle.line_laws.specs.Laws.{LineAsksForOneEdit, EditHasNoFault}
use Rattle.desk_state.specs.Failures.{is_failed, failures, Kept, Shows}
use Rattle.table_commands.specs.Replies.{IsAnswered, IsUnkept, EditReplies, EditsReply, is_refusal}
use Rattle.table_commands.specs.EditSays.{LineReplies}
use Rattle.run_commands.specs.Laws.{IsSteady}

-- one event more
count_more : (h : List Event) (e : Event) → failures (h ++ e ∷ []) ≡ failures h + length (filter is_failed (e ∷ []))
count_more h e = ap length (filter-append is_failed h (e ∷ [])) ∙ length-append (filter is_failed h) (filter is_failed (e ∷ []))

-- a steady count shows that none failed
pub none_failed : (kept : Kept) (after : List Event) → IsSteady kept → Shows [] after kept.before kept.counted → failures after ≤ 0
none_failed kept after steady shows =
    let low : kept.counted < min (kept.before + 1) (2 ^ 64 - 1) = omega (arith, steady) in
    let can : CanRise kept.counted = omega (arith, low) in
    let few : kept.before + failures after ≤ kept.counted + 0 = shows can in
    omega (arith, low, few)

-- an edit that failed is one more
unkept_more : (o : Opening) (h : List Event) (e : Edit) (r : List ℕ) (after : List Event) → IsUnkept o h e r after → failures after ≡ failures h + 1
unkept_more o h e r after is = ap failures is.after_is ∙ count_more h (edit_failed e)

answered_same : (o : Opening) (h : List Event) (e : Edit) (r : List ℕ) (after : List Event) → IsAnswered o h e r after → failures after ≡ failures h + 0
answered_same o h e r after is = ap failures is.after_is ∙ count_more h (edit e)

reply_grows : (o : Opening) (h : List Event) (e : Edit) (r : List ℕ) (after : List Event) → EditReplies o h e r after → failures h ≤ failures after
reply_grows o h e r after (inl is) = let same = answered_same o h e r after is in omega (arith, same)
reply_grows o h e r after (inr is) = let more = unkept_more o h e r after is in omega (arith, more)

replies_grow : (o : Opening) (h : List Event) (es : List Edit) (rs : List (List ℕ)) (after : List Event) → EditsReply o h es rs after → failures h ≤ failures after
replies_grow o h [] [] after same = let equal = ap failures same in omega (arith, equal)
replies_grow o h [] (r ∷ rs) after all = absurd all
replies_grow o h (e ∷ es) [] after all = absurd all
replies_grow o h (e ∷ es) (r ∷ rs) after all =
    let one = reply_grows o h e r all.0 all.1 in
    let rest = replies_grow o all.0 es rs after all.2 in
    omega (arith, one, rest)

-- one that didn't was answered
answered : (o : Opening) (h : List Event) (e : Edit) (r : List ℕ) (after : List Event) → EditReplies o h e r after → failures after ≤ failures h → IsAnswered o h e r after
answered o h e r after (inl is) few = is
answered o h e r after (inr is) few = let more = unkept_more o h e r after is in absurd (omega (arith, more, few))

one_reply : (o : Opening) (h : List Event) (e : Edit) (r s : List ℕ) (after other : List Event) → EditReplies o h e r after → EditReplies o h e s other → failures after ≤ failures h → failures other ≤ failures h → r ≡ s
one_reply o h e r s after other a b few less = (answered o h e r after a few).reply_is ∙ sym (answered o h e s other b less).reply_is

-- and so it is with edits one after another
pub one_list : (o : Opening) (h : List Event) (es : List Edit) (rs ss : List (List ℕ)) (after other : List Event) → EditsReply o h es rs after → EditsReply o h es ss other → failures after ≤ failures h → failures other ≤ failures h → rs ≡ ss
one_list o h [] [] [] after other a b few less = refl
one_list o h [] [] (s ∷ ss) after other a b few less = absurd b
one_list o h [] (r ∷ rs) ss after other a b few less = absurd a
one_list o h (e ∷ es) [] ss after other a b few less = absurd a
one_list o h (e ∷ es) (r ∷ rs) [] after other a b few less = absurd b
one_list o h (e ∷ es) (r ∷ rs) (s ∷ ss) after other a b few less =
    let up : failures h ≤ failures a.0 = reply_grows o h e r a.0 a.1 in
    let on : failures h ≤ failures b.0 = reply_grows o h e s b.0 b.1 in
    let rest = replies_grow o a.0 es rs after a.2 in
    let more = replies_grow o b.0 es ss other b.2 in
    let first = answered o h e r a.0 a.1 (omega (arith, rest, few)) in
    let second = answered o h e s b.0 b.1 (omega (arith, more, less)) in
    let same : b.0 ≡ a.0 = second.after_is ∙ sym first.after_is in
    let behind = subst (λ (mid : List Event). EditsReply o mid es ss other) same b.2 in
    pair (first.reply_is ∙ sym second.reply_is) (one_list o a.0 es rs ss after other a.2 behind (omega (arith, few, up)) (omega (arith, less, up)))
  where
    pair : {x y : List ℕ} {xs ys : List (List ℕ)} → x ≡ y → xs ≡ ys → x ∷ xs ≡ y ∷ ys
    pair e f = rw (e, f) refl

-- the faults of a line are refusals alike

is_bad_text : (f : LineFault) (text : TextFault) → f ≡ bad_requirement text → is_refusal (line_fault_text f) ≡ true
is_bad_text f text is = subst (λ (g : LineFault). is_refusal (line_fault_text g) ≡ true) (sym is) refl

text_fault : (front : Front) (text : List ℕ) (make : Content → Edit) (f : LineFault) (reads : Result Tree TextFault) → ◌≡◌ {A = Result Edit LineFault} (Err f) (made make front text reads) → is_refusal (line_fault_text f) ≡ true
text_fault front text make f (Ok tree) e = cc
text_fault front text make f (Err fault) e = let same : f ≡ bad_requirement fault = cc in is_bad_text f fault same

made_fault : (make : Content → Edit) (worded : Worded) (f : LineFault) → Makes make worded (Err f) → is_refusal (line_fault_text f) ≡ true
made_fault make (whole content) f e = cc
made_fault make (adds front text) f e = text_fault front text make f e.0 e.2

one_fault : (w : Result Edited LineFault) (f g : LineFault) → IsEdit w (Err f) → IsEdit w (Err g) → is_refusal (line_fault_text f) ≡ is_refusal (line_fault_text g)
one_fault (Err fault) f g a b = let same : f ≡ g = cc in ap (λ (x : LineFault). is_refusal (line_fault_text x)) same
one_fault (Ok edited) f g a b = made_fault (keyed edited.key) edited.worded f a ∙ sym (made_fault (keyed edited.key) edited.worded g b)

-- what is said of a line is a refusal or isn't
pub one_line : LineAsksForOneEdit → EditHasNoFault → (o : Opening) (line : List ℕ) (x y : Result Edit LineFault) (r s : List ℕ) (after other : List Event) → IsEditLine line x → IsEditLine line y
    → LineReplies o [] after x r → LineReplies o [] other y s → failures after ≤ 0 → failures other ≤ 0 → is_refusal r ≡ is_refusal s
one_line one apart o line (Ok x) (Ok y) r s after other asks and a b few less =
    ap is_refusal (one_reply o [] y r s after other (subst (λ (e : Edit). EditReplies o [] e r after) (one line x y asks and) a) b few less)
one_line one apart o line (Ok x) (Err g) r s after other asks and a b few less = absurd (apart line x g asks and)
one_line one apart o line (Err f) (Ok y) r s after other asks and a b few less = absurd (apart line y f and asks)
one_line one apart o line (Err f) (Err g) r s after other asks and a b few less =
    ap is_refusal a.0 ∙ one_fault (by_words edit_at line) f g asks and ∙ sym (ap is_refusal b.0)
