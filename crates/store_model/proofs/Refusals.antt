-- A store is refused at one place, and only where it isn't accepted.
use Rattle.std.proofs.Common.{◌≡◌, ◌+◌, ◌<◌, ℤ, List, [], ◌∷◌, ◌++◌, length, get_or, refl, sym, ap, ◌∙◌, subst, arith, inl, inr, append_assoc, append-nil}
use Rattle.std.specs.Prelude.{All, AllPairs, pos, ◌<ℤ◌, ◌≢◌}
use Rattle.std.proofs.lemmas.Bool.{cases_order}
use Rattle.std.proofs.lemmas.List.{length-append, get_or_append_left}
use Rattle.std.proofs.lemmas.List.Elements.{All-nil}
use Rattle.store_model.specs.Raw.{RawReceipt, RawRule, RawTables, StoreRow, format_row, switch_row, receipt_row, rule_row}
use Rattle.store_model.specs.Accepted.{IsStoredReceipt, AcceptsReceipts, IsStoredRule, AcceptsRules, MeetsRules}
use Rattle.store_model.specs.Upgraded.{upgraded}
use Rattle.store_model.specs.Refused.{IsFirstBad, BreaksRulesAt, IsRefusedAt}
use Rattle.store_model.specs.Laws.{AcceptedIsNotRefused, RefusedOnce, AcceptedOrRefused}

-- what is good stays so without its end
abbrev IsClosed : {X : Type 0} → (List X → Type 0) → Type 0
IsClosed {X} Good = (xs ys : List X) → Good (xs ++ ys) → Good xs

front_all : {X : Type 0} (P : X → Type 0) (xs ys : List X) → All P (xs ++ ys) → All P xs
front_all P xs ys h k d lt = subst P (get_or_append_left xs ys d k lt) (h k d (omega (arith, lt, length-append xs ys)))

front_pairs : {X : Type 0} (R : X → X → Type 0) (xs ys : List X) → AllPairs R (xs ++ ys) → AllPairs R xs
front_pairs R xs ys h i j d lt in' =
    subst (λ a. R a (get_or xs j d)) (get_or_append_left xs ys d i (omega (arith, lt, in')))
    (subst (λ b. R (get_or (xs ++ ys) i d) b) (get_or_append_left xs ys d j in') (h i j d lt (omega (arith, in', length-append xs ys))))

front_receipts : IsClosed AcceptsReceipts
front_receipts xs ys h = record {
  numbered = λ k d lt. subst (λ (r : RawReceipt). r.num ≡ pos (k + 1)) (get_or_append_left xs ys d k lt) (h.numbered k d (omega (arith, lt, length-append xs ys)));
  most = omega (arith, h.most, length-append xs ys);
  each = front_all IsStoredReceipt xs ys h.each;
  keys = front_pairs (λ (a b : RawReceipt). a.key ≢ b.key) xs ys h.keys;
}

front_rules : (receipts : List RawReceipt) → IsClosed (AcceptsRules receipts)
front_rules receipts xs ys h = record {
  rising = front_pairs (λ (a b : RawRule). a.id <ℤ b.id) xs ys h.rising;
  most = omega (arith, h.most, length-append xs ys);
  each = front_all (IsStoredRule receipts) xs ys h.each;
}

-- where there is a first bad one, the whole is bad
whole_bad : {X : Type 0} (Good : List X → Type 0) (xs : List X) (x : X) → IsClosed Good → IsFirstBad Good xs x → Good xs → ⊥
whole_bad Good xs x closed f h =
    f.bad (closed (f.before ++ x ∷ []) f.behind (subst Good (f.split ∙ sym (append_assoc f.before (x ∷ []) f.behind)) h))

-- two fronts of one list: the shorter with its next element is a front of the longer
next_front : {X : Type 0} (us vs : List X) (a b : X) (more rest : List X) → us ++ a ∷ more ≡ vs ++ b ∷ rest → length us < length vs → (tail : List X) × (vs ≡ (us ++ a ∷ []) ++ tail)
next_front [] [] a b more rest e lt = absurd (omega (arith, lt))
next_front [] (y ∷ vs) a b more rest e lt = (vs, let head : a ≡ y = cc in ap (λ z. z ∷ vs) (sym head))
next_front (x ∷ us) [] a b more rest e lt = absurd (omega (arith, lt))
next_front (x ∷ us) (y ∷ vs) a b more rest e lt =
    let head : x ≡ y = cc in
    let tail : us ++ a ∷ more ≡ vs ++ b ∷ rest = cc in
    let on = next_front us vs a b more rest tail (omega (arith, lt)) in
    (on.0, ap (λ z. z ∷ vs) (sym head) ∙ ap (λ l. x ∷ l) on.1)

same_next : {X : Type 0} (us vs : List X) (a b : X) (more rest : List X) → us ++ a ∷ more ≡ vs ++ b ∷ rest → length us ≡ length vs → a ≡ b
same_next [] [] a b more rest e same = cc
same_next [] (y ∷ vs) a b more rest e same = absurd (omega (arith, same))
same_next (x ∷ us) [] a b more rest e same = absurd (omega (arith, same))
same_next (x ∷ us) (y ∷ vs) a b more rest e same =
    let tail : us ++ a ∷ more ≡ vs ++ b ∷ rest = cc in
    same_next us vs a b more rest tail (omega (arith, same))

not_sooner : {X : Type 0} (Good : List X → Type 0) (xs : List X) (x y : X) → IsClosed Good → (f : IsFirstBad Good xs x) (g : IsFirstBad Good xs y) → length f.before < length g.before → ⊥
not_sooner Good xs x y closed f g lt =
    let next = next_front f.before g.before x y f.behind g.behind (sym f.split ∙ g.split) lt in
    f.bad (closed (f.before ++ x ∷ []) next.0 (subst Good next.1 g.good))

one_bad : {X : Type 0} (Good : List X → Type 0) (xs : List X) (x y : X) → IsClosed Good → IsFirstBad Good xs x → IsFirstBad Good xs y → x ≡ y
one_bad Good xs x y closed f g =
    elim (cases_order (length f.before) (length g.before)) as (λ _. x ≡ y) [
      | inl same ↦ same_next f.before g.before x y f.behind g.behind (sym f.split ∙ g.split) same
      | inr other ↦ elim other as (λ _. x ≡ y) [
        | inl lt ↦ absurd (not_sooner Good xs x y closed f g lt)
        | inr gt ↦ absurd (not_sooner Good xs y x closed g f gt)
      ]
    ]

pub accepted_is_not_refused : AcceptedIsNotRefused
accepted_is_not_refused raw format_row h r = r h.format
accepted_is_not_refused raw switch_row h r = r.1 h.switch
accepted_is_not_refused raw (receipt_row n) h r = whole_bad AcceptsReceipts raw.receipts r.2.0 front_receipts r.2.2 h.receipts
accepted_is_not_refused raw (rule_row n) h r = whole_bad (AcceptsRules raw.receipts) raw.rules r.3.0 (front_rules raw.receipts) r.3.2 h.rules

same_receipt : (raw : RawTables) (m n : ℤ) → IsRefusedAt raw (receipt_row m) → IsRefusedAt raw (receipt_row n) → m ≡ n
same_receipt raw m n h k =
    sym h.2.1 ∙ ap (λ (r : RawReceipt). r.num) (one_bad AcceptsReceipts raw.receipts h.2.0 k.2.0 front_receipts h.2.2 k.2.2) ∙ k.2.1

same_rule : (raw : RawTables) (m n : ℤ) → IsRefusedAt raw (rule_row m) → IsRefusedAt raw (rule_row n) → m ≡ n
same_rule raw m n h k =
    sym h.3.1 ∙ ap (λ (r : RawRule). r.id) (one_bad (AcceptsRules raw.receipts) raw.rules h.3.0 k.3.0 (front_rules raw.receipts) h.3.2 k.3.2) ∙ k.3.1

receipt_or_rule : (raw : RawTables) (m n : ℤ) → IsRefusedAt raw (receipt_row m) → IsRefusedAt raw (rule_row n) → ⊥
receipt_or_rule raw m n h k = whole_bad AcceptsReceipts raw.receipts h.2.0 front_receipts h.2.2 k.2

pub refused_once : RefusedOnce
refused_once raw format_row format_row h k = refl
refused_once raw format_row switch_row h k = absurd (h k.0)
refused_once raw format_row (receipt_row n) h k = absurd (h k.0)
refused_once raw format_row (rule_row n) h k = absurd (h k.0)
refused_once raw switch_row format_row h k = absurd (k h.0)
refused_once raw switch_row switch_row h k = refl
refused_once raw switch_row (receipt_row n) h k = absurd (h.1 k.1)
refused_once raw switch_row (rule_row n) h k = absurd (h.1 k.1)
refused_once raw (receipt_row n) format_row h k = absurd (k h.0)
refused_once raw (receipt_row n) switch_row h k = absurd (k.1 h.1)
refused_once raw (receipt_row n) (receipt_row m) h k = ap receipt_row (same_receipt raw n m h k)
refused_once raw (receipt_row n) (rule_row m) h k = absurd (receipt_or_rule raw n m h k)
refused_once raw (rule_row n) format_row h k = absurd (k h.0)
refused_once raw (rule_row n) switch_row h k = absurd (k.1 h.1)
refused_once raw (rule_row n) (receipt_row m) h k = absurd (receipt_or_rule raw m n k h)
refused_once raw (rule_row n) (rule_row m) h k = ap rule_row (same_rule raw n m h k)

-- a list without a first bad element, whose fronts are good so far, is good, or nothing is so
no_bad : {X : Type 0} (Good : List X → Type 0) (xs before rest : List X) → xs ≡ before ++ rest → Good before → ((x : X) → IsFirstBad Good xs x → ⊥) → (Good xs → ⊥) → ⊥
no_bad Good xs before [] split good never bad = bad (subst Good (sym (split ∙ append-nil before)) good)
no_bad Good xs before (x ∷ rest) split good never bad =
    never x (record {
      before = before;
      behind = rest;
      split = split;
      good = good;
      bad = λ longer. no_bad Good xs (before ++ x ∷ []) rest (split ∙ sym (append_assoc before (x ∷ []) rest)) longer never bad;
    })

no_receipts : AcceptsReceipts []
no_receipts = record { numbered = λ k d lt. absurd (omega (arith, lt)); most = omega arith; each = All-nil IsStoredReceipt; keys = λ i j d lt in'. absurd (omega (arith, in')) }

no_rules : (receipts : List RawReceipt) → AcceptsRules receipts []
no_rules receipts = record { rising = λ i j d lt in'. absurd (omega (arith, in')); most = omega arith; each = All-nil (IsStoredRule receipts) }

meets_or_breaks : (raw : RawTables) → (MeetsRules raw → ⊥) → ((row : StoreRow) → BreaksRulesAt raw row → ⊥) → ⊥
meets_or_breaks raw bad never =
    never format_row (λ format.
    never switch_row (
      format,
      λ switch.
          no_bad AcceptsReceipts raw.receipts [] raw.receipts refl no_receipts (λ r first. never (receipt_row r.num) (format, switch, (r, refl, first))) (λ receipts.
          no_bad (AcceptsRules raw.receipts) raw.rules [] raw.rules refl (no_rules raw.receipts) (λ r first. never (rule_row r.id) (format, switch, receipts, (r, refl, first))) (λ rules.
          bad (record { format = format; switch = switch; receipts = receipts; rules = rules }))),
    ))

pub accepted_or_refused : AcceptedOrRefused
accepted_or_refused raw bad never = meets_or_breaks (upgraded raw) bad never
