-- Tables that are stored in accepted rows stay so through any edit.
use Rattle.std.proofs.Common.{◌≡◌, ℕ, ◌+◌, ◌<◌, ◌≤◌, ℤ, List, [], ◌∷◌, ◌++◌, length, get_or, refl, sym, ap, subst, arith, Option, Some, None, Ok}
use Rattle.std.specs.Prelude.{All, AllPairs, Bool, true, false, not, ◌&&◌, map, pos, negsuc, ◌<ℤ◌, ◌≤ℤ◌, ◌≢◌, nat_le, option_map, if◌then◌else◌, ⊤}
use Rattle.std.specs.Option.{option_or}
use Rattle.std.proofs.lemmas.Int.{ints}
use Rattle.std.proofs.lemmas.Bool.Decides.{nat_tests}
use Rattle.std.proofs.lemmas.List.{length-map, map-append, length_push}
use Rattle.std.proofs.lemmas.List.Elements.{All-nil, All-filter, All-push, All-map, All-weaker, All-head, All-tail, Contains-append_left, Contains-append_right}
use Rattle.req_tree.specs.Facts.{no_facts}
use Rattle.policy_model.specs.declared.limits.TheConstants.{MOST_RULES, MOST_RECEIPTS, MOST_DISABLES, LEAST_PRIORITY, GREATEST_PRIORITY}
use Rattle.policy_model.specs.Rules.{Row}
use Rattle.policy_model.specs.Contents.{NewRow, Content, add, remove, enable, disable, expire, switch, Edit}
use Rattle.policy_model.specs.Texts.{content_text}
use Rattle.policy_model.specs.Tables.{Tables, Receipt, Answer, disable_full}
use Rattle.policy_model.specs.Changes.{selects, with_count, with_expiry, added_row, rows_after, touched_by, switch_after}
use Rattle.policy_model.specs.Refusals.{refusal, refused_by_rows, refused_by_receipts, refused_by_count, full_rows, least_id}
use Rattle.policy_model.specs.Edits.{does_at, at_new, kept, accepted}
use Rattle.policy_model.specs.History.{HasOwnIds, HasOwnKeys, Opening, Event, tick, ask, offer, edit, edit_failed, edit_starved, look, tables_step, empty_tables}
use Rattle.policy_model.specs.Laws.{IdsStayOwn, KeysStayOwn}
use Rattle.line_model.specs.Edits.{IsContentLine}
use Rattle.line_laws.specs.Limits.{IsPriority, IsExpiry, IsRule, FitsLine}
use Rattle.line_laws.specs.Laws.{ContentReadsBack}
use Rattle.store_model.specs.Raw.{RawReceipt, RawRule}
use Rattle.store_model.specs.Stored.{raw_receipt, raw_rule, raw_of_tables}
use Rattle.store_model.specs.Accepted.{IsStoredReceipt, AcceptsReceipts, IsAdded, IsStoredRule, AcceptsRules, Accepts}
use Rattle.store_model.specs.Kept.{IsEdit, HasEdits, IsKept}
use Rattle.store_model.specs.Laws.{EditsStayKept, HistoriesStayKept, KeptIdsAreOwn, KeptKeysAreOwn}
use Rattle.store_model.proofs.Numbers.{within, kind_within, bool_within, end_within, are_flags}
use Rattle.store_model.proofs.RowLists.{all_unmap, pairs_map, pairs_unmap, push_cases, all_change, filter_most, none_pass, other_bytes, same_bytes, or_none}
use Rattle.store_model.proofs.Meaning.{id_is_place}
use Rattle.store_model.proofs.Trees.{HasTree, any_row, fitting_content, edit_trees}

priority_within : (p : ℤ) → IsPriority p → (LEAST_PRIORITY ≤ℤ p) × (p ≤ℤ GREATEST_PRIORITY)
priority_within (pos n) h = (grind (arith, ints, h), grind (arith, ints, h))
priority_within (negsuc n) h = (grind (arith, ints, h), grind (arith, ints, h))

ids_rise : (a b : ℕ) → a < b → pos a <ℤ pos b
ids_rise a b h = grind (arith, ints, h)

-- a receipt more
push_numbers : (rs : List RawReceipt) (r : RawReceipt) → AcceptsReceipts rs → r.num ≡ pos (length rs + 1) → length rs < MOST_RECEIPTS → IsStoredReceipt r → AllPairs (λ (a b : RawReceipt). a.key ≢ b.key) (rs ++ r ∷ []) → AcceptsReceipts (rs ++ r ∷ [])
push_numbers rs r h n few is keys = record {
  numbered = push_cases (λ k (s : RawReceipt). s.num ≡ pos (k + 1)) rs r h.numbered n;
  most = omega (arith, length_push rs r, few);
  each = All-push IsStoredReceipt rs r h.each is;
  keys = keys;
}

-- a rule beside more receipts
rule_beside : (rs : List RawReceipt) (r : RawReceipt) (x : RawRule) → IsStoredRule rs x → IsStoredRule (rs ++ r ∷ []) x
rule_beside rs r x h = record {
  added = record { receipt = h.added.receipt; among = Contains-append_left rs (r ∷ []) h.added.receipt h.added.among; its_number = h.added.its_number; adds = h.added.adds };
  kind = h.kind;
  allow = h.allow;
  disabled = h.disabled;
  expires = h.expires;
  priority = h.priority;
  flags = h.flags;
  label = h.label;
  text = h.text;
  parses = h.parses;
}

-- the rule of an add
added_rule : (rs : List RawReceipt) (n : ℕ) (w : NewRow) → IsRule w → IsAdded rs (pos n) → IsStoredRule rs (raw_rule (added_row n w))
added_rule rs n w h added = record {
  added = added;
  kind = kind_within w.kind;
  allow = bool_within w.allow;
  disabled = within 0 MOST_DISABLES 0 (omega arith) (omega arith);
  expires = end_within w.expires h.expires;
  priority = priority_within w.priority h.priority;
  flags = are_flags w.is_default w.inhibit;
  label = h.label.few;
  text = h.text;
  parses = (w.tree, h.reads);
}

-- a rule under another count or with another end
counted_rule : (rs : List RawReceipt) (n : ℕ) (r : Row) → n ≤ MOST_DISABLES → IsStoredRule rs (raw_rule r) → IsStoredRule rs (raw_rule (with_count n r))
counted_rule rs n r few h = record {
  added = h.added;
  kind = h.kind;
  allow = h.allow;
  disabled = within 0 MOST_DISABLES n (omega arith) few;
  expires = h.expires;
  priority = h.priority;
  flags = h.flags;
  label = h.label;
  text = h.text;
  parses = h.parses;
}

ended_rule : (rs : List RawReceipt) (m : Option ℕ) (r : Row) → IsExpiry m → IsStoredRule rs (raw_rule r) → IsStoredRule rs (raw_rule (with_expiry m r))
ended_rule rs m r at h = record {
  added = h.added;
  kind = h.kind;
  allow = h.allow;
  disabled = h.disabled;
  expires = end_within m at;
  priority = h.priority;
  flags = h.flags;
  label = h.label;
  text = h.text;
  parses = h.parses;
}

-- what an edit needs that isn't refused
room_for : (c : Content) (w : NewRow) (rows : List Row) → c ≡ add w → refused_by_rows c rows ≡ None → length rows < MOST_RULES
room_for c w rows e h = grind (arith, nat_tests, e, h)

few_receipts : (rs : List Receipt) → refused_by_receipts rs ≡ None → length rs < MOST_RECEIPTS
few_receipts rs h = grind (arith, nat_tests, h)

no_rows : (rows : List Row) → option_map disable_full (least_id rows) ≡ None → rows ≡ []
no_rows [] h = refl
no_rows (r ∷ rows) h = cc

not_full : (s : Bool) (n : ℕ) → s ≡ true → (s && nat_le MOST_DISABLES n) ≡ false → n + 1 ≤ MOST_DISABLES
not_full s n t h = grind (arith, nat_tests, t, h)

abbrev Each : List RawReceipt → List Row → Type 0
Each rs rows = All (λ r. IsStoredRule rs (raw_rule r)) rows

-- each rule after an edit, beside the receipts with the edit's own
each_after : (rs : List RawReceipt) (n : ℕ) (c : Content) (rows : List Row) → Each rs rows → FitsLine c → ((w : NewRow) → c ≡ add w → IsAdded rs (pos n)) → full_rows c rows ≡ [] → Each rs (rows_after n c rows)
each_after rs n (add w) rows h is new none = All-push (λ r. IsStoredRule rs (raw_rule r)) rows (added_row n w) h (added_rule rs n w is (new w refl))
each_after rs n (remove s) rows h is new none = All-filter (λ r. not (selects s r)) (λ r. IsStoredRule rs (raw_rule r)) rows h
each_after rs n (enable s) rows h is new none = all_change (λ r. IsStoredRule rs (raw_rule r)) (λ r. ⊤) (selects s) (with_count 0) rows h (any_row rows) (λ r t a p. counted_rule rs 0 r (omega arith) p)
each_after rs n (disable s) rows h is new none = all_change (λ r. IsStoredRule rs (raw_rule r)) (λ r. (selects s r && nat_le MOST_DISABLES r.disabled) ≡ false) (selects s) (λ r. with_count (r.disabled + 1) r) rows h (none_pass (λ r. selects s r && nat_le MOST_DISABLES r.disabled) rows none) (λ r t a p. counted_rule rs (r.disabled + 1) r (not_full (selects s r) r.disabled t a) p)
each_after rs n (expire s m) rows h is new none = all_change (λ r. IsStoredRule rs (raw_rule r)) (λ r. ⊤) (selects s) (with_expiry m) rows h (any_row rows) (λ r t a p. ended_rule rs m r is.1 p)
each_after rs n (switch on) rows h is new none = h

-- no more rules than a table has room for
most_after : (n : ℕ) (c : Content) (rows : List Row) → length rows ≤ MOST_RULES → refused_by_rows c rows ≡ None → length (rows_after n c rows) ≤ MOST_RULES
most_after n (add w) rows h fit = omega (arith, length_push rows (added_row n w), room_for (add w) w rows refl fit)
most_after n (remove s) rows h fit = omega (arith, h, filter_most (λ r. not (selects s r)) rows)
most_after n (enable s) rows h fit = omega (arith, h, length-map rows (λ r. if selects s r then with_count 0 r else r))
most_after n (disable s) rows h fit = omega (arith, h, length-map rows (λ r. if selects s r then with_count (r.disabled + 1) r else r))
most_after n (expire s m) rows h fit = omega (arith, h, length-map rows (λ r. if selects s r then with_expiry m r else r))
most_after n (switch on) rows h fit = h

most_touched : (n : ℕ) (c : Content) (rows : List Row) → length rows ≤ MOST_RULES → length (touched_by n c rows) ≤ MOST_RULES
most_touched n (add w) rows h = omega arith
most_touched n (remove s) rows h = omega (arith, h, filter_most (selects s) rows)
most_touched n (enable s) rows h = omega (arith, h, filter_most (selects s) rows)
most_touched n (disable s) rows h = omega (arith, h, filter_most (selects s) rows)
most_touched n (expire s m) rows h = omega (arith, h, filter_most (selects s) rows)
most_touched n (switch on) rows h = omega arith

-- ids rise and are numbers of receipts
id_below : (rs : List RawReceipt) (n : ℕ) → AcceptsReceipts rs → IsAdded rs (pos n) → n ≤ length rs
id_below rs n h added =
    let at = id_is_place rs (pos n) h.numbered added in
    let below = added.among.1 in
    grind (arith, ints, at, below)

pub kept_ids_are_own : KeptIdsAreOwn
kept_ids_are_own t h = record {
  apart = λ i j d lt in'. grind (arith, ints, pairs_unmap (λ (a b : RawRule). a.id <ℤ b.id) raw_rule t.rows h.accepted.rules.rising i j d lt in');
  numbered = λ k d lt. omega (arith, length-map t.receipts raw_receipt, id_below (map raw_receipt t.receipts) (get_or t.rows k d).id h.accepted.receipts (all_unmap (IsStoredRule (map raw_receipt t.receipts)) raw_rule t.rows h.accepted.rules.each k d lt).added);
}

pub kept_keys_are_own : KeptKeysAreOwn
kept_keys_are_own t h = record {
  apart = λ i j d lt in'. other_bytes (get_or t.receipts i d).key (get_or t.receipts j d).key (pairs_unmap (λ (a b : RawReceipt). a.key ≢ b.key) raw_receipt t.receipts h.accepted.receipts.keys i j d lt in');
}

-- an opening of these tables
abbrev opened : Tables → Opening
opened t = record { tables = t; facts = no_facts; now = 0; entries = []; counts = record { execute = 0; install = 0; document = 0 } }

-- the receipt of an edit
abbrev new_receipt : Tables → Edit → Receipt
new_receipt t e = record { number = length t.receipts + 1; key = e.key; content = content_text e.content; rules = length (touched_by (length t.receipts + 1) e.content t.rows) }

-- the tables of an edit that isn't refused
abbrev new_tables : Tables → Edit → Tables
new_tables t e = (accepted (length t.receipts + 1) (touched_by (length t.receipts + 1) e.content t.rows) e t).tables

module _ (ids : IdsStayOwn) (keys : KeysStayOwn) (back : ContentReadsBack) where
  stored_receipt : (t : Tables) (e : Edit) → length t.rows ≤ MOST_RULES → IsEdit e → IsStoredReceipt (raw_receipt (new_receipt t e))
  stored_receipt t e few is = record {
    key = is.key;
    content = (e.content, record { reads = back e.content is.content; canonical = refl });
    rules = within 0 MOST_RULES (length (touched_by (length t.receipts + 1) e.content t.rows)) (omega arith) (most_touched (length t.receipts + 1) e.content t.rows few);
  }

  receipts_after : (t : Tables) (e : Edit) → Accepts (raw_of_tables t) → IsEdit e → length t.receipts < MOST_RECEIPTS → HasOwnKeys (new_tables t e) → AcceptsReceipts (map raw_receipt t.receipts ++ raw_receipt (new_receipt t e) ∷ [])
  receipts_after t e h is few own =
      let same = length-map t.receipts raw_receipt in
      push_numbers (map raw_receipt t.receipts) (raw_receipt (new_receipt t e)) h.receipts
      (ap (λ n. pos (n + 1)) (sym same))
      (omega (arith, same, few))
      (stored_receipt t e (omega (arith, length-map t.rows raw_rule, h.rules.most)) is)
      (subst (AllPairs (λ (a b : RawReceipt). a.key ≢ b.key)) (map-append raw_receipt t.receipts (new_receipt t e ∷ []))
      (pairs_map (λ (a b : RawReceipt). a.key ≢ b.key) raw_receipt (t.receipts ++ new_receipt t e ∷ [])
      (λ i j d lt in'. same_bytes (get_or (t.receipts ++ new_receipt t e ∷ []) i d).key (get_or (t.receipts ++ new_receipt t e ∷ []) j d).key (own.apart i j d lt in'))))

  -- the receipt of an add is that of its rule
  add_receipt : (rs : List RawReceipt) (t : Tables) (e : Edit) (w : NewRow) → e.content ≡ add w → FitsLine e.content → IsAdded (rs ++ raw_receipt (new_receipt t e) ∷ []) (pos (length t.receipts + 1))
  add_receipt rs t e w same fits = record {
    receipt = raw_receipt (new_receipt t e);
    among = Contains-append_right rs (raw_receipt (new_receipt t e) ∷ []) (raw_receipt (new_receipt t e)) (0, omega arith, refl);
    its_number = refl;
    adds = (w, record { reads = subst (λ c. IsContentLine (content_text e.content) (Ok c)) same (back e.content fits); canonical = ap content_text same });
  }

  rules_after : (t : Tables) (e : Edit) → Accepts (raw_of_tables t) → IsEdit e → refused_by_rows e.content t.rows ≡ None → full_rows e.content t.rows ≡ [] → HasOwnIds (new_tables t e) → AcceptsRules (map raw_receipt t.receipts ++ raw_receipt (new_receipt t e) ∷ []) (map raw_rule (rows_after (length t.receipts + 1) e.content t.rows))
  rules_after t e h is room none own =
      let n = length t.receipts + 1 in
      let before = map raw_receipt t.receipts in
      let new = raw_receipt (new_receipt t e) in
      record {
        rising = pairs_map (λ (a b : RawRule). a.id <ℤ b.id) raw_rule (rows_after n e.content t.rows) (λ i j d lt in'. ids_rise (get_or (rows_after n e.content t.rows) i d).id (get_or (rows_after n e.content t.rows) j d).id (own.apart i j d lt in'));
        most = omega (arith, length-map (rows_after n e.content t.rows) raw_rule, most_after n e.content t.rows (omega (arith, length-map t.rows raw_rule, h.rules.most)) room);
        each = All-map (IsStoredRule (before ++ new ∷ [])) raw_rule (rows_after n e.content t.rows)
            (each_after (before ++ new ∷ []) n e.content t.rows
            (All-weaker (λ r. IsStoredRule before (raw_rule r)) (λ r. IsStoredRule (before ++ new ∷ []) (raw_rule r)) (λ r x. rule_beside before new (raw_rule r) x) t.rows
            (all_unmap (IsStoredRule before) raw_rule t.rows h.rules.each))
            is.content
            (λ w same. add_receipt before t e w same is.content)
            none);
      }

  accepted_after : (t : Tables) (e : Edit) → Accepts (raw_of_tables t) → IsEdit e → refusal e.content t ≡ None → HasOwnIds (new_tables t e) → HasOwnKeys (new_tables t e) → Accepts (raw_of_tables (new_tables t e))
  accepted_after t e h is fit own_ids own_keys =
      let first = or_none (refused_by_rows e.content t.rows) (option_or (refused_by_receipts t.receipts) (refused_by_count e.content t.rows)) fit in
      let later = or_none (refused_by_receipts t.receipts) (refused_by_count e.content t.rows) first.1 in
      let more = sym (map-append raw_receipt t.receipts (new_receipt t e ∷ [])) in
      record {
        format = refl;
        switch = bool_within (switch_after e.content t.enabled);
        receipts = subst AcceptsReceipts more (receipts_after t e h is (few_receipts t.receipts later.0) own_keys);
        rules = subst (λ rs. AcceptsRules rs (map raw_rule (rows_after (length t.receipts + 1) e.content t.rows))) more (rules_after t e h is first.0 (no_rows (full_rows e.content t.rows) later.1) own_ids);
      }

  new_accepted : (t : Tables) (e : Edit) (a : Option Answer) → Accepts (raw_of_tables t) → IsEdit e → refusal e.content t ≡ a → HasOwnIds (at_new a e t).tables → HasOwnKeys (at_new a e t).tables → Accepts (raw_of_tables (at_new a e t).tables)
  new_accepted t e (Some x) h is why own_ids own_keys = h
  new_accepted t e None h is why own_ids own_keys = accepted_after t e h is why own_ids own_keys

  any_accepted : (t : Tables) (e : Edit) (k : Option Receipt) → Accepts (raw_of_tables t) → IsEdit e → HasOwnIds (does_at k e t).tables → HasOwnKeys (does_at k e t).tables → Accepts (raw_of_tables (does_at k e t).tables)
  any_accepted t e (Some r) h is own_ids own_keys = h
  any_accepted t e None h is own_ids own_keys = new_accepted t e (refusal e.content t) h is refl own_ids own_keys

  pub edits_stay_kept : EditsStayKept
  edits_stay_kept t e h is = record {
    accepted = any_accepted t e (kept t.receipts e.key) h.accepted is (ids (opened t) (edit e ∷ []) (kept_ids_are_own t h)) (keys (opened t) (edit e ∷ []) (kept_keys_are_own t h));
    trees = edit_trees t e h.trees (fitting_content e.content ∣ is.content ∣₁);
  }

  step_kept : (t : Tables) (ev : Event) → IsKept t → HasEdits ev → IsKept (tables_step ev t)
  step_kept t (tick m) h is = h
  step_kept t (ask a) h is = h
  step_kept t (offer k) h is = h
  step_kept t (edit e) h is = edits_stay_kept t e h is
  step_kept t (edit_failed e) h is = h
  step_kept t (edit_starved e) h is = h
  step_kept t look h is = h

  pub histories_stay_kept : HistoriesStayKept
  histories_stay_kept t [] k is = k
  histories_stay_kept t (e ∷ es) k is = histories_stay_kept (tables_step e t) es (step_kept t e k (All-head HasEdits e es is)) (All-tail HasEdits e es is)

pub empty_kept : IsKept empty_tables
empty_kept = record {
  accepted = record {
    format = refl;
    switch = bool_within true;
    receipts = record { numbered = λ k d lt. absurd (omega (arith, lt)); most = omega arith; each = All-nil IsStoredReceipt; keys = λ i j d lt in'. absurd (omega (arith, in')) };
    rules = record { rising = λ i j d lt in'. absurd (omega (arith, in')); most = omega arith; each = All-nil (IsStoredRule []) };
  };
  trees = All-nil HasTree;
}
