-- Which tables stored rows mean.
use Rattle.std.proofs.Common.{◌≡◌, ℕ, ◌+◌, ℤ, List, [], ◌∷◌, get_or, refl, sym, ap, ◌∙◌, subst, arith, Option}
use Rattle.std.specs.Prelude.{All, Bool, map, pos, ◌≤ℤ◌, unsigned_abs, option_map}
use Rattle.std.specs.Coded.{Coded-set}
use Rattle.std.proofs.Math.Logic.{∥∥₁_elim}
use Rattle.std.proofs.lemmas.Int.{ints}
use Rattle.std.proofs.lemmas.List.Elements.{All-nil, All-cons, All-head, All-tail}
use Rattle.req_tree.specs.Tree.{Tree}
use Rattle.req_tree.specs.TreeCode.{tree_code}
use Rattle.req_grammar.specs.Readings.{IsRequirementText}
use Rattle.req_grammar.specs.Laws.{OneTree}
use Rattle.policy_model.specs.Rules.{Row, Kind}
use Rattle.policy_model.specs.Tables.{Receipt, Tables}
use Rattle.store_model.specs.declared.limits.TheConstants.{STORE_FORMAT}
use Rattle.store_model.specs.Raw.{RawReceipt, RawRule, RawTables}
use Rattle.store_model.specs.Stored.{kind_number, bool_number, flags_number, raw_receipt, raw_rule, raw_of_tables, Holds}
use Rattle.store_model.specs.Accepted.{IsStoredReceipt, AreNumbered, AcceptsReceipts, IsAdded, IsStoredRule, MeetsRules, Accepts}
use Rattle.store_model.specs.Laws.{RowsMeanOne, AcceptedRowsMeanSome, AcceptedRowsMeanKept}
use Rattle.store_model.proofs.Numbers.{kind_back, bool_back, default_back, inhibit_back, kind_returns, bool_returns, default_returns, inhibit_returns, end_returns, not_below, bool_stays, kind_stays, flags_again, flags_stay, end_stays}
use Rattle.store_model.proofs.Trees.{HasTree}

-- the rule of a stored row, with this tree
abbrev row_back : RawRule → Tree → Row
row_back r tree = record {
  id = unsigned_abs r.id;
  kind = kind_back r.kind;
  allow = bool_back r.allow;
  disabled = unsigned_abs r.disabled;
  expires = option_map unsigned_abs r.expires;
  priority = r.priority;
  is_default = default_back r.flags;
  inhibit = inhibit_back r.flags;
  label = r.label;
  text = r.requirement;
  tree = tree;
}

-- the receipt of a stored row
abbrev receipt_back : RawReceipt → Receipt
receipt_back r = record { number = unsigned_abs r.num; key = r.key; content = r.content; rules = unsigned_abs r.rules }

abbrev row_with : Row → Kind → Bool → Option ℕ → Bool → Bool → Row
row_with r k a e d i = record r { kind = k; allow = a; expires = e; is_default = d; inhibit = i }

row_returns : (r : Row) → row_back (raw_rule r) r.tree ≡ r
row_returns r =
    let flags = flags_number r.is_default r.inhibit in
    let end = option_map unsigned_abs (option_map pos r.expires) in
    ap (λ k. row_with r k (bool_back (bool_number r.allow)) end (default_back flags) (inhibit_back flags)) (kind_returns r.kind)
    ∙ ap (λ a. row_with r r.kind a end (default_back flags) (inhibit_back flags)) (bool_returns r.allow)
    ∙ ap (λ e. row_with r r.kind r.allow e (default_back flags) (inhibit_back flags)) (end_returns r.expires)
    ∙ ap (λ d. row_with r r.kind r.allow r.expires d (inhibit_back flags)) (default_returns r.is_default r.inhibit)
    ∙ ap (λ i. row_with r r.kind r.allow r.expires r.is_default i) (inhibit_returns r.is_default r.inhibit)

-- one head and one tail of equal lists
heads : {X : Type 0} (x y : X) (xs ys : List X) → x ∷ xs ≡ y ∷ ys → x ≡ y
heads x y xs ys e = cc

tails : {X : Type 0} (x y : X) (xs ys : List X) → x ∷ xs ≡ y ∷ ys → xs ≡ ys
tails x y xs ys e = cc

no_more : {X : Type 0} (x : X) (xs : List X) → [] ≡ x ∷ xs → ⊥
no_more x xs e = cc

same_receipts : (a b : List Receipt) → map raw_receipt a ≡ map raw_receipt b → a ≡ b
same_receipts [] [] e = refl
same_receipts [] (s ∷ b) e = absurd (no_more (raw_receipt s) (map raw_receipt b) e)
same_receipts (r ∷ a) [] e = absurd (no_more (raw_receipt r) (map raw_receipt a) (sym e))
same_receipts (r ∷ a) (s ∷ b) e =
    ap (λ x. x ∷ a) (ap receipt_back (heads (raw_receipt r) (raw_receipt s) (map raw_receipt a) (map raw_receipt b) e))
    ∙ ap (λ l. s ∷ l) (same_receipts a b (tails (raw_receipt r) (raw_receipt s) (map raw_receipt a) (map raw_receipt b) e))

module _ (one_tree : OneTree) where
  same_tree : (r s : Row) → r.text ≡ s.text → HasTree r → HasTree s → r.tree ≡ s.tree
  same_tree r s e h k =
      ∥∥₁_elim h (Coded-set tree_code r.tree s.tree) (λ x.
      ∥∥₁_elim k (Coded-set tree_code r.tree s.tree) (λ y. one_tree s.text r.tree s.tree (subst (λ text. IsRequirementText text r.tree) e x) y))

  same_row : (r s : Row) → raw_rule r ≡ raw_rule s → HasTree r → HasTree s → r ≡ s
  same_row r s e h k =
      sym (row_returns r)
      ∙ ap (λ x. row_back x r.tree) e
      ∙ ap (λ tree. row_back (raw_rule s) tree) (same_tree r s (ap (λ (x : RawRule). x.requirement) e) h k)
      ∙ row_returns s

  same_rows : (a b : List Row) → map raw_rule a ≡ map raw_rule b → All HasTree a → All HasTree b → a ≡ b
  same_rows [] [] e h k = refl
  same_rows [] (s ∷ b) e h k = absurd (no_more (raw_rule s) (map raw_rule b) e)
  same_rows (r ∷ a) [] e h k = absurd (no_more (raw_rule r) (map raw_rule a) (sym e))
  same_rows (r ∷ a) (s ∷ b) e h k =
      ap (λ x. x ∷ a) (same_row r s (heads (raw_rule r) (raw_rule s) (map raw_rule a) (map raw_rule b) e) (All-head HasTree r a h) (All-head HasTree s b k))
      ∙ ap (λ l. s ∷ l) (same_rows a b (tails (raw_rule r) (raw_rule s) (map raw_rule a) (map raw_rule b) e) (All-tail HasTree r a h) (All-tail HasTree s b k))

  same_tables : (t u : Tables) → raw_of_tables t ≡ raw_of_tables u → All HasTree t.rows → All HasTree u.rows → t ≡ u
  same_tables t u e h k =
      ap (λ l. record { rows = l; receipts = t.receipts; enabled = t.enabled }) (same_rows t.rows u.rows (ap (λ (x : RawTables). x.rules) e) h k)
      ∙ ap (λ l. record { rows = u.rows; receipts = l; enabled = t.enabled }) (same_receipts t.receipts u.receipts (ap (λ (x : RawTables). x.receipts) e))
      ∙ ap (λ b. record { rows = u.rows; receipts = u.receipts; enabled = b }) (sym (bool_returns t.enabled) ∙ ap (λ (x : RawTables). bool_back x.switch) e ∙ bool_returns u.enabled)

  pub rows_mean_one : RowsMeanOne
  rows_mean_one raw t u h k = same_tables t u (sym h.stored ∙ k.stored) h.trees k.trees

abbrev rule_with : RawRule → ℤ → ℤ → ℤ → ℤ → Option ℤ → ℤ → RawRule
rule_with r i k a d e f = record r { id = i; kind = k; allow = a; disabled = d; expires = e; flags = f }

rule_stays : (receipts : List RawReceipt) (r : RawRule) (tree : Tree) → pos 0 ≤ℤ r.id → IsStoredRule receipts r → raw_rule (row_back r tree) ≡ r
rule_stays receipts r tree above h =
    let k = kind_number (kind_back r.kind) in
    let a = bool_number (bool_back r.allow) in
    let d = pos (unsigned_abs r.disabled) in
    let e = option_map pos (option_map unsigned_abs r.expires) in
    let f = flags_again r.flags in
    ap (λ i. rule_with r i k a d e f) (not_below r.id above)
    ∙ ap (λ x. rule_with r r.id x a d e f) (kind_stays r.kind h.kind)
    ∙ ap (λ x. rule_with r r.id r.kind x d e f) (bool_stays r.allow h.allow)
    ∙ ap (λ x. rule_with r r.id r.kind r.allow x e f) (not_below r.disabled h.disabled.0)
    ∙ ap (λ x. rule_with r r.id r.kind r.allow r.disabled x f) (end_stays r.expires h.expires)
    ∙ ap (λ x. rule_with r r.id r.kind r.allow r.disabled r.expires x) (flags_stay r.flags h.flags)

receipt_stays : (r : RawReceipt) → pos 0 ≤ℤ r.num → IsStoredReceipt r → raw_receipt (receipt_back r) ≡ r
receipt_stays r above h =
    ap (λ n. record { num = n; key = r.key; content = r.content; rules = pos (unsigned_abs r.rules) }) (not_below r.num above)
    ∙ ap (λ n. record { num = r.num; key = r.key; content = r.content; rules = n }) (not_below r.rules h.rules.0)

numbers_above : (n : ℕ) (z : ℤ) → z ≡ pos n → pos 0 ≤ℤ z
numbers_above n z e = grind (arith, ints, e)

-- the place of a receipt is its number
pub id_is_place : (receipts : List RawReceipt) (z : ℤ) → AreNumbered receipts → (h : IsAdded receipts z) → z ≡ pos (h.among.0 + 1)
id_is_place receipts z numbered h = sym h.its_number ∙ sym (ap (λ (x : RawReceipt). x.num) h.among.2) ∙ numbered h.among.0 h.receipt h.among.1

id_above : (receipts : List RawReceipt) (z : ℤ) → AreNumbered receipts → IsAdded receipts z → pos 0 ≤ℤ z
id_above receipts z numbered h = numbers_above (h.among.0 + 1) z (id_is_place receipts z numbered h)

-- rows whose stored ones are these
record RowsOf (rules : List RawRule) : Type 0 where
  rows : List Row
  stored : map raw_rule rows ≡ rules
  trees : All HasTree rows

one_more_row : (r : RawRule) (rules : List RawRule) (row : Row) → raw_rule row ≡ r → HasTree row → RowsOf rules → RowsOf (r ∷ rules)
one_more_row r rules row same tree others = record {
  rows = row ∷ others.rows;
  stored = ap (λ x. x ∷ map raw_rule others.rows) same ∙ ap (λ l. r ∷ l) others.stored;
  trees = All-cons HasTree row others.rows tree others.trees;
}

rows_of : (receipts : List RawReceipt) (rules : List RawRule) → AreNumbered receipts → All (IsStoredRule receipts) rules → RowsOf rules
rows_of receipts [] numbered h = record { rows = []; stored = refl; trees = All-nil HasTree }
rows_of receipts (r ∷ rules) numbered h =
    let it = All-head (IsStoredRule receipts) r rules h in
    one_more_row r rules (row_back r it.parses.0) (rule_stays receipts r it.parses.0 (id_above receipts r.id numbered it.added) it)
    (∣ it.parses.1 ∣₁)
    (rows_of receipts rules numbered (All-tail (IsStoredRule receipts) r rules h))

all_back : (rs : List RawReceipt) → All (λ r. raw_receipt (receipt_back r) ≡ r) rs → map raw_receipt (map receipt_back rs) ≡ rs
all_back [] h = refl
all_back (r ∷ rs) h =
    ap (λ x. x ∷ map raw_receipt (map receipt_back rs)) (All-head (λ r. raw_receipt (receipt_back r) ≡ r) r rs h)
    ∙ ap (λ l. r ∷ l) (all_back rs (All-tail (λ r. raw_receipt (receipt_back r) ≡ r) r rs h))

receipts_stay : (rs : List RawReceipt) → AcceptsReceipts rs → map raw_receipt (map receipt_back rs) ≡ rs
receipts_stay rs h = all_back rs (λ k d lt. receipt_stays (get_or rs k d) (numbers_above (k + 1) (get_or rs k d).num (h.numbered k d lt)) (h.each k d lt))

abbrev tables_back : (raw : RawTables) → RowsOf raw.rules → Tables
tables_back raw rows = record { rows = rows.rows; receipts = map receipt_back raw.receipts; enabled = bool_back raw.switch }

tables_hold : (raw : RawTables) → Accepts raw → (rows : RowsOf raw.rules) → Holds raw (tables_back raw rows)
tables_hold raw h rows = record {
  stored =
      ap (λ z. record { format = z; switch = raw.switch; receipts = raw.receipts; rules = raw.rules }) h.format
      ∙ ap (λ z. record { format = STORE_FORMAT; switch = z; receipts = raw.receipts; rules = raw.rules }) (sym (bool_stays raw.switch h.switch))
      ∙ ap (λ l. record { format = STORE_FORMAT; switch = bool_number (bool_back raw.switch); receipts = l; rules = raw.rules }) (sym (receipts_stay raw.receipts h.receipts))
      ∙ ap (λ l. record { format = STORE_FORMAT; switch = bool_number (bool_back raw.switch); receipts = map raw_receipt (map receipt_back raw.receipts); rules = l }) (sym rows.stored);
  trees = rows.trees;
}

pub accepted_rows_mean_some : AcceptedRowsMeanSome
accepted_rows_mean_some raw h =
    let rows = rows_of raw.receipts raw.rules h.receipts.numbered h.rules.each in
    (tables_back raw rows, tables_hold raw h rows)

pub accepted_rows_mean_kept : AcceptedRowsMeanKept
accepted_rows_mean_kept raw t h holds = record { accepted = subst MeetsRules holds.stored h; trees = holds.trees }
