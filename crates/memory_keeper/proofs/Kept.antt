-- Rows that are kept after a change of the selected rules.
use Rattle.std.proofs.Common.{◌≡◌, ℤ, List, [], ◌∷◌, ◌++◌, Result, refl, sym, ap, ◌∙◌}
use Rattle.std.specs.Prelude.{OnOk}
use Rattle.std.proofs.lemmas.Result.{on_ok_weaker}
use Rattle.policy_model.specs.Contents.{Content}
use Rattle.store_model.specs.Raw.{RawReceipt, RawRule, RawTables}
use Rattle.store_model.specs.Change.{Change, raw_receipt_of, raw_switch_after, raw_rules_after, raw_after}
use Rattle.rule_values.specs.declared.selector.Selector.{Selector}
use Rattle.rule_values.specs.declared.row_change.RowChange.{RowChange}
use Rattle.rule_values.specs.declared.row_change.RowChange.TheVariants.{Remove, Enable, Disable, Expire}
use Rattle.rule_values.specs.Selector.{content_by}

switch_stays : (s : Selector) (r : RowChange) (old : ℤ) → raw_switch_after (content_by s r) old ≡ old
switch_stays s Remove old = refl
switch_stays s Enable old = refl
switch_stays s Disable old = refl
switch_stays s (Expire end) old = refl

-- a receipt more, and the rules and the switch after a content
abbrev rows_with : Change → RawTables → Content → RawReceipt → ℤ → RawTables
rows_with c old content receipt switched = record {
  format = old.format;
  switch = switched;
  receipts = old.receipts ++ receipt ∷ [];
  rules = raw_rules_after c.number content old.rules;
}

-- the receipt is that of the change, and the rules are changed as it asks
pub changed : {T E : Type 0} (result : Result T E) (s : Selector) (r : RowChange) (c : Change) (old new : RawTables) (receipt : RawReceipt) → c.edit.content ≡ content_by s r → receipt ≡ raw_receipt_of c →
    OnOk result (new ≡ record old { receipts = old.receipts ++ receipt ∷ []; rules = raw_rules_after c.number (content_by s r) old.rules }) → OnOk result (new ≡ raw_after c old)
changed result s r c old new receipt content same ok =
    on_ok_weaker result
    (λ e. e
    ∙ (ap (rows_with c old (content_by s r) receipt) (sym (switch_stays s r old.switch))
    ∙ (ap (λ x. rows_with c old x receipt (raw_switch_after x old.switch)) (sym content)
    ∙ ap (λ x. rows_with c old c.edit.content x (raw_switch_after c.edit.content old.switch)) same)))
    ok

abbrev rows : ℤ → ℤ → List RawReceipt → List RawRule → RawTables
rows format switched receipts rules = record { format = format; switch = switched; receipts = receipts; rules = rules }

-- rows of equal receipts and equal rules
pub same_rows : (format switched : ℤ) (receipts others : List RawReceipt) (rules changed : List RawRule) → receipts ≡ others → rules ≡ changed → rows format switched receipts rules ≡ rows format switched others changed
same_rows format switched receipts others rules changed e is = ap (λ l. rows format switched l rules) e ∙ ap (rows format switched others) is
