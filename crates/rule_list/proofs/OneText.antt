-- Tables have one text of all their rules.
use Rattle.std.proofs.Common.{sym, ap, ◌∙◌}
use Rattle.std.specs.Prelude.{◌++◌}
use Rattle.policy_model.specs.Rules.{execute, install, document}
use Rattle.rule_list.specs.ListText.{rule_lines}
use Rattle.rule_list.specs.Laws.{OrderIsOne, ListTextIsOne}

pub list_text_is_one : OrderIsOne → ListTextIsOne
list_text_is_one order t a b own one other =
    one.all
    ∙ ap (λ rows. rule_lines rows ++ rule_lines one.installs ++ rule_lines one.documents) (order t execute one.executes other.executes own one.first other.first)
    ∙ ap (λ rows. rule_lines other.executes ++ rule_lines rows ++ rule_lines one.documents) (order t install one.installs other.installs own one.second other.second)
    ∙ ap (λ rows. rule_lines other.executes ++ rule_lines other.installs ++ rule_lines rows) (order t document one.documents other.documents own one.third other.third)
    ∙ sym other.all
