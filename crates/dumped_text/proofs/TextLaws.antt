-- A dumped text is that of the normal form.
use Rattle.std.proofs.Common.{◌≤◌, List, length, sym, subst}
use Rattle.req_tree.specs.Tree.{Tree}
use Rattle.req_tree.specs.Normal.{normal}
use Rattle.req_tree.specs.Spellable.{IsShallow}
use Rattle.req_grammar.specs.declared.limits.TheConstants.{MOST_TEXT_BYTES}
use Rattle.req_grammar.specs.Terminals.{Terminal}
use Rattle.req_grammar.specs.Readings.{Reads, HasFewOpen, IsRequirementText}
use Rattle.dumped_text.specs.Dumped.{dumped}
use Rattle.dumped_text.specs.Sayable.{IsSayable}
use Rattle.dumped_text.proofs.ReadBack.{read_back}
use Rattle.dumped_text.proofs.Parens.{few_open}
use Rattle.dumped_text.proofs.TreeTexts.{text_says}

pub text_is_normal : (tree : Tree) → IsSayable tree → length (dumped tree) ≤ MOST_TEXT_BYTES → IsShallow (normal tree) → IsRequirementText (dumped tree) (normal tree)
text_is_normal tree h short shallow =
    let told = text_says tree h in
    record {
      tokens = told.0;
      cut = record { short = short; tokens_are = told.1 };
      opens = subst HasFewOpen (sym told.2) (few_open tree shallow);
      reads = subst (λ (l : List Terminal). Reads l (normal tree)) (sym told.2) (read_back tree h);
      shallow = shallow;
    }
