-- The words are clap's, or there are none.
use Rattle.std.proofs.Common.{◌≡◌, ℕ, List, Some, None, IfOk, option_map, subst, codes}
use Rattle.clap.specs.Words.{found_of}
use Rattle.command_words.specs.Table.{in_table}
use Rattle.command_words.specs.Views.{command_view}
use Rattle.command_words.proofs.Values.{values_are}
use Rattle.command_words.proofs.reading.command_from.Goals as goal

pub returns-in-Some : goal.returns-in-Some
returns-in-Some c = subst (λ (more : List (List ℕ)). IfOk c.command_of.result (λ command. option_map command_view command ≡ in_table c.args.word.now more))
    (values_are (found_of c.args.matches.now) (codes "words") c.get_strs.result (Some c.in-Some.more) c.get_strs.ensures c.in-Some.is) c.command_of.ensures

pub returns-in-None : goal.returns-in-None
returns-in-None c = subst (λ (more : List (List ℕ)). IfOk c.command_of-in-None.result (λ command. option_map command_view command ≡ in_table c.args.word.now more))
    (values_are (found_of c.args.matches.now) (codes "words") c.get_strs.result None c.get_strs.ensures c.in-None.is) c.command_of-in-None.ensures
