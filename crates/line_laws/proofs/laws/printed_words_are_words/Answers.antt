use Rattle.line_laws.proofs.PrintedWords.{bytes_word, expiry_prints, priority_prints, kind_prints, verdict_prints, flags_print}
use Rattle.line_laws.proofs.laws.printed_words_are_words.Goals as goal

pub returns-clause-bytes : goal.returns-clause-bytes
returns-clause-bytes c = bytes_word

pub returns-clause-expiry : goal.returns-clause-expiry
returns-clause-expiry c = expiry_prints

pub returns-clause-priority : goal.returns-clause-priority
returns-clause-priority c = priority_prints c.places_are_the_fraction.ensures.stand

pub returns-clause-kind : goal.returns-clause-kind
returns-clause-kind c = kind_prints

pub returns-clause-verdict : goal.returns-clause-verdict
returns-clause-verdict c = verdict_prints

pub returns-clause-flags : goal.returns-clause-flags
returns-clause-flags c = flags_print
