-- Worked command lines, computed by the definitions alone.
use Rattle.std.specs.Prelude.{◌≡◌, ℕ, List, [], ◌∷◌, Option, Some, None, refl, codes}
use Rattle.std.specs.Fmt.{digits}
use Rattle.clap.proofs.OnLiterals.{clap_on_literals}
use Rattle.policy_model.specs.Rules.{install}
use Rattle.command_words.specs.Table.{Command, session, on_files, on_tables, rehearse, compile, assess, edit, status}
use Rattle.command_words.specs.Lines.{CommandLine, line_of, store_of}

-- a line without facts
abbrev plain : List ℕ → Command → Option CommandLine
plain store command = Some (record { store = store; facts = None; command = command })

-- a line with the facts of a file
abbrev with_facts : List ℕ → List ℕ → Command → Option CommandLine
with_facts store name command = Some (record { store = store; facts = Some name; command = command })

a_session : line_of (codes ":memory:" ∷ codes "session" ∷ []) ≡ plain (codes ":memory:") session
unfolding clap_on_literals
a_session = refl

nothing : line_of [] ≡ None
unfolding clap_on_literals
nothing = refl

a_store_alone : line_of (codes ":memory:" ∷ []) ≡ None
unfolding clap_on_literals
a_store_alone = refl

another_word : line_of (codes ":memory:" ∷ codes "frob" ∷ []) ≡ None
unfolding clap_on_literals
another_word = refl

a_word_too_many : line_of (codes "s" ∷ codes "status" ∷ codes "a" ∷ []) ≡ None
unfolding clap_on_literals
a_word_too_many = refl

facts_in_front : line_of (codes "--facts" ∷ codes "f" ∷ codes "s" ∷ codes "session" ∷ []) ≡ with_facts (codes "s") (codes "f") session
unfolding clap_on_literals
facts_in_front = refl

facts_behind : line_of (codes "s" ∷ codes "compile" ∷ codes "a" ∷ codes "--facts" ∷ codes "f" ∷ []) ≡ with_facts (codes "s") (codes "f") (on_files (compile (codes "a")))
unfolding clap_on_literals
facts_behind = refl

facts_in_one_word : line_of (codes "s" ∷ codes "--facts=f" ∷ codes "status" ∷ []) ≡ with_facts (codes "s") (codes "f") (on_tables status)
unfolding clap_on_literals
facts_in_one_word = refl

facts_twice : line_of (codes "--facts" ∷ codes "f" ∷ codes "s" ∷ codes "session" ∷ codes "--facts" ∷ codes "g" ∷ []) ≡ None
unfolding clap_on_literals
facts_twice = refl

facts_of_no_file : line_of (codes "s" ∷ codes "session" ∷ codes "--facts" ∷ []) ≡ None
unfolding clap_on_literals
facts_of_no_file = refl

help : line_of (codes "--help" ∷ []) ≡ None
unfolding clap_on_literals
help = refl

below_zero : line_of (codes "s" ∷ codes "add" ∷ codes "k" ∷ codes "-1" ∷ []) ≡ None
unfolding clap_on_literals
below_zero = refl

below_zero_behind : line_of (codes "s" ∷ codes "add" ∷ codes "--" ∷ codes "k" ∷ codes "-1" ∷ codes "-" ∷ []) ≡ plain (codes "s") (on_tables (edit (codes "add k -1 -")))
unfolding clap_on_literals
below_zero_behind = refl

a_kind : line_of (codes "s" ∷ codes "assess" ∷ codes "install" ∷ codes "a" ∷ codes "b" ∷ []) ≡ plain (codes "s") (on_files (assess install (codes "a") (Some (codes "b"))))
unfolding clap_on_literals
a_kind = refl

no_kind : line_of (codes "s" ∷ codes "assess" ∷ codes "any" ∷ codes "a" ∷ []) ≡ None
unfolding clap_on_literals
no_kind = refl

steps : line_of (codes "s" ∷ codes "rehearse" ∷ codes "10000" ∷ []) ≡ plain (codes "s") (rehearse 10000)
unfolding clap_on_literals digits
steps = refl

too_many_steps : line_of (codes "s" ∷ codes "rehearse" ∷ codes "10001" ∷ []) ≡ None
unfolding clap_on_literals digits
too_many_steps = refl

zeros_in_front : line_of (codes "s" ∷ codes "rehearse" ∷ codes "01" ∷ []) ≡ None
unfolding clap_on_literals digits
zeros_in_front = refl

a_store : store_of (codes "rules.db" ∷ codes "list" ∷ []) ≡ codes "rules.db"
unfolding clap_on_literals
a_store = refl

no_line_no_store : store_of (codes "rules.db" ∷ codes "frob" ∷ []) ≡ codes ":memory:"
unfolding clap_on_literals
no_line_no_store = refl
