-- What is known of a hash, and one fact more.
use Rattle.std.specs.Prelude.{ℕ, Bool, true, false, not, ◌&&◌, if◌then◌else◌, List, length, Option, None, Some, Result, Ok, Err}
use Rattle.req_tree.specs.Facts as f
use Rattle.req_tree.specs.Facts.{Known, Value}
use Rattle.fact_values.specs.declared.place.Place.{Place}
use Rattle.fact_values.specs.Knowledge.{has_flag, trusted_at, value_at}
use Rattle.fact_values.specs.Growth.{with_flag, with_anchor_name, with_code_name, with_certificate, with_trust, with_value_at, with_item_at}
use Rattle.code_facts.specs.declared.fault.FactFault.{FactFault}
use Rattle.code_facts.specs.declared.fault.FactFault.TheVariants.{BadRow, Twice}
use Rattle.code_facts.specs.Rows.{Given, text, truth, item, Fact, flag, anchor_name, code_name, certificate, trust, entry}
use Rattle.code_facts.specs.FactsFile.{fits, is_item}

-- the value is a list of texts
abbrev pub is_list : Value → Bool
is_list (f.text bytes) = false
is_list (f.truth b) = false
is_list (f.texts first others) = true

-- a list takes further members, a key without a value takes anything
abbrev pub is_given_twice : Given → Option Value → Bool
is_given_twice given None = false
is_given_twice given (Some value) = not (is_item given && is_list value)

-- what is known already has the fact, or another value in its place
abbrev pub is_known : Fact → Known → Bool
is_known (flag which) k = has_flag which k
is_known (anchor_name name) k = k.anchor_name name
is_known (code_name name) k = k.code_name name
is_known (certificate place hash) k = false
is_known (trust place) k = trusted_at place k
is_known (entry place key given) k = is_given_twice given (value_at place k key)

-- what is known with what is given to a key of a place: a value by itself, or one member of its list
abbrev pub with_given : Place → List ℕ → Given → Known → Known
with_given place key (text bytes) k = with_value_at place key (f.text bytes) k
with_given place key (truth b) k = with_value_at place key (f.truth b) k
with_given place key (item bytes) k = with_item_at place key bytes k

-- what is known with the fact
abbrev pub with_fact : Fact → Known → Known
with_fact (flag which) k = with_flag which k
with_fact (anchor_name name) k = with_anchor_name name k
with_fact (code_name name) k = with_code_name name k
with_fact (certificate place hash) k = with_certificate hash k
with_fact (trust place) k = with_trust place k
with_fact (entry place key given) k = with_given place key given k

-- what is known with the fact, or what is wrong with its row first
abbrev pub grown : ℕ → Fact → Known → Result Known FactFault
grown number fact k =
    if not (fits (length k.chain) fact) then Err (BadRow number)
    else if is_known fact k then Err (Twice number)
    else Ok (with_fact fact k)
