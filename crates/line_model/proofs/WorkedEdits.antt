-- Lines of edits and of contents with what they ask for, or the first fault with its column, computed by the definitions
-- alone. What the texts of requirements read as is handed in.
use Rattle.std.specs.Prelude.{◌≡◌, ℕ, pos, List, [], ◌∷◌, ◌++◌, replicate, refl, codes, Some, None, Ok, Err, false}
use Rattle.std.specs.Fmt.{digits}
use Rattle.hex.specs.Hex.{decode_pairs}
use Rattle.req_tree.specs.Tree.{always}
use Rattle.req_grammar.specs.Readings.{IsRequirementText}
use Rattle.req_tokens.specs.declared.fault.TextFault.TheVariants.{Syntax, TooDeep}
use Rattle.policy_model.specs.Rules.{execute, install}
use Rattle.policy_model.specs.Contents.{Content, add, by_id, by_label, remove, enable, disable, expire, switch}
use Rattle.line_model.specs.LineFaults.{LineFault, line_fault_text, bad_line, bad_requirement, bad_priority, bad_moment, bad_label, bad_key, requirement_too_long}
use Rattle.line_model.specs.Contents.{content_at}
use Rattle.line_model.specs.Edits.{edit_at, keyed, by_words, IsEditLine, IsContentLine}

-- the line asks for this content under the key k
abbrev Edits : List ℕ → Content → Type 0
Edits line content = IsEditLine line (Ok (keyed (codes "k") content))

-- the line has this first fault
abbrev Refused : List ℕ → LineFault → Type 0
Refused line fault = by_words edit_at line ≡ Err fault

-- the text has this first fault
abbrev RefusedContent : List ℕ → LineFault → Type 0
RefusedContent text fault = by_words content_at text ≡ Err fault

a_rule_is_removed : Edits (codes "remove k id 7 any") (remove (record { which = by_id 7; kind = None }))
a_rule_is_removed = refl

zeros_before_a_number : Edits (codes "enable k id 000007 install") (enable (record { which = by_id 7; kind = Some install }))
zeros_before_a_number = refl

the_last_number : Edits (codes "disable k id 100000 any") (disable (record { which = by_id 100000; kind = None }))
the_last_number = refl

rules_with_a_label_expire : Edits (codes "expire k label Old%20name execute 4000000000")
    (expire (record { which = by_label (codes "Old name"); kind = Some execute }) (Some 4000000000))
unfolding decode_pairs
rules_with_a_label_expire = refl

rules_never_expire : Edits (codes "expire k label a any never") (expire (record { which = by_label (codes "a"); kind = None }) None)
rules_never_expire = refl

assessments_are_switched_off : Edits (codes "switch k off") (switch false)
assessments_are_switched_off = refl

a_rule_is_added : IsRequirementText (codes "always") always
    → Edits (codes "add k install deny 2 77 - - always") (add (record {
      kind = install;
      allow = false;
      priority = pos 2000000;
      expires = Some 77;
      label = [];
      is_default = false;
      inhibit = false;
      text = codes "always";
      tree = always;
    }))
a_rule_is_added says = (Ok always, says, refl)

a_content_without_key : IsContentLine (codes "disable id 7 any") (Ok (disable (record { which = by_id 7; kind = None })))
a_content_without_key = refl

-- each fault, with its column

an_empty_line : Refused [] (bad_line 1)
an_empty_line = refl

another_first_word : Refused (codes "removes k id 7 any") (bad_line 1)
another_first_word = refl

no_key : Refused (codes "remove") (bad_line 7)
no_key = refl

an_empty_key : Refused (codes "remove  id 7 any") bad_key
an_empty_key = refl

a_key_before_the_rest : Refused (codes "expire k/1 id 0 any soon") bad_key
a_key_before_the_rest = refl

no_selector : Refused (codes "remove k") (bad_line 9)
no_selector = refl

neither_id_nor_label : Refused (codes "remove k name a any") (bad_line 10)
neither_id_nor_label = refl

the_number_zero : Refused (codes "remove k id 0 any") (bad_line 13)
the_number_zero = refl

six_zeros : Refused (codes "remove k id 000000 any") (bad_line 13)
six_zeros = refl

seven_digits : Refused (codes "remove k id 0000007 any") (bad_line 13)
seven_digits = refl

above_the_last_number : Refused (codes "remove k id 100001 any") (bad_line 13)
above_the_last_number = refl

no_kind : Refused (codes "remove k id 7") (bad_line 14)
no_kind = refl

another_kind : Refused (codes "remove k id 7 all") (bad_line 15)
another_kind = refl

an_empty_label : Refused (codes "enable k label - any") bad_label
an_empty_label = refl

a_long_label : Refused (codes "enable k label " ++ replicate 129 97 ++ codes " any") bad_label
a_long_label = refl

one_word_too_many : Refused (codes "disable k label a any 1") (bad_line 23)
one_word_too_many = refl

no_expiry : Refused (codes "expire k id 7 any") (bad_line 18)
no_expiry = refl

no_moment : Refused (codes "expire k id 7 any soon") bad_moment
no_moment = refl

a_word_behind_an_expiry : Refused (codes "expire k id 7 any never ") (bad_line 25)
a_word_behind_an_expiry = refl

neither_on_nor_off : Refused (codes "switch k ON") (bad_line 10)
neither_on_nor_off = refl

a_word_behind_off : Refused (codes "switch k off off") (bad_line 14)
a_word_behind_off = refl

no_priority : Refused (codes "add k execute allow 1. never - - always") bad_priority
no_priority = refl

no_requirement : Refused (codes "add k execute allow 0 never - -") (bad_line 32)
no_requirement = refl

a_line_break_in_a_requirement : Refused (codes "add k execute allow 0 never - - a" ++ 10 ∷ codes "b") (bad_line 34)
a_line_break_in_a_requirement = refl

a_key_in_a_content : RefusedContent (codes "remove k id 7 any") (bad_line 8)
a_key_in_a_content = refl

a_content_of_no_verb : RefusedContent (codes "tick 7") (bad_line 1)
a_content_of_no_verb = refl

-- how refusals are printed

a_printed_column : line_fault_text (bad_line 15) ≡ codes "refused line 1 BadLine column=15"
unfolding digits
a_printed_column = refl

a_printed_token : line_fault_text (bad_requirement (Syntax 1)) ≡ codes "refused line 2 BadRequirement 6 Syntax token=1"
unfolding digits
a_printed_token = refl

a_printed_fault_without_fields : line_fault_text (bad_requirement TooDeep) ≡ codes "refused line 2 BadRequirement 7 TooDeep"
a_printed_fault_without_fields = refl

a_printed_name : line_fault_text requirement_too_long ≡ codes "refused line 7 RequirementTooLong"
a_printed_name = refl
