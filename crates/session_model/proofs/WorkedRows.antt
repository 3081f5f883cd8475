-- Worked sessions, computed by the definitions alone: lines, and the replies that were worked out by hand. What the
-- texts of requirements read as is handed in: `req_grammar` has the rows of texts.
use Rattle.std.specs.Prelude.{◌≡◌, ℕ, List, [], ◌∷◌, ◌++◌, replicate, refl, codes, Ok, Err}
use Rattle.std.proofs.Common.{inl, inr}
use Rattle.std.specs.Fmt.{digits}
use Rattle.hex.specs.Hex.{decode_pairs}
use Rattle.req_tree.specs.Facts.{no_facts}
use Rattle.req_tree.specs.Tree.{always, cd_hash}
use Rattle.req_grammar.specs.Readings.{IsRequirementText}
use Rattle.policy_model.specs.Texts.{places, add_front, content_text}
use Rattle.policy_model.specs.History.{fresh}
use Rattle.policy_model.specs.ReplyTexts.{verdict_text}
use Rattle.line_model.specs.LineFaults.{LineFault, bad_line, bad_moment, bad_label, bad_key}
use Rattle.session_model.specs.Lines.{lined}
use Rattle.session_model.specs.Session as session
use Rattle.session_model.specs.Session.{begun}
use Rattle.session_model.specs.StatusText.{status_line}
use Rattle.req_tokens.specs.declared.fault.TextFault.TheVariants.{Syntax}
use Rattle.req_parser.specs.Failures.{FailsText}

-- a session of a fresh desk has these replies to these lines
abbrev Answers : List (List ℕ) → List (List ℕ) → Type 0
Answers lines replies = session.Answers (fresh no_facts) begun lines replies

abbrev ones : List ℕ
ones = replicate 40 49

-- forty ones, com.example.app and the platform 0
abbrev assess_line : List ℕ
assess_line = codes "assess execute " ++ ones ++ codes " com.example.app 0"

-- one rule
one_rule : IsRequirementText (codes "always") always → Answers
    (codes "tick 100" ∷ codes "add k1 execute allow 0 never - - always" ∷ assess_line ∷ [])
    (codes "now=100" ∷ codes "ok edit=1 rules=1"
    ∷ codes "accepted at=100 rule=1 latent=none label=- override=none source=rules cache=kept" ∷ [])
unfolding digits decode_pairs places add_front content_text verdict_text status_line
one_rule says = (_, (_, _, refl, inl (refl, refl), (_, _, (_, (Ok always, says, refl), refl), inl (refl, refl), (_, _, refl, inl (refl, refl), refl))))

-- of two rules of one priority the older decides
tie : IsRequirementText (codes "always") always → Answers
    (codes "add a execute deny 5 never first - always" ∷ codes "add b execute allow 5 never second - always"
    ∷ assess_line ∷ [])
    (codes "ok edit=1 rules=1" ∷ codes "ok edit=2 rules=1"
    ∷ codes "rejected at=0 rule=1 latent=none label=first override=none source=rules cache=kept" ∷ [])
unfolding digits decode_pairs places add_front content_text verdict_text status_line
tie says = (_, (_, _, (_, (Ok always, says, refl), refl), inl (refl, refl), (_, _, (_, (Ok always, says, refl), refl), inl (refl, refl), (_, _, refl, inl (refl, refl), refl))))

-- an edit of a rule that is tried before moves the outcome of what was begun
overtaken : IsRequirementText (codes "always") always → Answers
    (codes "add lo execute allow 1 never - - always"
    ∷ (codes "begin 1 execute " ++ ones ++ codes " com.example.app 0")
    ∷ codes "add hi execute deny 9 never - - always" ∷ codes "finish 1" ∷ assess_line ∷ [])
    (codes "ok edit=1 rules=1" ∷ codes "begun 1 at=0" ∷ codes "ok edit=2 rules=1"
    ∷ codes "accepted at=0 rule=1 latent=none label=- override=none source=rules cache=moved"
    ∷ codes "rejected at=0 rule=2 latent=none label=- override=none source=rules cache=kept" ∷ [])
unfolding digits decode_pairs places add_front content_text verdict_text status_line
overtaken says = (_, (_, _, (_, (Ok always, says, refl), refl), inl (refl, refl), (_, _, refl, inl (refl, refl), (_, _, (_, (Ok always, says, refl), refl), inl (refl, refl), (_, _, refl, inl (refl, refl), (_, _, refl, inl (refl, refl), refl))))))

-- an edit of a rule that is tried later leaves it
overtaken_behind : IsRequirementText (codes "always") always → Answers
    (codes "add lo execute allow 9 never - - always"
    ∷ (codes "begin 1 execute " ++ ones ++ codes " com.example.app 0")
    ∷ codes "add hi execute deny 1 never - - always" ∷ codes "finish 1" ∷ assess_line ∷ [])
    (codes "ok edit=1 rules=1" ∷ codes "begun 1 at=0" ∷ codes "ok edit=2 rules=1"
    ∷ codes "accepted at=0 rule=1 latent=none label=- override=none source=rules cache=kept"
    ∷ codes "accepted at=0 rule=1 latent=none label=- override=none source=cache cache=none" ∷ [])
unfolding digits decode_pairs places add_front content_text verdict_text status_line
overtaken_behind says = (_, (_, _, (_, (Ok always, says, refl), refl), inl (refl, refl), (_, _, refl, inl (refl, refl), (_, _, (_, (Ok always, says, refl), refl), inl (refl, refl), (_, _, refl, inl (refl, refl), (_, _, refl, inl (refl, refl), refl))))))

-- an outcome is kept up to the end of its rule
until_its_end : IsRequirementText (codes "always") always → Answers
    (codes "add a execute allow 9 100 - - always" ∷ codes "add b execute deny 1 never - - always" ∷ codes "tick 98"
    ∷ assess_line ∷ codes "tick 99" ∷ assess_line ∷ codes "tick 100" ∷ assess_line ∷ [])
    (codes "ok edit=1 rules=1" ∷ codes "ok edit=2 rules=1" ∷ codes "now=98"
    ∷ codes "accepted at=98 rule=1 latent=none label=- override=none source=rules cache=kept" ∷ codes "now=99"
    ∷ codes "accepted at=99 rule=1 latent=none label=- override=none source=cache cache=none" ∷ codes "now=100"
    ∷ codes "rejected at=100 rule=2 latent=none label=- override=none source=rules cache=kept" ∷ [])
unfolding digits decode_pairs places add_front content_text verdict_text status_line
until_its_end says = (_, (_, _, (_, (Ok always, says, refl), refl), inl (refl, refl), (_, _, (_, (Ok always, says, refl), refl), inl (refl, refl), (_, _, refl, inl (refl, refl), (_, _, refl, inl (refl, refl), (_, _, refl, inl (refl, refl), (_, _, refl, inl (refl, refl), (_, _, refl, inl (refl, refl), (_, _, refl, inl (refl, refl), refl)))))))))

-- a default is kept for 60 seconds
a_default_for_a_minute : Answers
    (codes "tick 200" ∷ codes "tick 100" ∷ assess_line ∷ codes "tick 259" ∷ codes "status" ∷ codes "tick 260"
    ∷ codes "status" ∷ [])
    (codes "now=200" ∷ codes "now=200"
    ∷ codes "rejected at=200 rule=none latent=none label=no%20matching%20rule override=none source=rules cache=kept"
    ∷ codes "now=259" ∷ codes "status assessments=enabled rules=0 receipts=0 objects=1 now=259" ∷ codes "now=260"
    ∷ codes "status assessments=enabled rules=0 receipts=0 objects=0 now=260" ∷ [])
unfolding digits decode_pairs places add_front content_text verdict_text status_line
a_default_for_a_minute = (_, (_, _, refl, inl (refl, refl), (_, _, refl, inl (refl, refl), (_, _, refl, inl (refl, refl), (_, _, refl, inl (refl, refl), (_, _, refl, inl (refl, refl), (_, _, refl, inl (refl, refl), (_, _, refl, inl (refl, refl), refl))))))))

-- a key acts once, and an edit needs a rule
repeats : IsRequirementText (codes "always") always → Answers
    (codes "remove k id 1 any" ∷ codes "add k execute allow 0 never - - always"
    ∷ codes "add k execute allow 0 never - - always" ∷ codes "add k execute deny 0 never - - always" ∷ codes "status"
    ∷ [])
    (codes "refused edit 11 NoRule" ∷ codes "ok edit=1 rules=1" ∷ codes "repeated edit=1 rules=1"
    ∷ codes "refused edit 12 KeyReused edit=1 rules=1"
    ∷ codes "status assessments=enabled rules=1 receipts=1 objects=0 now=0" ∷ [])
unfolding digits decode_pairs places add_front content_text verdict_text status_line
repeats says = (_, (_, _, (_, refl, refl), inl (refl, refl), (_, _, (_, (Ok always, says, refl), refl), inl (refl, refl), (_, _, (_, (Ok always, says, refl), refl), inl (refl, refl), (_, _, (_, (Ok always, says, refl), refl), inl (refl, refl), (_, _, refl, inl (refl, refl), refl))))))

-- an edit that the keeper failed to keep changed nothing, and may be tried again under its key
not_kept : IsRequirementText (codes "always") always → Answers
    (codes "add k1 execute allow 0 never - - always" ∷ codes "status" ∷ codes "add k1 execute allow 0 never - - always"
    ∷ codes "add k1 execute allow 0 never - - always" ∷ [])
    (codes "refused edit 16 KeeperFault" ∷ codes "status assessments=enabled rules=0 receipts=0 objects=0 now=0"
    ∷ codes "ok edit=1 rules=1" ∷ codes "repeated edit=1 rules=1" ∷ [])
unfolding digits decode_pairs places add_front content_text verdict_text status_line
not_kept says = (_, (_, _, (_, (Ok always, says, refl), refl), inr (tt, (refl, refl)), (_, _, refl, inl (refl, refl), (_, _, (_, (Ok always, says, refl), refl), inl (refl, refl), (_, _, (_, (Ok always, says, refl), refl), inl (refl, refl), refl)))))

-- the switch drops nothing: what is kept is the outcome before the override
switched : IsRequirementText (codes "always") always → Answers
    (codes "add d execute deny 0 never Blocked - always" ∷ codes "switch s1 off" ∷ assess_line ∷ codes "switch s2 on"
    ∷ assess_line ∷ [])
    (codes "ok edit=1 rules=1" ∷ codes "ok edit=2 rules=0"
    ∷ codes "accepted at=0 rule=1 latent=none label=Blocked override=security%20disabled source=rules cache=kept"
    ∷ codes "ok edit=3 rules=0"
    ∷ codes "rejected at=0 rule=1 latent=none label=Blocked override=none source=cache cache=none" ∷ [])
unfolding digits decode_pairs places add_front content_text verdict_text status_line
switched says = (_, (_, _, (_, (Ok always, says, refl), refl), inl (refl, refl), (_, _, (_, refl, refl), inl (refl, refl), (_, _, refl, inl (refl, refl), (_, _, (_, refl, refl), inl (refl, refl), (_, _, refl, inl (refl, refl), refl))))))

-- a disabled rule is latent, by its number and by its label
disabled : IsRequirementText (codes "always") always → Answers
    (codes "add a execute allow 0 never Dev%20ID - always" ∷ codes "disable b id 1 execute" ∷ assess_line
    ∷ codes "enable c label Dev%20ID any" ∷ assess_line ∷ [])
    (codes "ok edit=1 rules=1" ∷ codes "ok edit=2 rules=1"
    ∷ codes "rejected at=0 rule=none latent=1 label=Dev%20ID override=none source=rules cache=kept"
    ∷ codes "ok edit=3 rules=1"
    ∷ codes "accepted at=0 rule=1 latent=none label=Dev%20ID override=none source=rules cache=kept" ∷ [])
unfolding digits decode_pairs places add_front content_text verdict_text status_line
disabled says = (_, (_, _, (_, (Ok always, says, refl), refl), inl (refl, refl), (_, _, (_, refl, refl), inl (refl, refl), (_, _, refl, inl (refl, refl), (_, _, (_, refl, refl), inl (refl, refl), (_, _, refl, inl (refl, refl), refl))))))

-- of two that are begun the first is kept
twice : Answers
    ((codes "begin 1 execute " ++ ones ++ codes " com.example.app 0")
    ∷ (codes "begin 2 execute " ++ ones ++ codes " com.example.app 0") ∷ codes "finish 1" ∷ codes "finish 2"
    ∷ (codes "assess install " ++ ones ++ codes " com.example.app 0 nocache") ∷ [])
    (codes "begun 1 at=0" ∷ codes "begun 2 at=0"
    ∷ codes "rejected at=0 rule=none latent=none label=no%20matching%20rule override=none source=rules cache=kept"
    ∷ codes "rejected at=0 rule=none latent=none label=no%20matching%20rule override=none source=rules cache=twice"
    ∷ codes "rejected at=0 rule=none latent=none label=no%20matching%20rule override=none source=rules cache=inhibited"
    ∷ [])
unfolding digits decode_pairs places add_front content_text verdict_text status_line
twice = (_, (_, _, refl, inl (refl, refl), (_, _, refl, inl (refl, refl), (_, _, refl, inl (refl, refl), (_, _, refl, inl (refl, refl), (_, _, refl, inl (refl, refl), refl))))))

-- a number is begun once, and finished once
numbers : Answers
    (codes "begin 1 execute unsigned" ∷ codes "begin 001 execute unsigned" ∷ codes "finish 2" ∷ codes "finish 01"
    ∷ codes "finish 1" ∷ codes "assess execute" ∷ codes "tick  5" ∷ [])
    (codes "begun 1 at=0" ∷ codes "refused session 21 SlotBusy" ∷ codes "refused session 22 SlotEmpty"
    ∷ codes "rejected at=0 rule=none latent=none label=no%20usable%20signature override=none source=unsigned cache=none"
    ∷ codes "refused session 22 SlotEmpty" ∷ codes "refused line 1 BadLine column=15"
    ∷ codes "refused line 4 BadMoment" ∷ [])
unfolding digits decode_pairs places add_front content_text verdict_text status_line
numbers = (_, (_, _, refl, inl (refl, refl), (_, _, refl, inl (refl, refl), (_, _, refl, inl (refl, refl), (_, _, refl, inl (refl, refl), (_, _, refl, inl (refl, refl), (_, _, refl, (refl, refl), (_, _, refl, (refl, refl), refl))))))))

-- what the cache answered at its beginning stays so, whatever happened since
known_when_begun : IsRequirementText (codes "always") always → Answers
    (codes "add a execute allow 0 never - - always" ∷ assess_line
    ∷ (codes "begin 1 execute " ++ ones ++ codes " com.example.app 0") ∷ codes "remove r id 1 any" ∷ codes "finish 1"
    ∷ assess_line ∷ [])
    (codes "ok edit=1 rules=1"
    ∷ codes "accepted at=0 rule=1 latent=none label=- override=none source=rules cache=kept" ∷ codes "begun 1 at=0"
    ∷ codes "ok edit=2 rules=1"
    ∷ codes "accepted at=0 rule=1 latent=none label=- override=none source=cache cache=none"
    ∷ codes "rejected at=0 rule=none latent=none label=no%20matching%20rule override=none source=rules cache=kept"
    ∷ [])
unfolding digits decode_pairs places add_front content_text verdict_text status_line
known_when_begun says = (_, (_, _, (_, (Ok always, says, refl), refl), inl (refl, refl), (_, _, refl, inl (refl, refl), (_, _, refl, inl (refl, refl), (_, _, (_, refl, refl), inl (refl, refl), (_, _, refl, inl (refl, refl), (_, _, refl, inl (refl, refl), refl)))))))

no_lines : Answers [] []
no_lines = (_, refl)

-- each fault with its column

abbrev Refused : List ℕ → LineFault → Type 0
Refused line fault = lined line ≡ Err fault

two_spaces : Refused (codes "tick  5") bad_moment
two_spaces = refl

one_word_too_many : Refused (codes "tick 5 ") (bad_line 8)
one_word_too_many = refl

a_word_is_missing : Refused (codes "assess execute") (bad_line 15)
a_word_is_missing = refl

no_kind : Refused (codes "assess run") (bad_line 8)
no_kind = refl

no_requirement : Refused (codes "add k1 execute allow 0 never - -") (bad_line 33)
no_requirement = refl

a_word_behind_unsigned : Refused (codes "assess execute unsigned 0") (bad_line 25)
a_word_behind_unsigned = refl

a_zero_in_an_identifier : Refused (codes "assess execute " ++ ones ++ codes " a%00 0") (bad_line 57)
unfolding decode_pairs
a_zero_in_an_identifier = refl

half_an_escape : Refused (codes "add k execute allow 0 never a%2 - always") bad_label
half_an_escape = refl

no_flags : Refused (codes "add k execute allow 0 never - inhibit+default always") (bad_line 31)
no_flags = refl

an_empty_line : Refused [] (bad_line 1)
an_empty_line = refl

no_form : Refused (codes "list") (bad_line 1)
no_form = refl

no_number : Refused (codes "finish 0") (bad_line 8)
no_number = refl

a_word_behind_nocache : Refused (codes "assess execute unsigned nocache 0") (bad_line 33)
a_word_behind_nocache = refl

no_selector : Refused (codes "remove k label") (bad_line 15)
no_selector = refl

no_rule_of_that_number : Refused (codes "enable k id 0 any") (bad_line 13)
no_rule_of_that_number = refl

no_label : Refused (codes "disable k label - any") bad_label
no_label = refl

no_expiry : Refused (codes "expire k id 1 any") (bad_line 18)
no_expiry = refl

no_key : Refused (codes "switch k/1 on") bad_key
no_key = refl

-- the one fault of a requirement: what the text fails by is handed in
a_bad_requirement : FailsText (codes "identifier and") (Syntax 1) → Answers (codes "add k execute allow 0 never - - identifier and" ∷ []) (codes "refused line 2 BadRequirement 6 Syntax token=1" ∷ [])
unfolding digits decode_pairs
a_bad_requirement fails = (_, (_, _, (_, (Err (Syntax 1), (fails, λ is. cc), refl), refl), (refl, refl), refl))
