-- The first word of an edit as one of the definitions.
use Rattle.line_model.specs.Contents as model
use Rattle.line_model.specs.Contents.{add_verb, remove_verb, enable_verb, disable_verb, expire_verb, switch_verb}
use Rattle.rule_edits.specs.declared.verb.Verb.{Verb}
use Rattle.rule_edits.specs.declared.verb.Verb.TheVariants.{Add, Remove, Enable, Disable, Expire, Switch}

-- the verb of the definitions
abbrev pub verb_of : Verb → model.Verb
verb_of Add = add_verb
verb_of Remove = remove_verb
verb_of Enable = enable_verb
verb_of Disable = disable_verb
verb_of Expire = expire_verb
verb_of Switch = switch_verb
