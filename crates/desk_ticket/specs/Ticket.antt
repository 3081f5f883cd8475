-- The program's tickets as those of the definitions.
use Rattle.std.specs.Arc.{arc_value}
use Rattle.req_tree.specs.Subject.{subject_of}
use Rattle.code_facts.specs.Tables.{table_facts}
use Rattle.rule_values.specs.Kind.{kind_of}
use Rattle.rule_values.specs.Rule.{rows_of}
use Rattle.object_model.specs.Tickets.{Ticket}
use Rattle.desk_ticket.specs.declared.ticket.Ticket as code

-- facts, ask, moment, switch, mark and rules as the assessment began
abbrev pub ticket_of : code.Ticket → Ticket
ticket_of t = record {
  facts = table_facts (arc_value t.facts);
  kind = kind_of t.kind;
  subject = subject_of t.subject;
  keep = t.keep;
  at = t.at;
  enabled = t.enabled;
  mark = t.mark;
  rows = rows_of (arc_value t.rules);
}
