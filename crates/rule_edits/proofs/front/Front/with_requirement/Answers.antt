-- A text that reads as a requirement makes no deep tree.
use Rattle.rule_edits.proofs.front.Front.with_requirement.Goals as goal

pub new-requires : goal.new-requires
new-requires c = c.requires.reads.shallow
