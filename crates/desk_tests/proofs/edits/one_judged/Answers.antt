-- What was judged before an edit, or before another was finished, is still of the desk.
use Rattle.desk_tests.proofs.edits.one_judged.Goals as goal

pub settles-moved-requires : goal.settles-moved-requires
settles-moved-requires c = c.made-added.ensures _ _ _ _ _ c.in_ok-before.ensures

pub settles-inhibited-requires : goal.settles-inhibited-requires
settles-inhibited-requires c = c.settles-moved.ensures _ _ _ _ _ c.in_ok-after.ensures
