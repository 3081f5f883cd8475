use Rattle.std.proofs.Common.{◌∷◌, take, map, ap, sym, ◌∙◌}
use Rattle.std.proofs.lemmas.List.{take-map}
use Rattle.object_model.specs.declared.limits.TheConstants.{LATE_EDITS}
use Rattle.rule_values.specs.Rank.{rank_view}
use Rattle.object_cache.proofs.late_ranks.LateRanks.note.Goals as goal

pub returns : goal.returns
returns c =
    ap (λ b. map rank_view b.items) c.push_front.ensures.items
    ∙ ap (λ n. map rank_view (take n (c.args.first ∷ c.args.self.now.ranks.items))) c.args.self.now.room
    ∙ sym (take-map rank_view LATE_EDITS (c.args.first ∷ c.args.self.now.ranks.items))
