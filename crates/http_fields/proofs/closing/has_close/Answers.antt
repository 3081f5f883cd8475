use Rattle.std.proofs.Common.{◌||◌, ◌+◌, drop, sym, ap, ◌∙◌}
use Rattle.http_model.specs.Fields as spec
use Rattle.http_fields.proofs.Members.{first_member, last_member}
use Rattle.http_fields.proofs.closing.has_close.Goals as goal

pub returns-then-is_close : goal.returns-then-is_close
returns-then-is_close c =
    let first = first_member c.loop-comma.rest.now c.in-Some.comma (sym c.find_comma.ensures ∙ c.in-Some.is) in
    let is = c.if-is_close.ensures ∙ ap spec.is_close c.split_at.ensures.front in
    sym (first ∙ ap (λ b. b || spec.has_close (drop (c.in-Some.comma + 1) c.loop-comma.rest.now)) (sym is)) ∙ c.loop-comma.invariant

pub loop-comma-preserved : goal.loop-comma-preserved
loop-comma-preserved c =
    let first = first_member c.loop-comma.rest.now c.in-Some.comma (sym c.find_comma.ensures ∙ c.in-Some.is) in
    let is = c.if-is_close.ensures ∙ ap spec.is_close c.split_at.ensures.front in
    ap spec.has_close c.split_at-in-Some.ensures.back ∙ sym (first ∙ ap (λ b. b || spec.has_close (drop (c.in-Some.comma + 1) c.loop-comma.rest.now)) (sym is)) ∙ c.loop-comma.invariant

pub returns : goal.returns
returns c = c.is_close-2.ensures ∙ sym (last_member c.loop-comma.rest.now (sym c.find_comma.ensures ∙ c.in_default.is)) ∙ c.loop-comma.invariant
