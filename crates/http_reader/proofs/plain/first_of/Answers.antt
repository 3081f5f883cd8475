use Rattle.std.proofs.Common.{refl, sym, ap, ◌++◌, ◌∙◌, drop, take-append-drop}
use Rattle.http_reader.proofs.PlainStream.{first_is}
use Rattle.http_reader.proofs.plain.first_of.Goals as goal

pub returns-in-Head-clause-first : goal.returns-in-Head-clause-first
returns-in-Head-clause-first c =
    let cut = sym (take-append-drop c.min.result c.args.bytes.now) ∙ ap (λ t. t ++ drop c.min.result c.args.bytes.now) (sym c.split_at.ensures.front) in
    first_is c.heads_come_in_pieces.ensures.stay c.args.count _ c.args.bytes.now _ _ c.look.new.fields c.in-Head.spans cut refl c.in-Head.ensures.looked c.measured_off.result c.measured_off.ensures
