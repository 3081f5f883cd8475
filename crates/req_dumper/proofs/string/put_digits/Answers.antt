use Rattle.std.proofs.Common.{◌≡◌, ◌++◌, ◌∷◌, [], ℕ, List, take, ap, ◌∙◌}
use Rattle.std.proofs.lemmas.List.{take_all}
use Rattle.std.specs.List.{flat_map}
use Rattle.hex.specs.Hex.{encode_lower}
use Rattle.req_dumper.proofs.Digits.{each_byte}
use Rattle.req_dumper.proofs.string.put_digits.Goals as goal

pub returns : goal.returns
returns c =
    let bytes = c.args.bytes.now in
    let all : take c.loop-byte.byte-index bytes ≡ bytes = take_all c.loop-byte.byte-index bytes c.loop-byte-test.false in
    c.loop-byte.invariant
    ∙ ap (λ (l : List ℕ). c.args.out.now.items ++ flat_map (λ b. encode_lower (b ∷ [])) l) all
    ∙ ap (λ (l : List ℕ). c.args.out.now.items ++ l) (each_byte bytes)
