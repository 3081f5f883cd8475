use Rattle.std.proofs.Common.{◌≡◌, Some}
use Rattle.std.proofs.lemmas.Result.{IfOk-weaker}
use Rattle.req_tokens.specs.Terminals.{plains}
use Rattle.req_parser.specs.BadKeys.{cert_key}
use Rattle.req_parser.proofs.KeyPlaces.{front_told}
use Rattle.req_parser.proofs.bad_key.is_bad_front.Goals as goal

pub returns-in_ok-key-in-Some : goal.returns-in_ok-key-in-Some
returns-in_ok-key-in-Some c =
    let stands : cert_key (plains c.args.here.now) ≡ Some c.as_slice.result.now = cc (c.in-Some.ensures, c.in_ok-key-in-Some.ensures, c.as_slice.ensures) in
    IfOk-weaker _ _ _ (λ bad is. front_told (plains c.args.here.now) c.as_slice.result.now bad stands is) c.is_bad_key.ensures
