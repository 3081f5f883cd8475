use Rattle.std.proofs.Common.{◌≡◌, ℕ, List, length, drop, take, ap, ◌∙◌}
use Rattle.code_directory.specs.Directories.{to_zero, identifier, identifier_offset}
use Rattle.code_directory.specs.Signatures.{Placed}
use Rattle.code_directory.proofs.Identifiers.{is_front, fits}
use Rattle.code_directory.proofs.directory.Directory.identifier_bytes.Goals as goal

value : (bytes from : List ℕ) (start size : ℕ) (found : List ℕ) → found ≡ take size from → size ≡ length (to_zero from) → from ≡ drop start bytes → start ≡ identifier_offset bytes → found ≡ identifier bytes
value bytes from start size found f s b o = f ∙ ap (λ n. take n from) s ∙ is_front from ∙ ap to_zero (b ∙ ap (λ n. drop n bytes) o)

pub returns : goal.returns
returns c =
    let is = value c.self.inside.bytes.now c.behind-from_start.result.now c.number-start.result c.to_zero.result c.front.result.now c.front.ensures c.to_zero.ensures.size c.behind-from_start.ensures c.number-start.ensures in
    record { value = is ∙ ap (λ (d : Placed). identifier d.bytes) c.self.view_is; fits = rw is (fits c.self.inside.bytes.now c.self.invariant.named) }
