-- What comes back is the plain form of the normal form.
use Rattle.std.proofs.Common.{◌≡◌, ℕ, List, Option, None, Some, refl, ap, subst, ◌∙◌}
use Rattle.std.specs.Prelude.{option_map}
use Rattle.req_tree.specs.Tree.{Tree}
use Rattle.req_tree.specs.TreeSet.{TreeSet}
use Rattle.req_tree.specs.Normal.{IsSpoken, normal}
use Rattle.req_blob.specs.Spelling.{IsSpelling, IsPlain}
use Rattle.req_ops.specs.Sets.{IsSetSpelling}
use Rattle.req_ops.specs.SetEncoding.{IsPlainSet}
use Rattle.dumped_text.specs.Sets.{normal_set}
use Rattle.req_language.specs.Promise.{KeepsMeaning, KeepsPart, KeepsSet, IsSpokenPart, IsSpokenSet, ComesBack, SetComesBack}

pub comes_back : ((first second : Tree) (bytes : List ℕ) → IsSpelling first bytes → IsSpelling second bytes → first ≡ second)
    → ((tree : Tree) (a b : List ℕ) → IsPlain tree a → IsPlain tree b → a ≡ b)
    → ((tree : Tree) → IsSpoken (normal tree)) → ((tree : Tree) → KeepsMeaning tree) → ((tree : Tree) → IsSpoken tree → normal tree ≡ tree)
    → (tree : Tree) (bytes again : List ℕ) → IsSpelling tree bytes → IsPlain (normal tree) again → ComesBack bytes again
comes_back one plain spoken means own tree bytes again h k = record {
  tree = tree;
  spelt = h;
  plain = k;
  meaning = means tree;
  same = (to, λ p. plain tree again bytes (subst (λ (x : Tree). IsPlain x again) (own tree p.1) k) p.0);
}
  where
    to : again ≡ bytes → IsPlain tree bytes × IsSpoken tree
    to e =
        let here : IsPlain (normal tree) bytes = subst (IsPlain (normal tree)) e k in
        let is : normal tree ≡ tree = one (normal tree) tree bytes here.spelled h in
        (subst (λ (x : Tree). IsPlain x bytes) is here, subst IsSpoken is (spoken tree))

-- ---- sets

part_means : ((tree : Tree) → KeepsMeaning tree) → (part : Option Tree) → KeepsPart part
part_means means None = tt
part_means means (Some tree) = means tree

part_spoken : ((tree : Tree) → IsSpoken (normal tree)) → (part : Option Tree) → IsSpokenPart (option_map normal part)
part_spoken spoken None = tt
part_spoken spoken (Some tree) = spoken tree

part_own : ((tree : Tree) → IsSpoken tree → normal tree ≡ tree) → (part : Option Tree) → IsSpokenPart part → option_map normal part ≡ part
part_own own None h = refl
part_own own (Some tree) h = ap Some (own tree h)

set_own : ((tree : Tree) → IsSpoken tree → normal tree ≡ tree) → (set : TreeSet) → IsSpokenSet set → normal_set set ≡ set
set_own own set h =
    ap (λ (p : Option Tree). record { host = p; guest = option_map normal set.guest; designated = option_map normal set.designated; library = option_map normal set.library; plugin = option_map normal set.plugin }) (part_own own set.host h.host)
    ∙ ap (λ (p : Option Tree). record { host = set.host; guest = p; designated = option_map normal set.designated; library = option_map normal set.library; plugin = option_map normal set.plugin }) (part_own own set.guest h.guest)
    ∙ ap (λ (p : Option Tree). record { host = set.host; guest = set.guest; designated = p; library = option_map normal set.library; plugin = option_map normal set.plugin }) (part_own own set.designated h.designated)
    ∙ ap (λ (p : Option Tree). record { host = set.host; guest = set.guest; designated = set.designated; library = p; plugin = option_map normal set.plugin }) (part_own own set.library h.library)
    ∙ ap (λ (p : Option Tree). record { host = set.host; guest = set.guest; designated = set.designated; library = set.library; plugin = p }) (part_own own set.plugin h.plugin)

set_spoken : ((tree : Tree) → IsSpoken (normal tree)) → (set : TreeSet) → IsSpokenSet (normal_set set)
set_spoken spoken set = record {
  host = part_spoken spoken set.host;
  guest = part_spoken spoken set.guest;
  designated = part_spoken spoken set.designated;
  library = part_spoken spoken set.library;
  plugin = part_spoken spoken set.plugin;
}

set_means : ((tree : Tree) → KeepsMeaning tree) → (set : TreeSet) → KeepsSet set
set_means means set = record {
  host = part_means means set.host;
  guest = part_means means set.guest;
  designated = part_means means set.designated;
  library = part_means means set.library;
  plugin = part_means means set.plugin;
}

pub set_comes_back : ((first second : TreeSet) (bytes : List ℕ) → IsSetSpelling first bytes → IsSetSpelling second bytes → first ≡ second)
    → ((set : TreeSet) (a b : List ℕ) → IsPlainSet set a → IsPlainSet set b → a ≡ b)
    → ((tree : Tree) → IsSpoken (normal tree)) → ((tree : Tree) → KeepsMeaning tree) → ((tree : Tree) → IsSpoken tree → normal tree ≡ tree)
    → (set : TreeSet) (bytes again : List ℕ) → IsSetSpelling set bytes → IsPlainSet (normal_set set) again → SetComesBack bytes again
set_comes_back one plain spoken means own set bytes again h k = record {
  set = set;
  spelt = h;
  plain = k;
  meaning = set_means means set;
  same = (to, λ p. plain set again bytes (subst (λ (x : TreeSet). IsPlainSet x again) (set_own own set p.1) k) p.0);
}
  where
    to : again ≡ bytes → IsPlainSet set bytes × IsSpokenSet set
    to e =
        let here : IsPlainSet (normal_set set) bytes = subst (IsPlainSet (normal_set set)) e k in
        let is : normal_set set ≡ set = one (normal_set set) set bytes here.spelled h in
        (subst (λ (x : TreeSet). IsPlainSet x bytes) is here, subst IsSpokenSet is (set_spoken spoken set))
