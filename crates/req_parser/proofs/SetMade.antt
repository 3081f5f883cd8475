-- Parts taken from the end and made a set, and what the set is where the terminals are read as one.
use Rattle.std.proofs.Common.{◌≡◌, ℕ, ◌≤◌, ◌<◌, ◌==◌, Bool, true, false, if◌then◌else◌, true≢false, List, [], ◌∷◌, ◌++◌, Option, Some, None, is_some, IfSome, refl, sym, ap, subst, ◌∙◌, append_assoc, arith}
use Rattle.req_tree.specs.declared.limits.TheConstants.{MOST_DEPTH}
use Rattle.req_tree.specs.Tree.{Tree}
use Rattle.req_tree.specs.TreeSet.{TreeSet, IsSetKind, no_parts, part_of, with_part}
use Rattle.req_tree.specs.Depth.{depth_of}
use Rattle.req_tree.specs.Spellable.{IsShallow}
use Rattle.req_grammar.specs.Words.{Word}
use Rattle.req_grammar.specs.Grammar as g
use Rattle.req_grammar.specs.Grammar.{KindWord}
use Rattle.req_grammar.specs.Readings.{Collects}
use Rattle.req_primary.specs.Keys.{Outcome, fine, deep, bad_key, StandsFor, Tells, outcome_of}
use Rattle.req_parser.specs.declared.parts.Part.{Part}
use Rattle.req_parser.specs.GivenParts.{PartsTell}
use Rattle.req_parser.specs.Gathering.{AllFit, Fits, gathered, tree_in, with_one}
use Rattle.req_parser.specs.SetFailures.{AreShallow, HasDeepPart}

-- ---- the loop

-- of all parts these are left, and the others make the set
pub record IsGathered (all left : List Part) (set : TreeSet) : Type 0 where
  pub done : List Part
  pub parts : all ≡ left ++ done
  pub made : gathered done ≡ Some set

no_more : (all : List Part) → all ≡ all ++ []
no_more [] = refl
no_more (part ∷ all) = ap (λ (l : List Part). part ∷ l) (no_more all)

pub nothing_yet : (all : List Part) (set : TreeSet) → set ≡ no_parts → IsGathered all all set
nothing_yet all set is = record { done = []; parts = no_more all; made = ap (λ (s : TreeSet). let o : Option TreeSet = Some s in o) (sym is) }

fit_there : (front : List Part) (part : Part) (done : List Part) → AllFit (front ++ part ∷ done) → Fits part done
fit_there [] part done h = h.0
fit_there (first ∷ front) part done h = fit_there front part done h.1

one_left : (all left : List Part) (part : Part) (more done : List Part) → all ≡ left ++ done → left ≡ more ++ part ∷ [] → all ≡ more ++ part ∷ done
one_left all left part more done parts is = parts ∙ ap (λ (l : List Part). l ++ done) is ∙ append_assoc more (part ∷ []) done

-- the last part that is left fits to the set
pub last_fits : (all left : List Part) (set : TreeSet) (part : Part) (more : List Part) → AllFit all → IsGathered all left set → left ≡ more ++ part ∷ []
    → IsSetKind part.kind × (part_of part.kind set ≡ None)
last_fits all left set part more fit f is =
    let one : Fits part f.done = fit_there more part f.done (subst AllFit (one_left all left part more f.done f.parts is) fit) in
    (one.kind, one.free set f.made)

pub gathered_more : (all left : List Part) (set next : TreeSet) (part : Part) (more : List Part) (tree : Tree) → IsGathered all left set → left ≡ more ++ part ∷ []
    → tree_in (outcome_of part.built) ≡ Some tree → next ≡ with_part part.kind tree set → IsGathered all more next
gathered_more all left set next part more tree f is built e = record {
  done = part ∷ f.done;
  parts = one_left all left part more f.done f.parts is;
  made =
      ap (λ (o : Option Tree). with_one part.kind o (gathered f.done)) built ∙ ap (with_one part.kind (Some tree)) f.made
      ∙ ap (λ (s : TreeSet). let o : Option TreeSet = Some s in o) (sym e);
}

none_behind : (kind : ℕ) (o : Option Tree) → with_one kind o None ≡ None
none_behind kind None = refl
none_behind kind (Some x) = refl

none_before : (front parts : List Part) → gathered parts ≡ None → gathered (front ++ parts) ≡ None
none_before [] parts e = e
none_before (first ∷ front) parts e = ap (with_one first.kind (tree_in (outcome_of first.built))) (none_before front parts e) ∙ none_behind first.kind (tree_in (outcome_of first.built))

none_built : (kind : ℕ) (o : Option Tree) (s : Option TreeSet) → o ≡ None → with_one kind o s ≡ None
none_built kind o s e = ap (λ (x : Option Tree). with_one kind x s) e

-- a part of which nothing was built
pub none_gathered : (all left : List Part) (set : TreeSet) (part : Part) (more : List Part) → IsGathered all left set → left ≡ more ++ part ∷ []
    → tree_in (outcome_of part.built) ≡ None → gathered all ≡ None
none_gathered all left set part more f is built =
    ap gathered (one_left all left part more f.done f.parts is)
    ∙ none_before more (part ∷ f.done) (none_built part.kind (tree_in (outcome_of part.built)) (gathered f.done) built)

pub all_gathered : (all left : List Part) (set : TreeSet) → IsGathered all left set → left ≡ [] → gathered all ≡ Some set
all_gathered all left set f none = ap gathered (f.parts ∙ ap (λ (l : List Part). l ++ f.done) none) ∙ f.made

-- ---- what is made

-- a part with plain keys, and the part that it stands for
pub record PartStands (plain part : ℕ × Tree) : Type 0 where
  pub kind : plain.0 ≡ part.0
  pub kind_word : Word
  pub names : KindWord kind_word part.0
  pub stands : StandsFor plain.1 part.1
  pub only : (x : Tree) → StandsFor plain.1 x → x ≡ part.1

abbrev pub PartsStand : List (ℕ × Tree) → List (ℕ × Tree) → Type 0
PartsStand [] [] = Unit {0}
PartsStand (plain ∷ plains) (part ∷ parts) = PartStands plain part × PartsStand plains parts
PartsStand plains parts = ⊥

-- what the parts make, where they are the set's
pub record Makes (parts : List Part) (set : TreeSet) : Type 0 where
  pub fit : AllFit parts
  pub some : (made : TreeSet) → gathered parts ≡ Some made → (made ≡ set) × AreShallow set
  pub none : gathered parts ≡ None → HasDeepPart set

none_some : (s : TreeSet) → ◌≡◌ {A = Option TreeSet} None (Some s) → ⊥
none_some s e = true≢false (sym (ap is_some e))

some_none : (s : TreeSet) → ◌≡◌ {A = Option TreeSet} (Some s) None → ⊥
some_none s e = true≢false (ap is_some e)

none_tree : (x : Tree) → ◌≡◌ {A = Option Tree} None (Some x) → ⊥
none_tree x e = true≢false (sym (ap is_some e))

abbrev set_or : TreeSet → Option TreeSet → TreeSet
set_or s None = s
set_or s (Some r) = r

some_is : (s r : TreeSet) → ◌≡◌ {A = Option TreeSet} (Some s) (Some r) → s ≡ r
some_is s r e = ap (set_or s) e

-- the trees of a set, by kind
abbrev Low : Option Tree → Type 0
Low o = IfSome o IsShallow

either_way : (b : Bool) (x y : Option Tree) → Low x → Low y → Low (if b then x else y)
either_way true x y h i = h
either_way false x y h i = i

part_low : (kind : ℕ) (s : TreeSet) → Low s.host → Low s.guest → Low s.designated → Low s.library → Low s.plugin → Low (part_of kind s)
part_low kind s a b c d e =
    either_way (kind == 1) _ _ a (either_way (kind == 2) _ _ b (either_way (kind == 3) _ _ c (either_way (kind == 4) _ _ d (either_way (kind == 5) _ _ e tt))))

with_low : (k : Word) (n : ℕ) (x : Tree) (s : TreeSet) → KindWord k n → IsShallow x → AreShallow s → AreShallow (with_part n x s)
with_low k n x s g.host h others kind = part_low kind (with_part 1 x s) h (others 2) (others 3) (others 4) (others 5)
with_low k n x s g.guest h others kind = part_low kind (with_part 2 x s) (others 1) h (others 3) (others 4) (others 5)
with_low k n x s g.designated h others kind = part_low kind (with_part 3 x s) (others 1) (others 2) h (others 4) (others 5)
with_low k n x s g.library h others kind = part_low kind (with_part 4 x s) (others 1) (others 2) (others 3) h (others 5)
with_low k n x s g.plugin h others kind = part_low kind (with_part 5 x s) (others 1) (others 2) (others 3) (others 4) h

none_low : AreShallow no_parts
none_low kind = part_low kind no_parts tt tt tt tt tt

here : (b : Bool) (o x r : Option Tree) (t : Tree) → o ≡ None → (if b then o else r) ≡ Some t → (if b then x else r) ≡ Some t
here true o x r t free e = absurd (none_tree t (sym free ∙ e))
here false o x r t free e = e

beyond : (b : Bool) (o r x : Option Tree) (t : Tree) → (r ≡ Some t → x ≡ Some t) → (if b then o else r) ≡ Some t → (if b then o else x) ≡ Some t
beyond true o r x t later e = e
beyond false o r x t later e = later e

-- a tree that is there stays there
kept : (k : Word) (n : ℕ) (x : Tree) (s : TreeSet) → KindWord k n → part_of n s ≡ None → (kind : ℕ) (t : Tree) → part_of kind s ≡ Some t → part_of kind (with_part n x s) ≡ Some t
kept k n x s g.host free kind t e = here (kind == 1) _ _ _ t free e
kept k n x s g.guest free kind t e = beyond (kind == 1) _ _ _ t (λ d. here (kind == 2) _ _ _ t free d) e
kept k n x s g.designated free kind t e = beyond (kind == 1) _ _ _ t (λ d. beyond (kind == 2) _ _ _ t (λ c. here (kind == 3) _ _ _ t free c) d) e
kept k n x s g.library free kind t e = beyond (kind == 1) _ _ _ t (λ d. beyond (kind == 2) _ _ _ t (λ c. beyond (kind == 3) _ _ _ t (λ b. here (kind == 4) _ _ _ t free b) c) d) e
kept k n x s g.plugin free kind t e =
    beyond (kind == 1) _ _ _ t (λ d. beyond (kind == 2) _ _ _ t (λ c. beyond (kind == 3) _ _ _ t (λ b. beyond (kind == 4) _ _ _ t (λ a. here (kind == 5) _ _ _ t free a) b) c) d) e

put_there : (k : Word) (n : ℕ) (x : Tree) (s : TreeSet) → KindWord k n → part_of n (with_part n x s) ≡ Some x
put_there k n x s g.host = refl
put_there k n x s g.guest = refl
put_there k n x s g.designated = refl
put_there k n x s g.library = refl
put_there k n x s g.plugin = refl

set_kind : (k : Word) (n : ℕ) → KindWord k n → IsSetKind n
set_kind k n g.host = (omega arith, omega arith)
set_kind k n g.guest = (omega arith, omega arith)
set_kind k n g.designated = (omega arith, omega arith)
set_kind k n g.library = (omega arith, omega arith)
set_kind k n g.plugin = (omega arith, omega arith)

fits_here : (part : Part) (parts : List Part) (k : Word) (n : ℕ) (others : TreeSet) → KindWord k n → part.kind ≡ n → part_of n others ≡ None → Makes parts others → Fits part parts
fits_here part parts k n others names is free m = record {
  kind = subst IsSetKind (sym is) (set_kind k n names);
  free = λ s made. ap (λ (i : ℕ). part_of i s) is ∙ ap (part_of n) (m.some s made).0 ∙ free;
}

-- what a part's outcome adds
record Adds (n : ℕ) (o : Option Tree) (rest : Option TreeSet) (set : TreeSet) : Type 0 where
  some : (made : TreeSet) → with_one n o rest ≡ Some made → (made ≡ set) × AreShallow set
  none : with_one n o rest ≡ None → HasDeepPart set

deep_kept : (k : Word) (n : ℕ) (x : Tree) (others : TreeSet) → KindWord k n → part_of n others ≡ None → HasDeepPart others → HasDeepPart (with_part n x others)
deep_kept k n x others names free h = record { kind = h.kind; tree = h.tree; stands = kept k n x others names free h.kind h.tree h.stands; deep = h.deep }

adds_fine : (k : Word) (n : ℕ) (x y : Tree) (others set : TreeSet) (rest : Option TreeSet) → KindWord k n → part_of n others ≡ None → set ≡ with_part n x others → y ≡ x → IsShallow x
    → ((made : TreeSet) → rest ≡ Some made → (made ≡ others) × AreShallow others) → (rest ≡ None → HasDeepPart others) → Adds n (Some y) rest set
adds_fine k n x y others set None names free e is low some none = record {
  some = λ made h. absurd (none_some made h);
  none = λ h. subst HasDeepPart (sym e) (deep_kept k n x others names free (none refl));
}
adds_fine k n x y others set (Some s) names free e is low some none = record {
  some = λ made h.
      let p = some s refl in (
        sym (some_is (with_part n y s) made h) ∙ ap (λ (t : Tree). with_part n t s) is ∙ ap (with_part n x) p.0 ∙ sym e,
        subst AreShallow (sym e) (with_low k n x others names low p.1),
      );
  none = λ h. absurd (some_none (with_part n y s) h);
}

adds_deep : (k : Word) (n : ℕ) (x : Tree) (others set : TreeSet) (rest : Option TreeSet) → KindWord k n → set ≡ with_part n x others → MOST_DEPTH < depth_of x → Adds n None rest set
adds_deep k n x others set rest names e large = record {
  some = λ made h. absurd (none_some made h);
  none = λ h. subst HasDeepPart (sym e) (record { kind = n; tree = x; stands = put_there k n x others names; deep = large });
}

adds_as : (k : Word) (n : ℕ) (p x : Tree) (o : Outcome) (others set : TreeSet) (rest : Option TreeSet) → KindWord k n → part_of n others ≡ None → set ≡ with_part n x others
    → StandsFor p x → ((y : Tree) → StandsFor p y → y ≡ x) → Tells p o
    → ((made : TreeSet) → rest ≡ Some made → (made ≡ others) × AreShallow others) → (rest ≡ None → HasDeepPart others) → Adds n (tree_in o) rest set
adds_as k n p x bad_key others set rest names free e stands only told some none = absurd (told x stands)
adds_as k n p x deep others set rest names free e stands only told some none =
    adds_deep k n x others set rest names e (subst (λ (t : Tree). MOST_DEPTH < depth_of t) (only told.0 told.1) told.2)
adds_as k n p x (fine y depth) others set rest names free e stands only told some none =
    let same : y ≡ x = only y told.0 in
    let counted : depth ≡ depth_of y = told.1 in
    let small : depth ≤ MOST_DEPTH = told.2 in
    adds_fine k n x y others set rest names free e same (omega (arith, counted, small, ap depth_of same)) some none

pub makes : (plains trees : List (ℕ × Tree)) (parts : List Part) (set : TreeSet) → PartsStand plains trees → PartsTell plains parts → Collects trees set → Makes parts set
makes [] [] [] set stand tell c = record {
  fit = tt;
  some = λ made h. (sym (some_is no_parts made h) ∙ sym c, subst AreShallow (sym c) none_low);
  none = λ h. absurd (some_none no_parts h);
}
makes (plain ∷ plains) (tree ∷ trees) (part ∷ parts) set (s, stand) (t, tell) (others, c, free, e) =
    let m : Makes parts others = makes plains trees parts others stand tell c in
    let kind_is : part.kind ≡ tree.0 = t.0 ∙ s.kind in
    let a : Adds tree.0 (tree_in (outcome_of part.built)) (gathered parts) set =
    adds_as s.kind_word tree.0 plain.1 tree.1 (outcome_of part.built) others set (gathered parts) s.names free e s.stands s.only t.1 m.some m.none in
    let same : with_one part.kind (tree_in (outcome_of part.built)) (gathered parts) ≡ with_one tree.0 (tree_in (outcome_of part.built)) (gathered parts) =
    ap (λ (n : ℕ). with_one n (tree_in (outcome_of part.built)) (gathered parts)) kind_is in
    record {
      fit = (fits_here part parts s.kind_word tree.0 others s.names kind_is free m, m.fit);
      some = λ made h. a.some made (sym same ∙ h);
      none = λ h. a.none (sym same ∙ h);
    }
makes [] (tree ∷ trees) parts set stand tell c = absurd stand
makes (plain ∷ plains) [] parts set stand tell c = absurd stand
makes [] [] (part ∷ parts) set stand tell c = absurd tell
makes (plain ∷ plains) (tree ∷ trees) [] set stand tell c = absurd tell
