-- The text of a set is that of its normal form.
use Rattle.std.proofs.Common.{◌≡◌, ◌≤◌, ℕ, List, [], ◌∷◌, ◌++◌, length, Option, None, Some, codes, refl, sym, ap, subst, ◌∙◌, append_assoc}
use Rattle.std.specs.Prelude.{IfSome, option_map}
use Rattle.std.proofs.lemmas.List.{append-nil}
use Rattle.req_tree.specs.Tree.{Tree}
use Rattle.req_tree.specs.TreeSet.{TreeSet, part_of, no_parts}
use Rattle.req_tree.specs.Normal.{normal}
use Rattle.req_tree.specs.Spellable.{CanSpell, IsShallow}
use Rattle.req_grammar.specs.declared.limits.TheConstants.{MOST_TEXT_BYTES}
use Rattle.req_grammar.specs.Words as w
use Rattle.req_grammar.specs.Words.{Word}
use Rattle.req_grammar.specs.Tokens.{Token, Tokens}
use Rattle.req_grammar.specs.Terminals.{Terminal, sign, word, terminals}
use Rattle.req_grammar.specs.Grammar as g
use Rattle.req_grammar.specs.Grammar.{KindWord, Parts}
use Rattle.req_grammar.specs.Readings.{CertTest, Collects, ReadsSet, HasFewOpen, IsSetText}
use Rattle.dumped_text.specs.Dumped.{alone, dumped, part_text, dumped_set}
use Rattle.dumped_text.specs.Said.{said, part_said, set_said}
use Rattle.dumped_text.specs.Sets.{normal_set, IsKeptPart, IsKeptSet, IsSayableSet}
use Rattle.dumped_text.proofs.Cutting.{Cut, end, tokens_told}
use Rattle.dumped_text.proofs.Pieces.{Loose, Piece, loose_loose, loose_piece, piece_loose, line_end, word_piece}
use Rattle.dumped_text.proofs.ReadBack.{read_back}
use Rattle.dumped_text.proofs.Parens.{Fits, flat_fits, fits-append, shallow_fits}
use Rattle.dumped_text.proofs.TreeTexts.{piece, arrow}

-- ---- the text

part_loose : (text : List ℕ) (kind : Word) → Piece text (word kind ∷ []) → (part : Option Tree) → IsKeptPart part → Loose (part_text text part) (part_said kind part)
part_loose text kind h None kept = λ rest ts cut. cut
part_loose text kind h (Some tree) kept =
    subst (Loose (text ++ codes " => " ++ dumped tree ++ 10 ∷ [])) (append-nil (word kind ∷ sign w.arrow ∷ said tree))
    (piece_loose (text ++ codes " => " ++ dumped tree) (10 ∷ []) (word kind ∷ sign w.arrow ∷ said tree) []
    (loose_piece (text ++ codes " => ") (dumped tree) (word kind ∷ sign w.arrow ∷ []) (said tree)
    (piece_loose text (codes " => ") (word kind ∷ []) (sign w.arrow ∷ []) h (λ rest. refl) arrow)
    (piece alone tree kept))
    (λ rest. refl) line_end)

set_loose : (set : TreeSet) → IsKeptSet set → Loose (dumped_set set) (set_said set)
set_loose set h =
    let one = part_loose (codes "host") w.host (word_piece (codes "host") refl) set.host h.host in
    let two = part_loose (codes "guest") w.guest (word_piece (codes "guest") refl) set.guest h.guest in
    let three = part_loose (codes "designated") w.designated (word_piece (codes "designated") refl) set.designated h.designated in
    let four = part_loose (codes "library") w.library (word_piece (codes "library") refl) set.library h.library in
    let five = part_loose (codes "plugin") w.plugin (word_piece (codes "plugin") refl) set.plugin h.plugin in
    loose_loose _ _ _ _ (loose_loose _ _ _ _ (loose_loose _ _ _ _ (loose_loose _ _ _ _ one two) three) four) five

pub set_says : (set : TreeSet) → IsSayableSet set → (tokens : List Token) × Tokens 0 (dumped_set set) tokens × (terminals (dumped_set set) tokens ≡ set_said set)
set_says set h =
    let cut : Cut (dumped_set set ++ []) (set_said set ++ []) = set_loose set h.kept [] [] end in
    tokens_told (dumped_set set) (set_said set)
    (subst (λ l. Cut l (set_said set)) (append-nil (dumped_set set)) (subst (Cut (dumped_set set ++ [])) (append-nil (set_said set)) cut))

-- ---- the reading

-- a part before others, in its normal form
abbrev with_kind : ℕ → Option Tree → List (ℕ × Tree) → List (ℕ × Tree)
with_kind kind None rest = rest
with_kind kind (Some tree) rest = (kind, normal tree) ∷ rest

part_reads : (k : Word) (kind : ℕ) (part : Option Tree) (b : List Terminal) (rest : List (ℕ × Tree)) → KindWord k kind → IsKeptPart part → IfSome part CanSpell
    → Parts CertTest b rest → Parts CertTest (part_said k part ++ b) (with_kind kind part rest)
part_reads k kind None b rest is kept can h = h
part_reads k kind (Some tree) b rest is kept can h =
    g.part k kind (said tree) b (normal tree) rest is (read_back tree (record { kept = kept; spellable = can })) h

abbrev parts_of_set : TreeSet → List (ℕ × Tree)
parts_of_set set = with_kind 1 set.host (with_kind 2 set.guest (with_kind 3 set.designated (with_kind 4 set.library (with_kind 5 set.plugin []))))

five_reads : (set : TreeSet) → IsSayableSet set
    → Parts CertTest (part_said w.host set.host ++ (part_said w.guest set.guest ++ (part_said w.designated set.designated ++ (part_said w.library set.library ++ (part_said w.plugin set.plugin ++ []))))) (parts_of_set set)
five_reads set h =
    part_reads w.host 1 set.host _ _ g.host h.kept.host (h.spellable 1)
    (part_reads w.guest 2 set.guest _ _ g.guest h.kept.guest (h.spellable 2)
    (part_reads w.designated 3 set.designated _ _ g.designated h.kept.designated (h.spellable 3)
    (part_reads w.library 4 set.library _ _ g.library h.kept.library (h.spellable 4)
    (part_reads w.plugin 5 set.plugin _ _ g.plugin h.kept.plugin (h.spellable 5) g.none))))

regrouped : (a b c d e : List Terminal) → a ++ (b ++ (c ++ (d ++ (e ++ [])))) ≡ a ++ b ++ c ++ d ++ e
regrouped a b c d e =
    ap (λ l. a ++ (b ++ (c ++ (d ++ l)))) (append-nil e)
    ∙ ap (λ l. a ++ (b ++ l)) (sym (append_assoc c d e))
    ∙ ap (λ l. a ++ l) (sym (append_assoc b (c ++ d) e) ∙ ap (λ l. l ++ e) (sym (append_assoc b c d)))
    ∙ sym (append_assoc a (b ++ c ++ d) e)
    ∙ ap (λ l. l ++ e) (sym (append_assoc a (b ++ c) d) ∙ ap (λ l. l ++ d) (sym (append_assoc a b c)))

collects_5 : (plugin : Option Tree) → Collects (with_kind 5 plugin []) (record { host = None; guest = None; designated = None; library = None; plugin = option_map normal plugin })
collects_5 None = refl
collects_5 (Some tree) = (no_parts, refl, refl, refl)

collects_4 : (library p : Option Tree) (rest : List (ℕ × Tree)) → Collects rest (record { host = None; guest = None; designated = None; library = None; plugin = p })
    → Collects (with_kind 4 library rest) (record { host = None; guest = None; designated = None; library = option_map normal library; plugin = p })
collects_4 None p rest h = h
collects_4 (Some tree) p rest h = (_, h, refl, refl)

collects_3 : (designated l p : Option Tree) (rest : List (ℕ × Tree)) → Collects rest (record { host = None; guest = None; designated = None; library = l; plugin = p })
    → Collects (with_kind 3 designated rest) (record { host = None; guest = None; designated = option_map normal designated; library = l; plugin = p })
collects_3 None l p rest h = h
collects_3 (Some tree) l p rest h = (_, h, refl, refl)

collects_2 : (guest d l p : Option Tree) (rest : List (ℕ × Tree)) → Collects rest (record { host = None; guest = None; designated = d; library = l; plugin = p })
    → Collects (with_kind 2 guest rest) (record { host = None; guest = option_map normal guest; designated = d; library = l; plugin = p })
collects_2 None d l p rest h = h
collects_2 (Some tree) d l p rest h = (_, h, refl, refl)

collects_1 : (host g' d l p : Option Tree) (rest : List (ℕ × Tree)) → Collects rest (record { host = None; guest = g'; designated = d; library = l; plugin = p })
    → Collects (with_kind 1 host rest) (record { host = option_map normal host; guest = g'; designated = d; library = l; plugin = p })
collects_1 None g' d l p rest h = h
collects_1 (Some tree) g' d l p rest h = (_, h, refl, refl)

set_collects : (set : TreeSet) → Collects (parts_of_set set) (normal_set set)
set_collects set =
    collects_1 set.host _ _ _ _ _ (collects_2 set.guest _ _ _ _ (collects_3 set.designated _ _ _ (collects_4 set.library _ _ (collects_5 set.plugin))))

pub set_read_back : (set : TreeSet) → IsSayableSet set → ReadsSet (set_said set) (normal_set set)
set_read_back set h = (
  parts_of_set set,
  subst (λ l. Parts CertTest l (parts_of_set set)) (regrouped (part_said w.host set.host) (part_said w.guest set.guest) (part_said w.designated set.designated) (part_said w.library set.library) (part_said w.plugin set.plugin)) (five_reads set h),
  set_collects set,
)

-- ---- open parentheses

part_fits : (kind : Word) (part : Option Tree) → IfSome (option_map normal part) IsShallow → Fits 256 (part_said kind part)
part_fits kind None h = flat_fits 256 [] (record { no_left = refl; no_right = refl })
part_fits kind (Some tree) h =
    fits-append 256 (word kind ∷ sign w.arrow ∷ []) (said tree) (flat_fits 256 _ (record { no_left = refl; no_right = refl })) (shallow_fits tree h)

pub few_open_in_set : (set : TreeSet) → ((kind : ℕ) → IfSome (part_of kind (normal_set set)) IsShallow) → HasFewOpen (set_said set)
few_open_in_set set h =
    let one = part_fits w.host set.host (h 1) in
    let two = part_fits w.guest set.guest (h 2) in
    let three = part_fits w.designated set.designated (h 3) in
    let four = part_fits w.library set.library (h 4) in
    let five = part_fits w.plugin set.plugin (h 5) in
    (fits-append 256 _ _ (fits-append 256 _ _ (fits-append 256 _ _ (fits-append 256 _ _ one two) three) four) five).open_at

pub set_text_is_normal : (set : TreeSet) → IsSayableSet set → length (dumped_set set) ≤ MOST_TEXT_BYTES
    → ((kind : ℕ) → IfSome (part_of kind (normal_set set)) IsShallow) → IsSetText (dumped_set set) (normal_set set)
set_text_is_normal set h short shallow =
    let told = set_says set h in
    record {
      tokens = told.0;
      cut = record { short = short; tokens_are = told.1 };
      opens = subst HasFewOpen (sym told.2) (few_open_in_set set shallow);
      reads = subst (λ (l : List Terminal). ReadsSet l (normal_set set)) (sym told.2) (set_read_back set h);
      shallow = shallow;
    }
