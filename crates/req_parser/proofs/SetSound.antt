-- Parts that are read stand in the grammar, with plain keys.
use Rattle.std.proofs.Common.{◌≡◌, ℕ, zero, suc, List, [], ◌∷◌, ◌++◌, length, Result, Ok, refl, sym, ap, subst, ◌∙◌, append_assoc, append-nil}
use Rattle.req_tree.specs.Tree.{Tree}
use Rattle.req_grammar.specs.declared.limits.TheConstants.{MOST_OPEN_PARENTHESES}
use Rattle.req_grammar.specs.Words as w
use Rattle.req_grammar.specs.Words.{Word}
use Rattle.req_grammar.specs.Terminals.{Terminal, sign, word}
use Rattle.req_grammar.specs.Grammar as g
use Rattle.req_grammar.specs.Grammar.{Expr, KindWord, Parts}
use Rattle.req_grammar.specs.Readings.{AnyKey}
use Rattle.req_primary.specs.declared.fault.ReadingFault.{ReadingFault}
use Rattle.req_primary.specs.Steps.{Reading, first_at, sign_at}
use Rattle.req_primary.specs.Laws.{WhatIsReadIsAnOperand}
use Rattle.req_parser.specs.Reading.{expr_at, inside_at}
use Rattle.req_parser.specs.SetReading.{kind_at, arrow_at, tree_at, told_at, part_at, parts_from, parts_at}
use Rattle.req_parser.proofs.Sound.{AnyExpr, Front, bind_ok, err_ok, ok_is, expr_front}

-- a word for a kind stands first
record KindFirst (here : List Terminal) (p : ℕ × List Terminal) : Type 0 where
  kind_word : Word
  names : KindWord kind_word p.0
  parts : here ≡ word kind_word ∷ p.1

kind_first : (k : Word) (n : ℕ) (more : List Terminal) (p : ℕ × List Terminal) → KindWord k n → ◌≡◌ {A = Reading ℕ} (Ok (n, more)) (Ok p) → KindFirst (word k ∷ more) p
kind_first k n more p names e = subst (λ (q : ℕ × List Terminal). KindFirst (word k ∷ more) q) (ok_is (n, more) p e) (record { kind_word = k; names = names; parts = refl })

kind_sound : (size : ℕ) (here : List Terminal) (p : ℕ × List Terminal) → kind_at size here ≡ Ok p → KindFirst here p
unfolding kind_at first_at
kind_sound size [] p e = absurd (err_ok _ p e)
kind_sound size (word w.host ∷ more) p e = kind_first w.host 1 more p g.host e
kind_sound size (word w.guest ∷ more) p e = kind_first w.guest 2 more p g.guest e
kind_sound size (word w.designated ∷ more) p e = kind_first w.designated 3 more p g.designated e
kind_sound size (word w.library ∷ more) p e = kind_first w.library 4 more p g.library e
kind_sound size (word w.plugin ∷ more) p e = kind_first w.plugin 5 more p g.plugin e
kind_sound size (first ∷ more) p e = absurd (err_ok _ p e)

arrow_is : (size : ℕ) (here rest : List Terminal) → arrow_at size here ≡ Ok rest → here ≡ sign w.arrow ∷ rest
unfolding arrow_at sign_at first_at
arrow_is size (sign w.arrow ∷ more) rest e = ap (λ (l : List Terminal). sign w.arrow ∷ l) (ok_is more rest e)
arrow_is size here rest e = absurd (err_ok _ rest e)

-- a part stands first
record PartFront (here : List Terminal) (p : (ℕ × Tree) × List Terminal) : Type 0 where
  kind_word : Word
  names : KindWord kind_word p.0.0
  front : List Terminal
  parts : here ≡ word kind_word ∷ sign w.arrow ∷ (front ++ p.1)
  is : Expr AnyKey front p.0.1

module _ (operands : WhatIsReadIsAnOperand) where
  part_sound : (size : ℕ) (here : List Terminal) (p : (ℕ × Tree) × List Terminal) → part_at size here ≡ Ok p → PartFront here p
  unfolding part_at
  part_sound size here p e =
      let q = bind_ok (kind_at size here) (λ (x : ℕ × List Terminal). told_at size x.0 x.1) p e in
      let f : KindFirst here q.0 = kind_sound size here q.0 q.1 in
      let r = bind_ok (arrow_at size q.0.1) (λ (rest : List Terminal). tree_at size q.0.0 rest) p q.2 in
      let s = bind_ok (expr_at size (inside_at size MOST_OPEN_PARENTHESES) r.0) (λ (x : Tree × List Terminal). let o : Reading (ℕ × Tree) = Ok ((q.0.0, x.0), x.1) in o) p r.2 in
      let h : Front AnyExpr r.0 s.0 = expr_front operands size MOST_OPEN_PARENTHESES r.0 s.0 s.1 in
      subst (λ (x : (ℕ × Tree) × List Terminal). PartFront here x) (ok_is ((q.0.0, s.0.0), s.0.1) p s.2) (record {
        kind_word = f.kind_word;
        names = f.names;
        front = h.front;
        parts = f.parts ∙ ap (λ (l : List Terminal). word f.kind_word ∷ l) (arrow_is size q.0.1 r.0 r.1) ∙ ap (λ (l : List Terminal). word f.kind_word ∷ sign w.arrow ∷ l) h.parts;
        is = h.is;
      })

  -- what was read behind some parts
  record PartsBehind (some all : List (ℕ × Tree)) (here : List Terminal) : Type 0 where
    more : List (ℕ × Tree)
    is : all ≡ some ++ more
    parts : Parts AnyKey here more

  none_behind : (some all : List (ℕ × Tree)) → ◌≡◌ {A = Result (List (ℕ × Tree)) ReadingFault} (Ok some) (Ok all) → PartsBehind some all []
  none_behind some all e = record { more = []; is = sym (ok_is some all e) ∙ sym (append-nil some); parts = g.none }

  one_behind : (some all : List (ℕ × Tree)) (here : List Terminal) (p : (ℕ × Tree) × List Terminal) → PartFront here p → PartsBehind (some ++ p.0 ∷ []) all p.1 → PartsBehind some all here
  one_behind some all here p f h = record {
    more = p.0 ∷ h.more;
    is = h.is ∙ append_assoc some (p.0 ∷ []) h.more;
    parts = subst (λ (l : List Terminal). Parts AnyKey l (p.0 ∷ h.more)) (sym f.parts) (g.part f.kind_word p.0.0 f.front p.1 p.0.1 h.more f.names f.is h.parts);
  }

  parts_sound : (size n : ℕ) (some all : List (ℕ × Tree)) (here : List Terminal) → parts_from size n some here ≡ Ok all → PartsBehind some all here
  unfolding parts_from
  parts_sound size zero some all [] e = none_behind some all e
  parts_sound size zero some all (first ∷ rest) e = absurd (err_ok _ all e)
  parts_sound size (suc n) some all [] e = none_behind some all e
  parts_sound size (suc n) some all (first ∷ rest) e =
      let q = bind_ok (part_at size (first ∷ rest)) (λ (x : (ℕ × Tree) × List Terminal). parts_from size n (some ++ x.0 ∷ []) x.1) all e in
      one_behind some all (first ∷ rest) q.0 (part_sound size (first ∷ rest) q.0 q.1) (parts_sound size n (some ++ q.0.0 ∷ []) all q.0.1 q.2)

  -- a list that is read whole
  pub list_sound : (list : List Terminal) (all : List (ℕ × Tree)) → parts_at list ≡ Ok all → Parts AnyKey list all
  unfolding parts_at
  list_sound list all e =
      let f : PartsBehind [] all list = parts_sound (length list) (length list) [] all list e in
      subst (λ (those : List (ℕ × Tree)). Parts AnyKey list those) (sym f.is) f.parts
