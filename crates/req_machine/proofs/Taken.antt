-- What the grammar has, the machine takes off.
use Rattle.std.proofs.Common.{◌≡◌, ℕ, ℤ, ◌^◌, Bool, cond, List, [], ◌∷◌, ◌++◌, Some, refl, sym, ap, subst, append_assoc}
use Rattle.std.proofs.lemmas.Bool.{lt-ltb, le-leb}
use Rattle.req_tree.specs.declared.matching.Match.{Match}
use Rattle.req_tree.specs.Tree.{Tree}
use Rattle.req_grammar.specs.Words as w
use Rattle.req_grammar.specs.Words.{Sign, Word}
use Rattle.req_grammar.specs.Terminals as t
use Rattle.req_grammar.specs.Terminals.{Terminal, sign, word}
use Rattle.req_grammar.specs.Grammar as g
use Rattle.req_grammar.specs.Grammar.{KeyRule, Number, Slot, Test, Keyed, IsCert, Primary, Expr, Term, Factor, KindWord, Parts}
use Rattle.req_machine.specs.Machine.{Symbol, set, expr, tail, factor, paren, number, slot, anchor, apple, test, match, star, right_paren, left_bracket, right_bracket, arrow, str, integer, takes, refuses, step, Goes, stay, on}
use Rattle.req_machine.proofs.Moves.{then, take_step}

-- what may stand behind a term: the end, a right parenthesis, an operator, a word for a kind
pub data Stops : List Terminal → Type 0 where
  end : Stops []
  close : (rest : List Terminal) → Stops (sign w.right_paren ∷ rest)
  and : (rest : List Terminal) → Stops (word w.and ∷ rest)
  or : (rest : List Terminal) → Stops (word w.or ∷ rest)
  kind : (k : Word) (n : ℕ) (rest : List Terminal) → KindWord k n → Stops (word k ∷ rest)

-- nothing is taken off where something stands that stops
abbrev Passes : Symbol → List Terminal → Type 0
Passes s rest = (others : List Symbol) → Goes (s ∷ others, rest) (others, rest)

match_stops : (rest : List Terminal) → Stops rest → Passes match rest
match_stops rest end others = on _ _ _ refl (stay _)
match_stops rest (close more) others = on _ _ _ refl (stay _)
match_stops rest (and more) others = on _ _ _ refl (stay _)
match_stops rest (or more) others = on _ _ _ refl (stay _)
match_stops rest (kind k n more g.host) others = on _ _ _ refl (stay _)
match_stops rest (kind k n more g.guest) others = on _ _ _ refl (stay _)
match_stops rest (kind k n more g.designated) others = on _ _ _ refl (stay _)
match_stops rest (kind k n more g.library) others = on _ _ _ refl (stay _)
match_stops rest (kind k n more g.plugin) others = on _ _ _ refl (stay _)

star_stops : (rest : List Terminal) → Stops rest → Passes star rest
star_stops rest end others = on _ _ _ refl (stay _)
star_stops rest (close more) others = on _ _ _ refl (stay _)
star_stops rest (and more) others = on _ _ _ refl (stay _)
star_stops rest (or more) others = on _ _ _ refl (stay _)
star_stops rest (kind k n more g.host) others = on _ _ _ refl (stay _)
star_stops rest (kind k n more g.guest) others = on _ _ _ refl (stay _)
star_stops rest (kind k n more g.designated) others = on _ _ _ refl (stay _)
star_stops rest (kind k n more g.library) others = on _ _ _ refl (stay _)
star_stops rest (kind k n more g.plugin) others = on _ _ _ refl (stay _)

apple_stops : (rest : List Terminal) → Stops rest → Passes apple rest
apple_stops rest end others = on _ _ _ refl (stay _)
apple_stops rest (close more) others = on _ _ _ refl (stay _)
apple_stops rest (and more) others = on _ _ _ refl (stay _)
apple_stops rest (or more) others = on _ _ _ refl (stay _)
apple_stops rest (kind k n more g.host) others = on _ _ _ refl (stay _)
apple_stops rest (kind k n more g.guest) others = on _ _ _ refl (stay _)
apple_stops rest (kind k n more g.designated) others = on _ _ _ refl (stay _)
apple_stops rest (kind k n more g.library) others = on _ _ _ refl (stay _)
apple_stops rest (kind k n more g.plugin) others = on _ _ _ refl (stay _)

-- what may stand behind an expression: what stops, but no operator
pub data Ends : List Terminal → Type 0 where
  over : Ends []
  closed : (rest : List Terminal) → Ends (sign w.right_paren ∷ rest)
  next : (k : Word) (n : ℕ) (rest : List Terminal) → KindWord k n → Ends (word k ∷ rest)

ends_stop : (rest : List Terminal) → Ends rest → Stops rest
ends_stop rest over = end
ends_stop rest (closed more) = close more
ends_stop rest (next k n more is) = kind k n more is

tail_ends : (rest : List Terminal) → Ends rest → Passes tail rest
tail_ends rest over others = on _ _ _ refl (stay _)
tail_ends rest (closed more) others = on _ _ _ refl (stay _)
tail_ends rest (next k n more g.host) others = on _ _ _ refl (stay _)
tail_ends rest (next k n more g.guest) others = on _ _ _ refl (stay _)
tail_ends rest (next k n more g.designated) others = on _ _ _ refl (stay _)
tail_ends rest (next k n more g.library) others = on _ _ _ refl (stay _)
tail_ends rest (next k n more g.plugin) others = on _ _ _ refl (stay _)

number_taken : (a : List Terminal) (n : ℤ) → Number a n → (others : List Symbol) (rest : List Terminal) → Goes (number ∷ others, a ++ rest) (others, rest)
number_taken a n (g.positive k small) others rest =
    on _ _ _ (take_step number [] others (t.int k) rest (ap (λ (b : Bool). cond b (takes []) refuses) (lt-ltb k (2 ^ 31) small))) (stay _)
number_taken a n (g.negative k small) others rest =
    on _ _ _ refl (on _ _ _ (take_step integer [] others (t.int k) rest (ap (λ (b : Bool). cond b (takes []) refuses) (le-leb k (2 ^ 31) small))) (stay _))

slot_taken : (a : List Terminal) (n : ℤ) → Slot a n → (others : List Symbol) (rest : List Terminal) → Goes (slot ∷ others, a ++ rest) (others, rest)
slot_taken a n g.leaf others rest = on _ _ _ refl (stay _)
slot_taken a n g.root others rest = on _ _ _ refl (stay _)
slot_taken a n (g.number b k (g.positive i small)) others rest = on _ _ _ refl (number_taken _ _ (g.positive i small) others rest)
slot_taken a n (g.number b k (g.negative i small)) others rest = on _ _ _ refl (number_taken _ _ (g.negative i small) others rest)

-- a list is taken off where something stands behind it that stops
abbrev IsEaten : Symbol → List Terminal → Type 0
IsEaten s a = (others : List Symbol) (rest : List Terminal) → Stops rest → Goes (s ∷ others, a ++ rest) (others, rest)

test_taken : (a : List Terminal) (asked : Match) → Test a asked → IsEaten match a
test_taken a asked g.nothing others rest stops = match_stops rest stops others
test_taken a asked g.exists others rest stops = on _ _ _ refl (stay _)
test_taken a asked g.absent others rest stops = on _ _ _ refl (stay _)
test_taken a asked (g.equal s) others rest stops = on _ _ _ refl (on _ _ _ refl (star_stops rest stops others))
test_taken a asked (g.begins s) others rest stops = on _ _ _ refl (on _ _ _ refl (on _ _ _ refl (stay _)))
test_taken a asked (g.ends s) others rest stops = on _ _ _ refl (on _ _ _ refl (on _ _ _ refl (star_stops rest stops others)))
test_taken a asked (g.contains s) others rest stops = on _ _ _ refl (on _ _ _ refl (on _ _ _ refl (on _ _ _ refl (stay _))))
test_taken a asked (g.like s) others rest stops = on _ _ _ refl (on _ _ _ refl (stay _))
test_taken a asked (g.less s) others rest stops = on _ _ _ refl (on _ _ _ refl (stay _))
test_taken a asked (g.greater s) others rest stops = on _ _ _ refl (on _ _ _ refl (stay _))
test_taken a asked (g.less_equal s) others rest stops = on _ _ _ refl (on _ _ _ refl (stay _))
test_taken a asked (g.greater_equal s) others rest stops = on _ _ _ refl (on _ _ _ refl (stay _))

-- a key and a test, behind info or entitlement
keyed_taken : (a : List Terminal) (key : List ℕ) (asked : Match) → Keyed a key asked → (others : List Symbol) (rest : List Terminal) → Stops rest
    → Goes (left_bracket ∷ str ∷ right_bracket ∷ match ∷ others, a ++ rest) (others, rest)
keyed_taken a key asked (g.keyed k b m is) others rest stops =
    on _ _ _ refl (on _ _ _ refl (on _ _ _ refl (test_taken b m is others rest stops)))

-- a key and a test, of a certificate
asked_taken : (a : List Terminal) (key : List ℕ) (asked : Match) → Keyed a key asked → IsEaten test a
asked_taken a key asked (g.keyed k b m is) others rest stops =
    on _ _ _ refl (on _ _ _ refl (on _ _ _ refl (test_taken b m is others rest stops)))

anchor_taken : (a : List Terminal) (key : List ℕ) (asked : Match) → Keyed a key asked → IsEaten anchor a
anchor_taken a key asked (g.keyed k b m is) others rest stops = on _ _ _ refl (asked_taken _ _ _ (g.keyed k b m is) others rest stops)

cert_taken : (c : Word) (a b : List Terminal) (n : ℤ) → IsCert c → Slot a n → IsEaten test b → IsEaten factor (word c ∷ a ++ b)
cert_taken c a b n g.long is eaten others rest stops =
    on _ _ _ refl (subst (λ (l : List Terminal). Goes (slot ∷ test ∷ others, l) (others, rest)) (sym (append_assoc a b rest))
    (then _ _ _ (slot_taken a n is (test ∷ others) (b ++ rest)) (eaten others rest stops)))
cert_taken c a b n g.short is eaten others rest stops =
    on _ _ _ refl (subst (λ (l : List Terminal). Goes (slot ∷ test ∷ others, l) (others, rest)) (sym (append_assoc a b rest))
    (then _ _ _ (slot_taken a n is (test ∷ others) (b ++ rest)) (eaten others rest stops)))

primary_taken : (rule : KeyRule) (a : List Terminal) (x : Tree) → Primary rule a x → IsEaten factor a
primary_taken rule a x g.always others rest stops = on _ _ _ refl (stay _)
primary_taken rule a x g.true others rest stops = on _ _ _ refl (stay _)
primary_taken rule a x g.never others rest stops = on _ _ _ refl (stay _)
primary_taken rule a x g.false others rest stops = on _ _ _ refl (stay _)
primary_taken rule a x (g.ident s) others rest stops = on _ _ _ refl (on _ _ _ refl (on _ _ _ refl (stay _)))
primary_taken rule a x (g.ident_equal s) others rest stops = on _ _ _ refl (on _ _ _ refl (on _ _ _ refl (stay _)))
primary_taken rule a x (g.cd_hash h) others rest stops = on _ _ _ refl (on _ _ _ refl (stay _))
primary_taken rule a x (g.platform b n is) others rest stops = on _ _ _ refl (on _ _ _ refl (number_taken b n is others rest))
primary_taken rule a x g.notarized others rest stops = on _ _ _ refl (stay _)
primary_taken rule a x g.legacy others rest stops = on _ _ _ refl (stay _)
primary_taken rule a x (g.named_code s) others rest stops = on _ _ _ refl (on _ _ _ refl (on _ _ _ refl (stay _)))
primary_taken rule a x g.apple_anchor others rest stops = on _ _ _ refl (on _ _ _ refl (apple_stops rest stops others))
primary_taken rule a x g.apple_generic others rest stops = on _ _ _ refl (on _ _ _ refl (on _ _ _ refl (stay _)))
primary_taken rule a x (g.named_anchor s) others rest stops = on _ _ _ refl (on _ _ _ refl (on _ _ _ refl (stay _)))
primary_taken rule a x g.trusted_any others rest stops = on _ _ _ refl (on _ _ _ refl (on _ _ _ refl (stay _)))
primary_taken rule a x (g.anchor_hash h) others rest stops = on _ _ _ refl (on _ _ _ refl (on _ _ _ refl (on _ _ _ refl (stay _))))
primary_taken rule a x (g.anchor_test b key asked y is so) others rest stops = on _ _ _ refl (anchor_taken b key asked is others rest stops)
primary_taken rule a x (g.cert_hash c b n h cert is) others rest stops =
    cert_taken c b (sign w.equal ∷ t.hash h ∷ []) n cert is (λ o r s. on _ _ _ refl (on _ _ _ refl (stay _))) others rest stops
primary_taken rule a x (g.trusted_cert c b n cert is) others rest stops =
    cert_taken c b (word w.trusted ∷ []) n cert is (λ o r s. on _ _ _ refl (stay _)) others rest stops
primary_taken rule a x (g.cert_test c b e n key asked y cert is keys so) others rest stops =
    cert_taken c b e n cert is (asked_taken e key asked keys) others rest stops
primary_taken rule a x (g.info b key asked is) others rest stops = on _ _ _ refl (keyed_taken b key asked is others rest stops)
primary_taken rule a x (g.entitlement b key asked is) others rest stops = on _ _ _ refl (keyed_taken b key asked is others rest stops)

-- a list that begins with a word or a symbol
data Opens : List Terminal → Type 0 where
  by_word : (c : Word) (rest : List Terminal) → Opens (word c ∷ rest)
  by_sign : (s : Sign) (rest : List Terminal) → Opens (sign s ∷ rest)

opens_more : (a b : List Terminal) → Opens a → Opens (a ++ b)
opens_more a b (by_word c rest) = by_word c (rest ++ b)
opens_more a b (by_sign s rest) = by_sign s (rest ++ b)

primary_opens : (rule : KeyRule) (a : List Terminal) (x : Tree) → Primary rule a x → Opens a
primary_opens rule a x g.always = by_word _ _
primary_opens rule a x g.true = by_word _ _
primary_opens rule a x g.never = by_word _ _
primary_opens rule a x g.false = by_word _ _
primary_opens rule a x (g.ident s) = by_word _ _
primary_opens rule a x (g.ident_equal s) = by_word _ _
primary_opens rule a x (g.cd_hash h) = by_word _ _
primary_opens rule a x (g.platform b n is) = by_word _ _
primary_opens rule a x g.notarized = by_word _ _
primary_opens rule a x g.legacy = by_word _ _
primary_opens rule a x (g.named_code s) = by_sign _ _
primary_opens rule a x g.apple_anchor = by_word _ _
primary_opens rule a x g.apple_generic = by_word _ _
primary_opens rule a x (g.named_anchor s) = by_word _ _
primary_opens rule a x g.trusted_any = by_word _ _
primary_opens rule a x (g.anchor_hash h) = by_word _ _
primary_opens rule a x (g.anchor_test b key asked y is so) = by_word _ _
primary_opens rule a x (g.cert_hash c b n h cert is) = by_word _ _
primary_opens rule a x (g.trusted_cert c b n cert is) = by_word _ _
primary_opens rule a x (g.cert_test c b e n key asked y cert is keys so) = by_word _ _
primary_opens rule a x (g.info b key asked is) = by_word _ _
primary_opens rule a x (g.entitlement b key asked is) = by_word _ _

factor_opens : (rule : KeyRule) (a : List Terminal) (x : Tree) → Factor rule a x → Opens a
factor_opens rule a x (g.bang b y i) = by_sign _ _
factor_opens rule a x (g.paren b y i) = by_sign _ _
factor_opens rule a x (g.primary b y i) = primary_opens rule _ _ i

term_opens : (rule : KeyRule) (a : List Terminal) (x : Tree) → Term rule a x → Opens a
term_opens rule a x (g.factor b y i) = factor_opens rule _ _ i
term_opens rule a x (g.and b c y z i j) = opens_more b (word w.and ∷ c) (term_opens rule _ _ i)

expr_opens : (rule : KeyRule) (a : List Terminal) (x : Tree) → Expr rule a x → Opens a
expr_opens rule a x (g.term b y i) = term_opens rule _ _ i
expr_opens rule a x (g.or b c y z i j) = opens_more b (word w.or ∷ c) (expr_opens rule _ _ i)

paren_step : (a rest : List Terminal) (others : List Symbol) → Opens a → step (paren ∷ others, a ++ rest) ≡ Some (expr ∷ right_paren ∷ others, a ++ rest)
paren_step a rest others (by_word c more) = refl
paren_step a rest others (by_sign s more) = refl

-- a chain is taken off up to where its tail stands open
abbrev IsTermTaken : List Terminal → Type 0
IsTermTaken a = (others : List Symbol) (rest : List Terminal) → Stops rest → Goes (factor ∷ tail ∷ others, a ++ rest) (tail ∷ others, rest)

abbrev IsExprTaken : List Terminal → Type 0
IsExprTaken a = (others : List Symbol) (rest : List Terminal) → Stops rest → Goes (expr ∷ others, a ++ rest) (tail ∷ others, rest)

one_more : (s : Symbol) (o : Word) (a b : List Terminal) (others : List Symbol) (rest : List Terminal)
    → Goes (s ∷ others, a ++ word o ∷ (b ++ rest)) (tail ∷ others, word o ∷ (b ++ rest))
    → step (tail ∷ others, word o ∷ (b ++ rest)) ≡ Some (factor ∷ tail ∷ others, b ++ rest)
    → Goes (factor ∷ tail ∷ others, b ++ rest) (tail ∷ others, rest) → Goes (s ∷ others, (a ++ word o ∷ b) ++ rest) (tail ∷ others, rest)
one_more s o a b others rest first h second =
    subst (λ (l : List Terminal). Goes (s ∷ others, l) (tail ∷ others, rest)) (sym (append_assoc a (word o ∷ b) rest)) (then _ _ _ first (on _ _ _ h second))

term_more : (o : Word) (a b : List Terminal) (others : List Symbol) (rest : List Terminal)
    → Goes (factor ∷ tail ∷ others, a ++ word o ∷ (b ++ rest)) (tail ∷ others, word o ∷ (b ++ rest))
    → step (tail ∷ others, word o ∷ (b ++ rest)) ≡ Some (factor ∷ tail ∷ others, b ++ rest)
    → Goes (factor ∷ tail ∷ others, b ++ rest) (tail ∷ others, rest) → Goes (factor ∷ tail ∷ others, (a ++ word o ∷ b) ++ rest) (tail ∷ others, rest)
term_more o a b others rest first h second =
    subst (λ (l : List Terminal). Goes (factor ∷ tail ∷ others, l) (tail ∷ others, rest)) (sym (append_assoc a (word o ∷ b) rest)) (then _ _ _ first (on _ _ _ h second))

paren_taken : (rule : KeyRule) (a : List Terminal) (x : Tree) → Expr rule a x → IsExprTaken a → IsEaten factor (sign w.left_paren ∷ a ++ sign w.right_paren ∷ [])
paren_taken rule a x is taken others rest stops =
    on _ _ _ refl (subst (λ (l : List Terminal). Goes (paren ∷ others, l) (others, rest)) (sym (append_assoc a (sign w.right_paren ∷ []) rest))
    (on _ _ _ (paren_step a (sign w.right_paren ∷ rest) others (expr_opens rule a x is))
    (then _ _ _ (taken (right_paren ∷ others) (sign w.right_paren ∷ rest) (close rest)) (on _ _ _ refl (on _ _ _ refl (stay _))))))

mutual
  pub expr_taken : (rule : KeyRule) (a : List Terminal) (x : Tree) → Expr rule a x → IsExprTaken a
  expr_taken rule a x (g.term b y i) others rest stops = on _ _ _ refl (term_taken rule _ _ i others rest stops)
  expr_taken rule a x (g.or b c y z i j) others rest stops =
      one_more expr w.or b c others rest (expr_taken rule _ _ i others (word w.or ∷ (c ++ rest)) (or (c ++ rest))) refl (term_taken rule _ _ j others rest stops)

  pub term_taken : (rule : KeyRule) (a : List Terminal) (x : Tree) → Term rule a x → IsTermTaken a
  term_taken rule a x (g.factor b y i) others rest stops = factor_taken rule _ _ i (tail ∷ others) rest stops
  term_taken rule a x (g.and b c y z i j) others rest stops =
      term_more w.and b c others rest (term_taken rule _ _ i others (word w.and ∷ (c ++ rest)) (and (c ++ rest))) refl (factor_taken rule _ _ j (tail ∷ others) rest stops)

  pub factor_taken : (rule : KeyRule) (a : List Terminal) (x : Tree) → Factor rule a x → IsEaten factor a
  factor_taken rule a x (g.bang b y i) others rest stops = on _ _ _ refl (factor_taken rule _ _ i others rest stops)
  factor_taken rule a x (g.paren b y i) others rest stops = paren_taken rule _ _ i (expr_taken rule _ _ i) others rest stops
  factor_taken rule a x (g.primary b y i) others rest stops = primary_taken rule _ _ i others rest stops

-- an expression and what ends it
pub whole_taken : (rule : KeyRule) (a : List Terminal) (x : Tree) → Expr rule a x → (others : List Symbol) (rest : List Terminal) → Ends rest
    → Goes (expr ∷ others, a ++ rest) (others, rest)
whole_taken rule a x i others rest ends = then _ _ _ (expr_taken rule a x i others rest (ends_stop rest ends)) (tail_ends rest ends others)

part_step : (k : Word) (n : ℕ) → KindWord k n → (rest : List Terminal) → step (set ∷ [], word k ∷ rest) ≡ Some (arrow ∷ expr ∷ set ∷ [], rest)
part_step k n g.host rest = refl
part_step k n g.guest rest = refl
part_step k n g.designated rest = refl
part_step k n g.library rest = refl
part_step k n g.plugin rest = refl

parts_end : (rule : KeyRule) (a : List Terminal) (parts : List (ℕ × Tree)) → Parts rule a parts → Ends a
parts_end rule a parts g.none = over
parts_end rule a parts (g.part k n b c x more is i j) = next k n _ is

pub parts_taken : (rule : KeyRule) (a : List Terminal) (parts : List (ℕ × Tree)) → Parts rule a parts → Goes (set ∷ [], a) ([], [])
parts_taken rule a parts g.none = on _ _ _ refl (stay _)
parts_taken rule a parts (g.part k n b c x more is i j) =
    on _ _ _ (part_step k n is _) (on _ _ _ refl (then _ _ _ (whole_taken rule _ _ i (set ∷ []) c (parts_end rule _ _ j)) (parts_taken rule _ _ j)))
