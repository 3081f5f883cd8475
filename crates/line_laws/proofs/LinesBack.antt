-- A content is read back from its text, and an edit from its line.
use Rattle.std.proofs.Common.{◌≡◌, ◌≢◌, ℕ, ◌+◌, ◌≤◌, Bool, true, not, ◌&&◌, nat_le, List, [], ◌∷◌, ◌++◌, length, take, drop, All, Option, Some, None, Result, Ok, Err, if◌then◌else◌, codes, refl, sym, ap, subst, ◌∙◌, arith, append_assoc}
use Rattle.std.specs.Option.{ok_or}
use Rattle.std.specs.List.{list_all, position_or_len, before_first, after_first}
use Rattle.std.proofs.lemmas.Bool.{and_parts}
use Rattle.std.proofs.lemmas.Bool.Decides.{nat_tests}
use Rattle.std.proofs.lemmas.List.Elements.{All-nil, All-cons, All-head, All-tail}
use Rattle.std.proofs.Math.Seq.{take-append_seam, drop-append-add}
use Rattle.policy_model.specs.Keys.{is_key_byte, is_key}
use Rattle.policy_model.specs.Contents.{Content, add, remove, enable, disable, expire, switch, Edit}
use Rattle.policy_model.specs.Texts.{content_text}
use Rattle.policy_model.specs.Laws.{PlacesStand}
use Rattle.line_model.specs.LineFaults.{LineFault, bad_line, bad_key}
use Rattle.line_model.specs.Words.{key_word, words, spaced}
use Rattle.line_model.specs.Left.{Left, all_of, ◌>>=◌, word_at}
use Rattle.line_model.specs.Forms.{key_at}
use Rattle.line_model.specs.Contents.{Verb, Worded, operands_at, content_at}
use Rattle.line_model.specs.Edits.{Edited, edit_at, Makes, keyed, IsContent, IsEdit, by_words}
use Rattle.line_laws.specs.Limits.{FitsLine}
use Rattle.line_laws.specs.EditTexts.{with_second, edit_text}
use Rattle.line_laws.specs.Laws.{ContentReadsBack, EditReadsBack}
use Rattle.line_laws.proofs.NoSpaces.{HasNoSpace, IsNoSpace, is_space}
use Rattle.line_laws.proofs.Steps.{from, past, words_on, words_last, word_step, value_step}
use Rattle.line_laws.proofs.ContentsBack.{verb_text, verb_of, verb_back, in_verb, operands_text, spelled, worded_of, operands_on, content_on}
use Rattle.line_laws.proofs.Lengths.{of_content, of_edit}

-- words without spaces

no_space : (word : List ℕ) → All (λ b. b ≢ 32) word → HasNoSpace word
no_space [] h = All-nil IsNoSpace
no_space (b ∷ word) h = All-cons IsNoSpace b word (other b (All-head (λ b. b ≢ 32) b word h)) (no_space word (All-tail (λ b. b ≢ 32) b word h))
  where
    other : (b : ℕ) → b ≢ 32 → IsNoSpace b
    other b h = grind (arith, nat_tests, h)

some_pieces : (v : List ℕ) (ws : List (List ℕ)) → v ∷ ws ≢ []
some_pieces v ws e = cc

abbrev Spaceless : List ℕ → Type 0
Spaceless piece = All (λ b. b ≢ 32) piece

pub words_back : (pieces : List (List ℕ)) → pieces ≢ [] → All Spaceless pieces → words (spaced pieces) ≡ pieces
words_back [] some h = absurd (some refl)
words_back (w ∷ []) some h = words_last w (no_space w (All-head Spaceless w [] h))
words_back (w ∷ v ∷ ws) some h =
    words_on w (spaced (v ∷ ws)) (no_space w (All-head Spaceless w (v ∷ ws) h))
    ∙ ap (λ rest. w ∷ rest) (words_back (v ∷ ws) (some_pieces v ws) (All-tail Spaceless w (v ∷ ws) h))

-- keys

key_byte : (b : ℕ) → is_key_byte b ≡ true → IsNoSpace b
key_byte b h = grind (arith, nat_tests, h)

key_bytes : (key : List ℕ) → list_all is_key_byte key ≡ true → HasNoSpace key
key_bytes [] h = All-nil IsNoSpace
key_bytes (b ∷ key) h =
    let parts = and_parts (is_key_byte b) (list_all is_key_byte key) h in
    All-cons IsNoSpace b key (key_byte b parts.0) (key_bytes key parts.1)

in_key : (key : List ℕ) → is_key key ≡ true → HasNoSpace key
in_key key h = key_bytes key (and_parts (nat_le 1 (length key) && nat_le (length key) 64) (list_all is_key_byte key) h).1

short_key : (key : List ℕ) → is_key key ≡ true → length key ≤ 64
short_key key h =
    let few : nat_le (length key) 64 ≡ true = (and_parts (nat_le 1 (length key)) (nat_le (length key) 64) (and_parts (nat_le 1 (length key) && nat_le (length key) 64) (list_all is_key_byte key) h).0).1 in
    grind (arith, nat_tests, few)

key_back : (key : List ℕ) → is_key key ≡ true → key_word key ≡ Some key
key_back key h = ap (λ (c : Bool). if c then Some key else None) h

-- a line whose first word stands before a space
by_words_on : {A : Type 0} (form : List ℕ → Left → Result A LineFault) (word rest : List ℕ) → HasNoSpace word → length (word ++ 32 ∷ rest) ≤ 8192
    → by_words form (word ++ 32 ∷ rest) ≡ form word (from (past 1 word) rest)
by_words_on {A} form word rest h short =
    let within : nat_le (length (word ++ 32 ∷ rest)) 8192 ≡ true = grind (arith, nat_tests, short) in
    ap (λ (c : Bool). if c then (word_at (all_of (word ++ 32 ∷ rest)) >>= λ word. form word.0 word.1) else Err (bad_line 8193)) within
    ∙ word_step 1 word rest (λ word. form word.0 word.1) h

-- what the words of a content make
makes : {A : Type 0} (make : Content → A) (c : Content) → FitsLine c → Makes make (worded_of c) (Ok (make c))
makes make (add n) h = (Ok n.tree, h.reads, refl)
makes make (remove s) h = refl
makes make (enable s) h = refl
makes make (disable s) h = refl
makes make (expire s m) h = refl
makes make (switch on) h = refl

-- the key stands behind the first word

space_place : (word rest : List ℕ) → HasNoSpace word → position_or_len is_space (word ++ 32 ∷ rest) ≡ length word
space_place [] rest h = refl
space_place (b ∷ word) rest h =
    let behind = space_place word rest (All-tail IsNoSpace b word h) in
    ap (λ (c : Bool). if not c then 1 + position_or_len is_space (word ++ 32 ∷ rest) else 0) (All-head IsNoSpace b word h)
    ∙ omega (arith, behind)

before : (word rest : List ℕ) → HasNoSpace word → before_first is_space (word ++ 32 ∷ rest) ≡ word
before word rest h = ap (λ n. take n (word ++ 32 ∷ rest)) (space_place word rest h) ∙ take-append_seam word (32 ∷ rest)

after : (word rest : List ℕ) → HasNoSpace word → after_first is_space (word ++ 32 ∷ rest) ≡ rest
after word rest h = ap (λ n. drop (n + 1) (word ++ 32 ∷ rest)) (space_place word rest h) ∙ drop-append-add word (32 ∷ rest) 1

regrouped : (s a k t : List ℕ) → a ++ s ++ k ++ s ++ t ≡ a ++ (s ++ (k ++ (s ++ t)))
regrouped s a k t = simp append_assoc

second : (key word rest : List ℕ) → HasNoSpace word → with_second key (word ++ 32 ∷ rest) ≡ word ++ 32 ∷ (key ++ 32 ∷ rest)
second key word rest h =
    ap (λ front. front ++ codes " " ++ key ++ codes " " ++ after_first is_space (word ++ 32 ∷ rest)) (before word rest h)
    ∙ ap (λ behind. word ++ codes " " ++ key ++ codes " " ++ behind) (after word rest h)
    ∙ regrouped (codes " ") word key rest

abbrev edited : List ℕ → Worded → Result Edited LineFault
edited key worded = Ok (record { key = key; worded = worded })

abbrev operands_step : Verb → List ℕ × Left → Result Edited LineFault
operands_step verb key = operands_at verb key.1 >>= edited key.0

module _ (stand : PlacesStand) where
  pub content_back : ContentReadsBack
  content_back c h =
      let read : by_words content_at (content_text c) ≡ Ok (worded_of c) =
      ap (by_words content_at) (spelled c)
      ∙ by_words_on content_at (verb_text c) (operands_text c) (in_verb c) (of_content stand c h)
      ∙ content_on stand (past 1 (verb_text c)) c h in
      subst (λ (r : Result Worded LineFault). IsContent r (Ok c)) (sym read) (makes (λ content. content) c h)

  edit_on : (column : ℕ) (key : List ℕ) (c : Content) → is_key key ≡ true → FitsLine c
      → edit_at (verb_text c) (from column (key ++ 32 ∷ operands_text c)) ≡ Ok (record { key = key; worded = worded_of c })
  edit_on column key c k h =
      ap (λ (o : Option Verb). ok_or o (bad_line 1) >>= (λ verb. key_at (from column (key ++ 32 ∷ operands_text c)) >>= operands_step verb)) (verb_back c)
      ∙ value_step key_word bad_key column key (operands_text c) key (operands_step (verb_of c)) (in_key key k) (key_back key k)
      ∙ ap (λ (r : Result Worded LineFault). r >>= edited key) (operands_on stand (past column key) c h)

  edit_spelled : (e : Edit) → edit_text e ≡ verb_text e.content ++ 32 ∷ (e.key ++ 32 ∷ operands_text e.content)
  edit_spelled e = ap (with_second e.key) (spelled e.content) ∙ second e.key (verb_text e.content) (operands_text e.content) (in_verb e.content)

  pub edit_back : EditReadsBack
  edit_back e k h =
      let read : by_words edit_at (edit_text e) ≡ Ok (record { key = e.key; worded = worded_of e.content }) =
      ap (by_words edit_at) (edit_spelled e)
      ∙ by_words_on edit_at (verb_text e.content) (e.key ++ 32 ∷ operands_text e.content) (in_verb e.content) (of_edit stand e.key e.content (short_key e.key k) h)
      ∙ edit_on (past 1 (verb_text e.content)) e.key e.content k h in
      subst (λ (r : Result Edited LineFault). IsEdit r (Ok e)) (sym read) (makes (keyed e.key) e.content h)
