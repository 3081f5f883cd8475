-- What was read went well at each of its steps.
use Rattle.std.proofs.Common.{◌≡◌, ℕ, ◌+◌, ◌<◌, List, [], ◌∷◌, ◌++◌, length, Bool, true, false, Option, Some, None, Result, Ok, Err, All, if◌then◌else◌, refl, sym, ap, ◌∙◌, subst}
use Rattle.std.specs.Prelude.{option_map}
use Rattle.std.specs.Option.{ok_or}
use Rattle.std.specs.List.{join_with_byte}
use Rattle.std.proofs.lemmas.List.Elements.{All-nil, All-cons, All-head, All-tail}
use Rattle.std.proofs.lemmas.List.Splits.{join_with_byte-slice_split}
use Rattle.line_model.specs.Words.{words}
use Rattle.line_model.specs.LineFaults.{LineFault}
use Rattle.line_model.specs.Left.{Left, all_of, ◌>>=◌, word_of, word_at, value_at}
use Rattle.line_laws.specs.Limits.{AreBytes}

pub ok_is : {A : Type 0} (a b : A) → ◌≡◌ {A = Result A LineFault} (Ok a) (Ok b) → a ≡ b
ok_is a b e = cc

pub not_ok : {A : Type 0} (a : A) (fault : LineFault) → ◌≡◌ {A = Result A LineFault} (Err fault) (Ok a) → ⊥
not_ok a fault e = cc

pub some_is : {A : Type 0} (a b : A) → ◌≡◌ {A = Option A} (Some a) (Some b) → a ≡ b
some_is a b e = cc

pub not_some : {A : Type 0} (a : A) → ◌≡◌ {A = Option A} None (Some a) → ⊥
not_some a e = cc

-- a step that read something, and the step behind it
pub steps : {A B : Type 0} (r : Result A LineFault) (next : A → Result B LineFault) (b : B) → (r >>= next) ≡ Ok b → (a : A) × (r ≡ Ok a) × (next a ≡ Ok b)
steps (Ok a) next b e = (a, refl, e)
steps (Err fault) next b e = absurd (not_ok b fault e)

pub given : {A : Type 0} (o : Option A) (fault : LineFault) (a : A) → ok_or o fault ≡ Ok a → o ≡ Some a
given None fault a e = absurd (not_ok a fault e)
given (Some b) fault a e = ap Some (ok_is b a e)

pub mapped : {A B : Type 0} (f : A → B) (o : Option A) (b : B) → option_map f o ≡ Some b → (a : A) × (o ≡ Some a) × (f a ≡ b)
mapped f None b e = absurd (not_some b e)
mapped f (Some a) b e = (a, refl, some_is (f a) b e)

pub tested : {A : Type 0} (test : Bool) (a b : A) → (if test then Some a else None) ≡ Some b → (test ≡ true) × (a ≡ b)
tested true a b e = (refl, some_is a b e)
tested false a b e = absurd (not_some b e)

pub passed : {A : Type 0} (test : Bool) (r : Result A LineFault) (fault : LineFault) (a : A) → (if test then r else Err fault) ≡ Ok a → (test ≡ true) × (r ≡ Ok a)
passed true r fault a e = (refl, e)
passed false r fault a e = absurd (not_ok a fault e)

-- the words that are left are bytes
abbrev pub BytesLeft : Left → Type 0
BytesLeft left = All AreBytes left.words

front_of : (xs ys : List ℕ) → AreBytes (xs ++ ys) → AreBytes xs
front_of [] ys h = All-nil (λ b. b < 256)
front_of (x ∷ xs) ys h = All-cons (λ b. b < 256) x xs (All-head (λ b. b < 256) x (xs ++ ys) h) (front_of xs ys (All-tail (λ b. b < 256) x (xs ++ ys) h))

back_of : (xs ys : List ℕ) → AreBytes (xs ++ ys) → AreBytes ys
back_of [] ys h = h
back_of (x ∷ xs) ys h = back_of xs ys (All-tail (λ b. b < 256) x (xs ++ ys) h)

joined_bytes : (pieces : List (List ℕ)) → AreBytes (join_with_byte 32 pieces) → All AreBytes pieces
joined_bytes [] h = All-nil AreBytes
joined_bytes (w ∷ []) h = All-cons AreBytes w [] h (All-nil AreBytes)
joined_bytes (w ∷ v ∷ ws) h =
    All-cons AreBytes w (v ∷ ws) (front_of w (32 ∷ join_with_byte 32 (v ∷ ws)) h)
    (joined_bytes (v ∷ ws) (All-tail (λ b. b < 256) 32 (join_with_byte 32 (v ∷ ws)) (back_of w (32 ∷ join_with_byte 32 (v ∷ ws)) h)))

-- the words of bytes are bytes
pub line_bytes : (line : List ℕ) → AreBytes line → BytesLeft (all_of line)
line_bytes line h = joined_bytes (words line) (subst AreBytes (sym (join_with_byte-slice_split 32 line)) h)

word_bytes : (column : ℕ) (ws : List (List ℕ)) (w : List ℕ × Left) → word_of column ws ≡ Ok w → All AreBytes ws → AreBytes w.0 × BytesLeft w.1
word_bytes column [] w e h = absurd (not_ok w _ e)
word_bytes column (v ∷ vs) w e h =
    let same : (v, record { column = column + length v + 1; words = vs }) ≡ w = ok_is _ w e in
    subst (λ (x : List ℕ × Left). AreBytes x.0 × BytesLeft x.1) same (All-head AreBytes v vs h, All-tail AreBytes v vs h)

pub next_word : (left : Left) (w : List ℕ × Left) → word_at left ≡ Ok w → BytesLeft left → AreBytes w.0 × BytesLeft w.1
next_word left w e h = word_bytes left.column left.words w e h

-- the word of a value that was read
pub record WordRead {A : Type 0} (read : List ℕ → Option A) (x : A × Left) : Type 0 where
  pub word : List ℕ
  pub bytes : AreBytes word
  pub says : read word ≡ Some x.0
  pub left : BytesLeft x.1

pub value_read : {A : Type 0} (read : List ℕ → Option A) (fault : LineFault) (left : Left) (x : A × Left) → value_at read fault left ≡ Ok x → BytesLeft left → WordRead read x
value_read {A} read fault left x e h =
    let at = steps (word_at left) (λ word. ok_or (read word.0) fault >>= (λ value. Ok (value, word.1))) x e in
    let says = steps (ok_or (read at.0.0) fault) (λ (value : A). Ok (value, at.0.1)) x at.2 in
    let same : (says.0, at.0.1) ≡ x = ok_is (says.0, at.0.1) x says.2 in
    let bytes = next_word left at.0 at.1 h in
    record {
      word = at.0.0;
      bytes = bytes.0;
      says = given (read at.0.0) fault says.0 says.1 ∙ ap (λ (y : A × Left). Some y.0) same;
      left = subst (λ (y : A × Left). BytesLeft y.1) same bytes.1;
    }
