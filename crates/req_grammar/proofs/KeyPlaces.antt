-- Where keys of certificates' tests stand in a list: in its parts, and nowhere across a seam.
use Rattle.std.proofs.Common.{◌≡◌, ℕ, ◌+◌, Bool, true, false, not, ◌&&◌, ◌⊎◌, List, [], ◌∷◌, ◌++◌, length, take, drop, get_or, refl, sym, ap, subst, ◌∙◌, inl, inr, true≢false, append_assoc, arith, length-append}
use Rattle.std.specs.List.{list_all}
use Rattle.req_grammar.specs.Words as w
use Rattle.req_grammar.specs.Terminals.{Terminal, sign, str}
use Rattle.req_grammar.specs.ReadingFaults.{IsCertKey, is_field_word}

bool_parts : (a b : Bool) → (a && b) ≡ true → (a ≡ true) × (b ≡ true)
bool_parts true b e = (refl, e)
bool_parts false b e = absurd (true≢false (sym e))

-- ---- a key in a part of a list is a key in the list

pub in_middle : (l mid r : List Terminal) (place : ℕ) (key : List ℕ) → IsCertKey mid place key → IsCertKey ((l ++ mid) ++ r) (length l + place) key
in_middle l mid r place key h =
    let behind : List Terminal = h.before ∷ sign w.left_bracket ∷ str key ∷ h.rest in
    record {
      front = l ++ h.front;
      before = h.before;
      rest = h.rest ++ r;
      parts = ap (λ (m : List Terminal). (l ++ m) ++ r) h.parts ∙ ap (λ (m : List Terminal). m ++ r) (sym (append_assoc l h.front behind)) ∙ append_assoc (l ++ h.front) behind r;
      certificate = h.certificate;
      place_is = omega (arith, h.place_is, length-append l h.front);
    }

pub behind_first : (t : Terminal) (a : List Terminal) (place : ℕ) (key : List ℕ) → IsCertKey a place key → IsCertKey (t ∷ a) (1 + place) key
behind_first t a place key h = record {
  front = t ∷ h.front;
  before = h.before;
  rest = h.rest;
  parts = ap (λ (l : List Terminal). t ∷ l) h.parts;
  certificate = h.certificate;
  place_is = omega (arith, h.place_is);
}

-- ---- and a key in the list is one in a part

abbrev pub is_bracket : Terminal → Bool
is_bracket (sign w.left_bracket) = true
is_bracket other = false

abbrev pub is_str : Terminal → Bool
is_str (str s) = true
is_str other = false

abbrev pub str_of : Terminal → List ℕ
str_of (str s) = s
str_of other = []

abbrev pub no_bracket : Terminal → Bool
no_bracket t = not (is_bracket t)

abbrev pub begins_bracket : List Terminal → Bool
begins_bracket [] = false
begins_bracket (t ∷ rest) = is_bracket t

abbrev pub KeyIn : List Terminal → List ℕ → Type 0
KeyIn list key = (place : ℕ) × IsCertKey list place key

-- a key in two lists with a terminal between them is one in either, where none begins at the seam
pub split_key : (a b : List Terminal) (op : Terminal) (key : List ℕ) (front : List Terminal) (before : Terminal) (rest : List Terminal)
    → is_bracket op ≡ false → is_str op ≡ false → begins_bracket b ≡ false → is_field_word before ≡ false
    → a ++ op ∷ b ≡ front ++ before ∷ sign w.left_bracket ∷ str key ∷ rest → KeyIn a key ⊎ KeyIn b key
split_key [] b op key [] before rest x y z c e = absurd (true≢false (sym (ap (λ (l : List Terminal). begins_bracket (drop 1 l)) e) ∙ z))
split_key [] b op key (f ∷ front) before rest x y z c e =
    inr (length front + 2, record { front = front; before = before; rest = rest; parts = ap (drop 1) e; certificate = c; place_is = refl })
split_key (t ∷ []) b op key [] before rest x y z c e = absurd (true≢false (sym (ap (λ (l : List Terminal). begins_bracket (drop 1 l)) e) ∙ x))
split_key (t ∷ u ∷ []) b op key [] before rest x y z c e = absurd (true≢false (sym (ap (λ (l : List Terminal). is_str (get_or l 2 op)) e) ∙ y))
split_key (t ∷ u ∷ v ∷ a) b op key [] before rest x y z c e =
    inl (
      2,
      record {
        front = [];
        before = before;
        rest = a;
        parts = ap (λ (l : List Terminal). take 3 l ++ a) e;
        certificate = c;
        place_is = refl;
      },
    )
split_key (t ∷ a) b op key (f ∷ front) before rest x y z c e = by (split_key a b op key front before rest x y z c (ap (drop 1) e))
  where
    by : KeyIn a key ⊎ KeyIn b key → KeyIn (t ∷ a) key ⊎ KeyIn b key
    by (inl (place, h)) = inl (1 + place, behind_first t a place key h)
    by (inr h) = inr h

pub split_at : (a b : List Terminal) (op : Terminal) (key : List ℕ) (place : ℕ) → is_bracket op ≡ false → is_str op ≡ false → begins_bracket b ≡ false
    → IsCertKey (a ++ op ∷ b) place key → KeyIn a key ⊎ KeyIn b key
split_at a b op key place x y z h = split_key a b op key h.front h.before h.rest x y z h.certificate h.parts

-- ---- brackets

no_bracket_at : (g rest : List Terminal) → list_all no_bracket (g ++ sign w.left_bracket ∷ rest) ≡ true → ⊥
no_bracket_at [] rest e = true≢false (sym e)
no_bracket_at (t ∷ g) rest e = no_bracket_at g rest (bool_parts (no_bracket t) (list_all no_bracket (g ++ sign w.left_bracket ∷ rest)) e).1

-- without brackets there is no key
pub no_key : (a : List Terminal) (key : List ℕ) (place : ℕ) → list_all no_bracket a ≡ true → IsCertKey a place key → ⊥
no_key a key place e h =
    let parts : a ≡ (h.front ++ h.before ∷ []) ++ sign w.left_bracket ∷ str key ∷ h.rest =
    h.parts ∙ sym (append_assoc h.front (h.before ∷ []) (sign w.left_bracket ∷ str key ∷ h.rest)) in
    no_bracket_at (h.front ++ h.before ∷ []) (str key ∷ h.rest) (subst (λ (l : List Terminal). list_all no_bracket l ≡ true) parts e)

first_bracket : (f g s r : List Terminal) → list_all no_bracket f ≡ true → list_all no_bracket s ≡ true
    → f ++ sign w.left_bracket ∷ s ≡ g ++ sign w.left_bracket ∷ r → (f ≡ g) × (s ≡ r)
first_bracket [] [] s r x y e = (refl, ap (drop 1) e)
first_bracket [] (u ∷ g) s r x y e = absurd (no_bracket_at g r (subst (λ (l : List Terminal). list_all no_bracket l ≡ true) (ap (drop 1) e) y))
first_bracket (t ∷ f) [] s r x y e =
    let is : is_bracket t ≡ true = ap begins_bracket e in
    absurd (true≢false (sym (bool_parts (no_bracket t) (list_all no_bracket f) x).0 ∙ ap not is))
first_bracket (t ∷ f) (u ∷ g) s r x y e =
    let later = first_bracket f g s r (bool_parts (no_bracket t) (list_all no_bracket f) x).1 y (ap (drop 1) e) in
    let first : t ≡ u = ap (λ (l : List Terminal). get_or l 0 t) e in
    (ap (λ (v : Terminal). v ∷ f) first ∙ ap (λ (l : List Terminal). u ∷ l) later.0, later.1)

-- the key of a list with one bracket: it is the string there, and what stands before the bracket is no word for a field
pub record OneKey (f : List Terminal) (k key : List ℕ) : Type 0 where
  pub key_is : k ≡ key
  pub front : List Terminal
  pub before : Terminal
  pub parts : f ≡ front ++ before ∷ []
  pub certificate : is_field_word before ≡ false

pub one_key : (f b : List Terminal) (k key : List ℕ) (place : ℕ) → list_all no_bracket f ≡ true → list_all no_bracket b ≡ true
    → IsCertKey (f ++ sign w.left_bracket ∷ str k ∷ sign w.right_bracket ∷ b) place key → OneKey f k key
one_key f b k key place x y h =
    let parts : f ++ sign w.left_bracket ∷ str k ∷ sign w.right_bracket ∷ b ≡ (h.front ++ h.before ∷ []) ++ sign w.left_bracket ∷ str key ∷ h.rest =
    h.parts ∙ sym (append_assoc h.front (h.before ∷ []) (sign w.left_bracket ∷ str key ∷ h.rest)) in
    let one = first_bracket f (h.front ++ h.before ∷ []) (str k ∷ sign w.right_bracket ∷ b) (str key ∷ h.rest) x y parts in
    record {
      key_is = ap (λ (l : List Terminal). str_of (get_or l 0 (str k))) one.1;
      front = h.front;
      before = h.before;
      parts = one.0;
      certificate = h.certificate;
    }

-- a single word for a field asks for no certificate
pub field_no_key : (f : Terminal) (k key : List ℕ) → is_field_word f ≡ true → OneKey (f ∷ []) k key → ⊥
field_no_key f k key is h = by h.front h.parts
  where
    by : (front : List Terminal) → f ∷ [] ≡ front ++ h.before ∷ [] → ⊥
    by [] e = true≢false (sym is ∙ ap (λ (l : List Terminal). is_field_word (get_or l 0 f)) e ∙ h.certificate)
    by (t ∷ front) e =
        let size : 0 ≡ length (front ++ h.before ∷ []) = ap (λ (l : List Terminal). length (drop 1 l)) e in
        absurd (omega (arith, size, length-append front (h.before ∷ [])))
