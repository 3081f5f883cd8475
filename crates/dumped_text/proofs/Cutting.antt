-- The terminals of a text, piece by piece, without places; and that such a text has tokens with these terminals.
use Rattle.std.proofs.Common.{◌≡◌, ℕ, ◌+◌, List, [], ◌∷◌, ◌++◌, length, take, drop, refl, sym, ap, ◌∙◌, append_assoc, arith, length-append}
use Rattle.req_grammar.specs.Tokens.{Kind, Token, Tokens, IsToken, IsGap, dropped, none, one}
use Rattle.req_grammar.specs.Terminals.{Terminal, terminal_of, terminals}

-- a text and its terminals: there are no bytes; or its front is dropped, or is a token, and then comes the rest
pub data Cut : List ℕ → List Terminal → Type 0 where
  end : Cut [] []
  gap : (front rest : List ℕ) (ts : List Terminal) → IsGap front rest → Cut rest ts → Cut (front ++ rest) ts
  token : (kind : Kind) (front rest : List ℕ) (ts : List Terminal) → IsToken kind front rest → Cut rest ts → Cut (front ++ rest) (terminal_of kind front ∷ ts)

-- tokens of a text that stands behind other bytes, with these terminals
pub record Told (whole : List ℕ) (at : ℕ) (text : List ℕ) (ts : List Terminal) : Type 0 where
  pub tokens : List Token
  pub are : Tokens at text tokens
  pub say : terminals whole tokens ≡ ts

pub take_front : (xs ys : List ℕ) → take (length xs) (xs ++ ys) ≡ xs
take_front [] ys = refl
take_front (x ∷ xs) ys = ap (λ l. x ∷ l) (take_front xs ys)

pub drop_front : (xs ys : List ℕ) → drop (length xs) (xs ++ ys) ≡ ys
drop_front [] ys = refl
drop_front (x ∷ xs) ys = drop_front xs ys

told_gap : (whole before front rest : List ℕ) (at : ℕ) (ts : List Terminal) → at ≡ length before → whole ≡ before ++ (front ++ rest) → IsGap front rest
    → ((b : List ℕ) (n : ℕ) → n ≡ length b → whole ≡ b ++ rest → Told whole n rest ts) → Told whole at (front ++ rest) ts
told_gap whole before front rest at ts e parts h later =
    let place : at + length front ≡ length (before ++ front) = let l : length (before ++ front) ≡ length before + length front = length-append before front in omega (arith, l, e) in
    let more = later (before ++ front) (at + length front) place (parts ∙ sym (append_assoc before front rest)) in
    record {
      tokens = more.tokens;
      are = dropped at (front ++ rest) front rest more.tokens refl h more.are;
      say = more.say;
    }

told_token : (whole before front rest : List ℕ) (at : ℕ) (kind : Kind) (ts : List Terminal) → at ≡ length before → whole ≡ before ++ (front ++ rest) → IsToken kind front rest
    → ((b : List ℕ) (n : ℕ) → n ≡ length b → whole ≡ b ++ rest → Told whole n rest ts) → Told whole at (front ++ rest) (terminal_of kind front ∷ ts)
told_token whole before front rest at kind ts e parts h later =
    let place : at + length front ≡ length (before ++ front) = let l : length (before ++ front) ≡ length before + length front = length-append before front in omega (arith, l, e) in
    let more = later (before ++ front) (at + length front) place (parts ∙ sym (append_assoc before front rest)) in
    let bytes : take (length front) (drop at whole) ≡ front =
    ap (λ n. take (length front) (drop n whole)) e
    ∙ ap (λ (l : List ℕ). take (length front) (drop (length before) l)) parts
    ∙ ap (take (length front)) (drop_front before (front ++ rest))
    ∙ take_front front rest in
    record {
      tokens = record { kind = kind; at = at; length = length front } ∷ more.tokens;
      are = one at (front ++ rest) front rest more.tokens kind refl h more.are;
      say = ap (λ (l : List ℕ). terminal_of kind l ∷ terminals whole more.tokens) bytes ∙ ap (λ l. terminal_of kind front ∷ l) more.say;
    }

told : (whole text : List ℕ) (ts : List Terminal) → Cut text ts → (before : List ℕ) (at : ℕ) → at ≡ length before → whole ≡ before ++ text → Told whole at text ts
told whole _ _ end before at e parts = record { tokens = []; are = none at; say = refl }
told whole _ _ (gap front rest ts h cut) before at e parts = told_gap whole before front rest at ts e parts h (told whole rest ts cut)
told whole _ _ (token kind front rest ts h cut) before at e parts = told_token whole before front rest at kind ts e parts h (told whole rest ts cut)

-- a text that is cut has tokens
pub tokens_told : (text : List ℕ) (ts : List Terminal) → Cut text ts → (tokens : List Token) × Tokens 0 text tokens × (terminals text tokens ≡ ts)
tokens_told text ts cut = let all = told text text ts cut [] 0 refl refl in (all.tokens, all.are, all.say)
