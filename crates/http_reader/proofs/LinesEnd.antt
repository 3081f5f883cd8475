-- Where lines end.
use Rattle.std.proofs.Common.{◌≡◌, ◌≢◌, ℕ, ◌+◌, true, List, [], ◌∷◌, ◌++◌, take, drop, refl, sym, ap, ◌∙◌, append-nil, Some, None, take-append-drop}
use Rattle.std.proofs.lemmas.Bool.{ne_eqb}
use Rattle.std.proofs.lemmas.List.Elements.{All-head, All-tail}
use Rattle.http_model.specs.Heads.{after_line, after_request_line, is_end_byte}
use Rattle.http_reader.specs.Lines.{HasNoLf, IsFirstLf}

-- bytes without LF are passed over
pub passed : (xs ys : List ℕ) → HasNoLf xs → after_line (xs ++ ys) ≡ after_line ys
passed [] ys h = refl
passed (x ∷ xs) ys h = rw (ne_eqb x 10 (All-head (λ byte. byte ≢ 10) x xs h)) (passed xs ys (All-tail (λ byte. byte ≢ 10) x xs h))

pub none_left : (xs : List ℕ) → HasNoLf xs → after_line xs ≡ None
none_left xs h = ap after_line (sym (append-nil xs)) ∙ passed xs [] h

pub behind_lf : (bytes : List ℕ) (place : ℕ) → IsFirstLf bytes place → after_line bytes ≡ Some (drop (place + 1) bytes)
behind_lf bytes place h =
    ap after_line (sym (take-append-drop place bytes) ∙ ap (λ t. take place bytes ++ t) h.here) ∙ passed (take place bytes) (10 ∷ drop (place + 1) bytes) h.before

-- a line end in front belongs to no request line
pub end_byte_passed : (b : ℕ) (bytes : List ℕ) → is_end_byte b ≡ true → after_request_line (b ∷ bytes) ≡ after_request_line bytes
end_byte_passed b bytes e = rw e refl
