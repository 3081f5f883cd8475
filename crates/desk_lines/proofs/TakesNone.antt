-- Lines at which no memory runs out.
use Rattle.std.proofs.Common.{◌≡◌, ◌≢◌, ℕ, List, [], ◌∷◌, Bool, true, false, Option, Some, None, Result, Ok, Err, MatchResult, IsErrAnd, codes, if◌then◌else◌, ap, subst, sym, ◌∙◌}
use Rattle.std.specs.Prelude.{bytes_eq}
use Rattle.std.specs.Option.{ok_or}
use Rattle.req_tree.specs.Subject.{Subject}
use Rattle.line_model.specs.LineFaults.{LineFault, out_of_memory}
use Rattle.line_model.specs.Left.{Left, ◌>>=◌, word_of, word_at, value_at, misfit, end_of, end_at}
use Rattle.line_model.specs.Forms.{kind_at, hash_at, identifier_at, platform_at}
use Rattle.line_model.specs.Subjects.{signed_at, as_some, subject_at}
use Rattle.line_words.specs.Faults.{fault_of}
use Rattle.line_words.specs.declared.fault.LineFault as code
use Rattle.line_words.specs.declared.fault.LineFault.TheVariants.{OutOfMemory}
use Rattle.session_model.specs.Lines.{keep_of, keep_at, nocache_word, ask_at}
use Rattle.desk_lines.specs.Memory.{MayTake}

-- reading didn't run out of memory
abbrev HasNoWant : {A : Type 0} → Result A LineFault → Type 0
HasNoWant read = read ≢ Err out_of_memory

bound : {A B : Type 0} (read : Result A LineFault) (next : A → Result B LineFault) → HasNoWant read → ((x : A) → HasNoWant (next x)) → HasNoWant (read >>= next)
bound (Ok x) next first more = more x
bound (Err fault) next first more = λ is. first (cc)

valued : {A : Type 0} (value : Option A) (fault : LineFault) → fault ≢ out_of_memory → HasNoWant (ok_or value fault)
valued None fault other = λ is. other (cc)
valued (Some x) fault other = λ is. cc

word_none : (column : ℕ) (words : List (List ℕ)) → HasNoWant (word_of column words)
word_none column [] = λ is. cc
word_none column (w ∷ ws) = λ is. cc

word_wants : (left : Left) → HasNoWant (word_at left)
word_wants left = word_none left.column left.words

value_wants : {A : Type 0} (read : List ℕ → Option A) (fault : LineFault) (left : Left) → fault ≢ out_of_memory → HasNoWant (value_at read fault left)
value_wants read fault left other =
    bound (word_at left) _ (word_wants left) (λ word. bound (ok_or (read word.0) fault) _ (valued (read word.0) fault other) (λ value is. cc))

end_none : (left : Left) (words : List (List ℕ)) → HasNoWant (end_of left words)
end_none left [] = λ is. cc
end_none left (w ∷ ws) = λ is. cc

end_wants : (left : Left) → HasNoWant (end_at left)
end_wants left = end_none left left.words

signed_wants : (left : Left) → HasNoWant (signed_at left)
signed_wants left =
    bound (hash_at left) _ (value_wants _ (misfit left) left (λ is. cc)) (λ hash. bound (identifier_at hash.1) _ (value_wants _ (misfit hash.1) hash.1 (λ is. cc))
    (λ identifier. bound (platform_at identifier.1) _ (value_wants _ (misfit identifier.1) identifier.1 (λ is. cc)) (λ platform is. cc)))

some_wants : (read : Result (Subject × Left) LineFault) → HasNoWant read → HasNoWant (as_some read)
some_wants read none = bound read _ none (λ subject is. cc)

either : {A : Type 0} (test : Bool) (one other : Result A LineFault) → HasNoWant one → HasNoWant other → HasNoWant (if test then one else other)
either true one other first second = first
either false one other first second = second

subject_wants : (left : Left) → HasNoWant (subject_at left)
subject_wants left =
    bound (word_at left) _ (word_wants left) (λ word. either (bytes_eq word.0 (codes "unsigned")) (Ok (None, word.1)) (as_some (signed_at left)) (λ is. cc) (some_wants (signed_at left) (signed_wants left)))

keep_none : (left : Left) (words : List (List ℕ)) → HasNoWant (keep_of left words)
keep_none left [] = λ is. cc
keep_none left (w ∷ ws) = bound (value_at nocache_word (misfit left) left) _ (value_wants nocache_word (misfit left) left (λ is. cc)) (λ keep. bound (end_at keep.1) _ (end_wants keep.1) (λ end is. cc))

ask_wants : (left : Left) → HasNoWant (ask_at left)
ask_wants left =
    bound (kind_at left) _ (value_wants _ (misfit left) left (λ is. cc)) (λ kind. bound (subject_at kind.1) _ (subject_wants kind.1) (λ subject. bound (keep_at subject.1) _ (keep_none subject.1 subject.1.words) (λ keep is. cc)))

-- so the fault of an ask isn't out of memory
ask_fault : (left : Left) (fault : code.LineFault) (P : Type 0) → ask_at left ≡ Err (fault_of fault) → fault ≡ OutOfMemory → P
ask_fault left fault P is want = absurd (ask_wants left (is ∙ ap (λ f. Err (fault_of f)) want))

pub ask_err : {A : Type 0} (r : Result A code.LineFault) (left : Left) (fault : code.LineFault) (P : Type 0) (Q : A → Type 0) → IsErrAnd r (λ e. e ≡ fault) → ask_at left ≡ Err (fault_of fault)
    → MatchResult r (λ x. Q x → P) (λ e. e ≡ OutOfMemory → P)
ask_err (Ok x) left fault P Q given is = absurd given
ask_err (Err e) left fault P Q given is = λ want. ask_fault left fault P is (sym given ∙ want)

-- two texts that differ
pub differ : (a b : List ℕ) → bytes_eq b b ≡ true → bytes_eq a b ≡ false → a ≢ b
differ a b same apart = λ is. let there : bytes_eq b b ≡ false = subst (λ x. bytes_eq x b ≡ false) is apart in cc

abbrev first_word : Result (List ℕ × Left) LineFault → List ℕ
first_word (Ok read) = read.0
first_word (Err fault) = []

takes_front : (column : ℕ) (words : List (List ℕ)) (word : List ℕ) (after : Left) → word_of column words ≡ Ok (word, after)
    → word ≢ codes "tick" → word ≢ codes "assess" → word ≢ codes "finish" → word ≢ codes "status" → MayTake words
takes_front column [] word after is t a f s = cc
takes_front column (w ∷ ws) word after is t a f s = let same : w ≡ word = ap first_word is in (λ e. t (sym same ∙ e), λ e. a (sym same ∙ e), λ e. f (sym same ∙ e), λ e. s (sym same ∙ e))

-- a first word that is none of the four
pub takes_first : (left : Left) (word : List ℕ) (after : Left) → word_at left ≡ Ok (word, after)
    → word ≢ codes "tick" → word ≢ codes "assess" → word ≢ codes "finish" → word ≢ codes "status" → MayTake left.words
takes_first left word after is t a f s = takes_front left.column left.words word after is t a f s

-- begin is none of them
pub begin_takes : (left : Left) (word : List ℕ) (after : Left) → word_at left ≡ Ok (word, after) → word ≡ codes "begin" → MayTake left.words
begin_takes left word after is begins = takes_first left word after is (λ e. cc) (λ e. cc) (λ e. cc) (λ e. cc)

-- a fact that holds whatever was read
pub anyhow : {A E : Type 0} (r : Result A E) (P : Type 0) (Q : A → Type 0) (W : E → Type 0) → P → MatchResult r (λ x. Q x → P) (λ e. W e → P)
anyhow (Ok x) P Q W p = λ q. p
anyhow (Err e) P Q W p = λ w. p
