-- A copy of the rows of a kind that has come so far.
use Rattle.std.proofs.Common.{◌≡◌, ℕ, suc, ◌+◌, ◌<◌, length, drop, get_or, drop-cons, List, [], ◌∷◌, ◌++◌, sym, ap, ◌∙◌, append_assoc, arith, subst}
use Rattle.std.specs.Prelude.{Bool, true, false, if◌then◌else◌}
use Rattle.policy_model.specs.Rules.{Row, Kind, same_kind}
use Rattle.rule_values.specs.declared.rule.Rule.{Rule}
use Rattle.rule_values.specs.Rule.{row_of, rows_of}
use Rattle.std.specs.List.Sorted.{IsPermutation}
use Rattle.std.proofs.lemmas.List.Sorted.{IsPermutation-map}
use Rattle.authority_table.specs.Snapshot.{of_kind, IsByRank, IsSnapshot}

next_row : (kind : Kind) (r : Row) (rest : List Row) (b : Bool) → same_kind r.kind kind ≡ b → of_kind kind (r ∷ rest) ≡ (if b then r ∷ of_kind kind rest else of_kind kind rest)
next_row kind r rest b h = ap (λ c. if c then r ∷ of_kind kind rest else of_kind kind rest) h

rows_behind : (rules : List Rule) (i : ℕ) (d : Rule) → i < length rules → rows_of (drop i rules) ≡ row_of (get_or rules i d) ∷ rows_of (drop (i + 1) rules)
rows_behind rules i d h =
    let next : suc i ≡ i + 1 = omega arith in
    ap rows_of (drop-cons rules i d h) ∙ ap (λ k. row_of (get_or rules i d) ∷ rows_of (drop k rules)) next

-- the row at i is of the kind, and was copied
pub one_copied : (kind : Kind) (done : List Row) (rules : List Rule) (i : ℕ) (x : Rule) (copy : Row) (all : List Row) → i < length rules → x ≡ get_or rules i x → copy ≡ row_of x → same_kind (row_of x).kind kind ≡ true →
    done ++ of_kind kind (rows_of (drop i rules)) ≡ all → (done ++ copy ∷ []) ++ of_kind kind (rows_of (drop (i + 1) rules)) ≡ all
one_copied kind done rules i x copy all h is same of e =
    append_assoc done (copy ∷ []) (of_kind kind (rows_of (drop (i + 1) rules)))
    ∙ ap (λ r. done ++ r ∷ of_kind kind (rows_of (drop (i + 1) rules))) same
    ∙ ap (λ l. done ++ l) (sym (next_row kind (row_of x) (rows_of (drop (i + 1) rules)) true of))
    ∙ ap (λ r. done ++ of_kind kind (row_of r ∷ rows_of (drop (i + 1) rules))) is
    ∙ ap (λ l. done ++ of_kind kind l) (sym (rows_behind rules i x h))
    ∙ e

-- it is of another kind
pub one_passed : (kind : Kind) (done : List Row) (rules : List Rule) (i : ℕ) (x : Rule) (all : List Row) → i < length rules → x ≡ get_or rules i x → same_kind (row_of x).kind kind ≡ false →
    done ++ of_kind kind (rows_of (drop i rules)) ≡ all → done ++ of_kind kind (rows_of (drop (i + 1) rules)) ≡ all
one_passed kind done rules i x all h is of e =
    ap (λ l. done ++ l) (sym (next_row kind (row_of x) (rows_of (drop (i + 1) rules)) false of))
    ∙ ap (λ r. done ++ of_kind kind (row_of r ∷ rows_of (drop (i + 1) rules))) is
    ∙ ap (λ l. done ++ of_kind kind l) (sym (rows_behind rules i x h))
    ∙ e

-- what was copied and then sorted is a snapshot
pub snapshot_of : (table copied sorted shared : List Rule) (kind : Kind) → rows_of copied ≡ of_kind kind (rows_of table) → IsPermutation copied sorted → IsByRank (rows_of sorted) → shared ≡ sorted →
    IsSnapshot (rows_of table) kind (rows_of shared)
snapshot_of table copied sorted shared kind e moved ranked is =
    subst (λ (x : List Rule). IsSnapshot (rows_of table) kind (rows_of x)) (sym is) (record {
      same = subst (λ (l : List Row). IsPermutation l (rows_of sorted)) e (IsPermutation-map row_of copied sorted moved);
      ranked = ranked;
    })
