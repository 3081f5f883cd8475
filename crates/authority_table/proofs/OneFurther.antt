-- A search that goes on by one more rule.
use Rattle.std.proofs.lemmas.List.{map_more}
use Rattle.rule_values.specs.declared.rule.Rule.{Rule}
use Rattle.rule_values.specs.Rule.{row_of, rows_of}
use Rattle.std.proofs.Common.{◌≡◌, ℕ, ◌+◌, ◌<◌, length, take, get_or, List, [], ◌∷◌, ◌++◌, sym, subst, ap, ◌∙◌}
use Rattle.std.specs.Prelude.{Bool, true, false, nat_lt, Option, Some}
use Rattle.std.proofs.lemmas.Bool.{both_ways}
use Rattle.req_tree.specs.Subject.{Subject}
use Rattle.req_tree.specs.Facts.{Facts}
use Rattle.req_tree.specs.Meaning.{mean}
use Rattle.policy_model.specs.Rules.{Row, Kind, rank_of, Before, Meets, IsFirstOf}
use Rattle.policy_model.specs.Laws.{PassesOver, PassesOverLater}
use Rattle.authority_table.specs.declared.first_rules.FirstRules.{FirstRules}
use Rattle.authority_table.specs.Found.{row_found}
use Rattle.authority_table.specs.FirstRules.{AreFirst}

-- an enabled rule may govern, and is no latent one
pub may_govern : PassesOver → (kind : Kind) (subject : Subject) (facts : Facts) (m : ℕ) (rows : List Row) (x : Row) (f g : FirstRules) → AreFirst rows kind subject facts m f → nat_lt 0 x.disabled ≡ false → row_found g.latent ≡ row_found f.latent
    → (IsFirstOf (Meets (nat_lt 0 x.disabled) kind subject facts m) rows (row_found f.governing) → IsFirstOf (Meets (nat_lt 0 x.disabled) kind subject facts m) (rows ++ x ∷ []) (row_found g.governing)) → AreFirst (rows ++ x ∷ []) kind subject facts m g
may_govern law kind subject facts m rows x f g h n same governs = record {
  governing = subst (λ d. IsFirstOf (Meets d kind subject facts m) (rows ++ x ∷ []) (row_found g.governing)) n (governs (subst (λ d. IsFirstOf (Meets d kind subject facts m) rows (row_found f.governing)) (sym n) h.governing));
  latent = subst (IsFirstOf (Meets true kind subject facts m) (rows ++ x ∷ [])) (sym same) (law true kind subject facts m rows x (row_found f.latent) h.latent (λ k. both_ways (nat_lt 0 x.disabled) n k.counted));
}

-- a disabled one may be the latent one, and doesn't govern
pub may_be_latent : PassesOver → (kind : Kind) (subject : Subject) (facts : Facts) (m : ℕ) (rows : List Row) (x : Row) (f g : FirstRules) → AreFirst rows kind subject facts m f → nat_lt 0 x.disabled ≡ true → row_found g.governing ≡ row_found f.governing
    → (IsFirstOf (Meets (nat_lt 0 x.disabled) kind subject facts m) rows (row_found f.latent) → IsFirstOf (Meets (nat_lt 0 x.disabled) kind subject facts m) (rows ++ x ∷ []) (row_found g.latent)) → AreFirst (rows ++ x ∷ []) kind subject facts m g
may_be_latent law kind subject facts m rows x f g h n same latent = record {
  governing = subst (IsFirstOf (Meets false kind subject facts m) (rows ++ x ∷ [])) (sym same) (law false kind subject facts m rows x (row_found f.governing) h.governing (λ k. both_ways (nat_lt 0 x.disabled) k.counted n));
  latent = subst (λ d. IsFirstOf (Meets d kind subject facts m) (rows ++ x ∷ []) (row_found g.latent)) n (latent (subst (λ d. IsFirstOf (Meets d kind subject facts m) rows (row_found f.latent)) (sym n) h.latent));
}

-- a rule whose requirement doesn't hold changes nothing
pub found_beside : PassesOver → (kind : Kind) (subject : Subject) (facts : Facts) (m : ℕ) (rows : List Row) (x : Row) (f : FirstRules) → mean x.tree subject facts ≡ false → AreFirst rows kind subject facts m f → AreFirst (rows ++ x ∷ []) kind subject facts m f
found_beside law kind subject facts m rows x f e h = record {
  governing = law false kind subject facts m rows x (row_found f.governing) h.governing (λ k. both_ways (mean x.tree subject facts) e k.applies.means_true);
  latent = law true kind subject facts m rows x (row_found f.latent) h.latent (λ k. both_ways (mean x.tree subject facts) e k.applies.means_true);
}

-- the rule that was found stays, where the next isn't before it
pub stays_found : PassesOverLater → (disabled : Bool) (kind : Kind) (subject : Subject) (facts : Facts) (m : ℕ) (rows : List Row) (x s : Row) (o : Option Row) → o ≡ Some s → (Before (rank_of x) (rank_of s) → ⊥)
    → IsFirstOf (Meets disabled kind subject facts m) rows o → IsFirstOf (Meets disabled kind subject facts m) (rows ++ x ∷ []) o
stays_found law disabled kind subject facts m rows x s o is after h =
    subst (IsFirstOf (Meets disabled kind subject facts m) (rows ++ x ∷ [])) (sym is) (law disabled kind subject facts m rows x s (subst (IsFirstOf (Meets disabled kind subject facts m) rows) is h) after)

-- a list of rules that is read one further
pub one_further : (kind : Kind) (subject : Subject) (facts : Facts) (m : ℕ) (rules : List Rule) (i : ℕ) (d x : Rule) (f : FirstRules) → i < length rules → x ≡ get_or rules i d → AreFirst (rows_of (take i rules) ++ row_of x ∷ []) kind subject facts m f → AreFirst (rows_of (take (i + 1) rules)) kind subject facts m f
one_further kind subject facts m rules i d x f lt e h =
    subst (λ rows. AreFirst rows kind subject facts m f) (sym (map_more row_of rules i d lt ∙ ap (λ y. rows_of (take i rules) ++ row_of y ∷ []) (sym e))) h
