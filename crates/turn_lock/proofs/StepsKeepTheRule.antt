-- Each step keeps the rule of the table.
use Rattle.std.proofs.Common.{◌≡◌, ◌≢◌, ℕ, suc, ◌+◌, ◌%◌, ◌^◌, ◌<◌, eqb, true, false, List, [], ◌∷◌, ◌++◌, set, get_or, slice_index, refl, ap, sym, subst, ◌∙◌, ⊎_elim, inl, inr, arith, length-append, eq-eqb, ne_eqb, Option, Some, None, true≢false, suc-mul}
use mathlib.Core.List.{IsPrefix}
use mathlib.Core.Logic.{dite}
use mathlib.Core.Option.{none, some, some-ne-none, some-injective}
use native.Mathlib.Decide.{ℕ_discrete, dec_le}
use lib.ListN.{get_elem?}
use lib.Seq.{set-get_or}
use prog.Atomic.{either}
use Rattle.atomic_table.specs.Table.{State, Me, step, keeps, takes, gives, stepped, Allows}
use Rattle.atomic_table.proofs.Lists.{set_again, at_snoc}
use Rattle.turn_lock.specs.declared.lock.TheConstants.{TICKETS}
use Rattle.turn_lock.specs.declared.logged.Turn.{Turn}
use Rattle.turn_lock.specs.declared.logged.Kept.{Kept}
use Rattle.turn_lock.specs.declared.logged.View.{View}
use Rattle.turn_lock.specs.Views.{blank, number_at, kept_at, Has, IsOf, Tallies, refused, turn_of}
use Rattle.turn_lock.specs.Rule.{SomeAt, TicketOk, Live, Born, Ruled}
use Rattle.turn_lock.specs.Steps.{Began, Learned, Looked, Drew, Saw, Ended}
use Rattle.turn_lock.proofs.ChangedViews.{set_got, only_one, set_each, set_apart, some_set}
use Rattle.turn_lock.proofs.Histories.{prefix_self, prefix_trans, other_turn, own_turn}
use Rattle.turn_lock.proofs.Numbers.{own_number, kept_number}
use Rattle.turn_lock.proofs.Tickets.{one_ticket, put, put_here, put_else, ticket_drawn, ticket_ended}

module _ {S O E : Type 0} (stands : S → O → List (Turn E) → Type 0) (value : S) where
  abbrev V : Type 0
  V = View O E

  abbrev St : Type 0
  St = State (Option S) V

  abbrev M : Type 0
  M = Me (Option S) V

  abbrev Rule : St → Type 0
  Rule = Ruled stands value

  -- a table of which some seat knows the origin was born
  pub is_born : (s : St) (id : ℕ) (v : V) (o : O) → Rule s → get_elem? s.views id ≡ some v → v.origin ≡ Some o → Born stands s
  is_born s id v o r at is = elim r [
    | inl u ↦ absurd (let e : blank ≡ v = (only_one blank v id (ap (λ vs. get_elem? vs id) (sym u.views) ∙ at)).1 in let n : None ≡ Some o = ap (λ (z : V). z.origin) e ∙ is in cc n)
    | inr b ↦ b
  ]

  same_rule : (s : St) (i id : ℕ) (v : V) → get_elem? s.views id ≡ some v → Rule s → Rule record { words = set s.words i (get_or s.words i 0); homes = s.homes; views = set s.views id v }
  same_rule s i id v at r = subst (λ (x : List ℕ × List V). Rule record { words = x.0; homes = s.homes; views = x.1 }) (λ k. (sym (set-get_or s.words i 0) k, sym (set_again s.views id v at) k)) r

  tallies_of : {o : O} {next serving : ℕ} {h : List (Turn E)} {owner : ℕ → ℕ} {by : ℕ} {v : V} → Live o next serving h owner by v → Tallies v
  tallies_of l = record { own = l.own; kept = λ k x e. let q = l.kept k x e in (q.0, q.1) }

  told : {s : St} (b : Born stands s) (id : ℕ) (v : V) → get_elem? s.views id ≡ some v → v.gone ≡ false → Tallies v
  told b id v at here = tallies_of (b.each id v at here)

  -- a load that changes nothing keeps the rule, and tells the seat its tallies
  pub learns : (slots id : ℕ) (me : M) (o : O) → me.0.origin ≡ Some o → me.0.gone ≡ false → Allows Rule slots id me 0 (λ n. n) (Learned (step slots 0 0 0 none) me)
  learns slots id me o is here s r deep at low = (me.0, keeps, tt, same_rule s 0 id me.0 at r, (refl, told (is_born s id me.0 o r at is) id me.0 at here))

  -- a load of `next` keeps the rule, and a seat that finds no ticket left notes it
  pub looks : (slots id : ℕ) (me : M) (o : O) → me.0.origin ≡ Some o → me.0.gone ≡ false → Allows Rule slots id me 0 (λ n. n) (Looked (step slots 0 0 0 none) me)
  looks slots id me o is here s r deep at low = let x : ℕ = slice_index s.words 0 in dite (dec_le TICKETS x)
      (λ full.
      let b = is_born s id me.0 o r at is in let l = b.each id me.0 at here in
      let found : x ≡ b.next = ap (λ ws. slice_index ws 0) b.words in let w : V = refused me.0 in (
        w,
        keeps,
        tt,
        inr record {
          origin = b.origin;
          next = b.next;
          serving = b.serving;
          history = b.history;
          owner = b.owner;
          words = set-get_or s.words 0 0 ∙ b.words;
          order = b.order;
          low = b.low;
          served = b.served;
          each = set_each (Live b.origin b.next b.serving b.history b.owner) s.views id w
              (λ _. record {
                origin = l.origin;
                seen = l.seen;
                own = l.own;
                all = l.all;
                ticket = l.ticket;
                hold = l.hold;
                step = l.step;
                fresh = l.fresh;
                kept = l.kept;
                clear = l.clear;
                over = λ _. omega arith;
              })
              (λ j u other e live. b.each j u e live);
          apart = set_apart s.views id me.0 w at here (λ u q. q) b.apart;
          drawn = λ t a c. some_set (λ (v : V). v.tickets ≡ t ∷ []) s.views id me.0 w (b.owner t) at here (λ q. q) (b.drawn t a c);
          made = λ k t e. let q = b.made k t e in (q.0, some_set (IsOf t.by) s.views id me.0 w q.0 at here (λ z. z) q.1);
          latest = (b.latest.0, some_set (λ (v : V). v.seen ≡ b.history) s.views id me.0 w b.latest.0 at here (λ q. q) b.latest.1);
          slot = elim b.slot [
            | inl y ↦ inl y
            | inr y ↦ inr (y.0, (y.1.0, some_set (λ (v : V). v.holds ≡ true) s.views id me.0 w y.1.0 at here (λ q. q) y.1.1))
          ];
        },
        ((λ _. refl), λ room. absurd (omega arith)),
      ))
      (λ room. (me.0, keeps, tt, same_rule s 0 id me.0 at r, ((λ full. absurd (room full)), λ _. refl)))

  -- the first load of the first seat sets the rule up, with the origin
  pub births : (slots id : ℕ) (me : M) (o : Option O) → me ≡ (blank, []) → ((q : O) × (o ≡ Some q) × stands value q []) → Allows Rule slots id me 0 (λ n. n) (Began o (step slots 0 0 0 none) me)
  births slots id me o is st s r deep at low =
      let w : V = record { origin = o; gone = false; number = 0; step = 1; tickets = []; holds = false; seen = []; own = []; kept = []; spent = 0 } in
      let first : me.0 ≡ blank = ap (λ m. m.0) is in
      elim r [
        | inl u ↦ (
            let one : get_elem? (blank ∷ []) id ≡ some me.0 = ap (λ vs. get_elem? vs id) (sym u.views) ∙ at in
            let at0 : id ≡ 0 = (only_one blank me.0 id one).0 in
            let views' : set s.views id w ≡ w ∷ [] = λ k. set (u.views k) (at0 k) w in
            let l : Live st.0 0 0 [] (λ _. 0) 0 w = record {
              origin = st.1;
              seen = ([], refl);
              own = refl;
              all = refl;
              ticket = tt;
              hold = λ h. absurd (true≢false (sym h));
              step = omega arith;
              fresh = λ k. refl;
              kept = λ k x e. absurd (some-ne-none x (sym e));
              clear = λ k x e. absurd (some-ne-none x (sym e));
              over = λ z. absurd (omega arith);
            } in (
              w,
              keeps,
              tt,
              inr record {
                origin = st.0;
                next = 0;
                serving = 0;
                history = [];
                owner = λ _. 0;
                words = set-get_or s.words 0 0 ∙ u.words;
                order = omega arith;
                low = omega arith;
                served = refl;
                each = λ by v e _. let t = only_one w v by (ap (λ vs. get_elem? vs by) (sym views') ∙ e) in subst (λ (x : ℕ × V). Live st.0 0 0 [] (λ _. 0) x.0 x.1) (λ k. (sym t.0 k, t.1 k)) l;
                apart = λ i j v z other ei ej _ _. let a = only_one w v i (ap (λ vs. get_elem? vs i) (sym views') ∙ ei) in let b = only_one w z j (ap (λ vs. get_elem? vs j) (sym views') ∙ ej) in absurd (other (a.0 ∙ sym b.0));
                drawn = λ t a b. absurd (omega arith);
                made = λ k t e. absurd (some-ne-none t (sym e));
                latest = (0, (w, ap (λ vs. get_elem? vs 0) views', refl, refl));
                slot = inl (value, u.homes, st.2);
              },
              ap (λ (m : M). (w, m.1)) is,
            ))
        | inr b ↦ absurd (let l = b.each id me.0 at (ap (λ (z : V). z.gone) first) in let n : None ≡ Some b.origin = sym (ap (λ (z : V). z.origin) first) ∙ l.origin in cc n)
      ]

  -- a compare-exchange of `next` keeps the rule, and gives the ticket where it wins
  pub draws : (slots id : ℕ) (me : M) (old : ℕ) (o : O) → me.0.origin ≡ Some o → me.0.gone ≡ false → me.0.tickets ≡ [] → me.0.holds ≡ false → old < TICKETS
      → Allows Rule slots id me 0 (λ n. either (eqb n old) (old + 1) n) (Drew (step slots 0 old (old + 1) none) me)
  draws slots id me old o is here none_yet free room s r deep at low = let x : ℕ = slice_index s.words 0 in dite (ℕ_discrete x old)
      (λ hit.
      let b = is_born s id me.0 o r at is in let l = b.each id me.0 at here in
      let found : x ≡ b.next = ap (λ ws. slice_index ws 0) b.words in
      let w : V = record me.0 { tickets = x ∷ [] } in let mine = put b.owner b.next id in let bo = b.order in (
        w,
        keeps,
        tt,
        inr record {
          origin = b.origin;
          next = b.next + 1;
          serving = b.serving;
          history = b.history;
          owner = mine;
          words = λ k. set (b.words k) 0 ((ap (λ q. either q (old + 1) x) (eq-eqb x old hit) ∙ ap (λ z. z + 1) (sym hit ∙ found)) k);
          order = omega arith;
          low = omega arith;
          served = b.served;
          each = set_each (Live b.origin (b.next + 1) b.serving b.history mine) s.views id w
              (λ _. record {
                origin = l.origin;
                seen = l.seen;
                own = l.own;
                all = l.all;
                ticket = (omega arith, omega arith, ap mine found ∙ put_here b.owner b.next id);
                hold = λ h. absurd (true≢false (sym h ∙ free));
                step = l.step;
                fresh = l.fresh;
                kept = l.kept;
                clear = l.clear;
                over = λ z. let y = l.over z in omega arith;
              })
              (λ j u other e live. let m = b.each j u e live in record {
                origin = m.origin;
                seen = m.seen;
                own = m.own;
                all = m.all;
                ticket = ticket_drawn b.next b.serving b.owner id j u.tickets m.ticket;
                hold = m.hold;
                step = m.step;
                fresh = m.fresh;
                kept = m.kept;
                clear = m.clear;
                over = λ z. let y = m.over z in omega arith;
              });
          apart = set_apart s.views id me.0 w at here (λ u q. q) b.apart;
          drawn = λ t a c. dite (ℕ_discrete t b.next)
              (λ e. (w, ap (get_elem? (set s.views id w)) (ap mine e ∙ put_here b.owner b.next id) ∙ set_got s.views id me.0 w at, here, ap (λ z. z ∷ []) (found ∙ sym e)))
              (λ e. subst (λ z. SomeAt (set s.views id w) z (λ v. v.tickets ≡ t ∷ [])) (sym (put_else b.owner b.next id t e))
              (some_set (λ (v : V). v.tickets ≡ t ∷ []) s.views id me.0 w (b.owner t) at here (λ q. absurd (cc (sym none_yet ∙ q))) (b.drawn t a (omega arith))));
          made = λ k t e. let q = b.made k t e in (q.0, some_set (IsOf t.by) s.views id me.0 w q.0 at here (λ z. z) q.1);
          latest = (b.latest.0, some_set (λ (v : V). v.seen ≡ b.history) s.views id me.0 w b.latest.0 at here (λ q. q) b.latest.1);
          slot = elim b.slot [
            | inl y ↦ inl y
            | inr y ↦ inr (y.0, (y.1.0, some_set (λ (v : V). v.holds ≡ true) s.views id me.0 w y.1.0 at here (λ q. q) y.1.1))
          ];
        },
        ((λ _. refl), λ miss. absurd (miss hit)),
      ))
      (λ miss. (
        me.0,
        keeps,
        tt,
        subst (λ q. Rule (stepped s 0 (either q (old + 1) x) id me.1 me.0 keeps)) (sym (ne_eqb x old miss)) (same_rule s 0 id me.0 at r),
        ((λ hit. absurd (miss hit)), λ _. refl),
      ))

  -- a load of `serving` keeps the rule, and takes the value where it finds the seat's ticket
  pub sees : (slots id : ℕ) (me : M) (ticket : ℕ) (o : O) → me.0.origin ≡ Some o → me.0.gone ≡ false → me.0.holds ≡ false → me.0.tickets ≡ ticket ∷ [] → me.1 ≡ []
      → Allows Rule slots id me 1 (λ n. n) (Saw stands (step slots 1 0 0 none) me)
  sees slots id me ticket o is here free waits bare s r deep at low = let x : ℕ = slice_index s.words 1 in dite (ℕ_discrete x ticket)
      (λ hit.
      let b = is_born s id me.0 o r at is in let l = b.each id me.0 at here in
      let found : x ≡ b.serving = ap (λ ws. slice_index ws 1) b.words in
      let served : me.0.tickets ≡ b.serving ∷ [] = waits ∙ ap (λ z. z ∷ []) (sym hit ∙ found) in
      let k : TicketOk b.next b.serving b.owner id (b.serving ∷ []) = subst (TicketOk b.next b.serving b.owner id) served l.ticket in
      let home : (y : S) × (s.homes ≡ some (Some y) ∷ []) × stands y b.origin b.history = elim b.slot [
        | inl y ↦ y
        | inr y ↦ absurd (let m = b.each y.1.0 y.1.1.0 y.1.1.1 y.1.1.2 in let t = (m.hold y.1.1.3).0 in
            let k' : TicketOk b.next b.serving b.owner y.1.0 (b.serving ∷ []) = subst (TicketOk b.next b.serving b.owner y.1.0) t m.ticket in
            let same : y.1.0 ≡ id = sym k'.2 ∙ k.2 in
            let view : y.1.1.0 ≡ me.0 = some-injective y.1.1.0 me.0 (sym y.1.1.1 ∙ (ap (get_elem? s.views) same ∙ at)) in
            true≢false (sym y.1.1.3 ∙ (ap (λ (z : V). z.holds) view ∙ free)))
      ] in
      let w : V = record me.0 { holds = true; seen = b.history } in (
        w,
        takes 0 (Some home.0),
        ap (λ hs. get_elem? hs 0) home.1,
        inr record {
          origin = b.origin;
          next = b.next;
          serving = b.serving;
          history = b.history;
          owner = b.owner;
          words = set-get_or s.words 1 0 ∙ b.words;
          order = b.order;
          low = b.low;
          served = b.served;
          each = set_each (Live b.origin b.next b.serving b.history b.owner) s.views id w
              (λ _. record {
                origin = l.origin;
                seen = prefix_self b.history;
                own = l.all;
                all = l.all;
                ticket = l.ticket;
                hold = λ _. (served, refl);
                step = l.step;
                fresh = l.fresh;
                kept = λ k' x e. let q = l.kept k' x e in (prefix_trans x.seen me.0.seen b.history q.0 l.seen, q.2, q.2);
                clear = l.clear;
                over = l.over;
              })
              (λ j u other e live. b.each j u e live);
          apart = set_apart s.views id me.0 w at here (λ u q. q) b.apart;
          drawn = λ t a c. some_set (λ (v : V). v.tickets ≡ t ∷ []) s.views id me.0 w (b.owner t) at here (λ q. q) (b.drawn t a c);
          made = λ n t e. let q = b.made n t e in (q.0, some_set (IsOf t.by) s.views id me.0 w q.0 at here (λ z. z) q.1);
          latest = (id, (w, set_got s.views id me.0 w at, here, refl));
          slot = inr (ap (λ hs. set hs 0 none) home.1, (id, (w, set_got s.views id me.0 w at, here, refl)));
        },
        λ t waits'. (
          (λ _. (home.0, b.origin, l.origin, ap (λ (c : List (ℕ × Option S)). (w, (0, Some home.0) ∷ c)) bare, l.seen, b.served ∙ sym found, l.all, home.2)),
          λ miss. absurd (miss (hit ∙ one_ticket me.0.tickets ticket t waits waits')),
        ),
      ))
      (λ miss. (me.0, keeps, tt, same_rule s 1 id me.0 at r, λ t waits'. ((λ hit. absurd (miss (hit ∙ one_ticket me.0.tickets t ticket waits' waits))), λ _. refl)))

  -- an add to `serving` keeps the rule, and gives the value back
  pub ends : (slots id : ℕ) (me : M) (events : List E) (x : S) (o : O) → me.0.origin ≡ Some o → me.0.gone ≡ false → me.0.holds ≡ true → me.1 ≡ (0, Some x) ∷ []
      → stands x o (me.0.seen ++ turn_of me.0 events ∷ []) → Allows Rule slots id me 1 (λ n. (n + 1) % 2 ^ 64) (Ended events (step slots 1 1 0 none) me)
  ends slots id me events x o is here held out stood s r deep at low =
      let b = is_born s id me.0 o r at is in let l = b.each id me.0 at here in
      let hold = l.hold held in
      let found : slice_index s.words 1 ≡ b.serving = ap (λ ws. slice_index ws 1) b.words in
      let k : TicketOk b.next b.serving b.owner id (b.serving ∷ []) = subst (TicketOk b.next b.serving b.owner id) hold.0 l.ticket in
      let k₁ = k.1 in let bl = b.low in
      let t : Turn E = turn_of me.0 events in
      let h : List (Turn E) = b.history ++ t ∷ [] in
      let grown : me.0.seen ++ t ∷ [] ≡ h = ap (λ z. z ++ t ∷ []) hold.1 in
      let w : V = record me.0 { tickets = []; holds = false; seen = me.0.seen ++ t ∷ []; own = me.0.own ++ t ∷ [] } in
      let start : number_at me.0 0 ≡ me.0.number = omega arith in
      let base : (y : Kept E) → kept_at y 0 ≡ y.number = λ y. omega arith in
      let mine : (n : ℕ) → me.0.number ≡ n → Has me.0 n = λ n e. subst (Has me.0) e (own_number me.0) in
      let ended : Live b.origin b.next (b.serving + 1) h b.owner id w = record {
        origin = l.origin;
        seen = subst (λ z. IsPrefix z h) (sym grown) (prefix_self h);
        own = own_turn me.0.number me.0.seen t me.0.own refl l.own;
        all = own_turn me.0.number b.history t me.0.own refl l.all;
        ticket = tt;
        hold = λ z. absurd (true≢false (sym z));
        step = l.step;
        over = l.over;
        clear = l.clear;
        fresh = λ a. other_turn (number_at me.0 (suc a)) b.history t [] (λ e. let st = l.step in let m = suc-mul a me.0.step in absurd (omega arith)) (l.fresh a);
        kept = λ a q e. let y = l.kept a q e in let far : me.0.number ≢ q.number = λ f. l.clear a q e 0 0 (base q ∙ (sym f ∙ sym start)) in
            (prefix_trans q.seen me.0.seen (me.0.seen ++ t ∷ []) y.0 (t ∷ [], refl), other_turn q.number me.0.seen t q.turns far y.1, other_turn q.number b.history t q.turns far y.2);
      } in
      let same_origin : o ≡ b.origin = cc (is, l.origin) in
      let homes' : set s.homes 0 (some (Some x)) ≡ some (Some x) ∷ [] = elim b.slot [
        | inl y ↦ ap (λ hs. set hs 0 (some (Some x))) y.1
        | inr y ↦ ap (λ hs. set hs 0 (some (Some x))) y.0
      ] in (
        w,
        gives,
        tt,
        inr record {
          origin = b.origin;
          next = b.next;
          serving = b.serving + 1;
          history = h;
          owner = b.owner;
          words = (λ i. set (b.words i) 1 ((found i + 1) % 18446744073709551616)) ∙ (λ i. b.next ∷ (let e : (b.serving + 1) % 18446744073709551616 ≡ b.serving + 1 = omega arith in e) i ∷ []);
          order = omega arith;
          low = b.low;
          served = length-append b.history (t ∷ []) ∙ ap (λ z. z + 1) b.served;
          each = set_each (Live b.origin b.next (b.serving + 1) h b.owner) s.views id w
              (λ _. ended)
              (λ j u other e live. let m = b.each j u e live in let far = b.apart id j me.0 u (λ q. other (sym q)) at e here live in record {
                origin = m.origin;
                seen = prefix_trans u.seen b.history h m.seen (t ∷ [], refl);
                own = m.own;
                all = other_turn u.number b.history t u.own (λ q. far u.number (mine u.number q) (own_number u)) m.all;
                ticket = ticket_ended b.next b.serving b.owner j u.tickets (λ q. other (q ∙ k.2)) m.ticket;
                hold = λ z. absurd (let k' : TicketOk b.next b.serving b.owner j (b.serving ∷ []) = subst (TicketOk b.next b.serving b.owner j) (m.hold z).0 m.ticket in other (sym k'.2 ∙ k.2));
                step = m.step;
                over = m.over;
                fresh = λ a. other_turn (number_at u (suc a)) b.history t [] (λ q. far (number_at u (suc a)) (mine (number_at u (suc a)) q) (inl (suc a, refl))) (m.fresh a);
                kept = λ a q f. let y = m.kept a q f in (y.0, y.1, other_turn q.number b.history t q.turns (λ g. far q.number (mine q.number g) (subst (Has u) (base q) (kept_number u a q f 0))) y.2);
                clear = m.clear;
              });
          apart = set_apart s.views id me.0 w at here (λ u q. q) b.apart;
          drawn = λ n a c. some_set (λ (v : V). v.tickets ≡ n ∷ []) s.views id me.0 w (b.owner n) at here (λ q. absurd (let z : n ≡ b.serving = one_ticket me.0.tickets n b.serving q hold.0 in omega arith)) (b.drawn n (omega arith) c);
          made = λ n u e. ⊎_elim (λ (z : get_elem? b.history n ≡ some u). let q = b.made n u z in (q.0, some_set (IsOf u.by) s.views id me.0 w q.0 at here (λ y. y) q.1))
              (λ (z : t ≡ u). (id, (w, set_got s.views id me.0 w at, here, inl (ap (λ (y : Turn E). y.by) z)))) (at_snoc b.history t u n e);
          latest = (id, (w, set_got s.views id me.0 w at, here, grown));
          slot = inl (x, ap (λ c. Rattle.atomic_table.specs.Table.put_back s.homes c) out ∙ homes', subst (λ (z : O × List (Turn E)). stands x z.0 z.1) (λ i. (same_origin i, grown i)) stood);
        },
        (ap (λ (c : List (ℕ × Option S)). (w, Rattle.atomic_table.specs.Table.rest c)) out, tallies_of ended),
      )
