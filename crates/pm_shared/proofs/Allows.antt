-- A LAWFUL STEP OF A LANE, AS THE TABLE ASKS IT: one lemma for all kinds, from the world's law.
use Rattle.std.proofs.Common.{◌≡◌, ◌≢◌, ℕ, ◌<◌, ⊎_elim, List, [], length, slice_index, set, cond, eqb, eq-eqb, ne_eqb, Option, None, refl, sym, ap, ◌∙◌, subst, length-set}
use mathlib.Core.Option.{some}
use lib.ListN.{get_elem?}
use Rattle.atomic_table.specs.Table.{keeps, Allows}
use Rattle.atomic_table.proofs.Lists.{at_set}
use Rattle.pm_view.specs.View.{View, Constants}
use Rattle.pm_view.specs.Views.{after}
use Rattle.pm_view.specs.Founds.{Found}
use Rattle.pm_view.specs.Steps.{Step}
use Rattle.pm_world.specs.Causes.{Causes}
use Rattle.pm_world.specs.Course.{past_after}
use Rattle.pm_world.specs.Laws.{Turn}
use Rattle.pm_world.specs.Lawful.{IsLawful}
use Rattle.pm_world.specs.Memory.{Memory}
use Rattle.pm_world.specs.Moves.{Moves}
use Rattle.pm_world.specs.Sizes.{ObjectsFit}
use Rattle.pm_world.specs.World.{Opening, Views, Past, World}
use Rattle.pm_world.proofs.EveryStep.{every_step}
use Rattle.pm_shared.specs.Placing.{table_size, memory_of}
use Rattle.pm_shared.specs.TableRun.{moment}
use Rattle.pm_shared.specs.Rule.{Knowledge, Pool, Lane, Spent, Bound, BoundFits, Owned, SeatFits, Sound, Made}
use Rattle.pm_shared.specs.declared.rule.Beginning.{Beginning}
use Rattle.pm_shared.specs.Openings.{fixed_of, generation_of, idle_view, opening_of}
use Rattle.pm_shared.specs.TableRule.{Ruled}
use Rattle.pm_shared.proofs.Bounds.{bound_kept}
use Rattle.pm_shared.proofs.Constant.{fixed-after}
use Rattle.pm_shared.proofs.Sound.{sound_kept}
use Rattle.pm_shared.proofs.TableRuns.{run_bears, run_fits, run_goes_on}

-- the views with lane k's changed
abbrev pub views_with : Views → ℕ → View → Views
views_with views k v j = cond (eqb j k) v (views j)

pub views_turn : (views : Views) (k : ℕ) (v : View) → Turn views (views_with views k v) k v
views_turn views k v = record { here = ap (λ b. cond b v (views k)) (eq-eqb k k refl); else_ = λ j ne. ap (λ b. cond b v (views j)) (ne_eqb j k ne) }

-- what is known where a lane's seat steps: the table's words, and a world whose memory they are
pub record Before (o : Opening) (words : List ℕ) (v : View) (b : Option Bound) : Type 0 where
  pub views : Views
  pub past : Past
  pub size : length words ≡ table_size o.shape
  pub world : World o (memory_of o.shape words) views past
  pub sizes : ObjectsFit o past
  pub causes : Causes o (memory_of o.shape words) views past
  pub sound : Sound o (memory_of o.shape words) views
  pub inside : v.fixed.lane < o.lanes
  pub view : views v.fixed.lane ≡ v
  pub bound : BoundFits (memory_of o.shape words) v b

module _ (o : Opening) (mem mem' : Memory) (views : Views) (owner : ℕ → ℕ) (k : ℕ) (v : View) where
  owned_kept : (id j : ℕ) (w : View) → owner k ≡ id → j ≢ id → Owned o views owner j w → Owned o (views_with views k v) owner j w
  owned_kept id j w mine ne h = record {
    inside = h.inside;
    view = (views_turn views k v).else_ w.fixed.lane (λ e. ne (sym h.owner_is ∙ (ap owner e ∙ mine))) ∙ h.view;
    owner_is = h.owner_is;
  }

  -- another seat knows what it knew
  seat_kept : (id j : ℕ) → owner k ≡ id → j ≢ id → ((w : View) (b : Option Bound) → Owned o views owner j w → w.fixed.lane ≢ k → BoundFits mem w b → BoundFits mem' w b) → (w : Knowledge) → SeatFits o mem views owner j w → SeatFits o mem' (views_with views k v) owner j w
  seat_kept id j mine ne kept (Pool vs) h = record { each = λ n w at. owned_kept id j w mine ne (h.each n w at); apart = h.apart }
  seat_kept id j mine ne kept (Lane w b) h = (owned_kept id j w mine ne h.0, kept w b h.0 (λ e. ne (sym h.0.owner_is ∙ (ap owner e ∙ mine))) h.1)
  seat_kept id j mine ne kept Spent h = tt

-- THE STEP: `step r` is the step with its reply, where r was found
pub allows : (key : Beginning) (id : ℕ) (v : View) (b : Option Bound) (i : ℕ) (f : ℕ → ℕ) (step : ℕ → Step)
    → ((r : ℕ) → IsLawful v (step r))
    → ((words : List ℕ) → Before (opening_of key) words v b → slice_index words i < 18446744073709551616 → Moves v.fixed.lane (step (slice_index words i)) (memory_of key.shape words) (memory_of key.shape (set words i (f (slice_index words i)))))
    → Allows (Ruled key) 0 id (Lane v b, []) i f (Made step v)
allows key id v b i f step lawful moves st r _ here fits =
    let o : Opening = opening_of key in let first : Views = idle_view key in
    let fit = r.seats id (Lane v b) here in let own = fit.0 in let k : ℕ = v.fixed.lane in let words : List ℕ = st.words in let x : ℕ = slice_index words i in let words' : List ℕ = set words i (f x) in
    let s : Step = step x in let v' : View = after v s in let views' : Views = views_with r.views k v' in let same : v'.fixed ≡ v.fixed = fixed-after v s in let lane' : v'.fixed.lane ≡ k = ap (λ (c : Constants). c.lane) same in
    let old : Memory = memory_of o.shape words in let new : Memory = memory_of o.shape words' in
    let law : IsLawful (r.views k) s = subst (λ w. IsLawful w s) (sym own.view) (lawful x) in
    let move : Moves k s old new = moves words (record { views = r.views; past = r.past; size = r.size; world = r.world; sizes = run_fits o first (moment old r.views r.past) r.run; causes = run_bears o (fixed_of key) (generation_of key) (moment old r.views r.past) r.run; sound = r.sound; inside = own.inside; view = own.view; bound = fit.1 }) fits in
    let turn : Turn r.views views' k (after (r.views k) s) = subst (λ w. Turn r.views views' k (after w s)) (sym own.view) (views_turn r.views k v') in
    let got = every_step s o old new r.views views' r.past k r.world own.inside law move turn in
    let mine : SeatFits o new views' r.owner id (Lane v' None) = (
      record {
        inside = subst (λ z. z < o.lanes) (sym lane') own.inside;
        view = ap views' lane' ∙ (views_turn r.views k v').here;
        owner_is = ap r.owner lane' ∙ own.owner_is;
      },
      tt,
    ) in (
      Lane v' None,
      keeps,
      tt,
      record {
        views = views';
        owner = r.owner;
        past = past_after r.past (r.views k) s;
        size = length-set words i (f x) ∙ r.size;
        world = got.0;
        run = run_goes_on o first (moment old r.views r.past) (moment new views' (past_after r.past (r.views k) s)) (record { lane = k; step = s }) r.run
            (record { runs = own.inside; lawful = law; moves = move; view = turn; past = refl });
        sound = sound_kept o old r.views r.past r.world k own.inside new views' s r.sound law move turn;
        seats = λ j w q. ⊎_elim (λ (t : (j ≡ id) × (Lane v' None ≡ w)). let Q : ℕ → Knowledge → Type 0 = λ j w. SeatFits o new views' r.owner j w in subst (Q j) t.1 (subst (λ z. Q z (Lane v' None)) (sym t.0) mine))
            (λ (t : (j ≢ id) × (get_elem? st.views j ≡ some w)). seat_kept o old new r.views r.owner k v' id j own.owner_is t.0
            (λ u c ow ne. bound_kept o old new r.views r.past k s u c r.world own.inside ow.inside (λ e. ne e) ow.view law move) w (r.seats j w t.1)) (at_set st.views id j (Lane v' None) w q);
      },
      (refl, subst (λ w. Found w s) own.view got.1),
    )
