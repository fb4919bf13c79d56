-- A memory that stands in its world stands in the world after each call that lane 0's view allows.
use Rattle.std.proofs.Common.{◌≡◌, ℕ, zero, suc, ◌/◌, ◌<◌, ◌≤◌, ⊎_elim, replicate, slice_index, false, cond, eqb, List, [], ◌∷◌, length, get_or, refl, sym, ap, ◌∙◌, subst, arith, ne_eqb}
use Rattle.std.specs.List.{All}
use Rattle.std.proofs.lemmas.Bool.{cases_lt}
use Rattle.std.proofs.lemmas.List.{get_or-replicate, get_or_past, length-replicate}
use Rattle.std.proofs.lemmas.List.Elements.{All-nil}
use Rattle.pm_layout.specs.Chunks.{words_of}
use Rattle.pm_view.specs.declared.change.Change.{Change}
use Rattle.pm_view.specs.Changes.{IsFormed}
use Rattle.pm_view.specs.Steps.{Step}
use Rattle.pm_view.specs.View.{View}
use Rattle.pm_view.specs.Views.{after}
use Rattle.pm_memory.specs.Changes.{AreUndrained}
use Rattle.pm_memory.specs.Solo.{Sees, opened_with}
use Rattle.pm_memory.proofs.Opening.{sees_opened_with}
use Rattle.pm_world.specs.Course.{past_after}
use Rattle.pm_world.specs.Histories.{was_after, ghosts_after}
use Rattle.pm_world.specs.Lawful.{IsLawful}
use Rattle.pm_world.specs.Laws.{Turn}
use Rattle.pm_world.specs.Solo.{meets_solo}
use Rattle.pm_world.specs.SoloLanes.{OpenedStarts, OpenedStands, StandsAfter, StandingSurvives}
use Rattle.pm_world.specs.SoloWorld.{memory_of}
use Rattle.pm_world.specs.World.{Views, ghost_of}
use Rattle.pm_world.proofs.CausesKept as causes
use Rattle.pm_world.proofs.Histories as histories
use Rattle.pm_world.proofs.SizesKept as sizes
use Rattle.pm_world.proofs.SoloMoves.{calls_move}
use Rattle.pm_world.proofs.SoloWorlds.{calls_keep_worlds, calls_keep_forms, survivors_are}

-- lane 0's view becomes v
abbrev views_with : Views → View → Views
views_with views v k = cond (eqb k 0) v (views k)

turned : (views : Views) (v : View) → Turn views (views_with views v) 0 v
turned views v = record { here = refl; else_ = λ j ne. ap (λ b. cond b v (views j)) (ne_eqb j 0 ne) }

pub stands_after : (s : Step) → StandsAfter s
stands_after s o old new v st lawful is sees =
    let ok : IsLawful (st.views 0) s = subst (λ (w : View). IsLawful w s) (sym st.here) lawful in
    let seen : Sees old (st.views 0) = subst (Sees old) (sym st.here) st.sees in
    let some : 0 < o.lanes = let l = st.world.some_lanes in omega arith in
    let next : Views = views_with st.views (after (st.views 0) s) in
    record {
      views = next;
      past = past_after st.past (st.views 0) s;
      was = was_after o st.past s st.was;
      ghosts = ghosts_after st.past s st.ghosts;
      here = ap (λ (w : View). after w s) st.here;
      world = calls_keep_worlds s o old new st.views next st.past st.world seen ok is (turned st.views (after (st.views 0) s));
      sizes = sizes.keeps s o (memory_of old) (memory_of new) st.views st.past 0 st.world some ok (calls_move s old new (meets_solo old (st.views 0) s seen ok.allowed) is) st.sizes;
      causes = causes.goes_on s o (memory_of old) (memory_of new) st.views next st.past 0 st.world st.causes some ok (calls_move s old new (meets_solo old (st.views 0) s seen ok.allowed) is) (turned st.views (after (st.views 0) s));
      history = histories.goes_on s o (memory_of old) st.views st.past 0 st.world some ok st.was st.ghosts st.history;
      sees = sees;
      formed = calls_keep_forms s o old new st.views st.past st.world ok is st.formed;
    }

-- ---- the opening, and survivors

pub opened_starts : OpenedStarts
opened_starts o fixed stop runs zones one lane shape lanes = record {
  some_lanes = omega (arith, one);
  most_lanes = let l = o.shape.lanes_from in omega (arith, one, l);
  few_lanes = omega (arith, one);
  words = λ w. refl;
  locks = λ l. zeros (length o.words / 8) l;
  zone_locks = λ z. ap (λ b. cond b 1 0) (open_ z);
  counter = refl;
  stop = refl;
  lane = lane;
  shape = shape;
  lanes = λ k. lanes k ∙ sym one;
}
  where
    zeros : (n i : ℕ) → slice_index (replicate n 0) i ≡ 0
    zeros n i = ⊎_elim (λ (l : i < n). get_or-replicate n i 0 0 l) (λ (l : n ≤ i). get_or_past (replicate n 0) i 0 (let q = length-replicate {A = ℕ} n 0 in omega (arith, q, l))) (cases_lt i n)

    open_ : (z : ℕ) → get_or (replicate 32 false) z false ≡ false
    open_ z = ⊎_elim (λ (l : z < 32). get_or-replicate 32 z false false l) (λ (l : 32 ≤ z). get_or_past (replicate 32 false) z false (let q = length-replicate 32 false in omega (arith, q, l))) (cases_lt z 32)

pub opened_stands : OpenedStands
opened_stands o fixed generation runs zones first one shape pages count taken opens = record {
  views = _;
  past = opens.0;
  was = λ n p b. false;
  ghosts = λ n. ghost_of opens.0;
  here = refl;
  world = opens.1;
  sizes = opens.3;
  causes = causes.begin o (memory_of (opened_with o.words (fixed 0).stop runs zones)) fixed generation opens.0 taken opens.2;
  history = histories.begins o opens.0 (λ n p b. false) (λ n. ghost_of opens.0) opens.2;
  sees = sees_opened_with o.words runs zones (fixed 0) (generation 0) first one (opens.1.size ∙ ap words_of (sym shape)) pages count;
  formed = All-nil IsFormed;
}

pub standing_survives : StandingSurvives
standing_survives m image left o v s =
    let some : length (m.changes ∷ []) ≤ o.lanes = let l = s.world.some_lanes in omega arith in
    let size : length m.words ≡ length o.words = s.sees.fixed.size ∙ (ap (λ (w : View). words_of w.fixed.shape) (sym s.here) ∙ (ap words_of (s.world.each_lane 0 some).shape ∙ sym s.world.size)) in
    survivors_are o (memory_of m) s.views m.words image (m.changes ∷ []) size some (λ w l. refl) (record { each = each; formed = formed }) left
  where
    each : (k : ℕ) (d : List Change) → k < 1 → AreUndrained (get_or (m.changes ∷ []) k d) (s.views k).changes
    each zero d l = subst (λ (w : View). AreUndrained m.changes w.changes) (sym s.here) s.sees.changes
    each (suc k) d l = absurd (omega (arith, l))

    formed : All (All IsFormed) (m.changes ∷ [])
    formed zero d l = s.formed
    formed (suc k) d l = absurd (omega (arith, l))
