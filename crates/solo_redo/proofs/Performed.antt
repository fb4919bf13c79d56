-- A log may be sealed, applied and cleared, and what that leaves.
use Rattle.std.proofs.Common.{◌≡◌, ℕ, ◌+◌, false, List, [], ◌∷◌, ◌++◌, length, slice_index, refl, sym, ◌∙◌, ap, subst, arith}
use Rattle.std.proofs.lemmas.List.Elements.{All-weaker}
use Rattle.pm_record.specs.declared.redo.Redo.{Redo}
use Rattle.solo_view.specs.Area.{is_in_area}
use Rattle.solo_view.specs.Log.{Final, Log}
use Rattle.solo_view.specs.Log.Phase.{Applying}
use Rattle.solo_view.specs.View.{View}
use Rattle.solo_view.specs.Views.{after_all}
use Rattle.solo_world.specs.History.{made_final}
use Rattle.solo_world.specs.Records.{generation_of}
use Rattle.solo_world.specs.Sequences.{Ready, by_lane, by_view, in_turn}
use Rattle.solo_world.proofs.Going.{goes_then}
use Rattle.solo_undo.specs.Working.{IsSameCall, KeepsOutside}
use Rattle.solo_undo.proofs.Staying.{same_call-then}
use Rattle.solo_undo.proofs.Storing.{Is}
use Rattle.solo_redo.specs.Entering.{AreEntered, HasPlace, IsApplied, IsCleared, MayEnter, IsPerformed, IsReadyToPerform, IsSealed}
use Rattle.solo_redo.specs.Sequences.{applies, clears, ending_of, performs, performs_on, seals, writes_seal}
use Rattle.solo_redo.proofs.Applied.{apply_lawful}
use Rattle.solo_redo.proofs.Whole.{may_enter_kept}
use Rattle.solo_redo.proofs.Sealed.{clear_lawful, seal_lawful}

-- the lane's area stays in place
place_kept : (v w : View) → IsSameCall v w → HasPlace v → HasPlace w
place_kept v w call place =
    let same = call.lane in
    let lane : w.lane ≡ v.lane = same.lane in
    let lanes : w.lanes ≡ v.lanes = same.lanes in
    let size = same.size in
    let low = place.lane in
    let few = place.few in
    let inside = place.inside in
    record { lane = omega (arith, lane, lanes, low); few = omega (arith, lane, few); inside = omega (arith, lane, size, inside) }

entered_kept : (v w : View) (entries : List Redo) → IsSameCall v w → KeepsOutside v w → w.log.entries ≡ v.log.entries → generation_of w ≡ generation_of v → AreEntered v entries → AreEntered w entries
entered_kept v w entries call outside same generation a = record {
  front = a.front;
  are = a.are ∙ sym (λ j. a.front ++ ending_of (call.lane.lane j) (generation j) ∷ []);
  each = All-weaker (MayEnter v) (MayEnter w) (λ e o. may_enter_kept v w e call outside o) a.front a.each;
  logged = same ∙ a.logged;
  most = a.most;
}

module _ (v : View) (entries : List Redo) (ready : IsReadyToPerform v entries) where
  sealed_goes_on : (u : View) → IsSealed v u → Ready u (applies entries u) × IsApplied u (after_all u (applies entries u))
  sealed_goes_on u s =
      apply_lawful u (place_kept v u s.call ready.place) entries (entered_kept v u entries s.call s.outside (ap (λ (l : Log). l.entries) s.log) s.generation ready.entered) (ap (λ (l : Log). l.phase) s.log) s.drained

  -- the log is applied
  record HasBeenApplied (w : View) : Type 0 where
    call : IsSameCall v w
    phase : w.log.phase ≡ Applying (length w.log.entries)
    drained : w.changes ≡ []
    words : (u : ℕ) → is_in_area v.lane u ≡ false → slice_index w.words u ≡ made_final v.log.entries u (slice_index v.words u)
    generation : generation_of w ≡ generation_of v + 1

  applied : (u w : View) → IsSealed v u → IsApplied u w → HasBeenApplied w
  applied u w s a = record {
    call = same_call-then v u w s.call a.call;
    phase = ap (λ (l : Log). l.phase) a.log ∙ ap Applying (sym (ap (λ (l : Log). length l.entries) a.log));
    drained = a.drained;
    words = λ x out.
        a.words x (ap (λ j. is_in_area j x) s.call.lane.lane ∙ out)
        ∙ (ap (λ (fs : List Final). made_final fs x (slice_index u.words x)) (ap (λ (l : Log). l.entries) s.log) ∙ ap (made_final v.log.entries x) (s.outside x out));
    generation = a.generation ∙ ap (λ n. n + 1) s.generation;
  }

  performed : (u w : View) → HasBeenApplied u → IsCleared u w → IsPerformed v w
  performed u w a c = record {
    call = same_call-then v u w a.call c.call;
    log = c.log;
    drained = c.drained;
    words = λ x out. c.outside x (ap (λ j. is_in_area j x) a.call.lane.lane ∙ out) ∙ a.words x out;
    generation = c.generation ∙ a.generation;
  }

  cleared_goes_on : (u : View) → HasBeenApplied u → Ready u (writes_seal v.lane 0 u) × IsPerformed v (after_all u (writes_seal v.lane 0 u))
  unfolding clears by_lane by_view
  cleared_goes_on u a =
      let r = clear_lawful u (place_kept v u a.call ready.place) a.phase a.drained in
      subst (λ (n : ℕ). Ready u (writes_seal n 0 u) × IsPerformed v (after_all u (writes_seal n 0 u))) a.call.lane.lane (r.0, performed u (after_all u (clears u)) a r.1)

  pub perform_lawful : Ready v (performs entries v) × IsPerformed v (after_all v (performs entries v))
  unfolding performs performs_on seals by_lane by_view
  perform_lawful =
      goes_then (Is v) (IsSealed v) (IsPerformed v) (writes_seal v.lane (length entries)) (in_turn (applies entries) (writes_seal v.lane 0))
      (λ u is. subst (λ (x : View). Ready x (writes_seal v.lane (length entries) x) × IsSealed v (after_all x (writes_seal v.lane (length entries) x))) (sym is)
      (seal_lawful v entries ready.place ready.drawn ready.drained ready.below ready.entered))
      (goes_then (IsSealed v) HasBeenApplied (IsPerformed v) (applies entries) (writes_seal v.lane 0)
      (λ u s. let r = sealed_goes_on u s in (r.0, applied u (after_all u (applies entries u)) s r.1))
      cleared_goes_on)
      v refl
