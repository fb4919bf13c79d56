-- The seal may be stored and made persistent, and cleared so, and what that leaves.
use Rattle.std.proofs.Common.{◌≡◌, ◌≢◌, ℕ, ◌+◌, ◌/◌, ◌<◌, Bool, true, false, cond, eqb, List, [], ◌∷◌, ◌++◌, length, slice_index, is_some, refl, sym, ap, ◌∙◌, subst, arith, eq-eqb, get_or-set_other, ⊎_elim, inl, inr, map}
use Rattle.std.proofs.lemmas.Bool.{false≢true}
use Rattle.std.proofs.lemmas.List.{length-map}
use Rattle.solo_view.specs.declared.change.Change.{Change}
use Rattle.solo_view.specs.Area.{area_word, is_in_area}
use Rattle.solo_view.specs.Area.Part.{SealWord}
use Rattle.solo_view.specs.Changes.{drained, flushed, store_change}
use Rattle.solo_view.specs.Counts.{FlushesSome}
use Rattle.solo_view.specs.Log.{Log, log_drained, log_stored}
use Rattle.solo_view.specs.Log.Phase.{Drawn, Sealing, Applying, Clearing}
use Rattle.solo_view.specs.Steps.Step.{Store, Flush, Drain}
use Rattle.solo_view.specs.View.{View}
use Rattle.solo_view.specs.Views.{after, after_all, log_after_drain}
use Rattle.solo_world.specs.Lawful.{MayStore, StoreFits, generation_limit}
use Rattle.solo_world.specs.Records.{generation_of}
use Rattle.solo_world.specs.Sequences.{Ready, by_lane, by_view, one, stores}
use Rattle.solo_world.proofs.Going.{Goes, goes_then}
use Rattle.solo_undo.specs.Sequences.{persists}
use Rattle.solo_undo.specs.Working.{HasMadeRoom}
use Rattle.solo_undo.proofs.Dropping.{flush_drops}
use Rattle.solo_undo.proofs.Staying.{same_call-then, same_changed, same_coursed}
use Rattle.solo_undo.proofs.Storing.{Is, goes_from, goes_stores}
use Rattle.solo_redo.specs.Entering.{AreEntered, HasPlace, IsCleared, IsSealed, final_of as final_for}
use Rattle.solo_redo.specs.Sequences.{clears, seals, writes_seal}
use Rattle.solo_redo.proofs.Entered.{room_is_there}
use Rattle.solo_redo.proofs.PairWords.{seal_part}
use Rattle.solo_redo.proofs.Whole.{entered_whole, knows_ors, entered_own, logged_front}

module _ (v : View) (place : HasPlace v) (none : v.changes ≡ []) (n : ℕ) (fits : StoreFits v (area_word v.lane + 1) n v.log.phase SealWord) where
  abbrev s : ℕ
  s = area_word v.lane + 1

  abbrev line : ℕ
  line = area_word v.lane / 8

  abbrev c : Change
  c = store_change s (slice_index v.words s) n

  abbrev v₁ : View
  v₁ = after v (Store s n)

  abbrev v₂ : View
  v₂ = after v₁ (Flush line)

  abbrev v₃ : View
  v₃ = after v₂ Drain

  in_line : eqb (s / 8) line ≡ true
  in_line = eq-eqb (s / 8) line (omega arith)

  gone : v₃.changes ≡ []
  gone = ap (λ cs. drained (flushed line (cs ++ c ∷ []))) none ∙ ap (λ (b : Bool). at b) in_line where
    at : Bool → List Change
    at b = drained (cond b (record c { flushed = true }) c ∷ [])

  some_unflushed : FlushesSome line v₁.changes
  some_unflushed = subst (λ cs. FlushesSome line (cs ++ c ∷ [])) (sym none) (0, c, omega arith, refl, (in_line, refl))

  may : MayStore v s n
  may = record {
    inside = let most = place.inside in omega (arith, most);
    room = let count = ap length none in omega (arith, count);
    fits = subst (λ p. StoreFits v s n v.log.phase p) (sym (seal_part v.lane).0) fits;
  }

  writes : Goes (Is v) (writes_seal v.lane n) (Is v₃)
  unfolding writes_seal persists one Ready after_all
  writes =
      let few : length v.changes < 512 = let count = ap length none in omega (arith, count) in
      goes_then (Is v) (Is v₁) (Is v₃) (stores s n) (persists line)
      (goes_stores (Is v) (Is v₁) s n (λ u m is made. let same : m ≡ v = room_is_there v m few (subst (λ z. HasMadeRoom z m) is made) in subst (λ z. MayStore z s n × Is v₁ (after z (Store s n))) (sym same) (may, refl)))
      (goes_then (Is v₁) (Is v₂) (Is v₃) (one (Flush line)) (one Drain)
      (goes_from v₁ (Is v₂) (one (Flush line)) ((some_unflushed, tt, tt), refl))
      (goes_from v₂ (Is v₃) (one Drain) ((flush_drops line v₁.changes some_unflushed, tt, tt), refl)))

  others : (u : ℕ) → u ≢ s → slice_index v₃.words u ≡ slice_index v.words u
  others u other = get_or-set_other v.words s u n 0 other

  outside : (u : ℕ) → is_in_area v.lane u ≡ false → slice_index v₃.words u ≡ slice_index v.words u
  outside u out = others u (λ same. false≢true (sym out ∙ (ap (is_in_area v.lane) same ∙ (seal_part v.lane).1)))

  generation : generation_of v₃ ≡ generation_of v
  generation = others (area_word v.lane) (λ same. omega (arith, same))

  log₃ : v₃.log ≡ log_drained (log_stored v.log.phase SealWord n v.log).phase (is_some v.number) (log_stored v.log.phase SealWord n v.log)
  log₃ =
      ap (λ left. log_after_drain left v₂) gone
      ∙ ap (λ part. log_drained (log_stored v.log.phase part n v.log).phase (is_some v.number) (log_stored v.log.phase part n v.log)) (seal_part v.lane).0

-- the entries may be sealed once the number is drawn
pub seal_lawful : (v : View) (entries : _) → HasPlace v → v.log.phase ≡ Drawn → v.changes ≡ [] → generation_of v < generation_limit → AreEntered v entries
    → Ready v (seals (length entries) v) × IsSealed v (after_all v (seals (length entries) v))
unfolding seals by_lane by_view
seal_lawful v entries place drawn none below are =
    let n : ℕ = length entries in
    let count : n ≡ length v.log.entries = sym (ap length are.logged ∙ length-map entries final_for) in
    let fits : StoreFits v (area_word v.lane + 1) n v.log.phase SealWord = subst (λ phase. StoreFits v (area_word v.lane + 1) n phase SealWord) (sym drawn)
    (⊎_elim (λ own. inl (record { all = count; whole = entered_whole v entries are own; known = knows_ors v entries are own; below = below; drained = none }))
    (λ heap. inr (record { alone = heap.0; heap = heap.1; all = count; front = map final_for are.front; ends = logged_front v entries are; below = below; drained = none })) (entered_own v entries are)) in
    let r = writes v place none n fits v refl in
    let stored : log_stored v.log.phase SealWord n v.log ≡ record v.log { phase = Sealing } = ap (λ phase. log_stored phase SealWord n v.log) drawn in (
      r.0,
      subst (IsSealed v) (sym r.1) (record {
        call = same_call-then v (v₁ v place none n fits) (v₃ v place none n fits) (same_changed v (area_word v.lane + 1) n _ _) (same_coursed (v₁ v place none n fits) _ _ _);
        log = log₃ v place none n fits ∙ ap (λ (l : Log). log_drained l.phase (is_some v.number) l) stored;
        drained = gone v place none n fits;
        outside = outside v place none n fits;
        generation = generation v place none n fits;
      }),
    )

-- the seal may be cleared once all entries are applied
pub clear_lawful : (v : View) → HasPlace v → v.log.phase ≡ Applying (length v.log.entries) → v.changes ≡ [] → Ready v (clears v) × IsCleared v (after_all v (clears v))
unfolding clears by_lane by_view
clear_lawful v place applied none =
    let fits : StoreFits v (area_word v.lane + 1) 0 v.log.phase SealWord = subst (λ phase. StoreFits v (area_word v.lane + 1) 0 phase SealWord) (sym applied) (record { zero = refl; all = refl; drained = none }) in
    let r = writes v place none 0 fits v refl in
    let stored : log_stored v.log.phase SealWord 0 v.log ≡ record v.log { phase = Clearing } = ap (λ phase. log_stored phase SealWord 0 v.log) applied in (
      r.0,
      subst (IsCleared v) (sym r.1) (record {
        call = same_call-then v (v₁ v place none 0 fits) (v₃ v place none 0 fits) (same_changed v (area_word v.lane + 1) 0 _ _) (same_coursed (v₁ v place none 0 fits) _ _ _);
        log = log₃ v place none 0 fits ∙ ap (λ (l : Log). log_drained l.phase (is_some v.number) l) stored;
        drained = gone v place none 0 fits;
        outside = outside v place none 0 fits;
        generation = generation v place none 0 fits;
      }),
    )
