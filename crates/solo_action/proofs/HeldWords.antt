-- The words that actions set, of objects that the lane holds in a sound pool, are of the pool, and under its locks.
use Rattle.std.proofs.Common.{◌≡◌, ℕ, ◌+◌, ◌-◌, ◌*◌, ◌/◌, ◌<◌, ◌≤◌, Bool, true, false, not, leb, ltb, eqb, ◌&&◌, ◌||◌, All, Contains, List, map, length, Some, is_some, refl, ap, ◌∙◌, subst, arith, inl}
use Rattle.std.specs.Prelude.{IfSome}
use Rattle.std.proofs.lemmas.Bool.{and_from, and_right, le-leb, le-ltb, lt-ltb, or_right}
use Rattle.std.proofs.lemmas.List.Elements.{All-contains, All-map, All-weaker}
use Rattle.std.proofs.lemmas.List.Folds.{list_any_at}
use Rattle.solo_crash.specs.OnActions.{CanSet}
use Rattle.solo_crash.specs.Operations.{IsHeld}
use Rattle.solo_model.specs.Actions.{Action}
use Rattle.solo_model.specs.Actions.Action.{SetWord}
use Rattle.solo_pending.specs.Pending.{entry_of}
use Rattle.solo_redo.specs.Entering.{IsOfPool}
use Rattle.solo_undo.specs.Working.{FindsOpening}
use Rattle.solo_view.specs.Area.{area_word, is_in_area}
use Rattle.solo_view.specs.Blocks.{block_at}
use Rattle.solo_view.specs.Held.{is_guarded, is_under, is_under_found}
use Rattle.solo_view.specs.View.{Lock, View}
use Rattle.solo_world.specs.Opening.{Guards, IsSound, Opening}
use Rattle.solo_lock.specs.Finding.{FindsObject, FindsObjects}

-- a lock that is held for writing, if it allows that
write_so : (b : Bool) → (b || not true) ≡ true → b ≡ true
write_so true is = refl
write_so false is = is

module _ (v : View) (o : Opening) (sound : IsSound o) (opening : FindsOpening o v) (objects : FindsObjects v) where
  module _ (l : Lock) (there : Contains v.locks l) where
    abbrev pub object : FindsObject v l
    object = objects l there

    guards : (w : ℕ) → is_under_found l.line (Some object.lines) w ≡ true → Guards o l.line w
    guards w under =
        let found : IfSome l.block (λ lines. block_at o.lanes o.words l.line ≡ Some lines) = All-contains (λ (m : Lock). IfSome m.block (λ lines. block_at o.lanes o.words m.line ≡ Some lines)) v.locks l opening.locks there in
        record { lines = object.lines; block = subst (λ b. IfSome b (λ lines. block_at o.lanes o.words l.line ≡ Some lines)) object.block found; inside = under }

    -- a word that the lock guards is of the pool, and of no lane's area
    pub word_inside : (w : ℕ) → is_under_found l.line (Some object.lines) w ≡ true → w < length v.words
    word_inside w under = let low = sound.within l.line w (guards w under) in let size = opening.size in omega (arith, low, size)

    pub word_outside : (w : ℕ) → is_under_found l.line (Some object.lines) w ≡ true → is_in_area v.lane w ≡ false
    word_outside w under =
        let behind = sound.behind_areas l.line w (guards w under) in
        let lane = opening.lane in
        let lanes = opening.lanes in
        and_right (leb (area_word v.lane) w) (ltb w (area_word v.lane + 1024)) (le-ltb w (area_word v.lane + 1024) (omega (arith, behind, lane, lanes)))

    guarded_so : (w : ℕ) → 8 * l.line ≤ w → w < 8 * (l.line + object.lines) → is_guarded (w - 8 * l.line) ≡ true → is_under_found l.line (Some object.lines) w ≡ true
    guarded_so w low high guarded =
        and_from (leb (8 * l.line) w && ltb w (8 * (l.line + object.lines))) (is_guarded (w - 8 * l.line))
        (and_from (leb (8 * l.line) w) (ltb w (8 * (l.line + object.lines))) (le-leb (8 * l.line) w low) (lt-ltb w (8 * (l.line + object.lines)) high)) guarded

    pub size_outside : is_in_area v.lane (8 * l.line + 1) ≡ false
    size_outside =
        let fits = object.fits in
        word_outside (8 * l.line + 1) (guarded_so (8 * l.line + 1) (omega arith) (omega (arith, fits)) (ap is_guarded (let e : 8 * l.line + 1 - 8 * l.line ≡ 1 = omega arith in e)))

    -- the data begins with the ninth word of the block
    data_under : (w : ℕ) → 8 * l.line + 8 ≤ w → w < 8 * (l.line + object.lines) → is_under_found l.line (Some object.lines) w ≡ true
    data_under w low high = guarded_so w (omega (arith, low)) high (guarded (w - 8 * l.line) (omega (arith, low))) where
      guarded : (offset : ℕ) → 8 ≤ offset → is_guarded offset ≡ true
      guarded offset most = or_right (ltb offset 2 || eqb offset 5) (leb 8 offset) (le-leb 8 offset most)

  of_pool : (a : Action) → CanSet v a → IsOfPool v (entry_of a)
  of_pool (SetWord id off value) (range, (aligned, low)) =
      let h : IsHeld v id true = range.object in
      let l : Lock = h.lock in
      let place = h.place in
      let inside = range.inside in
      let f : FindsObject v l = objects l h.held in
      let fits = f.fits in
      let w : ℕ = (id.off + off) / 8 in
      let under : is_under_found l.line (Some f.lines) w ≡ true = data_under l h.held w (omega (arith, place, aligned)) (omega (arith, place, aligned, inside, fits)) in
      let own : (l.write && is_some l.block && is_under w l) ≡ true =
      and_from (l.write && is_some l.block) (is_under w l) (and_from l.write (is_some l.block) (write_so l.write h.allows) (ap is_some f.block)) (ap (λ b. is_under_found l.line b w) f.block ∙ under) in
      record {
        entry = record { aligned = omega (arith, place, aligned); word = low };
        own = list_any_at (λ (m : Lock). m.write && is_some m.block && is_under w m) v.locks h.held.0 l h.held.1 (ap (λ (m : Lock). m.write && is_some m.block && is_under w m) h.held.2 ∙ own);
        outside = word_outside l h.held w under;
        inside = word_inside l h.held w under;
        known = inl refl;
      }

  pub all_of_pool : (actions : List Action) → All (CanSet v) actions → All (IsOfPool v) (map entry_of actions)
  all_of_pool actions each = All-map (IsOfPool v) entry_of actions (All-weaker (CanSet v) (λ a. IsOfPool v (entry_of a)) of_pool actions each)
