-- A word is stored and made persistent: what that leaves of a lane at work.
use Rattle.std.proofs.Common.{◌≡◌, ◌≢◌, ◌⊎◌, ⊎_elim, ℕ, suc, ◌+◌, ◌/◌, ◌<◌, ◌≤◌, Bool, true, false, not, cond, eqb, List, [], ◌∷◌, ◌++◌, length, set, slice_index, refl, sym, ap, ◌∙◌, subst, arith, eq-eqb, get_or-set_same, get_or-set_other}
use Rattle.std.specs.List.{list_any}
use Rattle.std.proofs.lemmas.Bool.{cases_eq, cond-true, false≢true, or_from, or_left, or_parts, or_right}
use Rattle.pm_image.specs.Logs.{slot_line}
use Rattle.solo_view.specs.declared.change.Change.{Change}
use Rattle.solo_view.specs.Area.{is_in_area}
use Rattle.solo_view.specs.Area.Part.{OtherWord}
use Rattle.solo_view.specs.Changes.{drained, flushed, is_in_line, mark, store_change}
use Rattle.solo_view.specs.Counts.{HasRoom, is_unflushed}
use Rattle.solo_view.specs.Held.{is_known, is_held}
use Rattle.solo_view.specs.Log.{Log, log_stored}
use Rattle.solo_view.specs.Steps.Step.{Store, Flush, Drain}
use Rattle.solo_view.specs.View.{View}
use Rattle.solo_view.specs.Views.{after}
use Rattle.solo_world.specs.Lawful.{Allowed, MayStore}
use Rattle.solo_world.specs.Sequences.{one, stores}
use Rattle.solo_world.proofs.Going.{Goes, goes_one, goes_then}
use Rattle.solo_undo.specs.Sequences.{persists}
use Rattle.solo_undo.specs.Working.{HasMadeRoom, IsSameCall, IsSettled, IsWorking}
use Rattle.solo_undo.proofs.Areas.{other_part}
use Rattle.solo_undo.proofs.Dropping.{flush_drops}
use Rattle.solo_undo.proofs.Restored.{open_settled}
use Rattle.solo_undo.proofs.Settled.{may_flush}
use Rattle.solo_undo.proofs.Staying.{same_call-then, same_changed, same_coursed}
use Rattle.solo_undo.proofs.Storing.{Is, goes_stores}
use Rattle.solo_undo.proofs.Unflushed.{clean_more, drained_clean, flush_cleans, flush_keeps_clean, unclean_more}
use Rattle.solo_undo.proofs.Written.{work_goes_on}
use Rattle.solo_fresh.specs.Made.{touches}
use Rattle.solo_fresh.specs.Making.{stores_persistent}
use Rattle.solo_fresh.proofs.Filled.{open_drained}

marked_word : (p : ℕ → Bool) (line : ℕ) (c : Change) → p (mark line c).word ≡ p c.word
marked_word p line c = at (is_in_line line c) where
  at : (b : Bool) → p (cond b (record c { flushed = true }) c).word ≡ p c.word
  at true = refl
  at false = refl

-- a flush and a drain of the last change's line leave of the others no more than there were
left_touched : (p : ℕ → Bool) (line : ℕ) (changes : List Change) (c : Change) → is_in_line line c ≡ true → touches p changes ≡ false → touches p (drained (flushed line (changes ++ c ∷ []))) ≡ false
left_touched p line [] c here none = ap (λ (d : Change). touches p (cond (not d.flushed) (d ∷ []) [])) (cond-true (is_in_line line c) (record c { flushed = true }) c here)
left_touched p line (d ∷ changes) c here none =
    let t = or_parts (p d.word) (touches p changes) none in
    at (mark line d).flushed (marked_word p line d ∙ t.0) (left_touched p line changes c here t.1) where
      at : (f : Bool) → p (mark line d).word ≡ false → touches p (drained (flushed line (changes ++ c ∷ []))) ≡ false
          → touches p (cond (not f) (mark line d ∷ drained (flushed line (changes ++ c ∷ []))) (drained (flushed line (changes ++ c ∷ [])))) ≡ false
      at true apart rest = rest
      at false apart rest = or_from (p (mark line d).word) (touches p (drained (flushed line (changes ++ c ∷ [])))) apart rest

left_few : (line : ℕ) (changes : List Change) (c : Change) → is_in_line line c ≡ true → length (drained (flushed line (changes ++ c ∷ []))) ≤ length changes
left_few line [] c here = let e = ap (λ (d : Change). length (cond (not d.flushed) (d ∷ []) [])) (cond-true (is_in_line line c) (record c { flushed = true }) c here) in omega (arith, e)
left_few line (d ∷ changes) c here = at (mark line d).flushed (left_few line changes c here) where
  at : (f : Bool) → length (drained (flushed line (changes ++ c ∷ []))) ≤ length changes
      → length (cond (not f) (mark line d ∷ drained (flushed line (changes ++ c ∷ []))) (drained (flushed line (changes ++ c ∷ [])))) ≤ suc (length changes)
  at true few = omega (arith, few)
  at false few = omega (arith, few)

-- a word has this value, and is persistent; no other word changed
pub record IsPersisted (v : View) (w x : ℕ) (u : View) : Type 0 where
  pub same : u ≡ record v { words = u.words; known = u.known; changes = u.changes; calls = u.calls }
  pub call : IsSameCall v u
  pub working : IsWorking u
  pub there : slice_index u.words w ≡ x
  pub others : (z : ℕ) → z ≢ w → slice_index u.words z ≡ slice_index v.words z
  pub knows : is_held v w ≡ true → is_known u w ≡ true
  pub clean : (k : ℕ) → (k ≡ w / 8) ⊎ (is_unflushed v.changes k ≡ false) → list_any (is_in_line k) u.changes ≡ false
  pub of_none : (p : ℕ → Bool) → touches p v.changes ≡ false → touches p u.changes ≡ false
  pub calls : HasRoom v.changes → (u.calls ≡ v.calls + 3) × HasRoom u.changes

-- with room made for a change, the view has other changes and another count of calls
pub record IsRoomy (v m : View) : Type 0 where
  pub same : m ≡ record v { changes = m.changes; calls = m.calls }
  pub clean : (k : ℕ) → is_unflushed v.changes k ≡ false → is_unflushed m.changes k ≡ false
  pub of_none : (p : ℕ → Bool) → touches p v.changes ≡ false → touches p m.changes ≡ false
  pub few : HasRoom v.changes → (m.calls ≡ v.calls) × (m.changes ≡ v.changes)

module _ (v : View) (working : IsWorking v) where
  pub roomy : (m : View) → HasMadeRoom v m → IsRoomy v m
  roomy m made = ⊎_elim
      (λ (e : m ≡ v). subst (IsRoomy v) (sym e) (record { same = refl; clean = λ k none. none; of_none = λ p none. none; few = λ room. (refl, refl) }))
      (λ (full : (512 ≤ length v.changes) × IsSettled v m). record {
        same = full.1 ∙ ap (λ log. record v { changes = []; calls = m.calls; log = log }) (open_settled v.changes v [] [] working.is_open) ∙ ap (λ (cs : List Change). record v { changes = cs; calls = m.calls }) (sym (ap (λ (z : View). z.changes) full.1));
        clean = λ k none. ap (λ (z : View). is_unflushed z.changes k) full.1;
        of_none = λ p none. ap (λ (z : View). touches p z.changes) full.1;
        few = λ room. absurd (let most = full.0 in omega (arith, most, room));
      })
      made.1

  module _ (w x : ℕ) (inside : w < length v.words) (outside : is_in_area v.lane w ≡ false) where
    abbrev line : ℕ
    line = w / 8

    abbrev c : Change
    c = store_change w (slice_index v.words w) x

    module _ (changes : List Change) (calls : ℕ) where
      abbrev m : View
      m = record v { changes = changes; calls = calls }

      abbrev left : List Change
      left = drained (flushed line (changes ++ c ∷ []))

      abbrev u : View
      u = record v { words = set v.words w x; known = cond (is_held v w) (w ∷ v.known) v.known; changes = left; calls = calls + 1 + 1 + 1 }

      abbrev stored : View
      stored = after m (Store w x)

      stored_log : stored.log ≡ v.log
      stored_log = ap (λ part. log_stored v.log.phase part x v.log) (other_part v.lane w outside) ∙ ap (λ phase. log_stored phase OtherWord x v.log) working.is_open

      abbrev marked : View
      marked = after stored (Flush line)

      drains_to : after marked Drain ≡ u
      drains_to = ap (λ log. record u { log = log }) (open_drained left marked (ap (λ (l : Log). l.phase) stored_log ∙ working.is_open) ∙ stored_log)

      here : is_in_line line c ≡ true
      here = eq-eqb (w / 8) line refl

      module _ (of : IsRoomy v m) where
        clean : (k : ℕ) → (k ≡ line) ⊎ (is_unflushed v.changes k ≡ false) → list_any (is_in_line k) left ≡ false
        clean k fine = drained_clean k (flushed line (changes ++ c ∷ [])) (⊎_elim
            (λ (this : k ≡ line). ap (is_unflushed (flushed line (changes ++ c ∷ []))) this ∙ flush_cleans line (changes ++ c ∷ []))
            (λ (other : k ≢ line). ⊎_elim (λ (this : k ≡ line). absurd (other this))
            (λ (none : is_unflushed v.changes k ≡ false). flush_keeps_clean line k (changes ++ c ∷ []) (clean_more k changes c (λ same. other (sym same)) (of.clean k none))) fine)
            (cases_eq k line))

        of_none : (p : ℕ → Bool) → touches p v.changes ≡ false → touches p left ≡ false
        of_none p none = left_touched p line changes c here (of.of_none p none)

        call : IsSameCall v u
        call = same_call-then v (record v { words = set v.words w x; known = cond (is_held v w) (w ∷ v.known) v.known; changes = changes ++ c ∷ []; calls = calls + 1 }) u
            (same_call-then v m (record v { words = set v.words w x; known = cond (is_held v w) (w ∷ v.known) v.known; changes = changes ++ c ∷ []; calls = calls + 1 }) (same_coursed v changes calls v.log) (same_changed m w x c v.log))
            (same_coursed (record v { words = set v.words w x; known = cond (is_held v w) (w ∷ v.known) v.known; changes = changes ++ c ∷ []; calls = calls + 1 }) left (calls + 1 + 1 + 1) v.log)

        others : (z : ℕ) → z ≢ w → slice_index u.words z ≡ slice_index v.words z
        others z other = get_or-set_other v.words w z x 0 other

        persisted : IsPersisted v w x u
        persisted = record {
          same = refl;
          call = call;
          working = work_goes_on v u working call refl (λ z area. others z (λ same. false≢true (sym outside ∙ (ap (is_in_area v.lane) (sym same) ∙ area))))
              (λ slot low. ap not (of_none (λ z. eqb (z / 8) (slot_line v.lane slot)) (undrained (list_any (is_in_line (slot_line v.lane slot)) v.changes) (working.drained slot low))));
          there = get_or-set_same v.words w x 0 inside;
          others = others;
          knows = λ held. or_right (is_in_area v.lane w) (list_any (λ other. eqb other w) (cond (is_held v w) (w ∷ v.known) v.known))
              (ap (list_any (λ other. eqb other w)) (cond-true (is_held v w) (w ∷ v.known) v.known held) ∙ or_left (eqb w w) (list_any (λ other. eqb other w) v.known) (eq-eqb w w refl));
          clean = clean;
          of_none = of_none;
          calls = λ room.
              let few = of.few room in let made = few.0 in let size = ap length few.1 in
              (omega (arith, made), let most = left_few line changes c here in omega (arith, most, size, room));
        } where
          undrained : (b : Bool) → not b ≡ true → b ≡ false
          undrained true e = absurd (false≢true e)
          undrained false e = refl

    -- where the store is lawful with room made for it
    pub goes_persistent : ((m : View) → IsRoomy v m → HasRoom m.changes → MayStore m w x) → Goes (Is v) (stores_persistent w x) (IsPersisted v w x)
    unfolding stores_persistent persists
    goes_persistent may =
        goes_then (Is v) Stored (IsPersisted v w x) (stores w x) (persists line)
        (goes_stores (Is v) Stored w x (λ z m is made.
        let made_of : HasMadeRoom v m = subst (λ y. HasMadeRoom y m) is made in
        let of = roomy m made_of in
        (may m of made.0, (m, (of, refl)))))
        (goes_then Stored Marked (IsPersisted v w x) (one (Flush line)) (one Drain)
        (goes_one Stored Marked (Flush line) (λ z at. let due = unclean z at in (may_flush z.changes line due, tt, (at.0, (at.1.0, ap (λ y. after y (Flush line)) at.1.1, flush_drops line z.changes (may_flush z.changes line due))))))
        (goes_one Marked (IsPersisted v w x) Drain (λ z at. (at.1.2, tt, ends z at)))) where
          Stored : View → Type 0
          Stored z = (m : View) × (IsRoomy v m × (z ≡ after m (Store w x)))

          Marked : View → Type 0
          Marked z = (m : View) × (IsRoomy v m × (z ≡ after (after m (Store w x)) (Flush line)) × Allowed z Drain)

          unclean : (z : View) → Stored z → is_unflushed z.changes line ≡ true
          unclean z at = ap (λ (y : View). is_unflushed y.changes line) at.1.1 ∙ unclean_more line at.0.changes (store_change w (slice_index at.0.words w) x) refl refl

          ends : (z : View) → Marked z → IsPersisted v w x (after z Drain)
          ends z at =
              let m : View = at.0 in
              let of : IsRoomy v m = at.1.0 in
              subst (IsPersisted v w x) (sym (ap (λ y. after y Drain) at.1.1))
              (subst (λ y. IsPersisted v w x (after (after (after y (Store w x)) (Flush line)) Drain)) (sym of.same)
              (subst (IsPersisted v w x) (sym (drains_to m.changes m.calls)) (persisted m.changes m.calls (subst (IsRoomy v) of.same of))))
