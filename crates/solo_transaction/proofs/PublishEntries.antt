-- The redo entry of an action that a call publishes may be entered: of a word under a lock of the lane, or of a new object, as a change of the heap.
use Rattle.std.proofs.Common.{◌≡◌, ⊎_elim, inl, inr, ℕ, ◌+◌, ◌-◌, ◌*◌, ◌/◌, ◌%◌, ◌^◌, ◌<◌, ◌≤◌, ◌&&◌, true, false, leb, ltb, is_some, All, Contains, List, Option, Some, refl, sym, ap, ◌∙◌, subst, arith}
use Rattle.std.proofs.lemmas.Bool.{and_parts, false_from_ne_true, leb-true, ltb-true}
use Rattle.std.proofs.lemmas.List.Elements.{All-weaker}
use Rattle.std.proofs.lemmas.List.Folds.{Any-from_list_any}
use Rattle.pm_image.proofs.Members.{no_member}
use Rattle.solo_crash.specs.CallBlocks.{block_of}
use Rattle.solo_crash.specs.OnActions.{CanSetIn, CanSetNew}
use Rattle.solo_crash.specs.Operations.{HasNewRange}
use Rattle.solo_made.specs.Made.{BlockLists}
use Rattle.solo_model.specs.Actions.{Action}
use Rattle.solo_model.specs.Actions.Action.{SetWord}
use Rattle.solo_model.specs.Bytes.{covered_words}
use Rattle.pm_objects.specs.declared.ids.Oid.{Oid}
use Rattle.solo_pending.specs.Pending.{action_of, entry_of}
use Rattle.solo_pending.specs.declared.actions.SetAction.{SetAction}
use Rattle.solo_redo.specs.Entering.{EntersHeap, IsOfPool, MayEnter}
use Rattle.solo_view.specs.Held.{is_guarded, is_under, is_under_found}
use Rattle.solo_view.specs.Rights.{is_written}
use Rattle.solo_view.specs.View.{Lock, View}
use Rattle.solo_world.specs.Opening.{Opening}
use Rattle.solo_world.specs.declared.lane.Lane.{Lane}
use Rattle.solo_lock.specs.Finding.{FindsObject}
use Rattle.solo_tx.proofs.PendingEntries.{entry_of_pool, place_is_low, word_covered}
use Rattle.solo_tx.specs.AtWork.{MakesNone}
use Rattle.solo_transaction.proofs.NewRangeWords.{covered_in, covered_in_pool, covered_outside, even, new_range_is_low}
use Rattle.solo_transaction.proofs.NewWords.{IsInBlock}
use Rattle.solo_transaction.specs.AtWork.{IsAtWorkWith}

-- a word under a lock is one of the block that was found there
pub under_bounds : (l : Lock) (lines w : ℕ) → l.block ≡ Some lines → is_under w l ≡ true → (8 * l.line ≤ w) × (w < 8 * (l.line + lines))
under_bounds l lines w block under =
    let whole = and_parts (leb (8 * l.line) w && ltb w (8 * (l.line + lines))) (is_guarded (w - 8 * l.line)) (sym (ap (λ (b : Option ℕ). is_under_found l.line b w) block) ∙ under) in
    let both = and_parts (leb (8 * l.line) w) (ltb w (8 * (l.line + lines))) whole.0 in
    (leb-true (8 * l.line) w both.0, ltb-true w (8 * (l.line + lines)) both.1)

module _ {M : Type 0} (o : Opening) (at : M → View → Type 0) (lane : Lane M) (blocks : BlockLists) (v : View) (all : IsAtWorkWith o at lane blocks v) where
  -- no lock is over a word of a new object: its block overlaps none that was found
  word_unlocked : (id : Oid) (off : ℕ) (range : HasNewRange v id off 8) (i : ℕ) → Contains (covered_words (id.off + off) 8) i → is_written v i ≡ false
  word_unlocked id off range i there = false_from_ne_true (is_written v i) (λ own.
      let t = Any-from_list_any (λ (l : Lock). l.write && is_some l.block && is_under i l) v.locks own in
      let held : Contains v.locks t.1 = (t.0, t.2, t.3) in
      let object : FindsObject v t.1 = all.work.objects t.1 held in
      let under : is_under i t.1 ≡ true = (and_parts (t.1.write && is_some t.1.block) (is_under i t.1) t.4).1 in
      let of = under_bounds t.1 object.lines i object.block under in
      let in_it : IsInBlock range.made.new i = covered_in o at lane blocks v all id off 8 range i there in
      let from = in_it.from in let to = in_it.to in let low = of.0 in let high = of.1 in
      let behind = (all.work.under_way.has.each range.made.new range.made.has).behind in
      let aligned = (all.work.under_way.has.each range.made.new range.made.has).aligned in
      ⊎_elim
      (λ (before : (block_of range.made.new).place + 64 * (block_of range.made.new).lines ≤ 64 * t.1.line). omega (arith, before, to, low, behind, aligned))
      (λ (after : 64 * t.1.line + 64 * object.lines ≤ (block_of range.made.new).place). omega (arith, after, from, high, behind, aligned))
      (all.work.under_way.has.apart_found range.made.new t.1 object.lines range.made.has held object.block))

  new_even : (id : Oid) (off : ℕ) → HasNewRange v id off 8 → off % 8 ≡ 0 → (id.off + off) % 8 ≡ 0
  new_even id off range aligned = let begins = even o at lane blocks v all id off 8 range in omega (arith, begins, aligned)

  entry_on_new : (a : Action) → CanSetNew v a → EntersHeap v (entry_of a)
  entry_on_new (SetWord id off value) can =
      let range = can.0 in
      let aligned : (id.off + off) % 8 ≡ 0 = new_even id off range can.1.0 in
      let there : Contains (covered_words (id.off + off) 8) ((id.off + off) / 8) = word_covered (id.off + off) aligned in
      record {
        entry = record { aligned = aligned; word = can.1.1 };
        alone = all.alone;
        unlocked = word_unlocked id off range ((id.off + off) / 8) there;
        outside = covered_outside o at lane blocks v all id off 8 range ((id.off + off) / 8) there;
        inside = covered_in_pool o at lane blocks v all id off 8 range ((id.off + off) / 8) there;
        small = inl refl;
      }

  pub enters_action : (a : Action) → CanSetIn v a → MayEnter v (entry_of a)
  enters_action a (inl found) = inl (entry_of_pool o at lane v all.work a found.0)
  enters_action a (inr new) = inr (entry_on_new a new)

  -- where the call made no object, it is of a word under a lock
  pub locked_action : MakesNone v → (a : Action) → CanSetIn v a → IsOfPool v (entry_of a)
  locked_action none a (inl found) = entry_of_pool o at lane v all.work a found.0
  locked_action none (SetWord id off value) (inr new) = absurd (no_member new.0.made.new (subst (λ ns. Contains ns new.0.made.new) none.0 new.0.made.has))

  -- its place is a number of 64 bits
  low_place : (a : Action) → CanSetIn v a → (entry_of a).place < 2 ^ 64
  low_place a (inl found) = place_is_low o at lane v all.work a found.0
  low_place (SetWord id off value) (inr new) = let low = new_range_is_low o at lane blocks v all id off 8 new.0 in omega (arith, low)

  pub low_places : (actions : List SetAction) → All (λ (a : SetAction). CanSetIn v (action_of a)) actions → All (λ (a : SetAction). a.id.off + a.off < 2 ^ 64) actions
  low_places actions each = All-weaker (λ (a : SetAction). CanSetIn v (action_of a)) (λ (a : SetAction). a.id.off + a.off < 2 ^ 64) (λ a can. low_place (action_of a) can) actions each
