-- A lane that looks again at the size of an object that it knows learns nothing new.
use Rattle.std.proofs.Common.{◌≡◌, ℕ, ◌+◌, ◌-◌, ◌*◌, ◌/◌, ◌%◌, ◌^◌, ◌<◌, ◌≤◌, Bool, true, false, cond, set, Contains, List, [], ◌∷◌, length, map, slice_index, refl, sym, ap, ◌∙◌, subst, arith}
use Rattle.std.proofs.lemmas.List.{set-get_or}
use Rattle.std.proofs.lemmas.List.Elements.{Contains-append_left, Contains-append_right}
use Rattle.solo_crash.specs.OnActions.{CanSet, PassesObject}
use Rattle.solo_crash.specs.Operations.{HasRange, IsHeld, PassesEnd, TakesWanted}
use Rattle.solo_model.specs.Actions.{Action}
use Rattle.solo_model.specs.Actions.Action.{SetWord}
use Rattle.solo_model.specs.Transaction.{Lock as Locked}
use Rattle.pm_objects.specs.declared.calls.Want.{Want}
use Rattle.pm_objects.specs.declared.ids.Oid.{Oid}
use Rattle.solo_pending.specs.Pending.{action_of}
use Rattle.solo_pending.specs.declared.actions.SetAction.{SetAction}
use Rattle.solo_view.specs.Blocks.{is_chunk}
use Rattle.solo_view.specs.Founds.{FindsKnown}
use Rattle.solo_view.specs.Held.{is_held}
use Rattle.solo_view.specs.Steps.Step.{Load}
use Rattle.solo_view.specs.View.{View}
use Rattle.solo_view.specs.Views.{after, with_block}
use Rattle.solo_lock.proofs.Allocations.{size_marks_none}
use Rattle.solo_lock.proofs.FoundUnder.{map_none}
use Rattle.solo_lock.proofs.Leads.{led_none, led_once, led_then}
use Rattle.solo_lock.specs.Finding.{FindsObjects, OnlyLooks}
use Rattle.solo_tx.proofs.AddsAtWork.{listed_is_known}
use Rattle.solo_action.specs.Holding.{HasLookedAgain, HoldsObject, LooksAgain}

pub looks_at_none : (v : View) → LooksAgain v v
looks_at_none v = record { led = led_none v; same = refl; remembers = λ u there. there; saw = λ s there. there }

pub looks_further : (u v w : View) → LooksAgain u v → LooksAgain v w → LooksAgain u w
looks_further u v w first second = record {
  led = led_then u v w first.led second.led;
  same = second.same ∙ ap (λ (z : View). record z { known = w.known; seen = w.seen }) first.same;
  remembers = λ i there. second.remembers i (first.remembers i there);
  saw = λ s there. second.saw s (first.saw s there);
}

-- the word of the size of an object, by its id
abbrev pub size_word : Oid → ℕ
size_word id = 8 * (id.off / 64 - 1) + 1

-- the size of an object in a chunk
module _ (v : View) (line : ℕ) (chunk : is_chunk v.lanes (line / 64) ≡ true) (inside : line < length v.words / 8) (known : Contains v.known (8 * line + 1)) (x : ℕ) (found : FindsKnown v (8 * line + 1) x) where
  abbrev word : ℕ
  word = 8 * line + 1

  abbrev w : View
  w = after v (Load word x)

  pub size_found : x ≡ slice_index v.words word
  size_found = found (listed_is_known v word known)

  words_same : set v.words word x ≡ v.words
  words_same = ap (set v.words word) size_found ∙ set-get_or v.words word 0

  locks_same : map (with_block v.lanes (set v.words word x) word) v.locks ≡ v.locks
  locks_same = map_none (with_block v.lanes (set v.words word x) word) v.locks (size_marks_none v.lanes line chunk (set v.words word x))

  still_known : (u : ℕ) → Contains v.known u → Contains w.known u
  still_known u there = by (is_held v word) where
    by : (b : Bool) → Contains (cond b (word ∷ v.known) v.known) u
    by true = Contains-append_right (word ∷ []) v.known u there
    by false = there

  pub looks_at_size : LooksAgain v w
  looks_at_size = record {
    led = led_once v (Load word x) (omega (arith, inside)) (λ alone. size_found) tt refl (record { zone_locks = refl; reserved = refl; freed = refl });
    same = (λ i. record v { words = words_same i; known = w.known; locks = locks_same i; seen = w.seen });
    remembers = still_known;
    saw = λ s there. Contains-append_left v.seen (Load word x ∷ []) s there;
  }

-- what holds of the view before holds of the one behind
module _ (v w : View) (looks : LooksAgain v w) where
  abbrev again : View
  again = record v { known = w.known; seen = w.seen }

  pub holds_again : (id : Oid) → HoldsObject v id → HoldsObject w id
  holds_again id is = subst (λ (z : View). HoldsObject z id) (sym looks.same) so where
    so : HoldsObject again id
    so =
        let h : IsHeld v id true = is.held in
        record {
          held = record { lock = h.lock; lines = h.lines; held = h.held; block = h.block; allows = h.allows; of_pool = h.of_pool; place = h.place };
          known = looks.remembers _ is.known;
          chunk = is.chunk;
          inside = is.inside;
        }

  pub sets_again : (a : Action) → CanSet v a → CanSet w a
  sets_again (SetWord id off value) (range, word) = subst (λ (z : View). CanSet z (SetWord id off value)) (sym looks.same) (so, word) where
    so : HasRange again id off 8 true
    so =
        let h : IsHeld v id true = range.object in
        record {
          object = record { lock = h.lock; lines = h.lines; held = h.held; block = h.block; allows = h.allows; of_pool = h.of_pool; place = h.place };
          size_known = looks.remembers _ range.size_known;
          inside = range.inside;
        }

  pub objects_again : FindsObjects v → FindsObjects w
  objects_again objects = subst (λ (z : View). FindsObjects z) (sym looks.same) (λ l there. let f = objects l there in record { lines = f.lines; block = f.block; known = looks.remembers _ f.known; fits = f.fits })

  pub takes_again : (before : List Locked) (wants : List Want) → TakesWanted v before wants → TakesWanted w before wants
  takes_again before wants takes = subst (λ (z : View). TakesWanted z before wants) (sym looks.same) (record {
    few = takes.few;
    locks = takes.locks;
    wanted = λ want there.
        let t = takes.wanted want there in
        let h : IsHeld v want.id want.write = t.held in
        record { place = t.place; held = record { lock = h.lock; lines = h.lines; held = h.held; block = h.block; allows = h.allows; of_pool = h.of_pool; place = h.place } };
    chunks = takes.chunks;
  })

  -- it is a kind of looking at words
  pub only_looks : OnlyLooks v w
  only_looks = record {
    led = looks.led;
    same = subst (λ (z : View). z ≡ record v { words = z.words; known = z.known; seen = z.seen; locks = z.locks }) (sym looks.same) refl;
    front = λ u low. ap (λ (z : View). slice_index z.words u) looks.same;
    remembers = looks.saw;
  }

  pub passes_again : (a : Action) → PassesObject v a → PassesObject w a
  passes_again (SetWord id off value) past = subst (λ (z : View). PassesObject z (SetWord id off value)) (sym looks.same) so where
    so : PassesEnd again id off 8 true
    so =
        let h : IsHeld v id true = past.object in
        record {
          object = record { lock = h.lock; lines = h.lines; held = h.held; block = h.block; allows = h.allows; of_pool = h.of_pool; place = h.place };
          size_known = looks.remembers _ past.size_known;
          outside = past.outside;
        }

-- the action's end is where its object ends, or before, or it is not
module _ (v : View) (a : SetAction) (is : HoldsObject v a.id) (size : ℕ) (found : FindsKnown v (size_word a.id) size) (new : View → Type 0) (there : new (after v (Load (size_word a.id) size))) where
  same_word : size_word a.id ≡ 8 * is.held.lock.line + 1
  same_word = let place = is.held.place in omega (arith, place)

  found_so : FindsKnown v (8 * is.held.lock.line + 1) size
  found_so = subst (λ w. FindsKnown v w size) same_word found

  size_is : size ≡ slice_index v.words (8 * is.held.lock.line + 1)
  size_is = size_found v is.held.lock.line is.chunk is.inside is.known size found_so

  looked : LooksAgain v (after v (Load (8 * is.held.lock.line + 1) size))
  looked = looks_at_size v is.held.lock.line is.chunk is.inside is.known size found_so

  looked_to : (Q : View → Type 0) → Q (after v (Load (8 * is.held.lock.line + 1) size)) → HasLookedAgain new v Q
  looked_to Q holds = record { view = after v (Load (8 * is.held.lock.line + 1) size); looks = looked; there = subst (λ w. new (after v (Load w size))) same_word there; holds = holds }

  pub ends_so : a.off % 8 ≡ 0 → a.value < 2 ^ 64 → a.off + 8 ≤ size → HasLookedAgain new v (λ w. CanSet w (action_of a))
  ends_so aligned low fits =
      looked_to (λ w. CanSet w (action_of a))
      (sets_again v (after v (Load (8 * is.held.lock.line + 1) size)) looked (action_of a) (record { object = is.held; size_known = is.known; inside = (let e = size_is in omega (arith, e, fits)) }, (aligned, low)))

  pub passes_so : size < a.off + 8 → HasLookedAgain new v (λ w. PassesObject w (action_of a))
  passes_so past =
      looked_to (λ w. PassesObject w (action_of a))
      (passes_again v (after v (Load (8 * is.held.lock.line + 1) size)) looked (action_of a) (record { object = is.held; size_known = is.known; outside = (let e = size_is in omega (arith, e, past)) }))
