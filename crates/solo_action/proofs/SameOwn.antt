-- What a lane has of the heap, and its words and pictures, stay as a call begins, as all is made persistent, and as a call without entries draws its number; and what it knows of
-- that stays true.
use Rattle.std.proofs.Common.{◌≡◌, ⊎_elim, ℕ, List, [], slice_index, None, Option, refl, sym, ap, ◌∙◌, subst}
use Rattle.pm_objects.specs.declared.calls.Operation.{Operation}
use Rattle.pm_objects.specs.declared.history.Value.{Value}
use Rattle.solo_crash.specs.CallBlocks.{NewObject}
use Rattle.solo_crash.specs.Reserved.{IsReservedFor}
use Rattle.solo_crash.proofs.StillReserved.{reserved_still}
use Rattle.pm_image.specs.Blocks.{chunk_word, descriptor_word}
use Rattle.solo_epoch.specs.Epochs.{ReservesNoRun}
use Rattle.solo_epoch.specs.Reserving.{with_next_call}
use Rattle.solo_epoch.proofs.NextCalls.{idle_next, idle_then, open_next, open_then}
use Rattle.solo_reclaim.specs.KnownTaken.{KnowsTaken}
use Rattle.solo_undo.proofs.Settled.{settle_lawful}
use Rattle.solo_view.specs.Log.{no_log}
use Rattle.solo_view.specs.Log.Phase.{Idle, Open}
use Rattle.solo_view.specs.Steps.Step.{Tell}
use Rattle.solo_view.specs.View.{Taken, View, blank}
use Rattle.solo_view.specs.Views.{after, after_all}
use Rattle.solo_world.proofs.Plain.{empty_plain}
use Rattle.solo_world.specs.Sequences.{in_turn, one, settles}
use Rattle.solo_lock.proofs.Leads.{heap_drawn}
use Rattle.solo_lock.specs.Resting.{IsFresh}
use Rattle.solo_tx.specs.Sequences.{ends_call}

pub record HasSameOwn (v w : View) : Type 0 where
  pub lanes : w.lanes ≡ v.lanes
  pub zones : w.zones ≡ v.zones
  pub words : w.words ≡ v.words
  pub runs : w.run_words ≡ v.run_words
  pub zone_words : w.zone_words ≡ v.zone_words
  pub reserved : w.reserved ≡ v.reserved
  pub freed : w.freed ≡ v.freed
  pub zone_locks : w.zone_locks ≡ v.zone_locks

pub own_then : (u v w : View) → HasSameOwn u v → HasSameOwn v w → HasSameOwn u w
own_then u v w first then = record {
  lanes = then.lanes ∙ first.lanes;
  zones = then.zones ∙ first.zones;
  words = then.words ∙ first.words;
  runs = then.runs ∙ first.runs;
  zone_words = then.zone_words ∙ first.zone_words;
  reserved = then.reserved ∙ first.reserved;
  freed = then.freed ∙ first.freed;
  zone_locks = then.zone_locks ∙ first.zone_locks;
}

own_like : (v w u : View) → w ≡ u → HasSameOwn v u → HasSameOwn v w
own_like v w u is = subst (HasSameOwn v) (sym is)

-- ---- the steps

pub own_next : (v : View) → v.locks ≡ [] → IsFresh v → HasSameOwn v (with_next_call v)
own_next v free = ⊎_elim
    (λ (idle : v.log ≡ no_log Idle). own_like v (with_next_call v) (idle_then v free) (idle_next v free idle) (record { lanes = refl; zones = refl; words = refl; runs = refl; zone_words = refl; reserved = refl; freed = refl; zone_locks = refl }))
    (λ (is_open : (v.log ≡ no_log (Open [] [])) × (v.number ≡ None) × (v.call ≡ [])).
    own_like v (with_next_call v) (open_then v free) (open_next v free is_open.0) (record { lanes = refl; zones = refl; words = refl; runs = refl; zone_words = refl; reserved = refl; freed = refl; zone_locks = refl }))

pub own_settled : (v : View) → HasSameOwn v (after_all v (settles v))
own_settled v = let is = (settle_lawful v).1 in record {
  lanes = ap (λ (u : View). u.lanes) is;
  zones = ap (λ (u : View). u.zones) is;
  words = ap (λ (u : View). u.words) is;
  runs = ap (λ (u : View). u.run_words) is;
  zone_words = ap (λ (u : View). u.zone_words) is;
  reserved = ap (λ (u : View). u.reserved) is;
  freed = ap (λ (u : View). u.freed) is;
  zone_locks = ap (λ (u : View). u.zone_locks) is;
}

pub own_ended : (v : View) → v.log.entries ≡ [] → (op : Operation) (reply : Option Value) (n : ℕ) → HasSameOwn v (after_all v (ends_call op reply n v))
unfolding ends_call in_turn one after_all
own_ended v unentered op reply n =
    let told : View = after v (Tell op reply) in
    let heap = heap_drawn told n (empty_plain told unentered) in
    record { lanes = refl; zones = refl; words = refl; runs = refl; zone_words = refl; reserved = heap.reserved; freed = heap.freed; zone_locks = heap.zone_locks }

-- ---- what it knows

-- the view by these parts alone
abbrev own_view : ℕ → ℕ → List ℕ → List ℕ → List ℕ → List Taken → List Taken → View
own_view lanes zones words runs zone_words reserved freed = record blank { lanes = lanes; zones = zones; words = words; run_words = runs; zone_words = zone_words; reserved = reserved; freed = freed }

abbrev own_of : View → View
own_of v = own_view v.lanes v.zones v.words v.run_words v.zone_words v.reserved v.freed

module _ (v w : View) (same : HasSameOwn v w) where
  one_view : own_of v ≡ own_of w
  one_view = λ i. own_view (sym same.lanes i) (sym same.zones i) (sym same.words i) (sym same.runs i) (sym same.zone_words i) (sym same.reserved i) (sym same.freed i)

  pub knows_so : KnowsTaken v → KnowsTaken w
  knows_so knows = back (subst KnowsTaken one_view (record { pages = knows.pages; zone_count = knows.zone_count; bits = knows.bits; apart = knows.apart; once = knows.once })) where
    back : KnowsTaken (own_of w) → KnowsTaken w
    back k = record { pages = k.pages; zone_count = k.zone_count; bits = k.bits; apart = k.apart; once = k.once }

  pub no_run_so : ReservesNoRun v.lanes v → ReservesNoRun w.lanes w
  no_run_so none = subst (λ (u : View). ReservesNoRun u.lanes u) one_view none

pub reserved_so : (v w : View) → HasSameOwn v w → (n : NewObject) → IsReservedFor v n → IsReservedFor w n
reserved_so v w same = reserved_still v w (record {
  lanes = same.lanes;
  zones = same.zones;
  reserved = same.reserved;
  described = λ c in_pool. ap (λ (ws : List ℕ). slice_index ws (descriptor_word v.lanes c)) same.words;
  bitmaps = λ c in_pool run. ap (λ (ws : List ℕ). slice_index ws (chunk_word v.lanes c)) same.words;
  root = ap (λ (ws : List ℕ). slice_index ws 64) same.words;
})
