-- A call that draws its number in a world, with an entry for each thing that it may publish, may publish them.
use Rattle.std.proofs.Common.{◌≡◌, ◌≢◌, ℕ, ◌+◌, ◌*◌, ◌^◌, ◌<◌, ◌&&◌, Bool, true, eqb, All, List, [], ◌∷◌, ◌++◌, None, inr, length, map, slice_index, sym, ap, ◌∙◌, subst, arith, inl}
use Rattle.std.proofs.Math.Pow.{pow-lt}
use Rattle.std.proofs.lemmas.Bool.{and_parts, eqb-true, false≢true}
use Rattle.std.proofs.lemmas.List.Elements.{All-append, All-contains, All-cons, All-map, All-nil, All-weaker}
use Rattle.std.proofs.lemmas.List.Folds.{Any-from_list_any}
use Rattle.pm_header.specs.declared.header.Header.{Header}
use Rattle.pm_objects.specs.declared.pool.PoolView.{PoolView}
use Rattle.pm_image.specs.HeapFaults.{heap_fault}
use Rattle.solo_view.specs.Log.{Final, Log, log_drawn}
use Rattle.solo_view.specs.Log.Phase.{Idle}
use Rattle.solo_view.specs.Steps.Step.{Draw}
use Rattle.solo_view.specs.View.{View}
use Rattle.solo_view.specs.Views.{after}
use Rattle.solo_world.specs.Entries.{ends_with}
use Rattle.solo_world.specs.History.{Entry}
use Rattle.solo_world.specs.Lawful.{Allowed, generation_limit}
use Rattle.solo_world.specs.Memory.{Memory}
use Rattle.solo_world.specs.Memory.Location.{PoolWord}
use Rattle.solo_world.specs.Opening.{Opening}
use Rattle.solo_world.specs.Records.{generation_of}
use Rattle.solo_world.specs.World.{Views, World}
use Rattle.solo_model.specs.Actions.Action.{SetWord}
use Rattle.solo_crash.specs.Held.{HoldsPool}
use Rattle.solo_crash.specs.HeapChanges.HeapChange.{AllocatesChunks, AllocatesInRun, FreesChunks, FreesInRun}
use Rattle.solo_crash.specs.Publishing.{CanPublish, Published, entry_published}
use Rattle.solo_crash.specs.Publishing.Published.{Changes, Performs}
use Rattle.solo_crash.proofs.BitMore.{index_small}
use Rattle.solo_crash.proofs.OneChange.{run_bitmap_fits}
use Rattle.solo_sealed.specs.Sealed.{HasWholeLog, IsOfPool}
use Rattle.solo_sealed.proofs.FromWorlds.{leads_to_seal}
use Rattle.solo_epoch.specs.Epochs.{HasEntriesFor, MayPublish}
use Rattle.solo_epoch.proofs.Targets.{published_target}

-- what is asked of an entry beside its word: bits of 64, and of an OR a word of 64 bits
record IsSmall (w : ℕ → ℕ) (f : Final) : Type 0 where
  bits : f.bits < 2 ^ 64
  word : f.ors ≡ true → w f.word < 2 ^ 64

small_entry : (w : ℕ → ℕ) (lanes zones : ℕ) → heap_fault w lanes zones ≡ None → (s : Published) → CanPublish w lanes zones s → IsSmall w (entry_published lanes s)
small_entry w lanes zones none (Performs (SetWord id off value)) (inl can) = record { bits = can.whole.1; word = λ or. absurd (false≢true or) }
small_entry w lanes zones none (Performs (SetWord id off value)) (inr unseen) = record { bits = unseen.whole.1; word = λ or. absurd (false≢true or) }
small_entry w lanes zones none (Changes (AllocatesInRun c lines index kind bytes)) can =
    let low : index < 64 = index_small lines index can.inside in
    record { bits = pow-lt {i = index} {j = 64} low; word = λ or. run_bitmap_fits w lanes zones c lines index none can.in_zones can.inside can.is_run }
small_entry w lanes zones none (Changes (AllocatesChunks c chunks kind bytes)) can = let fits = can.1.in_zone in record { bits = omega (arith, fits); word = λ or. absurd (false≢true or) }
small_entry w lanes zones none (Changes (FreesInRun c lines index)) can = record { bits = omega arith; word = λ or. absurd (false≢true or) }
small_entry w lanes zones none (Changes (FreesChunks c chunks)) can = record { bits = omega arith; word = λ or. absurd (false≢true or) }

module _ (v : View) (header : Header) (now : PoolView) (all : List Published) (holds : HoldsPool (slice_index v.words) v.lanes v.zones header now)
    (can : All (CanPublish (slice_index v.words) v.lanes v.zones) all) (entries : v.log.entries ≡ map (entry_published v.lanes) all ++ ends_with v (generation_of v + 1) ∷ []) (size : length v.words ≡ 512 + 1024 * v.lanes + 33280 * v.zones)
    (below : generation_of v < generation_limit) where
  abbrev front : List Final
  front = map (entry_published v.lanes) all

  of_pool : All (IsOfPool v) front
  of_pool =
      All-map (IsOfPool v) (entry_published v.lanes) all
      (All-weaker (CanPublish (slice_index v.words) v.lanes v.zones) (λ s. IsOfPool v (entry_published v.lanes s)) (λ s may.
      let t = published_target (slice_index v.words) v.lanes v.zones holds.no_fault s may in let inside = t.inside in record { outside = inr t.behind; inside = omega (arith, inside, size) }) all can)

  all_small : All (IsSmall (slice_index v.words)) v.log.entries
  all_small = subst (All (IsSmall (slice_index v.words))) (sym entries)
      (All-append (IsSmall (slice_index v.words)) front (ends_with v (generation_of v + 1) ∷ [])
      (All-map (IsSmall (slice_index v.words)) (entry_published v.lanes) all (All-weaker (CanPublish (slice_index v.words) v.lanes v.zones) (λ s. IsSmall (slice_index v.words) (entry_published v.lanes s)) (λ s may. small_entry (slice_index v.words) v.lanes v.zones holds.no_fault s may) all can))
      (All-cons (IsSmall (slice_index v.words)) (ends_with v (generation_of v + 1)) [] (record { bits = omega (arith, below); word = λ or. absurd (false≢true or) }) (All-nil (IsSmall (slice_index v.words)))))

  whole_log : HasWholeLog v
  whole_log = record {
    front = front;
    ends = entries;
    of_pool = of_pool;
    small = λ w or.
        let t = Any-from_list_any (λ (f : Final). eqb f.word w && f.ors) v.log.entries or in
        let both = and_parts (eqb t.1.word w) t.1.ors t.4 in
        let s = All-contains (IsSmall (slice_index v.words)) v.log.entries t.1 all_small (t.0, t.2, t.3) in (
          subst (λ i. slice_index v.words i < 2 ^ 64) (eqb-true t.1.word w both.0) (s.word both.1),
          All-weaker (IsSmall (slice_index v.words)) (λ (f : Final). f.word ≡ w → f.bits < 2 ^ 64) (λ f small of. small.bits) v.log.entries all_small,
        );
    below = below;
  }

pub may_publish : (o : Opening) (mem : Memory) (views : Views) (log : List Entry) (decided : ℕ → Bool) (k n : ℕ) (header : Header) (before now : PoolView) (all : List Published) → World o mem views log decided → k < o.lanes
    → ((j : ℕ) → j < o.lanes → j ≢ k → (views j).log.phase ≡ Idle) → ((w : ℕ) → mem (PoolWord w) ≡ slice_index (views k).words w) → Allowed (views k) (Draw n) → HasEntriesFor (views k) header before now all
    → MayPublish (after (views k) (Draw n)) header before now all
may_publish o mem views log decided k n header before now all world inside rest sees may has =
    let v : View = views k in
    let fits = world.each_lane k inside in
    let size : length v.words ≡ 512 + 1024 * v.lanes + 33280 * v.zones =
    let long = fits.lane.size in let size = world.sound.size in let lanes = fits.lane.lanes in let zones = fits.lane.zones in omega (arith, long, size, lanes, zones) in
    record {
      seal = leads_to_seal o mem views log decided k n world inside rest sees may (whole_log v header now all has.holds has.can has.entries size has.below);
      has = record { entries = ap (λ (l : Log). l.entries) (ap (λ p. log_drawn p v.log) may.is_open) ∙ has.entries; below = has.below; was = has.was; holds = has.holds; can = has.can; objects = has.objects; ordered = has.ordered };
    }
