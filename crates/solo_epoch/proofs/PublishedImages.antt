-- An image with something of what was published has no fault, and means the pool with all of it.
use Rattle.std.proofs.Common.{◌≡◌, ⊎_elim, ℕ, ◌+◌, ◌*◌, ◌<◌, true, false, All, inl, List, [], ◌∷◌, length, map, slice_get, slice_index, Option, Some, refl, sym, ap, ◌∙◌, subst, arith, length-append}
use Rattle.std.specs.Option.{option_or}
use Rattle.std.proofs.lemmas.Bool.{false_from_ne_true}
use Rattle.std.proofs.lemmas.List.Elements.{All-map, All-weaker}
use Rattle.std.proofs.lemmas.Option.{get_or_from_slice_get, slice_get_within}
use Rattle.pm_header.specs.declared.header.Header.{Header}
use Rattle.pm_header.specs.Pairs.{IsHeaderIn}
use Rattle.pm_objects.specs.declared.pool.PoolView.{PoolView}
use Rattle.pm_image.specs.declared.fault.ImageFault.{ImageFault}
use Rattle.pm_image.specs.HeapFaults.{heap_fault}
use Rattle.pm_image.specs.Logs.{recovered_at}
use Rattle.pm_image.specs.Means.{IsMeaning, page}
use Rattle.solo_memory.specs.Keep.{IsKeptImage}
use Rattle.solo_view.specs.declared.change.Change.{Change}
use Rattle.solo_view.specs.Founds.{IsAlone}
use Rattle.solo_view.specs.Log.{Final}
use Rattle.solo_view.specs.Log.Phase.{Idle}
use Rattle.solo_view.specs.Steps.{Step}
use Rattle.solo_view.specs.View.{View}
use Rattle.solo_world.specs.Entries.{ends_with, is_entered}
use Rattle.solo_world.specs.Records.{generation_of}
use Rattle.solo_world.proofs.CrashLogs.{entry_of_word}
use Rattle.solo_world.proofs.StoreSlot.{get-push_cases}
use Rattle.solo_crash.specs.Held.{HoldsImage}
use Rattle.solo_crash.specs.Publishing.{CanPublish, Published, all_pool_published, entry_published}
use Rattle.solo_crash.proofs.FrontWords.{front_same}
use Rattle.solo_sealed.specs.Sealed.{AreTargets, LeavesSealed, Publishes, has_nothing, is_decided}
use Rattle.solo_sealed.proofs.EndedLog.{drained}
use Rattle.solo_sealed.proofs.LeftImages.{decides}
use Rattle.solo_sealed.proofs.NoFaults.{beside, no_fault}
use Rattle.solo_epoch.specs.Epochs.{MayPublish}
use Rattle.solo_epoch.proofs.PublishedPools.{holds_left, size, was_left}
use Rattle.solo_epoch.proofs.Targets.{IsTarget, published_target}

-- what holds a pool means it
pub means : (image : List ℕ) (lanes zones : ℕ) (header : Header) (pool : PoolView) → HoldsImage image lanes zones header pool → IsMeaning image pool
means image lanes zones header pool holds = record {
  lanes = lanes;
  zones = zones;
  header = header;
  has_header = holds.has_header;
  fits = holds.fits;
  no_fault = ap (λ (found : Option ImageFault). option_or found (heap_fault (recovered_at image lanes) lanes zones)) holds.no_log_fault ∙ holds.holds.no_fault;
  is_pool = holds.holds.is_pool;
}

module _ (b : View) (header : Header) (before now : PoolView) (all : List Published) (may : MayPublish b header before now all) where
  abbrev front : List Final
  front = map (entry_published b.lanes) all

  abbrev last : Final
  last = ends_with b (generation_of b + 1)

  are_targets : All (λ (f : Final). IsTarget b.lanes b.zones f.word) front
  are_targets =
      All-map (λ (f : Final). IsTarget b.lanes b.zones f.word) (entry_published b.lanes) all
      (All-weaker (CanPublish (slice_index b.words) b.lanes b.zones) (λ s. IsTarget b.lanes b.zones (entry_published b.lanes s).word) (λ s can. published_target (slice_index b.words) b.lanes b.zones may.has.holds.no_fault s can) all may.has.can)

  in_front : (i : ℕ) (f : Final) → slice_get front i ≡ Some f → IsTarget b.lanes b.zones f.word
  in_front i f there = subst (λ (h : Final). IsTarget b.lanes b.zones h.word) (get_or_from_slice_get front i f f there) (are_targets i f (slice_get_within front i f there))

  targets : AreTargets b
  targets i f at low =
      let long : length b.log.entries ≡ length front + 1 = ap (λ (fs : List Final). length fs) may.has.entries ∙ length-append front (last ∷ []) in
      ⊎_elim (λ (there : slice_get front i ≡ Some f). (in_front i f there).may) (λ (t : (i ≡ length front) × (last ≡ f)). let here = t.0 in absurd (omega (arith, here, low, long)))
      (get-push_cases front last i f (ap (λ fs. slice_get fs i) (sym may.has.entries) ∙ at))

  -- the header page has no entry
  pub unentered_front : (i : ℕ) → i < 512 → is_entered b.log.entries i ≡ false
  unentered_front i low = false_from_ne_true (is_entered b.log.entries i) (λ e.
      let t = entry_of_word b.log.entries i e in
      let is = t.of in
      ⊎_elim (λ (there : slice_get front t.place ≡ Some t.held). let behind = (in_front t.place t.held there).behind in absurd (omega (arith, behind, is, low)))
      (λ (t2 : (t.place ≡ length front) × (last ≡ t.held)). let own = ap (λ (f : Final). f.word) t2.1 in absurd (omega (arith, own, is, low)))
      (get-push_cases front last t.place t.held (ap (λ fs. slice_get fs t.place) (sym may.has.entries) ∙ t.at)))

  module _ (w : View) (steps : List Step) (keep : ℕ) (image : List ℕ) (leaves : LeavesSealed b steps w keep image) where
    holds_image : has_nothing image b ≡ false → HoldsImage image b.lanes b.zones header (all_pool_published b.lanes all now)
    holds_image some =
        let long : length image ≡ length b.words = size b header before now all may w steps keep image leaves in
        let words = may.seal.size in
        let same : page image ≡ page b.words = front_same b.words image (omega (arith, words)) long (λ i low. beside b w steps keep image leaves i (omega (arith, words, low)) (inl low) (unentered_front i low)) in
        record {
          has_header = record {
            has_shape = record { shape = may.has.was.has_header.has_shape.shape; size = may.has.was.has_header.has_shape.size ∙ ap (λ (n : ℕ). 8 * n) (sym long) };
            header_in = subst (λ (ws : List ℕ). IsHeaderIn ws header) (sym same) may.has.was.has_header.header_in;
          };
          fits = may.has.was.fits;
          no_log_fault = no_fault b w steps keep image leaves targets some;
          holds = (holds_left b header before now all may w steps keep image leaves some).pool;
        }

  -- at the log's end the words are such an image
  module _ (w : View) (steps : List Step) (alone : IsAlone b) (publishes : Publishes b steps w) (ended : w.log.phase ≡ Idle) where
    nothing_undrained : w.changes ≡ []
    nothing_undrained = drained b w steps may.seal alone publishes ended

    leaves_words : LeavesSealed b steps w 1 w.words
    leaves_words = record {
      may = may.seal;
      alone = alone;
      publishes = publishes;
      left = subst (λ (cs : List Change). IsKeptImage 1 w.words (cs ∷ []) w.words) (sym nothing_undrained) (record { size = refl; each = λ i low. refl });
    }

    stands_image : HoldsImage w.words b.lanes b.zones header (all_pool_published b.lanes all now)
    stands_image = holds_image w steps 1 w.words leaves_words (decides b w steps 1 w.words leaves_words (ap is_decided ended))

pub nothing_left : (b w : View) (header : Header) (before now : PoolView) (all : List Published) (steps : List Step) (keep : ℕ) (image : List ℕ) → MayPublish b header before now all → LeavesSealed b steps w keep image → has_nothing image b ≡ true
    → HoldsImage image b.lanes b.zones header before × IsMeaning image before
nothing_left b w header before now all steps keep image may leaves none =
    let holds = was_left b header before now all may w steps keep image leaves none in (holds, means image b.lanes b.zones header before holds)

pub all_left : (b w : View) (header : Header) (before now : PoolView) (all : List Published) (steps : List Step) (keep : ℕ) (image : List ℕ) → MayPublish b header before now all → LeavesSealed b steps w keep image → has_nothing image b ≡ false
    → HoldsImage image b.lanes b.zones header (all_pool_published b.lanes all now) × IsMeaning image (all_pool_published b.lanes all now)
all_left b w header before now all steps keep image may leaves some =
    let holds = holds_image b header before now all may w steps keep image leaves some in (holds, means image b.lanes b.zones header (all_pool_published b.lanes all now) holds)

pub image_stands : (b w : View) (header : Header) (before now : PoolView) (all : List Published) (steps : List Step) → MayPublish b header before now all → IsAlone b → Publishes b steps w → w.log.phase ≡ Idle
    → HoldsImage w.words b.lanes b.zones header (all_pool_published b.lanes all now)
image_stands b w header before now all steps may alone publishes ended = stands_image b header before now all may w steps alone publishes ended
