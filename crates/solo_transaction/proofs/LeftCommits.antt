-- What a power failure leaves of a call that drew its number and publishes: the calls that it does not lose; and the words tell whether it loses this one.
use Rattle.std.proofs.Common.{◌≡◌, ℕ, ◌<◌, ◌&&◌, eqb, List, [], ◌∷◌, length, slice_index, refl, sym, ap, ◌∙◌, subst}
use Rattle.pm_header.specs.declared.header.Header.{Header}
use Rattle.pm_image.specs.Logs.{generation_word, seal_word}
use Rattle.solo_memory.specs.Keep.{IsKeptImage}
use Rattle.pm_objects.specs.declared.pool.PoolView.{PoolView}
use Rattle.solo_view.specs.declared.change.Change.{Change}
use Rattle.solo_view.specs.Steps.Step.{Draw}
use Rattle.solo_view.specs.View.{View}
use Rattle.solo_view.specs.Views.{after}
use Rattle.solo_world.specs.Crash.{loses}
use Rattle.solo_world.specs.Opening.{Opening}
use Rattle.solo_world.specs.Records.{generation_of}
use Rattle.solo_crash.specs.Alone.{MeansCalls, kept_numbered}
use Rattle.solo_epoch.proofs.LeftCalls.{calls_meant, same_length, same_page}
use Rattle.solo_epoch.proofs.PublishingCalls.{alone, fits, heap, may}
use Rattle.solo_sealed.proofs.LeftImages.{loses_nothing_of}
use Rattle.solo_sealed.specs.Sealed.{LeavesSealed}
use Rattle.solo_transaction.specs.Published.{HasDrawn}

module _ (o : Opening) (header : Header) (pool : PoolView) (n : ℕ) (w : View) (has : HasDrawn o header pool n w) where
  abbrev u : View
  u = has.drawn

  module _ (keep : ℕ) (image : List ℕ) (is : IsKeptImage keep w.words (w.changes ∷ []) image) where
    leaves : LeavesSealed (after u (Draw n)) has.publishing.log_steps w keep image
    leaves = record {
      may = (may o header pool u n has.all w has.publishing).seal;
      alone = alone o header pool u n has.all w has.publishing;
      publishes = has.publishing.publishes;
      left = is;
    }

    -- it is lost where the image has nothing of it, and the lane is lane 0
    pub drawn_lost : loses image w n ≡ (eqb (seal_word image 0) 0 && eqb (generation_word image 0) (generation_of u))
    drawn_lost =
        loses_nothing_of (after u (Draw n)) w has.publishing.log_steps keep image leaves n (heap o header pool u n has.all w has.publishing).number
        ∙ ap (λ (lane : ℕ). eqb (seal_word image lane) 0 && eqb (generation_word image lane) (generation_of u)) (fits o header pool u n has.all w has.publishing).lane.lane

    pub drawn_meant : MeansCalls image o.lanes o.zones pool (kept_numbered image w)
    drawn_meant = calls_meant o header pool u n has.all w has.publishing keep image is

    pub drawn_page : (i : ℕ) → i < 512 → slice_index image i ≡ slice_index o.words i
    drawn_page = same_page o header pool u n has.all w has.publishing keep image is

    pub drawn_size : length image ≡ length o.words
    drawn_size = same_length o header pool u n has.all w has.publishing keep image is

  -- with nothing undrained the words are an image
  pub settled_page : w.changes ≡ [] → (i : ℕ) → i < 512 → slice_index w.words i ≡ slice_index o.words i
  settled_page drained = drawn_page 1 w.words (subst (λ (cs : List Change). IsKeptImage 1 w.words (cs ∷ []) w.words) (sym drained) (record { size = refl; each = λ i low. refl }))
