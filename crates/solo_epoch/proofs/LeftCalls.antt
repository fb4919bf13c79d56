-- What a power failure leaves while a lane alone publishes its committed call, and behind that, means the pool to which the calls lead that it does not lose.
use Rattle.std.proofs.Common.{◌≡◌, ⊎_elim, inl, inr, ℕ, zero, suc, ◌+◌, ◌<◌, ◌≤◌, Bool, true, false, not, cond, List, [], ◌∷◌, ◌++◌, drop, filter, length, length-append, slice_index, Some, refl, sym, ap, ◌∙◌, subst, arith}
use Rattle.std.proofs.lemmas.Bool.{cases_Bool, cond-false, cond-true}
use Rattle.std.proofs.lemmas.List.{append-nil, ext_get_or}
use Rattle.std.proofs.lemmas.List.Elements.{filter-append}
use Rattle.std.proofs.lemmas.Option.{same_Some}
use Rattle.std.proofs.lemmas.Simd.{map-map}
use Rattle.pm_header.specs.declared.header.Header.{Header}
use Rattle.pm_objects.specs.Pool.{offsets}
use Rattle.pm_objects.specs.declared.pool.PoolView.{PoolView}
use Rattle.pm_image.specs.declared.block.Block.{Block}
use Rattle.pm_image.specs.Blocks.{blocks}
use Rattle.pm_image.specs.Contents.{object_in, objects_in, offset_in}
use Rattle.pm_image.specs.Logs.{recovered_at}
use Rattle.solo_memory.specs.Keep.{IsKeptImage, kept}
use Rattle.solo_memory.specs.Solo.{AreNumbered}
use Rattle.solo_model.specs.History.{opened}
use Rattle.solo_model.specs.Names.{Replays}
use Rattle.solo_view.specs.declared.change.Change.{Change}
use Rattle.solo_view.specs.Steps.Step.{Draw}
use Rattle.solo_view.specs.Survivors.{all_taken_back}
use Rattle.solo_view.specs.View.{Numbered, View}
use Rattle.solo_view.specs.Views.{after}
use Rattle.solo_world.specs.Crash.{loses}
use Rattle.solo_world.specs.Opening.{Opening}
use Rattle.solo_crash.specs.Alone.{MeansCalls, kept_numbered}
use Rattle.solo_crash.specs.Held.{HoldsImage}
use Rattle.solo_crash.specs.Pending.{acts_alone, state_alone}
use Rattle.solo_crash.specs.Publishing.{Published, all_pool_published}
use Rattle.solo_crash.proofs.AloneImages.{ended_stays, header_stays, size_stays}
use Rattle.solo_crash.proofs.Continued.{two_same}
use Rattle.solo_sealed.specs.Sealed.{LeavesSealed, has_nothing}
use Rattle.solo_sealed.proofs.LeftImages.{loses_nothing_of, same_size}
use Rattle.solo_sealed.proofs.NoFaults.{beside}
use Rattle.solo_epoch.specs.Epochs.{HasEnded, IsPublishing, MayPublish}
use Rattle.solo_epoch.proofs.PublishedImages.{all_left, means, nothing_left, unentered_front}
use Rattle.solo_epoch.proofs.PublishingCalls.{alone, base, before, drawn_drained, entries, fits, heap, held, led, may, newest}

-- an image that holds a pool to which some calls lead means them
means_calls : (image : List ℕ) (lanes zones : ℕ) (header : Header) (pool last : PoolView) (calls : List Numbered) → HoldsImage image lanes zones header last
    → Replays (opened pool) (acts_alone calls) (state_alone last calls) → MeansCalls image lanes zones pool calls
unfolding objects_in
means_calls image lanes zones header pool last calls holds replays =
    let bs : List Block = blocks (recovered_at image lanes) lanes zones in
    record {
      last = last;
      replays = replays;
      means = means image lanes zones header last holds;
      blocks_are = sym (ap (λ (p : PoolView). offsets p.objects) holds.holds.is_pool ∙ map-map (λ entry. entry.0) (λ (b : Block). (offset_in b, object_in (recovered_at image lanes) (length bs) b)) bs);
    }

module _ (o : Opening) (header : Header) (pool : PoolView) (u : View) (n : ℕ) (all : List Published) (w : View) (call : IsPublishing o header pool u n all w) (keep : ℕ) (image : List ℕ)
    (is : IsKeptImage keep w.words (w.changes ∷ []) image) where
  abbrev b : View
  b = after u (Draw n)

  abbrev before_it : PoolView
  before_it = before o header pool u n all w call

  abbrev its_base : PoolView
  its_base = base o header pool u n all w call

  may_now : MayPublish b header before_it its_base all
  may_now = may o header pool u n all w call

  leaves : LeavesSealed b call.log_steps w keep image
  leaves = record { may = may_now.seal; alone = alone o header pool u n all w call; publishes = call.publishes; left = is }

  number : w.number ≡ Some n
  number = (heap o header pool u n all w call).number

  abbrev is_left : Numbered → Bool
  is_left e = not (loses image w e.number)

  abbrev drawn : Numbered
  drawn = record { number = n; call = u.call }

  -- no call before it is lost
  kept_front : (m : ℕ) (xs : List Numbered) → AreNumbered m xs → m + length xs ≤ n → filter is_left xs ≡ xs
  unfolding AreNumbered
  kept_front m [] numbered low = refl
  kept_front m (e ∷ xs) numbered low =
      let at = numbered.0 in
      let stays : loses image w e.number ≡ false = ended_stays w image e.number (inr (λ same. let one : n ≡ e.number = same_Some n e.number (sym number ∙ same) in omega (arith, one, at, low))) in
      cond-true (is_left e) (e ∷ filter is_left xs) (filter is_left xs) (ap not stays) ∙ ap (λ (l : List Numbered). e ∷ l) (kept_front (m + 1) xs numbered.1 (omega (arith, low)))

  front : filter is_left u.entries ≡ u.entries
  front = kept_front 1 u.entries call.works.numbered
      (let all_entries = newest o header pool u n all w call in let long = ap (λ (es : List Numbered). length es) (entries o header pool u n all w call) ∙ length-append u.entries (drawn ∷ []) in omega (arith, all_entries, long))

  calls_left : kept_numbered image w ≡ u.entries ++ cond (is_left drawn) (drawn ∷ []) []
  calls_left = ap (filter is_left) (entries o header pool u n all w call) ∙ (filter-append is_left u.entries (drawn ∷ []) ∙ ap (λ (l : List Numbered). l ++ cond (is_left drawn) (drawn ∷ []) []) front)

  here : (last : PoolView) → HoldsImage image b.lanes b.zones header last → HoldsImage image o.lanes o.zones header last
  here last = two_same (λ (a c : ℕ). HoldsImage image a c header last) u.lanes o.lanes u.zones o.zones (fits o header pool u n all w call).lane.lanes (fits o header pool u n all w call).lane.zones

  lost : loses image w n ≡ has_nothing image b
  lost = loses_nothing_of b w call.log_steps keep image leaves n number

  without : has_nothing image b ≡ true → MeansCalls image o.lanes o.zones pool (kept_numbered image w)
  without none =
      let no_more : cond (is_left drawn) (drawn ∷ []) [] ≡ [] = cond-false (is_left drawn) (drawn ∷ []) [] (ap not (lost ∙ none)) in
      subst (MeansCalls image o.lanes o.zones pool) (sym (calls_left ∙ (ap (λ (l : List Numbered). u.entries ++ l) no_more ∙ append-nil u.entries)))
      (means_calls image o.lanes o.zones header pool before_it u.entries (here before_it (nothing_left b w header before_it its_base all call.log_steps keep image may_now leaves none).0)
      (held o header pool u n all w call).held.replays)

  with_it : has_nothing image b ≡ false → MeansCalls image o.lanes o.zones pool (kept_numbered image w)
  with_it some =
      let one_more : cond (is_left drawn) (drawn ∷ []) [] ≡ drawn ∷ [] = cond-true (is_left drawn) (drawn ∷ []) [] (ap not (lost ∙ some)) in
      let lanes : b.lanes ≡ o.lanes = (fits o header pool u n all w call).lane.lanes in
      subst (MeansCalls image o.lanes o.zones pool) (sym (calls_left ∙ (ap (λ (l : List Numbered). u.entries ++ l) one_more ∙ sym (entries o header pool u n all w call))))
      (means_calls image o.lanes o.zones header pool (all_pool_published o.lanes all its_base) w.entries
      (subst (λ (k : ℕ). HoldsImage image o.lanes o.zones header (all_pool_published k all its_base)) lanes
      (here (all_pool_published b.lanes all its_base) (all_left b w header before_it its_base all call.log_steps keep image may_now leaves some).0))
      (led o header pool u n all w call))

  pub calls_meant : MeansCalls image o.lanes o.zones pool (kept_numbered image w)
  calls_meant = ⊎_elim without with_it (cases_Bool (has_nothing image b))

  -- ---- its length, and the header page

  at_draw : IsKeptImage 1 u.words (u.changes ∷ []) u.words
  at_draw = subst (λ (cs : List Change). IsKeptImage 1 u.words (cs ∷ []) u.words) (sym (drawn_drained o header pool u n all w call)) (record { size = refl; each = λ i low. refl })

  pub same_length : length image ≡ length o.words
  same_length = same_size b w call.log_steps keep image leaves ∙ size_stays o header pool call.start u call.steps call.works 1 u.words at_draw

  pub same_page : (i : ℕ) → i < 512 → slice_index image i ≡ slice_index o.words i
  same_page i low =
      let words = may_now.seal.size in
      beside b w call.log_steps keep image leaves i (omega (arith, words, low)) (inl low) (unentered_front b header before_it its_base all may_now i low)
      ∙ header_stays o header pool call.start u call.steps call.works 1 u.words at_draw i low

-- ---- behind the log's end

drop_none : (k : ℕ) → drop {A = Change} k [] ≡ []
drop_none zero = refl
drop_none (suc k) = refl

-- with nothing undrained an image is the words
pub settled_image : (v : View) (keep : ℕ) (image : List ℕ) → v.changes ≡ [] → IsKeptImage keep v.words (v.changes ∷ []) image → image ≡ v.words
settled_image v keep image drained left =
    let is : IsKeptImage keep v.words ([] ∷ []) image = subst (λ (cs : List Change). IsKeptImage keep v.words (cs ∷ []) image) drained left in
    ext_get_or 0 image v.words is.size (λ i low. let long = is.size in
    is.each i (omega (arith, low, long)) ∙ ap (λ (cs : List Change). all_taken_back cs (slice_index v.words i)) (drop_none (kept keep (length v.words) ([] ∷ []) 0 i)))

pub ended_meant : (o : Opening) (header : Header) (pool : PoolView) (v : View) (keep : ℕ) (image : List ℕ) → HasEnded o header pool v → IsKeptImage keep v.words (v.changes ∷ []) image → MeansCalls image o.lanes o.zones pool v.entries
ended_meant o header pool v keep image ended is =
    subst (λ (ws : List ℕ). MeansCalls ws o.lanes o.zones pool v.entries) (sym (settled_image v keep image ended.drained is))
    (means_calls v.words o.lanes o.zones header pool ended.now v.entries ended.holds ended.replays)
