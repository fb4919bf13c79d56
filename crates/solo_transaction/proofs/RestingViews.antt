-- What a lane has reserved where its call is over: its view as the next call begins, and that what stood as the call was told stands there, in blocks that the lane reserved.
use Rattle.std.proofs.Common.{◌≡◌, ⊎_elim, inl, inr, ℕ, ◌+◌, ◌*◌, ◌<◌, ◌||◌, Bool, true, false, cond, All, Contains, List, [], ◌∷◌, ◌++◌, length, map, set, slice_index, refl, sym, ap, ◌∙◌, subst, arith}
use Rattle.std.specs.List.{list_any}
use Rattle.std.proofs.lemmas.Bool.{cond-false, false≢true, or_right}
use Rattle.std.proofs.lemmas.List.{set-get_or}
use Rattle.std.proofs.lemmas.List.Elements.{All-contains_itself, All-map, All-weaker}
use Rattle.pm_image.proofs.Members.{member_cases}
use Rattle.pm_image.specs.Blocks.{descriptor_word}
use Rattle.pm_image.specs.Reads.{ReadsBlock}
use Rattle.pm_layout.specs.Sizes.{blocks_of}
use Rattle.solo_model.specs.Actions.{Pending, Reservation, none_pending}
use Rattle.solo_view.specs.declared.occ.Occ.TheVariants.{Zone}
use Rattle.solo_view.specs.Area.{area_word, is_in_area}
use Rattle.solo_view.specs.Blocks.{allocation_word, block_at, is_word}
use Rattle.solo_view.specs.Held.{is_held, is_reserved, is_under}
use Rattle.solo_view.specs.Log.{Log, Phase}
use Rattle.solo_view.specs.Log.Phase.{Idle}
use Rattle.solo_view.specs.Steps.Step.{Load, NumberSeen}
use Rattle.solo_view.specs.View.{Lock, View}
use Rattle.solo_view.specs.Views.{after, begun, reserves, with_block, with_seen}
use Rattle.solo_undo.proofs.Areas.{area_tells_nothing, generation_in_area}
use Rattle.solo_lock.specs.Resting.{IsFresh}
use Rattle.solo_crash.specs.CallBlocks.{IsMadeIn, NewObject, block_of, reserved_object}
use Rattle.solo_crash.specs.HeapChanges.{run_at}
use Rattle.solo_crash.specs.NewObjects.{block_of_chunks, block_of_run}
use Rattle.solo_crash.specs.Pending.{pending_before, pending_from, pending_in}
use Rattle.solo_crash.specs.Reserved.{IsReservedFor, IsReservedInChunks, IsReservedInRun}
use Rattle.solo_crash.specs.Reserving.{HasReserved, RestsBehind, block_reserved}
use Rattle.solo_crash.proofs.PendingOn.{calls_further, same_before}
use Rattle.solo_crash.proofs.ReservedOn.{lies_within}
use Rattle.solo_crash.proofs.ReservedStays.{pending_at_rest, rest_stays}
use Rattle.solo_epoch.specs.Reserving.{with_next_call}
use Rattle.solo_epoch.proofs.NextCalls.{known_then, known_there}
use Rattle.solo_transaction.proofs.NewWords.{IsInBlock, may_fill}
use Rattle.solo_transaction.specs.AtWork.{LiesInReserved}
use Rattle.solo_transaction.specs.Resting.{StandsAtRest}

-- ---- the view as the next call begins

-- it is as at rest but for that call, of which nothing is told, and the look at the generation
pub record NextOf (v x : View) : Type 0 where
  pub lanes : x.lanes ≡ v.lanes
  pub zones : x.zones ≡ v.zones
  pub lane : x.lane ≡ v.lane
  pub words : x.words ≡ v.words
  pub locks : x.locks ≡ v.locks
  pub reserved : x.reserved ≡ v.reserved
  pub entries : x.entries ≡ v.entries
  pub call : x.call ≡ []
  pub known : x.known ≡ known_then v

module _ (v : View) (inside : v.lane < v.lanes) where
  abbrev g : ℕ
  g = area_word v.lane

  abbrev words_set : List ℕ
  words_set = set v.words g (slice_index v.words g)

  words_same : words_set ≡ v.words
  words_same = set-get_or v.words g 0

  -- the generation's word tells of no block
  one_same : (l : Lock) → with_block v.lanes words_set g l ≡ l
  one_same l = cond-false (is_word (allocation_word v.lanes words_set l.line) g) (record l { block = block_at v.lanes words_set l.line }) l (area_tells_nothing v.lanes v.lane g l.line words_set inside (generation_in_area v.lane))

  locks_same : (locks : List Lock) → map (with_block v.lanes words_set g) locks ≡ locks
  locks_same [] = refl
  locks_same (l ∷ locks) = (λ j. one_same l j ∷ locks_same locks j)

  abbrev with_log : Log → View
  with_log log = record v { log = log }

  abbrev looked : View
  looked = after v (Load g (slice_index v.words g))

  -- wherever nothing of the call is told
  pub next_of_untold : (with_next_call v).call ≡ [] → NextOf v (with_next_call v)
  next_of_untold = by v.log.phase where
    by : (phase : Phase) → (with_seen (NumberSeen (length v.entries)) (begun phase looked)).call ≡ [] → NextOf v (with_seen (NumberSeen (length v.entries)) (begun phase looked))
    by Idle untold = record { lanes = refl; zones = refl; lane = refl; words = words_same; locks = locks_same v.locks; reserved = refl; entries = refl; call = untold; known = refl }
    by phase untold = record { lanes = refl; zones = refl; lane = refl; words = words_same; locks = locks_same v.locks; reserved = refl; entries = refl; call = untold; known = refl }

  -- no call was open, or one in which nothing was done
  pub next_of : IsFresh v → NextOf v (with_next_call v)
  next_of (inl idle) = next_of_untold (ap (λ (log : Log). (with_next_call (with_log log)).call) idle)
  next_of (inr open_call) = next_of_untold (ap (λ (log : Log). (with_next_call (with_log log)).call) open_call.0 ∙ open_call.2)

-- of what it knows then, but for its own area, it knew each word before
known_before : (v : View) (i : ℕ) → is_in_area v.lane i ≡ false → Contains (known_then v) i → Contains v.known i
known_before v i outside = by (is_held v (area_word v.lane)) where
  by : (more : Bool) → Contains (cond more (area_word v.lane ∷ v.known) v.known) i → Contains v.known i
  by true there = ⊎_elim
      (λ (here : area_word v.lane ≡ i). absurd (false≢true (sym outside ∙ (ap (is_in_area v.lane) (sym here) ∙ generation_in_area v.lane))))
      (λ (before : Contains v.known i). before)
      (member_cases (area_word v.lane) v.known i there)
  by false there = there

module _ (v x : View) (next : NextOf v x) where
  pub next_known : (i : ℕ) → Contains v.known i → Contains x.known i
  next_known i there = subst (λ (known : List ℕ). Contains known i) (sym next.known) (known_there v i there)

  pub knew_before : (i : ℕ) → is_in_area v.lane i ≡ false → Contains x.known i → Contains v.known i
  knew_before i outside there = known_before v i outside (subst (λ (known : List ℕ). Contains known i) next.known there)

  pub next_word : (i : ℕ) → slice_index x.words i ≡ slice_index v.words i
  next_word i = ap (λ (words : List ℕ). slice_index words i) next.words

  -- what was pending before is pending then
  pub next_pending : pending_in x ≡ pending_before v
  next_pending = pending_at_rest x next.call ∙ same_before v x next.entries

-- ---- the words of what is reserved

-- each of them is one of its block
pub read_in_block : (v : View) (n : NewObject) → IsMadeIn v n → (i : ℕ) → ReadsBlock (slice_index v.words) (block_of n) i → IsInBlock n i
read_in_block v n is i reads =
    let lies = lies_within v n i is reads in
    let from = lies.0 in let to = lies.1 in let behind = is.behind in let aligned = is.aligned in
    record { from = omega (arith, from, behind, aligned); to = omega (arith, to, behind, aligned) }

-- ---- from where the call is told to where it is over

-- The call that was told in the first view drew its number, and is over in the second: the lane holds the locks that it held. It knows the words of what is
-- reserved, none of which changed, and has it in blocks that it reserved.
pub record LeavesStanding (u y : View) : Type 0 where
  pub lanes : y.lanes ≡ u.lanes
  pub zones : y.zones ≡ u.zones
  pub lane : y.lane ≡ u.lane
  pub fresh : IsFresh y
  pub number : ℕ
  pub entries : y.entries ≡ u.entries ++ record { number = number; call = u.call } ∷ []
  pub locks : y.locks ≡ u.locks
  pub known : (r : Reservation) (i : ℕ) → Contains (pending_in u).reserved r → ReadsBlock (slice_index u.words) (block_reserved r) i → Contains y.known i
  pub words : (r : Reservation) (i : ℕ) → Contains (pending_in u).reserved r → ReadsBlock (slice_index u.words) (block_reserved r) i → slice_index y.words i ≡ slice_index u.words i
  pub within : (r : Reservation) → Contains (pending_in u).reserved r → LiesInReserved y (reserved_object r)

-- what holds of each reservation holds of the objects that these are to become
pub all_reserved : (P : NewObject → Type 0) (rs : List Reservation) → ((r : Reservation) → Contains rs r → P (reserved_object r)) → All P (map reserved_object rs)
all_reserved P rs each = All-map P reserved_object rs (All-weaker (Contains rs) (λ (r : Reservation). P (reserved_object r)) each rs (All-contains_itself rs))

module _ (u y : View) (inside : y.lane < y.lanes) (has : HasReserved u) (left : LeavesStanding u y) where
  abbrev x : View
  x = with_next_call y

  next : NextOf y x
  next = next_of y inside left.fresh

  behind : RestsBehind u x
  behind = record {
    lanes = next.lanes ∙ left.lanes;
    zones = next.zones ∙ left.zones;
    lane = next.lane ∙ left.lane;
    known = λ r i there reads. next_known y x next i (left.known r i there reads);
    number = left.number;
    entries = next.entries ∙ left.entries;
    call = next.call;
    locks = λ l held. subst (λ (ls : List Lock). Contains ls l) (next.locks ∙ left.locks) held;
    words = λ r i there reads. next_word y x next i ∙ left.words r i there reads;
  }

  pending_over : pending_before y ≡ pending_in u
  pending_over = ap (pending_from none_pending) left.entries ∙ calls_further none_pending u.entries (record { number = left.number; call = u.call })

  pub left_rests : StandsAtRest y
  left_rests = record {
    stands = rest_stays u x has behind;
    within = subst (λ (p : Pending). All (LiesInReserved y) (map reserved_object p.reserved)) (sym pending_over) (all_reserved (LiesInReserved y) (pending_in u).reserved left.within);
  }

-- ---- in blocks that it reserved

-- an object lies in what the lane reserved still, where each chunk of its block is described as it was, and the block's bits are reserved still
pub lies_by : (v w : View) (n : NewObject) → w.lanes ≡ v.lanes → w.zones ≡ v.zones
    → ((run : IsReservedInRun v n) → run.index < blocks_of run.lines → (slice_index w.words (descriptor_word v.lanes run.chunk) ≡ slice_index v.words (descriptor_word v.lanes run.chunk)) × (reserves w (run_at v.lanes run.chunk) run.index ≡ true))
    → ((its : IsReservedInChunks v n) (j : ℕ) → j < its.count
    → (slice_index w.words (descriptor_word v.lanes (64 * its.zone + (its.first + j))) ≡ slice_index v.words (descriptor_word v.lanes (64 * its.zone + (its.first + j)))) × (reserves w (Zone its.zone) (its.first + j) ≡ true))
    → LiesInReserved v n → LiesInReserved w n
lies_by v w n lanes zones of_run of_chunks (inl (run, inside)) =
    let t = of_run run inside in
    let in_pool = run.in_pool in
    inl (
      record {
        chunk = run.chunk;
        lines = run.lines;
        index = run.index;
        in_pool = omega (arith, in_pool, zones);
        low = run.low;
        described = ap (λ (m : ℕ). slice_index w.words (descriptor_word m run.chunk)) lanes ∙ (t.0 ∙ run.described);
        reserved = ap (λ (m : ℕ). reserves w (run_at m run.chunk) run.index) lanes ∙ t.1;
        is_block = run.is_block ∙ ap (λ (m : ℕ). block_of_run m run.chunk run.lines run.index) (sym lanes);
      },
      inside,
    )
lies_by v w n lanes zones of_run of_chunks (inr its) =
    let in_pool = its.in_pool in
    inr (record {
      zone = its.zone;
      first = its.first;
      count = its.count;
      in_pool = omega (arith, in_pool, zones);
      low = its.low;
      fits = its.fits;
      unused = λ j near.
          let t = of_chunks its j near in
          record { reserved = t.1; undescribed = ap (λ (m : ℕ). slice_index w.words (descriptor_word m (64 * its.zone + (its.first + j)))) lanes ∙ (t.0 ∙ (its.unused j near).undescribed) };
      is_block = its.is_block ∙ ap (λ (m : ℕ). block_of_chunks m (64 * its.zone + its.first) its.count) (sym lanes);
    })

-- it has been reserved for, and the lane holds each word of its block
pub lies_for : (v : View) (n : NewObject) → LiesInReserved v n → IsReservedFor v n
lies_for v n (inl run) = inl run.0
lies_for v n (inr its) = inr its

pub lies_held : (v : View) (n : NewObject) → LiesInReserved v n → (i : ℕ) → IsInBlock n i → is_held v i ≡ true
lies_held v n lies i word = or_right (is_in_area v.lane i || list_any (is_under i) v.locks) (is_reserved v i) (may_fill v n lies i word).reserved
