-- What a pool is left as by lanes that came back: their run began on the words that recovery made
-- of an image that means a pool, so the laws of runs hold of it.
use Rattle.std.proofs.Common.{◌≡◌, ℕ, zero, suc, ◌<◌, ◌≤◌, ◌==◌, Bool, true, false, cond}
use Rattle.std.proofs.Common.{List, [], ◌∷◌, Contains, length, slice_index, Some}
use Rattle.std.proofs.Common.{get_or, refl, sym, ap, ◌∙◌, subst, arith}
use Rattle.std.proofs.lemmas.Bool.{eqb-true, or_left}
use mathlib.Core.Option.{some}
use lib.ListN.{get_elem?}
use Rattle.pm_image.specs.HeapFaults.{heap_fault}
use Rattle.pm_image.specs.LogFaults.{log_fault}
use Rattle.pm_image.specs.Logs.{recovered_at}
use Rattle.pm_image.specs.Means.{HasHeader, IsHeaderOf, IsMeaning}
use Rattle.pm_image.proofs.FaultFree.{neither}
use Rattle.pm_memory.specs.Changes.{AreUndrained}
use Rattle.pm_memory.proofs.Imaging.{kept_survives}
use Rattle.pm_objects.specs.declared.pool.PoolView.{PoolView}
use Rattle.pm_recover.proofs.Meaning.{as_they_stand, clean_logs, meaning_kept}
use Rattle.pm_recover.proofs.Sound.{sound_if_meaning}
use Rattle.pm_view.specs.declared.change.Change.{Change}
use Rattle.pm_view.specs.Log.{is_early}
use Rattle.pm_view.specs.View.{Numbered, View, entry_drawn}
use Rattle.pm_world.specs.Crash.{is_decided_in}
use Rattle.pm_world.specs.Runs.{Moment}
use Rattle.pm_world.specs.World.{Opening, Past, Views, numbered_by}
use Rattle.pm_world.proofs.SoloWorlds.{survivors_are}
use Rattle.pm_crash.specs.Described.{MemoryHasClasses}
use Rattle.pm_crash.specs.Facts.{HaveFacts}
use Rattle.pm_crash.specs.Fates.{AwaitsOne, EndsOpen}
use Rattle.pm_crash.specs.Footprints.{Footprints}
use Rattle.pm_crash.specs.Held.{HoldsPool}
use Rattle.pm_crash.specs.Images.{OpensPool}
use Rattle.pm_crash.specs.Replayed.{HasFacts, HoldsReplay}
use Rattle.pm_crash.proofs.EntryFacts as entries
use Rattle.pm_crash.proofs.ImageMeans as images
use Rattle.pm_crash.proofs.Onward as onward
use Rattle.pm_crash.proofs.OpenCalls as fates
use Rattle.pm_crash.proofs.Replaying as replaying
use Rattle.pm_crash.proofs.RunClasses as classes
use Rattle.pm_shared.specs.Closings.{Closes}
use Rattle.pm_shared.specs.declared.rule.Beginning.{Beginning}
use Rattle.pm_shared.specs.Openings.{opening_of}
use Rattle.pm_lanes.specs.Closed.{AllAreBack, AllHaveFacts, AnsweredCallsAreKept}
use Rattle.pm_lanes.specs.Closed.{ClosedPoolsHaveFacts, ClosedPoolsMeanTheirHistories}
use Rattle.pm_lanes.specs.Closed.{ClosedPoolsReplay, EntriesAreCalls, IsCallOf, KeptImagesSurvive}
use Rattle.pm_lanes.specs.Closed.{OpenCallsAreJudged, OtherCallsAreKept, keeps_call}
use Rattle.pm_lanes.specs.Opens.{IsOpened}

-- ---- THE OPENING'S WORDS hold the pool that the image meant

module _ (before layout : List ℕ) (b : Beginning)
    (opened : IsOpened before layout b.words.items b.shape b.pool) where
  pub again : IsMeaning b.words.items opened.pool
  again = meaning_kept before b.words.items opened.pool opened.means opened.recovered

  lanes_are : b.shape.lanes ≡ again.lanes
  lanes_are = opened.of_lanes ∙ ap (λ (p : PoolView). p.lanes) again.is_pool

  zones_are : b.shape.zones ≡ again.zones
  zones_are = opened.of_zones ∙ ap (λ (p : PoolView). p.zones) again.is_pool

  pub id_is : b.pool ≡ again.header.id
  id_is = opened.of_id ∙ ap (λ (p : PoolView). p.id) again.is_pool

  stand : (i : ℕ) → recovered_at b.words.items again.lanes i ≡ slice_index b.words.items i
  stand i = subst (λ n. recovered_at b.words.items n i ≡ slice_index b.words.items i)
      (ap (λ (p : PoolView). p.lanes) again.is_pool)
      (as_they_stand b.words.items opened.pool.lanes i
      (clean_logs before b.words.items opened.pool.lanes
      (sound_if_meaning before opened.pool opened.means) opened.recovered))

  held : HoldsPool (slice_index b.words.items) again.lanes again.zones again.header opened.pool
  held = subst (λ (w : ℕ → ℕ). HoldsPool w again.lanes again.zones again.header opened.pool)
      (λ j i. stand i j)
      record {
        no_fault = (neither (log_fault b.words.items again.lanes again.zones)
            (heap_fault (recovered_at b.words.items again.lanes) again.lanes again.zones)
            again.no_fault).1;
        is_pool = again.is_pool;
      }

  -- what is so of the meaning's shape is so of the beginning's
  in_shape : (P : ℕ → ℕ → Type 0) → P again.lanes again.zones → P b.shape.lanes b.shape.zones
  in_shape P p = subst (λ n. P n b.shape.zones) (sym lanes_are)
      (subst (λ n. P again.lanes n) (sym zones_are) p)

  pub opens : OpensPool (opening_of b) again.header opened.pool
  opens = record {
    has_header = in_shape (λ l z. HasHeader b.words.items l z again.header) again.has_header;
    fits = in_shape (λ l z. IsHeaderOf l z again.header) again.fits;
    holds =
        in_shape (λ l z. HoldsPool (slice_index b.words.items) l z again.header opened.pool) held;
  }

-- ---- THE RUN TO THE END

module _ (b : Beginning) (back : List View) (words : List ℕ) (closed : Closes b back words) where
  abbrev o : Opening
  o = opening_of b

  abbrev first : Moment
  first = closed.run.begun

  abbrev last : Moment
  last = closed.last

  described : MemoryHasClasses o last.mem
  described = classes.runs o closed.run.turns first last closed.run.begins.world closed.run.run
      (classes.begins o first.mem closed.run.begins.whole closed.run.begins.words_are)

  pub footprints : (id : ℕ) → b.pool ≡ id → Footprints o id last.views last.past
  footprints id is =
      let same = closed.run.begins.views_are in
      onward.runs o id closed.run.turns first last closed.run.begins.world closed.run.run
      (onward.begins o first.mem first.views first.past id closed.run.begins.world
      closed.run.begins.no_call closed.run.begins.words_are
      (λ k l. ap (λ (vs : Views). (vs k).fixed.pool) same ∙ is)
      (λ k l.
      (ap (λ (vs : Views). (vs k).claims) same, ap (λ (vs : Views). (vs k).log.entries) same)))

  awaits : (k : ℕ) → AwaitsOne (last.views k)
  awaits = fates.runs o closed.run.turns first last closed.run.run
      (λ k. subst AwaitsOne (sym (ap (λ (vs : Views). vs k) closed.run.begins.views_are)) tt)

  -- what is so of each view that came back is so of each lane's view
  pub of_lanes : (P : View → Type 0) → AllAreBack b.lanes back
      → ((n : ℕ) (v : View) → get_elem? back n ≡ some v → P v)
      → (k : ℕ) → k < b.lanes → P (last.views k)
  of_lanes P all each k l =
      let is = all k l in
      let own = closed.lanes is.place is.view is.there in
      subst (λ j. P (last.views j)) is.lane_is
      (subst P (sym own.1) (each is.place is.view is.there))

  pub facts : (id : ℕ) → b.pool ≡ id → AllAreBack b.lanes back → AllHaveFacts back
      → HasFacts last.past
  facts id is all each = entries.histories_have_facts o id last.mem last.views last.past
      closed.world (footprints id is) (of_lanes HaveFacts all each)

pub means : ClosedPoolsMeanTheirHistories
means before layout words image b back opened closed all facts_of survives none =
    images.images (opening_of b) closed.last.mem closed.last.views closed.last.past
    (again before layout b opened).header opened.pool image closed.world
    (footprints b back words closed (again before layout b opened).header.id
    (id_is before layout b opened))
    (described b back words closed)
    (facts b back words closed (again before layout b opened).header.id
    (id_is before layout b opened) all facts_of)
    (opens before layout b opened) survives none

pub replays : ClosedPoolsReplay
replays before layout words image b back opened closed all facts_of =
    let held : HoldsReplay (opening_of b) closed.last.past (keeps_call b closed.last image)
    closed.last.past.length (again before layout b opened).header opened.pool =
    replaying.history_holds (opening_of b) closed.last.views closed.last.past
    (again before layout b opened).header opened.pool
    (footprints b back words closed (again before layout b opened).header.id
    (id_is before layout b opened))
    (facts b back words closed (again before layout b opened).header.id
    (id_is before layout b opened) all facts_of)
    (opens before layout b opened) (keeps_call b closed.last image)
    (λ n l e. or_left (closed.last.past.decided n)
    (is_decided_in image closed.last.views (opening_of b).lanes n) e)
    closed.last.past.length (omega arith) in
    (held.last, held.replay)

pub have_facts : ClosedPoolsHaveFacts
have_facts b back words closed all each = facts b back words closed b.pool refl all each

pub answered : AnsweredCallsAreKept
answered b back words image n v closed there early call inside of_lane =
    let own = closed.lanes n v there in
    images.answered (opening_of b) closed.last.mem closed.last.views closed.last.past image
    closed.world call inside
    (subst (λ (u : View). is_early u.log.phase ≡ true)
    (sym (ap closed.last.views of_lane ∙ own.1)) early)

-- ---- WHAT A KEEP NUMBER LEAVES

-- an item that is there is the same by any default
same_item : (lists : List (List Change)) (k : ℕ) (d e : List Change) → k < length lists
    → get_or lists k d ≡ get_or lists k e
same_item [] k d e l = absurd (omega (arith, l))
same_item (x ∷ xs) zero d e l = refl
same_item (x ∷ xs) (suc k) d e l = same_item xs k d e (omega arith)

pub kept : KeptImagesSurvive
kept b back words image undrained keep closed with_ few is =
    survivors_are (opening_of b) closed.last.mem closed.last.views words image undrained
    (closed.size ∙ sym closed.world.size) few
    (λ w l. sym (closed.words_are w (let s = closed.size in omega (arith, l, s))))
    record { each = each; formed = with_.formed }
    (kept_survives keep words undrained image is)
  where
    each : (k : ℕ) (d : List Change) → k < length undrained
        → AreUndrained (get_or undrained k d) (closed.last.views k).changes
    each k d l =
        let at = with_.all k l in
        let own = closed.lanes at.place at.view at.there in
        let here = with_.each at.place at.view at.there in
        subst (λ (cs : List Change). AreUndrained cs (closed.last.views k).changes)
        (same_item undrained k [] d l)
        (subst (λ j. AreUndrained (get_or undrained j []) (closed.last.views j).changes)
        at.lane_is
        (subst (λ (u : View).
        AreUndrained (get_or undrained at.view.fixed.lane []) u.changes) (sym own.1) here))

-- ---- THE FATES OF CALLS

-- the entries of a lane are its calls
module _ (past : Past) (lane : ℕ) where
  one_of : (m : ℕ) (b : Bool) → (past.drew m).fixed.lane == lane ≡ b → m < past.length
      → (e : Numbered) → (Contains (numbered_by lane past.drew m) e → IsCallOf past lane e)
      → Contains (cond b (entry_drawn m (past.drew m) ∷ numbered_by lane past.drew m)
      (numbered_by lane past.drew m)) e → IsCallOf past lane e
  one_of m false is l e earlier there = earlier there
  one_of m true is l e earlier (zero, low, here) = record {
    call = m;
    inside = l;
    of_lane = eqb-true (past.drew m).fixed.lane lane is;
    is = sym here;
  }
  one_of m true is l e earlier (suc i, low, there) = earlier (i, omega (arith, low), there)

  entry_is : (m : ℕ) → m ≤ past.length → (e : Numbered)
      → Contains (numbered_by lane past.drew m) e → IsCallOf past lane e
  entry_is zero l e there = absurd (let low = there.1 in omega (arith, low))
  entry_is (suc m) l e there =
      one_of m ((past.drew m).fixed.lane == lane) refl (omega (arith, l)) e
      (entry_is m (omega (arith, l)) e) there

pub entries_are : EntriesAreCalls
entries_are b back words n v e closed there among =
    let own = closed.lanes n v there in
    entry_is closed.last.past v.fixed.lane closed.last.past.length (omega arith) e
    (subst (λ (es : List Numbered). Contains es e)
    (ap (λ (u : View). u.entries) (sym own.1)
    ∙ (closed.world.each_lane v.fixed.lane own.0).entries) among)

pub others : OtherCallsAreKept
others b back words image n v number call closed there ends inside of_lane ne =
    let own = closed.lanes n v there in
    fates.others (opening_of b) closed.last.mem closed.last.views closed.last.past image number
    call closed.world inside
    (subst (EndsOpen number) (sym (ap closed.last.views of_lane ∙ own.1)) ends) ne

pub judges : OpenCallsAreJudged
judges b back words image undrained n v call closed with_ survives there ends inside of_lane =
    let own = closed.lanes n v there in
    fates.judges (opening_of b) closed.last.mem closed.last.views closed.last.past image words
    (get_or undrained v.fixed.lane []) v.fixed.lane call closed.world
    (awaits b back words closed v.fixed.lane)
    survives closed.words_are
    (subst (λ (u : View). AreUndrained (get_or undrained v.fixed.lane []) u.changes) (sym own.1)
    (with_.each n v there))
    inside of_lane (subst (EndsOpen (Some (suc call))) (sym own.1) ends)
