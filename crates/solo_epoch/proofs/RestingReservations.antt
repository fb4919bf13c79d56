-- A lane alone rests behind a call outside of a transaction with what it has reserved: from the draw of the call's number on, and wherever it has each block still that is reserved.
use Rattle.std.proofs.Common.{◌≡◌, ⊎_elim, inl, inr, ℕ, ◌+◌, ◌<◌, ◌≤◌, false, All, List, [], ◌∷◌, ◌++◌, length, map, slice_index, None, Option, Some, refl, sym, ap, ◌∙◌, subst, arith}
use Rattle.std.specs.List.{list_any}
use Rattle.std.specs.Option.{ForSome}
use Rattle.std.proofs.lemmas.List.Elements.{All-nil, All-weaker}
use Rattle.pm_header.specs.declared.header.Header.{Header}
use Rattle.pm_layout.specs.declared.shape.Shape.{Shape}
use Rattle.solo_model.specs.Actions.{Pending, none_pending}
use Rattle.pm_objects.specs.declared.pool.PoolView.{PoolView}
use Rattle.solo_memory.specs.Solo.{AreNumbered}
use Rattle.solo_view.specs.declared.change.Change.{Change}
use Rattle.solo_view.specs.Area.{area_word}
use Rattle.solo_view.specs.Log.{Log, Phase, no_log}
use Rattle.solo_view.specs.Log.Phase.{Idle, Open}
use Rattle.solo_view.specs.Steps.{Step}
use Rattle.solo_view.specs.Steps.Step.{Draw, Load, NumberSeen}
use Rattle.solo_view.specs.View.{Numbered, View}
use Rattle.solo_view.specs.Views.{after, begun, changes_heap, is_of_heap}
use Rattle.solo_world.specs.Lawful.{Allowed, FilledChange, OnlyFilled, generation_limit}
use Rattle.solo_world.specs.Opening.{Opening}
use Rattle.solo_world.specs.Records.{generation_of}
use Rattle.solo_reclaim.specs.KeptBlocks.{Keeps}
use Rattle.solo_alloc.specs.NewObjects.{CanMakeObject}
use Rattle.solo_crash.specs.Alone.{WorksAlone, standing}
use Rattle.solo_crash.specs.CallBlocks.{AgreesOnRoot, AllTellOfRoot, CallBlocks, NewObject, allocated_in, allocated_told, block_of, reserved_in, reserved_object}
use Rattle.solo_crash.specs.HeldHistory.{IsEndedCall}
use Rattle.solo_crash.specs.Leading.{Leads}
use Rattle.solo_crash.specs.Pending.{pending_before, pending_from, pending_in}
use Rattle.solo_crash.specs.Reserved.{IsReservedFor, LiesFree, root_in}
use Rattle.solo_crash.specs.Reserving.{HasReserved, RestsBehind}
use Rattle.solo_crash.proofs.Leading.{leads_then}
use Rattle.solo_crash.proofs.PendingOn.{calls_further, same_before}
use Rattle.solo_crash.proofs.ReservedStays.{nothing_made, rest_stays}
use Rattle.solo_epoch.specs.Epochs.{RestsBehindCall}
use Rattle.solo_epoch.specs.Reserving.{IsAloneBetween, IsAloneOutside, RestsWithReserved, begins_next, with_next_call}
use Rattle.solo_epoch.proofs.FreeChunks.{no_run_reserved}
use Rattle.solo_epoch.proofs.NextCalls.{drawn_next, drawn_then, known_still, known_then, known_there}
use Rattle.solo_epoch.proofs.OutsideCalls.{pending_untold}
use Rattle.solo_epoch.proofs.RestingLanes.{begins_again}
use Rattle.solo_epoch.proofs.ToldViews.{can_where_so, reserved_where_so}

-- ---- what is reserved, and the block that the lane has for it

pub kept_is_reserved : (v : View) (n : NewObject) → Keeps v (block_of n) → IsReservedFor v n
kept_is_reserved v n (inl run) =
    inl (record { chunk = run.chunk; lines = run.lines; index = run.index; in_pool = run.in_pool; low = run.low; described = run.described; reserved = run.reserved; is_block = run.is_block })
kept_is_reserved v n (inr has) = inr (record { zone = has.zone; first = has.first; count = has.count; in_pool = has.in_pool; low = has.low; fits = has.fits; unused = has.unused; is_block = has.is_block })

pub reserved_is_kept : (v : View) (n : NewObject) → IsReservedFor v n → Keeps v (block_of n)
reserved_is_kept v n (inl run) =
    inl (record { chunk = run.chunk; lines = run.lines; index = run.index; in_pool = run.in_pool; low = run.low; described = run.described; reserved = run.reserved; is_block = run.is_block })
reserved_is_kept v n (inr has) = inr (record { zone = has.zone; first = has.first; count = has.count; in_pool = has.in_pool; low = has.low; fits = has.fits; unused = has.unused; is_block = has.is_block })

-- ---- at rest

-- what is pending between two calls is what the last one left
pub pending_behind_call : (w next : View) → RestsBehind w next → pending_in next ≡ pending_in w
pending_behind_call w next rests = pending_untold next rests.call ∙ ap (pending_from none_pending) rests.entries ∙ calls_further none_pending w.entries (record { number = rests.number; call = w.call })

-- a call that told nothing allocated nothing, and agrees with each root
pub none_allocated : (v : View) → v.call ≡ [] → allocated_in v ≡ []
unfolding allocated_told
none_allocated v untold = ap (allocated_told (pending_before v)) untold

pub any_root : (v : View) (root : Option ℕ) → v.call ≡ [] → AgreesOnRoot v root
unfolding AllTellOfRoot
any_root v root untold = subst (AllTellOfRoot root (pending_before v)) (sym untold) tt

pub rests_between : (o : Opening) (header : Header) (pool : PoolView) (start : View) (steps : List Step) (w next : View) (shape : Shape) → HasReserved w → RestsBehind w next → All (IsReservedFor next) (reserved_in w)
    → WorksAlone o header pool start steps next → CanMakeObject next shape → next.log.records ≡ [] → next.log.entries ≡ [] → next.locks ≡ [] → IsAloneBetween o header pool start steps next shape
rests_between o header pool start steps w next shape has rests still works can no_records no_entries free = record {
  outside = record {
    works = works;
    can = can;
    no_records = no_records;
    no_entries = no_entries;
    free = free;
    borne_out = record {
      made = subst (λ (b : CallBlocks). All (IsReservedFor next) (b.made ++ b.dropped)) (sym (nothing_made next rests.call)) (All-nil (IsReservedFor next));
      free = subst (All (LiesFree next)) (sym (none_allocated next rests.call)) (All-nil (LiesFree next));
      pending = subst (λ (p : Pending). All (IsReservedFor next) (map reserved_object p.reserved)) (sym (pending_behind_call w next rests)) still;
      root = any_root next (root_in (slice_index next.words)) rests.call;
    };
    reserved = rest_stays w next has rests;
  };
  untold = rests.call;
}

-- no number is drawn as the next call begins
pub begun_entries : (v : View) → (with_next_call v).entries ≡ v.entries
begun_entries v = by_phase v.log.phase where
  by_phase : (phase : Phase) → (begun phase (after v (Load (area_word v.lane) (slice_index v.words (area_word v.lane))))).entries ≡ v.entries
  by_phase Idle = refl
  by_phase phase = refl

-- ---- behind the draw

-- entries that are numbered from one number on, with one more behind them
numbered_more : (n : ℕ) (entries : List Numbered) (e : Numbered) → AreNumbered n entries → e.number ≡ n + length entries → AreNumbered n (entries ++ e ∷ [])
unfolding AreNumbered
numbered_more n [] e numbered is = (omega (arith, is), tt)
numbered_more n (d ∷ entries) e numbered is = (numbered.0, numbered_more (n + 1) entries e numbered.1 (omega (arith, is)))

-- with the call open that is all of the log
pub open_log : (o : Opening) (header : Header) (pool : PoolView) (start : View) (steps : List Step) (v : View) (shape : Shape) → IsAloneOutside o header pool start steps v shape → v.log ≡ no_log (Open [] [])
open_log o header pool start steps v shape c = (λ j. record { phase = c.can.run.working.is_open j; records = c.no_records j; entries = c.no_entries j })

-- the lane's generation lies in the pool
pub area_inside : (v : View) (shape : Shape) → CanMakeObject v shape → area_word v.lane < length v.words
area_inside v shape can = let inside = can.run.working.area.inside in omega (arith, inside)

module _ (o : Opening) (header : Header) (pool : PoolView) (start : View) (steps : List Step) (w : View) (shape : Shape) (c : IsAloneOutside o header pool start steps w shape) (n : ℕ) where
  abbrev y : View
  y = after w (Draw n)

  abbrev x : View
  x = with_next_call y

  abbrev mine : Numbered
  mine = record { number = n; call = w.call }

  log_is : w.log ≡ no_log (Open [] [])
  log_is = open_log o header pool start steps w shape c

  abbrev z : View
  z = drawn_then w c.free n

  is_next : x ≡ z
  is_next = drawn_next w c.free n log_is

  can_next : CanMakeObject x shape
  can_next = subst (λ (v : View). CanMakeObject v shape) (sym is_next) (can_where_so w (known_then w) [] w.actions (NumberSeen (length (w.entries ++ mine ∷ [])) ∷ []) None (w.entries ++ mine ∷ []) (known_still w) refl shape c.can)

  still_reserved : All (IsReservedFor x) (reserved_in w)
  still_reserved =
      subst (λ (v : View). All (IsReservedFor v) (reserved_in w)) (sym is_next)
      (All-weaker (IsReservedFor w) (IsReservedFor z) (reserved_where_so w (known_then w) [] w.actions (NumberSeen (length (w.entries ++ mine ∷ [])) ∷ []) None (w.entries ++ mine ∷ [])) (reserved_in w) c.borne_out.pending)

  rests : RestsBehind w x
  rests = subst (RestsBehind w) (sym is_next) (record {
    lanes = refl;
    zones = refl;
    lane = refl;
    known = λ r i there reads. known_there w i ((c.reserved.each r there).made.known i reads);
    number = n;
    entries = refl;
    call = refl;
    locks = λ l held. held;
    words = λ r i there reads. refl;
  })

  no_heap : changes_heap w ≡ false
  no_heap = ap (list_any (is_of_heap w)) c.no_entries

  module _ (ended : IsEndedCall w) (allowed : Allowed w (Draw n)) (is_last : n ≡ length w.entries + 1) where
    draw_leads : Leads w (Draw n ∷ []) y
    unfolding Leads
    draw_leads = (allowed, tt, (ended, no_heap), refl)

    works_drawn : WorksAlone o header pool start (steps ++ Draw n ∷ []) y
    works_drawn = record {
      begins = c.works.begins;
      leads = leads_then start w y steps (Draw n ∷ []) c.works.leads draw_leads;
      numbered = numbered_more 1 w.entries mine c.works.numbered (omega (arith, is_last));
      within = c.works.within;
    }

    next_leads : Leads y (begins_next y) x
    unfolding Leads
    next_leads = (area_inside w shape c.can, (λ alone. refl), tt, (tt, (λ alone. refl), tt, refl))

    -- it rests there in whatever world it works alone in
    rests_in : (p : Opening) (from : View) (past : List Step) → WorksAlone p header pool from past y → RestsWithReserved p header pool from past y shape
    rests_in p from past works = record {
      works = works;
      free = c.free;
      next = λ below. rests_between p header pool from (past ++ begins_next y) w x shape c.reserved rests still_reserved works_next can_next (ap (λ (v : View). v.log.records) is_next ∙ c.no_records)
          (ap (λ (v : View). v.log.entries) is_next ∙ c.no_entries) (ap (λ (v : View). v.locks) is_next ∙ c.free);
    } where
      works_next : WorksAlone p header pool from (past ++ begins_next y) x
      works_next = record {
        begins = works.begins;
        leads = leads_then from y x past (begins_next y) works.leads next_leads;
        numbered = subst (λ (v : View). AreNumbered 1 v.entries) (sym is_next) works.numbered;
        within = subst (λ (v : View). ForSome v.stop (λ stop. v.calls ≤ stop)) (sym is_next) c.works.within;
      }

    -- in this one
    pub draws_to_rest : RestsWithReserved o header pool start (steps ++ Draw n ∷ []) y shape
    draws_to_rest = rests_in o start (steps ++ Draw n ∷ []) works_drawn

    -- ---- and in one that begins there

    -- the view behind the draw by its parts
    abbrev drawn : View
    drawn = record w { log = no_log Idle; number = Some n; entries = w.entries ++ mine ∷ [] }

    is_drawn : y ≡ drawn
    is_drawn =
        let stands : after (record w { log = no_log (Open [] []) }) (Draw n) ≡ drawn = refl in
        ap (λ (log : Log). after (record w { log = log }) (Draw n)) log_is ∙ stands

    filled : OnlyFilled w
    filled = ⊎_elim
        (λ (drained : w.changes ≡ []). subst (All (FilledChange w)) (sym drained) (All-nil (FilledChange w)))
        (λ (only : (w.log.records ≡ []) × (w.log.entries ≡ []) × OnlyFilled w). only.2)
        allowed.drained

    filled_still : (change : Change) → FilledChange w change → FilledChange drawn change
    filled_still change t = record { whole = t.whole; may = record { reserved = t.may.reserved; plain = t.may.plain } }

    behind : RestsBehindCall y
    behind = subst RestsBehindCall (sym is_drawn) (record {
      idle = refl;
      changes = All-weaker (FilledChange w) (FilledChange drawn) filled_still w.changes filled;
      free = c.free;
      unlocked = c.can.run.search.unlocked;
      no_run = no_run_reserved w c.can.pool.no_bitmap;
      number = n;
      numbered = refl;
    })

    works_again : WorksAlone (standing o y) header pool y [] y
    unfolding Leads
    works_again = record {
      begins = inr (begins_again o header pool start y (steps ++ Draw n ∷ []) works_drawn behind);
      leads = refl;
      numbered = works_drawn.numbered;
      within = works_drawn.within;
    }

    pub draws_to_begin : RestsWithReserved (standing o y) header pool y [] y shape
    draws_to_begin = rests_in (standing o y) y [] works_again

-- ---- what is pending

pub pending_drawn : (w : View) (n : ℕ) → pending_before (after w (Draw n)) ≡ pending_in w
pending_drawn w n = calls_further none_pending w.entries (record { number = n; call = w.call })

pub pending_next : (o : Opening) (header : Header) (pool : PoolView) (start : View) (steps : List Step) (v : View) (shape : Shape) → RestsWithReserved o header pool start steps v shape
    → generation_of v < generation_limit → pending_in (with_next_call v) ≡ pending_before v
pending_next o header pool start steps v shape rests below = pending_untold (with_next_call v) (rests.next below).untold ∙ same_before v (with_next_call v) (begun_entries v)
