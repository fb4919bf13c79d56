-- A call that is over is answered: its locks are given back, and what it had reserved or freed, by steps that are no counted calls.
use Rattle.std.specs.Result.{IfOk}
use Rattle.std.proofs.Common.{◌≡◌, Result, Ok, Err, ⊎_elim, inl, inr, ℕ, ◌+◌, ◌≤◌, All, Bool, true, false, cond, List, [], ◌∷◌, ◌++◌, length, map, Some, slice_index, refl, sym, ap, ◌∙◌, subst, arith}
use Rattle.std.proofs.lemmas.Bool.{false≢true}
use Rattle.std.proofs.lemmas.Option.{none-some}
use Rattle.std.proofs.lemmas.List.Elements.{All-head, All-tail}
use Rattle.solo_crash.proofs.AloneCourse.{begins_alone}
use Rattle.solo_crash.proofs.Leading.{leads_then}
use Rattle.solo_crash.specs.Alone.{Begins, BeginsAgain, BeginsAlone, WorksAlone, standing}
use Rattle.solo_crash.specs.CallBlocks.{block_of, reserved_object}
use Rattle.solo_crash.specs.Leading.{Leads}
use Rattle.solo_crash.specs.Pending.{pending_before}
use Rattle.solo_epoch.specs.Epochs.{HasEnded}
use Rattle.pm_header.specs.declared.header.Header.{Header}
use Rattle.pm_image.specs.declared.block.Block.{Block}
use Rattle.solo_made.specs.Made.{BlockLists}
use Rattle.solo_memory.specs.Solo.{Sees, Solo}
use Rattle.pm_objects.specs.declared.history.Reply.{Reply}
use Rattle.pm_objects.specs.declared.history.TxErr.{TxErr}
use Rattle.pm_objects.specs.declared.history.TxErr.TheVariants as error
use Rattle.pm_objects.specs.declared.pool.PoolView.{PoolView}
use Rattle.pm_objects.specs.declared.refusal.Refusal.{Refusal}
use Rattle.solo_pending.specs.declared.pending.PendingActions.{PendingActions}
use Rattle.solo_reclaim.specs.Reclaims.{HasLeft, IsReclaiming}
use Rattle.solo_script.specs.declared.script.ScriptLine.{ScriptLine}
use Rattle.solo_lock.proofs.Drawless.{drawless}
use Rattle.solo_lock.proofs.Leading.{ready_leads}
use Rattle.solo_lock.proofs.GivenBack.{all_gives_leave}
use Rattle.solo_lock.specs.Leading.{KeepsHeap, LeaveBlocks}
use Rattle.solo_lock.specs.Locking.{gives, line_at}
use Rattle.solo_transaction.proofs.EndingAlone.{ended_begins_again, ended_makes_none, ended_may_end, given_up_begins_again, given_up_may_end}
use Rattle.solo_transaction.proofs.RestsBehindEnd.{ended_pending, ended_rests, ended_stands}
use Rattle.solo_transaction.specs.Resting.{StandsAtRest}
use Rattle.solo_transaction.specs.Ending.{HasEndedWith, MayEnd, unlocked_view}
use Rattle.solo_tx.proofs.StepKinds.{Each, only_counted, only_one}
use Rattle.solo_tx.proofs.StoreCounts.{stores_append, stores_counted}
use Rattle.solo_view.proofs.SameLane.{same_lane-then}
use Rattle.solo_view.specs.Counts.{counted, is_counted, stores_among}
use Rattle.solo_view.specs.Founds.{IsAlone}
use Rattle.solo_view.specs.Steps.{Step}
use Rattle.solo_view.specs.Steps.Step.{Give, Load, Occupied, Vacate}
use Rattle.solo_view.specs.View.{Numbered, Told, View}
use Rattle.solo_world.specs.Lanes.{IsOfShape}
use Rattle.solo_world.specs.Opening.{Opening}
use Rattle.solo_world.specs.Sequences.{one}
use Rattle.solo_world.specs.declared.lane.HeldLock.{HeldLock}
use Rattle.solo_world.specs.declared.lane.Lane.{Lane}
use Rattle.solo_exec.proofs.Along.{alone_along, same_along}
use Rattle.solo_exec.proofs.FewStores.{walked, walked_then, walked_within}
use Rattle.solo_exec.specs.Bounds.{IsWalked, stores_of_call}
use Rattle.solo_exec.specs.Calls.{starts_alone}
use Rattle.solo_exec.specs.Course.{AreMade}
use Rattle.solo_exec.specs.Links.{IsLink, WorksOn}
use Rattle.solo_exec.proofs.PendingLists.{still_pending}
use Rattle.solo_exec.specs.Replies.{IsRefusedAt, TransactionEnded, Values}
use Rattle.solo_exec.specs.Progress.{IsAnswered, IsCommitted, IsCut, IsGivenUpAt, IsHalted, IsOver, KeepsReserved}
use Rattle.solo_exec.specs.declared.calls.Names.{Names}
use Rattle.solo_exec.specs.declared.ending.CallAnswer.TheVariants as answer

-- the step is no counted call
abbrev IsUncounted : Step → Type 0
IsUncounted s = is_counted s ≡ false

-- one step more that is none
one_more : (b : Bool) (n : ℕ) → b ≡ false → n ≡ 0 → cond b 1 0 + n ≡ 0
one_more true n free none = absurd (false≢true (sym free))
one_more false n free none = let e : 0 + n ≡ 0 = omega (arith, none) in e

-- where each step is no counted call there is none
none_counted : (steps : List Step) → Each IsUncounted steps → counted steps ≡ 0
unfolding Each counted
none_counted [] each = refl
none_counted (s ∷ steps) each = one_more (is_counted s) (counted steps) each.0 (none_counted steps each.1)

-- locks are given back without one
pub gives_uncounted : (locks : List HeldLock) (v : View) → v.lane ≡ 0 → counted (gives locks v) ≡ 0
unfolding gives
gives_uncounted locks v lane = none_counted (gives locks v) (only_counted IsUncounted (λ i. one (Give (line_at locks i))) (length locks) (λ i below. only_one IsUncounted (Give (line_at locks i)) refl) v lane)

-- the steps of a reclaim are none
reclaim_uncounted : (s : Step) → IsReclaiming s → IsUncounted s
reclaim_uncounted (Load w found) is = refl
reclaim_uncounted (Occupied at found) is = refl
reclaim_uncounted (Vacate at bits) is = refl
reclaim_uncounted s is = absurd is

pub reclaims_uncounted : (steps : List Step) → All IsReclaiming steps → counted steps ≡ 0
unfolding counted
reclaims_uncounted [] only = refl
reclaims_uncounted (s ∷ steps) only = one_more (is_counted s) (counted steps) (reclaim_uncounted s (All-head IsReclaiming s steps only)) (reclaims_uncounted steps (All-tail IsReclaiming s steps only))

-- a lane that works alone is alone
begins_works_alone : (o : Opening) (header : Header) (pool : PoolView) (first v : View) (steps : List Step) → WorksAlone o header pool first steps v → IsAlone v
begins_works_alone o header pool first v steps works = alone_along first v steps works.leads (begins_alone o header pool first works.begins)

-- ---- the end answers the call, and the lane rests

module _ (o : Opening) (first : View) (lane new : Lane Solo) (blocks : BlockLists) (actions : PendingActions) (names : Names) (lines : List ScriptLine) (told : List Told) (error : TxErr) (over : IsOver o first lane blocks actions names lines told error) where
  abbrev v : View
  v = over.view

  abbrev locks : List HeldLock
  locks = lane.locks.items

  -- it may end
  pub may_end : MayEnd Sees lane v
  may_end = ⊎_elim
      (λ (ended : HasEnded o over.header over.pool v). ended_may_end o over.header over.pool Sees lane v ended over.behind)
      (λ (on : WorksOn o over.header over.pool first v). given_up_may_end o over.header over.pool Sees lane first v on.steps on.works (begins_works_alone o over.header over.pool first v on.steps on.works) on.quiet over.behind)
      (over.passed.came over.header over.pool over.begins)

  -- and keep the blocks of all that is reserved
  module _ (kept : List Block) (keeps : kept ≡ map block_of (map reserved_object (pending_before v).reserved)) (e : HasEndedWith Sees new v locks kept) where
    abbrev u : View
    u = unlocked_view v locks

    abbrev w : View
    w = e.view

    same_u : u ≡ record v { locks = []; known = u.known }
    same_u = e.given

    same_w : w ≡ record u { run_words = w.run_words; zone_words = w.zone_words; known = w.known; reserved = w.reserved; freed = w.freed; seen = w.seen }
    same_w = e.reclaims.same

    entries_u : u.entries ≡ v.entries
    entries_u = ap (λ (z : View). z.entries) same_u

    entries_w : w.entries ≡ u.entries
    entries_w = ap (λ (z : View). z.entries) same_w

    on_u : Leads v (gives locks v) u
    on_u = ready_leads v (gives locks v) e.ready (drawless v (gives locks v) (let same = ap length entries_u in omega (arith, same)))

    given_none : counted (gives locks v) ≡ 0
    given_none = gives_uncounted locks v over.behind.seen.memory.lane

    reclaimed_none : counted e.reclaims.steps ≡ 0
    reclaimed_none = reclaims_uncounted e.reclaims.steps e.reclaims.only

    -- it begins again, wherever it began
    begins_again : (header : Header) (pool : PoolView) → Begins o header pool first → Begins (standing o w) header pool w
    begins_again header pool begins = ⊎_elim
        (λ (ended : HasEnded o header pool v). inr (ended_begins_again o header pool Sees new v locks kept e ended over.unlocked))
        (λ (on : WorksOn o header pool first v). inr (given_up_begins_again o header pool Sees new v locks kept e first on.steps on.works over.behind.log over.unlocked lane.last over.number))
        (over.passed.came header pool begins)

    words_w : w.words ≡ v.words
    words_w = ap (λ (z : View). z.words) same_w ∙ ap (λ (z : View). z.words) same_u

    bound_w : IsWalked first w (stores_of_call names lines)
    bound_w =
        let on : Leads v (gives locks v ++ e.reclaims.steps) w = leads_then v u w (gives locks v) e.reclaims.steps on_u e.reclaims.leads in
        let none : stores_among (gives locks v ++ e.reclaims.steps) ≤ 0 = (let both = stores_append (gives locks v) e.reclaims.steps in let one = stores_counted (gives locks v) in let two = stores_counted e.reclaims.steps in let a = given_none in let b = reclaimed_none in omega (arith, both, one, two, a, b)) in
        walked_within first w (stores_of_call names lines + 0) (stores_of_call names lines) (omega arith)
        (walked_then first v w (stores_of_call names lines) 0 over.passed.bound (walked v w 0 (gives locks v ++ e.reclaims.steps) on none))

    link : IsLink o first w (stores_of_call names lines)
    link = record {
      same = same_lane-then first v w over.passed.same (same_along v w (gives locks v ++ e.reclaims.steps) (leads_then v u w (gives locks v) e.reclaims.steps on_u e.reclaims.leads));
      again = begins_again;
      page = λ header pool begins i low. ap (λ (words : List ℕ). slice_index words i) words_w ∙ over.passed.page header pool begins i low;
      bound = bound_w;
    }

    -- it rests with what is reserved still
    stands_w : StandsAtRest w
    stands_w = let may = may_end in ended_stands Sees new v locks kept over.stands may.taken may.alone over.behind.log e keeps

    lanes_w : w.lanes ≡ v.lanes
    lanes_w = ap (λ (z : View). z.lanes) same_w ∙ ap (λ (z : View). z.lanes) same_u

    zones_w : w.zones ≡ v.zones
    zones_w = ap (λ (z : View). z.zones) same_w ∙ ap (λ (z : View). z.zones) same_u

    of_shape : IsOfShape v new.shape
    of_shape = let s = e.rests.seen.shape in record { lanes = sym lanes_w ∙ s.lanes; zones = sym zones_w ∙ s.zones; size = sym (ap (λ (ws : List ℕ). length ws) words_w) ∙ s.size }

    numbered_w : w.number ≡ Some lane.last
    numbered_w = ap (λ (z : View). z.number) same_w ∙ (ap (λ (z : View). z.number) same_u ∙ over.number)

    begins_later : (header : Header) (pool : PoolView) → Begins (standing o w) header pool w → BeginsAgain (standing o w) header pool w
    begins_later header pool begins =
        ⊎_elim (λ (fresh : BeginsAlone (standing o w) header pool w). absurd (none-some lane.last (sym fresh.fresh.no_number ∙ numbered_w))) (λ (again : BeginsAgain (standing o w) header pool w). again) begins

    keeps_reserved : KeepsReserved (standing o w) new.shape w
    keeps_reserved = record {
      quiet = ended_makes_none Sees new v locks kept over.unlocked e;
      stands = stands_w;
      rests = λ header pool begins.
          let may = may_end in ended_rests Sees new v locks kept over.stands may.taken may.alone over.behind.log e keeps o header pool new.shape of_shape (begins_later header pool begins);
    }

    leaves_u : LeaveBlocks v (gives locks v)
    leaves_u = all_gives_leave locks v

    heap_u : KeepsHeap v u
    heap_u = record { zone_locks = ap (λ (z : View). z.zone_locks) same_u; reserved = ap (λ (z : View). z.reserved) same_u; freed = ap (λ (z : View). z.freed) same_u }

    pub answered : (found : TxErr) (reply : Reply) → found ≡ lane.error → TransactionEnded names lines error reply told → IsAnswered o first new blocks actions names lines lane.last (answer.Transaction found) reply
    answered found reply is so = record {
      view = w;
      link = link;
      rests = e.rests;
      idle = ap (λ (z : View). z.log) same_w ∙ (ap (λ (z : View). z.log) same_u ∙ over.behind.log);
      keeps = keeps_reserved;
      pages = (let pages = over.pages in let lanes = lanes_w in let zones = zones_w in omega (arith, pages, lanes, zones));
      told = told;
      entries = entries_w ∙ (entries_u ∙ over.entries);
      so = subst (λ (x : TxErr). TransactionEnded names lines x reply told) (sym (is ∙ over.fails)) so;
      pending = still_pending (pending_before w) (ended_pending Sees new v locks kept e) over.pending;
      made = record {
        over = v;
        made = subst (λ (x : TxErr). AreMade names lines x first v) (sym (is ∙ over.fails)) over.made;
        unlocked = u;
        closed = record { led = record { steps = gives locks v; leads = on_u; uncounted = given_none; leaves = leaves_u; heap = heap_u }; undrawn = entries_u };
        given = record { reclaims = e.reclaims; left = subst (λ (bs : List Block). HasLeft bs w) keeps e.left };
      };
    }

-- what was given up at a line has ended with that line's reply
pub ended_refused : (o : Opening) (first : View) (lane : Lane Solo) (blocks : BlockLists) (actions : PendingActions) (names : Names) (lines : List ScriptLine) (values : Values) (line : ℕ) (r : Refusal) (reply : Reply) → starts_alone lines ≡ false → (g : IsGivenUpAt o first lane blocks actions names lines values line r) → reply.values ≡ values → reply.at ≡ line
    → TransactionEnded names lines (error.Refused r) reply g.told
ended_refused o first lane blocks actions names lines values line r reply inside g gave at =
    (inside, inr (r, refl, subst (λ (n : ℕ). IsRefusedAt names lines n r reply.values g.told) (sym at) (subst (λ (vs : Values). IsRefusedAt names lines line r vs g.told) (sym gave) g.at)))

-- and one whose lines were all done with none
pub ended_done : (o : Opening) (first : View) (lane : Lane Solo) (blocks : BlockLists) (actions : PendingActions) (names : Names) (lines : List ScriptLine) (values : Values) (reply : Reply) → starts_alone lines ≡ false → (d : IsCommitted o first lane blocks actions names lines values) → reply.values ≡ values → reply.at ≡ 0 → TransactionEnded names lines error.None reply d.told
ended_done o first lane blocks actions names lines values reply inside d gave at = (inside, inl (refl, at, d.done, gave ∙ d.gave))

-- one in which the lane stopped is halted
pub halted : (o : Opening) (first : View) (lane : Lane Solo) (names : Names) (lines : List ScriptLine) (values : Values) (reply : Reply) → IsCut o first lane names lines values → reply.values ≡ values → reply.at ≡ 0 → IsHalted o first lane names lines lane.drawn reply
halted o first lane names lines values reply cut gave at = record { cut = subst (IsCut o first lane names lines) (sym gave) cut; unanswered = at; numbered = cut_drawn } where
  cut_drawn : lane.drawn ≡ (subst (IsCut o first lane names lines) (sym gave) cut).view.number
  cut_drawn = (subst (IsCut o first lane names lines) (sym gave) cut).drawn

-- of an answer, if there is one, holds what follows from two facts that do
pub from_both : {T E : Type 0} (result : Result T E) (P Q R : T → Type 0) → ((x : T) → P x → Q x → R x) → IfOk result P → IfOk result Q → IfOk result R
from_both (Ok x) P Q R so p q = so x p q
from_both (Err why) P Q R so p q = tt
