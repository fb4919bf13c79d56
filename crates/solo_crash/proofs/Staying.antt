-- Where nothing is told, a call stays what it came to.
use Rattle.std.proofs.Common.{◌≡◌, true, false, ℕ, ◌/◌, ◌<◌, ◌≤◌, List, length, map, sym, ◌∙◌, ap, subst, arith}
use Rattle.std.specs.List.{All, Contains}
use Rattle.pm_header.specs.declared.header.Header.{Header}
use Rattle.pm_objects.specs.declared.history.TxErr.{TxErr}
use Rattle.pm_objects.specs.declared.pool.PoolView.{PoolView}
use Rattle.pm_image.specs.declared.block.Block.{Block}
use Rattle.pm_image.specs.Blocks.{blocks}
use Rattle.pm_image.specs.Contents.{size_in}
use Rattle.solo_model.specs.declared.stage.Stage.{Stage}
use Rattle.solo_model.specs.Actions.{Pending}
use Rattle.solo_model.specs.Step.{Act, State, Step, with_pending}
use Rattle.solo_view.specs.Area.{is_in_area}
use Rattle.solo_view.specs.Blocks.{is_chunk}
use Rattle.solo_view.specs.Log.{Recorded}
use Rattle.solo_view.specs.View.{View, Lock}
use Rattle.solo_world.specs.Records.{is_recorded}
use Rattle.solo_crash.proofs.CallWords.{locks_kept, same_made_words}
use Rattle.solo_crash.specs.CallBlocks.{CallBlocks, IsMadeIn, NewObject, blocks_in}
use Rattle.solo_crash.specs.Held.{HoldsPool}
use Rattle.solo_crash.specs.OpenCall.{IsBefore, ComesTo, ComesToNothing, IsGivenUp, IsOpen, IsUnderWay, IsWholeCall, RecordsUnder, MakesStep, WasAborted, call_words, made_words, words_recorded, IsPerformable}
use Rattle.solo_crash.specs.Pending.{act_of, pending_in, published_in, told_in, told_of}
use Rattle.solo_crash.specs.Operations.{KeepsKnown, KeepsLog, KeepsWords, TakesBack, TellsNothing}
use Rattle.solo_crash.proofs.CallBlocks.{keeps_still, may_same, same_allocated, same_blocks}
use Rattle.solo_crash.proofs.Continued.{known_new, left_apart, left_changed, left_has, left_new, left_tracks, runs_told, two_same, LeavesBlocks}
use Rattle.solo_crash.proofs.NewStay.{news_in, performable_still}
use Rattle.solo_crash.proofs.PendingOn.{pending_same, published_same, same_before}
use Rattle.solo_crash.proofs.GivenUp.{outside_taken_back, taken_back, under_taken_back}
use Rattle.solo_crash.proofs.KeptWords.{keeps_known, known_back, outside_kept, same_known_words, same_found, under_kept}

same_told : (v next : View) → TellsNothing v next → told_in next ≡ told_in v
same_told v next quiet = ap (map told_of) quiet.call

same_act : (v next : View) → TellsNothing v next → act_of next ≡ act_of v
same_act v next quiet = (λ j. record { lane = quiet.keeps.lane j; actions = same_before v next quiet.keeps.entries j; told = same_told v next quiet j })

-- the step that it makes is the same
turned : (v next : View) → TellsNothing v next → (pool last : PoolView) (actions : ℕ → Pending) → Step (record { pool = pool; actions = actions }) (act_of v) (record { pool = last; actions = with_pending actions v.lane (pending_in v) })
    → Step (record { pool = pool; actions = actions }) (act_of next) (record { pool = last; actions = with_pending actions next.lane (pending_in next) })
turned v next quiet pool last actions step =
    let left : State = record { pool = last; actions = with_pending actions v.lane (pending_in v) } in
    subst (λ (s : State). Step (record { pool = pool; actions = actions }) (act_of next) s)
    (λ j. let s : State = record { pool = last; actions = with_pending actions (sym quiet.keeps.lane j) (sym (pending_same v next quiet.keeps.entries quiet.call) j) } in s)
    (subst (λ (act : Act). Step (record { pool = pool; actions = actions }) act left) (sym (same_act v next quiet)) step)

quiet_back : (v next : View) → TellsNothing v next → KeepsLog v next → KeepsKnown v next → (w : ℕ → ℕ) → IsBefore next w → IsBefore v w
quiet_back v next quiet logs words = known_back v next quiet.keeps (same_found v next quiet.locks) logs.records (λ i known outside none. words.known i outside known)

quiet_holds : (v next : View) → TellsNothing v next → (w : ℕ → ℕ) (header : Header) (pool : PoolView) → HoldsPool w next.lanes next.zones header pool → HoldsPool w v.lanes v.zones header pool
quiet_holds v next quiet w header pool holds = two_same (λ (n m : ℕ). HoldsPool w n m header pool) next.lanes v.lanes next.zones v.zones quiet.keeps.lanes quiet.keeps.zones holds

quiet_made : (v next : View) (made made' : ℕ → ℕ) (header : Header) (pool : PoolView) → TellsNothing v next → made' ≡ made → HoldsPool made v.lanes v.zones header pool
    → HoldsPool made' next.lanes next.zones header pool
quiet_made v next made made' header pool quiet same holds =
    two_same (λ (n m : ℕ). HoldsPool made' n m header pool) v.lanes next.lanes v.zones next.zones (sym quiet.keeps.lanes) (sym quiet.keeps.zones)
    (subst (λ (f : ℕ → ℕ). HoldsPool f v.lanes v.zones header pool) (sym same) holds)

-- nothing is told, so the blocks that it changed are the same
quiet_leaves : (v next : View) → TellsNothing v next → KeepsKnown v next → ((n : NewObject) → Contains (blocks_in v).made n → IsMadeIn v n) → LeavesBlocks v next
quiet_leaves v next quiet words makes = record { blocks = same_blocks v next quiet.keeps.entries quiet.call; same = known_new v next words makes }

comes_still : (v next : View) (level : ℕ) (at_stage : Stage) (e : TxErr) (w : ℕ → ℕ) (header : Header) (pool : PoolView) → TellsNothing v next → KeepsLog v next → LeavesBlocks v next → call_words next w ≡ call_words v w
    → ComesTo v w header pool level at_stage e → ComesTo next w header pool level at_stage e
comes_still v next level at_stage e w header pool quiet logs leaves same c =
    record {
      tx = c.tx;
      runs = runs_told v next pool c.tx quiet.keeps.entries (same_told v next quiet) c.runs;
      base = c.base;
      holds = quiet_made v next (call_words v w) (call_words next w) header c.base quiet same c.holds;
      changed = left_changed v next c.base c.tx.pool leaves c.changed;
      unfound = λ o new. c.unfound o (sym (left_new v next o leaves) ∙ new);
      tracks = left_tracks v next c.tx leaves c.tracks;
      before = c.before;
      locks = locks_kept c.tx v next quiet.locks c.locks;
      recorded = c.recorded ∙ ap words_recorded (sym logs.records);
      records = c.records ∙ ap (λ (rs : List Recorded). length rs) (sym logs.records);
      levels = c.levels;
      stands = c.stands;
      fails = c.fails;
      actions = c.actions ∙ sym (pending_same v next quiet.keeps.entries quiet.call);
      moved = c.moved ∙ sym (published_same v next quiet.keeps.entries quiet.call);
      performable =
          performable_still v next w (published_in next) quiet.keeps.lanes quiet.keeps.zones (λ n there. subst (λ (b : CallBlocks). Contains (news_in b) n) (sym leaves.blocks) there)
          (subst (All (IsPerformable v w)) (sym (published_same v next quiet.keeps.entries quiet.call)) c.performable);
      blocks_stay =
          two_same (λ (n m : ℕ). blocks (call_words next w) n m ≡ blocks w n m) v.lanes next.lanes v.zones next.zones (sym quiet.keeps.lanes) (sym quiet.keeps.zones)
          (ap (λ (f : ℕ → ℕ). blocks f v.lanes v.zones) same ∙ c.blocks_stay);
      sizes_stay =
          two_same (λ (n m : ℕ). (block : Block) → Contains (blocks w n m) block → size_in (call_words next w) block ≡ size_in w block) v.lanes next.lanes v.zones next.zones
          (sym quiet.keeps.lanes) (sym quiet.keeps.zones) (λ block there. ap (λ (f : ℕ → ℕ). size_in f block) same ∙ c.sizes_stay block there);
    }

pub goes_on_learning : (v next : View) (level : ℕ) (at_stage : Stage) (e : TxErr) → IsUnderWay v level at_stage e → TellsNothing v next → KeepsLog v next → KeepsKnown v next → IsUnderWay next level at_stage e
goes_on_learning v next level at_stage e under_way quiet logs words =
    let lane : next.lane ≡ v.lane = quiet.keeps.lane in
    let lanes : next.lanes ≡ v.lanes = quiet.keeps.lanes in
    let inside : v.lane < v.lanes = under_way.in_lanes in
    let leaves : LeavesBlocks v next = quiet_leaves v next quiet words under_way.has.each in
    record {
      in_lanes = omega arith;
      few = subst (λ (locks : List Lock). length locks ≤ 64) (sym quiet.locks) under_way.few;
      chunks = λ l lines held found. ap (λ (n : ℕ). is_chunk n (l.line / 64)) lanes ∙ under_way.chunks l lines (subst (λ (locks : List Lock). Contains locks l) quiet.locks held) found;
      outside = outside_kept v next quiet.keeps logs.records under_way.outside;
      under = under_kept v next (same_found v next quiet.locks) logs.records under_way.under;
      unentered = logs.entries ∙ under_way.unentered;
      has = left_has v next leaves quiet.keeps (λ n there. subst (λ (ns : List NewObject). Contains ns n) (sym (same_allocated v next quiet.keeps.entries quiet.call)) there) (left_apart v next leaves quiet.locks under_way.has.apart_found) under_way.has;
      comes = λ w header pool holds id before room.
          comes_still v next level at_stage e w header pool quiet logs leaves (same_known_words v next logs.records words under_way.outside w)
          (under_way.comes w header pool (quiet_holds v next quiet w header pool holds) (sym quiet.keeps.pool ∙ id) (quiet_back v next quiet logs words w before) (may_same next v (sym quiet.keeps.entries) (sym quiet.call) pool room));
    }

pub goes_on_quietly : (v next : View) (level : ℕ) (at_stage : Stage) (e : TxErr) → IsUnderWay v level at_stage e → TellsNothing v next → KeepsLog v next → KeepsWords v next → IsUnderWay next level at_stage e
goes_on_quietly v next level at_stage e under_way quiet logs words = goes_on_learning v next level at_stage e under_way quiet logs (keeps_known v next words)

-- so it is of a call that allocated and freed nothing
pub open_learns : (v next : View) (level : ℕ) (at_stage : Stage) (e : TxErr) → IsOpen v level at_stage e → TellsNothing v next → KeepsLog v next → KeepsKnown v next → IsOpen next level at_stage e
open_learns v next level at_stage e is_open quiet logs words = record { under_way = goes_on_learning v next level at_stage e is_open.under_way quiet logs words; keeps = keeps_still v next quiet.keeps.entries quiet.call is_open.keeps }

pub whole_learns : (v next : View) → IsWholeCall v → TellsNothing v next → KeepsLog v next → KeepsKnown v next → IsWholeCall next
whole_learns v next whole quiet logs words = record {
  outside = outside_kept v next quiet.keeps logs.records whole.outside;
  makes = λ w header pool holds id before.
      let made : MakesStep v w header pool =
      whole.makes w header pool (quiet_holds v next quiet w header pool holds) (sym quiet.keeps.pool ∙ id) (quiet_back v next quiet logs words w before) in
      record {
        next = made.next;
        holds = quiet_made v next (made_words v w) (made_words next w) header made.next quiet
            (same_made_words v next quiet.keeps.lane logs.entries w (same_known_words v next logs.records words whole.outside w)) made.holds;
        steps = λ actions own. turned v next quiet pool made.next actions (made.steps actions (ap actions (sym quiet.keeps.lane) ∙ own ∙ same_before v next quiet.keeps.entries));
      };
}

pub open_stays : (v next : View) (level : ℕ) (at_stage : Stage) (e : TxErr) → IsOpen v level at_stage e → TellsNothing v next → KeepsLog v next → KeepsWords v next → IsOpen next level at_stage e
open_stays v next level at_stage e is_open quiet logs words = open_learns v next level at_stage e is_open quiet logs (keeps_known v next words)

pub whole_stays : (v next : View) → IsWholeCall v → TellsNothing v next → KeepsLog v next → KeepsWords v next → IsWholeCall next
whole_stays v next whole quiet logs words = whole_learns v next whole quiet logs (keeps_known v next words)

-- a call that was given up stays so, where it goes back to what was before it
still_aborted : (v next : View) (e : TxErr) → WasAborted v e → TellsNothing v next → ((i : ℕ) → is_recorded next.log.records i ≡ true → is_in_area next.lane i ≡ false)
    → RecordsUnder next → ((w : ℕ → ℕ) → IsBefore next w → IsBefore v w) → WasAborted next e
still_aborted v next e was_aborted quiet outside under back = record {
  outside = outside;
  under = under;
  comes = λ w header pool holds id before room.
      let c : ComesToNothing v pool e =
      was_aborted.comes w header pool (quiet_holds v next quiet w header pool holds) (sym quiet.keeps.pool ∙ id) (back w before) (may_same next v (sym quiet.keeps.entries) (sym quiet.call) pool room) in
      record {
        tx = c.tx;
        runs = runs_told v next pool c.tx quiet.keeps.entries (same_told v next quiet) c.runs;
        stands = c.stands;
        fails = c.fails;
        actions = c.actions ∙ sym (pending_same v next quiet.keeps.entries quiet.call);
        unchanged = c.unchanged;
      };
}

pub aborted_stays : (v next : View) (e : TxErr) → WasAborted v e → TellsNothing v next → TakesBack v next → WasAborted next e
aborted_stays v next e was_aborted quiet back =
    still_aborted v next e was_aborted quiet (outside_taken_back v next quiet.keeps back was_aborted.outside)
    (under_taken_back v next (same_found v next quiet.locks) back was_aborted.under) (taken_back v next quiet.keeps (same_found v next quiet.locks) back was_aborted.outside was_aborted.under)

pub aborted_learns : (v next : View) (e : TxErr) → WasAborted v e → TellsNothing v next → KeepsLog v next → KeepsKnown v next → WasAborted next e
aborted_learns v next e was_aborted quiet logs words = still_aborted v next e was_aborted quiet (outside_kept v next quiet.keeps logs.records was_aborted.outside)
    (under_kept v next (same_found v next quiet.locks) logs.records was_aborted.under) (quiet_back v next quiet logs words)

-- so does one that allocated nothing
pub given_up_stays : (v next : View) (e : TxErr) → IsGivenUp v e → TellsNothing v next → TakesBack v next → IsGivenUp next e
given_up_stays v next e given_up quiet back = record { aborted = aborted_stays v next e given_up.aborted quiet back; any_pool = λ pool. may_same v next quiet.keeps.entries quiet.call pool (given_up.any_pool pool) }

pub given_up_learns : (v next : View) (e : TxErr) → IsGivenUp v e → TellsNothing v next → KeepsLog v next → KeepsKnown v next → IsGivenUp next e
given_up_learns v next e given_up quiet logs words = record { aborted = aborted_learns v next e given_up.aborted quiet logs words; any_pool = λ pool. may_same v next quiet.keeps.entries quiet.call pool (given_up.any_pool pool) }
