-- Further levels of a transaction: one begins with more locks, and an inner one commits.
use Rattle.std.proofs.Common.{◌≡◌, ℕ, ◌+◌, ◌<◌, ◌≤◌, ◌&&◌, Bool, true, false, cond, eqb, not, leb, ltb, List, [], ◌∷◌, length, get_or, Option, None, MatchOption, refl, sym, ◌∙◌, ap, subst, arith}
use Rattle.std.specs.Prelude.{IsSome}
use Rattle.std.specs.List.{Contains, find}
use Rattle.std.specs.Option.{option_map}
use Rattle.std.proofs.lemmas.Bool.{and_from, cond-false, eq-eqb, le-ltb, lt-leb}
use Rattle.std.proofs.lemmas.List.{append-nil, length-map}
use Rattle.std.proofs.lemmas.List.Elements.{All-nil, Contains-get_or}
use Rattle.pm_header.specs.declared.header.Header.{Header}
use Rattle.pm_objects.specs.Pool.{object_at}
use Rattle.pm_objects.specs.declared.calls.Operation.{Operation}
use Rattle.pm_objects.specs.declared.calls.Operation.TheVariants.{Begin, Commit}
use Rattle.pm_objects.specs.declared.calls.Want.{Want}
use Rattle.pm_objects.specs.declared.history.TxErr.{TxErr}
use Rattle.pm_objects.specs.declared.history.TxErr.TheVariants as error
use Rattle.pm_objects.specs.declared.pool.Object.{Object}
use Rattle.pm_objects.specs.declared.pool.PoolView.{PoolView}
use Rattle.pm_objects.specs.declared.refusal.Refusal.{Refusal}
use Rattle.pm_objects.specs.declared.refusal.Refusal.TheVariants as refusal
use Rattle.pm_image.specs.declared.block.Block.{Block}
use Rattle.pm_image.specs.Blocks.{blocks}
use Rattle.pm_image.specs.Contents.{size_in}
use Rattle.solo_model.specs.declared.stage.Stage.TheVariants as stage
use Rattle.solo_model.specs.Places.{can_begin, has_place}
use Rattle.solo_model.specs.Actions.{with_actions}
use Rattle.solo_model.specs.Transaction.{Transaction, resting, committed, ended_inner, is_new, is_unharmed, locked_all, wants_of_old}
use Rattle.solo_model.specs.Checks.{is_too_deep, passes_locks, wants_no_place, first_refusal}
use Rattle.solo_model.specs.Answers.{IsDone, IsRefused, after_reply}
use Rattle.solo_view.specs.Log.{Recorded}
use Rattle.solo_view.specs.View.{View}
use Rattle.solo_crash.proofs.SameLocks.{joined_locks, turned_locks, wanted_alike}
use Rattle.solo_crash.specs.CallBlocks.{IsMadeIn, IsOldIn, KeepsBlocks, NewObject, blocks_in}
use Rattle.solo_crash.specs.Locks.{AreSameLocks}
use Rattle.solo_crash.specs.Held.{HoldsPool}
use Rattle.solo_crash.specs.OpenCall.{IsBefore, ComesTo, IsChanged, IsOpen, IsUnderWay, LieApart, TracksBlocks, block_at_line, call_words, lock_of, locks_of, words_recorded, IsPerformable}
use Rattle.solo_crash.specs.Operations.{BeginsLevel, IsHeld, IsWantHeld, KeepsLog, KeepsWords, Tells}
use Rattle.solo_crash.proofs.Begun.{all_pass, none_fails}
use Rattle.solo_crash.proofs.CallWords.{call_works, locks_kept, same_lanes, same_pool, same_zones}
use Rattle.solo_crash.proofs.CallBlocks.{keeps_on, no_want_gone, none_made, not_made, old_of_none, old_want, may_before}
use Rattle.solo_crash.proofs.Continued.{answers_done, known_new, leaves_told, left_changed, left_has, left_new, left_tracks, next_comes, still_under_way, told_has, told_listed, tracks_more, two_same, Continues, LeavesBlocks}
use Rattle.solo_crash.proofs.KeptWords.{before_back, goes_back, keeps_known, outside_kept, same_call_words, same_found, under_kept}
use Rattle.solo_crash.proofs.ObjectsOfBlocks.{object_is_there}
use Rattle.solo_crash.proofs.Passing.{no_tx, no_work, not_busy, not_missing, not_spent, passes_all, unhindered, AsksNoLock, Works}

-- an inner commit leaves one level less, and changes nothing else
commits_inner : (tx : Transaction) (level : ℕ) → 1 ≤ level → tx.level ≡ level + 1 → after_reply Commit None tx ≡ ended_inner (committed tx)
commits_inner tx level some levels = cond-false (leb tx.level 1) (resting (with_actions tx.moved tx.pool) tx.actions) (ended_inner (committed tx)) (lt-leb tx.level 1 (omega arith))

pub inner_commit_goes_on : (v next : View) (level : ℕ) → 1 ≤ level → IsUnderWay v (level + 1) stage.Work error.None → Tells v next Commit None → KeepsLog v next → KeepsWords v next
    → IsUnderWay next level stage.Work error.None
inner_commit_goes_on v next level some under_way tells logs keeps =
    let leaves : LeavesBlocks v next = leaves_told v next Commit None tells.keeps.entries tells.call refl (known_new v next (keeps_known v next keeps) under_way.has.each) in
    still_under_way v next (level + 1) level Commit None under_way tells
    (goes_back v next tells.keeps (same_found v next tells.locks) logs (λ i outside none. keeps.words i outside) under_way.outside under_way.under)
    (told_has v next leaves tells under_way.has)
    (λ w header pool holds same_id before next_before room c.
    let same : call_words next w ≡ call_words v w = same_call_words v next logs.records keeps under_way.outside w in
    let levels : c.tx.level ≡ level + 1 = c.levels in
    let ends : after_reply Commit None c.tx ≡ ended_inner (committed c.tx) = commits_inner c.tx level some levels in
    let works : Works c.tx = call_works v w header pool (level + 1) (omega arith) under_way c in
    let asks : AsksNoLock Commit = record { no_wants = refl; no_begin = refl; no_alloc = refl; no_free = refl; no_put = refl; no_publish = refl; aligned = refl; no_more = λ tx. refl; no_action = refl } in
    record {
      answers = answers_done c.tx Commit None refl asks (passes_all c.tx Commit works asks refl refl refl refl refl) refl;
      base = c.base;
      holds = subst (λ (f : ℕ → ℕ). HoldsPool f v.lanes v.zones header c.base) (sym same) c.holds;
      changed = subst (λ (x : Transaction). IsChanged next c.base x.pool) (sym ends) (left_changed v next c.base c.tx.pool leaves c.changed);
      unfound = λ o new. c.unfound o (sym (left_new v next o leaves) ∙ new);
      tracks = subst (λ (x : Transaction). TracksBlocks x (blocks_in next)) (sym ends) (tracks_more c.tx (ended_inner (committed c.tx)) refl refl refl (left_tracks v next c.tx leaves c.tracks));
      before = ap (λ (x : Transaction). x.before) ends;
      locks = subst (λ (x : Transaction). AreSameLocks x.locks (locks_of next)) (sym ends) (locks_kept c.tx v next tells.locks c.locks);
      recorded = ap (λ (x : Transaction). x.recorded) ends ∙ c.recorded ∙ ap words_recorded (sym logs.records);
      records = ap (λ (x : Transaction). x.records) ends ∙ c.records ∙ ap (λ (rs : List Recorded). length rs) (sym logs.records);
      levels = ap (λ (x : Transaction). x.level) ends ∙ omega arith;
      stands = ap (λ (x : Transaction). x.stage) ends ∙ ap (λ (e : TxErr). cond (is_unharmed e) stage.Work stage.OnAbort) c.fails ∙ sym c.stands;
      fails = ap (λ (x : Transaction). x.error) ends;
      moved = ap (λ (x : Transaction). x.moved) ends ∙ sym (append-nil c.tx.moved);
      performable = All-nil (IsPerformable v w);
      blocks_stay = ap (λ (f : ℕ → ℕ). blocks f v.lanes v.zones) same;
      sizes_stay = λ block there. ap (λ (f : ℕ → ℕ). size_in f block) same;
    })

-- the checks of a begin inside a transaction, that wants nothing new or gone
further_passes : (v : View) (tx : Transaction) (wants : List Want) → Works tx → TracksBlocks tx (blocks_in v) → tx.level < 64 → ((want : Want) → Contains wants want → has_place tx.pool want.id ≡ true)
    → ((want : Want) → Contains wants want → IsOldIn v want.id.off) → length (locked_all wants tx.locks) ≤ 64 → first_refusal unhindered tx (Begin wants) ≡ None
unfolding first_refusal
further_passes v tx wants works tracks shallow places old few =
    let op : Operation = Begin wants in
    let placed : Want → Bool = λ want. has_place tx.pool want.id in
    let counted : Want → Bool = λ want. not (is_new tx want.id.off) && placed want in
    let deep : is_too_deep tx op ≡ false = lt-leb 64 tx.level (omega arith) in
    let locks : passes_locks tx op ≡ false =
    ap (λ (ws : List Want). ltb 64 (length (locked_all ws tx.locks))) (all_pass counted wants (λ want there. and_from (not (is_new tx want.id.off)) (placed want) (ap not (old_want v tx want tracks (old want there))) (places want there)))
    ∙ le-ltb 64 (length (locked_all wants tx.locks)) few in
    let place : wants_no_place tx op ≡ false = none_fails placed wants places in
    (λ j. option_map (λ (check : Refusal × Bool). check.0) (find (λ (check : Refusal × Bool). check.1)
    ((refusal.NotWork, no_work tx works j)
    ∷ (refusal.NoTx, no_tx tx op works j)
    ∷ (refusal.Spent, not_spent tx j)
    ∷ (refusal.Deep, deep j)
    ∷ (refusal.LocksFull, locks j)
    ∷ (refusal.NotLocked, false)
    ∷ (refusal.NoObject, place j)
    ∷ (refusal.Busy, not_busy tx op j)
    ∷ (refusal.NoObject, not_missing tx op j)
    ∷ (refusal.NoObject, no_want_gone v tx wants tracks old j)
    ∷ (refusal.OutOfRange, false)
    ∷ (refusal.NotAdded, false)
    ∷ (refusal.LogFull, false)
    ∷ [])))

-- what is wanted has a place in the transaction's pool, and an object is there
record IsWantThere (tx : Transaction) (want : Want) : Type 0 where
  place : has_place tx.pool want.id ≡ true
  there : IsSome (object_at tx.pool.objects want.id.off)

want_is_there : (v next : View) (wants : List Want) (level : ℕ) (w : ℕ → ℕ) (header : Header) (pool : PoolView) (want : Want) → BeginsLevel v next wants → v.pool ≡ header.id → IsBefore next w
    → (c : ComesTo v w header pool level stage.Work error.None) → IsOldIn v want.id.off → IsWantHeld next want → IsWantThere c.tx want
want_is_there v next wants level w header pool want begins id before c old wanted =
    let held : IsHeld next want.id want.write = wanted.held in
    let block : Block = block_at_line held.lock.line held.lines in
    let was_there : Contains (blocks w v.lanes v.zones) block =
    two_same (λ (n m : ℕ). Contains (blocks w n m) block) next.lanes v.lanes next.zones v.zones begins.keeps.lanes begins.keeps.zones (before.found held.lock held.lines held.held held.block) in
    let is_there : Contains (blocks (call_words v w) v.lanes v.zones) block = subst (λ (bs : List Block). Contains bs block) (sym c.blocks_stay) was_there in
    let object = object_is_there (call_words v w) v.lanes v.zones header c.base block c.holds is_there in
    record {
      place =
          and_from (eqb want.id.pool c.tx.pool.id) (can_begin c.tx.pool.lanes c.tx.pool.zones want.id.off)
          (eq-eqb want.id.pool c.tx.pool.id (held.of_pool ∙ begins.keeps.pool ∙ sym (same_pool v w header c.base c.tx c.holds c.changed id)))
          ((λ j. can_begin (same_lanes v w header c.base c.tx c.holds c.changed j) (same_zones v w header c.base c.tx c.holds c.changed j) want.id.off)
          ∙ two_same (λ (n m : ℕ). can_begin n m want.id.off ≡ true) next.lanes v.lanes next.zones v.zones begins.keeps.lanes begins.keeps.zones wanted.place);
      there = subst (λ (o : Option Object). IsSome o) (sym (c.changed.others want.id.off (not_made v want.id.off old.found) old.kept ∙ ap (object_at c.base.objects) held.place ∙ object.found)) refl;
    }

-- a begin leaves the call's blocks
begin_leaves : (v next : View) (wants : List Want) → BeginsLevel v next wants → ((n : NewObject) → Contains (blocks_in v).made n → IsMadeIn v n) → LeavesBlocks v next
begin_leaves v next wants begins makes = leaves_told v next (Begin wants) None begins.keeps.entries begins.call refl (known_new v next (keeps_known v next begins.words) makes)

further_continues : (v next : View) (wants : List Want) (level : ℕ) → 1 ≤ level → level < 64 → IsUnderWay v level stage.Work error.None → BeginsLevel v next wants
    → ((want : Want) → Contains wants want → IsOldIn v want.id.off)
    → (w : ℕ → ℕ) (header : Header) (pool : PoolView) → v.pool ≡ header.id → IsBefore next w → (c : ComesTo v w header pool level stage.Work error.None)
    → Continues v next w header (Begin wants) None (level + 1) c.tx
further_continues v next wants level some shallow under_way begins old w header pool id before c =
    let works : Works c.tx = call_works v w header pool level some under_way c in
    let levels : c.tx.level ≡ level = c.levels in
    let there : (want : Want) → Contains wants want → IsWantThere c.tx want =
    λ want inside. want_is_there v next wants level w header pool want begins id before c (old want inside) (begins.takes.wanted want inside) in
    let locks : AreSameLocks (locked_all wants c.tx.locks) (locks_of next) =
    joined_locks (locked_all wants c.tx.locks) (locked_all wants (locks_of v)) (locks_of next) (wanted_alike wants c.tx.locks (locks_of v) c.locks)
    (turned_locks (locks_of next) (locked_all wants (locks_of v)) begins.takes.locks) in
    let taken : AreSameLocks (locked_all (wants_of_old c.tx wants) c.tx.locks) (locks_of next) =
    subst (λ (ws : List Want). AreSameLocks (locked_all ws c.tx.locks) (locks_of next)) (sym (all_pass (λ (want : Want). not (is_new c.tx want.id.off)) wants (λ want inside. ap not (old_want v c.tx want c.tracks (old want inside))))) locks in
    let long : length (locked_all wants c.tx.locks) ≡ length next.locks = locks.count ∙ length-map next.locks lock_of in
    let few : length next.locks ≤ 64 = begins.takes.few in
    let passes : first_refusal unhindered c.tx (Begin wants) ≡ None =
    further_passes v c.tx wants works c.tracks (omega arith) (λ want inside. (there want inside).place) old (omega arith) in
    let done : IsDone c.tx (Begin wants) None = record {
      there = λ k d inside first. (there (get_or wants k d) (Contains-get_or wants k d inside)).there;
      stands = tt;
      value = refl;
    } in
    let same : call_words next w ≡ call_words v w = same_call_words v next begins.logs.records begins.words under_way.outside w in
    let leaves : LeavesBlocks v next = begin_leaves v next wants begins under_way.has.each in
    record {
      answers = record {
        known = refl;
        seen = unhindered;
        answer = subst (λ (fr : Option Refusal). MatchOption fr (IsDone c.tx (Begin wants) None) (λ r. IsRefused r None)) (sym passes) done;
      };
      base = c.base;
      holds = subst (λ (f : ℕ → ℕ). HoldsPool f v.lanes v.zones header c.base) (sym same) c.holds;
      changed = left_changed v next c.base c.tx.pool leaves c.changed;
      unfound = λ o new. c.unfound o (sym (left_new v next o leaves) ∙ new);
      tracks = tracks_more c.tx (after_reply (Begin wants) None c.tx) refl refl refl (left_tracks v next c.tx leaves c.tracks);
      before = refl;
      locks = taken;
      recorded = c.recorded ∙ ap words_recorded (sym begins.logs.records);
      records = c.records ∙ ap (λ (rs : List Recorded). length rs) (sym begins.logs.records);
      levels = omega arith;
      stands = sym c.stands;
      fails = refl;
      moved = sym (append-nil c.tx.moved);
      performable = All-nil (IsPerformable v w);
      blocks_stay = ap (λ (f : ℕ → ℕ). blocks f v.lanes v.zones) same;
      sizes_stay = λ block there. ap (λ (f : ℕ → ℕ). size_in f block) same;
    }

-- what it wants the call found, and did not free; and what it made lies apart from what it finds now
pub further_begin_goes_on : (v next : View) (wants : List Want) (level : ℕ) → 1 ≤ level → level < 64 → IsUnderWay v level stage.Work error.None → BeginsLevel v next wants
    → ((want : Want) → Contains wants want → IsOldIn v want.id.off) → LieApart next
    → IsUnderWay next (level + 1) stage.Work error.None
further_begin_goes_on v next wants level some shallow under_way begins old apart =
    let lane : next.lane ≡ v.lane = begins.keeps.lane in
    let lanes : next.lanes ≡ v.lanes = begins.keeps.lanes in
    let inside : v.lane < v.lanes = under_way.in_lanes in
    record {
      in_lanes = omega arith;
      few = begins.takes.few;
      chunks = begins.takes.chunks;
      outside = outside_kept v next begins.keeps begins.logs.records under_way.outside;
      under = under_kept v next begins.finds begins.logs.records under_way.under;
      unentered = begins.logs.entries ∙ under_way.unentered;
      has = left_has v next (begin_leaves v next wants begins under_way.has.each) begins.keeps (told_listed v next (Begin wants) None begins.keeps.entries begins.call) apart under_way.has;
      comes = λ w header pool holds id before room.
          let old_id : v.pool ≡ header.id = sym begins.keeps.pool ∙ id in
          let old_before : IsBefore v w = before_back v next begins.keeps begins.finds begins.logs.records (λ i outside none. begins.words.words i outside) w before in
          let old_holds : HoldsPool w v.lanes v.zones header pool = two_same (λ (n m : ℕ). HoldsPool w n m header pool) next.lanes v.lanes next.zones v.zones begins.keeps.lanes begins.keeps.zones holds in
          let c : ComesTo v w header pool level stage.Work error.None = under_way.comes w header pool old_holds old_id old_before (may_before v next (Begin wants) None begins.keeps.entries begins.call pool room) in
          next_comes v next level (level + 1) (Begin wants) None w header pool begins.keeps begins.call c (further_continues v next wants level some shallow under_way begins old w header pool old_id before c);
    }

-- so it is of a call that allocated and freed nothing
pub inner_commit_keeps_open : (v next : View) (level : ℕ) → 1 ≤ level → IsOpen v (level + 1) stage.Work error.None → Tells v next Commit None → KeepsLog v next → KeepsWords v next
    → IsOpen next level stage.Work error.None
inner_commit_keeps_open v next level some is_open tells logs keeps = record {
  under_way = inner_commit_goes_on v next level some is_open.under_way tells logs keeps;
  keeps = keeps_on v next Commit None tells.keeps.entries tells.call refl refl (λ root. tt) is_open.keeps;
}

pub further_begin_opens : (v next : View) (wants : List Want) (level : ℕ) → 1 ≤ level → level < 64 → IsOpen v level stage.Work error.None → BeginsLevel v next wants
    → IsOpen next (level + 1) stage.Work error.None
further_begin_opens v next wants level some shallow is_open begins =
    let keeps : KeepsBlocks next = keeps_on v next (Begin wants) None begins.keeps.entries begins.call refl refl (λ root. tt) is_open.keeps in
    record {
      under_way =
          further_begin_goes_on v next wants level some shallow is_open.under_way begins (λ want there. old_of_none v is_open.keeps want.id.off) (λ n l lines there held found. none_made next keeps n there);
      keeps = keeps;
    }
