-- A call goes on by an operation that moves pending actions alone: the model's transaction does, and what the call made and the words of what it found stay.
use Rattle.std.proofs.Common.{◌≡◌, ℕ, true, false, List, [], ◌++◌, length, Option, Some, refl, sym, ◌∙◌, ap, subst}
use Rattle.std.specs.List.{All}
use Rattle.std.proofs.lemmas.List.{append-nil}
use Rattle.pm_header.specs.declared.header.Header.{Header}
use Rattle.pm_objects.specs.declared.calls.Operation.{Operation}
use Rattle.pm_objects.specs.declared.history.TxErr.TheVariants as error
use Rattle.pm_objects.specs.declared.history.Value.{Value}
use Rattle.pm_objects.specs.declared.history.Value.TheVariants.{Refused}
use Rattle.pm_objects.specs.declared.pool.PoolView.{PoolView}
use Rattle.pm_objects.specs.declared.refusal.Refusal.{Refusal}
use Rattle.pm_image.specs.Blocks.{blocks}
use Rattle.pm_image.specs.Contents.{size_in}
use Rattle.solo_model.specs.declared.stage.Stage.TheVariants as stage
use Rattle.solo_model.specs.Actions.{Pending}
use Rattle.solo_model.specs.Transaction.{Transaction}
use Rattle.solo_model.specs.Checks.{first_refusal}
use Rattle.solo_model.specs.Answers.{Answers, after_reply, changes_nothing, is_known, refused}
use Rattle.solo_view.specs.Log.{Recorded}
use Rattle.solo_view.specs.View.{View}
use Rattle.solo_crash.specs.CallBlocks.{blocks_behind, blocks_in}
use Rattle.solo_crash.specs.Held.{HoldsPool}
use Rattle.solo_crash.specs.Locks.{AreSameLocks}
use Rattle.solo_crash.specs.OpenCall.{IsBefore, call_words, ComesTo, IsChanged, IsPerformable, IsUnderWay, TracksBlocks, locks_of, words_recorded}
use Rattle.solo_crash.specs.Operations.{KeepsLog, Tells}
use Rattle.solo_crash.specs.Pending.{pending_behind, pending_in, published_by}
use Rattle.solo_crash.proofs.CallWords.{locks_kept}
use Rattle.solo_crash.proofs.Continued.{known_new, leaves_told, left_changed, left_new, left_tracks, still_under_way, told_has, tracks_more, LeavesBlocks}
use Rattle.solo_crash.proofs.GivenUp.{refused_answers}
use Rattle.solo_crash.proofs.KeptWords.{same_found}
use Rattle.solo_crash.proofs.Passing.{unhindered}
use Rattle.solo_crash.specs.CallBlocks.{MayPrecede}
use Rattle.solo_crash.specs.Operations.{KeepsKnown}
use Rattle.solo_crash.proofs.Continued.{GoesBack}
use Rattle.solo_crash.proofs.KeptWords.{known_goes_back, same_known_words}

-- a transaction with its actions as the operation leaves them
abbrev pub moved_on : Operation → Option Value → Transaction → Transaction
moved_on op reply tx = record tx { actions = pending_behind op reply tx.actions; moved = tx.moved ++ published_by op reply tx.actions }

-- the model's transaction answers so, and goes on by that alone
pub record Moves (op : Operation) (reply : Option Value) (tx : Transaction) : Type 0 where
  pub answers : Answers tx op reply
  pub leaves : after_reply op reply tx ≡ moved_on op reply tx

pub moves_told : (v next : View) (op : Operation) (reply : Option Value) (level : ℕ) → IsUnderWay v level stage.Work error.None → Tells v next op reply → KeepsLog v next → GoesBack v next → LeavesBlocks v next
    → ((w : ℕ → ℕ) → call_words next w ≡ call_words v w)
    → ((w : ℕ → ℕ) (header : Header) (pool : PoolView) → HoldsPool w v.lanes v.zones header pool → v.pool ≡ header.id → IsBefore v w → MayPrecede pool next → (c : ComesTo v w header pool level stage.Work error.None)
    → Moves op reply c.tx × All (IsPerformable v w) (published_by op reply c.tx.actions))
    → IsUnderWay next level stage.Work error.None
moves_told v next op reply level under_way tells logs back leaves same_words moves =
    still_under_way v next level level op reply under_way tells back
    (told_has v next leaves tells under_way.has)
    (λ w header pool holds same_id before next_before room c.
    let how = moves w header pool holds same_id before room c in
    let moved : after_reply op reply c.tx ≡ moved_on op reply c.tx = how.0.leaves in
    let same : call_words next w ≡ call_words v w = same_words w in
    record {
      answers = how.0.answers;
      base = c.base;
      holds = subst (λ (f : ℕ → ℕ). HoldsPool f v.lanes v.zones header c.base) (sym same) c.holds;
      changed = subst (λ (x : Transaction). IsChanged next c.base x.pool) (sym moved) (left_changed v next c.base c.tx.pool leaves c.changed);
      unfound = λ o new. c.unfound o (sym (left_new v next o leaves) ∙ new);
      tracks = subst (λ (x : Transaction). TracksBlocks x (blocks_in next)) (sym moved) (tracks_more c.tx (moved_on op reply c.tx) refl refl refl (left_tracks v next c.tx leaves c.tracks));
      before = ap (λ (x : Transaction). x.before) moved;
      locks = subst (λ (x : Transaction). AreSameLocks x.locks (locks_of next)) (sym moved) (locks_kept c.tx v next tells.locks c.locks);
      recorded = ap (λ (x : Transaction). x.recorded) moved ∙ c.recorded ∙ ap words_recorded (sym logs.records);
      records = ap (λ (x : Transaction). x.records) moved ∙ c.records ∙ ap (λ (rs : List Recorded). length rs) (sym logs.records);
      levels = ap (λ (x : Transaction). x.level) moved ∙ c.levels;
      stands = ap (λ (x : Transaction). x.stage) moved;
      fails = ap (λ (x : Transaction). x.error) moved;
      moved = ap (λ (x : Transaction). x.moved) moved;
      performable = how.1;
      blocks_stay = ap (λ (f : ℕ → ℕ). blocks f v.lanes v.zones) same;
      sizes_stay = λ block there. ap (λ (f : ℕ → ℕ). size_in f block) same;
    })

-- so it does where no word that it knew changed
pub moves_known : (v next : View) (op : Operation) (reply : Option Value) (level : ℕ) → IsUnderWay v level stage.Work error.None → Tells v next op reply → KeepsLog v next → KeepsKnown v next
    → blocks_behind op reply (pending_in v) (blocks_in v) ≡ blocks_in v
    → ((w : ℕ → ℕ) (header : Header) (pool : PoolView) → HoldsPool w v.lanes v.zones header pool → v.pool ≡ header.id → IsBefore v w → MayPrecede pool next → (c : ComesTo v w header pool level stage.Work error.None)
    → Moves op reply c.tx × All (IsPerformable v w) (published_by op reply c.tx.actions))
    → IsUnderWay next level stage.Work error.None
moves_known v next op reply level under_way tells logs keeps none moves =
    moves_told v next op reply level under_way tells logs
    (known_goes_back v next tells.keeps (same_found v next tells.locks) logs keeps under_way.outside under_way.under)
    (leaves_told v next op reply tells.keeps.entries tells.call none (known_new v next keeps under_way.has.each))
    (same_known_words v next logs.records keeps under_way.outside) moves

-- an operation that publishes nothing leaves what was published
pub moves_none : (tx : Transaction) (actions : Pending) → record tx { actions = actions } ≡ record tx { actions = actions; moved = tx.moved ++ [] }
moves_none tx actions = (λ j. let x : Transaction = record tx { actions = actions; moved = sym (append-nil tx.moved) j } in x)

-- one that is refused leaves all as it was
pub refused_moves : (op : Operation) (r : Refusal) (tx : Transaction) → is_known op ≡ true → refused op r tx ≡ moved_on op (Some (Refused r)) tx → changes_nothing r ≡ false → first_refusal unhindered tx op ≡ Some r → Moves op (Some (Refused r)) tx
refused_moves op r tx known stays traced first = record { answers = refused_answers tx op r known (record { refused_first = first; traced = traced }); leaves = stays }
