-- The calls on the pending actions alone in a transaction: a set-value, a free that is deferred and a cancel go on as the model's transaction does.
use Rattle.std.proofs.Common.{◌≡◌, ℕ, ◌≤◌, ◌%◌, Bool, cond, true, false, not, eqb, leb, [], Option, Some, None, refl, sym, ◌∙◌, ap, subst}
use Rattle.std.specs.List.{All}
use Rattle.std.specs.Option.{option_map}
use Rattle.std.proofs.lemmas.Bool.{false≢true}
use Rattle.std.proofs.lemmas.List.Elements.{All-nil}
use Rattle.pm_objects.specs.declared.calls.Operation.{Operation}
use Rattle.pm_objects.specs.declared.calls.Operation.TheVariants.{Cancel, DeferFree, SetValue}
use Rattle.pm_objects.specs.declared.history.TxErr.TheVariants as error
use Rattle.pm_objects.specs.declared.history.Value.{Value}
use Rattle.pm_objects.specs.declared.history.Value.TheVariants.{Refused}
use Rattle.pm_objects.specs.declared.ids.Oid.{Oid}
use Rattle.pm_objects.specs.declared.refusal.Refusal.TheVariants as refusal
use Rattle.solo_model.specs.declared.stage.Stage.TheVariants as stage
use Rattle.solo_model.specs.Actions.{Pending, max_actions, none_pending, pending_count}
use Rattle.solo_model.specs.Transaction.{Transaction}
use Rattle.solo_model.specs.Checks.{first_refusal}
use Rattle.solo_view.specs.View.{View}
use Rattle.solo_crash.specs.CallBlocks.{CallBlocks, TellsOfRoot, allocated_by, blocks_behind, blocks_in, no_blocks}
use Rattle.solo_crash.specs.OnActions.{ChangesPending, IsPendingAnswer, defer_refusal, set_refusal}
use Rattle.solo_crash.specs.OpenCall.{IsPerformable, IsOpen, IsUnderWay}
use Rattle.solo_crash.specs.Pending.{pending_behind, pending_in, published_by}
use Rattle.solo_crash.proofs.CallWords.{call_works}
use Rattle.solo_crash.proofs.CallBlocks.{keeps_on}
use Rattle.solo_crash.proofs.Continued.{answers_value}
use Rattle.solo_crash.proofs.KeptWords.{keeps_known}
use Rattle.solo_crash.proofs.MovedOn.{moves_known, moves_none, refused_moves, Moves}
use Rattle.solo_crash.proofs.Passing.{first_of_six, frees_nothing, six_checks, unhindered, WantsNone, Works}

-- ---- on the pending actions alone

-- the operations that change what is pending, and nothing else
abbrev pub changes_pending : Operation → Bool
changes_pending (SetValue id off value) = true
changes_pending (DeferFree id) = true
changes_pending Cancel = true
changes_pending op = false

asks_nothing : (op : Operation) → changes_pending op ≡ true → WantsNone op
asks_nothing (SetValue id off value) is = record { no_wants = refl; no_begin = refl; no_alloc = refl; no_free = refl; no_put = refl }
asks_nothing (DeferFree id) is = record { no_wants = refl; no_begin = refl; no_alloc = refl; no_free = refl; no_put = refl }
asks_nothing Cancel is = record { no_wants = refl; no_begin = refl; no_alloc = refl; no_free = refl; no_put = refl }
asks_nothing op is = absurd (false≢true is)

-- a set-value is refused by the two checks on it
set_moves : (tx : Transaction) (id : Oid) (off value : ℕ) (reply : Option Value) → Works tx → reply ≡ option_map Refused (set_refusal off tx.actions) → Moves (SetValue id off value) reply tx
unfolding first_of_six
set_moves tx id off value reply works told =
    by_tests (not (eqb (off % 8) 0)) (leb max_actions (pending_count tx.actions)) (six_checks tx op works (asks_nothing op refl) (frees_nothing tx op refl refl) refl) told where
      op : Operation
      op = SetValue id off value

      by_tests : (unaligned full : Bool) → first_refusal unhindered tx op ≡ first_of_six unaligned false false false false full
          → reply ≡ option_map Refused (cond unaligned (Some refusal.Unaligned) (cond full (Some refusal.ActionsFull) None)) → Moves op reply tx
      by_tests true full first told = subst (λ (x : Option Value). Moves op x tx) (sym told) (refused_moves op refusal.Unaligned tx refl (moves_none tx tx.actions) refl first)
      by_tests false true first told = subst (λ (x : Option Value). Moves op x tx) (sym told) (refused_moves op refusal.ActionsFull tx refl (moves_none tx tx.actions) refl first)
      by_tests false false first told = subst (λ (x : Option Value). Moves op x tx) (sym told)
          (record { answers = answers_value tx op None refl (asks_nothing op refl) tt first refl; leaves = moves_none tx (pending_behind op None tx.actions) })

-- and a free that is deferred by the one on it
defer_moves : (tx : Transaction) (id : Oid) (reply : Option Value) → Works tx → reply ≡ option_map Refused (defer_refusal tx.actions) → Moves (DeferFree id) reply tx
unfolding first_of_six
defer_moves tx id reply works told =
    by_test (leb max_actions (pending_count tx.actions)) (six_checks tx op works (asks_nothing op refl) (frees_nothing tx op refl refl) refl) told where
      op : Operation
      op = DeferFree id

      by_test : (full : Bool) → first_refusal unhindered tx op ≡ first_of_six false false false false false full
          → reply ≡ option_map Refused (cond full (Some refusal.ActionsFull) None) → Moves op reply tx
      by_test true first told = subst (λ (x : Option Value). Moves op x tx) (sym told) (refused_moves op refusal.ActionsFull tx refl (moves_none tx tx.actions) refl first)
      by_test false first told = subst (λ (x : Option Value). Moves op x tx) (sym told)
          (record { answers = answers_value tx op None refl (asks_nothing op refl) tt first refl; leaves = moves_none tx (pending_behind op None tx.actions) })

-- a cancel is not refused
cancel_moves : (tx : Transaction) → Works tx → Moves Cancel None tx
unfolding first_of_six
cancel_moves tx works = record {
  answers = answers_value tx Cancel None refl (asks_nothing Cancel refl) tt (six_checks tx Cancel works (asks_nothing Cancel refl) (frees_nothing tx Cancel refl refl) refl) refl;
  leaves = moves_none tx none_pending;
}

-- a call on the pending actions alone, refused or not, leaves the blocks
set_leaves : (id : Oid) (off value : ℕ) (p q : Pending) (b : CallBlocks) → blocks_behind (SetValue id off value) (option_map Refused (set_refusal off p)) q b ≡ b
set_leaves id off value p q b = by_tests (not (eqb (off % 8) 0)) (leb max_actions (pending_count p)) where
  by_tests : (unaligned full : Bool) → blocks_behind (SetValue id off value) (option_map Refused (cond unaligned (Some refusal.Unaligned) (cond full (Some refusal.ActionsFull) None))) q b ≡ b
  by_tests true full = refl
  by_tests false true = refl
  by_tests false false = refl

defer_leaves : (id : Oid) (p q : Pending) (b : CallBlocks) → blocks_behind (DeferFree id) (option_map Refused (defer_refusal p)) q b ≡ b
defer_leaves id p q b = by_test (leb max_actions (pending_count p)) where
  by_test : (full : Bool) → blocks_behind (DeferFree id) (option_map Refused (cond full (Some refusal.ActionsFull) None)) q b ≡ b
  by_test true = refl
  by_test false = refl

pub pending_leaves : (p q : Pending) (op : Operation) (reply : Option Value) (b : CallBlocks) → IsPendingAnswer p op reply → blocks_behind op reply q b ≡ b
pending_leaves p q (SetValue id off value) reply b answer = ap (λ (r : Option Value). blocks_behind (SetValue id off value) r q b) answer ∙ set_leaves id off value p q b
pending_leaves p q (DeferFree id) reply b answer = ap (λ (r : Option Value). blocks_behind (DeferFree id) r q b) answer ∙ defer_leaves id p q b
pending_leaves p q Cancel reply b answer = ap (λ (r : Option Value). blocks_behind Cancel r q b) answer
pending_leaves p q op reply b answer = absurd answer

pending_moves : (tx : Transaction) (op : Operation) (reply : Option Value) → Works tx → IsPendingAnswer tx.actions op reply → Moves op reply tx
pending_moves tx (SetValue id off value) reply works answer = set_moves tx id off value reply works answer
pending_moves tx (DeferFree id) reply works answer = defer_moves tx id reply works answer
pending_moves tx Cancel reply works answer = subst (λ (x : Option Value). Moves Cancel x tx) (sym answer) (cancel_moves tx works)
pending_moves tx op reply works answer = absurd answer

-- it publishes nothing
pending_publishes_none : (p q : Pending) (op : Operation) (reply : Option Value) → IsPendingAnswer p op reply → published_by op reply q ≡ []
pending_publishes_none p q (SetValue id off value) reply answer = refl
pending_publishes_none p q (DeferFree id) reply answer = refl
pending_publishes_none p q Cancel reply answer = refl
pending_publishes_none p q op reply answer = absurd answer

pub change_goes_on : (v next : View) (op : Operation) (reply : Option Value) (level : ℕ) → 1 ≤ level → IsUnderWay v level stage.Work error.None → ChangesPending v next op reply → IsUnderWay next level stage.Work error.None
change_goes_on v next op reply level some under_way changes =
    moves_known v next op reply level under_way changes.tells changes.logs (keeps_known v next changes.words) (pending_leaves (pending_in v) (pending_in v) op reply (blocks_in v) changes.answer)
    (λ w header pool holds same_id before room c. (
      pending_moves c.tx op reply (call_works v w header pool level some under_way c) (subst (λ (p : Pending). IsPendingAnswer p op reply) (sym c.actions) changes.answer),
      subst (All (IsPerformable v w)) (sym (pending_publishes_none (pending_in v) c.tx.actions op reply changes.answer)) (All-nil (IsPerformable v w)),
    ))

-- ---- calls that allocated and freed nothing

-- a call on the pending actions alone allocates nothing
pub pending_allocates_none : (p q : Pending) (op : Operation) (reply : Option Value) → IsPendingAnswer p op reply → allocated_by op reply q ≡ []
pending_allocates_none p q (SetValue id off value) reply answer = refl
pending_allocates_none p q (DeferFree id) reply answer = refl
pending_allocates_none p q Cancel reply answer = refl
pending_allocates_none p q op reply answer = absurd answer

-- and tells nothing of the root
pending_tells_no_root : (p q : Pending) (op : Operation) (reply : Option Value) → IsPendingAnswer p op reply → (root : Option ℕ) → TellsOfRoot root op reply q
pending_tells_no_root p q (SetValue id off value) reply answer root = tt
pending_tells_no_root p q (DeferFree id) reply answer root = tt
pending_tells_no_root p q Cancel reply answer root = tt
pending_tells_no_root p q op reply answer root = absurd answer

pub change_keeps_open : (v next : View) (op : Operation) (reply : Option Value) (level : ℕ) → 1 ≤ level → IsOpen v level stage.Work error.None → ChangesPending v next op reply → IsOpen next level stage.Work error.None
change_keeps_open v next op reply level some is_open changes = record {
  under_way = change_goes_on v next op reply level some is_open.under_way changes;
  keeps = keeps_on v next op reply changes.tells.keeps.entries changes.tells.call (pending_leaves (pending_in v) (pending_in v) op reply no_blocks changes.answer) (pending_allocates_none (pending_in v) (pending_in v) op reply changes.answer) (pending_tells_no_root (pending_in v) (pending_in v) op reply changes.answer) is_open.keeps;
}
