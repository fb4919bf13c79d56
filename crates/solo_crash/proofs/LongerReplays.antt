-- What a history makes of words, and of a pool, with one more entry; and a history without the entries that are left out.
use Rattle.std.proofs.Common.{◌≡◌, ℕ, Bool, true, false, cond, List, [], ◌∷◌, ◌++◌, refl, sym, ◌∙◌, subst}
use Rattle.std.specs.List.{filter}
use Rattle.pm_header.specs.declared.header.Header.{Header}
use Rattle.pm_objects.specs.declared.pool.PoolView.{PoolView}
use Rattle.solo_model.specs.Step.{Act, State, Step}
use Rattle.solo_model.specs.History.{opened}
use Rattle.solo_model.specs.Names.{Replays}
use Rattle.solo_world.specs.History.{Entry, made_final, replayed}
use Rattle.solo_crash.specs.Held.{HoldsPool}
use Rattle.solo_crash.specs.Pending.{act_behind, acts_of, state_after}
use Rattle.solo_crash.specs.OneLane.{HoldsReplay}
use Rattle.solo_crash.proofs.HeapWordsAlone.{held_by_heap}
use Rattle.solo_crash.proofs.HistoryActs.{acts_further}

-- no entry is left out
abbrev pub every : ℕ → Bool
every n = true

-- the words after all of these entries
abbrev pub words_after : (ℕ → ℕ) → List Entry → ℕ → ℕ
words_after w log i = replayed every log i (w i)

replayed_once_more : (log : List Entry) (e : Entry) (i x : ℕ) → replayed every (log ++ e ∷ []) i x ≡ made_final e.difference i (replayed every log i x)
unfolding replayed
replayed_once_more [] e i x = refl
replayed_once_more (d ∷ log) e i x = replayed_once_more log e i (made_final d.difference i x)

replays_once_more : (acts : List Act) (a : Act) (s m t : State) → Replays s acts m → Step m a t → Replays s (acts ++ a ∷ []) t
replays_once_more [] a s m t replays step = (t, subst (λ (x : State). Step x a t) replays step, refl)
replays_once_more (b ∷ acts) a s m t replays step = (replays.0, replays.1, replays_once_more acts a replays.0 m t replays.2 step)

-- the entry that comes last makes its step
pub holds_once_more : (w : ℕ → ℕ) (lanes zones : ℕ) (header : Header) (pool next : PoolView) (log : List Entry) (e : Entry) → (before : HoldsReplay (words_after w log) lanes zones header pool log)
    → Step (state_after before.last log) (act_behind log e) (state_after next (log ++ e ∷ [])) → HoldsPool (λ i. made_final e.difference i (words_after w log i)) lanes zones header next
    → HoldsReplay (words_after w (log ++ e ∷ [])) lanes zones header pool (log ++ e ∷ [])
holds_once_more w lanes zones header pool next log e before step holds = record {
  last = next;
  replays =
      subst (λ (acts : List Act). Replays (opened pool) acts (state_after next (log ++ e ∷ []))) (sym (acts_further [] log e))
      (replays_once_more (acts_of log) (act_behind log e) (opened pool) (state_after before.last log) (state_after next (log ++ e ∷ [])) before.replays step);
  holds =
      held_by_heap (λ i. made_final e.difference i (words_after w log i)) (words_after w (log ++ e ∷ [])) lanes zones header next holds
      (λ i heap. replayed_once_more log e i (w i));
}

passed_on : (log : List Entry) (e : Entry) (i x : ℕ) (b : Bool) → replayed every (cond b (e ∷ log) log) i x ≡ replayed every log i (cond b (made_final e.difference i x) x)
unfolding replayed
passed_on log e i x true = refl
passed_on log e i x false = refl

-- to leave entries out is to have the others alone
pub replayed_without : (keep : ℕ → Bool) (log : List Entry) (i x : ℕ) → replayed keep log i x ≡ replayed every (filter (λ (e : Entry). keep e.number) log) i x
unfolding replayed
replayed_without keep [] i x = refl
replayed_without keep (e ∷ log) i x =
    replayed_without keep log i (cond (keep e.number) (made_final e.difference i x) x)
    ∙ sym (passed_on (filter (λ (d : Entry). keep d.number) log) e i x (keep e.number))
