-- A history whose entries are the calls that a lane drew numbers for, one each: their numbers, their calls, and what those of them that are not
-- lost lead to.
use Rattle.std.proofs.Common.{◌≡◌, ℕ, zero, suc, ◌+◌, ◌<◌, All, Bool, true, false, not, cond, List, [], ◌∷◌, ◌++◌, filter, length, map, slice_index_or, refl, sym, ap, ◌∙◌, arith}
use Rattle.std.specs.List.{AllZip}
use Rattle.std.specs.List.Sorted.{IsStrictlyIncreasing}
use Rattle.std.proofs.lemmas.Bool.{false≢true}
use Rattle.std.proofs.lemmas.List.Elements.{All-head, All-tail}
use Rattle.solo_crash.specs.Alone.{MeansCalls, kept_numbered}
use Rattle.solo_memory.specs.Solo.{AreNumbered}
use Rattle.solo_model.specs.History.{ReplaysEntries, is_lost, without_lost}
use Rattle.solo_model.specs.Shown.{IsEntry}
use Rattle.pm_objects.specs.declared.history.Entry.{Entry}
use Rattle.pm_objects.specs.declared.pool.PoolView.{PoolView}
use Rattle.solo_script.specs.declared.script.ScriptLine.{ScriptLine}
use Rattle.solo_view.specs.View.{Numbered, View}
use Rattle.solo_world.specs.Crash.{loses}
use Rattle.solo_exec.specs.Calls.{call_of, numbers_of}
use Rattle.solo_exec.specs.Replies.{AreEntries}
use Rattle.solo_exec.specs.declared.calls.Names.{Names}
use Rattle.solo_exec.proofs.RisingCalls.{AreRising}
use Rattle.solo_exec.proofs.ShownCalls.{entry_answered}
use Rattle.solo_crash.specs.Pending.{acts_alone, acts_alone_behind, pending_from, state_alone, told_of}
use Rattle.solo_model.specs.Actions.{Pending, none_pending}
use Rattle.solo_model.specs.Step.{Act}

-- a call that the lane numbered, with these actions pending before it
abbrev pub act_with : Pending → Numbered → Act
act_with actions n = record { lane = 0; actions = actions; told = map told_of n.call }

-- the entry is that of the call of these lines, as the lane numbered it, whatever was pending
pub record IsShownAs (names : Names) (lines : List ScriptLine) (e : Entry) (n : Numbered) : Type 0 where
  pub number : e.number ≡ n.number
  pub call : e.call ≡ call_of names lines
  pub entry : (actions : Pending) → IsEntry e (act_with actions n)

abbrev pub AreShown : Names → List (List ScriptLine) → List Entry → List Numbered → Type 0
AreShown names [] [] [] = Unit {0}
AreShown names (call ∷ calls) (e ∷ history) (n ∷ entries) = IsShownAs names call e n × AreShown names calls history entries
AreShown names calls history entries = ⊥

-- its lines have rising numbers
abbrev pub Rises : List ScriptLine → Type 0
Rises call = IsStrictlyIncreasing (numbers_of call)

module _ (names : Names) where
  -- those of answered calls
  pub shown_answered : (calls : List (List ScriptLine)) (history : List Entry) (entries : List Numbered) → AreRising calls → AreEntries names calls history entries → AreShown names calls history entries
  shown_answered [] [] [] rising are = tt
  shown_answered [] [] (n ∷ entries) rising are = absurd are
  shown_answered [] (e ∷ history) entries rising are = absurd are
  shown_answered (call ∷ calls) [] entries rising are = absurd are
  shown_answered (call ∷ calls) (e ∷ history) [] rising are = absurd are
  shown_answered (call ∷ calls) (e ∷ history) (n ∷ entries) rising are = (
    record {
      number = are.0.number;
      call = are.0.call;
      entry = λ actions. entry_answered names call (All-head Rises call calls rising) actions e are.0.answer n.call are.0.call are.0.fate are.0.ended;
    },
    shown_answered calls history entries (All-tail Rises call calls rising) are.1,
  )

  -- and one more
  pub shown_more : (calls : List (List ScriptLine)) (history : List Entry) (entries : List Numbered) (call : List ScriptLine) (e : Entry) (n : Numbered)
      → AreShown names calls history entries → IsShownAs names call e n → AreShown names (calls ++ call ∷ []) (history ++ e ∷ []) (entries ++ n ∷ [])
  shown_more [] [] [] call e n are is = (is, tt)
  shown_more [] [] (m ∷ entries) call e n are is = absurd are
  shown_more [] (d ∷ history) entries call e n are is = absurd are
  shown_more (c ∷ calls) [] entries call e n are is = absurd are
  shown_more (c ∷ calls) (d ∷ history) [] call e n are is = absurd are
  shown_more (c ∷ calls) (d ∷ history) (m ∷ entries) call e n are is = (are.0, shown_more calls history entries call e n are.1 is)

  -- as many as there are calls
  pub as_many : (calls : List (List ScriptLine)) (history : List Entry) (entries : List Numbered) → AreShown names calls history entries → length history ≡ length calls
  as_many [] [] [] are = refl
  as_many [] [] (n ∷ entries) are = absurd are
  as_many [] (e ∷ history) entries are = absurd are
  as_many (call ∷ calls) [] entries are = absurd are
  as_many (call ∷ calls) (e ∷ history) [] are = absurd are
  as_many (call ∷ calls) (e ∷ history) (n ∷ entries) are = let rest = as_many calls history entries are.1 in omega (arith, rest)

  pub as_many_numbered : (calls : List (List ScriptLine)) (history : List Entry) (entries : List Numbered) → AreShown names calls history entries → length history ≡ length entries
  as_many_numbered [] [] [] are = refl
  as_many_numbered [] [] (n ∷ entries) are = absurd are
  as_many_numbered [] (e ∷ history) entries are = absurd are
  as_many_numbered (call ∷ calls) [] entries are = absurd are
  as_many_numbered (call ∷ calls) (e ∷ history) [] are = absurd are
  as_many_numbered (call ∷ calls) (e ∷ history) (n ∷ entries) are = let rest = as_many_numbered calls history entries are.1 in omega (arith, rest)

  -- the calls are those of the lines
  pub calls_are : (calls : List (List ScriptLine)) (history : List Entry) (entries : List Numbered) → AreShown names calls history entries → map (λ (e : Entry). e.call) history ≡ map (call_of names) calls
  calls_are [] [] [] are = refl
  calls_are [] [] (n ∷ entries) are = absurd are
  calls_are [] (e ∷ history) entries are = absurd are
  calls_are (call ∷ calls) [] entries are = absurd are
  calls_are (call ∷ calls) (e ∷ history) [] are = absurd are
  calls_are (call ∷ calls) (e ∷ history) (n ∷ entries) are = (λ i. are.0.call i ∷ calls_are calls history entries are.1 i)

  -- the numbers count on
  pub numbers_count : (calls : List (List ScriptLine)) (history : List Entry) (entries : List Numbered) (from : ℕ) → AreShown names calls history entries → AreNumbered from entries
      → (k : ℕ) (d : Entry) → k < length history → (slice_index_or history k d).number ≡ k + from
  unfolding AreNumbered
  numbers_count [] [] [] from are numbered k d low = absurd (omega (arith, low))
  numbers_count [] [] (n ∷ entries) from are numbered k d low = absurd are
  numbers_count [] (e ∷ history) entries from are numbered k d low = absurd are
  numbers_count (call ∷ calls) [] entries from are numbered k d low = absurd are
  numbers_count (call ∷ calls) (e ∷ history) [] from are numbered k d low = absurd are
  numbers_count (call ∷ calls) (e ∷ history) (n ∷ entries) from are numbered zero d low = let one = are.0.number in let first = numbered.0 in omega (arith, one, first)
  numbers_count (call ∷ calls) (e ∷ history) (n ∷ entries) from are numbered (suc k) d low =
      let rest = numbers_count calls history entries (from + 1) are.1 numbered.1 k d (omega (arith, low)) in omega (arith, rest)

  -- those that are not lost are the calls that the image keeps
  module _ (image : List ℕ) (w : View) where
    abbrev is_kept : Numbered → Bool
    is_kept n = not (loses image w n.number)

    abbrev IsFatedSo : Entry → Type 0
    IsFatedSo e = is_lost e.fate ≡ loses image w e.number

    -- the first of them is lost in both, or kept in both
    kept_more : (done : List Numbered) (e : Entry) (n : Numbered) (history : List Entry) (entries : List Numbered) → ((d : List Numbered) → AllZip IsEntry history (acts_alone_behind d entries))
        → ((actions : Pending) → IsEntry e (act_with actions n)) → (b c : Bool) → b ≡ c → AllZip IsEntry (cond (not b) (e ∷ history) history) (acts_alone_behind done (cond (not c) (n ∷ entries) entries))
    unfolding acts_alone_behind
    kept_more done e n history entries rest is true true same = rest done
    kept_more done e n history entries rest is true false same = absurd (false≢true (sym same))
    kept_more done e n history entries rest is false true same = absurd (false≢true same)
    kept_more done e n history entries rest is false false same = (is (pending_from none_pending done), rest (done ++ n ∷ []))

    kept_shown : (calls : List (List ScriptLine)) (history : List Entry) (entries : List Numbered) → AreShown names calls history entries
        → All IsFatedSo history → (done : List Numbered) → AllZip IsEntry (without_lost history) (acts_alone_behind done (filter is_kept entries))
    unfolding acts_alone_behind
    kept_shown [] [] [] are losses done = tt
    kept_shown [] [] (n ∷ entries) are losses done = absurd are
    kept_shown [] (e ∷ history) entries are losses done = absurd are
    kept_shown (call ∷ calls) [] entries are losses done = absurd are
    kept_shown (call ∷ calls) (e ∷ history) [] are losses done = absurd are
    kept_shown (call ∷ calls) (e ∷ history) (n ∷ entries) are losses done =
        kept_more done e n (without_lost history) (filter is_kept entries) (kept_shown calls history entries are.1 (All-tail IsFatedSo e history losses)) are.0.entry
        (is_lost e.fate) (loses image w n.number) (All-head IsFatedSo e history losses ∙ ap (loses image w) are.0.number)

    pub shown_replay : (calls : List (List ScriptLine)) (history : List Entry) (lanes zones : ℕ) (pool : PoolView) → AreShown names calls history w.entries
        → All IsFatedSo history → (m : MeansCalls image lanes zones pool (kept_numbered image w)) → ReplaysEntries pool (without_lost history) m.last
    shown_replay calls history lanes zones pool are losses m = record {
      acts = acts_alone (kept_numbered image w);
      are_entries = kept_shown calls history w.entries are losses [];
      end = state_alone m.last (kept_numbered image w);
      replays = m.replays;
      ends = refl;
    }
