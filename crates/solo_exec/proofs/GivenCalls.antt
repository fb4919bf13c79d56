-- The calls of a run so far, with the letters of their lines resolved by all that was given.
use Rattle.std.proofs.Common.{◌≡◌, ℕ, zero, suc, ◌-◌, ◌<◌, ◌≤◌, All, List, [], ◌∷◌, ◌++◌, map, length, take, drop, slice_index, refl, sym, ap, ◌∙◌, subst, arith, append-nil, append_assoc}
use Rattle.std.proofs.lemmas.List.{map-append}
use Rattle.std.proofs.lemmas.List.Elements.{All-append, All-cons, All-contains, All-head, All-nil, All-tail, All-weaker}
use Rattle.solo_made.specs.Made.{BlockLists}
use Rattle.solo_memory.specs.Solo.{Solo}
use Rattle.pm_objects.specs.declared.history.Entry.{Entry}
use Rattle.solo_pending.specs.declared.pending.PendingActions.{PendingActions}
use Rattle.solo_script.specs.declared.script.ScriptLine.{ScriptLine}
use Rattle.solo_view.specs.View.{Numbered, View}
use Rattle.solo_world.specs.Opening.{Opening}
use Rattle.solo_world.specs.declared.lane.Lane.{Lane}
use Rattle.solo_exec.specs.Calls.{call_lines, numbers_of}
use Rattle.solo_exec.specs.Letters.{AreInOrder, AreTold, KeepsGiven, Offsets, offset_given, offsets_of, resolved}
use Rattle.solo_exec.specs.Replies.{AreEntries}
use Rattle.solo_exec.specs.Running.{HasComeTo, HasHalted, HasHaltedIn}
use Rattle.solo_exec.specs.declared.calls.Names.{Names}
use Rattle.solo_exec.specs.declared.running.Halt.{Halt}
use Rattle.solo_exec.proofs.GivenLetters.{AreAbove, IsAbove, call_lines_resolved, calls_above, calls_stand, calls_stay, front_above, given_kept}

-- the lane came through the calls before these lines, whose letters are resolved by what was given; their lines are above all of these
pub record HasRunTo (o : Opening) (first : View) (lane : Lane Solo) (blocks : BlockLists) (actions : PendingActions) (names : Names) (given : Offsets) (script rest : List ScriptLine) (history : List Entry) : Type 0 where
  pub calls : List (List ScriptLine)
  pub are : call_lines script ≡ calls ++ call_lines rest
  pub above : All (AreAbove rest) calls
  pub came : HasComeTo o first lane blocks actions names (map (resolved given) calls) history

-- no call has no entry
pub none_yet : (names : Names) (history : List Entry) (entries : List Numbered) → AreEntries names [] history entries → history ≡ []
none_yet names [] [] are = refl
none_yet names [] (n ∷ entries) are = absurd are
none_yet names (e ∷ history) [] are = absurd are
none_yet names (e ∷ history) (n ∷ entries) are = absurd are

pub none_given : (names : Names) (history : List Entry) (entries : List Numbered) → AreEntries names [] history entries → (given : Offsets) → given ≡ [] → given ≡ offsets_of history
unfolding offsets_of
none_given names history entries are given none = none ∙ ap offsets_of (sym (none_yet names history entries are))

-- the last number of a call's lines is below those of the lines that it is above
last_below : (rest call : List ScriptLine) (given : Offsets) → AreAbove rest call → All (λ (other : ScriptLine). slice_index (numbers_of (resolved given call)) (length (resolved given call) - 1) < other.line) rest
last_below rest call given are = go call are.0 are.1 where
  go : (ls : List ScriptLine) → 1 ≤ length ls → All (IsAbove rest) ls → All (λ (other : ScriptLine). slice_index (numbers_of (resolved given ls)) (length (resolved given ls) - 1) < other.line) rest
  go [] some all = absurd (omega (arith, some))
  go (l ∷ []) some all = (All-head (IsAbove rest) l [] all).above
  go (l ∷ m ∷ ls) some all =
      let next : suc (length (resolved given ls)) ≡ suc (suc (length (resolved given ls))) - 1 = omega arith in
      let there : length (resolved given ls) ≡ suc (length (resolved given ls)) - 1 = omega arith in
      subst (λ (k : ℕ). All (λ (other : ScriptLine). slice_index (numbers_of (resolved given (l ∷ m ∷ ls))) k < other.line) rest) next
      (subst (λ (k : ℕ). All (λ (other : ScriptLine). slice_index (numbers_of (resolved given (m ∷ ls))) k < other.line) rest) (sym there) (go (m ∷ ls) (omega arith) (All-tail (IsAbove rest) l (m ∷ ls) all)))

-- so are those of the calls of a history
calls_below : (names : Names) (given : Offsets) (rest : List ScriptLine) (calls : List (List ScriptLine)) (history : List Entry) (entries : List Numbered) → AreEntries names (map (resolved given) calls) history entries → All (AreAbove rest) calls
    → All (λ (e : Entry). All (λ (other : ScriptLine). e.call.last < other.line) rest) history
calls_below names given rest [] [] [] are above = All-nil (λ (e : Entry). All (λ (other : ScriptLine). e.call.last < other.line) rest)
calls_below names given rest [] [] (n ∷ entries) are above = absurd are
calls_below names given rest [] (e ∷ history) [] are above = absurd are
calls_below names given rest [] (e ∷ history) (n ∷ entries) are above = absurd are
calls_below names given rest (call ∷ calls) [] [] are above = absurd are
calls_below names given rest (call ∷ calls) [] (n ∷ entries) are above = absurd are
calls_below names given rest (call ∷ calls) (e ∷ history) [] are above = absurd are
calls_below names given rest (call ∷ calls) (e ∷ history) (n ∷ entries) are above =
    All-cons (λ (x : Entry). All (λ (other : ScriptLine). x.call.last < other.line) rest) e history
    (subst (λ (last : ℕ). All (λ (other : ScriptLine). last < other.line) rest) (sym (ap (λ c. c.last) are.0.call)) (last_below rest call given (All-head (AreAbove rest) call calls above)))
    (calls_below names given rest calls history entries are.1 (All-tail (AreAbove rest) call calls above))

module _ (o : Opening) (first : View) (lane : Lane Solo) (blocks : BlockLists) (actions : PendingActions) (names : Names) (given : Offsets) (script rest : List ScriptLine) (history : List Entry) (r : HasRunTo o first lane blocks actions names given script rest history) where
  -- what the lines of its calls gave stays, whatever the next call gives
  pub told_still : (n : ℕ) (new : Offsets) → given ≡ offsets_of history → KeepsGiven (take n rest) given new → AreTold history new
  told_still n new is keeps e line there low =
      let below = All-contains (λ (x : Entry). All (λ (other : ScriptLine). x.call.last < other.line) rest) history e (calls_below names given rest r.calls history r.came.answered.view.entries r.came.answered.called.are r.above) there in
      given_kept (take n rest) given new keeps line (first_below n rest (All-weaker (λ (other : ScriptLine). e.call.last < other.line) (λ (other : ScriptLine). line < other.line) (λ x less. omega (arith, less, low)) rest below))
      ∙ ap (λ (g : Offsets). offset_given g line) is
    where
      first_below : (k : ℕ) (ls : List ScriptLine) → All (λ (other : ScriptLine). line < other.line) ls → All (λ (other : ScriptLine). line < other.line) (take k ls)
      first_below zero ls all = All-nil (λ (other : ScriptLine). line < other.line)
      first_below (suc k) [] all = All-nil (λ (other : ScriptLine). line < other.line)
      first_below (suc k) (l ∷ ls) all = All-cons (λ (other : ScriptLine). line < other.line) l (take k ls) (All-head (λ (other : ScriptLine). line < other.line) l ls all) (first_below k ls (All-tail (λ (other : ScriptLine). line < other.line) l ls all))

  module _ (order : AreInOrder rest) (n : ℕ) (some : 1 ≤ n) (inside : n ≤ length rest) (call behind : List ScriptLine) (front : call ≡ take n rest) (back : behind ≡ drop n rest) (split : call_lines rest ≡ call ∷ call_lines behind) (new : Offsets) (keeps : KeepsGiven call given new) where
    keeps_front : KeepsGiven (take n rest) given new
    keeps_front = subst (λ (ls : List ScriptLine). KeepsGiven ls given new) front keeps

    stay : map (resolved new) r.calls ≡ map (resolved given) r.calls
    stay = calls_stay (take n rest) r.calls given new keeps_front (calls_stand n rest r.calls r.above)

    taken_some : (k : ℕ) (ls : List ScriptLine) → 1 ≤ k → k ≤ length ls → 1 ≤ length (take k ls)
    taken_some zero ls low high = absurd (omega (arith, low))
    taken_some (suc k) [] low high = absurd (omega (arith, high))
    taken_some (suc k) (l ∷ ls) low high = omega arith

    -- it came through the next call too
    pub one_call_more : (lane2 : Lane Solo) (blocks2 : BlockLists) (actions2 : PendingActions) (history2 : List Entry)
        → (HasComeTo o first lane blocks actions names (map (resolved given) r.calls) history → HasComeTo o first lane2 blocks2 actions2 names (map (resolved given) r.calls ++ resolved new call ∷ []) history2)
        → HasRunTo o first lane2 blocks2 actions2 names new script behind history2
    one_call_more lane2 blocks2 actions2 history2 goes = record {
      calls = r.calls ++ call ∷ [];
      are = r.are ∙ (ap (λ (cs : List (List ScriptLine)). r.calls ++ cs) split ∙ sym (append_assoc r.calls (call ∷ []) (call_lines behind)));
      above = subst (λ (ls : List ScriptLine). All (AreAbove ls) (r.calls ++ call ∷ [])) (sym back)
          (All-append (AreAbove (drop n rest)) r.calls (call ∷ []) (calls_above n rest r.calls r.above)
          (All-cons (AreAbove (drop n rest)) call [] (subst (AreAbove (drop n rest)) (sym front) (taken_some n rest some inside, front_above n rest order)) (All-nil (AreAbove (drop n rest)))));
      came = subst (λ (cs : List (List ScriptLine)). HasComeTo o first lane2 blocks2 actions2 names cs history2)
          (sym (map-append (resolved new) r.calls (call ∷ []) ∙ ap (λ (cs : List (List ScriptLine)). cs ++ resolved new call ∷ []) stay))
          (goes r.came);
    }

    -- it came to its end in the next call
    pub halted_next : (lane2 : Lane Solo) (actions2 : PendingActions) (history2 : List Entry) (halt : Halt)
        → (HasComeTo o first lane blocks actions names (map (resolved given) r.calls) history → HasHalted o first lane2 actions2 names (map (resolved given) r.calls) (resolved new call) history2 halt)
        → HasHaltedIn o first lane2 actions2 names (call_lines (resolved new script)) history2 halt
    halted_next lane2 actions2 history2 halt ends = record {
      answered = map (resolved new) r.calls;
      lines = resolved new call;
      behind = map (resolved new) (call_lines behind);
      are = call_lines_resolved new script
          ∙ (ap (map (resolved new)) (r.are ∙ ap (λ (cs : List (List ScriptLine)). r.calls ++ cs) split) ∙ map-append (resolved new) r.calls (call ∷ call_lines behind));
      halted = subst (λ (cs : List (List ScriptLine)). HasHalted o first lane2 actions2 names cs (resolved new call) history2 halt) (sym stay) (ends r.came);
    }

  -- it came through all
  pub through_all : call_lines rest ≡ [] → call_lines (resolved given script) ≡ map (resolved given) r.calls
  through_all none = call_lines_resolved given script ∙ ap (map (resolved given)) (r.are ∙ (ap (λ (cs : List (List ScriptLine)). r.calls ++ cs) none ∙ append-nil r.calls))
