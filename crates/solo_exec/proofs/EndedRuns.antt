-- How a run came to its end: the calls that were answered, the one that was not, if it drew a number, and the history of both.
use Rattle.std.proofs.Common.{◌&&◌, ◌≡◌, ◌≢◌, ◌⊎◌, ⊎_elim, inl, inr, ℕ, zero, suc, ◌+◌, ◌<◌, ◌≤◌, ◌%◌, ◌^◌, Bool, true, false, not, eqb, ltb, All, List, [], ◌∷◌, ◌++◌, length, Option, None, Some, slice_index, slice_index_or, refl, sym, ap, ◌∙◌, subst, arith, length-append, append-nil, append_assoc}
use Rattle.std.specs.Option.{ForSome}
use Rattle.std.proofs.lemmas.Bool.{cases_lt, le-ltb, lt-ltb}
use Rattle.std.proofs.lemmas.List.{get_or_append_left, get_or_push}
use Rattle.std.proofs.lemmas.List.Elements.{All-cons, All-head, All-nil, All-tail}
use Rattle.std.proofs.lemmas.Option.{none-some}
use Rattle.solo_crash.proofs.AloneCourse.{begins_lane}
use Rattle.solo_crash.proofs.AloneImages.{ended_stays, words_fate}
use Rattle.solo_crash.proofs.SeenAlone.{works_where_seen}
use Rattle.solo_transaction.proofs.LeftCommits.{drawn_lost}
use Rattle.solo_crash.specs.Alone.{Begins, BeginsAlone, IsDrawnAt, Rests, WorksAlone, raises, standing}
use Rattle.solo_crash.proofs.Raising.{generation_raised}
use Rattle.solo_crash.specs.Leading.{Leads}
use Rattle.solo_crash.specs.Walking.{Walks}
use Rattle.solo_crash.proofs.Leading.{leads_then}
use Rattle.solo_lock.proofs.Drawless.{drawless}
use Rattle.solo_lock.proofs.Leads.{led_same}
use Rattle.solo_lock.specs.Leading.{DrawEnded}
use Rattle.solo_view.specs.Views.{after, after_all}
use Rattle.solo_memory.specs.Solo.{Sees, Solo}
use Rattle.solo_model.specs.History.{is_answered, is_lost}
use Rattle.pm_objects.specs.declared.history.Entry.{Entry}
use Rattle.pm_objects.specs.declared.history.Fate.{Fate}
use Rattle.pm_objects.specs.declared.pool.PoolView.{PoolView}
use Rattle.pm_header.specs.declared.header.Header.{Header}
use Rattle.pm_image.specs.Logs.{generation_word, seal_word}
use Rattle.solo_memory.specs.Keep.{IsKeptImage}
use Rattle.solo_view.specs.Area.{area_word}
use Rattle.solo_view.specs.Log.{Log, Phase, no_log}
use Rattle.solo_view.specs.Log.Phase.{Applying, Clearing, Drawn, Idle, Open, Retiring, Sealing}
use Rattle.solo_world.specs.Crash.{loses}
use Rattle.solo_world.specs.Records.{generation_of}
use Rattle.solo_view.proofs.SameLane.{same_lane, same_lane-then}
use Rattle.solo_view.specs.Constants.{IsSameLane}
use Rattle.solo_exec.specs.Bounds.{IsWalked, stores_of_call, stores_of_calls}
use Rattle.solo_exec.proofs.FewStores.{calls_front, walked, walked_then, walked_within, calls_within, led_stores}
use Rattle.solo_exec.specs.declared.ending.CallAnswer.{CallAnswer}
use Rattle.solo_exec.specs.declared.ending.CallAnswer.TheVariants as answer
use Rattle.pm_objects.specs.declared.history.TxErr.TheVariants as error
use Rattle.solo_script.specs.declared.script.ScriptLine.{ScriptLine}
use Rattle.pm_text.specs.declared.report.LaneEnd.{LaneEnd}
use Rattle.pm_text.specs.declared.report.LaneEnd.TheVariants as end
use Rattle.solo_view.specs.Steps.{Step}
use Rattle.solo_view.specs.View.{Numbered, View}
use Rattle.solo_world.specs.Opening.{Opening}
use Rattle.solo_world.proofs.CrashLaw.{all_drained}
use Rattle.solo_world.specs.declared.lane.Lane.{Lane}
use Rattle.solo_exec.specs.Calls.{call_of}
use Rattle.solo_exec.specs.Course.{BeginsNone, ComesToEnd, IsFinishMade, IsSpentAt}
use Rattle.solo_exec.specs.Histories.{closed_history, open_fate, settled_fate}
use Rattle.solo_exec.specs.Replies.{Values, AreEntries, IsOpenEntryOf}
use Rattle.solo_exec.specs.Progress.{IsCut, IsCutAtWork, IsCutPublishing, IsFlying, IsInFlight, IsUndrawn}
use Rattle.solo_exec.specs.Running.{HasAnsweredUpTo, HasCalled, HasClosed, HasClosedBehind, HasClosedStopped, HasGivenUp, HasStopped, HasStoppedGivingUp, open_entry}
use Rattle.solo_exec.specs.declared.calls.Names.{Names}
use Rattle.solo_exec.specs.declared.running.Halt.{Halt}
use Rattle.solo_exec.proofs.Along.{same_along}
use Rattle.solo_exec.proofs.RisingCalls.{AreRising}
use Rattle.solo_exec.proofs.ShownCalls.{entry_open}
use Rattle.solo_exec.proofs.ShownHistories.{AreShown, IsShownAs, Rises, numbers_count, shown_answered, shown_more, as_many}
use Rattle.solo_exec.proofs.StoppedEnd.{counted_exactly, stopped_at}
use Rattle.solo_exec.specs.Progress.{IsFlyingBy}

-- an answered call's entry is not lost
abbrev pub IsSettled : Entry → Type 0
IsSettled e = (is_answered e.fate ≡ true) × (is_lost e.fate ≡ false)

settled : (a : CallAnswer) (f : Fate) → f ≡ settled_fate a → (is_answered f ≡ true) × (is_lost f ≡ false)
settled (answer.Transaction error.None) f is = (ap is_answered is, ap is_lost is)
settled (answer.Transaction why) f is = (ap is_answered is, ap is_lost is)
settled (answer.Outside None) f is = (ap is_answered is, ap is_lost is)
settled (answer.Outside (Some r)) f is = (ap is_answered is, ap is_lost is)

-- a number that there is
abbrev option_or : Option ℕ → ℕ → ℕ
option_or None d = d
option_or (Some x) d = x

same_number : (x y : ℕ) → Some x ≡ Some y → x ≡ y
same_number x y same = ap (λ (n : Option ℕ). option_or n 0) same

-- of each of them
pub settled_at : (names : Names) (calls : List (List ScriptLine)) (history : List Entry) (entries : List Numbered) → AreEntries names calls history entries → (k : ℕ) (d : Entry) → k < length history → IsSettled (slice_index_or history k d)
settled_at names [] [] [] are k d low = absurd (omega (arith, low))
settled_at names [] [] (n ∷ entries) are k d low = absurd are
settled_at names [] (e ∷ history) entries are k d low = absurd are
settled_at names (call ∷ calls) [] entries are k d low = absurd are
settled_at names (call ∷ calls) (e ∷ history) [] are k d low = absurd are
settled_at names (call ∷ calls) (e ∷ history) (n ∷ entries) are zero d low = settled are.0.answer e.fate are.0.fate
settled_at names (call ∷ calls) (e ∷ history) (n ∷ entries) are (suc k) d low = settled_at names calls history entries are.1 k d (omega (arith, low))

rising_front : (calls more : List (List ScriptLine)) → AreRising (calls ++ more) → AreRising calls
rising_front [] more rising = All-nil Rises
rising_front (call ∷ calls) more rising = All-cons Rises call calls (All-head Rises call (calls ++ more) rising) (rising_front calls more (All-tail Rises call (calls ++ more) rising))

rising_next : (calls : List (List ScriptLine)) (call : List ScriptLine) (more : List (List ScriptLine)) → AreRising (calls ++ call ∷ more) → Rises call
rising_next [] call more rising = All-head Rises call more rising
rising_next (c ∷ calls) call more rising = rising_next calls call more (All-tail Rises c (calls ++ call ∷ more) rising)

-- a stop number that there is
abbrev stop_number : LaneEnd → ℕ
stop_number end.Ended = 0
stop_number (end.Stopped n) = n
stop_number (end.Spent n) = 0

same_stop : (x y : ℕ) → end.Stopped x ≡ end.Stopped y → x ≡ y
same_stop x y same = ap stop_number same

-- steps that a lane alone walks lead on, where they draw no number
walks_end : (v w : View) (steps : List Step) → Walks v steps w → w ≡ after_all v steps
unfolding Walks after_all
walks_end v w [] walks = walks
walks_end v w (s ∷ steps) walks = walks_end (after v s) w steps walks.2

drawn_lead : (v w : View) (steps : List Step) → Walks v steps w → DrawEnded v steps → Leads v steps w
unfolding Walks DrawEnded Leads
drawn_lead v w [] walks draws = walks
drawn_lead v w (s ∷ steps) walks draws = (walks.0, walks.1, draws.0, drawn_lead (after v s) w steps walks.2 draws.1)

walks_lead : (v w : View) (steps : List Step) → Walks v steps w → w.entries ≡ v.entries → Leads v steps w
walks_lead v w steps walks same =
    drawn_lead v w steps walks (drawless v steps (let many : length (after_all v steps).entries ≡ length v.entries = ap (λ (u : View). length u.entries) (sym (walks_end v w steps walks)) ∙ ap length same in omega (arith, many)))

-- at its last view the lane was cut short in a call of the run, which it began at the view before
pub record IsCutAt (o : Opening) (first : View) (lane : Lane Solo) (names : Names) (all : List (List ScriptLine)) (before last : View) : Type 0 where
  pub answered : List (List ScriptLine)
  pub lines : List ScriptLine
  pub behind : List (List ScriptLine)
  pub are : all ≡ answered ++ lines ∷ behind
  pub history : List Entry
  pub called : HasCalled o first names answered history before
  pub values : Values
  pub cut : IsCut (standing o before) before lane names lines values
  pub is : last ≡ cut.view

-- each entry is lost exactly where the image loses its call, if the open call is decided exactly where the image has a seal, or not this generation
abbrev pub AreFated : Opening → View → View → Bool → ℕ → List Entry → Type 0
AreFated o first last decided generation history =
    (header : Header) (pool : PoolView) → BeginsAlone o header pool first → (keep : ℕ) (left : List ℕ) → IsKeptImage keep last.words (last.changes ∷ []) left → decided ≡ not (eqb (seal_word left 0) 0 && eqb (generation_word left 0) generation)
    → (k : ℕ) (d : Entry) → k < length history → is_lost (slice_index_or history k d).fate ≡ loses left last (slice_index_or history k d).number

-- from its last call that was answered the lane came to its last view by steps behind which it rests
pub record HasRested (middle last : View) : Type 0 where
  pub steps : List Step
  pub leads : Leads middle steps last
  pub rests : Rests last

-- the run is over at its last view, where the lane rests behind its calls, or was cut short in one
pub record IsEnded (o : Opening) (first : View) (lane : Lane Solo) (names : Names) (all : List (List ScriptLine)) (decided : Bool) (generation : ℕ) (history : List Entry) (ended : LaneEnd) : Type 0 where
  pub answered : List (List ScriptLine)
  pub behind : List (List ScriptLine)
  pub are : all ≡ answered ++ behind
  pub middle : View
  pub last : View
  pub settled : List Entry
  pub others : List Entry
  pub settled_first : history ≡ settled ++ others
  pub unanswered : All (λ (e : Entry). IsOpenEntryOf names behind e middle last) others
  pub called : HasCalled o first names answered settled middle
  pub same : IsSameLane middle last
  pub bound : IsWalked first last (stores_of_calls names all)
  pub seen : Sees lane.memory last
  pub ends : ComesToEnd names behind ended middle last
  pub numbered : List (List ScriptLine)
  pub rest : List (List ScriptLine)
  pub calls_are : all ≡ numbered ++ rest
  pub shown : AreShown names numbered history last.entries
  pub most : length history ≤ length answered + 1
  pub fates : (k : ℕ) (d : Entry) → k < length history → is_answered (slice_index_or history k d).fate ≡ ltb k (length answered)
  pub whole : ended ≡ end.Ended → rest ≡ []
  pub unstopped : ((calls : ℕ) → ended ≡ end.Stopped calls → ⊥) → length history ≡ length answered
  pub at_stop : (calls : ℕ) → ended ≡ end.Stopped calls → first.stop ≡ Some calls
  pub fated : AreFated o first last decided generation history
  pub stands : HasRested middle last ⊎ IsCutAt o first lane names all middle last

module _ (o : Opening) (first : View) (names : Names) (all : List (List ScriptLine)) (rising : AreRising all) (decided : Bool) where
  -- the entries of answered calls alone
  module _ (calls behind : List (List ScriptLine)) (are : all ≡ calls ++ behind) (history : List Entry) (entries : List Numbered) (entered : AreEntries names calls history entries) where
    calls_rise : AreRising calls
    calls_rise = rising_front calls behind (subst AreRising are rising)

    pub all_shown : AreShown names calls history entries
    all_shown = shown_answered names calls history entries calls_rise entered

    pub as_many_calls : length history ≡ length calls
    as_many_calls = as_many names calls history entries all_shown

    pub all_answered : (k : ℕ) (d : Entry) → k < length history → is_answered (slice_index_or history k d).fate ≡ ltb k (length calls)
    all_answered k d low = (settled_at names calls history entries entered k d low).0 ∙ sym (lt-ltb k (length calls) (let many = as_many_calls in omega (arith, low, many)))

    -- where no call is in flight none is lost
    pub at_rest_fated : (last : View) → ((n : ℕ) → (last.log.phase ≡ Idle) ⊎ (last.number ≢ Some n)) → (generation : ℕ) → AreFated o first last decided generation history
    at_rest_fated last over generation header pool begins keep left kept decides k d low =
        (settled_at names calls history entries entered k d low).1 ∙ sym (ended_stays last left (slice_index_or history k d).number (over (slice_index_or history k d).number))

  -- in one the lane stopped
  module _ (lane : Lane Solo) (answered : List (List ScriptLine)) (lines : List ScriptLine) (behind : List (List ScriptLine)) (are : all ≡ answered ++ lines ∷ behind) (history : List Entry) (halt : Halt) where
    stores_within : stores_of_calls names answered + stores_of_call names lines ≤ stores_of_calls names all
    stores_within = subst (λ (calls : List (List ScriptLine)). stores_of_calls names answered + stores_of_call names lines ≤ stores_of_calls names calls) (sym are) (calls_within names answered behind lines)

    -- with those of the call in which the lane came to its end
    within_all : {before : View} (last : View) → IsWalked first before (stores_of_calls names answered) → IsWalked before last (stores_of_call names lines) → IsWalked first last (stores_of_calls names all)
    within_all {before} last first_bound last_bound =
        walked_within first last (stores_of_calls names answered + stores_of_call names lines) (stores_of_calls names all) stores_within
        (walked_then first before last (stores_of_calls names answered) (stores_of_call names lines) first_bound last_bound)

    module _ (fits : ForSome first.stop (λ n. n < 2 ^ 64)) (s : HasStopped o first lane names answered lines history halt) where
      abbrev last : View
      last = s.halted.cut.view

      abbrev before : View
      before = s.before

      same : IsSameLane first last
      same = same_lane-then first before last s.called.same s.halted.cut.same

      many : length history ≡ length answered
      many = as_many_calls answered (lines ∷ behind) are history before.entries s.called.are

      exact : last.calls % 2 ^ 64 ≡ last.calls
      exact = counted_exactly first last lane.memory same s.halted.cut.seen fits s.halted.cut.at_stop

      stopped_calls : (calls : ℕ) → end.Stopped (last.calls % 2 ^ 64) ≡ end.Stopped calls → last.calls ≡ calls
      stopped_calls calls same = sym exact ∙ same_stop (last.calls % 2 ^ 64) calls same

      -- with a history whose entries are these calls'
      ended_with : (numbered rest : List (List ScriptLine)) (full others : List Entry) → full ≡ history ++ others → All (λ (e : Entry). IsOpenEntryOf names (lines ∷ behind) e before last) others → all ≡ numbered ++ rest → AreShown names numbered full last.entries → length full ≤ length answered + 1
          → ((k : ℕ) (d : Entry) → k < length full → is_answered (slice_index_or full k d).fate ≡ ltb k (length answered)) → AreFated o first last decided halt.generation full → IsEnded o first lane names all decided halt.generation full halt.end
      ended_with numbered rest full others settled_first unanswered calls_are shown most fates fated =
          subst (IsEnded o first lane names all decided halt.generation full) (sym s.ends) (record {
            answered = answered;
            behind = lines ∷ behind;
            are = are;
            middle = before;
            settled = history;
            others = others;
            settled_first = settled_first;
            unanswered = unanswered;
            called = s.called;
            same = s.halted.cut.same;
            last = last;
            bound = within_all last s.called.bound s.halted.cut.bound;
            seen = s.halted.cut.seen;
            ends = inl (record { call = lines; behind = behind; are = refl; stops = s.halted.cut.stops; at_stop = sym exact });
            numbered = numbered;
            rest = rest;
            calls_are = calls_are;
            shown = shown;
            most = most;
            fates = fates;
            whole = λ same. absurd (let clash : end.Stopped (last.calls % 2 ^ 64) ≡ end.Ended = same in cc);
            unstopped = λ other. absurd (other (last.calls % 2 ^ 64) refl);
            at_stop = λ calls is. stopped_at first last lane.memory same s.halted.cut.seen s.halted.cut.at_stop ∙ ap Some (stopped_calls calls is);
            fated = fated;
            stands = inr (record {
              answered = answered;
              lines = lines;
              behind = behind;
              are = are;
              history = history;
              called = s.called;
              values = s.reply.values;
              cut = s.halted.cut;
              is = refl;
            });
          })

      -- before the call drew a number
      pub ended_undrawn : IsUndrawn before last → IsEnded o first lane names all decided halt.generation (closed_history history halt.is_open decided) halt.end
      ended_undrawn u =
          let none : halt.is_open ≡ None = s.is_open ∙ ap (λ (x : Option ℕ). open_entry names lines x s.reply) (s.halted.numbered ∙ u.number) in
          subst (λ (x : Option Entry). IsEnded o first lane names all decided halt.generation (closed_history history x decided) halt.end) (sym none)
          (ended_with answered (lines ∷ behind) history [] (sym (append-nil history)) (All-nil (λ (e : Entry). IsOpenEntryOf names (lines ∷ behind) e before last)) are (subst (AreShown names answered history) (sym u.entries) (all_shown answered (lines ∷ behind) are history before.entries s.called.are)) (let m = many in omega (arith, m))
          (all_answered answered (lines ∷ behind) are history before.entries s.called.are)
          (λ header pool begins keep left kept decides k d low.
          (settled_at names answered history before.entries s.called.are k d low).1 ∙ sym (ended_stays last left (slice_index_or history k d).number (inr (λ some. none-some (slice_index_or history k d).number (sym u.number ∙ some))))))

      -- where it is decided exactly where an image has a seal, or another generation than that with which it began
      abbrev IsFatedBy : ℕ → Type 0
      IsFatedBy n =
          (header : Header) (pool : PoolView) → BeginsAlone o header pool first → (keep : ℕ) (left : List ℕ) → IsKeptImage keep last.words (last.changes ∷ []) left
          → loses left last n ≡ (eqb (seal_word left 0) 0 && eqb (generation_word left 0) (generation_of before))

      -- or behind that
      module _ (f : IsInFlight before names lines s.reply.values last) (own : IsFatedBy f.number) where
        abbrev pub flying : Entry
        flying = record { number = f.number; call = call_of names lines; reply = s.reply; fate = open_fate decided }

        is_flying : closed_history history halt.is_open decided ≡ history ++ flying ∷ []
        is_flying = ap (λ (x : Option Entry). closed_history history x decided) (s.is_open ∙ ap (λ (x : Option ℕ). open_entry names lines x s.reply) (s.halted.numbered ∙ f.drawn))

        open_fate_is : (b : Bool) → (is_answered (open_fate b) ≡ false)
        open_fate_is true = refl
        open_fate_is false = refl

        flying_shown : IsShownAs names lines flying (record { number = f.number; call = f.told })
        flying_shown = record {
          number = refl;
          call = refl;
          entry = λ actions. entry_open names lines (rising_next answered lines behind (subst AreRising are rising)) actions flying f.told decided refl s.halted.unanswered f.done f.gave f.begun refl;
        }

        flying_fates : (k : ℕ) (d : Entry) → k < length (history ++ flying ∷ []) → is_answered (slice_index_or (history ++ flying ∷ []) k d).fate ≡ ltb k (length answered)
        flying_fates k d low = ⊎_elim
            (λ (front : k < length history). ap (λ (e : Entry). is_answered e.fate) (get_or_append_left history (flying ∷ []) d k front) ∙ all_answered answered (lines ∷ behind) are history before.entries s.called.are k d front)
            (λ (high : length history ≤ k).
            let all = length-append history (flying ∷ []) in
            let m = many in
            ap (λ (e : Entry). is_answered e.fate) (get_or_push history flying d k (omega (arith, high, low, all))) ∙ open_fate_is decided ∙ sym (le-ltb k (length answered) (omega (arith, high, m))))
            (cases_lt k (length history))

        abbrev full : List Entry
        full = history ++ flying ∷ []

        full_shown : AreShown names (answered ++ lines ∷ []) full last.entries
        full_shown =
            subst (AreShown names (answered ++ lines ∷ []) full) (sym f.entries)
            (shown_more names answered history before.entries lines flying (record { number = f.number; call = f.told }) (all_shown answered (lines ∷ behind) are history before.entries s.called.are) flying_shown)

        -- it is the entry of the first call that was not answered
        open_flying : All (λ (e : Entry). IsOpenEntryOf names (lines ∷ behind) e before last) (flying ∷ [])
        open_flying =
            All-cons (λ (e : Entry). IsOpenEntryOf names (lines ∷ behind) e before last) flying []
            (record { call = lines; behind = behind; are = refl; of_call = refl; told = f.told; entries = f.entries; done = f.done; gave = f.gave })
            (All-nil (λ (e : Entry). IsOpenEntryOf names (lines ∷ behind) e before last))

        -- the numbers count from 1
        number_at : (k : ℕ) (d : Entry) → k < length full → (slice_index_or full k d).number ≡ k + 1
        number_at = numbers_count names (answered ++ lines ∷ []) full last.entries 1 full_shown s.halted.cut.seen.numbers

        long : length full ≡ length history + 1
        long = let all = length-append history (flying ∷ []) in omega (arith, all)

        number_is : f.number ≡ length history + 1
        number_is = let l = long in sym (ap (λ (e : Entry). e.number) (get_or_push history flying flying (length history) refl)) ∙ number_at (length history) flying (omega (arith, l))

        -- an earlier call is not the one in flight
        earlier_kept : (left : List ℕ) (k : ℕ) (d : Entry) → k < length history → is_lost (slice_index_or full k d).fate ≡ loses left last (slice_index_or full k d).number
        earlier_kept left k d low =
            let e : slice_index_or full k d ≡ slice_index_or history k d = get_or_append_left history (flying ∷ []) d k low in
            let l = long in
            let here = number_at k d (omega (arith, low, l)) in
            let there = number_is in
            ap (λ (x : Entry). is_lost x.fate) e ∙ (settled_at names answered history before.entries s.called.are k d low).1
            ∙ sym (ended_stays last left (slice_index_or full k d).number (inr (λ some.
            let same : f.number ≡ (slice_index_or full k d).number = same_number f.number (slice_index_or full k d).number (sym f.drawn ∙ some) in absurd (omega (arith, low, here, there, same)))))

        lost_open : (b : Bool) → is_lost (open_fate b) ≡ not b
        lost_open true = refl
        lost_open false = refl

        twice_not : (b : Bool) → not (not b) ≡ b
        twice_not true = refl
        twice_not false = refl

        -- it is lost where the image has no seal, and its generation still
        flying_fated : AreFated o first last decided halt.generation full
        flying_fated header pool begins keep left kept decides k d low = ⊎_elim
            (λ (front : k < length history). earlier_kept left k d front)
            (λ (high : length history ≤ k).
            let l = long in
            let e : slice_index_or full k d ≡ flying = get_or_push history flying d k (omega (arith, high, low, l)) in
            ap (λ (x : Entry). is_lost x.fate) e ∙ lost_open decided ∙ ap not decides ∙ twice_not (eqb (seal_word left 0) 0 && eqb (generation_word left 0) halt.generation)
            ∙ ap (λ g. eqb (seal_word left 0) 0 && eqb (generation_word left 0) g) s.generation
            ∙ sym (ap (λ (x : Entry). loses left last x.number) e ∙ own header pool begins keep left kept))
            (cases_lt k (length history))

        pub ended_flying : IsEnded o first lane names all decided halt.generation (closed_history history halt.is_open decided) halt.end
        ended_flying =
            subst (λ (full : List Entry). IsEnded o first lane names all decided halt.generation full halt.end) (sym is_flying)
            (ended_with (answered ++ lines ∷ []) behind (history ++ flying ∷ []) (flying ∷ []) refl open_flying (are ∙ sym (append_assoc answered (lines ∷ []) behind))
            full_shown
            (let m = many in let all = length-append history (flying ∷ []) in omega (arith, m, all)) flying_fates flying_fated)

      -- by steps that it made at work
      module _ (cut : IsCutAtWork (standing o before) before names lines s.reply.values last) (f : IsFlying before names lines s.reply.values (raises cut.steps) last) where
        -- the generation since the call began
        raised_since : (header : Header) (pool : PoolView) → WorksAlone (standing o before) header pool before cut.steps last → generation_of last ≡ generation_of before + raises cut.steps
        raised_since header pool works =
            let from : generation_of before ≡ generation_word before.words 0 = ap (λ n. slice_index before.words (area_word n)) (begins_lane (standing o before) header pool before works.begins) in
            generation_raised (standing o before) header pool before last cut.steps works ∙ ap (λ g. g + raises cut.steps) (sym from)

        flying_at : (phase : Phase) → generation_of last ≡ generation_of before + raises cut.steps → IsFlyingBy (raises cut.steps) phase → IsDrawnAt (generation_of before) last phase
        flying_at Idle raised flies = omega (arith, raised, flies)
        flying_at (Open slot pair) raised flies = absurd flies
        flying_at Drawn raised flies = omega (arith, raised, flies)
        flying_at Sealing raised flies = omega (arith, raised, flies)
        flying_at (Applying applied) raised flies = tt
        flying_at Clearing raised flies = omega (arith, raised, flies)
        flying_at Retiring raised flies = omega (arith, raised, flies)

        pub at_work_fated : IsFatedBy f.flight.number
        at_work_fated header pool begins keep left kept =
            let works = works_where_seen (standing o before) header pool lane.memory before last cut.steps (s.called.again header pool (inl begins)) cut.leads s.halted.cut.seen in
            words_fate (standing o before) header pool before last cut.steps works keep left kept (generation_of before) f.flight.number f.flight.drawn (flying_at last.log.phase (raised_since header pool works) f.flies)

      -- or publishing what it made and freed
      pub publishing_fated : (cut : IsCutPublishing (standing o before) before names lines s.reply.values last) → IsFatedBy cut.flight.number
      publishing_fated cut header pool begins keep left kept =
          let here : Begins (standing o before) header pool before = s.called.again header pool (inl begins) in
          let has = cut.publishing header pool here in
          let from : generation_of before ≡ generation_word before.words 0 = ap (λ n. slice_index before.words (area_word n)) (begins_lane (standing o before) header pool before here) in
          drawn_lost (standing o before) header pool cut.flight.number last has.has keep left kept ∙ ap (λ g. eqb (seal_word left 0) 0 && eqb (generation_word left 0) g) (has.generation ∙ sym from)

      pub ended_cut : IsEnded o first lane names all decided halt.generation (closed_history history halt.is_open decided) halt.end
      ended_cut = ⊎_elim
          (λ (cut : IsCutAtWork (standing o before) before names lines s.reply.values last). ⊎_elim
          (λ (u : IsUndrawn before last). ended_undrawn u)
          (λ (f : IsFlying before names lines s.reply.values (raises cut.steps) last). ended_flying f.flight (at_work_fated cut f))
          cut.came)
          (λ (cut : IsCutPublishing (standing o before) before names lines s.reply.values last). ended_flying cut.flight (publishing_fated cut))
          s.halted.cut.way

  -- behind its calls the lane gave up what was pending, or stopped as it did
  module _ (lane : Lane Solo) (history : List Entry) (halt : Halt) (ended : LaneEnd) (v : View) (u : HasAnsweredUpTo o first names all history ended v) (no_call : halt.is_open ≡ None) where
    abbrev middle : View
    middle = u.before

    as_many_answered : length history ≡ length u.answered
    as_many_answered = as_many_calls u.answered u.behind u.are history middle.entries u.called.are

    stores_before : stores_of_calls names u.answered ≤ stores_of_calls names all
    stores_before = subst (λ (calls : List (List ScriptLine)). stores_of_calls names u.answered ≤ stores_of_calls names calls) (sym u.are) (calls_front names u.answered u.behind)

    -- at the end it is none that stopped in a call
    not_stopped : (stop : ℕ) → ended ≡ end.Stopped stop → ⊥
    not_stopped stop same = ⊎_elim
        (λ (t : (ended ≡ end.Ended) × (u.behind ≡ []) × (v ≡ middle)). let clash : end.Ended ≡ end.Stopped stop = sym t.0 ∙ same in absurd cc)
        (λ (t : (line : ℕ) × (ended ≡ end.Spent line) × IsSpentAt u.behind line middle v). let clash : end.Spent t.0 ≡ end.Stopped stop = sym t.1 ∙ same in absurd cc)
        u.comes

    begins_none : BeginsNone u.behind middle v
    begins_none = ⊎_elim
        (λ (t : (ended ≡ end.Ended) × (u.behind ≡ []) × (v ≡ middle)). inl (t.1, t.2))
        (λ (t : (line : ℕ) × (ended ≡ end.Spent line) × IsSpentAt u.behind line middle v). inr (t.0, t.2))
        u.comes

    -- with its last view, at rest
    module _ (w : View) (walks : IsWalked v w 0) (same : IsSameLane v w) (seen : Sees lane.memory w) (rests : Rests w) (entries : w.entries ≡ v.entries) (number : w.number ≡ v.number) (log : w.log ≡ v.log) where
      same_all : IsSameLane middle w
      same_all = same_lane-then middle v w (led_same middle v u.free.led) same

      bound_all : IsWalked first w (stores_of_calls names all)
      bound_all =
          walked_within first w (stores_of_calls names u.answered + (0 + 0)) (stores_of_calls names all) (let few = stores_before in omega (arith, few))
          (walked_then first middle w (stores_of_calls names u.answered) (0 + 0) u.called.bound
          (walked_then middle v w 0 0 (walked middle v 0 u.free.led.steps u.free.led.leads (let none = led_stores middle v u.free.led in omega (arith, none))) walks))

      over : (n : ℕ) → (w.log.phase ≡ Idle) ⊎ (w.number ≢ Some n)
      over n = ⊎_elim
          (λ (idle : v.log ≡ no_log Idle). inl (ap (λ (l : Log). l.phase) (log ∙ idle)))
          (λ (begun : (v.log ≡ no_log (Open [] [])) × (v.number ≡ None) × (v.call ≡ [])). inr (λ some. none-some n (sym (number ∙ begun.1) ∙ some)))
          u.fresh

      closed_with : (last : LaneEnd) → halt.end ≡ last → ComesToEnd names u.behind last middle w → (last ≡ end.Ended → u.behind ≡ []) → ((calls : ℕ) → last ≡ end.Stopped calls → first.stop ≡ Some calls)
          → IsEnded o first lane names all decided halt.generation (closed_history history halt.is_open decided) halt.end
      closed_with last ends comes whole at_stop =
          subst (λ (x : Option Entry). IsEnded o first lane names all decided halt.generation (closed_history history x decided) halt.end) (sym no_call)
          (subst (IsEnded o first lane names all decided halt.generation history) (sym ends) (record {
            answered = u.answered;
            behind = u.behind;
            are = u.are;
            middle = middle;
            settled = history;
            others = [];
            settled_first = sym (append-nil history);
            unanswered = All-nil (λ (e : Entry). IsOpenEntryOf names u.behind e middle w);
            called = u.called;
            same = same_all;
            last = w;
            bound = bound_all;
            seen = seen;
            ends = comes;
            numbered = u.answered;
            rest = u.behind;
            calls_are = u.are;
            shown = subst (AreShown names u.answered history) (sym (entries ∙ u.free.undrawn)) (all_shown u.answered u.behind u.are history middle.entries u.called.are);
            most = (let many = as_many_answered in omega (arith, many));
            fates = all_answered u.answered u.behind u.are history middle.entries u.called.are;
            whole = whole;
            unstopped = λ other. as_many_answered;
            at_stop = at_stop;
            fated = at_rest_fated u.answered u.behind u.are history middle.entries u.called.are w over halt.generation;
            stands = inl (record {
              steps = u.free.led.steps ++ walks.steps;
              leads = leads_then middle v w u.free.led.steps walks.steps u.free.led.leads (walks_lead v w walks.steps walks.walks entries);
              rests = rests;
            });
          }))

    pub ended_giving_up : HasGivenUp lane v → halt.end ≡ ended → IsEnded o first lane names all decided halt.generation (closed_history history halt.is_open decided) halt.end
    ended_giving_up g ends =
        closed_with g.view g.walks g.same g.seen g.rests g.entries g.number g.phase ended ends
        (⊎_elim
        (λ (t : (ended ≡ end.Ended) × (u.behind ≡ []) × (v ≡ middle)). subst (λ (e : LaneEnd). ComesToEnd names u.behind e middle g.view) (sym t.0) (t.1, subst (λ (x : View). IsFinishMade x g.view) t.2 g.made))
        (λ (t : (line : ℕ) × (ended ≡ end.Spent line) × IsSpentAt u.behind line middle v). subst (λ (e : LaneEnd). ComesToEnd names u.behind e middle g.view) (sym t.1) (v, t.2, g.made))
        u.comes)
        (λ last. ⊎_elim
        (λ (t : (ended ≡ end.Ended) × (u.behind ≡ []) × (v ≡ middle)). t.1)
        (λ (t : (line : ℕ) × (ended ≡ end.Spent line) × IsSpentAt u.behind line middle v). absurd (let clash : end.Spent t.0 ≡ end.Ended = sym t.1 ∙ last in cc))
        u.comes)
        (λ calls last. absurd (not_stopped calls last))

    pub ended_stopping : ForSome first.stop (λ n. n < 2 ^ 64) → (g : HasStoppedGivingUp lane v) → halt.end ≡ end.Stopped (g.view.calls % 2 ^ 64) → IsEnded o first lane names all decided halt.generation (closed_history history halt.is_open decided) halt.end
    ended_stopping fits g ends =
        let w : View = g.view in
        let same : IsSameLane first w = same_lane-then first middle w u.called.same (same_all w g.walks g.same g.seen g.rests g.entries g.number g.phase) in
        let exact : w.calls % 2 ^ 64 ≡ w.calls = counted_exactly first w lane.memory same g.seen fits g.at_stop in
        closed_with w g.walks g.same g.seen g.rests g.entries g.number g.phase (end.Stopped (w.calls % 2 ^ 64)) ends
        (inr (record { before = v; begins_none = begins_none; stops = g.stops; at_stop = sym exact }))
        (λ last. absurd (let clash : end.Stopped (w.calls % 2 ^ 64) ≡ end.Ended = last in cc))
        (λ calls last. stopped_at first w lane.memory same g.seen g.at_stop ∙ ap Some (sym exact ∙ same_stop (w.calls % 2 ^ 64) calls last))

  -- however it came to its end
  pub ended_run : (lane : Lane Solo) (history : List Entry) (halt : Halt) → ForSome first.stop (λ n. n < 2 ^ 64) → HasClosed o first lane names all history halt
      → IsEnded o first lane names all decided halt.generation (closed_history history halt.is_open decided) halt.end
  ended_run lane history halt fits run = ⊎_elim
      (λ (s : HasClosedStopped o first lane names all history halt). ended_cut lane s.answered s.lines s.behind s.are history halt fits s.stopped)
      (λ (b : HasClosedBehind o first lane names all history halt). ⊎_elim
      (λ (t : HasGivenUp lane b.view × (halt.end ≡ b.ended)). ended_giving_up lane history halt b.ended b.view b.up_to b.is_open t.0 t.1)
      (λ (t : (stopped : HasStoppedGivingUp lane b.view) × (halt.end ≡ end.Stopped (stopped.view.calls % 2 ^ 64))). ended_stopping lane history halt b.ended b.view b.up_to b.is_open fits t.0 t.1)
      b.closes)
      run
