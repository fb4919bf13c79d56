-- WHAT THE LANES OF A RUN REPORT is a history: it is the plain model's, each lane's part is the first
-- of its calls in the script, and the image that is left means it; so does each other that may
-- survive, with the fates that it gives to the calls that were not answered.
use Rattle.std.proofs.Common.{◌≡◌, ⊎_elim, ℕ, ◌+◌, ◌<◌, ◌≤◌, ◌==◌, if◌then◌else◌, Bool, true, false, All, Contains, List, [], ◌∷◌, ◌++◌, length, map, get_or, reverse, take, option_to_list, Option, Some, None, refl, sym, ap, ◌∙◌, subst, arith}
use Rattle.std.specs.List.{AllZip}
use Rattle.std.specs.Option.{ForSome}
use Rattle.std.specs.Prelude.{slice_index_or}
use Rattle.std.proofs.lemmas.List.{append-nil, get_or-map, get_or_default, length-map}
use Rattle.std.proofs.lemmas.List.Elements.{All-cons, All-nil, All-tail}
use Rattle.pm_crash.specs.Calls.{state_of}
use Rattle.pm_crash.specs.Replayed.{kept_pending}
use Rattle.pm_image.specs.Blocks.{blocks}
use Rattle.pm_image.specs.Logs.{recovered_at}
use Rattle.pm_lanes.specs.Closed.{AllAreBack, ClosedPoolsMeanTheirHistories, ClosedPoolsReplay, CallsAreListed, EntriesAreBefore, MaySurvive, NoRecordTorn, OpenCallsAreJudged, OtherCallsAreKept, calls_in_run, keeps_call}
use Rattle.pm_lanes.specs.Opens.{IsOpened}
use Rattle.pm_objects.specs.declared.history.Entry.{Entry}
use Rattle.pm_objects.specs.declared.refusal.Refusal.{Refusal}
use Rattle.pm_objects.specs.declared.refusal.Refusal.TheVariants.{Busy, NoObject}
use Rattle.pm_model.specs.History.{IsHistory, is_answered}
use Rattle.pm_run.specs.Fates.{AreJudged}
use Rattle.pm_run.specs.Runs.{HaveRun, LaneRan}
use Rattle.pm_script.specs.declared.script.ScriptLine.{ScriptLine}
use Rattle.pm_shared.specs.declared.rule.Beginning.{Beginning}
use Rattle.pm_text.specs.declared.report.LaneEnd.{LaneEnd}
use Rattle.pm_text.specs.declared.report.LaneEnd.TheVariants as end
use Rattle.pm_view.specs.View.{Constants, Numbered, View}
use Rattle.pm_world.specs.World.{Past}
use Rattle.pm_call.specs.Histories.{Ended, calls_ended, ended_of}
use Rattle.pm_crash.specs.Fates.{is_judged_kept}
use Rattle.pm_exec.specs.Answers.{AddsRange, AreFirst, IsAnswer, lines_of, refused_as}
use Rattle.pm_calls.specs.Calls.{RunsOnLanes, call_of, calls_from, calls_of_lane, level_behind, line_of, with_line}
use Rattle.pm_calls.specs.declared.names.Names.{Names}
use Rattle.pm_exec.specs.Entries.{HasNumber, HaveAllNumbers}
use Rattle.pm_script.specs.Scripts.{of_lane}
use Rattle.pm_exec.specs.Reports.{AreInOrder, AreWorksFor, HaveLines, IsLaneHistory, IsLined, IsWorkFor, all_entries, ends_of, entries_of, entries_of_lane}
use Rattle.pm_world.specs.Crash.{IsBeingWritten}
use Rattle.pm_exec.specs.Runs.{AddedTearNone, AddsNext, CallsArePlanned, RanOnLanes, Replayed, ShowsCall, StandsFor, SurvivesAs, names_of}
use Rattle.pm_exec.specs.declared.outcome.Outcome.{Outcome}
use Rattle.pm_script.specs.declared.script.Script.{Script}
use Rattle.pm_call.specs.Unwritten.{WritesNoRecord}
use Rattle.pm_exec.specs.Works.{AddedNext, DidCalls, all_answers, lines_left}
use Rattle.pm_exec.specs.declared.answer.Answer.{Answer}
use Rattle.pm_exec.specs.declared.work.LaneWork.{LaneWork}
use Rattle.pm_exec.proofs.Choices.{IsAnsweredWork, are_judged, but_fates, judged_flags, refated, still_in_order}
use Rattle.pm_exec.proofs.Reported.{EndedAt, InOrder, LaneSays, NumberOf, OfSome, Shows, told_by_lane, are_entries, are_history, are_of_lane, as_long, least_number, number_below, entries_up_to, has_operation, lane_at, refused_at}
use Rattle.pm_exec.proofs.Reports.{LaneLeft, all_answered, as_many, entries_with, first_calls, lane_says}
use Rattle.pm_exec.proofs.Entries.{all_in, in_all}
use Rattle.pm_exec.proofs.Stopped.{LaneLaws, has_stopped, none_left}
use Rattle.pm_exec.proofs.Rising.{Has, all_has, has_all, has_at, place_of}
use Rattle.pm_exec.proofs.Fixed.{closed_fixed}
use Rattle.pm_lanes.proofs.Turns.{took_turns}
use Rattle.pm_exec.proofs.Missed.{Shown, entry_plain, has_missed}

abbrev IsSomeLine : List ScriptLine → Type 0
IsSomeLine lines = 1 ≤ length lines

-- the laws of closed pools
pub record PoolLaws : Type 0 where
  pub means : ClosedPoolsMeanTheirHistories
  pub replays : ClosedPoolsReplay
  pub others : OtherCallsAreKept
  pub judges : OpenCallsAreJudged

-- ---- EACH CALL HAS A LINE

with_line_lined : (line : ScriptLine) (calls : List (List ScriptLine)) → All IsSomeLine calls → All IsSomeLine (with_line line calls)
with_line_lined line [] all = All-cons IsSomeLine (line ∷ []) [] (omega arith) all
with_line_lined line (c ∷ calls) all = All-cons IsSomeLine (line ∷ c) calls (omega arith) (All-tail IsSomeLine c calls all)

step_lined : (level : ℕ) (line : ScriptLine) (lines : List ScriptLine) (b : Bool) → ((l : ℕ) → All IsSomeLine (calls_from l lines))
    → All IsSomeLine (if b then (line ∷ []) ∷ calls_from 0 lines else with_line line (calls_from level lines))
step_lined level line lines true more = All-cons IsSomeLine (line ∷ []) (calls_from 0 lines) (omega arith) (more 0)
step_lined level line lines false more = with_line_lined line (calls_from level lines) (more level)

calls_are_lined : (level : ℕ) (lines : List ScriptLine) → All IsSomeLine (calls_from level lines)
unfolding calls_from
calls_are_lined level [] = All-nil IsSomeLine
calls_are_lined level (line ∷ lines) =
    let behind = level_behind level line.operation in
    step_lined behind line lines (behind == 0) (λ l. calls_are_lined l lines)

each_lined : (xs : List Answer) (ls : List (List ScriptLine)) → map lines_of xs ≡ take (length xs) ls → All IsSomeLine ls → All IsLined xs
each_lined [] ls is all = All-nil IsLined
each_lined (a ∷ xs) [] is all = cc
each_lined (a ∷ xs) (l ∷ ls) is all =
    let first : lines_of a ≡ l = cc in
    let more : map lines_of xs ≡ take (length xs) ls = cc in
    let some : 1 ≤ length l = all 0 l (omega arith) in
    let long : length a.lines.items ≡ length l = sym (length-map a.lines.items line_of) ∙ ap (λ (x : List ScriptLine). length x) first in
    All-cons IsLined a xs (omega (arith, some, long)) (each_lined xs ls more (All-tail IsSomeLine l ls all))

-- two lists that agree so agree otherwise
zip_map : {A B : Type 0} (R S : A → B → Type 0) → ((a : A) (b : B) → R a b → S a b) → (xs : List A) (ys : List B)
    → AllZip R xs ys → AllZip S xs ys
zip_map R S so [] [] zip = tt
zip_map R S so [] (y ∷ ys) zip = absurd zip
zip_map R S so (x ∷ xs) [] zip = absurd zip
zip_map R S so (x ∷ xs) (y ∷ ys) zip = (so x y zip.0, zip_map R S so xs ys zip.1)

module _ {G : Type 0} {names : Names} (laws : PoolLaws) (b : Beginning) (keep_number : ℕ) (script : List ScriptLine) (before after : List (LaneWork G)) (written : List ℕ) (flags_written : List Bool)
    {left : LaneWork G → LaneWork G → View → Type 0} (ran : HaveRun left b keep_number before after written flags_written) (works : AreWorksFor names script b.lanes before)
    (w : LaneWork G) (dids : (k : ℕ) (low : k < b.lanes) → DidCalls (get_or before k w) (get_or after k w) (ran.each k w low).view) where
  abbrev g : Past
  g = ran.closed.last.past

  abbrev work_of : ℕ → LaneWork G
  work_of k = get_or after k w

  -- ---- THE LINES OF ANSWERS

  pub have_lines : (k : ℕ) → k < b.lanes → HaveLines (work_of k)
  have_lines k low =
      let did : DidCalls (get_or before k w) (work_of k) (ran.each k w low).view = dids k low in
      let for_ : IsWorkFor names script k (get_or before k w) = works k w low in
      let all = all_answers (work_of k) in
      each_lined all (calls_of_lane k script)
      (did.calls ∙ ap (λ (ls : List (List ScriptLine)). take (length all) ls) for_.lines) (calls_are_lined 0 (of_lane k script))

  -- ---- NO RECORD IS TORN, where none is that a lane was writing which stopped in a call that adds a range

  pub none_torn : (image : List ℕ) (entries : List Entry)
      → ((k : ℕ) → k < b.lanes → (work_of k).unanswered ≡ None → length (entries_of_lane k entries) ≡ length (work_of k).answers.items)
      → AddedTearNone ran.closed.last names script entries (ends_of after) image → NoRecordTorn b ran.closed.last image
  none_torn image entries count none k j u low inside writing valid = ⊎_elim
      (λ (w : WritesNoRecord lane.view). absurd (w j inside (subst (λ (v : View). IsBeingWritten v j) same writing)))
      (λ (a : AddedNext (get_or before k w) (work_of k)). none k a.calls j (end_is ∙ a.stopped) (adds a) inside writing
      (λ reads. let clash : None ≡ Some u = sym reads ∙ valid in cc))
      (dids k low).unwritten
    where
      lane : LaneRan left ran.back k (get_or before k w) (work_of k)
      lane = ran.each k w low

      same : ran.closed.last.views k ≡ lane.view
      same = ap ran.closed.last.views (sym lane.lane_is) ∙ (ran.closed.lanes k lane.view lane.there).1

      end_is : get_or (ends_of after) k end.Ended ≡ (work_of k).end
      end_is = get_or-map (λ (x : LaneWork G). x.end) after k w end.Ended (let count = ran.works in omega (arith, count, low))

      for_ : IsWorkFor names script k (get_or before k w)
      for_ = works k w low

      adds : AddedNext (get_or before k w) (work_of k) → AddsNext names script entries k
      adds a = subst (λ n. AddsRange names (get_or (calls_of_lane k script) n [])) (sym (count k low a.none))
          (subst (λ (ls : List (List ScriptLine)). AddsRange names (get_or ls (length (work_of k).answers.items) [])) for_.lines
          (subst (λ (ns : Names). AddsRange ns (get_or (lines_left (get_or before k w)) (length (work_of k).answers.items) [])) for_.names_are a.adds))

  -- ---- AN IMAGE THAT MAY SURVIVE, with the flags that judge it

  module _ (image : List ℕ) (flags : List Bool) (survives : MaySurvive b ran.closed.last image) (judged : AreJudged b.shape ran.words ran.undrained image flags) where
    abbrev keep : ℕ → Bool
    keep n = keeps_call b ran.closed.last image n

    abbrev flag_of : ℕ → Bool
    flag_of k = get_or flags k true

    -- ---- A LANE

    -- the lane left its answers, with the names and its number
    left_by : (k : ℕ) → (low : k < b.lanes) → LaneLeft names k (flag_of k) g keep (ran.each k w low).view (work_of k).answers.items (work_of k).unanswered
    left_by k low =
        let lane = ran.each k w low in
        let v = lane.view in
        let did : DidCalls (get_or before k w) (work_of k) v = dids k low in
        let for_ : IsWorkFor names script k (get_or before k w) = works k w low in
        let own = ran.closed.lanes k v lane.there in
        let same : ran.closed.last.views k ≡ v = ap ran.closed.last.views (sym lane.lane_is) ∙ own.1 in
        let flagged : flag_of k ≡ is_judged_kept b.shape ran.words (get_or ran.undrained k []) image k =
        get_or_default flags k true false (let one = judged.count in let two = ran.count in omega (arith, low, one, two))
        ∙ judged.each k (let two = ran.count in omega (arith, low, two)) in
        let is_answer : (a : Answer) (d : Ended) → IsAnswer names k a d → IsAnswer (get_or before k w).names v.fixed.lane a d =
        λ a d is. subst (λ p. IsAnswer p v.fixed.lane a d) (sym for_.names_are) (subst (λ l. IsAnswer names l a d) (sym lane.lane_is) is) in
        record {
          entries = ap (λ (u : View). u.entries) (sym same) ∙ (ran.closed.world.each_lane k low).entries;
          shown = subst (λ l. AllZip (IsAnswer names l) (all_answers (work_of k)) (reverse (calls_ended v))) lane.lane_is
              (subst (λ p. AllZip (IsAnswer p v.fixed.lane) (all_answers (work_of k)) (reverse (calls_ended v))) for_.names_are did.shown);
          answered = did.answered;
          open_ = did.open_;
          either = λ a d here is. did.either a d here (is_answer a d is);
          others = λ number call ends inside of not_it.
              laws.others b ran.back ran.words image k v number call ran.closed lane.there ends inside (of ∙ sym lane.lane_is) not_it;
          judged = λ call ends inside of.
              laws.judges b ran.back ran.words image ran.undrained k v call ran.closed ran.back_with survives lane.there ends inside (of ∙ sym lane.lane_is)
              ∙ ap (λ l. is_judged_kept b.shape ran.words (get_or ran.undrained l []) image l) lane.lane_is
              ∙ sym flagged;
        }

    abbrev entries_at : ℕ → List Entry
    entries_at k = entries_with names k (flag_of k) (work_of k).answers.items (work_of k).unanswered

    says : (k : ℕ) → k < b.lanes → LaneSays g keep k (entries_at k)
    says k low = lane_says names k (flag_of k) g keep (ran.each k w low).view (work_of k).answers.items (work_of k).unanswered (left_by k low)

    -- what is reported of a work is of its lane, with the names
    same_entries : (k : ℕ) → k < b.lanes → entries_of (flag_of k) (work_of k) ≡ entries_at k
    same_entries k low =
        let did : DidCalls (get_or before k w) (work_of k) (ran.each k w low).view = dids k low in
        let for_ : IsWorkFor names script k (get_or before k w) = works k w low in
        let number : (work_of k).number ≡ k = did.same.0 ∙ for_.number in
        let named : (work_of k).names ≡ names = did.same.1 ∙ for_.names_are in
        λ i. entries_with (named i) (number i) (flag_of k) (work_of k).answers.items (work_of k).unanswered

    -- ---- THE NUMBERS

    in_works : (e : Entry) → Has (all_entries flags after) e → OfSome b.lanes entries_at e
    in_works e there =
        let o = in_all flags after 0 e there in
        let low : o.place < b.lanes = let l = o.low in let count = ran.works in omega (arith, l, count) in
        record {
          lane = o.place;
          low = low;
          there = subst (λ (es : List Entry). Has es e) (same_entries o.place low)
              (subst (λ n. Has (entries_of (get_or flags n true) (work_of o.place)) e) (from_zero o.place) (o.there w));
        }
      where
        from_zero : (n : ℕ) → 0 + n ≡ n
        from_zero n = omega arith

    works_have : (k : ℕ) → k < b.lanes → (e : Entry) → Has (entries_at k) e → Has (all_entries flags after) e
    works_have k low e there =
        all_in flags after 0 k w e (let count = ran.works in omega (arith, low, count))
        (subst (λ n. Has (entries_of (get_or flags n true) (work_of k)) e) (omega arith) (subst (λ (es : List Entry). Has es e) (sym (same_entries k low)) there))

    in_history : (n : ℕ) → n < g.length → (g.drew n).fixed.lane < b.lanes
    in_history n low = ran.closed.world.of_lanes n low

    number_again : (n : ℕ) → NumberOf b.lanes entries_at n → HasNumber (all_entries flags after) n
    number_again n is =
        let p = place_of (all_entries flags after) is.entry (works_have is.lane is.low is.entry is.there) in
        record { entry = is.entry; there = (p.at, p.low, p.is is.entry); is = is.number }

    pub have_numbers : HaveAllNumbers (all_entries flags after)
    have_numbers = record {
      least = has_all (λ (e : Entry). 1 ≤ e.number) (all_entries flags after) (λ e there.
          let o = in_works e there in least_number g keep b.lanes in_history entries_at says o.lane o.low e o.there);
      each = λ n number has some most.
          let c = has.there in
          let o = in_works has.entry (has_at (all_entries flags after) c.0 has.entry has.entry c.1 c.2) in
          let is : has.entry.number ≡ number = has.is in
          number_again n (number_below g keep b.lanes in_history entries_at says o.lane o.low has.entry o.there n some (omega (arith, most, is)));
    }

    -- ---- THE HISTORY

    module _ (entries : List Entry) (order : AreInOrder after flags entries) where
      in_order : InOrder b.lanes entries_at entries
      in_order =
          let count : length after ≡ b.lanes = ran.works in
          record {
            each = λ i d low.
                let o = (order.each i d low).0 in
                let high : o.lane < b.lanes = let l = o.low in omega (arith, count, l) in
                let c : Contains (entries_of (flag_of o.lane) (work_of o.lane)) (get_or entries i d) = o.is w in
                record {
                  lane = o.lane;
                  low = high;
                  there = subst (λ (es : List Entry). Has es (get_or entries i d)) (same_entries o.lane high)
                      (has_at (entries_of (flag_of o.lane) (work_of o.lane)) c.0 (get_or entries i d) (get_or entries i d) c.1 c.2);
                };
            numbers = λ i d low. (order.each i d low).1;
            all = λ k low e there. all_has (λ (x : Entry). (1 ≤ x.number) × (x.number ≤ length entries)) (entries_of (flag_of k) (work_of k)) e
                (order.all k w (omega (arith, count, low))) (subst (λ (es : List Entry). Has es e) (sym (same_entries k low)) there);
          }

      pub is_history : IsHistory entries
      is_history = are_history g keep b.lanes in_history entries_at says entries in_order

      -- as many as have numbers
      pub all_are_there : length entries ≡ g.length
      all_are_there = as_long g keep b.lanes in_history entries_at says entries in_order

      -- a call that was refused ended so
      pub ends_refused : (i : ℕ) (d : Entry) (r : Refusal) → i < length entries → refused_as (get_or entries i d).fate ≡ Some r → EndedAt g i (get_or entries i d) r
      ends_refused = refused_at g keep b.lanes in_history entries_at says entries in_order

      -- a lane without an unanswered call has as many entries as answers
      pub as_answered : (k : ℕ) → k < b.lanes → (work_of k).unanswered ≡ None → length (entries_of_lane k entries) ≡ length (work_of k).answers.items
      as_answered k low none =
          ap (λ (es : List Entry). length es) (are_of_lane g keep b.lanes in_history entries_at says entries in_order k low)
          ∙ as_many names k (flag_of k) (work_of k).answers.items (work_of k).unanswered
          ∙ ap (λ (u : Option Answer). length ((work_of k).answers.items ++ option_to_list u)) none
          ∙ ap (λ (xs : List Answer). length xs) (append-nil (work_of k).answers.items)

      -- ---- A LANE'S PART

      end_at : (k : ℕ) → k < b.lanes → get_or (ends_of after) k end.Ended ≡ (work_of k).end
      end_at k low = get_or-map (λ (x : LaneWork G). x.end) after k w end.Ended (let count = ran.works in omega (arith, count, low))

      none_open : (k : ℕ) (low : k < b.lanes) (u : Option Answer) → (work_of k).unanswered ≡ u → ((calls : ℕ) → (work_of k).end ≡ end.Stopped calls → ⊥) → (work_of k).unanswered ≡ None
      none_open k low None is not_stopped = is
      none_open k low (Some a) is not_stopped =
          let did : DidCalls (get_or before k w) (work_of k) (ran.each k w low).view = dids k low in
          let stop = did.stopped (λ none. cc) in
          absurd (not_stopped stop.0 stop.1)

      pub lane_history : (k : ℕ) → k < b.lanes → IsLaneHistory names script entries k (get_or (ends_of after) k end.Ended)
      lane_history k low =
          let did : DidCalls (get_or before k w) (work_of k) (ran.each k w low).view = dids k low in
          let for_ : IsWorkFor names script k (get_or before k w) = works k w low in
          let all = all_answers (work_of k) in
          let of_lane : entries_of_lane k entries ≡ entries_at k = are_of_lane g keep b.lanes in_history entries_at says entries in_order k low in
          let lines : map lines_of all ≡ take (length all) (calls_of_lane k script) =
          did.calls ∙ ap (λ (ls : List (List ScriptLine)). take (length all) ls) for_.lines in
          let ended : get_or (ends_of after) k end.Ended ≡ (work_of k).end = end_at k low in
          record {
            calls = subst (λ (es : List Entry). map (λ (e : Entry). e.call) es
                ≡ take (length es) (map (call_of names k) (calls_of_lane k script))) (sym of_lane)
                (first_calls names k (flag_of k) (work_of k).answers.items (work_of k).unanswered
                (calls_of_lane k script) lines);
            whole = λ is.
                let so : (work_of k).end ≡ end.Ended = sym ended ∙ is in
                let none : (work_of k).unanswered ≡ None = none_open k low (work_of k).unanswered refl (λ calls stopped. cc) in
                ap (λ (es : List Entry). length es) of_lane
                ∙ as_many names k (flag_of k) (work_of k).answers.items (work_of k).unanswered
                ∙ ap (λ (u : Option Answer). length ((work_of k).answers.items ++ option_to_list u)) none
                ∙ ap (λ (xs : List Answer). length xs) (append-nil (work_of k).answers.items)
                ∙ did.whole so
                ∙ ap (λ (ls : List (List ScriptLine)). length ls) for_.lines;
            answered = λ not_stopped.
                let none : (work_of k).unanswered ≡ None = none_open k low (work_of k).unanswered refl (λ calls stopped. not_stopped calls (ended ∙ stopped)) in
                subst (λ (es : List Entry). All (λ (e : Entry). is_answered e.fate ≡ true) es)
                (sym (of_lane ∙ ap (λ (u : Option Answer). entries_with names k (flag_of k) (work_of k).answers.items u) none))
                (all_answered names k (flag_of k) (work_of k).answers.items did.answered);
          }

      -- its memory calls are the plans of its lines
      pub lane_planned : CallsAreListed → (k : ℕ) (low : k < b.lanes)
          → CallsArePlanned names script entries (slice_index_or b.stops k None) ran.closed.run.turns k (ran.each k w low).view
      lane_planned listed k low =
          let lane = ran.each k w low in
          let did : DidCalls (get_or before k w) (work_of k) lane.view = dids k low in
          let for_ : IsWorkFor names script k (get_or before k w) = works k w low in
          let of_lane : entries_of_lane k entries ≡ entries_at k = are_of_lane g keep b.lanes in_history entries_at says entries in_order k low in
          let many : length (entries_of_lane k entries) ≡ length (all_answers (work_of k)) =
          ap (λ (es : List Entry). length es) of_lane ∙ as_many names k (flag_of k) (work_of k).answers.items (work_of k).unanswered in
          record {
            calls = subst (λ n. calls_in_run n ran.closed.run.turns ≡ reverse lane.view.calls) lane.lane_is
                (listed b ran.back ran.words k lane.view ran.closed lane.there);
            within = subst (λ (v : View). ForSome (slice_index_or b.stops k None) (λ most. length v.calls ≤ most))
                (ap ran.closed.last.views (sym lane.lane_is) ∙ (ran.closed.lanes k lane.view lane.there).1)
                (subst (λ (stop : Option ℕ). ForSome stop (λ most. length (ran.closed.last.views k).calls ≤ most))
                (ap (λ (c : Constants). c.stop) (closed_fixed b ran.back ran.words ran.closed k))
                (ran.closed.world.each_lane k low).within);
            history = record {
              lane = lane.view.fixed.lane;
              done = calls_ended lane.view;
              call = did.planned.call;
              within = did.planned.within;
            };
            shown = subst (λ (es : List Entry). AllZip (ShowsCall k) es (reverse (calls_ended lane.view))) (sym of_lane)
                (subst (λ (es : List Numbered). AllZip (ShowsCall k) (entries_at k) (reverse (map ended_of es))) (sym (left_by k low).entries)
                (zip_map (Shows k) (ShowsCall k) (λ e d s. record { number = s.number; shown = s.shown }) (entries_at k) (told_by_lane k g) (says k low).shows));
            first = subst (λ n. AreFirst names (slice_index_or (calls_of_lane k script) n []) did.planned.call did.planned.within) (sym many)
                (subst (λ (ls : List (List ScriptLine)). AreFirst names (slice_index_or ls (length (all_answers (work_of k))) []) did.planned.call did.planned.within) for_.lines
                (subst (λ (ns : Names). AreFirst ns (slice_index_or (lines_left (get_or before k w)) (length (all_answers (work_of k))) []) did.planned.call did.planned.within) for_.names_are did.planned.first));
            plans = did.planned.plans;
          }

      -- each entry of words that lanes run shows its call
      pub shown : EntriesAreBefore → ((k : ℕ) → All (All RunsOnLanes) (calls_of_lane k script)) → Shown g keep entries
      shown before words = record {
        count = all_are_there;
        numbers = in_order.numbers;
        lane_is = lane_at g keep b.lanes in_history entries_at says entries in_order;
        has = has_operation g keep b.lanes in_history entries_at says entries in_order;
        plain = λ i d low o among.
            let lane : ℕ = (get_or entries i d).call.lane in
            let inside : i < g.length = subst (λ n. i < n) all_are_there low in
            let of_lane : lane < b.lanes = subst (λ k. k < b.lanes) (sym (lane_at g keep b.lanes in_history entries_at says entries in_order i d low)) (in_history i inside) in
            entry_plain names lane script entries (get_or entries i d) (words lane) (lane_history lane of_lane).calls
            (has_at entries i d (get_or entries i d) low refl) refl o among;
        before = λ i low. before b ran.back ran.words i ran.closed low;
        up_to = entries_up_to g keep b.lanes in_history entries_at says entries in_order;
      }

      -- ---- WHAT IT MEANS

      module _ (origin layout : List ℕ) (opened : IsOpened origin layout b.words.items b.shape b.pool) where
        pub replayed : Replayed opened.pool entries
        replayed =
            let r = laws.replays origin layout ran.words image b ran.back opened ran.closed ran.all ran.facts in
            record {
              last = r.0;
              replays = record {
                runs = r.1.runs;
                are_entries = are_entries g keep b.lanes in_history entries_at says entries in_order r.1.runs r.1.are;
                end = state_of r.0 (kept_pending keep g.drew g.length);
                replays = r.1.replays;
                ends = refl;
              };
            }

        pub stands : NoRecordTorn b ran.closed.last image → StandsFor opened.pool entries image
        stands none =
            let m = laws.means origin layout ran.words image b ran.back opened ran.closed ran.all ran.facts survives none in
            record {
              last = m.last;
              replays = record {
                runs = m.replay.runs;
                are_entries = are_entries g keep b.lanes in_history entries_at says entries in_order m.replay.runs m.replay.are;
                end = state_of m.last (kept_pending keep g.drew g.length);
                replays = m.replay.replays;
                ends = refl;
              };
              means = m.means;
              blocks_are = (λ i. blocks (recovered_at image (sym opened.of_lanes i)) (sym opened.of_lanes i) (sym opened.of_zones i)) ∙ m.blocks;
              apart = m.apart;
            }

  -- ---- EACH OTHER IMAGE THAT MAY SURVIVE

  are_answered : (k : ℕ) (x : LaneWork G) → k < length after → IsAnsweredWork k (get_or after k x)
  are_answered k x inside =
      let low : k < b.lanes = let count = ran.works in omega (arith, count, inside) in
      let did : DidCalls (get_or before k w) (work_of k) (ran.each k w low).view = dids k low in
      let for_ : IsWorkFor names script k (get_or before k w) = works k w low in
      let is : IsAnsweredWork k (work_of k) = record { number = did.same.0 ∙ for_.number; answered = did.answered } in
      subst (λ (y : LaneWork G). IsAnsweredWork k y) (get_or_default after k w x inside) is

  pub survives_as : (entries : List Entry) → AreInOrder after flags_written entries → (origin layout : List ℕ) (opened : IsOpened origin layout b.words.items b.shape b.pool)
      (other : List ℕ) → MaySurvive b ran.closed.last other
      → names_of opened.pool ≡ names → SurvivesAs ran.closed.last script (ends_of after) opened.pool entries other
  survives_as entries order origin layout opened other survives named =
      let flags = judged_flags b.shape ran.words ran.undrained other in
      let judged = are_judged b.shape ran.words ran.undrained other in
      let fates = map (refated flags) entries in
      let ordered = still_in_order after flags_written flags are_answered entries order in
      record {
        fates = fates;
        same = but_fates flags entries;
        is_history = is_history other flags survives judged fates ordered;
        replayed = replayed other flags survives judged fates ordered origin layout opened;
        stands = λ none.
            stands other flags survives judged fates ordered origin layout opened
            (none_torn other entries (as_answered written flags_written ran.survives ran.judged entries order)
            (subst (λ (ns : Names). AddedTearNone ran.closed.last ns script entries (ends_of after) other) named none));
      }

-- ---- THE RUN, from the opening to the report

pub first_item : {X : Type 0} (xs : List X) → 1 ≤ length xs → X
first_item [] enough = absurd (omega (arith, enough))
first_item (x ∷ xs) enough = x

pub ran_on_lanes : {G : Type 0} → PoolLaws → LaneLaws → (origin layout : List ℕ) (script : Script) (stops : List (Option ℕ)) (keep : ℕ) (out : Outcome)
    (b : Beginning) (before after : List (LaneWork G)) (flags : List Bool) (left : LaneWork G → LaneWork G → View → Type 0)
    → (opened : IsOpened origin layout b.words.items b.shape b.pool)
    → b.lanes ≡ script.lanes → b.stops ≡ stops
    → (ran : HaveRun left b keep before after out.image.items flags)
    → AreWorksFor (names_of opened.pool) script.lines b.lanes before
    → ((k : ℕ) (w : LaneWork G) (low : k < b.lanes) → DidCalls (get_or before k w) (get_or after k w) (ran.each k w low).view)
    → AreInOrder after flags out.entries.items → out.lanes.items ≡ ends_of after
    → ((k : ℕ) → All (All RunsOnLanes) (calls_of_lane k script.lines))
    → RanOnLanes origin layout script stops keep out
unfolding took_turns
ran_on_lanes {G} laws more origin layout script stops keep out b before after flags left opened lanes stops_are ran works dids order ends words =
    let enough : 1 ≤ length after = let s = ran.closed.world.some_lanes in let n = ran.works in omega (arith, s, n) in
    let w = first_item after enough in
    let did = λ (k : ℕ) (low : k < b.lanes). dids k w low in
    let entries = out.entries.items in
    record {
      begin_ = b;
      opened = opened;
      lanes_are = lanes;
      stops_are = stops_are;
      back = ran.back;
      words = ran.words;
      took = took_turns b ran.back ran.words ran.closed;
      all = subst (λ n. AllAreBack n ran.back) lanes ran.all;
      undrained = ran.undrained;
      back_with = ran.back_with;
      kept = ran.kept;
      size = ran.size ∙ sym ran.closed.world.size ∙ opened.recovered.as_long;
      is_history = is_history laws b keep script.lines before after out.image.items flags ran works w did out.image.items flags ran.survives ran.judged entries order;
      ends = ap (λ (l : List LaneEnd). length l) ends ∙ length-map after (λ (x : LaneWork G). x.end) ∙ ran.works ∙ lanes;
      each = λ k low. subst (λ (l : List LaneEnd). IsLaneHistory (names_of opened.pool) script.lines entries k (get_or l k end.Ended)) (sym ends)
          (lane_history laws b keep script.lines before after out.image.items flags ran works w did out.image.items flags ran.survives ran.judged entries order k (subst (λ n. k < n) (sym lanes) low));
      stopped = λ k calls low is.
          let high : k < b.lanes = subst (λ n. k < n) (sym lanes) low in
          let lane = ran.each k w high in
          let ended : (get_or after k w).end ≡ end.Stopped calls = sym (get_or-map (λ (x : LaneWork G). x.end) after k w end.Ended (let count = ran.works in omega (arith, high, count))) ∙ ap (λ (l : List LaneEnd). get_or l k end.Ended) (sym ends) ∙ is in
          has_stopped more b ran.back ran.words ran.closed ran.all k high
          (record { place = k; view = lane.view; there = lane.there; lane_is = lane.lane_is }) calls
          ((did k high).counted calls ended) ((did k high).due calls ended);
      planned = λ k low.
          let high : k < b.lanes = subst (λ n. k < n) (sym lanes) low in
          let lane = ran.each k w high in (
            record { place = k; view = lane.view; there = lane.there; lane_is = lane.lane_is },
            subst (λ (s : List (Option ℕ)). CallsArePlanned (names_of opened.pool) script.lines entries (slice_index_or s k None) ran.closed.run.turns k lane.view) stops_are
                (lane_planned laws b keep script.lines before after out.image.items flags ran works w did out.image.items flags ran.survives ran.judged entries order more.listed k high),
          );
      busy = λ call d low is.
          let ended = ends_refused laws b keep script.lines before after out.image.items flags ran works w did out.image.items flags ran.survives ran.judged entries order call d Busy low (ap refused_as is) in
          record {
            of_lane = ended.of_lane;
            operation = ended.ended.operation;
            among = ended.among;
            cause = more.busy b ran.back ran.words call ended.ended.operation ran.closed ran.all ran.facts
                (subst (λ n. call < n) (all_are_there laws b keep script.lines before after out.image.items flags ran works w did out.image.items flags ran.survives ran.judged entries order) low) ended.ended.last;
          };
      missing = λ call d low is.
          let ended = ends_refused laws b keep script.lines before after out.image.items flags ran works w did out.image.items flags ran.survives ran.judged entries order call d NoObject low is in
          has_missed b ran.closed.last opened.pool out.image.items opened.of_id entries
          (shown laws b keep script.lines before after out.image.items flags ran works w did out.image.items flags ran.survives ran.judged entries order more.before words) call d low
          ended.ended.operation ended.ended.last
          (more.missed origin layout ran.words out.image.items b ran.back call ended.ended.operation opened ran.closed ran.all ran.facts
          (subst (λ n. call < n) (all_are_there laws b keep script.lines before after out.image.items flags ran works w did out.image.items flags ran.survives ran.judged entries order) low) ended.ended.last);
      spent = λ k line low is.
          let high : k < b.lanes = subst (λ n. k < n) (sym lanes) low in
          let lane = ran.each k w high in
          let ended : (get_or after k w).end ≡ end.Spent line = sym (get_or-map (λ (x : LaneWork G). x.end) after k w end.Ended (let count = ran.works in omega (arith, high, count))) ∙ ap (λ (l : List LaneEnd). get_or l k end.Ended) (sym ends) ∙ is in
          none_left more b ran.back ran.words ran.closed ran.all k high
          (record { place = k; view = lane.view; there = lane.there; lane_is = lane.lane_is })
          out.image.items ran.survives ((did k high).spent line ended) entries
          (all_are_there laws b keep script.lines before after out.image.items flags ran works w did out.image.items flags ran.survives ran.judged entries order);
      replayed = replayed laws b keep script.lines before after out.image.items flags ran works w did out.image.items flags ran.survives ran.judged entries order origin layout opened;
      stands = λ none. stands laws b keep script.lines before after out.image.items flags ran works w did out.image.items flags ran.survives ran.judged entries order origin layout opened
          (none_torn laws b keep script.lines before after out.image.items flags ran works w did out.image.items entries
          (as_answered laws b keep script.lines before after out.image.items flags ran works w did out.image.items flags ran.survives ran.judged entries order)
          (subst (λ (l : List LaneEnd). AddedTearNone ran.closed.last (names_of opened.pool) script.lines entries l out.image.items) ends none));
      header = λ w is. more.headers origin layout ran.words out.image.items b ran.back opened ran.closed ran.survives w is;
      survives = ran.survives;
      each_choice = subst (λ (l : List LaneEnd). (other : List ℕ) → MaySurvive b ran.closed.last other
          → SurvivesAs ran.closed.last script.lines l opened.pool entries other) (sym ends)
          (λ other survives. survives_as laws b keep script.lines before after out.image.items flags ran works w did entries order origin layout opened other survives refl);
    }
