-- The course of one lane: its history is the plain model's, entry by entry.
use Rattle.std.proofs.Common.{◌≡◌, ◌≢◌, ◌⊎◌, ⊎_elim, inl, inr, ℕ, ◌+◌, ◌<◌, ◌≤◌, List, [], ◌∷◌, ◌++◌, length, take, slice_index, is_some, Some, refl, sym, ◌∙◌, ap, subst, arith}
use Rattle.std.specs.List.{Contains}
use Rattle.std.proofs.lemmas.Bool.{cases_lt}
use Rattle.std.proofs.lemmas.List.{length-append, take-append-le, take_all}
use Rattle.std.proofs.lemmas.List.Elements.{Contains-append_cases}
use Rattle.std.proofs.lemmas.Option.{none-some}
use Rattle.pm_header.specs.declared.header.Header.{Header}
use Rattle.pm_objects.specs.declared.pool.PoolView.{PoolView}
use Rattle.pm_image.proofs.Members.{no_member, only_member}
use Rattle.pm_record.specs.declared.redo.Op.TheVariants as op
use Rattle.solo_view.specs.declared.change.Change.{Change}
use Rattle.solo_view.specs.Area.{area_word, part_of}
use Rattle.solo_view.specs.Changes.{drained}
use Rattle.solo_view.specs.Log.{Phase, log_drained}
use Rattle.solo_view.specs.Log.Phase.{Idle, Open, Drawn, Sealing, Applying, Clearing, Retiring}
use Rattle.solo_model.specs.Actions.{none_pending}
use Rattle.solo_model.specs.Step.{Act, Step as CallStep}
use Rattle.solo_view.specs.Steps.{Step}
use Rattle.solo_view.specs.Steps.Step.{Load, Store, Or, And, Flush, Drain, TakeWrite, TakeRead, Raise, Give, ZoneTry, ZoneGive, Occupied, Occupy, Vacate, Draw, NumberSeen, StopSeen, SetStop, Tell}
use Rattle.solo_view.specs.View.{View}
use Rattle.solo_view.specs.Views.{after, begun, log_after_drain}
use Rattle.solo_view.proofs.SameLane.{same_lane-after}
use Rattle.solo_world.specs.Course.{entry_of, log_after}
use Rattle.solo_world.specs.Entries.{HasNone}
use Rattle.solo_world.specs.Fits.{PhaseFits}
use Rattle.solo_world.specs.History.{Entry, Flies, made_final, replayed}
use Rattle.solo_world.specs.Laws.{Keeps, KeepsFrom}
use Rattle.solo_world.specs.Lawful.{Allowed, BitsFit, MayTell, StoreFits, IsLawful}
use Rattle.solo_world.specs.Memory.{Memory}
use Rattle.solo_world.specs.Memory.Location.{CommitCounter, PoolWord}
use Rattle.solo_world.specs.Opening.{Opening}
use Rattle.solo_world.specs.Records.{difference_of}
use Rattle.solo_world.specs.World.{Views, World}
use Rattle.solo_world.proofs.Frame.{view_else, view_here}
use Rattle.solo_world.proofs.OpeningLaw.{between_calls_law, made_nothing}
use Rattle.solo_world.proofs.StepChange.{clears, sets}
use Rattle.solo_world.proofs.StepDrain.{drains}
use Rattle.solo_world.proofs.StepDraw.{draws}
use Rattle.solo_world.proofs.StepFlush.{flushes}
use Rattle.solo_world.proofs.StepGive.{gives}
use Rattle.solo_world.proofs.StepHeap.{gives_zone_back, occupies, sees_occupancy, tries_zone, vacates}
use Rattle.solo_world.proofs.StepLoad.{loads}
use Rattle.solo_world.proofs.StepSeen.{sees_numbers, sees_stops, tells}
use Rattle.solo_world.proofs.StepSetStop.{sets_stop}
use Rattle.solo_world.proofs.StepStore.{stores}
use Rattle.solo_world.proofs.StepTake.{takes_read, takes_write}
use Rattle.solo_crash.specs.Held.{HoldsPool}
use Rattle.solo_crash.specs.OneLane.{Begins, BeginsBetween, HoldsReplay, IsCourse, Makes, Moment, Move, beginning, moved, IsPaid}
use Rattle.solo_crash.specs.OpenCall.{MakesStep, made_words}
use Rattle.solo_crash.specs.Pending.{pending_after, pending_before, pending_from, state_after}
use Rattle.solo_crash.proofs.CleanWords.{clean_words_hold, clean_words_sound, world_begins}
use Rattle.solo_crash.proofs.Continued.{two_same}
use Rattle.solo_crash.proofs.Differing.{difference_makes_call}
use Rattle.solo_crash.proofs.DrawnWords.{drawn_before, tells_as_opening}
use Rattle.solo_crash.proofs.FrontWords.{front_stays}
use Rattle.solo_crash.proofs.HeapWordsAlone.{held_by_heap}
use Rattle.solo_crash.proofs.HistoryActs.{act_drawn, replays_none, turns_history}
use Rattle.solo_crash.proofs.LogCourse.{InRange, range_after}
use Rattle.solo_crash.proofs.LongerReplays.{every, holds_once_more, words_after}

-- a lawful step is one that is paid
paid_keeps : (began : Opening) (s : Step) → Keeps s → KeepsFrom (λ v. IsLawful v s × IsPaid began v s) s
paid_keeps began s keeps o old new views log decided k v world inside is may moves = keeps o old new views log decided k v world inside is may.0 moves

-- each step keeps the world
keeps_each : (began : Opening) (s : Step) → KeepsFrom (λ v. IsLawful v s × IsPaid began v s) s
keeps_each began (Load w x) = paid_keeps began (Load w x) (loads w x)
keeps_each began (Store w x) = paid_keeps began (Store w x) (stores w x)
keeps_each began (Or w bits found) = paid_keeps began (Or w bits found) (sets w bits found)
keeps_each began (And w bits found) = paid_keeps began (And w bits found) (clears w bits found)
keeps_each began (Flush line) = paid_keeps began (Flush line) (flushes line)
keeps_each began Drain = paid_keeps began Drain drains
keeps_each began (TakeWrite line won) = paid_keeps began (TakeWrite line won) (takes_write line won)
keeps_each began (TakeRead line won) = paid_keeps began (TakeRead line won) (takes_read line won)
keeps_each began (Raise line won) = λ o old new views log decided k v world inside is lawful moves. absurd moves
keeps_each began (Give line) = paid_keeps began (Give line) (gives line)
keeps_each began (ZoneTry zone won) = paid_keeps began (ZoneTry zone won) (tries_zone zone won)
keeps_each began (ZoneGive zone) = paid_keeps began (ZoneGive zone) (gives_zone_back zone)
keeps_each began (Occupied at found) = paid_keeps began (Occupied at found) (sees_occupancy at found)
keeps_each began (Occupy at bits won) = paid_keeps began (Occupy at bits won) (occupies at bits won)
keeps_each began (Vacate at bits) = paid_keeps began (Vacate at bits) (vacates at bits)
keeps_each began (Draw n) = λ o old new views log decided k v world inside is may moves. draws n o old new views log decided k v world inside is (may.0, may.1.1) moves
keeps_each began (NumberSeen n) = paid_keeps began (NumberSeen n) (sees_numbers n)
keeps_each began (StopSeen set) = paid_keeps began (StopSeen set) (sees_stops set)
keeps_each began SetStop = paid_keeps began SetStop sets_stop
keeps_each began (Tell operation reply) = paid_keeps began (Tell operation reply) (tells operation reply)

-- a step that draws no number leaves the history, and the lane no other number
record DrawsNone (log : List Entry) (v : View) (s : Step) : Type 0 where
  same_log : log_after log v s ≡ log
  no_other : (n : ℕ) → (after v s).number ≡ Some n → v.number ≡ Some n

begun_number : (phase : Phase) (v : View) (n : ℕ) → (begun phase v).number ≡ Some n → v.number ≡ Some n
begun_number Idle v n e = absurd (none-some n e)
begun_number (Open slot pair) v n e = e
begun_number Drawn v n e = e
begun_number Sealing v n e = e
begun_number (Applying applied) v n e = e
begun_number Clearing v n e = e
begun_number Retiring v n e = e

abbrev IsDraw : Step → Type 0
IsDraw s = (n : ℕ) × (s ≡ Draw n)

draws_or_not : (log : List Entry) (v : View) (s : Step) → IsDraw s ⊎ DrawsNone log v s
draws_or_not log v (Load w x) = inr (record { same_log = refl; no_other = λ n e. e })
draws_or_not log v (Store w x) = inr (record { same_log = refl; no_other = λ n e. e })
draws_or_not log v (Or w bits found) = inr (record { same_log = refl; no_other = λ n e. e })
draws_or_not log v (And w bits found) = inr (record { same_log = refl; no_other = λ n e. e })
draws_or_not log v (Flush line) = inr (record { same_log = refl; no_other = λ n e. e })
draws_or_not log v Drain = inr (record { same_log = refl; no_other = λ n e. e })
draws_or_not log v (TakeWrite line won) = inr (record { same_log = refl; no_other = λ n e. e })
draws_or_not log v (TakeRead line won) = inr (record { same_log = refl; no_other = λ n e. e })
draws_or_not log v (Raise line won) = inr (record { same_log = refl; no_other = λ n e. e })
draws_or_not log v (Give line) = inr (record { same_log = refl; no_other = λ n e. e })
draws_or_not log v (ZoneTry zone won) = inr (record { same_log = refl; no_other = λ n e. e })
draws_or_not log v (ZoneGive zone) = inr (record { same_log = refl; no_other = λ n e. e })
draws_or_not log v (Occupied at found) = inr (record { same_log = refl; no_other = λ n e. e })
draws_or_not log v (Occupy at bits won) = inr (record { same_log = refl; no_other = λ n e. e })
draws_or_not log v (Vacate at bits) = inr (record { same_log = refl; no_other = λ n e. e })
draws_or_not log v (Draw n) = inl (n, refl)
draws_or_not log v (NumberSeen n) = inr (record { same_log = refl; no_other = begun_number v.log.phase v })
draws_or_not log v (StopSeen set) = inr (record { same_log = refl; no_other = λ n e. e })
draws_or_not log v SetStop = inr (record { same_log = refl; no_other = λ n e. e })
draws_or_not log v (Tell operation reply) = inr (record { same_log = refl; no_other = λ n e. e })

-- the first so many entries lead from the pool to another, which the words after them hold
abbrev pub Reaches : Opening → Header → PoolView → List Entry → Type 0
Reaches o header pool log = HoldsReplay (words_after (slice_index o.words) log) o.lanes o.zones header pool log

-- lane k alone made steps, and its number is that of the last entry: with every beginning of the history the pool is the replay's
pub record Goes (o : Opening) (k : ℕ) (header : Header) (pool : PoolView) (m : Moment) : Type 0 where
  pub world : World o m.memory m.views m.log m.decided
  pub in_lanes : k < o.lanes
  pub alone : (e : Entry) → Contains m.log e → e.lane ≡ k
  pub others : (j : ℕ) → j < o.lanes → j ≢ k → (m.views j).log.phase ≡ Idle
  pub of_pool : (m.views k).pool ≡ header.id
  pub newest : (n : ℕ) → (m.views k).number ≡ Some n → n ≡ length m.log
  pub front : (i : ℕ) → i < 512 → m.memory (PoolWord i) ≡ slice_index o.words i
  pub range : InRange (m.memory (PoolWord (area_word k))) (m.views k) (m.views k).log.phase
  -- so many calls were over as the world began, and the lane is in none of them
  pub over : ℕ
  pub few : over ≤ length m.log
  pub behind : (n : ℕ) → (m.views k).number ≡ Some n → n ≤ over → (m.views k).log.phase ≡ Idle
  pub reached : (n : ℕ) → over ≤ n → n ≤ length m.log → Reaches o header pool (take n m.log)

-- it begins so
pub goes_first : (o : Opening) (memory : Memory) (views : Views) (k : ℕ) (header : Header) (pool : PoolView) → Begins o memory views k header pool → Goes o k header pool (beginning memory views)
unfolding replayed
goes_first o memory views k header pool b = record {
  world = world_begins o header pool b.holds b.clean memory views b.fresh b.opens;
  in_lanes = b.in_lanes;
  alone = λ e there. absurd (no_member e there);
  others = λ j low other. ap (λ log. log.phase) (b.fresh j low).idle;
  of_pool = b.of_pool;
  newest = λ n e. absurd (none-some n (sym (b.fresh k b.in_lanes).no_number ∙ e));
  front = λ i low. b.opens.words i;
  range = subst (InRange (memory (PoolWord (area_word k))) (views k)) (sym (ap (λ log. log.phase) (b.fresh k b.in_lanes).idle)) tt;
  over = 0;
  few = omega arith;
  behind = λ n e. absurd (none-some n (sym (b.fresh k b.in_lanes).no_number ∙ e));
  reached = λ n from low. nothing (take n []) (take_all n [] (omega arith));
} where
  nothing : (log : List Entry) → log ≡ [] → Reaches o header pool log
  nothing log none = subst (Reaches o header pool) (sym none) (record { last = pool; replays = replays_none pool; holds = clean_words_hold o header pool b.holds b.clean })

-- and so between calls
pub goes_between : (o : Opening) (k : ℕ) (header : Header) (pool : PoolView) (m : Moment) → BeginsBetween o k header pool m → Goes o k header pool m
goes_between o k header pool m b = record {
  world = between_calls_law o m.memory m.views m.log m.decided (clean_words_sound o header b.now b.holds b.clean) b.clean b.rested b.over b.stands;
  in_lanes = b.in_lanes;
  alone = b.alone;
  others = λ j low other. phase_of j low;
  of_pool = b.of_pool;
  newest = b.newest;
  front = λ i low. b.stands.words i;
  range = subst (InRange (m.memory (PoolWord (area_word k))) (m.views k)) (sym (phase_of k b.in_lanes)) tt;
  over = length m.log;
  few = omega arith;
  behind = λ n e low. phase_of k b.in_lanes;
  reached = λ n from low. subst (Reaches o header pool) (sym (take_all n m.log from)) (record {
    last = b.now;
    replays = b.replays;
    holds = held_by_heap (slice_index o.words) (words_after (slice_index o.words) m.log) o.lanes o.zones header b.now (clean_words_hold o header b.now b.holds b.clean)
        (λ i heap. made_nothing every m.log i (slice_index o.words i) b.over.made);
  });
} where
  phase_of : (j : ℕ) → j < o.lanes → (m.views j).log.phase ≡ Idle
  phase_of j low = ap (λ log. log.phase) (b.rested j low).idle

-- a lane that has ended a call is in none until it sees the numbers again
idle_stays : (v : View) (s : Step) → Allowed v s → v.log.phase ≡ Idle → (n : ℕ) → (after v s).number ≡ Some n → (after v s).log.phase ≡ Idle
idle_stays v (Load w x) may idle n e = idle
idle_stays v (Store w x) may idle n e = absurd (subst (λ p. StoreFits v w x p (part_of v.lane w)) idle may.fits)
idle_stays v (Or w bits found) may idle n e = absurd (subst (λ p. BitsFit v op.Or w bits p (part_of v.lane w)) idle may.fits)
idle_stays v (And w bits found) may idle n e = absurd (subst (λ p. BitsFit v op.And w bits p (part_of v.lane w)) idle may.fits)
idle_stays v (Flush line) may idle n e = idle
idle_stays v Drain may idle n e = by_left (drained v.changes) where
  by_left : (left : List Change) → (log_after_drain left v).phase ≡ Idle
  by_left [] = ap (λ p. (log_drained p (is_some v.number) v.log).phase) idle ∙ idle
  by_left (c ∷ left) = idle
idle_stays v (TakeWrite line won) may idle n e = idle
idle_stays v (TakeRead line won) may idle n e = idle
idle_stays v (Raise line won) may idle n e = absurd may
idle_stays v (Give line) may idle n e = idle
idle_stays v (ZoneTry zone won) may idle n e = idle
idle_stays v (ZoneGive zone) may idle n e = idle
idle_stays v (Occupied at found) may idle n e = idle
idle_stays v (Occupy at bits won) may idle n e = idle
idle_stays v (Vacate at bits) may idle n e = idle
idle_stays v (Draw m) may idle n e = absurd (let both : Idle ≡ Open [] [] = sym idle ∙ may.is_open in cc)
idle_stays v (NumberSeen m) may idle n e = absurd (none-some n (sym (ap (λ p. (begun p v).number) idle) ∙ e))
idle_stays v (StopSeen set) may idle n e = idle
idle_stays v SetStop may idle n e = idle
idle_stays v (Tell operation reply) may idle n e = absurd (subst MayTell idle may)

module _ (o : Opening) (k : ℕ) (header : Header) (pool : PoolView) (m : Moment) (g : Goes o k header pool m) where
  idle_records : (j : ℕ) → j < o.lanes → j ≢ k → (m.views j).log.records ≡ []
  idle_records j low other = (subst (PhaseFits (Flies m.log m.decided j) (m.views j)) (g.others j low other) (g.world.each_lane j low).phase).no_records

  idle_entries : (j : ℕ) → j < o.lanes → j ≢ k → (m.views j).log.entries ≡ []
  idle_entries j low other = subst (λ (p : Phase). HasNone p (m.views j)) (g.others j low other) (g.world.each_lane j low).entries.none

  module _ (s : Move) (makes : Makes o k m s) where
    world_goes : World o (moved k m s).memory (moved k m s).views (moved k m s).log (moved k m s).decided
    world_goes = (keeps_each o s.step o m.memory s.memory m.views m.log m.decided k (m.views k) g.world g.in_lanes refl (makes.lawful, makes.paid) makes.moves).0

    others_rest : (j : ℕ) → j < o.lanes → j ≢ k → ((moved k m s).views j).log.phase ≡ Idle
    others_rest j low other = ap (λ (u : View). u.log.phase) (view_else m.views k (after (m.views k) s.step) j other) ∙ g.others j low other

    pool_stays : ((moved k m s).views k).pool ≡ header.id
    pool_stays = ap (λ (u : View). u.pool) (view_here m.views k (after (m.views k) s.step)) ∙ (same_lane-after (m.views k) s.step).pool ∙ g.of_pool

    front_here : (i : ℕ) → i < 512 → s.memory (PoolWord i) ≡ slice_index o.words i
    front_here i low = front_stays o m.memory m.views m.log m.decided g.world k g.in_lanes s.step s.memory i makes.lawful makes.moves low ∙ g.front i low

    range_here : InRange (s.memory (PoolWord (area_word k))) ((moved k m s).views k) ((moved k m s).views k).log.phase
    range_here =
        subst (λ (u : View). InRange (s.memory (PoolWord (area_word k))) u u.log.phase) (sym (view_here m.views k (after (m.views k) s.step)))
        (range_after o m.memory m.views m.log m.decided g.world k g.in_lanes s.memory s.step makes.lawful makes.moves g.range)

    number_here : (n : ℕ) → ((moved k m s).views k).number ≡ Some n → (after (m.views k) s.step).number ≡ Some n
    number_here n e = sym (ap (λ (u : View). u.number) (view_here m.views k (after (m.views k) s.step))) ∙ e

    -- a step that draws none
    goes_still : DrawsNone m.log (m.views k) s.step → Goes o k header pool (moved k m s)
    goes_still none = record {
      world = world_goes;
      in_lanes = g.in_lanes;
      alone = subst (λ (log : List Entry). (e : Entry) → Contains log e → e.lane ≡ k) (sym none.same_log) g.alone;
      others = others_rest;
      of_pool = pool_stays;
      newest = subst (λ (log : List Entry). (n : ℕ) → ((moved k m s).views k).number ≡ Some n → n ≡ length log) (sym none.same_log) (λ n e. g.newest n (none.no_other n (number_here n e)));
      front = front_here;
      range = range_here;
      over = g.over;
      few = subst (λ (log : List Entry). g.over ≤ length log) (sym none.same_log) g.few;
      behind = λ n e low.
          let now = number_here n e in
          ap (λ (u : View). u.log.phase) (view_here m.views k (after (m.views k) s.step)) ∙ idle_stays (m.views k) s.step makes.lawful.allowed (g.behind n (none.no_other n now) low) n now;
      reached = subst (λ (log : List Entry). (n : ℕ) → g.over ≤ n → n ≤ length log → Reaches o header pool (take n log)) (sym none.same_log) g.reached;
    }

  -- the whole history
  pub reached_all : Reaches o header pool m.log
  reached_all = subst (Reaches o header pool) (take_all (length m.log) m.log (omega arith)) (g.reached (length m.log) g.few (omega arith))

  module _ (n : ℕ) (memory : Memory) (makes : Makes o k m (record { step = Draw n; memory = memory })) where
    abbrev longer : List Entry
    longer = m.log ++ entry_of (m.views k) n ∷ []

    longer_length : length longer ≡ length m.log + 1
    longer_length = length-append m.log (entry_of (m.views k) n ∷ [])

    draw_reaches : Reaches o header pool longer
    draw_reaches =
        let v : View = m.views k in
        let words : ℕ → ℕ = words_after (slice_index o.words) m.log in
        let here = (g.world.each_lane k g.in_lanes).lane in
        let holds : HoldsPool words v.lanes v.zones header reached_all.last =
        two_same (λ (a b : ℕ). HoldsPool words a b header reached_all.last) o.lanes v.lanes o.zones v.zones (sym here.lanes) (sym here.zones) reached_all.holds in
        let step : MakesStep v words header reached_all.last =
        makes.paid.0 words header reached_all.last (tells_as_opening o k m g.world g.in_lanes) holds g.of_pool
        (drawn_before o k m g.world g.in_lanes g.alone idle_records idle_entries makes.lawful.allowed.is_open reached_all.holds.no_fault) in
        let made : HoldsPool (made_words v words) o.lanes o.zones header step.next =
        two_same (λ (a b : ℕ). HoldsPool (made_words v words) a b header step.next) v.lanes o.lanes v.zones o.zones here.lanes here.zones step.holds in
        let own : pending_after m.log v.lane ≡ pending_before v =
        ap (pending_after m.log) here.lane ∙ ap (pending_from none_pending) (g.world.own_entries k g.in_lanes) in
        holds_once_more (slice_index o.words) o.lanes o.zones header pool step.next m.log (entry_of v n) reached_all
        (subst (λ (act : Act). CallStep (state_after reached_all.last m.log) act (state_after step.next longer)) (sym (act_drawn v n m.log own)) (turns_history v n reached_all.last step.next m.log own step.steps))
        (held_by_heap (made_words v words) (λ i. made_final (difference_of v) i (words i)) o.lanes o.zones header step.next made (λ i heap. difference_makes_call v words i))

    goes_drawn : Goes o k header pool (moved k m (record { step = Draw n; memory = memory }))
    goes_drawn = record {
      world = world_goes (record { step = Draw n; memory = memory }) makes;
      in_lanes = g.in_lanes;
      alone = λ e there. ⊎_elim
          (λ (old : Contains m.log e). g.alone e old)
          (λ (new : Contains (entry_of (m.views k) n ∷ []) e). sym (ap (λ (x : Entry). x.lane) (only_member (entry_of (m.views k) n) e new)) ∙ (g.world.each_lane k g.in_lanes).lane.lane)
          (Contains-append_cases m.log (entry_of (m.views k) n ∷ []) e there);
      others = others_rest (record { step = Draw n; memory = memory }) makes;
      of_pool = pool_stays (record { step = Draw n; memory = memory }) makes;
      newest = λ j e.
          let same : Some n ≡ Some j = number_here (record { step = Draw n; memory = memory }) makes j e in
          let is : n ≡ j = cc in
          let counted : n ≡ m.memory CommitCounter + 1 = makes.moves.1 in
          let counter = g.world.counter in
          let long = longer_length in
          omega arith;
      front = front_here (record { step = Draw n; memory = memory }) makes;
      range = range_here (record { step = Draw n; memory = memory }) makes;
      over = g.over;
      few = let long = longer_length in let was = g.few in omega (arith, long, was);
      behind = λ j e low.
          let same : Some n ≡ Some j = number_here (record { step = Draw n; memory = memory }) makes j e in
          let is : n ≡ j = cc in
          let counted : n ≡ m.memory CommitCounter + 1 = makes.moves.1 in
          let counter = g.world.counter in
          let was = g.few in
          absurd (omega (arith, is, counted, counter, was, low));
      reached = λ j from low. ⊎_elim
          (λ (more : length m.log < j).
          let long = longer_length in subst (Reaches o header pool) (sym (take_all j longer (omega arith))) draw_reaches)
          (λ (few : j ≤ length m.log). subst (Reaches o header pool) (sym (take-append-le j m.log (entry_of (m.views k) n ∷ []) few)) (g.reached j from few))
          (cases_lt (length m.log) j);
    }

pub goes_on : (o : Opening) (k : ℕ) (header : Header) (pool : PoolView) (m : Moment) (s : Move) → Goes o k header pool m → Makes o k m s → Goes o k header pool (moved k m s)
goes_on o k header pool m s g makes = ⊎_elim
    (λ (draw : IsDraw s.step).
    subst (λ (x : Step). Makes o k m (record { step = x; memory = s.memory }) → Goes o k header pool (moved k m (record { step = x; memory = s.memory }))) (sym draw.1)
    (λ drawn. goes_drawn o k header pool m g draw.0 s.memory drawn) makes)
    (λ (none : DrawsNone m.log (m.views k) s.step). goes_still o k header pool m g s makes none)
    (draws_or_not m.log (m.views k) s.step)

-- and so to the course's end
pub goes_along : (o : Opening) (k : ℕ) (header : Header) (pool : PoolView) (m : Moment) (steps : List Move) (last : Moment) → Goes o k header pool m → IsCourse o k m steps last → Goes o k header pool last
unfolding IsCourse
goes_along o k header pool m [] last g course = subst (Goes o k header pool) (sym course) g
goes_along o k header pool m (s ∷ steps) last g course = goes_along o k header pool (moved k m s) steps last (goes_on o k header pool m s g course.0) course.1
