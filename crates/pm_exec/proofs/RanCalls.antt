-- A CALL OF A LANE, by what its lines came to: the answer shows it, and the lane stands with it.
use Rattle.std.proofs.lemmas.List.{length-map, map-append}
use Rattle.std.proofs.Common.{◌≡◌, ◌≢◌, ◌⊎◌, inl, inr, ℕ, zero, suc, ◌≤◌, ◌<◌, ◌==◌, if◌then◌else◌, Bool, true, false, Contains, List, [], ◌∷◌, ◌++◌, length, map, take, ◌+◌, Option, Some, None, option_map, Err, Vec, refl, sym, ap, ap₂, ◌∙◌, subst, arith}
use Rattle.std.proofs.lemmas.Bool.{both_ways}
use Rattle.std.specs.Borrow.{Bor}
use Rattle.std.specs.Global.{Global}
use Rattle.std.specs.List.Sorted.{IsStrictlyIncreasing}
use Rattle.pm_objects.specs.declared.calls.Operation.{Operation}
use Rattle.pm_objects.specs.declared.history.Fate.{Fate}
use Rattle.pm_objects.specs.declared.history.Fate.TheVariants as fate
use Rattle.pm_objects.specs.declared.history.TxErr.{TxErr}
use Rattle.pm_objects.specs.declared.history.TxErr.TheVariants as error
use Rattle.pm_objects.specs.declared.history.Value.{Value}
use Rattle.pm_objects.specs.declared.history.Value.TheVariants.{Refused}
use Rattle.pm_objects.specs.declared.refusal.Refusal.{Refusal}
use Rattle.pm_objects.specs.declared.refusal.Refusal.TheVariants as refusal
use Rattle.pm_model.specs.History.{is_answered}
use Rattle.pm_model.specs.Inside.{is_begin}
use Rattle.pm_model.specs.Shown.{IsShown, is_single, values_of}
use Rattle.pm_script.specs.declared.script.ScriptLine.{ScriptLine}
use Rattle.pm_view.specs.View.{Told, View}
use Rattle.pm_world.specs.declared.lane.Lane.{Lane}
use Rattle.pm_crash.proofs.EntryFacts.{last_told}
use Rattle.pm_call.specs.Histories.{Ended, LaneHistory, told, told_by}
use Rattle.pm_call.specs.Positions.{Position, aborted_at, position_of}
use Rattle.pm_call.specs.Standing.{StandsWith}
use Rattle.pm_calls.specs.Calls.{IsWhole, call_of, line_of, line_operation, numbers_of}
use Rattle.pm_calls.specs.declared.names.Names.{Names}
use Rattle.pm_exec.specs.Answers.{AreFirst, EndedAs, refused_as, EndsSo, GivesUpSo, IsSpent, MayHaveFate, rans_of, run_of}
use Rattle.pm_exec.specs.Lines.{Awaits}
use Rattle.pm_exec.specs.Running.{CallCame, LinesRan, OpensWith, RestsWith, RootCame, lost_call, with_ended}
use Rattle.pm_exec.specs.Shown.{GoesOn, fate_of}
use Rattle.pm_exec.specs.declared.call_end.CallEnd.TheVariants as call_ends
use Rattle.pm_exec.specs.declared.line_end.LineEnd.{LineEnd}
use Rattle.pm_exec.specs.declared.line_end.LineEnd.TheVariants as ends
use Rattle.pm_call.specs.Unwritten.{is_adding_in}
use Rattle.pm_exec.proofs.Rising.{has_right, place_of}
use Rattle.pm_exec.proofs.CallLines.{none_left, nothing_open}
use Rattle.pm_exec.proofs.Shown.{aborted_fate, aborted_shown, begin_is_inside, commit_is_plain, committed_fates, committed_shown, opened_not_single, single_fate, single_kept_or_lost, single_shown, so_aborts}

-- ---- LINES THAT RAN BEFORE THE LAST ONE

-- before the first line nothing is told
nothing_before : (names : Names) (told : List Told) (values : List (ℕ × Value)) → GoesOn names [] told values → (told ≡ []) × (values ≡ [])
unfolding values_of
nothing_before names [] values goes = (refl, goes.gave)
nothing_before names (t ∷ told) values goes = let same = goes.operations in cc

zero_or_more : (n : ℕ) → (n ≡ 0) ⊎ (1 ≤ n)
zero_or_more zero = inl refl
zero_or_more (suc n) = inr (omega arith)

-- a whole call has a line
pub line_at : (lines : List (Bor ScriptLine)) → IsWhole (map line_of lines) → 0 < length lines
line_at [] whole = absurd (none_left 0 whole)
line_at (line ∷ lines) whole = omega arith

answers : (why : Option Refusal) → is_answered (fate_of why) ≡ true
answers None = refl
answers (Some r) = refl

-- the last line that ran, of these lines; with what was told and given before it
record Before (names : Names) (lines : List ScriptLine) (values : List (ℕ × Value)) (said : ScriptLine) (told_before : List Told) (level behind : ℕ) : Type 0 where
  front : List ScriptLine
  passed : List ScriptLine
  are : lines ≡ front ++ said ∷ passed
  goes : GoesOn names front told_before values
  first : level ≡ 0 → front ≡ []
  begun : 1 ≤ level → OpensWith front
  over : behind ≡ 0 → passed ≡ []

module _ {names : Names} {lines : List ScriptLine} {values : List (ℕ × Value)} {said : ScriptLine} {told_before : List Told} {level behind : ℕ} (lane : ℕ)
    (b : Before names lines values said told_before level behind) (rising : IsStrictlyIncreasing (numbers_of lines)) where
  abbrev op : Operation
  op = line_operation names said

  abbrev all : Option Value → List Told
  all reply = told_before ++ told op reply ∷ []

  abbrev Shows : Option Value → ℕ → Type 0
  Shows reply at = IsShown (call_of names lane lines) (record { values = values; at = at }) (run_of lane (all reply))

  alone : level ≡ 0 → (told_before ≡ []) × (values ≡ [])
  alone none = nothing_before names told_before values (subst (λ front. GoesOn names front told_before values) (b.first none) b.goes)

  opened : (reply : Option Value) → 1 ≤ level → is_single (rans_of (all reply)) ≡ false
  opened reply some =
      let w = b.begun some in
      opened_not_single b.goes said (told op reply) refl w.0 (w.1 ++ said ∷ b.passed) b.passed (ap (λ (front : List ScriptLine). front ++ said ∷ b.passed) w.2) w.3

  not_single : (reply : Option Value) → (level ≡ 0 → is_begin op ≡ true) → is_single (rans_of (all reply)) ≡ false
  not_single reply begins = by (zero_or_more level) where
    by : (level ≡ 0) ⊎ (1 ≤ level) → is_single (rans_of (all reply)) ≡ false
    by (inl none) = ap (λ (before : List Told). is_single (rans_of (before ++ told op reply ∷ []))) (alone none).0 ∙ begin_is_inside op (begins none)
    by (inr some) = opened reply some

  committed : behind ≡ 0 → b.front ++ said ∷ [] ≡ lines
  committed none = ap (λ (passed : List ScriptLine). b.front ++ said ∷ passed) (sym (b.over none)) ∙ sym b.are

  only : level ≡ 0 → behind ≡ 0 → said ∷ [] ≡ lines
  only none over = ap (λ (front : List ScriptLine). front ++ said ∷ []) (sym (b.first none)) ∙ committed over

  ended_shown : (why : Option Refusal) → behind ≡ 0 → EndsSo op level why → Shows (option_map Refused why) 0
  ended_shown why over (inl (commits, one, none)) =
      let t = told op (option_map Refused why) in
      let done = ap (option_map Refused) none in
      committed_shown b.goes said t refl lane (opened (option_map Refused why) (omega (arith, one))) done (commit_is_plain t commits done) lines (committed over) rising
  ended_shown why over (inr (outside, none)) =
      let t = told op (option_map Refused why) in
      subst (λ (before : List Told). IsShown (call_of names lane lines) (record { values = values; at = 0 }) (run_of lane (before ++ t ∷ []))) (sym (alone none).0)
      (subst (λ (vs : List (ℕ × Value)). IsShown (call_of names lane lines) (record { values = vs; at = 0 }) (run_of lane (t ∷ []))) (sym (alone none).1)
      (single_shown names lane said t refl outside lines why (only none over) rising refl))

  ended_fate : (why : Option Refusal) → EndsSo op level why → MayHaveFate (all (option_map Refused why)) (fate_of why)
  ended_fate why (inl (commits, one, none)) =
      let t = told op (option_map Refused why) in
      let done = ap (option_map Refused) none in
      subst (λ w. MayHaveFate (all (option_map Refused why)) (fate_of w)) (sym none)
      (committed_fates b.goes said t refl lane (opened (option_map Refused why) (omega (arith, one))) done (commit_is_plain t commits done)).0
  ended_fate why (inr (outside, none)) =
      let t = told op (option_map Refused why) in
      subst (λ (before : List Told). MayHaveFate (before ++ t ∷ []) (fate_of why)) (sym (alone none).0) (single_fate names lane said t refl outside why refl)

  kept_or_lost : EndsSo op level None → MayHaveFate (all None) fate.Kept × MayHaveFate (all None) fate.Lost
  kept_or_lost (inl (commits, one, none)) =
      let fates = committed_fates b.goes said (told op None) refl lane (opened None (omega (arith, one))) refl (commit_is_plain (told op None) commits refl) in
      (fates.1, fates.2)
  kept_or_lost (inr (outside, none)) =
      subst (λ (before : List Told). MayHaveFate (before ++ told op None ∷ []) fate.Kept × MayHaveFate (before ++ told op None ∷ []) fate.Lost) (sym (alone none).0)
      (single_kept_or_lost names lane said (told op None) refl outside refl)

  given_up_shown : (reply : Option Value) (e : TxErr) → GivesUpSo op reply e → (level ≡ 0 → is_begin op ≡ true) → Shows reply said.line
  given_up_shown reply e up begins = aborted_shown b.goes said (told op reply) refl lane (not_single reply begins) e up b.passed lines (sym b.are) rising

  given_up_fate : (reply : Option Value) (e : TxErr) → GivesUpSo op reply e → (level ≡ 0 → is_begin op ≡ true) → MayHaveFate (all reply) (fate.Aborted e)
  given_up_fate reply e up begins = aborted_fate b.goes said (told op reply) refl lane (not_single reply begins) e up

-- ---- A CALL THAT WAS REFUSED

none_so : (o : Option Refusal) (r : Refusal) → o ≡ None → o ≡ Some r → ⊥
none_so o r none is = let clash : None ≡ Some r = sym none ∙ is in cc

same_refusal : (s r : Refusal) → Some s ≡ Some r → s ≡ r
same_refusal s r same = cc

no_refusal : (canceled : Bool) (errnum : ℕ) → refused_as (fate.Aborted (if canceled then error.Canceled else error.User errnum)) ≡ None
no_refusal true errnum = refl
no_refusal false errnum = refl

-- its last operation's recorded reply is the refusal
ended_as : (before : List Told) (asked : Operation) (reply : Option Value) (r : Refusal) → reply ≡ Some (Refused r) → EndedAs r (before ++ told asked reply ∷ [])
ended_as before asked reply r replied = record { operation = asked; last = last_told before (told asked reply) ∙ ap (λ x. Some (told asked x)) replied }

ended_given : (before : List Told) (asked : Operation) (reply : Option Value) (e : TxErr) → GivesUpSo asked reply e → (r : Refusal) → refused_as (fate.Aborted e) ≡ Some r → EndedAs r (before ++ told asked reply ∷ [])
ended_given before asked reply e (inl (s, plain, replied, is)) r refused =
    ended_as before asked reply r (replied ∙ ap (λ x. Some (Refused x)) (same_refusal s r (sym (ap (λ x. refused_as (fate.Aborted x)) is) ∙ refused)))
ended_given before asked reply e (inr (errnum, aborts, none, is)) r refused =
    absurd (none_so (refused_as (fate.Aborted e)) r (ap (λ x. refused_as (fate.Aborted x)) is ∙ no_refusal (errnum == 0) errnum) refused)

ended_over : (before : List Told) (asked : Operation) (why : Option Refusal) (r : Refusal) → refused_as (fate_of why) ≡ Some r → EndedAs r (before ++ told asked (option_map Refused why) ∷ [])
ended_over before asked None r refused = absurd (none_so None r refl refused)
ended_over before asked (Some s) r refused = ended_as before asked (Some (Refused s)) r (ap (λ x. Some (Refused x)) (same_refusal s r refused))

-- ---- THE FIRST LINES of a call: those that went on, and that in which its lane stopped

first_taken : {X : Type 0} (xs ys : List X) (x : X) → xs ++ x ∷ [] ≡ take (length xs + 1) (xs ++ x ∷ ys)
first_taken [] ys x = refl
first_taken {X} (y ∷ xs) ys x =
    let more : suc (length xs + 1) ≡ suc (length xs) + 1 = omega arith in
    ap (λ (zs : List X). y ∷ zs) (first_taken xs ys x)
    ∙ ap (λ n. take n (y ∷ xs ++ x ∷ ys)) more

first_lines : (names : Names) (front : List ScriptLine) (said : ScriptLine) (passed : List ScriptLine) (told : List Told)
    → map (λ (t : Told). t.operation) told ≡ map (line_operation names) front
    → AreFirst names (front ++ said ∷ passed) told (Some (line_operation names said))
first_lines names front said passed told same =
    let op : Operation = line_operation names said in
    let count : length (map (line_operation names) front) ≡ length told =
    ap (λ (ops : List Operation). length ops) (sym same) ∙ length-map told (λ (t : Told). t.operation) in
    ap (λ (ops : List Operation). ops ++ op ∷ []) same
    ∙ first_taken (map (line_operation names) front) (map (line_operation names) passed) op
    ∙ ap₂ (λ (n : ℕ) (ops : List Operation). take (n + 1) ops) count (sym (map-append (line_operation names) front (said ∷ passed)))

-- ---- THE LANE

module _ {M : Type 0} (at : M → View → Type 0) (h : LaneHistory) where
  pub root_spent : (lane : Lane M) (r : Refusal) → RootCame at lane h (Err r) → r ≡ refusal.Spent
      → IsSpent at lane h
  root_spent lane r came spent = subst (λ (r : Refusal). RootCame at lane h (Err r)) spent came

  stopped_so : (lane : Lane M) (r : Refusal) → RootCame at lane h (Err r) → (r ≡ refusal.Spent → ⊥)
      → StandsWith at lane h × (lane.stopped ≡ true) × (lane.drawn ≡ None)
  stopped_so lane refusal.Spent came not = absurd (not refl)
  stopped_so lane r came not = came

  pub root_stopped : (lane : Lane M) (names : Names) (lines : List ScriptLine) (r : Refusal)
      → h.within ≡ None → h.call ≡ [] → RootCame at lane h (Err r) → (r ≡ refusal.Spent → ⊥)
      → CallCame at lane names h lines (call_ends.Stopped None)
  root_stopped lane names lines r plain empty came not =
      let s = stopped_so lane r came not in (
        h.call,
        h.within,
        s.0,
        s.1,
        s.2,
        λ e. absurd (both_ways (is_adding_in h.within) (ap is_adding_in plain) e),
        subst (λ (call : List Told). AreFirst names lines call h.within) (sym empty)
            (subst (λ (w : Option Operation). AreFirst names lines [] w) (sym plain) refl),
      )

  -- what its lines came to, by what they are
  pub ran_so : (names : Names) (lines : Vec (Bor ScriptLine) Global)
      (values : Vec (ℕ × Value) Global) (lane : Lane M) (said : List ScriptLine) (line : ℕ)
      (e is : LineEnd) → said ≡ map line_of lines.items
      → LinesRan at lane names h said values.items line e → e ≡ is
      → LinesRan at lane names h (map line_of lines.items) values.items line is
  ran_so names lines values lane said line e is are ran same =
      subst (LinesRan at lane names h (map line_of lines.items) values.items line) same
      (subst (λ said. LinesRan at lane names h said values.items line e) are ran)

  module _ (names : Names) (lines : Vec (Bor ScriptLine) Global) (values : Vec (ℕ × Value) Global)
      (rising : IsStrictlyIncreasing (numbers_of (map line_of lines.items))) where
    abbrev of_call : List ScriptLine
    of_call = map line_of lines.items

    abbrev Ran : Lane M → ℕ → LineEnd → Type 0
    Ran lane line e = LinesRan at lane names h of_call values.items line e

    before : (lane : Lane M) (line : ℕ) (e : LineEnd) (ran : Ran lane line e) → Before names of_call values.items ran.said ran.told ran.level ran.behind
    before lane line e ran = record { front = ran.front; passed = ran.passed; are = ran.are; goes = ran.goes; first = ran.first; begun = ran.begun; over = ran.over }

    pub over_came : (lane : Lane M) (line : ℕ) (why : Option Refusal) (f : Fate) → f ≡ fate_of why → Ran lane line (ends.Over why)
        → CallCame at lane names h of_call (call_ends.Answered
        (record { lines = lines; number = lane.last; values = values; at = 0; fate = f }))
    over_came lane line why f is ran =
        let came = ran.came in
        let b = before lane line (ends.Over why) ran in (
          record { number = lane.last; call = ran.told ++ told (line_operation names ran.said) (option_map Refused why) ∷ [] },
          (came.0, came.1),
          refl,
          record {
            number = refl;
            shown = ended_shown h.lane b rising why came.2 came.3;
            fate = subst (MayHaveFate (ran.told ++ told (line_operation names ran.said) (option_map Refused why) ∷ [])) (sym is) (ended_fate h.lane b rising why came.3);
            ended = λ r refused. ended_over ran.told (line_operation names ran.said) why r (sym (ap refused_as is) ∙ refused);
          },
          ap is_answered is ∙ answers why,
        )

    pub awaits_ends : (lane : Lane M) (line : ℕ) (e : TxErr) → Ran lane line (ends.GivenUp e) → Awaits at lane
    awaits_ends lane line e ran = (_, ran.came.3)

    pub given_up_came : (old new : Lane M) (line : ℕ) (e : TxErr) → Ran old line (ends.GivenUp e)
        → ((h : LaneHistory) (e : TxErr) (n : ℕ) → StandsWith at old h → e ≢ error.None → position_of old ≡ aborted_at e (suc n) → RestsWith at new h)
        → CallCame at new names h of_call (call_ends.Answered (record
        { lines = lines; number = new.last; values = values; at = line; fate = fate.Aborted e }))
    given_up_came old new line e ran ended =
        let came = ran.came in
        let b = before old line (ends.GivenUp e) ran in
        let op = line_operation names ran.said in
        let d : Ended = record { number = old.last; call = ran.told ++ told op came.0 ∷ [] } in
        let rests = ended (with_ended d h) e came.1 came.3 (so_aborts op came.0 e came.2).some came.4 in (
          d,
          rests,
          refl,
          record {
            number = rests.0.last (ap (λ (p : Position). p.stopped) rests.1);
            shown = subst (λ n. IsShown (call_of names h.lane of_call) (record { values = values.items; at = n }) (run_of h.lane d.call)) ran.of_line
                (given_up_shown h.lane b rising came.0 e came.2 came.5);
            fate = given_up_fate h.lane b rising came.0 e came.2 came.5;
            ended = ended_given ran.told op came.0 e came.2;
          },
          refl,
        )

    stopped_by : (lane : Lane M) (line : ℕ) → Ran lane line ends.Stopped
        → (drawn : Option ℕ) → lane.drawn ≡ drawn
        → CallCame at lane names h of_call
        (call_ends.Stopped (option_map (lost_call lines values) drawn))
    stopped_by lane line ran None is =
        let came = ran.came in
        let p = place_of (ran.front ++ ran.said ∷ ran.passed) ran.said (has_right ran.front (ran.said ∷ ran.passed) ran.said (inl refl)) in (
          ran.told,
          Some (line_operation names ran.said),
          subst (λ n. StandsWith at lane (told_by n (line_operation names ran.said) None (record h { call = ran.told }))) is came.0,
          came.1,
          is,
          λ e. record { line = ran.said; among = subst (λ (ls : List ScriptLine). Contains ls ran.said) (sym ran.are) (p.at, p.low, p.is _); adds = e },
          subst (λ (ls : List ScriptLine). AreFirst names ls ran.told (Some (line_operation names ran.said))) (sym ran.are)
              (first_lines names ran.front ran.said ran.passed ran.told ran.goes.operations),
        )
    stopped_by lane line ran (Some n) is =
        let came = ran.came in
        let op = line_operation names ran.said in
        let b = before lane line ends.Stopped ran in
        let ends_so = came.2 n is in
        let fates = kept_or_lost h.lane b rising ends_so.1 in (
          record { number = n; call = ran.told ++ told op None ∷ [] },
          subst (λ n. StandsWith at lane (told_by n op None (record h { call = ran.told }))) is came.0,
          came.1,
          is,
          refl,
          record {
            number = refl;
            shown = ended_shown h.lane b rising None ends_so.0 ends_so.1;
            fate = fates.1;
            ended = λ r refused. absurd (none_so None r refl refused);
          },
          refl,
        )

    pub stopped_came : (lane : Lane M) (line : ℕ) → Ran lane line ends.Stopped
        → CallCame at lane names h of_call
        (call_ends.Stopped (option_map (lost_call lines values) lane.drawn))
    stopped_came lane line ran = stopped_by lane line ran lane.drawn refl

    pub spent_came : (old lane : Lane M) (line : ℕ) → RestsWith at old h → Ran lane line ends.Spent
        → IsSpent at lane h
    spent_came old lane line rests ran =
        let came = ran.came in
        subst (λ call. IsSpent at lane (record h { call = call }))
        (nothing_open at lane (record h { call = ran.told }) (came.stands, came.here)
        ∙ sym (nothing_open at old h rests)) came
