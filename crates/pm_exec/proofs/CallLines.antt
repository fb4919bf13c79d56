-- THE LINES OF A CALL, as a lane runs them: what one line more leaves, and where the call's last line
-- leaves it.
use Rattle.std.proofs.Common.{◌≡◌, ℕ, zero, suc, ◌+◌, ◌-◌, ◌≤◌, Bool, true, false, if◌then◌else◌, All, List, [], ◌∷◌, ◌++◌, map, length, Option, Some, None, refl, sym, ap, ◌∙◌, subst, arith}
use Rattle.std.proofs.lemmas.List.{length-append, length_push, map-append}
use Rattle.std.proofs.lemmas.List.Elements.{All-head, All-tail}
use Rattle.pm_objects.specs.declared.history.Value.{Value}
use Rattle.pm_script.specs.Operations.{closes, opens}
use Rattle.pm_script.specs.declared.script.ScriptLine.{ScriptLine}
use Rattle.pm_view.specs.View.{Told, View}
use Rattle.pm_world.specs.declared.lane.Lane.{Lane}
use Rattle.pm_model.specs.Shown.{values_at}
use Rattle.pm_call.specs.Histories.{LaneHistory}
use Rattle.pm_call.specs.Positions.{Position, working}
use Rattle.pm_call.specs.Standing.{StandsWith}
use Rattle.pm_exec.specs.Answers.{GoesOnSo, LineCame}
use Rattle.pm_calls.specs.Calls.{IsWhole, IsWholeFrom, RunsOnLanes, level_behind, line_operation, stands_at}
use Rattle.pm_exec.specs.Lines.{Awaits, LineRan, at_level}
use Rattle.pm_calls.specs.LaneRooms.{said_in}
use Rattle.pm_calls.specs.declared.room.LineRoom.{LineRoom}
use Rattle.pm_objects.specs.declared.calls.Operation.{Operation}
use Rattle.pm_exec.specs.Running.{IsLast, LinesRan, OpensWith, Rested, RestsWith, WentOn, gave}
use Rattle.pm_exec.specs.Shown.{GoesOn}
use Rattle.pm_calls.specs.declared.names.Names.{Names}
use Rattle.pm_exec.specs.declared.line_end.LineEnd.{LineEnd}
use Rattle.pm_exec.specs.declared.line_end.LineEnd.TheVariants as ends
use Rattle.pm_exec.proofs.Shown.{gives_value, no_line_ran, one_line_more}

-- ---- LISTS AND NUMBERS

pub all_at : {X : Type 0} (P : X → Type 0) (front : List X) (x : X) (rest : List X) → All P (front ++ x ∷ rest) → P x
all_at P [] x rest all = All-head P x rest all
all_at P (y ∷ front) x rest all = all_at P front x rest (All-tail P y (front ++ x ∷ rest) all)

pub not_zero : (n : ℕ) → n ≡ 0 → 1 ≤ n → ⊥
not_zero n z l = omega (arith, z, l)

pub no_level : 1 ≤ 0 → ⊥
no_level l = omega (arith, l)

-- ---- WHAT A LANE BETWEEN TWO CALLS TELLS

pub nothing_open : {M : Type 0} (at : M → View → Type 0) (lane : Lane M) (h : LaneHistory) → RestsWith at lane h → h.call ≡ []
nothing_open at lane h rests = (rests.0.between (ap (λ (p : Position). p.stopped) rests.1) (ap (λ (p : Position). p.level) rests.1)).2

-- nor did it stop
pub rests_plain : {M : Type 0} (at : M → View → Type 0) (lane : Lane M) (h : LaneHistory) → RestsWith at lane h → h.within ≡ None
rests_plain at lane h rests = sym (ap (λ (x : LaneHistory). x.within) (rests.0.between (ap (λ (p : Position). p.stopped) rests.1) (ap (λ (p : Position). p.level) rests.1)).1.is)

-- ---- LEVELS

at_work : (n : ℕ) → 1 ≤ n → working n ≡ at_level n
at_work zero l = absurd (no_level l)
at_work (suc n) l = refl

by_opens : (o c : Bool) → 1 ≤ (if o then 0 + 1 else (if c then 0 - 1 else 0)) → o ≡ true
by_opens true c l = refl
by_opens false true l = absurd (no_level l)
by_opens false false l = absurd (no_level l)

begun_more : (level : ℕ) (front : List ScriptLine) (said : ScriptLine) → (level ≡ 0 → front ≡ []) → (1 ≤ level → OpensWith front)
    → 1 ≤ level_behind level said.operation → OpensWith (front ++ said ∷ [])
begun_more zero front said first begun more = (said, [], ap (λ (f : List ScriptLine). f ++ said ∷ []) (first refl), by_opens (opens said.operation) (closes said.operation) more)
begun_more (suc n) front said first begun more =
    let b = begun (omega arith) in
    (b.0, b.1 ++ said ∷ [], ap (λ (f : List ScriptLine). f ++ said ∷ []) b.2, b.3)

-- ---- A WHOLE CALL

rest_left : (level : ℕ) (said : ScriptLine) (rest : List ScriptLine) → IsWholeFrom level (said ∷ rest) → 1 ≤ level_behind level said.operation
    → IsWholeFrom (level_behind level said.operation) rest
unfolding IsWholeFrom
rest_left level said [] whole more = not_zero (level_behind level said.operation) whole.1 more
rest_left level said (next ∷ rest) whole more = whole.2

none_passed : (level : ℕ) (said : ScriptLine) (rest : List ScriptLine) → IsWholeFrom level (said ∷ rest) → level_behind level said.operation ≡ 0 → rest ≡ []
unfolding IsWholeFrom
none_passed level said [] whole over = refl
none_passed level said (next ∷ rest) whole over = absurd (not_zero (level_behind level said.operation) over whole.1)

pub may_stand : (level : ℕ) (said : ScriptLine) (rest : List ScriptLine) → IsWholeFrom level (said ∷ rest) → stands_at level said.operation ≡ true
unfolding IsWholeFrom
may_stand level said [] whole = whole.0
may_stand level said (next ∷ rest) whole = whole.0

pub none_left : (level : ℕ) → IsWholeFrom level [] → ⊥
unfolding IsWholeFrom
none_left level whole = whole

-- ---- THE LINES SO FAR

module _ {M : Type 0} (at : M → View → Type 0) (names : Names) (h : LaneHistory) where
  pub began : (lane : Lane M) (lines : List ScriptLine) (values : List (ℕ × Value)) → RestsWith at lane h → IsWhole lines → values ≡ [] → WentOn at lane names h [] lines values
  began lane lines values rests whole empty = record {
    told = [];
    goes = subst (GoesOn names [] []) (sym empty) (no_line_ran names);
    level = 0;
    stands = subst (λ (told : List Told). StandsWith at lane (record h { call = told })) (nothing_open at lane h rests) rests.0;
    here = rests.1;
    rest_of_call = whole;
    first = λ z. refl;
    begun = λ l. absurd (no_level l);
  }

  pub went_awaits : (lane : Lane M) (front rest : List ScriptLine) (values : List (ℕ × Value)) → WentOn at lane names h front rest values → Awaits at lane
  went_awaits lane front rest values w = (record h { call = w.told }, w.stands)

  module _ (old new : Lane M) (front : List ScriptLine) (said : ScriptLine) (rest : List ScriptLine) (values : List (ℕ × Value)) (w : WentOn at old names h front (said ∷ rest) values) where
    -- a line that went on
    pub went_on : (reply : Option Value) → LineCame at new (line_operation names said) w.level (level_behind w.level said.operation) (record h { call = w.told }) (ends.GoesOn reply)
        → WentOn at new names h (front ++ said ∷ []) rest (values ++ values_at said.line (line_operation names said) reply)
    went_on reply came = let behind = level_behind w.level said.operation in record {
      told = w.told ++ record { operation = line_operation names said; reply = reply } ∷ [];
      goes = one_line_more w.goes said (record { operation = line_operation names said; reply = reply }) refl came.3;
      level = behind;
      stands = came.0;
      here = came.1 ∙ at_work behind came.2;
      rest_of_call = rest_left w.level said rest w.rest_of_call came.2;
      first = λ z. absurd (not_zero behind z came.2);
      begun = λ l. begun_more w.level front said w.first w.begun came.2;
    }

    -- one with which the call does not go on
    pub lines_ran : (e : LineEnd) → IsLast e → LineCame at new (line_operation names said) w.level (level_behind w.level said.operation) (record h { call = w.told }) e
        → (lines : List ScriptLine) → front ++ said ∷ rest ≡ lines → LinesRan at new names h lines values said.line e
    lines_ran e last came lines are = record {
      front = front;
      said = said;
      passed = rest;
      are = sym are;
      of_line = refl;
      told = w.told;
      goes = w.goes;
      level = w.level;
      behind = level_behind w.level said.operation;
      came = came;
      first = w.first;
      begun = w.begun;
      over = none_passed w.level said rest w.rest_of_call;
      last = last;
    }

-- ---- A LINE MORE of the rooms

values_are : (line : ℕ) (op : Operation) (reply : Option Value) → GoesOnSo op reply → values_at line op reply ≡ gave line reply
values_are line op None on = refl
values_are line op (Some v) on = gives_value line op v on

one_at_most : (line : ℕ) (reply : Option Value) → length (gave line reply) ≤ 1
one_at_most line None = omega arith
one_at_most line (Some v) = omega arith

pub count_more : {X : Type 0} (values more : List (ℕ × Value)) (line : ℕ) (reply : Option Value) (yielded : List X) (x : X) → more ≡ values ++ gave line reply → length values ≤ length yielded
    → length more ≤ length (yielded ++ x ∷ [])
count_more values more line reply yielded x are count =
    let a = ap length are ∙ length-append values (gave line reply) in
    let b = one_at_most line reply in
    let d = length_push yielded x in
    omega (arith, a, b, d, count)

split : (yielded rest rooms : List LineRoom) (room : LineRoom) → yielded ++ room ∷ rest ≡ rooms → map said_in yielded ++ said_in room ∷ map said_in rest ≡ map said_in rooms
split yielded rest rooms room are = sym (map-append said_in yielded (room ∷ rest)) ∙ ap (map said_in) are

pub word_at : (yielded rest rooms : List LineRoom) (room : LineRoom) → yielded ++ room ∷ rest ≡ rooms → All RunsOnLanes (map said_in rooms) → RunsOnLanes (said_in room)
word_at yielded rest rooms room are words = all_at RunsOnLanes (map said_in yielded) (said_in room) (map said_in rest) (subst (All RunsOnLanes) (sym (split yielded rest rooms room are)) words)

pub is_last : (e : LineEnd) → ((reply : Option Value) → e ≡ ends.GoesOn reply → ⊥) → IsLast e
is_last (ends.GoesOn reply) not = not reply refl
is_last (ends.Over why) not = tt
is_last (ends.GivenUp why) not = tt
is_last ends.Stopped not = tt
is_last ends.Spent not = tt

module _ {M : Type 0} (at : M → View → Type 0) (names : Names) where
  abbrev Came : Lane M → Lane M → LineRoom → LineEnd → Type 0
  Came old new room e = (level : ℕ) → stands_at level (said_in room).operation ≡ true
      → LineRan at old new (line_operation names (said_in room)) level (level_behind level (said_in room).operation) e

  pub any_awaits : (first lane : Lane M) (front rest : List ScriptLine) (values : List (ℕ × Value)) → ((h : LaneHistory) → RestsWith at first h → WentOn at lane names h front rest values) → Rested at first → Awaits at lane
  any_awaits first lane front rest values went (h, rests) = went_awaits at names h lane front rest values (went h rests)

  pub none_unread : (first lane : Lane M) (front : List ScriptLine) (left : List LineRoom) (values : List (ℕ × Value)) → ((h : LaneHistory) → RestsWith at first h → WentOn at lane names h front (map said_in left) values) → Rested at first → length left ≡ 0 → ⊥
  none_unread first lane front [] values went (h, rests) none = let w = went h rests in none_left w.level w.rest_of_call
  none_unread first lane front (room ∷ left) values went rests none = cc

  module _ (h : LaneHistory) (old new : Lane M) (yielded left rest : List LineRoom) (room : LineRoom) (values : List (ℕ × Value)) (steps : left ≡ room ∷ rest)
      (went : WentOn at old names h (map said_in yielded) (map said_in left) values) (e : LineEnd) (came : Came old new room e) where
    here : WentOn at old names h (map said_in yielded) (said_in room ∷ map said_in rest) values
    here = subst (λ rooms. WentOn at old names h (map said_in yielded) (map said_in rooms) values) steps went

    came_here : LineCame at new (line_operation names (said_in room)) here.level (level_behind here.level (said_in room).operation) (record h { call = here.told }) e
    came_here = came here.level (may_stand here.level (said_in room) (map said_in rest) here.rest_of_call) (record h { call = here.told }) here.stands here.here

    pub next_went : (reply : Option Value) → e ≡ ends.GoesOn reply → (more : List (ℕ × Value)) → more ≡ values ++ gave (said_in room).line reply
        → WentOn at new names h (map said_in (yielded ++ room ∷ [])) (map said_in rest) more
    next_went reply is more are =
        let goes = subst (LineCame at new (line_operation names (said_in room)) here.level (level_behind here.level (said_in room).operation) (record h { call = here.told })) is came_here in
        subst (λ front. WentOn at new names h front (map said_in rest) more) (sym (map-append said_in yielded (room ∷ [])))
        (subst (WentOn at new names h (map said_in yielded ++ said_in room ∷ []) (map said_in rest))
        (ap (λ (vs : List (ℕ × Value)). values ++ vs) (values_are (said_in room).line (line_operation names (said_in room)) reply goes.3) ∙ sym are)
        (went_on at names h old new (map said_in yielded) (said_in room) (map said_in rest) values here reply goes))

    pub last_ran : IsLast e → (rooms : List LineRoom) → yielded ++ room ∷ rest ≡ rooms → LinesRan at new names h (map said_in rooms) values (said_in room).line e
    last_ran last rooms are = lines_ran at names h old new (map said_in yielded) (said_in room) (map said_in rest) values here e last came_here (map said_in rooms) (split yielded rest rooms room are)
