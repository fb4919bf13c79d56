-- AN ANSWER SHOWS ITS CALL, by data alone: its lines, their operations with their replies, and the
-- values that the lines gave.
use Rattle.std.proofs.Common.{◌≡◌, ◌≢◌, inl, inr, ℕ, ◌==◌, ◌-◌, ◌&&◌, ◌||◌, not, Bool, true, false, if◌then◌else◌, All, List, [], ◌∷◌, ◌++◌, map, slice_index, Option, Some, None, option_map, refl, sym, ap, ◌∙◌, subst, append-nil, append_assoc}
use Rattle.std.specs.List.Sorted.{IsStrictlyIncreasing}
use Rattle.std.proofs.lemmas.List.{length-map, map-append}
use Rattle.std.proofs.lemmas.List.Elements.{All-head, All-nil, All-push, All-tail}
use Rattle.pm_objects.specs.declared.calls.Call.{Call}
use Rattle.pm_objects.specs.declared.calls.Operation.{Operation}
use Rattle.pm_objects.specs.declared.calls.Operation.TheVariants.{Abort, Begin, Commit}
use Rattle.pm_objects.specs.declared.history.Fate.{Fate}
use Rattle.pm_objects.specs.declared.history.Fate.TheVariants as fate
use Rattle.pm_objects.specs.declared.history.Reply.{Reply}
use Rattle.pm_objects.specs.declared.history.TxErr.{TxErr}
use Rattle.pm_objects.specs.declared.history.TxErr.TheVariants as error
use Rattle.pm_objects.specs.declared.history.Value.{Value}
use Rattle.pm_objects.specs.declared.history.Value.TheVariants.{Refused}
use Rattle.pm_objects.specs.declared.refusal.Refusal.{Refusal}
use Rattle.pm_model.specs.CallStep.{CallRun}
use Rattle.pm_model.specs.Inside.{Ran, error_for, is_action, is_begin, is_refusal}
use Rattle.pm_model.specs.Outside.{is_outside}
use Rattle.pm_model.specs.Shown.{IsFate, IsFateOf, IsFateOutside, IsShown, aborts, answer_of, error_by, error_of, is_abort, is_single, line_of_abort, values_at, values_of, values_shown}
use Rattle.pm_view.specs.View.{Told}
use Rattle.pm_crash.specs.Calls.{told_by}
use Rattle.pm_exec.specs.Answers.{GivesUpSo, GoesOnSo, MayHaveFate, ran_of, rans_of, run_of}
use Rattle.pm_calls.specs.Calls.{call_of, line_operation, numbers_of, operation_of}
use Rattle.pm_exec.specs.Shown.{GoesOn, IsPlain, fate_of}
use Rattle.pm_calls.specs.declared.names.Names.{Names}
use Rattle.pm_script.specs.Operations.{opens}
use Rattle.pm_script.specs.declared.script.ScriptLine.{ScriptLine}
use Rattle.pm_script.specs.declared.script.ScriptOp.{ScriptOp}
use Rattle.pm_script.specs.declared.script.ScriptOp.TheVariants as said

abbrev Values : Type 0
Values = List (ℕ × Value)

abbrev ran_operations : List Ran → List Operation
ran_operations rans = map (λ (ran : Ran). ran.operation) rans

-- ---- ONE OPERATION

-- a refusal that aborts nothing is of an action
refusal_of_action : (b c : Bool) → ((not b && true) || c) ≡ false → b ≡ true
refusal_of_action true c on = refl
refusal_of_action false c on = cc

-- an operation that aborts nothing leaves the error to the rest
error_stays : (op : Operation) (reply : Option Value) (rest : TxErr) → GoesOnSo op reply → error_by op reply rest ≡ rest
error_stays op (Some (Refused r)) rest on = ap (λ b. if b then rest else error.Refused r) (refusal_of_action (is_action op) (is_abort op) on)
error_stays (Abort errnum) reply rest on = cc
error_stays op reply rest on = refl

-- its value, where it has one, is what its line gives
pub gives_value : (line : ℕ) (op : Operation) (v : Value) → GoesOnSo op (Some v) → values_at line op (Some v) ≡ (line, v) ∷ []
gives_value line op (Refused r) on = ap (λ b. if b then (line, Refused r) ∷ [] else []) (refusal_of_action (is_action op) (is_abort op) on)
gives_value line op v on = refl

-- it aborts with this error, and gives no value
pub record Aborts (op : Operation) (reply : Option Value) (e : TxErr) : Type 0 where
  pub aborted : aborts (ran_of (record { operation = op; reply = reply })) ≡ true
  pub gives : (line : ℕ) → values_at line op reply ≡ []
  pub fails : error_by op reply error.None ≡ e
  pub some : e ≢ error.None

abort_errs : (b : Bool) (errnum : ℕ) → (if b then error.Canceled else error.User errnum) ≢ error.None
abort_errs true errnum e = cc
abort_errs false errnum e = cc

abort_aborts : (errnum : ℕ) → Aborts (Abort errnum) None (error_for errnum)
abort_aborts errnum = record { aborted = refl; gives = λ line. refl; fails = refl; some = abort_errs (errnum == 0) errnum }

refusal_aborts : (op : Operation) (r : Refusal) → is_action op ≡ false → Aborts op (Some (Refused r)) (error.Refused r)
refusal_aborts op r inaction = record {
  aborted = ap (λ b. (not b && true) || is_abort op) inaction;
  gives = λ line. ap (λ b. if b then (line, Refused r) ∷ [] else []) inaction;
  fails = ap (λ b. if b then error.None else error.Refused r) inaction;
  some = λ e. cc;
}

pub so_aborts : (op : Operation) (reply : Option Value) (e : TxErr) → GivesUpSo op reply e → Aborts op reply e
so_aborts op reply e (inl (r, inaction, replied, is)) = subst (λ x. Aborts op x e) (sym replied) (subst (Aborts op (Some (Refused r))) (sym is) (refusal_aborts op r inaction))
so_aborts op reply e (inr (errnum, said, replied, is)) =
    subst (λ x. Aborts x reply e) (sym said) (subst (λ x. Aborts (Abort errnum) x e) (sym replied) (subst (Aborts (Abort errnum) None) (sym is) (abort_aborts errnum)))

pub commit_is_plain : (t : Told) → t.operation ≡ Commit → t.reply ≡ None → IsPlain t
commit_is_plain t commits done i = aborts (ran_of (record { operation = commits i; reply = done i }))

-- a begin does not stand outside: a call that it is the first of is no single operation
pub begin_is_inside : (op : Operation) → is_begin op ≡ true → is_outside op ≡ false
begin_is_inside (Begin wants) is = refl
begin_is_inside op is = cc

opens_begins : (names : Names) (op : ScriptOp) → opens op ≡ true → is_begin (operation_of names op) ≡ true
opens_begins names (said.Begin wants) is = refl
opens_begins names op is = cc

-- ---- A LINE AFTER LINES THAT WENT ON

-- lines of which none ran
none_ran : (lines : List ScriptLine) → (values_of (numbers_of lines) [] ≡ []) × (line_of_abort (numbers_of lines) [] ≡ 0)
unfolding values_of line_of_abort
none_ran [] = (refl, refl)
none_ran (line ∷ lines) = (refl, refl)

module _ (names : Names) (line : ScriptLine) (passed : List ScriptLine) (t : Told) (says : t.operation ≡ line_operation names line) where
  -- the line is the last that ran, after these
  record IsLast (front : List ScriptLine) (told : List Told) : Type 0 where
    operations : ran_operations (rans_of (told ++ t ∷ [])) ++ map (line_operation names) passed ≡ map (line_operation names) (front ++ line ∷ passed)
    error : error_of (rans_of (told ++ t ∷ [])) ≡ error_by t.operation t.reply error.None
    at : line_of_abort (numbers_of (front ++ line ∷ passed)) (rans_of (told ++ t ∷ [])) ≡ (if aborts (ran_of t) then line.line else 0)
    values : values_of (numbers_of (front ++ line ∷ passed)) (rans_of (told ++ t ∷ [])) ≡ values_of (numbers_of front) (rans_of told) ++ values_at line.line t.operation t.reply

  is_last : (front : List ScriptLine) (told : List Told) → map (λ (t : Told). t.operation) told ≡ map (line_operation names) front → All IsPlain told → IsLast front told
  unfolding error_of line_of_abort values_of
  is_last [] [] same plain = record {
    operations = ap (λ op. op ∷ map (line_operation names) passed) says;
    error = refl;
    at = ap (λ n. if aborts (ran_of t) then line.line else n) (none_ran passed).1;
    values = ap (λ (vs : Values). values_at line.line t.operation t.reply ++ vs) (none_ran passed).0 ∙ append-nil (values_at line.line t.operation t.reply);
  }
  is_last [] (u ∷ told) same plain = cc
  is_last (l ∷ front) [] same plain = cc
  is_last (l ∷ front) (u ∷ told) same plain =
      let head : u.operation ≡ line_operation names l = cc in
      let tail : map (λ (t : Told). t.operation) told ≡ map (line_operation names) front = cc in
      let on = All-head IsPlain u told plain in
      let rest = is_last front told tail (All-tail IsPlain u told plain) in
      let here = values_at l.line u.operation u.reply in
      record {
        operations = λ i. head i ∷ rest.operations i;
        error = error_stays u.operation u.reply (error_of (rans_of (told ++ t ∷ []))) on ∙ rest.error;
        at = ap (λ b. if b then l.line else line_of_abort (numbers_of (front ++ line ∷ passed)) (rans_of (told ++ t ∷ []))) on ∙ rest.at;
        values = ap (λ (vs : Values). here ++ vs) rest.values ∙ sym (append_assoc here (values_of (numbers_of front) (rans_of told)) (values_at line.line t.operation t.reply));
      }

-- rising lines with these operations show the call
shown_as : (names : Names) (lane : ℕ) (lines : List ScriptLine) (reply : Reply) (told : List Told) (passed : List Operation) → IsStrictlyIncreasing (numbers_of lines)
    → ran_operations (rans_of told) ++ passed ≡ map (line_operation names) lines → (error_of (rans_of told) ≡ error.None → passed ≡ [])
    → reply.values ≡ values_shown (numbers_of lines) (rans_of told) → reply.at ≡ (if is_single (rans_of told) then 0 else line_of_abort (numbers_of lines) (rans_of told))
    → IsShown (call_of names lane lines) reply (run_of lane told)
shown_as names lane lines reply told passed rising operations whole values at = record {
  lines = numbers_of lines;
  one_each = length-map lines (λ (line : ScriptLine). line.line) ∙ sym (length-map lines (line_operation names));
  rising = rising;
  first = refl;
  last = ap (λ n. slice_index (numbers_of lines) (n - 1)) (length-map lines (λ (line : ScriptLine). line.line));
  lane = refl;
  passed_over = passed;
  operations = operations;
  whole = whole;
  values = values;
  at = at;
}

-- no line ran yet
pub no_line_ran : (names : Names) → GoesOn names [] [] []
unfolding values_of
no_line_ran names = record { operations = refl; plain = All-nil IsPlain; gave = refl }

module _ {names : Names} {front : List ScriptLine} {told : List Told} {values : Values} (goes : GoesOn names front told values) (line : ScriptLine) (t : Told) (says : t.operation ≡ line_operation names line) where
  abbrev all : List Told
  all = told ++ t ∷ []

  abbrev last : (passed : List ScriptLine) → IsLast names line passed t says front told
  last passed = is_last names line passed t says front told goes.operations goes.plain

  values_more : (passed : List ScriptLine) → values ++ values_at line.line t.operation t.reply ≡ values_of (numbers_of (front ++ line ∷ passed)) (rans_of all)
  values_more passed = ap (λ (vs : Values). vs ++ values_at line.line t.operation t.reply) goes.gave ∙ sym (last passed).values

  -- one line more
  pub one_line_more : IsPlain t → GoesOn names (front ++ line ∷ []) all (values ++ values_at line.line t.operation t.reply)
  one_line_more on = record {
    operations = map-append (λ (t : Told). t.operation) told (t ∷ []) ∙ (λ i. goes.operations i ++ says i ∷ []) ∙ sym (map-append (line_operation names) front (line ∷ []));
    plain = All-push IsPlain told t goes.plain on;
    gave = values_more [];
  }

  -- a call whose first line opens a transaction is no single operation
  pub opened_not_single : (first : ScriptLine) (more passed : List ScriptLine) → front ++ line ∷ passed ≡ first ∷ more → opens first.operation ≡ true → is_single (rans_of all) ≡ false
  opened_not_single first more passed are is =
      by_first all (map (line_operation names) passed) ((last passed).operations ∙ ap (map (line_operation names)) are)
    where
      by_first : (ts : List Told) (ops : List Operation) → ran_operations (rans_of ts) ++ ops ≡ map (line_operation names) (first ∷ more) → is_single (rans_of ts) ≡ false
      by_first [] ops e = refl
      by_first (t ∷ ts) ops e = begin_is_inside t.operation (let same : t.operation ≡ line_operation names first = cc in ap is_begin same ∙ opens_begins names first.operation is)

  -- ---- THE CALL IS COMMITTED, or aborted

  module _ (lane : ℕ) (inside : is_single (rans_of all) ≡ false) where
    -- the last line gives nothing, and no other is left where it does not abort
    shown_last : (passed lines : List ScriptLine) (at : ℕ) → front ++ line ∷ passed ≡ lines → IsStrictlyIncreasing (numbers_of lines)
        → values_at line.line t.operation t.reply ≡ [] → (if aborts (ran_of t) then line.line else 0) ≡ at → (error_of (rans_of all) ≡ error.None → passed ≡ [])
        → IsShown (call_of names lane lines) (record { values = values; at = at }) (run_of lane all)
    shown_last passed lines at are rising nothing here left =
        shown_as names lane lines (record { values = values; at = at }) all (map (line_operation names) passed) rising
        ((last passed).operations ∙ ap (map (line_operation names)) are)
        (λ none. ap (map (line_operation names)) (left none))
        (sym (append-nil values) ∙ ap (λ (vs : Values). values ++ vs) (sym nothing) ∙ values_more passed
        ∙ (λ i. if sym inside i && is_refusal (answer_of (rans_of all)) then [] else values_of (numbers_of (are i)) (rans_of all)))
        (sym here ∙ sym (last passed).at ∙ (λ i. if sym inside i then 0 else line_of_abort (numbers_of (are i)) (rans_of all)))

    may_have : (f : Fate) → IsFateOf (error_of (rans_of all)) f → MayHaveFate all f
    may_have f is = subst (λ b. IsFate b (rans_of all) f) (sym inside) is

    -- the last line of all is done: the outermost level is committed
    module _ (done : t.reply ≡ None) (on : IsPlain t) where
      pub committed_shown : (lines : List ScriptLine) → front ++ line ∷ [] ≡ lines → IsStrictlyIncreasing (numbers_of lines) → IsShown (call_of names lane lines) (record { values = values; at = 0 }) (run_of lane all)
      committed_shown lines are rising = shown_last [] lines 0 are rising (ap (values_at line.line t.operation) done) (ap (λ b. if b then line.line else 0) on) (λ none. refl)

      pub committed_fates : MayHaveFate all fate.Done × MayHaveFate all fate.Kept × MayHaveFate all fate.Lost
      committed_fates =
          let no_error = (last []).error ∙ error_stays t.operation t.reply error.None on in
          (may_have fate.Done no_error, may_have fate.Kept tt, may_have fate.Lost no_error)

    -- the line aborts the transaction
    module _ (e : TxErr) (up : GivesUpSo t.operation t.reply e) where
      abbrev aborts_so : Aborts t.operation t.reply e
      aborts_so = so_aborts t.operation t.reply e up

      fails_so : error_of (rans_of all) ≡ e
      fails_so = (last []).error ∙ aborts_so.fails

      pub aborted_shown : (passed lines : List ScriptLine) → front ++ line ∷ passed ≡ lines → IsStrictlyIncreasing (numbers_of lines) → IsShown (call_of names lane lines) (record { values = values; at = line.line }) (run_of lane all)
      aborted_shown passed lines are rising =
          shown_last passed lines line.line are rising (aborts_so.gives line.line) (ap (λ b. if b then line.line else 0) aborts_so.aborted)
          (λ none. absurd (aborts_so.some (sym fails_so ∙ none)))

      pub aborted_fate : MayHaveFate all (fate.Aborted e)
      aborted_fate = may_have (fate.Aborted e) (sym fails_so, λ none. aborts_so.some (sym fails_so ∙ none))

-- ---- A SINGLE OPERATION, outside of a transaction

module _ (names : Names) (lane : ℕ) (line : ScriptLine) (t : Told) (says : t.operation ≡ line_operation names line) (outside : is_outside t.operation ≡ true) where
  single_values : (why : Option Refusal) → t.reply ≡ option_map Refused why → [] ≡ values_shown (line.line ∷ []) (rans_of (t ∷ []))
  unfolding values_of
  single_values None done =
      sym ((last (no_line_ran names) line t says []).values ∙ ap (values_at line.line t.operation) done)
      ∙ sym (λ i. if outside i && is_refusal (done i) then [] else values_of (line.line ∷ []) (rans_of (t ∷ [])))
  single_values (Some r) refused = sym (λ i. if outside i && is_refusal (refused i) then [] else values_of (line.line ∷ []) (rans_of (t ∷ [])))

  pub single_shown : (lines : List ScriptLine) (why : Option Refusal) → line ∷ [] ≡ lines → IsStrictlyIncreasing (numbers_of lines) → t.reply ≡ option_map Refused why
      → IsShown (call_of names lane lines) (record { values = []; at = 0 }) (run_of lane (t ∷ []))
  single_shown lines why are rising replied =
      shown_as names lane lines (record { values = []; at = 0 }) (t ∷ []) [] rising ((last (no_line_ran names) line t says []).operations ∙ ap (map (line_operation names)) are) (λ none. refl)
      (single_values why replied ∙ ap (λ ls. values_shown (numbers_of ls) (rans_of (t ∷ []))) are)
      (sym (ap (λ b. if b then 0 else line_of_abort (numbers_of lines) (rans_of (t ∷ []))) outside))

  fate_by_reply : (f : Fate) (reply : Option Value) → t.reply ≡ reply → IsFateOutside reply f → MayHaveFate (t ∷ []) f
  fate_by_reply f reply replied is = subst (λ b. IsFate b (rans_of (t ∷ [])) f) (sym outside) (subst (λ v. IsFateOutside v f) (sym replied) is)

  pub single_fate : (why : Option Refusal) → t.reply ≡ option_map Refused why → MayHaveFate (t ∷ []) (fate_of why)
  single_fate None replied = fate_by_reply fate.Done None replied refl
  single_fate (Some r) replied = fate_by_reply (fate.Refused r) (Some (Refused r)) replied refl

  pub single_kept_or_lost : t.reply ≡ None → MayHaveFate (t ∷ []) fate.Kept × MayHaveFate (t ∷ []) fate.Lost
  single_kept_or_lost replied = (fate_by_reply fate.Kept None replied refl, fate_by_reply fate.Lost None replied refl)

-- ---- WHAT THE LANE SAW, and the call's parts, play no part

-- the operations with their replies alone
abbrev again : List Ran → List Ran
again rans = rans_of (map told_by rans)

record IsSame (one other : List Ran) : Type 0 where
  operations : ran_operations one ≡ ran_operations other
  error : error_of one ≡ error_of other
  single : is_single one ≡ is_single other
  answer : answer_of one ≡ answer_of other

same_again : (rans : List Ran) → IsSame (again rans) rans
unfolding error_of
same_again [] = record { operations = refl; error = refl; single = refl; answer = refl }
same_again (ran ∷ rans) =
    let rest = same_again rans in
    record { operations = ap (λ ops. ran.operation ∷ ops) rest.operations; error = ap (error_by ran.operation ran.reply) rest.error; single = refl; answer = refl }

lines_again : (lines : List ℕ) (rans : List Ran) → (values_of lines (again rans) ≡ values_of lines rans) × (line_of_abort lines (again rans) ≡ line_of_abort lines rans)
unfolding values_of line_of_abort
lines_again [] rans = (refl, refl)
lines_again (line ∷ lines) [] = (refl, refl)
lines_again (line ∷ lines) (ran ∷ rans) =
    let rest = lines_again lines rans in
    (ap (λ (vs : Values). values_at line ran.operation ran.reply ++ vs) rest.0, ap (λ n. if aborts ran then line else n) rest.1)

-- a run of these operations with these replies is shown as well
pub run_shown : (call : Call) (reply : Reply) (lane : ℕ) (told : List Told) (run : CallRun) → run.lane ≡ lane → map told_by run.operations ≡ told → IsShown call reply (run_of lane told) → IsShown call reply run
run_shown call reply lane told run of are said =
    let rans = run.operations in
    let same = same_again rans in
    let shown = subst (λ ts. IsShown call reply (run_of lane ts)) (sym are) said in
    record {
      lines = shown.lines;
      one_each = shown.one_each;
      rising = shown.rising;
      first = shown.first;
      last = shown.last;
      passed_over = shown.passed_over;
      lane = of ∙ shown.lane;
      operations = ap (λ ops. ops ++ shown.passed_over) (sym same.operations) ∙ shown.operations;
      whole = λ none. shown.whole (same.error ∙ none);
      values = shown.values ∙ (λ i. if same.single i && is_refusal (same.answer i) then [] else (lines_again shown.lines rans).0 i);
      at = shown.at ∙ (λ i. if same.single i then 0 else (lines_again shown.lines rans).1 i);
    }

same_fate : (b : Bool) (one other : List Ran) (f : Fate) → IsSame one other → IsFate b one f → IsFate b other f
same_fate true one other f same is = subst (λ v. IsFateOutside v f) same.answer is
same_fate false one other f same is = subst (λ e. IsFateOf e f) same.error is

-- and may have the same fates
pub run_fate : (told : List Told) (run : CallRun) (f : Fate) → map told_by run.operations ≡ told → MayHaveFate told f → IsFate (is_single run.operations) run.operations f
run_fate told run f are may =
    let rans = run.operations in
    let same = same_again rans in
    subst (λ b. IsFate b rans f) same.single (same_fate (is_single (again rans)) (again rans) rans f same (subst (λ ts. MayHaveFate ts f) (sym are) may))
