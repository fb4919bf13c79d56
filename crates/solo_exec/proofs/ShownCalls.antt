-- A call of a script as the plain model's: its lines were done, or one of them was refused.
use Rattle.std.proofs.Common.{◌≡◌, ⊎_elim, inl, inr, ℕ, ◌-◌, ◌&&◌, ◌||◌, not, Bool, true, false, cond, List, [], ◌∷◌, ◌++◌, map, slice_index, Option, Some, None, refl, sym, ap, ◌∙◌, subst, append-nil, append_assoc}
use Rattle.std.specs.List.Sorted.{IsStrictlyIncreasing}
use Rattle.std.proofs.lemmas.Bool.{and_right}
use Rattle.std.proofs.lemmas.List.{length-map}
use Rattle.solo_crash.specs.Pending.{told_of as model_told}
use Rattle.solo_model.specs.Actions.{Pending}
use Rattle.solo_model.specs.Answers.{Told as Answered}
use Rattle.solo_model.specs.Names.{is_refusal}
use Rattle.solo_model.specs.Outside.{stands_outside}
use Rattle.solo_model.specs.Shown.{IsEntry, IsFate, IsFateOf, IsFateOutside, IsShown, aborts, answer_of, error_of, is_abort, is_outside, line_of_abort, values_at, values_of, values_shown}
use Rattle.solo_model.specs.Step.{Act}
use Rattle.pm_objects.specs.declared.calls.Call.{Call}
use Rattle.pm_objects.specs.declared.calls.Operation.{Operation}
use Rattle.pm_objects.specs.declared.history.Entry.{Entry}
use Rattle.pm_objects.specs.declared.history.Fate.{Fate}
use Rattle.pm_objects.specs.declared.history.Reply.{Reply}
use Rattle.pm_objects.specs.declared.calls.Operation.TheVariants as operation
use Rattle.pm_objects.specs.declared.history.Value.{Value}
use Rattle.pm_objects.specs.declared.history.Value.TheVariants.{Offset, Refused}
use Rattle.pm_objects.specs.declared.history.TxErr.{TxErr}
use Rattle.pm_objects.specs.declared.history.TxErr.TheVariants as error
use Rattle.pm_objects.specs.declared.refusal.Refusal.{Refusal}
use Rattle.solo_script.specs.declared.script.ScriptLine.{ScriptLine}
use Rattle.solo_script.specs.declared.script.ScriptOp.{ScriptOp}
use Rattle.solo_script.specs.declared.script.ScriptOp.TheVariants.{Begin, Add, Write, Read, Alloc, Free, Reserve, WriteReserved, DeferFree, Set, Publish, Cancel, Commit}
use Rattle.solo_view.specs.View.{Told}
use Rattle.solo_exec.specs.Calls.{call_of, numbers_of, operation_of, stands_alone, starts_alone}
use Rattle.solo_exec.specs.Histories.{open_fate, settled_fate}
use Rattle.solo_exec.specs.Replies.{AreToldDone, HasEnded, IsOutsideReply, IsRefusedAt, IsToldDone, OutsideEnded, TransactionEnded, Values, refused, values_outside, values_told}
use Rattle.solo_exec.specs.declared.ending.CallAnswer.{CallAnswer}
use Rattle.solo_exec.specs.declared.ending.CallAnswer.TheVariants as answer
use Rattle.solo_exec.specs.declared.calls.Names.{Names}

-- a done operation is no abort: it changes neither the error, nor the line that aborted
record GoesOn (names : Names) (x : ScriptOp) (t : Told) : Type 0 where
  of_line : t.operation ≡ operation_of names x
  error : (rest : List Answered) → error_of (model_told t ∷ rest) ≡ error_of rest
  line : (line : ℕ) (lines : List ℕ) (rest : List Answered) → line_of_abort (line ∷ lines) (model_told t ∷ rest) ≡ line_of_abort lines rest

goes_on : (names : Names) (x : ScriptOp) (t : Told) → IsToldDone names x t → GoesOn names x t
unfolding error_of line_of_abort
goes_on names (Begin wants) t is = subst (GoesOn names (Begin wants)) (sym is) (record { of_line = refl; error = λ rest. refl; line = λ line lines rest. refl })
goes_on names (Add id off len) t is = subst (GoesOn names (Add id off len)) (sym is) (record { of_line = refl; error = λ rest. refl; line = λ line lines rest. refl })
goes_on names (Write id off bytes) t is = subst (GoesOn names (Write id off bytes)) (sym is) (record { of_line = refl; error = λ rest. refl; line = λ line lines rest. refl })
goes_on names (Read id off len) t is = subst (GoesOn names (Read id off len)) (sym is.1) (record { of_line = refl; error = λ rest. refl; line = λ line lines rest. refl })
goes_on names (Alloc letter size kind) t is = subst (GoesOn names (Alloc letter size kind)) (sym is.1) (record { of_line = refl; error = λ rest. refl; line = λ line lines rest. refl })
goes_on names (Free id) t is = subst (GoesOn names (Free id)) (sym is) (record { of_line = refl; error = λ rest. refl; line = λ line lines rest. refl })
goes_on names (Reserve letter size kind) t (inl (off, is)) = subst (GoesOn names (Reserve letter size kind)) (sym is) (record { of_line = refl; error = λ rest. refl; line = λ line lines rest. refl })
goes_on names (Reserve letter size kind) t (inr (r, is)) = subst (GoesOn names (Reserve letter size kind)) (sym is) (record { of_line = refl; error = λ rest. refl; line = λ line lines rest. refl })
goes_on names (WriteReserved id off bytes) t (None, is) = subst (GoesOn names (WriteReserved id off bytes)) (sym is) (record { of_line = refl; error = λ rest. refl; line = λ line lines rest. refl })
goes_on names (WriteReserved id off bytes) t (Some r, is) = subst (GoesOn names (WriteReserved id off bytes)) (sym is) (record { of_line = refl; error = λ rest. refl; line = λ line lines rest. refl })
goes_on names (DeferFree id) t (None, is) = subst (GoesOn names (DeferFree id)) (sym is) (record { of_line = refl; error = λ rest. refl; line = λ line lines rest. refl })
goes_on names (DeferFree id) t (Some r, is) = subst (GoesOn names (DeferFree id)) (sym is) (record { of_line = refl; error = λ rest. refl; line = λ line lines rest. refl })
goes_on names (Set id off value) t (None, is) = subst (GoesOn names (Set id off value)) (sym is) (record { of_line = refl; error = λ rest. refl; line = λ line lines rest. refl })
goes_on names (Set id off value) t (Some r, is) = subst (GoesOn names (Set id off value)) (sym is) (record { of_line = refl; error = λ rest. refl; line = λ line lines rest. refl })
goes_on names Publish t is = subst (GoesOn names Publish) (sym is) (record { of_line = refl; error = λ rest. refl; line = λ line lines rest. refl })
goes_on names Cancel t is = subst (GoesOn names Cancel) (sym is) (record { of_line = refl; error = λ rest. refl; line = λ line lines rest. refl })
goes_on names Commit t is = subst (GoesOn names Commit) (sym is) (record { of_line = refl; error = λ rest. refl; line = λ line lines rest. refl })

-- a call of its own stands outside of a transaction, and another line does not; these are of the pending actions
outside_is : (names : Names) (x : ScriptOp) → stands_outside (operation_of names x) ≡ stands_alone x
outside_is names (Begin wants) = refl
outside_is names (Add id off len) = refl
outside_is names (Write id off bytes) = refl
outside_is names (Read id off len) = refl
outside_is names (Alloc letter size kind) = refl
outside_is names (Free id) = refl
outside_is names (Reserve letter size kind) = refl
outside_is names (WriteReserved id off bytes) = refl
outside_is names (DeferFree id) = refl
outside_is names (Set id off value) = refl
outside_is names Publish = refl
outside_is names Cancel = refl
outside_is names Commit = refl

abbrev begins_outside : List Operation → Bool
begins_outside [] = false
begins_outside (op ∷ ops) = stands_outside op

abbrev operations_said : Names → List ScriptLine → List Operation
operations_said names lines = map (λ (l : ScriptLine). operation_of names l.operation) lines

-- lines that were done, and operations behind them
module _ (names : Names) where
  pub errors_behind : (front : List ScriptLine) (told : List Told) (rest : List Told) → AreToldDone names front told → error_of (map model_told (told ++ rest)) ≡ error_of (map model_told rest)
  errors_behind [] [] rest are = refl
  errors_behind [] (t ∷ told) rest are = absurd are
  errors_behind (l ∷ front) [] rest are = absurd are
  errors_behind (l ∷ front) (t ∷ told) rest are = (goes_on names l.operation t are.0).error (map model_told (told ++ rest)) ∙ errors_behind front told rest are.1

  lines_behind : (front more : List ScriptLine) (told rest : List Told) → AreToldDone names front told
      → line_of_abort (numbers_of (front ++ more)) (map model_told (told ++ rest)) ≡ line_of_abort (numbers_of more) (map model_told rest)
  lines_behind [] more [] rest are = refl
  lines_behind [] more (t ∷ told) rest are = absurd are
  lines_behind (l ∷ front) more [] rest are = absurd are
  lines_behind (l ∷ front) more (t ∷ told) rest are =
      (goes_on names l.operation t are.0).line l.line (numbers_of (front ++ more)) (map model_told (told ++ rest)) ∙ lines_behind front more told rest are.1

  values_behind : (front more : List ScriptLine) (told rest : List Told) → AreToldDone names front told → values_told (front ++ more) (told ++ rest) ≡ values_told front told ++ values_told more rest
  unfolding values_of
  values_behind [] more [] rest are = refl
  values_behind [] more (t ∷ told) rest are = absurd are
  values_behind (l ∷ front) more [] rest are = absurd are
  values_behind (l ∷ front) more (t ∷ told) rest are =
      ap (λ (vs : Values). values_at l.line t.operation t.reply ++ vs) (values_behind front more told rest are.1) ∙ sym (append_assoc (values_at l.line t.operation t.reply) (values_told front told) (values_told more rest))

  operations_behind : (front more : List ScriptLine) (told rest : List Told) (passed : List Operation) → AreToldDone names front told
      → map (λ (t : Answered). t.operation) (map model_told rest) ++ passed ≡ operations_said names more
      → map (λ (t : Answered). t.operation) (map model_told (told ++ rest)) ++ passed ≡ operations_said names (front ++ more)
  operations_behind [] more [] rest passed are said = said
  operations_behind [] more (t ∷ told) rest passed are said = absurd are
  operations_behind (l ∷ front) more [] rest passed are said = absurd are
  operations_behind (l ∷ front) more (t ∷ told) rest passed are said =
      (λ i. (goes_on names l.operation t are.0).of_line i ∷ operations_behind front more told rest passed are.1 said i)

  said_outside : (lines : List ScriptLine) → begins_outside (operations_said names lines) ≡ starts_alone lines
  said_outside [] = refl
  said_outside (l ∷ lines) = outside_is names l.operation

  -- lines of a transaction are told as one
  told_inside : (lines : List ScriptLine) (told : List Answered) (passed : List Operation) → starts_alone lines ≡ false → map (λ (t : Answered). t.operation) told ++ passed ≡ operations_said names lines → is_outside told ≡ false
  told_inside lines [] passed inside said = refl
  told_inside lines (t ∷ told) passed inside said = ap begins_outside said ∙ (said_outside lines ∙ inside)

  module _ (lines : List ScriptLine) (rising : IsStrictlyIncreasing (numbers_of lines)) (actions : Pending) where
    abbrev act_told : List Told → Act
    act_told told = record { lane = 0; actions = actions; told = map model_told told }

    shown_as : (reply : Reply) (told : List Told) (passed : List Operation) → map (λ (t : Answered). t.operation) (map model_told told) ++ passed ≡ operations_said names lines
        → (error_of (map model_told told) ≡ error.None → passed ≡ []) → reply.values ≡ values_shown (numbers_of lines) (map model_told told)
        → reply.at ≡ cond (is_outside (map model_told told)) 0 (line_of_abort (numbers_of lines) (map model_told told)) → IsShown (call_of names lines) reply (act_told told)
    shown_as reply told passed operations whole values at = record {
      lines = numbers_of lines;
      one_each = length-map lines (λ (l : ScriptLine). l.line) ∙ sym (length-map lines (λ (l : ScriptLine). operation_of names l.operation));
      rising = rising;
      first = refl;
      last = ap (λ n. slice_index (numbers_of lines) (n - 1)) (length-map lines (λ (l : ScriptLine). l.line));
      lane = refl;
      passed_over = passed;
      operations = operations;
      whole = whole;
      values = values;
      at = at;
    }

    -- a call whose first operation was not refused shows all that its lines gave
    shows_all : (told : List Told) → is_refusal (answer_of (map model_told told)) ≡ false → values_shown (numbers_of lines) (map model_told told) ≡ values_told lines told
    shows_all told begun =
        ap (λ b. cond (is_outside (map model_told told) && b) [] (values_told lines told)) begun
        ∙ ap (λ b. cond b [] (values_told lines told)) (and_right (is_outside (map model_told told)) false refl)

    shows_inside : (told : List Told) → is_outside (map model_told told) ≡ false → values_shown (numbers_of lines) (map model_told told) ≡ values_told lines told
    shows_inside told inside = ap (λ b. cond (b && is_refusal (answer_of (map model_told told))) [] (values_told lines told)) inside

    -- all lines were done
    module _ (told : List Told) (are : AreToldDone names lines told) where
      pub no_error : error_of (map model_told told) ≡ error.None
      unfolding error_of
      no_error = ap (λ (ts : List Told). error_of (map model_told ts)) (sym (append-nil told)) ∙ errors_behind lines told [] are

      no_line : line_of_abort (numbers_of lines) (map model_told told) ≡ 0
      unfolding line_of_abort
      no_line =
          ap (λ (ts : List Told). line_of_abort (numbers_of lines) (map model_told ts)) (sym (append-nil told))
          ∙ (ap (λ (ls : List ScriptLine). line_of_abort (numbers_of ls) (map model_told (told ++ []))) (sym (append-nil lines)) ∙ lines_behind lines [] told [] are)

      at_none : (b : Bool) → cond b 0 (line_of_abort (numbers_of lines) (map model_told told)) ≡ 0
      at_none true = refl
      at_none false = no_line

      all_operations : map (λ (t : Answered). t.operation) (map model_told told) ++ [] ≡ operations_said names lines
      all_operations =
          ap (λ (ts : List Told). map (λ (t : Answered). t.operation) (map model_told ts) ++ []) (sym (append-nil told))
          ∙ (operations_behind lines [] told [] [] are refl ∙ ap (operations_said names) (append-nil lines))

      shown_done : (reply : Reply) → reply.at ≡ 0 → reply.values ≡ values_told lines told → values_shown (numbers_of lines) (map model_told told) ≡ values_told lines told → IsShown (call_of names lines) reply (act_told told)
      shown_done reply at values shows = shown_as reply told [] all_operations (λ none. refl) (values ∙ sym shows) (at ∙ sym (at_none (is_outside (map model_told told))))

    -- one was refused
    module _ (reply : Reply) (r : Refusal) (told : List Told) (inside : starts_alone lines ≡ false) (at : IsRefusedAt names lines reply.at r reply.values told) where
      abbrev last : Told
      last = refused (operation_of names at.said.operation) r

      pub refused_error : error_of (map model_told told) ≡ error.Refused r
      unfolding error_of
      refused_error =
          ap (λ (ts : List Told). error_of (map model_told ts)) at.told_so
          ∙ errors_behind at.front at.before (last ∷ []) at.done
          ∙ ap (λ b. cond b error.None (error.Refused r)) at.gives_up

      aborts_last : aborts (model_told last) ≡ true
      aborts_last = ap (λ b. (not b && true) || is_abort last.operation) at.gives_up

      refused_line : reply.at ≡ line_of_abort (numbers_of lines) (map model_told told)
      unfolding line_of_abort
      refused_line =
          sym at.of_line
          ∙ sym (ap (λ (ls : List ScriptLine). line_of_abort (numbers_of ls) (map model_told told)) at.is_lines
          ∙ (ap (λ (ts : List Told). line_of_abort (numbers_of (at.front ++ at.said ∷ at.rest)) (map model_told ts)) at.told_so
          ∙ (lines_behind at.front (at.said ∷ at.rest) at.before (last ∷ []) at.done
          ∙ ap (λ b. cond b at.said.line (line_of_abort (numbers_of at.rest) [])) aborts_last)))

      nothing_told : (rest : List ScriptLine) → values_of (numbers_of rest) [] ≡ []
      unfolding values_of
      nothing_told [] = refl
      nothing_told (l ∷ rest) = refl

      none_given : (rest : List ScriptLine) → values_told (at.said ∷ rest) (last ∷ []) ≡ []
      unfolding values_of
      none_given rest =
          ap (λ b. cond b ((at.said.line, Refused r) ∷ []) [] ++ values_of (numbers_of rest) []) at.gives_up ∙ nothing_told rest

      refused_values : reply.values ≡ values_told lines told
      refused_values =
          at.gave
          ∙ sym (ap (λ (ls : List ScriptLine). values_told ls told) at.is_lines
          ∙ (ap (values_told (at.front ++ at.said ∷ at.rest)) at.told_so
          ∙ (values_behind at.front (at.said ∷ at.rest) at.before (last ∷ []) at.done
          ∙ (ap (λ (vs : Values). values_told at.front at.before ++ vs) (none_given at.rest) ∙ append-nil (values_told at.front at.before)))))

      refused_operations : map (λ (t : Answered). t.operation) (map model_told told) ++ operations_said names at.rest ≡ operations_said names lines
      refused_operations =
          ap (λ (ts : List Told). map (λ (t : Answered). t.operation) (map model_told ts) ++ operations_said names at.rest) at.told_so
          ∙ (operations_behind at.front (at.said ∷ at.rest) at.before (last ∷ []) (operations_said names at.rest) at.done refl ∙ ap (operations_said names) (sym at.is_lines))

      refused_inside : is_outside (map model_told told) ≡ false
      refused_inside = told_inside lines (map model_told told) (operations_said names at.rest) inside refused_operations

      shown_refused : IsShown (call_of names lines) reply (act_told told)
      shown_refused =
          shown_as reply told (operations_said names at.rest) refused_operations (λ none. absurd (let clash : error.Refused r ≡ error.None = sym refused_error ∙ none in cc))
          (refused_values ∙ sym (shows_inside told refused_inside)) (refused_line ∙ sym (ap (λ b. cond b 0 (line_of_abort (numbers_of lines) (map model_told told))) refused_inside))

    -- the fate of a call that stands in a transaction
    fate_inside : (told : List Told) (fate : Fate) → is_outside (map model_told told) ≡ false → IsFateOf (error_of (map model_told told)) fate → IsFate (is_outside (map model_told told)) (map model_told told) fate
    fate_inside told fate within is = subst (λ b. IsFate b (map model_told told) fate) (sym within) is

    -- the entry of an answered transaction
    transaction_entry : (e : Entry) (why : TxErr) (told : List Told) → e.call ≡ call_of names lines → e.fate ≡ settled_fate (answer.Transaction why) → TransactionEnded names lines why e.reply told → IsEntry e (act_told told)
    transaction_entry e why told call fate ended =
        ⊎_elim
        (λ (t : (why ≡ error.None) × (e.reply.at ≡ 0) × AreToldDone names lines told × (e.reply.values ≡ values_told lines told)).
        let inside : is_outside (map model_told told) ≡ false = told_inside lines (map model_told told) [] ended.0 (all_operations told t.2) in
        record {
          shown = subst (λ (c : Call). IsShown c e.reply (act_told told)) (sym call) (shown_done told t.2 e.reply t.1 t.3 (shows_inside told inside));
          fate = fate_inside told e.fate inside (subst (λ x. IsFateOf x e.fate) (sym (no_error told t.2)) (subst (IsFateOf error.None) (sym (fate ∙ ap (λ (x : TxErr). settled_fate (answer.Transaction x)) t.0)) refl));
        })
        (λ (t : (r : Refusal) × (why ≡ error.Refused r) × IsRefusedAt names lines e.reply.at r e.reply.values told). record {
          shown = subst (λ (c : Call). IsShown c e.reply (act_told told)) (sym call) (shown_refused e.reply t.0 told ended.0 t.2);
          fate =
              fate_inside told e.fate (refused_inside e.reply t.0 told ended.0 t.2)
              (subst (λ x. IsFateOf x e.fate) (sym (refused_error e.reply t.0 told ended.0 t.2)) (subst (IsFateOf (error.Refused t.0)) (sym (fate ∙ ap (λ (x : TxErr). settled_fate (answer.Transaction x)) t.1)) (refl, λ none. cc)));
        })
        ended.1

    -- and of a call outside of one: by its reply, its fate is what it came to, and its values are what its line gave
    record IsShownOutside (op : Operation) (r : Option Refusal) (reply : Option Value) (gave : Option ℕ) : Type 0 where
      fate : IsFateOutside reply (settled_fate (answer.Outside r))
      values : (line : ℕ) → stands_outside op ≡ true → values_shown (line ∷ []) (record { operation = op; reply = reply } ∷ []) ≡ values_outside line gave

    no_values : (b : Bool) → cond {A = Values} (b && false) [] [] ≡ []
    no_values true = refl
    no_values false = refl

    one_value : (b : Bool) (line off : ℕ) → cond {A = Values} (b && false) [] ((line, Offset off) ∷ []) ≡ (line, Offset off) ∷ []
    one_value true line off = refl
    one_value false line off = refl

    -- a refusal gives nothing
    refused_outside : (op : Operation) (r : Refusal) → IsShownOutside op (Some r) (Some (Refused r)) None
    refused_outside op r = record { fate = refl; values = λ line outside. ap (λ b. cond (b && true) [] (values_of (line ∷ []) (record { operation = op; reply = Some (Refused r) } ∷ []))) outside }

    -- nor does what has no reply
    done_outside : (op : Operation) → IsShownOutside op None None None
    unfolding values_of
    done_outside op = record { fate = refl; values = λ line outside. no_values (stands_outside op) }

    -- an object that is reserved has its offset
    offset_outside : (op : Operation) (off : ℕ) → IsShownOutside op None (Some (Offset off)) (Some off)
    unfolding values_of
    offset_outside op off = record { fate = refl; values = λ line outside. one_value (stands_outside op) line off }

    by_reply : (op : Operation) (r : Option Refusal) (reply reply2 : Option Value) (gave gave2 : Option ℕ) → reply ≡ reply2 → gave ≡ gave2 → IsShownOutside op r reply2 gave2 → IsShownOutside op r reply gave
    by_reply op r reply reply2 gave gave2 replies gives shown = subst (λ (v : Option Value). IsShownOutside op r v gave) (sym replies) (subst (IsShownOutside op r reply2) (sym gives) shown)

    shown_outside : (op : Operation) (r : Option Refusal) (reply : Option Value) (gave : Option ℕ) → IsOutsideReply op r reply gave → IsShownOutside op r reply gave
    shown_outside op (Some r) reply gave t = by_reply op (Some r) reply (Some (Refused r)) gave None t.0 t.1 (refused_outside op r)
    shown_outside (operation.Reserve size kind) None reply gave t = by_reply (operation.Reserve size kind) None reply (Some (Offset t.0)) gave (Some t.0) t.1.0 t.1.1 (offset_outside (operation.Reserve size kind) t.0)
    shown_outside op None reply gave t = by_reply op None reply None gave None t.0 t.1 (done_outside op)

    outside_entry : (e : Entry) (r : Option Refusal) (told : List Told) → e.call ≡ call_of names lines → e.fate ≡ settled_fate (answer.Outside r) → OutsideEnded names lines r e.reply told → IsEntry e (act_told told)
    outside_entry e r told call fate ended =
        let t : Told = record { operation = operation_of names ended.op; reply = ended.answer } in
        let shows = shown_outside t.operation r ended.answer ended.gave ended.replies in
        let outside : stands_outside t.operation ≡ true = outside_is names ended.op ∙ ended.one.outside in
        let told_is : map model_told told ≡ model_told t ∷ [] = ap (map model_told) ended.told_so in
        let lines_are : numbers_of lines ≡ ended.one.line.line ∷ [] = ap numbers_of ended.one.alone in
        record {
          shown = subst (λ (c : Call). IsShown c e.reply (act_told told)) (sym call)
              (shown_as e.reply told []
              (ap (λ (ts : List Answered). map (λ (a : Answered). a.operation) ts ++ []) told_is ∙ sym (ap (operations_said names) ended.one.alone ∙ ap (λ (x : ScriptOp). operation_of names x ∷ []) ended.one.says))
              (λ none. refl)
              (ended.values ∙ sym ((λ j. values_shown (lines_are j) (told_is j)) ∙ shows.values ended.one.line.line outside))
              (ended.at ∙ sym (ap (λ b. cond b 0 (line_of_abort (numbers_of lines) (map model_told told))) (ap is_outside told_is ∙ outside))));
          fate = subst (λ b. IsFate b (map model_told told) e.fate) (sym (ap is_outside told_is ∙ outside))
              (subst (λ (ts : List Answered). IsFateOutside (answer_of ts) e.fate) (sym told_is) (subst (IsFateOutside t.reply) (sym fate) shows.fate));
        }

    -- the entry of an answered call
    pub entry_answered : (e : Entry) (a : CallAnswer) (told : List Told) → e.call ≡ call_of names lines → e.fate ≡ settled_fate a → HasEnded names lines a e.reply told → IsEntry e (act_told told)
    entry_answered e (answer.Transaction why) told call fate ended = transaction_entry e why told call fate ended
    entry_answered e (answer.Outside r) told call fate ended = outside_entry e r told call fate ended

    -- a call that was not answered, by whether its first operation is one outside
    open_fates : (told : List Told) (decided b : Bool) → error_of (map model_told told) ≡ error.None → is_refusal (answer_of (map model_told told)) ≡ false → IsFate b (map model_told told) (open_fate decided)
    open_fates told true true none begun = begun
    open_fates told true false none begun = tt
    open_fates told false true none begun = begun
    open_fates told false false none begun = none

    -- and of one that was not answered, all of whose lines were done
    pub entry_open : (e : Entry) (told : List Told) (decided : Bool) → e.call ≡ call_of names lines → e.reply.at ≡ 0 → AreToldDone names lines told → e.reply.values ≡ values_told lines told → is_refusal (answer_of (map model_told told)) ≡ false
        → e.fate ≡ open_fate decided → IsEntry e (act_told told)
    entry_open e told decided call at are values begun fate = record {
      shown = subst (λ (c : Call). IsShown c e.reply (act_told told)) (sym call) (shown_done told are e.reply at values (shows_all told begun));
      fate = subst (IsFate (is_outside (map model_told told)) (map model_told told)) (sym fate) (open_fates told decided (is_outside (map model_told told)) (no_error told are) begun);
    }
