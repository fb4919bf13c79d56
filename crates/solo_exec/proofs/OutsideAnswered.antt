-- A call of a script outside of a transaction is answered with what its one line gave.
use Rattle.std.proofs.Common.{◌≡◌, ◌≢◌, ℕ, ◌+◌, true, List, [], ◌∷◌, Option, None, Some, Result, Ok, Err, refl, sym, subst, arith}
use Rattle.std.specs.List.{sum_by}
use Rattle.solo_made.specs.Made.{BlockLists}
use Rattle.solo_memory.specs.Solo.{Solo}
use Rattle.pm_objects.specs.declared.history.Reply.{Reply}
use Rattle.pm_objects.specs.declared.history.Value.TheVariants.{Offset}
use Rattle.pm_objects.specs.declared.refusal.Refusal.{Refusal}
use Rattle.pm_objects.specs.declared.refusal.Refusal.TheVariants as refusal
use Rattle.solo_pending.specs.declared.pending.PendingActions.{PendingActions}
use Rattle.solo_script.specs.declared.script.ScriptLine.{ScriptLine}
use Rattle.solo_script.specs.declared.script.ScriptOp.{ScriptOp}
use Rattle.solo_view.specs.View.{View}
use Rattle.solo_world.specs.Opening.{Opening}
use Rattle.solo_world.specs.declared.lane.Lane.{Lane}
use Rattle.solo_exec.specs.Bounds.{most_stores, stores_of_call, stores_of_lines}
use Rattle.solo_exec.specs.Calls.{operation_of, stands_alone}
use Rattle.solo_exec.specs.Course.{IsOneLine}
use Rattle.solo_exec.specs.Letters.{KeepsLetters}
use Rattle.solo_exec.specs.Replies.{Values, values_outside}
use Rattle.solo_exec.specs.Progress.{ActedOutside, IsActed, IsAnswered}
use Rattle.solo_exec.specs.declared.calls.Names.{Names}
use Rattle.solo_exec.specs.declared.ending.CallAnswer.TheVariants as answer
use Rattle.solo_exec.proofs.FewStores.{lines_within, walked_within}
use Rattle.solo_exec.proofs.GivenLetters.{letters_one, letters_same}

pub outside_answered : (o : Opening) (first : View) (lane : Lane Solo) (blocks : BlockLists) (actions : PendingActions) (names : Names) (said : ScriptLine) (r : Option Refusal) (gave : Option ℕ) (reply : Reply) → stands_alone said.operation ≡ true
    → reply.values ≡ values_outside said.line gave → reply.at ≡ 0 → IsActed o first lane blocks actions names said.operation r gave → IsAnswered o first lane blocks actions names (said ∷ []) lane.last (answer.Outside r) reply
outside_answered o first lane blocks actions names said r gave reply outside values at acted =
    let one : IsOneLine (said ∷ []) said.operation = record { line = said; alone = refl; says = refl; outside = outside } in
    record {
      view = acted.view;
      link = record {
        same = acted.link.same;
        again = acted.link.again;
        page = acted.link.page;
        bound = walked_within first acted.view (most_stores names said.operation + 1) (stores_of_call names (said ∷ []))
            (let within = lines_within names [] [] said in let none : stores_of_lines names [] ≡ 0 = refl in omega (arith, within, none)) acted.link.bound;
      };
      rests = acted.rests;
      idle = acted.idle;
      keeps = acted.keeps;
      pages = acted.pages;
      told = record { operation = operation_of names said.operation; reply = acted.answer } ∷ [];
      entries = acted.entries;
      so = record { op = said.operation; one = one; at = at; answer = acted.answer; gave = gave; replies = acted.replies; values = values; told_so = refl };
      pending = acted.pending;
      made = (said.operation, one, acted.made);
    }

-- the letters of a line that stands behind none of it stand for the same, whatever it gave
pub outside_keeps : (said : ScriptLine) (gave : Option ℕ) (values : Values) → values ≡ values_outside said.line gave → KeepsLetters (said ∷ []) [] values
outside_keeps said None values are = subst (KeepsLetters (said ∷ []) []) (sym are) (letters_same (said ∷ []) [])
outside_keeps said (Some off) values are = subst (KeepsLetters (said ∷ []) []) (sym are) (letters_one said [] (Offset off))

-- one that was refused is answered with that
pub refused_acted : (o : Opening) (first : View) (lane : Lane Solo) (blocks : BlockLists) (actions : PendingActions) (names : Names) (x : ScriptOp) (r : Refusal) → r ≢ refusal.Stopped → r ≢ refusal.Spent → ActedOutside o first lane blocks actions names x (Err r)
    → IsActed o first lane blocks actions names x (Some r) None
refused_acted o first lane blocks actions names x refusal.Stopped going unspent acted = absurd (going refl)
refused_acted o first lane blocks actions names x refusal.Spent going unspent acted = absurd (unspent refl)
refused_acted o first lane blocks actions names x r going unspent acted = acted
