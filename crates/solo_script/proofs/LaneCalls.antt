-- The operations on a lane's lines are transactions, and calls outside of them, one after another.
use Rattle.std.proofs.Common.{◌≡◌, ◌==◌, ℕ, ◌+◌, Bool, true, false, not, cond, All, List, [], ◌∷◌, ◌++◌, Option, Some, None, is_some, option_map, refl, sym, ap, ◌∙◌, subst, append_assoc}
use Rattle.std.specs.List.{cons_option, filter_map}
use Rattle.std.specs.Option.{option_and_then, option_map_or, option_or}
use Rattle.std.proofs.lemmas.Bool.{eqb-true}
use Rattle.std.proofs.lemmas.List.Elements.{All-nil, All-cons}
use Rattle.solo_script.specs.Reading.{keyword_said, place_why}
use Rattle.solo_script.specs.Contexts.{Context, start}
use Rattle.solo_script.specs.Scripts.{AreCalls, IsChange, IsOutside, IsScript, begun_behind, context_behind, context_from, fault_of, line_of, line_said, lines_from, of_lane, opened, operations, said, why_of}
use Rattle.solo_script.specs.Scripts.AreCalls.{none, transaction, outside}
use Rattle.solo_script.specs.Words.{words}
use Rattle.solo_script.specs.declared.context.OpenTransaction.{OpenTransaction}
use Rattle.solo_script.specs.declared.fault.Why.{Why}
use Rattle.solo_script.specs.declared.fault.Why.TheVariants.{Inside, Outside}
use Rattle.solo_script.specs.declared.script.Script.{Script}
use Rattle.solo_script.specs.declared.script.ScriptLine.{ScriptLine}
use Rattle.solo_script.specs.declared.script.ScriptOp.{ScriptOp}
use Rattle.solo_script.specs.declared.script.ScriptOp.TheVariants.{Begin, Add, Write, Read, Alloc, Free, Reserve, WriteReserved, DeferFree, Set, Publish, Cancel, Commit}
use Rattle.solo_script.specs.declared.script.ScriptWant.{ScriptWant}
use Rattle.solo_script.specs.declared.statement.Statement.{Statement}
use Rattle.solo_script.specs.declared.statement.Statement.TheVariants as says
use Rattle.solo_script.proofs.Judging.{in_place}
use Rattle.solo_script.proofs.OpenTransactions.{other_behind, own_behind, transaction_behind, transaction_of}

-- ---- operations

-- the rest of a lane's operations, where a transaction is open or not
abbrev Rest : Option OpenTransaction → List ScriptOp → Type 0
Rest (Some t) ops = (changes : List ScriptOp) × (others : List ScriptOp) × (ops ≡ changes ++ Commit ∷ others) × All IsChange changes × AreCalls others
Rest None ops = AreCalls ops

-- one change more
change_first : (t : OpenTransaction) (x : ScriptOp) (ops : List ScriptOp) → IsChange x → Rest (Some t) ops → Rest (Some t) (x ∷ ops)
change_first t x ops change rest = (x ∷ rest.0, rest.1, ap (λ l. x ∷ l) rest.2, All-cons IsChange x rest.0 change rest.3, rest.4)

begin_first : (t : OpenTransaction) (wants : List ScriptWant) (ops : List ScriptOp) → Rest (Some t) ops → Rest None (Begin wants ∷ ops)
begin_first t wants ops rest =
    let one = Begin wants ∷ rest.0 ++ Commit ∷ [] in
    subst AreCalls (ap (λ l. Begin wants ∷ l) (append_assoc rest.0 (Commit ∷ []) rest.1 ∙ sym rest.2)) (transaction one rest.1 (wants, rest.0, refl, rest.3) rest.4)

commit_first : (t : OpenTransaction) (ops : List ScriptOp) → Rest None ops → Rest (Some t) (Commit ∷ ops)
commit_first t ops rest = ([], ops, refl, All-nil IsChange, rest)

-- ---- in place

module _ (x : ScriptOp) (ops : List ScriptOp) where
  -- what stands in a transaction alone
  change : (current : Option OpenTransaction) → IsChange x → cond (is_some current) None (Some Outside) ≡ None → Rest current ops → Rest current (x ∷ ops)
  change (Some t) is fine rest = change_first t x ops is rest
  change None is fine rest = cc

  -- what may stand inside and outside may stand anywhere
  call : (current : Option OpenTransaction) → IsChange x → IsOutside x → Rest current ops → Rest current (x ∷ ops)
  call (Some t) is out rest = change_first t x ops is rest
  call None is out rest = outside x ops out rest

module _ (ops : List ScriptOp) where
  begin : (current : Option OpenTransaction) (t : OpenTransaction) (wants : List ScriptWant) → cond (not (is_some current)) None (Some Inside) ≡ None → Rest (option_or current (Some t)) ops → Rest current (Begin wants ∷ ops)
  begin (Some other) t wants fine rest = cc
  begin None t wants fine rest = begin_first t wants ops rest

  commit : (current : Option OpenTransaction) → cond (is_some current) None (Some Outside) ≡ None → Rest None ops → Rest current (Commit ∷ ops)
  commit (Some t) fine rest = commit_first t ops rest
  commit None fine rest = cc

module _ (context : Context) (lane n : ℕ) (present : context.lane ≡ Some lane) where
  -- an operation of the lane goes before the rest
  own : (x : ScriptOp) (ops : List ScriptOp) → place_why context (keyword_said (says.Operation x)) ≡ None → Rest (transaction_of lane (begun_behind lane n x context.begun)) ops → Rest (transaction_of lane context.begun) (x ∷ ops)
  own x ops fine rest = behind x (sym (ap (λ l. place_why (record context { lane = l }) (keyword_said (says.Operation x))) present) ∙ fine) (subst (λ current. Rest current ops) (own_behind lane n x context.begun) rest) where
    behind : (x : ScriptOp) → place_why (record context { lane = Some lane }) (keyword_said (says.Operation x)) ≡ None → Rest (transaction_behind lane n x (transaction_of lane context.begun)) ops → Rest (transaction_of lane context.begun) (x ∷ ops)
    behind (Begin wants) fine rest = begin ops (transaction_of lane context.begun) (opened lane n) wants fine rest
    behind (Add id off len) fine rest = change (Add id off len) ops (transaction_of lane context.begun) tt fine rest
    behind (Write id off bytes) fine rest = change (Write id off bytes) ops (transaction_of lane context.begun) tt fine rest
    behind (Read id off len) fine rest = change (Read id off len) ops (transaction_of lane context.begun) tt fine rest
    behind (Alloc letter size kind) fine rest = change (Alloc letter size kind) ops (transaction_of lane context.begun) tt fine rest
    behind (Free id) fine rest = change (Free id) ops (transaction_of lane context.begun) tt fine rest
    behind (Reserve letter size kind) fine rest = call (Reserve letter size kind) ops (transaction_of lane context.begun) tt tt rest
    behind (WriteReserved id off bytes) fine rest = call (WriteReserved id off bytes) ops (transaction_of lane context.begun) tt tt rest
    behind (DeferFree id) fine rest = call (DeferFree id) ops (transaction_of lane context.begun) tt tt rest
    behind (Set id off value) fine rest = call (Set id off value) ops (transaction_of lane context.begun) tt tt rest
    behind Publish fine rest = call Publish ops (transaction_of lane context.begun) tt tt rest
    behind Cancel fine rest = call Cancel ops (transaction_of lane context.begun) tt tt rest
    behind Commit fine rest = commit ops (transaction_of lane context.begun) fine rest

-- ---- lines

module _ (lane : ℕ) (context : Context) (n : ℕ) (lines : List ScriptLine) where
  by_lane : (x : ScriptOp) (present : ℕ) (b : Bool) → context.lane ≡ Some present → (present == lane) ≡ b → place_why context (keyword_said (says.Operation x)) ≡ None
      → Rest (transaction_of lane (begun_behind present n x context.begun)) (operations (of_lane lane lines))
      → Rest (transaction_of lane context.begun) (operations (cond b (record { line = n; lane = present; operation = x } ∷ of_lane lane lines) (of_lane lane lines)))
  by_lane x present true is same fine rest =
      let e : present ≡ lane = eqb-true present lane same in
      own context lane n (is ∙ ap Some e) x (operations (of_lane lane lines)) fine (subst (λ l. Rest (transaction_of lane (begun_behind l n x context.begun)) (operations (of_lane lane lines))) e rest)
  by_lane x present false is differ fine rest = subst (λ current. Rest current (operations (of_lane lane lines))) (other_behind present lane n x context.begun differ) rest

  operation_first : (x : ScriptOp) (present : Option ℕ) → context.lane ≡ present → place_why context (keyword_said (says.Operation x)) ≡ None
      → Rest (transaction_of lane (option_map_or (λ l. begun_behind l n x context.begun) present context.begun)) (operations (of_lane lane lines))
      → Rest (transaction_of lane context.begun) (operations (of_lane lane (cons_option (option_map (λ l. record { line = n; lane = l; operation = x }) present) lines)))
  operation_first x (Some present) is fine rest = by_lane x present (present == lane) is refl fine rest
  operation_first x None is fine rest = rest

  line_first : (statement : Option Statement) → ((s : Statement) → statement ≡ Some s → place_why context (keyword_said s) ≡ None)
      → Rest (transaction_of lane (context_behind context n statement).begun) (operations (of_lane lane lines))
      → Rest (transaction_of lane context.begun) (operations (of_lane lane (cons_option (option_and_then (line_said context n) statement) lines)))
  line_first None fine rest = rest
  line_first (Some (says.Lane k)) fine rest = rest
  line_first (Some (says.Operation x)) fine rest = operation_first x context.lane refl (fine (says.Operation x) refl) rest

no_more : {A : Type 0} (found : Option A) (others : List A) → cons_option found others ≡ [] → (found ≡ None) × (others ≡ [])
no_more (Some x) others is = cc
no_more None others is = (refl, is)

no_why : {A : Type 0} (f : Why → A) (why : Option Why) → option_map f why ≡ None → why ≡ None
no_why f (Some x) is = cc
no_why f None is = refl

rest_from : (lane : ℕ) (context : Context) (n : ℕ) (lines : List (List ℕ)) → filter_map fault_of (lines_from context n lines) ≡ [] → (context_from context n lines).begun ≡ []
    → Rest (transaction_of lane context.begun) (operations (of_lane lane (filter_map line_of (lines_from context n lines))))
rest_from lane context n [] good whole = subst (λ begun. Rest (transaction_of lane begun) []) (sym whole) none
rest_from lane context n (text ∷ lines) good whole =
    let statement = said context (words text) in
    let next = context_behind context n statement in
    let fine = no_more (option_map (λ why. record { line = n; why = why }) (why_of context text)) (filter_map fault_of (lines_from next (n + 1) lines)) good in
    line_first lane context n (filter_map line_of (lines_from next (n + 1) lines)) statement (λ s is. in_place context text s (no_why _ (why_of context text) fine.0) is) (rest_from lane next (n + 1) lines fine.1 whole)

pub lane_calls : (lines : List (List ℕ)) (script : Script) → IsScript lines script → (lane : ℕ) → AreCalls (operations (of_lane lane script.lines))
lane_calls lines script is lane = subst (λ ls. AreCalls (operations (of_lane lane ls))) (sym is.lines_said) (rest_from lane start 1 lines is.good is.closed)
