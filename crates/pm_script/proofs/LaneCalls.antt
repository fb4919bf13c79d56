-- The operations on a lane's lines are transactions, and calls outside of them, one after another.
use Rattle.std.proofs.Common.{◌≡◌, ◌==◌, ℕ, zero, suc, ◌+◌, ◌-◌, ◌||◌, ltb, lt-ltb, Bool, true, false, not, cond, List, [], ◌∷◌, ◌++◌, Option, Some, None, is_some, option_map, refl, sym, ap, ◌∙◌, subst, append_assoc, arith}
use Rattle.std.specs.List.{cons_option, filter_map}
use Rattle.std.specs.Option.{option_and_then, option_map_or}
use Rattle.std.proofs.lemmas.Bool.{eqb-true}
use Rattle.pm_script.specs.Grammar.{place_said}
use Rattle.pm_script.specs.Operations.{closes, opens, place_of, stands_inside, stands_outside}
use Rattle.pm_script.specs.Reading.{place_why}
use Rattle.pm_script.specs.Contexts.{Context, start}
use Rattle.pm_script.specs.Scripts.{AreCalls, AreInside, IsChange, IsClose, IsScript, begun_behind, closed, context_behind, context_from, fault_of, line_of, line_said, lines_from, of_lane, opened, operations, said, transaction_of}
use Rattle.pm_script.specs.Scripts.AreCalls.{none, transaction, outside}
use Rattle.pm_script.specs.Scripts.AreInside.{change, level, no_more}
use Rattle.pm_script.specs.Words.{words}
use Rattle.pm_script.specs.declared.context.OpenTransaction.{OpenTransaction}
use Rattle.pm_script.specs.declared.fault.Why.TheVariants.{Inside, Outside}
use Rattle.pm_script.specs.declared.script.Script.{Script}
use Rattle.pm_script.specs.declared.script.ScriptLine.{ScriptLine}
use Rattle.pm_script.specs.declared.script.ScriptOp.{ScriptOp}
use Rattle.pm_script.specs.declared.script.ScriptOp.TheVariants.{Begin, Commit, Abort}
use Rattle.pm_script.specs.declared.script.ScriptWant.{ScriptWant}
use Rattle.pm_script.specs.declared.statement.Statement.{Statement}
use Rattle.pm_script.specs.declared.statement.Statement.TheVariants as says
use Rattle.pm_script.proofs.Judging.{first_good, in_place}
use Rattle.pm_script.proofs.OpenTransactions.{other_behind, own_behind}

-- ---- operations

-- the rest of a lane's operations, where so many levels are open
abbrev RestIn : ℕ → List ScriptOp → Type 0
RestIn zero ops = AreCalls ops
RestIn (suc d) ops = (inner : List ScriptOp) × (close : ScriptOp) × (others : List ScriptOp) × (ops ≡ inner ++ close ∷ others) × AreInside inner × RestIn d others × IsClose close

-- how many levels are open
abbrev depth : Option OpenTransaction → ℕ
depth None = zero
depth (Some t) = suc t.inner

abbrev Rest : Option OpenTransaction → List ScriptOp → Type 0
Rest current ops = RestIn (depth current) ops

-- a begin opens one level more
begin_first : (d : ℕ) (wants : List ScriptWant) (ops : List ScriptOp) → RestIn (suc d) ops → RestIn d (Begin wants ∷ ops)
begin_first zero wants ops rest = subst AreCalls (ap (λ l. Begin wants ∷ l) (sym rest.3)) (transaction wants rest.0 rest.1 rest.2 rest.4 rest.6 rest.5)
begin_first (suc d) wants ops rest =
    let more = rest.5 in (
      Begin wants ∷ rest.0 ++ rest.1 ∷ more.0,
      more.1,
      more.2,
      ap (λ l. Begin wants ∷ l) (rest.3 ∙ ap (λ l. rest.0 ++ rest.1 ∷ l) more.3 ∙ sym (append_assoc rest.0 (rest.1 ∷ more.0) (more.1 ∷ more.2))),
      level wants rest.0 rest.1 more.0 rest.4 rest.6 more.4,
      more.5,
      more.6,
    )

-- a close ends the innermost
close_first : (d : ℕ) (x : ScriptOp) (ops : List ScriptOp) → IsClose x → RestIn d ops → RestIn (suc d) (x ∷ ops)
close_first d x ops is rest = ([], x, ops, refl, no_more, rest, is)

-- one change more
change_first : (d : ℕ) (x : ScriptOp) (ops : List ScriptOp) → IsChange x → RestIn (suc d) ops → RestIn (suc d) (x ∷ ops)
change_first d x ops is rest = (x ∷ rest.0, rest.1, rest.2, ap (λ l. x ∷ l) rest.3, change x rest.0 is rest.4, rest.5, rest.6)

-- ---- in place

opening : (x : ScriptOp) → opens x ≡ true → (wants : List ScriptWant) × (x ≡ Begin wants)
opening (Begin wants) is = (wants, refl)
opening x is = cc

closing : (x : ScriptOp) → closes x ≡ true → stands_outside (place_of x) ≡ false
closing Commit is = refl
closing (Abort errnum) is = refl
closing x is = cc

depth_opened : (lane n : ℕ) (current : Option OpenTransaction) → depth (Some (opened lane n current)) ≡ suc (depth current)
depth_opened lane n None = refl
depth_opened lane n (Some t) = omega arith

depth_left : (lane line k : ℕ) → depth (cond (ltb 0 k) (Some (record { lane = lane; line = line; inner = k - 1 })) None) ≡ k
depth_left lane line zero = refl
depth_left lane line (suc k) =
    let less : suc (suc k - 1) ≡ suc k = omega arith in
    ap (λ (b : Bool). depth (cond b (Some (record { lane = lane; line = line; inner = suc k - 1 })) None)) (lt-ltb 0 (suc k) (omega arith)) ∙ less

module _ (lane n : ℕ) (x : ScriptOp) (ops : List ScriptOp) where
  -- an operation that may stand where it does, by what it opens and closes, and by where it stands
  first : (current : Option OpenTransaction) (b c i o : Bool) → opens x ≡ b → closes x ≡ c → stands_inside (place_of x) ≡ i → stands_outside (place_of x) ≡ o
      → cond (not (is_some current) || i) (cond (is_some current || o) None (Some Outside)) (Some Inside) ≡ None
      → Rest (cond b (Some (opened lane n current)) (cond c (closed lane current) current)) ops → Rest current (x ∷ ops)
  first current true c i o is closed_too ins outs fine rest =
      let begin = opening x is in
      subst (λ y. Rest current (y ∷ ops)) (sym begin.1) (begin_first (depth current) begin.0 ops (subst (λ d. RestIn d ops) (depth_opened lane n current) rest))
  first (Some t) false true i o kept is ins outs fine rest = close_first t.inner x ops is (subst (λ d. RestIn d ops) (depth_left lane t.line t.inner) rest)
  first None false true i true kept is ins outs fine rest = let bad = closing x is in cc
  first None false true i false kept is ins outs fine rest = cc
  first (Some t) false false true o kept stays ins outs fine rest = change_first t.inner x ops (ins, kept, stays) rest
  first (Some t) false false false o kept stays ins outs fine rest = cc
  first None false false i true kept stays ins outs fine rest = outside x ops (outs, kept) rest
  first None false false i false kept stays ins outs fine rest = cc

module _ (context : Context) (lane n : ℕ) (present : context.lane ≡ Some lane) where
  -- an operation of the lane goes before the rest
  own : (x : ScriptOp) (ops : List ScriptOp) → place_why context (place_said (says.Operation x)) ≡ None → Rest (transaction_of lane (begun_behind lane n x context.begun)) ops → Rest (transaction_of lane context.begun) (x ∷ ops)
  own x ops fine rest =
      first lane n x ops (transaction_of lane context.begun) (opens x) (closes x) (stands_inside (place_of x)) (stands_outside (place_of x)) refl refl refl refl
      (sym (ap (λ l. place_why (record context { lane = l }) (place_said (says.Operation x))) present) ∙ fine)
      (subst (λ current. Rest current ops) (own_behind lane n x context.begun) rest)

-- ---- lines

module _ (lane : ℕ) (context : Context) (n : ℕ) (lines : List ScriptLine) where
  by_lane : (x : ScriptOp) (present : ℕ) (b : Bool) → context.lane ≡ Some present → (present == lane) ≡ b → place_why context (place_said (says.Operation x)) ≡ None
      → Rest (transaction_of lane (begun_behind present n x context.begun)) (operations (of_lane lane lines))
      → Rest (transaction_of lane context.begun) (operations (cond b (record { line = n; lane = present; operation = x } ∷ of_lane lane lines) (of_lane lane lines)))
  by_lane x present true is same fine rest =
      let e : present ≡ lane = eqb-true present lane same in
      own context lane n (is ∙ ap Some e) x (operations (of_lane lane lines)) fine (subst (λ l. Rest (transaction_of lane (begun_behind l n x context.begun)) (operations (of_lane lane lines))) e rest)
  by_lane x present false is differ fine rest = subst (λ current. Rest current (operations (of_lane lane lines))) (other_behind present lane n x context.begun differ) rest

  operation_first : (x : ScriptOp) (present : Option ℕ) → context.lane ≡ present → place_why context (place_said (says.Operation x)) ≡ None
      → Rest (transaction_of lane (option_map_or (λ l. begun_behind l n x context.begun) present context.begun)) (operations (of_lane lane lines))
      → Rest (transaction_of lane context.begun) (operations (of_lane lane (cons_option (option_map (λ l. record { line = n; lane = l; operation = x }) present) lines)))
  operation_first x (Some present) is fine rest = by_lane x present (present == lane) is refl fine rest
  operation_first x None is fine rest = rest

  line_first : (statement : Option Statement) → ((s : Statement) → statement ≡ Some s → place_why context (place_said s) ≡ None)
      → Rest (transaction_of lane (context_behind context n statement).begun) (operations (of_lane lane lines))
      → Rest (transaction_of lane context.begun) (operations (of_lane lane (cons_option (option_and_then (line_said context n) statement) lines)))
  line_first None fine rest = rest
  line_first (Some (says.Lane k)) fine rest = rest
  line_first (Some (says.Operation x)) fine rest = operation_first x context.lane refl (fine (says.Operation x) refl) rest

rest_from : (lane : ℕ) (context : Context) (n : ℕ) (lines : List (List ℕ)) → filter_map fault_of (lines_from context n lines) ≡ [] → (context_from context n lines).begun ≡ []
    → Rest (transaction_of lane context.begun) (operations (of_lane lane (filter_map line_of (lines_from context n lines))))
rest_from lane context n [] good whole = subst (λ begun. Rest (transaction_of lane begun) []) (sym whole) none
rest_from lane context n (text ∷ lines) good whole =
    let statement = said context (words text) in
    let next = context_behind context n statement in
    let fine = first_good context n text lines good in
    line_first lane context n (filter_map line_of (lines_from next (n + 1) lines)) statement (λ s is. in_place context text s fine.0 is) (rest_from lane next (n + 1) lines fine.1 whole)

pub lane_calls : (lines : List (List ℕ)) (script : Script) → IsScript lines script → (lane : ℕ) → AreCalls (operations (of_lane lane script.lines))
lane_calls lines script is lane = subst (λ ls. AreCalls (operations (of_lane lane ls))) (sym is.lines_said) (rest_from lane start 1 lines is.good is.closed)
