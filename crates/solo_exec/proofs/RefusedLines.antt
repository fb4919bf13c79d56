-- What a line gives that was refused, where that aborts nothing: the reason is added to the values, unless the lane stopped.
use Rattle.std.proofs.Common.{◌≡◌, ◌≢◌, Bool, true, false, not, cond, eqb, leb, ℕ, ◌%◌, List, [], ◌∷◌, ◌++◌, Option, None, Some, Result, Ok, Err, OnOk, IfErr, alloc_error, refl, sym, ap, ◌∙◌, subst}
use Rattle.solo_crash.specs.OnActions.{defer_refusal, set_refusal}
use Rattle.solo_model.specs.Actions.{Pending, pending_count}
use Rattle.pm_objects.specs.declared.history.Value.TheVariants.{Refused}
use Rattle.pm_objects.specs.declared.refusal.Refusal.{Refusal}
use Rattle.pm_objects.specs.declared.refusal.Refusal.TheVariants as refusal
use Rattle.solo_script.specs.declared.script.ScriptLine.{ScriptLine}
use Rattle.solo_exec.specs.Letters.{KeepsLetters, LettersKept}
use Rattle.solo_exec.specs.Replies.{Values}
use Rattle.solo_exec.specs.Progress.{IsRefusalGiven}
use Rattle.solo_exec.specs.declared.lines.NotDone.{NotDone}
use Rattle.solo_exec.specs.declared.lines.NotDone.TheVariants.{Memory, Stopped}
use Rattle.solo_exec.proofs.GivenLetters.{letters_one, letters_same}

-- the line is done, with its reason among the values
pub refused_done : {T : Type 0} (P : Type 0) (r : Refusal) (line : ℕ) (old new : Values) (result : Result T NotDone) → IsRefusalGiven line r old new result → (r ≢ refusal.Stopped → new ≡ old ++ (line, Refused r) ∷ [] → P) → OnOk result P
refused_done P refusal.Stopped line old new result given so = subst (λ (x : Result _ NotDone). OnOk x P) (sym given.1) tt
refused_done P r line old new (Ok x) given so = so (λ stopped. cc) given
refused_done P r line old new (Err why) given so = tt

-- it is not where the lane stopped, or memory is wanting
pub refused_ends : {T : Type 0} (Q : NotDone → Type 0) (r : Refusal) (line : ℕ) (old new : Values) (result : Result T NotDone) → IsRefusalGiven line r old new result → Q (Memory alloc_error) → (r ≡ refusal.Stopped → new ≡ old → Q Stopped) → IfErr result Q
refused_ends Q refusal.Stopped line old new result given wants stops = subst (λ (x : Result _ NotDone). IfErr x Q) (sym given.1) (stops refl given.0)
refused_ends Q r line old new (Ok x) given wants stops = tt
refused_ends Q r line old new (Err why) given wants stops = subst Q (sym given) wants

-- and it keeps the letters of the lines before it
pub refused_letters : {T : Type 0} (said : ScriptLine) (r : Refusal) (old new : Values) (result : Result T NotDone) → IsRefusalGiven said.line r old new result → LettersKept (said ∷ []) old new result
refused_letters {T} said refusal.Stopped old new result given =
    subst (λ (x : Result _ NotDone). LettersKept {T = T} (said ∷ []) old new x) (sym given.1) (subst (λ (vs : Values). KeepsLetters (said ∷ []) old vs) (sym given.0) (letters_same (said ∷ []) old))
refused_letters {T} said r old new (Ok x) given = subst (λ (vs : Values). KeepsLetters (said ∷ []) old vs) (sym given) (letters_one said old (Refused r))
refused_letters {T} said r old new (Err why) given = subst (λ (x : NotDone). LettersKept {T = T} (said ∷ []) old new (Err x)) (sym given) tt

-- no set is refused for the lane's stop, nor is a free that is deferred
pub set_unstopped : (off : ℕ) (p : Pending) (r : Refusal) → Some r ≡ set_refusal off p → r ≢ refusal.Stopped
set_unstopped off p r is stopped = at (not (eqb (off % 8) 0)) (leb 63 (pending_count p)) (ap Some (sym stopped) ∙ is) where
  at : (b c : Bool) → Some refusal.Stopped ≡ cond b (Some refusal.Unaligned) (cond c (Some refusal.ActionsFull) None) → ⊥
  at true c clash = cc
  at false true clash = cc
  at false false clash = cc

pub defer_unstopped : (p : Pending) (r : Refusal) → Some r ≡ defer_refusal p → r ≢ refusal.Stopped
defer_unstopped p r is stopped = at (leb 63 (pending_count p)) (ap Some (sym stopped) ∙ is) where
  at : (c : Bool) → Some refusal.Stopped ≡ cond c (Some refusal.ActionsFull) None → ⊥
  at true clash = cc
  at false clash = cc

-- the reason of an answer that is an error
abbrev pub why_of : {T : Type 0} → Result T Refusal → Refusal
why_of (Ok x) = refusal.Stopped
why_of (Err why) = why
