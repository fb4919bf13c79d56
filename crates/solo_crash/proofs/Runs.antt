-- A transaction goes on by one operation more, and where it works no longer it has run.
use Rattle.std.proofs.Common.{◌≡◌, List, [], ◌∷◌, ◌++◌, true, false, refl, sym, ◌∙◌, ap, subst}
use Rattle.std.proofs.lemmas.Bool.{false≢true}
use Rattle.pm_objects.specs.declared.pool.PoolView.{PoolView}
use Rattle.solo_model.specs.Transaction.{Transaction, resting, is_working}
use Rattle.solo_model.specs.Answers.{Told as Answered, Answers, after}
use Rattle.solo_model.specs.Actions.{Pending}
use Rattle.solo_model.specs.Step.{RunsFrom, RunsOn}
use Rattle.solo_crash.specs.OpenCall.{GoesOn, RunsTo}

goes_on_once : (told : List Answered) (t : Answered) (tx now : Transaction) → GoesOn tx told now → is_working now.stage ≡ true → Answers now t.operation t.reply
    → GoesOn tx (told ++ t ∷ []) (after t now)
unfolding GoesOn
goes_on_once [] t tx now goes works answers =
    let same : now ≡ tx = goes in
    (ap (λ (x : Transaction). is_working x.stage) (sym same) ∙ works, subst (λ (x : Transaction). Answers x t.operation t.reply) same answers, ap (after t) same)
goes_on_once (u ∷ told) t tx now goes works answers = (goes.0, goes.1, goes_on_once told t (after u tx) now goes.2 works answers)

-- one operation more in a transaction that works
pub runs_once_more : (told : List Answered) (t : Answered) (pool : PoolView) (actions : Pending) (now : Transaction) → RunsTo pool actions told now → is_working now.stage ≡ true → Answers now t.operation t.reply
    → RunsTo pool actions (told ++ t ∷ []) (after t now)
unfolding RunsTo
runs_once_more [] t pool actions now runs works answers =
    let rest : now ≡ resting pool actions = runs in
    absurd (false≢true (ap (λ (x : Transaction). is_working x.stage) (sym rest) ∙ works))
runs_once_more (u ∷ told) t pool actions now runs works answers = (runs.0, goes_on_once told t (after u (resting pool actions)) now runs.1 works answers)

-- the first operation of all
pub runs_first : (t : Answered) (pool : PoolView) (actions : Pending) → Answers (resting pool actions) t.operation t.reply → RunsTo pool actions (t ∷ []) (after t (resting pool actions))
unfolding RunsTo GoesOn
runs_first t pool actions answers = (answers, refl)

ends_on : (told : List Answered) (tx last : Transaction) → GoesOn tx told last → is_working last.stage ≡ false → RunsOn tx told last
unfolding GoesOn RunsOn
ends_on [] tx last goes idle = let same : last ≡ tx = goes in (ap (λ (x : Transaction). is_working x.stage) (sym same) ∙ idle, same)
ends_on (t ∷ told) tx last goes idle = (goes.0, goes.1, ends_on told (after t tx) last goes.2 idle)

-- what ran to an end, by one operation at least, has run
pub runs_to_end : (t : Answered) (told : List Answered) (pool : PoolView) (actions : Pending) (last : Transaction) → RunsTo pool actions (t ∷ told) last → is_working last.stage ≡ false → RunsFrom (resting pool actions) (t ∷ told) last
unfolding RunsTo RunsFrom
runs_to_end t told pool actions last runs idle = (runs.0, ends_on told (after t (resting pool actions)) last runs.1 idle)

pub runs_some : (told : List Answered) (pool : PoolView) (actions : Pending) (last : Transaction) → RunsTo pool actions told last → is_working last.stage ≡ false → (told ≡ [] → ⊥) → RunsFrom (resting pool actions) told last
unfolding RunsTo
runs_some [] pool actions last runs idle some = absurd (some refl)
runs_some (t ∷ told) pool actions last runs idle some = runs_to_end t told pool actions last runs idle

pub has_run : (pool : PoolView) (actions : Pending) (told : List Answered) (last : Transaction) → RunsTo pool actions told last → is_working last.stage ≡ false → (told ≡ [] → ⊥) → RunsFrom (resting pool actions) told last
has_run pool actions told last runs idle some = runs_some told pool actions last runs idle some
